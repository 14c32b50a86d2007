-- Units that have no tree: they are read to be wrong, each at the first token that cannot stand.
use Rattle.std.specs.List.{AllByRecursion}
use Rattle.std.proofs.Common.{ap, map, ℕ, ◌≡◌, refl, List, [], ◌∷◌, ◌++◌, drop}
use Rattle.c_lexer.specs.declared.token.Token.{Token}
use Rattle.c_lexer.specs.declared.token.Punct.TheVariants.{LeftBracket, LeftParenthesis, RightParenthesis, LeftBrace, RightBrace, Plus, Question, Colon, Semicolon, Equal, Comma}
use Rattle.c_grammar.specs.Answers.{wrong, and_then, fit, ahead_by, ahead, expect_by, expect, expect_word_by, expect_word, expect_identifier_by, expect_identifier}
use Rattle.c_grammar.specs.Reading.{joined_by, joined_behind, begins_specifier_by, is_unary_by, is_named_by, is_absent_by, has_name, needs_name, behind_const_by, behind_const, lower, if_any, after_any, primary_by, suffix_by, suffixes, postfix_in, size_in, unary_by, unary_in, cast_by, cast_in, operand_by, operands, binary_in, choice_by, conditional_in, assigned_by, assignment_in, comma_by, commas, expression_in, body_in, tagged_by, tag_by, specifier_by, specifier_in, specifier_list_in, specifiers_in, specs_first, takes_in, declared_suffix_by, declared_suffixes, undeclared_in, declared_by, declared_in, parameter_in, type_name_in, member_in, value_by, enumerator_by, enumerator_in, initializer_by, initializer_in, initialized_by, init_declarator_in, init_behind_by, init_behind_in, declaration_behind, declaration_in, declaration_from, function_by, external_in, body_by, optional_expression_in, in_parentheses_then, if_in, while_in, do_in, for_behind, for_in, switch_in, label_by, label_in, return_in, expression_statement_in, keyword_by, statement_by, statement_in, goal_in, listed, listed_in_braces, members_in, items_in, group_item_in, groups_in, externals_by, externals_in, arguments_in, length_in, declarators_behind, rows_in, level, read, read_unit}
use Rattle.c_syntax.specs.Trees.{Tree}
use Rattle.c_grammar.specs.Derivation.{IsTreeOf}
use Rattle.c_grammar.proofs.Lifts.{m, w, i}
use Rattle.c_grammar.proofs.OneTree.{wrong_has_none}

-- each with the number of that token
abbrev pub units : List (List Token × ℕ)
units =
    -- int goto ;
    (w "int" 0 ∷ w "goto" 1 ∷ m Semicolon 2 ∷ [], 1) ∷
    -- typedef int t ; int x = t ;
    (w "typedef" 0 ∷ w "int" 1 ∷ w "t" 2 ∷ m Semicolon 3 ∷ w "int" 4 ∷ w "x" 5 ∷ m Equal 6 ∷ w "t" 7 ∷ m Semicolon 8 ∷ [], 7) ∷
    -- int f ( ) { else ; }
    (w "int" 0 ∷ w "f" 1 ∷ m LeftParenthesis 2 ∷ m RightParenthesis 3 ∷ m LeftBrace 4 ∷ w "else" 5 ∷ m Semicolon 6 ∷ m RightBrace 7 ∷ [], 5) ∷
    -- int f ( ) { a = b = ; }
    (w "int" 0 ∷ w "f" 1 ∷ m LeftParenthesis 2 ∷ m RightParenthesis 3 ∷ m LeftBrace 4 ∷ w "a" 5 ∷ m Equal 6 ∷ w "b" 7 ∷ m Equal 8 ∷ m Semicolon 9 ∷ m RightBrace 10 ∷ [], 9) ∷
    -- int f ( ) { x + = 1 ; }
    (w "int" 0 ∷ w "f" 1 ∷ m LeftParenthesis 2 ∷ m RightParenthesis 3 ∷ m LeftBrace 4 ∷ w "x" 5 ∷ m Plus 6 ∷ m Equal 7 ∷ i 1 8 ∷ m Semicolon 9 ∷ m RightBrace 10 ∷ [], 7) ∷
    -- int int ( ;
    (w "int" 0 ∷ w "int" 1 ∷ m LeftParenthesis 2 ∷ m Semicolon 3 ∷ [], 3) ∷
    -- int f ( ) { f ( , ) ; }
    (w "int" 0 ∷ w "f" 1 ∷ m LeftParenthesis 2 ∷ m RightParenthesis 3 ∷ m LeftBrace 4 ∷ w "f" 5 ∷ m LeftParenthesis 6 ∷ m Comma 7 ∷ m RightParenthesis 8 ∷ m Semicolon 9 ∷ m RightBrace 10 ∷ [], 7) ∷
    -- { }
    (m LeftBrace 0 ∷ m RightBrace 1 ∷ [], 0) ∷
    -- int f ( ) { case 1 : ; }
    (w "int" 0 ∷ w "f" 1 ∷ m LeftParenthesis 2 ∷ m RightParenthesis 3 ∷ m LeftBrace 4 ∷ w "case" 5 ∷ i 1 6 ∷ m Colon 7 ∷ m Semicolon 8 ∷ m RightBrace 9 ∷ [], 5) ∷
    -- int f ( ) { a ? : b ; }
    (w "int" 0 ∷ w "f" 1 ∷ m LeftParenthesis 2 ∷ m RightParenthesis 3 ∷ m LeftBrace 4 ∷ w "a" 5 ∷ m Question 6 ∷ m Colon 7 ∷ w "b" 8 ∷ m Semicolon 9 ∷ m RightBrace 10 ∷ [], 7) ∷
    -- int f ( ) { ( int ) ; }
    (w "int" 0 ∷ w "f" 1 ∷ m LeftParenthesis 2 ∷ m RightParenthesis 3 ∷ m LeftBrace 4 ∷ m LeftParenthesis 5 ∷ w "int" 6 ∷ m RightParenthesis 7 ∷ m Semicolon 8 ∷ m RightBrace 9 ∷ [], 8) ∷
    -- struct { } ;
    (w "struct" 0 ∷ m LeftBrace 1 ∷ m RightBrace 2 ∷ m Semicolon 3 ∷ [], 2) ∷
    -- int a [ ;
    (w "int" 0 ∷ w "a" 1 ∷ m LeftBracket 2 ∷ m Semicolon 3 ∷ [], 3) ∷ []

are_wrong : map (λ u. read_unit 30 u.0) units ≡ map (λ u. wrong (drop u.1 u.0)) units
unfolding and_then fit ahead_by ahead expect_by expect expect_word_by expect_word expect_identifier_by expect_identifier joined_by joined_behind begins_specifier_by is_unary_by is_named_by is_absent_by has_name needs_name behind_const_by behind_const lower if_any after_any primary_by suffix_by suffixes postfix_in size_in unary_by unary_in cast_by cast_in operand_by operands binary_in choice_by conditional_in assigned_by assignment_in comma_by commas expression_in body_in tagged_by tag_by specifier_by specifier_in specifier_list_in specifiers_in specs_first takes_in declared_suffix_by declared_suffixes undeclared_in declared_by declared_in parameter_in type_name_in member_in value_by enumerator_by enumerator_in initializer_by initializer_in initialized_by init_declarator_in init_behind_by init_behind_in declaration_behind declaration_in declaration_from function_by external_in body_by optional_expression_in in_parentheses_then if_in while_in do_in for_behind for_in return_in expression_statement_in keyword_by statement_by statement_in goal_in listed listed_in_braces members_in items_in externals_by externals_in arguments_in length_in declarators_behind rows_in level read read_unit
are_wrong = refl

first_of : {T : Type 0} → T → List T → T
first_of other [] = other
first_of other (x ∷ xs) = x

-- what is wrong has no tree
none_of : (rows : List (List Token × ℕ)) → map (λ u. read_unit 30 u.0) rows ≡ map (λ u. wrong (drop u.1 u.0)) rows → AllByRecursion (λ (u : List Token × ℕ). (t : Tree) → IsTreeOf u.0 t → ⊥) rows
unfolding first_of
none_of [] e = tt
none_of (u ∷ rows) e = (λ t. wrong_has_none 30 u.0 (drop u.1 u.0) t (ap (first_of (wrong [])) e), none_of rows (ap (drop 1) e))

pub units_have_none : AllByRecursion (λ (u : List Token × ℕ). (t : Tree) → IsTreeOf u.0 t → ⊥) units
units_have_none = none_of units are_wrong

-- ---- statements with `switch`

-- a statement in `int f ( ) { .. }`; its first token has the number 5
abbrev pub in_function : List Token → List Token
in_function ts = w "int" 0 ∷ w "f" 0 ∷ m LeftParenthesis 0 ∷ m RightParenthesis 0 ∷ m LeftBrace 0 ∷ (ts ++ (m RightBrace 0 ∷ []))

abbrev pub switches : List (List Token × ℕ)
switches =
    -- a label without a statement: switch ( x ) { case 1 : }
    (in_function (w "switch" 0 ∷ m LeftParenthesis 1 ∷ w "x" 2 ∷ m RightParenthesis 3 ∷ m LeftBrace 4 ∷ w "case" 5 ∷ i 1 6 ∷ m Colon 7 ∷ m RightBrace 8 ∷ []), 13) ∷
    -- the same behind a group: switch ( x ) { case 1 : ; default : }
    (in_function (w "switch" 0 ∷ m LeftParenthesis 1 ∷ w "x" 2 ∷ m RightParenthesis 3 ∷ m LeftBrace 4 ∷ w "case" 5 ∷ i 1 6 ∷ m Colon 7 ∷ m Semicolon 8 ∷ w "default" 9 ∷ m Colon 10 ∷ m RightBrace 11 ∷ []), 16) ∷
    -- a declaration right in the braces: switch ( x ) { case 1 : int y ; }
    (in_function (w "switch" 0 ∷ m LeftParenthesis 1 ∷ w "x" 2 ∷ m RightParenthesis 3 ∷ m LeftBrace 4 ∷ w "case" 5 ∷ i 1 6 ∷ m Colon 7 ∷ w "int" 8 ∷ w "y" 9 ∷ m Semicolon 10 ∷ m RightBrace 11 ∷ []), 13) ∷
    -- the same before the first label: switch ( x ) { int y ; case 1 : ; }
    (in_function (w "switch" 0 ∷ m LeftParenthesis 1 ∷ w "x" 2 ∷ m RightParenthesis 3 ∷ m LeftBrace 4 ∷ w "int" 5 ∷ w "y" 6 ∷ m Semicolon 7 ∷ w "case" 8 ∷ i 1 9 ∷ m Colon 10 ∷ m Semicolon 11 ∷ m RightBrace 12 ∷ []), 10) ∷
    -- and behind a statement: switch ( x ) { case 1 : ; int y ; }
    (in_function (w "switch" 0 ∷ m LeftParenthesis 1 ∷ w "x" 2 ∷ m RightParenthesis 3 ∷ m LeftBrace 4 ∷ w "case" 5 ∷ i 1 6 ∷ m Colon 7 ∷ m Semicolon 8 ∷ w "int" 9 ∷ w "y" 10 ∷ m Semicolon 11 ∷ m RightBrace 12 ∷ []), 14) ∷
    -- a statement before the first label: switch ( x ) { ; case 1 : ; }
    (in_function (w "switch" 0 ∷ m LeftParenthesis 1 ∷ w "x" 2 ∷ m RightParenthesis 3 ∷ m LeftBrace 4 ∷ m Semicolon 5 ∷ w "case" 6 ∷ i 1 7 ∷ m Colon 8 ∷ m Semicolon 9 ∷ m RightBrace 10 ∷ []), 10) ∷
    -- the same without any label: switch ( x ) { break ; }
    (in_function (w "switch" 0 ∷ m LeftParenthesis 1 ∷ w "x" 2 ∷ m RightParenthesis 3 ∷ m LeftBrace 4 ∷ w "break" 5 ∷ m Semicolon 6 ∷ m RightBrace 7 ∷ []), 10) ∷
    -- a `default` outside of any `switch`: default : ;
    (in_function (w "default" 0 ∷ m Colon 1 ∷ m Semicolon 2 ∷ []), 5) ∷
    -- a `case` in a block within: switch ( x ) { case 1 : { case 2 : ; } }
    (in_function (w "switch" 0 ∷ m LeftParenthesis 1 ∷ w "x" 2 ∷ m RightParenthesis 3 ∷ m LeftBrace 4 ∷ w "case" 5 ∷ i 1 6 ∷ m Colon 7 ∷ m LeftBrace 8 ∷ w "case" 9 ∷ i 2 10 ∷ m Colon 11 ∷ m Semicolon 12 ∷ m RightBrace 13 ∷ m RightBrace 14 ∷ []), 14) ∷
    -- and as the statement of an `if`: switch ( x ) { case 1 : if ( y ) case 2 : ; }
    (in_function (w "switch" 0 ∷ m LeftParenthesis 1 ∷ w "x" 2 ∷ m RightParenthesis 3 ∷ m LeftBrace 4 ∷ w "case" 5 ∷ i 1 6 ∷ m Colon 7 ∷ w "if" 8 ∷ m LeftParenthesis 9 ∷ w "y" 10 ∷ m RightParenthesis 11 ∷ w "case" 12 ∷ i 2 13 ∷ m Colon 14 ∷ m Semicolon 15 ∷ m RightBrace 16 ∷ []), 17) ∷
    -- no braces: switch ( x ) case 1 : ;
    (in_function (w "switch" 0 ∷ m LeftParenthesis 1 ∷ w "x" 2 ∷ m RightParenthesis 3 ∷ w "case" 4 ∷ i 1 5 ∷ m Colon 6 ∷ m Semicolon 7 ∷ []), 9) ∷
    -- no parentheses: switch x { }
    (in_function (w "switch" 0 ∷ w "x" 1 ∷ m LeftBrace 2 ∷ m RightBrace 3 ∷ []), 6) ∷
    -- no expression: switch ( ) { }
    (in_function (w "switch" 0 ∷ m LeftParenthesis 1 ∷ m RightParenthesis 2 ∷ m LeftBrace 3 ∷ m RightBrace 4 ∷ []), 7) ∷
    -- no constant: switch ( x ) { case : ; }
    (in_function (w "switch" 0 ∷ m LeftParenthesis 1 ∷ w "x" 2 ∷ m RightParenthesis 3 ∷ m LeftBrace 4 ∷ w "case" 5 ∷ m Colon 6 ∷ m Semicolon 7 ∷ m RightBrace 8 ∷ []), 11) ∷
    -- two constants: switch ( x ) { case 1 , 2 : ; }
    (in_function (w "switch" 0 ∷ m LeftParenthesis 1 ∷ w "x" 2 ∷ m RightParenthesis 3 ∷ m LeftBrace 4 ∷ w "case" 5 ∷ i 1 6 ∷ m Comma 7 ∷ i 2 8 ∷ m Colon 9 ∷ m Semicolon 10 ∷ m RightBrace 11 ∷ []), 12) ∷
    -- a constant of `default`: switch ( x ) { default 1 : ; }
    (in_function (w "switch" 0 ∷ m LeftParenthesis 1 ∷ w "x" 2 ∷ m RightParenthesis 3 ∷ m LeftBrace 4 ∷ w "default" 5 ∷ i 1 6 ∷ m Colon 7 ∷ m Semicolon 8 ∷ m RightBrace 9 ∷ []), 11) ∷
    -- no end: switch ( x ) { case 1 : ;
    (in_function (w "switch" 0 ∷ m LeftParenthesis 1 ∷ w "x" 2 ∷ m RightParenthesis 3 ∷ m LeftBrace 4 ∷ w "case" 5 ∷ i 1 6 ∷ m Colon 7 ∷ m Semicolon 8 ∷ []), 15) ∷
    []

switches_are_wrong : map (λ u. read_unit 30 u.0) switches ≡ map (λ u. wrong (drop u.1 u.0)) switches
unfolding and_then fit ahead_by ahead expect_by expect expect_word_by expect_word expect_identifier_by expect_identifier joined_by joined_behind begins_specifier_by is_unary_by is_named_by is_absent_by has_name needs_name behind_const_by behind_const lower if_any after_any primary_by suffix_by suffixes postfix_in size_in unary_by unary_in cast_by cast_in operand_by operands binary_in choice_by conditional_in assigned_by assignment_in comma_by commas expression_in body_in tagged_by tag_by specifier_by specifier_in specifier_list_in specifiers_in specs_first takes_in declared_suffix_by declared_suffixes undeclared_in declared_by declared_in parameter_in type_name_in member_in value_by enumerator_by enumerator_in initializer_by initializer_in initialized_by init_declarator_in init_behind_by init_behind_in declaration_behind declaration_in declaration_from function_by external_in body_by optional_expression_in in_parentheses_then if_in while_in do_in for_behind for_in switch_in label_by label_in return_in expression_statement_in keyword_by statement_by statement_in goal_in listed listed_in_braces members_in items_in group_item_in groups_in externals_by externals_in arguments_in length_in declarators_behind rows_in level read read_unit
switches_are_wrong = refl

pub switches_have_none : AllByRecursion (λ (u : List Token × ℕ). (t : Tree) → IsTreeOf u.0 t → ⊥) switches
switches_have_none = none_of switches switches_are_wrong
