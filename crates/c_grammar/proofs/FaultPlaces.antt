-- The places of faults, and the limit of heights, in short units.
use Rattle.std.proofs.Common.{ℕ, zero, suc, ◌≡◌, Bool, true, false, refl, List, [], ◌∷◌, drop}
use Rattle.c_lexer.specs.declared.token.Token.{Token}
use Rattle.c_lexer.specs.declared.token.Punct.TheVariants.{LeftParenthesis, RightParenthesis, LeftBrace, RightBrace, Colon, Semicolon, Equal}
use Rattle.c_grammar.specs.Answers.{Answer, found, wrong, deep, and_then, fit, ahead_by, ahead, expect_by, expect, expect_word_by, expect_word, expect_identifier_by, expect_identifier}
use Rattle.c_grammar.specs.Reading.{parameters_in, void_in, goes_on_behind_void_by, joined_by, joined_behind, begins_specifier_by, is_unary_by, is_named_by, is_absent_by, has_name, needs_name, behind_const_by, behind_const, lower, if_any, after_any, primary_by, suffix_by, suffixes, postfix_in, size_in, unary_by, unary_in, cast_by, cast_in, operand_by, operands, binary_in, choice_by, conditional_in, assigned_by, assignment_in, comma_by, commas, expression_in, body_in, tagged_by, tag_by, specifier_by, specifier_in, specifier_list_in, specifiers_in, specs_first, takes_in, declared_suffix_by, declared_suffixes, undeclared_in, declared_by, declared_in, parameter_in, type_name_in, member_in, value_by, enumerator_by, enumerator_in, initializer_by, initializer_in, initialized_by, init_declarator_in, init_behind_by, init_behind_in, declaration_behind, declaration_in, declaration_from, function_by, external_in, body_by, optional_expression_in, in_parentheses_then, if_in, while_in, do_in, for_behind, for_in, switch_in, label_by, label_in, return_in, expression_statement_in, keyword_by, statement_by, statement_in, goal_in, listed, listed_in_braces, members_in, items_in, group_item_in, groups_in, externals_by, externals_in, arguments_in, length_in, declarators_behind, rows_in, level, read, read_unit}
use Rattle.c_syntax.specs.Trees.{Tree}
use Rattle.c_grammar.proofs.Lifts.{m, w, i}

-- a token n times, before others
abbrev before : ℕ → Token → List Token → List Token
before zero t ts = ts
before (suc n) t ts = t ∷ before n t ts

-- int main ( void ) { return ( .. ( 0 ) .. ) ; }
abbrev nested : ℕ → List Token
nested n =
    w "int" 0 ∷ w "main" 1 ∷ m LeftParenthesis 2 ∷ w "void" 3 ∷ m RightParenthesis 4 ∷ m LeftBrace 5 ∷ w "return" 6 ∷
    before n (m LeftParenthesis 7) (i 0 8 ∷ before n (m RightParenthesis 9) (m Semicolon 10 ∷ m RightBrace 11 ∷ []))

is_found : Answer Tree → Bool
is_found (found t rest) = true
is_found next = false

-- within a height of 8 there is room for three pairs of parentheses, and a fourth is too deep right behind its first half
three_pairs : is_found (read_unit 8 (nested 3)) ≡ true
unfolding parameters_in void_in goes_on_behind_void_by and_then fit ahead_by ahead expect_by expect expect_word_by expect_word expect_identifier_by expect_identifier joined_by joined_behind begins_specifier_by is_unary_by is_named_by is_absent_by has_name needs_name behind_const_by behind_const lower if_any after_any primary_by suffix_by suffixes postfix_in size_in unary_by unary_in cast_by cast_in operand_by operands binary_in choice_by conditional_in assigned_by assignment_in comma_by commas expression_in body_in tagged_by tag_by specifier_by specifier_in specifier_list_in specifiers_in specs_first takes_in declared_suffix_by declared_suffixes undeclared_in declared_by declared_in parameter_in type_name_in member_in value_by enumerator_by enumerator_in initializer_by initializer_in initialized_by init_declarator_in init_behind_by init_behind_in declaration_behind declaration_in declaration_from function_by external_in body_by optional_expression_in in_parentheses_then if_in while_in do_in for_behind for_in return_in expression_statement_in keyword_by statement_by statement_in goal_in listed listed_in_braces members_in items_in externals_by externals_in arguments_in length_in declarators_behind rows_in level read read_unit is_found
three_pairs = refl

four_pairs : read_unit 8 (nested 4) ≡ deep (drop 11 (nested 4))
unfolding parameters_in void_in goes_on_behind_void_by and_then fit ahead_by ahead expect_by expect expect_word_by expect_word expect_identifier_by expect_identifier joined_by joined_behind begins_specifier_by is_unary_by is_named_by is_absent_by has_name needs_name behind_const_by behind_const lower if_any after_any primary_by suffix_by suffixes postfix_in size_in unary_by unary_in cast_by cast_in operand_by operands binary_in choice_by conditional_in assigned_by assignment_in comma_by commas expression_in body_in tagged_by tag_by specifier_by specifier_in specifier_list_in specifiers_in specs_first takes_in declared_suffix_by declared_suffixes undeclared_in declared_by declared_in parameter_in type_name_in member_in value_by enumerator_by enumerator_in initializer_by initializer_in initialized_by init_declarator_in init_behind_by init_behind_in declaration_behind declaration_in declaration_from function_by external_in body_by optional_expression_in in_parentheses_then if_in while_in do_in for_behind for_in return_in expression_statement_in keyword_by statement_by statement_in goal_in listed listed_in_braces members_in items_in externals_by externals_in arguments_in length_in declarators_behind rows_in level read read_unit
four_pairs = refl

-- int main ( void ) { return 7 }
unclosed : List Token
unclosed = w "int" 0 ∷ w "main" 1 ∷ m LeftParenthesis 2 ∷ w "void" 3 ∷ m RightParenthesis 4 ∷ m LeftBrace 5 ∷ w "return" 6 ∷ i 7 7 ∷ m RightBrace 8 ∷ []

-- typedef int t ; int x = t ;
hidden : List Token
hidden = w "typedef" 0 ∷ w "int" 1 ∷ w "t" 2 ∷ m Semicolon 3 ∷ w "int" 4 ∷ w "x" 5 ∷ m Equal 6 ∷ w "t" 7 ∷ m Semicolon 8 ∷ []

wrong_places : read_unit 8 [] ≡ wrong [] × ((read_unit 8 unclosed ≡ wrong (drop 8 unclosed)) × (read_unit 8 hidden ≡ wrong (drop 7 hidden)))
unfolding parameters_in void_in goes_on_behind_void_by and_then fit ahead_by ahead expect_by expect expect_word_by expect_word expect_identifier_by expect_identifier joined_by joined_behind begins_specifier_by is_unary_by is_named_by is_absent_by has_name needs_name behind_const_by behind_const lower if_any after_any primary_by suffix_by suffixes postfix_in size_in unary_by unary_in cast_by cast_in operand_by operands binary_in choice_by conditional_in assigned_by assignment_in comma_by commas expression_in body_in tagged_by tag_by specifier_by specifier_in specifier_list_in specifiers_in specs_first takes_in declared_suffix_by declared_suffixes undeclared_in declared_by declared_in parameter_in type_name_in member_in value_by enumerator_by enumerator_in initializer_by initializer_in initialized_by init_declarator_in init_behind_by init_behind_in declaration_behind declaration_in declaration_from function_by external_in body_by optional_expression_in in_parentheses_then if_in while_in do_in for_behind for_in return_in expression_statement_in keyword_by statement_by statement_in goal_in listed listed_in_braces members_in items_in externals_by externals_in arguments_in length_in declarators_behind rows_in level read read_unit unclosed hidden
wrong_places = (refl, (refl, refl))

-- int f ( ) { switch ( 0 ) { case 1 : ; } }
labelled : List Token
labelled =
    w "int" 0 ∷ w "f" 1 ∷ m LeftParenthesis 2 ∷ m RightParenthesis 3 ∷ m LeftBrace 4 ∷ w "switch" 5 ∷ m LeftParenthesis 6 ∷ i 0 7 ∷ m RightParenthesis 8 ∷
    m LeftBrace 9 ∷ w "case" 10 ∷ i 1 11 ∷ m Colon 12 ∷ m Semicolon 13 ∷ m RightBrace 14 ∷ m RightBrace 15 ∷ []

-- a `switch` is too deep right behind its word, and so is a `case`
switch_places : read_unit 4 labelled ≡ deep (drop 6 labelled) × ((read_unit 5 labelled ≡ deep (drop 11 labelled)) × (is_found (read_unit 6 labelled) ≡ true))
unfolding parameters_in void_in goes_on_behind_void_by and_then fit ahead_by ahead expect_by expect expect_word_by expect_word expect_identifier_by expect_identifier joined_by joined_behind begins_specifier_by is_unary_by is_named_by is_absent_by has_name needs_name behind_const_by behind_const lower if_any after_any primary_by suffix_by suffixes postfix_in size_in unary_by unary_in cast_by cast_in operand_by operands binary_in choice_by conditional_in assigned_by assignment_in comma_by commas expression_in body_in tagged_by tag_by specifier_by specifier_in specifier_list_in specifiers_in specs_first takes_in declared_suffix_by declared_suffixes undeclared_in declared_by declared_in parameter_in type_name_in member_in value_by enumerator_by enumerator_in initializer_by initializer_in initialized_by init_declarator_in init_behind_by init_behind_in declaration_behind declaration_in declaration_from function_by external_in body_by optional_expression_in in_parentheses_then if_in while_in do_in for_behind for_in switch_in label_by label_in return_in expression_statement_in keyword_by statement_by statement_in goal_in listed listed_in_braces members_in items_in group_item_in groups_in externals_by externals_in arguments_in length_in declarators_behind rows_in level read read_unit is_found labelled
switch_places = (refl, (refl, refl))
