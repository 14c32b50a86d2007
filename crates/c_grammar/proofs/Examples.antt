-- Short lists of tokens and their trees, read by computation: names and their scopes, and statements with `switch`.
use Prim.Native.String.{String}
use Rattle.std.specs.List.{AllByRecursion}
use Rattle.std.proofs.Common.{ap, map, ℕ, ◌+◌, ◌≡◌, refl, true, List, [], ◌∷◌, ◌++◌, drop, codes}
use Rattle.c_lexer.specs.declared.token.IntType.TheVariants as type
use Rattle.c_lexer.specs.declared.token.Token.{Token}
use Rattle.c_lexer.specs.declared.token.Punct.TheVariants.{LeftBracket, RightBracket, LeftParenthesis, RightParenthesis, LeftBrace, RightBrace, Star, Minus, Question, Colon, Semicolon, Equal, Comma}
use Rattle.c_syntax.specs.declared.kind.SynKind.TheVariants as kind
use Rattle.c_syntax.specs.Trees.{Tree, none, ◌then◌, one, two, three, text_node, plain_node, int_node}
use Rattle.c_grammar.specs.Scopes.{Names, opened, entry}
use Rattle.c_grammar.specs.Answers.{found, wrong, and_then, fit, ahead_by, ahead, expect_by, expect, expect_word_by, expect_word, expect_identifier_by, expect_identifier}
use Rattle.c_grammar.specs.Reading.{Goal, parameters_in, void_in, goes_on_behind_void_by, joined_by, joined_behind, begins_specifier_by, is_unary_by, is_named_by, is_absent_by, has_name, needs_name, behind_const_by, behind_const, lower, if_any, after_any, primary_by, suffix_by, suffixes, postfix_in, size_in, unary_by, unary_in, cast_by, cast_in, operand_by, operands, binary_in, choice_by, conditional_in, assigned_by, assignment_in, comma_by, commas, expression_in, body_in, tagged_by, tag_by, specifier_by, specifier_in, specifier_list_in, specifiers_in, specs_first, takes_in, declared_suffix_by, declared_suffixes, undeclared_in, declared_by, declared_in, parameter_in, type_name_in, member_in, value_by, enumerator_by, enumerator_in, initializer_by, initializer_in, initialized_by, init_declarator_in, init_behind_by, init_behind_in, declaration_behind, declaration_in, declaration_from, function_by, external_in, body_by, optional_expression_in, in_parentheses_then, if_in, while_in, do_in, for_behind, for_in, switch_in, label_by, label_in, return_in, expression_statement_in, keyword_by, statement_by, statement_in, goal_in, listed, listed_in_braces, members_in, items_in, group_item_in, groups_in, externals_by, externals_in, arguments_in, length_in, declarators_behind, rows_in, level, read}
use Rattle.c_grammar.specs.Meanings.{IsTree}
use Rattle.c_grammar.proofs.Lifts.{m, w, i, leaf, no_typedef, with_t}
use Rattle.c_grammar.proofs.Sound.{found_tree}

-- ---- what the rows have in common

pub record Example : Type 0 where
  pub goal : Goal
  pub names : Names
  pub tokens : List Token
  pub tree : Tree

abbrev pub example : Goal → Names → List Token → Tree → Example
example goal names tokens tree = record { goal = goal; names = names; tokens = tokens; tree = tree }

-- `t` and `u` are typedef names
abbrev pub with_t_and_u : Names
with_t_and_u = (entry (codes "t") true ++ entry (codes "u") true) ∷ []

-- `int` alone as specs
abbrev pub int_at : ℕ → Tree
int_at k = plain_node kind.Specs k (one (leaf kind.Word "int" k))

-- the tree of `(t) - 1`, from this token on, where the name is a variable
abbrev pub subtracts : String → ℕ → Tree
subtracts name k = text_node kind.Binary (codes "-") k (two (plain_node kind.Paren k (one (leaf kind.Var name (k + 1)))) (int_node type.Int 1 (k + 4)))

-- and where it is a typedef name
abbrev pub casts : String → ℕ → Tree
casts name k = plain_node kind.Cast k (two
    (plain_node kind.TypeName (k + 1) (two (plain_node kind.Specs (k + 1) (one (leaf kind.Word name (k + 1)))) (plain_node kind.NoName (k + 2) none)))
    (text_node kind.Unary (codes "-") (k + 3) (one (int_node type.Int 1 (k + 4)))))

-- the tree of `sizeof (enum { t })`, which declares an enumerator
abbrev pub declares_t : ℕ → Tree
declares_t k = plain_node kind.SizeType k (one (plain_node kind.TypeName (k + 2) (two
    (plain_node kind.Specs (k + 2) (one (plain_node kind.EnumSpec (k + 2) (one (leaf kind.Enumer "t" (k + 4))))))
    (plain_node kind.NoName (k + 6) none))))

-- the rows are read as these trees
abbrev pub Found : List Example → Type 0
Found rows = map (λ e. (read 30).tree_of e.goal e.names e.tokens) rows ≡ map (λ e. found e.tree []) rows

first_of : {T : Type 0} → T → List T → T
first_of other [] = other
first_of other (x ∷ xs) = x

-- what is read so is derived
derived_of : (rows : List Example) → Found rows → AllByRecursion (λ (e : Example). IsTree e.goal e.names e.tokens [] e.tree) rows
unfolding first_of
derived_of [] e = tt
derived_of (u ∷ rows) e = ((found_tree 30 u.goal u.names u.tokens [] u.tree (ap (first_of (wrong [])) e)).0, derived_of rows (ap (drop 1) e))

-- ---- names and their scopes

abbrev pub scoped : List Example
scoped =
    -- a name hides the typedef name in its own initializer: int t = (t) - 1 ;
    example Goal.declaration (opened with_t)
    (w "int" 0 ∷ w "t" 1 ∷ m Equal 2 ∷ m LeftParenthesis 3 ∷ w "t" 4 ∷ m RightParenthesis 5 ∷ m Minus 6 ∷ i 1 7 ∷ m Semicolon 8 ∷ [])
    (plain_node kind.Declaration 0 (two (int_at 0) (plain_node kind.InitDecl 1 (two (leaf kind.Ident "t" 1) (subtracts "t" 3))))) ∷
    -- but not in the scope of the typedef itself, where it is declared twice: int t = (t) - 1 ;
    example Goal.declaration with_t
    (w "int" 0 ∷ w "t" 1 ∷ m Equal 2 ∷ m LeftParenthesis 3 ∷ w "t" 4 ∷ m RightParenthesis 5 ∷ m Minus 6 ∷ i 1 7 ∷ m Semicolon 8 ∷ [])
    (plain_node kind.Declaration 0 (two (int_at 0) (plain_node kind.InitDecl 1 (two (leaf kind.Ident "t" 1) (casts "t" 3))))) ∷
    -- and in later declarators: int t , a [ (t) - 1 ] ;
    example Goal.declaration (opened with_t)
    (w "int" 0 ∷ w "t" 1 ∷ m Comma 2 ∷ w "a" 3 ∷ m LeftBracket 4 ∷ m LeftParenthesis 5 ∷ w "t" 6 ∷ m RightParenthesis 7 ∷ m Minus 8 ∷ i 1 9 ∷
    m RightBracket 10 ∷ m Semicolon 11 ∷ [])
    (plain_node kind.Declaration 0 (three (int_at 0) (plain_node kind.InitDecl 1 (one (leaf kind.Ident "t" 1)))
    (plain_node kind.InitDecl 3 (one (plain_node kind.ArrayOf 3 (two (leaf kind.Ident "a" 3) (subtracts "t" 5))))))) ∷
    -- a typedef name is one in its own initializer and in later declarators: typedef int t = (t) - 1 , a [ (t) - 1 ] ;
    example Goal.declaration no_typedef
    (w "typedef" 0 ∷ w "int" 1 ∷ w "t" 2 ∷ m Equal 3 ∷ m LeftParenthesis 4 ∷ w "t" 5 ∷ m RightParenthesis 6 ∷ m Minus 7 ∷ i 1 8 ∷ m Comma 9 ∷
    w "a" 10 ∷ m LeftBracket 11 ∷ m LeftParenthesis 12 ∷ w "t" 13 ∷ m RightParenthesis 14 ∷ m Minus 15 ∷ i 1 16 ∷ m RightBracket 17 ∷
    m Semicolon 18 ∷ [])
    (plain_node kind.Declaration 0 (three (plain_node kind.Specs 0 (two (leaf kind.Word "typedef" 0) (leaf kind.Word "int" 1)))
    (plain_node kind.InitDecl 2 (two (leaf kind.Ident "t" 2) (casts "t" 4)))
    (plain_node kind.InitDecl 10 (one (plain_node kind.ArrayOf 10 (two (leaf kind.Ident "a" 10) (casts "t" 12))))))) ∷
    -- a parameter hides it in the length of a later one: int f ( int t , int a [ (t) - 1 ] ) ;
    example Goal.declaration with_t
    (w "int" 0 ∷ w "f" 1 ∷ m LeftParenthesis 2 ∷ w "int" 3 ∷ w "t" 4 ∷ m Comma 5 ∷ w "int" 6 ∷ w "a" 7 ∷ m LeftBracket 8 ∷ m LeftParenthesis 9 ∷
    w "t" 10 ∷ m RightParenthesis 11 ∷ m Minus 12 ∷ i 1 13 ∷ m RightBracket 14 ∷ m RightParenthesis 15 ∷ m Semicolon 16 ∷ [])
    (plain_node kind.Declaration 0 (two (int_at 0)
    (plain_node kind.InitDecl 1 (one (plain_node kind.Takes 1 (three (leaf kind.Ident "f" 1) (plain_node kind.Param 3 (two (int_at 3) (leaf kind.Ident "t" 4)))
    (plain_node kind.Param 6 (two (int_at 6) (plain_node kind.ArrayOf 7 (two (leaf kind.Ident "a" 7) (subtracts "t" 9))))))))))) ∷
    -- but not behind its list: int f ( int t ) , a [ (t) - 1 ] ;
    example Goal.declaration with_t
    (w "int" 0 ∷ w "f" 1 ∷ m LeftParenthesis 2 ∷ w "int" 3 ∷ w "t" 4 ∷ m RightParenthesis 5 ∷ m Comma 6 ∷ w "a" 7 ∷ m LeftBracket 8 ∷
    m LeftParenthesis 9 ∷ w "t" 10 ∷ m RightParenthesis 11 ∷ m Minus 12 ∷ i 1 13 ∷ m RightBracket 14 ∷ m Semicolon 15 ∷ [])
    (plain_node kind.Declaration 0 (three (int_at 0)
    (plain_node kind.InitDecl 1 (one (plain_node kind.Takes 1 (two (leaf kind.Ident "f" 1) (plain_node kind.Param 3 (two (int_at 3) (leaf kind.Ident "t" 4)))))))
    (plain_node kind.InitDecl 7 (one (plain_node kind.ArrayOf 7 (two (leaf kind.Ident "a" 7) (casts "t" 9))))))) ∷
    -- nor does one of a list within: int f ( int g ( int t ) , int a [ (t) - 1 ] ) ;
    example Goal.declaration with_t
    (w "int" 0 ∷ w "f" 1 ∷ m LeftParenthesis 2 ∷ w "int" 3 ∷ w "g" 4 ∷ m LeftParenthesis 5 ∷ w "int" 6 ∷ w "t" 7 ∷ m RightParenthesis 8 ∷
    m Comma 9 ∷ w "int" 10 ∷ w "a" 11 ∷ m LeftBracket 12 ∷ m LeftParenthesis 13 ∷ w "t" 14 ∷ m RightParenthesis 15 ∷ m Minus 16 ∷ i 1 17 ∷
    m RightBracket 18 ∷ m RightParenthesis 19 ∷ m Semicolon 20 ∷ [])
    (plain_node kind.Declaration 0 (two (int_at 0)
    (plain_node kind.InitDecl 1 (one (plain_node kind.Takes 1 (three (leaf kind.Ident "f" 1)
    (plain_node kind.Param 3 (two (int_at 3)
    (plain_node kind.Takes 4 (two (leaf kind.Ident "g" 4) (plain_node kind.Param 6 (two (int_at 6) (leaf kind.Ident "t" 7)))))))
    (plain_node kind.Param 10 (two (int_at 10) (plain_node kind.ArrayOf 11 (two (leaf kind.Ident "a" 11) (casts "t" 13))))))))))) ∷
    -- while one of the list around does: int f ( int t , int g ( int a [ (t) - 1 ] ) ) ;
    example Goal.declaration with_t
    (w "int" 0 ∷ w "f" 1 ∷ m LeftParenthesis 2 ∷ w "int" 3 ∷ w "t" 4 ∷ m Comma 5 ∷ w "int" 6 ∷ w "g" 7 ∷ m LeftParenthesis 8 ∷ w "int" 9 ∷
    w "a" 10 ∷ m LeftBracket 11 ∷ m LeftParenthesis 12 ∷ w "t" 13 ∷ m RightParenthesis 14 ∷ m Minus 15 ∷ i 1 16 ∷ m RightBracket 17 ∷
    m RightParenthesis 18 ∷ m RightParenthesis 19 ∷ m Semicolon 20 ∷ [])
    (plain_node kind.Declaration 0 (two (int_at 0)
    (plain_node kind.InitDecl 1 (one (plain_node kind.Takes 1 (three (leaf kind.Ident "f" 1) (plain_node kind.Param 3 (two (int_at 3) (leaf kind.Ident "t" 4)))
    (plain_node kind.Param 6 (two (int_at 6)
    (plain_node kind.Takes 7 (two (leaf kind.Ident "g" 7)
    (plain_node kind.Param 9 (two (int_at 9)
    (plain_node kind.ArrayOf 10 (two (leaf kind.Ident "a" 10) (subtracts "t" 12))))))))))))))) ∷
    -- the body of a function sees the parameters next to its name: int ( * f ( int t ) ) ( int u ) { (t) - 1 ; (u) - 1 ; }
    example Goal.external with_t_and_u
    (w "int" 0 ∷ m LeftParenthesis 1 ∷ m Star 2 ∷ w "f" 3 ∷ m LeftParenthesis 4 ∷ w "int" 5 ∷ w "t" 6 ∷ m RightParenthesis 7 ∷
    m RightParenthesis 8 ∷ m LeftParenthesis 9 ∷ w "int" 10 ∷ w "u" 11 ∷ m RightParenthesis 12 ∷ m LeftBrace 13 ∷ m LeftParenthesis 14 ∷
    w "t" 15 ∷ m RightParenthesis 16 ∷ m Minus 17 ∷ i 1 18 ∷ m Semicolon 19 ∷ m LeftParenthesis 20 ∷ w "u" 21 ∷ m RightParenthesis 22 ∷
    m Minus 23 ∷ i 1 24 ∷ m Semicolon 25 ∷ m RightBrace 26 ∷ [])
    (plain_node kind.Function 0 (three (int_at 0)
    (plain_node kind.Takes 1 (two
    (plain_node kind.Paren 1 (one (plain_node kind.Pointer 2 (one (plain_node kind.Takes 3 (two (leaf kind.Ident "f" 3)
    (plain_node kind.Param 5 (two (int_at 5) (leaf kind.Ident "t" 6)))))))))
    (plain_node kind.Param 10 (two (int_at 10) (leaf kind.Ident "u" 11)))))
    (plain_node kind.Block 13 (two (plain_node kind.ExprStmt 14 (one (subtracts "t" 14)))
    (plain_node kind.ExprStmt 20 (one (casts "u" 20))))))) ∷
    -- and no others: int ( * f ( int u ) ) ( int t ) { (t) - 1 ; (u) - 1 ; }
    example Goal.external with_t_and_u
    (w "int" 0 ∷ m LeftParenthesis 1 ∷ m Star 2 ∷ w "f" 3 ∷ m LeftParenthesis 4 ∷ w "int" 5 ∷ w "u" 6 ∷ m RightParenthesis 7 ∷
    m RightParenthesis 8 ∷ m LeftParenthesis 9 ∷ w "int" 10 ∷ w "t" 11 ∷ m RightParenthesis 12 ∷ m LeftBrace 13 ∷ m LeftParenthesis 14 ∷
    w "t" 15 ∷ m RightParenthesis 16 ∷ m Minus 17 ∷ i 1 18 ∷ m Semicolon 19 ∷ m LeftParenthesis 20 ∷ w "u" 21 ∷ m RightParenthesis 22 ∷
    m Minus 23 ∷ i 1 24 ∷ m Semicolon 25 ∷ m RightBrace 26 ∷ [])
    (plain_node kind.Function 0 (three (int_at 0)
    (plain_node kind.Takes 1 (two
    (plain_node kind.Paren 1 (one (plain_node kind.Pointer 2 (one (plain_node kind.Takes 3 (two (leaf kind.Ident "f" 3)
    (plain_node kind.Param 5 (two (int_at 5) (leaf kind.Ident "u" 6)))))))))
    (plain_node kind.Param 10 (two (int_at 10) (leaf kind.Ident "t" 11)))))
    (plain_node kind.Block 13 (two (plain_node kind.ExprStmt 14 (one (casts "t" 14)))
    (plain_node kind.ExprStmt 20 (one (subtracts "u" 20))))))) ∷
    -- a function definition with `typedef` makes no typedef name: typedef int f ( ) { f ; }
    example Goal.external no_typedef
    (w "typedef" 0 ∷ w "int" 1 ∷ w "f" 2 ∷ m LeftParenthesis 3 ∷ m RightParenthesis 4 ∷ m LeftBrace 5 ∷ w "f" 6 ∷ m Semicolon 7 ∷
    m RightBrace 8 ∷ [])
    (plain_node kind.Function 0 (three (plain_node kind.Specs 0 (two (leaf kind.Word "typedef" 0) (leaf kind.Word "int" 1)))
    (plain_node kind.Takes 2 (one (leaf kind.Ident "f" 2)))
    (plain_node kind.Block 5 (one (plain_node kind.ExprStmt 6 (one (leaf kind.Var "f" 6))))))) ∷
    -- nor does a member with it: { struct { typedef int t ; } ; t ; }
    example Goal.statement no_typedef
    (m LeftBrace 0 ∷ w "struct" 1 ∷ m LeftBrace 2 ∷ w "typedef" 3 ∷ w "int" 4 ∷ w "t" 5 ∷ m Semicolon 6 ∷ m RightBrace 7 ∷ m Semicolon 8 ∷
    w "t" 9 ∷ m Semicolon 10 ∷ m RightBrace 11 ∷ [])
    (plain_node kind.Block 0 (two
    (plain_node kind.Declaration 1 (one (plain_node kind.Specs 1 (one (plain_node kind.StructSpec 1 (one (plain_node kind.Member 3 (two (plain_node kind.Specs 3 (two (leaf kind.Word "typedef" 3) (leaf kind.Word "int" 4)))
    (leaf kind.Ident "t" 5))))))))) (plain_node kind.ExprStmt 9 (one (leaf kind.Var "t" 9))))) ∷
    -- a typedef in a block is none behind it: { { typedef int t ; } t ; }
    example Goal.statement no_typedef
    (m LeftBrace 0 ∷ m LeftBrace 1 ∷ w "typedef" 2 ∷ w "int" 3 ∷ w "t" 4 ∷ m Semicolon 5 ∷ m RightBrace 6 ∷ w "t" 7 ∷ m Semicolon 8 ∷
    m RightBrace 9 ∷ [])
    (plain_node kind.Block 0 (two
    (plain_node kind.Block 1 (one (plain_node kind.Declaration 2 (two (plain_node kind.Specs 2 (two (leaf kind.Word "typedef" 2) (leaf kind.Word "int" 3)))
    (plain_node kind.InitDecl 4 (one (leaf kind.Ident "t" 4))))))) (plain_node kind.ExprStmt 7 (one (leaf kind.Var "t" 7))))) ∷
    -- a member hides nothing: { struct { int t ; } ; (t) - 1 ; }
    example Goal.statement with_t
    (m LeftBrace 0 ∷ w "struct" 1 ∷ m LeftBrace 2 ∷ w "int" 3 ∷ w "t" 4 ∷ m Semicolon 5 ∷ m RightBrace 6 ∷ m Semicolon 7 ∷ m LeftParenthesis 8 ∷
    w "t" 9 ∷ m RightParenthesis 10 ∷ m Minus 11 ∷ i 1 12 ∷ m Semicolon 13 ∷ m RightBrace 14 ∷ [])
    (plain_node kind.Block 0 (two
    (plain_node kind.Declaration 1 (one (plain_node kind.Specs 1 (one (plain_node kind.StructSpec 1 (one (plain_node kind.Member 3 (two (int_at 3) (leaf kind.Ident "t" 4)))))))))
    (plain_node kind.ExprStmt 8 (one (casts "t" 8))))) ∷
    -- an enumerator is seen behind an `if`: { if ( sizeof ( enum { t } ) ) ; (t) - 1 ; }
    example Goal.statement with_t
    (m LeftBrace 0 ∷ w "if" 1 ∷ m LeftParenthesis 2 ∷ w "sizeof" 3 ∷ m LeftParenthesis 4 ∷ w "enum" 5 ∷ m LeftBrace 6 ∷ w "t" 7 ∷
    m RightBrace 8 ∷ m RightParenthesis 9 ∷ m RightParenthesis 10 ∷ m Semicolon 11 ∷ m LeftParenthesis 12 ∷ w "t" 13 ∷ m RightParenthesis 14 ∷
    m Minus 15 ∷ i 1 16 ∷ m Semicolon 17 ∷ m RightBrace 18 ∷ [])
    (plain_node kind.Block 0 (two (plain_node kind.If 1 (two (declares_t 3) (plain_node kind.Empty 11 none)))
    (plain_node kind.ExprStmt 12 (one (subtracts "t" 12))))) ∷
    -- and not behind a `for`: { for ( ; sizeof ( enum { t } ) ; ) ; (t) - 1 ; }
    example Goal.statement with_t
    (m LeftBrace 0 ∷ w "for" 1 ∷ m LeftParenthesis 2 ∷ m Semicolon 3 ∷ w "sizeof" 4 ∷ m LeftParenthesis 5 ∷ w "enum" 6 ∷ m LeftBrace 7 ∷
    w "t" 8 ∷ m RightBrace 9 ∷ m RightParenthesis 10 ∷ m Semicolon 11 ∷ m RightParenthesis 12 ∷ m Semicolon 13 ∷ m LeftParenthesis 14 ∷
    w "t" 15 ∷ m RightParenthesis 16 ∷ m Minus 17 ∷ i 1 18 ∷ m Semicolon 19 ∷ m RightBrace 20 ∷ [])
    (plain_node kind.Block 0 (two
    (plain_node kind.For 1 ((plain_node kind.Empty 3 none) then three (declares_t 4) (plain_node kind.Empty 12 none)
    (plain_node kind.Empty 13 none))) (plain_node kind.ExprStmt 14 (one (casts "t" 14))))) ∷
    []

scoped_are_found : Found scoped
unfolding and_then fit ahead_by ahead expect_by expect expect_word_by expect_word expect_identifier_by expect_identifier parameters_in void_in goes_on_behind_void_by joined_by joined_behind begins_specifier_by is_unary_by is_named_by is_absent_by has_name needs_name behind_const_by behind_const lower if_any after_any primary_by suffix_by suffixes postfix_in size_in unary_by unary_in cast_by cast_in operand_by operands binary_in choice_by conditional_in assigned_by assignment_in comma_by commas expression_in body_in tagged_by tag_by specifier_by specifier_in specifier_list_in specifiers_in specs_first takes_in declared_suffix_by declared_suffixes undeclared_in declared_by declared_in parameter_in type_name_in member_in value_by enumerator_by enumerator_in initializer_by initializer_in initialized_by init_declarator_in init_behind_by init_behind_in declaration_behind declaration_in declaration_from function_by external_in body_by optional_expression_in in_parentheses_then if_in while_in do_in for_behind for_in switch_in label_by label_in return_in expression_statement_in keyword_by statement_by statement_in goal_in listed listed_in_braces members_in items_in group_item_in groups_in externals_by externals_in arguments_in length_in declarators_behind rows_in level read
scoped_are_found = refl

pub scoped_are_derived : AllByRecursion (λ (e : Example). IsTree e.goal e.names e.tokens [] e.tree) scoped
scoped_are_derived = derived_of scoped scoped_are_found

-- ---- statements with `switch`

abbrev pub switched : List Example
switched =
    -- a `switch` of nothing: switch ( x ) { }
    example Goal.statement no_typedef
    (w "switch" 0 ∷ m LeftParenthesis 1 ∷ w "x" 2 ∷ m RightParenthesis 3 ∷ m LeftBrace 4 ∷ m RightBrace 5 ∷ [])
    (plain_node kind.Switch 0 (one (leaf kind.Var "x" 2))) ∷
    -- two labels on one statement: switch ( x ) { case 1 : default : ; }
    example Goal.statement no_typedef
    (w "switch" 0 ∷ m LeftParenthesis 1 ∷ w "x" 2 ∷ m RightParenthesis 3 ∷ m LeftBrace 4 ∷ w "case" 5 ∷ i 1 6 ∷ m Colon 7 ∷ w "default" 8 ∷
    m Colon 9 ∷ m Semicolon 10 ∷ m RightBrace 11 ∷ [])
    (plain_node kind.Switch 0 ((leaf kind.Var "x" 2) then three (plain_node kind.Case 5 (one (int_node type.Int 1 6)))
    (plain_node kind.Default 8 none) (plain_node kind.Empty 10 none))) ∷
    -- two groups, the first of two statements: switch ( x ) { case 1 : ; y ; case 2 : ; }
    example Goal.statement no_typedef
    (w "switch" 0 ∷ m LeftParenthesis 1 ∷ w "x" 2 ∷ m RightParenthesis 3 ∷ m LeftBrace 4 ∷ w "case" 5 ∷ i 1 6 ∷ m Colon 7 ∷ m Semicolon 8 ∷
    w "y" 9 ∷ m Semicolon 10 ∷ w "case" 11 ∷ i 2 12 ∷ m Colon 13 ∷ m Semicolon 14 ∷ m RightBrace 15 ∷ [])
    (plain_node kind.Switch 0 ((leaf kind.Var "x" 2) then (plain_node kind.Case 5 (one (int_node type.Int 1 6))) then
    (plain_node kind.Empty 8 none) then three (plain_node kind.ExprStmt 9 (one (leaf kind.Var "y" 9)))
    (plain_node kind.Case 11 (one (int_node type.Int 2 12))) (plain_node kind.Empty 14 none))) ∷
    -- one within another, with `break`: switch ( x ) { case 1 : switch ( y ) { default : break ; } break ; }
    example Goal.statement no_typedef
    (w "switch" 0 ∷ m LeftParenthesis 1 ∷ w "x" 2 ∷ m RightParenthesis 3 ∷ m LeftBrace 4 ∷ w "case" 5 ∷ i 1 6 ∷ m Colon 7 ∷ w "switch" 8 ∷
    m LeftParenthesis 9 ∷ w "y" 10 ∷ m RightParenthesis 11 ∷ m LeftBrace 12 ∷ w "default" 13 ∷ m Colon 14 ∷ w "break" 15 ∷ m Semicolon 16 ∷
    m RightBrace 17 ∷ w "break" 18 ∷ m Semicolon 19 ∷ m RightBrace 20 ∷ [])
    (plain_node kind.Switch 0 ((leaf kind.Var "x" 2) then three (plain_node kind.Case 5 (one (int_node type.Int 1 6)))
    (plain_node kind.Switch 8 (three (leaf kind.Var "y" 10) (plain_node kind.Default 13 none) (plain_node kind.Break 15 none)))
    (plain_node kind.Break 18 none))) ∷
    -- `continue` within: while ( x ) switch ( y ) { default : continue ; }
    example Goal.statement no_typedef
    (w "while" 0 ∷ m LeftParenthesis 1 ∷ w "x" 2 ∷ m RightParenthesis 3 ∷ w "switch" 4 ∷ m LeftParenthesis 5 ∷ w "y" 6 ∷ m RightParenthesis 7 ∷
    m LeftBrace 8 ∷ w "default" 9 ∷ m Colon 10 ∷ w "continue" 11 ∷ m Semicolon 12 ∷ m RightBrace 13 ∷ [])
    (plain_node kind.While 0 (two (leaf kind.Var "x" 2)
    (plain_node kind.Switch 4 (three (leaf kind.Var "y" 6) (plain_node kind.Default 9 none)
    (plain_node kind.Continue 11 none))))) ∷
    -- a conditional expression as a constant: switch ( x ) { case 1 ? 2 : 3 : ; }
    example Goal.statement no_typedef
    (w "switch" 0 ∷ m LeftParenthesis 1 ∷ w "x" 2 ∷ m RightParenthesis 3 ∷ m LeftBrace 4 ∷ w "case" 5 ∷ i 1 6 ∷ m Question 7 ∷ i 2 8 ∷
    m Colon 9 ∷ i 3 10 ∷ m Colon 11 ∷ m Semicolon 12 ∷ m RightBrace 13 ∷ [])
    (plain_node kind.Switch 0 (three (leaf kind.Var "x" 2)
    (plain_node kind.Case 5 (one (plain_node kind.Cond 6 (three (int_node type.Int 1 6) (int_node type.Int 2 8) (int_node type.Int 3 10)))))
    (plain_node kind.Empty 12 none))) ∷
    -- an `else` behind it belongs to the `if` around it: if ( x ) switch ( y ) { default : if ( z ) ; } else ;
    example Goal.statement no_typedef
    (w "if" 0 ∷ m LeftParenthesis 1 ∷ w "x" 2 ∷ m RightParenthesis 3 ∷ w "switch" 4 ∷ m LeftParenthesis 5 ∷ w "y" 6 ∷ m RightParenthesis 7 ∷
    m LeftBrace 8 ∷ w "default" 9 ∷ m Colon 10 ∷ w "if" 11 ∷ m LeftParenthesis 12 ∷ w "z" 13 ∷ m RightParenthesis 14 ∷ m Semicolon 15 ∷
    m RightBrace 16 ∷ w "else" 17 ∷ m Semicolon 18 ∷ [])
    (plain_node kind.If 0 (three (leaf kind.Var "x" 2)
    (plain_node kind.Switch 4 (three (leaf kind.Var "y" 6) (plain_node kind.Default 9 none)
    (plain_node kind.If 11 (two (leaf kind.Var "z" 13) (plain_node kind.Empty 15 none))))) (plain_node kind.Empty 18 none))) ∷
    -- a declaration in a block within: switch ( x ) { default : { int y ; } }
    example Goal.statement no_typedef
    (w "switch" 0 ∷ m LeftParenthesis 1 ∷ w "x" 2 ∷ m RightParenthesis 3 ∷ m LeftBrace 4 ∷ w "default" 5 ∷ m Colon 6 ∷ m LeftBrace 7 ∷
    w "int" 8 ∷ w "y" 9 ∷ m Semicolon 10 ∷ m RightBrace 11 ∷ m RightBrace 12 ∷ [])
    (plain_node kind.Switch 0 (three (leaf kind.Var "x" 2) (plain_node kind.Default 5 none)
    (plain_node kind.Block 7 (one (plain_node kind.Declaration 8 (two (int_at 8) (plain_node kind.InitDecl 9 (one (leaf kind.Ident "y" 9))))))))) ∷
    -- an enumerator of the expression is seen in the braces and behind them: { switch ( sizeof ( enum { t } ) ) { default : (t) - 1 ; } (t) - 1 ; }
    example Goal.statement with_t
    (m LeftBrace 0 ∷ w "switch" 1 ∷ m LeftParenthesis 2 ∷ w "sizeof" 3 ∷ m LeftParenthesis 4 ∷ w "enum" 5 ∷ m LeftBrace 6 ∷ w "t" 7 ∷
    m RightBrace 8 ∷ m RightParenthesis 9 ∷ m RightParenthesis 10 ∷ m LeftBrace 11 ∷ w "default" 12 ∷ m Colon 13 ∷ m LeftParenthesis 14 ∷
    w "t" 15 ∷ m RightParenthesis 16 ∷ m Minus 17 ∷ i 1 18 ∷ m Semicolon 19 ∷ m RightBrace 20 ∷ m LeftParenthesis 21 ∷ w "t" 22 ∷
    m RightParenthesis 23 ∷ m Minus 24 ∷ i 1 25 ∷ m Semicolon 26 ∷ m RightBrace 27 ∷ [])
    (plain_node kind.Block 0 (two
    (plain_node kind.Switch 1 (three (declares_t 3) (plain_node kind.Default 12 none)
    (plain_node kind.ExprStmt 14 (one (subtracts "t" 14))))) (plain_node kind.ExprStmt 21 (one (subtracts "t" 21))))) ∷
    -- one of a `case` in the braces alone: { switch ( x ) { case sizeof ( enum { t } ) : (t) - 1 ; } (t) - 1 ; }
    example Goal.statement with_t
    (m LeftBrace 0 ∷ w "switch" 1 ∷ m LeftParenthesis 2 ∷ w "x" 3 ∷ m RightParenthesis 4 ∷ m LeftBrace 5 ∷ w "case" 6 ∷ w "sizeof" 7 ∷
    m LeftParenthesis 8 ∷ w "enum" 9 ∷ m LeftBrace 10 ∷ w "t" 11 ∷ m RightBrace 12 ∷ m RightParenthesis 13 ∷ m Colon 14 ∷ m LeftParenthesis 15 ∷
    w "t" 16 ∷ m RightParenthesis 17 ∷ m Minus 18 ∷ i 1 19 ∷ m Semicolon 20 ∷ m RightBrace 21 ∷ m LeftParenthesis 22 ∷ w "t" 23 ∷
    m RightParenthesis 24 ∷ m Minus 25 ∷ i 1 26 ∷ m Semicolon 27 ∷ m RightBrace 28 ∷ [])
    (plain_node kind.Block 0 (two
    (plain_node kind.Switch 1 (three (leaf kind.Var "x" 3) (plain_node kind.Case 6 (one (declares_t 7)))
    (plain_node kind.ExprStmt 15 (one (subtracts "t" 15))))) (plain_node kind.ExprStmt 22 (one (casts "t" 22))))) ∷
    -- and one of a statement in the braces too: { switch ( x ) { default : sizeof ( enum { t } ) ; (t) - 1 ; } (t) - 1 ; }
    example Goal.statement with_t
    (m LeftBrace 0 ∷ w "switch" 1 ∷ m LeftParenthesis 2 ∷ w "x" 3 ∷ m RightParenthesis 4 ∷ m LeftBrace 5 ∷ w "default" 6 ∷ m Colon 7 ∷
    w "sizeof" 8 ∷ m LeftParenthesis 9 ∷ w "enum" 10 ∷ m LeftBrace 11 ∷ w "t" 12 ∷ m RightBrace 13 ∷ m RightParenthesis 14 ∷ m Semicolon 15 ∷
    m LeftParenthesis 16 ∷ w "t" 17 ∷ m RightParenthesis 18 ∷ m Minus 19 ∷ i 1 20 ∷ m Semicolon 21 ∷ m RightBrace 22 ∷ m LeftParenthesis 23 ∷
    w "t" 24 ∷ m RightParenthesis 25 ∷ m Minus 26 ∷ i 1 27 ∷ m Semicolon 28 ∷ m RightBrace 29 ∷ [])
    (plain_node kind.Block 0 (two
    (plain_node kind.Switch 1 ((leaf kind.Var "x" 3) then three (plain_node kind.Default 6 none)
    (plain_node kind.ExprStmt 8 (one (declares_t 8))) (plain_node kind.ExprStmt 16 (one (subtracts "t" 16)))))
    (plain_node kind.ExprStmt 23 (one (casts "t" 23))))) ∷
    []

switched_are_found : Found switched
unfolding and_then fit ahead_by ahead expect_by expect expect_word_by expect_word expect_identifier_by expect_identifier parameters_in void_in goes_on_behind_void_by joined_by joined_behind begins_specifier_by is_unary_by is_named_by is_absent_by has_name needs_name behind_const_by behind_const lower if_any after_any primary_by suffix_by suffixes postfix_in size_in unary_by unary_in cast_by cast_in operand_by operands binary_in choice_by conditional_in assigned_by assignment_in comma_by commas expression_in body_in tagged_by tag_by specifier_by specifier_in specifier_list_in specifiers_in specs_first takes_in declared_suffix_by declared_suffixes undeclared_in declared_by declared_in parameter_in type_name_in member_in value_by enumerator_by enumerator_in initializer_by initializer_in initialized_by init_declarator_in init_behind_by init_behind_in declaration_behind declaration_in declaration_from function_by external_in body_by optional_expression_in in_parentheses_then if_in while_in do_in for_behind for_in switch_in label_by label_in return_in expression_statement_in keyword_by statement_by statement_in goal_in listed listed_in_braces members_in items_in group_item_in groups_in externals_by externals_in arguments_in length_in declarators_behind rows_in level read
switched_are_found = refl

pub switched_are_derived : AllByRecursion (λ (e : Example). IsTree e.goal e.names e.tokens [] e.tree) switched
switched_are_derived = derived_of switched switched_are_found
