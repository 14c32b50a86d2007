-- Short token lists and their trees, where a rule is easy to get wrong.
use Rattle.std.specs.Prelude.{refl, [], ◌∷◌, codes}
use Rattle.c_lexer.specs.declared.token.IntType.TheVariants as type
use Rattle.c_lexer.specs.declared.token.Punct.TheVariants.{LeftBracket, RightBracket, LeftParenthesis, RightParenthesis, LeftBrace, RightBrace, PlusPlus, Star, Plus, Minus, PlusEqual, Question, Colon, Semicolon, Equal, Comma}
use Rattle.c_syntax.specs.declared.kind.SynKind.TheVariants as kind
use Rattle.c_syntax.specs.Trees.{none, ◌then◌, one, two, three, text_node, plain_node, int_node, string_node}
use Rattle.c_grammar.specs.Derivation as grammar
use Rattle.c_grammar.specs.Derivation.{Derives, IsTreeOf}
use Rattle.c_grammar.proofs.Lifts.{m, w, i, s, leaf, no_typedef, with_t, int_alone, typedef_alone, typedef_int, cast_as, unary_as, postfix_as, primary_as, name_as_cast, name_as, raise, as_assignment, as_expression}

-- ---- casts, sizes and parentheses

-- (t)x
pub cast_of_name : Derives with_t grammar.expression (m LeftParenthesis 0 ∷ w "t" 1 ∷ m RightParenthesis 2 ∷ w "x" 3 ∷ []) []
    (plain_node kind.Cast 0 (two
    (plain_node kind.TypeName 1 (two (plain_node kind.Specs 1 (one (leaf kind.Word "t" 1))) (plain_node kind.NoName 2 none)))
    (leaf kind.Var "x" 3)))
cast_of_name = as_expression (cast_as 10 (grammar.cast_to (grammar.bare_type (typedef_alone refl refl refl)) (name_as_cast refl refl)))

-- (x)
pub name_in_parentheses : Derives with_t grammar.expression (m LeftParenthesis 0 ∷ w "x" 1 ∷ m RightParenthesis 2 ∷ []) []
    (plain_node kind.Paren 0 (one (leaf kind.Var "x" 1)))
name_in_parentheses = as_expression (primary_as 10 (grammar.in_parentheses (as_expression (name_as 10 refl refl))))

-- (t)-1 with t a typedef name
pub cast_of_minus : Derives with_t grammar.expression (m LeftParenthesis 0 ∷ w "t" 1 ∷ m RightParenthesis 2 ∷ m Minus 3 ∷ i 1 4 ∷ []) []
    (plain_node kind.Cast 0 (two
    (plain_node kind.TypeName 1 (two (plain_node kind.Specs 1 (one (leaf kind.Word "t" 1))) (plain_node kind.NoName 2 none)))
    (text_node kind.Unary (codes "-") 3 (one (int_node type.Int 1 4)))))
cast_of_minus = as_expression (cast_as 10 (grammar.cast_to
    (grammar.bare_type (typedef_alone refl refl refl))
    (grammar.uncast (grammar.operator refl (grammar.uncast (grammar.plain (grammar.primary_of grammar.integer_constant)))))))

-- (t)-1 with t no typedef name
pub minus_behind_parentheses : Derives no_typedef grammar.expression (m LeftParenthesis 0 ∷ w "t" 1 ∷ m RightParenthesis 2 ∷ m Minus 3 ∷ i 1 4 ∷ []) []
    (text_node kind.Binary (codes "-") 0 (two
    (plain_node kind.Paren 0 (one (leaf kind.Var "t" 1)))
    (int_node type.Int 1 4)))
minus_behind_parentheses = as_expression (raise 8 (grammar.chain
    (primary_as 2 (grammar.in_parentheses (as_expression (name_as 10 refl refl))))
    refl
    (primary_as 1 grammar.integer_constant)))

-- sizeof (t)
pub size_of_typedef_name : Derives with_t grammar.expression (w "sizeof" 0 ∷ m LeftParenthesis 1 ∷ w "t" 2 ∷ m RightParenthesis 3 ∷ []) []
    (plain_node kind.SizeType 0 (one
    (plain_node kind.TypeName 2 (two (plain_node kind.Specs 2 (one (leaf kind.Word "t" 2))) (plain_node kind.NoName 3 none)))))
size_of_typedef_name = as_expression (unary_as 10 (grammar.size_of_type (grammar.bare_type (typedef_alone refl refl refl))))

-- sizeof (x)
pub size_of_parentheses : Derives with_t grammar.expression (w "sizeof" 0 ∷ m LeftParenthesis 1 ∷ w "x" 2 ∷ m RightParenthesis 3 ∷ []) []
    (plain_node kind.SizeExpr 0 (one (plain_node kind.Paren 1 (one (leaf kind.Var "x" 2)))))
size_of_parentheses = as_expression (unary_as 10 (grammar.size_of_expression
    (grammar.plain (grammar.primary_of (grammar.in_parentheses (as_expression (name_as 10 refl refl)))))))

-- ---- operators

-- a ? b : c ? d : e
pub choices_to_the_right : Derives no_typedef grammar.expression
    (w "a" 0 ∷ m Question 1 ∷ w "b" 2 ∷ m Colon 3 ∷ w "c" 4 ∷ m Question 5 ∷ w "d" 6 ∷ m Colon 7 ∷ w "e" 8 ∷ []) []
    (plain_node kind.Cond 0 (three (leaf kind.Var "a" 0) (leaf kind.Var "b" 2)
    (plain_node kind.Cond 4 (three (leaf kind.Var "c" 4) (leaf kind.Var "d" 6) (leaf kind.Var "e" 8)))))
choices_to_the_right = grammar.single_expression (grammar.unassigned (grammar.choice
    (name_as 10 refl refl)
    (as_expression (name_as 10 refl refl))
    (grammar.choice (name_as 10 refl refl) (as_expression (name_as 10 refl refl)) (grammar.unconditional (name_as 10 refl refl)))))

-- a = b ? c : d
pub choice_assigned : Derives no_typedef grammar.expression
    (w "a" 0 ∷ m Equal 1 ∷ w "b" 2 ∷ m Question 3 ∷ w "c" 4 ∷ m Colon 5 ∷ w "d" 6 ∷ []) []
    (text_node kind.Assign (codes "=") 0 (two (leaf kind.Var "a" 0)
    (plain_node kind.Cond 2 (three (leaf kind.Var "b" 2) (leaf kind.Var "c" 4) (leaf kind.Var "d" 6)))))
choice_assigned = grammar.single_expression (grammar.assigned
    (grammar.plain (grammar.primary_of (grammar.variable refl refl)))
    refl
    (grammar.unassigned (grammar.choice (name_as 10 refl refl) (as_expression (name_as 10 refl refl)) (grammar.unconditional (name_as 10 refl refl)))))

-- x += a
pub sum_assigned : Derives no_typedef grammar.expression (w "x" 0 ∷ m PlusEqual 1 ∷ w "a" 2 ∷ []) []
    (text_node kind.Assign (codes "+=") 0 (two (leaf kind.Var "x" 0) (leaf kind.Var "a" 2)))
sum_assigned = grammar.single_expression (grammar.assigned
    (grammar.plain (grammar.primary_of (grammar.variable refl refl)))
    refl
    (as_assignment (name_as 10 refl refl)))

-- - - x
pub minus_twice : Derives no_typedef grammar.expression (m Minus 0 ∷ m Minus 1 ∷ w "x" 2 ∷ []) []
    (text_node kind.Unary (codes "-") 0 (one (text_node kind.Unary (codes "-") 1 (one (leaf kind.Var "x" 2)))))
minus_twice = as_expression (unary_as 10 (grammar.operator refl (grammar.uncast (grammar.operator refl (name_as_cast refl refl)))))

-- * p ++
pub star_of_post : Derives no_typedef grammar.expression (m Star 0 ∷ w "p" 1 ∷ m PlusPlus 2 ∷ []) []
    (text_node kind.Unary (codes "*") 0 (one (text_node kind.Post (codes "++") 1 (one (leaf kind.Var "p" 1)))))
star_of_post = as_expression (unary_as 10 (grammar.operator refl
    (grammar.uncast (grammar.plain (grammar.post_increment (grammar.primary_of (grammar.variable refl refl)))))))

-- a - b - c
pub minus_to_the_left : Derives no_typedef grammar.expression (w "a" 0 ∷ m Minus 1 ∷ w "b" 2 ∷ m Minus 3 ∷ w "c" 4 ∷ []) []
    (text_node kind.Binary (codes "-") 0 (two
    (text_node kind.Binary (codes "-") 0 (two (leaf kind.Var "a" 0) (leaf kind.Var "b" 2)))
    (leaf kind.Var "c" 4)))
minus_to_the_left = as_expression (raise 8 (grammar.chain
    (grammar.chain (name_as 2 refl refl) refl (name_as 1 refl refl))
    refl
    (name_as 1 refl refl)))

-- a + b * c
pub star_before_plus : Derives no_typedef grammar.expression (w "a" 0 ∷ m Plus 1 ∷ w "b" 2 ∷ m Star 3 ∷ w "c" 4 ∷ []) []
    (text_node kind.Binary (codes "+") 0 (two
    (leaf kind.Var "a" 0)
    (text_node kind.Binary (codes "*") 2 (two (leaf kind.Var "b" 2) (leaf kind.Var "c" 4)))))
star_before_plus = as_expression (raise 8 (grammar.chain
    (name_as 2 refl refl)
    refl
    (grammar.chain (name_as 1 refl refl) refl (name_as 0 refl refl))))

-- f(a, b)
pub call_of_two : Derives no_typedef grammar.expression
    (w "f" 0 ∷ m LeftParenthesis 1 ∷ w "a" 2 ∷ m Comma 3 ∷ w "b" 4 ∷ m RightParenthesis 5 ∷ []) []
    (plain_node kind.Call 0 (three (leaf kind.Var "f" 0) (leaf kind.Var "a" 2) (leaf kind.Var "b" 4)))
call_of_two = as_expression (postfix_as 10 (grammar.call
    (grammar.primary_of (grammar.variable refl refl))
    (grammar.some_arguments (grammar.more_arguments (as_assignment (name_as 10 refl refl)) (grammar.last_argument (as_assignment (name_as 10 refl refl)))))))

-- "a" "b"
pub strings_joined : Derives no_typedef grammar.expression (s "a" 0 ∷ s "b" 1 ∷ []) [] (string_node (codes "ab") 0)
strings_joined = as_expression (primary_as 10 (grammar.string_literal (grammar.more_literals grammar.last_literal refl)))

-- ---- declarators

-- int (*)[]
pub pointer_to_array_type : Derives no_typedef grammar.type_name
    (w "int" 0 ∷ m LeftParenthesis 1 ∷ m Star 2 ∷ m RightParenthesis 3 ∷ m LeftBracket 4 ∷ m RightBracket 5 ∷ []) []
    (plain_node kind.TypeName 0 (two
    (plain_node kind.Specs 0 (one (leaf kind.Word "int" 0)))
    (plain_node kind.ArrayOf 1 (one (plain_node kind.Paren 1 (one (plain_node kind.Pointer 2 (one (plain_node kind.NoName 3 none)))))))))
pointer_to_array_type = grammar.derived_type int_alone (grammar.direct_of (grammar.abstract_array
    (grammar.abstract_in_parentheses (grammar.bare_pointer grammar.no_qualifier))
    grammar.no_length))

-- (*p)[]
pub pointer_to_array : Derives no_typedef grammar.declarator
    (m LeftParenthesis 0 ∷ m Star 1 ∷ w "p" 2 ∷ m RightParenthesis 3 ∷ m LeftBracket 4 ∷ m RightBracket 5 ∷ []) []
    (plain_node kind.ArrayOf 0 (one (plain_node kind.Paren 0 (one (plain_node kind.Pointer 1 (one (leaf kind.Ident "p" 2)))))))
pointer_to_array = grammar.direct (grammar.array_of
    (grammar.declarator_in_parentheses (grammar.pointer grammar.no_qualifier (grammar.direct (grammar.declared_name refl))))
    grammar.no_length)

-- int f(int (t)); with t a typedef name
pub parameter_in_parentheses : Derives with_t grammar.declaration
    (w "int" 0 ∷ w "f" 1 ∷ m LeftParenthesis 2 ∷ w "int" 3 ∷ m LeftParenthesis 4 ∷ w "t" 5 ∷ m RightParenthesis 6 ∷ m RightParenthesis 7 ∷ m Semicolon 8 ∷ []) []
    (plain_node kind.Declaration 0 (two
    (plain_node kind.Specs 0 (one (leaf kind.Word "int" 0)))
    (plain_node kind.InitDecl 1 (one (plain_node kind.Takes 1 (two
    (leaf kind.Ident "f" 1)
    (plain_node kind.Param 3 (two
    (plain_node kind.Specs 3 (one (leaf kind.Word "int" 3)))
    (plain_node kind.Paren 4 (one (leaf kind.Ident "t" 5)))))))))))
parameter_in_parentheses = grammar.full_declaration int_alone (grammar.last_init_declarator (grammar.uninitialized (grammar.direct (grammar.takes
    (grammar.declared_name refl)
    (grammar.last_parameter (grammar.named_parameter int_alone (grammar.direct (grammar.declarator_in_parentheses (grammar.direct (grammar.declared_name refl))))))
    refl))))

-- int f(void);
pub no_parameters : Derives no_typedef grammar.declaration
    (w "int" 0 ∷ w "f" 1 ∷ m LeftParenthesis 2 ∷ w "void" 3 ∷ m RightParenthesis 4 ∷ m Semicolon 5 ∷ []) []
    (plain_node kind.Declaration 0 (two
    (plain_node kind.Specs 0 (one (leaf kind.Word "int" 0)))
    (plain_node kind.InitDecl 1 (one (plain_node kind.Takes 1 (one (leaf kind.Ident "f" 1)))))))
no_parameters = grammar.full_declaration int_alone (grammar.last_init_declarator (grammar.uninitialized (grammar.direct (grammar.takes_void (grammar.declared_name refl)))))

-- ---- declarations

-- int a[] = { 1, 2, };
pub comma_before_brace : Derives no_typedef grammar.declaration
    (w "int" 0 ∷ w "a" 1 ∷ m LeftBracket 2 ∷ m RightBracket 3 ∷ m Equal 4 ∷ m LeftBrace 5 ∷ i 1 6 ∷ m Comma 7 ∷ i 2 8 ∷ m Comma 9 ∷ m RightBrace 10 ∷ m Semicolon 11 ∷ []) []
    (plain_node kind.Declaration 0 (two
    (plain_node kind.Specs 0 (one (leaf kind.Word "int" 0)))
    (plain_node kind.InitDecl 1 (two
    (plain_node kind.ArrayOf 1 (one (leaf kind.Ident "a" 1)))
    (plain_node kind.Braces 5 (two (int_node type.Int 1 6) (int_node type.Int 2 8)))))))
comma_before_brace = grammar.full_declaration int_alone (grammar.last_init_declarator (grammar.initialized
    (grammar.direct (grammar.array_of (grammar.declared_name refl) grammar.no_length))
    (grammar.braces (grammar.more_initializers
    (grammar.initial_value (as_assignment (primary_as 10 grammar.integer_constant)))
    (grammar.last_initializer_with_comma (grammar.initial_value (as_assignment (primary_as 10 grammar.integer_constant))))))))

-- struct s { t x; }; with t a typedef name
pub member_of_typedef_name : Derives with_t grammar.declaration
    (w "struct" 0 ∷ w "s" 1 ∷ m LeftBrace 2 ∷ w "t" 3 ∷ w "x" 4 ∷ m Semicolon 5 ∷ m RightBrace 6 ∷ m Semicolon 7 ∷ []) []
    (plain_node kind.Declaration 0 (one (plain_node kind.Specs 0 (one (text_node kind.StructSpec (codes "s") 0 (one
    (plain_node kind.Member 3 (two (plain_node kind.Specs 3 (one (leaf kind.Word "t" 3))) (leaf kind.Ident "x" 4)))))))))
member_of_typedef_name = grammar.bare_declaration (grammar.specs (grammar.last_specifier
    (grammar.struct_of (grammar.struct_with_tag refl (grammar.last_member (grammar.member_of
    (typedef_alone refl refl refl)
    (grammar.last_declarator (grammar.direct (grammar.declared_name refl)))))))
    refl))

-- typedef int t; t x;
pub typedef_used : IsTreeOf
    (w "typedef" 0 ∷ w "int" 1 ∷ w "t" 2 ∷ m Semicolon 3 ∷ w "t" 4 ∷ w "x" 5 ∷ m Semicolon 6 ∷ [])
    (plain_node kind.Unit 0 (two
    (plain_node kind.Declaration 0 (two
    (plain_node kind.Specs 0 (two (leaf kind.Word "typedef" 0) (leaf kind.Word "int" 1)))
    (plain_node kind.InitDecl 2 (one (leaf kind.Ident "t" 2)))))
    (plain_node kind.Declaration 4 (two
    (plain_node kind.Specs 4 (one (leaf kind.Word "t" 4)))
    (plain_node kind.InitDecl 5 (one (leaf kind.Ident "x" 5)))))))
typedef_used = grammar.unit_of (grammar.more_externals
    (grammar.declared typedef_int)
    (grammar.last_external (grammar.declared (grammar.full_declaration
    (typedef_alone refl refl refl)
    (grammar.last_init_declarator (grammar.uninitialized (grammar.direct (grammar.declared_name refl))))))))

-- typedef int t; const t;
pub nothing_declared : IsTreeOf
    (w "typedef" 0 ∷ w "int" 1 ∷ w "t" 2 ∷ m Semicolon 3 ∷ w "const" 4 ∷ w "t" 5 ∷ m Semicolon 6 ∷ [])
    (plain_node kind.Unit 0 (two
    (plain_node kind.Declaration 0 (two
    (plain_node kind.Specs 0 (two (leaf kind.Word "typedef" 0) (leaf kind.Word "int" 1)))
    (plain_node kind.InitDecl 2 (one (leaf kind.Ident "t" 2)))))
    (plain_node kind.Declaration 4 (one
    (plain_node kind.Specs 4 (two (leaf kind.Word "const" 4) (leaf kind.Word "t" 5)))))))
nothing_declared = grammar.unit_of (grammar.more_externals
    (grammar.declared typedef_int)
    (grammar.last_external (grammar.declared (grammar.bare_declaration
    (grammar.specs (grammar.more_specifiers (grammar.specifier_word refl) (grammar.last_specifier (grammar.typedef_name refl refl) refl)))))))

-- ---- hidden typedef names

-- { int t; t; } with t a typedef name
pub hidden_by_local : Derives with_t grammar.block
    (m LeftBrace 0 ∷ w "int" 1 ∷ w "t" 2 ∷ m Semicolon 3 ∷ w "t" 4 ∷ m Semicolon 5 ∷ m RightBrace 6 ∷ []) []
    (plain_node kind.Block 0 (two
    (plain_node kind.Declaration 1 (two
    (plain_node kind.Specs 1 (one (leaf kind.Word "int" 1)))
    (plain_node kind.InitDecl 2 (one (leaf kind.Ident "t" 2)))))
    (plain_node kind.ExprStmt 4 (one (leaf kind.Var "t" 4)))))
hidden_by_local = grammar.block_of (grammar.declaration_first
    (grammar.full_declaration int_alone (grammar.last_init_declarator (grammar.uninitialized (grammar.direct (grammar.declared_name refl)))))
    (grammar.statement_first (grammar.expression_statement (as_expression (name_as 10 refl refl))) grammar.no_items))

-- { enum { t }; t; } with t a typedef name
pub hidden_by_enumerator : Derives with_t grammar.block
    (m LeftBrace 0 ∷ w "enum" 1 ∷ m LeftBrace 2 ∷ w "t" 3 ∷ m RightBrace 4 ∷ m Semicolon 5 ∷ w "t" 6 ∷ m Semicolon 7 ∷ m RightBrace 8 ∷ []) []
    (plain_node kind.Block 0 (two
    (plain_node kind.Declaration 1 (one (plain_node kind.Specs 1 (one (plain_node kind.EnumSpec 1 (one (leaf kind.Enumer "t" 3)))))))
    (plain_node kind.ExprStmt 6 (one (leaf kind.Var "t" 6)))))
hidden_by_enumerator = grammar.block_of (grammar.declaration_first
    (grammar.bare_declaration (grammar.specs (grammar.last_specifier
    (grammar.enum_of (grammar.enum_without_tag (grammar.last_enumerator (grammar.enumerator_name refl))))
    refl)))
    (grammar.statement_first (grammar.expression_statement (as_expression (name_as 10 refl refl))) grammar.no_items))

-- typedef int t; int f(int t) { return (t)-1; }
pub hidden_by_parameter : IsTreeOf
    (w "typedef" 0 ∷ w "int" 1 ∷ w "t" 2 ∷ m Semicolon 3 ∷ w "int" 4 ∷ w "f" 5 ∷ m LeftParenthesis 6 ∷ w "int" 7 ∷ w "t" 8 ∷ m RightParenthesis 9 ∷
    m LeftBrace 10 ∷ w "return" 11 ∷ m LeftParenthesis 12 ∷ w "t" 13 ∷ m RightParenthesis 14 ∷ m Minus 15 ∷ i 1 16 ∷ m Semicolon 17 ∷ m RightBrace 18 ∷ [])
    (plain_node kind.Unit 0 (two
    (plain_node kind.Declaration 0 (two
    (plain_node kind.Specs 0 (two (leaf kind.Word "typedef" 0) (leaf kind.Word "int" 1)))
    (plain_node kind.InitDecl 2 (one (leaf kind.Ident "t" 2)))))
    (plain_node kind.Function 4 (three
    (plain_node kind.Specs 4 (one (leaf kind.Word "int" 4)))
    (plain_node kind.Takes 5 (two
    (leaf kind.Ident "f" 5)
    (plain_node kind.Param 7 (two (plain_node kind.Specs 7 (one (leaf kind.Word "int" 7))) (leaf kind.Ident "t" 8)))))
    (plain_node kind.Block 10 (one (plain_node kind.Return 11 (one (text_node kind.Binary (codes "-") 12 (two
    (plain_node kind.Paren 12 (one (leaf kind.Var "t" 13)))
    (int_node type.Int 1 16)))))))))))
hidden_by_parameter = grammar.unit_of (grammar.more_externals
    (grammar.declared typedef_int)
    (grammar.last_external (grammar.function
    int_alone
    (grammar.direct (grammar.takes (grammar.declared_name refl) (grammar.last_parameter (grammar.named_parameter int_alone (grammar.direct (grammar.declared_name refl)))) refl))
    (grammar.statement_first
    (grammar.return_value (as_expression (raise 8 (grammar.chain
    (primary_as 2 (grammar.in_parentheses (as_expression (name_as 10 refl refl))))
    refl
    (primary_as 1 grammar.integer_constant)))))
    grammar.no_items))))

-- ---- statements

-- if (a) if (b) x; else y;
pub else_of_inner_if : Derives no_typedef grammar.statement
    (w "if" 0 ∷ m LeftParenthesis 1 ∷ w "a" 2 ∷ m RightParenthesis 3 ∷ w "if" 4 ∷ m LeftParenthesis 5 ∷ w "b" 6 ∷ m RightParenthesis 7 ∷
    w "x" 8 ∷ m Semicolon 9 ∷ w "else" 10 ∷ w "y" 11 ∷ m Semicolon 12 ∷ []) []
    (plain_node kind.If 0 (two (leaf kind.Var "a" 2)
    (plain_node kind.If 4 (three (leaf kind.Var "b" 6)
    (plain_node kind.ExprStmt 8 (one (leaf kind.Var "x" 8)))
    (plain_node kind.ExprStmt 11 (one (leaf kind.Var "y" 11)))))))
else_of_inner_if = grammar.if_then
    (as_expression (name_as 10 refl refl))
    (grammar.if_else
    (as_expression (name_as 10 refl refl))
    (grammar.expression_statement (as_expression (name_as 10 refl refl)))
    refl
    (grammar.expression_statement (as_expression (name_as 10 refl refl))))

-- for (int i = 0; ; ) ;
pub for_with_declaration : Derives no_typedef grammar.statement
    (w "for" 0 ∷ m LeftParenthesis 1 ∷ w "int" 2 ∷ w "i" 3 ∷ m Equal 4 ∷ i 0 5 ∷ m Semicolon 6 ∷ m Semicolon 7 ∷ m RightParenthesis 8 ∷ m Semicolon 9 ∷ []) []
    (plain_node kind.For 0
    (plain_node kind.Declaration 2 (two
    (plain_node kind.Specs 2 (one (leaf kind.Word "int" 2)))
    (plain_node kind.InitDecl 3 (two (leaf kind.Ident "i" 3) (int_node type.Int 0 5))))
    then three (plain_node kind.Empty 7 none) (plain_node kind.Empty 8 none) (plain_node kind.Empty 9 none)))
for_with_declaration = grammar.for_declaration
    (grammar.full_declaration int_alone (grammar.last_init_declarator (grammar.initialized
    (grammar.direct (grammar.declared_name refl))
    (grammar.initial_value (as_assignment (primary_as 10 grammar.integer_constant))))))
    grammar.absent
    grammar.absent
    grammar.empty_statement
