-- Shapes that hold and shapes that do not, by computation.
use Prim.Native.String.{String}
use Rattle.std.proofs.Common.{◌≡◌, map, Bool, true, false, List, [], ◌∷◌, refl, codes}
use Rattle.c_lexer.specs.declared.token.IntType.TheVariants as type
use Rattle.c_syntax.specs.declared.kind.SynKind.{SynKind}
use Rattle.c_syntax.specs.declared.kind.SynKind.TheVariants as kind
use Rattle.c_syntax.specs.Trees.{Tree, Forest, none, one, two, three, text_node, plain_node, int_node}
use Rattle.c_typing.specs.Shapes.{Category, unit, function, declaration, init_declarator, braces, specifiers, storage_word, typedef_name, type_specifier, member, enumerator, declarator, abstract_declarator, no_name, parameter, type_name, block, empty, statement, switch_label, expression, binary_level, category_by, is_within, are_specifiers, are_groups, kids_fit, text_fits, bytes_fit, value_fits, are_apart, has_shape, are_shaped, stands_in, lowest_kind, begins_with, categories_of, in_row, are_read_by}
use Rattle.c_grammar.specs.Scopes.{opened}
use Rattle.c_syntax.specs.Tables.{table_of}

-- ---- kids

record Kids : Type 0 where
  of : SynKind
  text : String
  kids : List Category

abbrev row : SynKind → String → List Category → Kids
row of text kids = record { of = of; text = text; kids = kids }

abbrev fit : Kids → Bool
fit r = kids_fit r.of (codes r.text) r.kids

-- the expressions `a`, `f(a)`, `-a`, `(t)a`, `a * b`, `a - b`, `a ? b : c`, `a = b` and `a, b`
abbrev name : Category
name = expression 0

abbrev called : Category
called = expression 1

abbrev negated : Category
negated = expression 2

abbrev converted : Category
converted = expression 3

abbrev product : Category
product = expression 4

abbrev difference : Category
difference = expression 5

abbrev choice : Category
choice = expression 14

abbrev assigned : Category
assigned = expression 15

abbrev listed : Category
listed = expression 16

abbrev allowed : List Kids
allowed =
    -- int x; int f(){}
    row kind.Unit "" (declaration ∷ function ∷ []) ∷
    row kind.Function "" (specifiers ∷ declarator ∷ block ∷ []) ∷
    -- int;
    row kind.Declaration "" (specifiers ∷ []) ∷
    row kind.Declaration "" (specifiers ∷ init_declarator ∷ init_declarator ∷ []) ∷
    -- x = {1}
    row kind.InitDecl "" (declarator ∷ braces ∷ []) ∷
    row kind.Braces "" (assigned ∷ braces ∷ []) ∷
    -- static t; t int; int const
    row kind.Specs "" (storage_word ∷ typedef_name ∷ []) ∷
    row kind.Specs "" (typedef_name ∷ type_specifier ∷ []) ∷
    row kind.Specs "" (type_specifier ∷ storage_word ∷ []) ∷
    row kind.StructSpec "s" [] ∷
    row kind.StructSpec "" (member ∷ []) ∷
    row kind.Enumer "red" (choice ∷ []) ∷
    -- *x; *; [3]; (*)
    row kind.Pointer "" (declarator ∷ []) ∷
    row kind.Pointer "" (no_name ∷ []) ∷
    row kind.ArrayOf "" (no_name ∷ name ∷ []) ∷
    row kind.Paren "" (abstract_declarator ∷ []) ∷
    row kind.Takes "" (declarator ∷ []) ∷
    row kind.Param "" (specifiers ∷ no_name ∷ []) ∷
    row kind.TypeName "" (specifiers ∷ abstract_declarator ∷ []) ∷
    row kind.Block "" (statement ∷ declaration ∷ []) ∷
    row kind.If "" (listed ∷ empty ∷ block ∷ []) ∷
    -- for(int i;;i = 1); for(;;){}
    row kind.For "" (declaration ∷ empty ∷ assigned ∷ empty ∷ []) ∷
    row kind.For "" (empty ∷ empty ∷ empty ∷ block ∷ []) ∷
    row kind.Return "" [] ∷
    -- switch(a){} switch(a){case 1: default: break; {} case 2: ;}
    row kind.Switch "" (name ∷ []) ∷
    row kind.Switch "" (name ∷ switch_label ∷ switch_label ∷ statement ∷ block ∷ switch_label ∷ empty ∷ []) ∷
    row kind.Case "" (choice ∷ []) ∷
    row kind.Paren "" (listed ∷ []) ∷
    -- -(t)a; ++f(a)
    row kind.Unary "-" (converted ∷ []) ∷
    row kind.Unary "++" (called ∷ []) ∷
    -- a - b - a * b
    row kind.Binary "-" (difference ∷ product ∷ []) ∷
    -- -a = b = c
    row kind.Assign "=" (negated ∷ assigned ∷ []) ∷
    row kind.Cond "" (difference ∷ listed ∷ choice ∷ []) ∷
    row kind.Comma "" (listed ∷ assigned ∷ []) ∷
    -- f(a)(a = b)
    row kind.Call "" (called ∷ assigned ∷ []) ∷
    row kind.Cast "" (type_name ∷ converted ∷ []) ∷
    row kind.SizeType "" (type_name ∷ []) ∷ []

abbrev refused : List Kids
refused =
    row kind.Unit "" [] ∷
    row kind.Unit "" (statement ∷ []) ∷
    -- a function without a body, and without a name
    row kind.Function "" (specifiers ∷ declarator ∷ []) ∷
    row kind.Function "" (specifiers ∷ abstract_declarator ∷ block ∷ []) ∷
    row kind.Declaration "" (specifiers ∷ declarator ∷ []) ∷
    row kind.InitDecl "" (declarator ∷ listed ∷ []) ∷
    row kind.Braces "" [] ∷
    row kind.Specs "" [] ∷
    -- int t, where `t` is a typedef name
    row kind.Specs "" (type_specifier ∷ typedef_name ∷ []) ∷
    row kind.Specs "" (typedef_name ∷ typedef_name ∷ []) ∷
    row kind.StructSpec "s" (enumerator ∷ []) ∷
    row kind.Member "" (specifiers ∷ []) ∷
    row kind.Enumer "red" (assigned ∷ []) ∷
    row kind.Ident "x" (declarator ∷ []) ∷
    row kind.Pointer "" (name ∷ []) ∷
    row kind.Paren "" (no_name ∷ []) ∷
    row kind.Takes "" (abstract_declarator ∷ []) ∷
    row kind.Takes "" (declarator ∷ declaration ∷ []) ∷
    row kind.Param "" (specifiers ∷ []) ∷
    row kind.TypeName "" (specifiers ∷ declarator ∷ []) ∷
    -- a parameter, a label or a function in a block
    row kind.Block "" (parameter ∷ []) ∷
    row kind.Block "" (switch_label ∷ []) ∷
    row kind.Block "" (function ∷ []) ∷
    row kind.If "" (name ∷ declaration ∷ []) ∷
    row kind.While "" (name ∷ switch_label ∷ []) ∷
    row kind.For "" (empty ∷ empty ∷ empty ∷ []) ∷
    row kind.For "" (statement ∷ empty ∷ empty ∷ empty ∷ []) ∷
    row kind.For "" (empty ∷ declaration ∷ empty ∷ empty ∷ []) ∷
    row kind.Switch "" (name ∷ statement ∷ []) ∷
    row kind.Switch "" (name ∷ switch_label ∷ []) ∷
    row kind.Switch "" (name ∷ switch_label ∷ declaration ∷ []) ∷
    row kind.Case "" [] ∷
    row kind.Case "" (assigned ∷ []) ∷
    row kind.Default "" (name ∷ []) ∷
    row kind.Unary "++" (converted ∷ []) ∷
    row kind.Binary "-" (difference ∷ difference ∷ []) ∷
    row kind.Binary "*" (difference ∷ name ∷ []) ∷
    row kind.Assign "=" (converted ∷ name ∷ []) ∷
    row kind.Cond "" (choice ∷ name ∷ name ∷ []) ∷
    row kind.Cond "" (name ∷ name ∷ listed ∷ []) ∷
    row kind.Comma "" (assigned ∷ listed ∷ []) ∷
    row kind.Call "" [] ∷
    row kind.Call "" (negated ∷ name ∷ []) ∷
    row kind.Call "" (name ∷ listed ∷ []) ∷
    row kind.SizeExpr "" (converted ∷ []) ∷
    row kind.SizeType "" (specifiers ∷ []) ∷ []

pub kids_allowed : map fit allowed ≡ map (λ r. true) allowed
unfolding binary_level is_within are_specifiers are_groups kids_fit
kids_allowed = refl

pub kids_refused : map fit refused ≡ map (λ r. false) refused
unfolding binary_level is_within are_specifiers are_groups kids_fit
kids_refused = refl

-- ---- texts

abbrev text : Kids → Bool
text r = text_fits r.of (codes r.text)

abbrev texts : List Kids
texts =
    row kind.Ident "x" [] ∷ row kind.Var "getchar" [] ∷ row kind.Word "int" [] ∷ row kind.Word "static" [] ∷ row kind.Word "t" [] ∷
    row kind.StructSpec "" [] ∷ row kind.EnumSpec "e" [] ∷ row kind.Unary "~" [] ∷ row kind.Post "--" [] ∷ row kind.Binary "<=" [] ∷
    row kind.Assign "<<=" [] ∷ row kind.Block "" [] ∷ []

abbrev no_texts : List Kids
no_texts =
    row kind.Ident "int" [] ∷ row kind.Var "sizeof" [] ∷ row kind.Word "return" [] ∷ row kind.StructSpec "void" [] ∷ row kind.Unary "/" [] ∷
    row kind.Post "+" [] ∷ row kind.Binary "=" [] ∷ row kind.Assign "==" [] ∷ row kind.Block "x" [] ∷ row kind.Char "a" [] ∷ []

pub texts_allowed : map text texts ≡ map (λ r. true) texts
unfolding binary_level text_fits
texts_allowed = refl

pub texts_refused : map text no_texts ≡ map (λ r. false) no_texts
unfolding binary_level text_fits
texts_refused = refl

-- ---- whole trees

abbrev named : SynKind → String → Forest → Tree
named of word kids = text_node of (codes word) 0 kids

abbrev int : Tree
int = plain_node kind.Specs 0 (one (named kind.Word "int" none))

-- int f(int (*a)[2]) { <body> }
abbrev function_with : Forest → Tree
function_with body = plain_node kind.Unit 0 (one (plain_node kind.Function 0 (three
    int
    (plain_node kind.Takes 0 (two (named kind.Ident "f" none)
    (plain_node kind.Param 0 (two int (plain_node kind.ArrayOf 0 (two (plain_node kind.Paren 0 (one (plain_node kind.Pointer 0 (one (named kind.Ident "a" none))))) (int_node type.Int 2 0)))))))
    (plain_node kind.Block 0 body))))

-- return (-a)[1] - f(a);
abbrev returned : Tree
returned = plain_node kind.Return 0 (one (named kind.Binary "-" (two
    (plain_node kind.Index 0 (two (plain_node kind.Paren 0 (one (named kind.Unary "-" (one (named kind.Var "a" none))))) (int_node type.Int 1 0)))
    (plain_node kind.Call 0 (two (named kind.Var "f" none) (named kind.Var "a" none))))))

pub a_unit : are_shaped (one (function_with (one returned))) ≡ true
unfolding binary_level category_by is_within are_specifiers are_groups kids_fit text_fits bytes_fit value_fits are_apart has_shape are_shaped
a_unit = refl

-- a label in the block
pub no_unit : are_shaped (one (function_with (two (plain_node kind.Default 0 none) returned))) ≡ false
unfolding binary_level category_by is_within are_specifiers are_groups kids_fit text_fits bytes_fit value_fits are_apart has_shape are_shaped
no_unit = refl

-- if(a) if(a); else; is no `if` with an `else` around an `if` without one; and `f(void)` has no parameter
pub nearest_if : has_shape (plain_node kind.If 0 (three (named kind.Var "a" none) (plain_node kind.If 0 (two (named kind.Var "a" none) (plain_node kind.Empty 0 none))) (plain_node kind.Empty 0 none))) ≡ false
unfolding category_by is_within kids_fit text_fits bytes_fit value_fits are_apart has_shape
nearest_if = refl

pub void_alone : has_shape (plain_node kind.Takes 0 (two (named kind.Ident "f" none)
    (plain_node kind.Param 0 (two (plain_node kind.Specs 0 (one (named kind.Word "void" none))) (plain_node kind.NoName 0 none))))) ≡ false
unfolding category_by is_within kids_fit text_fits bytes_fit value_fits are_apart has_shape
void_alone = refl

-- a name is the lowest node of its declarator: (*a)[2] and *
pub lowest_nodes : lowest_kind kind.ArrayOf (two (plain_node kind.Paren 0 (one (plain_node kind.Pointer 0 (one (named kind.Ident "a" none))))) (int_node type.Int 2 0)) ∷
    lowest_kind kind.Pointer (one (plain_node kind.NoName 0 none)) ∷ [] ≡ kind.Ident ∷ kind.NoName ∷ []
lowest_nodes = refl

pub begins : map (λ c. begins_with c kind.Ident) (declarator ∷ init_declarator ∷ no_name ∷ name ∷ parameter ∷ []) ≡ true ∷ true ∷ false ∷ false ∷ false ∷ []
unfolding begins_with
begins = refl

-- the categories of the nodes of a table, in order: int *f(int (*)[2]) { return (a, 1); }
abbrev short_unit : Tree
short_unit = plain_node kind.Unit 0 (one (plain_node kind.Function 0 (three
    int
    (plain_node kind.Pointer 0 (one (plain_node kind.Takes 0 (two (named kind.Ident "f" none)
    (plain_node kind.Param 0 (two int (plain_node kind.ArrayOf 0 (two (plain_node kind.Paren 0 (one (plain_node kind.Pointer 0 (one (plain_node kind.NoName 0 none))))) (int_node type.Int 2 0)))))))))
    (plain_node kind.Block 0 (one (plain_node kind.Return 0 (one (plain_node kind.Paren 0 (one (plain_node kind.Comma 0 (two (named kind.Var "a" none) (int_node type.Int 1 0))))))))))))

pub short_table : categories_of (table_of short_unit)
    ≡ type_specifier ∷ specifiers ∷ declarator ∷ type_specifier ∷ specifiers ∷ no_name ∷ abstract_declarator ∷ abstract_declarator ∷ name ∷ abstract_declarator
    ∷ parameter ∷ declarator ∷ declarator ∷ name ∷ name ∷ listed ∷ name ∷ statement ∷ block ∷ function ∷ unit ∷ []
unfolding category_by
short_table = refl

-- where some categories may stand
pub parents_of_some :
    stands_in switch_label kind.Switch ∷ stands_in switch_label kind.Block ∷ stands_in parameter kind.Takes ∷ stands_in parameter kind.Function
    ∷ stands_in block kind.Function ∷ stands_in statement kind.Function ∷ stands_in no_name kind.Paren ∷ stands_in unit kind.Unit ∷ []
    ≡ true ∷ false ∷ true ∷ false ∷ true ∷ false ∷ false ∷ false ∷ []
unfolding stands_in
parents_of_some = refl

-- ---- identifiers

-- typedef int t; int f(int t) { <items> }
abbrev behind_typedef : String → Forest → Tree
behind_typedef taken items = plain_node kind.Unit 0 (two
    (plain_node kind.Declaration 0 (two (plain_node kind.Specs 0 (two (named kind.Word "typedef" none) (named kind.Word "int" none)))
    (plain_node kind.InitDecl 0 (one (named kind.Ident "t" none)))))
    (plain_node kind.Function 0 (three
    int
    (plain_node kind.Takes 0 (two (named kind.Ident "f" none) (plain_node kind.Param 0 (two int (named kind.Ident taken none)))))
    (plain_node kind.Block 0 items))))

-- return t; t x;
abbrev uses_object : Tree
uses_object = plain_node kind.Return 0 (one (named kind.Var "t" none))

abbrev uses_type : Tree
uses_type = plain_node kind.Declaration 0 (two (plain_node kind.Specs 0 (one (named kind.Word "t" none))) (plain_node kind.InitDecl 0 (one (named kind.Ident "x" none))))

-- int t = 1;
abbrev hides_type : Tree
hides_type = plain_node kind.Declaration 0 (two int (plain_node kind.InitDecl 0 (two (named kind.Ident "t" none) (int_node type.Int 1 0))))

-- where the parameter is another name, where it is `t`, and where a declaration hides the type
pub reads : map (λ (t : Tree). are_read_by in_row (opened []) (one t)) (
    behind_typedef "a" (one uses_type) ∷ behind_typedef "a" (one uses_object) ∷
    behind_typedef "t" (one uses_type) ∷ behind_typedef "t" (one uses_object) ∷
    behind_typedef "a" (two hides_type uses_object) ∷ behind_typedef "a" (two hides_type uses_type) ∷
    behind_typedef "a" (two (plain_node kind.Block 0 (one hides_type)) uses_type) ∷ [])
    ≡ true ∷ false ∷ false ∷ true ∷ true ∷ false ∷ true ∷ []
unfolding are_read_by
reads = refl
