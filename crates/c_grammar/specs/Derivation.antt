-- The derivation of syntax trees from tokens. C99 6.5, 6.7, 6.8 and 6.9, without what docs/DECISIONS.md leaves out.
--
-- `Derives names part a b t`: the tokens from a on, up to b, are the part, its tree is t, and before it the identifiers are
-- read by these names. `Lists names row a b ts` says the same of parts in a row and their trees. Each rule stands under its
-- line of the grammar.
use Rattle.std.specs.Prelude.{◌≡◌, ℕ, suc, Bool, true, false, List, [], ◌∷◌, ◌++◌, ◌||◌, ◌&&◌, not, codes}
use Rattle.std.specs.Str.{bytes_eq}
use Rattle.c_lexer.specs.declared.token.IntType.{IntType}
use Rattle.c_lexer.specs.declared.token.Punct.{Punct}
use Rattle.c_lexer.specs.declared.token.Punct.TheVariants.{LeftBracket, RightBracket, LeftParenthesis, RightParenthesis, LeftBrace, RightBrace, Dot, Arrow, PlusPlus, MinusMinus, Star, Question, Colon, Semicolon, Equal, Comma}
use Rattle.c_lexer.specs.declared.token.Token.{Token}
use Rattle.c_lexer.specs.declared.token.TokenKind.{TokenKind}
use Rattle.c_lexer.specs.declared.token.TokenKind.TheVariants as token
use Rattle.c_lexer.specs.Marks.{mark_text}
use Rattle.c_syntax.specs.declared.kind.SynKind.{SynKind}
use Rattle.c_syntax.specs.declared.kind.SynKind.TheVariants as kind
use Rattle.c_syntax.specs.Trees.{Tree, Forest, none, tree, ◌then◌, one, two, three, text_node, plain_node, int_node, char_node, string_node}
use Rattle.c_grammar.specs.Vocabulary.{is_identifier, is_type_word, is_storage_word, is_unary_operator, is_assignment, level_of, Place, mark, word, integer, character, string, start_of}
use Rattle.c_grammar.specs.Scopes.{Names, opened, is_typedef_name, add, says_type, says_typedef, after, after_declarator, after_parameter, entries_behind, in_body}

-- ---- parts

-- what stands for one tree
pub data Part : Type 0 where
  unit : Part
  external : Part
  declaration : Part
  -- behind specs that say `typedef`, or do not
  init_declarator : Bool → Part
  initializer : Part
  specifiers : Part
  -- behind specs that say a type, or do not
  specifier : Bool → Part
  struct_specifier : Part
  member : Part
  enum_specifier : Part
  enumerator : Part
  declarator : Part
  direct_declarator : Part
  parameter : Part
  type_name : Part
  abstract_declarator : Part
  direct_abstract : Part
  block : Part
  statement : Part
  switch_label : Part
  -- an expression, or nothing
  optional_expression : Part
  expression : Part
  assignment : Part
  conditional : Part
  -- of operators of this level at most; of level 0 it is a cast
  binary : ℕ → Part
  cast : Part
  unary : Part
  postfix : Part
  primary : Part

-- a place in the braces of a `switch`
pub data Standing : Type 0 where
  at_first : Standing
  behind_label : Standing
  behind_statement : Standing

-- what stands for trees
pub data Row : Type 0 where
  externals : Row
  init_declarators : Bool → Row
  initializers : Row
  specifier_list : Bool → Row
  members : Row
  declarators : Row
  enumerators : Row
  parameters : Row
  block_items : Row
  -- from such a place on
  groups : Standing → Row
  arguments : Row
  argument_list : Row
  -- a conditional expression, or nothing
  optional_length : Row

-- the start of a tree
abbrev pub start : Tree → ℕ
start t = t.label.start

-- ---- what the rules ask of trees

-- the statement ends in an `if` without an `else`
abbrev pub ends_open_by : SynKind → Forest → Bool → Bool
ends_open_by kind.If (tree c ck (tree s sk none)) last = true
ends_open_by kind.If kids last = last
ends_open_by kind.While kids last = last
ends_open_by kind.For kids last = last
ends_open_by other kids last = false

-- the last of the trees does
abbrev pub last_ends_open : Forest → Bool
last_ends_open none = false
last_ends_open (tree label kids none) = ends_open_by label.kind kids (last_ends_open kids)
last_ends_open (tree label kids (tree next below rest)) = last_ends_open (tree next below rest)

abbrev pub ends_open : Tree → Bool
ends_open t = last_ends_open (one t)

-- the groups of a `switch` may end there: a statement stands behind each label. C99 6.8.1
abbrev pub may_end : Standing → Bool
may_end behind_label = false
may_end other = true

-- a statement may stand there: a label stands somewhere before it
abbrev pub is_labelled : Standing → Bool
is_labelled at_first = false
is_labelled other = true

-- the parameters are the word `void` alone
abbrev pub is_lone_void : Forest → Bool
is_lone_void (tree p (tree s (tree w none none) (tree n none none)) none) = is_void_by w.kind n.kind (bytes_eq w.text (codes "void"))
  where
    is_void_by : SynKind → SynKind → Bool → Bool
    is_void_by kind.Word kind.NoName same = same
    is_void_by other name same = false
is_lone_void other = false

-- the token is a typedef name
abbrev pub is_typedef_token : Names → TokenKind → Bool
is_typedef_token names (token.Word text) = is_identifier text && is_typedef_name names text
is_typedef_token names other = false

-- the first token is
abbrev pub begins_with_typedef_name : Names → List Token → Bool
begins_with_typedef_name names [] = false
begins_with_typedef_name names (t ∷ rest) = is_typedef_token names t.kind

-- where the first of trees starts
abbrev pub first_start : Forest → ℕ
first_start none = 0
first_start (tree label kids rest) = label.start

-- the place of an absent name, before these tokens
abbrev pub no_name : List Token → Tree
no_name b = plain_node kind.NoName (start_of b) none

-- ---- tokens that make no tree of their own

-- { "const" }
pub data Qualifiers : List Token → List Token → Type 0 where
  no_qualifier : {b : List Token} → Qualifiers b b
  qualifier : {at : Place} {a b : List Token} → Qualifiers a b → Qualifiers (word (codes "const") at ∷ a) b

-- string { string }, with the joined bytes
pub data Literals : List Token → List Token → List ℕ → Type 0 where
  last_literal : {bytes : List ℕ} {at : Place} {b : List Token} → Literals (string bytes at ∷ b) b bytes
  more_literals : {bytes more joined : List ℕ} {at : Place} {a b : List Token} → Literals a b more → joined ≡ bytes ++ more → Literals (string bytes at ∷ a) b joined

-- ---- the rules

mutual
  pub data Derives : Names → Part → List Token → List Token → Tree → Type 0 where
    -- unit = external { external }
    unit_of : {names : Names} {a b : List Token} {ts : Forest}
        → Lists names externals a b ts
        → Derives names unit a b (plain_node kind.Unit (first_start ts) ts)
    -- external = specs declarator block | declaration
    function : {names : Names} {a b c e : List Token} {s d : Tree} {at at2 : Place} {items : Forest}
        → Derives names specifiers a b s
        → Derives (after names s) declarator b (mark LeftBrace at ∷ c) d
        → Lists (in_body names s d) block_items c (mark RightBrace at2 ∷ e) items
        → Derives names external a e (plain_node kind.Function (start s) (three s d (plain_node kind.Block at.start items)))
    declared : {names : Names} {a b : List Token} {t : Tree}
        → Derives names declaration a b t
        → Derives names external a b t
    -- declaration = specs [ initdecl { "," initdecl } ] ";"
    bare_declaration : {names : Names} {a b : List Token} {at : Place} {s : Tree}
        → Derives names specifiers a (mark Semicolon at ∷ b) s
        → Derives names declaration a b (plain_node kind.Declaration (start s) (one s))
    full_declaration : {names : Names} {a b c : List Token} {s : Tree} {at : Place} {ds : Forest}
        → Derives names specifiers a b s
        → Lists (after names s) (init_declarators (says_typedef (one s))) b (mark Semicolon at ∷ c) ds
        → Derives names declaration a c (plain_node kind.Declaration (start s) (s then ds))
    -- initdecl = declarator [ "=" init ]
    uninitialized : {names : Names} {a b : List Token} {d : Tree} {is_typedef : Bool}
        → Derives names declarator a b d
        → Derives names (init_declarator is_typedef) a b (plain_node kind.InitDecl (start d) (one d))
    initialized : {names : Names} {a b c : List Token} {at : Place} {d i : Tree} {is_typedef : Bool}
        → Derives names declarator a (mark Equal at ∷ b) d
        → Derives (after_declarator names is_typedef d) initializer b c i
        → Derives names (init_declarator is_typedef) a c (plain_node kind.InitDecl (start d) (two d i))
    -- init = assign | "{" init { "," init } [ "," ] "}"
    initial_value : {names : Names} {a b : List Token} {t : Tree}
        → Derives names assignment a b t
        → Derives names initializer a b t
    braces : {names : Names} {a b : List Token} {at2 at : Place} {ts : Forest}
        → Lists names initializers a (mark RightBrace at2 ∷ b) ts
        → Derives names initializer (mark LeftBrace at ∷ a) b (plain_node kind.Braces at.start ts)
    -- specs = spec { spec }
    specs : {names : Names} {a b : List Token} {ts : Forest}
        → Lists names (specifier_list false) a b ts
        → Derives names specifiers a b (plain_node kind.Specs (first_start ts) ts)
    -- spec = "typedef" | "extern" | "static" | "auto" | "register" | "const" | typeword | struct | enum | typedefname
    specifier_word : {text : List ℕ} {names : Names} {typed : Bool} {at : Place} {b : List Token}
        → is_type_word text || is_storage_word text ≡ true
        → Derives names (specifier typed) (word text at ∷ b) b (text_node kind.Word text at.start none)
    typedef_name : {text : List ℕ} {names : Names} {at : Place} {b : List Token}
        → is_identifier text ≡ true
        → is_typedef_name names text ≡ true
        → Derives names (specifier false) (word text at ∷ b) b (text_node kind.Word text at.start none)
    struct_of : {names : Names} {a b : List Token} {t : Tree} {typed : Bool}
        → Derives names struct_specifier a b t
        → Derives names (specifier typed) a b t
    enum_of : {names : Names} {a b : List Token} {t : Tree} {typed : Bool}
        → Derives names enum_specifier a b t
        → Derives names (specifier typed) a b t
    -- struct = "struct" [ ident ] "{" member { member } "}" | "struct" ident
    struct_without_tag : {names : Names} {a b : List Token} {at3 at at2 : Place} {ms : Forest}
        → Lists names members a (mark RightBrace at3 ∷ b) ms
        → Derives names struct_specifier (word (codes "struct") at ∷ mark LeftBrace at2 ∷ a) b (text_node kind.StructSpec [] at.start ms)
    struct_with_tag : {text : List ℕ} {names : Names} {a b : List Token} {at4 at at2 at3 : Place} {ms : Forest}
        → is_identifier text ≡ true
        → Lists names members a (mark RightBrace at4 ∷ b) ms
        → Derives names struct_specifier (word (codes "struct") at ∷ word text at2 ∷ mark LeftBrace at3 ∷ a) b (text_node kind.StructSpec text at.start ms)
    struct_tag : {text : List ℕ} {names : Names} {at at2 : Place} {b : List Token}
        → is_identifier text ≡ true
        → Derives names struct_specifier (word (codes "struct") at ∷ word text at2 ∷ b) b (text_node kind.StructSpec text at.start none)
    -- member = specs declarator { "," declarator } ";"
    member_of : {names : Names} {a b c : List Token} {s : Tree} {at : Place} {ds : Forest}
        → Derives names specifiers a b s
        → Lists (after names s) declarators b (mark Semicolon at ∷ c) ds
        → Derives names member a c (plain_node kind.Member (start s) (s then ds))
    -- enum = "enum" [ ident ] "{" enumer { "," enumer } [ "," ] "}" | "enum" ident
    enum_without_tag : {names : Names} {a b : List Token} {at3 at at2 : Place} {es : Forest}
        → Lists names enumerators a (mark RightBrace at3 ∷ b) es
        → Derives names enum_specifier (word (codes "enum") at ∷ mark LeftBrace at2 ∷ a) b (text_node kind.EnumSpec [] at.start es)
    enum_with_tag : {text : List ℕ} {names : Names} {a b : List Token} {at4 at at2 at3 : Place} {es : Forest}
        → is_identifier text ≡ true
        → Lists names enumerators a (mark RightBrace at4 ∷ b) es
        → Derives names enum_specifier (word (codes "enum") at ∷ word text at2 ∷ mark LeftBrace at3 ∷ a) b (text_node kind.EnumSpec text at.start es)
    enum_tag : {text : List ℕ} {names : Names} {at at2 : Place} {b : List Token}
        → is_identifier text ≡ true
        → Derives names enum_specifier (word (codes "enum") at ∷ word text at2 ∷ b) b (text_node kind.EnumSpec text at.start none)
    -- enumer = ident [ "=" cond ]
    enumerator_name : {text : List ℕ} {names : Names} {at : Place} {b : List Token}
        → is_identifier text ≡ true
        → Derives names enumerator (word text at ∷ b) b (text_node kind.Enumer text at.start none)
    enumerator_value : {text : List ℕ} {names : Names} {a b : List Token} {v : Tree} {at at2 : Place}
        → is_identifier text ≡ true
        → Derives names conditional a b v
        → Derives names enumerator (word text at ∷ mark Equal at2 ∷ a) b (text_node kind.Enumer text at.start (one v))
    -- declarator = { "*" { "const" } } direct
    pointer : {a b c : List Token} {names : Names} {d : Tree} {at : Place}
        → Qualifiers a b
        → Derives names declarator b c d
        → Derives names declarator (mark Star at ∷ a) c (plain_node kind.Pointer at.start (one d))
    direct : {names : Names} {a b : List Token} {d : Tree}
        → Derives names direct_declarator a b d
        → Derives names declarator a b d
    -- direct = ( ident | "(" declarator ")" ) { suffix }
    declared_name : {text : List ℕ} {names : Names} {at : Place} {b : List Token}
        → is_identifier text ≡ true
        → Derives names direct_declarator (word text at ∷ b) b (text_node kind.Ident text at.start none)
    declarator_in_parentheses : {names : Names} {a b : List Token} {at2 at : Place} {d : Tree}
        → Derives names declarator a (mark RightParenthesis at2 ∷ b) d
        → Derives names direct_declarator (mark LeftParenthesis at ∷ a) b (plain_node kind.Paren at.start (one d))
    -- suffix = "[" [ cond ] "]" | "(" [ params ] ")"; params = "void" | param { "," param }
    array_of : {names : Names} {a b c : List Token} {at at2 : Place} {d : Tree} {n : Forest}
        → Derives names direct_declarator a (mark LeftBracket at ∷ b) d
        → Lists (after names d) optional_length b (mark RightBracket at2 ∷ c) n
        → Derives names direct_declarator a c (plain_node kind.ArrayOf (start d) (d then n))
    takes_anything : {names : Names} {a b : List Token} {at at2 : Place} {d : Tree}
        → Derives names direct_declarator a (mark LeftParenthesis at ∷ mark RightParenthesis at2 ∷ b) d
        → Derives names direct_declarator a b (plain_node kind.Takes (start d) (one d))
    takes_void : {names : Names} {a b : List Token} {at at2 at3 : Place} {d : Tree}
        → Derives names direct_declarator a (mark LeftParenthesis at ∷ word (codes "void") at2 ∷ mark RightParenthesis at3 ∷ b) d
        → Derives names direct_declarator a b (plain_node kind.Takes (start d) (one d))
    takes : {names : Names} {a b c : List Token} {at at2 : Place} {d : Tree} {ps : Forest}
        → Derives names direct_declarator a (mark LeftParenthesis at ∷ b) d
        → Lists (opened (after names d)) parameters b (mark RightParenthesis at2 ∷ c) ps
        → is_lone_void ps ≡ false
        → Derives names direct_declarator a c (plain_node kind.Takes (start d) (d then ps))
    -- param = specs [ declarator | abstract ]
    named_parameter : {names : Names} {a b c : List Token} {s d : Tree}
        → Derives names specifiers a b s
        → Derives (after names s) declarator b c d
        → Derives names parameter a c (plain_node kind.Param (start s) (two s d))
    abstract_parameter : {names : Names} {a b c : List Token} {s d : Tree}
        → Derives names specifiers a b s
        → Derives (after names s) abstract_declarator b c d
        → Derives names parameter a c (plain_node kind.Param (start s) (two s d))
    bare_parameter : {names : Names} {a b : List Token} {s : Tree}
        → Derives names specifiers a b s
        → Derives names parameter a b (plain_node kind.Param (start s) (two s (no_name b)))
    -- typename = specs [ abstract ]
    derived_type : {names : Names} {a b c : List Token} {s d : Tree}
        → Derives names specifiers a b s
        → Derives (after names s) abstract_declarator b c d
        → Derives names type_name a c (plain_node kind.TypeName (start s) (two s d))
    bare_type : {names : Names} {a b : List Token} {s : Tree}
        → Derives names specifiers a b s
        → Derives names type_name a b (plain_node kind.TypeName (start s) (two s (no_name b)))
    -- abstract = "*" { "const" } [ abstract ] | dabs
    abstract_pointer : {a b c : List Token} {names : Names} {d : Tree} {at : Place}
        → Qualifiers a b
        → Derives names abstract_declarator b c d
        → Derives names abstract_declarator (mark Star at ∷ a) c (plain_node kind.Pointer at.start (one d))
    bare_pointer : {a b : List Token} {names : Names} {at : Place}
        → Qualifiers a b
        → Derives names abstract_declarator (mark Star at ∷ a) b (plain_node kind.Pointer at.start (one (no_name b)))
    direct_of : {names : Names} {a b : List Token} {d : Tree}
        → Derives names direct_abstract a b d
        → Derives names abstract_declarator a b d
    -- dabs = ( "(" abstract ")" | "[" [ cond ] "]" ) { "[" [ cond ] "]" }
    abstract_in_parentheses : {names : Names} {a b : List Token} {at2 at : Place} {d : Tree}
        → Derives names abstract_declarator a (mark RightParenthesis at2 ∷ b) d
        → Derives names direct_abstract (mark LeftParenthesis at ∷ a) b (plain_node kind.Paren at.start (one d))
    bare_array : {names : Names} {a b : List Token} {at2 at : Place} {n : Forest}
        → Lists names optional_length a (mark RightBracket at2 ∷ b) n
        → Derives names direct_abstract (mark LeftBracket at ∷ a) b (plain_node kind.ArrayOf at.start (plain_node kind.NoName at.start none then n))
    abstract_array : {names : Names} {a b c : List Token} {at at2 : Place} {d : Tree} {n : Forest}
        → Derives names direct_abstract a (mark LeftBracket at ∷ b) d
        → Lists (after names d) optional_length b (mark RightBracket at2 ∷ c) n
        → Derives names direct_abstract a c (plain_node kind.ArrayOf (start d) (d then n))
    -- block = "{" { declaration | stmt } "}"
    block_of : {names : Names} {a b : List Token} {at2 at : Place} {ts : Forest}
        → Lists (opened names) block_items a (mark RightBrace at2 ∷ b) ts
        → Derives names block (mark LeftBrace at ∷ a) b (plain_node kind.Block at.start ts)
    -- stmt = block | [ expr ] ";"
    block_statement : {names : Names} {a b : List Token} {t : Tree}
        → Derives names block a b t
        → Derives names statement a b t
    empty_statement : {names : Names} {at : Place} {b : List Token}
        → Derives names statement (mark Semicolon at ∷ b) b (plain_node kind.Empty at.start none)
    expression_statement : {names : Names} {a b : List Token} {at : Place} {x : Tree}
        → Derives names expression a (mark Semicolon at ∷ b) x
        → Derives names statement a b (plain_node kind.ExprStmt (start x) (one x))
    -- "if" "(" expr ")" stmt [ "else" stmt ]; an `else` belongs to the nearest `if` that can take it
    if_then : {names : Names} {a b c : List Token} {at3 at at2 : Place} {x s : Tree}
        → Derives names expression a (mark RightParenthesis at3 ∷ b) x
        → Derives (after names x) statement b c s
        → Derives names statement (word (codes "if") at ∷ mark LeftParenthesis at2 ∷ a) c (plain_node kind.If at.start (two x s))
    if_else : {names : Names} {a b c d : List Token} {at3 at4 at at2 : Place} {x s t : Tree}
        → Derives names expression a (mark RightParenthesis at3 ∷ b) x
        → Derives (after names x) statement b (word (codes "else") at4 ∷ c) s
        → ends_open s ≡ false
        → Derives (after (after names x) s) statement c d t
        → Derives names statement (word (codes "if") at ∷ mark LeftParenthesis at2 ∷ a) d (plain_node kind.If at.start (three x s t))
    -- "while" "(" expr ")" stmt | "do" stmt "while" "(" expr ")" ";"
    while_do : {names : Names} {a b c : List Token} {at3 at at2 : Place} {x s : Tree}
        → Derives names expression a (mark RightParenthesis at3 ∷ b) x
        → Derives (after names x) statement b c s
        → Derives names statement (word (codes "while") at ∷ mark LeftParenthesis at2 ∷ a) c (plain_node kind.While at.start (two x s))
    do_while : {names : Names} {a b c : List Token} {at2 at3 at4 at5 at : Place} {s x : Tree}
        → Derives names statement a (word (codes "while") at2 ∷ mark LeftParenthesis at3 ∷ b) s
        → Derives (after names s) expression b (mark RightParenthesis at4 ∷ mark Semicolon at5 ∷ c) x
        → Derives names statement (word (codes "do") at ∷ a) c (plain_node kind.Do at.start (two s x))
    -- "for" "(" ( declaration | [ expr ] ";" ) [ expr ] ";" [ expr ] ")" stmt
    for_declaration : {names : Names} {a b c d e : List Token} {f x y s : Tree} {at3 at4 at at2 : Place}
        → Derives (opened names) declaration a b f
        → Derives (after (opened names) f) optional_expression b (mark Semicolon at3 ∷ c) x
        → Derives (after (after (opened names) f) x) optional_expression c (mark RightParenthesis at4 ∷ d) y
        → Derives (after (after (after (opened names) f) x) y) statement d e s
        → Derives names statement (word (codes "for") at ∷ mark LeftParenthesis at2 ∷ a) e (plain_node kind.For at.start (f then three x y s))
    for_expression : {names : Names} {a b c d e : List Token} {at3 at4 at5 at at2 : Place} {f x y s : Tree}
        → Derives (opened names) optional_expression a (mark Semicolon at3 ∷ b) f
        → Derives (after (opened names) f) optional_expression b (mark Semicolon at4 ∷ c) x
        → Derives (after (after (opened names) f) x) optional_expression c (mark RightParenthesis at5 ∷ d) y
        → Derives (after (after (after (opened names) f) x) y) statement d e s
        → Derives names statement (word (codes "for") at ∷ mark LeftParenthesis at2 ∷ a) e (plain_node kind.For at.start (f then three x y s))
    -- "break" ";" | "continue" ";" | "return" [ expr ] ";"
    break_of : {names : Names} {at at2 : Place} {b : List Token}
        → Derives names statement (word (codes "break") at ∷ mark Semicolon at2 ∷ b) b (plain_node kind.Break at.start none)
    continue_of : {names : Names} {at at2 : Place} {b : List Token}
        → Derives names statement (word (codes "continue") at ∷ mark Semicolon at2 ∷ b) b (plain_node kind.Continue at.start none)
    return_nothing : {names : Names} {at at2 : Place} {b : List Token}
        → Derives names statement (word (codes "return") at ∷ mark Semicolon at2 ∷ b) b (plain_node kind.Return at.start none)
    return_value : {names : Names} {a b : List Token} {at2 at : Place} {x : Tree}
        → Derives names expression a (mark Semicolon at2 ∷ b) x
        → Derives names statement (word (codes "return") at ∷ a) b (plain_node kind.Return at.start (one x))
    -- switch = "switch" "(" expr ")" "{" { group } "}"; C99 6.8.4.2; that a body in braces, with groups, is the only one, and
    -- that its braces are a scope, behind the expression, is this profile's
    switch_of : {names : Names} {a b c : List Token} {at3 at4 at5 at at2 : Place} {x : Tree} {ts : Forest}
        → Derives names expression a (mark RightParenthesis at3 ∷ mark LeftBrace at4 ∷ b) x
        → Lists (opened (after names x)) (groups at_first) b (mark RightBrace at5 ∷ c) ts
        → Derives names statement (word (codes "switch") at ∷ mark LeftParenthesis at2 ∷ a) c (plain_node kind.Switch at.start (x then ts))
    -- label = "case" cond ":" | "default" ":"; C99 6.8.1
    case_label : {names : Names} {a b : List Token} {at2 at : Place} {x : Tree}
        → Derives names conditional a (mark Colon at2 ∷ b) x
        → Derives names switch_label (word (codes "case") at ∷ a) b (plain_node kind.Case at.start (one x))
    default_label : {names : Names} {at at2 : Place} {b : List Token}
        → Derives names switch_label (word (codes "default") at ∷ mark Colon at2 ∷ b) b (plain_node kind.Default at.start none)
    -- [ expr ]
    absent : {names : Names} {b : List Token}
        → Derives names optional_expression b b (plain_node kind.Empty (start_of b) none)
    present : {names : Names} {a b : List Token} {x : Tree}
        → Derives names expression a b x
        → Derives names optional_expression a b x
    -- expr = assign { "," assign }
    single_expression : {names : Names} {a b : List Token} {x : Tree}
        → Derives names assignment a b x
        → Derives names expression a b x
    comma : {names : Names} {a b c : List Token} {at : Place} {l r : Tree}
        → Derives names expression a (mark Comma at ∷ b) l
        → Derives (after names l) assignment b c r
        → Derives names expression a c (plain_node kind.Comma (start l) (two l r))
    -- assign = unary assignop assign | cond
    assigned : {names : Names} {a b c : List Token} {op : Punct} {at : Place} {l r : Tree}
        → Derives names unary a (mark op at ∷ b) l
        → is_assignment op ≡ true
        → Derives (after names l) assignment b c r
        → Derives names assignment a c (text_node kind.Assign (mark_text op) (start l) (two l r))
    unassigned : {names : Names} {a b : List Token} {x : Tree}
        → Derives names conditional a b x
        → Derives names assignment a b x
    -- cond = binary [ "?" expr ":" cond ]
    unconditional : {names : Names} {a b : List Token} {x : Tree}
        → Derives names (binary 10) a b x
        → Derives names conditional a b x
    choice : {names : Names} {a b c d : List Token} {at at2 : Place} {x y z : Tree}
        → Derives names (binary 10) a (mark Question at ∷ b) x
        → Derives (after names x) expression b (mark Colon at2 ∷ c) y
        → Derives (after (after names x) y) conditional c d z
        → Derives names conditional a d (plain_node kind.Cond (start x) (three x y z))
    -- binary = cast { binop cast }; from the left, and by levels
    chain : {names : Names} {n : ℕ} {a b c : List Token} {op : Punct} {at : Place} {l r : Tree}
        → Derives names (binary (suc n)) a (mark op at ∷ b) l
        → level_of op ≡ suc n
        → Derives (after names l) (binary n) b c r
        → Derives names (binary (suc n)) a c (text_node kind.Binary (mark_text op) (start l) (two l r))
    tighter : {names : Names} {n : ℕ} {a b : List Token} {x : Tree}
        → Derives names (binary n) a b x
        → Derives names (binary (suc n)) a b x
    tightest : {names : Names} {a b : List Token} {x : Tree}
        → Derives names cast a b x
        → Derives names (binary 0) a b x
    -- cast = "(" typename ")" cast | unary
    cast_to : {names : Names} {a b c : List Token} {at2 at : Place} {t x : Tree}
        → Derives names type_name a (mark RightParenthesis at2 ∷ b) t
        → Derives (after names t) cast b c x
        → Derives names cast (mark LeftParenthesis at ∷ a) c (plain_node kind.Cast at.start (two t x))
    uncast : {names : Names} {a b : List Token} {x : Tree}
        → Derives names unary a b x
        → Derives names cast a b x
    -- unary = "++" unary | "--" unary | unop cast
    increment : {names : Names} {a b : List Token} {x : Tree} {at : Place}
        → Derives names unary a b x
        → Derives names unary (mark PlusPlus at ∷ a) b (text_node kind.Unary (codes "++") at.start (one x))
    decrement : {names : Names} {a b : List Token} {x : Tree} {at : Place}
        → Derives names unary a b x
        → Derives names unary (mark MinusMinus at ∷ a) b (text_node kind.Unary (codes "--") at.start (one x))
    operator : {op : Punct} {names : Names} {a b : List Token} {x : Tree} {at : Place}
        → is_unary_operator op ≡ true
        → Derives names cast a b x
        → Derives names unary (mark op at ∷ a) b (text_node kind.Unary (mark_text op) at.start (one x))
    -- "sizeof" unary | "sizeof" "(" typename ")" | postfix
    size_of_expression : {names : Names} {a b : List Token} {x : Tree} {at : Place}
        → Derives names unary a b x
        → Derives names unary (word (codes "sizeof") at ∷ a) b (plain_node kind.SizeExpr at.start (one x))
    size_of_type : {names : Names} {a b : List Token} {at3 at at2 : Place} {t : Tree}
        → Derives names type_name a (mark RightParenthesis at3 ∷ b) t
        → Derives names unary (word (codes "sizeof") at ∷ mark LeftParenthesis at2 ∷ a) b (plain_node kind.SizeType at.start (one t))
    plain : {names : Names} {a b : List Token} {x : Tree}
        → Derives names postfix a b x
        → Derives names unary a b x
    -- postfix = primary { "[" expr "]" | "(" [ assign { "," assign } ] ")" | "." ident | "->" ident | "++" | "--" }
    primary_of : {names : Names} {a b : List Token} {x : Tree}
        → Derives names primary a b x
        → Derives names postfix a b x
    index : {names : Names} {a b c : List Token} {at at2 : Place} {x y : Tree}
        → Derives names postfix a (mark LeftBracket at ∷ b) x
        → Derives (after names x) expression b (mark RightBracket at2 ∷ c) y
        → Derives names postfix a c (plain_node kind.Index (start x) (two x y))
    call : {names : Names} {a b c : List Token} {at at2 : Place} {x : Tree} {ts : Forest}
        → Derives names postfix a (mark LeftParenthesis at ∷ b) x
        → Lists (after names x) arguments b (mark RightParenthesis at2 ∷ c) ts
        → Derives names postfix a c (plain_node kind.Call (start x) (x then ts))
    dot : {names : Names} {a b : List Token} {at at2 : Place} {text : List ℕ} {x : Tree}
        → Derives names postfix a (mark Dot at ∷ word text at2 ∷ b) x
        → is_identifier text ≡ true
        → Derives names postfix a b (text_node kind.Dot text (start x) (one x))
    arrow : {names : Names} {a b : List Token} {at at2 : Place} {text : List ℕ} {x : Tree}
        → Derives names postfix a (mark Arrow at ∷ word text at2 ∷ b) x
        → is_identifier text ≡ true
        → Derives names postfix a b (text_node kind.Arrow text (start x) (one x))
    post_increment : {names : Names} {a b : List Token} {at : Place} {x : Tree}
        → Derives names postfix a (mark PlusPlus at ∷ b) x
        → Derives names postfix a b (text_node kind.Post (codes "++") (start x) (one x))
    post_decrement : {names : Names} {a b : List Token} {at : Place} {x : Tree}
        → Derives names postfix a (mark MinusMinus at ∷ b) x
        → Derives names postfix a b (text_node kind.Post (codes "--") (start x) (one x))
    -- primary = ident | int | char | string { string } | "(" expr ")"; a typedef name is no primary
    variable : {text : List ℕ} {names : Names} {at : Place} {b : List Token}
        → is_identifier text ≡ true
        → is_typedef_name names text ≡ false
        → Derives names primary (word text at ∷ b) b (text_node kind.Var text at.start none)
    integer_constant : {names : Names} {value : ℕ} {type : IntType} {at : Place} {b : List Token}
        → Derives names primary (integer value type at ∷ b) b (int_node type value at.start)
    character_constant : {names : Names} {value : ℕ} {at : Place} {b : List Token}
        → Derives names primary (character value at ∷ b) b (char_node value at.start)
    string_literal : {bytes joined : List ℕ} {at : Place} {a b : List Token} {names : Names}
        → Literals (string bytes at ∷ a) b joined
        → Derives names primary (string bytes at ∷ a) b (string_node joined at.start)
    in_parentheses : {names : Names} {a b : List Token} {at2 at : Place} {x : Tree}
        → Derives names expression a (mark RightParenthesis at2 ∷ b) x
        → Derives names primary (mark LeftParenthesis at ∷ a) b (plain_node kind.Paren at.start (one x))

  pub data Lists : Names → Row → List Token → List Token → Forest → Type 0 where
    -- external { external }
    last_external : {names : Names} {a b : List Token} {t : Tree}
        → Derives names external a b t
        → Lists names externals a b (one t)
    more_externals : {names : Names} {a b c : List Token} {t : Tree} {ts : Forest}
        → Derives names external a b t
        → Lists (after names t) externals b c ts
        → Lists names externals a c (t then ts)
    -- initdecl { "," initdecl }
    last_init_declarator : {names : Names} {is_typedef : Bool} {a b : List Token} {t : Tree}
        → Derives names (init_declarator is_typedef) a b t
        → Lists names (init_declarators is_typedef) a b (one t)
    more_init_declarators : {names : Names} {is_typedef : Bool} {a b c : List Token} {at : Place} {t : Tree} {ts : Forest}
        → Derives names (init_declarator is_typedef) a (mark Comma at ∷ b) t
        → Lists (add names (entries_behind is_typedef (one t))) (init_declarators is_typedef) b c ts
        → Lists names (init_declarators is_typedef) a c (t then ts)
    -- init { "," init } [ "," ]
    last_initializer : {names : Names} {a b : List Token} {t : Tree}
        → Derives names initializer a b t
        → Lists names initializers a b (one t)
    last_initializer_with_comma : {names : Names} {a b : List Token} {at : Place} {t : Tree}
        → Derives names initializer a (mark Comma at ∷ b) t
        → Lists names initializers a b (one t)
    more_initializers : {names : Names} {a b c : List Token} {at : Place} {t : Tree} {ts : Forest}
        → Derives names initializer a (mark Comma at ∷ b) t
        → Lists (after names t) initializers b c ts
        → Lists names initializers a c (t then ts)
    -- spec { spec }; where they say no type, no typedef name stands behind them
    last_specifier : {names : Names} {typed : Bool} {a b : List Token} {t : Tree}
        → Derives names (specifier typed) a b t
        → typed || says_type t || not (begins_with_typedef_name (after names t) b) ≡ true
        → Lists names (specifier_list typed) a b (one t)
    more_specifiers : {names : Names} {typed : Bool} {a b c : List Token} {t : Tree} {ts : Forest}
        → Derives names (specifier typed) a b t
        → Lists (after names t) (specifier_list (typed || says_type t)) b c ts
        → Lists names (specifier_list typed) a c (t then ts)
    -- member { member }
    last_member : {names : Names} {a b : List Token} {t : Tree}
        → Derives names member a b t
        → Lists names members a b (one t)
    more_members : {names : Names} {a b c : List Token} {t : Tree} {ts : Forest}
        → Derives names member a b t
        → Lists (after names t) members b c ts
        → Lists names members a c (t then ts)
    -- declarator { "," declarator }
    last_declarator : {names : Names} {a b : List Token} {t : Tree}
        → Derives names declarator a b t
        → Lists names declarators a b (one t)
    more_declarators : {names : Names} {a b c : List Token} {at : Place} {t : Tree} {ts : Forest}
        → Derives names declarator a (mark Comma at ∷ b) t
        → Lists (after names t) declarators b c ts
        → Lists names declarators a c (t then ts)
    -- enumer { "," enumer } [ "," ]
    last_enumerator : {names : Names} {a b : List Token} {t : Tree}
        → Derives names enumerator a b t
        → Lists names enumerators a b (one t)
    last_enumerator_with_comma : {names : Names} {a b : List Token} {at : Place} {t : Tree}
        → Derives names enumerator a (mark Comma at ∷ b) t
        → Lists names enumerators a b (one t)
    more_enumerators : {names : Names} {a b c : List Token} {at : Place} {t : Tree} {ts : Forest}
        → Derives names enumerator a (mark Comma at ∷ b) t
        → Lists (after names t) enumerators b c ts
        → Lists names enumerators a c (t then ts)
    -- param { "," param }
    last_parameter : {names : Names} {a b : List Token} {t : Tree}
        → Derives names parameter a b t
        → Lists names parameters a b (one t)
    more_parameters : {names : Names} {a b c : List Token} {at : Place} {t : Tree} {ts : Forest}
        → Derives names parameter a (mark Comma at ∷ b) t
        → Lists (after_parameter names t) parameters b c ts
        → Lists names parameters a c (t then ts)
    -- [ cond ]
    no_length : {names : Names} {b : List Token}
        → Lists names optional_length b b none
    a_length : {names : Names} {a b : List Token} {t : Tree}
        → Derives names conditional a b t
        → Lists names optional_length a b (one t)
    -- { declaration | stmt }
    no_items : {names : Names} {b : List Token}
        → Lists names block_items b b none
    declaration_first : {names : Names} {a b c : List Token} {t : Tree} {ts : Forest}
        → Derives names declaration a b t
        → Lists (after names t) block_items b c ts
        → Lists names block_items a c (t then ts)
    statement_first : {names : Names} {a b c : List Token} {t : Tree} {ts : Forest}
        → Derives names statement a b t
        → Lists (after names t) block_items b c ts
        → Lists names block_items a c (t then ts)
    -- { group }; group = label { label } stmt { stmt }: none stands last, by C99 6.8.1; that a label stands first, and that no
    -- declaration stands among them, is this profile's
    no_more_groups : {names : Names} {standing : Standing} {b : List Token}
        → may_end standing ≡ true
        → Lists names (groups standing) b b none
    label_first : {names : Names} {standing : Standing} {a b c : List Token} {t : Tree} {ts : Forest}
        → Derives names switch_label a b t
        → Lists (after names t) (groups behind_label) b c ts
        → Lists names (groups standing) a c (t then ts)
    labelled_statement : {names : Names} {standing : Standing} {a b c : List Token} {t : Tree} {ts : Forest}
        → is_labelled standing ≡ true
        → Derives names statement a b t
        → Lists (after names t) (groups behind_statement) b c ts
        → Lists names (groups standing) a c (t then ts)
    -- [ assign { "," assign } ]
    no_arguments : {names : Names} {b : List Token}
        → Lists names arguments b b none
    some_arguments : {names : Names} {a b : List Token} {ts : Forest}
        → Lists names argument_list a b ts
        → Lists names arguments a b ts
    last_argument : {names : Names} {a b : List Token} {t : Tree}
        → Derives names assignment a b t
        → Lists names argument_list a b (one t)
    more_arguments : {names : Names} {a b c : List Token} {at : Place} {t : Tree} {ts : Forest}
        → Derives names assignment a (mark Comma at ∷ b) t
        → Lists (after names t) argument_list b c ts
        → Lists names argument_list a c (t then ts)

-- the tree of a unit: before it no identifier is a typedef name
abbrev pub IsTreeOf : List Token → Tree → Type 0
IsTreeOf tokens t = Derives (opened []) unit tokens [] t
