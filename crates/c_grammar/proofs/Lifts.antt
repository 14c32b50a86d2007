-- Derivations as those of wider parts, and tokens at made-up places.
use Prim.Native.String.{String}
use Rattle.std.specs.Prelude.{◌≡◌, refl, ℕ, zero, suc, true, false, ◌||◌, not, List, [], ◌∷◌, codes}
use Rattle.c_lexer.specs.declared.token.IntType.TheVariants as type
use Rattle.c_lexer.specs.declared.token.Punct.{Punct}
use Rattle.c_lexer.specs.declared.token.Punct.TheVariants.{Semicolon}
use Rattle.c_lexer.specs.declared.token.Token.{Token}
use Rattle.c_syntax.specs.declared.kind.SynKind.{SynKind}
use Rattle.c_syntax.specs.declared.kind.SynKind.TheVariants as kind
use Rattle.c_syntax.specs.Trees.{Tree, none, one, two, text_node, plain_node}
use Rattle.c_grammar.specs.Vocabulary.{is_identifier, Place, mark, word, integer, string}
use Rattle.c_grammar.specs.Scopes.{Names, opened, is_typedef_name, says_type, after, entry}
use Rattle.c_grammar.specs.Derivation.{Derives, binary, cast, unary, postfix, primary, assignment, expression, specifiers, tightest, tighter, uncast, plain, primary_of, variable, unconditional, unassigned, single_expression, begins_with_typedef_name, specs, last_specifier, more_specifiers, specifier_word, typedef_name, declaration, full_declaration, last_init_declarator, uninitialized, direct, declared_name}

-- ---- tokens, each at a place by its number

abbrev pub at : ℕ → Place
at k = record { start = k; end = suc k }

-- a punctuator
abbrev pub m : Punct → ℕ → Token
m punct k = mark punct (at k)

-- a word
abbrev pub w : String → ℕ → Token
w text k = word (codes text) (at k)

-- an integer constant
abbrev pub i : ℕ → ℕ → Token
i value k = integer value type.Int (at k)

-- a string literal
abbrev pub s : String → ℕ → Token
s text k = string (codes text) (at k)

-- ---- names

-- no name is a typedef name
abbrev pub no_typedef : Names
no_typedef = opened []

-- `t` is one
abbrev pub with_t : Names
with_t = entry (codes "t") true ∷ []

-- ---- trees

-- a node with a text and no kids
abbrev pub leaf : SynKind → String → ℕ → Tree
leaf kind text start = text_node kind (codes text) start none

-- ---- specs

-- `int` alone
pub int_alone : {names : Names} {place : Place} {b : List Token}
    → Derives names specifiers (word (codes "int") place ∷ b) b (plain_node kind.Specs place.start (one (text_node kind.Word (codes "int") place.start none)))
int_alone = specs (last_specifier (specifier_word refl) refl)

-- a typedef name alone, before what is none
pub typedef_alone : {text : List ℕ} {names : Names} {place : Place} {b : List Token}
    → is_identifier text ≡ true
    → is_typedef_name names text ≡ true
    → false || says_type (text_node kind.Word text place.start none) || not (begins_with_typedef_name (after names (text_node kind.Word text place.start none)) b) ≡ true
    → Derives names specifiers (word text place ∷ b) b (plain_node kind.Specs place.start (one (text_node kind.Word text place.start none)))
typedef_alone e f g = specs (last_specifier (typedef_name e f) g)

-- `typedef int t;`
pub typedef_int : {names : Names} {p q r e : Place} {b : List Token}
    → Derives names declaration (word (codes "typedef") p ∷ word (codes "int") q ∷ word (codes "t") r ∷ mark Semicolon e ∷ b) b
    (plain_node kind.Declaration p.start (two
    (plain_node kind.Specs p.start (two (text_node kind.Word (codes "typedef") p.start none) (text_node kind.Word (codes "int") q.start none)))
    (plain_node kind.InitDecl r.start (one (text_node kind.Ident (codes "t") r.start none)))))
typedef_int = full_declaration
    (specs (more_specifiers (specifier_word refl) (last_specifier (specifier_word refl) refl)))
    (last_init_declarator (uninitialized (direct (declared_name refl))))

-- ---- expressions of wider parts

pub cast_as : (n : ℕ) {names : Names} {a b : List Token} {x : Tree} → Derives names cast a b x → Derives names (binary n) a b x
cast_as zero d = tightest d
cast_as (suc n) d = tighter (cast_as n d)

pub unary_as : (n : ℕ) {names : Names} {a b : List Token} {x : Tree} → Derives names unary a b x → Derives names (binary n) a b x
unary_as n d = cast_as n (uncast d)

pub postfix_as : (n : ℕ) {names : Names} {a b : List Token} {x : Tree} → Derives names postfix a b x → Derives names (binary n) a b x
postfix_as n d = unary_as n (plain d)

pub primary_as : (n : ℕ) {names : Names} {a b : List Token} {x : Tree} → Derives names primary a b x → Derives names (binary n) a b x
primary_as n d = postfix_as n (primary_of d)

-- a name is a variable
pub name_as_cast : {text : List ℕ} {names : Names} {place : Place} {b : List Token}
    → is_identifier text ≡ true
    → is_typedef_name names text ≡ false
    → Derives names cast (word text place ∷ b) b (text_node kind.Var text place.start none)
name_as_cast e f = uncast (plain (primary_of (variable e f)))

pub name_as : (n : ℕ) {text : List ℕ} {names : Names} {place : Place} {b : List Token}
    → is_identifier text ≡ true
    → is_typedef_name names text ≡ false
    → Derives names (binary n) (word text place ∷ b) b (text_node kind.Var text place.start none)
name_as n e f = cast_as n (name_as_cast e f)

-- by so many levels more
abbrev pub raised : ℕ → ℕ → ℕ
raised zero n = n
raised (suc k) n = suc (raised k n)

pub raise : (k : ℕ) {n : ℕ} {names : Names} {a b : List Token} {x : Tree} → Derives names (binary n) a b x → Derives names (binary (raised k n)) a b x
raise zero d = d
raise (suc k) d = tighter (raise k d)

pub as_assignment : {names : Names} {a b : List Token} {x : Tree} → Derives names (binary 10) a b x → Derives names assignment a b x
as_assignment d = unassigned (unconditional d)

pub as_expression : {names : Names} {a b : List Token} {x : Tree} → Derives names (binary 10) a b x → Derives names expression a b x
as_expression d = single_expression (as_assignment d)
