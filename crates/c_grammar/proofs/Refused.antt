-- What is not derived.
use Rattle.std.specs.Prelude.{◌≡◌, ℕ, true, false, List, ◌∷◌, codes}
use Rattle.std.proofs.Common.{refl, sym, ap, ◌∙◌, true≢false}
use Rattle.c_lexer.specs.declared.token.Token.{Token}
use Rattle.c_syntax.specs.declared.kind.SynKind.{SynKind}
use Rattle.c_syntax.specs.declared.kind.SynKind.TheVariants as kind
use Rattle.c_syntax.specs.Trees.{Tree, Forest, none, tree, one, two, three, plain_node, text_node}
use Rattle.c_grammar.specs.Vocabulary.{is_identifier, Place, word}
use Rattle.c_grammar.specs.Scopes.{Names, is_typedef_name}
use Rattle.c_grammar.specs.Derivation as grammar
use Rattle.c_grammar.specs.Derivation.{Part, Derives, ends_open, is_lone_void}
use Rattle.c_grammar.proofs.FirstTokens.{of_specs, of_expression, begins_statement, has_front, typedef_specs}

-- ---- by what they begin with

-- no statement begins with `else`
pub no_else : {names : Names} {place : Place} {a b : List Token} {t : Tree} → Derives names grammar.statement (word (codes "else") place ∷ a) b t → ⊥
no_else d = true≢false (sym (has_front d))

-- no tokens begin both a declaration and a statement
pub no_statement : {names : Names} {a b c : List Token} {t u : Tree} → Derives names grammar.declaration a b t → Derives names grammar.statement a c u → ⊥
no_statement d s = true≢false (sym (has_front s) ∙ ap begins_statement (has_front d))

of_specs≢of_expression : of_specs ≡ of_expression → ⊥
of_specs≢of_expression e = true≢false (sym (ap begins_statement e))

-- nor a type name and an expression: after `(` stands one of them alone
pub no_expression : {names : Names} {a b c : List Token} {t x : Tree} → Derives names grammar.type_name a b t → Derives names grammar.expression a c x → ⊥
no_expression t x = of_specs≢of_expression (sym (has_front t) ∙ has_front x)

-- no expression begins with a typedef name
pub no_typedef_variable : {names : Names} {text : List ℕ} {place : Place} {a b : List Token} {x : Tree}
    → is_identifier text ≡ true → is_typedef_name names text ≡ true → Derives names grammar.expression (word text place ∷ a) b x → ⊥
no_typedef_variable {names} {text} e f x = of_specs≢of_expression (sym (typedef_specs names text e f) ∙ has_front x)

-- ---- by what stands in their trees

-- an `if` with an `else` has before it a statement that takes none, and parameters are no lone `void`
abbrev Keeps : SynKind → Forest → Type 0
Keeps kind.If (tree x xk (tree s sk (tree t tk none))) = ends_open (record { label = s; kids = sk }) ≡ false
Keeps kind.Takes (tree d dk ps) = is_lone_void ps ≡ false
Keeps kind kids = Unit {0}

keeps : {names : Names} {part : Part} {a b : List Token} {t : Tree} → Derives names part a b t → Keeps t.label.kind t.kids
keeps (grammar.if_else x s e t) = e
keeps (grammar.takes d ps e) = e
keeps (grammar.takes_anything d) = refl
keeps (grammar.takes_void d) = refl
keeps (grammar.declared d) = keeps d
keeps (grammar.initial_value d) = keeps d
keeps (grammar.struct_of d) = keeps d
keeps (grammar.enum_of d) = keeps d
keeps (grammar.direct d) = keeps d
keeps (grammar.direct_of d) = keeps d
keeps (grammar.block_statement d) = keeps d
keeps (grammar.present d) = keeps d
keeps (grammar.single_expression d) = keeps d
keeps (grammar.unassigned d) = keeps d
keeps (grammar.unconditional d) = keeps d
keeps (grammar.tighter d) = keeps d
keeps (grammar.tightest d) = keeps d
keeps (grammar.uncast d) = keeps d
keeps (grammar.plain d) = keeps d
keeps (grammar.primary_of d) = keeps d
keeps _ = tt

-- if (x) if (y) s else t, with the `else` at the first `if`
pub no_outer_else : {names : Names} {a b : List Token} {x y s t : Tree} {p q : ℕ}
    → Derives names grammar.statement a b (plain_node kind.If p (three x (plain_node kind.If q (two y s)) t)) → ⊥
no_outer_else d = true≢false (keeps d)

-- d(void), with the `void` as a parameter
pub no_void_parameter : {names : Names} {a b : List Token} {d : Tree} {p q r v n : ℕ}
    → Derives names grammar.direct_declarator a b (plain_node kind.Takes p (two d
    (plain_node kind.Param q (two (plain_node kind.Specs r (one (text_node kind.Word (codes "void") v none))) (plain_node kind.NoName n none)))))
    → ⊥
no_void_parameter d = true≢false (keeps d)
