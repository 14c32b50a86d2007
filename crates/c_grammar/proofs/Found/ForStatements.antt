-- What derivations of optional expressions and of `for` say of their reading.
use Rattle.std.proofs.Common.{◌≡◌, ℕ, zero, suc, false, List, ◌∷◌, refl, ap, arith}
use Rattle.std.specs.Prelude.{max, ◌||◌, codes, if◌then◌else◌}
use Rattle.c_lexer.specs.declared.token.Punct.TheVariants.{LeftParenthesis, RightParenthesis, Semicolon}
use Rattle.c_lexer.specs.declared.token.Token.{Token}
use Rattle.c_syntax.specs.declared.kind.SynKind.TheVariants as kind
use Rattle.c_syntax.specs.Trees.{Tree, none, ◌then◌, three, plain_node, height}
use Rattle.c_grammar.specs.Vocabulary.{Place, mark, word, start_of}
use Rattle.c_grammar.specs.Scopes.{Names, opened, after}
use Rattle.c_grammar.specs.Derivation as grammar
use Rattle.c_grammar.specs.Derivation.{Part, Row, Derives, Lists}
use Rattle.c_grammar.specs.Answers.{found, expect, expect_by, ahead, ahead_by}
use Rattle.c_grammar.specs.Reading.{Reader, read, goal_in, statement_in, statement_by, keyword_by, for_in, for_behind, optional_expression_in, if_any, begins_with_mark, begins_specifier, begins_specifier_by}
use Rattle.c_grammar.specs.Reading as reading
use Rattle.c_grammar.proofs.Budgets.{Finds, leads_then, leads_here}
use Rattle.c_grammar.proofs.Found.Claims.{Complete, Is, ends_statement}
use Rattle.c_grammar.proofs.Found.StatementSteps.{tree_finds, expression_finds, token_node, leads_true, leads_false, ends_at_mark}
use Rattle.c_grammar.proofs.Found.StatementFirsts.{no_semicolon, no_parenthesis, specs_begin, no_specs_begin}
use Rattle.c_grammar.proofs.FirstTokens.{has_front, begins_statement}

-- ---- an expression, or nothing

pub c_absent : (names : Names) (b : List Token) → Complete names Part.optional_expression b b (plain_node kind.Empty (start_of b) none)
unfolding optional_expression_in if_any
c_absent names b ends d = leads_true (begins_with_mark Semicolon b || begins_with_mark RightParenthesis b) _ _ d 1 _ ends (by d)
  where
    t : Tree
    t = plain_node kind.Empty (start_of b) none

    by : (d : ℕ) → Finds (if_any d b (found t b)) d 1 t b
    by zero = record { low = λ le. absurd (omega (arith, le)); high = λ lt. record { behind = b; too_deep = refl } }
    by (suc d) = record { low = λ le. refl; high = λ lt. absurd (omega (arith, lt)) }

pub c_present : {names : Names} {a b : List Token} {x : Tree}
    → Derives names Part.expression a b x
    → Complete names Part.expression a b x
    → Complete names Part.optional_expression a b x
unfolding optional_expression_in
c_present {names} {a} {b} {x} dx cx ends d =
    leads_false (begins_with_mark Semicolon a || begins_with_mark RightParenthesis a) _ _ d _ _ none_there (expression_finds names a b x cx (ends_at_mark b ends) d)
  where
    none_there : begins_with_mark Semicolon a || begins_with_mark RightParenthesis a ≡ false
    none_there = rw (no_semicolon names a (λ f. cc (f, has_front dx)), no_parenthesis names a (λ f. cc (f, has_front dx))) refl

-- ---- for

module _ (names : Names) (at : Place) (f x y s : Tree) (b c g e : List Token) (at3 at4 : Place)
    (cx : Complete (after names f) Part.optional_expression b (mark Semicolon at3 ∷ c) x)
    (cy : Complete (after (after names f) x) Part.optional_expression c (mark RightParenthesis at4 ∷ g) y)
    (cs : Complete (after (after (after names f) x) y) Part.statement g e s)
    (ends : Is (ends_statement s e)) where
  behind_leads : (d n : ℕ) → Finds (for_behind d (read n) names at f b) n (max (height x) (max (height y) (max (height s) 0))) (plain_node kind.For at.start (f then three x y s)) e
  unfolding for_behind expect expect_by ahead ahead_by goal_in
  behind_leads d n =
      leads_then _ _ n (height x) _ x _ _ (tree_finds reading.optional_expression _ _ (cx refl n))
      (leads_then _ _ n (height y) _ y _ _ (tree_finds reading.optional_expression _ _ (cy refl n))
      (leads_then _ _ n (height s) 0 s e _ (tree_finds reading.statement _ _ (cs ends n)) (leads_here _ n)))

pub c_for_declaration : {names : Names} {a b : List Token} (c g e : List Token) {f : Tree} (x y s : Tree) (at3 at4 at at2 : Place)
    → Derives (opened names) Part.declaration a b f
    → Complete (opened names) Part.declaration a b f
    → Complete (after (opened names) f) Part.optional_expression b (mark Semicolon at3 ∷ c) x
    → Complete (after (after (opened names) f) x) Part.optional_expression c (mark RightParenthesis at4 ∷ g) y
    → Complete (after (after (after (opened names) f) x) y) Part.statement g e s
    → Complete names Part.statement (word (codes "for") at ∷ mark LeftParenthesis at2 ∷ a) e (plain_node kind.For at.start (f then three x y s))
unfolding statement_in statement_by keyword_by for_in expect expect_by ahead ahead_by goal_in
c_for_declaration {names} {a} {b} c g e {f} x y s at3 at4 at at2 df cf cx cy cs ends d =
    token_node 2 (max (height f) (max (height x) (max (height y) (max (height s) 0)))) _ rest (λ r. for_in d r names at rest) _ (omega arith) (omega arith) (omega arith)
    (λ n. leads_true (begins_specifier false (opened names) a) _ _ n _ _ (specs_begin (opened names) a (has_front df))
    (leads_then _ _ n (height f) _ f b _ (tree_finds reading.declaration (opened names) a (cf n)) (behind_leads (opened names) at f x y s b c g e at3 at4 cx cy cs ends d n))) d
  where
    rest : List Token
    rest = mark LeftParenthesis at2 ∷ a

no_specs_there : {names : Names} {a b : List Token} {at : Place} {f : Tree} → Derives names Part.optional_expression a (mark Semicolon at ∷ b) f → begins_specifier false names a ≡ false
unfolding begins_specifier_by ahead ahead_by
no_specs_there grammar.absent = refl
no_specs_there {names} {a} (grammar.present x) = no_specs_begin names a (ap begins_statement (has_front x))

pub c_for_expression : {names : Names} {a b : List Token} (c g e : List Token) {at3 : Place} (at4 at5 at at2 : Place) {f : Tree} (x y s : Tree)
    → Derives (opened names) Part.optional_expression a (mark Semicolon at3 ∷ b) f
    → Complete (opened names) Part.optional_expression a (mark Semicolon at3 ∷ b) f
    → Complete (after (opened names) f) Part.optional_expression b (mark Semicolon at4 ∷ c) x
    → Complete (after (after (opened names) f) x) Part.optional_expression c (mark RightParenthesis at5 ∷ g) y
    → Complete (after (after (after (opened names) f) x) y) Part.statement g e s
    → Complete names Part.statement (word (codes "for") at ∷ mark LeftParenthesis at2 ∷ a) e (plain_node kind.For at.start (f then three x y s))
unfolding statement_in statement_by keyword_by for_in expect expect_by ahead ahead_by goal_in
c_for_expression {names} {a} {b} c g e {at3} at4 at5 at at2 {f} x y s df cf cx cy cs ends d =
    token_node 2 (max (height f) (max (height x) (max (height y) (max (height s) 0)))) _ rest (λ r. for_in d r names at rest) _ (omega arith) (omega arith) (omega arith)
    (λ n. leads_false (begins_specifier false (opened names) a) _ _ n _ _ (no_specs_there df)
    (leads_then _ _ n (height f) _ f _ _ (tree_finds reading.optional_expression (opened names) a (cf refl n)) (behind_leads (opened names) at f x y s b c g e at4 at5 cx cy cs ends d n))) d
  where
    rest : List Token
    rest = mark LeftParenthesis at2 ∷ a
