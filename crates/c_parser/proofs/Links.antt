-- One link of a chain and what goes on behind it: suffixes, operands, commas.
use Rattle.std.proofs.Common.{◌≡◌, ℕ, zero, suc, Bool, true, false, List, nat_lt, codes, if◌then◌else◌, refl, sym, ap, ◌∙◌, true≢false}
use Rattle.c_lexer.specs.declared.token.Punct.{Punct}
use Rattle.c_lexer.specs.declared.token.Punct.TheVariants.{LeftBracket, RightBracket, LeftParenthesis, RightParenthesis, Dot, Arrow, PlusPlus, MinusMinus, Comma}
use Rattle.c_lexer.specs.declared.token.Token.{Token}
use Rattle.c_syntax.specs.declared.kind.SynKind.TheVariants as kind
use Rattle.c_syntax.specs.Trees.{Tree, ◌then◌, one, two, text_node, plain_node, height}
use Rattle.c_grammar.specs.Scopes.{Names, after}
use Rattle.c_grammar.specs.Derivation.{start}
use Rattle.c_grammar.specs.Answers.{Answer, found, wrong, deep, and_then, fit, Ahead, nothing_ahead, mark_ahead, word_ahead, integer_ahead, character_ahead, string_ahead, ahead, expect, expect_by, expect_identifier, expect_identifier_by, same_mark}
use Rattle.c_grammar.specs.Reading.{
  Reader,
  Goal,
  Rows,
  begins_with_mark,
  begins_with_mark_by,
  suffix_by,
  suffixes,
  comma_by,
  commas,
  assignment_in,
  expression_in,
  primary_by,
  postfix_in,
}
use Rattle.c_parser.specs.Steps.{begins_suffix}
use Rattle.c_parser.proofs.Chains.{Splits, Ends, IsChain, chain_first}

-- ---- readings one behind another

pub then_then : {T U V : Type 0} (x : Answer T) (f : T → List Token → Answer U) (go : U → List Token → Answer V)
    → and_then (and_then x f) go ≡ and_then x (λ t rest. and_then (f t rest) go)
unfolding and_then
then_then (found t rest) f go = refl
then_then (wrong rest) f go = refl
then_then (deep rest) f go = refl

pub then_same : {T U : Type 0} (x : Answer T) (f g : T → List Token → Answer U) → ((t : T) (rest : List Token) → f t rest ≡ g t rest) → and_then x f ≡ and_then x g
unfolding and_then
then_same (found t rest) f g same = same t rest
then_same (wrong rest) f g same = refl
then_same (deep rest) f g same = refl

pub when_true : {T : Type 0} (b : Bool) (x y : T) → b ≡ true → (if b then x else y) ≡ x
when_true b x y e = ap (λ b. if b then x else y) e

pub when_false : {T : Type 0} (b : Bool) (x y : T) → b ≡ false → (if b then x else y) ≡ y
when_false b x y e = ap (λ b. if b then x else y) e

if_then : {T U : Type 0} (b : Bool) (x y : Answer T) (go : T → List Token → Answer U) → and_then (if b then x else y) go ≡ (if b then and_then x go else and_then y go)
if_then true x y go = refl
if_then false x y go = refl

pub fit_then : {T U : Type 0} (needed d : ℕ) (rest : List Token) (x : Answer T) (go : T → List Token → Answer U) → and_then (fit needed d rest x) go ≡ fit needed d rest
    (and_then x go)
unfolding and_then fit
fit_then needed d rest x go = if_then (nat_lt d needed) (deep rest) x go

expect_then_by : {T U : Type 0} (p : Punct) (ts : List Token) (f : List Token → Answer T) (go : T → List Token → Answer U) (h : Ahead)
    → and_then (expect_by p ts f h) go ≡ expect_by p ts (λ end. and_then (f end) go) h
unfolding and_then expect_by
expect_then_by p ts f go nothing_ahead = refl
expect_then_by p ts f go (mark_ahead q at rest) = if_then (same_mark p q) (f rest) (wrong ts) go
expect_then_by p ts f go (word_ahead text at rest) = refl
expect_then_by p ts f go (integer_ahead value type at rest) = refl
expect_then_by p ts f go (character_ahead value at rest) = refl
expect_then_by p ts f go (string_ahead bytes at rest) = refl

pub expect_then : {T U : Type 0} (p : Punct) (ts : List Token) (f : List Token → Answer T) (go : T → List Token → Answer U)
    → and_then (expect p ts f) go ≡ expect p ts (λ end. and_then (f end) go)
unfolding expect
expect_then p ts f go = expect_then_by p ts f go (ahead ts)

name_then_by : (ts : List Token) (f : List ℕ → List Token → Answer Tree) (go : Tree → List Token → Answer Tree) (h : Ahead)
    → and_then (expect_identifier_by ts f h) go ≡ expect_identifier_by ts (λ text end. and_then (f text end) go) h
unfolding and_then expect_identifier_by
name_then_by ts f go nothing_ahead = refl
name_then_by ts f go (mark_ahead q at rest) = refl
name_then_by ts f go (word_ahead text at rest) = if_then _ (f text rest) (wrong ts) go
name_then_by ts f go (integer_ahead value type at rest) = refl
name_then_by ts f go (character_ahead value at rest) = refl
name_then_by ts f go (string_ahead bytes at rest) = refl

pub name_then : (ts : List Token) (f : List ℕ → List Token → Answer Tree) (go : Tree → List Token → Answer Tree)
    → and_then (expect_identifier ts f) go ≡ expect_identifier ts (λ text end. and_then (f text end) go)
unfolding expect_identifier
name_then ts f go = name_then_by ts f go (ahead ts)

-- a reading, a mark behind it, and the tree of both
closed_then : {T : Type 0} (needed d : ℕ) (rest : List Token) (x : Answer T) (p : Punct) (made : T → Tree) (go : Tree → List Token → Answer Tree)
    → fit needed d rest (and_then x (λ y behind. expect p behind (λ end. go (made y) end)))
    ≡ and_then (fit needed d rest (and_then x (λ y behind. expect p behind (λ end. found (made y) end)))) go
unfolding and_then
closed_then needed d rest x p made go = sym (
    fit_then needed d rest (and_then x (λ y behind. expect p behind (λ end. found (made y) end))) go
    ∙ ap (fit needed d rest) (
    then_then x (λ y behind. expect p behind (λ end. found (made y) end)) go
    ∙ then_same x _ (λ y behind. expect p behind (λ end. go (made y) end)) (λ y behind. expect_then p behind (λ end. found (made y) end) go)))

pub open_then : {T : Type 0} (needed d : ℕ) (rest : List Token) (x : Answer T) (made : T → Tree) (go : Tree → List Token → Answer Tree)
    → fit needed d rest (and_then x (λ y end. go (made y) end)) ≡ and_then (fit needed d rest (and_then x (λ y end. found (made y) end))) go
unfolding and_then
open_then needed d rest x made go = sym (
    fit_then needed d rest (and_then x (λ y end. found (made y) end)) go ∙ ap (fit needed d rest) (then_then x (λ y end. found (made y) end) go))

named_then : (needed d : ℕ) (rest : List Token) (made : List ℕ → Tree) (go : Tree → List Token → Answer Tree)
    → fit needed d rest (expect_identifier rest (λ text end. go (made text) end)) ≡ and_then (fit needed d rest (expect_identifier rest (λ text end. found (made text) end))) go
unfolding and_then
named_then needed d rest made go = sym (
    fit_then needed d rest (expect_identifier rest (λ text end. found (made text) end)) go ∙ ap (fit needed d rest) (name_then rest (λ text end. found (made text) end) go))

plain_then : (needed d : ℕ) (rest : List Token) (t : Tree) (go : Tree → List Token → Answer Tree) → fit needed d rest (go t rest) ≡ and_then (fit needed d rest (found t rest)) go
unfolding and_then
plain_then needed d rest t go = sym (fit_then needed d rest (found t rest) go)

module _ (d : ℕ) (r : Reader) (names : Names) where
  -- ---- suffixes

  suffix_then : (x : Tree) (ts : List Token) (go : Tree → List Token → Answer Tree) (h : Ahead) → begins_suffix h ≡ true
      → suffix_by d r names x ts go h ≡ and_then (suffix_by d r names x ts found h) go
  unfolding suffix_by
  suffix_then x ts go (mark_ahead LeftBracket at rest) e = closed_then (suc (height x)) d rest (r.tree_of Goal.expression (after names x) rest) RightBracket
      (λ y. plain_node kind.Index (start x) (two x y)) go
  suffix_then x ts go (mark_ahead LeftParenthesis at rest) e = closed_then (suc (height x)) d rest (r.trees_of Rows.arguments (after names x) rest) RightParenthesis
      (λ ys. plain_node kind.Call (start x) (x then ys)) go
  suffix_then x ts go (mark_ahead Dot at rest) e = named_then (suc (height x)) d rest (λ text. text_node kind.Dot text (start x) (one x)) go
  suffix_then x ts go (mark_ahead Arrow at rest) e = named_then (suc (height x)) d rest (λ text. text_node kind.Arrow text (start x) (one x)) go
  suffix_then x ts go (mark_ahead PlusPlus at rest) e = plain_then (suc (height x)) d rest (text_node kind.Post (codes "++") (start x) (one x)) go
  suffix_then x ts go (mark_ahead MinusMinus at rest) e = plain_then (suc (height x)) d rest (text_node kind.Post (codes "--") (start x) (one x)) go
  suffix_then x ts go other e = absurd (true≢false (sym e))

  suffix_ends : (x : Tree) (ts : List Token) (go : Tree → List Token → Answer Tree) (h : Ahead) → begins_suffix h ≡ false → suffix_by d r names x ts go h ≡ found x ts
  unfolding suffix_by
  suffix_ends x ts go (mark_ahead LeftBracket at rest) e = absurd (true≢false e)
  suffix_ends x ts go (mark_ahead LeftParenthesis at rest) e = absurd (true≢false e)
  suffix_ends x ts go (mark_ahead Dot at rest) e = absurd (true≢false e)
  suffix_ends x ts go (mark_ahead Arrow at rest) e = absurd (true≢false e)
  suffix_ends x ts go (mark_ahead PlusPlus at rest) e = absurd (true≢false e)
  suffix_ends x ts go (mark_ahead MinusMinus at rest) e = absurd (true≢false e)
  suffix_ends x ts go other e = refl

  pub suffixes_split : (x : Tree) (ts : List Token) → begins_suffix (ahead ts) ≡ true → Splits (λ k. suffixes d r k names) x ts (suffix_by d r names x ts found (ahead ts))
  unfolding suffixes
  suffixes_split x ts e zero = suffix_then x ts (λ y rest. deep rest) (ahead ts) e
  suffixes_split x ts e (suc k) = suffix_then x ts (suffixes d r k names) (ahead ts) e

  pub suffixes_end : (x : Tree) (ts : List Token) → begins_suffix (ahead ts) ≡ false → Ends (λ k. suffixes d r k names) x ts
  unfolding suffixes
  suffixes_end x ts e zero = suffix_ends x ts (λ y rest. deep rest) (ahead ts) e
  suffixes_end x ts e (suc k) = suffix_ends x ts (suffixes d r k names) (ahead ts) e

  -- ---- commas

  comma_ends : (x : Tree) (ts : List Token) (go : Tree → List Token → Answer Tree) (h : Ahead) → begins_with_mark_by Comma h ≡ false → comma_by d r names x ts go h ≡ found x ts
  unfolding comma_by
  comma_ends x ts go (mark_ahead Comma at rest) e = absurd (true≢false e)
  comma_ends x ts go other e = refl

  comma_then : (x : Tree) (ts : List Token) (go : Tree → List Token → Answer Tree) (h : Ahead) → begins_with_mark_by Comma h ≡ true
      → comma_by d r names x ts go h ≡ and_then (comma_by d r names x ts found h) go
  unfolding comma_by
  comma_then x ts go (mark_ahead Comma at rest) e = open_then (suc (height x)) d rest (r.tree_of Goal.assignment (after names x) rest)
      (λ y. plain_node kind.Comma (start x) (two x y)) go
  comma_then x ts go other e = absurd (true≢false (sym e))

  pub commas_split : (x : Tree) (ts : List Token) → begins_with_mark Comma ts ≡ true → Splits (λ k. commas d r k names) x ts (comma_by d r names x ts found (ahead ts))
  unfolding commas
  commas_split x ts e zero = comma_then x ts (λ y rest. deep rest) (ahead ts) e
  commas_split x ts e (suc k) = comma_then x ts (commas d r k names) (ahead ts) e

  pub commas_end : (x : Tree) (ts : List Token) → begins_with_mark Comma ts ≡ false → Ends (λ k. commas d r k names) x ts
  unfolding commas
  commas_end x ts e zero = comma_ends x ts (λ y rest. deep rest) (ahead ts) e
  commas_end x ts e (suc k) = comma_ends x ts (commas d r k names) (ahead ts) e

  -- ---- before the first link

  pub expression_first : (ts0 : List Token) (height : ℕ) (x : Tree) (ts : List Token) → assignment_in d r names ts0 ≡ found x ts
      → IsChain (λ k. commas d r k names) d (expression_in d r names ts0) height x ts
  unfolding expression_in
  expression_first ts0 height x ts e = chain_first (λ k. commas d r k names) d (expression_in d r names ts0) (assignment_in d r names ts0) height x ts refl e

  pub postfix_first : (ts0 : List Token) (height : ℕ) (x : Tree) (ts : List Token) → primary_by d r names ts0 (ahead ts0) ≡ found x ts
      → IsChain (λ k. suffixes d r k names) d (postfix_in d r names ts0) height x ts
  unfolding postfix_in
  postfix_first ts0 height x ts e = chain_first (λ k. suffixes d r k names) d (postfix_in d r names ts0) (primary_by d r names ts0 (ahead ts0)) height x ts refl e
