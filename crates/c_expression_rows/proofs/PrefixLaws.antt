-- Operators before their operand, by their texts.
use Rattle.std.proofs.Common.{◌≡◌, ℕ, Bool, true, false, List, refl, ap, ◌∙◌}
use Rattle.std.specs.Prelude.{codes, if◌then◌else◌}
use Rattle.std.specs.Str.{bytes_eq}
use Rattle.std.proofs.lemmas.Slice.Eq.{bytes_eq-Decides}
use Rattle.c_syntax.specs.declared.kind.SynKind.TheVariants as kind
use Rattle.c_syntax.specs.declared.syntax.SynNode.{SynNode}
use Rattle.c_typing.specs.Judgements as rules
use Rattle.c_typing.specs.Judgements.{Judgement}
use Rattle.c_typing.specs.Conversions.{value_of}
use Rattle.c_typing.specs.Expressions.{address_operator, dereference, not_operator, prefix_step, sign_operator, unary}
use Rattle.c_typing.specs.Typing.{judged_by, with_operand}
use Rattle.c_names.specs.Denoted.{places_in}
use Rattle.c_meanings.specs.Meanings.{judged_at, judged_to, node_in}
use Rattle.c_expression_rows.specs.Texts.{is_step}

other_text : (s t : List ℕ) → (s ≡ t → ⊥) → bytes_eq s t ≡ false
other_text s t other = by (bytes_eq s t) refl
  where
    by : (b : Bool) → bytes_eq s t ≡ b → b ≡ false
    by true e = absurd (other ((bytes_eq-Decides s t).0 e))
    by false e = refl

module _ (table : List SynNode) (n : ℕ) where
  -- an operator by tests of its text
  abbrev pub by_tests : Bool → Bool → Bool → Bool → rules.Typing → Judgement
  by_tests address target negation step x =
      if address then address_operator (node_in table n) x else
      if target then dereference (judged_to table n) (node_in table n) (value_of x).type (value_of x) else
      if negation then not_operator (node_in table n) (value_of x) else
      if step then prefix_step (places_in table) (judged_to table n) (node_in table n) x else sign_operator (node_in table n) (value_of x)

  abbrev pub by_text : List ℕ → rules.Typing → Judgement
  by_text text = by_tests (bytes_eq text (codes "&")) (bytes_eq text (codes "*")) (bytes_eq text (codes "!")) (is_step text)

  abbrev with : (rules.Typing → Judgement) → Judgement
  with f = with_operand (judged_to table n) (node_in table n) f

  pub unary_waits : (node_in table n).label.kind ≡ kind.Unary → judged_at table n ≡ with (unary (places_in table) (judged_to table n) (node_in table n))
  unfolding judged_at judged_by
  unary_waits is = ap (judged_by (places_in table) (judged_to table n) (node_in table n)) is

  pub unary_is : (node_in table n).label.kind ≡ kind.Unary → judged_at table n ≡ with (by_text (node_in table n).label.text)
  unfolding unary
  unary_is is = unary_waits is

  module _ (is : (node_in table n).label.kind ≡ kind.Unary) where
    pub address_is : (node_in table n).label.text ≡ codes "&" → judged_at table n ≡ with (address_operator (node_in table n))
    address_is text = unary_is is ∙ ap (λ s. with (by_text s)) text

    pub target_is : (node_in table n).label.text ≡ codes "*" → judged_at table n ≡ with (λ x. dereference (judged_to table n) (node_in table n) (value_of x).type (value_of x))
    target_is text = unary_is is ∙ ap (λ s. with (by_text s)) text

    pub not_is : (node_in table n).label.text ≡ codes "!" → judged_at table n ≡ with (λ x. not_operator (node_in table n) (value_of x))
    not_is text = unary_is is ∙ ap (λ s. with (by_text s)) text

    pub sign_is : (text : List ℕ) → (node_in table n).label.text ≡ text → is_step (node_in table n).label.text ≡ false → (text ≡ codes "&" → ⊥) → (text ≡ codes "*" → ⊥) → (text ≡ codes "!" → ⊥)
        → judged_at table n ≡ with (λ x. sign_operator (node_in table n) (value_of x))
    sign_is text same step a t e =
        unary_is is ∙ ap (λ s. with (by_tests (bytes_eq s (codes "&")) (bytes_eq s (codes "*")) (bytes_eq s (codes "!")) (is_step (node_in table n).label.text))) same
        ∙ ap (λ b. with (by_tests b (bytes_eq text (codes "*")) (bytes_eq text (codes "!")) (is_step (node_in table n).label.text))) (other_text text (codes "&") a)
        ∙ ap (λ b. with (by_tests false b (bytes_eq text (codes "!")) (is_step (node_in table n).label.text))) (other_text text (codes "*") t)
        ∙ ap (λ b. with (by_tests false false b (is_step (node_in table n).label.text))) (other_text text (codes "!") e)
        ∙ ap (λ b. with (by_tests false false false b)) step
