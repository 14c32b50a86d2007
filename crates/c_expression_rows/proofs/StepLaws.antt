-- What operators that write mean.
use Rattle.std.proofs.Common.{◌≡◌, ℕ, Bool, true, false, List, length, refl, ap, ◌∙◌}
use Rattle.std.specs.Prelude.{codes, if◌then◌else◌, ◌||◌, ◌==◌}
use Rattle.std.specs.Str.{bytes_eq}
use Rattle.std.proofs.lemmas.Bool.{false≢true}
use Rattle.std.proofs.lemmas.Slice.Eq.{bytes_eq-Decides}
use Rattle.c_syntax.specs.declared.kind.SynKind.TheVariants as kind
use Rattle.c_syntax.specs.declared.syntax.SynNode.{SynNode}
use Rattle.c_typing.specs.Judgements as rules
use Rattle.c_typing.specs.Judgements.{Judgement, given}
use Rattle.c_typing.specs.Conversions.{operator_of, value_of}
use Rattle.c_typing.specs.Expressions.{assign, assignment, before_equal, compound_by, postfix_step, prefix_step}
use Rattle.c_typing.specs.Typing.{judged_by, with_operand, with_operands}
use Rattle.c_names.specs.Denoted.{places_in}
use Rattle.c_meanings.specs.Meanings.{judged_at, judged_to, node_in}
use Rattle.c_expression_rows.specs.Texts.{is_step}
use Rattle.c_expression_rows.proofs.PrefixLaws.{by_text, unary_is}

module _ (table : List SynNode) (n : ℕ) where
  pub prefix_is : (node_in table n).label.kind ≡ kind.Unary → is_step (node_in table n).label.text ≡ true
      → judged_at table n ≡ with_operand (judged_to table n) (node_in table n) (prefix_step (places_in table) (judged_to table n) (node_in table n))
  prefix_is is step = by (bytes_eq (node_in table n).label.text (codes "++")) (bytes_eq (node_in table n).label.text (codes "--")) refl refl step
    where
      said : (s : List ℕ) → (node_in table n).label.text ≡ s → judged_at table n ≡ with_operand (judged_to table n) (node_in table n) (by_text table n s)
      said s e = unary_is table n is ∙ ap (λ s. with_operand (judged_to table n) (node_in table n) (by_text table n s)) e

      by : (a b : Bool) → bytes_eq (node_in table n).label.text (codes "++") ≡ a → bytes_eq (node_in table n).label.text (codes "--") ≡ b → (a || b) ≡ true
          → judged_at table n ≡ with_operand (judged_to table n) (node_in table n) (prefix_step (places_in table) (judged_to table n) (node_in table n))
      by true b e f h = said (codes "++") ((bytes_eq-Decides (node_in table n).label.text (codes "++")).0 e)
      by false true e f h = said (codes "--") ((bytes_eq-Decides (node_in table n).label.text (codes "--")).0 f)
      by false false e f h = absurd (false≢true h)

  pub postfix_is : (node_in table n).label.kind ≡ kind.Post → judged_at table n ≡ with_operand (judged_to table n) (node_in table n) (postfix_step (places_in table) (judged_to table n) (node_in table n))
  unfolding judged_at judged_by
  postfix_is is = ap (judged_by (places_in table) (judged_to table n) (node_in table n)) is

  module _ (is : (node_in table n).label.kind ≡ kind.Assign) where
    pub assign_is : judged_at table n ≡ with_operands (judged_to table n) (node_in table n) (λ x y. assign (places_in table) (judged_to table n) (node_in table n) x (value_of y))
    unfolding judged_at judged_by
    assign_is = ap (judged_by (places_in table) (judged_to table n) (node_in table n)) is

    pub assignment_is : (x y : rules.Typing) → length (node_in table n).label.text ≡ 1
        → assign (places_in table) (judged_to table n) (node_in table n) x (value_of y) ≡ assignment (judged_to table n) (node_in table n) x (value_of y)
    unfolding assign
    assignment_is x y text = ap (λ k. if k == 1 then assignment (judged_to table n) (node_in table n) x (value_of y) else compound) text
      where
        compound : Judgement
        compound = given (operator_of (before_equal (node_in table n).label.text)) (compound_by (places_in table) (judged_to table n) (node_in table n) x (value_of y))
