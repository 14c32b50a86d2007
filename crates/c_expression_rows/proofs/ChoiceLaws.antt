-- What `?:` means by what its parts mean.
use Rattle.std.proofs.Common.{◌≡◌, ◌⊎◌, inl, inr, ℕ, Bool, true, false, List, [], ◌∷◌, Option, Some, None, refl, sym, ap, ◌∙◌, subst}
use Rattle.std.specs.Prelude.{Err, is_some, ◌&&◌}
use Rattle.std.proofs.lemmas.Bool.{false≢true}
use Rattle.c_syntax.specs.declared.kind.SynKind.TheVariants as kind
use Rattle.c_syntax.specs.declared.syntax.SynNode.{SynNode}
use Rattle.c_typing.specs.Types.{is_scalar}
use Rattle.c_typing.specs.Judgements as rules
use Rattle.c_typing.specs.Judgements.{Fault, rule, Judgement, besides, breaks_rules, faults_in, given, means, waits}
use Rattle.c_typing.specs.Conversions.{value_of}
use Rattle.c_typing.specs.Rules.{bad_operand}
use Rattle.c_typing.specs.Expressions.{conditional}
use Rattle.c_typing.specs.Typing.{judged_by}
use Rattle.c_names.specs.Denoted.{places_in}
use Rattle.c_type_ids.specs.Ids.{Known}
use Rattle.c_answers.specs.declared.refusal.Refusal.TheVariants as refusal
use Rattle.c_meanings.specs.Meanings.{IsAnswered, judged_at, judged_to, node_in}
use Rattle.c_expression_rows.specs.Choices.{Decides, are_choices, part}

besides_first : (f : Fault) (j : Judgement) → (others : List Fault) × (faults_in (besides (f ∷ []) j) ≡ f ∷ others)
besides_first f (breaks_rules g gs) = (g ∷ gs, refl)
besides_first f (means m) = ([], refl)
besides_first f waits = ([], refl)

module _ (table : List SynNode) (n : ℕ) where
  abbrev number : ℕ
  number = (node_in table n).id

  -- both operands, where they have a meaning
  abbrev chosen : Option rules.Typing → Option rules.Typing → rules.Typing → Judgement
  chosen a b c = given a (λ x. given b (λ y. conditional (judged_to table n) (node_in table n) (value_of c) (value_of x) (value_of y)))

  abbrev decided : Bool → rules.Typing → Judgement
  decided scalar c = besides (bad_operand scalar number) (chosen (part table n 1) (part table n 2) c)

  abbrev choice : Option rules.Typing → Judgement
  choice o = given o (λ c. decided (is_scalar (value_of c).type) c)

  module _ (is : (node_in table n).label.kind ≡ kind.Cond) where
    choice_is : judged_at table n ≡ choice (part table n 0)
    unfolding judged_at judged_by
    choice_is = ap (judged_by (places_in table) (judged_to table n) (node_in table n)) is

    decided_is : (c : rules.Typing) → part table n 0 ≡ Some c → judged_at table n ≡ decided (is_scalar (value_of c).type) c
    decided_is c e = choice_is ∙ ap choice e

    pub choice_waits : (part table n 0 ≡ None) ⊎ (Decides table n true × (are_choices table n ≡ false)) → judged_at table n ≡ waits
    choice_waits (inl none) = choice_is ∙ ap choice none
    choice_waits (inr ((c, e, scalar), missing)) = decided_is c e ∙ ap (λ b. decided b c) scalar ∙ by (part table n 1) (part table n 2) missing
      where
        by : (a b : Option rules.Typing) → (is_some a && is_some b) ≡ false → besides [] (chosen a b c) ≡ waits
        by None b e = refl
        by (Some x) None e = refl
        by (Some x) (Some y) e = absurd (false≢true (sym e))

    pub choice_refused : (k : Known) → number ≡ n → Decides table n false → IsAnswered k (Err (refusal.Broken 13 n)) (judged_at table n)
    choice_refused k own (c, e, scalar) =
        subst (λ j. (others : List Fault) × (faults_in j ≡ rule 13 n ∷ others)) (sym (decided_is c e ∙ ap (λ b. decided b c) scalar))
        (subst (λ i. (others : List Fault) × (faults_in (besides (rule 13 number ∷ []) (chosen (part table n 1) (part table n 2) c)) ≡ rule 13 i ∷ others)) own
        (besides_first (rule 13 number) (chosen (part table n 1) (part table n 2) c)))

    pub choice_with : (c x y : rules.Typing) → part table n 0 ≡ Some c → part table n 1 ≡ Some x → part table n 2 ≡ Some y
        → judged_at table n ≡ besides (bad_operand (is_scalar (value_of c).type) number) (conditional (judged_to table n) (node_in table n) (value_of c) (value_of x) (value_of y))
    choice_with c x y e a b =
        decided_is c e ∙ ap (λ o. besides (bad_operand (is_scalar (value_of c).type) number) (chosen o (part table n 2) c)) a
        ∙ ap (λ o. besides (bad_operand (is_scalar (value_of c).type) number) (chosen (Some x) o c)) b

  pub choices_there : are_choices table n ≡ true → (x y : rules.Typing) × (part table n 1 ≡ Some x) × (part table n 2 ≡ Some y)
  choices_there = by (part table n 1) (part table n 2)
    where
      by : (a b : Option rules.Typing) → (is_some a && is_some b) ≡ true → (x y : rules.Typing) × (a ≡ Some x) × (b ≡ Some y)
      by None b e = absurd (false≢true e)
      by (Some x) None e = absurd (false≢true e)
      by (Some x) (Some y) e = (x, y, refl, refl)
