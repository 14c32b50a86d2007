-- Compound assignments, `++` and `--`.
use Rattle.std.proofs.Common.{◌≡◌, ℕ, Bool, true, false, List, [], refl, sym, ap, ◌∙◌, subst}
use Rattle.std.specs.Prelude.{Result, Ok, Some, None, if◌then◌else◌, codes}
use Rattle.std.specs.Str.{bytes_eq}
use Rattle.std.specs.Option.{is_some}
use Rattle.std.specs.Result.{IsErrAnd}
use Rattle.c_types.specs.declared.tree.COp.TheVariants as op
use Rattle.c_typing.specs.Types.{CType, integer, pointer, int, has_size, Layout}
use Rattle.c_typing.specs.Places.{Node}
use Rattle.c_typing.specs.Names.{Places}
use Rattle.c_typing.specs.Judgements as rules
use Rattle.c_typing.specs.Judgements.{Judgement, layouts, expresses, verdict}
use Rattle.c_typing.specs.Rules.{bad_operand, not_assignable}
use Rattle.c_typing.specs.Conversions.{Operator, additive, subtractive, result, sum_type, difference_type}
use Rattle.c_typing.specs.Expressions.{hidden_before, hidden_for, number_of_type, written, written_before, compound_new, is_compound, can_step, step_operator, step_faults, stepped, compound_by, prefix_step, postfix_step}
use Rattle.c_type_ids.specs.Ids.{Known}
use Rattle.c_values.specs.declared.typings.Typing.{Typing}
use Rattle.c_values.specs.Typings.{Is}
use Rattle.c_answers.specs.declared.refusal.Refusal.{Refusal}
use Rattle.c_answers.specs.Answers.{Answers, Expresses, IsFirst}
use Rattle.c_answers.proofs.AnswerLaws.{answers_means}
use Rattle.c_operations.proofs.OperandLaws.{handed}
use Rattle.c_assignments.specs.Assignments.{first_of, compound_faults}

-- ---- compound assignments

module _ (k : Known) (p : Places) (js : List Judgement) (n : Node) (at hidden : ℕ) (x y : rules.Typing) (o : Operator) (same : n.id ≡ at) where
  abbrev pub Written : ℕ → rules.Typing
  Written h = result x.type (written h x (compound_new (layouts js) o x y) x.form) rules.no_constant

  pub compound_allowed : (v : Typing) → hidden_before p js ≡ hidden → compound_faults (layouts js) o x y at ≡ [] → Is k v (Written hidden)
      → Answers (Expresses k (hidden_for x.form 0)) (Ok v) (compound_by p js n x y o)
  unfolding compound_by
  compound_allowed v number none is =
      answers_means (Expresses k (hidden_for x.form 0)) v (compound_faults (layouts js) o x y n.id) (expresses (Written (hidden_before p js)) (hidden_for x.form 0))
      (ap (compound_faults (layouts js) o x y) same ∙ none) (subst (λ h. Is k v (Written h)) (sym number) is, refl)

  pub compound_refused : (r : Result Typing Refusal) (refused : Refusal) → IsErrAnd r (λ e. e ≡ refused) → IsFirst refused (compound_faults (layouts js) o x y at)
      → Answers (Expresses k (hidden_for x.form 0)) r (compound_by p js n x y o)
  unfolding compound_by
  compound_refused r refused is first =
      handed k (hidden_for x.form 0) r (compound_faults (layouts js) o x y n.id) refused (expresses (Written (hidden_before p js)) (hidden_for x.form 0)) is
      (subst (λ m. IsFirst refused (compound_faults (layouts js) o x y m)) (sym same) first)

-- ---- `++` and `--`: with 1 on the right

abbrev pub one : rules.Typing
one = number_of_type int 1

sized : (ls : List Layout) (t : CType) (b : Bool) → is_some (if b then Some (pointer t) else None) ≡ b
sized ls t true = refl
sized ls t false = refl

by_sum : (ls : List Layout) (t : CType) → is_some (sum_type ls t (integer int)) ≡ can_step ls t
by_sum ls (integer k) = refl
by_sum ls (pointer t) = sized ls t (has_size ls t)
by_sum ls t = refl

by_difference : (ls : List Layout) (t : CType) → is_some (difference_type ls t (integer int)) ≡ can_step ls t
by_difference ls (integer k) = refl
by_difference ls (pointer t) = sized ls t (has_size ls t)
by_difference ls t = refl

may_step : (ls : List Layout) (text : List ℕ) (x : rules.Typing) → is_compound ls (step_operator text) x one ≡ can_step ls x.type
may_step ls text x = by (bytes_eq text (codes "++"))
  where
    by : (b : Bool) → is_compound ls (if b then record { text = codes "+"; class = additive; signed = op.AddS; unsigned = op.AddU }
        else record { text = codes "-"; class = subtractive; signed = op.SubS; unsigned = op.SubU }) x one ≡ can_step ls x.type
    by true = by_sum ls x.type
    by false = by_difference ls x.type

faults_are : (ls : List Layout) (text : List ℕ) (x : rules.Typing) (n : ℕ) → compound_faults ls (step_operator text) x one n ≡ step_faults ls x n
faults_are ls text x n = ap (λ b. first_of (bad_operand b n) (not_assignable x n)) (may_step ls text x)

pub prefix_is : (p : Places) (js : List Judgement) (n : Node) (x : rules.Typing) → compound_by p js n x one (step_operator n.label.text) ≡ prefix_step p js n x
unfolding compound_by prefix_step
prefix_is p js n x =
    ap (λ fs. verdict fs (expresses (result x.type (written (hidden_before p js) x (stepped (layouts js) (step_operator n.label.text) x.type) x.form) rules.no_constant) (hidden_for x.form 0)))
    (faults_are (layouts js) n.label.text x n.id)

module _ (k : Known) (p : Places) (js : List Judgement) (n : Node) (at hidden : ℕ) (x : rules.Typing) (same : n.id ≡ at) where
  abbrev pub Kept : ℕ → rules.Typing
  Kept h = result x.type (written_before h x (compound_new (layouts js) (step_operator n.label.text) x one) x.form) rules.no_constant

  are : compound_faults (layouts js) (step_operator n.label.text) x one at ≡ step_faults (layouts js) x n.id
  are = faults_are (layouts js) n.label.text x at ∙ ap (step_faults (layouts js) x) (sym same)

  pub postfix_allowed : (v : Typing) → hidden_before p js ≡ hidden → compound_faults (layouts js) (step_operator n.label.text) x one at ≡ [] → Is k v (Kept hidden)
      → Answers (Expresses k (hidden_for x.form 1)) (Ok v) (postfix_step p js n x)
  unfolding postfix_step
  postfix_allowed v number none is =
      answers_means (Expresses k (hidden_for x.form 1)) v (step_faults (layouts js) x n.id) (expresses (Kept (hidden_before p js)) (hidden_for x.form 1))
      (sym are ∙ none) (subst (λ h. Is k v (Kept h)) (sym number) is, refl)

  pub postfix_refused : (r : Result Typing Refusal) (refused : Refusal) → IsErrAnd r (λ e. e ≡ refused)
      → IsFirst refused (compound_faults (layouts js) (step_operator n.label.text) x one at) → Answers (Expresses k (hidden_for x.form 1)) r (postfix_step p js n x)
  unfolding postfix_step
  postfix_refused r refused is first =
      handed k (hidden_for x.form 1) r (step_faults (layouts js) x n.id) refused (expresses (Kept (hidden_before p js)) (hidden_for x.form 1)) is
      (subst (λ fs. IsFirst refused fs) are first)
