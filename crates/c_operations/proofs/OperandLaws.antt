-- What is answered where operands are allowed, and where they are not.
use Rattle.std.proofs.Common.{◌≡◌, ℕ, Bool, true, false, List, [], refl, sym, ap, ap₂, subst}
use Rattle.std.specs.Prelude.{Result, Ok, Err, IfOk}
use Rattle.std.specs.Result.{IsErrAnd}
use Rattle.c_typing.specs.Judgements as rules
use Rattle.c_typing.specs.Judgements.{Fault, rule, Meaning, expresses, verdict}
use Rattle.c_typing.specs.Rules.{bad_operand}
use Rattle.c_type_ids.specs.Ids.{Known}
use Rattle.c_values.specs.declared.operators.Operand.{Operand}
use Rattle.c_values.specs.declared.typings.Typing.{Typing}
use Rattle.c_values.specs.Typings.{Is}
use Rattle.c_values.specs.Operators.{IsOperand}
use Rattle.c_answers.specs.declared.refusal.Refusal.{Refusal}
use Rattle.c_answers.specs.declared.refusal.Refusal.TheVariants as refusal
use Rattle.c_answers.specs.Answers.{Answers, Expresses, IsFirst}
use Rattle.c_answers.proofs.AnswerLaws.{answers_means, refuses_verdict}

-- what is known of what is made says more of it
pub mapped : {A E : Type 0} (P Q : A → Type 0) (r : Result A E) → IfOk r P → ((a : A) → P a → Q a) → IfOk r Q
mapped P Q (Ok a) p f = f a p
mapped P Q (Err e) p f = tt

pub allowed : (k : Known) (v : Typing) (b : Bool) (n h : ℕ) (y : rules.Typing) → b ≡ true → Is k v y → Answers (Expresses k h) (Ok v) (verdict (bad_operand b n) (expresses y h))
allowed k v b n h y e is = answers_means (Expresses k h) v (bad_operand b n) (expresses y h) (ap (λ a. bad_operand a n) e) (is, refl)

pub refused : (k : Known) (b : Bool) (n at h : ℕ) (m : Meaning) → n ≡ at → b ≡ false → Answers (Expresses k h) (Err (refusal.Broken 13 at)) (verdict (bad_operand b n) m)
refused k b n at h m same e =
    refuses_verdict (Expresses k h) (refusal.Broken 13 at) (bad_operand b n) m ([], ap₂ bad_operand e same)

-- a refusal that is handed on
pub handed : (k : Known) (h : ℕ) (r : Result Typing Refusal) (faults : List Fault) (refused : Refusal) (m : Meaning) → IsErrAnd r (λ e. e ≡ refused) → IsFirst refused faults
    → Answers (Expresses k h) r (verdict faults m)
handed k h (Ok v) faults refused m is first = absurd is
handed k h (Err e) faults refused m is first = refuses_verdict (Expresses k h) e faults m (subst (λ x. IsFirst x faults) (sym is) first)

-- the operand of an expression
pub operand_is : (k : Known) (v : Typing) (o : Operand) (x : rules.Typing) → o ≡ record { kind = v.kind; constant = v.constant } → Is k v x → IsOperand k o x
operand_is k v o x e is = subst (λ p. IsOperand k p x) (sym e) (record { type = is.type; constant = is.constant })
