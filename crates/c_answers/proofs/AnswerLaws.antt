-- Refusals that are handed on, and answers by lists of faults.
use Rattle.std.proofs.Common.{◌≡◌, List, [], ◌∷◌, sym, subst}
use Rattle.std.specs.Prelude.{Result, Ok, Err}
use Rattle.std.specs.Result.{IsErrAnd}
use Rattle.c_typing.specs.Judgements.{Fault, Meaning, Judgement, means, breaks_rules, waits, verdict, besides, faults_in}
use Rattle.c_answers.specs.declared.refusal.Refusal.{Refusal}
use Rattle.c_answers.specs.Answers.{IsFirst, Settles, Answers}

pub handed_on : {A : Type 0} (P : A → Type 0) (r : Result A Refusal) (faults : List Fault) (refused : Refusal) → IsErrAnd r (λ e. e ≡ refused) → IsFirst refused faults → Settles P r faults
handed_on P (Ok a) faults refused is h = absurd is
handed_on P (Err e) faults refused is h = subst (λ x. IsFirst x faults) (sym is) h

-- what settles a list of faults answers the verdict of them
pub answers_verdict : {A : Type 0} (P : A → Type 0) (Q : A → Meaning → Type 0) (r : Result A Refusal) (faults : List Fault) (m : Meaning)
    → Settles P r faults → ((a : A) → P a → Q a m) → Answers Q r (verdict faults m)
answers_verdict P Q (Ok a) [] m (none, p) h = h a p
answers_verdict P Q (Ok a) (f ∷ fs) m (none, p) h = absurd (cc none)
answers_verdict P Q (Err e) [] m s h = s
answers_verdict P Q (Err e) (f ∷ fs) m s h = s

-- where there is no fault, and what is meant is answered
pub answers_means : {A : Type 0} (Q : A → Meaning → Type 0) (a : A) (faults : List Fault) (m : Meaning) → faults ≡ [] → Q a m → Answers Q (Ok a) (verdict faults m)
answers_means Q a [] m none q = q
answers_means Q a (f ∷ fs) m none q = absurd (cc none)

-- the first fault is the refusal
pub refuses_verdict : {A : Type 0} (Q : A → Meaning → Type 0) (e : Refusal) (faults : List Fault) (m : Meaning) → IsFirst e faults → Answers Q (Err e) (verdict faults m)
refuses_verdict Q e [] m first = first
refuses_verdict Q e (f ∷ fs) m first = first
