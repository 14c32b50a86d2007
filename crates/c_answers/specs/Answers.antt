-- What is answered where the rules may find faults.
use Rattle.std.specs.Prelude.{◌≡◌, ℕ, List, [], ◌∷◌, Result, Ok, Err}
use Rattle.c_typing.specs.Judgements as rules
use Rattle.c_typing.specs.Judgements.{Fault, rule, too_big, Meaning, expresses, Judgement, means, faults_in}
use Rattle.c_type_ids.specs.Ids.{Known}
use Rattle.c_values.specs.declared.typings.Typing.{Typing}
use Rattle.c_values.specs.Typings.{Is}
use Rattle.c_answers.specs.declared.refusal.Refusal.{Refusal}
use Rattle.c_answers.specs.declared.refusal.Refusal.TheVariants as refusal

-- it is the first of these faults; want of memory says nothing of them
abbrev pub IsFirst : Refusal → List Fault → Type 0
IsFirst (refusal.Broken r n) faults = (others : List Fault) × (faults ≡ rule r n ∷ others)
IsFirst (refusal.TooBig n size) faults = (others : List Fault) × (faults ≡ too_big n size ∷ others)
IsFirst refusal.OutOfMemory faults = Unit {0}

-- there is no fault, and the answer is right; or the refusal is the first fault
abbrev pub Settles : {A : Type 0} → (A → Type 0) → Result A Refusal → List Fault → Type 0
Settles P (Ok a) faults = (faults ≡ []) × P a
Settles P (Err refused) faults = IsFirst refused faults

-- the same where nothing is answered but that there is no fault
abbrev pub Allows : {A : Type 0} → Result A Refusal → List Fault → Type 0
Allows found faults = Settles (λ a. Unit {0}) found faults

-- the judgement has a meaning, and the answer is right; or it has faults, and the refusal is the first of them
abbrev pub Answers : {A : Type 0} → (A → Meaning → Type 0) → Result A Refusal → Judgement → Type 0
Answers P (Ok a) (means m) = P a m
Answers P (Ok a) j = ⊥
Answers P (Err refused) j = IsFirst refused (faults_in j)

-- it is the expression that is meant, which itself takes so many hidden locals
abbrev pub Expresses : Known → ℕ → Typing → Meaning → Type 0
Expresses k hidden x (expresses y h) = Is k x y × (h ≡ hidden)
Expresses k hidden x m = ⊥
