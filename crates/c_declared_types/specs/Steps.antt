-- Steps of declarators as the code has them, and as the rules do.
use Rattle.std.specs.Prelude.{◌≡◌, ℕ, List, [], ◌∷◌, Option, Some, None, Result}
use Rattle.c_typing.specs.Judgements as rules
use Rattle.c_typing.specs.Declarators.{Built}
use Rattle.c_types.specs.declared.kind.TypeId.{TypeId}
use Rattle.c_type_ids.specs.Ids.{Known, Names, NamesAll}
use Rattle.c_values.specs.declared.typings.«Type».{«Type» as TypeForm}
use Rattle.c_values.specs.Typings.{IsType}
use Rattle.c_answers.specs.declared.refusal.Refusal.{Refusal}
use Rattle.c_answers.specs.Answers.{Settles}
use Rattle.c_declared_types.specs.declared.steps.Step.{Step}
use Rattle.c_declared_types.specs.declared.steps.Step.TheVariants as step
use Rattle.c_declared_types.specs.declared.steps.PlacedStep.{PlacedStep}
use Rattle.c_declared_types.specs.declared.steps.Steps.{Steps}

abbrev pub IsStep : Known → Step → rules.Step → Type 0
IsStep k step.ToPointer rules.to_pointer = Unit {0}
IsStep k (step.OfArray n) (rules.of_array m) = n ≡ m
IsStep k step.OfParameter rules.of_parameter = Unit {0}
IsStep k (step.OfFunction takes) (rules.of_function ts) = NamesAll k takes ts
IsStep k s r = ⊥

abbrev pub ArePlaced : Known → List PlacedStep → List rules.PlacedStep → Type 0
ArePlaced k [] [] = Unit {0}
ArePlaced k (s ∷ ss) (r ∷ rs) = (s.node ≡ r.node) × IsStep k s.step r.step × ArePlaced k ss rs
ArePlaced k ss rs = ⊥

-- an array without a length stands next to the name alone
abbrev pub AreFrom : Known → Option ℕ → List PlacedStep → List rules.PlacedStep → Type 0
AreFrom k None outer rs = ArePlaced k outer rs
AreFrom k (Some n) outer [] = ⊥
AreFrom k (Some n) outer (r ∷ rs) = (r ≡ record { node = n; step = rules.of_unsized }) × ArePlaced k outer rs

-- they are these steps of the rules
abbrev pub AreSteps : Known → Steps → List rules.PlacedStep → Type 0
AreSteps k s rs = AreFrom k s.without_length s.outer.items rs

-- a type that steps make, or the first fault
abbrev pub IsBuilt : Known → Result TypeForm Refusal → Built → Type 0
IsBuilt k found b = Settles (λ kind. IsType k kind b.type) found b.faults

-- the same where no array is without a length
abbrev pub IsBuiltId : Known → Result TypeId Refusal → Built → Type 0
IsBuiltId k found b = Settles (λ id. Names k id b.type) found b.faults
