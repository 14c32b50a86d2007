-- Names of functions.
use Rattle.std.proofs.Common.{◌≡◌, ◌++◌, ℕ, Bool, true, false, List, refl}
use Rattle.std.specs.Prelude.{Err}
use Rattle.c_typing.specs.Judgements.{Fault, Meaning, verdict}
use Rattle.c_typing.specs.Rules.{function_as_value}
use Rattle.c_type_ids.specs.Ids.{Known}
use Rattle.c_answers.specs.declared.refusal.Refusal.TheVariants as refusal
use Rattle.c_places.specs.Places.{IsAnswer}
use Rattle.c_places.proofs.GrowLaws.{refuses}

pub not_called : (k : Known) (called : Bool) (node : ℕ) (rest : List Fault) (m : Meaning) → called ≡ false
    → IsAnswer k (Err (refusal.Broken 25 node)) (verdict (function_as_value called node ++ rest) m)
not_called k false node rest m e = refuses k 25 node node rest refl
not_called k true node rest m e = absurd (cc e)
