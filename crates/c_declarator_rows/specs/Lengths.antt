-- Types in which no array is without a length.
use Rattle.std.specs.Prelude.{◌≡◌, ℕ, Bool, true, false, List, Option, Some, None, MatchOption, IfSome, Result, Ok, Err}
use Rattle.std.specs.List.{AllByRecursion}
use Rattle.c_types.specs.declared.kind.TypeId.{TypeId}
use Rattle.c_typing.specs.Types.{CType, Field, pointer, unsized}
use Rattle.c_typing.specs.Judgements.{Judgement, type_at}
use Rattle.c_type_ids.specs.Ids.{AreMembers, Known, Names}
use Rattle.c_values.specs.declared.typings.«Type».{«Type» as TypeForm}
use Rattle.c_values.specs.declared.typings.«Type».TheVariants as type
use Rattle.c_answers.specs.declared.refusal.Refusal.{Refusal}
use Rattle.c_answers.specs.declared.refusal.Refusal.TheVariants as refusal
use Rattle.c_judgements.specs.declared.judged.Judged.{Judged}
use Rattle.c_judgements.specs.declared.judged.Judged.TheVariants as judged

-- an array without a length, or a pointer to one
abbrev pub lacks_length : CType → Bool
lacks_length (unsized t) = true
lacks_length (pointer (unsized t)) = true
lacks_length t = false

abbrev pub HasLengthAt : List Judgement → ℕ → Type 0
HasLengthAt js n = IfSome (type_at js n) (λ t. lacks_length t ≡ false)

abbrev pub KidsHaveLengths : List Judgement → List ℕ → Type 0
KidsHaveLengths js ns = AllByRecursion (HasLengthAt js) ns

-- a type by its id alone; or there is none
abbrev pub FindsId : Known → Option TypeId → Option CType → Type 0
FindsId k found o = MatchOption found (o ≡ None) (λ id. (t : CType) × (o ≡ Some t) × Names k id t)

abbrev pub known_id : TypeForm → Option TypeId
known_id (type.Known id) = Some id
known_id other = None

-- members; or one of them is not there
abbrev pub FindsAll : Known → Option (List (List ℕ × TypeId)) → Option (List Field) → Type 0
FindsAll k found o = MatchOption found (o ≡ None) (λ ms. (fields : List Field) × (o ≡ Some fields) × AreMembers k ms fields)

abbrev pub as_members : {E : Type 0} → Result (Option (List (List ℕ × TypeId))) E → Result Judged Refusal
as_members (Ok (Some ms)) = Ok (judged.Members ms)
as_members (Ok None) = Ok judged.Waits
as_members (Err e) = Err refusal.OutOfMemory
