-- Judgements as the code has them, and as the rules do.
use Rattle.std.specs.Prelude.{◌≡◌, ◌<◌, ◌%◌, ◌^◌, ℕ, Bool, true, false, List, Option, Some, None, map, length, get_or, slice_set, if◌then◌else◌}
use Rattle.c_types.specs.declared.tree.Cell.{Cell}
use Rattle.c_typing.specs.Judgements as rules
use Rattle.c_typing.specs.Judgements.{Judgement, judgement_at}
use Rattle.c_typing.specs.Statements as statements
use Rattle.c_typing.specs.Types.{struct}
use Rattle.c_type_ids.specs.Ids.{Known, AreMembers, Names}
use Rattle.c_values.specs.Typings.{Is, IsType}
use Rattle.c_declared_types.specs.Steps.{AreSteps}
use Rattle.c_judgements.specs.declared.judged.Judged.{Judged}
use Rattle.c_judgements.specs.declared.judged.Judged.TheVariants as judged
use Rattle.c_judgements.specs.declared.judged.Item.{Item}
use Rattle.c_judgements.specs.declared.judged.Item.TheVariants as item

-- an offset is counted modulo 2^32
abbrev pub wrapped : Cell → Cell
wrapped c = record c { offset = c.offset % 2 ^ 32 }

-- these, where they have not been taken
abbrev pub Are : {A : Type 0} → Option A → A → Type 0
Are None a = Unit {0}
Are (Some b) a = b ≡ a

-- it means something that one other node alone has as a part
abbrev pub is_owned : Judgement → Bool
is_owned (rules.means (rules.members fields)) = true
is_owned (rules.means (rules.steps ss)) = true
is_owned (rules.means (rules.expresses x hidden)) = true
is_owned (rules.means (rules.initial count cells)) = true
is_owned (rules.means (rules.performs ss)) = true
is_owned (rules.means (rules.labels w)) = true
is_owned (rules.means (rules.defines f)) = true
is_owned j = false

-- it is this judgement; of what was taken, only that it could be is known
abbrev pub IsJudged : Known → Judged → Judgement → Type 0
IsJudged k judged.Itself (rules.means rules.itself) = Unit {0}
IsJudged k (judged.«Type» kind) (rules.means (rules.a_type t)) = IsType k kind t
IsJudged k (judged.Struct id) (rules.means (rules.a_struct l)) = Names k id (struct l.number)
IsJudged k (judged.Members members) (rules.means (rules.members fields)) = AreMembers k members fields
IsJudged k (judged.Enumerates w) (rules.means (rules.enumerates v)) = w ≡ v
IsJudged k (judged.Steps ss) (rules.means (rules.steps rs)) = AreSteps k ss rs
IsJudged k (judged.Declares kind) (rules.means (rules.declares t)) = IsType k kind t
IsJudged k (judged.Expresses x) (rules.means (rules.expresses y hidden)) = Is k x y
IsJudged k judged.FillsArray (rules.means rules.fills_array) = Unit {0}
IsJudged k (judged.Initial n cells) (rules.means (rules.initial count cs)) = (n ≡ count) × (cells ≡ map wrapped cs)
IsJudged k (judged.Initialized kind code cells) (rules.means (rules.initialized t ss cs)) = IsType k kind t × Are code ss × Are cells (map wrapped cs)
IsJudged k (judged.Performs code) (rules.means (rules.performs ss)) = code ≡ ss
IsJudged k (judged.Labels w) (rules.means (rules.labels v)) = w ≡ v
IsJudged k (judged.Defines f) (rules.means (rules.defines g)) = f ≡ g
IsJudged k judged.BreaksRules (rules.breaks_rules f fs) = Unit {0}
IsJudged k judged.Waits rules.waits = Unit {0}
IsJudged k judged.Taken j = is_owned j ≡ true
IsJudged k s j = ⊥

abbrev pub taken : Judged
taken = judged.Taken

abbrev pub is_taken : Judged → Bool
is_taken judged.Taken = true
is_taken s = false

-- the slots are these judgements
pub record AreJudged (k : Known) (slots : List Judged) (js : List Judgement) : Type 0 where
  pub long : length slots ≡ length js
  pub are : (n : ℕ) → n < length slots → IsJudged k (get_or slots n taken) (judgement_at js n)

-- what a kid of a `switch` is
abbrev pub IsItem : Item → statements.Item → Type 0
IsItem (item.Label w) (statements.a_label v) = w ≡ v
IsItem (item.Statements ss) (statements.a_statement s) = statements.as_one ss ≡ s
IsItem i r = ⊥

-- nothing but this slot has changed, which was taken; where nothing was found there, nothing has changed
abbrev pub IsLeft : List Judged → ℕ → Bool → List Judged → Type 0
IsLeft old node found new = new ≡ (if found then slice_set old node taken else old)

-- a declarator with its initializer, of which the code was not taken
abbrev pub has_code : Judged → Bool
has_code (judged.Initialized kind None cells) = false
has_code judged.Taken = false
has_code s = true

abbrev pub has_cells : Judged → Bool
has_cells (judged.Initialized kind code None) = false
has_cells judged.Taken = false
has_cells s = true

abbrev pub without_code : Judged → Judged
without_code (judged.Initialized kind code cells) = judged.Initialized kind None cells
without_code s = s

abbrev pub without_cells : Judged → Judged
without_cells (judged.Initialized kind code cells) = judged.Initialized kind code None
without_cells s = s

abbrev pub is_filling : Judgement → Bool
is_filling (rules.means rules.fills_array) = true
is_filling j = false

abbrev pub initial_in : Judgement → Option (ℕ × List Cell)
initial_in (rules.means (rules.initial count cells)) = Some (count, cells)
initial_in j = None

abbrev pub initialized_in : Judgement → Option (List Cell)
initialized_in (rules.means (rules.initialized t ss cells)) = Some cells
initialized_in j = None
