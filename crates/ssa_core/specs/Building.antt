-- What holds of the builder and its target, between calls and within a call, and what a call changes.
use Rattle.std.specs.Prelude.{◌≡◌, ℕ, ◌<◌, ◌≤◌, ◌⊎◌, true, false, List, [], ◌∷◌, ◌++◌, length, take, Some}
use Rattle.std.specs.List.{slice_get}
use Rattle.ssa_core.specs.declared.places.Place.{Place}
use Rattle.ssa_core.specs.declared.notes.Write.{Write}
use Rattle.ssa_core.specs.declared.notes.Read.{Read}
use Rattle.ssa_core.specs.Places.{found}
use Rattle.ssa_core.specs.Shapes.{Shape, Mode, absent, unknown, phi, IsThere, SameBlocks, SamePlace}
use Rattle.ssa_core.specs.Gives.{View, Gives, Full}
use Rattle.ssa_core.specs.Back.{IsPassed, IsLost, ComesToOne}
use Rattle.ssa_core.specs.Known.{Known, last_write, sealed_in, view}

-- the value was there, and what is now in its place is there, of the mode
pub record CanGive {V : Type 0} (s : Shape V) (mode : Mode) (v : V) : Type 0 where
  pub once : s.kind v ≡ absent → ⊥
  pub there : IsThere s (s.current v)
  pub alike : s.mode (s.current v) ≡ mode

-- a made value is full, or is a Phi without operands
pub data Stage {V : Type 0} (k : View V) (b : ℕ) (p : V) : Type 0 where
  filled : k.sealed b ≡ true → Full k b p → Stage k b p
  waits : k.shape.kind p ≡ phi [] → k.shape.current p ≡ p → Stage k b p

pub record MadeWell {V : Type 0} (k : View V) (mode : Mode) (b : ℕ) (p : V) : Type 0 where
  pub home : k.shape.block p ≡ b
  pub within : b < k.shape.blocks
  pub alike : k.shape.mode p ≡ mode
  pub can_give : CanGive k.shape mode p
  pub stage : Stage k b p

-- what always holds, where `modes` has the mode of each variable
pub record IsKept {V : Type 0} (modes : ℕ → Mode) (k : Known V) (s : Shape V) : Type 0 where
  pub written : (index : ℕ) (w : Write V) → slice_get k.writes index ≡ Some w → CanGive s (modes w.var) w.value
  pub made : (index : ℕ) (place : Place) (p : V) → slice_get k.made index ≡ Some (place, p)
      → MadeWell (view k s place.var) (modes place.var) place.block p
  -- no block has two values for one variable
  pub once : (index : ℕ) (place : Place) (p : V) → slice_get k.made index ≡ Some (place, p) → found k.made place.var place.block ≡ Some p
  -- no two places have one Phi
  pub apart : (i j : ℕ) (x y : Place) (p : V) (operands : List V) → slice_get k.made i ≡ Some (x, p) → slice_get k.made j ≡ Some (y, p)
      → s.kind p ≡ phi operands → i ≡ j
  pub passed : (var block stop : ℕ) → found k.passed var block ≡ Some stop → IsPassed (view k s var) block stop
  pub lost : (var block : ℕ) (v : V) → found k.lost var block ≡ Some v → IsLost (view k s var) (modes var) block v
  pub sealed : (block : ℕ) → sealed_in k.sealed block ≡ true → block < s.blocks

-- the value that was made at the index is full, or its block is not sealed
abbrev pub IsDone : {V : Type 0} → Known V → Shape V → ℕ → Type 0
IsDone {V} k s index = (place : Place) (p : V) → slice_get k.made index ≡ Some (place, p) → sealed_in k.sealed place.block ≡ true
    → Full (view k s place.var) place.block p

-- ---- between calls

-- a call of `write`, or of `read`, or a value that was made, for the variable
pub record WasRead {V : Type 0} (k : Known V) (var : ℕ) : Type 0 where
  pub index : ℕ
  pub read : Read V
  pub is : slice_get k.reads index ≡ Some read
  pub of_var : read.var ≡ var

-- something is kept for the variable
pub data IsNoted {V : Type 0} (k : Known V) (var : ℕ) : Type 0 where
  by_made : (block : ℕ) (p : V) → found k.made var block ≡ Some p → IsNoted k var
  by_passed : (block stop : ℕ) → found k.passed var block ≡ Some stop → IsNoted k var
  by_lost : (block : ℕ) (v : V) → found k.lost var block ≡ Some v → IsNoted k var

-- what stands for the value that was read is what the variable had at the end of the block, by the writes before
pub record ReadWell {V : Type 0} (modes : ℕ → Mode) (k : Known V) (s : Shape V) (r : Read V) : Type 0 where
  pub can_give : CanGive s (modes r.var) r.value
  pub gives : Gives (view k s r.var) (last_write (take r.writes k.writes) r.var r.block) r.block (s.current r.value)

pub record IsSettled {V : Type 0} (modes : ℕ → Mode) (k : Known V) (s : Shape V) : Type 0 where
  pub kept : IsKept modes k s
  pub done : (index : ℕ) → IsDone k s index
  pub reads : (index : ℕ) (r : Read V) → slice_get k.reads index ≡ Some r → ReadWell modes k s r
  pub counts : (index : ℕ) (r : Read V) → slice_get k.reads index ≡ Some r → r.writes ≤ length k.writes
  pub asked : (var : ℕ) → IsNoted k var → WasRead k var

-- the condition of each call; after a refusal of `read` or `seal` it asks nothing
abbrev pub IsReady : {V : Type 0} → (ℕ → Mode) → Known V → Shape V → Type 0
IsReady modes k s = k.spent ≡ false → IsSettled modes k s

-- the block is a predecessor of some block
pub record IsBefore {V : Type 0} (s : Shape V) (block : ℕ) : Type 0 where
  pub later : ℕ
  pub place : ℕ
  pub is : slice_get (s.preds later) place ≡ Some block

-- a value that was made for the variable waits in the block
pub record IsWaiting {V : Type 0} (k : Known V) (block var : ℕ) : Type 0 where
  pub value : V
  pub is : found k.made var block ≡ Some value

-- ---- what a call changes

-- the made list has the value
pub record IsAmong {V : Type 0} (made : List (Place × V)) (v : V) : Type 0 where
  pub index : ℕ
  pub place : Place
  pub is : slice_get made index ≡ Some (place, v)

-- the kind is the same, or the value is a made Phi that had no operand, though its block has predecessors, and got some
pub data Gains {V : Type 0} (made : List (Place × V)) (s t : Shape V) (v : V) : Type 0 where
  same_kind : t.kind v ≡ s.kind v → Gains made s t v
  gets : (operands : List V) → s.kind v ≡ phi [] → (s.preds (s.block v) ≡ [] → ⊥) → t.kind v ≡ phi operands → IsAmong made v → Gains made s t v

-- values come, and what was there is the same but for the operands of made Phis
pub record Grows {V : Type 0} (made : List (Place × V)) (s t : Shape V) : Type 0 where
  pub same_blocks : SameBlocks s t
  pub places : (v : V) → (s.kind v ≡ absent → ⊥) → SamePlace s t v
  pub kinds : (v : V) → (s.kind v ≡ absent → ⊥) → Gains made s t v

-- a value that `phi` made
pub record IsNewPhi {V : Type 0} (s t : Shape V) (p : V) : Type 0 where
  pub was : s.kind p ≡ absent
  pub operands : List V
  pub is : t.kind p ≡ phi operands

-- Phis are made in blocks that are not sealed or have at least two predecessors, and unknown values in sealed blocks without
-- predecessor
pub data IsNeeded {V : Type 0} (k : Known V) (s t : Shape V) (block : ℕ) (p : V) : Type 0 where
  unsealed : sealed_in k.sealed block ≡ false → IsNewPhi s t p → IsNeeded k s t block p
  joins : (first second : ℕ) (rest : List ℕ) → t.preds block ≡ first ∷ second ∷ rest → IsNewPhi s t p → IsNeeded k s t block p
  starts : sealed_in k.sealed block ≡ true → t.preds block ≡ [] → t.kind p ≡ unknown → IsNeeded k s t block p

-- A value that was made, and why: it was asked for its variable, and a path without writes leads from the start of its block
-- to the end of one of the blocks.
pub record IsNew {V : Type 0} (asked : ℕ → Type 0) (ends : List ℕ) (k : Known V) (s t : Shape V) (place : Place) (p : V) : Type 0 where
  pub for_var : asked place.var
  pub path : ComesToOne (view k t place.var) place.block ends
  pub needed : IsNeeded k s t place.block p

-- the value is not there, or is unknown, or was made at the start of a block
pub data IsFresh {V : Type 0} (k : Known V) (t : Shape V) (v : V) : Type 0 where
  not_there : t.kind v ≡ absent → IsFresh k t v
  is_unknown : t.kind v ≡ unknown → IsFresh k t v
  is_made : IsAmong k.made v → IsFresh k t v

-- values are made at the end of the list, and the target grows by them
pub record Makes {V : Type 0} (asked : ℕ → Type 0) (ends : List ℕ) (k l : Known V) (s t : Shape V) : Type 0 where
  pub more : List (Place × V)
  pub made : l.made ≡ k.made ++ more
  pub new : (index : ℕ) (place : Place) (p : V) → slice_get more index ≡ Some (place, p) → IsNew asked ends l s t place p
  pub grows : Grows l.made s t
  -- what else came is unknown
  pub fresh : (v : V) → s.kind v ≡ absent → IsFresh l t v
  pub lost : (var block : ℕ) (v : V) → found k.lost var block ≡ Some v → found l.lost var block ≡ Some v
  pub notes : (var : ℕ) → IsNoted l var → IsNoted k var ⊎ asked var

-- the calls so far, and the sealed blocks, are the same
pub record SameCalls {V : Type 0} (k l : Known V) : Type 0 where
  pub writes : l.writes ≡ k.writes
  pub reads : l.reads ≡ k.reads
  pub sealed : (block : ℕ) → sealed_in l.sealed block ≡ sealed_in k.sealed block
