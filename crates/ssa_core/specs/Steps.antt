-- What holds within a call of the builder: what its parts are given, and what they give.
use Rattle.std.specs.Prelude.{◌≡◌, ℕ, zero, suc, ◌+◌, ◌<◌, ◌≤◌, ◌⊎◌, true, List, [], length, Option, Some, None}
use Rattle.std.specs.List.{slice_get}
use Rattle.ssa_core.specs.declared.places.Place.{Place}
use Rattle.ssa_core.specs.Places.{found}
use Rattle.ssa_core.specs.Shapes.{Shape, Mode, absent, unknown, phi, IsThere, SameBlocks, SamePlace, SameValue, Stands}
use Rattle.ssa_core.specs.Gives.{View}
use Rattle.ssa_core.specs.Back.{Back, CanPass, IsPassed, IsFound, IsGiven, ComesToOne}
use Rattle.ssa_core.specs.Known.{Known, last_write, later_of, sealed_in, view}
use Rattle.ssa_core.specs.Building.{IsKept, IsDone, SameCalls}

-- the value that was written in the block, else the one that was made there
abbrev pub known_value : {V : Type 0} → Known V → ℕ → ℕ → Option V
known_value k var block = later_of (found k.made var block) (last_write k.writes var block)

-- values come, and what was there is as before
pub record Adds {V : Type 0} (s t : Shape V) : Type 0 where
  pub same_blocks : SameBlocks s t
  pub keeps : (v : V) → (s.kind v ≡ absent → ⊥) → SameValue s t v

abbrev pub is_free : {X : Type 0} → Option X → ℕ
is_free (Some x) = 0
is_free None = 1

-- how many blocks below n there are in which no value was made for the variable
unfoldable pub free_places : {V : Type 0} → List (Place × V) → ℕ → ℕ → ℕ
free_places made var zero = 0
free_places made var (suc n) = is_free (found made var n) + free_places made var n

-- what always holds holds again, and each value that was made has taken a place
pub record Advances {V : Type 0} (modes : ℕ → Mode) (var : ℕ) (k l : Known V) (s t : Shape V) : Type 0 where
  pub kept : IsKept modes l t
  pub calls : SameCalls k l
  pub room : free_places l.made var s.blocks + length l.made ≡ free_places k.made var s.blocks + length k.made

-- the block can be passed, on to the other
pub record StepsBack {V : Type 0} (k : View V) (b before : ℕ) : Type 0 where
  pub passed : IsPassed k b before
  pub unwritten : k.wrote b ≡ None

-- all blocks of the trail were passed, on the way from the block to where it stops; a trail that is not too long ends at the
-- nearest block
pub record WentBack {V : Type 0} (k : View V) (limit b : ℕ) (trail : List ℕ) (stop : ℕ) : Type 0 where
  pub steps : ℕ
  pub way : Back k steps b stop
  pub long : length trail ≤ steps
  pub each : (i x : ℕ) → slice_get trail i ≡ Some x → IsPassed k x stop
  pub within : stop < k.shape.blocks
  pub ends : length trail ≤ limit → CanPass k stop → ⊥

-- what is noted as passed was so before, or is a block of the trail, for the variable and on to the stop
pub record IsOnTrail (var : ℕ) (trail : List ℕ) (stop x b n : ℕ) : Type 0 where
  pub of_var : x ≡ var
  pub index : ℕ
  pub is : slice_get trail index ≡ Some b
  pub to_stop : n ≡ stop

abbrev pub IsTrailNoted : List (Place × ℕ) → List (Place × ℕ) → ℕ → List ℕ → ℕ → Type 0
IsTrailNoted old new var trail stop = (x b n : ℕ) → found new x b ≡ Some n → (found old x b ≡ Some n) ⊎ IsOnTrail var trail stop x b n

-- the value is there, and is found in the block
pub record IsStanding {V : Type 0} (k : View V) (mode : Mode) (b : ℕ) (v : V) : Type 0 where
  pub found_there : IsFound k b v
  pub there : IsThere k.shape v
  pub alike : k.shape.mode v ≡ mode

-- a value that can be made in the block: an unknown one in a sealed block without predecessor, and else a Phi
pub data IsFit {V : Type 0} (k : Known V) (s t : Shape V) (mode : Mode) (b : ℕ) (v : V) : Type 0 where
  fit_start : sealed_in k.sealed b ≡ true → s.preds b ≡ [] → Stands s t v b unknown mode → IsFit k s t mode b v
  fit_phi : (sealed_in k.sealed b ≡ true → s.preds b ≡ [] → ⊥) → s.kind v ≡ absent → Stands s t v b (phi []) mode → IsFit k s t mode b v

-- the operands are what the variable has at the ends of the first predecessors of the block, as many as there are operands
pub record GivenFor {V : Type 0} (k : View V) (mode : Mode) (b place : ℕ) (v : V) : Type 0 where
  pub pred : ℕ
  pub at : slice_get (k.shape.preds b) place ≡ Some pred
  pub given : IsGiven k mode pred v

abbrev pub AreGiven : {V : Type 0} → View V → Mode → ℕ → List V → Type 0
AreGiven {V} k mode b operands = (place : ℕ) (v : V) → slice_get operands place ≡ Some v → GivenFor k mode b place v

-- the Phi had no operand, and has these
pub record IsFilled {V : Type 0} (s t : Shape V) (p : V) (operands : List V) : Type 0 where
  pub kind_is : t.kind p ≡ phi operands
  pub kinds : (x : V) → (x ≡ p → ⊥) → t.kind x ≡ s.kind x
  pub places : (x : V) → SamePlace s t x
  pub same_blocks : SameBlocks s t

-- the value can be filled: it is a Phi without operands, or its block has no predecessor
abbrev pub IsOpen : {V : Type 0} → Shape V → ℕ → V → Type 0
IsOpen s b p = (s.kind p ≡ phi []) ⊎ (s.preds b ≡ [])

-- so can all that were made for the variable from the index on, and they are all that were made
pub record AreOpen {V : Type 0} (k : Known V) (s : Shape V) (var start : ℕ) : Type 0 where
  pub for_var : (index : ℕ) (home : Place) (p : V) → start ≤ index → slice_get k.made index ≡ Some (home, p) → home.var ≡ var
  pub are_open : (index : ℕ) (home : Place) (p : V) → start ≤ index → slice_get k.made index ≡ Some (home, p) → IsOpen s home.block p

-- from the start of the block of each of them a path without writes leads to the end of one of the blocks
abbrev pub AreReached : {V : Type 0} → Known V → Shape V → ℕ → List ℕ → Type 0
AreReached {V} k s start ends = (index : ℕ) (home : Place) (p : V) → start ≤ index → slice_get k.made index ≡ Some (home, p)
    → ComesToOne (view k s home.var) home.block ends

-- what was done before the index stays so, and all from there on is done
pub record Settles {V : Type 0} (k l : Known V) (s t : Shape V) (start : ℕ) : Type 0 where
  pub earlier : (index : ℕ) → index < start → IsDone k s index → IsDone l t index
  pub later : (index : ℕ) → start ≤ index → IsDone l t index
