-- What a caller may rest on: what the reads mean, what may be done to the target between calls.
use Rattle.std.specs.Prelude.{◌≡◌, ℕ, ◌≤◌, ◌⊎◌, true, List, [], length, take, Some}
use Rattle.std.specs.List.{slice_get}
use Rattle.ssa_core.specs.declared.places.Place.{Place}
use Rattle.ssa_core.specs.declared.notes.Write.{Write}
use Rattle.ssa_core.specs.declared.notes.Read.{Read}
use Rattle.ssa_core.specs.Places.{found}
use Rattle.ssa_core.specs.Shapes.{Shape, Mode, absent, phi, IsThere, SameValue, HasOnly, IsReplaced}
use Rattle.ssa_core.specs.Walks.{Walk, end, IsWalk, Visits, along, last, last_with}
use Rattle.ssa_core.specs.Known.{Known, last_write, sealed_in, nothing_known}
use Rattle.ssa_core.specs.Building.{IsSettled, IsAmong}

module _ {V : Type 0} (k : Known V) (s : Shape V) where
  -- the first block has no predecessor, and what stands for each written value stands on each walk to the end of its block
  pub record IsSound : Type 0 where
    pub no_way_back : s.preds s.first ≡ []
    pub reaches : (index : ℕ) (w : Write V) → slice_get k.writes index ≡ Some w → (walk : Walk) → IsWalk s walk → end s walk ≡ w.block
        → Visits s walk (s.block (s.current w.value))

  -- each Phi that was made for the variable and is still there has an operand for each predecessor of its block
  abbrev pub ArePhisFull : ℕ → Type 0
  ArePhisFull var = (index : ℕ) (home : Place) (p : V) (operands : List V) → slice_get k.made index ≡ Some (home, p) → home.var ≡ var → s.kind p ≡ phi operands
      → length operands ≡ length (s.preds home.block)

  -- the value was written to the variable, or made for it
  pub data IsOf (var : ℕ) (v : V) : Type 0 where
    of_write : (index : ℕ) (w : Write V) → slice_get k.writes index ≡ Some w → w.var ≡ var → w.value ≡ v → IsOf var v
    of_made : (block : ℕ) → found k.made var block ≡ Some v → IsOf var v
    of_lost : (block : ℕ) → found k.lost var block ≡ Some v → IsOf var v

  -- it stands for such a value
  pub record StandsFor (var : ℕ) (v : V) : Type 0 where
    pub value : V
    pub of_var : IsOf var value
    pub is : v ≡ s.current value

  -- what stands for the value that was read is, along each walk to the end of the block, what was last written on the walk,
  -- where the writes before the read count at the walk's last visit of the block; and its block stands on the walk
  pub record ReadMeans (r : Read V) : Type 0 where
    pub is_last : (walk : Walk) → IsWalk s walk → end s walk ≡ r.block
        → along s walk (s.current r.value) ≡ last_with s (last_write k.writes r.var) (last_write (take r.writes k.writes) r.var r.block) walk
    pub on_walk : (walk : Walk) → IsWalk s walk → end s walk ≡ r.block → Visits s walk (s.block (s.current r.value))
    pub stands_for : StandsFor r.var (s.current r.value)

  -- so is each operand of a Phi that was made, on the walks to the predecessor at its place
  pub record OperandMeans (var pred : ℕ) (operand : V) : Type 0 where
    pub is_last : (walk : Walk) → IsWalk s walk → end s walk ≡ pred → along s walk operand ≡ last s (last_write k.writes var) walk
    pub on_walk : (walk : Walk) → IsWalk s walk → end s walk ≡ pred → Visits s walk (s.block operand)
    pub stands_for : StandsFor var operand

-- a value of the builder
pub data IsOfBuilder {V : Type 0} (k : Known V) (v : V) : Type 0 where
  was_written_to : (index : ℕ) (w : Write V) → slice_get k.writes index ≡ Some w → w.value ≡ v → IsOfBuilder k v
  was_made_for : IsAmong k.made v → IsOfBuilder k v
  was_lost_for : (var block : ℕ) → found k.lost var block ≡ Some v → IsOfBuilder k v
  was_read : (index : ℕ) (r : Read V) → slice_get k.reads index ≡ Some r → r.value ≡ v → IsOfBuilder k v

-- A caller's own change of the target: sealed blocks keep their predecessors, no block goes, what the builder made is as it
-- was, and what stands for a value of the builder is still there.
pub record IsEdited {V : Type 0} (k : Known V) (s t : Shape V) : Type 0 where
  pub preds : (b : ℕ) → sealed_in k.sealed b ≡ true → t.preds b ≡ s.preds b
  pub blocks : s.blocks ≤ t.blocks
  pub made : (v : V) → IsAmong k.made v → SameValue s t v
  pub lost : (var block : ℕ) (v : V) → found k.lost var block ≡ Some v → SameValue s t v
  pub current : (v : V) → IsOfBuilder k v → t.current v ≡ s.current v
  pub once : (v : V) → IsOfBuilder k v → t.kind v ≡ absent → ⊥
  pub there : (v : V) → IsOfBuilder k v → IsThere t (s.current v)
  pub alike : (v : V) → IsOfBuilder k v → t.mode (s.current v) ≡ s.mode (s.current v)

module _ (V : Type 0) where
  -- What the reads and the operands mean, at each moment at which the Phis of the variable are full.
  abbrev pub ReadsMean : Type 0
  ReadsMean = (modes : ℕ → Mode) (k : Known V) (s : Shape V) → IsSettled modes k s → IsSound k s → (index : ℕ) (r : Read V) → slice_get k.reads index ≡ Some r
      → ArePhisFull k s r.var → ReadMeans k s r

  abbrev pub OperandsMean : Type 0
  OperandsMean = (modes : ℕ → Mode) (k : Known V) (s : Shape V) → IsSettled modes k s → IsSound k s → (index : ℕ) (home : Place) (p : V) (operands : List V)
      → slice_get k.made index ≡ Some (home, p) → s.kind p ≡ phi operands → ArePhisFull k s home.var
      → (place pred : ℕ) (operand : V) → slice_get (s.preds home.block) place ≡ Some pred → slice_get operands place ≡ Some operand → OperandMeans k s home.var pred operand

  -- Between calls a caller may change the target,
  abbrev pub EditsKeep : Type 0
  EditsKeep = (modes : ℕ → Mode) (k : Known V) (s t : Shape V) → IsEdited k s t → IsSettled modes k s → IsSettled modes k t

  -- and replace a trivial Phi by its other value.
  abbrev pub ReplacingKeeps : Type 0
  ReplacingKeeps = (modes : ℕ → Mode) (k : Known V) (s t : Shape V) (old to : V) → ((x y : V) → (x ≡ y) ⊎ (x ≡ y → ⊥)) → HasOnly s old to → IsThere s to → s.mode to ≡ s.mode old
      → IsReplaced s t old to → IsSettled modes k s → IsSettled modes k t

  -- Before any call all holds.
  abbrev pub NothingHolds : Type 0
  NothingHolds = (modes : ℕ → Mode) (s : Shape V) → IsSettled modes (nothing_known {V = V}) s
