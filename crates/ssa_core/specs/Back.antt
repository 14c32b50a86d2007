-- Looking back from a block: the nearest block whose value a variable has at the block's end, and paths without writes.
use Rattle.std.specs.Prelude.{◌≡◌, ℕ, zero, suc, ◌<◌, true, List, [], ◌∷◌, Some, None}
use Rattle.std.specs.List.{slice_get}
use Rattle.ssa_core.specs.Shapes.{Mode, unknown, IsThere}
use Rattle.ssa_core.specs.Gives.{View, Chain, Gives}

module _ {V : Type 0} (k : View V) where
  -- back, so many steps, through sealed blocks with one predecessor in which the variable was not written
  pub data Back : ℕ → ℕ → ℕ → Type 0 where
    stay : {b : ℕ} → Back zero b b
    back : {n b stop : ℕ} → (q : ℕ) → k.sealed b ≡ true → k.wrote b ≡ None → k.shape.preds b ≡ q ∷ [] → Back n q stop → Back (suc n) b stop

  -- the block is such a one
  pub record CanPass (b : ℕ) : Type 0 where
    pub sealed : k.sealed b ≡ true
    pub unwritten : k.wrote b ≡ None
    pub before : ℕ
    pub preds : k.shape.preds b ≡ before ∷ []

  -- the nearest block that is not such a one
  pub record IsNearest (b nearest : ℕ) : Type 0 where
    pub steps : ℕ
    pub way : Back steps b nearest
    pub ends : CanPass nearest → ⊥

  -- what stands for the value that was last written to the variable in the block, else for the one that was made for it there
  pub data IsFound (b : ℕ) (v : V) : Type 0 where
    was_written : (u : V) → k.wrote b ≡ Some u → v ≡ k.shape.current u → IsFound b v
    was_made : (p : V) → k.wrote b ≡ None → k.made b ≡ Some p → v ≡ k.shape.current p → IsFound b v

  -- from the start of a block a path leads to the end of the other that passes no block, these two among them, in which the
  -- variable was written
  pub data ComesTo (start : ℕ) : ℕ → Type 0 where
    there : k.wrote start ≡ None → ComesTo start start
    over : {b : ℕ} → (q place : ℕ) → slice_get (k.shape.preds b) place ≡ Some q → k.wrote b ≡ None → ComesTo start q → ComesTo start b

  -- to the end of one of the blocks
  pub record ComesToOne (start : ℕ) (ends : List ℕ) : Type 0 where
    pub place : ℕ
    pub chosen : ℕ
    pub is : slice_get ends place ≡ Some chosen
    pub path : ComesTo start chosen

  -- the value is there, and is what the variable has at the end of the block
  pub record IsGiven (mode : Mode) (b : ℕ) (v : V) : Type 0 where
    pub gives : Gives k (k.wrote b) b v
    pub there : IsThere k.shape v
    pub alike : k.shape.mode v ≡ mode

  -- the same, and it is that of the nearest block, where there is one
  pub record IsRead (mode : Mode) (b : ℕ) (v : V) : Type 0 where
    pub given : IsGiven mode b v
    pub of_nearest : (nearest : ℕ) → IsNearest b nearest → IsFound nearest v

  -- an unknown value for a block that no walk comes to
  pub record IsLost (mode : Mode) (b : ℕ) (v : V) : Type 0 where
    pub there : IsThere k.shape v
    pub alike : k.shape.mode v ≡ mode
    pub kind_is : k.shape.kind v ≡ unknown
    pub endless : (n : ℕ) → Chain k n b

  -- the block was passed on the way to the other
  pub record IsPassed (b stop : ℕ) : Type 0 where
    pub sealed : k.sealed b ≡ true
    pub before : ℕ
    pub preds : k.shape.preds b ≡ before ∷ []
    pub steps : ℕ
    pub way : Back steps before stop
    pub within : stop < k.shape.blocks
