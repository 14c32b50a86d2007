-- The laws of the definitions, for values of any type.
use Rattle.std.specs.Prelude.{◌≡◌, ℕ, ◌⊎◌, Option}
use Rattle.ssa_core.specs.Shapes.{Shape, HasOnly, IsReplaced, Becomes}
use Rattle.ssa_core.specs.Walks.{Walk, end, IsWalk, Visits, along, last_with}
use Rattle.ssa_core.specs.Gives.{View, Gives, Full, Reaches, IsComplete}

module _ (V : Type 0) where
  -- Where every value that was made is full, a value that is given at the end of a block is, along each walk to it, what was
  -- last written on the walk; what is written in the block itself counts at the walk's last visit.
  abbrev pub GivenIsLast : Type 0
  GivenIsLast = (k : View V) → IsComplete k → (w : Walk) → IsWalk k.shape w → (own : Option V) (v : V) → Reaches k.shape own (end k.shape w)
      → Gives k own (end k.shape w) v → along k.shape w v ≡ last_with k.shape k.wrote own w

  -- The block of such a value stands on each such walk.
  abbrev pub GivenIsOnWalk : Type 0
  GivenIsOnWalk = (k : View V) → IsComplete k → (w : Walk) → IsWalk k.shape w → (own : Option V) (v : V) → Reaches k.shape own (end k.shape w)
      → Gives k own (end k.shape w) v → Visits k.shape w (k.shape.block v)

  -- Where a trivial Phi is replaced by its other value, what was made stays full,
  abbrev pub FullStays : Type 0
  FullStays = (k : View V) (t : Shape V) (old to : V) → HasOnly k.shape old to → IsReplaced k.shape t old to → ((x y : V) → (x ≡ y) ⊎ (x ≡ y → ⊥))
      → (b : ℕ) (p : V) → Full k b p → Full (record k { shape = t }) b p

  -- and what is in the place of a given value is given.
  abbrev pub GivenStays : Type 0
  GivenStays = (k : View V) (t : Shape V) (old to : V) → HasOnly k.shape old to → IsReplaced k.shape t old to → ((x y : V) → (x ≡ y) ⊎ (x ≡ y → ⊥))
      → (own : Option V) (b : ℕ) (v w : V) → Becomes old to v w → Gives k own b v → Gives (record k { shape = t }) own b w
