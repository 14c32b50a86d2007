-- When a value is what a variable has at the end of a block, by looking back block by block.
use Rattle.std.specs.Prelude.{◌≡◌, ℕ, zero, suc, Bool, true, List, [], ◌∷◌, length, Option, Some, None}
use Rattle.std.specs.List.{slice_get}
use Rattle.ssa_core.specs.Shapes.{Shape, gone, unknown, phi}
use Rattle.ssa_core.specs.Walks.{Walk, end, IsWalk, Visits}

-- What is known of one variable: the target, which blocks are sealed, the value last written to the variable in each
-- block, the value that was made for it at the start of each block, and the unknown value that was made for it in each block
-- that no walk comes to.
pub record View (V : Type 0) : Type 0 where
  pub shape : Shape V
  pub sealed : ℕ → Bool
  pub wrote : ℕ → Option V
  pub made : ℕ → Option V
  pub lost : ℕ → Option V

-- back from the block, so many sealed blocks with one predecessor follow each other, and in none behind it the variable was
-- written
pub data Chain {V : Type 0} (k : View V) : ℕ → ℕ → Type 0 where
  no_step : {b : ℕ} → Chain k zero b
  step : {n b : ℕ} → (q : ℕ) → k.sealed b ≡ true → k.shape.preds b ≡ q ∷ [] → k.wrote q ≡ None → Chain k n q → Chain k (suc n) b

-- Where `own` is the value last written to the variable in the block, v is the one at the block's end: this one, or the
-- one at the block's start. That is the one made there, or that at the end of the only predecessor of a sealed block, or,
-- where such predecessors follow each other without end, an unknown one.
pub data Gives {V : Type 0} (k : View V) : Option V → ℕ → V → Type 0 where
  written : {own : Option V} {b : ℕ} {v : V} → (u : V) → own ≡ Some u → v ≡ k.shape.current u → Gives k own b v
  entered : {own : Option V} {b : ℕ} {v : V} → (p : V) → own ≡ None → k.made b ≡ Some p → v ≡ k.shape.current p → Gives k own b v
  passed : {own : Option V} {b : ℕ} {v : V} → (q : ℕ) → own ≡ None → k.sealed b ≡ true → k.shape.preds b ≡ q ∷ []
      → Gives k (k.wrote q) q v → Gives k own b v
  -- no walk comes to the block
  endless : {own : Option V} {b : ℕ} {v : V} → own ≡ None → k.lost b ≡ Some v → k.shape.kind v ≡ unknown → ((n : ℕ) → Chain k n b) → Gives k own b v

-- the operand for a predecessor is what the variable has at the end of that predecessor
pub record IsGivenAt {V : Type 0} (k : View V) (operands : List V) (place pred : ℕ) : Type 0 where
  pub operand : V
  pub is : slice_get operands place ≡ Some operand
  pub gives : Gives k (k.wrote pred) pred operand

-- A value that was made for the variable in a block is full.
pub data Full {V : Type 0} (k : View V) (b : ℕ) (p : V) : Type 0 where
  -- an unknown value, in a sealed block without predecessor
  at_start : k.shape.kind p ≡ unknown → k.shape.current p ≡ p → k.sealed b ≡ true → k.shape.preds b ≡ [] → Full k b p
  -- a Phi with the right operand for each predecessor
  joined : (operands : List V) → k.shape.kind p ≡ phi operands → k.shape.current p ≡ p → length operands ≡ length (k.shape.preds b)
      → ((place pred : ℕ) → slice_get (k.shape.preds b) place ≡ Some pred → IsGivenAt k operands place pred)
      → Full k b p
  -- a Phi that was replaced, by what the variable has at the end of each predecessor
  replaced : k.shape.kind p ≡ gone → (q : ℕ) (qs : List ℕ) → k.shape.preds b ≡ q ∷ qs
      → ((place pred : ℕ) → slice_get (k.shape.preds b) place ≡ Some pred → Gives k (k.wrote pred) pred (k.shape.current p))
      → Full k b p

-- the value that is now in the place of what was written stands on every walk to the end of the block
abbrev pub Reaches : {V : Type 0} → Shape V → Option V → ℕ → Type 0
Reaches {V} s own b = (u : V) → own ≡ Some u → (w : Walk) → IsWalk s w → end s w ≡ b → Visits s w (s.block (s.current u))

-- every value that was made is full, and what was written is still there
pub record IsComplete {V : Type 0} (k : View V) : Type 0 where
  pub no_way_back : k.shape.preds k.shape.first ≡ []
  pub in_block : (b : ℕ) (p : V) → k.made b ≡ Some p → k.shape.block p ≡ b
  pub full : (b : ℕ) (p : V) → k.made b ≡ Some p → Full k b p
  pub reaches : (b : ℕ) → Reaches k.shape (k.wrote b) b
