-- Walks, and which value is meant at their end: `along` by the target, `last` by the writes.
use Rattle.std.specs.Prelude.{◌≡◌, ℕ, ◌==◌, if◌then◌else◌, ◌⊎◌, List, [], ◌∷◌, Option, Some, None}
use Rattle.std.specs.List.{slice_get}
use Rattle.ssa_core.specs.Shapes.{Shape, ValueKind, phi, other}

-- an edge into a block, from its predecessor at a place
pub record Edge : Type 0 where
  pub into : ℕ
  pub place : ℕ

-- A walk from the first block, as its edges, the last one first; without an edge it stands in the first block. The walk up
-- to a visit of a block stands for the visit.
abbrev pub Walk : Type 0
Walk = List Edge

module _ {V : Type 0} (s : Shape V) where
  -- the block that a walk comes to
  abbrev pub end : Walk → ℕ
  end [] = s.first
  end (e ∷ w) = e.into

  -- each edge comes from where the walk before it stands
  abbrev pub IsWalk : Walk → Type 0
  IsWalk [] = Unit {0}
  IsWalk (e ∷ w) = (slice_get (s.preds e.into) e.place ≡ Some (end w)) × IsWalk w

  -- the walk comes to the block, or passes it
  abbrev pub Visits : Walk → ℕ → Type 0
  Visits [] b = s.first ≡ b
  Visits (e ∷ w) b = (e.into ≡ b) ⊎ Visits w b

-- what a value means on a walk: a value that is no Phi, with the visit of its block at which it came to be
pub data Origin (V : Type 0) : Type 0 where
  nowhere : Origin V
  from : V → Walk → Origin V

-- the value's own block is entered: a Phi goes on with an operand
abbrev pub met : {V : Type 0} → ValueKind V → V → Walk → (List V → Origin V) → Origin V
met other v visit operand = from v visit
met (phi operands) v visit operand = operand operands
met kind v visit operand = nowhere

-- a Phi's operand for the edge, on what is left of the walk
abbrev pub operand_at : {V : Type 0} → Option V → (V → Origin V) → Origin V
operand_at (Some v) before = before v
operand_at None before = nowhere

module _ {V : Type 0} (s : Shape V) where
  -- A value that is no Phi is itself, with the last visit of its block. A Phi is its operand for the edge by which the
  -- walk last entered its block, along the walk before that edge. It is nowhere where there is no such visit, or no such
  -- edge, where it is unknown, or where it was replaced.
  unfoldable pub along : Walk → V → Origin V
  along [] v = if s.block v == s.first then met (s.kind v) v [] (λ operands. nowhere) else nowhere
  along (e ∷ w) v =
      if s.block v == e.into
      then met (s.kind v) v (e ∷ w) (λ operands. operand_at (slice_get operands e.place) (along w))
      else along w v

  -- the value last written to a variable on a walk, by the value last written to it in each block, as it is now; `own` is
  -- what counts at the walk's end
  unfoldable pub last_with : (ℕ → Option V) → Option V → Walk → Origin V
  last_with wrote (Some u) w = along w (s.current u)
  last_with wrote None [] = nowhere
  last_with wrote None (e ∷ w) = last_with wrote (wrote (end s w)) w

  abbrev pub last : (ℕ → Option V) → Walk → Origin V
  last wrote w = last_with wrote (wrote (end s w)) w
