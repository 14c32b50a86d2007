-- Edges and operands of a target of lists.
use Rattle.std.specs.Prelude.{◌≡◌, ℕ, ◌<◌, List, [], length, Option, Some, None}
use Rattle.std.specs.List.{slice_get}
use Rattle.ssa_tests.specs.declared.lists.ListBlock.{ListBlock}

abbrev pub preds_at : Option ListBlock → List ℕ
preds_at (Some b) = b.preds.items
preds_at None = []

-- each predecessor is a block
abbrev pub EdgesAreThere : List ListBlock → Type 0
EdgesAreThere blocks = (b i p : ℕ) → slice_get (preds_at (slice_get blocks b)) i ≡ Some p → p < length blocks
