-- Nodes without operands, which are found by their operation and block.
use Rattle.std.specs.Prelude.{◌≡◌, ◌<◌, ◌+◌, ◌*◌, ℕ, true, List, Option, Some, None, slice_index_or}
use Rattle.cp_obstack.specs.Lists.{list_of}
use Rattle.firm_uses.specs.Counts.{times}
use Rattle.ssa_core.specs.declared.places.Place.{Place}
use Rattle.ssa_core.specs.Places.{found}
use Rattle.firm_rules.specs.declared.node.NodeOp.{NodeOp}
use Rattle.firm_rules.specs.declared.node.NodeOp.TheVariants.{Const, Addr, Unknown}
use Rattle.firm_tables.specs.declared.nodes.Stored.{Stored}
use Rattle.firm_tables.specs.Held.{no_row}

-- the code of an operation, where it has one
abbrev pub code_of : NodeOp → Option ℕ
code_of Unknown = Some 0
code_of (Const n) = Some (2 * n + 1)
code_of (Addr n) = Some (2 * n + 2)
code_of op = None

-- for a code and a block the number of a list, and the lists
pub record LeafLists : Type 0 where
  pub numbers : List (Place × ℕ)
  pub lists : List (List ℕ)

pub record IsListed (leaves : LeafLists) (code b n : ℕ) : Type 0 where
  pub list : ℕ
  pub has : found leaves.numbers code b ≡ Some list
  pub among : 0 < times n (list_of leaves.lists list)

-- each node whose operation has a code is listed with it
abbrev pub AreLeaves : List Stored → LeafLists → Type 0
AreLeaves rows leaves = (n code : ℕ) → (slice_index_or rows n no_row).there ≡ true → code_of (slice_index_or rows n no_row).op ≡ Some code
    → IsListed leaves code (slice_index_or rows n no_row).block n
