-- How far each node is searched for cycles.
use Rattle.std.specs.Prelude.{◌≡◌, ◌≢◌, ◌<◌, ◌≤◌, ◌+◌, ◌==◌, ℕ, suc, false, List, [], ◌∷◌, length, if◌then◌else◌, slice_index}
use Rattle.firm_uses.specs.Counts.{times}
use Rattle.firm_rules.specs.Graphs.{Firm}
use Rattle.firm_rules.specs.Rules.{is_phi, IsOperand}
use Rattle.firm_tables.specs.Nodes.{node_of}
use Rattle.firm_nodes.specs.Calls.{IsNode}

-- over operands, each way from the node ends at a Phi or at a node without operands
pub data Ends (g : Firm) : ℕ → Type 0 where
  ends : {n : ℕ} → ((m : ℕ) → IsOperand g n m → Ends g m) → Ends g n

-- By the number of each node how often it is still to be looked at: 2 where the search has not come to it, 1 where it stands on the
-- path, 0 where its ways end.
pub record AreMarks (g : Firm) (left path : List ℕ) : Type 0 where
  pub on_path : (x : ℕ) → times x path ≡ (if slice_index left x == 1 then 1 else 0)
  pub are_there : (x : ℕ) → 0 < times x path → IsNode g x
  pub links : (i : ℕ) → suc i < length path → IsOperand g (slice_index path i) (slice_index path (suc i))
  pub no_phi : (x : ℕ) → slice_index left x ≢ 0 → is_phi (node_of g.nodes x).op ≡ false
  pub ended : (x : ℕ) → slice_index left x ≡ 0 → Ends g x

abbrev pub weight : List ℕ → ℕ
weight [] = 0
weight (x ∷ left) = x + weight left

-- no node is looked at more often than before
abbrev pub NoneMore : List ℕ → List ℕ → Type 0
NoneMore left after = (x : ℕ) → slice_index after x ≤ slice_index left x
