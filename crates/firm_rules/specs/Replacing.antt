-- A graph, and a program, in which a node was put in the place of another: what the law on trivial Phis speaks of.
use Rattle.std.specs.Prelude.{◌≡◌, ◌≢◌, ◌⊎◌, ℕ, ◌==◌, if◌then◌else◌, List, [], ◌∷◌, length, map, option_map, Option, Some, None}
use Rattle.firm_rules.specs.declared.node.NodeId.{NodeId}
use Rattle.firm_rules.specs.declared.node.FirmEnd.{FirmEnd}
use Rattle.firm_rules.specs.declared.node.FirmEnd.TheVariants.{Jump, Branch, Return}
use Rattle.firm_rules.specs.Graphs.{FirmNode, Firm}
use Rattle.firm_rules.specs.Lookups.{node_at, preds_of, end_of}

abbrev pub renamed : ℕ → ℕ → ℕ → ℕ
renamed old to x = if x == old then to else x

abbrev pub renamed_id : ℕ → ℕ → NodeId → NodeId
renamed_id old to id = record { number = renamed old to id.number }

abbrev pub renamed_end : ℕ → ℕ → FirmEnd → FirmEnd
renamed_end old to (Jump target) = Jump target
renamed_end old to (Branch n first second) = Branch (renamed_id old to n) first second
renamed_end old to (Return memory value) = Return (renamed_id old to memory) (option_map (renamed_id old to) value)

-- the node is the same but that its operands are renamed
abbrev pub Alike : ℕ → ℕ → Option FirmNode → Option FirmNode → Type 0
Alike old to None None = Unit {0}
Alike old to (Some x) (Some y) = (y.op ≡ x.op) × ((y.block ≡ x.block) × (y.operands ≡ map (renamed old to) x.operands))
Alike old to one two = ⊥

-- `to` was put in the place of `old` in the graph
pub record IsRenamed (g h : Firm) (old to : ℕ) : Type 0 where
  pub name : h.name ≡ g.name
  pub params : h.params ≡ g.params
  pub order : h.order ≡ g.order
  pub preds : (b : ℕ) → preds_of h b ≡ preds_of g b
  pub ends : (b : ℕ) → end_of h b ≡ option_map (renamed_end old to) (end_of g b)
  pub size : length h.nodes ≡ length g.nodes
  pub gone : node_at h old ≡ None
  pub nodes : (m : ℕ) → m ≢ old → Alike old to (node_at g m) (node_at h m)

-- ---- programs whose graphs are the same, but that the one stands in the place of the other

abbrev pub Pair : Firm → Firm → Firm → Firm → Type 0
Pair g h x y = (y ≡ x) ⊎ ((x ≡ g) × (y ≡ h))

abbrev pub Pairs : Firm → Firm → List Firm → List Firm → Type 0
Pairs g h [] [] = Unit {0}
Pairs g h (x ∷ xs) (y ∷ ys) = Pair g h x y × Pairs g h xs ys
Pairs g h one two = ⊥
