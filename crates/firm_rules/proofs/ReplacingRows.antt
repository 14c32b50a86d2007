-- A trivial Phi that is replaced.
use Rattle.std.proofs.Common.{◌≡◌, ◌≢◌, refl, ℕ, zero, suc, false, [], ◌∷◌}
use Rattle.std.specs.Prelude.{codes, option_map}
use Rattle.firm_rules.specs.declared.node.Mode.TheVariants.{Word}
use Rattle.firm_rules.specs.declared.node.NodeOp.TheVariants.{Start, Const, Phi}
use Rattle.firm_rules.specs.Graphs.{Firm}
use Rattle.firm_rules.specs.Lookups.{node_at, preds_of, end_of}
use Rattle.firm_rules.specs.Replacing.{renamed_end, Alike, IsRenamed}
use Rattle.firm_rules.proofs.Made.{node, block, graph, jump, return}

-- a Phi with one operand, which is returned
abbrev before : Firm
before = graph (codes "main") 0 (block [] (jump 1) ∷ block (0 ∷ []) (return 0 2) ∷ [])
    (node Start 0 [] ∷ node (Const 8) 0 [] ∷ node (Phi Word) 1 (1 ∷ []) ∷ [])

-- the operand is returned, and the Phi is gone
abbrev after : Firm
after = record (graph (codes "main") 0 (block [] (jump 1) ∷ block (0 ∷ []) (return 0 1) ∷ []) []) {
  nodes = record (node Start 0 []) { current = 0 } ∷ record (node (Const 8) 0 []) { current = 1 }
      ∷ record (node (Phi Word) 1 []) { there = false; current = 1 } ∷ [];
}

same_preds : (b : ℕ) → preds_of after b ≡ preds_of before b
same_preds zero = refl
same_preds (suc zero) = refl
same_preds (suc (suc b)) = refl

renamed_ends : (b : ℕ) → end_of after b ≡ option_map (renamed_end 2 1) (end_of before b)
renamed_ends zero = refl
renamed_ends (suc zero) = refl
renamed_ends (suc (suc b)) = refl

renamed_nodes : (m : ℕ) → m ≢ 2 → Alike 2 1 (node_at before m) (node_at after m)
renamed_nodes zero d = (refl, (refl, refl))
renamed_nodes (suc zero) d = (refl, (refl, refl))
renamed_nodes (suc (suc zero)) d = absurd (d refl)
renamed_nodes (suc (suc (suc m))) d = tt

is_renamed : IsRenamed before after 2 1
is_renamed = record {
  name = refl;
  params = refl;
  order = refl;
  preds = same_preds;
  ends = renamed_ends;
  size = refl;
  gone = refl;
  nodes = renamed_nodes;
}
