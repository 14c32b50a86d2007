-- The graphs of the worked rows are whole.
use Rattle.std.proofs.Common.{◌≡◌, refl, ap, subst, ℕ, ◌==◌, Bool, true, [], length, Option, Some, None}
use Rattle.std.specs.Prelude.{slice_get, nat_lt, ◌&&◌, option_map, unwrap_or}
use Rattle.std.proofs.lemmas.Bool.{ltb-true}
use Rattle.firm_rules.specs.declared.node.NodeOp.{NodeOp}
use Rattle.firm_rules.specs.declared.node.NodeOp.TheVariants.{Param}
use Rattle.firm_rules.specs.Graphs.{FirmNode, FirmBlock, Firm}
use Rattle.firm_rules.specs.Lookups.{node_at, rank, IsBlock, preds_of, end_of}
use Rattle.firm_rules.specs.Rules.{IsWhole}
use Rattle.firm_rules.proofs.Chains.{both_true}
use Rattle.firm_rules.proofs.Testing.{equal, pass, pass_at, nodes_at}
use Rattle.firm_rules.proofs.Made.{return_seven, swap_in_loop, unset_operand, factorial}

abbrev param_test : ℕ → NodeOp → Bool
param_test params (Param i) = nat_lt i params
param_test params o = true

module _ (g : Firm) where
  abbrev order_test : ℕ → ℕ → Bool
  order_test index b = nat_lt b (length g.blocks) && (rank g b == index)

  abbrev is_block : ℕ → Bool
  is_block b = nat_lt (rank g b) (length g.order)

  abbrev node_test : ℕ → FirmNode → Bool
  node_test n node = (is_block node.block && (node.current == n)) && param_test g.params node.op

  abbrev block_test : ℕ → FirmBlock → Bool
  block_test b block = is_block b

  abbrev whole_test : Bool
  whole_test = pass order_test g.order && (pass node_test g.nodes && pass block_test g.blocks)

  -- each block is in the order, so what is not there has no edges
  whole : whole_test ≡ true → IsWhole g
  whole e = record {
    in_range = λ index b at.
        let parts = both_true (nat_lt b (length g.blocks)) (rank g b == index) (pass_at order_test g.order one.0 index b at) in
        (ltb-true b (length g.blocks) parts.0, equal (rank g b) index parts.1);
    stands = λ n node is.
        let parts = both_true (is_block node.block) (node.current == n) (at_node n node is).0 in
        (ltb-true (rank g node.block) (length g.order) parts.0, equal node.current n parts.1);
    argument = λ n i node is param. ltb-true i g.params (subst (λ o. param_test g.params o ≡ true) param (at_node n node is).1);
    no_edges = no_edges;
  }
    where
      one : (pass order_test g.order ≡ true) × ((pass node_test g.nodes && pass block_test g.blocks) ≡ true)
      one = both_true (pass order_test g.order) (pass node_test g.nodes && pass block_test g.blocks) e

      two : (pass node_test g.nodes ≡ true) × (pass block_test g.blocks ≡ true)
      two = both_true (pass node_test g.nodes) (pass block_test g.blocks) one.1

      at_node : (n : ℕ) (node : FirmNode) → node_at g n ≡ Some node → ((is_block node.block && (node.current == n)) ≡ true) × (param_test g.params node.op ≡ true)
      at_node n node is = both_true (is_block node.block && (node.current == n)) (param_test g.params node.op) (nodes_at g node_test two.0 n node is)

      no_edges : (b : ℕ) → (IsBlock g b → ⊥) → (preds_of g b ≡ []) × (end_of g b ≡ None)
      no_edges b out = by (slice_get g.blocks b) refl
        where
          by : (found : Option FirmBlock) → slice_get g.blocks b ≡ found → (preds_of g b ≡ []) × (end_of g b ≡ None)
          by None is =
              (ap (λ x. unwrap_or (option_map (λ (y : FirmBlock). y.preds) x) []) is, ap (λ x. unwrap_or (option_map (λ (y : FirmBlock). y.end) x) None) is)
          by (Some block) is = absurd (out (ltb-true (rank g b) (length g.order) (pass_at block_test g.blocks two.1 b block is)))

whole_seven : IsWhole return_seven
whole_seven = whole return_seven refl

whole_swap : IsWhole swap_in_loop
whole_swap = whole swap_in_loop refl

whole_unset : IsWhole unset_operand
whole_unset = whole unset_operand refl

whole_factorial : IsWhole factorial
whole_factorial = whole factorial refl
