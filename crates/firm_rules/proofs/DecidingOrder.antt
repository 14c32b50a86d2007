-- Tests of the rules on the order and the edges.
use Rattle.std.proofs.Common.{◌≡◌, ◌≢◌, refl, sym, ap, ◌∙◌, subst, ℕ, ◌<◌, ◌≤◌, ◌==◌, arith, Bool, true, false, true≢false, ◌⊎◌, inl, inr, List, [], ◌∷◌, length, Option, Some, None}
use Rattle.std.specs.Prelude.{not, nat_lt, ◌&&◌, ◌||◌, count_by, unwrap_or}
use Rattle.std.specs.List.{list_all, list_any}
use Rattle.std.proofs.lemmas.Bool.{ltb-true, lt-ltb}
use Rattle.firm_rules.specs.declared.node.NodeOp.{NodeOp}
use Rattle.firm_rules.specs.declared.node.NodeOp.TheVariants.{Start}
use Rattle.firm_rules.specs.Graphs.{FirmNode, Firm}
use Rattle.firm_rules.specs.Lookups.{node_at, first_of, rank, IsBlock, preds_of, end_of, targets}
use Rattle.firm_rules.specs.Rules.{is_phi, is_start, first_node, FirstFits, OtherFits, IsEnteredAtHead, EdgesFit}
use Rattle.firm_rules.proofs.Chains.{both_true, first_passes}
use Rattle.firm_rules.proofs.Testing.{or_else, or_then, equal, equal_is, unequal_is, all_at, any_at, pass, nodes_at, blocks_at, edges_pass, edges_at}

not_less : (m n : ℕ) → n ≤ m → nat_lt m n ≡ true → ⊥
not_less m n le e = let less = ltb-true m n e in omega (arith, le, less)

is_false : (b : Bool) → (b ≡ true → ⊥) → b ≡ false
is_false true d = absurd (d refl)
is_false false d = refl

-- ---- 5

abbrev pub Rule5 : Firm → Type 0
Rule5 g = ((b : ℕ) → IsBlock g b → b ≡ first_of g.order → FirstFits g b) × ((b : ℕ) → IsBlock g b → b ≢ first_of g.order → OtherFits g b)

abbrev pub is_empty : List ℕ → Bool
is_empty [] = true
is_empty (x ∷ xs) = false

empty_is : (xs : List ℕ) → is_empty xs ≡ true → xs ≡ []
empty_is [] e = refl
empty_is (x ∷ xs) e = absurd (true≢false (sym e))

abbrev pub is_some_number : Option ℕ → Bool
is_some_number (Some n) = true
is_some_number None = false

start_is : (o : NodeOp) → is_start o ≡ true → o ≡ Start
start_is Start e = refl
start_is o e = absurd (true≢false (sym e))

module _ (g : Firm) where
  abbrev first : ℕ
  first = first_of g.order

  abbrev start : Option ℕ
  start = first_node g (λ node. is_start node.op)

  -- a node in the first block is no Phi, and a Start is the first one and stands there
  abbrev first_test : ℕ → FirmNode → Bool
  first_test n node = (not (node.block == first) || not (is_phi node.op))
      && (not (is_start node.op) || ((node.block == first) && (n == unwrap_or start 0)))

  abbrev earlier_test : ℕ → Bool
  earlier_test b = (b == first) || list_any (λ q. nat_lt (rank g q) (rank g b)) (preds_of g b)

  abbrev pub test_5 : Bool
  test_5 = is_empty (preds_of g first) && (is_some_number start && (pass first_test g.nodes && list_all earlier_test g.order))

  module _ (nodes : pass first_test g.nodes ≡ true) where
    at : (n : ℕ) (node : FirmNode) → node_at g n ≡ Some node
        → ((not (node.block == first) || not (is_phi node.op)) ≡ true) × ((not (is_start node.op) || ((node.block == first) && (n == unwrap_or start 0))) ≡ true)
    at n node is =
        both_true (not (node.block == first) || not (is_phi node.op)) (not (is_start node.op) || ((node.block == first) && (n == unwrap_or start 0)))
        (nodes_at g first_test nodes n node is)

    as_start : (n : ℕ) (node : FirmNode) → node_at g n ≡ Some node → is_start node.op ≡ true → (node.block ≡ first) × (n ≡ unwrap_or start 0)
    as_start n node is op =
        let parts = both_true (node.block == first) (n == unwrap_or start 0)
        (or_else (is_start node.op) ((node.block == first) && (n == unwrap_or start 0)) op (at n node is).1) in
        (equal node.block first parts.0, equal n (unwrap_or start 0) parts.1)

    first_fits : is_empty (preds_of g first) ≡ true → is_some_number start ≡ true → FirstFits g first
    first_fits no_preds some = by start refl some
      where
        no_phi_by : (b : Bool) → not b ≡ true → b ≡ false
        no_phi_by true e = absurd (true≢false (sym e))
        no_phi_by false e = refl

        by : (found : Option ℕ) → start ≡ found → is_some_number found ≡ true → FirstFits g first
        by None is e = absurd (true≢false (sym e))
        by (Some s) is e =
            let passes = first_passes g (λ node. is_start node.op) s is in
            record {
              no_preds = empty_is (preds_of g first) no_preds;
              no_phi = λ n node there block. no_phi_by (is_phi node.op)
                  (or_else (node.block == first) (not (is_phi node.op)) (equal_is node.block first block) (at n node there).0);
              start = (
                s,
                (passes.node, passes.is, start_is passes.node.op passes.passed, (as_start s passes.node passes.is passes.passed).0),
                λ m other. (as_start m other.0 other.1 (ap is_start other.2)).1 ∙ ap (λ x. unwrap_or x 0) is,
              );
            }

    other_fits : list_all earlier_test g.order ≡ true → (b : ℕ) → IsBlock g b → b ≢ first → OtherFits g b
    other_fits e b is other =
        let found = any_at (λ q. nat_lt (rank g q) (rank g b)) (preds_of g b)
        (or_then (b == first) (list_any (λ q. nat_lt (rank g q) (rank g b)) (preds_of g b)) (unequal_is b first other) (blocks_at g earlier_test e b is)) in
        record {
          no_start = λ n start_is. other (sym start_is.3 ∙ (as_start n start_is.0 start_is.1 (ap is_start start_is.2)).0);
          entered_earlier = (found.element, (found.index, found.at), ltb-true (rank g found.element) (rank g b) found.passes);
        }

  pub sound_5 : test_5 ≡ true → Rule5 g
  sound_5 e =
      let one = both_true (is_empty (preds_of g first)) (is_some_number start && (pass first_test g.nodes && list_all earlier_test g.order)) e in
      let two = both_true (is_some_number start) (pass first_test g.nodes && list_all earlier_test g.order) one.1 in
      let three = both_true (pass first_test g.nodes) (list_all earlier_test g.order) two.1 in
      (λ b is same. subst (FirstFits g) (sym same) (first_fits three.0 one.0 two.0), other_fits three.0 three.1)

-- ---- 6

abbrev pub Rule6 : Firm → Type 0
Rule6 g = (b : ℕ) → IsBlock g b → IsEnteredAtHead g b

module _ (g : Firm) where
  abbrev outside : ℕ → ℕ → ℕ → Bool
  outside head last from = nat_lt (rank g from) (rank g head) || nat_lt (rank g last) (rank g from)

  -- an edge that enters the blocks from the head on to the last one from outside does so by the head
  abbrev by_head : ℕ → ℕ → ℕ → ℕ → ℕ → Bool
  by_head head last to at from = not (outside head last from) || (not (nat_lt (rank g head) (rank g to)) || nat_lt (rank g last) (rank g to))

  abbrev back_test : ℕ → ℕ → ℕ → Bool
  back_test head at last = nat_lt (rank g last) (rank g head) || edges_pass g (by_head head last)

  abbrev pub test_6 : Bool
  test_6 = edges_pass g back_test

  pub sound_6 : test_6 ≡ true → Rule6 g
  sound_6 e last is head from to back not_later edge outside_is after upto =
      let inner = or_then (nat_lt (rank g last) (rank g head)) (edges_pass g (by_head head last))
      (is_false (nat_lt (rank g last) (rank g head)) (not_less (rank g last) (rank g head) not_later))
      (edges_at g back_test e head back.0 last back.1) in
      let entry = edges_at g (by_head head last) inner to edge.0 from edge.1 in
      let rest = or_else (outside head last from) (not (nat_lt (rank g head) (rank g to)) || nat_lt (rank g last) (rank g to)) (is_outside outside_is) entry in
      not_less (rank g last) (rank g to) upto (or_else (nat_lt (rank g head) (rank g to)) (nat_lt (rank g last) (rank g to)) (lt-ltb (rank g head) (rank g to) after) rest)
    where
      or_true : (b : Bool) → b || true ≡ true
      or_true true = refl
      or_true false = refl

      is_outside : (rank g from < rank g head) ⊎ (rank g last < rank g from) → outside head last from ≡ true
      is_outside (inl less) = ap (λ b. b || nat_lt (rank g last) (rank g from)) (lt-ltb (rank g from) (rank g head) less)
      is_outside (inr more) =
          ap (λ b. nat_lt (rank g from) (rank g head) || b) (lt-ltb (rank g last) (rank g from) more) ∙ or_true (nat_lt (rank g from) (rank g head))

-- ---- 8

abbrev pub Rule8 : Firm → Type 0
Rule8 g = (b : ℕ) → IsBlock g b → EdgesFit g b

module _ (g : Firm) where
  abbrev is_block : ℕ → Bool
  is_block b = nat_lt (rank g b) (length g.order)

  abbrev alike_test : ℕ → ℕ → Bool
  alike_test b to = count_by (λ c. c == b) (preds_of g to) == count_by (λ c. c == to) (targets (end_of g b))

  abbrev edges_test : ℕ → Bool
  edges_test b = list_all (alike_test b) g.order && (list_all is_block (preds_of g b) && list_all is_block (targets (end_of g b)))

  abbrev pub test_8 : Bool
  test_8 = list_all edges_test g.order

  pub sound_8 : test_8 ≡ true → Rule8 g
  sound_8 e b is =
      let one = both_true (list_all (alike_test b) g.order) (list_all is_block (preds_of g b) && list_all is_block (targets (end_of g b))) (blocks_at g edges_test e b is) in
      let two = both_true (list_all is_block (preds_of g b)) (list_all is_block (targets (end_of g b))) one.1 in
      record {
        alike = λ to block. equal (count_by (λ c. c == b) (preds_of g to)) (count_by (λ c. c == to) (targets (end_of g b))) (blocks_at g (alike_test b) one.0 to block);
        from_blocks = λ index from at. ltb-true (rank g from) (length g.order) (all_at is_block (preds_of g b) two.0 index from at);
        to_blocks = λ index to at. ltb-true (rank g to) (length g.order) (all_at is_block (targets (end_of g b)) two.1 index to at);
      }
