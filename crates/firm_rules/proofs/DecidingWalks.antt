-- Tests of the rules on walks, by a certificate: for each block the node that gives the memory which it sees, and blocks that stand
-- on each walk to it.
use Rattle.std.proofs.Common.{◌≡◌, refl, sym, ap, ◌∙◌, subst, ℕ, ◌==◌, Bool, true, false, true≢false, ◌⊎◌, inl, inr, List, [], ◌∷◌, Option, Some, None}
use Rattle.std.specs.Prelude.{slice_get, not, ◌&&◌, ◌||◌, unwrap_or, MatchBool}
use Rattle.std.specs.List.{list_all, list_any}
use Rattle.ssa_core.specs.Walks.{Walk, end, IsWalk, Visits}
use Rattle.firm_rules.specs.declared.node.FirmEnd.{FirmEnd}
use Rattle.firm_rules.specs.declared.node.FirmEnd.TheVariants.{Return}
use Rattle.firm_rules.specs.Graphs.{FirmNode, Firm, acts}
use Rattle.firm_rules.specs.Lookups.{node_at, first_of, IsBlock, preds_of, end_of, shape}
use Rattle.firm_rules.specs.Rules.{is_phi, is_start, is_memory_phi, acts_in, giver, first_node, chain, memory_phi, last_of, memory_into, MemoryFits, IsDefined, OperandsDefined, uses, EndDefined}
use Rattle.firm_rules.proofs.Chains.{both_true}
use Rattle.firm_rules.proofs.Testing.{either_true, or_else, equal, all_at, Found, any_at, pass, pass_at, nodes_at, blocks_at, edges_pass, edges_at}

pub record Facts : Type 0 where
  pub into : List ℕ
  pub over : List (List ℕ)

module _ (g : Firm) (facts : Facts) where
  abbrev into : ℕ → ℕ
  into b = unwrap_or (slice_get facts.into b) 0

  abbrev after : ℕ → ℕ
  after b = last_of (into b) (chain g b)

  abbrev over : ℕ → List ℕ
  over b = unwrap_or (slice_get facts.over b) []

  -- ---- 4

  abbrev start_test : Bool
  start_test = unwrap_or (first_node g (λ node. is_start node.op)) 0 == into (first_of g.order)

  abbrev into_test : ℕ → ℕ → ℕ → Bool
  into_test b at from = unwrap_or (memory_phi g b) (after from) == into b

  -- a node that acts is in the chain
  abbrev in_chain : ℕ → FirmNode → Bool
  in_chain n node = not (acts node.op) || list_any (λ m. m == n) (chain g node.block)

  abbrev pub is_number : Option ℕ → ℕ → Bool
  is_number (Some m) n = m == n
  is_number None n = false

  number_is : (found : Option ℕ) (n : ℕ) → is_number found n ≡ true → found ≡ Some n
  number_is (Some m) n e = ap Some (equal m n e)
  number_is None n e = absurd (true≢false (sym e))

  -- a memory Phi is that of its block
  abbrev one_phi : ℕ → FirmNode → Bool
  one_phi n node = not (is_memory_phi node.op) || is_number (memory_phi g node.block) n

  abbrev gives : ℕ → Option ℕ → Bool
  gives giver_is (Some m) = giver g m == giver_is
  gives giver_is None = true

  gives_is : (x : ℕ) (found : Option ℕ) (m : ℕ) → gives x found ≡ true → found ≡ Some m → giver g m ≡ x
  gives_is x found m e is = equal (giver g m) x (subst (λ o. gives x o ≡ true) is e)

  abbrev operand_of : Option FirmNode → ℕ → Option ℕ
  operand_of (Some node) at = slice_get node.operands at
  operand_of None at = None

  abbrev node_by : Option ℕ → Option FirmNode
  node_by (Some n) = node_at g n
  node_by None = None

  abbrev first_by : List ℕ → Option ℕ
  first_by [] = None
  first_by (n ∷ ns) = Some n

  abbrev first_takes_test : ℕ → Bool
  first_takes_test b = gives (into b) (operand_of (node_by (first_by (chain g b))) 0)

  abbrev phi_takes_test : ℕ → ℕ → ℕ → Bool
  phi_takes_test b at from = gives (after from) (operand_of (node_by (memory_phi g b)) at)

  abbrev returned : Option FirmEnd → Option ℕ
  returned (Some (Return m value)) = Some m.number
  returned end = None

  abbrev return_test : ℕ → Bool
  return_test b = gives (after b) (returned (end_of g b))

  abbrev memory_blocks : ℕ → Bool
  memory_blocks b = first_takes_test b && return_test b

  abbrev memory_edges : ℕ → ℕ → ℕ → Bool
  memory_edges b at from = into_test b at from && phi_takes_test b at from

  abbrev memory_nodes : ℕ → FirmNode → Bool
  memory_nodes n node = in_chain n node && one_phi n node

  abbrev pub test_4 : Bool
  test_4 = start_test && (edges_pass g memory_edges && (pass memory_nodes g.nodes && list_all memory_blocks g.order))

  into_is : edges_pass g memory_edges ≡ true → (w : Walk) → start_test ≡ true → IsWalk (shape g) w → memory_into g w ≡ into (end (shape g) w)
  unfolding memory_into
  into_is edges [] start is = equal (unwrap_or (first_node g (λ node. is_start node.op)) 0) (into (first_of g.order)) start
  into_is edges (e ∷ w) start is =
      ap (λ m. unwrap_or (memory_phi g e.into) (last_of m (chain g (end (shape g) w)))) (into_is edges w start is.1)
      ∙ equal (unwrap_or (memory_phi g e.into) (after (end (shape g) w))) (into e.into)
      (both_true (into_test e.into e.place (end (shape g) w)) (phi_takes_test e.into e.place (end (shape g) w))
      (edges_at g memory_edges edges e.into e.place (end (shape g) w) is.0)).0

  memory_fits : start_test ≡ true → edges_pass g memory_edges ≡ true → pass memory_nodes g.nodes ≡ true → list_all memory_blocks g.order ≡ true
      → (b : ℕ) → IsBlock g b → MemoryFits g b
  memory_fits start edges nodes blocks b is = record {
    one_chain = λ n act. in_chain_at n (node_at g n) refl act;
    first_takes = λ n rest node m others w chain_is there operands comes.
        gives_is (into b) (operand_of (node_by (first_by (chain g b))) 0) m at_block.0
        (ap (λ xs. operand_of (node_by (first_by xs)) 0) chain_is ∙ ap (λ x. operand_of x 0) there ∙ ap (λ xs. slice_get xs 0) operands)
        ∙ sym (into_is edges w start comes.0 ∙ ap into comes.1);
    one_phi = λ n node there block phi.
        number_is (memory_phi g b) n
        (subst (λ x. is_number (memory_phi g x) n ≡ true) block (or_else (is_memory_phi node.op) (is_number (memory_phi g node.block) n) phi (at_node n node there).1));
    phi_takes = λ n node e m w phi there operand comes.
        gives_is (after (end (shape g) w)) (operand_of (node_by (memory_phi g b)) e.place) m
        (both_true (into_test b e.place (end (shape g) w)) (phi_takes_test b e.place (end (shape g) w))
        (edges_at g memory_edges edges b e.place (end (shape g) w) (subst (λ x. slice_get (preds_of g x) e.place ≡ Some (end (shape g) w)) comes.1 comes.0.0))).1
        (ap (λ x. operand_of (node_by x) e.place) phi ∙ ap (λ x. operand_of x e.place) there ∙ operand)
        ∙ sym (ap (λ x. last_of x (chain g (end (shape g) w))) (into_is edges w start comes.0.1));
    return_takes = λ m value w end_is comes.
        gives_is (after b) (returned (end_of g b)) m.number at_block.1 (ap returned end_is)
        ∙ sym (ap (λ x. last_of x (chain g (end (shape g) w))) (into_is edges w start comes.0) ∙ ap after comes.1);
  }
    where
      at_block : (first_takes_test b ≡ true) × (return_test b ≡ true)
      at_block = both_true (first_takes_test b) (return_test b) (blocks_at g memory_blocks blocks b is)

      at_node : (n : ℕ) (node : FirmNode) → node_at g n ≡ Some node → (in_chain n node ≡ true) × (one_phi n node ≡ true)
      at_node n node there = both_true (in_chain n node) (one_phi n node) (nodes_at g memory_nodes nodes n node there)

      in_chain_at : (n : ℕ) (found : Option FirmNode) → node_at g n ≡ found → acts_in b found ≡ true → (index : ℕ) × (slice_get (chain g b) index ≡ Some n)
      in_chain_at n None there act = absurd (true≢false (sym act))
      in_chain_at n (Some node) there act =
          let parts = both_true (node.block == b) (acts node.op) act in
          let any = or_else (acts node.op) (list_any (λ m. m == n) (chain g node.block)) parts.1 (at_node n node there).0 in
          let found = any_at (λ m. m == n) (chain g b) (subst (λ x. list_any (λ m. m == n) (chain g x) ≡ true) (equal node.block b parts.0) any) in
          (found.index, found.at ∙ ap Some (equal found.element n found.passes))

  abbrev pub Rule4 : Type 0
  Rule4 = (b : ℕ) → IsBlock g b → MemoryFits g b

  pub sound_4 : test_4 ≡ true → Rule4
  sound_4 e =
      let one = both_true start_test (edges_pass g memory_edges && (pass memory_nodes g.nodes && list_all memory_blocks g.order)) e in
      let two = both_true (edges_pass g memory_edges) (pass memory_nodes g.nodes && list_all memory_blocks g.order) one.1 in
      let three = both_true (pass memory_nodes g.nodes) (list_all memory_blocks g.order) two.1 in
      memory_fits one.0 two.0 three.0 three.1

  -- ---- 7

  abbrev is_over : ℕ → ℕ → Bool
  is_over b d = list_any (λ x. x == d) (over b)

  abbrev over_first : Bool
  over_first = list_all (λ d. d == first_of g.order) (over (first_of g.order))

  abbrev over_edge : ℕ → ℕ → ℕ → Bool
  over_edge b at from = list_all (λ d. (d == b) || is_over from d) (over b)

  visits : over_first ≡ true → edges_pass g over_edge ≡ true → (w : Walk) → IsWalk (shape g) w → (d : ℕ) → is_over (end (shape g) w) d ≡ true → Visits (shape g) w d
  visits first edges [] is d e =
      let found = any_at (λ x. x == d) (over (first_of g.order)) e in
      sym (equal found.element (first_of g.order) (all_at (λ x. x == first_of g.order) (over (first_of g.order)) first found.index found.element found.at))
      ∙ equal found.element d found.passes
  visits first edges (edge ∷ w) is d e = by (visits first edges w is.1 d)
    where
      found : Found (λ x. x == d) (over edge.into)
      found = any_at (λ x. x == d) (over edge.into) e

      is_d : found.element ≡ d
      is_d = equal found.element d found.passes

      by : (is_over (end (shape g) w) d ≡ true → Visits (shape g) w d) → (edge.into ≡ d) ⊎ Visits (shape g) w d
      by before = here (either_true (found.element == edge.into) (is_over (end (shape g) w) found.element)
          (all_at (λ x. (x == edge.into) || is_over (end (shape g) w) x) (over edge.into)
          (edges_at g over_edge edges edge.into edge.place (end (shape g) w) is.0) found.index found.element found.at))
        where
          here : ((found.element == edge.into) ≡ true) ⊎ (is_over (end (shape g) w) found.element ≡ true) → (edge.into ≡ d) ⊎ Visits (shape g) w d
          here (inl same) = inl (sym (equal found.element edge.into same) ∙ is_d)
          here (inr more) = inr (before (subst (λ x. is_over (end (shape g) w) x ≡ true) is_d more))

  abbrev defined_by : Option FirmNode → ℕ → Bool
  defined_by (Some node) b = is_over b node.block
  defined_by None b = false

  abbrev defined : ℕ → ℕ → Bool
  defined n b = defined_by (node_at g n) b

  is_defined : over_first ≡ true → edges_pass g over_edge ≡ true → (n b : ℕ) → defined n b ≡ true → IsDefined g n b
  is_defined first edges n b e = by (node_at g n) refl e
    where
      by : (found : Option FirmNode) → node_at g n ≡ found → defined_by found b ≡ true → IsDefined g n b
      by None there e = absurd (true≢false (sym e))
      by (Some node) there e =
          (node, there, λ w comes. visits first edges w comes.0 node.block (subst (λ x. is_over x node.block ≡ true) (sym comes.1) e))

  abbrev defined_at : Option ℕ → ℕ → Bool
  defined_at (Some b) n = defined n b
  defined_at None n = true

  abbrev operands_test : ℕ → FirmNode → Bool
  operands_test n node = pass (λ index operand. elim (is_phi node.op) [
    | true ↦ defined_at (slice_get (preds_of g node.block) index) operand
    | false ↦ defined operand node.block
  ]) node.operands

  abbrev ends_test : ℕ → Bool
  ends_test b = list_all (λ n. defined n b) (uses (end_of g b))

  abbrev pub test_7 : Bool
  test_7 = over_first && (edges_pass g over_edge && (pass operands_test g.nodes && list_all ends_test g.order))

  abbrev pub Rule7 : Type 0
  Rule7 = ((n : ℕ) (node : FirmNode) → node_at g n ≡ Some node → OperandsDefined g node) × ((b : ℕ) → IsBlock g b → EndDefined g b)

  pub sound_7 : test_7 ≡ true → Rule7
  sound_7 e = (nodes, λ b is index operand at. is_defined first edges operand b (all_at (λ n. defined n b) (uses (end_of g b)) (blocks_at g ends_test three.1 b is) index operand at))
    where
      one : (over_first ≡ true) × ((edges_pass g over_edge && (pass operands_test g.nodes && list_all ends_test g.order)) ≡ true)
      one = both_true over_first (edges_pass g over_edge && (pass operands_test g.nodes && list_all ends_test g.order)) e

      two : (edges_pass g over_edge ≡ true) × ((pass operands_test g.nodes && list_all ends_test g.order) ≡ true)
      two = both_true (edges_pass g over_edge) (pass operands_test g.nodes && list_all ends_test g.order) one.1

      three : (pass operands_test g.nodes ≡ true) × (list_all ends_test g.order ≡ true)
      three = both_true (pass operands_test g.nodes) (list_all ends_test g.order) two.1

      first : over_first ≡ true
      first = one.0

      edges : edges_pass g over_edge ≡ true
      edges = two.0

      nodes : (n : ℕ) (node : FirmNode) → node_at g n ≡ Some node → OperandsDefined g node
      nodes n node there index operand b at used = by (is_phi node.op) used
          (pass_at (λ index operand. elim (is_phi node.op) [
            | true ↦ defined_at (slice_get (preds_of g node.block) index) operand
            | false ↦ defined operand node.block
          ]) node.operands (nodes_at g operands_test three.0 n node there) index operand at)
        where
          by : (t : Bool) → MatchBool t (slice_get (preds_of g node.block) index ≡ Some b) (node.block ≡ b)
              → elim t [ true ↦ defined_at (slice_get (preds_of g node.block) index) operand | false ↦ defined operand node.block ] ≡ true → IsDefined g operand b
          by true used e = is_defined first edges operand b (subst (λ x. defined_at x operand ≡ true) used e)
          by false used e = is_defined first edges operand b (subst (λ x. defined operand x ≡ true) used e)
