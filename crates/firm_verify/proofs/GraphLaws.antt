-- Nodes and blocks of a graph, as they are read, and lists of all of them.
use Rattle.std.proofs.Common.{◌≡◌, ◌==◌, ℕ, zero, suc, ◌+◌, ◌<◌, ◌≤◌, Bool, true, false, true≢false, ◌&&◌, List, [], ◌∷◌, ◌++◌, length, take, get_or, refl, sym, ap, ◌∙◌, subst, arith, if◌then◌else◌, Option, Some, None, inl, inr}
use Rattle.std.proofs.lemmas.Bool.{cases_eq, cases_lt, eq-eqb, eqb-true, and_parts, and_from}
use Rattle.std.proofs.lemmas.List.{take_all}
use Rattle.std.specs.Prelude.{slice_get}
use Rattle.firm_uses.specs.Counts.{times}
use Rattle.firm_uses.proofs.CountLaws.{one, one_other, times_found, times_front, times_push}
use Rattle.firm_rules.specs.declared.node.NodeId.{NodeId}
use Rattle.firm_rules.specs.declared.node.BlockId.{BlockId}
use Rattle.firm_rules.specs.Graphs.{FirmNode, Firm}
use Rattle.firm_rules.specs.Lookups.{if_there, node_at, IsBlock}
use Rattle.firm_rules.specs.Rules.{IsWhole}
use Rattle.firm_tables.specs.Nodes.{numbers, node_of, stands_in}
use Rattle.firm_tables.proofs.MemberLaws.{number_at, numbers_long, numbers_pushed}
use Rattle.firm_nodes.specs.Calls.{IsNode}
use Rattle.firm_nodes.specs.Kept.{block_numbers}
use Rattle.firm_nodes.proofs.LikeLaws.{times_at}
use Rattle.firm_nodes.proofs.OrderLaws.{place, place_is, before, blocks_long, block_at}
use Rattle.firm_verify.specs.Broken.{AtNodes, AtBlocks, BreaksAt}
use Rattle.firm_verify.specs.Tables.{AreNodes}

-- ---- a node by its number

read_if : (b : Bool) (x node : FirmNode) → x.there ≡ b → (if b then Some x else None) ≡ Some node → (x.there ≡ true) × (x ≡ node)
read_if true x node t e = (t, ap (λ (o : Option FirmNode). elim o [ Some y ↦ y | None ↦ x ]) e)
read_if false x node t e = absurd (cc)

read_in : (nodes : List FirmNode) (n : ℕ) (node : FirmNode) → if_there (slice_get nodes n) ≡ Some node → ((node_of nodes n).there ≡ true) × (node_of nodes n ≡ node)
read_in [] n node e = absurd (cc)
read_in (x ∷ nodes) zero node e = read_if x.there x node refl e
read_in (x ∷ nodes) (suc n) node e = read_in nodes n node e

seen_in : (nodes : List FirmNode) (n : ℕ) → (node_of nodes n).there ≡ true → if_there (slice_get nodes n) ≡ Some (node_of nodes n)
seen_in [] n h = absurd (true≢false (sym h))
seen_in (x ∷ nodes) zero h = ap (λ b. if b then Some x else None) h
seen_in (x ∷ nodes) (suc n) h = seen_in nodes n h

pub node_read : (g : Firm) (n : ℕ) (node : FirmNode) → node_at g n ≡ Some node → IsNode g n × (node_of g.nodes n ≡ node)
node_read g n node e = read_in g.nodes n node e

pub node_seen : (g : Firm) (n : ℕ) → IsNode g n → node_at g n ≡ Some (node_of g.nodes n)
node_seen g n h = seen_in g.nodes n h

pub node_stands : (g : Firm) (n : ℕ) → IsWhole g → IsNode g n → IsBlock g (node_of g.nodes n).block
node_stands g n whole h = (whole.stands n (node_of g.nodes n) (node_seen g n h)).0

-- the block that was read is the node's
pub block_stands : (g : Firm) (n b : ℕ) → IsWhole g → IsNode g n → b ≡ (node_of g.nodes n).block → IsBlock g b
block_stands g n b whole h e = subst (IsBlock g) (sym e) (node_stands g n whole h)

pub breaks : (g : Firm) (rule : ℕ → FirmNode → Type 0) (n b : ℕ) → IsNode g n → b ≡ (node_of g.nodes n).block → (rule n (node_of g.nodes n) → ⊥) → BreaksAt g rule n b
breaks g rule n b h e broken = (node_of g.nodes n, node_seen g n h, sym e, broken)

-- ---- all nodes

pub node_listed : (g : Firm) (nodes : List NodeId) (i : ℕ) (d : NodeId) → AreNodes g (numbers nodes) → i < length nodes → IsNode g (get_or nodes i d).number
node_listed g nodes i d a h =
    a.are_there (get_or nodes i d).number
    (times_found (get_or nodes i d).number (numbers nodes) i 0 (omega (arith, h, numbers_long nodes)) (number_at nodes i d h))

pub at_nodes : (g : Firm) (rule : ℕ → FirmNode → Type 0) (nodes : List NodeId) → AreNodes g (numbers nodes)
    → ((i : ℕ) → i < length nodes → rule (get_or (numbers nodes) i 0) (node_of g.nodes (get_or (numbers nodes) i 0))) → AtNodes g rule
at_nodes g rule nodes a each n node e =
    let is = node_read g n node e in
    let found = times_at n (numbers nodes) (a.all n is.0) in
    subst (λ x. rule n x) is.1
    (subst (λ m. rule m (node_of g.nodes m)) found.1.1 (each found.0 (omega (arith, found.1.0, numbers_long nodes))))

-- one more
pub each_more : (P : ℕ → Type 0) (at : ℕ) → ((i : ℕ) → i < at → P i) → P at → (i : ℕ) → i < at + 1 → P i
each_more P at each now i h = elim (cases_eq i at) [
  | inl same ↦ subst P (sym same) now
  | inr ne ↦ each i (omega (arith, h, ne))
]

-- ---- all blocks

placed : (order : List ℕ) (i : ℕ) → i < length order → place (get_or order i 0) order < length order
placed order i h = elim (cases_lt i (place (get_or order i 0) order)) [
  | inl lt ↦ absurd (before (get_or order i 0) order i lt refl)
  | inr le ↦ omega (arith, le, h)
]

pub block_listed : (g : Firm) (ids : List BlockId) (i : ℕ) (d : BlockId) → block_numbers ids ≡ g.order → i < length ids → IsBlock g (get_or ids i d).number
block_listed g ids i d e h =
    let at = block_at ids i d h in
    subst (λ o. place (get_or ids i d).number o < length o) e
    (subst (λ b. place b (block_numbers ids) < length (block_numbers ids)) at (placed (block_numbers ids) i (omega (arith, h, blocks_long ids))))

pub at_blocks : (g : Firm) (rule : ℕ → Type 0) (ids : List BlockId) → block_numbers ids ≡ g.order → ((i : ℕ) → i < length ids → rule (get_or (block_numbers ids) i 0)) → AtBlocks g rule
at_blocks g rule ids e each b is =
    let at = place b (block_numbers ids) in
    let within : at < length (block_numbers ids) = subst (λ o. place b o < length o) (sym e) is in
    subst rule (place_is b (block_numbers ids) within) (each at (omega (arith, within, blocks_long ids)))

-- ---- the nodes block by block

-- those of some blocks
pub record AreNodesOf (g : Firm) (blocks nodes : List ℕ) : Type 0 where
  pub are_there : (n : ℕ) → 0 < times n nodes → IsNode g n
  pub all : (n : ℕ) → IsNode g n → 0 < times (node_of g.nodes n).block blocks → 0 < times n nodes

pub no_nodes : (g : Firm) (nodes : List NodeId) → nodes ≡ [] → AreNodesOf g [] (numbers nodes)
no_nodes g nodes e = subst (λ (l : List NodeId). AreNodesOf g [] (numbers l)) (sym e) (record {
  are_there = λ n h. absurd (omega (arith, h));
  all = λ n is h. absurd (omega (arith, h));
})

pub stands_of : (node : FirmNode) (b : ℕ) → 0 < (if stands_in node b then 1 else 0) → node.there ≡ true
stands_of node b h = by (node.there && (node.block == b)) refl h
  where
    by : (t : Bool) → (node.there && (node.block == b)) ≡ t → 0 < (if t then 1 else 0) → node.there ≡ true
    by true e h = (and_parts node.there (node.block == b) e).0
    by false e h = absurd (omega (arith, h))

abbrev pub as_number : Bool → ℕ
as_number b = if b then 1 else 0

pub stands_at : (node : FirmNode) (b : ℕ) → 0 < as_number (stands_in node b) → node.block ≡ b
stands_at node b h = by (node.there && (node.block == b)) refl h
  where
    by : (t : Bool) → (node.there && (node.block == b)) ≡ t → 0 < as_number t → node.block ≡ b
    by true e h = eqb-true node.block b (and_parts node.there (node.block == b) e).1
    by false e h = absurd (omega (arith, h))

pub stands_own : (node : FirmNode) (b : ℕ) → node.there ≡ true → node.block ≡ b → as_number (stands_in node b) ≡ 1
stands_own node b there e =
    let same : (node.there && (node.block == b)) ≡ true = and_from node.there (node.block == b) there (eq-eqb node.block b e) in
    ap as_number same

pub nodes_more : (g : Firm) (ids : List BlockId) (at b : ℕ) (nodes after members : List ℕ) → block_numbers ids ≡ g.order → at < length ids
    → AreNodesOf g (take at (block_numbers ids)) nodes → b ≡ get_or (block_numbers ids) at 0
    → ((n : ℕ) → times n members ≡ (if stands_in (node_of g.nodes n) b then 1 else 0))
    → ((n : ℕ) → times n after ≡ times n nodes + times n members)
    → AreNodesOf g (take (at + 1) (block_numbers ids)) after
nodes_more g ids at b nodes after members e h a is m s = record {
  are_there = λ n some. elim (cases_lt 0 (times n nodes)) [
    | inl lt ↦ a.are_there n lt
    | inr le ↦ stands_of (node_of g.nodes n) b (omega (arith, some, le, s n, m n))
  ];
  all = λ n node some.
      let own = (node_of g.nodes n).block in
      let front = times_front own (block_numbers ids) at 0 (omega (arith, h, blocks_long ids)) in
      let here : 0 < times own (take (suc at) (block_numbers ids)) = subst (λ k. 0 < times own (take k (block_numbers ids))) (add at) some in
      elim (cases_lt 0 (times own (take at (block_numbers ids)))) [
        | inl lt ↦ let one_of = a.all n node lt in omega (arith, one_of, s n)
        | inr le ↦ elim (cases_eq (get_or (block_numbers ids) at 0) own) [
          | inl same ↦ omega (arith, s n, m n, stands_own (node_of g.nodes n) b node (sym same ∙ sym is))
          | inr ne ↦ absurd (omega (arith, front, here, le, one_other own (get_or (block_numbers ids) at 0) ne))
        ]
      ];
}
  where
    add : (k : ℕ) → k + 1 ≡ suc k
    add k = omega arith

pub nodes_done : (g : Firm) (ids : List BlockId) (at : ℕ) (nodes : List ℕ) → IsWhole g → block_numbers ids ≡ g.order → length ids ≤ at
    → AreNodesOf g (take at (block_numbers ids)) nodes → AreNodes g nodes
nodes_done g ids at nodes whole e h a = record {
  are_there = a.are_there;
  all = λ n node.
      let own = (node_of g.nodes n).block in
      a.all n node (subst (λ l. 0 < times own l) (sym (take_all at (block_numbers ids) (omega (arith, h, blocks_long ids))))
      (subst (λ l. 0 < times own l) (sym e) (times_found own g.order (place own g.order) 0 (node_stands g n whole node) (place_is own g.order (node_stands g n whole node)))));
}

pub added_more : (first now after more : List NodeId) (at : ℕ) (x : NodeId) → at < length more → ((n : ℕ) → times n (numbers now) ≡ times n (numbers first) + times n (take at (numbers more)))
    → after ≡ now ++ get_or more at x ∷ [] → (n : ℕ) → times n (numbers after) ≡ times n (numbers first) + times n (take (at + 1) (numbers more))
added_more first now after more at x h a e n =
    let front = times_front n (numbers more) at 0 (omega (arith, h, numbers_long more)) in
    let new = ap (times n) (ap numbers e ∙ numbers_pushed now (get_or more at x)) ∙ times_push n (numbers now) (get_or more at x).number in
    let same = ap (one n) (number_at more at x h) in
    let add : times n (take (at + 1) (numbers more)) ≡ times n (take (suc at) (numbers more)) = ap (λ k. times n (take k (numbers more))) (suc_add at) in
    omega (arith, front, new, same, add, a n)
  where
    suc_add : (k : ℕ) → k + 1 ≡ suc k
    suc_add k = omega arith

pub added_all : (first now more : List NodeId) (at n : ℕ) → length more ≤ at → times n (numbers now) ≡ times n (numbers first) + times n (take at (numbers more))
    → times n (numbers now) ≡ times n (numbers first) + times n (numbers more)
added_all first now more at n h a = a ∙ ap (λ l. times n (numbers first) + times n l) (take_all at (numbers more) (omega (arith, h, numbers_long more)))
