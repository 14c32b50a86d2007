-- Where the chains of memory begin and end.
use Rattle.std.proofs.Common.{◌≡◌, ◌≢◌, ◌==◌, ℕ, zero, suc, ◌+◌, ◌<◌, ◌≤◌, Bool, true, false, true≢false, not, List, [], ◌∷◌, length, take, get_or, refl, sym, ap, ◌∙◌, subst, arith, Option, Some, None, inl, inr, MatchBool}
use Rattle.std.specs.Prelude.{slice_get, unwrap_or, nat_lt, is_some}
use Rattle.std.proofs.lemmas.Bool.{cases_eq, eqb-true, eq-eqb, ltb-true, ltb-false}
use Rattle.std.proofs.lemmas.List.{take_all}
use Rattle.firm_uses.specs.Counts.{times}
use Rattle.firm_rules.specs.declared.node.NodeId.{NodeId}
use Rattle.firm_rules.specs.declared.node.NodeOp.{NodeOp}
use Rattle.firm_rules.specs.Graphs.{FirmNode, Firm, acts}
use Rattle.firm_rules.specs.Rules.{first_node, chain, last_of, is_start, memory_into}
use Rattle.firm_tables.specs.Nodes.{numbers, node_of}
use Rattle.firm_tables.proofs.NodeLaws.{agrees, refuses}
use Rattle.firm_tables.proofs.MemberLaws.{numbers_long}
use Rattle.firm_nodes.specs.Calls.{IsNode}
use Rattle.firm_verify.specs.declared.memory.Sort.TheVariants.{Begins, Follows, MemoryPhi}
use Rattle.firm_verify.specs.declared.chains.Chains.{Chains}
use Rattle.firm_verify.specs.Broken.{Rule1, Rule3}
use Rattle.firm_verify.specs.Tables.{AreNodes}
use Rattle.firm_verify.specs.Memory.{HasKey, AreOwners, IsLast, AreLasts, AreChains, is_lower}
use Rattle.firm_verify.proofs.GraphLaws.{node_read, node_seen}
use Rattle.firm_verify.proofs.RivalLaws.{front}
use Rattle.firm_verify.proofs.ChainLaws.{Acts, taken, Passes, first_none, first_there, begins, follows, chain_stop, chain_acts, by_passes, passes_by, some_last, first_lowest}
use Rattle.firm_verify.proofs.MemoryLaws.{follows_key, key_follows, there_acts, acts_there, acts_block, chains_fit, phis_fit, first_is, phi_is}

some_same : (x y : ℕ) → Some x ≡ Some y → x ≡ y
some_same x y e = cc

none_some : (n : ℕ) → None ≡ Some n → ⊥
none_some n e = cc

-- ---- the last node of a chain

-- an item after which a list ends is its last
last_at : (l : List ℕ) (i n m : ℕ) → slice_get l i ≡ Some n → slice_get l (suc i) ≡ None → last_of m l ≡ n
last_at [] i n m at end = absurd (none_some n at)
last_at (x ∷ []) zero n m at end = some_same x n at
last_at (x ∷ y ∷ l) zero n m at end = absurd (none_some y (sym end))
last_at (x ∷ l) (suc i) n m at end = last_at l i n x at end

unfollowed : (g : Firm) (b n : ℕ) → Rule1 g → IsLast g b n → first_node g (follows g b n) ≡ None
unfollowed g b n one last = first_none g (follows g b n) (λ m p.
    let step = by_passes g b one m (λ k. k == n) p in
    let same = eqb-true (taken g b m) n step.1 in
    last.unfollowed m (subst (HasKey g Follows m) same (follows_key g b m step.0 (subst (Acts g b) (sym same) last.acts_there))))

is_last : (g : Firm) (b n : ℕ) → Rule1 g → Acts g b n → first_node g (follows g b n) ≡ None → IsLast g b n
is_last g b n one a none = record {
  acts_there = a;
  unfollowed = λ m has.
      let step = key_follows g m n has in
      let same = acts_block g (node_of g.nodes m).block b n step.1.0 a in
      let found = first_there g (follows g b n) m (passes_by g b one m (subst (λ k. Acts g k m) same step.0) (λ k. k == n) (eq-eqb (taken g b m) n step.1.1)) in
      none_some found.0 (sym none ∙ found.1);
}

pub last_is : (g : Firm) (firsts nexts lasts : List (Option ℕ)) → Rule1 g → Rule3 g → AreOwners g Begins firsts → AreOwners g Follows nexts → AreLasts g lasts
    → (b m : ℕ) → last_of m (chain g b) ≡ unwrap_or (get_or lasts b None) m
last_is g firsts nexts lasts one three begin follow l b m = by (get_or lasts b None) refl
  where
    none_in : (list : List ℕ) → chain g b ≡ list → get_or lasts b None ≡ None → last_of m list ≡ m
    none_in [] e none = refl
    none_in (n ∷ rest) e none =
        let last = some_last g b one three n (chain_acts g b one 0 n (ap (λ c. slice_get c 0) e)) in
        absurd (l.own b last.0 (is_last g b last.0 one last.1.0 last.1.1) none)

    by : (found : Option ℕ) → get_or lasts b None ≡ found → last_of m (chain g b) ≡ unwrap_or found m
    by (Some n) e =
        let last = l.have b n e in
        let at = chains_fit g firsts nexts one three begin follow b n last.acts_there in
        last_at (chain g b) at.0 n m at.1 (chain_stop g b (length g.nodes) (first_node g (begins g b)) at.0 n at.1 (unfollowed g b n one last))
    by None e = none_in (chain g b) refl e

-- ---- their table

pub record LastsOf (g : Firm) (nodes : List ℕ) (lasts : List (Option ℕ)) : Type 0 where
  pub own : (b n : ℕ) → 0 < times n nodes → IsLast g b n → get_or lasts b None ≢ None
  pub have : (b n : ℕ) → get_or lasts b None ≡ Some n → IsLast g b n

pub no_lasts : (g : Firm) (lasts : List (Option ℕ)) → lasts ≡ [] → LastsOf g [] lasts
no_lasts g lasts e = record {
  own = λ b n h. absurd (omega (arith, h));
  have = λ b n h. absurd (none_some n (sym (ap (λ l. get_or l b None) e) ∙ h));
}

last_block : (g : Firm) (b n : ℕ) → IsLast g b n → (node_of g.nodes n).block ≡ b
last_block g b n last = (acts_there g b n last.acts_there).block

pub lasts_pass : (g : Firm) (nodes : List NodeId) (at : ℕ) (d : NodeId) (lasts : List (Option ℕ)) (answer : Bool) → at < length nodes → answer ≡ false
    → MatchBool answer (IsLast g (node_of g.nodes (get_or nodes at d).number).block (get_or nodes at d).number) (IsLast g (node_of g.nodes (get_or nodes at d).number).block (get_or nodes at d).number → ⊥)
    → LastsOf g (take at (numbers nodes)) lasts → LastsOf g (take (at + 1) (numbers nodes)) lasts
lasts_pass g nodes at d lasts answer h e m o = record {
  own = λ b n listed last. elim (front n nodes at d h listed) [
    | inl same ↦ absurd (refuses answer e m (subst (λ x. IsLast g (node_of g.nodes x).block x) same (subst (λ k. IsLast g k n) (sym (last_block g b n last)) last)))
    | inr before ↦ o.own b n before last
  ];
  have = o.have;
}

pub lasts_more : (g : Firm) (nodes : List NodeId) (at : ℕ) (d : NodeId) (lasts after : List (Option ℕ)) (own : ℕ) (answer : Bool) → at < length nodes → answer ≡ true
    → MatchBool answer (IsLast g (node_of g.nodes (get_or nodes at d).number).block (get_or nodes at d).number) (IsLast g (node_of g.nodes (get_or nodes at d).number).block (get_or nodes at d).number → ⊥)
    → own ≡ (node_of g.nodes (get_or nodes at d).number).block → get_or after own None ≡ Some (get_or nodes at d).number
    → ((other : ℕ) → other ≢ own → get_or after other None ≡ get_or lasts other None)
    → LastsOf g (take at (numbers nodes)) lasts → LastsOf g (take (at + 1) (numbers nodes)) after
lasts_more g nodes at d lasts after own answer h e m eb this others o = record {
  own = λ b n listed last none. elim (cases_eq b own) [
    | inl same ↦ none_some (get_or nodes at d).number (sym none ∙ ap (λ k. get_or after k None) same ∙ this)
    | inr ne ↦ elim (front n nodes at d h listed) [
      | inl same ↦ ne (sym (last_block g b n last) ∙ ap (λ x. (node_of g.nodes x).block) same ∙ sym eb)
      | inr before ↦ o.own b n before last (sym (others b ne) ∙ none)
    ]
  ];
  have = λ b n is. elim (cases_eq b own) [
    | inl same ↦
        let x = (get_or nodes at d).number in
        let last : IsLast g b x = subst (λ k. IsLast g k x) (sym (same ∙ eb)) (agrees answer e m) in
        subst (IsLast g b) (some_same x n (sym this ∙ ap (λ k. get_or after k None) (sym same) ∙ is)) last
    | inr ne ↦ o.have b n (sym (others b ne) ∙ is)
  ];
}

pub lasts_all : (g : Firm) (nodes : List NodeId) (at : ℕ) (lasts : List (Option ℕ)) → AreNodes g (numbers nodes) → length nodes ≤ at → LastsOf g (take at (numbers nodes)) lasts → AreLasts g lasts
lasts_all g nodes at lasts a h o = record {
  own = λ b n last.
      o.own b n (subst (λ l. 0 < times n l) (sym (take_all at (numbers nodes) (omega (arith, h, numbers_long nodes)))) (a.all n (acts_there g b n last.acts_there).node)) last;
  have = o.have;
}

-- ---- one node

pub not_acting : (g : Firm) (n : ℕ) (op : NodeOp) → op ≡ (node_of g.nodes n).op → acts op ≡ false → IsLast g (node_of g.nodes n).block n → ⊥
not_acting g n op eo off last = true≢false (sym (acts_there g (node_of g.nodes n).block n last.acts_there).does ∙ ap acts (sym eo) ∙ off)

pub last_by : (g : Firm) (n : ℕ) (op : NodeOp) (nexts : List (Option ℕ)) (next : Option ℕ) (answer : Bool) → AreOwners g Follows nexts → IsNode g n → op ≡ (node_of g.nodes n).op → acts op ≡ true
    → next ≡ get_or nexts n None → is_some next ≡ not answer → MatchBool answer (IsLast g (node_of g.nodes n).block n) (IsLast g (node_of g.nodes n).block n → ⊥)
last_by g n op nexts None true o node eo a e test = record {
  acts_there = there_acts g n node (ap acts (sym eo) ∙ a);
  unfollowed = λ m has. none_some m (e ∙ o.own m n has);
}
last_by g n op nexts None false o node eo a e test = absurd (true≢false (sym test))
last_by g n op nexts (Some m) true o node eo a e test = absurd (true≢false test)
last_by g n op nexts (Some m) false o node eo a e test = λ last. last.unfollowed m (o.have m n (sym e))

-- ---- the memory that comes first

-- the lowest of some nodes that is a `Start`
pub record IsLowest (g : Firm) (nodes : List ℕ) (found : Option ℕ) : Type 0 where
  pub some : (k : ℕ) → found ≡ Some k → IsNode g k × (is_start (node_of g.nodes k).op ≡ true)
  pub lower : (n : ℕ) → 0 < times n nodes → is_start (node_of g.nodes n).op ≡ true → (k : ℕ) × ((found ≡ Some k) × (k ≤ n))

pub no_lowest : (g : Firm) → IsLowest g [] None
no_lowest g = record {
  some = λ k e. absurd (none_some k e);
  lower = λ n h. absurd (omega (arith, h));
}

lower_than : (k n : ℕ) → nat_lt n k ≡ true → n < k
lower_than k n e = ltb-true n k e

not_lower : (k n : ℕ) → nat_lt n k ≡ false → k ≤ n
not_lower k n e = ltb-false n k e

pub lowest_pass : (g : Firm) (nodes : List NodeId) (at : ℕ) (d : NodeId) (found : Option ℕ) → at < length nodes
    → (is_start (node_of g.nodes (get_or nodes at d).number).op ≡ true → is_lower found (get_or nodes at d).number ≡ false)
    → IsLowest g (take at (numbers nodes)) found → IsLowest g (take (at + 1) (numbers nodes)) found
lowest_pass g nodes at d found h higher o = record {
  some = o.some;
  lower = λ n listed start. elim (front n nodes at d h listed) [
    | inl same ↦ by found refl n (subst (λ x. is_lower found x ≡ false) (sym same) (higher (subst (λ x. is_start (node_of g.nodes x).op ≡ true) same start)))
    | inr before ↦ o.lower n before start
  ];
}
  where
    by : (f : Option ℕ) → found ≡ f → (n : ℕ) → is_lower found n ≡ false → (k : ℕ) × ((found ≡ Some k) × (k ≤ n))
    by None e n off = absurd (true≢false (ap (λ f. is_lower f n) (sym e) ∙ off))
    by (Some k) e n off = (k, (e, not_lower k n (ap (λ f. is_lower f n) (sym e) ∙ off)))

pub lowest_more : (g : Firm) (nodes : List NodeId) (at : ℕ) (d : NodeId) (found : Option ℕ) → at < length nodes → IsNode g (get_or nodes at d).number
    → is_start (node_of g.nodes (get_or nodes at d).number).op ≡ true → is_lower found (get_or nodes at d).number ≡ true
    → IsLowest g (take at (numbers nodes)) found → IsLowest g (take (at + 1) (numbers nodes)) (Some (get_or nodes at d).number)
lowest_more g nodes at d found h node start lower o = record {
  some = λ k e. subst (λ x. IsNode g x × (is_start (node_of g.nodes x).op ≡ true)) (some_same (get_or nodes at d).number k e) (node, start);
  lower = λ n listed is. (
    (get_or nodes at d).number,
    (
      refl,
      elim (front n nodes at d h listed) [
        | inl same ↦ omega (arith, same)
        | inr before ↦
            let was = o.lower n before is in
            omega (arith, was.1.1, lower_than was.0 (get_or nodes at d).number (ap (λ f. is_lower f (get_or nodes at d).number) (sym was.1.0) ∙ lower))
      ],
    ),
  );
}

starts : FirmNode → Bool
starts node = is_start node.op

pub start_is : (g : Firm) (nodes : List NodeId) (at : ℕ) (found : Option ℕ) → AreNodes g (numbers nodes) → length nodes ≤ at → IsLowest g (take at (numbers nodes)) found
    → unwrap_or found 0 ≡ memory_into g []
unfolding memory_into
start_is g nodes at found a h o = ap (λ f. unwrap_or f 0) (by found refl)
  where
    lowest : (n : ℕ) → Passes g (λ node. is_start node.op) n → (k : ℕ) × ((found ≡ Some k) × (k ≤ n))
    lowest n p =
        let read = node_read g n p.node p.is in
        o.lower n (subst (λ l. 0 < times n l) (sym (take_all at (numbers nodes) (omega (arith, h, numbers_long nodes)))) (a.all n read.0)) (ap (λ (x : FirmNode). is_start x.op) read.1 ∙ p.passed)

    by : (f : Option ℕ) → found ≡ f → f ≡ first_node g (λ node. is_start node.op)
    by None e = sym (first_none g (λ node. is_start node.op) (λ m p.
        let low = lowest m p in
        none_some low.0 (sym e ∙ low.1.0)))
    by (Some k) e =
        let is = o.some k e in
        sym (first_lowest g (λ node. is_start node.op) k (record { node = node_of g.nodes k; is = node_seen g k is.0; passed = is.1 }) (λ m p.
        let low = lowest m p in
        omega (arith, low.1.1, some_same low.0 k (sym low.1.0 ∙ e))))

-- ---- all of them

pub are_chains : (g : Firm) (chains : Chains) (nexts : List (Option ℕ)) → Rule1 g → Rule3 g → AreOwners g Begins chains.firsts.items → AreOwners g Follows nexts
    → AreOwners g MemoryPhi chains.phis.items → AreLasts g chains.lasts.items → chains.start ≡ memory_into g [] → AreChains g chains
are_chains g chains nexts one three begin follow phi last start = record {
  one_chain = chains_fit g chains.firsts.items nexts one three begin follow;
  one_phi = phis_fit g chains.phis.items phi;
  first_is = first_is g chains.firsts.items nexts one begin follow;
  last_is = last_is g chains.firsts.items nexts chains.lasts.items one three begin follow last;
  phi_is = phi_is g chains.phis.items phi;
  start_is = sym start;
}
