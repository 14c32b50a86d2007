-- In a graph without a cycle of operands that passes no Phi, each node of a block has the word of its operation.
use Rattle.std.proofs.Common.{◌≡◌, refl, sym, ap, ◌∙◌, subst, ℕ, zero, suc, ◌+◌, ◌<◌, ◌≤◌, arith, Bool, true, false, true≢false, List, [], ◌∷◌, length, Option, Some, None}
use Rattle.std.specs.Prelude.{slice_get, ◌||◌, eqb}
use Rattle.std.specs.List.{IsDistinct, AllByRecursion, list_any}
use Rattle.std.proofs.lemmas.Map.Steps.{length-le_from_distinct_below}
use Rattle.std.proofs.lemmas.Option.{slice_get_within}
use Rattle.cp_base.specs.Operations.{applied}
use Rattle.firm_rules.specs.declared.node.NodeOp.{NodeOp}
use Rattle.firm_rules.specs.declared.node.NodeOp.TheVariants.{Apply, ProjR, Phi}
use Rattle.firm_rules.specs.Graphs.{FirmNode, Firm}
use Rattle.firm_rules.specs.Lookups.{node_at}
use Rattle.firm_rules.specs.Rules.{is_phi, IsOperand, Leads, at_once, onward}
use Rattle.firm_rules.specs.Frames.{Frame, word_by, word_in, word_within, word_at}
use Rattle.firm_rules.proofs.Steps.{Test, alike, apart, test}
use Rattle.firm_rules.proofs.Nodes.{is_there}

-- the words of operands decide the word of an operation
same_by : (base : ℕ) (f : Frame) (one other : ℕ → ℕ) (o : NodeOp) (operands : List ℕ) (n : ℕ)
    → ((index m : ℕ) → slice_get operands index ≡ Some m → one m ≡ other m) → word_by base f one o operands n ≡ word_by base f other o operands n
same_by base f one other (Apply op) (a ∷ b ∷ rest) n same = ap (λ x. applied op x (one b)) (same 0 a refl) ∙ ap (applied op (other a)) (same 1 b refl)
same_by base f one other (Apply op) (a ∷ []) n same = ap (λ x. applied op x 0) (same 0 a refl)
same_by base f one other (Apply op) [] n same = refl
same_by base f one other ProjR (t ∷ rest) n same = same 0 t refl
same_by base f one other ProjR [] n same = refl
same_by base f one other o operands n same = refl

nothing_twice : IsDistinct eqb []
unfolding IsDistinct
nothing_twice = tt

module _ (g : Firm) where
  longer : {x n m : ℕ} → Leads g x n → IsOperand g n m → Leads g x m
  longer (at_once first) next = onward _ first (at_once next)
  longer (onward middle first rest) next = onward middle first (longer rest next)

  -- ---- nodes that lead to a node, no two of them the same

  abbrev AllLead : ℕ → List ℕ → Type 0
  AllLead n [] = Unit {0}
  AllLead n (x ∷ xs) = Leads g x n × (x < length g.nodes) × AllLead n xs

  all_longer : (n m : ℕ) (xs : List ℕ) → IsOperand g n m → AllLead n xs → AllLead m xs
  all_longer n m [] next all = tt
  all_longer n m (x ∷ xs) next all = (longer all.0 next, all.1, all_longer n m xs next all.2)

  apart_from : (n : ℕ) (xs : List ℕ) → (Leads g n n → ⊥) → AllLead n xs → AllByRecursion (λ y. eqb n y ≡ false) xs
  apart_from n [] none all = tt
  apart_from n (x ∷ xs) none all = (by (test n x), apart_from n xs none all.2)
    where
      by : Test n x → eqb n x ≡ false
      by (alike same _) = absurd (none (subst (λ y. Leads g y n) (sym same) all.0))
      by (apart _ t) = t

  below : (n : ℕ) (xs : List ℕ) → AllLead n xs → (q : ℕ) → list_any (eqb q) xs ≡ true → q < length g.nodes
  below n [] all q e = absurd (true≢false (sym e))
  below n (x ∷ xs) all q e = by (test q x) (below n xs all.2 q)
    where
      by : Test q x → (list_any (eqb q) xs ≡ true → q < length g.nodes) → q < length g.nodes
      by (alike same _) rest = subst (λ y. y < length g.nodes) (sym same) all.1
      by (apart _ t) rest = rest (sym (ap (λ u. u || list_any (eqb q) xs) t) ∙ e)

  module _ (base : ℕ) (b : ℕ) (f : Frame) (no_cycle : (n : ℕ) (node : FirmNode) → node_at g n ≡ Some node → Leads g n n → ⊥) where
    abbrev word : ℕ → ℕ → ℕ
    word steps n = word_within base g b f steps n

    -- where as many nodes lead to the node as steps are left, one step more changes nothing
    Stable : ℕ → Type 0
    Stable steps = (n : ℕ) (before : List ℕ) → IsDistinct eqb before → AllLead n before → length g.nodes ≤ length before + steps → word (suc steps) n ≡ word steps n

    within : (n : ℕ) (node : FirmNode) → node_at g n ≡ Some node → n < length g.nodes
    within n node e = slice_get_within g.nodes n node (is_there (slice_get g.nodes n) node e).0

    distinct_more : (n : ℕ) (node : FirmNode) (before : List ℕ) → node_at g n ≡ Some node → IsDistinct eqb before → AllLead n before → IsDistinct eqb (n ∷ before)
    unfolding IsDistinct
    distinct_more n node before e distinct all = (apart_from n before (no_cycle n node e) all, distinct)

    below_more : (n : ℕ) (before : List ℕ) → n < length g.nodes → AllLead n before → (q : ℕ) → list_any (eqb q) (n ∷ before) ≡ true → q < length g.nodes
    below_more n before less all q e = by (test q n)
      where
        by : Test q n → q < length g.nodes
        by (alike same _) = subst (λ y. y < length g.nodes) (sym same) less
        by (apart _ t) = below n before all q (sym (ap (λ u. u || list_any (eqb q) before) t) ∙ e)

    -- the node and those before it are no more than the nodes
    few : (n : ℕ) (node : FirmNode) (before : List ℕ) → node_at g n ≡ Some node → IsDistinct eqb before → AllLead n before → suc (length before) ≤ length g.nodes
    few n node before e distinct all =
        length-le_from_distinct_below (n ∷ before) (length g.nodes) (distinct_more n node before e distinct all) (below_more n before (within n node e) all)

    word_of_phi : (n : ℕ) (o : NodeOp) (operands : List ℕ) → is_phi o ≡ true → (one : ℕ → ℕ) → word_by base f one o operands n ≡ f.words n
    word_of_phi n (Phi mode) operands phi one = refl
    word_of_phi n o operands phi one = absurd (true≢false (sym phi))

    -- what the words of the operands say
    by_node : (n : ℕ) (one other : ℕ → ℕ) → ((node : FirmNode) → node_at g n ≡ Some node → node.block ≡ b → word_by base f one node.op node.operands n ≡ word_by base f other node.op node.operands n)
        → word_in base b f one (node_at g n) n ≡ word_in base b f other (node_at g n) n
    by_node n one other same = by (node_at g n) refl
      where
        by : (found : Option FirmNode) → node_at g n ≡ found → word_in base b f one found n ≡ word_in base b f other found n
        by None e = refl
        by (Some node) e = here (test node.block b)
          where
            here : Test node.block b → word_in base b f one (Some node) n ≡ word_in base b f other (Some node) n
            here (alike at t) =
                ap (λ x. elim x [ true ↦ word_by base f one node.op node.operands n | false ↦ f.words n ]) t
                ∙ same node e at
                ∙ sym (ap (λ x. elim x [ true ↦ word_by base f other node.op node.operands n | false ↦ f.words n ]) t)
            here (apart _ t) =
                ap (λ x. elim x [ true ↦ word_by base f one node.op node.operands n | false ↦ f.words n ]) t
                ∙ sym (ap (λ x. elim x [ true ↦ word_by base f other node.op node.operands n | false ↦ f.words n ]) t)

    stable : (steps : ℕ) → Stable steps
    unfolding word_within Stable
    stable zero n before distinct all enough = by (node_at g n) refl
      where
        by : (found : Option FirmNode) → node_at g n ≡ found → word_in base b f (word zero) found n ≡ f.words n
        by None e = refl
        by (Some node) e = absurd (omega (arith, few n node before e distinct all, enough))
    stable (suc steps) n before distinct all enough = by_node n (word (suc steps)) (word steps) (λ node e at. same node e (is_phi node.op) refl (stable steps))
      where
        same : (node : FirmNode) → node_at g n ≡ Some node → (t : Bool) → is_phi node.op ≡ t → Stable steps
            → word_by base f (word (suc steps)) node.op node.operands n ≡ word_by base f (word steps) node.op node.operands n
        same node e true phi fewer =
            word_of_phi n node.op node.operands phi (word (suc steps)) ∙ sym (word_of_phi n node.op node.operands phi (word steps))
        same node e false phi fewer =
            same_by base f (word (suc steps)) (word steps) node.op node.operands n
            (λ index m at. operand m (record { node = node; is = e; no_phi = phi; index = index; at = at }))
          where
            operand : (m : ℕ) → IsOperand g n m → word (suc steps) m ≡ word steps m
            operand m is =
                fewer m (n ∷ before) (distinct_more n node before e distinct all) (at_once is, within n node e, all_longer n m before is all)
                (omega (arith, enough))

    -- no bound from the number of nodes on makes a difference
    pub any_bound : (more n : ℕ) → word (more + length g.nodes) n ≡ word_at base g b f n
    unfolding Stable
    any_bound zero n = ap (λ steps. word steps n) (omega arith)
    any_bound (suc more) n =
        ap (λ steps. word steps n) (omega arith)
        ∙ stable (more + length g.nodes) n [] nothing_twice tt (omega arith)
        ∙ any_bound more n

    -- the node has the word of its operation
    pub word_is : (n : ℕ) (node : FirmNode) → node_at g n ≡ Some node → node.block ≡ b
        → word_at base g b f n ≡ word_by base f (word_at base g b f) node.op node.operands n
    unfolding word_within Stable
    word_is n node e at =
        sym (stable (length g.nodes) n [] nothing_twice tt (omega arith))
        ∙ ap (λ found. word_in base b f (word_at base g b f) found n) e
        ∙ here (test node.block b)
      where
        here : Test node.block b → word_in base b f (word_at base g b f) (Some node) n ≡ word_by base f (word_at base g b f) node.op node.operands n
        here (alike _ t) = ap (λ x. elim x [ true ↦ word_by base f (word_at base g b f) node.op node.operands n | false ↦ f.words n ]) t
        here (apart d _) = absurd (d at)
