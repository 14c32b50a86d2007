-- The chain of a block names no node twice, and each but the first takes what the one before gives.
use Rattle.std.proofs.Common.{◌≡◌, refl, sym, ap, ◌∙◌, subst, ℕ, zero, suc, ◌==◌, true, false, true≢false, ◌⊎◌, inl, inr, List, [], ◌∷◌, Option, Some, None}
use Rattle.std.specs.Prelude.{slice_get}
use Rattle.firm_rules.specs.declared.node.NodeOp.{NodeOp}
use Rattle.firm_rules.specs.declared.node.NodeOp.TheVariants.{ProjM, Phi}
use Rattle.firm_rules.specs.Graphs.{FirmNode, Firm, acts}
use Rattle.firm_rules.specs.Lookups.{node_at}
use Rattle.firm_rules.specs.Rules.{is_phi, acts_in, takes_from, giver_by, giver_in, giver, IsOperand, Leads, at_once, onward, chain}
use Rattle.firm_rules.proofs.Steps.{Test, alike, apart, test}
use Rattle.firm_rules.proofs.Chains.{both_true, Acts, AllAct, Takes, Linked, AllLinked, chain_acts, chain_linked}
use Rattle.firm_rules.proofs.Nodes.{none_is_not_some, same_some}

acts_is_no_phi : (o : NodeOp) → acts o ≡ true → is_phi o ≡ false
acts_is_no_phi (Phi mode) e = absurd (true≢false (sym e))
acts_is_no_phi o e = refl

module _ (g : Firm) where
  leads_on : {n m k : ℕ} → Leads g n m → Leads g m k → Leads g n k
  leads_on (at_once first) rest = onward _ first rest
  leads_on (onward middle first between) rest = onward middle first (leads_on between rest)

  -- from a memory to what gives it
  to_giver : (m n : ℕ) → (giver g m == n) ≡ true → (m ≡ n) ⊎ Leads g m n
  to_giver m n e = by (node_at g m) refl e
    where
      equal : (x : ℕ) → (x == n) ≡ true → x ≡ n
      equal x t = here (test x n)
        where
          here : Test x n → x ≡ n
          here (alike same _) = same
          here (apart _ u) = absurd (true≢false (sym t ∙ u))

      by_op : (node : FirmNode) → node_at g m ≡ Some node → (o : NodeOp) (operands : List ℕ) → node.op ≡ o → node.operands ≡ operands
          → (giver_by o operands m == n) ≡ true → (m ≡ n) ⊎ Leads g m n
      by_op node is ProjM (t ∷ rest) o operands t_is =
          inr (at_once (record {
            node = node;
            is = is;
            no_phi = ap is_phi o;
            index = 0;
            at = ap (λ xs. slice_get xs 0) operands ∙ ap Some (equal t t_is);
          }))
      by_op node is ProjM [] o operands t_is = inl (equal m t_is)
      by_op node is op operands o os t_is = inl (equal m t_is)

      by : (found : Option FirmNode) → node_at g m ≡ found → (giver_in found m == n) ≡ true → (m ≡ n) ⊎ Leads g m n
      by None is t = inl (equal m t)
      by (Some node) is t = by_op node is node.op node.operands refl refl t

  module _ (b : ℕ) where
    takes_leads : (m n : ℕ) → Acts g b m → Takes g b m n → Leads g m n
    takes_leads m n act takes = by takes.node.operands refl takes.takes
      where
        no_phi : is_phi takes.node.op ≡ false
        no_phi = acts_is_no_phi takes.node.op (both_true (takes.node.block == b) (acts takes.node.op) (sym (ap (acts_in b) takes.is) ∙ act)).1

        step : (x : ℕ) (rest : List ℕ) → takes.node.operands ≡ x ∷ rest → IsOperand g m x
        step x rest e = record { node = takes.node; is = takes.is; no_phi = no_phi; index = 0; at = ap (λ xs. slice_get xs 0) e }

        by : (operands : List ℕ) → takes.node.operands ≡ operands → takes_from g (λ x. x == n) operands ≡ true → Leads g m n
        by [] e t = absurd (true≢false (sym t))
        by (x ∷ rest) e t = here (to_giver x n t)
          where
            here : (x ≡ n) ⊎ Leads g x n → Leads g m n
            here (inl same) = subst (Leads g m) same (at_once (step x rest e))
            here (inr more) = onward x (step x rest e) more

    later_leads : (n : ℕ) (ms : List ℕ) → AllAct g b ms → Linked g b n ms → (index m : ℕ) → slice_get ms index ≡ Some m → Leads g m n
    later_leads n [] act linked index m e = absurd (none_is_not_some m e)
    later_leads n (x ∷ xs) act linked zero m e = subst (λ y. Leads g y n) (same_some x m e) (takes_leads x n act.0 linked.0)
    later_leads n (x ∷ xs) act linked (suc index) m e = leads_on (later_leads x xs act.1 linked.1 index m e) (takes_leads x n act.0 linked.0)

    rest_linked : (n : ℕ) (ms : List ℕ) → Linked g b n ms → AllLinked g b ms
    rest_linked n [] linked = tt
    rest_linked n (x ∷ xs) linked = linked.1

    once_in : (ns : List ℕ) → AllAct g b ns → AllLinked g b ns → ((n : ℕ) → Acts g b n → Leads g n n → ⊥)
        → (i j n : ℕ) → slice_get ns i ≡ Some n → slice_get ns j ≡ Some n → i ≡ j
    once_in [] act linked none i j n one other = absurd (none_is_not_some n one)
    once_in (x ∷ xs) act linked none zero zero n one other = refl
    once_in (x ∷ xs) act linked none zero (suc j) n one other =
        absurd (none x act.0 (later_leads x xs act.1 linked j x (other ∙ sym one)))
    once_in (x ∷ xs) act linked none (suc i) zero n one other =
        absurd (none x act.0 (later_leads x xs act.1 linked i x (one ∙ sym other)))
    once_in (x ∷ xs) act linked none (suc i) (suc j) n one other =
        ap suc (once_in xs act.1 (rest_linked x xs linked) none i j n one other)

    -- each node of the chain acts
    acts_at : (ns : List ℕ) → AllAct g b ns → (index n : ℕ) → slice_get ns index ≡ Some n → Acts g b n
    acts_at [] act index n e = absurd (none_is_not_some n e)
    acts_at (x ∷ xs) act zero n e = subst (Acts g b) (same_some x n e) act.0
    acts_at (x ∷ xs) act (suc index) n e = acts_at xs act.1 index n e

    pub chain_acts_at : (index n : ℕ) → slice_get (chain g b) index ≡ Some n → Acts g b n
    chain_acts_at index n e = acts_at (chain g b) (chain_acts g b) index n e

    -- and takes what the one before gives
    takes_at : (ns : List ℕ) → AllLinked g b ns → (index n m : ℕ) → slice_get ns index ≡ Some n → slice_get ns (suc index) ≡ Some m → Takes g b m n
    takes_at [] linked index n m one next = absurd (none_is_not_some n one)
    takes_at (x ∷ []) linked index n m one next = absurd (none_is_not_some m next)
    takes_at (x ∷ y ∷ rest) linked zero n m one next =
        subst (Takes g b m) (same_some x n one) (subst (λ z. Takes g b z x) (same_some y m next) linked.0)
    takes_at (x ∷ y ∷ rest) linked (suc index) n m one next = takes_at (y ∷ rest) linked.1 index n m one next

    pub chain_takes_at : (index n m : ℕ) (node : FirmNode) → slice_get (chain g b) index ≡ Some n → slice_get (chain g b) (suc index) ≡ Some m
        → node_at g m ≡ Some node → takes_from g (λ x. x == n) node.operands ≡ true
    chain_takes_at index n m node one next is =
        let takes = takes_at (chain g b) (chain_linked g b) index n m one next in
        subst (λ x. takes_from g (λ y. y == n) x.operands ≡ true) (same_some takes.node node (sym takes.is ∙ is)) takes.takes

    -- and none stands there twice
    pub chain_once : ((n : ℕ) (node : FirmNode) → node_at g n ≡ Some node → Leads g n n → ⊥)
        → (i j n : ℕ) → slice_get (chain g b) i ≡ Some n → slice_get (chain g b) j ≡ Some n → i ≡ j
    chain_once none i j n one other = once_in (chain g b) (chain_acts g b) (chain_linked g b) (λ m act. by m (node_at g m) refl act) i j n one other
      where
        by : (m : ℕ) (found : Option FirmNode) → node_at g m ≡ found → acts_in b found ≡ true → Leads g m m → ⊥
        by m None is act = λ _. true≢false (sym act)
        by m (Some node) is act = none m node is
