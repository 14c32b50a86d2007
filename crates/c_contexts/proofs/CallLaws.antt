-- What is called does not depend on how far the search for a call may go.
use Rattle.std.proofs.Common.{◌≡◌, ◌≢◌, ◌⊎◌, inl, inr, ℕ, zero, suc, ◌+◌, ◌-◌, ◌<◌, ◌≤◌, Bool, true, false, List, [], ◌∷◌, ◌++◌, length, replicate, Some, refl, sym, ap, ◌∙◌, subst, arith, true≢false, get_or}
use Rattle.std.specs.Prelude.{slice_get, slice_set, nat_eq, ◌==◌}
use Rattle.std.proofs.lemmas.List.{get_or-set_same, get_or-set_other, length-replicate, length-set}
use Rattle.std.proofs.lemmas.Bool.Decides.{eqb_tells}
use Rattle.c_syntax.specs.declared.kind.SynKind.{SynKind}
use Rattle.c_syntax.specs.declared.kind.SynKind.TheVariants as kind
use Rattle.c_syntax.specs.declared.label.Label.{Label}
use Rattle.c_syntax.specs.declared.syntax.SynNode.{SynNode}
use Rattle.c_syntax.specs.Trees.{Forest, none, one, tree}
use Rattle.c_syntax.specs.Tables.{roots, size}
use Rattle.c_typing.specs.Places.{Node, kid, kind_at, node_at, nodes, nodes_of, numbers, is_paren, parent_of}
use Rattle.c_typing.specs.Names.{Places}
use Rattle.c_typing.specs.Expressions.{is_called}
use Rattle.c_typing.proofs.MadeNodes.{In, in_at}
use Rattle.c_nodes.specs.Parents.{AreNumbered, nodes_in, tree_in}
use Rattle.c_nodes.proofs.ScopeLaws.{there_by_kind}
use Rattle.c_names.specs.Denoted.{places_in}
use Rattle.c_contexts.specs.Contexts.{AreCalled, AreCalledFrom}

-- ---- parents come behind their kids

in_either : {A : Type 0} (x : A) (xs ys : List A) → In x (xs ++ ys) → In x xs ⊎ In x ys
in_either x [] ys h = inr h
in_either x (y ∷ xs) ys (inl e) = inl (inl e)
in_either x (y ∷ xs) ys (inr h) = by (in_either x xs ys h)
  where
    by : In x xs ⊎ In x ys → In x (y ∷ xs) ⊎ In x ys
    by (inl a) = inl (inr a)
    by (inr b) = inr b

abbrev own : ℕ → ℕ → Label → Forest → Node
own first parent label kids = record { id = first + size kids; label = label; kids = numbers (roots first kids); first = first; parent = parent }

above : (first parent : ℕ) (f : Forest) → first + size f ≤ parent → (m : Node) → In m (nodes_of first parent f) → m.id < m.parent
above first parent none low m h = absurd h
above first parent (tree label kids rest) low m h =
    by (in_either m (nodes_of first (first + size kids) kids) (own first parent label kids ∷ nodes_of (first + size kids + 1) parent rest) h)
    (above first (first + size kids) kids (omega arith) m) (above (first + size kids + 1) parent rest (omega (arith, low)) m)
  where
    by : In m (nodes_of first (first + size kids) kids) ⊎ In m (own first parent label kids ∷ nodes_of (first + size kids + 1) parent rest)
        → (In m (nodes_of first (first + size kids) kids) → m.id < m.parent) → (In m (nodes_of (first + size kids + 1) parent rest) → m.id < m.parent) → m.id < m.parent
    by (inl i) more other = more i
    by (inr (inl same)) more other = subst (λ (y : Node). y.id < y.parent) same (omega (arith, low))
    by (inr (inr i)) more other = other i

pub parent_above : (table : List SynNode) → AreNumbered (nodes_in table) → (n : ℕ) → n < length (nodes_in table) → n < (node_at (nodes_in table) n).parent
unfolding nodes_in
parent_above table numbered n within =
    subst (λ k. k < (node_at (nodes_in table) n).parent) (numbered n within)
    (above 0 (size (one (tree_in table))) (one (tree_in table)) (omega arith) (node_at (nodes_in table) n) (in_at (node_at (nodes_in table) n) (nodes_in table) n (there (nodes_in table) n within)))
  where
    there : (s : List Node) (i : ℕ) → i < length s → slice_get s i ≡ Some (node_at s i)
    there [] i h = absurd (omega (arith, h))
    there (m ∷ s) zero h = refl
    there (m ∷ s) (suc i) h = there s i (omega (arith, h))

-- ---- one step outward

abbrev called_step : SynKind → Bool → Bool → Bool
called_step kind.Call is_first further = is_first
called_step kind.Paren is_first further = further
called_step k is_first further = false

step_is : (p : Places) (fuel n : ℕ) (k : SynKind) → (parent_of p.nodes n).label.kind ≡ k → is_called p (suc fuel) n ≡ called_step k (kid (parent_of p.nodes n) 0 == n) (is_called p fuel (parent_of p.nodes n).id)
step_is p fuel n kind.Call e = rw e refl
step_is p fuel n kind.Paren e = rw e refl
step_is p fuel n _ e = rw e refl

kind_there : (s : List Node) (n : ℕ) → (n < length s) ⊎ (kind_at s n ≡ kind.Empty)
kind_there s n = by s n
  where
    by : (s : List Node) (i : ℕ) → (i < length s) ⊎ (kind_at s i ≡ kind.Empty)
    by [] i = inr refl
    by (m ∷ s) zero = inl (omega arith)
    by (m ∷ s) (suc i) = more (by s i)
      where
        more : (i < length s) ⊎ (kind_at s i ≡ kind.Empty) → (suc i < length (m ∷ s)) ⊎ (kind_at (m ∷ s) (suc i) ≡ kind.Empty)
        more (inl h) = inl (omega (arith, h))
        more (inr e) = inr e

module _ (table : List SynNode) (numbered : AreNumbered (nodes_in table)) where
  abbrev p : Places
  p = places_in table

  -- enough steps are as good as more
  stable : (k f g n : ℕ) → n < length (nodes_in table) → length (nodes_in table) ≤ n + k → k ≤ f → k ≤ g → is_called p f n ≡ is_called p g n
  unfolding places_in nodes_in
  stable zero f g n within most low high = absurd (omega (arith, within, most))
  stable (suc k) zero g n within most low high = absurd (omega (arith, low))
  stable (suc k) (suc f) zero n within most low high = absurd (omega (arith, high))
  stable (suc k) (suc f) (suc g) n within most low high = by (kind_there (nodes_in table) (node_at (nodes_in table) n).parent) (λ further. stable k f g (parent_of p.nodes n).id further)
    where
      outer : ℕ
      outer = (node_at (nodes_in table) n).parent

      by : (outer < length (nodes_in table)) ⊎ (kind_at (nodes_in table) outer ≡ kind.Empty)
          → ((parent_of p.nodes n).id < length (nodes_in table) → length (nodes_in table) ≤ (parent_of p.nodes n).id + k → k ≤ f → k ≤ g → is_called p f (parent_of p.nodes n).id ≡ is_called p g (parent_of p.nodes n).id)
          → is_called p (suc f) n ≡ is_called p (suc g) n
      by (inl there) more =
          let id : (parent_of p.nodes n).id ≡ outer = numbered outer there in
          let up = parent_above table numbered n within in
          let same = more (omega (arith, id, there)) (omega (arith, id, up, most)) (omega (arith, low)) (omega (arith, high)) in
          step_is p f n (parent_of p.nodes n).label.kind refl
          ∙ (ap (called_step (parent_of p.nodes n).label.kind (kid (parent_of p.nodes n) 0 == n)) same ∙ sym (step_is p g n (parent_of p.nodes n).label.kind refl))
      by (inr empty) more = step_is p f n kind.Empty empty ∙ sym (step_is p g n kind.Empty empty)

  module _ (nodes : length (nodes_in table) ≡ length table) (n : ℕ) (within : n < length table) where
    -- by the kind of its parent
    whole : is_called p (length (nodes_in table)) n ≡ is_called p (suc (length (nodes_in table) - 1)) n
    whole = let more : length (nodes_in table) ≡ suc (length (nodes_in table) - 1) = omega (arith, within, nodes) in ap (λ k. is_called p k n) more

    pub by_call : kind_at (nodes_in table) (node_at (nodes_in table) n).parent ≡ kind.Call → (b : Bool) → b ≡ (kid (node_at (nodes_in table) (node_at (nodes_in table) n).parent) 0 == n) → b ≡ is_called p (length (nodes_in table)) n
    unfolding places_in nodes_in
    by_call e b is = is ∙ sym (whole ∙ step_is p (length (nodes_in table) - 1) n kind.Call e)

    pub by_paren : (found : List Bool) → AreCalledFrom table (n + 1) found → kind_at (nodes_in table) (node_at (nodes_in table) n).parent ≡ kind.Paren
        → get_or found (node_at (nodes_in table) n).parent false ≡ is_called p (length (nodes_in table)) n
    unfolding places_in nodes_in
    by_paren found f e =
        let outer = (node_at (nodes_in table) n).parent in
        let there = there_by_kind (nodes_in table) outer (λ empty. not_empty (sym e ∙ empty)) in
        let id : (parent_of p.nodes n).id ≡ outer = numbered outer there in
        let up = parent_above table numbered n (omega (arith, within, nodes)) in
        f.are outer (omega (arith, up)) (omega (arith, there, nodes))
        ∙ (stable (length (nodes_in table) - 1) (length (nodes_in table)) (length (nodes_in table) - 1) outer there (omega (arith, up, within, nodes)) (omega arith) (omega arith)
        ∙ (ap (is_called p (length (nodes_in table) - 1)) (sym id) ∙ sym (whole ∙ step_is p (length (nodes_in table) - 1) n kind.Paren e)))
      where
        not_empty : kind.Paren ≡ kind.Empty → ⊥
        not_empty e = true≢false (ap is_paren e)

    pub parent_there : kind_at (nodes_in table) (node_at (nodes_in table) n).parent ≢ kind.Empty → (node_at (nodes_in table) n).parent < length table
    parent_there some = let t = there_by_kind (nodes_in table) (node_at (nodes_in table) n).parent some in omega (arith, t, nodes)

    pub by_other : (k : SynKind) → kind_at (nodes_in table) (node_at (nodes_in table) n).parent ≡ k → (k ≡ kind.Call → ⊥) → (k ≡ kind.Paren → ⊥) → false ≡ is_called p (length (nodes_in table)) n
    unfolding places_in nodes_in
    by_other k e no_call no_paren = sym (whole ∙ (step_is p (length (nodes_in table) - 1) n k e ∙ never k (kid (parent_of p.nodes n) 0 == n) (is_called p (length (nodes_in table) - 1) (parent_of p.nodes n).id) no_call no_paren))
      where
        never : (k : SynKind) (a b : Bool) → (k ≡ kind.Call → ⊥) → (k ≡ kind.Paren → ⊥) → called_step k a b ≡ false
        never kind.Call a b h g = absurd (h refl)
        never kind.Paren a b h g = absurd (g refl)
        never _ a b h g = refl

-- ---- from node to node

pub one_put : (table : List SynNode) (n : ℕ) (found : List Bool) (b : Bool) → n < length table → b ≡ is_called (places_in table) (length (nodes_in table)) n → AreCalledFrom table (n + 1) found → AreCalledFrom table n (slice_set found n b)
one_put table n found b within is f = record { numbered = f.numbered; nodes = f.nodes; long = length-set found n b ∙ f.long; are = λ i low in_it. which i low in_it (eqb_tells i n) }
  where
    which : (i : ℕ) → n ≤ i → i < length table → ((nat_eq i n ≡ true) × (i ≡ n)) ⊎ ((nat_eq i n ≡ false) × (i ≢ n)) → get_or (slice_set found n b) i false ≡ is_called (places_in table) (length (nodes_in table)) i
    which i low in_it (inl (e, same)) =
        ap (λ k. get_or (slice_set found n b) k false) same ∙ (get_or-set_same found n b false (subst (λ k. n < k) (sym f.long) within) ∙ (is ∙ ap (is_called (places_in table) (length (nodes_in table))) (sym same)))
    which i low in_it (inr (e, other)) = get_or-set_other found n i b false other ∙ f.are i (apart low other) in_it
      where
        apart : n ≤ i → (i ≡ n → ⊥) → n + 1 ≤ i
        apart low other = grind (arith, low)

pub none_put : (table : List SynNode) (n : ℕ) → AreNumbered (nodes_in table) → length (nodes_in table) ≡ length table → length table ≤ n → AreCalledFrom table n (replicate (length table) false)
none_put table n numbered nodes most = record { numbered = numbered; nodes = nodes; long = length-replicate (length table) false; are = λ i low in_it. absurd (omega (arith, low, in_it, most)) }

pub all_put : (table : List SynNode) (n : ℕ) (found : List Bool) → n ≡ 0 → AreCalledFrom table n found → AreCalled table found
all_put table n found first f = record { long = f.long; are = λ i within. f.are i (omega (arith, first)) within }
