-- The lowest id of the tree below a node.
use Rattle.std.proofs.Common.{◌≡◌, ℕ, zero, suc, ◌+◌, ◌-◌, ◌<◌, ◌≤◌, ◌⊎◌, inl, inr, List, [], ◌∷◌, ◌++◌, length, Some, refl, sym, ap, ap₂, ◌∙◌, subst, arith, append_assoc, length-append, zero-add}
use Rattle.std.specs.Prelude.{slice_get}
use Rattle.std.proofs.lemmas.Bool.{cases_lt}
use Rattle.std.proofs.Math.Nat.{eq-or-lt_of_le}
use Rattle.c_syntax.specs.declared.label.Label.{Label}
use Rattle.c_syntax.specs.declared.syntax.SynId.{SynId}
use Rattle.c_syntax.specs.declared.syntax.SynNode.{SynNode}
use Rattle.c_syntax.specs.Trees.{Tree, Forest, none, tree, one}
use Rattle.c_syntax.specs.Tables.{size, roots, nodes, node_of, label_of, firsts, table_of, StandAll, and_id, StandsFor}
use Rattle.c_syntax.proofs.TreeLaws.{length-nodes, length-firsts}
use Rattle.c_syntax.proofs.TextLaws.{ends, stand_within}

-- ---- elements of a list that is two

get_front : (xs ys : List ℕ) (i v : ℕ) → slice_get xs i ≡ Some v → slice_get (xs ++ ys) i ≡ Some v
get_front [] ys i v e = absurd (cc e)
get_front (x ∷ xs) ys zero v e = e
get_front (x ∷ xs) ys (suc i) v e = get_front xs ys i v e

get_behind : (xs ys : List ℕ) (y i j : ℕ) → i ≡ length xs + suc j → slice_get (xs ++ y ∷ ys) i ≡ slice_get ys j
get_behind [] ys y zero j e = absurd (omega (arith, e))
get_behind [] ys y (suc i) j e = ap (slice_get ys) (omega (arith, e))
get_behind (x ∷ xs) ys y zero j e = absurd (omega (arith, e))
get_behind (x ∷ xs) ys y (suc i) j e = get_behind xs ys y i j (omega (arith, e))

get_seam : (xs ys : List ℕ) (y i : ℕ) → i ≡ length xs → slice_get (xs ++ y ∷ ys) i ≡ Some y
get_seam [] ys y zero e = refl
get_seam [] ys y (suc i) e = absurd (omega (arith, e))
get_seam (x ∷ xs) ys y zero e = absurd (omega (arith, e))
get_seam (x ∷ xs) ys y (suc i) e = get_seam xs ys y i (omega (arith, e))

-- ---- the tree whose root has a place

record IsAt (first : ℕ) (f : Forest) (i : ℕ) : Type 0 where
  own : ℕ
  of : Tree
  ahead : List SynNode
  behind : List SynNode
  placed : nodes first f ≡ ahead ++ (nodes own (one of) ++ behind)
  begins : own ≡ first + length ahead
  ends_here : own + size of.kids ≡ first + i
  lowest : slice_get (firsts first f) i ≡ Some own

tree_at : (first : ℕ) (f : Forest) (i : ℕ) → i < size f → IsAt first f i
tree_at first none i h = absurd (omega (arith, h))
tree_at first (tree label kids rest) i h = by (λ lt. tree_at first kids i lt) (λ j lt. tree_at (first + size kids + 1) rest j lt) (cases_lt i (size kids))
  where
    below : IsAt first kids i → IsAt first (tree label kids rest) i
    below p =
        let more = node_of label (roots first kids) ∷ nodes (first + size kids + 1) rest in
        record {
          own = p.own;
          of = p.of;
          ahead = p.ahead;
          behind = p.behind ++ more;
          placed = ap (λ ns. ns ++ more) p.placed ∙ append_assoc p.ahead (nodes p.own (one p.of) ++ p.behind) more ∙ ap (λ ns. p.ahead ++ ns) (append_assoc (nodes p.own (one p.of)) p.behind more);
          begins = p.begins;
          ends_here = p.ends_here;
          lowest = get_front (firsts first kids) (first ∷ firsts (first + size kids + 1) rest) i p.own p.lowest;
        }

    here : size kids ≡ i → IsAt first (tree label kids rest) i
    here e =
        let long = length-firsts first kids in
        record {
          own = first;
          of = record { label = label; kids = kids };
          ahead = [];
          behind = nodes (first + size kids + 1) rest;
          placed = sym (append_assoc (nodes first kids) (node_of label (roots first kids) ∷ []) (nodes (first + size kids + 1) rest));
          begins = omega arith;
          ends_here = omega (arith, e);
          lowest = get_seam (firsts first kids) (firsts (first + size kids + 1) rest) first i (omega (arith, e, long));
        }

    later : size kids < i → IsAt (first + size kids + 1) rest (i - (size kids + 1)) → IsAt first (tree label kids rest) i
    later lt p =
        let long = length-firsts first kids in
        let many = length-nodes first kids in
        let whole = length-append (nodes first kids) (node_of label (roots first kids) ∷ p.ahead) in
        let starts = p.begins in
        let stops = p.ends_here in
        record {
          own = p.own;
          of = p.of;
          ahead = nodes first kids ++ (node_of label (roots first kids) ∷ p.ahead);
          behind = p.behind;
          placed = ap (λ ns. nodes first kids ++ (node_of label (roots first kids) ∷ ns)) p.placed
              ∙ sym (append_assoc (nodes first kids) (node_of label (roots first kids) ∷ p.ahead) (nodes p.own (one p.of) ++ p.behind));
          begins = omega (arith, starts, whole, many);
          ends_here = omega (arith, stops, lt);
          lowest = get_behind (firsts first kids) (firsts (first + size kids + 1) rest) first i (i - (size kids + 1)) (omega (arith, lt, long)) ∙ p.lowest;
        }

    by : (i < size kids → IsAt first kids i) → ((j : ℕ) → j < size rest → IsAt (first + size kids + 1) rest j) → (i < size kids) ⊎ (size kids ≤ i)
        → IsAt first (tree label kids rest) i
    by in_kids in_rest (inl lt) = below (in_kids lt)
    by in_kids in_rest (inr ge) = at_or_later (eq-or-lt_of_le ge)
      where
        at_or_later : (size kids ≡ i) ⊎ (size kids < i) → IsAt first (tree label kids rest) i
        at_or_later (inl e) = here e
        at_or_later (inr lt) = later lt (in_rest (i - (size kids + 1)) (omega (arith, lt, h)))

-- ---- a node is the root of one tree

same_node : (n m : SynNode) → Some n ≡ Some m → n ≡ m
same_node n m e = cc e

parts : (table : List SynNode) (id : SynId) (ids : List SynId) (label : Label) (kids rest : Forest) → StandAll table (id ∷ ids) (tree label kids rest)
    → (n : SynNode) × (label ≡ label_of n) × (slice_get table id.number ≡ Some n) × StandAll table n.kids kids × StandAll table ids rest
parts table id ids label kids rest (and_id _ _ n _ _ e k r) = (n, refl, e, k, r)

stand_alone : (table : List SynNode) (ids : List SynId) (f g : Forest) → StandAll table ids f → StandAll table ids g → f ≡ g
stand_alone table [] f g a b = ends table f a ∙ sym (ends table g b)
stand_alone table (id ∷ ids) none g a b = elim a [ ]
stand_alone table (id ∷ ids) (tree l k r) none a b = elim b [ ]
stand_alone table (id ∷ ids) (tree l k r) (tree m j s) a b =
    let p = parts table id ids l k r a in
    let q = parts table id ids m j s b in
    let same = same_node p.0 q.0 (sym p.2 ∙ q.2) in
    let label : l ≡ m = p.1 ∙ ap label_of same ∙ sym q.1 in
    let kids : k ≡ j = stand_alone table p.0.kids k j p.3 (subst (λ (n : SynNode). StandAll table n.kids j) (sym same) q.3) in
    let rest : r ≡ s = stand_alone table ids r s p.4 q.4 in
    ap (λ (x : Label). tree x k r) label ∙ ap₂ (tree m) kids rest

-- the lowest ids of a table are those of the trees that its nodes are the roots of
pub lowest_of : (whole : Tree) (id : SynId) (t : Tree) (v : ℕ) → id.number < length (table_of whole) → StandsFor (table_of whole) id t
    → slice_get (firsts 0 (one whole)) id.number ≡ Some v → v + size (one t) ≡ id.number + 1
lowest_of whole id t v within stands got =
    let p = tree_at 0 (one whole) id.number (let long = length-nodes 0 (one whole) in omega (arith, within, long)) in
    let root : SynId = record { number = p.own + size p.of.kids } in
    let at : StandAll (table_of whole) (root ∷ []) (one p.of) = stand_within (table_of whole) p.ahead p.own (one p.of) p.behind p.placed (p.begins ∙ zero-add (length p.ahead)) in
    let same_id : root ≡ id = ap as_id (p.ends_here ∙ omega arith) in
    let same = stand_alone (table_of whole) (id ∷ []) (one p.of) (one t) (subst (λ (i : SynId). StandAll (table_of whole) (i ∷ []) (one p.of)) same_id at) stands in
    let many = ap size same in
    let value = same_number v p.own (sym got ∙ p.lowest) in
    let stops = p.ends_here in
    omega (arith, many, value, stops)
  where
    as_id : ℕ → SynId
    as_id n = record { number = n }

    same_number : (m n : ℕ) → Some m ≡ Some n → m ≡ n
    same_number m n e = cc e
