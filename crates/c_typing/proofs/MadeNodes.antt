-- Nodes by their places: kids and their parents, and how their intervals nest.
use Rattle.std.proofs.Common.{◌≡◌, ◌⊎◌, inl, inr, ℕ, zero, suc, ◌+◌, ◌<◌, ◌≤◌, List, [], ◌∷◌, ◌++◌, Some, refl, sym, ap, ◌∙◌, subst, arith}
use Rattle.std.specs.Prelude.{slice_get}
use Rattle.std.specs.List.{AllByRecursion}
use Rattle.c_syntax.specs.declared.label.Label.{Label}
use Rattle.c_syntax.specs.Trees.{Tree, Forest, none, tree, one}
use Rattle.c_syntax.specs.Tables.{size, roots}
use Rattle.c_typing.specs.Places.{Node, numbers, nodes_of}

-- ---- membership

abbrev pub In : {A : Type 0} → A → List A → Type 0
In x [] = ⊥
In x (y ∷ ys) = (y ≡ x) ⊎ In x ys

pub in_front : {A : Type 0} (x : A) (xs ys : List A) → In x xs → In x (xs ++ ys)
in_front x [] ys h = absurd h
in_front x (y ∷ xs) ys (inl e) = inl e
in_front x (y ∷ xs) ys (inr h) = inr (in_front x xs ys h)

pub in_back : {A : Type 0} (x : A) (xs ys : List A) → In x ys → In x (xs ++ ys)
in_back x [] ys h = h
in_back x (y ∷ xs) ys h = inr (in_back x xs ys h)

pub in_either : {A : Type 0} (x : A) (xs ys : List A) → In x (xs ++ ys) → In x xs ⊎ In x ys
in_either x [] ys h = inr h
in_either x (y ∷ xs) ys (inl e) = inl (inl e)
in_either x (y ∷ xs) ys (inr h) = by (in_either x xs ys h)
  where
    by : In x xs ⊎ In x ys → In x (y ∷ xs) ⊎ In x ys
    by (inl a) = inl (inr a)
    by (inr b) = inr b

pub in_at : {A : Type 0} (x : A) (xs : List A) (n : ℕ) → slice_get xs n ≡ Some x → In x xs
in_at x [] n e = absurd (cc e)
in_at x (y ∷ xs) zero e = inl (cc e)
in_at x (y ∷ xs) (suc n) e = inr (in_at x xs n e)

pub at_in : {A : Type 0} (x : A) (xs : List A) → In x xs → (n : ℕ) × (slice_get xs n ≡ Some x)
at_in x [] h = absurd h
at_in x (y ∷ xs) (inl e) = (0, ap Some e)
at_in x (y ∷ xs) (inr h) = let a = at_in x xs h in (suc a.0, a.1)

-- ---- the nodes of trees

root_bounds : (first : ℕ) (f : Forest) (k : ℕ) → In k (numbers (roots first f)) → (first ≤ k) × (k < first + size f)
root_bounds first none k h = absurd h
root_bounds first (tree label kids rest) k (inl e) = (omega (arith, e), omega (arith, e))
root_bounds first (tree label kids rest) k (inr h) = let b = root_bounds (first + size kids + 1) rest k h in
    let b0 = b.0 in
    let b1 = b.1 in
    (omega (arith, b0), omega (arith, b1))

abbrev own : ℕ → ℕ → Label → Forest → Node
own first parent label kids = record { id = first + size kids; label = label; kids = numbers (roots first kids); first = first; parent = parent }

-- a node stands among those below the first root, is that root, or stands behind it
data Where (x : Node) (first parent : ℕ) (label : Label) (kids rest : Forest) : Type 0 where
  below : In x (nodes_of first (first + size kids) kids) → Where x first parent label kids rest
  root : own first parent label kids ≡ x → Where x first parent label kids rest
  behind : In x (nodes_of (first + size kids + 1) parent rest) → Where x first parent label kids rest

place : (x : Node) (first parent : ℕ) (label : Label) (kids rest : Forest) → In x (nodes_of first parent (tree label kids rest)) → Where x first parent label kids rest
place x first parent label kids rest h = by (in_either x (nodes_of first (first + size kids) kids) (own first parent label kids ∷ nodes_of (first + size kids + 1) parent rest) h)
  where
    by : In x (nodes_of first (first + size kids) kids) ⊎ In x (own first parent label kids ∷ nodes_of (first + size kids + 1) parent rest) → Where x first parent label kids rest
    by (inl a) = below a
    by (inr (inl e)) = root e
    by (inr (inr b)) = behind b

pub record Bounds (first last : ℕ) (x : Node) : Type 0 where
  pub from : first ≤ x.first
  pub up : x.first ≤ x.id
  pub to : x.id < last

bounds : (x : Node) (first parent : ℕ) (f : Forest) → In x (nodes_of first parent f) → Bounds first (first + size f) x
bounds x first parent none h = absurd h
bounds x first parent (tree label kids rest) h = elim (place x first parent label kids rest h) [
  | below a ↦ (let b = bounds x first (first + size kids) kids a in
      let b0 = b.from in
      let b2 = b.to in
      record { from = b0; up = b.up; to = omega (arith, b2) })
  | root e ↦ subst (λ y. Bounds first (first + size (tree label kids rest)) y) e (record { from = omega arith; up = omega arith; to = omega arith })
  | behind a ↦ (let b = bounds x (first + size kids + 1) parent rest a in
      let b0 = b.from in
      let b2 = b.to in
      record { from = omega (arith, b0); up = b.up; to = omega (arith, b2) })
]

-- a kid of a node stands within it
kid_bounds : (x : Node) (first parent : ℕ) (f : Forest) (k : ℕ) → In x (nodes_of first parent f) → In k x.kids → (x.first ≤ k) × (k < x.id)
kid_bounds x first parent none k h i = absurd h
kid_bounds x first parent (tree label kids rest) k h i = elim (place x first parent label kids rest h) [
  | below a ↦ kid_bounds x first (first + size kids) kids k a i
  | root e ↦ (let j : In k (numbers (roots first kids)) = subst (λ (y : Node). In k y.kids) (sym e) i in
      subst (λ (y : Node). (y.first ≤ k) × (k < y.id)) e (root_bounds first kids k j))
  | behind a ↦ kid_bounds x (first + size kids + 1) parent rest k a i
]

-- no root stands within another node
root_apart : (x : Node) (first parent : ℕ) (f : Forest) (k : ℕ) → In x (nodes_of first parent f) → In k (numbers (roots first f)) → x.first ≤ k → k < x.id → ⊥
root_apart x first parent none k h r low high = absurd h
root_apart x first parent (tree label kids rest) k h (inl d) low high = elim (place x first parent label kids rest h) [
  | below a ↦ (let b = (bounds x first (first + size kids) kids a).to in absurd (omega (arith, b, d, high)))
  | root e ↦ (let same : first + size kids ≡ x.id = ap (λ (y : Node). y.id) e in absurd (omega (arith, same, d, high)))
  | behind a ↦ (let b = (bounds x (first + size kids + 1) parent rest a).from in absurd (omega (arith, b, d, low)))
]
root_apart x first parent (tree label kids rest) k h (inr s) low high =
    let c = (root_bounds (first + size kids + 1) rest k s).0 in
    elim (place x first parent label kids rest h) [
      | below a ↦ (let b = (bounds x first (first + size kids) kids a).to in absurd (omega (arith, b, c, high)))
      | root e ↦ (let same : first + size kids ≡ x.id = ap (λ (y : Node). y.id) e in absurd (omega (arith, same, c, high)))
      | behind a ↦ root_apart x (first + size kids + 1) parent rest k a s low high
    ]

-- a node around a kid, other than the kid, is around its parent, or is it
nest : (x n : Node) (first parent : ℕ) (f : Forest) (k : ℕ) → In x (nodes_of first parent f) → In n (nodes_of first parent f) → In k n.kids → x.first ≤ k → k < x.id → n.id ≤ x.id
nest x n first parent none k h i j low high = absurd h
nest x n first parent (tree label kids rest) k h i j low high =
    let d = kid_bounds n first parent (tree label kids rest) k i j in
    let d0 = d.0 in
    let d1 = d.1 in
    elim (place x first parent label kids rest h) [
      | below a ↦ (let c = (bounds x first (first + size kids) kids a).to in
          elim (place n first parent label kids rest i) [
            | below b ↦ nest x n first (first + size kids) kids k a b j low high
            | root e ↦ absurd (root_apart x first (first + size kids) kids k a (subst (λ (y : Node). In k y.kids) (sym e) j) low high)
            | behind b ↦ (let g = (bounds n (first + size kids + 1) parent rest b).from in absurd (omega (arith, c, d0, g, high)))
          ])
      | root e ↦ (let same : first + size kids ≡ x.id = ap (λ (y : Node). y.id) e in
          elim (place n first parent label kids rest i) [
            | below b ↦ (let c = (bounds n first (first + size kids) kids b).to in omega (arith, same, c))
            | root g ↦ (let also : first + size kids ≡ n.id = ap (λ (y : Node). y.id) g in omega (arith, same, also))
            | behind b ↦ (let g = (bounds n (first + size kids + 1) parent rest b).from in absurd (omega (arith, same, d0, g, high)))
          ])
      | behind a ↦ (let c = (bounds x (first + size kids + 1) parent rest a).from in
          elim (place n first parent label kids rest i) [
            | below b ↦ (let g = (bounds n first (first + size kids) kids b).to in absurd (omega (arith, c, d1, g, low)))
            | root e ↦ (let also : first + size kids ≡ n.id = ap (λ (y : Node). y.id) e in absurd (omega (arith, c, also, d1, low)))
            | behind b ↦ nest x n (first + size kids + 1) parent rest k a b j low high
          ])
    ]

-- two nodes do not cross
cross : (x y : Node) (first parent : ℕ) (f : Forest) → In x (nodes_of first parent f) → In y (nodes_of first parent f) → x.first ≤ y.id → y.id < x.id → x.first ≤ y.first
cross x y first parent none h i low high = absurd h
cross x y first parent (tree label kids rest) h i low high =
    elim (place x first parent label kids rest h) [
      | below a ↦ (let c = (bounds x first (first + size kids) kids a).to in
          elim (place y first parent label kids rest i) [
            | below b ↦ cross x y first (first + size kids) kids a b low high
            | root e ↦ (let also : first + size kids ≡ y.id = ap (λ (z : Node). z.id) e in absurd (omega (arith, c, also, high)))
            | behind b ↦ (let g = bounds y (first + size kids + 1) parent rest b in
                let g0 = g.from in
                let g1 = g.up in
                absurd (omega (arith, c, g0, g1, high)))
          ])
      | root e ↦ (let same : first ≡ x.first = ap (λ (z : Node). z.first) e in
          let g = (bounds y first parent (tree label kids rest) i).from in
          omega (arith, same, g))
      | behind a ↦ (let c = (bounds x (first + size kids + 1) parent rest a).from in
          elim (place y first parent label kids rest i) [
            | below b ↦ (let g = (bounds y first (first + size kids) kids b).to in absurd (omega (arith, c, g, low)))
            | root e ↦ (let also : first + size kids ≡ y.id = ap (λ (z : Node). z.id) e in absurd (omega (arith, c, also, low)))
            | behind b ↦ cross x y (first + size kids + 1) parent rest a b low high
          ])
    ]

-- ---- kids

pub record IsKid (all : List Node) (parent first k : ℕ) : Type 0 where
  pub node : Node
  pub among : In node all
  pub numbered : node.id ≡ k
  pub below : node.parent ≡ parent
  pub from : first ≤ node.first

roots_there : (first parent : ℕ) (f : Forest) (k : ℕ) → In k (numbers (roots first f)) → IsKid (nodes_of first parent f) parent first k
roots_there first parent none k h = absurd h
roots_there first parent (tree label kids rest) k (inl e) =
    record { node = own first parent label kids; among = in_back (own first parent label kids) (nodes_of first (first + size kids) kids) (own first parent label kids ∷ nodes_of (first + size kids + 1) parent rest) (inl refl); numbered = e; below = refl; from = omega arith }
roots_there first parent (tree label kids rest) k (inr h) =
    let r = roots_there (first + size kids + 1) parent rest k h in
    let low = r.from in
    record { node = r.node; among = in_back r.node (nodes_of first (first + size kids) kids) (own first parent label kids ∷ nodes_of (first + size kids + 1) parent rest) (inr r.among); numbered = r.numbered; below = r.below; from = omega (arith, low) }

wider : (n : Node) (first parent : ℕ) (label : Label) (kids rest : Forest) (k : ℕ) → IsKid (nodes_of first (first + size kids) kids) n.id n.first k → IsKid (nodes_of first parent (tree label kids rest)) n.id n.first k
wider n first parent label kids rest k r = record { node = r.node; among = in_front r.node (nodes_of first (first + size kids) kids) (own first parent label kids ∷ nodes_of (first + size kids + 1) parent rest) r.among; numbered = r.numbered; below = r.below; from = r.from }

kid_there : (n : Node) (first parent : ℕ) (f : Forest) (k : ℕ) → In n (nodes_of first parent f) → In k n.kids → IsKid (nodes_of first parent f) n.id n.first k
kid_there n first parent none k h i = absurd h
kid_there n first parent (tree label kids rest) k h i = elim (place n first parent label kids rest h) [
  | below a ↦ wider n first parent label kids rest k (kid_there n first (first + size kids) kids k a i)
  | root e ↦ (let j : In k (numbers (roots first kids)) = subst (λ (y : Node). In k y.kids) (sym e) i in
      wider n first parent label kids rest k (subst (λ (y : Node). IsKid (nodes_of first (first + size kids) kids) y.id y.first k) e (roots_there first (first + size kids) kids k j)))
  | behind a ↦ (let r = kid_there n (first + size kids + 1) parent rest k a i in
      record { node = r.node; among = in_back r.node (nodes_of first (first + size kids) kids) (own first parent label kids ∷ nodes_of (first + size kids + 1) parent rest) (inr r.among); numbered = r.numbered; below = r.below; from = r.from })
]

-- kids stand in order
abbrev pub Ascends : List ℕ → Type 0
Ascends [] = Unit {0}
Ascends (k ∷ ks) = AllByRecursion (λ i. k < i) ks × Ascends ks

roots_above : (low first : ℕ) (f : Forest) → low < first → AllByRecursion (λ i. low < i) (numbers (roots first f))
roots_above low first none lt = tt
roots_above low first (tree label kids rest) lt = (omega (arith, lt), roots_above low (first + size kids + 1) rest (omega (arith, lt)))

roots_ascend : (first : ℕ) (f : Forest) → Ascends (numbers (roots first f))
roots_ascend first none = tt
roots_ascend first (tree label kids rest) = (roots_above (first + size kids) (first + size kids + 1) rest (omega arith), roots_ascend (first + size kids + 1) rest)

kids_ascend : (n : Node) (first parent : ℕ) (f : Forest) → In n (nodes_of first parent f) → Ascends n.kids
kids_ascend n first parent none h = absurd h
kids_ascend n first parent (tree label kids rest) h = elim (place n first parent label kids rest h) [
  | below a ↦ kids_ascend n first (first + size kids) kids a
  | root e ↦ subst (λ (y : Node). Ascends y.kids) e (roots_ascend first kids)
  | behind a ↦ kids_ascend n (first + size kids + 1) parent rest a
]

-- a node without kids, and the first kid of another
no_roots : (first : ℕ) (f : Forest) → numbers (roots first f) ≡ [] → size f ≡ 0
no_roots first none e = refl
no_roots first (tree label kids rest) e = absurd (cc e)

leaf : (n : Node) (first parent : ℕ) (f : Forest) → In n (nodes_of first parent f) → n.kids ≡ [] → n.first ≡ n.id
leaf n first parent none h e = absurd h
leaf n first parent (tree label kids rest) h e = elim (place n first parent label kids rest h) [
  | below a ↦ leaf n first (first + size kids) kids a e
  | root g ↦ (let same : first ≡ n.first = ap (λ (y : Node). y.first) g in
      let id : first + size kids ≡ n.id = ap (λ (y : Node). y.id) g in
      let none_below : size kids ≡ 0 = no_roots first kids (ap (λ (y : Node). y.kids) g ∙ e) in
      omega (arith, same, id, none_below))
  | behind a ↦ leaf n (first + size kids + 1) parent rest a e
]

begin_there : (first parent : ℕ) (f : Forest) (k : ℕ) (ks : List ℕ) → numbers (roots first f) ≡ k ∷ ks → (m : Node) × In m (nodes_of first parent f) × (m.id ≡ k) × (m.first ≡ first)
begin_there first parent none k ks e = absurd (cc e)
begin_there first parent (tree label kids rest) k ks e =
    let same : first + size kids ≡ k = cc e in
    (own first parent label kids, in_back (own first parent label kids) (nodes_of first (first + size kids) kids) (own first parent label kids ∷ nodes_of (first + size kids + 1) parent rest) (inl refl), same, refl)

first_there : (n : Node) (first parent : ℕ) (f : Forest) (k : ℕ) (ks : List ℕ) → In n (nodes_of first parent f) → n.kids ≡ k ∷ ks → (m : Node) × In m (nodes_of first parent f) × (m.id ≡ k) × (m.first ≡ n.first)
first_there n first parent none k ks h e = absurd h
first_there n first parent (tree label kids rest) k ks h e = elim (place n first parent label kids rest h) [
  | below a ↦ (let r = first_there n first (first + size kids) kids k ks a e in (r.0, in_front r.0 (nodes_of first (first + size kids) kids) (own first parent label kids ∷ nodes_of (first + size kids + 1) parent rest) r.1, r.2, r.3))
  | root g ↦ (let r = begin_there first (first + size kids) kids k ks (ap (λ (y : Node). y.kids) g ∙ e) in
      (r.0, in_front r.0 (nodes_of first (first + size kids) kids) (own first parent label kids ∷ nodes_of (first + size kids + 1) parent rest) r.1, r.2, r.3 ∙ ap (λ (y : Node). y.first) g))
  | behind a ↦ (let r = first_there n (first + size kids + 1) parent rest k ks a e in
      (r.0, in_back r.0 (nodes_of first (first + size kids) kids) (own first parent label kids ∷ nodes_of (first + size kids + 1) parent rest) (inr r.1), r.2, r.3))
]

-- ---- those of a tree

module _ (t : Tree) where
  abbrev all : List Node
  all = nodes_of 0 (size (one t)) (one t)

  pub node_bounds : (x : Node) → In x all → x.first ≤ x.id
  node_bounds x h = (bounds x 0 (size (one t)) (one t) h).up

  pub kid_within : (x : Node) (k : ℕ) → In x all → In k x.kids → (x.first ≤ k) × (k < x.id)
  kid_within x k h i = kid_bounds x 0 (size (one t)) (one t) k h i

  pub nested : (x n : Node) (k : ℕ) → In x all → In n all → In k n.kids → x.first ≤ k → k < x.id → n.id ≤ x.id
  nested x n k h i j low high = nest x n 0 (size (one t)) (one t) k h i j low high

  pub kid_of : (n : Node) (k : ℕ) → In n all → In k n.kids → IsKid all n.id n.first k
  kid_of n k h i = kid_there n 0 (size (one t)) (one t) k h i

  pub ascending : (n : Node) → In n all → Ascends n.kids
  ascending n h = kids_ascend n 0 (size (one t)) (one t) h

  pub node_below : (x : Node) → In x all → x.id < size (one t)
  node_below x h = let b = (bounds x 0 (size (one t)) (one t) h).to in omega (arith, b)

  unfoldable pub root_node : Node
  root_node = own 0 (size (one t)) t.label t.kids

  pub root_among : In root_node all
  unfolding root_node
  root_among = in_back root_node (nodes_of 0 (0 + size t.kids) t.kids) (root_node ∷ []) (inl refl)

  pub root_label : root_node.label ≡ t.label
  unfolding root_node
  root_label = refl

  pub root_first : root_node.first ≡ 0
  unfolding root_node
  root_first = refl

  pub root_last : root_node.id ≡ size t.kids
  unfolding root_node
  root_last = omega arith

  pub crossed : (x y : Node) → In x all → In y all → x.first ≤ y.id → y.id < x.id → x.first ≤ y.first
  crossed x y h i low high = cross x y 0 (size (one t)) (one t) h i low high

  pub leaf_first : (n : Node) → In n all → n.kids ≡ [] → n.first ≡ n.id
  leaf_first n h e = leaf n 0 (size (one t)) (one t) h e

  pub first_kid : (n : Node) (k : ℕ) (ks : List ℕ) → In n all → n.kids ≡ k ∷ ks → (m : Node) × In m all × (m.id ≡ k) × (m.first ≡ n.first)
  first_kid n k ks h e = first_there n 0 (size (one t)) (one t) k ks h e
