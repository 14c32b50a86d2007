-- The order of the first tokens: where each node stands in it.
use Rattle.std.proofs.Common.{◌≡◌, ◌⊎◌, inl, inr, ℕ, zero, suc, ◌+◌, ◌<◌, ◌≤◌, true, false, List, [], ◌∷◌, ◌++◌, Some, length, get_or, unwrap_or, refl, sym, ap, ap₂, ◌∙◌, subst, arith, length-append}
use Rattle.std.specs.Prelude.{if◌then◌else◌, nat_eq, nat_lt, slice_get, slice_set}
use Rattle.std.proofs.lemmas.Bool.Decides.{eqb_tells}
use Rattle.std.proofs.lemmas.Option.{slice_get_within}
use Rattle.std.proofs.lemmas.List.{get_or-set_same, get_or-set_other, length-set}
use Rattle.c_syntax.specs.declared.label.Label.{Label}
use Rattle.c_syntax.specs.declared.syntax.SynNode.{SynNode}
use Rattle.c_syntax.specs.Trees.{Forest, none, tree, one}
use Rattle.c_syntax.specs.Tables.{size, roots}
use Rattle.c_typing.specs.Places.{Node, numbers, nodes_of, node_at, nowhere, by_first_token}
use Rattle.c_typing.proofs.MadeNodes.{In, in_front, in_back, in_either, at_in, in_at}
use Rattle.c_nodes.specs.Parents.{AreNumbered, tree_in, nodes_in}
use Rattle.c_tags.specs.Order.{order_in, depth_below, IsDeep, AreDepths}

-- ---- two lists, one behind the other

at_front : (xs ys : List ℕ) (i : ℕ) → i < length xs → get_or (xs ++ ys) i 0 ≡ get_or xs i 0
at_front [] ys i h = absurd (omega (arith, h))
at_front (x ∷ xs) ys zero h = refl
at_front (x ∷ xs) ys (suc i) h = at_front xs ys i (omega (arith, h))

at_back : (xs ys : List ℕ) (i j : ℕ) → i ≡ length xs + j → get_or (xs ++ ys) i 0 ≡ get_or ys j 0
at_back [] ys i j e = ap (λ k. get_or ys k 0) (omega (arith, e))
at_back (x ∷ xs) ys zero j e = absurd (omega (arith, e))
at_back (x ∷ xs) ys (suc i) j e = at_back xs ys i j (omega (arith, e))

pub length-order : (first : ℕ) (f : Forest) → length (by_first_token first f) ≡ size f
length-order first none = refl
length-order first (tree label kids rest) =
    let below = length-order first kids in
    let more = length-order (first + size kids + 1) rest in
    let whole = length-append (by_first_token first kids) (by_first_token (first + size kids + 1) rest) in
    omega (arith, below, more, whole)

-- ---- the item at a place: the first root, or one below it, or one behind it

abbrev item : ℕ → Forest → ℕ → ℕ
item first f i = get_or (by_first_token first f) i 0

data Case (first : ℕ) (label : Label) (kids rest : Forest) (i : ℕ) : Type 0 where
  root : i ≡ 0 → item first (tree label kids rest) i ≡ first + size kids → Case first label kids rest i
  below : (j : ℕ) → i ≡ j + 1 → j < size kids → item first (tree label kids rest) i ≡ item first kids j → Case first label kids rest i
  behind : (j : ℕ) → i ≡ size kids + 1 + j → j < size rest → item first (tree label kids rest) i ≡ item (first + size kids + 1) rest j → Case first label kids rest i

lt_or : (a b : ℕ) → (a < b) ⊎ (b ≤ a)
lt_or a b = grind arith

place : (first : ℕ) (label : Label) (kids rest : Forest) (i : ℕ) → i < size (tree label kids rest) → Case first label kids rest i
place first label kids rest zero h = root refl refl
place first label kids rest (suc j) h = by (lt_or j (size kids))
  where
    long : length (by_first_token first kids) ≡ size kids
    long = length-order first kids

    by : (j < size kids) ⊎ (size kids ≤ j) → Case first label kids rest (suc j)
    by (inl less) = below j (omega arith) less (at_front (by_first_token first kids) (by_first_token (first + size kids + 1) rest) j (omega (arith, less, long)))
    by (inr most) =
        let k = difference j (size kids) most in
        let same = k.1 in
        behind k.0 (omega (arith, same)) (omega (arith, h, same)) (at_back (by_first_token first kids) (by_first_token (first + size kids + 1) rest) j k.0 (omega (arith, long, same)))
      where
        difference : (a b : ℕ) → b ≤ a → (k : ℕ) × (a ≡ b + k)
        difference a zero h = (a, omega arith)
        difference zero (suc b) h = absurd (omega (arith, h))
        difference (suc a) (suc b) h = let k = difference a b (omega (arith, h)) in let e = k.1 in (k.0, omega (arith, e))

-- each item is a node of the trees
pub bounded : (first : ℕ) (f : Forest) (i : ℕ) → i < size f → (first ≤ item first f i) × (item first f i < first + size f)
bounded first none i h = absurd (omega (arith, h))
bounded first (tree label kids rest) i h = elim (place first label kids rest i h) [
  | root e is ↦ (omega (arith, is), omega (arith, is))
  | below j e low is ↦ (let b = bounded first kids j low in let b0 = b.0 in let b1 = b.1 in (omega (arith, is, b0), omega (arith, is, b1)))
  | behind j e low is ↦ (let b = bounded (first + size kids + 1) rest j low in let b0 = b.0 in let b1 = b.1 in (omega (arith, is, b0), omega (arith, is, b1)))
]

-- no node stands there twice
pub once : (first : ℕ) (f : Forest) (i j : ℕ) → i < j → j < size f → item first f i ≡ item first f j → ⊥
once first none i j l h same = absurd (omega (arith, h))
once first (tree label kids rest) i j l h same = elim (place first label kids rest i (omega (arith, l, h))) [
  | root e is ↦ elim (place first label kids rest j h) [
    | root g also ↦ absurd (omega (arith, l, e, g))
    | below b g low also ↦ (let q = (bounded first kids b low).1 in absurd (omega (arith, is, also, same, q)))
    | behind b g low also ↦ (let q = (bounded (first + size kids + 1) rest b low).0 in absurd (omega (arith, is, also, same, q)))
  ]
  | below a e up is ↦ elim (place first label kids rest j h) [
    | root g also ↦ absurd (omega (arith, l, e, g))
    | below b g low also ↦ once first kids a b (omega (arith, l, e, g)) low (sym is ∙ (same ∙ also))
    | behind b g low also ↦ (let p = (bounded first kids a up).1 in let q = (bounded (first + size kids + 1) rest b low).0 in absurd (omega (arith, is, also, same, p, q)))
  ]
  | behind a e up is ↦ elim (place first label kids rest j h) [
    | root g also ↦ absurd (omega (arith, l, e, g))
    | below b g low also ↦ absurd (omega (arith, l, e, g, low))
    | behind b g low also ↦ once (first + size kids + 1) rest a b (omega (arith, l, e, g)) low (sym is ∙ (same ∙ also))
  ]
]

-- and each node stands there
abbrev Stands : ℕ → Forest → ℕ → Type 0
Stands first f m = (i : ℕ) × (i < size f) × (item first f i ≡ m)

pub somewhere : (first : ℕ) (f : Forest) (m : ℕ) → first ≤ m → m < first + size f → Stands first f m
somewhere first none m low high = absurd (omega (arith, low, high))
somewhere first (tree label kids rest) m low high =
    by (lt_or m (first + size kids)) (λ less. somewhere first kids m low less) (λ more. somewhere (first + size kids + 1) rest m (omega (arith, more)) (omega (arith, high)))
  where
    id : ℕ
    id = first + size kids

    long : length (by_first_token first kids) ≡ size kids
    long = length-order first kids

    by : (m < id) ⊎ (id ≤ m) → (m < id → Stands first kids m) → (id < m → Stands (id + 1) rest m) → Stands first (tree label kids rest) m
    by (inl less) in_kids in_rest =
        let s = in_kids less in
        let within = s.1 in
        (suc s.0, omega (arith, within), at_front (by_first_token first kids) (by_first_token (first + size kids + 1) rest) s.0 (omega (arith, within, long)) ∙ s.2)
    by (inr most) in_kids in_rest = at (lt_or id m)
      where
        at : (id < m) ⊎ (m ≤ id) → Stands first (tree label kids rest) m
        at (inr same) = (0, omega arith, omega (arith, most, same))
        at (inl more) =
            let s = in_rest more in
            let within = s.1 in
            (suc (size kids + s.0), omega (arith, within), at_back (by_first_token first kids) (by_first_token (first + size kids + 1) rest) (size kids + s.0) s.0 (omega (arith, long)) ∙ s.2)

-- ---- nodes

abbrev own : ℕ → ℕ → Label → Forest → Node
own first parent label kids = record { id = first + size kids; label = label; kids = numbers (roots first kids); first = first; parent = parent }

length-nodes : (first parent : ℕ) (f : Forest) → length (nodes_of first parent f) ≡ size f
length-nodes first parent none = refl
length-nodes first parent (tree label kids rest) =
    let below = length-nodes first (first + size kids) kids in
    let more = length-nodes (first + size kids + 1) parent rest in
    let whole = length-append (nodes_of first (first + size kids) kids) (own first parent label kids ∷ nodes_of (first + size kids + 1) parent rest) in
    omega (arith, below, more, whole)

-- a node stands before its parent
higher : (x : Node) (first parent : ℕ) (f : Forest) → first + size f ≤ parent → In x (nodes_of first parent f) → x.id < x.parent
higher x first parent none low h = absurd h
higher x first parent (tree label kids rest) low h =
    by (in_either x (nodes_of first (first + size kids) kids) (own first parent label kids ∷ nodes_of (first + size kids + 1) parent rest) h)
    (λ i. higher x first (first + size kids) kids (omega arith) i) (λ i. higher x (first + size kids + 1) parent rest (omega (arith, low)) i)
  where
    by : In x (nodes_of first (first + size kids) kids) ⊎ In x (own first parent label kids ∷ nodes_of (first + size kids + 1) parent rest)
        → (In x (nodes_of first (first + size kids) kids) → x.id < x.parent) → (In x (nodes_of (first + size kids + 1) parent rest) → x.id < x.parent) → x.id < x.parent
    by (inl i) in_kids in_rest = in_kids i
    by (inr (inl e)) in_kids in_rest = subst (λ (y : Node). y.id < y.parent) e (omega (arith, low))
    by (inr (inr i)) in_kids in_rest = in_rest i

module _ (s : List Node) (numbered : AreNumbered s) where
  pub there : (x : Node) → In x s → (node_at s x.id ≡ x) × (x.id < length s)
  there x h =
      let p = at_in x s h in
      let within = slice_get_within s p.0 x p.1 in
      let at : node_at s p.0 ≡ x = ap (λ o. unwrap_or o nowhere) p.1 in
      let same : x.id ≡ p.0 = ap (λ (y : Node). y.id) (sym at) ∙ numbered p.0 within in
      (ap (node_at s) same ∙ at, subst (λ n. n < length s) (sym same) within)

  -- the nodes of these trees are nodes of the list
  abbrev Known : ℕ → ℕ → Forest → Type 0
  Known first parent f = (x : Node) → In x (nodes_of first parent f) → In x s

  module _ (first parent : ℕ) (label : Label) (kids rest : Forest) (k : Known first parent (tree label kids rest)) where
    known_root : In (own first parent label kids) s
    known_root = k (own first parent label kids) (in_back (own first parent label kids) (nodes_of first (first + size kids) kids) (own first parent label kids ∷ nodes_of (first + size kids + 1) parent rest) (inl refl))

    known_kids : Known first (first + size kids) kids
    known_kids x h = k x (in_front x (nodes_of first (first + size kids) kids) (own first parent label kids ∷ nodes_of (first + size kids + 1) parent rest) h)

    known_rest : Known (first + size kids + 1) parent rest
    known_rest x h = k x (in_back x (nodes_of first (first + size kids) kids) (own first parent label kids ∷ nodes_of (first + size kids + 1) parent rest) (inr h))

    first_root : (node_at s (first + size kids)).first ≡ first
    first_root = ap (λ (y : Node). y.first) (there (own first parent label kids) known_root).0

  abbrev begin : ℕ → ℕ
  begin n = (node_at s n).first

  -- what comes at a place or later does not stand before the first node there
  later_above : (first parent : ℕ) (f : Forest) → Known first parent f → (i j : ℕ) → i ≤ j → j < size f → begin (item first f i) ≤ item first f j
  later_above first parent none k i j l h = absurd (omega (arith, h))
  later_above first parent (tree label kids rest) k i j l h = elim (place first label kids rest i (omega (arith, l, h))) [
    | root e is ↦ (
        let at : begin (item first (tree label kids rest) i) ≡ first = ap begin is ∙ first_root first parent label kids rest k in
        let low = (bounded first (tree label kids rest) j h).0 in
        omega (arith, at, low))
    | below a e up is ↦ elim (place first label kids rest j h) [
      | root g also ↦ absurd (omega (arith, l, e, g))
      | below b g low also ↦ (
          let more = later_above first (first + size kids) kids (known_kids first parent label kids rest k) a b (omega (arith, l, e, g)) low in
          let at : begin (item first (tree label kids rest) i) ≡ begin (item first kids a) = ap begin is in
          omega (arith, more, at, also))
      | behind b g low also ↦ (
          let more = later_above first (first + size kids) kids (known_kids first parent label kids rest k) a a (omega arith) up in
          let at : begin (item first (tree label kids rest) i) ≡ begin (item first kids a) = ap begin is in
          let p = (bounded first kids a up).1 in
          let q = (bounded (first + size kids + 1) rest b low).0 in
          omega (arith, more, at, also, p, q))
    ]
    | behind a e up is ↦ elim (place first label kids rest j h) [
      | root g also ↦ absurd (omega (arith, l, e, g))
      | below b g low also ↦ absurd (omega (arith, l, e, g, low))
      | behind b g low also ↦ (
          let more = later_above (first + size kids + 1) parent rest (known_rest first parent label kids rest k) a b (omega (arith, l, e, g)) low in
          let at : begin (item first (tree label kids rest) i) ≡ begin (item (first + size kids + 1) rest a) = ap begin is in
          omega (arith, more, at, also))
    ]
  ]

  -- ---- where a node stands, by its depth

  module _ (depths : List ℕ) (deep : AreDepths s depths) where
    abbrev spot : ℕ → ℕ
    spot n = begin n + get_or depths n 0

    below_more : (n : ℕ) → n < length s → depth_below depths n ≡ get_or depths n 0 + 1
    below_more n within = ap (λ b. if b then get_or depths n 0 + 1 else 0) (so_less n (length depths) (let long = deep.long in omega (arith, within, long)))
      where
        so_less : (a b : ℕ) → a < b → nat_lt a b ≡ true
        so_less a b h = grind arith

    placed : (first parent : ℕ) (f : Forest) → Known first parent f → (i : ℕ) → i < size f → spot (item first f i) ≡ first + depth_below depths parent + i
    placed first parent none k i h = absurd (omega (arith, h))
    placed first parent (tree label kids rest) k i h =
        let r = there (own first parent label kids) (known_root first parent label kids rest k) in
        let at = first_root first parent label kids rest k in
        let own_depth : get_or depths (first + size kids) 0 ≡ depth_below depths parent = (deep.are (first + size kids) r.1).0 ∙ ap (λ (y : Node). depth_below depths y.parent) r.0 in
        elim (place first label kids rest i h) [
          | root e is ↦ (let same : spot (item first (tree label kids rest) i) ≡ spot (first + size kids) = ap spot is in omega (arith, same, at, own_depth, e))
          | below j e low is ↦ (
              let same : spot (item first (tree label kids rest) i) ≡ spot (item first kids j) = ap spot is in
              let more = placed first (first + size kids) kids (known_kids first parent label kids rest k) j low in
              let one_more = below_more (first + size kids) r.1 in
              omega (arith, same, more, one_more, own_depth, e))
          | behind j e low is ↦ (
              let same : spot (item first (tree label kids rest) i) ≡ spot (item (first + size kids + 1) rest j) = ap spot is in
              let more = placed (first + size kids + 1) parent rest (known_rest first parent label kids rest k) j low in
              omega (arith, same, more, e))
        ]

-- ---- of a table

so_less : (a b : ℕ) → a < b → nat_lt a b ≡ true
so_less a b h = grind arith

lists_same : (xs ys : List ℕ) → length xs ≡ length ys → ((i : ℕ) → i < length ys → get_or xs i 0 ≡ get_or ys i 0) → xs ≡ ys
lists_same [] [] l h = refl
lists_same [] (y ∷ ys) l h = absurd (omega (arith, l))
lists_same (x ∷ xs) [] l h = absurd (omega (arith, l))
lists_same (x ∷ xs) (y ∷ ys) l h = ap₂ (λ z zs. z ∷ zs) (h 0 (omega arith)) (lists_same xs ys (omega (arith, l)) (λ i low. h (suc i) (omega (arith, low))))

module _ (table : List SynNode) (long : length (nodes_in table) ≡ length table) (numbered : AreNumbered (nodes_in table)) where
  abbrev all : Forest
  all = one (tree_in table)

  known : Known (nodes_in table) numbered 0 (size all) all
  unfolding nodes_in
  known x h = h

  pub sized : size all ≡ length table
  unfolding nodes_in
  sized = sym (length-nodes 0 (size all) all) ∙ long

  pub order_long : length (order_in table) ≡ length table
  unfolding order_in
  order_long = length-order 0 all ∙ sized

  pub order_within : (i : ℕ) → i < length table → get_or (order_in table) i 0 < length table
  unfolding order_in
  order_within i within = let b = (bounded 0 all i (subst (λ n. i < n) (sym sized) within)).1 in let is = sized in omega (arith, b, is)

  pub order_once : (i j : ℕ) → i < j → j < length table → get_or (order_in table) i 0 ≡ get_or (order_in table) j 0 → ⊥
  unfolding order_in
  order_once i j less within = once 0 all i j less (subst (λ n. j < n) (sym sized) within)

  -- what comes at a place or later does not stand before the first node there
  pub order_later : (i j : ℕ) → i ≤ j → j < length table → (node_at (nodes_in table) (get_or (order_in table) i 0)).first ≤ get_or (order_in table) j 0
  unfolding order_in
  order_later i j less within = later_above (nodes_in table) numbered 0 (size all) all known i j less (subst (λ n. j < n) (sym sized) within)

  order_at : (m : ℕ) → m < length table → (i : ℕ) × (i < length table) × (get_or (order_in table) i 0 ≡ m)
  unfolding order_in
  order_at m within = let s = somewhere 0 all m (omega arith) (let is = sized in omega (arith, within, is)) in (s.0, subst (λ n. s.0 < n) sized s.1, s.2)

  pub above_parent : (n : ℕ) → n < length table → n < (node_at (nodes_in table) n).parent
  unfolding nodes_in
  above_parent n within =
      let within_nodes : n < length (nodes_in table) = subst (λ k. n < k) (sym long) within in
      let h = higher (node_at (nodes_in table) n) 0 (size all) all (omega arith) (in_at (node_at (nodes_in table) n) (nodes_in table) n (at (nodes_in table) n within_nodes)) in
      subst (λ k. k < (node_at (nodes_in table) n).parent) (numbered n within_nodes) h
    where
      at : (s : List Node) (i : ℕ) → i < length s → slice_get s i ≡ Some (node_at s i)
      at [] i h = absurd (omega (arith, h))
      at (m ∷ s) zero h = refl
      at (m ∷ s) (suc i) h = at s i (omega (arith, h))

  -- ---- depths, from the last node on

  pub deep_more : (depths : List ℕ) (k : ℕ) → length depths ≡ length table → k < length table → ((n : ℕ) → k + 1 ≤ n → n < length table → IsDeep (nodes_in table) depths n)
      → (n : ℕ) → k ≤ n → n < length table → IsDeep (nodes_in table) (slice_set depths k (depth_below depths (node_at (nodes_in table) k).parent)) n
  deep_more depths k many within deep n low high = by (lt_or k n)
    where
      s : List Node
      s = nodes_in table

      v : ℕ
      v = depth_below depths (node_at s k).parent

      new : List ℕ
      new = slice_set depths k v

      room : k < length depths
      room = omega (arith, many, within)

      new_long : length new ≡ length depths
      new_long = length-set depths k v

      kept : (p : ℕ) → k < p → depth_below new p ≡ depth_below depths p
      kept p less = ap₂ (λ l d. if nat_lt p l then d + 1 else 0) new_long (get_or-set_other depths k p v 0 (λ e. absurd (omega (arith, less, e))))

      small : v + k < length depths
      small = at (lt_or (node_at s k).parent (length depths))
        where
          at : ((node_at s k).parent < length depths) ⊎ (length depths ≤ (node_at s k).parent) → v + k < length depths
          at (inl less) =
              let up = above_parent k within in
              let d = (deep (node_at s k).parent (omega (arith, up)) (omega (arith, less, many))).1 in
              let is : v ≡ get_or depths (node_at s k).parent 0 + 1 = ap (λ b. if b then get_or depths (node_at s k).parent 0 + 1 else 0) (so_less (node_at s k).parent (length depths) less) in
              omega (arith, up, d, is)
          at (inr most) =
              let is : v ≡ 0 = ap (λ b. if b then get_or depths (node_at s k).parent 0 + 1 else 0) (not_less (node_at s k).parent (length depths) most) in
              omega (arith, is, room)
            where
              not_less : (a b : ℕ) → b ≤ a → nat_lt a b ≡ false
              not_less a b h = grind arith

      by : (k < n) ⊎ (n ≤ k) → IsDeep s new n
      by (inl more) =
          let d = deep n (omega (arith, more)) high in
          let up = above_parent n high in
          let same = get_or-set_other depths k n v 0 (λ e. absurd (omega (arith, more, e))) in
          let d1 = d.1 in
          let l = new_long in
          (same ∙ (d.0 ∙ sym (kept (node_at s n).parent (omega (arith, more, up)))), omega (arith, same, d1, l))
      by (inr most) =
          let one : n ≡ k = omega (arith, low, most) in
          let same = get_or-set_same depths k v 0 room in
          let l = new_long in
          let c = small in
          subst (IsDeep s new) (sym one) (same ∙ sym (kept (node_at s k).parent (above_parent k within)), omega (arith, same, l, c))

  -- ---- places, from the first node on

  abbrev pub Filled : List ℕ → ℕ → Type 0
  Filled order n = (i : ℕ) → i < length table → get_or (order_in table) i 0 < n → get_or order i 0 ≡ get_or (order_in table) i 0

  module _ (depths : List ℕ) (deep : AreDepths (nodes_in table) depths) where
    spot_is : (i : ℕ) → i < length table → spot (nodes_in table) numbered depths deep (get_or (order_in table) i 0) ≡ i
    unfolding order_in
    spot_is i within =
        let p = placed (nodes_in table) numbered depths deep 0 (size all) all known i (subst (λ n. i < n) (sym sized) within) in
        let none : depth_below depths (size all) ≡ 0 = ap (λ b. if b then get_or depths (size all) 0 + 1 else 0) (not_less (size all) (length depths) (let l = deep.long in let is = sized in let also = long in omega (arith, l, is, also))) in
        omega (arith, p, none)
      where
        not_less : (a b : ℕ) → b ≤ a → nat_lt a b ≡ false
        not_less a b h = grind arith

    pub filled_more : (order : List ℕ) (n place : ℕ) → length order ≡ length table → n < length table → place ≡ (node_at (nodes_in table) n).first + get_or depths n 0 → Filled order n → Filled (slice_set order place n) (n + 1)
    filled_more order n place many within is filled i low less = by (eqb_tells i place)
      where
        here : (j : ℕ) → j < length table → get_or (order_in table) j 0 ≡ n → j ≡ place
        here j inside e = sym (spot_is j inside) ∙ (ap (spot (nodes_in table) numbered depths deep) e ∙ sym is)

        by : ((nat_eq i place ≡ true) × (i ≡ place)) ⊎ ((nat_eq i place ≡ false) × (i ≡ place → ⊥)) → get_or (slice_set order place n) i 0 ≡ get_or (order_in table) i 0
        by (inl (e, same)) =
            let at = order_at n within in
            let one : at.0 ≡ place = here at.0 at.1 at.2 in
            ap (λ k. get_or (slice_set order place n) k 0) same
            ∙ (get_or-set_same order place n 0 (let low2 = at.1 in omega (arith, many, one, low2))
            ∙ (sym at.2 ∙ ap (λ k. get_or (order_in table) k 0) (one ∙ sym same)))
        by (inr (e, other)) = get_or-set_other order place i n 0 other ∙ filled i low (apart (get_or (order_in table) i 0) n less (λ g. other (here i low g)))
          where
            apart : (a b : ℕ) → a < b + 1 → (a ≡ b → ⊥) → a < b
            apart a b h g = grind arith

  pub all_filled : (order : List ℕ) (n : ℕ) → length order ≡ length table → length table ≤ n → Filled order n → order ≡ order_in table
  all_filled order n many most filled =
      lists_same order (order_in table) (many ∙ sym order_long)
      (λ i low. let inside : i < length table = subst (λ k. i < k) order_long low in let h = order_within i inside in filled i inside (omega (arith, h, most)))
