-- What the table of parents tells of a node.
use Rattle.std.proofs.Common.{◌≡◌, ℕ, zero, suc, ◌+◌, ◌-◌, ◌<◌, ◌≤◌, ◌⊎◌, inl, inr, List, [], ◌∷◌, ◌++◌, length, get_or, drop, map, replicate, true, false, refl, sym, ap, ap₂, ◌∙◌, subst, arith, append_assoc, append-nil, length-append, Some}
use Rattle.std.specs.Prelude.{slice_get, unwrap_or, position, nat_lt, ◌==◌}
use Rattle.std.specs.Option.{is_some}
use Rattle.std.proofs.lemmas.Option.{slice_get-get_or}
use Rattle.std.specs.List.{AllByRecursion, position_or_len}
use Rattle.std.proofs.lemmas.List.Sums.{position_or_len_is}
use Rattle.std.proofs.Math.Seq.{drop-cons}
use Rattle.std.proofs.lemmas.Bool.{cases_lt}
use Rattle.std.proofs.lemmas.Grind.{common_steps}
use Rattle.std.proofs.Math.Nat.{eq-or-lt_of_le}
use Rattle.c_syntax.specs.declared.label.Label.{Label}
use Rattle.c_syntax.specs.declared.syntax.SynNode.{SynNode}
use Rattle.c_syntax.specs.Trees.{Tree, Forest, none, tree, one, plain_node}
use Rattle.c_syntax.specs.declared.kind.SynKind.TheVariants as kind
use Rattle.c_syntax.proofs.TableLaws.{tree_of-table_of}
use Rattle.c_syntax.specs.Tables as tables
use Rattle.c_syntax.specs.Tables.{size, roots, node_of, table_of, StandsFor, IsInOrder}
use Rattle.c_syntax.specs.declared.syntax.SynId.{SynId}
use Rattle.c_syntax.proofs.TextLaws.{stand_within, kids_below}
use Rattle.c_syntax.proofs.TreeLaws.{length-nodes as tree_size}
use Rattle.c_typing.specs.Places.{Node, numbers, nodes_of, nodes, nowhere, node_at, parent_of, index_in}
use Rattle.c_typing.specs.ShapesOfNodes.{as_id, in_table}
use Rattle.c_typing.proofs.ShapesNodes.{nodes_in_table}
use Rattle.c_nodes.specs.declared.nodes.Parent.{Parent}
use Rattle.c_nodes.specs.Parents.{IsKept, IsWithin, tree_in, nodes_in, kid_of, parents_from, parents_in, all_adopted}
use Rattle.c_nodes.proofs.ParentLaws.{length-parents, all_parents}

length-nodes : (first parent : ℕ) (f : Forest) → length (nodes_of first parent f) ≡ size f
length-nodes first parent none = refl
length-nodes first parent (tree label kids rest) =
    let id = first + size kids in
    let own : Node = record { id = id; label = label; kids = numbers (roots first kids); first = first; parent = parent } in
    let below = length-nodes first id kids in
    let more = length-nodes (id + 1) parent rest in
    let whole = length-append (nodes_of first id kids) (own ∷ nodes_of (id + 1) parent rest) in
    omega (arith, below, more, whole)

at_seam : (xs : List Node) (y : Node) (ys : List Node) → slice_get (xs ++ y ∷ ys) (length xs) ≡ Some y
at_seam [] y ys = refl
at_seam (x ∷ xs) y ys = at_seam xs y ys

-- the nodes are those of trees between others
record Between (all : List Node) (first parent : ℕ) (f : Forest) : Type 0 where
  before : List Node
  after : List Node
  are : all ≡ before ++ (nodes_of first parent f ++ after)
  long : first ≡ length before

module _ (all : List Node) (first parent : ℕ) (label : Label) (kids rest : Forest) (b : Between all first parent (tree label kids rest)) where
  own : Node
  own = record { id = first + size kids; label = label; kids = numbers (roots first kids); first = first; parent = parent }

  later : List Node
  later = nodes_of (first + size kids + 1) parent rest

  below : List Node
  below = nodes_of first (first + size kids) kids

  opened : all ≡ b.before ++ (below ++ (own ∷ (later ++ b.after)))
  unfolding own later below
  opened = b.are ∙ ap (λ ns. b.before ++ ns) (append_assoc below (own ∷ later) b.after)

  here : all ≡ (b.before ++ below) ++ (own ∷ (later ++ b.after))
  here = opened ∙ sym (append_assoc b.before below (own ∷ (later ++ b.after)))

  at_own : first + size kids ≡ length (b.before ++ below)
  unfolding below
  at_own =
      let long = length-nodes first (first + size kids) kids in
      let longer = length-append b.before (nodes_of first (first + size kids) kids) in
      let starts = b.long in
      omega (arith, long, longer, starts)

  own_there : node_at all (first + size kids) ≡ own
  own_there = ap (λ m. unwrap_or m nowhere) (ap₂ slice_get here at_own ∙ at_seam (b.before ++ below) own (later ++ b.after))

  in_kids : Between all first (first + size kids) kids
  unfolding below
  in_kids = record { before = b.before; after = own ∷ (later ++ b.after); are = opened; long = b.long }

  in_rest : Between all (first + size kids + 1) parent rest
  unfolding later
  in_rest =
      let last = length-append (b.before ++ below) (own ∷ []) in
      let at = at_own in
      record {
        before = (b.before ++ below) ++ own ∷ [];
        after = b.after;
        are = here ∙ sym (append_assoc (b.before ++ below) (own ∷ []) (later ++ b.after));
        long = omega (arith, last, at);
      }

  -- a node of the first tree or of those behind it: below the root, the root, or behind it
  by_place : (P : ℕ → Type 0) → ((n : ℕ) → first ≤ n → n < first + size kids → P n) → P (first + size kids)
      → ((n : ℕ) → first + size kids + 1 ≤ n → n < first + size kids + 1 + size rest → P n)
      → (n : ℕ) → first ≤ n → n < first + (size kids + 1 + size rest) → P n
  by_place P front root behind n low high = by (cases_lt n (first + size kids))
    where
      by : (n < first + size kids) ⊎ (first + size kids ≤ n) → P n
      by (inl lt) = front n low lt
      by (inr ge) = from (eq-or-lt_of_le ge)
        where
          from : (first + size kids ≡ n) ⊎ (first + size kids < n) → P n
          from (inl e) = subst P e root
          from (inr lt) = behind n (omega (arith, lt)) (omega (arith, high))

whole : (t : Tree) → Between (nodes t) 0 (size (one t)) (one t)
whole t = record { before = []; after = []; are = sym (append-nil (nodes t)); long = refl }

-- ---- the lowest node of a subtree

abbrev IsLowest : Tree → List Node → ℕ → Type 0
IsLowest t all n = (u : Tree) × StandsFor (table_of t) (as_id n) u × ((node_at all n).first + size (one u) ≡ n + 1)

module _ (t : Tree) (all : List Node) where
  lowest : (first parent : ℕ) (f : Forest) (before after : List SynNode) → table_of t ≡ before ++ (tables.nodes first f ++ after) → first ≡ length before
      → Between all first parent f → (n : ℕ) → first ≤ n → n < first + size f → IsLowest t all n
  unfolding own
  lowest first parent none before after e at b n low high = absurd (omega (arith, low, high))
  lowest first parent (tree label kids rest) before after e at b n low high =
      by_place all first parent label kids rest b (IsLowest t all)
      (λ k from to. lowest first id kids before (mine ∷ (behind ++ after)) opened at (in_kids all first parent label kids rest b) k from to)
      root
      (λ k from to. lowest (id + 1) parent rest (front ++ mine ∷ []) after (here ∙ sym (append_assoc front (mine ∷ []) (behind ++ after))) longer (in_rest all first parent label kids rest b) k from to)
      n low high
    where
      id : ℕ
      id = first + size kids

      mine : SynNode
      mine = node_of label (roots first kids)

      behind : List SynNode
      behind = tables.nodes (id + 1) rest

      front : List SynNode
      front = before ++ tables.nodes first kids

      opened : table_of t ≡ before ++ (tables.nodes first kids ++ (mine ∷ (behind ++ after)))
      opened = e ∙ ap (λ ns. before ++ ns) (append_assoc (tables.nodes first kids) (mine ∷ behind) after)

      here : table_of t ≡ front ++ (mine ∷ (behind ++ after))
      here = opened ∙ sym (append_assoc before (tables.nodes first kids) (mine ∷ (behind ++ after)))

      longer : id + 1 ≡ length (front ++ mine ∷ [])
      longer =
          let last = length-append front (mine ∷ []) in
          let parts = length-append before (tables.nodes first kids) in
          let many = tree_size first kids in
          omega (arith, at, last, parts, many)

      root : IsLowest t all id
      root = (
        record { label = label; kids = kids },
        stand_within (table_of t) before first (tree label kids none) (behind ++ after)
            (opened ∙ ap (λ ns. before ++ ns) (sym (append_assoc (tables.nodes first kids) (mine ∷ []) (behind ++ after)))) at,
        ap (λ (m : Node). m.first + (size kids + 1 + 0)) (own_there all first parent label kids rest b) ∙ omega arith,
      )

pub is_lowest : (t : Tree) (n : ℕ) → n < length (table_of t) → IsLowest t (nodes t) n
is_lowest t n within =
    let long = tree_size 0 (one t) in
    lowest t (nodes t) 0 (size (one t)) (one t) [] [] (sym (append-nil (table_of t))) refl (whole t) n (omega arith) (omega (arith, within, long))

-- ---- parents

map-front : (f : Node → ℕ) (xs ys : List Node) → map f (xs ++ ys) ≡ map f xs ++ map f ys
map-front f [] ys = refl
map-front f (x ∷ xs) ys = ap (λ rest. f x ∷ rest) (map-front f xs ys)

map-parents : (xs ys : List Parent) → map (λ (p : Parent). p.number) (xs ++ ys) ≡ map (λ (p : Parent). p.number) xs ++ map (λ (p : Parent). p.number) ys
map-parents [] ys = refl
map-parents (x ∷ xs) ys = ap (λ rest. x.number ∷ rest) (map-parents xs ys)

parents_same : (first parent : ℕ) (to : ℕ → Parent) (i : ℕ) (f : Forest) → ((j : ℕ) → (to j).number ≡ parent)
    → map (λ (p : Parent). p.number) (parents_from first to i f) ≡ map (λ (m : Node). m.parent) (nodes_of first parent f)
parents_same first parent to i none h = refl
parents_same first parent to i (tree label kids rest) h =
    let id = first + size kids in
    let mine : Node = record { id = id; label = label; kids = numbers (roots first kids); first = first; parent = parent } in
    map-parents (parents_from first (kid_of id) 0 kids) (to i ∷ parents_from (id + 1) to (suc i) rest)
    ∙ ap₂ (λ xs ys. xs ++ ys) (parents_same first id (kid_of id) 0 kids (λ j. refl)) (ap₂ (λ x xs. x ∷ xs) (h i) (parents_same (id + 1) parent to (suc i) rest h))
    ∙ sym (map-front (λ (m : Node). m.parent) (nodes_of first id kids) (mine ∷ nodes_of (id + 1) parent rest))

read_map : (ps : List Parent) (ms : List Node) (n : ℕ) (d : Parent) → n < length ms → map (λ (p : Parent). p.number) ps ≡ map (λ (m : Node). m.parent) ms
    → (get_or ps n d).number ≡ (node_at ms n).parent
read_map ps [] n d within e = absurd (omega (arith, within))
read_map [] (m ∷ ms) n d within e = absurd (cc e)
read_map (p ∷ ps) (m ∷ ms) zero d within e = cc e
read_map (p ∷ ps) (m ∷ ms) (suc n) d within e = read_map ps ms n d (omega (arith, within)) (cc e)

pub parent_told : (t : Tree) (n : ℕ) (d : Parent) → n < length (table_of t) → (get_or (parents_in t) n d).number ≡ (node_at (nodes t) n).parent
parent_told t n d within =
    let long = tree_size 0 (one t) in
    let many = length-nodes 0 (size (one t)) (one t) in
    read_map (parents_in t) (nodes t) n d (omega (arith, within, long, many)) (parents_same 0 (size (one t)) (λ i. kid_of (size (one t)) 0) 0 (one t) (λ j. refl))

-- ---- indexes

-- each is less
abbrev AllBelow : ℕ → List ℕ → Type 0
AllBelow n xs = AllByRecursion (λ x. x < n) xs

below_at : (n : ℕ) (xs : List ℕ) (k : ℕ) → AllBelow n xs → k < length xs → get_or xs k 0 < n
below_at n [] k h lt = absurd (omega (arith, lt))
below_at n (x ∷ xs) zero h lt = h.0
below_at n (x ∷ xs) (suc k) h lt = below_at n xs k h.1 (omega (arith, lt))

number_at : (xs ys : List ℕ) (n : ℕ) → get_or (xs ++ n ∷ ys) (length xs) 0 ≡ n
number_at [] ys n = refl
number_at (x ∷ xs) ys n = number_at xs ys n

number_before : (xs ys : List ℕ) (k : ℕ) → k < length xs → get_or (xs ++ ys) k 0 ≡ get_or xs k 0
number_before [] ys k lt = absurd (omega (arith, lt))
number_before (x ∷ xs) ys zero lt = refl
number_before (x ∷ xs) ys (suc k) lt = number_before xs ys k (omega (arith, lt))

found_behind : (front back : List ℕ) (n : ℕ) → AllBelow n front → index_in (front ++ n ∷ back) n ≡ length front
found_behind front back n below = ap (λ o. unwrap_or o 0) found
  where
    all : List ℕ
    all = front ++ n ∷ back

    long : length all ≡ length front + suc (length back)
    long = length-append front (n ∷ back)

    other : (x : ℕ) → x < n → (x == n) ≡ false
    other x lt = grind (arith, common_steps)

    itself : (x : ℕ) → x ≡ n → (x == n) ≡ true
    itself x e = grind (arith, common_steps)

    at : position_or_len (λ m. m == n) (front ++ n ∷ back) ≡ length front
    at = position_or_len_is (λ m. m == n) (front ++ n ∷ back) (length front) 0 (let l = long in omega (arith, l))
        (λ k lt. other (get_or (front ++ n ∷ back) k 0) (subst (λ x. x < n) (sym (number_before front (n ∷ back) k lt)) (below_at n front k below lt)))
        (λ lt. itself (get_or (front ++ n ∷ back) (length front) 0) (number_at front back n))

    found : position (λ m. m == n) (front ++ n ∷ back) ≡ Some (length front)
    found = let l = long in let e = at in grind (arith, common_steps)

more_below : (m n : ℕ) (xs : List ℕ) → m ≤ n → AllBelow m xs → AllBelow n xs
more_below m n [] low h = tt
more_below m n (x ∷ xs) low h = (omega (arith, low, h.0), more_below m n xs low h.1)

below_append : (n m : ℕ) (xs : List ℕ) → AllBelow n xs → n < m → AllBelow m (xs ++ n ∷ [])
below_append n m [] h low = (low, tt)
below_append n m (x ∷ xs) h low = (omega (arith, low, h.0), below_append n m xs h.1 low)

at_front : (xs ys : List Parent) (n : ℕ) (d : Parent) → n < length xs → get_or (xs ++ ys) n d ≡ get_or xs n d
at_front [] ys n d lt = absurd (omega (arith, lt))
at_front (x ∷ xs) ys zero d lt = refl
at_front (x ∷ xs) ys (suc n) d lt = at_front xs ys n d (omega (arith, lt))

at_back : (xs ys : List Parent) (n k : ℕ) (d : Parent) → n ≡ length xs + k → get_or (xs ++ ys) n d ≡ get_or ys k d
at_back [] ys n k d e = ap (λ i. get_or ys i d) (omega (arith, e))
at_back (x ∷ xs) ys zero k d e = absurd (omega (arith, e))
at_back (x ∷ xs) ys (suc n) k d e = at_back xs ys n k d (omega (arith, e))

abbrev IndexAt : List Node → Parent → ℕ → Type 0
IndexAt all p n = index_in (parent_of all n).kids n ≡ p.index

module _ (all : List Node) (d : Parent) where
  indexes : (first parent : ℕ) (f : Forest) (i : ℕ) (front : List ℕ) → Between all first parent f
      → (node_at all parent).kids ≡ front ++ numbers (roots first f) → length front ≡ i → AllBelow first front
      → (n : ℕ) → first ≤ n → n < first + size f → IndexAt all (get_or (parents_from first (kid_of parent) i f) (n - first) d) n
  unfolding own
  indexes first parent none i front b kids_are long below n low high = absurd (omega (arith, low, high))
  indexes first parent (tree label kids rest) i front b kids_are long below n low high =
      by_place all first parent label kids rest b (λ k. IndexAt all (get_or told (k - first) d) k)
      (λ k from to. in_front k from to (indexes first id kids 0 [] (in_kids all first parent label kids rest b) (ap (λ (m : Node). m.kids) (own_there all first parent label kids rest b)) refl tt k from to))
      root
      (λ k from to. behind k from to (indexes (id + 1) parent rest (suc i) (front ++ id ∷ []) (in_rest all first parent label kids rest b)
      (kids_are ∙ sym (append_assoc front (id ∷ []) (numbers (roots (id + 1) rest)))) longer (below_append id (id + 1) front ids_below (omega arith)) k from to))
      n low high
    where
      id : ℕ
      id = first + size kids

      inner : List Parent
      inner = parents_from first (kid_of id) 0 kids

      later : List Parent
      later = parents_from (id + 1) (kid_of parent) (suc i) rest

      told : List Parent
      told = inner ++ (kid_of parent i ∷ later)

      ids_below : AllBelow id front
      ids_below = more_below first id front (omega arith) below

      longer : length (front ++ id ∷ []) ≡ suc i
      longer = let more = length-append front (id ∷ []) in omega (arith, more, long)

      in_front : (k : ℕ) → first ≤ k → k < id → IndexAt all (get_or inner (k - first) d) k → IndexAt all (get_or told (k - first) d) k
      in_front k from to h =
          let many = length-parents first (kid_of id) 0 kids in
          h ∙ ap (λ (p : Parent). p.index) (sym (at_front inner (kid_of parent i ∷ later) (k - first) d (omega (arith, many, from, to))))

      behind : (k : ℕ) → id + 1 ≤ k → k < id + 1 + size rest → IndexAt all (get_or later (k - (id + 1)) d) k → IndexAt all (get_or told (k - first) d) k
      behind k from to h =
          let many = length-parents first (kid_of id) 0 kids in
          h ∙ ap (λ (p : Parent). p.index) (sym (at_back inner (kid_of parent i ∷ later) (k - first) (suc (k - (id + 1))) d (omega (arith, many, from))))

      root : IndexAt all (get_or told (id - first) d) id
      root =
          let many = length-parents first (kid_of id) 0 kids in
          ap (λ (m : Node). index_in (node_at all m.parent).kids id) (own_there all first parent label kids rest b)
          ∙ ap (λ ks. index_in ks id) kids_are
          ∙ found_behind front (numbers (roots (id + 1) rest)) id ids_below ∙ long
          ∙ ap (λ (p : Parent). p.index) (sym (at_back inner (kid_of parent i ∷ later) (id - first) 0 d (omega (arith, many))))

nowhere_past : (ms : List Node) (k : ℕ) → length ms ≡ k → node_at ms k ≡ nowhere
nowhere_past [] k e = refl
nowhere_past (m ∷ ms) zero e = absurd (omega (arith, e))
nowhere_past (m ∷ ms) (suc k) e = nowhere_past ms k (omega (arith, e))

pub index_told : (t : Tree) (n : ℕ) (d : Parent) → n < length (table_of t) → index_in (parent_of (nodes t) n).kids n ≡ (get_or (parents_in t) n d).index
unfolding own
index_told t n d within =
    let long = tree_size 0 (one t) in
    by_place (nodes t) 0 (size (one t)) t.label t.kids none (whole t) (λ k. IndexAt (nodes t) (get_or (parents_in t) k d) k) below root
    (λ k from to. absurd (omega (arith, from, to))) n (omega arith) (omega (arith, within, long))
  where
    id : ℕ
    id = 0 + size t.kids

    inner : List Parent
    inner = parents_from 0 (kid_of id) 0 t.kids

    below : (k : ℕ) → 0 ≤ k → k < id → IndexAt (nodes t) (get_or (parents_in t) k d) k
    below k from to =
        let many = length-parents 0 (kid_of id) 0 t.kids in
        indexes (nodes t) d 0 id t.kids 0 [] (in_kids (nodes t) 0 (size (one t)) t.label t.kids none (whole t))
        (ap (λ (m : Node). m.kids) (own_there (nodes t) 0 (size (one t)) t.label t.kids none (whole t))) refl tt k from to
        ∙ ap (λ (p : Parent). p.index) (ap (λ i. get_or inner i d) {x = k - 0} {y = k} (omega arith) ∙ sym (at_front inner (kid_of (size (one t)) 0 ∷ []) k d (omega (arith, many, to))))

    root : IndexAt (nodes t) (get_or (parents_in t) id d) id
    root =
        let many = length-parents 0 (kid_of id) 0 t.kids in
        ap (λ (m : Node). index_in (node_at (nodes t) m.parent).kids id) (own_there (nodes t) 0 (size (one t)) t.label t.kids none (whole t))
        ∙ ap (λ (m : Node). index_in m.kids id) (nowhere_past (nodes t) (size (one t)) (length-nodes 0 (size (one t)) (one t)))
        ∙ ap (λ (p : Parent). p.index) (sym (at_back inner (kid_of (size (one t)) 0 ∷ []) id 0 d (omega (arith, many))))

-- ---- numbers

numbered : (t : Tree) (n : ℕ) → n < length (table_of t) → (node_at (nodes t) n).id ≡ n
unfolding own
numbered t n within = let long = tree_size 0 (one t) in by (nodes t) 0 (size (one t)) (one t) (whole t) n (omega arith) (omega (arith, within, long))
  where
    by : (all : List Node) (first parent : ℕ) (f : Forest) → Between all first parent f → (k : ℕ) → first ≤ k → k < first + size f → (node_at all k).id ≡ k
    by all first parent none b k low high = absurd (omega (arith, low, high))
    by all first parent (tree label kids rest) b k low high =
        by_place all first parent label kids rest b (λ i. (node_at all i).id ≡ i)
        (by all first (first + size kids) kids (in_kids all first parent label kids rest b))
        (ap (λ (m : Node). m.id) (own_there all first parent label kids rest b))
        (by all (first + size kids + 1) parent rest (in_rest all first parent label kids rest b)) k low high

-- ---- the nodes themselves

pub node_told : (t : Tree) (n : ℕ) (x : SynNode) → slice_get (table_of t) n ≡ Some x → x ≡ in_table (node_at (nodes t) n)
node_told t n x e = by (nodes t) n (ap (λ ns. slice_get ns n) (nodes_in_table 0 (size (one t)) (one t)) ∙ e)
  where
    by : (ms : List Node) (n : ℕ) → slice_get (map in_table ms) n ≡ Some x → x ≡ in_table (node_at ms n)
    by [] n e = absurd (cc e)
    by (m ∷ ms) zero e = let same : in_table m ≡ x = cc e in sym same
    by (m ∷ ms) (suc n) e = by ms n e

pub tree_is : (t : Tree) → tree_in (table_of t) ≡ t
tree_is t = ap (λ o. unwrap_or o (plain_node kind.Empty 0 none)) (tree_of-table_of t)

-- where the table is that of a tree, and the parents are found
pub kept : (table : List SynNode) (parents : List Parent) → ((t : Tree) × (table ≡ table_of t))
    → parents ≡ all_adopted 0 table (replicate (length table) (kid_of (length table) 0)) → IsKept table parents
kept table parents (t, e) h =
    let same : tree_in table ≡ t = ap tree_in e ∙ tree_is t in
    record {
      whole = e ∙ ap table_of (sym same);
      told = h ∙ ap (λ ns. all_adopted 0 ns (replicate (length ns) (kid_of (length ns) 0))) e ∙ all_parents t ∙ ap parents_in (sym same);
    }

pub kept_long : (table : List SynNode) (parents : List Parent) → IsKept table parents → length parents ≡ length table
kept_long table parents k =
    let t = tree_in table in
    ap length k.told ∙ length-parents 0 (λ i. kid_of (size (one t)) 0) 0 (one t) ∙ sym (tree_size 0 (one t)) ∙ ap length (sym k.whole)

pub nodes_long : (table : List SynNode) (parents : List Parent) → IsKept table parents → length (nodes_in table) ≡ length table
unfolding nodes_in
nodes_long table parents k =
    let t = tree_in table in length-nodes 0 (size (one t)) (one t) ∙ sym (tree_size 0 (one t)) ∙ ap length (sym k.whole)

-- and what is told of a node
module _ (table : List SynNode) (parents : List Parent) (k : IsKept table parents) (n : ℕ) where
  inside : n < length table → n < length (table_of (tree_in table))
  inside within = subst (λ ns. n < length ns) k.whole within

  pub parent_is : (d : Parent) → n < length table → (get_or parents n d).number ≡ (node_at (nodes_in table) n).parent
  unfolding nodes_in
  parent_is d within = ap (λ ps. (get_or ps n d).number) k.told ∙ parent_told (tree_in table) n d (inside within)

  pub index_is : (d : Parent) → n < length table → (get_or parents n d).index ≡ index_in (parent_of (nodes_in table) n).kids n
  unfolding nodes_in
  index_is d within = ap (λ ps. (get_or ps n d).index) k.told ∙ sym (index_told (tree_in table) n d (inside within))

  pub node_is : (x : SynNode) → slice_get table n ≡ Some x → x ≡ in_table (node_at (nodes_in table) n)
  unfolding nodes_in
  node_is x e = node_told (tree_in table) n x (ap (λ ns. slice_get ns n) (sym k.whole) ∙ e)

  pub first_is : (v : ℕ) → n < length table → ((u : Tree) → StandsFor table (as_id n) u → v + size (one u) ≡ n + 1) → v ≡ (node_at (nodes_in table) n).first
  unfolding nodes_in
  first_is v within h = by (is_lowest (tree_in table) n (inside within))
    where
      by : IsLowest (tree_in table) (nodes_in table) n → v ≡ (node_at (nodes_in table) n).first
      by (u, stands, e) = let e2 = h u (subst (λ ns. StandsFor ns (as_id n) u) (sym k.whole) stands) in omega (arith, e, e2)

  pub low_is : (v : ℕ) → n < length table → ((u : Tree) → StandsFor table (as_id n) u → v + size (one u) ≡ n + 1) → v ≤ n
  low_is v within h = by (is_lowest (tree_in table) n (inside within))
    where
      by : IsLowest (tree_in table) (nodes (tree_in table)) n → v ≤ n
      by (u, stands, e) = let e2 = h u (subst (λ ns. StandsFor ns (as_id n) u) (sym k.whole) stands) in omega (arith, e2)

  pub id_is : n < length table → (node_at (nodes_in table) n).id ≡ n
  unfolding nodes_in
  id_is within = numbered (tree_in table) n (inside within)

  -- the nodes from it on
  pub cut_at : n < length table → drop n (nodes_in table) ≡ node_at (nodes_in table) n ∷ drop (n + 1) (nodes_in table)
  cut_at within =
      drop-cons (nodes_in table) n nowhere (subst (λ j. n < j) (sym (nodes_long table parents k)) within)
      ∙ ap₂ (λ m j. m ∷ drop j (nodes_in table)) {u = suc n} {v = n + 1} (sym (ap (λ o. unwrap_or o nowhere) (slice_get-get_or (nodes_in table) n nowhere (subst (λ j. n < j) (sym (nodes_long table parents k)) within)))) (omega arith)

  -- its kids
  pub kids_are : (d : SynNode) → n < length table → numbers (get_or table n d).kids ≡ (node_at (nodes_in table) n).kids
  kids_are d within = ap (λ (y : SynNode). numbers y.kids) (node_is (get_or table n d) (slice_get-get_or table n d within)) ∙ back (node_at (nodes_in table) n).kids
    where
      back : (ns : List ℕ) → numbers (map as_id ns) ≡ ns
      back [] = refl
      back (m ∷ ms) = ap (λ rest. m ∷ rest) (back ms)

pub kids_before : (table : List SynNode) (n : ℕ) (d : SynNode) → IsInOrder table → n < length table → IsWithin n (get_or table n d).kids
kids_before table n d order within =
    subst (λ m. IsWithin m (get_or table n d).kids) {x = 0 + n} (omega arith) (kids_below 0 table n (get_or table n d) order (slice_get-get_or table n d within))

-- the kid of an index
pub kid_found : (ids : List SynId) (ns : List ℕ) (i : ℕ) (d : SynId) → numbers ids ≡ ns → i < length ids → unwrap_or (slice_get ns i) 0 ≡ (get_or ids i d).number
kid_found ids ns i d e h = ap (λ ms. unwrap_or (slice_get ms i) 0) (sym e) ∙ by ids i h
  where
    by : (ids : List SynId) (i : ℕ) → i < length ids → unwrap_or (slice_get (numbers ids) i) 0 ≡ (get_or ids i d).number
    by [] i h = absurd (omega (arith, h))
    by (k ∷ ks) zero h = refl
    by (k ∷ ks) (suc i) h = by ks i (omega (arith, h))

pub kid_missing : (ids : List SynId) (ns : List ℕ) (i : ℕ) → numbers ids ≡ ns → length ids ≤ i → unwrap_or (slice_get ns i) 0 ≡ 0
kid_missing ids ns i e h = ap (λ ms. unwrap_or (slice_get ms i) 0) (sym e) ∙ by ids i h
  where
    by : (ids : List SynId) (i : ℕ) → length ids ≤ i → unwrap_or (slice_get (numbers ids) i) 0 ≡ 0
    by [] i h = refl
    by (k ∷ ks) zero h = absurd (omega (arith, h))
    by (k ∷ ks) (suc i) h = by ks i (omega (arith, h))

pub is_kid : (ids : List SynId) (ns : List ℕ) (i : ℕ) → numbers ids ≡ ns → nat_lt i (length ids) ≡ is_some (slice_get ns i)
is_kid ids ns i e = by ids i ∙ ap (λ ms. is_some (slice_get ms i)) e
  where
    by : (ids : List SynId) (i : ℕ) → nat_lt i (length ids) ≡ is_some (slice_get (numbers ids) i)
    by [] i = grind (arith, common_steps)
    by (k ∷ ks) zero = grind (arith, common_steps)
    by (k ∷ ks) (suc i) = same ∙ by ks i
      where
        same : nat_lt (suc i) (suc (length ks)) ≡ nat_lt i (length ks)
        same = grind (arith, common_steps)

pub kid_within : (n m i : ℕ) (ids : List SynId) (d : SynId) → IsWithin n ids → n < m → i < length ids → (get_or ids i d).number < m
kid_within n m i [] d all low h = absurd (omega (arith, h))
kid_within n m zero (k ∷ ks) d all low h = omega (arith, all.0, low)
kid_within n m (suc i) (k ∷ ks) d all low h = kid_within n m i ks d all.1 low (omega (arith, h))
