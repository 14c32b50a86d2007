-- The nodes of a tree by their places, with their lowest nodes and their parents, and those of its table.
use Rattle.std.proofs.Common.{◌≡◌, ℕ, zero, suc, ◌+◌, ◌<◌, List, [], ◌∷◌, ◌++◌, length, map, true, Some, refl, sym, ap, ap₂, ◌∙◌, subst, arith, append_assoc, append-nil, length-append, zero-add}
use Rattle.std.specs.Prelude.{slice_get, get_or}
use Rattle.std.specs.List.{list_all}
use Rattle.c_lexer.specs.declared.token.Token.{Token}
use Rattle.c_syntax.specs.declared.syntax.SynId.{SynId}
use Rattle.c_syntax.specs.Trees.{Tree, Forest, none, tree, one}
use Rattle.c_syntax.specs.Tables as tables
use Rattle.c_syntax.specs.Tables.{size, roots, node_of, table_of}
use Rattle.c_grammar.specs.Derivation.{IsTreeOf}
use Rattle.c_typing.specs.Places.{Node, numbers, nodes_of, nodes}
use Rattle.c_syntax.specs.declared.label.Label.{Label}
use Rattle.c_typing.specs.ShapesOfNodes.{first_behind, as_id, in_table, IsPlaced, HasParent}
use Rattle.c_typing.specs.Shapes.{Category, no_category, category_by, categories, categories_of, stands_in, are_shaped, lowest_kind, begins_with, Fits}
use Rattle.c_typing.proofs.ShapesTable as table
use Rattle.c_typing.proofs.ShapesTable.{listed, listed_table, fits_at, apart, parts}
use Rattle.c_typing.proofs.ShapesParents.{split, kids_stand}
use Rattle.c_typing.proofs.ShapesNames.{begins_with_name}
use Rattle.c_typing.proofs.ShapesLaw.{all_shaped}
use Rattle.c_typing.proofs.ShapesPlaces.{alone}

ids_of_numbers : (ids : List SynId) → map as_id (numbers ids) ≡ ids
ids_of_numbers [] = refl
ids_of_numbers (id ∷ ids) = ap (λ rest. id ∷ rest) (ids_of_numbers ids)

map-front : (xs ys : List Node) → map in_table (xs ++ ys) ≡ map in_table xs ++ map in_table ys
map-front [] ys = refl
map-front (x ∷ xs) ys = ap (λ rest. in_table x ∷ rest) (map-front xs ys)

pub nodes_in_table : (first parent : ℕ) (f : Forest) → map in_table (nodes_of first parent f) ≡ tables.nodes first f
nodes_in_table first parent none = refl
nodes_in_table first parent (tree label kids rest) =
    let id = first + size kids in
    let own : Node = record { id = id; label = label; kids = numbers (roots first kids); first = first; parent = parent } in
    map-front (nodes_of first id kids) (own ∷ nodes_of (id + 1) parent rest)
    ∙ ap₂ (λ below behind. below ++ behind) (nodes_in_table first id kids)
    (ap₂ (λ ids behind. node_of label ids ∷ behind) (ids_of_numbers (roots first kids)) (nodes_in_table (id + 1) parent rest))

got : (ms : List Node) (n : ℕ) (m : Node) → slice_get ms n ≡ Some m → slice_get (map in_table ms) n ≡ Some (in_table m)
got [] n m e = absurd (cc e)
got (x ∷ ms) zero m e = same e
  where
    same : Some x ≡ Some m → Some (in_table x) ≡ Some (in_table m)
    same h = let equal : x ≡ m = cc h in ap (λ k. Some (in_table k)) equal
got (x ∷ ms) (suc n) m e = got ms n m e

-- the node at this place has its shape
pub node_fits : (tokens : List Token) (t : Tree) (n : ℕ) (m : Node) → IsTreeOf tokens t → slice_get (nodes t) n ≡ Some m → Fits (categories_of (table_of t)) n (in_table m)
node_fits tokens t n m derived e =
    fits_at tokens t (as_id n) (in_table m) derived
    (ap (λ ns. slice_get ns n) (sym (nodes_in_table 0 (size (one t)) (one t))) ∙ got (nodes t) n m e)

-- ---- the lowest node, and the parent

-- the nodes are those of trees between others, and so are the categories
pub record Between (all : List Node) (known : List Category) (first parent : ℕ) (f : Forest) : Type 0 where
  pub before : List Node
  pub after : List Node
  pub are : all ≡ before ++ (nodes_of first parent f ++ after)
  pub long : first ≡ length before
  pub ahead : List Category
  pub behind : List Category
  pub known_are : known ≡ ahead ++ (listed f ++ behind)
  pub known_long : first ≡ length ahead

at_seam : (xs : List Node) (y : Node) (ys : List Node) → slice_get (xs ++ y ∷ ys) (length xs) ≡ Some y
at_seam [] y ys = refl
at_seam (x ∷ xs) y ys = at_seam xs y ys

pub length-nodes : (first parent : ℕ) (f : Forest) → length (nodes_of first parent f) ≡ size f
length-nodes first parent none = refl
length-nodes first parent (tree label kids rest) =
    let id = first + size kids in
    let own : Node = record { id = id; label = label; kids = numbers (roots first kids); first = first; parent = parent } in
    let below = length-nodes first id kids in
    let more = length-nodes (id + 1) parent rest in
    let whole = length-append (nodes_of first id kids) (own ∷ nodes_of (id + 1) parent rest) in
    omega (arith, below, more, whole)

-- the nodes of the first tree and of those behind it
module _ (all : List Node) (known : List Category) (first parent : ℕ) (label : Label) (kids rest : Forest) (b : Between all known first parent (tree label kids rest)) where
  id : ℕ
  id = first + size kids

  unfoldable pub own : Node
  own = record { id = first + size kids; label = label; kids = numbers (roots first kids); first = first; parent = parent }

  later : List Node
  later = nodes_of (first + size kids + 1) parent rest

  own_category : Category
  own_category = category_by label.kind label.text (categories kids)

  opened : all ≡ b.before ++ (nodes_of first (first + size kids) kids ++ (own ∷ (later ++ b.after)))
  unfolding own later
  opened = b.are ∙ ap (λ ns. b.before ++ ns) (append_assoc (nodes_of first (first + size kids) kids) (own ∷ later) b.after)

  pub kids_between : Between all known first (first + size kids) kids
  unfolding listed own_category
  kids_between = record {
    before = b.before;
    after = own ∷ (later ++ b.after);
    are = opened;
    long = b.long;
    ahead = b.ahead;
    behind = own_category ∷ (listed rest ++ b.behind);
    known_are = b.known_are ∙ ap (λ cs. b.ahead ++ cs) (append_assoc (listed kids) (own_category ∷ listed rest) b.behind);
    known_long = b.known_long;
  }

  here : all ≡ (b.before ++ nodes_of first (first + size kids) kids) ++ (own ∷ (later ++ b.after))
  here = opened ∙ sym (append_assoc b.before (nodes_of first (first + size kids) kids) (own ∷ (later ++ b.after)))

  at_own : first + size kids ≡ length (b.before ++ nodes_of first (first + size kids) kids)
  at_own =
      let long = length-nodes first (first + size kids) kids in
      let longer = length-append b.before (nodes_of first (first + size kids) kids) in
      let starts = b.long in
      omega (arith, long, longer, starts)

  pub own_there : slice_get all (first + size kids) ≡ Some own
  own_there = ap₂ slice_get here at_own ∙ at_seam (b.before ++ nodes_of first (first + size kids) kids) own (later ++ b.after)

  pub rest_between : Between all known (first + size kids + 1) parent rest
  unfolding later
  rest_between =
      let last = length-append (b.before ++ nodes_of first (first + size kids) kids) (own ∷ []) in
      let at = at_own in
      record {
        before = (b.before ++ nodes_of first (first + size kids) kids) ++ own ∷ [];
        after = b.after;
        are = here ∙ sym (append_assoc (b.before ++ nodes_of first (first + size kids) kids) (own ∷ []) (later ++ b.after));
        long = omega (arith, last, at);
        ahead = table.front b.ahead b.behind label kids rest ++ table.own b.ahead b.behind label kids rest ∷ [];
        behind = b.behind;
        known_are = b.known_are ∙ table.behind_root b.ahead b.behind label kids rest;
        known_long = table.longer_front b.ahead b.behind label kids rest first b.known_long;
      }

  pub own_known : get_or known (first + size kids) no_category ≡ category_by label.kind label.text (categories kids)
  unfolding table.own
  own_known = ap (λ cs. get_or cs (first + size kids) no_category) b.known_are ∙ table.found b.ahead b.behind label kids rest first b.known_long

-- where the first tree begins, its lowest node stands
lowest_there : (all : List Node) (known : List Category) (first parent : ℕ) (label : Label) (kids rest : Forest) → Between all known first parent (tree label kids rest)
    → (m : Node) × (slice_get all first ≡ Some m) × (m.label.kind ≡ lowest_kind label.kind kids)
unfolding own
lowest_there all known first parent label none rest b =
    (own all known first parent label none rest b, ap (λ n. slice_get all n) (omega arith) ∙ own_there all known first parent label none rest b, refl)
lowest_there all known first parent label (tree l ks more) rest b =
    lowest_there all known first (first + size (tree l ks more)) l ks more (kids_between all known first parent label (tree l ks more) rest b)

-- ---- all nodes

-- a node whose number is this place, and its lowest node
record Begins (all : List Node) (known : List Category) (place : ℕ) (m : Node) : Type 0 where
  numbered : m.id ≡ place
  lowest : Node
  found : slice_get all m.first ≡ Some lowest
  begins : begins_with (get_or known place no_category) lowest.label.kind ≡ true

-- and its parent
record Linked (all : List Node) (known : List Category) (place : ℕ) (m : Node) : Type 0 where
  parent : Node
  found : slice_get all m.parent ≡ Some parent
  front : List ℕ
  back : List ℕ
  among : parent.kids ≡ front ++ (place ∷ back)
  begins : m.first ≡ first_behind parent.first front
  stands : stands_in (get_or known place no_category) parent.label.kind ≡ true

-- it holds of all nodes, where the first stands at this place
abbrev pub AllFrom : (ℕ → Node → Type 0) → ℕ → List Node → Type 0
AllFrom P place [] = Unit {0}
AllFrom P place (m ∷ ms) = P place m × AllFrom P (suc place) ms

all-append : (P : ℕ → Node → Type 0) (place : ℕ) (xs ys : List Node) → AllFrom P place xs → AllFrom P (place + length xs) ys → AllFrom P place (xs ++ ys)
all-append P place [] ys h k = subst (λ n. AllFrom P n ys) (omega arith) k
all-append P place (x ∷ xs) ys h k = (h.0, all-append P (suc place) xs ys h.1 (subst (λ n. AllFrom P n ys) (omega arith) k))

pub all_at : (P : ℕ → Node → Type 0) (place : ℕ) (ms : List Node) (n : ℕ) (m : Node) → AllFrom P place ms → slice_get ms n ≡ Some m → P (place + n) m
all_at P place [] n m h e = absurd (cc e)
all_at P place (x ∷ ms) zero m h e = same e
  where
    same : Some x ≡ Some m → P (place + 0) m
    same h2 = let equal : x ≡ m = cc h2 in subst (λ (k : Node). P (place + 0) k) equal (subst (λ j. P j x) (omega arith) h.0)
all_at P place (x ∷ ms) (suc n) m h e = subst (λ j. P j m) (omega arith) (all_at P (suc place) ms n m h.1 e)

-- of a tree, from those of its kids, its root and those behind
pub all_of_tree : (P : ℕ → Node → Type 0) (first parent : ℕ) (label : Label) (kids rest : Forest) → AllFrom P first (nodes_of first (first + size kids) kids)
    → P (first + size kids) (record { id = first + size kids; label = label; kids = numbers (roots first kids); first = first; parent = parent })
    → AllFrom P (first + size kids + 1) (nodes_of (first + size kids + 1) parent rest) → AllFrom P first (nodes_of first parent (tree label kids rest))
all_of_tree P first parent label kids rest below root later =
    let long = length-nodes first (first + size kids) kids in
    let at : first + size kids ≡ first + length (nodes_of first (first + size kids) kids) = omega (arith, long) in
    let next : first + size kids + 1 ≡ suc (first + size kids) = omega arith in
    let m : Node = record { id = first + size kids; label = label; kids = numbers (roots first kids); first = first; parent = parent } in
    let from_root : AllFrom P (first + size kids) (m ∷ nodes_of (first + size kids + 1) parent rest) =
    (root, subst (λ n. AllFrom P n (nodes_of (first + size kids + 1) parent rest)) next later) in
    all-append P first (nodes_of first (first + size kids) kids) (m ∷ nodes_of (first + size kids + 1) parent rest) below
    (subst (λ n. AllFrom P n (m ∷ nodes_of (first + size kids + 1) parent rest)) at from_root)

behind_last : (first : ℕ) (front : List ℕ) (n : ℕ) → first_behind first (front ++ n ∷ []) ≡ n + 1
behind_last first [] n = refl
behind_last first (kid ∷ front) n = behind_last (kid + 1) front n

module _ (all : List Node) (known : List Category) where
  all_begin : (first parent : ℕ) (f : Forest) → Between all known first parent f → are_shaped f ≡ true → AllFrom (Begins all known) first (nodes_of first parent f)
  all_begin first parent none b ok = tt
  all_begin first parent (tree label kids rest) b ok =
      let t : Tree = record { label = label; kids = kids } in
      let oks = apart label kids rest ok in
      let low = lowest_there all known first parent label kids rest b in
      let name = begins_with_name t (alone label kids rest ok) in
      all_of_tree (Begins all known) first parent label kids rest (all_begin first (first + size kids) kids (kids_between all known first parent label kids rest b) oks.1)
      (record {
        numbered = refl;
        lowest = low.0;
        found = low.1;
        begins = ap₂ begins_with (own_known all known first parent label kids rest b) low.2 ∙ name;
      })
      (all_begin (first + size kids + 1) parent rest (rest_between all known first parent label kids rest b) oks.2)

  all_linked : (first parent : ℕ) (f : Forest) → Between all known first parent f → are_shaped f ≡ true → (q : Node) → slice_get all parent ≡ Some q
      → (front : List ℕ) → q.kids ≡ front ++ numbers (roots first f) → first ≡ first_behind q.first front → list_all (λ c. stands_in c q.label.kind) (categories f) ≡ true
      → AllFrom (Linked all known) first (nodes_of first parent f)
  unfolding own
  all_linked first parent none b ok q at front kids_are starts may = tt
  all_linked first parent (tree label kids rest) b ok q at front kids_are starts may =
      let n = first + size kids in
      let oks = apart label kids rest ok in
      let mays = split {p = stands_in (category_by label.kind label.text (categories kids)) q.label.kind} {q = list_all (λ c. stands_in c q.label.kind) (categories rest)} may in
      all_of_tree (Linked all known) first parent label kids rest
      (all_linked first n kids (kids_between all known first parent label kids rest b) oks.1 (own all known first parent label kids rest b)
      (own_there all known first parent label kids rest b) [] refl refl (kids_stand label.kind label.text (categories kids) (parts label kids oks.0).fit))
      (record {
        parent = q;
        found = at;
        front = front;
        back = numbers (roots (n + 1) rest);
        among = kids_are;
        begins = starts;
        stands = ap (λ c. stands_in c q.label.kind) (own_known all known first parent label kids rest b) ∙ mays.0;
      })
      (all_linked (n + 1) parent rest (rest_between all known first parent label kids rest b) oks.2 q at (front ++ n ∷ [])
      (kids_are ∙ sym (append_assoc front (n ∷ []) (numbers (roots (n + 1) rest)))) (sym (behind_last q.first front n)) mays.1)

got_front : (xs ys : List Node) (n : ℕ) → n < length xs → slice_get (xs ++ ys) n ≡ slice_get xs n
got_front [] ys n lt = absurd (omega (arith, lt))
got_front (x ∷ xs) ys zero lt = refl
got_front (x ∷ xs) ys (suc n) lt = got_front xs ys n (omega (arith, lt))

-- ---- derived trees

module _ (tokens : List Token) (t : Tree) (derived : IsTreeOf tokens t) where
  known_here : List Category
  known_here = categories_of (table_of t)

  ok_here : are_shaped (one t) ≡ true
  ok_here = all_shaped tokens t derived

  pub whole : Between (nodes t) (categories_of (table_of t)) 0 (size (one t)) (one t)
  whole = record {
    before = [];
    after = [];
    are = sym (append-nil (nodes t));
    long = refl;
    ahead = [];
    behind = [];
    known_are = listed_table t ∙ sym (append-nil (listed (one t)));
    known_long = refl;
  }

  pub node_placed : (n : ℕ) (m : Node) → slice_get (nodes t) n ≡ Some m → IsPlaced t n m
  node_placed n m e =
      let b = subst (λ k. Begins (nodes t) (categories_of (table_of t)) k m) (zero-add n)
      (all_at (Begins (nodes t) (categories_of (table_of t))) 0 (nodes t) n m (all_begin (nodes t) (categories_of (table_of t)) 0 (size (one t)) (one t) whole ok_here) e) in
      record { numbered = b.numbered; fits = node_fits tokens t n m derived e; lowest = b.lowest; found = b.found; begins = b.begins }

  pub node_has_parent : (n : ℕ) (m : Node) → slice_get (nodes t) n ≡ Some m → n < size t.kids → HasParent t n m
  unfolding own
  node_has_parent n m e lt =
      let all = nodes t in
      let known = categories_of (table_of t) in
      let last = size (one t) in
      let id = 0 + size t.kids in
      let oks = apart t.label t.kids none ok_here in
      let root : Node = record { id = id; label = t.label; kids = numbers (roots 0 t.kids); first = 0; parent = last } in
      let below = all_linked all known 0 id t.kids (kids_between all known 0 last t.label t.kids none whole) oks.1 root (own_there all known 0 last t.label t.kids none whole) [] refl refl
      (kids_stand t.label.kind t.label.text (categories t.kids) (parts t.label t.kids oks.0).fit) in
      let long = length-nodes 0 id t.kids in
      let p = subst (λ k. Linked all known k m) (zero-add n)
      (all_at (Linked all known) 0 (nodes_of 0 id t.kids) n m below (sym (got_front (nodes_of 0 id t.kids) (root ∷ []) n (omega (arith, lt, long))) ∙ e)) in
      record { parent = p.parent; found = p.found; front = p.front; back = p.back; among = p.among; begins = p.begins; stands = p.stands }
