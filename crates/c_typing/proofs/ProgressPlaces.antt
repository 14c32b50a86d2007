-- Where the nodes of a derived tree stand: their parents, and what stands before them.
use Rattle.std.proofs.Common.{◌≡◌, ℕ, zero, suc, ◌+◌, ◌<◌, ◌≤◌, true, List, [], ◌∷◌, ◌++◌, length, map, Some, refl, sym, ap, ◌∙◌, subst, arith, ◌⊎◌, inl, inr}
use Rattle.std.specs.Prelude.{slice_get, get_or}
use Rattle.c_lexer.specs.declared.token.Token.{Token}
use Rattle.c_syntax.specs.Trees.{Tree, none, one}
use Rattle.c_syntax.specs.Tables.{size, table_of}
use Rattle.c_grammar.specs.Derivation.{IsTreeOf}
use Rattle.c_typing.specs.Places.{Node, nodes}
use Rattle.c_typing.specs.Shapes as category
use Rattle.c_typing.specs.Shapes.{Category, no_category, categories_of, stands_in, begins_with}
use Rattle.c_typing.specs.ShapesOfNodes.{category_at}
use Rattle.c_typing.proofs.ShapesLaw.{root_is_unit}
use Rattle.c_typing.proofs.ShapesParents.{kids_stand}
use Rattle.c_typing.proofs.ShapesNodes as by_place
use Rattle.c_typing.proofs.ShapesNodes.{node_placed, node_has_parent}
use Rattle.c_typing.proofs.ProgressKids.{KidAt, KidsFrom, low}
use Rattle.c_typing.proofs.ProgressStep.{at_all}
use Rattle.c_typing.proofs.ProgressAll.{AreShaped, of_derived}

-- the node m, at the place n, is the kid of this index of its parent
pub record Linked (ns : List Node) (n : ℕ) (m : Node) : Type 0 where
  pub parent : Node
  pub at : slice_get ns m.parent ≡ Some parent
  pub index : ℕ
  pub among : slice_get parent.kids index ≡ Some n

-- and the node at the lowest place of its subtree
pub record Lowest (cat : ℕ → Category) (ns : List Node) (n : ℕ) (m : Node) : Type 0 where
  pub node : Node
  pub at : slice_get ns m.first ≡ Some node
  pub begins : begins_with (cat n) node.label.kind ≡ true

-- nodes that stand as those of a derived tree
pub record AreLinked (cat : ℕ → Category) (ns : List Node) : Type 0 where
  pub shapes : AreShaped cat ns
  pub linked : (n : ℕ) (m : Node) → slice_get ns n ≡ Some m → (suc n ≡ length ns) ⊎ Linked ns n m
  pub root : (n : ℕ) (m : Node) → slice_get ns n ≡ Some m → suc n ≡ length ns → cat n ≡ category.unit
  pub lowest : (n : ℕ) (m : Node) → slice_get ns n ≡ Some m → Lowest cat ns n m

at_seam : (xs : List ℕ) (y : ℕ) (ys : List ℕ) → slice_get (xs ++ y ∷ ys) (length xs) ≡ Some y
at_seam [] y ys = refl
at_seam (x ∷ xs) y ys = at_seam xs y ys

pub within : (ns : List Node) (n : ℕ) (m : Node) → slice_get ns n ≡ Some m → suc n ≤ length ns
within [] n m e = absurd (cc e)
within (x ∷ ns) zero m e = omega arith
within (x ∷ ns) (suc n) m e = let l = within ns n m e in omega (arith, l)

pub compare : (a b : ℕ) → (a < b) ⊎ (b ≤ a)
compare zero zero = inr (omega arith)
compare zero (suc b) = inl (omega arith)
compare (suc a) zero = inr (omega arith)
compare (suc a) (suc b) = by (compare a b)
  where
    by : (a < b) ⊎ (b ≤ a) → (suc a < suc b) ⊎ (suc b ≤ suc a)
    by (inl lt) = inl (omega (arith, lt))
    by (inr le) = inr (omega (arith, le))

pub are_linked : (tokens : List Token) (t : Tree) → IsTreeOf tokens t → AreLinked (category_at t) (nodes t)
are_linked tokens t derived = record {
  shapes = of_derived tokens t derived;
  linked = link;
  root = at_root;
  lowest = λ n m e. let f = node_placed tokens t derived n m e in record { node = f.lowest; at = f.found; begins = f.begins };
}
  where
    long : length (nodes t) ≡ size t.kids + 1
    long = let l = by_place.length-nodes 0 (size (one t)) (one t) in omega (arith, l)

    link : (n : ℕ) (m : Node) → slice_get (nodes t) n ≡ Some m → (suc n ≡ length (nodes t)) ⊎ Linked (nodes t) n m
    link n m e = by (compare n (size t.kids))
      where
        by : (n < size t.kids) ⊎ (size t.kids ≤ n) → (suc n ≡ length (nodes t)) ⊎ Linked (nodes t) n m
        by (inl lt) =
            let q = node_has_parent tokens t derived n m e lt in
            inr (record { parent = q.parent; at = q.found; index = length q.front; among = ap (λ ks. slice_get ks (length q.front)) q.among ∙ at_seam q.front n q.back })
        by (inr ge) = let l = long in let w = within (nodes t) n m e in inl (omega (arith, l, w, ge))

    at_root : (n : ℕ) (m : Node) → slice_get (nodes t) n ≡ Some m → suc n ≡ length (nodes t) → category_at t n ≡ category.unit
    at_root n m e last =
        let same : n ≡ 0 + size t.kids = let l = long in omega (arith, l, last) in
        ap (category_at t) same ∙ by_place.own_known (nodes t) (categories_of (table_of t)) 0 (size (one t)) t.label t.kids none (by_place.whole tokens t derived) ∙ root_is_unit tokens t derived

-- ---- the order of kids

pub kid_at : (all : List Node) (start stop n : ℕ) (ks : List ℕ) (i k : ℕ) → KidsFrom all start stop n ks → slice_get ks i ≡ Some k → (s : ℕ) × (start ≤ s) × (k < stop) × KidAt all s n k
kid_at all start stop n [] i k e at = absurd (cc at)
kid_at all start stop n (j ∷ ks) zero k e at = same at
  where
    same : Some j ≡ Some k → (s : ℕ) × (start ≤ s) × (k < stop) × KidAt all s n k
    same h =
        let equal : j ≡ k = cc h in
        let later = low all (j + 1) stop n ks e.1 in
        subst (λ (l : ℕ). (s : ℕ) × (start ≤ s) × (l < stop) × KidAt all s n l) equal (start, omega arith, omega (arith, later), e.0)
kid_at all start stop n (j ∷ ks) (suc i) k e at =
    let behind = e.0.behind in
    let a = kid_at all (j + 1) stop n ks i k e.1 at in
    let more = a.1 in
    (a.0, omega (arith, behind, more), a.2, a.3)

-- of two kids, the later one begins behind the earlier one
pub kids_apart : (all : List Node) (start stop n : ℕ) (ks : List ℕ) (i j a b : ℕ) (m : Node) → KidsFrom all start stop n ks → i < j → slice_get ks i ≡ Some a → slice_get ks j ≡ Some b → slice_get all b ≡ Some m → a < m.first
kids_apart all start stop n [] i j a b m e lt at bt mt = absurd (cc at)
kids_apart all start stop n (k ∷ ks) i zero a b m e lt at bt mt = absurd (omega (arith, lt))
kids_apart all start stop n (k ∷ ks) zero (suc j) a b m e lt at bt mt =
    let q = kid_at all (k + 1) stop n ks j b e.1 bt in
    let begins = q.3.begins in
    let from = q.1 in
    let same : q.3.node ≡ m = node_same (sym q.3.at ∙ mt) in
    let first : q.3.node.first ≡ m.first = ap (λ (x : Node). x.first) same in
    let kid : k ≡ a = number_same at in
    omega (arith, begins, from, first, kid)
  where
    node_same : {x y : Node} → Some x ≡ Some y → x ≡ y
    node_same h = cc h

    number_same : {x y : ℕ} → Some x ≡ Some y → x ≡ y
    number_same h = cc h
kids_apart all start stop n (k ∷ ks) (suc i) (suc j) a b m e lt at bt mt = kids_apart all (k + 1) stop n ks i j a b m e.1 (omega (arith, lt)) at bt mt

-- ---- a node and its parent

pub some_same : {A : Type 0} {x y : A} → Some x ≡ Some y → x ≡ y
some_same e = cc e

module _ (cat : ℕ → Category) (ns : List Node) (l : AreLinked cat ns) where
  -- the number of the parent is greater, and its nodes begin at or before the node's
  pub parent_above : (n : ℕ) (m : Node) (e : slice_get ns n ≡ Some m) (q : Linked ns n m) → (n < m.parent) × (q.parent.first ≤ m.first)
  parent_above n m e q =
      let tile = l.shapes.tiled m.parent q.parent q.at in
      let k = kid_at ns q.parent.first m.parent m.parent q.parent.kids q.index n tile.kids q.among in
      let same : k.3.node ≡ m = some_same (sym k.3.at ∙ e) in
      let first = ap (λ (x : Node). x.first) same in
      let begins = k.3.begins in
      let from = k.1 in
      (k.2, omega (arith, first, begins, from))

  pub first_low : (n : ℕ) (m : Node) → slice_get ns n ≡ Some m → m.first ≤ n
  first_low n m e = low ns m.first n n m.kids (l.shapes.tiled n m e).kids

  -- what may stand in it
  pub stands : (n : ℕ) (m : Node) (q : Linked ns n m) → stands_in (cat n) q.parent.label.kind ≡ true
  stands n m q =
      let shape = l.shapes.shaped m.parent q.parent q.at in
      at_all cat (λ c. stands_in c q.parent.label.kind) q.parent.kids q.index n (kids_stand q.parent.label.kind q.parent.label.text (map cat q.parent.kids) shape.kids) q.among

  pub get_or_at : (ks : List ℕ) (i k : ℕ) → slice_get ks i ≡ Some k → get_or (map cat ks) i no_category ≡ cat k
  get_or_at [] i k e = absurd (cc e)
  get_or_at (j ∷ ks) zero k e = ap cat (some_same e)
  get_or_at (j ∷ ks) (suc i) k e = get_or_at ks i k e
