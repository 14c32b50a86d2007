-- The kids of a node: each stands behind the one before it, and the last right before the node.
use Rattle.std.proofs.Common.{◌≡◌, ℕ, zero, suc, ◌+◌, ◌<◌, ◌≤◌, List, [], ◌∷◌, Some, refl, subst, arith, zero-add}
use Rattle.std.specs.Prelude.{slice_get}
use Rattle.c_lexer.specs.declared.token.Token.{Token}
use Rattle.c_syntax.specs.Trees.{Tree, Forest, none, tree, one}
use Rattle.c_syntax.specs.Tables.{size, roots, table_of}
use Rattle.c_grammar.specs.Derivation.{IsTreeOf}
use Rattle.c_typing.specs.Places.{Node, numbers, nodes_of, nodes}
use Rattle.c_typing.specs.Shapes.{Category, categories_of}
use Rattle.c_typing.proofs.ShapesNodes as by_place
use Rattle.c_typing.proofs.ShapesNodes.{Between, AllFrom, all_of_tree, all_at, kids_between, rest_between, own_there}

-- the node k is a kid of `parent`, and begins at `start`
pub record KidAt (all : List Node) (start parent k : ℕ) : Type 0 where
  pub node : Node
  pub at : slice_get all k ≡ Some node
  pub below : node.parent ≡ parent
  pub begins : node.first ≡ start
  pub behind : start ≤ k

-- kids that stand one behind the other, from `start` up to `stop`
abbrev pub KidsFrom : List Node → ℕ → ℕ → ℕ → List ℕ → Type 0
KidsFrom all start stop parent [] = start ≡ stop
KidsFrom all start stop parent (k ∷ ks) = KidAt all start parent k × KidsFrom all (k + 1) stop parent ks

-- the node m, at the place n, with its kids
pub record Tiled (all : List Node) (n : ℕ) (m : Node) : Type 0 where
  pub numbered : m.id ≡ n
  pub kids : KidsFrom all m.first n n m.kids

module _ (all : List Node) (known : List Category) where
  roots_tile : (first parent : ℕ) (f : Forest) → Between all known first parent f → KidsFrom all first (first + size f) parent (numbers (roots first f))
  unfolding by_place.own
  roots_tile first parent none b = omega arith
  roots_tile first parent (tree label kids rest) b =
      let k = first + size kids in
      let more = roots_tile (k + 1) parent rest (rest_between all known first parent label kids rest b) in (
        record {
          node = by_place.own all known first parent label kids rest b;
          at = own_there all known first parent label kids rest b;
          below = refl;
          begins = refl;
          behind = omega arith;
        },
        subst (λ stop. KidsFrom all (k + 1) stop parent (numbers (roots (k + 1) rest))) (omega arith) more,
      )

  all_tile : (first parent : ℕ) (f : Forest) → Between all known first parent f → AllFrom (Tiled all) first (nodes_of first parent f)
  all_tile first parent none b = tt
  all_tile first parent (tree label kids rest) b =
      all_of_tree (Tiled all) first parent label kids rest
      (all_tile first (first + size kids) kids (kids_between all known first parent label kids rest b))
      (record { numbered = refl; kids = roots_tile first (first + size kids) kids (kids_between all known first parent label kids rest b) })
      (all_tile (first + size kids + 1) parent rest (rest_between all known first parent label kids rest b))

pub tiled : (tokens : List Token) (t : Tree) → IsTreeOf tokens t → (n : ℕ) (m : Node) → slice_get (nodes t) n ≡ Some m → Tiled (nodes t) n m
tiled tokens t derived n m e =
    subst (λ k. Tiled (nodes t) k m) (zero-add n)
    (all_at (Tiled (nodes t)) 0 (nodes t) n m (all_tile (nodes t) (categories_of (table_of t)) 0 (size (one t)) (one t) (by_place.whole tokens t derived)) e)

-- ---- one kid

pub low : (all : List Node) (start stop parent : ℕ) (ks : List ℕ) → KidsFrom all start stop parent ks → start ≤ stop
low all start stop parent [] e = omega (arith, e)
low all start stop parent (k ∷ ks) e =
    let later = low all (k + 1) stop parent ks e.1 in
    let own = e.0.behind in
    omega (arith, later, own)

-- the node k is a kid of the node `parent`
pub record Kid (all : List Node) (parent k : ℕ) : Type 0 where
  pub node : Node
  pub at : slice_get all k ≡ Some node
  pub below : node.parent ≡ parent
  pub less : k < parent

pub kid_of : (all : List Node) (start n : ℕ) (ks : List ℕ) (i k : ℕ) → KidsFrom all start n n ks → slice_get ks i ≡ Some k → Kid all n k
kid_of all start n [] i k e at = absurd (cc at)
kid_of all start n (j ∷ ks) zero k e at = same at
  where
    same : Some j ≡ Some k → Kid all n k
    same h =
        let equal : j ≡ k = cc h in
        let later = low all (j + 1) n n ks e.1 in
        subst (λ l. Kid all n l) equal (record { node = e.0.node; at = e.0.at; below = e.0.below; less = omega (arith, later) })
kid_of all start n (j ∷ ks) (suc i) k e at = kid_of all (j + 1) n ks i k e.1 at
