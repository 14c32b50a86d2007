-- The nodes of a derived tree at their places, with their kids.
use Rattle.std.proofs.Common.{◌≡◌, true, zero, suc, ℕ, ◌<◌, ◌≤◌, List, [], ◌∷◌, length, Some, refl, sym, ap, subst, arith, unwrap_or}
use Rattle.std.specs.Prelude.{slice_get}
use Rattle.std.specs.Option.{is_some}
use Rattle.c_lexer.specs.declared.token.Token.{Token}
use Rattle.c_syntax.specs.Trees.{Tree}
use Rattle.c_syntax.specs.Tables.{table_of}
use Rattle.c_grammar.specs.Derivation.{IsTreeOf}
use Rattle.c_typing.specs.Places.{Node, nodes, node_at, kid, has_kid, nowhere}
use Rattle.c_typing.specs.Shapes.{categories_of}
use Rattle.c_typing.proofs.ShapesNodes.{node_placed}
use Rattle.c_typing.proofs.MadeNodes.{In, in_at, at_in, kid_of, kid_within}
use Rattle.c_typing.proofs.MadeParts.{least_kids, kids_enough, in_kids}

-- the node at a place is a kid of this one
pub record Found (t : Tree) (parent : Node) (k : ℕ) : Type 0 where
  pub node : Node
  pub there : slice_get (nodes t) k ≡ Some node
  pub below : node.parent ≡ parent.id
  pub from : parent.first ≤ node.first
  pub before : k < parent.id

module _ (tokens : List Token) (t : Tree) (derived : IsTreeOf tokens t) where
  pub numbered : (n : ℕ) (m : Node) → slice_get (nodes t) n ≡ Some m → m.id ≡ n
  numbered n m e = (node_placed tokens t derived n m e).numbered

  pub found : (m : Node) → In m (nodes t) → slice_get (nodes t) m.id ≡ Some m
  found m h =
      let a = at_in m (nodes t) h in
      subst (λ n. slice_get (nodes t) n ≡ Some m) (sym (numbered a.0 m a.1)) a.1

  pub node_there : (n : ℕ) (m : Node) → slice_get (nodes t) n ≡ Some m → node_at (nodes t) n ≡ m
  node_there n m e = ap (λ o. unwrap_or o nowhere) e

  pub kid_found : (n : ℕ) (m : Node) (k : ℕ) → slice_get (nodes t) n ≡ Some m → In k m.kids → Found t m k
  kid_found n m k e h =
      let i = in_at m (nodes t) n e in
      let r = kid_of t m k i h in
      record {
        node = r.node;
        there = subst (λ j. slice_get (nodes t) j ≡ Some r.node) r.numbered (found r.node r.among);
        below = r.below;
        from = r.from;
        before = (kid_within t m k i h).1;
      }

  pub kid_in : (n : ℕ) (m : Node) (i : ℕ) → slice_get (nodes t) n ≡ Some m → i < least_kids m.label.kind → In (kid m i) m.kids
  kid_in n m i e lt =
      let most = kids_enough (categories_of (table_of t)) m (node_placed tokens t derived n m e).fits.kids in
      in_kids m i (omega (arith, lt, most))

  pub kid_has : (n : ℕ) (m : Node) (i : ℕ) → slice_get (nodes t) n ≡ Some m → i < least_kids m.label.kind → has_kid m i ≡ true
  kid_has n m i e lt =
      let most = kids_enough (categories_of (table_of t)) m (node_placed tokens t derived n m e).fits.kids in
      some m.kids i (omega (arith, lt, most))
    where
      some : (ks : List ℕ) (j : ℕ) → j < length ks → is_some (slice_get ks j) ≡ true
      some [] j h = absurd (omega (arith, h))
      some (k ∷ ks) zero h = refl
      some (k ∷ ks) (suc j) h = some ks j (omega (arith, h))
