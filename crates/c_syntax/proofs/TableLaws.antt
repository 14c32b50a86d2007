-- A table stands for its tree.
use Rattle.std.proofs.Common.{◌≡◌, ℕ, suc, ◌+◌, List, [], ◌∷◌, ◌++◌, length, take, drop, Some, refl, sym, ap, ap₂, ◌∙◌, append_assoc, append-nil}
use Rattle.std.specs.Prelude.{reverse, slice_get}
use Rattle.std.proofs.lemmas.List.{reverse-append, reverse-reverse, length-reverse}
use Rattle.std.proofs.Math.Seq.{take-append_seam, drop-append_seam}
use Rattle.c_syntax.specs.declared.syntax.SynId.{SynId}
use Rattle.c_syntax.specs.declared.syntax.SynNode.{SynNode}
use Rattle.c_syntax.specs.Trees.{Tree, Forest, none, tree, forest_of}
use Rattle.c_syntax.specs.Tables.{size, roots, nodes, node_of, table_of, built, tree_of}

trees : Forest → List Tree
trees none = []
trees (tree label kids rest) = record { label = label; kids = kids } ∷ trees rest

forest_of-trees : (f : Forest) → forest_of (trees f) ≡ f
unfolding trees
forest_of-trees none = refl
forest_of-trees (tree label kids rest) = ap (tree label kids) (forest_of-trees rest)

length-roots : (first : ℕ) (f : Forest) → length (roots first f) ≡ length (trees f)
unfolding trees
length-roots first none = refl
length-roots first (tree label kids rest) = ap suc (length-roots (first + size kids + 1) rest)

-- as many roots as there are kids are the kids
module _ (kids : Forest) (stack : List Tree) (ids : List SynId) (same : length ids ≡ length (trees kids)) where
  counted : length ids ≡ length (reverse (trees kids))
  counted = same ∙ sym (length-reverse (trees kids))

  kids_taken : forest_of (reverse (take (length ids) (reverse (trees kids) ++ stack))) ≡ kids
  kids_taken =
      ap (λ n. forest_of (reverse (take n (reverse (trees kids) ++ stack)))) counted
      ∙ ap (λ ts. forest_of (reverse ts)) (take-append_seam (reverse (trees kids)) stack)
      ∙ ap forest_of (reverse-reverse (trees kids))
      ∙ forest_of-trees kids

  rest_left : drop (length ids) (reverse (trees kids) ++ stack) ≡ stack
  rest_left = ap (λ n. drop n (reverse (trees kids) ++ stack)) counted ∙ drop-append_seam (reverse (trees kids)) stack

-- the nodes of trees put them on the roots that are there
built-nodes : (first : ℕ) (f : Forest) (stack : List Tree) (rest : List SynNode) → built stack (nodes first f ++ rest) ≡ built (reverse (trees f) ++ stack) rest
unfolding trees
built-nodes first none stack rest = refl
built-nodes first (tree label kids more) stack rest =
    let own = node_of label (roots first kids) in
    let behind = nodes (first + size kids + 1) more in
    let this : Tree = record { label = label; kids = kids } in
    let same = length-roots first kids in
    ap (built stack) (append_assoc (nodes first kids) (own ∷ behind) rest)
    ∙ built-nodes first kids stack (own ∷ (behind ++ rest))
    ∙ ap₂ (λ (f : Forest) s. built (record { label = label; kids = f } ∷ s) (behind ++ rest)) (kids_taken kids stack (roots first kids) same) (rest_left kids stack (roots first kids) same)
    ∙ built-nodes (first + size kids + 1) more (this ∷ stack) rest
    ∙ ap (λ s. built s rest) (sym (append_assoc (reverse (trees more)) (this ∷ []) stack) ∙ ap (λ ts. ts ++ stack) (sym (reverse-append (this ∷ []) (trees more))))

pub tree_of-table_of : (t : Tree) → tree_of (table_of t) ≡ Some t
unfolding trees
tree_of-table_of t =
    let whole : Forest = tree t.label t.kids none in
    ap (λ ns. tree_of ns) (sym (append-nil (nodes 0 whole))) ∙ ap (λ ts. slice_get ts 0) (built-nodes 0 whole [] [])

pub one_tree : (t u : Tree) → table_of t ≡ table_of u → t ≡ u
one_tree t u e = same (sym (tree_of-table_of t) ∙ ap tree_of e ∙ tree_of-table_of u)
  where
    same : Some t ≡ Some u → t ≡ u
    same h = cc h
