-- The parents of the nodes of a table: each node is made the parent of its kids.
use Rattle.std.proofs.Common.{◌≡◌, ℕ, zero, suc, ◌+◌, ◌<◌, ◌≤◌, List, [], ◌∷◌, ◌++◌, length, replicate, get_or, refl, sym, ap, ap₂, ◌∙◌, subst, arith, append_assoc, append-nil, length-append}
use Rattle.std.specs.Prelude.{slice_set}
use Rattle.std.proofs.lemmas.Option.{slice_get-get_or}
use Rattle.c_syntax.specs.declared.syntax.SynId.{SynId}
use Rattle.c_syntax.specs.declared.syntax.SynNode.{SynNode}
use Rattle.c_syntax.specs.Trees.{Tree, Forest, none, tree, one}
use Rattle.c_syntax.specs.Tables as tables
use Rattle.c_syntax.specs.Tables.{size, roots, node_of, table_of, IsInOrder}
use Rattle.c_syntax.proofs.TreeLaws.{length-nodes}
use Rattle.c_syntax.proofs.TextLaws.{kids_below, table_in_order}
use Rattle.c_nodes.specs.declared.nodes.Parent.{Parent}
use Rattle.c_nodes.specs.Parents.{IsWithin, kid_of, parents_from, parents_in, adopted, all_adopted}

pub length-parents : (first : ℕ) (own : ℕ → Parent) (i : ℕ) (f : Forest) → length (parents_from first own i f) ≡ size f
length-parents first own i none = refl
length-parents first own i (tree label kids rest) =
    let id = first + size kids in
    let below = length-parents first (kid_of id) 0 kids in
    let more = length-parents (id + 1) own (suc i) rest in
    let whole = length-append (parents_from first (kid_of id) 0 kids) (own i ∷ parents_from (id + 1) own (suc i) rest) in
    omega (arith, below, more, whole)

set_at : (xs ys : List Parent) (x y : Parent) → slice_set (xs ++ x ∷ ys) (length xs) y ≡ xs ++ y ∷ ys
set_at [] ys x y = refl
set_at (z ∷ xs) ys x y = ap (λ zs. z ∷ zs) (set_at xs ys x y)

abbrev same : Parent → ℕ → Parent
same p i = p

-- the index does not tell the roots apart
any_index : (first : ℕ) (p : Parent) (i j : ℕ) (f : Forest) → parents_from first (same p) i f ≡ parents_from first (same p) j f
any_index first p i j none = refl
any_index first p i j (tree label kids rest) =
    ap (λ more. parents_from first (kid_of (first + size kids)) 0 kids ++ (p ∷ more)) (any_index (first + size kids + 1) p (suc i) (suc j) rest)

-- a node becomes the parent of these roots
adopt_roots : (n i first : ℕ) (f : Forest) (p : Parent) (before after : List Parent) → first ≡ length before
    → adopted n i (roots first f) (before ++ (parents_from first (same p) 0 f ++ after)) ≡ before ++ (parents_from first (kid_of n) i f ++ after)
adopt_roots n i first none p before after at = refl
adopt_roots n i first (tree label kids rest) p before after at =
    ap (adopted n (suc i) (roots (id + 1) rest)) (ap (λ ps. slice_set ps id (kid_of n i)) opened ∙ ap (λ k. slice_set ((before ++ inner) ++ (p ∷ (later ++ after))) k (kid_of n i)) here ∙ set_at (before ++ inner) (later ++ after) p (kid_of n i)
    ∙ sym (append_assoc (before ++ inner) (kid_of n i ∷ []) (later ++ after))
    ∙ ap (λ ps. ((before ++ inner) ++ kid_of n i ∷ []) ++ (ps ++ after)) (any_index (id + 1) p 1 0 rest))
    ∙ adopt_roots n (suc i) (id + 1) rest p ((before ++ inner) ++ kid_of n i ∷ []) after behind
    ∙ append_assoc (before ++ inner) (kid_of n i ∷ []) (told ++ after)
    ∙ append_assoc before inner (kid_of n i ∷ (told ++ after))
    ∙ ap (λ ps. before ++ ps) (sym (append_assoc inner (kid_of n i ∷ told) after))
  where
    id : ℕ
    id = first + size kids

    inner : List Parent
    inner = parents_from first (kid_of id) 0 kids

    later : List Parent
    later = parents_from (id + 1) (same p) 1 rest

    told : List Parent
    told = parents_from (id + 1) (kid_of n) (suc i) rest

    opened : before ++ ((inner ++ (p ∷ later)) ++ after) ≡ (before ++ inner) ++ (p ∷ (later ++ after))
    opened = ap (λ ps. before ++ ps) (append_assoc inner (p ∷ later) after) ∙ sym (append_assoc before inner (p ∷ (later ++ after)))

    here : id ≡ length (before ++ inner)
    here =
        let long = length-parents first (kid_of id) 0 kids in
        let whole = length-append before inner in
        omega (arith, at, long, whole)

    behind : id + 1 ≡ length ((before ++ inner) ++ kid_of n i ∷ [])
    behind = let whole = length-append (before ++ inner) (kid_of n i ∷ []) in omega (arith, here, whole)

replicate-sum : (m n : ℕ) (p : Parent) → replicate (m + n) p ≡ replicate m p ++ replicate n p
replicate-sum zero n p = ap (λ k. replicate k p) {x = 0 + n} (omega arith)
replicate-sum (suc m) n p = ap (λ k. replicate k p) {x = suc m + n} {y = suc (m + n)} (omega arith) ∙ ap (λ ps. p ∷ ps) (replicate-sum m n p)

-- all nodes of some trees become the parents of their kids, but for those behind
adopt_nodes : (first : ℕ) (f : Forest) (p : Parent) (before after : List Parent) (more : List SynNode) → first ≡ length before
    → all_adopted first (tables.nodes first f ++ more) (before ++ (replicate (size f) p ++ after))
    ≡ all_adopted (first + size f) more (before ++ (parents_from first (same p) 0 f ++ after))
adopt_nodes first none p before after more at = ap (λ n. all_adopted n more (before ++ after)) (omega arith)
adopt_nodes first (tree label kids rest) p before after more at =
    ap₂ (λ ns ps. all_adopted first ns (before ++ ps)) (append_assoc (tables.nodes first kids) (own ∷ tables.nodes (id + 1) rest) more) opened
    ∙ adopt_nodes first kids p before (p ∷ (replicate (size rest) p ++ after)) (own ∷ (tables.nodes (id + 1) rest ++ more)) at
    ∙ ap (all_adopted (suc id) (tables.nodes (id + 1) rest ++ more)) (adopt_roots id 0 first kids p before (p ∷ (replicate (size rest) p ++ after)) at)
    ∙ ap₂ (λ n ps. all_adopted n (tables.nodes (id + 1) rest ++ more) ps) (omega arith) closed
    ∙ adopt_nodes (id + 1) rest p ((before ++ inner) ++ p ∷ []) after more behind
    ∙ ap₂ (λ n ps. all_adopted n more ps) (omega arith) last
  where
    id : ℕ
    id = first + size kids

    own : SynNode
    own = node_of label (roots first kids)

    inner : List Parent
    inner = parents_from first (kid_of id) 0 kids

    opened : replicate (size kids + 1 + size rest) p ++ after ≡ replicate (size kids) p ++ (p ∷ (replicate (size rest) p ++ after))
    opened =
        ap (λ k. replicate k p ++ after) {x = size kids + 1 + size rest} {y = size kids + suc (size rest)} (omega arith)
        ∙ ap (λ ps. ps ++ after) (replicate-sum (size kids) (suc (size rest)) p)
        ∙ append_assoc (replicate (size kids) p) (p ∷ replicate (size rest) p) after

    closed : before ++ (inner ++ (p ∷ (replicate (size rest) p ++ after))) ≡ ((before ++ inner) ++ p ∷ []) ++ (replicate (size rest) p ++ after)
    closed =
        sym (append_assoc before inner (p ∷ (replicate (size rest) p ++ after)))
        ∙ sym (append_assoc (before ++ inner) (p ∷ []) (replicate (size rest) p ++ after))

    behind : id + 1 ≡ length ((before ++ inner) ++ p ∷ [])
    behind =
        let long = length-parents first (kid_of id) 0 kids in
        let whole = length-append before inner in
        let more = length-append (before ++ inner) (p ∷ []) in
        omega (arith, at, long, whole, more)

    last : ((before ++ inner) ++ p ∷ []) ++ (parents_from (id + 1) (same p) 0 rest ++ after)
        ≡ before ++ ((inner ++ (p ∷ parents_from (id + 1) (same p) 1 rest)) ++ after)
    last =
        append_assoc (before ++ inner) (p ∷ []) (parents_from (id + 1) (same p) 0 rest ++ after)
        ∙ append_assoc before inner (p ∷ (parents_from (id + 1) (same p) 0 rest ++ after))
        ∙ ap (λ ps. before ++ (inner ++ (p ∷ (ps ++ after)))) (any_index (id + 1) p 0 1 rest)
        ∙ ap (λ ps. before ++ ps) (sym (append_assoc inner (p ∷ parents_from (id + 1) (same p) 1 rest) after))

length-table : (t : Tree) → length (table_of t) ≡ size (one t)
length-table t = length-nodes 0 (one t)

pub all_parents : (t : Tree) → all_adopted 0 (table_of t) (replicate (length (table_of t)) (kid_of (length (table_of t)) 0)) ≡ parents_in t
all_parents t =
    ap₂ (λ n ns. all_adopted 0 ns (replicate n (kid_of n 0))) (length-table t) (sym (append-nil (table_of t)))
    ∙ ap (all_adopted 0 (table_of t ++ [])) (sym (append-nil (replicate (size (one t)) blank)))
    ∙ adopt_nodes 0 (one t) blank [] [] [] refl
    ∙ append-nil (parents_from 0 (same blank) 0 (one t))
  where
    blank : Parent
    blank = kid_of (size (one t)) 0

-- the kids of a node stand before it
pub kids_within : (nodes : List SynNode) (long i : ℕ) (d : SynNode) → IsInOrder nodes → i < length nodes → length nodes ≤ long → IsWithin long (get_or nodes i d).kids
kids_within nodes long i d order within low =
    weaker (0 + i) long (get_or nodes i d).kids (omega (arith, within, low)) (kids_below 0 nodes i (get_or nodes i d) order (slice_get-get_or nodes i d within))
  where
    weaker : (m n : ℕ) (kids : List SynId) → m ≤ n → IsWithin m kids → IsWithin n kids
    weaker m n [] low h = tt
    weaker m n (kid ∷ kids) low h = (omega (arith, low, h.0), weaker m n kids low h.1)

pub in_order_of : (nodes : List SynNode) → ((t : Tree) × (nodes ≡ table_of t)) → IsInOrder nodes
in_order_of nodes (t, e) = subst IsInOrder (sym e) (table_in_order t)
