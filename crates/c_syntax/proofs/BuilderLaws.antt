-- A table that grows by a node.
use Rattle.std.proofs.Common.{◌≡◌, ℕ, zero, suc, ◌+◌, ◌-◌, ◌≤◌, List, [], ◌∷◌, ◌++◌, length, take, drop, refl, sym, ap, ap₂, ◌∙◌, arith, append_assoc}
use Rattle.std.specs.Prelude.{reverse}
use Rattle.std.proofs.lemmas.List.{reverse-append, take-append-drop, length-drop, drop_at, take_at}
use Rattle.std.proofs.Math.ListN.{get_or}
use Rattle.c_syntax.specs.declared.label.Label.{Label}
use Rattle.c_syntax.specs.declared.syntax.SynId.{SynId}
use Rattle.c_syntax.specs.declared.syntax.SynNode.{SynNode}
use Rattle.c_syntax.specs.Trees.{Tree, Forest, none, tree, one, forest_of}
use Rattle.c_syntax.specs.Tables.{size, roots, nodes, node_of, firsts, built, stack_of, table_of, IsBegun}
use Rattle.c_syntax.proofs.TreeLaws.{joined, forest_of-append, size-joined, roots-joined, nodes-joined, firsts-joined, length-nodes, length-stack}

-- ---- one node more

built-append : (stack : List Tree) (ns ms : List SynNode) → built stack (ns ++ ms) ≡ built (built stack ns) ms
built-append stack [] ms = refl
built-append stack (n ∷ ns) ms = built-append _ ns ms

-- a stack of trees, the last first, and the trees that a node takes from it
abbrev pub before : List Tree → ℕ → Forest
before stack k = forest_of (reverse (drop k stack))

abbrev pub below : List Tree → ℕ → Forest
below stack k = forest_of (reverse (take k stack))

-- the node above those that it takes
abbrev pub made : List Tree → ℕ → Label → Tree
made stack k label = record { label = label; kids = below stack k }

parted : (stack : List Tree) (k : ℕ) → forest_of (reverse stack) ≡ joined (before stack k) (below stack k)
parted stack k =
    ap (λ ts. forest_of (reverse ts)) (sym (take-append-drop k stack)) ∙ ap forest_of (reverse-append (take k stack) (drop k stack))
    ∙ forest_of-append (reverse (drop k stack)) (reverse (take k stack))

grown : (stack : List Tree) (k : ℕ) (label : Label) → forest_of (reverse (made stack k label ∷ drop k stack)) ≡ joined (before stack k) (one (made stack k label))
grown stack k label = ap forest_of (reverse-append (made stack k label ∷ []) (drop k stack)) ∙ forest_of-append (reverse (drop k stack)) (made stack k label ∷ [])

-- ---- the ids of the roots

module _ (stack : List Tree) (k : ℕ) (ids : List SynId) (own : ids ≡ roots 0 (forest_of (reverse stack))) where
  all_ids : ids ≡ roots 0 (before stack k) ++ roots (size (before stack k)) (below stack k)
  all_ids = own ∙ ap (roots 0) (parted stack k) ∙ roots-joined 0 (before stack k) (below stack k) ∙ ap (λ n. roots 0 (before stack k) ++ roots n (below stack k)) (omega arith)

  many : length ids ≡ length stack
  many = ap length own ∙ length-stack 0 stack

  split : length (roots 0 (before stack k)) ≡ length ids - k
  split = length-stack 0 (drop k stack) ∙ length-drop k stack ∙ ap (λ n. n - k) (sym many)

  own_ids : drop (length ids - k) ids ≡ roots (size (before stack k)) (below stack k)
  own_ids = ap (drop (length ids - k)) all_ids ∙ drop_at (roots 0 (before stack k)) (roots (size (before stack k)) (below stack k)) (length ids - k) split

  left_ids : take (length ids - k) ids ≡ roots 0 (before stack k)
  left_ids = ap (take (length ids - k)) all_ids ∙ take_at (roots 0 (before stack k)) (roots (size (before stack k)) (below stack k)) (length ids - k) split

-- the last root ends the nodes
last_root : (first : ℕ) (f : Forest) (more : List SynId) (i : ℕ) (d : SynId) → suc i ≡ length (roots first f) → (get_or (roots first f ++ more) i d).number + 1 ≡ first + size f
last_root first none more i d e = absurd (omega (arith, e))
last_root first (tree label kids none) more zero d e = omega arith
last_root first (tree label kids (tree label2 kids2 rest)) more zero d e = absurd (omega (arith, e))
last_root first (tree label kids rest) more (suc i) d e = let h = last_root (first + size kids + 1) rest more i d (omega (arith, e)) in omega (arith, h)

-- no root, no nodes
no_root : (first : ℕ) (f : Forest) → length (roots first f) ≡ 0 → size f ≡ 0
no_root first none e = refl
no_root first (tree label kids rest) e = absurd (omega (arith, e))

module _ (table : List SynNode) (lowest : List ℕ) (ids : List SynId) (begun : IsBegun table lowest ids) (k : ℕ) where
  pub none_left : length ids - k ≡ 0 → size (before (stack_of table) k) ≡ 0
  none_left e = no_root 0 (before (stack_of table) k) (split (stack_of table) k ids begun.roots_are ∙ e)

  pub some_left : (i : ℕ) (d : SynId) → suc i ≡ length ids - k → (get_or ids i d).number + 1 ≡ size (before (stack_of table) k)
  some_left i d e =
      let whole = all_ids (stack_of table) k ids begun.roots_are in
      let h = last_root 0 (before (stack_of table) k) (roots (size (before (stack_of table) k)) (below (stack_of table) k)) i d (e ∙ sym (split (stack_of table) k ids begun.roots_are)) in
      ap (λ is. (get_or is i d).number + 1) whole ∙ h ∙ omega arith

  pub size_left : size (before (stack_of table) k) ≤ length table
  size_left =
      let long = ap length begun.nodes_are ∙ length-nodes 0 (forest_of (reverse (stack_of table))) in
      let both = ap size (parted (stack_of table) k) ∙ size-joined (before (stack_of table) k) (below (stack_of table) k) in
      omega (arith, long, both)

  module _ (label : Label) (kids : List SynId) (kids_are : kids ≡ drop (length ids - k) ids) (now : List SynNode) (pushed : now ≡ table ++ node_of label kids ∷ []) where
    its_ids : kids ≡ roots (size (before (stack_of table) k)) (below (stack_of table) k)
    its_ids = kids_are ∙ own_ids (stack_of table) k ids begun.roots_are

    its_many : length (take k (stack_of table)) ≡ length kids
    its_many = sym (ap length its_ids ∙ length-stack (size (before (stack_of table) k)) (take k (stack_of table)))

    same_taken : take (length kids) (stack_of table) ≡ take k (stack_of table)
    same_taken = ap (take (length kids)) (sym (take-append-drop k (stack_of table))) ∙ take_at (take k (stack_of table)) (drop k (stack_of table)) (length kids) its_many

    same_left : drop (length kids) (stack_of table) ≡ drop k (stack_of table)
    same_left = ap (drop (length kids)) (sym (take-append-drop k (stack_of table))) ∙ drop_at (take k (stack_of table)) (drop k (stack_of table)) (length kids) its_many

    pub stack_now : stack_of now ≡ made (stack_of table) k label ∷ drop k (stack_of table)
    stack_now =
        let own : List Tree → Tree = λ ts. record { label = label; kids = forest_of (reverse ts) } in
        ap stack_of pushed ∙ built-append [] table (node_of label kids ∷ []) ∙ ap₂ (λ ts us. own ts ∷ us) same_taken same_left

    trees_now : forest_of (reverse (stack_of now)) ≡ joined (before (stack_of table) k) (one (made (stack_of table) k label))
    trees_now = ap (λ ts. forest_of (reverse ts)) stack_now ∙ grown (stack_of table) k label

    nodes_now : now ≡ nodes 0 (forest_of (reverse (stack_of now)))
    nodes_now =
        let f = before (stack_of table) k in
        let g = below (stack_of table) k in
        pushed
        ∙ ap₂ (λ ns is. ns ++ node_of label is ∷ []) (begun.nodes_are ∙ ap (nodes 0) (parted (stack_of table) k) ∙ nodes-joined 0 f g) its_ids
        ∙ append_assoc (nodes 0 f) (nodes (0 + size f) g) (node_of label (roots (size f) g) ∷ [])
        ∙ ap (λ n. nodes 0 f ++ (nodes n g ++ node_of label (roots (size f) g) ∷ [])) (omega arith)
        ∙ sym (ap (nodes 0) trees_now ∙ nodes-joined 0 f (one (made (stack_of table) k label))
        ∙ ap (λ n. nodes 0 f ++ (nodes n g ++ node_of label (roots n g) ∷ [])) (omega arith))

    pub begun_now : (first : ℕ) (root : SynId) (lowest2 : List ℕ) (ids2 : List SynId) → first ≡ size (before (stack_of table) k) → root.number ≡ length table
        → lowest2 ≡ lowest ++ first ∷ [] → ids2 ≡ take (length ids - k) ids ++ root ∷ [] → IsBegun now lowest2 ids2
    begun_now first root lowest2 ids2 is_first is_root lowest_pushed ids_pushed =
        let f = before (stack_of table) k in
        let g = below (stack_of table) k in
        let many_nodes = ap length begun.nodes_are ∙ length-nodes 0 (forest_of (reverse (stack_of table))) ∙ ap size (parted (stack_of table) k) ∙ size-joined f g in
        let as_id : ℕ → List SynId = λ n. record { number = n } ∷ [] in
        record {
          nodes_are = nodes_now;
          lowest_are = lowest_pushed
              ∙ ap₂ (λ ns n. ns ++ n ∷ []) (begun.lowest_are ∙ ap (firsts 0) (parted (stack_of table) k) ∙ firsts-joined 0 f g) is_first
              ∙ append_assoc (firsts 0 f) (firsts (0 + size f) g) (size f ∷ [])
              ∙ ap (λ n. firsts 0 f ++ (firsts n g ++ size f ∷ [])) (omega arith)
              ∙ sym (ap (firsts 0) trees_now ∙ firsts-joined 0 f (one (made (stack_of table) k label))
              ∙ ap (λ n. firsts 0 f ++ (firsts n g ++ n ∷ [])) (omega arith));
          roots_are = ids_pushed
              ∙ ap₂ (λ is n. is ++ as_id n) (left_ids (stack_of table) k ids begun.roots_are) (is_root ∙ many_nodes)
              ∙ sym (ap (roots 0) trees_now ∙ roots-joined 0 f (one (made (stack_of table) k label)) ∙ ap (λ n. roots 0 f ++ as_id (n + size g)) (omega arith));
        }

-- ---- a table that is whole

pub alone_whole : (table : List SynNode) (lowest : List ℕ) (ids : List SynId) → IsBegun table lowest ids → (t : Tree) → stack_of table ≡ t ∷ [] → table ≡ table_of t
alone_whole table lowest ids begun t alone = begun.nodes_are ∙ ap (λ ts. nodes 0 (forest_of (reverse ts))) alone
