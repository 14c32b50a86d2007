-- Nodes of a table and the trees that they are the roots of.
use Rattle.std.proofs.Common.{◌≡◌, ℕ, zero, suc, ◌+◌, ◌<◌, ◌≤◌, List, [], ◌∷◌, ◌++◌, length, Some, refl, sym, ap, ap₂, ◌∙◌, subst, arith, append_assoc, append-nil, length-append}
use Rattle.std.specs.Prelude.{slice_get}
use Rattle.std.proofs.Math.ListN.{get_or}
use Rattle.std.proofs.Math.Nat.{le-max_left, le-max_right}
use Rattle.std.specs.List.{AllByRecursion}
use Rattle.c_syntax.specs.declared.label.Label.{Label}
use Rattle.c_syntax.specs.declared.syntax.SynId.{SynId}
use Rattle.c_syntax.specs.declared.syntax.SynNode.{SynNode}
use Rattle.c_syntax.specs.Trees.{Tree, Forest, none, tree, ◌then◌, forest_height, height, max_height}
use Rattle.c_syntax.specs.Tables.{size, roots, nodes, node_of, label_of, table_of, StandAll, no_ids, and_id, StandsFor, StandsWithin, InOrderFrom, IsInOrder}
use Rattle.c_syntax.specs.TreeText.{line, lines, tree_lines}
use Rattle.c_syntax.proofs.TreeLaws.{length-nodes}

same_node : (n m : SynNode) → Some n ≡ Some m → n ≡ m
same_node n m e = cc e

-- the root and its kids
pub begins : (table : List SynNode) (id : SynId) (label : Label) (kids : Forest) (node : SynNode) → slice_get table id.number ≡ Some node
    → StandAll table (id ∷ []) (tree label kids none) → (label ≡ label_of node) × StandAll table node.kids kids
begins table id label kids node e (and_id _ _ n _ _ f k r) =
    let same = same_node n node (sym f ∙ e) in
    (ap label_of same, subst (λ (m : SynNode). StandAll table m.kids kids) same k)

-- one id after another
pub goes_on : (table : List SynNode) (id : SynId) (ids : List SynId) (f : Forest) → StandAll table (id ∷ ids) f
    → (t : Tree) × (rest : Forest) × (f ≡ t then rest) × StandsFor table id t × StandAll table ids rest
goes_on table id ids f (and_id _ _ n kids rest e k r) = (record { label = label_of n; kids = kids }, rest, refl, and_id id [] n kids none e k no_ids, r)

pub ends : (table : List SynNode) (f : Forest) → StandAll table [] f → f ≡ none
ends table none h = refl
ends table (tree label kids rest) h = elim h [ ]

-- ---- the table of a tree

-- the element behind a front
slice_get_seam : (before : List SynNode) (n : SynNode) (after : List SynNode) → slice_get (before ++ n ∷ after) (length before) ≡ Some n
slice_get_seam [] n after = refl
slice_get_seam (m ∷ before) n after = slice_get_seam before n after

pub stand_within : (table before : List SynNode) (first : ℕ) (f : Forest) (after : List SynNode) → table ≡ before ++ (nodes first f ++ after) → first ≡ length before
    → StandAll table (roots first f) f
stand_within table before first none after e at = no_ids
stand_within table before first (tree label kids rest) after e at =
    let own = node_of label (roots first kids) in
    let behind = nodes (first + size kids + 1) rest in
    let opened : table ≡ before ++ (nodes first kids ++ (own ∷ (behind ++ after))) = e ∙ ap (λ ns. before ++ ns) (append_assoc (nodes first kids) (own ∷ behind) after) in
    let front = before ++ nodes first kids in
    let here : table ≡ front ++ (own ∷ (behind ++ after)) = opened ∙ sym (append_assoc before (nodes first kids) (own ∷ (behind ++ after))) in
    let long : first + size kids ≡ length front = ap₂ (λ a b. a + b) at (sym (length-nodes first kids)) ∙ sym (length-append before (nodes first kids)) in
    let found : slice_get table (first + size kids) ≡ Some own = ap₂ slice_get here long ∙ slice_get_seam front own (behind ++ after) in
    let longer : first + size kids + 1 ≡ length (front ++ own ∷ []) = let h = length-append front (own ∷ []) in omega (arith, long, h) in
    and_id (record { number = first + size kids }) (roots (first + size kids + 1) rest) own kids rest found
    (stand_within table before first kids (own ∷ (behind ++ after)) opened at)
    (stand_within table (front ++ own ∷ []) (first + size kids + 1) rest after (here ∙ sym (append_assoc front (own ∷ []) (behind ++ after))) longer)

pub root_stands : (t : Tree) (root : SynId) → root.number + 1 ≡ length (table_of t) → StandsFor (table_of t) root t
root_stands t root e =
    let whole : Forest = tree t.label t.kids none in
    let table = table_of t in
    let long = length-nodes 0 whole in
    let same : root.number ≡ 0 + size t.kids = omega (arith, e, long) in
    let as_id : ℕ → SynId = λ n. record { number = n } in
    subst (λ (id : SynId). StandsFor table id t) (ap as_id (sym same)) (stand_within table [] 0 whole [] (sym (append-nil table)) refl)

-- ---- kids before their parents

below_more : (m n : ℕ) (ids : List SynId) → m ≤ n → AllByRecursion (λ (id : SynId). id.number < m) ids → AllByRecursion (λ (id : SynId). id.number < n) ids
below_more m n [] le h = tt
below_more m n (id ∷ ids) le h = let lt = h.0 in (omega (arith, lt, le), below_more m n ids le h.1)

roots_below : (first : ℕ) (f : Forest) → AllByRecursion (λ (id : SynId). id.number < first + size f) (roots first f)
roots_below first none = tt
roots_below first (tree label kids rest) = (
  omega arith,
  below_more (first + size kids + 1 + size rest) (first + size (tree label kids rest)) (roots (first + size kids + 1) rest) (omega arith) (roots_below (first + size kids + 1) rest),
)

order-append : (id : ℕ) (xs ys : List SynNode) → InOrderFrom id xs → InOrderFrom (id + length xs) ys → InOrderFrom id (xs ++ ys)
order-append id [] ys h k = subst (λ n. InOrderFrom n ys) (omega arith) k
order-append id (x ∷ xs) ys h k = (h.0, order-append (suc id) xs ys h.1 (subst (λ n. InOrderFrom n ys) (omega arith) k))

order_from : (first : ℕ) (f : Forest) → InOrderFrom first (nodes first f)
order_from first none = tt
order_from first (tree label kids rest) =
    let own = node_of label (roots first kids) in
    let long = length-nodes first kids in
    let this : first + length (nodes first kids) ≡ first + size kids = omega (arith, long) in
    order-append first (nodes first kids) (own ∷ nodes (first + size kids + 1) rest) (order_from first kids)
    (subst (λ n. InOrderFrom n (own ∷ nodes (first + size kids + 1) rest)) (sym this)
    (roots_below first kids, subst (λ n. InOrderFrom n (nodes (first + size kids + 1) rest)) (omega arith) (order_from (first + size kids + 1) rest)))

pub table_in_order : (t : Tree) → IsInOrder (table_of t)
table_in_order t = order_from 0 (tree t.label t.kids none)

-- the kids of the node at a place
pub kids_below : (id : ℕ) (table : List SynNode) (i : ℕ) (n : SynNode) → InOrderFrom id table → slice_get table i ≡ Some n → AllByRecursion (λ (kid : SynId). kid.number < id + i) n.kids
kids_below id [] i n h e = absurd (cc e)
kids_below id (m ∷ table) zero n h e =
    subst (λ k. AllByRecursion (λ (kid : SynId). kid.number < k) n.kids) (omega arith) (subst (λ (k : SynNode). AllByRecursion (λ (kid : SynId). kid.number < id) k.kids) (same_node m n e) h.0)
kids_below id (m ∷ table) (suc i) n h e = subst (λ k. AllByRecursion (λ (kid : SynId). kid.number < k) n.kids) (omega arith) (kids_below (suc id) table i n h.1 e)

pub kid_at : (m : ℕ) (ids : List SynId) (i : ℕ) (d : SynId) → AllByRecursion (λ (id : SynId). id.number < m) ids → i < length ids → (get_or ids i d).number < m
kid_at m [] i d h lt = absurd (omega (arith, lt))
kid_at m (id ∷ ids) zero d h lt = h.0
kid_at m (id ∷ ids) (suc i) d h lt = kid_at m ids i d h.1 (omega (arith, lt))

-- ---- the limit

some_inside : (table : List SynNode) (i : ℕ) (n : SynNode) → slice_get table i ≡ Some n → i < length table
some_inside [] i n e = absurd (cc e)
some_inside (m ∷ table) zero n e = omega arith
some_inside (m ∷ table) (suc i) n e = let more = some_inside table i n e in omega (arith, more)

pub stands_inside : (table : List SynNode) (id : SynId) (t : Tree) → StandsFor table id t → id.number < length table
stands_inside table id t (and_id _ _ n kids rest e k r) = some_inside table id.number n e

first_height : (t : Tree) (rest f : Forest) (high : ℕ) → f ≡ t then rest → forest_height f ≤ high → height t ≤ high
first_height t rest f high e low = let same = ap forest_height e in let most = le-max_left (height t) (forest_height rest) in omega (arith, low, same, most)

rest_height : (t : Tree) (rest f : Forest) (high : ℕ) → f ≡ t then rest → forest_height f ≤ high → forest_height rest ≤ high
rest_height t rest f high e low = let same = ap forest_height e in let most = le-max_right (height t) (forest_height rest) in omega (arith, low, same, most)

-- a tree among the kids that are left stands within the limit too
pub kid_within : (table : List SynNode) (level high : ℕ) (kid : SynId) (ids : List SynId) (f : Forest) → StandAll table (kid ∷ ids) f → forest_height f ≤ high
    → level + (1 + high) ≤ max_height → StandsWithin table kid (level + 1)
kid_within table level high kid ids f stands low limit =
    let p = goes_on table kid ids f stands in
    let first = first_height p.0 p.1 f high p.2 low in
    record { of = p.0; stands = p.3; low = omega (arith, first, limit) }

-- the root of a table stands within the limit
pub root_within : (t : Tree) (table : List SynNode) (root : SynId) → table ≡ table_of t → root.number + 1 ≡ length table → height t ≤ max_height → StandsWithin table root 0
root_within t table root whole last low =
    record { of = t; stands = subst (λ ns. StandsFor ns root t) (sym whole) (root_stands t root (last ∙ ap length whole)); low = omega (arith, low) }

-- ---- the text of a tree, line after line

module _ (table : List SynNode) (level : ℕ) (out now : List ℕ) where
  -- behind the line of the root
  pub text_begins : (id : SynId) (t : Tree) (node : SynNode) → slice_get table id.number ≡ Some node → StandsFor table id t → now ≡ out ++ line level (label_of node)
      → (rest : Forest) × StandAll table node.kids rest × (now ++ lines (level + 1) rest ≡ out ++ tree_lines level t) × (forest_height rest ≤ forest_height t.kids)
  text_begins id t node e stands put =
      let p = begins table id t.label t.kids node e stands in (
        t.kids,
        p.1,
        ap (λ o. o ++ lines (level + 1) t.kids) put
            ∙ append_assoc out (line level (label_of node)) (lines (level + 1) t.kids)
            ∙ ap (λ l. out ++ (line level l ++ lines (level + 1) t.kids)) (sym p.0),
        omega arith,
      )

  -- behind the lines of a kid
  pub text_goes_on : (kid : SynId) (ids : List SynId) (f : Forest) (whole : List ℕ) (high : ℕ) → StandAll table (kid ∷ ids) f → out ++ lines level f ≡ whole → forest_height f ≤ high
      → ((t : Tree) → StandsFor table kid t → now ≡ out ++ tree_lines level t)
      → (rest : Forest) × StandAll table ids rest × (now ++ lines level rest ≡ whole) × (forest_height rest ≤ high)
  text_goes_on kid ids f whole high stands text low put =
      let p = goes_on table kid ids f stands in (
        p.1,
        p.4,
        ap (λ o. o ++ lines level p.1) (put p.0 p.3)
            ∙ append_assoc out (tree_lines level p.0) (lines level p.1)
            ∙ ap (λ g. out ++ lines level g) (sym p.2)
            ∙ text,
        rest_height p.0 p.1 f high p.2 low,
      )

  -- behind the last kid
  pub text_ends : (f : Forest) (whole : List ℕ) → StandAll table [] f → out ++ lines level f ≡ whole → out ≡ whole
  text_ends f whole stands text = sym (append-nil out) ∙ ap (λ g. out ++ lines level g) (sym (ends table f stands)) ∙ text
