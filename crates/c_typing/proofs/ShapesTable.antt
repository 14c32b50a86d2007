-- The categories of the nodes of a table, and the shape of the node at each place.
use Rattle.std.proofs.Common.{◌≡◌, ℕ, zero, suc, ◌+◌, Bool, true, false, ◌&&◌, List, [], ◌∷◌, ◌++◌, length, Some, refl, sym, ap, ap₂, ◌∙◌, subst, arith, append_assoc, append-nil, length-append, zero-add, true≢false}
use Rattle.std.specs.Prelude.{slice_get, get_or}
use Rattle.std.proofs.Math.Seq.{get_or-append_seam}
use Rattle.c_lexer.specs.declared.token.Token.{Token}
use Rattle.c_syntax.specs.declared.label.Label.{Label}
use Rattle.c_syntax.specs.declared.syntax.SynId.{SynId}
use Rattle.c_syntax.specs.declared.syntax.SynNode.{SynNode}
use Rattle.c_syntax.specs.Trees.{Tree, Forest, none, tree, one}
use Rattle.c_syntax.specs.Tables.{size, roots, nodes, node_of, table_of}
use Rattle.c_syntax.proofs.TreeLaws.{length-nodes}
use Rattle.c_grammar.specs.Derivation.{IsTreeOf}
use Rattle.c_typing.specs.Shapes as category
use Rattle.c_typing.specs.Shapes.{Category, category_by, categories, at_places, categories_behind, categories_of, text_fits, bytes_fit, value_fits, kids_fit, are_apart, has_shape, are_shaped, Fits}
use Rattle.c_typing.proofs.ShapesLaw.{all_shaped}

-- ---- the categories of trees, in post-order

unfoldable pub listed : Forest → List Category
listed none = []
listed (tree label kids rest) = listed kids ++ (category_by label.kind label.text (categories kids) ∷ listed rest)

length-listed : (f : Forest) → length (listed f) ≡ size f
unfolding listed
length-listed none = refl
length-listed (tree label kids rest) =
    let below = length-listed kids in
    let more = length-listed rest in
    let whole = length-append (listed kids) (category_by label.kind label.text (categories kids) ∷ listed rest) in
    omega (arith, below, more, whole)

-- the lists where the root of the first tree stands
module _ (before behind : List Category) (label : Label) (kids rest : Forest) where
  unfoldable pub own : Category
  own = category_by label.kind label.text (categories kids)

  unfoldable pub front : List Category
  front = before ++ listed kids

  at_root : before ++ (listed (tree label kids rest) ++ behind) ≡ front ++ (own ∷ (listed rest ++ behind))
  unfolding listed own front
  at_root = ap (λ cs. before ++ cs) (append_assoc (listed kids) (own ∷ listed rest) behind) ∙ sym (append_assoc before (listed kids) (own ∷ (listed rest ++ behind)))

  pub behind_root : before ++ (listed (tree label kids rest) ++ behind) ≡ (front ++ own ∷ []) ++ (listed rest ++ behind)
  behind_root = at_root ∙ sym (append_assoc front (own ∷ []) (listed rest ++ behind))

  long_front : (first : ℕ) → first ≡ length before → first + size kids ≡ length front
  unfolding front
  long_front first e =
      let below = length-listed kids in
      let whole = length-append before (listed kids) in
      omega (arith, e, below, whole)

  pub longer_front : (first : ℕ) → first ≡ length before → first + size kids + 1 ≡ length (front ++ own ∷ [])
  longer_front first e =
      let long = long_front first e in
      let whole = length-append front (own ∷ []) in
      omega (arith, long, whole)

  pub found : (first : ℕ) → first ≡ length before → get_or (before ++ (listed (tree label kids rest) ++ behind)) (first + size kids) category.no_category ≡ own
  found first e = ap₂ (λ cs n. get_or cs n category.no_category) at_root (long_front first e) ∙ get_or-append_seam front own (listed rest ++ behind) category.no_category

-- those of the roots
listed_roots : (before behind : List Category) (first : ℕ) (f : Forest) → first ≡ length before → at_places (before ++ (listed f ++ behind)) (roots first f) ≡ categories f
unfolding own
listed_roots before behind first none e = refl
listed_roots before behind first (tree label kids rest) e =
    ap₂ (λ c cs. c ∷ cs) (found before behind label kids rest first e)
    (ap (λ cs. at_places cs (roots (first + size kids + 1) rest)) (behind_root before behind label kids rest)
    ∙ listed_roots (front before behind label kids rest ++ own before behind label kids rest ∷ []) behind (first + size kids + 1) rest (longer_front before behind label kids rest first e))

-- a table has the categories of its trees
listed_behind : (before : List Category) (first : ℕ) (f : Forest) (more : List SynNode) → first ≡ length before
    → categories_behind before (nodes first f ++ more) ≡ categories_behind (before ++ listed f) more
unfolding listed own front
listed_behind before first none more e = ap (λ cs. categories_behind cs more) (sym (append-nil before))
listed_behind before first (tree label kids rest) more e =
    let root = node_of label (roots first kids) in
    let later = nodes (first + size kids + 1) rest in
    let front_here = before ++ listed kids in
    let own_here = category_by label.kind label.text (categories kids) in
    let kids_are : at_places front_here (roots first kids) ≡ categories kids =
    ap (λ cs. at_places (before ++ cs) (roots first kids)) (sym (append-nil (listed kids))) ∙ listed_roots before [] first kids e in
    ap (categories_behind before) (append_assoc (nodes first kids) (root ∷ later) more)
    ∙ listed_behind before first kids (root ∷ (later ++ more)) e
    ∙ ap (λ cs. categories_behind (front_here ++ category_by label.kind label.text cs ∷ []) (later ++ more)) kids_are
    ∙ listed_behind (front_here ++ own_here ∷ []) (first + size kids + 1) rest more (longer_front before [] label kids rest first e)
    ∙ ap (λ cs. categories_behind cs more) (append_assoc front_here (own_here ∷ []) (listed rest) ∙ append_assoc before (listed kids) (own_here ∷ listed rest))

pub listed_table : (t : Tree) → categories_of (table_of t) ≡ listed (one t)
listed_table t = ap (λ ns. categories_behind [] ns) (sym (append-nil (table_of t))) ∙ listed_behind [] 0 (one t) [] refl

-- ---- the shape of the node at each place

-- each node fits, where the first stands at this place
FitFrom : List Category → ℕ → List SynNode → Type 0
FitFrom known place [] = Unit {0}
FitFrom known place (n ∷ rest) = Fits known place n × FitFrom known (suc place) rest

fit-append : (known : List Category) (place : ℕ) (xs ys : List SynNode) → FitFrom known place xs → FitFrom known (place + length xs) ys → FitFrom known place (xs ++ ys)
unfolding FitFrom
fit-append known place [] ys h k = subst (λ n. FitFrom known n ys) (omega arith) k
fit-append known place (x ∷ xs) ys h k = (h.0, fit-append known (suc place) xs ys h.1 (subst (λ n. FitFrom known n ys) (omega arith) k))

fit_at : (known : List Category) (place : ℕ) (ns : List SynNode) (i : ℕ) (n : SynNode) → FitFrom known place ns → slice_get ns i ≡ Some n → Fits known (place + i) n
unfolding FitFrom
fit_at known place [] i n h e = absurd (cc e)
fit_at known place (m ∷ ns) zero n h e = subst (λ (k : SynNode). Fits known (place + 0) k) (same m n e) (subst (λ (j : ℕ). Fits known j m) (omega arith) h.0)
  where
    same : (m n : SynNode) → Some m ≡ Some n → m ≡ n
    same m n e = cc e
fit_at known place (m ∷ ns) (suc i) n h e = subst (λ j. Fits known j n) (omega arith) (fit_at known (suc place) ns i n h.1 e)

all_five : (p q r s t : Bool) → p && (q && (r && (s && t))) ≡ true → (p ≡ true) × (q ≡ true) × (r ≡ true) × (t ≡ true)
all_five true true true true t e = (refl, refl, refl, e)
all_five true true true false t e = absurd (true≢false (sym e))
all_five true true false s t e = absurd (true≢false (sym e))
all_five true false r s t e = absurd (true≢false (sym e))
all_five false q r s t e = absurd (true≢false (sym e))

pub record Parts (label : Label) (kids : Forest) : Type 0 where
  pub text : text_fits label.kind label.text ≡ true
  pub bytes : bytes_fit label.kind label.bytes ≡ true
  pub value : value_fits label.kind label.value ≡ true
  pub fit : kids_fit label.kind label.text (categories kids) ≡ true

pub parts : (label : Label) (kids : Forest) → has_shape (record { label = label; kids = kids }) ≡ true → Parts label kids
unfolding has_shape
parts label kids e =
    let all = all_five (text_fits label.kind label.text) (bytes_fit label.kind label.bytes) (value_fits label.kind label.value) (are_apart label.kind kids) (kids_fit label.kind label.text (categories kids)) e in
    record { text = all.0; bytes = all.1; value = all.2; fit = all.3 }

all_three : (p q r : Bool) → p && (q && r) ≡ true → (p ≡ true) × (q ≡ true) × (r ≡ true)
all_three true true r e = (refl, refl, e)
all_three true false r e = absurd (true≢false (sym e))
all_three false q r e = absurd (true≢false (sym e))

pub apart : (label : Label) (kids rest : Forest) → are_shaped (tree label kids rest) ≡ true
    → (has_shape (record { label = label; kids = kids }) ≡ true) × (are_shaped kids ≡ true) × (are_shaped rest ≡ true)
unfolding are_shaped
apart label kids rest e = all_three (has_shape (record { label = label; kids = kids })) (are_shaped kids) (are_shaped rest) e

fit_from : (before behind : List Category) (first : ℕ) (f : Forest) → first ≡ length before → are_shaped f ≡ true
    → FitFrom (before ++ (listed f ++ behind)) first (nodes first f)
unfolding FitFrom listed own front
fit_from before behind first none e ok = tt
fit_from before behind first (tree label kids rest) e ok =
    let known = before ++ (listed (tree label kids rest) ++ behind) in
    let front_here = before ++ listed kids in
    let own_here = category_by label.kind label.text (categories kids) in
    let oks = apart label kids rest ok in
    let shape = parts label kids oks.0 in
    let opened : before ++ (listed kids ++ (own_here ∷ (listed rest ++ behind))) ≡ known = ap (λ cs. before ++ cs) (sym (append_assoc (listed kids) (own_here ∷ listed rest) behind)) in
    let kids_are : at_places known (roots first kids) ≡ categories kids =
    ap (λ cs. at_places cs (roots first kids)) (sym opened) ∙ listed_roots before (own_here ∷ (listed rest ++ behind)) first kids e in
    let below = subst (λ cs. FitFrom cs first (nodes first kids)) opened (fit_from before (own_here ∷ (listed rest ++ behind)) first kids e oks.1) in
    let later = subst (λ cs. FitFrom cs (first + size kids + 1) (nodes (first + size kids + 1) rest)) (sym (behind_root before behind label kids rest))
    (fit_from (front_here ++ own_here ∷ []) behind (first + size kids + 1) rest (longer_front before behind label kids rest first e) oks.2) in
    let here : Fits known (first + size kids) (node_of label (roots first kids)) = record {
      category = found before behind label kids rest first e ∙ sym (ap (category_by label.kind label.text) kids_are);
      text = shape.text;
      bytes = shape.bytes;
      value = shape.value;
      kids = ap (kids_fit label.kind label.text) kids_are ∙ shape.fit;
    } in
    let long = length-nodes first kids in
    let at : first + size kids ≡ first + length (nodes first kids) = omega (arith, long) in
    let next : first + size kids + 1 ≡ suc (first + size kids) = omega arith in
    let from_root : FitFrom known (first + size kids) (node_of label (roots first kids) ∷ nodes (first + size kids + 1) rest) =
    (here, subst (λ n. FitFrom known n (nodes (first + size kids + 1) rest)) next later) in
    fit-append known first (nodes first kids) (node_of label (roots first kids) ∷ nodes (first + size kids + 1) rest) below
    (subst (λ n. FitFrom known n (node_of label (roots first kids) ∷ nodes (first + size kids + 1) rest)) at from_root)

pub fits_at : (tokens : List Token) (t : Tree) (id : SynId) (n : SynNode) → IsTreeOf tokens t → slice_get (table_of t) id.number ≡ Some n
    → Fits (categories_of (table_of t)) id.number n
fits_at tokens t id n derived e =
    let all = fit_from [] [] 0 (one t) refl (all_shaped tokens t derived) in
    let known = append-nil (listed (one t)) ∙ sym (listed_table t) in
    subst (λ cs. Fits cs id.number n) known
    (subst (λ k. Fits (listed (one t) ++ []) k n) (zero-add id.number) (fit_at (listed (one t) ++ []) 0 (table_of t) id.number n all e))
