-- A function stands in the unit alone.
use Rattle.std.proofs.Common.{◌≡◌, ◌⊎◌, inl, inr, ℕ, ◌<◌, ◌≤◌, Bool, true, false, List, [], ◌∷◌, Some, refl, sym, ap, ◌∙◌, subst, arith, true≢false}
use Rattle.std.specs.Prelude.{slice_get, if◌then◌else◌}
use Rattle.c_lexer.specs.declared.token.Token.{Token}
use Rattle.c_syntax.specs.declared.kind.SynKind.{SynKind}
use Rattle.c_syntax.specs.declared.kind.SynKind.TheVariants as kind
use Rattle.c_syntax.specs.Trees.{Tree}
use Rattle.c_syntax.specs.Tables.{size}
use Rattle.c_grammar.specs.Derivation.{IsTreeOf}
use Rattle.c_grammar.specs.Vocabulary.{is_storage_word, is_type_word}
use Rattle.c_typing.specs.Places.{Node, nodes}
use Rattle.c_typing.specs.Shapes as category
use Rattle.c_typing.specs.Shapes.{Category, category_by, declarator_over, in_parentheses, categories, category_of, stands_in, at_places, categories_of}
use Rattle.c_typing.specs.ShapesOfNodes.{category_at, HasParent}
use Rattle.c_typing.proofs.ShapesLaw.{root_is_unit}
use Rattle.c_typing.proofs.ShapesNodes.{node_placed, node_has_parent}
use Rattle.c_typing.proofs.MadeNodes.{In, in_at, in_back, nested, node_below, root_node, root_among, root_label, root_last}
use Rattle.c_typing.proofs.MadePlaced.{numbered, found}

module _ (tokens : List Token) (t : Tree) (derived : IsTreeOf tokens t) where
  -- the category of a node by its kind
  pub category_is : (n : ℕ) (m : Node) → slice_get (nodes t) n ≡ Some m → (cs : List Category) × (category_at t n ≡ category_by m.label.kind m.label.text cs)
  category_is n m e = (_, (node_placed tokens t derived n m e).fits.category)

  abbrev stands_nowhere : Category → Bool
  stands_nowhere category.unit = true
  stands_nowhere c = false

  unit_stands_nowhere : (k : SynKind) → stands_in category.unit k ≡ true → ⊥
  unfolding stands_in
  unit_stands_nowhere k e = absurd (true≢false (sym e))

  function_stands : (k : SynKind) → stands_in category.function k ≡ true → k ≡ kind.Unit
  unfolding stands_in
  function_stands kind.Unit e = refl
  function_stands _ e = absurd (true≢false (sym e))

  by_unit : (k : SynKind) (text : List ℕ) (cs : List Category) → k ≡ kind.Unit → category_by k text cs ≡ category.unit
  unfolding category_by
  by_unit k text cs e = rw e refl

  by_function : (k : SynKind) (text : List ℕ) (cs : List Category) → k ≡ kind.Function → category_by k text cs ≡ category.function
  unfolding category_by
  by_function k text cs e = rw e refl

  same_node : (n : ℕ) (x y : Node) → slice_get (nodes t) n ≡ Some x → slice_get (nodes t) n ≡ Some y → x ≡ y
  same_node n x y e f = let same : Some x ≡ Some y = sym e ∙ f in cc same

  -- a node that is not the last is no root
  is_root : (n : ℕ) (m : Node) → slice_get (nodes t) n ≡ Some m → size t.kids ≤ n → m ≡ root_node t
  is_root n m e most =
      let id = numbered tokens t derived n m e in
      let low = node_below t m (in_at m (nodes t) n e) in
      let last = root_last t in
      let at : (root_node t).id ≡ n = omega (arith, id, low, last, most) in
      same_node n m (root_node t) e (subst (λ j. slice_get (nodes t) j ≡ Some (root_node t)) at (found tokens t derived (root_node t) (root_among t)))

  function_below : (n : ℕ) (m : Node) → slice_get (nodes t) n ≡ Some m → m.label.kind ≡ kind.Function → n < size t.kids
  function_below n m e f = by (or_not n (size t.kids))
    where
      or_not : (a b : ℕ) → (a < b) ⊎ (b ≤ a)
      or_not a b = grind arith

      by : (n < size t.kids) ⊎ (size t.kids ≤ n) → n < size t.kids
      by (inl lt) = lt
      by (inr most) =
          let label = ap (λ (x : Node). x.label) (is_root n m e most) ∙ root_label t in
          let unit = root_is_unit tokens t derived in
          let fun : category_of t ≡ category.function = by_function t.label.kind t.label.text (categories t.kids) (sym (ap (λ l. l.kind) label) ∙ f) in
          let clash : category.unit ≡ category.function = sym unit ∙ fun in
          absurd (cc clash)

  pub unit_is_root : (n : ℕ) (m : Node) → slice_get (nodes t) n ≡ Some m → m.label.kind ≡ kind.Unit → size t.kids ≤ n
  unit_is_root n m e f = by (or_not n (size t.kids))
    where
      or_not : (a b : ℕ) → (a < b) ⊎ (b ≤ a)
      or_not a b = grind arith

      by : (n < size t.kids) ⊎ (size t.kids ≤ n) → size t.kids ≤ n
      by (inr most) = most
      by (inl lt) =
          let p = node_has_parent tokens t derived n m e lt in
          let is = category_is n m e in
          let unit : category_at t n ≡ category.unit = is.1 ∙ by_unit m.label.kind m.label.text is.0 f in
          absurd (unit_stands_nowhere p.parent.label.kind (subst (λ c. stands_in c p.parent.label.kind ≡ true) unit p.stands))

  -- what is around a function is the unit
  pub around_function : (n : ℕ) (m x : Node) → slice_get (nodes t) n ≡ Some m → m.label.kind ≡ kind.Function → In x (nodes t) → x.first ≤ n → n < x.id → x.label.kind ≡ kind.Unit
  around_function n m x e f h low high =
      let p = node_has_parent tokens t derived n m e (function_below n m e f) in
      let is = category_is n m e in
      let fun : category_at t n ≡ category.function = is.1 ∙ by_function m.label.kind m.label.text is.0 f in
      let unit : p.parent.label.kind ≡ kind.Unit = function_stands p.parent.label.kind (subst (λ c. stands_in c p.parent.label.kind ≡ true) fun p.stands) in
      let most = unit_is_root m.parent p.parent p.found unit in
      let at = numbered tokens t derived m.parent p.parent p.found in
      let kid : In n p.parent.kids = subst (λ ks. In n ks) (sym p.among) (in_back n p.front (n ∷ p.back) (inl refl)) in
      let wide = nested t x p.parent n h (in_at p.parent (nodes t) m.parent p.found) kid low high in
      let there = found tokens t derived x h in
      let root = is_root x.id x there (omega (arith, wide, at, most)) in
      let parent_root = is_root m.parent p.parent p.found most in
      ap (λ (y : Node). y.label.kind) (root ∙ sym parent_root) ∙ unit

  abbrev pub is_unit_category : Category → Bool
  is_unit_category category.unit = true
  is_unit_category c = false

  over_no_unit : (cs : List Category) → is_unit_category (declarator_over cs) ≡ true → ⊥
  over_no_unit [] e = true≢false (sym e)
  over_no_unit (category.declarator ∷ cs) e = true≢false (sym e)
  over_no_unit (category.abstract_declarator ∷ cs) e = true≢false (sym e)
  over_no_unit (category.no_name ∷ cs) e = true≢false (sym e)
  over_no_unit (_ ∷ cs) e = true≢false (sym e)

  paren_no_unit : (cs : List Category) → is_unit_category (in_parentheses cs) ≡ true → ⊥
  paren_no_unit [] e = true≢false (sym e)
  paren_no_unit (category.expression level ∷ cs) e = true≢false (sym e)
  paren_no_unit (category.declarator ∷ cs) e = true≢false (sym e)
  paren_no_unit (category.abstract_declarator ∷ cs) e = true≢false (sym e)
  paren_no_unit (category.no_name ∷ cs) e = true≢false (sym e)
  paren_no_unit (_ ∷ cs) e = true≢false (sym e)

  word_no_unit : (a b : Bool) → is_unit_category (if a then category.storage_word else (if b then category.type_specifier else category.typedef_name)) ≡ true → ⊥
  word_no_unit true b e = true≢false (sym e)
  word_no_unit false true e = true≢false (sym e)
  word_no_unit false false e = true≢false (sym e)

  pub unit_kind : (k : SynKind) (text : List ℕ) (cs : List Category) → is_unit_category (category_by k text cs) ≡ true → k ≡ kind.Unit
  unfolding category_by
  unit_kind kind.Unit text cs e = refl
  unit_kind kind.Pointer text cs e = absurd (over_no_unit cs e)
  unit_kind kind.ArrayOf text cs e = absurd (over_no_unit cs e)
  unit_kind kind.Paren text cs e = absurd (paren_no_unit cs e)
  unit_kind kind.Word text cs e = absurd (word_no_unit (is_storage_word text) (is_type_word text) e)
  unit_kind k text cs e = absurd (true≢false (sym e))

  -- what is no unit has a parent
  pub has_parent : (n : ℕ) (m : Node) → slice_get (nodes t) n ≡ Some m → (category_at t n ≡ category.unit → ⊥) → HasParent t n m
  has_parent n m e other = by (or_not n (size t.kids))
    where
      or_not : (a b : ℕ) → (a < b) ⊎ (b ≤ a)
      or_not a b = grind arith

      by : (n < size t.kids) ⊎ (size t.kids ≤ n) → HasParent t n m
      by (inl lt) = node_has_parent tokens t derived n m e lt
      by (inr most) =
          let label = ap (λ (x : Node). x.label) (is_root n m e most) ∙ root_label t in
          let root : t.label.kind ≡ kind.Unit = unit_kind t.label.kind t.label.text (categories t.kids) (ap is_unit_category (root_is_unit tokens t derived)) in
          let is = category_is n m e in
          absurd (other (is.1 ∙ by_unit m.label.kind m.label.text is.0 (ap (λ l. l.kind) label ∙ root)))
