-- A declarator with its initializer does not stand in another one.
use Rattle.std.proofs.Common.{◌≡◌, ◌⊎◌, inl, inr, ℕ, zero, suc, ◌+◌, ◌<◌, ◌≤◌, Bool, true, false, List, ◌∷◌, Some, refl, sym, ap, ◌∙◌, subst, arith, true≢false}
use Rattle.std.specs.Prelude.{slice_get}
use Rattle.c_lexer.specs.declared.token.Token.{Token}
use Rattle.c_syntax.specs.declared.kind.SynKind.{SynKind}
use Rattle.c_syntax.specs.declared.kind.SynKind.TheVariants as kind
use Rattle.c_syntax.specs.Trees.{Tree}
use Rattle.c_grammar.specs.Derivation.{IsTreeOf}
use Rattle.c_typing.specs.Places.{Node, nodes, kid, is_init}
use Rattle.c_typing.specs.Shapes as category
use Rattle.c_typing.specs.Shapes.{Category, category_by, stands_in, holds_statements}
use Rattle.c_typing.specs.ShapesOfNodes.{category_at, HasParent}
use Rattle.c_typing.proofs.ProgressPlaces.{compare}
use Rattle.c_typing.proofs.MadeNodes.{In, in_at, in_back, nested, kid_within, node_below}
use Rattle.c_typing.proofs.MadePlaced.{numbered, found}
use Rattle.c_typing.proofs.MadeTop.{category_is, unit_is_root, has_parent}

no : {A : Type 0} → false ≡ true → A
no e = absurd (true≢false (sym e))

-- ---- what stands outside of expressions

abbrev is_outer : Category → Bool
is_outer category.function = true
is_outer category.declaration = true
is_outer category.init_declarator = true
is_outer category.block = true
is_outer category.empty = true
is_outer category.statement = true
is_outer c = false

-- the kinds of what these stand in
abbrev holds_outer : SynKind → Bool
holds_outer kind.Unit = true
holds_outer kind.Function = true
holds_outer kind.Declaration = true
holds_outer k = holds_statements k

statements_outer : (k : SynKind) → holds_statements k ≡ true → holds_outer k ≡ true
statements_outer kind.Unit e = refl
statements_outer kind.Function e = refl
statements_outer kind.Declaration e = refl
statements_outer _ e = e

outer_stands : (c : Category) (k : SynKind) → is_outer c ≡ true → stands_in c k ≡ true → holds_outer k ≡ true
unfolding stands_in
outer_stands category.function kind.Unit e s = refl
outer_stands category.function _ e s = no s
outer_stands category.declaration kind.Unit e s = refl
outer_stands category.declaration kind.Block e s = refl
outer_stands category.declaration kind.For e s = refl
outer_stands category.declaration _ e s = no s
outer_stands category.init_declarator kind.Declaration e s = refl
outer_stands category.init_declarator _ e s = no s
outer_stands category.block kind.Function e s = refl
outer_stands category.block k e s = statements_outer k s
outer_stands category.empty k e s = statements_outer k s
outer_stands category.statement k e s = statements_outer k s
outer_stands _ k e s = no e

no_init : (k : SynKind) → holds_outer k ≡ true → is_init k ≡ false
no_init kind.InitDecl e = no e
no_init _ e = refl

unit_or_outer : (k : SynKind) (text : List ℕ) (cs : List Category) → holds_outer k ≡ true → (k ≡ kind.Unit) ⊎ (is_outer (category_by k text cs) ≡ true)
unfolding category_by
unit_or_outer kind.Unit text cs e = inl refl
unit_or_outer kind.Function text cs e = inr refl
unit_or_outer kind.Declaration text cs e = inr refl
unit_or_outer kind.Block text cs e = inr refl
unit_or_outer kind.If text cs e = inr refl
unit_or_outer kind.While text cs e = inr refl
unit_or_outer kind.Do text cs e = inr refl
unit_or_outer kind.For text cs e = inr refl
unit_or_outer kind.Switch text cs e = inr refl
unit_or_outer _ text cs e = no e

outer_no_unit : (c : Category) → is_outer c ≡ true → c ≡ category.unit → ⊥
outer_no_unit c e h = no (sym (ap is_outer h) ∙ e)

by_init : (k : SynKind) (text : List ℕ) (cs : List Category) → k ≡ kind.InitDecl → category_by k text cs ≡ category.init_declarator
unfolding category_by
by_init k text cs e = rw e refl

-- ---- nodes of a derived tree

less_or : (a b : ℕ) → a ≤ b → (a < b) ⊎ (a ≡ b)
less_or a b le = grind arith

module _ (tokens : List Token) (t : Tree) (derived : IsTreeOf tokens t) where
  same_number : (x y : Node) → In x (nodes t) → In y (nodes t) → x.id ≡ y.id → x ≡ y
  same_number x y h i e =
      let same : Some x ≡ Some y = sym (found tokens t derived x h) ∙ (ap (λ n. slice_get (nodes t) n) e ∙ found tokens t derived y i) in
      cc same

  -- what such a node stands in is no declarator with its initializer
  outside : (fuel n : ℕ) (m x : Node) → slice_get (nodes t) n ≡ Some m → is_outer (category_at t n) ≡ true → In x (nodes t) → x.first ≤ n → n < x.id → x.id ≤ n + fuel → is_init x.label.kind ≡ false
  outside zero n m x e outer h low high most = absurd (omega (arith, high, most))
  outside (suc fuel) n m x e outer h low high most =
      let q = has_parent tokens t derived n m e (outer_no_unit (category_at t n) outer) in
      let among = in_at q.parent (nodes t) m.parent q.found in
      let kid : In n q.parent.kids = subst (λ ks. In n ks) (sym q.among) (in_back n q.front (n ∷ q.back) (inl refl)) in
      let wide = nested t x q.parent n h among kid low high in
      let id = numbered tokens t derived m.parent q.parent q.found in
      let above = (kid_within t q.parent n among kid).1 in
      let holds = outer_stands (category_at t n) q.parent.label.kind outer q.stands in
      by q among id above holds (λ k y at o low high most. outside fuel k y x at o h low high most) (less_or q.parent.id x.id wide)
    where
      by : (q : HasParent t n m) → In q.parent (nodes t) → q.parent.id ≡ m.parent → n < q.parent.id → holds_outer q.parent.label.kind ≡ true
          → ((k : ℕ) (y : Node) → slice_get (nodes t) k ≡ Some y → is_outer (category_at t k) ≡ true → x.first ≤ k → k < x.id → x.id ≤ k + fuel → is_init x.label.kind ≡ false)
          → (q.parent.id < x.id) ⊎ (q.parent.id ≡ x.id) → is_init x.label.kind ≡ false
      by q among id above holds further (inr same) = ap (λ (y : Node). is_init y.label.kind) (same_number x q.parent h among (sym same)) ∙ no_init q.parent.label.kind holds
      by q among id above holds further (inl less) =
          let is = category_is tokens t derived m.parent q.parent q.found in
          next (unit_or_outer q.parent.label.kind q.parent.label.text is.0 holds) is.1
        where
          next : {c : Category} → (q.parent.label.kind ≡ kind.Unit) ⊎ (is_outer c ≡ true) → category_at t m.parent ≡ c → is_init x.label.kind ≡ false
          next (inl unit) is =
              let last = unit_is_root tokens t derived m.parent q.parent q.found unit in
              let below = node_below t x h in
              absurd (omega (arith, last, below, id, less))
          next (inr more) is = further m.parent q.parent q.found (ap is_outer is ∙ more) (omega (arith, low, above, id)) (omega (arith, id, less)) (omega (arith, most, above, id))

  -- neither stands around the other
  apart_from : (x y : Node) → In x (nodes t) → In y (nodes t) → x.label.kind ≡ kind.InitDecl → y.label.kind ≡ kind.InitDecl → x.first ≤ y.id → y.id < x.id → ⊥
  apart_from x y h i init_x init_y low high =
      let there = found tokens t derived y i in
      let c = category_is tokens t derived y.id y there in
      let init : category_at t y.id ≡ category.init_declarator = c.1 ∙ by_init y.label.kind y.label.text c.0 init_y in
      true≢false (sym (ap is_init init_x) ∙ outside x.id y.id y x there (ap is_outer init) h low high (omega arith))

  -- of two declarators, what the first one belongs to ends before the second one
  module _ (a b : ℕ) (early late : Node) (at_early : In early (nodes t)) (at_late : In late (nodes t)) (init_early : early.label.kind ≡ kind.InitDecl) (init_late : late.label.kind ≡ kind.InitDecl)
      (first_early : kid early 0 ≡ a) (first_late : kid late 0 ≡ b) (kid_early : In a early.kids) (kid_late : In b late.kids) (apart : a < b) where
    inside_no : b < early.id → ⊥
    inside_no lt =
        let low = (kid_within t early a at_early kid_early).0 in
        by (less_or late.id early.id (nested t early late b at_early at_late kid_late (omega (arith, low, apart)) lt))
      where
        by : (late.id < early.id) ⊎ (late.id ≡ early.id) → ⊥
        by (inr same) =
            let equal = same_number late early at_late at_early same in
            let kids : b ≡ a = sym first_late ∙ (ap (λ (x : Node). kid x 0) equal ∙ first_early) in
            absurd (omega (arith, kids, apart))
        by (inl less) =
            let low = (kid_within t early a at_early kid_early).0 in
            let high = (kid_within t late b at_late kid_late).1 in
            apart_from early late at_early at_late init_early init_late (omega (arith, low, apart, high)) less

    pub ends_before : early.id < b
    ends_before = by (compare b early.id) (kid_within t late b at_late kid_late)
      where
        by : (b < early.id) ⊎ (early.id ≤ b) → (late.first ≤ b) × (b < late.id) → early.id < b
        by (inl lt) k = absurd (inside_no lt)
        by (inr le) k = at (less_or early.id b le)
          where
            at : (early.id < b) ⊎ (early.id ≡ b) → early.id < b
            at (inl less) = less
            at (inr same) =
                let low = k.0 in
                let high = k.1 in
                absurd (apart_from late early at_late at_early init_late init_early (omega (arith, low, same)) (omega (arith, high, same)))
