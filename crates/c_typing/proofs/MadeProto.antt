-- A declaration of a function stands in the scope of the unit.
use Rattle.std.proofs.Common.{◌≡◌, ◌⊎◌, inl, inr, ℕ, ◌<◌, ◌≤◌, Bool, true, false, ◌||◌, ◌&&◌, List, [], ◌∷◌, map, Some, refl, sym, ap, ◌∙◌, subst, arith, true≢false}
use Rattle.std.specs.Prelude.{slice_get, if◌then◌else◌, codes, ◌==◌}
use Rattle.c_lexer.specs.declared.token.Token.{Token}
use Rattle.c_syntax.specs.declared.kind.SynKind.{SynKind}
use Rattle.c_syntax.specs.declared.kind.SynKind.TheVariants as kind
use Rattle.c_syntax.specs.Trees.{Tree}
use Rattle.c_syntax.specs.Tables.{size, table_of}
use Rattle.c_grammar.specs.Derivation.{IsTreeOf}
use Rattle.c_grammar.specs.Vocabulary.{is_storage_word, is_type_word}
use Rattle.c_typing.specs.Places.{Node, nodes, node_at, kid, parent_of, says, specs_of, specs_by, is_file_scope, Scope, is_declarator}
use Rattle.c_typing.specs.Names.{typedef_name, function_name, static_object, automatic, places, Name, declared_entity}
use Rattle.c_typing.specs.Rules.{SpecsPlace, is_inside_function, function_in_block, broken_if}
use Rattle.c_typing.specs.Declarators.{place_of_specs, specs_place}
use Rattle.c_typing.specs.Shapes as category
use Rattle.c_typing.specs.Shapes.{Category, no_category, category_by, declarator_over, in_parentheses, kids_fit, at_places, categories_of, stands_in}
use Rattle.c_typing.specs.ShapesOfNodes.{as_id, category_at, HasParent}
use Rattle.c_typing.specs.Typing.{stand_before_function, place_faults_by}
use Rattle.c_typing.proofs.ShapesNodes.{node_placed}
use Rattle.c_typing.proofs.MadeNodes.{In, in_at, in_back, nested, crossed, node_bounds, node_below, kid_within}
use Rattle.c_typing.proofs.MadeParts.{least_kids}
use Rattle.c_typing.proofs.MadePlaced.{Found, numbered, found, node_there, kid_found, kid_in}
use Rattle.c_typing.proofs.MadeAround.{and_true, one_any}
use Rattle.c_typing.proofs.MadeTop.{category_is, has_parent}
use Rattle.c_typing.proofs.MadeWhole.{begins_named, named_so}
use Rattle.c_typing.proofs.MadeScopes.{is_body, ScopeAt, of_unit, of_body, of_parameters, unit_last}
use Rattle.c_typing.proofs.MadeDistinct.{same_id, three_ways, body_unnamed, no_body}
use Rattle.c_typing.proofs.MadeFunctionNames.{Anything, place_known}
use Rattle.c_typing.proofs.MadeKept.{KeptName}

-- ---- what the specifiers say

pub function_so : (s : List Node) (specs : Node) (c : Scope) (f : Bool) → declared_entity s specs c f ≡ function_name → f ≡ true
function_so s specs c f e = by (says s (codes "typedef") specs) f (is_file_scope s c || says s (codes "static") specs || says s (codes "extern") specs) e
  where
    by : (a b d : Bool) → (if a then typedef_name else (if b then function_name else (if d then static_object else automatic))) ≡ function_name → b ≡ true
    by true b d h = absurd (cc h)
    by false true d h = refl
    by false false true h = absurd (cc h)
    by false false false h = absurd (cc h)

outer_unit : (k : SynKind) → is_inside_function (specs_place kind.Declaration k) ≡ false → k ≡ kind.Unit
outer_unit kind.Unit e = refl
outer_unit kind.For e = absurd (true≢false e)
outer_unit _ e = absurd (true≢false e)

not_inside : (place : SpecsPlace) (b : Bool) (n : ℕ) → b ≡ true → function_in_block place b n ≡ [] → is_inside_function place ≡ false
not_inside place b n e h = by (is_inside_function place) (subst (λ q. broken_if (q && is_inside_function place) 2 n ≡ []) e h)
  where
    by : (c : Bool) → broken_if (true && c) 2 n ≡ [] → c ≡ false
    by true g = absurd (cc g)
    by false g = refl

specs_first : (text : List ℕ) (cs : List Category) → kids_fit kind.Declaration text cs ≡ true → slice_get cs 0 ≡ Some category.specifiers
unfolding kids_fit
specs_first text (category.specifiers ∷ cs) e = refl
specs_first text cs e = absurd (true≢false (sym e))

abbrev is_specifiers : Category → Bool
is_specifiers category.specifiers = true
is_specifiers c = false

specs_kind : (k : SynKind) (text : List ℕ) (cs : List Category) → is_specifiers (category_by k text cs) ≡ true → k ≡ kind.Specs
unfolding category_by
specs_kind kind.Specs text cs e = refl
specs_kind kind.Pointer text cs e = absurd (over cs e)
  where
    over : (cs : List Category) → is_specifiers (declarator_over cs) ≡ true → ⊥
    over [] h = true≢false (sym h)
    over (category.declarator ∷ cs) h = true≢false (sym h)
    over (category.abstract_declarator ∷ cs) h = true≢false (sym h)
    over (category.no_name ∷ cs) h = true≢false (sym h)
    over (_ ∷ cs) h = true≢false (sym h)
specs_kind kind.ArrayOf text cs e = absurd (over cs e)
  where
    over : (cs : List Category) → is_specifiers (declarator_over cs) ≡ true → ⊥
    over [] h = true≢false (sym h)
    over (category.declarator ∷ cs) h = true≢false (sym h)
    over (category.abstract_declarator ∷ cs) h = true≢false (sym h)
    over (category.no_name ∷ cs) h = true≢false (sym h)
    over (_ ∷ cs) h = true≢false (sym h)
specs_kind kind.Paren text cs e = absurd (over cs e)
  where
    over : (cs : List Category) → is_specifiers (in_parentheses cs) ≡ true → ⊥
    over [] h = true≢false (sym h)
    over (category.expression level ∷ cs) h = true≢false (sym h)
    over (category.declarator ∷ cs) h = true≢false (sym h)
    over (category.abstract_declarator ∷ cs) h = true≢false (sym h)
    over (category.no_name ∷ cs) h = true≢false (sym h)
    over (_ ∷ cs) h = true≢false (sym h)
specs_kind kind.Word text cs e = absurd (over (is_storage_word text) (is_type_word text) e)
  where
    over : (a b : Bool) → is_specifiers (if a then category.storage_word else (if b then category.type_specifier else category.typedef_name)) ≡ true → ⊥
    over true b h = true≢false (sym h)
    over false true h = true≢false (sym h)
    over false false h = true≢false (sym h)
specs_kind k text cs e = absurd (true≢false (sym e))

module _ (tokens : List Token) (t : Tree) (derived : IsTreeOf tokens t) (clean_at : (node : Node) → In node (nodes t) → place_faults_by (places t) node node.label.kind ≡ [])
    (x : Name) (among : In x (places t).names) (k : KeptName tokens t derived (Anything tokens t derived) x) (fun : x.is_function ≡ true) where
  owner_in : In k.owner (nodes t)
  owner_in = in_at k.owner (nodes t) k.names.low.parent k.owner_there

  owner_at : slice_get (nodes t) k.owner.id ≡ Some k.owner
  owner_at = found tokens t derived k.owner owner_in

  owner_category : category_at t k.owner.id ≡ category.init_declarator
  unfolding category_by
  owner_category = let c = category_is tokens t derived k.owner.id k.owner owner_at in c.1 ∙ subst (λ q. category_by q k.owner.label.text c.0 ≡ category.init_declarator) (sym k.owner_is) refl

  above : HasParent t k.owner.id k.owner
  above = has_parent tokens t derived k.owner.id k.owner owner_at (λ u. clash (sym owner_category ∙ u))
    where
      clash : category.init_declarator ≡ category.unit → ⊥
      clash z = absurd (cc z)

  declaration_is : above.parent.label.kind ≡ kind.Declaration
  unfolding stands_in
  declaration_is = by above.parent.label.kind (subst (λ d. stands_in d above.parent.label.kind ≡ true) owner_category above.stands)
    where
      by : (q : SynKind) → stands_in category.init_declarator q ≡ true → q ≡ kind.Declaration
      by kind.Declaration e = refl
      by _ e = absurd (true≢false (sym e))

  declaration_in : In above.parent (nodes t)
  declaration_in = in_at above.parent (nodes t) k.owner.parent above.found

  declaration_at : slice_get (nodes t) above.parent.id ≡ Some above.parent
  declaration_at = found tokens t derived above.parent declaration_in

  specs : Found t above.parent (kid above.parent 0)
  specs = kid_found tokens t derived k.owner.parent above.parent (kid above.parent 0) above.found (kid_in tokens t derived k.owner.parent above.parent 0 above.found (subst (λ l. 0 < least_kids l) (sym declaration_is) (omega arith)))

  specs_are : specs.node.label.kind ≡ kind.Specs
  specs_are =
      let n = node_placed tokens t derived k.owner.parent above.parent above.found in
      let known = place_known (categories_of (table_of t)) above.parent.kids 0 category.specifiers (specs_first above.parent.label.text (at_places (categories_of (table_of t)) (map as_id above.parent.kids)) (subst (λ q. kids_fit q above.parent.label.text (at_places (categories_of (table_of t)) (map as_id above.parent.kids)) ≡ true) declaration_is n.fits.kids)) in
      let c = category_is tokens t derived (kid above.parent 0) specs.node specs.there in
      specs_kind specs.node.label.kind specs.node.label.text c.0 (ap is_specifiers (sym c.1 ∙ known))

  owner_node : node_at (nodes t) x.owner ≡ k.owner
  owner_node = ap (λ i. node_at (nodes t) i) k.names.owner ∙ node_there tokens t derived k.names.low.parent k.owner k.owner_there

  specs_node : specs_of (nodes t) (node_at (nodes t) x.owner) ≡ specs.node
  specs_node = ap (λ m. specs_of (nodes t) m) owner_node ∙ (by k.owner.label.kind k.owner_is ∙ node_there tokens t derived (kid above.parent 0) specs.node specs.there)
    where
      by : (q : SynKind) → q ≡ kind.InitDecl → node_at (nodes t) (specs_by (nodes t) k.owner q) ≡ node_at (nodes t) (kid above.parent 0)
      by q e = subst (λ z. node_at (nodes t) (specs_by (nodes t) k.owner z) ≡ node_at (nodes t) (kid above.parent 0)) (sym e) (ap (λ (m : Node). node_at (nodes t) (kid m 0)) (node_there tokens t derived k.owner.parent above.parent above.found))

  stands_before : stand_before_function (places t) specs.node ≡ true
  stands_before = one_any (λ (e : Name). e.is_function && (specs_of (nodes t) (node_at (nodes t) e.owner)).id == specs.node.id) (places t).names x among
      (and_true x.is_function ((specs_of (nodes t) (node_at (nodes t) x.owner)).id == specs.node.id) fun (alike (specs_of (nodes t) (node_at (nodes t) x.owner)).id specs.node.id (ap (λ (m : Node). m.id) specs_node)))
    where
      alike : (i j : ℕ) → i ≡ j → (i == j) ≡ true
      alike i j e = grind arith

  specs_parent : parent_of (nodes t) specs.node.id ≡ above.parent
  specs_parent =
      let id = numbered tokens t derived (kid above.parent 0) specs.node specs.there in
      ap (λ (m : Node). node_at (nodes t) m.parent) (node_there tokens t derived specs.node.id specs.node (subst (λ i. slice_get (nodes t) i ≡ Some specs.node) (sym id) specs.there))
      ∙ (ap (λ i. node_at (nodes t) i) specs.below ∙ node_there tokens t derived above.parent.id above.parent declaration_at)

  outer_is : (parent_of (nodes t) above.parent.id).label.kind ≡ kind.Unit
  outer_is =
      let faults = subst (λ q. place_faults_by (places t) specs.node q ≡ []) specs_are (clean_at specs.node (in_at specs.node (nodes t) (kid above.parent 0) specs.there)) in
      let inside = not_inside (place_of_specs (places t) specs.node) (stand_before_function (places t) specs.node) specs.node.id stands_before faults in
      let place : place_of_specs (places t) specs.node ≡ specs_place kind.Declaration (parent_of (nodes t) above.parent.id).label.kind =
      ap (λ (m : Node). specs_place m.label.kind (parent_of (nodes t) m.id).label.kind) specs_parent ∙ ap (λ q. specs_place q (parent_of (nodes t) above.parent.id).label.kind) declaration_is in
      outer_unit (parent_of (nodes t) above.parent.id).label.kind (ap is_inside_function (sym place) ∙ inside)

  declaration_category : category_at t above.parent.id ≡ category.declaration
  unfolding category_by
  declaration_category = let c = category_is tokens t derived above.parent.id above.parent declaration_at in c.1 ∙ subst (λ q. category_by q above.parent.label.text c.0 ≡ category.declaration) (sym declaration_is) refl

  top : HasParent t above.parent.id above.parent
  top = has_parent tokens t derived above.parent.id above.parent declaration_at (λ u. clash (sym declaration_category ∙ u))
    where
      clash : category.declaration ≡ category.unit → ⊥
      clash z = absurd (cc z)

  top_unit : top.parent.label.kind ≡ kind.Unit
  top_unit = ap (λ (m : Node). m.label.kind) (sym (ap (λ (m : Node). node_at (nodes t) m.parent) (node_there tokens t derived above.parent.id above.parent declaration_at) ∙ node_there tokens t derived above.parent.parent top.parent top.found)) ∙ outer_is

  top_in : In top.parent (nodes t)
  top_in = in_at top.parent (nodes t) above.parent.parent top.found

  kid_in_parent : (n : ℕ) (m : Node) (p : HasParent t n m) → In n p.parent.kids
  kid_in_parent n m p = subst (λ ks. In n ks) (sym p.among) (in_back n p.front (n ∷ p.back) (inl refl))

  low_in : In k.names.low (nodes t)
  low_in = in_at k.names.low (nodes t) k.names.low.id k.names.there

  abbrev is_outer_kind : SynKind → Bool
  is_outer_kind kind.InitDecl = true
  is_outer_kind kind.Declaration = true
  is_outer_kind kind.Unit = true
  is_outer_kind q = false

  -- what is larger than the declarator
  larger_here : (y : Node) → In y (nodes t) → y.first ≤ k.names.low.first → k.names.low.id < y.id → is_outer_kind y.label.kind ≡ true
  larger_here y h low lt = one (three_ways k.owner.id y.id) (nested t y k.owner k.names.low.id h owner_in k.kid (omega (arith, low, up)) lt)
    where
      up : k.names.low.first ≤ k.names.low.id
      up = node_bounds t k.names.low low_in

      under_owner : k.names.low.id < k.owner.id
      under_owner = (kid_within t k.owner k.names.low.id owner_in k.kid).1

      under_declaration : k.owner.id < above.parent.id
      under_declaration = (kid_within t above.parent k.owner.id declaration_in (kid_in_parent k.owner.id k.owner above)).1

      three : (top.parent.id < y.id) ⊎ ((top.parent.id ≡ y.id) ⊎ (y.id < top.parent.id)) → top.parent.id ≤ y.id → is_outer_kind y.label.kind ≡ true
      three (inl less) wide =
          let last = unit_last tokens t derived top.parent top_in top_unit in
          let below = node_below t y h in
          absurd (omega (arith, less, last, below))
      three (inr (inl same)) wide = ap (λ (m : Node). is_outer_kind m.label.kind) (same_id tokens t derived y top.parent h top_in (sym same)) ∙ ap is_outer_kind top_unit
      three (inr (inr more)) wide = absurd (omega (arith, wide, more))

      two : (above.parent.id < y.id) ⊎ ((above.parent.id ≡ y.id) ⊎ (y.id < above.parent.id)) → above.parent.id ≤ y.id → is_outer_kind y.label.kind ≡ true
      two (inl less) wide =
          let a = up in
          let b = under_owner in
          let c = under_declaration in
          three (three_ways top.parent.id y.id) (nested t y top.parent above.parent.id h top_in (kid_in_parent above.parent.id above.parent top) (omega (arith, low, a, b, c)) less)
      two (inr (inl same)) wide = ap (λ (m : Node). is_outer_kind m.label.kind) (same_id tokens t derived y above.parent h declaration_in (sym same)) ∙ ap is_outer_kind declaration_is
      two (inr (inr more)) wide = absurd (omega (arith, wide, more))

      one : (k.owner.id < y.id) ⊎ ((k.owner.id ≡ y.id) ⊎ (y.id < k.owner.id)) → k.owner.id ≤ y.id → is_outer_kind y.label.kind ≡ true
      one (inl less) wide =
          let a = up in
          let b = under_owner in
          two (three_ways above.parent.id y.id) (nested t y above.parent k.owner.id h declaration_in (kid_in_parent k.owner.id k.owner above) (omega (arith, low, a, b)) less)
      one (inr (inl same)) wide = ap (λ (m : Node). is_outer_kind m.label.kind) (same_id tokens t derived y k.owner h owner_in (sym same)) ∙ ap is_outer_kind k.owner_is
      one (inr (inr more)) wide = absurd (omega (arith, wide, more))

  no_outer_body : (q : SynKind) → is_outer_kind q ≡ true → is_body q ≡ true → ⊥
  no_outer_body kind.InitDecl a b = true≢false (sym b)
  no_outer_body kind.Declaration a b = true≢false (sym b)
  no_outer_body kind.Unit a b = true≢false (sym b)
  no_outer_body _ a b = true≢false (sym a)

  no_body_here : (y : Node) → In y (nodes t) → is_body y.label.kind ≡ true → y.first ≤ k.names.low.first → k.names.low.first ≤ y.id → ⊥
  no_body_here y h b low high = by (three_ways k.names.low.id y.id)
    where
      by : (k.names.low.id < y.id) ⊎ ((k.names.low.id ≡ y.id) ⊎ (y.id < k.names.low.id)) → ⊥
      by (inl less) = no_outer_body y.label.kind (larger_here y h low less) b
      by (inr (inl same)) = no_body y.label.kind (subst (λ (m : Node). is_declarator m.label.kind ≡ true) (same_id tokens t derived k.names.low y low_in h same) k.names.declares_it) b
      by (inr (inr more)) =
          let c = crossed t k.names.low y low_in h high more in
          let at = found tokens t derived y h in
          let p = node_placed tokens t derived y.id y at in
          let start : y.first ≡ k.names.low.first = omega (arith, c, low) in
          let same : Some p.lowest ≡ Some k.names.ident = sym p.found ∙ (ap (λ j. slice_get (nodes t) j) (start ∙ (k.names.begins ∙ k.names.by_node)) ∙ k.names.at) in
          let lowest : p.lowest ≡ k.names.ident = cc same in
          let named = named_so (category_at t y.id) p.lowest.label.kind (ap (λ (m : Node). m.label.kind) lowest ∙ k.names.is_ident) p.begins in
          let c2 = category_is tokens t derived y.id y at in
          true≢false (sym named ∙ (ap begins_named c2.1 ∙ body_unnamed y.label.kind y.label.text c2.0 b))

  no_takes_here : (y : Node) → In y (nodes t) → y.label.kind ≡ kind.Takes → kid y 0 < k.names.low.first → k.names.low.first ≤ y.id → ⊥
  no_takes_here y h e low high = by (three_ways k.names.low.id y.id) (kid_within t y (kid y 0) h (kid_in tokens t derived y.id y 0 (found tokens t derived y h) (subst (λ l. 0 < least_kids l) (sym e) (omega arith)))).0
    where
      by : (k.names.low.id < y.id) ⊎ ((k.names.low.id ≡ y.id) ⊎ (y.id < k.names.low.id)) → y.first ≤ kid y 0 → ⊥
      by (inl less) within = true≢false (sym (larger_here y h (omega (arith, within, low)) less) ∙ ap is_outer_kind e)
      by (inr (inl same)) within = let start : k.names.low.first ≡ y.first = ap (λ (m : Node). m.first) (same_id tokens t derived k.names.low y low_in h same) in absurd (omega (arith, start, low, within))
      by (inr (inr more)) within = let c = crossed t k.names.low y low_in h high more in absurd (omega (arith, c, low, within))

  pub proto_scope : (c : Scope) → ScopeAt t c k.names.low.first → c.owner ≡ size t.kids
  proto_scope c (of_unit y h e g) = g ∙ unit_last tokens t derived y h e
  proto_scope c (of_body y h b low high) = absurd (no_body_here y h b low high)
  proto_scope c (of_parameters y h e low high) = absurd (no_takes_here y h e low high)
