-- The parameter list that a parameter stands in, and the scope of that list.
use Rattle.std.proofs.Common.{◌≡◌, ◌⊎◌, inl, inr, ℕ, ◌<◌, ◌≤◌, true, List, [], ◌∷◌, map, Some, refl, sym, ap, ◌∙◌, subst, arith, true≢false, unwrap_or, drop}
use Rattle.std.specs.Prelude.{slice_get}
use Rattle.std.specs.List.{AllByRecursion}
use Rattle.c_lexer.specs.declared.token.Token.{Token}
use Rattle.c_syntax.specs.declared.kind.SynKind.{SynKind}
use Rattle.c_syntax.specs.declared.kind.SynKind.TheVariants as kind
use Rattle.c_syntax.specs.Trees.{Tree}
use Rattle.c_syntax.specs.Tables.{table_of}
use Rattle.c_grammar.specs.Derivation.{IsTreeOf}
use Rattle.c_typing.specs.Places.{Node, nodes, node_at, kid, other_kids}
use Rattle.c_typing.specs.Names.{Name}
use Rattle.c_typing.specs.Shapes as category
use Rattle.c_typing.specs.Shapes.{Category, no_category, category_by, kids_fit, at_places, categories_of, stands_in}
use Rattle.c_typing.specs.ShapesOfNodes.{as_id, category_at, HasParent}
use Rattle.c_typing.proofs.ShapesNodes.{node_placed}
use Rattle.c_typing.proofs.MadeNodes.{In, in_at, in_back, Ascends, ascending, nested, kid_within}
use Rattle.c_typing.proofs.MadeParts.{least_kids}
use Rattle.c_typing.proofs.MadePlaced.{found, node_there, kid_in}
use Rattle.c_typing.proofs.MadeTop.{category_is, has_parent}
use Rattle.c_typing.proofs.MadeWhole.{begins_named, named_so}
use Rattle.c_typing.proofs.MadeFunctionNames.{place_known}
use Rattle.c_typing.proofs.MadeKept.{Low}

first_fits : (text : List ℕ) (cs : List Category) → kids_fit kind.Takes text cs ≡ true → slice_get cs 0 ≡ Some category.declarator
unfolding kids_fit
first_fits text (category.declarator ∷ cs) e = refl
first_fits text cs e = absurd (true≢false (sym e))

behind_first : (k : ℕ) (ks : List ℕ) (a : ℕ) → In a (k ∷ ks) → (a ≡ k → ⊥) → In a ks
behind_first k ks a (inl e) h = absurd (h (sym e))
behind_first k ks a (inr i) h = i

others_in : (ks : List ℕ) (a : ℕ) → In a ks → (a ≡ unwrap_or (slice_get ks 0) 0 → ⊥) → In a (drop 1 ks)
others_in [] a i h = absurd i
others_in (k ∷ ks) a i h = behind_first k ks a i h

first_below : (ks : List ℕ) (a : ℕ) → Ascends ks → In a ks → (a ≡ unwrap_or (slice_get ks 0) 0 → ⊥) → unwrap_or (slice_get ks 0) 0 < a
first_below [] a up i h = absurd i
first_below (k ∷ ks) a up i h = above ks (behind_first k ks a i h) up.0
  where
    above : (js : List ℕ) → In a js → AllByRecursion (λ n. k < n) js → k < a
    above [] j g = absurd j
    above (j ∷ js) (inl e) g = subst (λ n. k < n) e g.0
    above (j ∷ js) (inr m) g = above js m g.1

module _ (tokens : List Token) (t : Tree) (derived : IsTreeOf tokens t) where
  -- the list of a parameter, and the parameter
  pub record Listed (e : Name) : Type 0 where
    pub low : Low tokens t derived e
    pub param : Node
    pub param_in : In param (nodes t)
    pub param_is : param.label.kind ≡ kind.Param
    pub low_kid : In low.low.id param.kids
    pub list : Node
    pub list_in : In list (nodes t)
    pub list_is : list.label.kind ≡ kind.Takes
    pub param_kid : In param.id list.kids
    pub other : In param.id (other_kids list)
    pub behind : kid list 0 < param.first
    pub owner : node_at (nodes t) e.owner ≡ param
    pub parent : node_at (nodes t) param.parent ≡ list

  pub named_category : (e : Name) (l : Low tokens t derived e) → begins_named (category_at t l.low.id) ≡ true
  named_category e l =
      let p = node_placed tokens t derived l.low.id l.low l.there in
      let same : Some p.lowest ≡ Some l.ident = sym p.found ∙ (ap (λ i. slice_get (nodes t) i) (l.begins ∙ l.by_node) ∙ l.at) in
      let is : p.lowest ≡ l.ident = cc same in
      named_so (category_at t l.low.id) p.lowest.label.kind (ap (λ (m : Node). m.label.kind) is ∙ l.is_ident) p.begins

  param_stands : (k : SynKind) → stands_in category.parameter k ≡ true → k ≡ kind.Takes
  unfolding stands_in
  param_stands kind.Takes e = refl
  param_stands _ e = absurd (true≢false (sym e))

  param_category : (n : ℕ) (x : Node) → slice_get (nodes t) n ≡ Some x → x.label.kind ≡ kind.Param → category_at t n ≡ category.parameter
  unfolding category_by
  param_category n x at e = let c = category_is tokens t derived n x at in c.1 ∙ subst (λ k. category_by k x.label.text c.0 ≡ category.parameter) (sym e) refl

  kid_of_parent : (n : ℕ) (x : Node) → slice_get (nodes t) n ≡ Some x → (p : HasParent t n x) → In n p.parent.kids
  kid_of_parent n x at p = subst (λ ks. In n ks) (sym p.among) (in_back n p.front (n ∷ p.back) (inl refl))

  pub listed_by : (e : Name) (l : Low tokens t derived e) → (node_at (nodes t) e.owner).label.kind ≡ kind.Param → Listed e
  listed_by e l o = second
    where
      p : HasParent t l.low.id l.low
      p = has_parent tokens t derived l.low.id l.low l.there (λ u. true≢false (sym (named_category e l) ∙ ap begins_named u))

      owner : node_at (nodes t) e.owner ≡ p.parent
      owner = ap (λ i. node_at (nodes t) i) l.owner ∙ node_there tokens t derived l.low.parent p.parent p.found

      is : p.parent.label.kind ≡ kind.Param
      is = ap (λ (x : Node). x.label.kind) (sym owner) ∙ o

      inside : In p.parent (nodes t)
      inside = in_at p.parent (nodes t) l.low.parent p.found

      own : slice_get (nodes t) p.parent.id ≡ Some p.parent
      own = found tokens t derived p.parent inside

      cat : category_at t p.parent.id ≡ category.parameter
      cat = param_category p.parent.id p.parent own is

      q : HasParent t p.parent.id p.parent
      q = has_parent tokens t derived p.parent.id p.parent own (λ u. param_no_unit (sym cat ∙ u))
        where
          param_no_unit : category.parameter ≡ category.unit → ⊥
          param_no_unit z = absurd (cc z)

      list_is : q.parent.label.kind ≡ kind.Takes
      list_is = param_stands q.parent.label.kind (subst (λ d. stands_in d q.parent.label.kind ≡ true) cat q.stands)

      list_in : In q.parent (nodes t)
      list_in = in_at q.parent (nodes t) p.parent.parent q.found

      kid_is : In p.parent.id q.parent.kids
      kid_is = kid_of_parent p.parent.id p.parent own q

      first_is : category_at t (kid q.parent 0) ≡ category.declarator
      first_is =
          let n = node_placed tokens t derived p.parent.parent q.parent q.found in
          place_known (categories_of (table_of t)) q.parent.kids 0 category.declarator
          (first_fits q.parent.label.text (at_places (categories_of (table_of t)) (map as_id q.parent.kids)) (subst (λ k. kids_fit k q.parent.label.text (at_places (categories_of (table_of t)) (map as_id q.parent.kids)) ≡ true) list_is n.fits.kids))

      apart : p.parent.id ≡ kid q.parent 0 → ⊥
      apart z = let clash : category.parameter ≡ category.declarator = sym cat ∙ (ap (λ i. category_at t i) z ∙ first_is) in absurd (cc clash)

      zero_kid : In (kid q.parent 0) q.parent.kids
      zero_kid = kid_in tokens t derived p.parent.parent q.parent 0 q.found (subst (λ k. 0 < least_kids k) (sym list_is) (omega arith))

      below : kid q.parent 0 < p.parent.id
      below = first_below q.parent.kids p.parent.id (ascending t q.parent list_in) kid_is apart

      or_not : (a b : ℕ) → (a < b) ⊎ (b ≤ a)
      or_not a b = grind arith

      behind : (kid q.parent 0 < p.parent.first) ⊎ (p.parent.first ≤ kid q.parent 0) → kid q.parent 0 < p.parent.first
      behind (inl lt) = lt
      behind (inr le) =
          let wide = nested t p.parent q.parent (kid q.parent 0) inside list_in zero_kid le below in
          let under = (kid_within t q.parent p.parent.id list_in kid_is).1 in
          absurd (omega (arith, wide, under))

      second : Listed e
      second = record {
        low = l;
        param = p.parent;
        param_in = inside;
        param_is = is;
        low_kid = kid_of_parent l.low.id l.low l.there p;
        list = q.parent;
        list_in = list_in;
        list_is = list_is;
        param_kid = kid_is;
        other = others_in q.parent.kids p.parent.id kid_is apart;
        behind = behind (or_not (kid q.parent 0) p.parent.first);
        owner = owner;
        parent = node_there tokens t derived p.parent.parent q.parent q.found;
      }
