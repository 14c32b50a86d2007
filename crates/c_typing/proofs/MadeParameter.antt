-- A parameter that the body of a function names is one of its own.
use Rattle.std.proofs.Common.{◌≡◌, ◌⊎◌, inl, inr, ℕ, ◌<◌, ◌≤◌, true, ◌&&◌, List, [], ◌∷◌, length, map, Some, refl, sym, ap, ◌∙◌, subst, arith, true≢false, unwrap_or}
use Rattle.std.specs.Prelude.{slice_get, get_or, nat_le, ◌==◌, option_map}
use Rattle.c_lexer.specs.declared.token.Token.{Token}
use Rattle.c_syntax.specs.declared.kind.SynKind.TheVariants as kind
use Rattle.c_syntax.specs.Trees.{Tree}
use Rattle.c_syntax.specs.Tables.{size, table_of}
use Rattle.c_grammar.specs.Derivation.{IsTreeOf}
use Rattle.c_typing.specs.Places.{Node, nodes, node_at, kid, other_kids, index_in, parent_of, is_takes, is_unit, is_step, next_to_name, own_takes, in_scope}
use Rattle.c_typing.specs.Names.{parameter, places, Name, parameters_of, named_locals, local_number}
use Rattle.c_typing.specs.Shapes as category
use Rattle.c_typing.specs.Shapes.{Category, no_category, category_by, kids_fit, at_places, categories_of}
use Rattle.c_typing.specs.ShapesOfNodes.{as_id, category_at}
use Rattle.c_typing.proofs.ShapesNodes.{node_placed}
use Rattle.c_typing.proofs.MadeNodes.{In, in_at, in_back, Ascends, ascending, crossed, node_bounds, node_below, kid_within}
use Rattle.c_typing.proofs.MadeParts.{least_kids}
use Rattle.c_typing.proofs.MadePlaced.{numbered, found, node_there, kid_in}
use Rattle.c_typing.proofs.MadeAround.{both_true, and_true, equal_so, find_is, so_low}
use Rattle.c_typing.proofs.MadeTop.{category_is, has_parent, unit_kind, is_unit_category}
use Rattle.c_typing.proofs.MadeScopes.{is_body, unit_last}
use Rattle.c_typing.proofs.MadeDefined.{TakesAt, own_takes_at}
use Rattle.c_typing.proofs.MadeFunctionNames.{FunctionName, function_name_of}
use Rattle.c_typing.proofs.MadeDistinct.{same_id, three_ways, larger, no_body_around}
use Rattle.c_typing.proofs.MadeObjects.{position_there}
use Rattle.c_typing.proofs.MadeInner.{Within, Behind, ScopeOf, of_unit, of_body, of_takes, of_function, Innermost}
use Rattle.c_typing.proofs.MadeInside.{InBody, holds_so}
use Rattle.c_typing.proofs.MadeParameters.{no_takes, own_inside, block_owner}
use Rattle.c_typing.proofs.MadeLists.{Listed}
use Rattle.c_typing.proofs.MadeOwn.{Stands, name_stands, body_around, Belongs, scope_first, fits_three}

third_only : (known : List Category) (ks : List ℕ) (k : ℕ) → at_places known (map as_id ks) ≡ category.specifiers ∷ category.declarator ∷ category.block ∷ [] → In k ks → get_or known k no_category ≡ category.block → k ≡ unwrap_or (slice_get ks 2) 0
third_only known [] k h i g = absurd i
third_only known (a ∷ []) k h i g = absurd (cc h)
third_only known (a ∷ b ∷ []) k h i g = absurd (cc h)
third_only known (a ∷ b ∷ c ∷ d ∷ ks) k h i g = absurd (cc h)
third_only known (a ∷ b ∷ c ∷ []) k h (inl same) g =
    let x : get_or known a no_category ≡ category.specifiers = cc h in
    let clash : category.specifiers ≡ category.block = sym x ∙ (ap (λ i. get_or known i no_category) same ∙ g) in absurd (cc clash)
third_only known (a ∷ b ∷ c ∷ []) k h (inr (inl same)) g =
    let x : get_or known b no_category ≡ category.declarator = cc h in
    let clash : category.declarator ≡ category.block = sym x ∙ (ap (λ i. get_or known i no_category) same ∙ g) in absurd (cc clash)
third_only known (a ∷ b ∷ c ∷ []) k h (inr (inr (inl same))) g = sym same
third_only known (a ∷ b ∷ c ∷ []) k h (inr (inr (inr i))) g = absurd i

up_two : (ks : List ℕ) → Ascends ks → 2 < length ks → unwrap_or (slice_get ks 1) 0 < unwrap_or (slice_get ks 2) 0
up_two [] up lt = absurd (omega (arith, lt))
up_two (a ∷ []) up lt = absurd (omega (arith, lt))
up_two (a ∷ b ∷ []) up lt = absurd (omega (arith, lt))
up_two (a ∷ b ∷ c ∷ ks) up lt = ((up.1).0).0

module _ (tokens : List Token) (t : Tree) (derived : IsTreeOf tokens t) where
  -- the list next to the name of a function begins there
  list_begins : (m : ℕ) (fn takes : Node) → slice_get (nodes t) m ≡ Some fn → (f : FunctionName tokens t derived fn) → own_takes (nodes t) fn ≡ Some takes → takes.first ≡ f.low.first
  list_begins m fn takes there f e =
      let at = own_takes_at t fn takes e in
      let low = node_there tokens t derived (kid fn 1) f.low f.there in
      let next : next_to_name (nodes t) f.low.first ≡ Some takes = ap (λ (x : Node). next_to_name (nodes t) x.first) (sym low) ∙ at.next in
      let q = find_is (λ (x : Node). x.first == f.low.first && is_step x.label.kind) (nodes t) takes next in
      equal_so takes.first f.low.first (both_true (takes.first == f.low.first) (is_step takes.label.kind) q.1).0

  kid_of_owner : (x : Node) → In x (nodes t) → x.label.kind ≡ kind.Block → (q : Node) → parent_of (nodes t) x.id ≡ q → In x.id q.kids
  kid_of_owner x h e q parent =
      let at = found tokens t derived x h in
      let p = has_parent tokens t derived x.id x at (λ u. block_no_unit (category_is tokens t derived x.id x at).0 (category_is tokens t derived x.id x at).1 u) in
      let same : parent_of (nodes t) x.id ≡ p.parent = ap (λ (y : Node). node_at (nodes t) y.parent) (node_there tokens t derived x.id x at) ∙ node_there tokens t derived x.parent p.parent p.found in
      subst (λ (y : Node). In x.id y.kids) (sym same ∙ parent) (subst (λ ks. In x.id ks) (sym p.among) (in_back x.id p.front (x.id ∷ p.back) (inl refl)))
    where
      block_no_unit : (cs : List Category) → category_at t x.id ≡ category_by x.label.kind x.label.text cs → category_at t x.id ≡ category.unit → ⊥
      block_no_unit cs c u = no_unit_kind (unit_kind tokens t derived x.label.kind x.label.text cs (ap (is_unit_category tokens t derived) (sym c ∙ u)))
        where
          no_unit_kind : x.label.kind ≡ kind.Unit → ⊥
          no_unit_kind z = true≢false (ap is_unit (sym z ∙ e))

  takes_alone : (x : Node) → x.label.kind ≡ kind.Takes → (x.label.kind ≡ kind.Function) ⊎ (x.label.kind ≡ kind.Unit) → ⊥
  takes_alone x e (inl q) = true≢false (ap is_takes (sym e ∙ q))
  takes_alone x e (inr q) = true≢false (ap is_takes (sym e ∙ q))

  module _ (m : ℕ) (fn : Node) (there : slice_get (nodes t) m ≡ Some fn) (is : fn.label.kind ≡ kind.Function) (n : ℕ) (node : Node) (at : slice_get (nodes t) n ≡ Some node) (var : node.label.kind ≡ kind.Var) (c : InBody tokens t derived m fn there is n)
      (e : Name) (l : Listed tokens t derived e) (i : Innermost tokens t derived e.node) (in_n : in_scope i.scope n ≡ true) where
    f : FunctionName tokens t derived fn
    f = function_name_of tokens t derived m fn there is

    block_behind : (x : Node) → In x (nodes t) → x.label.kind ≡ kind.Block → In x.id fn.kids → f.low.id < x.id
    unfolding category_by
    block_behind x h k kid_is =
        let p = node_placed tokens t derived m fn there in
        let fits = fits_three tokens t derived e l fn.label.text (at_places (categories_of (table_of t)) (map as_id fn.kids)) (subst (λ q. kids_fit q fn.label.text (at_places (categories_of (table_of t)) (map as_id fn.kids)) ≡ true) is p.fits.kids) in
        let cat = category_is tokens t derived x.id x (found tokens t derived x h) in
        let block : category_at t x.id ≡ category.block = cat.1 ∙ subst (λ q. category_by q x.label.text cat.0 ≡ category.block) (sym k) refl in
        let third = third_only (categories_of (table_of t)) fn.kids x.id fits kid_is block in
        let long = three_long fn.kids fits in
        let up = up_two fn.kids (ascending t fn (in_at fn (nodes t) m there)) long in
        let id = numbered tokens t derived (kid fn 1) f.low f.there in
        omega (arith, third, up, id)
      where
        three_long : (ks : List ℕ) → at_places (categories_of (table_of t)) (map as_id ks) ≡ category.specifiers ∷ category.declarator ∷ category.block ∷ [] → 2 < length ks
        three_long [] h2 = absurd (cc h2)
        three_long (a ∷ []) h2 = absurd (cc h2)
        three_long (a ∷ b ∷ []) h2 = absurd (cc h2)
        three_long (a ∷ b ∷ d ∷ ks) h2 = omega arith

    body_no : is_body i.node.label.kind ≡ true → Within i.node e.node → ⊥
    body_no b w = by (scope_first tokens t derived e l i)
      where
        around : (l.list.id < i.node.id) × (i.node.first ≤ l.list.first)
        around = body_around tokens t derived e l i.node i.among b w.0 w.1

        by : (i.node.id ≤ l.list.id) ⊎ Belongs tokens t derived e l i.node.id → ⊥
        by (inl le) = let a = around.0 in absurd (omega (arith, a, le))
        by (inr q) =
            let g = function_name_of tokens t derived q.place q.function q.there q.is in
            let begins = list_begins q.place q.function l.list q.there g q.own in
            let up = node_bounds t l.list l.list_in in
            let a = around.0 in
            let b2 = around.1 in
            no_body_around tokens t derived q.place q.function q.there q.is g i.node i.among b (omega (arith, b2, begins)) (omega (arith, begins, up, a))

    unit_no : i.node.label.kind ≡ kind.Unit → ⊥
    unit_no u = by (scope_first tokens t derived e l i)
      where
        last : i.node.id ≡ size t.kids
        last = unit_last tokens t derived i.node i.among u

        by : (i.node.id ≤ l.list.id) ⊎ Belongs tokens t derived e l i.node.id → ⊥
        by (inl le) =
            let s = last in
            let below = node_below t l.list l.list_in in
            true≢false (ap is_takes (sym l.list_is ∙ (ap (λ (x : Node). x.label.kind) (same_id tokens t derived l.list i.node l.list_in i.among (omega (arith, s, below, le))) ∙ u)))
        by (inr q) =
            let s = last in
            let below = node_below t q.function (in_at q.function (nodes t) q.place q.there) in
            let before = q.before in
            absurd (omega (arith, s, below, before))

    -- both lists hold the name
    own_by : (takes : Node) → own_takes (nodes t) fn ≡ Some takes → i.node.label.kind ≡ kind.Block → parent_of (nodes t) i.node.id ≡ fn → Behind takes e.node → own_takes (nodes t) fn ≡ Some l.list
    own_by takes own k parent v = by (scope_first tokens t derived e l i)
      where
        o : In takes (nodes t) × (fn.first ≤ takes.first) × (takes.id < fn.id)
        o = own_inside tokens t derived m fn there is takes own

        first_in : takes.first ≤ kid takes 0
        first_in = (kid_within t takes (kid takes 0) o.0 (kid_in tokens t derived takes.id takes 0 (found tokens t derived takes o.0) (subst (λ q. 0 < least_kids q) (sym (own_takes_at t fn takes own).kind_is) (omega arith)))).0

        s : Stands tokens t derived e l
        s = name_stands tokens t derived e l

        takes_low : takes.id ≤ f.low.id
        takes_low = which (three_ways f.low.id takes.id)
          where
            which : (f.low.id < takes.id) ⊎ ((f.low.id ≡ takes.id) ⊎ (takes.id < f.low.id)) → takes.id ≤ f.low.id
            which (inl less) = let b = list_begins m fn takes there f own in absurd (takes_alone takes (own_takes_at t fn takes own).kind_is (larger tokens t derived m fn there is f takes o.0 (omega (arith, b)) less))
            which (inr (inl same)) = omega (arith, same)
            which (inr (inr more)) = omega (arith, more)

        kid_of_fn : In i.node.id fn.kids
        kid_of_fn = kid_of_owner i.node i.among k fn parent

        by : (i.node.id ≤ l.list.id) ⊎ Belongs tokens t derived e l i.node.id → own_takes (nodes t) fn ≡ Some l.list
        by (inl le) =
            let behind = block_behind i.node i.among k kid_of_fn in
            let low = takes_low in
            let v1 = v.1 in
            let s1 = s.behind in
            let s2 = s.starts in
            let s3 = s.within in
            let begins = list_begins m fn takes there f own in
            let list_low = kid_within t l.list (kid l.list 0) l.list_in (kid_in tokens t derived l.list.id l.list 0 (found tokens t derived l.list l.list_in) (subst (λ q. 0 < least_kids q) (sym l.list_is) (omega arith))) in
            let start = list_low.0 in
            let c1 = crossed t l.list takes l.list_in o.0 (omega (arith, start, s1, v1)) (omega (arith, low, behind, le)) in
            absurd (takes_alone l.list l.list_is (larger tokens t derived m fn there is f l.list l.list_in (omega (arith, c1, begins)) (omega (arith, behind, le))))
        by (inr q) =
            let own_q = own_inside tokens t derived q.place q.function q.there q.is l.list q.own in
            let s1 = s.within in
            let s2 = s.under in
            let s3 = s.inner in
            let s0 = s.behind in
            let list_low = (kid_within t l.list (kid l.list 0) l.list_in (kid_in tokens t derived l.list.id l.list 0 (found tokens t derived l.list l.list_in) (subst (λ z. 0 < least_kids z) (sym l.list_is) (omega arith)))).0 in
            let q1 = own_q.1 in
            let q2 = own_q.2 in
            let o1 = o.1 in
            let o2 = o.2 in
            let v0 = v.0 in
            let v1 = v.1 in
            let fi = first_in in
            let same = holds_so tokens t derived m fn there is q.function e.node (in_at q.function (nodes t) q.place q.there) q.is
            (and_true (nat_le q.function.first e.node) (nat_le e.node q.function.id) (so_low q.function.first e.node (omega (arith, q1, list_low, s0))) (so_low e.node q.function.id (omega (arith, q2, s1, s2, s3)))) (omega (arith, o1, fi, v0)) (omega (arith, o2, v1)) in
            subst (λ (x : Node). own_takes (nodes t) x ≡ Some l.list) same q.own

    pub own_list : own_takes (nodes t) fn ≡ Some l.list
    own_list = by i.of
      where
        by : ScopeOf t i.scope i.node → own_takes (nodes t) fn ≡ Some l.list
        by (of_unit u o) = absurd (unit_no u)
        by (of_body b each) = absurd (body_no b (each e.node i.holds_it))
        by (of_takes k g each) = absurd (no_takes tokens t derived m fn there is n node i.node at var c i.among k (each n in_n))
        by (of_function k p takes own each) = split (each n in_n) (each e.node i.holds_it)
          where
            list_at : TakesAt t (parent_of (nodes t) i.node.id) takes
            list_at = own_takes_at t (parent_of (nodes t) i.node.id) takes own

            split : Within i.node n ⊎ Behind takes n → Within i.node e.node ⊎ Behind takes e.node → own_takes (nodes t) fn ≡ Some l.list
            split (inr w) v = absurd (no_takes tokens t derived m fn there is n node takes at var c list_at.among list_at.kind_is w)
            split (inl w) (inl v) = absurd (body_no (ap is_body k) v)
            split (inl w) (inr v) =
                let parent = block_owner tokens t derived m fn there is n i.node i.among k p w c.from c.to in
                own_by takes (subst (λ (x : Node). own_takes (nodes t) x ≡ Some takes) parent own) k parent v

  -- ---- the number of a parameter

  index_below : (ks : List ℕ) (k : ℕ) → In k ks → index_in ks k < length ks
  index_below ks k h =
      let p = position_there (λ j. j == k) ks k h (alike k) in
      subst (λ o. unwrap_or o 0 < length ks) (sym p.1) p.2
    where
      alike : (a : ℕ) → (a == a) ≡ true
      alike a = grind arith

  parameter_number : (x : Name) (j : ℕ) → x.entity ≡ parameter j → local_number (places t) x ≡ j
  parameter_number x j h = rw h refl

  pub parameter_below : (fn : Node) (x : Name) (l : Listed tokens t derived x) → own_takes (nodes t) fn ≡ Some l.list → (j : ℕ) → j ≡ index_in (other_kids l.list) l.param.id → x.entity ≡ parameter j → local_number (places t) x < named_locals (places t) fn
  parameter_below fn x l own j is h =
      let low = index_below (other_kids l.list) l.param.id l.other in
      let count : length (parameters_of (places t) fn) ≡ length (other_kids l.list) = ap (λ o. length (unwrap_or (option_map other_kids o) [])) own in
      let number = parameter_number x j h in
      omega (arith, low, count, number, is)
