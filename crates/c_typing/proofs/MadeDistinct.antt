-- The functions of a unit stand in the scope of the unit, and have different names.
use Rattle.std.proofs.Common.{◌≡◌, ◌⊎◌, inl, inr, ℕ, ◌<◌, ◌≤◌, Bool, true, false, ◌||◌, ◌&&◌, List, [], ◌∷◌, Some, refl, sym, ap, ◌∙◌, subst, arith, true≢false, unwrap_or}
use Rattle.std.specs.Prelude.{slice_get, nat_le}
use Rattle.c_lexer.specs.declared.token.Token.{Token}
use Rattle.c_syntax.specs.declared.kind.SynKind.{SynKind}
use Rattle.c_syntax.specs.declared.kind.SynKind.TheVariants as kind
use Rattle.c_syntax.specs.Trees.{Tree}
use Rattle.c_syntax.specs.Tables.{size}
use Rattle.c_grammar.specs.Derivation.{IsTreeOf}
use Rattle.c_typing.specs.Places.{Node, nodes, kid, is_declarator, Scope, in_scope, scope_by, scopes_from, scopes_of, no_scope}
use Rattle.c_typing.specs.Shapes.{Category, category_by, categories}
use Rattle.c_typing.specs.ShapesOfNodes.{category_at}
use Rattle.c_typing.proofs.ShapesLaw.{root_is_unit}
use Rattle.c_typing.proofs.ShapesNodes.{node_placed}
use Rattle.c_typing.proofs.MadeNodes.{In, in_at, in_front, in_back, nested, crossed, node_bounds, node_below, kid_within, root_node, root_among, root_label, root_first, root_last}
use Rattle.c_typing.proofs.MadeParts.{least_kids}
use Rattle.c_typing.proofs.MadePlaced.{numbered, found, kid_in}
use Rattle.c_typing.proofs.MadeAround.{and_true, so_low, find_is}
use Rattle.c_typing.proofs.MadeTop.{category_is, around_function, unit_kind, is_unit_category}
use Rattle.c_typing.proofs.MadeWhole.{begins_named, named_so}
use Rattle.c_typing.proofs.MadeScopes.{is_body, ScopeAt, of_unit, of_body, of_parameters, scope_holds, unit_last}
use Rattle.c_typing.proofs.MadeFunctionNames.{FunctionName, find_one}

pub body_unnamed : (k : SynKind) (text : List ℕ) (cs : List Category) → is_body k ≡ true → begins_named (category_by k text cs) ≡ false
unfolding category_by
body_unnamed kind.Block text cs e = refl
body_unnamed kind.For text cs e = refl
body_unnamed kind.Switch text cs e = refl
body_unnamed k text cs e = absurd (true≢false (sym e))

pub no_body : (k : SynKind) → is_declarator k ≡ true → is_body k ≡ true → ⊥
no_body kind.Block e f = true≢false (sym e)
no_body kind.For e f = true≢false (sym e)
no_body kind.Switch e f = true≢false (sym e)
no_body _ e f = true≢false (sym f)

pub three_ways : (a b : ℕ) → (a < b) ⊎ ((a ≡ b) ⊎ (b < a))
three_ways a b = grind arith

module _ (tokens : List Token) (t : Tree) (derived : IsTreeOf tokens t) where
  pub same_id : (x y : Node) → In x (nodes t) → In y (nodes t) → x.id ≡ y.id → x ≡ y
  same_id x y h i e =
      let same : Some x ≡ Some y = sym (found tokens t derived x h) ∙ (ap (λ j. slice_get (nodes t) j) e ∙ found tokens t derived y i) in
      cc same

  module _ (n : ℕ) (node : Node) (at : slice_get (nodes t) n ≡ Some node) (is : node.label.kind ≡ kind.Function) (f : FunctionName tokens t derived node) where
    low_in : In f.low (nodes t)
    low_in = in_at f.low (nodes t) (kid node 1) f.there

    kid_inside : In (kid node 1) node.kids
    kid_inside = kid_in tokens t derived n node 1 at (subst (λ l. 1 < least_kids l) (sym is) (omega arith))

    -- what is larger than the declarator of a function is the function, or the unit
    pub larger : (x : Node) → In x (nodes t) → x.first ≤ f.low.first → f.low.id < x.id → (x.label.kind ≡ kind.Function) ⊎ (x.label.kind ≡ kind.Unit)
    larger x h low lt =
        let up = node_bounds t f.low low_in in
        let id = numbered tokens t derived (kid node 1) f.low f.there in
        let idn = numbered tokens t derived n node at in
        let wide = nested t x node (kid node 1) h (in_at node (nodes t) n at) kid_inside (omega (arith, low, up, id)) (omega (arith, lt, id)) in
        let inner = (kid_within t node (kid node 1) (in_at node (nodes t) n at) kid_inside).1 in
        by (three_ways node.id x.id) wide (omega (arith, low, up, id, inner, idn))
      where
        by : (node.id < x.id) ⊎ ((node.id ≡ x.id) ⊎ (x.id < node.id)) → node.id ≤ x.id → x.first ≤ n → (x.label.kind ≡ kind.Function) ⊎ (x.label.kind ≡ kind.Unit)
        by (inl less) wide from = let idn = numbered tokens t derived n node at in inr (around_function tokens t derived n node x at is h from (omega (arith, less, idn)))
        by (inr (inl same)) wide from = inl (ap (λ (y : Node). y.label.kind) (sym (same_id node x (in_at node (nodes t) n at) h same)) ∙ is)
        by (inr (inr more)) wide from = absurd (omega (arith, wide, more))

    pub no_body_around : (x : Node) → In x (nodes t) → is_body x.label.kind ≡ true → x.first ≤ f.low.first → f.low.first ≤ x.id → ⊥
    no_body_around x h b low high = by (three_ways f.low.id x.id)
      where
        by : (f.low.id < x.id) ⊎ ((f.low.id ≡ x.id) ⊎ (x.id < f.low.id)) → ⊥
        by (inl less) = which (larger x h low less)
          where
            which : (x.label.kind ≡ kind.Function) ⊎ (x.label.kind ≡ kind.Unit) → ⊥
            which (inl e) = true≢false (sym b ∙ ap is_body e)
            which (inr e) = true≢false (sym b ∙ ap is_body e)
        by (inr (inl same)) = no_body x.label.kind (subst (λ (y : Node). is_declarator y.label.kind ≡ true) (same_id f.low x low_in h same) f.is_declarator) b
        by (inr (inr more)) =
            let c = crossed t f.low x low_in h high more in
            let there = found tokens t derived x h in
            let p = node_placed tokens t derived x.id x there in
            let start : x.first ≡ f.low.first = omega (arith, c, low) in
            let same : Some p.lowest ≡ Some f.ident = sym p.found ∙ (ap (λ j. slice_get (nodes t) j) start ∙ f.at_first) in
            let lowest : p.lowest ≡ f.ident = cc same in
            let named = named_so (category_at t x.id) p.lowest.label.kind (ap (λ (m : Node). m.label.kind) lowest ∙ f.is_ident) p.begins in
            let k = category_is tokens t derived x.id x there in
            true≢false (sym named ∙ (ap begins_named k.1 ∙ body_unnamed x.label.kind x.label.text k.0 b))

    no_takes_around : (x : Node) → In x (nodes t) → x.label.kind ≡ kind.Takes → kid x 0 < f.low.first → f.low.first ≤ x.id → ⊥
    no_takes_around x h e low high =
        let first = kid_in tokens t derived x.id x 0 (found tokens t derived x h) (subst (λ l. 0 < least_kids l) (sym e) (omega arith)) in
        let within = (kid_within t x (kid x 0) h first).0 in
        by (three_ways f.low.id x.id) within
      where
        by : (f.low.id < x.id) ⊎ ((f.low.id ≡ x.id) ⊎ (x.id < f.low.id)) → x.first ≤ kid x 0 → ⊥
        by (inl less) within = which (larger x h (omega (arith, within, low)) less)
          where
            is_takes_kind : SynKind → Bool
            is_takes_kind kind.Takes = true
            is_takes_kind k = false

            which : (x.label.kind ≡ kind.Function) ⊎ (x.label.kind ≡ kind.Unit) → ⊥
            which (inl g) = true≢false (ap is_takes_kind (sym e ∙ g))
            which (inr g) = true≢false (ap is_takes_kind (sym e ∙ g))
        by (inr (inl same)) within =
            let start : f.low.first ≡ x.first = ap (λ (y : Node). y.first) (same_id f.low x low_in h same) in
            absurd (omega (arith, start, low, within))
        by (inr (inr more)) within = let c = crossed t f.low x low_in h high more in absurd (omega (arith, c, low, within))

    -- the scope of the unit is there
    root_kind : (root_node t).label.kind ≡ kind.Unit
    root_kind = ap (λ l. l.kind) (root_label t) ∙ unit_kind tokens t derived t.label.kind t.label.text (categories t.kids) (ap (is_unit_category tokens t derived) (root_is_unit tokens t derived))

    scopes_have : (ns : List Node) (x : Node) (c : Scope) → In x ns → In c (scope_by (nodes t) x x.label.kind) → In c (scopes_from (nodes t) ns)
    scopes_have [] x c h i = absurd h
    scopes_have (y ∷ ns) x c (inl same) i = in_front c (scope_by (nodes t) y y.label.kind) (scopes_from (nodes t) ns) (subst (λ (z : Node). In c (scope_by (nodes t) z z.label.kind)) (sym same) i)
    scopes_have (y ∷ ns) x c (inr h) i = in_back c (scope_by (nodes t) y y.label.kind) (scopes_from (nodes t) ns) (scopes_have ns x c h i)

    unit_scope : Scope
    unit_scope = record { owner = (root_node t).id; from = (root_node t).first; to = (root_node t).id; block_from = 1; block_to = 0 }

    unit_scope_in : In unit_scope (scopes_of (nodes t))
    unfolding unit_scope
    unit_scope_in = scopes_have (nodes t) (root_node t) unit_scope (root_among t) (subst (λ k. In unit_scope (scope_by (nodes t) (root_node t) k)) (sym root_kind) (inl refl))

    in_unit : in_scope unit_scope f.low.first ≡ true
    unfolding unit_scope
    in_unit =
        let first = root_first t in
        let last = root_last t in
        let up = node_bounds t f.low low_in in
        let below = node_below t f.low low_in in
        ap (λ b. b || (nat_le 1 f.low.first && nat_le f.low.first 0)) (and_true (nat_le (root_node t).first f.low.first) (nat_le f.low.first (root_node t).id)
        (so_low (root_node t).first f.low.first (omega (arith, first))) (so_low f.low.first (root_node t).id (omega (arith, last, up, below))))

    pub in_file_scope : f.name.scope.owner ≡ size t.kids
    in_file_scope =
        let o = find_one (λ c. in_scope c f.low.first) (scopes_of (nodes t)) unit_scope unit_scope_in in_unit in
        let i = find_is (λ c. in_scope c f.low.first) (scopes_of (nodes t)) o.0 o.1 in
        ap (λ (c : Scope). c.owner) (f.scoped ∙ ap (λ p. unwrap_or p no_scope) o.1) ∙ by o.0 (scope_holds tokens t derived o.0 f.low.first i.0 i.1)
      where
        by : (c : Scope) → ScopeAt t c f.low.first → c.owner ≡ size t.kids
        by c (of_unit x h e g) = g ∙ unit_last tokens t derived x h e
        by c (of_body x h e low high) = absurd (no_body_around x h e low high)
        by c (of_parameters x h e low high) = absurd (no_takes_around x h e low high)
