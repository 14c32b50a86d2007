-- A parameter that the body of a function names is one of the function's own.
use Rattle.std.proofs.Common.{◌≡◌, ◌⊎◌, inl, inr, ℕ, ◌<◌, ◌≤◌, Bool, true, false, ◌||◌, ◌&&◌, List, ◌∷◌, Some, refl, sym, ap, ◌∙◌, subst, arith, true≢false}
use Rattle.std.specs.Prelude.{slice_get, if◌then◌else◌, nat_le, ◌==◌, codes}
use Rattle.c_lexer.specs.declared.token.Token.{Token}
use Rattle.c_syntax.specs.declared.kind.SynKind.TheVariants as kind
use Rattle.c_syntax.specs.Trees.{Tree}
use Rattle.c_grammar.specs.Derivation.{IsTreeOf}
use Rattle.c_typing.specs.Places.{Node, nodes, node_at, kid, kind_at, parent_of, is_takes, is_step, next_to_name, is_unit, is_file_scope, own_takes, says, Scope, in_scope}
use Rattle.c_typing.specs.Names.{automatic, static_object, typedef_name, function_name, Name, declared_entity}
use Rattle.c_typing.proofs.MadeNodes.{In, in_at, in_back, kid_within}
use Rattle.c_typing.proofs.MadeParts.{least_kids}
use Rattle.c_typing.proofs.MadePlaced.{numbered, found, node_there, kid_found, kid_in}
use Rattle.c_typing.proofs.MadeFunctionNames.{FunctionName, function_name_of}
use Rattle.c_typing.proofs.MadeDistinct.{same_id, three_ways, larger}
use Rattle.c_typing.proofs.MadeScopes.{is_body}
use Rattle.c_typing.specs.Shapes as category
use Rattle.c_typing.specs.Shapes.{Category, category_by}
use Rattle.c_typing.specs.ShapesOfNodes.{category_at}
use Rattle.c_typing.proofs.MadeTop.{category_is, has_parent, unit_kind, is_unit_category}
use Rattle.c_typing.proofs.MadeInner.{Within, Behind, ScopeOf, of_unit, of_body, of_takes, of_function}
use Rattle.c_typing.proofs.MadeInside.{InBody, small, holds_so}
use Rattle.c_typing.proofs.MadeDefined.{own_takes_at}
use Rattle.c_typing.proofs.MadeAround.{both_true, and_true, equal_so, find_is, so_low}

module _ (tokens : List Token) (t : Tree) (derived : IsTreeOf tokens t) (m : ℕ) (fn : Node) (there : slice_get (nodes t) m ≡ Some fn) (is : fn.label.kind ≡ kind.Function) where
  -- an automatic object is in no scope of the unit
  pub no_file : (s : List Node) (owner specs : Node) (c : Scope) (f : Bool) → declared_entity s specs c f ≡ automatic → is_file_scope s c ≡ false
  no_file s owner specs c f e = by (says s (codes "typedef") specs) f (is_file_scope s c) refl e
    where
      by : (a b d : Bool) → is_file_scope s c ≡ d → (if a then typedef_name else (if b then function_name else (if d || says s (codes "static") specs || says s (codes "extern") specs then static_object else automatic))) ≡ automatic → is_file_scope s c ≡ false
      by true b d g h = absurd (cc h)
      by false true d g h = absurd (cc h)
      by false false true g h = absurd (cc h)
      by false false false g h = g

  takes_is : (x : Node) → x.label.kind ≡ kind.Takes → (x.label.kind ≡ kind.Function → ⊥) × (x.label.kind ≡ kind.Unit → ⊥)
  takes_is x e = (λ q. true≢false (ap is_takes (sym e ∙ q)), λ q. true≢false (ap is_takes (sym e ∙ q)))

  body_is : (x : Node) → is_body x.label.kind ≡ true → (x.label.kind ≡ kind.Function → ⊥) × (x.label.kind ≡ kind.Unit → ⊥)
  body_is x b = (λ q. true≢false (sym b ∙ ap is_body q), λ q. true≢false (sym b ∙ ap is_body q))

  -- no name in a body stands in a parameter list
  pub no_takes : (n : ℕ) (node x : Node) → slice_get (nodes t) n ≡ Some node → node.label.kind ≡ kind.Var → InBody tokens t derived m fn there is n → In x (nodes t) → x.label.kind ≡ kind.Takes → Behind x n → ⊥
  no_takes n node x at var c h e b = by (three_ways n x.id)
    where
      by : (n < x.id) ⊎ ((n ≡ x.id) ⊎ (x.id < n)) → ⊥
      by (inl less) = c.plain x h e b.0 less
      by (inr (inl same)) = true≢false (ap is_takes (sym e ∙ (ap (λ (y : Node). y.label.kind) (same_id tokens t derived x node h (in_at node (nodes t) n at) (sym same ∙ sym (numbered tokens t derived n node at))) ∙ var)))
      by (inr (inr more)) = let high = b.1 in absurd (omega (arith, more, high))

  -- ---- automatic objects

  kind_of_owner : (c : Scope) (x : Node) → In x (nodes t) → x.label.kind ≡ kind.Unit → c.owner ≡ x.id → is_file_scope (nodes t) c ≡ true
  kind_of_owner c x h e o = ap (λ i. is_unit (kind_at (nodes t) i)) o ∙ (ap (λ (y : Node). is_unit y.label.kind) (node_there tokens t derived x.id x (found tokens t derived x h)) ∙ ap is_unit e)

  -- the parameter list of the function itself stands in the function
  pub own_inside : (takes : Node) → own_takes (nodes t) fn ≡ Some takes → In takes (nodes t) × (fn.first ≤ takes.first) × (takes.id < fn.id)
  own_inside takes e =
      let at = own_takes_at t fn takes e in
      let f = function_name_of tokens t derived m fn there is in
      let low = node_there tokens t derived (kid fn 1) f.low f.there in
      let next : next_to_name (nodes t) f.low.first ≡ Some takes = ap (λ (x : Node). next_to_name (nodes t) x.first) (sym low) ∙ at.next in
      let q = find_is (λ (x : Node). x.first == f.low.first && is_step x.label.kind) (nodes t) takes next in
      let first = equal_so takes.first f.low.first (both_true (takes.first == f.low.first) (is_step takes.label.kind) q.1).0 in
      let starts = f.starts in
      let before = (kid_found tokens t derived m fn (kid fn 1) there (kid_in tokens t derived m fn 1 there (subst (λ l. 1 < least_kids l) (sym is) (omega arith)))).before in
      let lid = numbered tokens t derived (kid fn 1) f.low f.there in
      (at.among, omega (arith, first, starts), by f first (three_ways f.low.id takes.id) (omega (arith, before, lid)))
    where
      by : (f : FunctionName tokens t derived fn) → takes.first ≡ f.low.first → (f.low.id < takes.id) ⊎ ((f.low.id ≡ takes.id) ⊎ (takes.id < f.low.id)) → f.low.id < fn.id → takes.id < fn.id
      by f first (inl less) lt = absurd (which (larger tokens t derived m fn there is f takes (own_takes_at t fn takes e).among (omega (arith, first)) less))
        where
          which : (takes.label.kind ≡ kind.Function) ⊎ (takes.label.kind ≡ kind.Unit) → ⊥
          which (inl q) = (takes_is takes (own_takes_at t fn takes e).kind_is).0 q
          which (inr q) = (takes_is takes (own_takes_at t fn takes e).kind_is).1 q
      by f first (inr (inl same)) lt = omega (arith, same, lt)
      by f first (inr (inr more)) lt = omega (arith, more, lt)

  -- the function that a block belongs to, where a name in the body stands in the block
  pub block_owner : (n : ℕ) (x : Node) → In x (nodes t) → x.label.kind ≡ kind.Block → (parent_of (nodes t) x.id).label.kind ≡ kind.Function → Within x n → fn.first ≤ n → n < fn.id → parent_of (nodes t) x.id ≡ fn
  block_owner n x h e f w from to =
      let at = found tokens t derived x h in
      let p = has_parent tokens t derived x.id x at (λ u. block_no_unit (category_is tokens t derived x.id x at).0 (category_is tokens t derived x.id x at).1 u) in
      let same : parent_of (nodes t) x.id ≡ p.parent = ap (λ (y : Node). node_at (nodes t) y.parent) (node_there tokens t derived x.id x at) ∙ node_there tokens t derived x.parent p.parent p.found in
      let inside = in_at p.parent (nodes t) x.parent p.found in
      let kid = subst (λ ks. In x.id ks) (sym p.among) (in_back x.id p.front (x.id ∷ p.back) (inl refl)) in
      let low = (kid_of_first p.parent inside kid) in
      let high = (kid_within t p.parent x.id inside kid).1 in
      let w0 = w.0 in
      let w1 = w.1 in
      same ∙ holds_so tokens t derived m fn there is p.parent n inside (ap (λ (y : Node). y.label.kind) (sym same) ∙ f) (and_true (nat_le p.parent.first n) (nat_le n p.parent.id) (so_low p.parent.first n (omega (arith, low, w0))) (so_low n p.parent.id (omega (arith, w1, high)))) from to
    where
      block_no_unit : (cs : List Category) → category_at t x.id ≡ category_by x.label.kind x.label.text cs → category_at t x.id ≡ category.unit → ⊥
      block_no_unit cs q u = no_unit_kind (unit_kind tokens t derived x.label.kind x.label.text cs (ap (is_unit_category tokens t derived) (sym q ∙ u)))
        where
          no_unit_kind : x.label.kind ≡ kind.Unit → ⊥
          no_unit_kind z = true≢false (ap is_unit (sym z ∙ e))

      kid_of_first : (q : Node) → In q (nodes t) → In x.id q.kids → q.first ≤ x.first
      kid_of_first q i k =
          let f = kid_found tokens t derived q.id q x.id (found tokens t derived q i) k in
          let same : Some f.node ≡ Some x = sym f.there ∙ found tokens t derived x h in
          let one : f.node ≡ x = cc same in
          subst (λ (y : Node). q.first ≤ y.first) one f.from

  -- where the scope of a name holds a place in the body, an automatic name is declared in the function
  pub automatic_by : (n : ℕ) (node : Node) (e : Name) → slice_get (nodes t) n ≡ Some node → node.label.kind ≡ kind.Var → InBody tokens t derived m fn there is n → (c : Scope) (x : Node) → In x (nodes t) → ScopeOf t c x → is_file_scope (nodes t) c ≡ false → in_scope c n ≡ true → in_scope c e.node ≡ true
      → (fn.first ≤ e.node) × (e.node < fn.id)
  automatic_by n node e at var c s x h (of_unit k o) no_f i j = absurd (true≢false (sym (kind_of_owner s x h k o) ∙ no_f))
  automatic_by n node e at var c s x h (of_body b each) no_f i j =
      let w = each n i in
      let v = each e.node j in
      let r = small tokens t derived m fn there is x n h (body_is x b).0 (body_is x b).1 w.0 w.1 c.from c.to in
      let r0 = r.0 in
      let r1 = r.1 in
      let v0 = v.0 in
      let v1 = v.1 in
      (omega (arith, r0, v0), omega (arith, r1, v1))
  automatic_by n node e at var c s x h (of_takes k g each) no_f i j = absurd (no_takes n node x at var c h k (each n i))
  automatic_by n node e at var c s x h (of_function k f takes own each) no_f i j = by (each n i) (each e.node j)
    where
      in_block : (z : ℕ) → Within x n → Within x z → (fn.first ≤ z) × (z < fn.id)
      in_block z w v =
          let r = small tokens t derived m fn there is x n h (body_is x (ap is_body k)).0 (body_is x (ap is_body k)).1 w.0 w.1 c.from c.to in
          let r0 = r.0 in
          let r1 = r.1 in
          let v0 = v.0 in
          let v1 = v.1 in
          (omega (arith, r0, v0), omega (arith, r1, v1))

      in_takes : (z : ℕ) → Within x n → Behind takes z → (fn.first ≤ z) × (z < fn.id)
      in_takes z w v =
          let owner = block_owner n x h k f w c.from c.to in
          let o = own_inside takes (subst (λ (y : Node). own_takes (nodes t) y ≡ Some takes) owner own) in
          let first = (kid_within t takes (kid takes 0) o.0 (kid_in tokens t derived takes.id takes 0 (found tokens t derived takes o.0) (subst (λ l. 0 < least_kids l) (sym (own_takes_at t (parent_of (nodes t) x.id) takes own).kind_is) (omega arith)))).0 in
          let o1 = o.1 in
          let o2 = o.2 in
          let v0 = v.0 in
          let v1 = v.1 in
          (omega (arith, o1, first, v0), omega (arith, o2, v1))

      by : Within x n ⊎ Behind takes n → Within x e.node ⊎ Behind takes e.node → (fn.first ≤ e.node) × (e.node < fn.id)
      by (inl w) (inl v) = in_block e.node w v
      by (inl w) (inr v) = in_takes e.node w v
      by (inr w) v = let q = own_takes_at t (parent_of (nodes t) x.id) takes own in absurd (no_takes n node takes at var c q.among q.kind_is w)
