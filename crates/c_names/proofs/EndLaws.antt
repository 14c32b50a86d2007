-- Each scope ends at a node of its own.
use Rattle.std.proofs.Common.{◌≡◌, ◌⊎◌, inl, inr, ℕ, zero, suc, ◌+◌, ◌<◌, Bool, true, false, List, [], ◌∷◌, length, map, Option, Some, None, refl, sym, ap, ◌∙◌, subst, arith, true≢false}
use Rattle.std.specs.Prelude.{slice_get, get_or, if◌then◌else◌, ◌==◌}
use Rattle.c_lexer.specs.declared.token.Token.{Token}
use Rattle.c_syntax.specs.declared.kind.SynKind.{SynKind}
use Rattle.c_syntax.specs.declared.kind.SynKind.TheVariants as kind
use Rattle.c_syntax.specs.Trees.{Tree}
use Rattle.c_grammar.specs.Derivation.{IsTreeOf}
use Rattle.c_typing.specs.Places.{Node, nodes, kid, parent_of, is_function, own_takes, Scope, end_of, plain_scope, block_scope, takes_before, belongs_to_block, scope_by, scopes_of}
use Rattle.c_typing.specs.Shapes as category
use Rattle.c_typing.specs.Shapes.{Category, no_category, category_by, kids_fit}
use Rattle.c_typing.specs.ShapesOfNodes.{category_at}
use Rattle.c_typing.proofs.MadeNodes.{In}
use Rattle.c_typing.proofs.MadePlaced.{found}
use Rattle.c_typing.proofs.MadeScopes.{scopes_in}
use Rattle.c_typing.proofs.ProgressKinds as of
use Rattle.c_typing.proofs.ProgressPlaces.{Linked, AreLinked, are_linked, kids_apart, first_low, get_or_at, some_same}
use Rattle.c_typing.proofs.ProgressKids.{KidsFrom}
use Rattle.c_typing.proofs.ProgressOwners.{is_specs, parent_is}
use Rattle.c_names.proofs.StandLaws.{EndApart}
use Rattle.c_names.proofs.DeclaredLaws.{to_in}

not_zero : (n : ℕ) → 0 < n → (n == 0) ≡ false
not_zero n h = grind arith

one_plain : (x : Node) (from : ℕ) (c d : Scope) → In c (plain_scope x from) → In d (plain_scope x from) → c ≡ d
one_plain x from c d (inl e) (inl f) = sym e ∙ f
one_plain x from c d (inr h) i = absurd h
one_plain x from c d h (inr i) = absurd i

one_block : (x : Node) (o : Option Node) (c d : Scope) → In c (block_scope x o) → In d (block_scope x o) → c ≡ d
one_block x None c d h i = one_plain x x.first c d h i
one_block x (Some takes) c d (inl e) (inl f) = sym e ∙ f
one_block x (Some takes) c d (inr h) i = absurd h
one_block x (Some takes) c d h (inr i) = absurd i

one_scope : (s : List Node) (x : Node) (k : SynKind) (c d : Scope) → In c (scope_by s x k) → In d (scope_by s x k) → c ≡ d
one_scope s x kind.Unit c d h i = one_plain x x.first c d h i
one_scope s x kind.Block c d h i = one_block x (takes_before s x) c d h i
one_scope s x kind.For c d h i = one_plain x x.first c d h i
one_scope s x kind.Switch c d h i = one_plain x (kid x 0 + 1) c d h i
one_scope s x kind.Takes c d h i = by (belongs_to_block s x) h i
  where
    by : (b : Bool) → In c (if b then [] else plain_scope x (kid x 0 + 1)) → In d (if b then [] else plain_scope x (kid x 0 + 1)) → c ≡ d
    by true h i = absurd h
    by false h i = one_plain x (kid x 0 + 1) c d h i
one_scope s x _ c d h i = absurd h

plain_end : (x : Node) (from : ℕ) (c : Scope) → In c (plain_scope x from) → end_of c ≡ x.id
plain_end x from c (inl e) = ap end_of (sym e)
plain_end x from c (inr h) = absurd h

function_so : (k : SynKind) → is_function k ≡ true → k ≡ kind.Function
function_so kind.Function e = refl
function_so _ e = absurd (true≢false (sym e))

module _ (tokens : List Token) (t : Tree) (derived : IsTreeOf tokens t) where
  links : AreLinked (category_at t) (nodes t)
  links = are_linked tokens t derived

  -- the block of a function is not the first node
  block_above : (x : Node) → In x (nodes t) → x.label.kind ≡ kind.Block → (parent_of (nodes t) x.id).label.kind ≡ kind.Function → 0 < x.id
  unfolding category_by
  block_above x h is up = by (links.linked x.id x at)
    where
      at : slice_get (nodes t) x.id ≡ Some x
      at = found tokens t derived x h

      own : category_at t x.id ≡ category_by kind.Block x.label.text (map (category_at t) x.kids)
      own = (links.shapes.shaped x.id x at).category ∙ ap (λ k. category_by k x.label.text (map (category_at t) x.kids)) is

      by : (suc x.id ≡ length (nodes t)) ⊎ Linked (nodes t) x.id x → 0 < x.id
      by (inl last) = absurd (true≢false (sym (ap of.is_unit_only (links.root x.id x at last)) ∙ ap of.is_unit_only own))
      by (inr q) = index q.index q.among
        where
          function : q.parent.label.kind ≡ kind.Function
          function = ap (λ (m : Node). m.label.kind) (sym (parent_is (category_at t) (nodes t) links x.id x at q)) ∙ up

          fits : get_or (map (category_at t) q.parent.kids) 0 no_category ≡ category.specifiers
          fits =
              let shape = links.shapes.shaped x.parent q.parent q.at in
              (of.of_function q.parent.label.text (map (category_at t) q.parent.kids) (ap (λ k. kids_fit k q.parent.label.text (map (category_at t) q.parent.kids)) (sym function) ∙ shape.kids)).0

          index : (i : ℕ) → slice_get q.parent.kids i ≡ Some x.id → 0 < x.id
          index zero among =
              let same = sym (get_or_at (category_at t) (nodes t) links q.parent.kids 0 x.id among) ∙ fits in
              absurd (true≢false (sym (ap is_specs same) ∙ ap is_specs own))
          index (suc i) among = from q.parent.kids among (links.shapes.tiled x.parent q.parent q.at).kids
            where
              from : (ks : List ℕ) → slice_get ks (suc i) ≡ Some x.id → KidsFrom (nodes t) q.parent.first x.parent x.parent ks → 0 < x.id
              from [] e tile = absurd (cc e)
              from (k ∷ ks) e tile =
                  let apart = kids_apart (nodes t) q.parent.first x.parent x.parent (k ∷ ks) 0 (suc i) k x.id x tile (omega arith) refl e at in
                  let low = first_low (category_at t) (nodes t) links x.id x at in
                  omega (arith, apart, low)

  block_end : (x : Node) → In x (nodes t) → x.label.kind ≡ kind.Block → (o : Option Node) → takes_before (nodes t) x ≡ o → (c : Scope) → In c (block_scope x o) → end_of c ≡ x.id
  block_end x h is None e c i = plain_end x x.first c i
  block_end x h is (Some takes) e c (inr i) = absurd i
  block_end x h is (Some takes) e c (inl same) =
      ap end_of (sym same) ∙ ap (λ b. if b then takes.id else x.id) (not_zero x.id (block_above x h is (by (is_function (parent_of (nodes t) x.id).label.kind) refl e)))
    where
      by : (b : Bool) → is_function (parent_of (nodes t) x.id).label.kind ≡ b → (if b then own_takes (nodes t) (parent_of (nodes t) x.id) else None) ≡ Some takes → (parent_of (nodes t) x.id).label.kind ≡ kind.Function
      by true g f = function_so (parent_of (nodes t) x.id).label.kind g
      by false g f = absurd (cc f)

  scope_end : (x : Node) → In x (nodes t) → (k : SynKind) → x.label.kind ≡ k → (c : Scope) → In c (scope_by (nodes t) x k) → end_of c ≡ x.id
  scope_end x h kind.Unit e c i = plain_end x x.first c i
  scope_end x h kind.Block e c i = block_end x h e (takes_before (nodes t) x) refl c i
  scope_end x h kind.For e c i = plain_end x x.first c i
  scope_end x h kind.Switch e c i = plain_end x (kid x 0 + 1) c i
  scope_end x h kind.Takes e c i = by (belongs_to_block (nodes t) x) i
    where
      by : (b : Bool) → In c (if b then [] else plain_scope x (kid x 0 + 1)) → end_of c ≡ x.id
      by true k = absurd k
      by false k = plain_end x (kid x 0 + 1) c k
  scope_end x h _ e c i = absurd i

  pub ends_apart : EndApart (scopes_of (nodes t))
  ends_apart c d h i e =
      let p = scopes_in (nodes t) (nodes t) c (to_in c (scopes_of (nodes t)) h) in
      let q = scopes_in (nodes t) (nodes t) d (to_in d (scopes_of (nodes t)) i) in
      let low = scope_end p.0 p.1 (p.0).label.kind refl c p.2 in
      let high = scope_end q.0 q.1 (q.0).label.kind refl d q.2 in
      let same : p.0 ≡ q.0 = some_same (sym (found tokens t derived p.0 p.1) ∙ (ap (slice_get (nodes t)) (sym low ∙ (e ∙ high)) ∙ found tokens t derived q.0 q.1)) in
      one_scope (nodes t) q.0 (q.0).label.kind c d (subst (λ (x : Node). In c (scope_by (nodes t) x x.label.kind)) same p.2) q.2
