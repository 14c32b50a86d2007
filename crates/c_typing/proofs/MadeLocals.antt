-- Each local that the code of a function names is one of its own.
use Rattle.std.proofs.Common.{◌≡◌, ℕ, ◌+◌, ◌<◌, Bool, true, false, ◌||◌, ◌&&◌, List, length, map, drop, Some, refl, sym, ap, ◌∙◌, subst, arith, true≢false}
use Rattle.std.specs.Prelude.{slice_get, if◌then◌else◌, sum, nat_lt, codes, ◌==◌}
use Rattle.std.specs.List.{AllByRecursion}
use Rattle.std.specs.Str.{bytes_eq}
use Rattle.c_lexer.specs.declared.token.Token.{Token}
use Rattle.c_syntax.specs.declared.kind.SynKind.{SynKind}
use Rattle.c_syntax.specs.declared.kind.SynKind.TheVariants as kind
use Rattle.c_syntax.specs.Trees.{Tree}
use Rattle.c_grammar.specs.Derivation.{IsTreeOf}
use Rattle.c_types.specs.declared.tree.Expr.{Expr}
use Rattle.c_types.specs.declared.tree.Stmt.{Stmt}
use Rattle.c_types.specs.declared.tree.Func.{Func}
use Rattle.c_types.specs.Forms.{local, set_local, unset}
use Rattle.c_types.specs.Every.{EveryExpr, EveryStmt, InEveryExpr, InEveryStmt, own_exprs}
use Rattle.c_types.specs.WellMade.{NamesLocal, UnsetsLocal}
use Rattle.c_typing.specs.Places.{Node, nodes, node_at, kid, other_kids, index_in, says, is_file_scope, Scope, in_scope, scopes_of, scope_at, specs_of}
use Rattle.c_typing.specs.Names.{Entity, typedef_name, function_name, static_object, automatic, parameter, places, Name, denoted, name_of, declared_entity, entity_by, named_locals, local_number}
use Rattle.c_typing.specs.Judgements.{Typing, expresses, Judgement, means, defines, judgement_at, hidden_in}
use Rattle.c_typing.specs.Expressions.{hidden_before}
use Rattle.c_typing.specs.Typing.{judgements_at, unit_in, locals_of}
use Rattle.c_typing.proofs.MadeJudged.{IsFront}
use Rattle.c_typing.proofs.MadeNodes.{In, in_at, crossed, node_bounds}
use Rattle.c_typing.proofs.MadeParts.{least_kids}
use Rattle.c_typing.proofs.MadePlaced.{numbered, node_there, kid_found, kid_in}
use Rattle.c_typing.proofs.MadeAround.{both_true, equal_so, find_is}
use Rattle.c_typing.proofs.MadeDefined.{Defined, defined_at}
use Rattle.c_typing.proofs.MadeNames.{Named, Declares, by_declarator, by_enumerator}
use Rattle.c_typing.proofs.MadeFunctionNames.{names_here}
use Rattle.c_typing.proofs.MadeFunctions.{functions_good}
use Rattle.c_typing.proofs.MadeEvery.{every_stmt}
use Rattle.c_typing.proofs.MadeForming.{is_free}
use Rattle.c_typing.proofs.MadeObjects.{denoted_in}
use Rattle.c_typing.proofs.MadeKept.{low_by, owner_of_object}
use Rattle.c_typing.proofs.MadeCode.{is_quiet, is_named_local, Each, Leaves}
use Rattle.c_typing.proofs.MadeEverywhere.{all_code}
use Rattle.c_typing.proofs.MadeHidden.{hidden_below}
use Rattle.c_typing.proofs.MadeInner.{innermost_of}
use Rattle.c_typing.proofs.MadeInside.{InBody, body_up, body_in, around_is, automatic_below}
use Rattle.c_typing.proofs.MadeParameters.{no_file, automatic_by}
use Rattle.c_typing.proofs.MadeLists.{listed_by}
use Rattle.c_typing.proofs.MadeParameter.{own_list, parameter_below}

-- ---- of which owners parameters are

abbrev is_parameter : Entity → Bool
is_parameter (parameter i) = true
is_parameter y = false

declared_no_parameter : (s : List Node) (specs : Node) (c : Scope) (f : Bool) → is_parameter (declared_entity s specs c f) ≡ false
declared_no_parameter s specs c f = by (says s (codes "typedef") specs) f (is_file_scope s c || says s (codes "static") specs || says s (codes "extern") specs)
  where
    by : (a b d : Bool) → is_parameter (if a then typedef_name else (if b then function_name else (if d then static_object else automatic))) ≡ false
    by true b d = refl
    by false true d = refl
    by false false true = refl
    by false false false = refl

pub owner_of_parameter : (s : List Node) (owner specs : Node) (c : Scope) (f : Bool) (k : SynKind) (j : ℕ) → entity_by s owner specs c f k ≡ Some (parameter j) → (k ≡ kind.Param) × (j ≡ index_in (other_kids (node_at s owner.parent)) owner.id)
owner_of_parameter s owner specs c f kind.Param j e = (refl, number (cc e))
  where
    number : parameter (index_in (other_kids (node_at s owner.parent)) owner.id) ≡ parameter j → j ≡ index_in (other_kids (node_at s owner.parent)) owner.id
    number h = cc (sym h)
owner_of_parameter s owner specs c f kind.InitDecl j e =
    let same : declared_entity s specs c f ≡ parameter j = cc e in
    absurd (true≢false (ap is_parameter (sym same) ∙ declared_no_parameter s specs c f))
owner_of_parameter s owner specs c f kind.Function j e = let same : function_name ≡ parameter j = cc e in absurd (true≢false (ap is_parameter (sym same)))
owner_of_parameter s owner specs c f k j e = absurd (cc e)

automatic_declared : (s : List Node) (owner specs : Node) (c : Scope) (f : Bool) (k : SynKind) → k ≡ kind.InitDecl → entity_by s owner specs c f k ≡ Some automatic → declared_entity s specs c f ≡ automatic
automatic_declared s owner specs c f k is e = let at : entity_by s owner specs c f kind.InitDecl ≡ Some automatic = subst (λ q. entity_by s owner specs c f q ≡ Some automatic) is e in cc at

module _ (tokens : List Token) (t : Tree) (derived : IsTreeOf tokens t) (m : ℕ) (fn : Node) (there : slice_get (nodes t) m ≡ Some fn) (is : fn.label.kind ≡ kind.Function) where
  abbrev Body : ℕ → Type 0
  Body n = InBody tokens t derived m fn there is n

  named_by : (n : ℕ) (node : Node) (e : Name) → slice_get (nodes t) n ≡ Some node → node.label.kind ≡ kind.Var → Body n → In e (places t).names → (h : Named (nodes t) e) → Declares (nodes t) h.before h.node e → in_scope e.scope n ≡ true → (y : Entity) → e.entity ≡ y → is_named_local y ≡ true
      → local_number (places t) e < named_locals (places t) fn
  named_by n node e at var c among h (by_enumerator k behind owner f ent) inside y same local_y = absurd (true≢false (sym local_y ∙ ap is_named_local (sym same ∙ ent)))
  named_by n node e at var c among h (by_declarator k behind owner f ent) inside automatic same local_y =
      let scope_is = h.scoped ∙ ap (λ i. scope_at (scopes_of (nodes t)) i) (sym h.numbered) in
      let i = innermost_of tokens t derived e.node n (subst (λ (z : Scope). in_scope z n ≡ true) scope_is inside) in
      let one = scope_is ∙ i.is in
      let owner_kind = owner_of_object (nodes t) (node_at (nodes t) e.owner) (specs_of (nodes t) (node_at (nodes t) e.owner)) e.scope e.is_function (node_at (nodes t) e.owner).label.kind automatic refl (ent ∙ ap Some same) in
      let file = no_file tokens t derived m fn there is (nodes t) (node_at (nodes t) e.owner) (specs_of (nodes t) (node_at (nodes t) e.owner)) e.scope e.is_function
      (automatic_declared (nodes t) (node_at (nodes t) e.owner) (specs_of (nodes t) (node_at (nodes t) e.owner)) e.scope e.is_function (node_at (nodes t) e.owner).label.kind owner_kind (ent ∙ ap Some same)) in
      let place = automatic_by tokens t derived m fn there is n node e at var c i.scope i.node i.among i.of (subst (λ (z : Scope). is_file_scope (nodes t) z ≡ false) one file) (subst (λ (z : Scope). in_scope z n ≡ true) one inside) i.holds_it in
      automatic_below tokens t derived m fn there is e among same place.0 place.1
  named_by n node e at var c among h (by_declarator k behind owner f ent) inside (parameter j) same local_y =
      let scope_is = h.scoped ∙ ap (λ i. scope_at (scopes_of (nodes t)) i) (sym h.numbered) in
      let i = innermost_of tokens t derived e.node n (subst (λ (z : Scope). in_scope z n ≡ true) scope_is inside) in
      let own = owner_of_parameter (nodes t) (node_at (nodes t) e.owner) (specs_of (nodes t) (node_at (nodes t) e.owner)) e.scope e.is_function (node_at (nodes t) e.owner).label.kind j (ent ∙ ap Some same) in
      let l = listed_by tokens t derived e (low_by tokens t derived e h.node h.place h.there h.numbered k behind owner) own.0 in
      let list = own_list tokens t derived m fn there is n node at var c e l i (subst (λ (z : Scope). in_scope z n ≡ true) (scope_is ∙ i.is) inside) in
      let number : j ≡ index_in (other_kids l.list) l.param.id = own.1 ∙ (ap (λ (z : Node). index_in (other_kids (node_at (nodes t) z.parent)) z.id) l.owner ∙ ap (λ (z : Node). index_in (other_kids z) l.param.id) l.parent) in
      parameter_below tokens t derived fn e l list j number same
  named_by n node e at var c among h (by_declarator k behind owner f ent) inside _ same local_y = absurd (true≢false (sym local_y))

  named_below : (n : ℕ) (node : Node) (e : Name) → slice_get (nodes t) n ≡ Some node → node.label.kind ≡ kind.Var → denoted (places t).names node.id node.label.text ≡ Some e → is_named_local e.entity ≡ true → Body n → local_number (places t) e < named_locals (places t) fn
  named_below n node e at var d local_e c =
      let q = denoted_in (places t).names node.id node.label.text e d in
      let b = both_true (bytes_eq e.text node.label.text && nat_lt e.behind node.id) (in_scope e.scope node.id) q.1 in
      let h = (names_here tokens t derived).each e q.0 in
      named_by n node e at var c q.0 h h.how (subst (λ i. in_scope e.scope i ≡ true) (numbered tokens t derived n node at) b.1) e.entity refl local_e

  initial_below : (n : ℕ) (node : Node) (a : Name) → slice_get (nodes t) n ≡ Some node → node.label.kind ≡ kind.InitDecl → name_of (places t) (node_at (nodes t) (kid node 0)).first ≡ Some a → a.entity ≡ automatic → Body n → local_number (places t) a < named_locals (places t) fn
  initial_below n node a at k e h c =
      let q = find_is (λ (x : Name). x.node == (node_at (nodes t) (kid node 0)).first) (places t).names a e in
      let low = kid_found tokens t derived n node (kid node 0) at (kid_in tokens t derived n node 0 at (subst (λ l. 0 < least_kids l) (sym k) (omega arith))) in
      let first : a.node ≡ low.node.first = equal_so a.node (node_at (nodes t) (kid node 0)).first q.1 ∙ ap (λ (x : Node). x.first) (node_there tokens t derived (kid node 0) low.node low.there) in
      let up = node_bounds t low.node (in_at low.node (nodes t) (kid node 0) low.there) in
      let lid = numbered tokens t derived (kid node 0) low.node low.there in
      let id = numbered tokens t derived n node at in
      let from = low.from in
      let before = low.before in
      let c0 = c.from in
      let c1 = c.to in
      let start = crossed t fn node (in_at fn (nodes t) m there) (in_at node (nodes t) n at) (omega (arith, c0, id)) (omega (arith, c1, id)) in
      automatic_below tokens t derived m fn there is a q.0 h (omega (arith, first, from, start)) (omega (arith, first, up, lid, before, id, c1))

  hidden_in_body : (fs : List Judgement) → IsFront (places t) fs → length fs ≡ m → (js : List Judgement) (node : Node) (x : Typing) (h i : ℕ) → slice_get (nodes t) (length js) ≡ Some node → IsFront (places t) js → judgement_at (judgements_at (places t)) (length js) ≡ means (expresses x h) → i < h → Body (length js)
      → hidden_before (places t) js + i < locals_of (places t) fs fn
  hidden_in_body fs ff long js node x h i at front e lt c =
      let id = numbered tokens t derived m fn there in
      let c0 = c.from in
      let c1 = c.to in
      let b = hidden_below (places t) fn.first i h x js fs front ff (omega (arith, c1, id, long)) c0 e lt in
      subst (λ (g : Node). named_locals (places t) g + sum (map hidden_in (drop g.first js)) + i < locals_of (places t) fs fn) (sym (around_is tokens t derived m fn there is (length js) c0 c1)) (omega (arith, b))

-- ---- of a function

module _ (tokens : List Token) (t : Tree) (derived : IsTreeOf tokens t) (f : Func) (d : Defined t f) where
  abbrev Here : ℕ → Type 0
  Here n = InBody tokens t derived d.place d.node d.there d.is_function n

  free : (e : Expr) → is_free e ≡ true → NamesLocal f e
  free (local x) h = absurd (true≢false (sym h))
  free (set_local x e) h = absurd (true≢false (sym h))
  free _ h = tt

  quiet : (s : Stmt) → is_quiet s ≡ true → UnsetsLocal f s
  quiet (unset x) h = absurd (true≢false (sym h))
  quiet _ h = tt

  more_locals : (k : ℕ) → k < named_locals (places t) d.node → k < f.locals
  more_locals k lt = let all = d.locals in omega (arith, lt, all)

  leaves : Leaves t (NamesLocal f) (UnsetsLocal f) Here (λ n. n ≡ d.place) (λ k. k < f.locals) (λ c u. Unit {0})
  leaves = record {
    free = free;
    is_local = λ k h. h;
    is_set = λ k e h. h;
    quiet = quiet;
    is_unset = λ k h. h;
    up = λ n k node at h i c. body_up tokens t derived d.place d.node d.there d.is_function n k node at h i c;
    body = λ n node at e h. let same : Some d.node ≡ Some node = sym d.there ∙ (ap (λ i. slice_get (nodes t) i) (sym h) ∙ at) in let one : d.node ≡ node = cc same in subst (λ (x : Node). Here (kid x 2)) one (body_in tokens t derived d.place d.node d.there d.is_function);
    static = λ node n e at is q s c. tt;
    text = λ js node bytes at front is e c. tt;
    named = λ node n e at is q h c. more_locals (local_number (places t) e) (named_below tokens t derived d.place d.node d.there d.is_function n node e at is q h c);
    hidden = λ js node x h i at front e lt c. subst (λ n. hidden_before (places t) js + i < n) (sym d.locals) (hidden_in_body tokens t derived d.place d.node d.there d.is_function d.js d.front d.long js node x h i at front e lt c);
    initial = λ n node a at is e h c. more_locals (local_number (places t) a) (initial_below tokens t derived d.place d.node d.there d.is_function n node a at is e h c);
    named_function = λ js node e u at front is q h g c. tt;
    calling = λ g r ps es k h. tt;
    copying = λ js node x k to from at front e h c. tt;
  }

  all_locals : (n : ℕ) → n ≡ d.place → judgement_at (judgements_at (places t)) n ≡ means (defines f) → EveryStmt (Each t (NamesLocal f) (UnsetsLocal f) Here (λ n. n ≡ d.place) (λ k. k < f.locals) (λ c u. Unit {0})) f.body
  all_locals n same e = all_code t (NamesLocal f) (UnsetsLocal f) Here (λ n. n ≡ d.place) (λ k. k < f.locals) (λ c u. Unit {0}) leaves tokens derived n f e same

  abbrev Both : Stmt → Type 0
  Both s = Each t (NamesLocal f) (UnsetsLocal f) Here (λ n. n ≡ d.place) (λ k. k < f.locals) (λ c u. Unit {0}) s

  named_here : (n : ℕ) → n ≡ d.place → judgement_at (judgements_at (places t)) n ≡ means (defines f) → EveryStmt (λ s. AllByRecursion (EveryExpr (NamesLocal f)) (own_exprs s)) f.body
  named_here n same e = every_stmt Both (λ s. AllByRecursion (EveryExpr (NamesLocal f)) (own_exprs s)) (λ s h. h.0) f.body (all_locals n same e)

  unset_here : (n : ℕ) → n ≡ d.place → judgement_at (judgements_at (places t)) n ≡ means (defines f) → EveryStmt (UnsetsLocal f) f.body
  unset_here n same e = every_stmt Both (UnsetsLocal f) (λ s h. h.1) f.body (all_locals n same e)

module _ (tokens : List Token) (t : Tree) (derived : IsTreeOf tokens t) where
  pub locals_named : InEveryExpr (unit_in (places t) (judgements_at (places t))) NamesLocal
  locals_named = functions_good (λ (f : Func). EveryStmt (λ s. AllByRecursion (EveryExpr (NamesLocal f)) (own_exprs s)) f.body) (judgements_at (places t))
      (λ n f e. let d = defined_at t n f e in named_here tokens t derived f d.0 n (sym d.1) e)

  pub locals_unset : InEveryStmt (unit_in (places t) (judgements_at (places t))) UnsetsLocal
  locals_unset = functions_good (λ (f : Func). EveryStmt (UnsetsLocal f) f.body) (judgements_at (places t))
      (λ n f e. let d = defined_at t n f e in unset_here tokens t derived f d.0 n (sym d.1) e)
