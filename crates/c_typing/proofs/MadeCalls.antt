-- Each call names a function that is there, with as many arguments as it has parameters.
use Rattle.std.proofs.Common.{◌≡◌, ◌⊎◌, inl, inr, ℕ, zero, suc, ◌<◌, ◌≤◌, Bool, true, false, ◌||◌, ◌&&◌, not, List, [], ◌∷◌, length, map, Option, Some, None, refl, sym, ap, ◌∙◌, subst, arith, true≢false, unwrap_or}
use Rattle.std.specs.Prelude.{slice_get, get_or, nat_lt, nat_le, option_and_then}
use Rattle.std.specs.List.{list_any, last_or}
use Rattle.c_lexer.specs.declared.token.Token.{Token}
use Rattle.c_syntax.specs.declared.kind.SynKind.{SynKind}
use Rattle.c_syntax.specs.declared.kind.SynKind.TheVariants as kind
use Rattle.c_syntax.specs.Trees.{Tree}
use Rattle.c_syntax.specs.Tables.{size, table_of}
use Rattle.c_grammar.specs.Derivation.{IsTreeOf}
use Rattle.c_types.specs.declared.tree.Func.{Func}
use Rattle.c_typing.specs.Types.{CType, CTypes, void, integer, pointer, array, unsized, struct, function, no_types, a_type, same, same_all, listed}
use Rattle.c_typing.specs.Places.{Node, nodes, node_at, kid, is_whole, is_file_scope, Scope, in_scope, scope_by, scopes_from, scopes_of, scope_at, no_scope, specs_of}
use Rattle.c_typing.specs.Names.{Entity, function_name, static_object, places, Name, is_static, is_again, earlier, is_initialized, declared_entity, entity_by}
use Rattle.c_typing.specs.Judgements.{means, declares, defines, judgement_at, type_of}
use Rattle.c_typing.specs.Rules.{are_functions, agree, agree_with, may_be_again, is_refused, broken_if}
use Rattle.c_typing.specs.Declarators.{type_before}
use Rattle.c_typing.specs.Expressions.{type_of_name}
use Rattle.c_typing.specs.Shapes as category
use Rattle.c_typing.specs.Shapes.{Category, no_category, kids_fit, at_places, categories, categories_of, stands_in}
use Rattle.c_typing.specs.ShapesOfNodes.{as_id, category_at, HasParent}
use Rattle.c_typing.specs.Typing.{judgements_at}
use Rattle.c_typing.proofs.ShapesLaw.{root_is_unit}
use Rattle.c_typing.proofs.ShapesNodes.{node_placed}
use Rattle.c_typing.proofs.MadeNodes.{In, in_at, in_front, in_back, node_bounds, node_below, root_node, root_among, root_label, root_first, root_last}
use Rattle.c_typing.proofs.MadePlaced.{numbered, node_there}
use Rattle.c_typing.proofs.MadeAround.{both_true, and_true, find_is, so_low}
use Rattle.c_typing.proofs.MadeTop.{has_parent, unit_kind, is_unit_category}
use Rattle.c_typing.proofs.MadeWhole.{begins_named}
use Rattle.c_typing.proofs.MadeLists.{named_category}
use Rattle.c_typing.proofs.MadeScopes.{ScopeAt, scope_holds}
use Rattle.c_typing.proofs.MadeDefined.{Clean, Defined, defined_at}
use Rattle.c_typing.proofs.MadeNames.{Named, Declares, by_declarator, by_enumerator}
use Rattle.c_typing.proofs.MadeFunctionNames.{Kept, kept_of, find_one, Anything, no_chains, names_here}
use Rattle.c_typing.proofs.MadeTexts.{faultless}
use Rattle.c_typing.proofs.MadeDistinct.{in_file_scope}
use Rattle.c_typing.proofs.MadeOnce.{last_there}
use Rattle.c_typing.proofs.MadeMain.{filter_so}
use Rattle.c_typing.proofs.MadeObjects.{so_again, again_through, place_clean}
use Rattle.c_typing.proofs.MadeKept.{Low, low_by, kept_name, last_in, declarator_so}
use Rattle.c_typing.proofs.MadeTyped.{Declared, of_declaration, typed_name, no_type_of_function, type_later}
use Rattle.c_typing.proofs.MadeProto.{proto_scope, function_so}

-- ---- types of functions that agree

all_long : (ps qs : CTypes) → same_all ps qs ≡ true → length (listed ps) ≡ length (listed qs)
all_long no_types no_types e = refl
all_long no_types (a_type u us) e = absurd (true≢false (sym e))
all_long (a_type u us) no_types e = absurd (true≢false (sym e))
all_long (a_type u us) (a_type v vs) e = ap suc (all_long us vs (both_true (same u v) (same_all us vs) e).1)

-- a function type with so many parameters
pub record TakesSo (u : CType) (n : ℕ) : Type 0 where
  pub result : CType
  pub types : CTypes
  pub is : u ≡ function result types
  pub long : length (listed types) ≡ n

agree_function : (r : CType) (ps : CTypes) (v : CType) → agree (function r ps) v ≡ true → TakesSo v (length (listed ps))
agree_function r ps (function q qs) e = record { result = q; types = qs; is = refl; long = sym (all_long ps qs (both_true (same r q) (same_all ps qs) e).1) }
agree_function r ps (unsized w) e = absurd (true≢false (sym e))
agree_function r ps void e = absurd (true≢false (sym e))
agree_function r ps (integer k) e = absurd (true≢false (sym e))
agree_function r ps (pointer w) e = absurd (true≢false (sym e))
agree_function r ps (array w n) e = absurd (true≢false (sym e))
agree_function r ps (struct k) e = absurd (true≢false (sym e))

takes_agree : (u v : CType) (n : ℕ) → TakesSo u n → agree u v ≡ true → TakesSo v n
takes_agree u v n k e =
    let a = agree_function k.result k.types v (subst (λ w. agree w v ≡ true) k.is e) in
    record { result = a.result; types = a.types; is = a.is; long = a.long ∙ k.long }

-- ---- the scope of the unit

module _ (tokens : List Token) (t : Tree) (derived : IsTreeOf tokens t) where
  scopes_have : (ns : List Node) (x : Node) (c : Scope) → In x ns → In c (scope_by (nodes t) x x.label.kind) → In c (scopes_from (nodes t) ns)
  scopes_have [] x c h i = absurd h
  scopes_have (y ∷ ns) x c (inl same) i = in_front c (scope_by (nodes t) y y.label.kind) (scopes_from (nodes t) ns) (subst (λ (z : Node). In c (scope_by (nodes t) z z.label.kind)) (sym same) i)
  scopes_have (y ∷ ns) x c (inr h) i = in_back c (scope_by (nodes t) y y.label.kind) (scopes_from (nodes t) ns) (scopes_have ns x c h i)

  root_kind : (root_node t).label.kind ≡ kind.Unit
  root_kind = ap (λ l. l.kind) (root_label t) ∙ unit_kind tokens t derived t.label.kind t.label.text (categories t.kids) (ap (is_unit_category tokens t derived) (root_is_unit tokens t derived))

  unit_scope : Scope
  unit_scope = record { owner = (root_node t).id; from = (root_node t).first; to = (root_node t).id; block_from = 1; block_to = 0 }

  unit_scope_in : In unit_scope (scopes_of (nodes t))
  unfolding unit_scope
  unit_scope_in = scopes_have (nodes t) (root_node t) unit_scope (root_among t) (subst (λ k. In unit_scope (scope_by (nodes t) (root_node t) k)) (sym root_kind) (inl refl))

  in_unit : (i : ℕ) (m : Node) → In m (nodes t) → i ≤ m.id → in_scope unit_scope i ≡ true
  unfolding unit_scope
  in_unit i m h le =
      let first = root_first t in
      let last = root_last t in
      let below = node_below t m h in
      ap (λ b. b || (nat_le 1 i && nat_le i 0)) (and_true (nat_le (root_node t).first i) (nat_le i (root_node t).id) (so_low (root_node t).first i (omega (arith, first))) (so_low i (root_node t).id (omega (arith, last, le, below))))

  file_owner : (i : ℕ) (m : Node) → In m (nodes t) → i ≤ m.id → ((c : Scope) → ScopeAt t c i → c.owner ≡ size t.kids) → (scope_at (scopes_of (nodes t)) i).owner ≡ size t.kids
  file_owner i m h le each =
      let o = find_one (λ c. in_scope c i) (scopes_of (nodes t)) unit_scope unit_scope_in (in_unit i m h le) in
      let f = find_is (λ c. in_scope c i) (scopes_of (nodes t)) o.0 o.1 in
      ap (λ p. (unwrap_or p no_scope).owner) o.1 ∙ each o.0 (scope_holds tokens t derived o.0 i f.0 f.1)

-- ---- the names of functions

second_only : (known : List Category) (ks : List ℕ) (k : ℕ) → at_places known (map as_id ks) ≡ category.specifiers ∷ category.declarator ∷ category.block ∷ [] → In k ks → get_or known k no_category ≡ category.declarator → k ≡ unwrap_or (slice_get ks 1) 0
second_only known [] k h i g = absurd i
second_only known (a ∷ []) k h i g = absurd (cc h)
second_only known (a ∷ b ∷ []) k h i g = absurd (cc h)
second_only known (a ∷ b ∷ c ∷ d ∷ ks) k h i g = absurd (cc h)
second_only known (a ∷ b ∷ c ∷ []) k h (inl same) g =
    let x : get_or known a no_category ≡ category.specifiers = cc h in
    let clash : category.specifiers ≡ category.declarator = sym x ∙ (ap (λ i. get_or known i no_category) same ∙ g) in absurd (cc clash)
second_only known (a ∷ b ∷ c ∷ []) k h (inr (inl same)) g = sym same
second_only known (a ∷ b ∷ c ∷ []) k h (inr (inr (inl same))) g =
    let x : get_or known c no_category ≡ category.block = cc h in
    let clash : category.block ≡ category.declarator = sym x ∙ (ap (λ i. get_or known i no_category) same ∙ g) in absurd (cc clash)
second_only known (a ∷ b ∷ c ∷ []) k h (inr (inr (inr i))) g = absurd i

fits_three : (text : List ℕ) (cs : List Category) → kids_fit kind.Function text cs ≡ true → cs ≡ category.specifiers ∷ category.declarator ∷ category.block ∷ []
unfolding kids_fit
fits_three text (category.specifiers ∷ category.declarator ∷ category.block ∷ []) fits = refl
fits_three text cs fits = absurd (true≢false (sym fits))

owner_of_function : (s : List Node) (owner specs : Node) (c : Scope) (f : Bool) (k : SynKind) → entity_by s owner specs c f k ≡ Some function_name → ((k ≡ kind.InitDecl) × (f ≡ true)) ⊎ (k ≡ kind.Function)
owner_of_function s owner specs c f kind.InitDecl e = let same : declared_entity s specs c f ≡ function_name = cc e in inl (refl, function_so s specs c f same)
owner_of_function s owner specs c f kind.Function e = inr refl
owner_of_function s owner specs c f kind.Param e = absurd (true≢false (sym (ap is_function_entity e)))
  where
    is_function_entity : Option Entity → Bool
    is_function_entity (Some function_name) = true
    is_function_entity o = false
owner_of_function s owner specs c f k e = absurd (cc e)

module _ (tokens : List Token) (t : Tree) (derived : IsTreeOf tokens t) (ok : Clean t)
    (functions : (n : ℕ) (node : Node) → slice_get (nodes t) n ≡ Some node → node.label.kind ≡ kind.Function → (f : Func) × (judgement_at (judgements_at (places t)) n ≡ means (defines f)))
    (meant : (n : ℕ) (node : Node) → slice_get (nodes t) n ≡ Some node → category_at t n ≡ category.declarator → is_whole (nodes t) node ≡ true → (u : CType) × (judgement_at (judgements_at (places t)) n ≡ means (declares u))) where
  abbrev DeclaredName : Name → Type 0
  DeclaredName x = Declared tokens t derived functions x

  -- ---- of a definition

  unfoldable pub of_definition : (g : Func) (d : Defined t g) (k : Kept tokens t derived (Anything tokens t derived) g d) → DeclaredName k.names.name
  of_definition g d k =
      let low : k.names.low.id ≡ kid d.node 1 = numbered tokens t derived (kid d.node 1) k.names.low k.names.there in
      record {
        type = d.type;
        judged = ap (λ i. type_of (judgement_at (judgements_at (places t)) i)) (k.names.behind ∙ low) ∙ type_later tokens t derived functions d.js (kid d.node 1) d.type d.front d.typed;
        js = k.whole.js;
        long = k.whole.long ∙ sym (k.names.behind ∙ low);
        front = k.whole.front;
        once = (faultless (places t) k.whole.js k.names.name d.type k.names.low.id k.kept).once;
        owned = λ u e. absurd (no_type_of_function tokens t derived functions d.place d.node d.there d.is_function u (ap (λ i. type_of (judgement_at (judgements_at (places t)) i)) (sym (k.names.owner ∙ numbered tokens t derived d.place d.node d.there)) ∙ e));
      }

  pub record FunName (x : Name) : Type 0 where
    pub declared : DeclaredName x
    pub filed : x.scope.owner ≡ size t.kids

  defined_name : (g : Func) (d : Defined t g) (k : Kept tokens t derived (Anything tokens t derived) g d) → FunName k.names.name
  defined_name g d k = record { declared = of_definition g d k; filed = in_file_scope tokens t derived d.place d.node d.there d.is_function k.names }

  proto_name : (x : Name) → In x (places t).names → (h : Named (nodes t) x) → (l : Low tokens t derived x) → x.entity ≡ function_name → (node_at (nodes t) x.owner).label.kind ≡ kind.InitDecl → x.is_function ≡ true → FunName x
  proto_name x among h l e owner fun =
      let k = kept_name tokens t derived meant (Anything tokens t derived) (no_chains tokens t derived) x among l owner in
      let begins = k.names.begins in
      let inside = in_at k.names.low (nodes t) k.names.low.id k.names.there in
      let up = node_bounds t k.names.low inside in
      record {
        declared = of_declaration tokens t derived functions x among k e;
        filed = ap (λ (c : Scope). c.owner) (h.scoped ∙ ap (λ i. scope_at (scopes_of (nodes t)) i) (sym h.numbered))
            ∙ file_owner tokens t derived x.node k.names.low inside (omega (arith, begins, up)) (λ c s. proto_scope tokens t derived (place_clean tokens t derived ok meant) x among k fun c (subst (λ i. ScopeAt t c i) (sym begins) s));
      }

  -- the parent of the declarator of a definition is the function, of which it is the second kid
  module _ (x : Name) (among : In x (places t).names) (l : Low tokens t derived x) (owner : (node_at (nodes t) x.owner).label.kind ≡ kind.Function) where
    above : HasParent t l.low.id l.low
    above = has_parent tokens t derived l.low.id l.low l.there (λ u. true≢false (sym (named_category tokens t derived x l) ∙ ap begins_named u))

    function_is : above.parent.label.kind ≡ kind.Function
    function_is = ap (λ (m : Node). m.label.kind) (sym (ap (λ i. node_at (nodes t) i) l.owner ∙ node_there tokens t derived l.low.parent above.parent above.found)) ∙ owner

    category_low : category_at t l.low.id ≡ category.declarator
    unfolding stands_in
    category_low = declarator_so tokens t derived (category_at t l.low.id) (named_category tokens t derived x l)
        (λ i. true≢false (sym (subst (λ k. stands_in category.init_declarator k ≡ true) function_is (subst (λ d. stands_in d above.parent.label.kind ≡ true) i above.stands))))

    second : l.low.id ≡ kid above.parent 1
    second =
        let n = node_placed tokens t derived l.low.parent above.parent above.found in
        second_only (categories_of (table_of t)) above.parent.kids l.low.id
        (fits_three above.parent.label.text (at_places (categories_of (table_of t)) (map as_id above.parent.kids)) (subst (λ k. kids_fit k above.parent.label.text (at_places (categories_of (table_of t)) (map as_id above.parent.kids)) ≡ true) function_is n.fits.kids))
        (subst (λ ks. In l.low.id ks) (sym above.among) (in_back l.low.id above.front (l.low.id ∷ above.back) (inl refl))) category_low

    same_name : (g : Func) (d : Defined t g) (k : Kept tokens t derived (Anything tokens t derived) g d) → d.node ≡ above.parent → k.names.name ≡ x
    same_name g d k is =
        let at : slice_get (nodes t) l.low.id ≡ Some k.names.low = ap (λ i. slice_get (nodes t) i) (second ∙ ap (λ (m : Node). kid m 1) (sym is)) ∙ k.names.there in
        let same : Some k.names.low ≡ Some l.low = sym at ∙ l.there in
        let low : k.names.low ≡ l.low = cc same in
        (names_here tokens t derived).alone k.names.name x k.names.among among (k.names.by_node ∙ (ap (λ (m : Node). m.first) low ∙ l.begins))

    by_definition : FunName x
    by_definition =
        let g = functions l.low.parent above.parent above.found function_is in
        let d = defined_at t l.low.parent g.0 g.1 in
        let k = kept_of tokens t derived (Anything tokens t derived) (no_chains tokens t derived) g.0 d.0 in
        let same : Some (d.0).node ≡ Some above.parent = sym (d.0).there ∙ (ap (λ i. slice_get (nodes t) i) d.1 ∙ above.found) in
        let is : (d.0).node ≡ above.parent = cc same in
        subst FunName (same_name g.0 d.0 k is) (defined_name g.0 d.0 k)

  pub fun_name : (x : Name) → In x (places t).names → x.entity ≡ function_name → FunName x
  fun_name x among e = let h = (names_here tokens t derived).each x among in by h h.how
    where
      is_fun : Entity → Bool
      is_fun function_name = true
      is_fun y = false

      by : (h : Named (nodes t) x) → Declares (nodes t) h.before h.node x → FunName x
      by h (by_enumerator i behind owner f g) = absurd (true≢false (ap is_fun (sym e ∙ g)))
      by h (by_declarator i behind owner f g) =
          let l = low_by tokens t derived x h.node h.place h.there h.numbered i behind owner in
          which l (owner_of_function (nodes t) (node_at (nodes t) x.owner) (specs_of (nodes t) (node_at (nodes t) x.owner)) x.scope x.is_function (node_at (nodes t) x.owner).label.kind (g ∙ ap Some e))
        where
          which : Low tokens t derived x → (((node_at (nodes t) x.owner).label.kind ≡ kind.InitDecl) × (x.is_function ≡ true)) ⊎ ((node_at (nodes t) x.owner).label.kind ≡ kind.Function) → FunName x
          which l (inl q) = proto_name x among h l e q.0 q.1
          which l (inr q) = by_definition x among l q

  -- ---- all declarations of a function take as many parameters

  function_before : (x y : Name) → x.entity ≡ function_name → may_be_again (places t) x y ≡ true → y.entity ≡ function_name
  function_before x y e q = at y.entity (subst (λ z. (are_functions y.entity z || is_static y.entity && is_static z && is_file_scope (places t).nodes x.scope) && not (is_initialized (places t) x && list_any (is_initialized (places t)) (earlier (places t) x)) ≡ true) e q)
    where
      at : (a : Entity) → (are_functions a function_name || is_static a && is_static function_name && is_file_scope (places t).nodes x.scope) && not (is_initialized (places t) x && list_any (is_initialized (places t)) (earlier (places t) x)) ≡ true → a ≡ function_name
      at function_name h = refl
      at static_object h = absurd (true≢false (sym h))
      at _ h = absurd (true≢false (sym h))

  pub record First (x : Name) (n : ℕ) : Type 0 where
    pub name : Name
    pub among : In name (places t).names
    pub fun : name.entity ≡ function_name
    pub again : is_again name x ≡ true
    pub alone : earlier (places t) name ≡ []
    pub declared : DeclaredName name
    pub takes : TakesSo declared.type n

  step_back : (x y : Name) → x.entity ≡ function_name → In y (places t).names → y.behind < x.behind → last_or None (earlier (places t) x) ≡ Some y → (d : DeclaredName x) (n : ℕ) → TakesSo d.type n → (y.entity ≡ function_name) × ((c : DeclaredName y) → TakesSo c.type n)
  step_back x y e among lt last d n takes = (fun, typed)
    where
      at : broken_if (is_refused (places t) x d.type (type_before (places t) d.js x) (Some y)) 3 x.node ≡ []
      at = subst (λ q. broken_if (is_refused (places t) x d.type (type_before (places t) d.js x) q) 3 x.node ≡ []) last d.once

      none : (b : Bool) → broken_if (not b) 3 x.node ≡ [] → b ≡ true
      none true g = refl
      none false g = absurd (cc g)

      both : (may_be_again (places t) x y ≡ true) × (agree_with d.type (type_before (places t) d.js x) ≡ true)
      both = both_true (may_be_again (places t) x y) (agree_with d.type (type_before (places t) d.js x)) (none (may_be_again (places t) x y && agree_with d.type (type_before (places t) d.js x)) at)

      fun : y.entity ≡ function_name
      fun = function_before x y e both.0

      typed : (c : DeclaredName y) → TakesSo c.type n
      typed c =
          let long = d.long in
          let before : type_before (places t) d.js x ≡ Some c.type = ap (λ o. option_and_then (type_of_name d.js) o) last ∙ typed_name tokens t derived functions y c d.js d.front (omega (arith, long, lt)) in
          takes_agree d.type c.type n takes (subst (λ o. agree_with d.type o ≡ true) before both.1)

  pub first_by : (k : ℕ) (x : Name) → x.behind < k → In x (places t).names → x.entity ≡ function_name → (d : DeclaredName x) (n : ℕ) → TakesSo d.type n → First x n
  first_by zero x lt h e d n takes = absurd (omega (arith, lt))
  first_by (suc k) x lt h e d n takes = by (earlier (places t) x) refl (λ y l c w i s f. first_by k y (omega (arith, lt, l)) i f c n w)
    where
      less : (a b : ℕ) → nat_lt a b ≡ true → a < b
      less a b q = grind arith

      by : (ys : List Name) → earlier (places t) x ≡ ys → ((y : Name) → y.behind < x.behind → (c : DeclaredName y) → TakesSo c.type n → In y (places t).names → is_again y x ≡ true → y.entity ≡ function_name → First y n) → First x n
      by [] g more = record { name = x; among = h; fun = e; again = so_again x x refl refl; alone = g; declared = d; takes = takes }
      by (z ∷ zs) g more = let l = last_there (earlier (places t) x) z None (subst (λ q. In z q) (sym g) (inl refl)) in at l.0 l.1 (last_in (earlier (places t) x) None l.0 l.1)
        where
          at : (y : Name) → last_or None (earlier (places t) x) ≡ Some y → In y (earlier (places t) x) ⊎ (None ≡ Some y) → First x n
          at y l (inr q) = absurd (cc q)
          at y l (inl q) =
              let f = filter_so (λ (a : Name). is_again a x && nat_lt a.behind x.behind) (places t).names y q in
              let b = both_true (is_again y x) (nat_lt y.behind x.behind) f.1 in
              let lt2 = less y.behind x.behind b.1 in
              let s = step_back x y e f.0 lt2 l d n takes in
              let c = (fun_name y f.0 s.0).declared in
              let m = more y lt2 c (s.1 c) f.0 b.0 s.0 in
              record { name = m.name; among = m.among; fun = m.fun; again = again_through m.name y x m.again b.0; alone = m.alone; declared = m.declared; takes = m.takes }
