-- A struct that the name of an object has is complete, no parameter has one, and no function gives one.
use Rattle.std.proofs.Common.{◌≡◌, ◌⊎◌, inl, inr, ℕ, zero, suc, ◌<◌, ◌≤◌, Bool, true, false, ◌||◌, List, [], ◌∷◌, ◌++◌, length, map, Option, Some, None, refl, sym, ap, ◌∙◌, subst, arith, true≢false, unwrap_or}
use Rattle.std.specs.Prelude.{slice_get, filter_map, if◌then◌else◌}
use Rattle.std.specs.Option.{is_some}
use Rattle.std.specs.List.{list_any}
use Rattle.c_lexer.specs.declared.token.Token.{Token}
use Rattle.c_syntax.specs.declared.kind.SynKind.TheVariants as kind
use Rattle.c_syntax.specs.Trees.{Tree}
use Rattle.c_grammar.specs.Derivation.{IsTreeOf}
use Rattle.c_typing.specs.Types.{CType, void, integer, pointer, array, unsized, struct, function, is_struct, is_function, has_size}
use Rattle.c_typing.specs.Places.{Node, nodes, node_at, kid, other_kids, specs_of}
use Rattle.c_typing.specs.Names.{Entity, typedef_name, function_name, static_object, automatic, parameter, enumerator, Places, places, Name}
use Rattle.c_typing.specs.Judgements.{Fault, Judgement, means, breaks_rules, waits, besides, given, declares, judgement_at, type_at, type_of, faults_in, layouts}
use Rattle.c_typing.specs.Rules.{local_array_or_struct, many_parameters, bad_parameter, broken_if}
use Rattle.c_typing.specs.Declarators.{object_size, name_faults, declared_faults, function_declarator, parameter_node}
use Rattle.c_typing.specs.Expressions.{type_of_name}
use Rattle.c_typing.specs.Initializers.{completed}
use Rattle.c_typing.specs.Shapes as category
use Rattle.c_typing.specs.Shapes.{Category, no_category, kids_fit}
use Rattle.c_typing.specs.ShapesOfNodes.{category_at}
use Rattle.c_typing.specs.Typing.{judged_by, judgements_at, faults}
use Rattle.c_typing.proofs.ProgressBase.{some_same}
use Rattle.c_typing.proofs.ProgressForms.{is_part}
use Rattle.c_typing.proofs.ProgressPlaces.{are_linked}
use Rattle.c_typing.proofs.ProgressMeant.{meant}
use Rattle.c_typing.proofs.ProgressDeclared.{IsDeclaredName, IsEnumerator}
use Rattle.c_typing.proofs.ProgressNumbers.{InList}
use Rattle.c_typing.proofs.ProgressObjects.{stand}
use Rattle.c_typing.proofs.ProgressCompleted as completing
use Rattle.c_typing.proofs.ProgressTyped as typed
use Rattle.c_typing.proofs.MadeJudged.{IsFront, Stands, stands, front_at, no_fault_of}
use Rattle.c_typing.proofs.MadeNodes.{In, at_in}
use Rattle.c_typing.proofs.MadePlaced.{found, kid_found}
use Rattle.c_typing.proofs.MadeDefined.{Clean, clean}
use Rattle.c_typing.proofs.MadeNames.{Named, Declares, by_declarator, by_enumerator}
use Rattle.c_typing.proofs.MadeFunctionNames.{Anything, no_chains, names_here}
use Rattle.c_typing.proofs.MadeTexts.{front_none}
use Rattle.c_typing.proofs.MadeTexts.{back_none}
use Rattle.c_typing.proofs.MadeWhole.{begins_named}
use Rattle.c_typing.proofs.MadeLists.{Listed, listed_by, named_category}
use Rattle.c_typing.proofs.MadeLocals.{owner_of_parameter}
use Rattle.c_typing.proofs.MadeKept.{low_by, is_object_entity, kept_name, object_named}
use Rattle.c_typing.proofs.MadeTyped.{type_later, name_typed}
use Rattle.c_typing.proofs.MadeCalls.{fun_name}
use Rattle.c_typing.proofs.MadeMeant.{IsMeaningful, meaningful}
use Rattle.c_typing.proofs.MadeCopiedSizes.{is_hollow}
use Rattle.c_typing.proofs.MadeCopiedTypes.{type_full}
use Rattle.c_typing.proofs.MadeCopiedMembers.{sized_from, sized_on}
use Rattle.c_typing.proofs.MadeCopiedForms.{Complete, allowed, complete_other}

object_front : (p : Places) (js : List Judgement) (x : Name) (u : CType) (n : ℕ) (y : Entity) → is_object_entity y ≡ true → declared_faults p js x u n false y ≡ [] → object_size (layouts js) u n ≡ []
object_front p js x u n static_object e f = front_none (object_size (layouts js) u n) (name_faults p js x u n false) f
object_front p js x u n automatic e f = front_none (object_size (layouts js) u n) (local_array_or_struct u n) (front_none (object_size (layouts js) u n ++ local_array_or_struct u n) (name_faults p js x u n false) f)
object_front p js x u n typedef_name e f = absurd (true≢false (sym e))
object_front p js x u n function_name e f = absurd (true≢false (sym e))
object_front p js x u n (parameter i) e f = absurd (true≢false (sym e))
object_front p js x u n enumerator e f = absurd (true≢false (sym e))

sized_object : (p : Places) (js : List Judgement) (n m at : ℕ) (u : CType) → IsFront p js → length js ≡ n → n ≤ m → object_size (layouts js) u at ≡ [] → Complete p m u
sized_object p js n m at (struct k) front long le e = sized_on p n m (struct k) le (sized_from p js n (struct k) front long (allowed (has_size (layouts js) (struct k)) 5 at e))
sized_object p js n m at void front long le e = tt
sized_object p js n m at (integer k) front long le e = tt
sized_object p js n m at (pointer u) front long le e = tt
sized_object p js n m at (array u c) front long le e = tt
sized_object p js n m at (unsized u) front long le e = tt
sized_object p js n m at (function r ps) front long le e = tt

completed_complete : (p : Places) (n : ℕ) (u : CType) (o : Option ℕ) → Complete p n u → Complete p n (completed u o)
completed_complete p n (unsized u) None h = h
completed_complete p n (unsized u) (Some k) h = tt
completed_complete p n void o h = h
completed_complete p n (integer k) o h = h
completed_complete p n (pointer u) o h = h
completed_complete p n (array u c) o h = h
completed_complete p n (struct k) o h = h
completed_complete p n (function r ps) o h = h

besides_none : (fs : List Fault) (j : Judgement) → faults_in (besides fs j) ≡ [] → fs ≡ []
besides_none [] j e = refl
besides_none (f ∷ fs) (means m) e = absurd (cc e)
besides_none (f ∷ fs) (breaks_rules g gs) e = absurd (cc e)
besides_none (f ∷ fs) waits e = absurd (cc e)

-- what is asked of none of some types holds of none
none_among : (test : CType → Bool) (f : ℕ → Option CType) (ks : List ℕ) (k : ℕ) (u : CType) → list_any test (filter_map (λ part. part) (map f ks)) ≡ false → In k ks → f k ≡ Some u → test u ≡ false
none_among test f [] k u e h g = absurd h
none_among test f (i ∷ ks) k u e h g = by (f i) refl h e (λ e2 h2. none_among test f ks k u e2 h2 g)
  where
    first : (a b : Bool) → a || b ≡ false → a ≡ false
    first false b q = refl
    first true b q = absurd (true≢false q)

    second : (a b : Bool) → a || b ≡ false → b ≡ false
    second false b q = q
    second true b q = absurd (true≢false q)

    by : (o : Option CType) → f i ≡ o → In k (i ∷ ks) → list_any test (filter_map (λ part. part) (o ∷ map f ks)) ≡ false → (list_any test (filter_map (λ part. part) (map f ks)) ≡ false → In k ks → test u ≡ false) → test u ≡ false
    by None q (inl same) e2 more = let clash : None ≡ Some u = sym q ∙ (ap f same ∙ g) in absurd (cc clash)
    by None q (inr h2) e2 more = more e2 h2
    by (Some v) q (inl same) e2 more = let equal : Some v ≡ Some u = sym q ∙ (ap f same ∙ g) in ap test (sym (some_same equal)) ∙ first (test v) _ e2
    by (Some v) q (inr h2) e2 more = more (second (test v) _ e2) h2

no_struct_so : (u : CType) → is_struct u || is_function u ≡ false → is_struct u ≡ false
no_struct_so u e = by (is_struct u) e
  where
    by : (b : Bool) → b || is_function u ≡ false → b ≡ false
    by false e2 = refl
    by true e2 = absurd (true≢false e2)

not_any : (b : Bool) (n : ℕ) → broken_if b 21 n ≡ [] → b ≡ false
not_any false n e = refl
not_any true n e = absurd (cc e)

-- the declarator of a parameter is its second kid
declarator_second : (text : List ℕ) (cat : ℕ → Category) (ks : List ℕ) (k : ℕ) → kids_fit kind.Param text (map cat ks) ≡ true → In k ks → begins_named (cat k) ≡ true → unwrap_or (slice_get ks 1) 0 ≡ k
unfolding kids_fit
declarator_second text cat [] k e h g = absurd h
declarator_second text cat (a ∷ ks) k e (inl same) g = absurd (first (cat a) e (ap (λ i. begins_named (cat i)) same ∙ g))
  where
    first : (c : Category) → kids_fit kind.Param text (c ∷ map cat ks) ≡ true → begins_named c ≡ true → ⊥
    first category.specifiers e g = true≢false (sym g)
    first _ e g = true≢false (sym e)
declarator_second text cat (a ∷ []) k e (inr h) g = absurd h
declarator_second text cat (a ∷ b ∷ []) k e (inr (inl same)) g = same
declarator_second text cat (a ∷ b ∷ []) k e (inr (inr h)) g = absurd h
declarator_second text cat (a ∷ b ∷ c ∷ ks) k e (inr h) g = absurd (many (cat a) (cat b) e)
  where
    many : (x y : Category) → kids_fit kind.Param text (x ∷ y ∷ cat c ∷ map cat ks) ≡ true → ⊥
    many category.specifiers y e = true≢false (sym e)
    many _ y e = true≢false (sym e)

-- the judgement of a node, among the ones before it and behind
own_at : (xs ys : List Judgement) (j : Judgement) (n : ℕ) → length xs ≡ n → judgement_at (xs ++ (j ∷ ys)) n ≡ j
own_at [] ys j zero e = refl
own_at [] ys j (suc n) e = absurd (omega (arith, e))
own_at (x ∷ xs) ys j zero e = absurd (omega (arith, e))
own_at (x ∷ xs) ys j (suc n) e = own_at xs ys j n (omega (arith, e))

module _ (tokens : List Token) (t : Tree) (derived : IsTreeOf tokens t) (quiet : faults t ≡ []) where
  m : IsMeaningful t
  m = meaningful tokens t derived (λ n node at. meant tokens t n node derived quiet at)

  ok : Clean t
  ok = clean t quiet

  final : ℕ → Judgement
  final n = judgement_at (judgements_at (places t)) n

  listed : (x : Name) → In x (places t).names → InList (places t).names x
  listed x h = let a = at_in x (places t).names h in record { index = a.0; at = a.1 }

  type_final : (js : List Judgement) → IsFront (places t) js → (k : ℕ) (u : CType) → type_at js k ≡ Some u → type_of (judgement_at (judgements_at (places t)) k) ≡ Some u
  type_final js front k u e = type_later tokens t derived m.functions js k u front e

  -- the type of a name is that of its owner, or of its declarator
  name_from : (P : CType → Type 0) (js : List Judgement) → IsFront (places t) js → (x : Name) (u : CType) → type_of_name js x ≡ Some u
      → (type_of (judgement_at (judgements_at (places t)) x.owner) ≡ Some u → P u) → (type_of (judgement_at (judgements_at (places t)) x.behind) ≡ Some u → P u) → P u
  name_from P js front x u e f g = by (type_at js x.owner) refl e
    where
      by : (o : Option CType) → type_at js x.owner ≡ o → (if is_some o then o else type_at js x.behind) ≡ Some u → P u
      by (Some v) q h = f (type_final js front x.owner u (q ∙ h))
      by None q h = g (type_final js front x.behind u h)

  -- ---- objects

  object_by : (x : Name) → In x (places t).names → is_object_entity x.entity ≡ true → IsDeclaredName (category_at t) (nodes t) x → (js : List Judgement) → IsFront (places t) js → x.behind < length js → (u : CType) → type_of_name js x ≡ Some u → Complete (places t) (length js) u
  object_by x among object de js front lt u e =
      let named = object_named tokens t derived x among object in
      let k = kept_name tokens t derived m.declarators (Anything tokens t derived) (no_chains tokens t derived) x among named.0 named.1 in
      let d = typed.declared tokens t derived quiet x (listed x among) de named.1 in
      let size = object_front (places t) k.whole.js x k.type k.names.low.id x.entity object k.kept in
      let behind = k.names.behind in
      let complete = sized_object (places t) k.whole.js k.names.low.id (length js) k.names.low.id k.type k.whole.front k.whole.long (omega (arith, lt, behind)) size in
      let own : type_of (judgement_at (judgements_at (places t)) x.behind) ≡ Some k.type = ap (λ i. type_of (judgement_at (judgements_at (places t)) i)) k.names.behind ∙ ap type_of k.judged in
      let equal : d.type ≡ k.type = some_same (sym (ap type_of d.declares) ∙ own) in
      name_from (λ v. Complete (places t) (length js) v) js front x u e
      (λ g. subst (λ v. Complete (places t) (length js) v) (some_same (sym (ap type_of d.means_whole) ∙ g)) (whole d.type d.whole d.how (subst (λ v. Complete (places t) (length js) v) (sym equal) complete)))
      (λ g. subst (λ v. Complete (places t) (length js) v) (some_same (sym own ∙ g)) complete)
    where
      whole : {A B : Type 0} {p2 : Places} {ks : List Judgement} (v w : CType) → (A × (w ≡ v)) ⊎ (B × completing.Completes p2 ks x v w) → Complete (places t) (length js) v → Complete (places t) (length js) w
      whole {A} {B} {p2} {ks} v w (inl q) h = subst (λ z. Complete (places t) (length js) z) (sym q.1) h
      whole {A} {B} {p2} {ks} v w (inr q) h = subst (λ z. Complete (places t) (length js) z) (sym (q.1).is) (completed_complete (places t) (length js) v (q.1).count h)

  pub object_complete : (x : Name) → In x (places t).names → is_object_entity x.entity ≡ true → (js : List Judgement) → IsFront (places t) js → x.behind < length js → (u : CType) → type_of_name js x ≡ Some u → Complete (places t) (length js) u
  object_complete x among object js front lt u e = by (stand tokens t derived quiet x (listed x among))
    where
      by : IsEnumerator (nodes t) x ⊎ IsDeclaredName (category_at t) (nodes t) x → Complete (places t) (length js) u
      by (inl en) = absurd (true≢false (sym object ∙ ap is_object_entity en.entity))
      by (inr de) = object_by x among object de js front lt u e

  -- ---- functions

  pub function_full : (x : Name) → In x (places t).names → x.entity ≡ function_name → (js : List Judgement) → IsFront (places t) js → x.behind < length js → (u : CType) → type_of_name js x ≡ Some u → is_hollow u ≡ false
  function_full x among fun js front lt u e = by (stand tokens t derived quiet x (listed x among))
    where
      by : IsEnumerator (nodes t) x ⊎ IsDeclaredName (category_at t) (nodes t) x → is_hollow u ≡ false
      by (inl en) = let clash : function_name ≡ enumerator = sym fun ∙ en.entity in absurd (cc clash)
      by (inr de) =
          let d = (fun_name tokens t derived ok m.functions m.declarators x among fun).declared in
          ap is_hollow (name_typed tokens t derived m.functions x d js u front lt e) ∙ type_full tokens t derived quiet x.behind de.whole.node de.whole.at (ap is_part de.whole.is) d.type d.judged

  -- ---- parameters

  early_type : (n : ℕ) (node : Node) (s : Stands (places t) n node) (k : ℕ) (u : CType) → k < n → type_of (judgement_at (judgements_at (places t)) k) ≡ Some u → type_at s.front k ≡ Some u
  early_type n node s k u lt e = let long = s.long in ap type_of (sym (front_at s.front _ k (omega (arith, lt, long))) ∙ ap (λ js. judgement_at js k) (sym s.are)) ∙ e

  in_list : (x : Name) (l : Listed tokens t derived x) (u : CType) → type_of (judgement_at (judgements_at (places t)) l.param.id) ≡ Some u → is_struct u ≡ false
  unfolding judged_by function_declarator
  in_list x l u e =
      let at = found tokens t derived l.list l.list_in in
      let s = stands (places t) l.list.id l.list at in
      let calm = no_fault_of (places t) l.list.id l.list s ok.judged_clean in
      let takes : faults_in (function_declarator (places t) s.front l.list) ≡ [] = ap (λ k. faults_in (judged_by (places t) s.front l.list k)) (sym l.list_is) ∙ calm in
      let none = back_none (many_parameters (length (map (type_at s.front) (other_kids l.list))) l.list.id) (bad_parameter (filter_map (λ part. part) (map (type_at s.front) (other_kids l.list))) l.list.id) (besides_none _ _ takes) in
      let before = (kid_found tokens t derived l.list.id l.list l.param.id at l.param_kid).before in
      let early = early_type l.list.id l.list s l.param.id u before e in
      no_struct_so u (none_among (λ v. is_struct v || is_function v) (type_at s.front) (other_kids l.list) l.param.id u (not_any (list_any (λ v. is_struct v || is_function v) (filter_map (λ part. part) (map (type_at s.front) (other_kids l.list)))) l.list.id none) l.other early)

  param_type : (x : Name) (l : Listed tokens t derived x) (u : CType) → type_of (judgement_at (judgements_at (places t)) l.low.low.id) ≡ Some u → type_of (judgement_at (judgements_at (places t)) l.param.id) ≡ Some u
  unfolding judged_by parameter_node
  param_type x l u e =
      let at = found tokens t derived l.param l.param_in in
      let s = stands (places t) l.param.id l.param at in
      let shape = (are_linked tokens t derived).shapes.shaped l.param.id l.param at in
      let second = declarator_second l.param.label.text (category_at t) l.param.kids l.low.low.id (ap (λ k. kids_fit k l.param.label.text (map (category_at t) l.param.kids)) (sym l.param_is) ∙ shape.kids) l.low_kid (named_category tokens t derived x l.low) in
      let before = (kid_found tokens t derived l.param.id l.param l.low.low.id at l.low_kid).before in
      let early : type_at s.front (kid l.param 1) ≡ Some u = ap (λ k. type_at s.front k) second ∙ early_type l.param.id l.param s l.low.low.id u before e in
      let own : judgement_at (judgements_at (places t)) l.param.id ≡ judged_by (places t) s.front l.param l.param.label.kind = ap (λ js. judgement_at js l.param.id) s.are ∙ own_at s.front s.back (judged_by (places t) s.front l.param l.param.label.kind) l.param.id s.long in
      let is : judgement_at (judgements_at (places t)) l.param.id ≡ parameter_node s.front l.param = own ∙ ap (λ k. judged_by (places t) s.front l.param k) l.param_is in
      ap type_of is ∙ given_type (type_at s.front (kid l.param 1)) early
    where
      given_type : (o : Option CType) → o ≡ Some u → type_of (given o (λ v. means (declares v))) ≡ Some u
      given_type None g = absurd (cc g)
      given_type (Some v) g = g

  owned : (x : Name) (l : Listed tokens t derived x) → x.owner ≡ l.param.id
  owned x l =
      let f = kid_found tokens t derived l.param.id l.param l.low.low.id (found tokens t derived l.param l.param_in) l.low_kid in
      let same : f.node ≡ l.low.low = some_same (sym f.there ∙ l.low.there) in
      l.low.owner ∙ (ap (λ (q : Node). q.parent) (sym same) ∙ f.below)

  pub parameter_complete : (x : Name) → In x (places t).names → (i : ℕ) → x.entity ≡ parameter i → (js : List Judgement) → IsFront (places t) js → (u : CType) → type_of_name js x ≡ Some u → Complete (places t) (length js) u
  parameter_complete x among i same js front u e = let h = (names_here tokens t derived).each x among in by h h.how
    where
      of_list : Listed tokens t derived x → Complete (places t) (length js) u
      of_list l = complete_other (places t) (length js) u (name_from (λ v. is_struct v ≡ false) js front x u e
          (λ g. in_list x l u (ap (λ k. type_of (judgement_at (judgements_at (places t)) k)) (sym (owned x l)) ∙ g))
          (λ g. in_list x l u (param_type x l u (ap (λ k. type_of (judgement_at (judgements_at (places t)) k)) (sym l.low.behind) ∙ g))))

      by : (h : Named (nodes t) x) → Declares (nodes t) h.before h.node x → Complete (places t) (length js) u
      by h (by_enumerator k behind owner f ent) = let clash : parameter i ≡ enumerator = sym same ∙ ent in absurd (cc clash)
      by h (by_declarator k behind owner f ent) =
          let own = owner_of_parameter (nodes t) (node_at (nodes t) x.owner) (specs_of (nodes t) (node_at (nodes t) x.owner)) x.scope x.is_function (node_at (nodes t) x.owner).label.kind i (ent ∙ ap Some same) in
          of_list (listed_by tokens t derived x (low_by tokens t derived x h.node h.place h.there h.numbered k behind owner) own.0)
