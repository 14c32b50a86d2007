-- A function that is called `main` and has no parameters is defined.
use Rattle.std.proofs.Common.{◌≡◌, ◌⊎◌, inl, inr, ℕ, zero, suc, ◌<◌, ◌≤◌, Bool, true, false, ◌&&◌, not, cond, List, [], ◌∷◌, length, get_or, Option, Some, None, refl, sym, ap, ◌∙◌, subst, arith, true≢false, unwrap_or}
use Rattle.std.specs.Prelude.{slice_get, position, filter, filter_map, codes, option_map, ◌==◌}
use Rattle.std.specs.Option.{is_some}
use Rattle.std.specs.Str.{bytes_eq}
use Rattle.std.proofs.lemmas.List.Quantifiers.{position-Some}
use Rattle.std.proofs.lemmas.Slice.Eq.{bytes_eq-Decides}
use Rattle.c_lexer.specs.declared.token.Token.{Token}
use Rattle.c_syntax.specs.declared.kind.SynKind.{SynKind}
use Rattle.c_syntax.specs.declared.kind.SynKind.TheVariants as kind
use Rattle.c_syntax.specs.Trees.{Tree}
use Rattle.c_grammar.specs.Derivation.{IsTreeOf}
use Rattle.c_types.specs.declared.tree.Func.{Func}
use Rattle.c_types.specs.WellMade.{IsMain}
use Rattle.std.specs.List.{cons_option}
use Rattle.c_typing.specs.Types.{Layout, CType, function, integer, int, same, same_all, no_types, types_of}
use Rattle.c_typing.specs.Places.{Node, nodes, kid, other_kids, is_function, own_takes, is_takes, is_step, next_to_name, parent_of}
use Rattle.c_typing.specs.Names.{places, function_text, function_number, parameters_of}
use Rattle.c_typing.specs.Judgements.{Fault, of_function, PlacedStep, Judgement, means, defines, judgement_at, faults_in, layouts, verdict, itself}
use Rattle.c_typing.specs.Rules.{no_main, bad_main, broken_if, gives_int}
use Rattle.c_typing.specs.Declarators.{built, build, stepped_from, adjusted}
use Rattle.c_typing.specs.Typing.{unit_node, judged_by, judgements_at, defined_in}
use Rattle.c_typing.proofs.MadeJudged.{stands, no_fault_of}
use Rattle.c_typing.proofs.MadeNodes.{In, in_at, at_in, root_node, root_among, root_label}
use Rattle.c_typing.proofs.MadePlaced.{found, node_there}
use Rattle.c_typing.proofs.MadeTop.{unit_kind, is_unit_category}
use Rattle.c_typing.specs.Shapes.{categories}
use Rattle.c_typing.proofs.ShapesLaw.{root_is_unit}
use Rattle.c_typing.proofs.MadeAround.{both_true, equal_so, find_is}
use Rattle.c_typing.proofs.MadeDistinct.{larger, three_ways}
use Rattle.c_typing.proofs.MadeDefined.{Clean, Defined, defined_at, own_takes_at}
use Rattle.c_typing.proofs.MadeFunctionNames.{FunctionName, Kept, kept_of}
use Rattle.c_typing.proofs.MadeTexts.{faultless, text_is}
use Rattle.c_typing.proofs.MadeChains.{Chain, chains}

-- ---- positions

at_index : {A : Type 0} (xs : List A) (i : ℕ) → i < length xs → (x : A) × (slice_get xs i ≡ Some x) × (get_or xs i x ≡ x)
at_index [] i lt = absurd (omega (arith, lt))
at_index (x ∷ xs) zero lt = (x, refl, refl)
at_index (x ∷ xs) (suc i) lt = at_index xs i (omega (arith, lt))

pub position_is : {A : Type 0} (p : A → Bool) (xs : List A) (i : ℕ) → position p xs ≡ Some i → (x : A) × (slice_get xs i ≡ Some x) × (p x ≡ true)
position_is {A} p xs i e = by (below xs i e)
  where
    below : (ys : List A) (j : ℕ) → position p ys ≡ Some j → j < length ys
    below [] j g = absurd (cc g)
    below (y ∷ ys) j g = (position-Some p (y ∷ ys) j y g).0

    by : i < length xs → (x : A) × (slice_get xs i ≡ Some x) × (p x ≡ true)
    by lt =
        let x = at_index xs i lt in
        let h = (position-Some p xs i x.0 e).1 in
        (x.0, x.1, subst (λ y. p y ≡ true) x.2 h)

pub some_is : {A : Type 0} (o : Option A) → is_some o ≡ true → (a : A) × (o ≡ Some a)
some_is None e = absurd (true≢false (sym e))
some_is (Some a) e = (a, refl)

pub filter_so : {A : Type 0} (f : A → Bool) (xs : List A) (x : A) → In x (filter f xs) → In x xs × (f x ≡ true)
filter_so f [] x h = absurd h
filter_so {A} f (y ∷ xs) x h = by (f y) refl h (filter_so f xs x)
  where
    by : (b : Bool) → f y ≡ b → In x (cond b (y ∷ filter f xs) (filter f xs)) → (In x (filter f xs) → In x xs × (f x ≡ true)) → In x (y ∷ xs) × (f x ≡ true)
    by true g (inl same) more = (inl same, ap f (sym same) ∙ g)
    by true g (inr i) more = let m = more i in (inr m.0, m.1)
    by false g i more = let m = more i in (inr m.0, m.1)

pub function_kind : (k : SynKind) → is_function k ≡ true → k ≡ kind.Function
function_kind kind.Function e = refl
function_kind _ e = absurd (true≢false (sym e))

pub defined_among : (js : List Judgement) (n : ℕ) (f : Func) → judgement_at js n ≡ means (defines f) → In f (filter_map defined_in js)
defined_among [] n f e = absurd (cc e)
defined_among (j ∷ js) zero f e = subst (λ q. In f (filter_map defined_in (q ∷ js))) (sym e) (inl refl)
defined_among (j ∷ js) (suc n) f e = by (defined_in j) (defined_among js n f e)
  where
    by : (o : Option Func) → In f (filter_map defined_in js) → In f (cons_option o (filter_map defined_in js))
    by None h = h
    by (Some g) h = inr h

-- ---- the type of a function that takes nothing

takes_nothing : (us : List CType) → same_all (types_of us) no_types ≡ true → us ≡ []
takes_nothing [] e = refl
takes_nothing (u ∷ us) e = absurd (true≢false (sym e))

built_function : (ls : List Layout) (base : CType) (us : List CType) (n : ℕ) (more : List PlacedStep) → (build ls base (record { node = n; step = of_function (types_of us) } ∷ more)).faults ≡ []
    → (r : CType) × ((build ls base (record { node = n; step = of_function (types_of us) } ∷ more)).type ≡ function r (types_of us))
built_function ls base us n more e = by (build ls base more).type (build ls base more).faults e
  where
    by : (u : CType) (fs : List Fault) → (stepped_from ls (record { node = n; step = of_function (types_of us) }) (built u fs)).faults ≡ []
        → (r : CType) × ((stepped_from ls (record { node = n; step = of_function (types_of us) }) (built u fs)).type ≡ function r (types_of us))
    by u [] g = (u, refl)
    by u (f ∷ fs) g = absurd (cc g)

module _ (tokens : List Token) (t : Tree) (derived : IsTreeOf tokens t) where
  takes_kind : (k : SynKind) → k ≡ kind.Takes → is_takes k ≡ true
  takes_kind k e = ap is_takes e

  -- the type of a function has as many parameters as the list next to its name
  pub record Takes (f : Func) (d : Defined t f) : Type 0 where
    pub types : List CType
    pub result : CType
    pub is : d.type ≡ function result (types_of types)
    pub long : length types ≡ f.params

  no_param : (k : SynKind) (u : CType) → k ≡ kind.Function → adjusted k u ≡ u
  no_param k u e = subst (λ l. adjusted l u ≡ u) (sym e) refl

  takes_alone : (k : SynKind) → k ≡ kind.Takes → (k ≡ kind.Function) ⊎ (k ≡ kind.Unit) → ⊥
  takes_alone k e (inl f) = true≢false (ap is_takes (sym e ∙ f))
  takes_alone k e (inr f) = true≢false (ap is_takes (sym e ∙ f))

  -- the list next to the name of a function is what its steps begin with
  starts_at : (n : ℕ) (node takes : Node) → slice_get (nodes t) n ≡ Some node → node.label.kind ≡ kind.Function → (names : FunctionName tokens t derived node) → In takes (nodes t) → takes.label.kind ≡ kind.Takes
      → next_to_name (nodes t) names.low.first ≡ Some takes → (ss : List PlacedStep) → Chain tokens t derived names.low ss
      → (us : List CType) × (m : ℕ) × (more : List PlacedStep) × (ss ≡ record { node = m; step = of_function (types_of us) } ∷ more) × (length us ≡ length (other_kids takes))
  starts_at n node takes at is names h e next ss (inr w) =
      let same : Some w.next ≡ Some takes = sym w.is_next ∙ next in
      let one : w.next ≡ takes = cc same in
      let g = w.takes (ap (λ (x : Node). is_takes x.label.kind) one ∙ ap is_takes e) in
      (g.0, g.1, g.2, g.3, g.4 ∙ ap (λ (x : Node). length (other_kids x)) one)
  starts_at n node takes at is names h e next ss (inl none) = absurd (none.1 takes h first (ap is_step e) (low (three_ways takes.id names.low.id)))
    where
      first : takes.first ≡ names.low.first
      first =
          let f = find_is (λ (m : Node). m.first == names.low.first && is_step m.label.kind) (nodes t) takes next in
          equal_so takes.first names.low.first (both_true (takes.first == names.low.first) (is_step takes.label.kind) f.1).0

      low : (takes.id < names.low.id) ⊎ ((takes.id ≡ names.low.id) ⊎ (names.low.id < takes.id)) → takes.id ≤ names.low.id
      low (inl lt) = omega (arith, lt)
      low (inr (inl same)) = omega (arith, same)
      low (inr (inr more)) = absurd (takes_alone takes.label.kind e (larger tokens t derived n node at is names takes h (omega (arith, first)) more))

  params_are : (node takes : Node) → own_takes (nodes t) node ≡ Some takes → length (parameters_of (places t) node) ≡ length (other_kids takes)
  params_are node takes e = ap (λ o. length (unwrap_or (option_map other_kids o) [])) e

  type_is : (ls : List Layout) (base u : CType) (ss more : List PlacedStep) (us : List CType) (m : ℕ) (k : SynKind) → k ≡ kind.Function → u ≡ adjusted k (build ls base ss).type → (build ls base ss).faults ≡ []
      → ss ≡ record { node = m; step = of_function (types_of us) } ∷ more → (r : CType) × (u ≡ function r (types_of us))
  type_is ls base u ss more us m k e is clean same =
      let b = built_function ls base us m more (subst (λ q. (build ls base q).faults ≡ []) same clean) in
      (b.0, is ∙ (no_param k (build ls base ss).type e ∙ (ap (λ q. (build ls base q).type) same ∙ b.1)))

  takes_by : (f : Func) (d : Defined t f) (k : Kept tokens t derived (Chain tokens t derived) f d) (takes : Node) → own_takes (nodes t) d.node ≡ Some takes → Takes f d
  takes_by f d k takes e =
      let at = own_takes_at t d.node takes e in
      let low = node_there tokens t derived (kid d.node 1) k.names.low k.names.there in
      let next : next_to_name (nodes t) k.names.low.first ≡ Some takes = ap (λ (x : Node). next_to_name (nodes t) x.first) (sym low) ∙ at.next in
      let g = starts_at d.place d.node takes d.there d.is_function k.names at.among at.kind_is next k.whole.steps k.whole.chain in
      let b = type_is (layouts k.whole.js) k.whole.base d.type k.whole.steps g.2 g.0 g.1 (parent_of (nodes t) k.names.low.id).label.kind k.of_function k.whole.is k.whole.clean g.3 in
      record { types = g.0; result = b.0; is = b.1; long = g.4 ∙ sym (d.params ∙ params_are d.node takes e) }

  pub takes_of : (f : Func) (d : Defined t f) (k : Kept tokens t derived (Chain tokens t derived) f d) → Takes f d
  takes_of f d k = let o = some_is (own_takes (nodes t) d.node) k.has_takes in takes_by f d k o.0 o.1

  main_alone : (f : Func) (d : Defined t f) → Takes f d → same d.type (gives_int []) ≡ true → f.params ≡ 0
  main_alone f d w e =
      let at : same (function w.result (types_of w.types)) (gives_int []) ≡ true = subst (λ u. same u (gives_int []) ≡ true) w.is e in
      let b = both_true (same w.result (integer int)) (same_all (types_of w.types) no_types) at in
      sym w.long ∙ ap length (takes_nothing w.types b.1)

  main_typed : (text : List ℕ) (u : CType) (n : ℕ) → bytes_eq text (codes "main") ≡ true → bad_main text u n ≡ [] → same u (gives_int []) ≡ true
  main_typed text u n e g = by (same u (gives_int [])) (subst (λ b. broken_if (b && not (same u (gives_int []))) 22 n ≡ []) e g)
    where
      by : (b : Bool) → broken_if (not b) 22 n ≡ [] → b ≡ true
      by true h = refl
      by false h = absurd (cc h)

  main_by : (f : Func) (d : Defined t f) (k : Kept tokens t derived (Chain tokens t derived) f d) → bytes_eq f.name (codes "main") ≡ true → IsMain f
  main_by f d k e =
      let w = faultless (places t) k.whole.js k.names.name d.type k.names.low.id k.kept in
      let typed = main_typed k.names.name.text d.type k.names.low.id (ap (λ text. bytes_eq text (codes "main")) (sym (text_is tokens t derived f d k.names)) ∙ e) w.main in
      ((bytes_eq-Decides f.name (codes "main")).0 e, main_alone f d (takes_of f d k) typed)

  main_at : (n : ℕ) (node : Node) (f : Func) → slice_get (nodes t) n ≡ Some node → bytes_eq (function_text (places t) node) (codes "main") ≡ true → judgement_at (judgements_at (places t)) n ≡ means (defines f) → IsMain f
  main_at n node f at text e =
      let d = defined_at t n f e in
      let same : Some (d.0).node ≡ Some node = sym (d.0).there ∙ (ap (λ i. slice_get (nodes t) i) d.1 ∙ at) in
      let is : (d.0).node ≡ node = cc same in
      main_by f d.0 (kept_of tokens t derived (Chain tokens t derived) (chains tokens t derived) f d.0)
      (ap (λ q. bytes_eq q (codes "main")) ((d.0).name ∙ ap (λ x. function_text (places t) x) is) ∙ text)

  module _ (ok : Clean t) (meant : (n : ℕ) (node : Node) → slice_get (nodes t) n ≡ Some node → node.label.kind ≡ kind.Function → (f : Func) × (judgement_at (judgements_at (places t)) n ≡ means (defines f))) where
    root_unit : (root_node t).label.kind ≡ kind.Unit
    root_unit = ap (λ l. l.kind) (root_label t) ∙ unit_kind tokens t derived t.label.kind t.label.text (categories t.kids) (ap (is_unit_category tokens t derived) (root_is_unit tokens t derived))

    main_there : is_some (function_number (places t) (codes "main")) ≡ true
    unfolding judged_by unit_node
    main_there =
        let there = found tokens t derived (root_node t) (root_among t) in
        let s = stands (places t) (root_node t).id (root_node t) there in
        let e = no_fault_of (places t) (root_node t).id (root_node t) s ok.judged_clean in
        by (is_some (function_number (places t) (codes "main"))) (subst (λ k. faults_in (judged_by (places t) s.front (root_node t) k) ≡ []) root_unit e)
      where
        by : (b : Bool) → faults_in (verdict (no_main b (root_node t).id) itself) ≡ [] → b ≡ true
        by true e = refl
        by false e = absurd (cc e)

    pub record MainNode : Type 0 where
      pub node : Node
      pub there : slice_get (nodes t) node.id ≡ Some node
      pub is : node.label.kind ≡ kind.Function
      pub text : bytes_eq (function_text (places t) node) (codes "main") ≡ true

    main_node : MainNode
    main_node =
        let i = some_is (function_number (places t) (codes "main")) main_there in
        let x = position_is (λ (m : Node). bytes_eq (function_text (places t) m) (codes "main")) (places t).functions i.0 i.1 in
        let h = filter_so (λ (m : Node). is_function m.label.kind) (nodes t) x.0 (in_at x.0 (places t).functions i.0 x.1) in
        record { node = x.0; there = found tokens t derived x.0 h.0; is = function_kind (x.0).label.kind h.1; text = x.2 }

    indexed : (n : ℕ) (f : Func) → judgement_at (judgements_at (places t)) n ≡ means (defines f) → IsMain f → (i : ℕ) × (g : Func) × (slice_get (filter_map defined_in (judgements_at (places t))) i ≡ Some g) × IsMain g
    indexed n f e is = let at = at_in f (filter_map defined_in (judgements_at (places t))) (defined_among (judgements_at (places t)) n f e) in (at.0, f, at.1, is)

    main_of : (x : MainNode) → (i : ℕ) × (g : Func) × (slice_get (filter_map defined_in (judgements_at (places t))) i ≡ Some g) × IsMain g
    main_of x = let m = meant x.node.id x.node x.there x.is in indexed x.node.id m.0 m.1 (main_at x.node.id x.node m.0 x.there x.text m.1)

    pub main : (i : ℕ) × (f : Func) × (slice_get (filter_map defined_in (judgements_at (places t))) i ≡ Some f) × IsMain f
    main = main_of main_node
