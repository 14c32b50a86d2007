-- The types that names of functions have, where they are declared.
use Rattle.std.proofs.Common.{◌≡◌, inl, inr, ℕ, zero, suc, ◌<◌, Bool, true, false, List, [], ◌∷◌, ◌++◌, length, map, Option, Some, None, refl, sym, ap, ◌∙◌, subst, arith, true≢false, unwrap_or}
use Rattle.std.specs.Prelude.{slice_get, get_or, if◌then◌else◌}
use Rattle.std.specs.Option.{is_some}
use Rattle.c_lexer.specs.declared.token.Token.{Token}
use Rattle.c_syntax.specs.declared.kind.SynKind.TheVariants as kind
use Rattle.c_syntax.specs.Trees.{Tree}
use Rattle.c_syntax.specs.Tables.{table_of}
use Rattle.c_grammar.specs.Derivation.{IsTreeOf}
use Rattle.c_types.specs.declared.tree.Func.{Func}
use Rattle.c_typing.specs.Types.{CType}
use Rattle.c_typing.specs.Places.{Node, nodes, node_at, kid, has_kid}
use Rattle.c_typing.specs.Names.{function_name, Places, places, Name, name_of, is_static}
use Rattle.c_typing.specs.Judgements.{Meaning, a_type, declares, initialized, defines, Judgement, means, breaks_rules, waits, given, verdict, judgement_at, type_of, type_at}
use Rattle.c_typing.specs.Rules.{declared_twice, bad_initializer}
use Rattle.c_typing.specs.Declarators.{declared_faults, name_faults, type_before}
use Rattle.c_typing.specs.Expressions.{type_of_name}
use Rattle.c_typing.specs.Initializers.{Part, part_for, initialized_object, is_object, init_by, init_declarator, bare_code}
use Rattle.c_typing.specs.Shapes as category
use Rattle.c_typing.specs.Shapes.{Category, no_category, kids_fit, at_places, categories_of, at_most_one, is_initializer, is_assignment_expression, is_within}
use Rattle.c_typing.specs.ShapesOfNodes.{as_id}
use Rattle.c_typing.specs.Typing.{judged_by, judgements_at}
use Rattle.c_typing.proofs.ShapesNodes.{node_placed}
use Rattle.c_typing.proofs.MadeJudged.{Yields, yields_verdict, yields_given, IsFront, Stands, stands, front_at, meant_later}
use Rattle.c_typing.proofs.MadeNodes.{In}
use Rattle.c_typing.proofs.MadeForms.{yields_if_so}
use Rattle.c_typing.proofs.MadePlaced.{node_there}
use Rattle.c_typing.proofs.MadeFunctionNames.{Anything, name_found}
use Rattle.c_typing.proofs.MadeTexts.{front_none}
use Rattle.c_typing.proofs.MadeKept.{KeptName}

-- ---- the declarator of a declaration is its first kid

no_initializer : (c : Category) → c ≡ category.declarator → is_initializer c ≡ true → ⊥
unfolding is_within
no_initializer c e h = true≢false (sym (subst (λ d. is_initializer d ≡ true) e h))

first_only : (text : List ℕ) (known : List Category) (ks : List ℕ) (k : ℕ) → kids_fit kind.InitDecl text (at_places known (map as_id ks)) ≡ true → In k ks → get_or known k no_category ≡ category.declarator → k ≡ unwrap_or (slice_get ks 0) 0
unfolding kids_fit
first_only text known [] k h i g = absurd i
first_only text known (a ∷ ks) k h (inl same) g = sym same
first_only text known (a ∷ []) k h (inr i) g = absurd i
first_only text known (a ∷ b ∷ []) k h (inr (inl same)) g = absurd (no_initializer (get_or known b no_category) (ap (λ i. get_or known i no_category) same ∙ g) (second (get_or known a no_category) (get_or known b no_category) h))
  where
    second : (x y : Category) → kids_fit kind.InitDecl text (x ∷ y ∷ []) ≡ true → is_initializer y ≡ true
    second category.declarator y q = q
    second _ y q = absurd (true≢false (sym q))
first_only text known (a ∷ b ∷ []) k h (inr (inr i)) g = absurd i
first_only text known (a ∷ b ∷ c ∷ ks) k h (inr i) g = absurd (many (get_or known a no_category) (get_or known b no_category) (get_or known c no_category) (at_places known (map as_id ks)) h)
  where
    many : (x y z : Category) (cs : List Category) → kids_fit kind.InitDecl text (x ∷ y ∷ z ∷ cs) ≡ true → ⊥
    many category.declarator y z cs q = true≢false (sym q)
    many _ y z cs q = true≢false (sym q)

-- ---- what a declaration that is no object means

module _ (p : Places) (js : List Judgement) (node : Node) where
  abbrev Untouched : Meaning → Type 0
  Untouched (initialized u ss cs) = (e : Name) → name_of p (node_at p.nodes (kid node 0)).first ≡ Some e → is_object e.entity ≡ false → type_at js (kid node 0) ≡ Some u
  Untouched (a_type u) = ⊥
  Untouched (declares u) = ⊥
  Untouched m = Unit {0}

  other : (e a : Name) → name_of p (node_at p.nodes (kid node 0)).first ≡ Some e → name_of p (node_at p.nodes (kid node 0)).first ≡ Some a → e ≡ a
  other e a named b = let same : Some e ≡ Some a = sym named ∙ b in cc same

  touched : (u : CType) (e : Name) (q : Part) → name_of p (node_at p.nodes (kid node 0)).first ≡ Some e → is_object e.entity ≡ true → Yields Untouched (initialized_object p js (kid node 1) e u q)
  unfolding initialized_object
  touched u e q named h = yields_verdict Untouched _ (initialized _ _ q.cells) (λ a b c. absurd (true≢false (sym h ∙ (ap (λ (x : Name). is_object x.entity) (other e a named b) ∙ c))))

  untouched_by : (u : CType) (e : Name) → type_at js (kid node 0) ≡ Some u → name_of p (node_at p.nodes (kid node 0)).first ≡ Some e → Yields Untouched (init_by p js node u e)
  unfolding init_by
  untouched_by u e typed named = yields_if_so Untouched (has_kid node 1) _ (means (initialized u (bare_code p e e.entity) [])) (λ h. given_kid (is_object e.entity) refl) (λ h a b c. typed)
    where
      given_kid : (b : Bool) → is_object e.entity ≡ b → Yields Untouched (if b then given (part_for p js (is_static e.entity) false u (kid node 1)) (initialized_object p js (kid node 1) e u) else verdict (bad_initializer true (kid node 1)) (initialized u [] []))
      given_kid true h = yields_given Untouched (part_for p js (is_static e.entity) false u (kid node 1)) (initialized_object p js (kid node 1) e u) (λ q g. touched u e q named h)
      given_kid false h = tt

  untouched : Yields Untouched (init_declarator p js node)
  unfolding init_declarator
  untouched = yields_given Untouched (type_at js (kid node 0)) _ (λ u e. yields_given Untouched (name_of p (node_at p.nodes (kid node 0)).first) (init_by p js node u) (λ a g. untouched_by u a e g))

-- ---- names of functions, by their declarations

module _ (tokens : List Token) (t : Tree) (derived : IsTreeOf tokens t)
    (functions : (n : ℕ) (node : Node) → slice_get (nodes t) n ≡ Some node → node.label.kind ≡ kind.Function → (f : Func) × (judgement_at (judgements_at (places t)) n ≡ means (defines f))) where
  abbrev final : ℕ → Judgement
  final n = judgement_at (judgements_at (places t)) n

  -- the type of a name of a function, where it is declared, and once where again
  pub record Declared (x : Name) : Type 0 where
    pub type : CType
    pub judged : type_of (judgement_at (judgements_at (places t)) x.behind) ≡ Some type
    pub js : List Judgement
    pub long : length js ≡ x.behind
    pub front : IsFront (places t) js
    pub once : declared_twice (places t) x type (type_before (places t) js x) x.node ≡ []
    -- the owner has no other type
    pub owned : (u : CType) → type_of (final x.owner) ≡ Some u → u ≡ type

  type_meant : (j : Judgement) (u : CType) → type_of j ≡ Some u → (m : Meaning) × (j ≡ means m)
  type_meant (means m) u e = (m, refl)
  type_meant (breaks_rules f fs) u e = absurd (cc e)
  type_meant waits u e = absurd (cc e)

  pub type_later : (js : List Judgement) (k : ℕ) (u : CType) → IsFront (places t) js → type_at js k ≡ Some u → type_of (final k) ≡ Some u
  type_later js k u front e =
      let m = type_meant (judgement_at js k) u e in
      ap type_of (ap (λ q. judgement_at q k) front.1 ∙ meant_later js front.0 k m.0 m.1) ∙ (sym (ap type_of m.1) ∙ e)

  -- what a name of a function is typed as, where its declaration stands before
  pub typed_name : (x : Name) (d : Declared x) (js : List Judgement) → IsFront (places t) js → x.behind < length js → type_of_name js x ≡ Some d.type
  typed_name x d js front lt = by (type_at js x.owner) refl
    where
      early : type_at js x.behind ≡ Some d.type
      early = ap type_of (sym (front_at js front.0 x.behind lt) ∙ ap (λ q. judgement_at q x.behind) (sym front.1)) ∙ d.judged

      by : (o : Option CType) → type_at js x.owner ≡ o → (if is_some o then o else type_at js x.behind) ≡ Some d.type
      by None e = early
      by (Some u) e = ap Some (d.owned u (type_later js x.owner u front e))

  pub name_typed : (x : Name) (d : Declared x) (js : List Judgement) (u : CType) → IsFront (places t) js → x.behind < length js → type_of_name js x ≡ Some u → u ≡ d.type
  name_typed x d js u front lt e = let same : Some u ≡ Some d.type = sym e ∙ typed_name x d js front lt in cc same

  -- a function that is defined has no type at its node
  pub no_type_of_function : (n : ℕ) (node : Node) → slice_get (nodes t) n ≡ Some node → node.label.kind ≡ kind.Function → (u : CType) → type_of (final n) ≡ Some u → ⊥
  no_type_of_function n node at is u e = let f = functions n node at is in let none : type_of (final n) ≡ None = ap type_of f.1 in let clash : None ≡ Some u = sym none ∙ e in absurd (cc clash)

  -- ---- of a declaration

  owner_yields : (n : ℕ) (o : Node) → slice_get (nodes t) n ≡ Some o → o.label.kind ≡ kind.InitDecl → (s : Stands (places t) n o) → Yields (Untouched (places t) s.front o) (final n)
  unfolding judged_by
  owner_yields n o at is s =
      let own : final n ≡ judged_by (places t) s.front o o.label.kind = ap (λ q. judgement_at q n) s.are ∙ own_at s.front s.back (judged_by (places t) s.front o o.label.kind) n s.long in
      subst (λ j. Yields (Untouched (places t) s.front o) j) (sym own) (subst (λ k. Yields (Untouched (places t) s.front o) (judged_by (places t) s.front o k)) (sym is) (untouched (places t) s.front o))
    where
      own_at : (xs ys : List Judgement) (j : Judgement) (n : ℕ) → length xs ≡ n → judgement_at (xs ++ (j ∷ ys)) n ≡ j
      own_at [] ys j zero e = refl
      own_at [] ys j (suc n) e = absurd (omega (arith, e))
      own_at (x ∷ xs) ys j zero e = absurd (omega (arith, e))
      own_at (x ∷ xs) ys j (suc n) e = own_at xs ys j n (omega (arith, e))

  untouched_type : (p : Places) (js : List Judgement) (o : Node) (j : Judgement) (u : CType) (x : Name) → Yields (Untouched p js o) j → type_of j ≡ Some u → name_of p (node_at p.nodes (kid o 0)).first ≡ Some x → is_object x.entity ≡ false → type_at js (kid o 0) ≡ Some u
  untouched_type p js o (means (initialized v ss cs)) u x y e named h = let same : v ≡ u = cc e in y x named h ∙ ap Some same
  untouched_type p js o (means (a_type v)) u x y e named h = absurd y
  untouched_type p js o (means (declares v)) u x y e named h = absurd y
  untouched_type p js o _ u x y e named h = absurd (cc e)

  pub of_declaration : (x : Name) → In x (places t).names → (k : KeptName tokens t derived (Anything tokens t derived) x) → x.entity ≡ function_name → Declared x
  of_declaration x among k fun =
      let faults : declared_faults (places t) k.whole.js x k.type k.names.low.id false function_name ≡ [] = subst (λ y. declared_faults (places t) k.whole.js x k.type k.names.low.id false y ≡ []) fun k.kept in
      let names = front_none (name_faults (places t) k.whole.js x k.type k.names.low.id true) _ faults in
      record {
        type = k.type;
        judged = ap type_of (ap (λ i. judgement_at (judgements_at (places t)) i) k.names.behind ∙ k.judged);
        js = k.whole.js;
        long = k.whole.long ∙ sym k.names.behind;
        front = k.whole.front;
        once = front_none (declared_twice (places t) x k.type (type_before (places t) k.whole.js x) x.node) _ names;
        owned = owned;
      }
    where
      first_kid : kid k.owner 0 ≡ k.names.low.id
      first_kid =
          let p = node_placed tokens t derived k.names.low.parent k.owner k.owner_there in
          sym (first_only k.owner.label.text (categories_of (table_of t)) k.owner.kids k.names.low.id (subst (λ q. kids_fit q k.owner.label.text (at_places (categories_of (table_of t)) (map as_id k.owner.kids)) ≡ true) k.owner_is p.fits.kids) k.kid k.category)

      named : name_of (places t) (node_at (nodes t) (kid k.owner 0)).first ≡ Some x
      named = ap (λ i. name_of (places t) (node_at (nodes t) i).first) first_kid ∙ (ap (λ (m : Node). name_of (places t) m.first) (node_there tokens t derived k.names.low.id k.names.low k.names.there) ∙ (ap (λ i. name_of (places t) i) k.names.begins ∙ name_found tokens t derived x among))

      owned : (u : CType) → type_of (final x.owner) ≡ Some u → u ≡ k.type
      owned u e =
          let s = stands (places t) k.names.low.parent k.owner k.owner_there in
          let at : type_of (final k.names.low.parent) ≡ Some u = ap (λ i. type_of (final i)) (sym k.names.owner) ∙ e in
          let early = untouched_type (places t) s.front k.owner (final k.names.low.parent) u x (owner_yields k.names.low.parent k.owner k.owner_there k.owner_is s) at named (ap is_object fun) in
          let late : type_of (final (kid k.owner 0)) ≡ Some u = type_later s.front (kid k.owner 0) u (_, s.are) early in
          let same : Some u ≡ Some k.type = sym late ∙ (ap (λ i. type_of (final i)) first_kid ∙ ap type_of k.judged) in
          cc same
