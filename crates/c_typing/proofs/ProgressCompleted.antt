-- The type of a declarator with an initializer: that of the declarator, or the array that the initializer completes.
use Rattle.std.proofs.Common.{◌≡◌, ℕ, Bool, true, false, List, [], ◌∷◌, ◌++◌, Option, Some, None, refl, sym, ap, ◌∙◌, subst, true≢false, ◌⊎◌, inl, inr}
use Rattle.std.specs.Prelude.{unwrap_or, if◌then◌else◌, option_map}
use Rattle.std.specs.Option.{is_some}
use Rattle.c_types.specs.Sizes.{array_measure}
use Rattle.c_types.specs.declared.kind.Measure.{Measure}
use Rattle.c_types.specs.declared.tree.Stmt.{Stmt}
use Rattle.c_types.specs.declared.tree.Cell.{Cell}
use Rattle.c_typing.specs.Types.{size_of, CType, unsized, is_unsized, has_size, element_of, measure, Layout}
use Rattle.c_typing.specs.Places.{Node, nowhere, kid, has_kid, node_at, kind_at, next_to_name}
use Rattle.c_typing.specs.Names.{Places, Name, is_static, name_of}
use Rattle.c_typing.specs.Judgements.{Fault, initialized, Judgement, means, verdict, given, type_at, layouts}
use Rattle.c_typing.specs.Rules.{declared_twice, size_fault, absent_length}
use Rattle.c_typing.specs.Declarators.{type_before}
use Rattle.c_typing.specs.Initializers.{Part, part_for, is_object, completed, completed_faults, given_count, object_code, initialized_object, init_by, init_declarator}
use Rattle.c_typing.proofs.ProgressAll.{fronts_empty}

no : {A : Type 0} → false ≡ true → A
no e = absurd (true≢false (sym e))

-- the initializer completes the type
pub record Completes (p : Places) (js : List Judgement) (e : Name) (t u : CType) : Type 0 where
  pub count : Option ℕ
  pub is : u ≡ completed t count
  pub node : ℕ
  pub fine : completed_faults p js e t u node ≡ []

pub record InitMade (p : Places) (js : List Judgement) (node : Node) (u : CType) : Type 0 where
  pub type : CType
  pub typed : type_at js (kid node 0) ≡ Some type
  pub name : Name
  pub named : name_of p (node_at p.nodes (kid node 0)).first ≡ Some name
  pub how : ((has_kid node 1 ≡ false) × (u ≡ type)) ⊎ ((is_object name.entity ≡ true) × Completes p js name type u)

record InitReaches (p : Places) (js : List Judgement) (node : Node) (j : Judgement) : Type 0 where
  made : (u : CType) (ss : List Stmt) (cs : List Cell) → j ≡ means (initialized u ss cs) → InitMade p js node u

module _ (p : Places) (js : List Judgement) (node : Node) where
  given_reaches : {A : Type 0} (o : Option A) (f : A → Judgement) → ((a : A) → o ≡ Some a → InitReaches p js node (f a)) → InitReaches p js node (given o f)
  given_reaches {A = A} None f h = record { made = λ u ss cs e. absurd (cc e) }
  given_reaches {A = A} (Some a) f h = h a refl

  choice_reaches : (b : Bool) (x y : Judgement) → (b ≡ true → InitReaches p js node x) → (b ≡ false → InitReaches p js node y) → InitReaches p js node (if b then x else y)
  choice_reaches true x y h k = h refl
  choice_reaches false x y h k = k refl

  type_same : {t u : CType} {ss ts : List Stmt} {cs ds : List Cell} → means (initialized t ss cs) ≡ means (initialized u ts ds) → t ≡ u
  type_same e = cc e

  object_reaches : (n : ℕ) (e : Name) (t : CType) (q : Part) → type_at js (kid node 0) ≡ Some t → name_of p (node_at p.nodes (kid node 0)).first ≡ Some e → is_object e.entity ≡ true
      → InitReaches p js node (initialized_object p js n e t q)
  unfolding initialized_object
  object_reaches n e t q typed named object =
      let u = completed t (given_count p js (node_at p.nodes n) (kind_at p.nodes n)) in
      let at = (unwrap_or (next_to_name p.nodes e.node) nowhere).id in
      by (q.faults ++ completed_faults p js e t u at) (fronts_empty q.faults (completed_faults p js e t u at))
    where
      by : (fs : List Fault) → (fs ≡ [] → (q.faults ≡ []) × (completed_faults p js e t (completed t (given_count p js (node_at p.nodes n) (kind_at p.nodes n))) (unwrap_or (next_to_name p.nodes e.node) nowhere).id ≡ []))
          → InitReaches p js node (verdict fs (initialized (completed t (given_count p js (node_at p.nodes n) (kind_at p.nodes n))) (object_code p js e (completed t (given_count p js (node_at p.nodes n) (kind_at p.nodes n))) n e.entity) q.cells))
      by [] h = record {
        made = λ u ss cs f. subst (λ (v : CType). InitMade p js node v) (type_same f) (record {
          type = t;
          typed = typed;
          name = e;
          named = named;
          how = inr (object, record { count = given_count p js (node_at p.nodes n) (kind_at p.nodes n); is = refl; node = (unwrap_or (next_to_name p.nodes e.node) nowhere).id; fine = (h refl).1 });
        });
      }
      by (f ∷ fs) h = record { made = λ u ss cs g. absurd (cc g) }

  init_reaches : (t : CType) (e : Name) → type_at js (kid node 0) ≡ Some t → name_of p (node_at p.nodes (kid node 0)).first ≡ Some e → InitReaches p js node (init_by p js node t e)
  unfolding init_by
  init_reaches t e typed named =
      choice_reaches (has_kid node 1) _ _
      (λ h. choice_reaches (is_object e.entity) _ _ (λ k. given_reaches (part_for p js (is_static e.entity) false t (kid node 1)) (initialized_object p js (kid node 1) e t) (λ q same. object_reaches (kid node 1) e t q typed named k))
      (λ k. record { made = λ u ss cs f. absurd (cc f) }))
      (λ h. record { made = λ u ss cs f. record { type = t; typed = typed; name = e; named = named; how = inl (h, sym (type_same f)) } })

  pub init_made : (u : CType) (ss : List Stmt) (cs : List Cell) → init_declarator p js node ≡ means (initialized u ss cs) → InitMade p js node u
  unfolding init_declarator
  init_made u ss cs e =
      (given_reaches (type_at js (kid node 0)) _ (λ t typed. given_reaches (name_of p (node_at p.nodes (kid node 0)).first) (init_by p js node t) (λ n named. init_reaches t n typed named))).made u ss cs e

-- ---- what is completed

pub completed_other : (t : CType) (c : Option ℕ) → is_unsized t ≡ false → completed t c ≡ t
completed_other (unsized t) c e = absurd (true≢false e)
completed_other _ c e = refl

-- an array that gets its length has a size where its elements have one
pub completed_size : (p : Places) (js : List Judgement) (e : Name) (t u : CType) (ls : List Layout) → is_unsized t ≡ true → has_size ls (element_of t) ≡ true → Completes p js e t u → has_size ls u ≡ true
completed_size p js e (unsized v) u ls s h c = by c.count c.is
  where
    sized : (o : Option Measure) → is_some o ≡ true → (n : ℕ) → is_some (option_map (array_measure n) o) ≡ true
    sized None e n = no e
    sized (Some m) e n = refl

    by : (o : Option ℕ) → u ≡ completed (unsized v) o → has_size ls u ≡ true
    by (Some n) same = ap (λ w. has_size ls w) same ∙ sized (measure ls v) h n
    by None same = no (sym (length_there (is_unsized u) refl) ∙ (ap is_unsized same))
      where
        faults : List Fault
        faults = if is_unsized u then absent_length c.node else size_fault (size_of (layouts js) u) c.node

        none : faults ≡ []
        none = (fronts_empty faults (declared_twice p e u (type_before p js e) e.node) c.fine).0

        length_there : (b : Bool) → is_unsized u ≡ b → is_unsized u ≡ false
        length_there false e = e
        length_there true e = absurd (never (sym (ap (λ b. if b then absent_length c.node else size_fault (size_of (layouts js) u) c.node) e) ∙ none))
          where
            never : absent_length c.node ≡ [] → ⊥
            never f = cc f
completed_size p js e _ u ls s h c = no s
