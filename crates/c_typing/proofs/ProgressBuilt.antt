-- How the type of a whole declarator is built, and where an array has no length yet.
use Rattle.std.proofs.Common.{◌≡◌, ℕ, Bool, true, false, not, ◌&&◌, ◌||◌, List, [], ◌∷◌, ◌++◌, length, map, Option, Some, None, refl, sym, ap, ◌∙◌, subst, true≢false, ◌⊎◌, inl, inr}
use Rattle.std.specs.Prelude.{if◌then◌else◌, filter_map}
use Rattle.c_syntax.specs.declared.kind.SynKind.{SynKind}
use Rattle.c_syntax.specs.declared.kind.SynKind.TheVariants as kind
use Rattle.c_typing.specs.Types.{types_of, CType, is_unsized, element_of, has_size, Layout}
use Rattle.c_typing.specs.Places.{Node, kid, has_kid, other_kids, parent_of, specs_of, is_whole, is_declarator, is_init, is_next_to_name, node_at, whole_declarator}
use Rattle.c_typing.specs.Names.{Places, name_of}
use Rattle.c_typing.specs.Judgements.{Fault, Typing, Meaning, declares, steps, expresses, PlacedStep, Step, to_pointer, of_array, of_unsized, of_function, Judgement, means, breaks_rules, waits, verdict, given, besides, all_of, typing_at, type_at, steps_at, layouts}
use Rattle.c_typing.specs.Rules.{many_parameters, bad_parameter, absent_length, broken_if}
use Rattle.c_typing.specs.Declarators.{word_in, built, whole_by, whole_type, declarator, build, stepped_from, with_step, adjusted, pointer_declarator, is_parameter_length, is_given_by_initializer, absent_length_step, length_faults, length_step, array_declarator, function_declarator}
use Rattle.c_typing.specs.Typing.{judged_by, in_parentheses}

no : {A : Type 0} → false ≡ true → A
no e = absurd (true≢false (sym e))

abbrev is_of_unsized : Step → Bool
is_of_unsized of_unsized = true
is_of_unsized s = false

-- an array among the steps has its length from the initializer
abbrev pub has_unsized : List PlacedStep → Bool
has_unsized [] = false
has_unsized (s ∷ ss) = is_of_unsized s.step || has_unsized ss

-- the declarator of this name has an initializer
abbrev pub is_given : Places → ℕ → Bool
is_given p i = let owner = node_at p.nodes (whole_declarator p.nodes i).parent in is_init owner.label.kind && has_kid owner 1

more_steps : (ss : List PlacedStep) (node : Node) (s : Step) → has_unsized (with_step ss node s) ≡ true → (has_unsized ss ≡ true) ⊎ (is_of_unsized s ≡ true)
more_steps [] node s e = by (is_of_unsized s) e
  where
    by : (b : Bool) → (b || false) ≡ true → (false ≡ true) ⊎ (b ≡ true)
    by true e = inr refl
    by false e = inl e
more_steps (x ∷ ss) node s e = by (is_of_unsized x.step) e (more_steps ss node s)
  where
    by : (b : Bool) → (b || has_unsized (with_step ss node s)) ≡ true → (has_unsized (with_step ss node s) ≡ true → (has_unsized ss ≡ true) ⊎ (is_of_unsized s ≡ true)) → ((b || has_unsized ss) ≡ true) ⊎ (is_of_unsized s ≡ true)
    by true e f = inl refl
    by false e f = f e

-- a name, or the place of an absent one, has nothing inside
abbrev pub is_leaf : SynKind → Bool
is_leaf kind.Ident = true
is_leaf kind.NoName = true
is_leaf k = false

-- ---- what is built

-- an array without a length is made by the last step, or is the type of the specs
pub record Unsized (ls : List Layout) (base : CType) (ss : List PlacedStep) : Type 0 where
  pub from : ((has_unsized ss ≡ true) × (has_size ls (element_of (build ls base ss).type) ≡ true)) ⊎ (is_unsized base ≡ true)

has_or : (b : Bool) (n : ℕ) → broken_if (not b) 5 n ≡ [] → b ≡ true
has_or true n e = refl
has_or false n e = absurd (cc e)

pub unsized_from : (ls : List Layout) (base : CType) (ss : List PlacedStep) → (build ls base ss).faults ≡ [] → is_unsized (build ls base ss).type ≡ true → Unsized ls base ss
unsized_from ls base [] e u = record { from = inr u }
unsized_from ls base (s ∷ ss) e u = let b = build ls base ss in record { from = by b.type b.faults s.step e u }
  where
    by : (t : CType) (fs : List Fault) (k : Step) → (stepped_from ls (record { node = s.node; step = k }) (built t fs)).faults ≡ [] → is_unsized (stepped_from ls (record { node = s.node; step = k }) (built t fs)).type ≡ true
        → ((has_unsized ((record { node = s.node; step = k }) ∷ ss) ≡ true) × (has_size ls (element_of (stepped_from ls (record { node = s.node; step = k }) (built t fs)).type) ≡ true)) ⊎ (is_unsized base ≡ true)
    by t (f ∷ fs) k e u = absurd (cc e)
    by t [] of_unsized e u = inl (refl, has_or (has_size ls t) s.node e)
    by t [] to_pointer e u = no u
    by t [] (of_array n) e u = no u
    by t [] Step.of_parameter e u = no u
    by t [] (of_function ps) e u = no u

-- ---- whole declarators and their parts

-- how the type is made, and what is asked of it
pub record Made (p : Places) (js : List Judgement) (node : Node) (t : CType) : Type 0 where
  pub steps : List PlacedStep
  pub base : CType
  pub typed : type_at js (specs_of p.nodes (parent_of p.nodes node.id)).id ≡ Some base
  pub is : t ≡ adjusted (parent_of p.nodes node.id).label.kind (build (layouts js) base steps).type
  pub fine : (build (layouts js) base steps).faults ≡ []
  pub keeps : whole_by p js node t (name_of p node.first) (parent_of p.nodes node.id).label.kind ≡ []
  pub given_length : has_unsized steps ≡ true → is_given p node.first ≡ true

record Traces (p : Places) (js : List Judgement) (node : Node) (j : Judgement) : Type 0 where
  whole : (t : CType) → j ≡ means (declares t) → Made p js node t
  part : (ss : List PlacedStep) → j ≡ means (steps ss) → has_unsized ss ≡ true → is_given p node.first ≡ true

abbrev is_declared : Judgement → Bool
is_declared (means (declares t)) = true
is_declared j = false

abbrev is_stepped : Judgement → Bool
is_stepped (means (steps ss)) = true
is_stepped j = false

module _ (p : Places) (js : List Judgement) (node : Node) where
  never : (j : Judgement) → is_declared j ≡ false → is_stepped j ≡ false → Traces p js node j
  never j h k = record { whole = λ t e. no (sym h ∙ ap is_declared e); part = λ ss e. no (sym k ∙ ap is_stepped e) }

  given_traces : {A : Type 0} (o : Option A) (f : A → Judgement) → ((a : A) → o ≡ Some a → Traces p js node (f a)) → Traces p js node (given o f)
  given_traces {A = A} None f h = never waits refl refl
  given_traces {A = A} (Some a) f h = h a refl

  choice_traces : (b : Bool) (x y : Judgement) → (b ≡ true → Traces p js node x) → Traces p js node y → Traces p js node (if b then x else y)
  choice_traces true x y h k = h refl
  choice_traces false x y h k = k

  besides_traces : (fs : List Fault) (j : Judgement) → Traces p js node j → Traces p js node (besides fs j)
  besides_traces [] j h = h
  besides_traces (f ∷ fs) (means m) h = never (breaks_rules f fs) refl refl
  besides_traces (f ∷ fs) (breaks_rules g gs) h = never (breaks_rules f (fs ++ g ∷ gs)) refl refl
  besides_traces (f ∷ fs) waits h = never (breaks_rules f fs) refl refl

  by_list : (fs : List Fault) (j : Judgement) (m : Meaning) → Traces p js node j → Traces p js node (elim fs as (λ x. Judgement) [ [] ↦ j | ◌∷◌ f rest ↦ verdict (f ∷ rest) m ])
  by_list [] j m h = h
  by_list (f ∷ fs) j m h = never (breaks_rules f fs) refl refl

  type_same : {t u : CType} → means (declares t) ≡ means (declares u) → t ≡ u
  type_same e = cc e

  verdict_traces : (fs : List Fault) (t : CType) → (fs ≡ [] → Made p js node t) → Traces p js node (verdict fs (declares t))
  verdict_traces [] t h = record { whole = λ u e. subst (λ (v : CType). Made p js node v) (type_same e) (h refl); part = λ ss e. no (ap is_stepped e) }
  verdict_traces (f ∷ fs) t h = never (breaks_rules f fs) refl refl

  whole_traces : (ss : List PlacedStep) (base : CType) → type_at js (specs_of p.nodes (parent_of p.nodes node.id)).id ≡ Some base → (has_unsized ss ≡ true → is_given p node.first ≡ true)
      → (t : CType) (fs : List Fault) → t ≡ (build (layouts js) base ss).type → fs ≡ (build (layouts js) base ss).faults → Traces p js node (whole_type p js node (parent_of p.nodes node.id) (built t fs))
  unfolding whole_type
  whole_traces ss base e h t [] same none =
      verdict_traces _ _ (λ keeps. record {
        steps = ss;
        base = base;
        typed = e;
        is = ap (λ u. adjusted (parent_of p.nodes node.id).label.kind u) same;
        fine = sym none;
        keeps = keeps;
        given_length = h;
      })
  whole_traces ss base e h t (f ∷ fs) same none = never (breaks_rules f fs) refl refl

  steps_same : {xs ys : List PlacedStep} → means (steps xs) ≡ means (steps ys) → xs ≡ ys
  steps_same e = cc e

  declarator_traces : (ss : List PlacedStep) → (has_unsized ss ≡ true → is_given p node.first ≡ true) → Traces p js node (declarator p js node ss)
  unfolding declarator
  declarator_traces ss h =
      choice_traces (is_whole p.nodes node) _ _ (λ w. given_traces (type_at js (specs_of p.nodes (parent_of p.nodes node.id)).id) _ (λ base e.
      let b = build (layouts js) base ss in whole_traces ss base e h b.type b.faults refl refl))
      (record { whole = λ t e. no (ap is_declared e); part = λ xs e u. h (ap has_unsized (steps_same e) ∙ u) })

  -- the steps of what stands inside
  module _ (inner : (ss : List PlacedStep) → steps_at js (kid node 0) ≡ Some ss → has_unsized ss ≡ true → is_given p node.first ≡ true) where
    with_more : (ss : List PlacedStep) (s : Step) → steps_at js (kid node 0) ≡ Some ss → (is_of_unsized s ≡ true → is_given p node.first ≡ true) → has_unsized (with_step ss node s) ≡ true → is_given p node.first ≡ true
    with_more ss s e h u = by (more_steps ss node s u)
      where
        by : (has_unsized ss ≡ true) ⊎ (is_of_unsized s ≡ true) → is_given p node.first ≡ true
        by (inl v) = inner ss e v
        by (inr v) = h v

    given_by : is_given_by_initializer p node ≡ true → is_given p node.first ≡ true
    given_by e = by (is_next_to_name p.nodes node) _ _ _ e
      where
        by : (a b c d : Bool) → (a && b && c && d) ≡ true → (b && c) ≡ true
        by true true true d e = refl
        by true true false d e = e
        by true false c d e = e
        by false b c d e = no e

    absent_traces : (ss : List PlacedStep) → steps_at js (kid node 0) ≡ Some ss → Traces p js node (absent_length_step p js node ss)
    unfolding absent_length_step
    absent_traces ss e =
        choice_traces (is_parameter_length p node) _ _ (λ h. declarator_traces _ (with_more ss Step.of_parameter e (λ v. no v)))
        (choice_traces (is_given_by_initializer p node) _ _ (λ h. declarator_traces _ (with_more ss of_unsized e (λ v. given_by h))) (never (verdict (absent_length node.id) (steps ss)) refl refl))

    length_traces : (ss : List PlacedStep) (x : Typing) → steps_at js (kid node 0) ≡ Some ss → Traces p js node (length_step p js node ss x)
    unfolding length_step
    length_traces ss x e =
        choice_traces (is_parameter_length p node) _ _ (λ h. declarator_traces _ (with_more ss Step.of_parameter e (λ v. no v)))
        (by_list (length_faults x (kid node 1) node.id) _ (steps ss) (declarator_traces _ (with_more ss (of_array (word_in x.constant)) e (λ v. no v))))

    parentheses_trace : (o : Option Typing) → Traces p js node (in_parentheses p js node o)
    parentheses_trace None = given_traces (steps_at js (kid node 0)) _ (λ ss e. declarator_traces ss (inner ss e))
    parentheses_trace (Some x) = never (means (expresses x 0)) refl refl

    all_trace : (k : SynKind) → is_declarator k ≡ true → Traces p js node (judged_by p js node k)
    unfolding judged_by pointer_declarator array_declarator function_declarator
    all_trace kind.Ident e = declarator_traces [] (λ v. no v)
    all_trace kind.NoName e = declarator_traces [] (λ v. no v)
    all_trace kind.Paren e = parentheses_trace (typing_at js (kid node 0))
    all_trace kind.Pointer e = given_traces (steps_at js (kid node 0)) _ (λ ss f. declarator_traces _ (with_more ss to_pointer f (λ v. no v)))
    all_trace kind.ArrayOf e =
        given_traces (steps_at js (kid node 0)) _ (λ ss f. choice_traces (has_kid node 1) _ _ (λ h. given_traces (typing_at js (kid node 1)) _ (λ x g. length_traces ss x f)) (absent_traces ss f))
    all_trace kind.Takes e =
        besides_traces (many_parameters (length (map (type_at js) (other_kids node))) node.id ++ bad_parameter (filter_map (λ part. part) (map (type_at js) (other_kids node))) node.id) _
        (given_traces (steps_at js (kid node 0)) _ (λ ss f. given_traces (all_of (map (type_at js) (other_kids node))) _ (λ types g. declarator_traces _ (with_more ss (of_function (types_of types)) f (λ v. no v)))))
    all_trace _ e = absurd (true≢false (sym e))

  any_trace : (k : SynKind) → is_declarator k ≡ true
      → (is_leaf k ≡ false → (ss : List PlacedStep) → steps_at js (kid node 0) ≡ Some ss → has_unsized ss ≡ true → is_given p node.first ≡ true) → Traces p js node (judged_by p js node k)
  unfolding judged_by
  any_trace kind.Ident e h = declarator_traces [] (λ v. no v)
  any_trace kind.NoName e h = declarator_traces [] (λ v. no v)
  any_trace k e h = all_trace (h refl) k e

  pub made : (k : SynKind) (t : CType) → is_declarator k ≡ true
      → (is_leaf k ≡ false → (ss : List PlacedStep) → steps_at js (kid node 0) ≡ Some ss → has_unsized ss ≡ true → is_given p node.first ≡ true) → judged_by p js node k ≡ means (declares t) → Made p js node t
  made k t e h same = (any_trace k e h).whole t same

  pub parted : (k : SynKind) (ss : List PlacedStep) → is_declarator k ≡ true
      → (is_leaf k ≡ false → (ss : List PlacedStep) → steps_at js (kid node 0) ≡ Some ss → has_unsized ss ≡ true → is_given p node.first ≡ true) → judged_by p js node k ≡ means (steps ss) → has_unsized ss ≡ true → is_given p node.first ≡ true
  parted k ss e h same u = (any_trace k e h).part ss same u
