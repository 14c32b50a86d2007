-- The types of declarators have their lengths, where those of their specs and of their parameters do and no initializer is to
-- give one.
use Rattle.std.proofs.Common.{◌≡◌, ℕ, suc, Bool, true, false, not, ◌&&◌, List, [], ◌∷◌, ◌++◌, length, map, Option, Some, None, refl, sym, ap, ◌∙◌, subst, true≢false}
use Rattle.std.specs.Prelude.{if◌then◌else◌, filter_map, codes, slice_get}
use Rattle.c_syntax.specs.declared.kind.SynKind.{SynKind}
use Rattle.c_syntax.specs.declared.kind.SynKind.TheVariants as kind
use Rattle.c_typing.specs.Types.{CType, types_of}
use Rattle.c_typing.specs.Places.{Node, kid, has_kid, other_kids, parent_of, specs_of, is_whole, is_declarator, is_init, is_next_to_name, node_at, whole_declarator, says}
use Rattle.c_typing.specs.Names.{Places}
use Rattle.c_typing.specs.Judgements.{Fault, Typing, Meaning, declares, steps, expresses, PlacedStep, Step, to_pointer, of_array, of_unsized, of_function, Judgement, means, breaks_rules, waits, verdict, given, besides, all_of, before, typing_at, type_at, type_of, steps_at, layouts}
use Rattle.c_typing.specs.Rules.{many_parameters, bad_parameter, absent_length}
use Rattle.c_typing.specs.Declarators.{word_in, built, whole_type, declarator, build, with_step, pointer_declarator, is_parameter_length, is_given_by_initializer, absent_length_step, length_faults, length_step, array_declarator, function_declarator}
use Rattle.c_typing.specs.Typing.{judged_by, in_parentheses}
use Rattle.c_typing.proofs.ProgressBuilt.{is_leaf}
use Rattle.c_lengths.specs.Lengths.{inside_lacks, lacks_length}
use Rattle.c_lengths.proofs.Steps.{InTypes, adjusted_fine, adjusted_inside, all_fine, at_first, behind, build_fine, build_inside, more_steps, one_step, step_lacks, steps_lack}

-- the declarator of this name has an initializer that may give a length
abbrev pub is_given : Places → ℕ → Bool
is_given p i =
    let owner = node_at p.nodes (whole_declarator p.nodes i).parent in
    is_init owner.label.kind && has_kid owner 1 && not (says p.nodes (codes "typedef") (specs_of p.nodes owner))

-- what is said of the judgement of a declarator, or of a part of one
pub record Part (given_length : Bool) (j : Judgement) : Type 0 where
  pub whole : (t : CType) → type_of j ≡ Some t → given_length ≡ false → lacks_length t ≡ false
  pub inside : (t : CType) → type_of j ≡ Some t → inside_lacks t ≡ false
  pub part : (ss : List PlacedStep) → j ≡ means (steps ss) → steps_lack given_length ss ≡ false

abbrev is_stepped : Judgement → Bool
is_stepped (means (steps ss)) = true
is_stepped j = false

some_same : {A : Type 0} {x y : A} → Some x ≡ Some y → x ≡ y
some_same e = cc e

steps_same : {xs ys : List PlacedStep} → means (steps xs) ≡ means (steps ys) → xs ≡ ys
steps_same e = cc e

module _ (g : Bool) where
  never : (j : Judgement) → type_of j ≡ None → is_stepped j ≡ false → Part g j
  never j h k = record { whole = λ t e. absurd (apart (sym h ∙ e)); inside = λ t e. absurd (apart (sym h ∙ e)); part = λ ss e. absurd (true≢false (sym (ap is_stepped e) ∙ k)) }
    where
      apart : {t : CType} → None ≡ Some t → ⊥
      apart e = cc e

  of_given_part : {A : Type 0} (o : Option A) (f : A → Judgement) → ((a : A) → o ≡ Some a → Part g (f a)) → Part g (given o f)
  of_given_part {A = A} None f h = never waits refl refl
  of_given_part {A = A} (Some a) f h = h a refl

  of_choice : (b : Bool) (x y : Judgement) → (b ≡ true → Part g x) → Part g y → Part g (if b then x else y)
  of_choice true x y h k = h refl
  of_choice false x y h k = k

  of_besides : (fs : List Fault) (j : Judgement) → Part g j → Part g (besides fs j)
  of_besides [] j h = h
  of_besides (f ∷ fs) (means m) h = never (breaks_rules f fs) refl refl
  of_besides (f ∷ fs) (breaks_rules x xs) h = never (breaks_rules f (fs ++ x ∷ xs)) refl refl
  of_besides (f ∷ fs) waits h = never (breaks_rules f fs) refl refl

  by_list : (fs : List Fault) (j : Judgement) (m : Meaning) → Part g j → Part g (elim fs as (λ x. Judgement) [ [] ↦ j | ◌∷◌ f rest ↦ verdict (f ∷ rest) m ])
  by_list [] j m h = h
  by_list (f ∷ fs) j m h = never (breaks_rules f fs) refl refl

  of_verdict : (fs : List Fault) (t : CType) → (g ≡ false → lacks_length t ≡ false) → inside_lacks t ≡ false → Part g (verdict fs (declares t))
  of_verdict [] t h i = record {
    whole = λ u e none. ap lacks_length (sym (some_same e)) ∙ h none;
    inside = λ u e. ap inside_lacks (sym (some_same e)) ∙ i;
    part = λ ss e. absurd (true≢false (sym (ap is_stepped e)));
  }
  of_verdict (f ∷ fs) t h i = never (breaks_rules f fs) refl refl

  of_steps : (ss : List PlacedStep) → steps_lack g ss ≡ false → Part g (means (steps ss))
  of_steps ss h = record { whole = λ t e. absurd (apart e); inside = λ t e. absurd (apart e); part = λ xs e. ap (steps_lack g) (sym (steps_same e)) ∙ h }
    where
      apart : {t : CType} → None ≡ Some t → ⊥
      apart e = cc e

module _ (p : Places) (js : List Judgement) (node : Node) where
  abbrev gives : Bool
  gives = is_given p node.first

  abbrev base_at : Option CType
  base_at = type_at js (specs_of p.nodes (parent_of p.nodes node.id)).id

  whole_part : (t : CType) (fs : List Fault) → (gives ≡ false → lacks_length t ≡ false) → inside_lacks t ≡ false → Part gives (whole_type p js node (parent_of p.nodes node.id) (built t fs))
  unfolding whole_type
  whole_part t [] h i = of_verdict gives _ _ (λ none. adjusted_fine (parent_of p.nodes node.id).label.kind t (h none)) (adjusted_inside (parent_of p.nodes node.id).label.kind t i)
  whole_part t (f ∷ fs) h i = never gives (breaks_rules f fs) refl refl

  module _ (base : is_whole p.nodes node ≡ true → (b : CType) → base_at ≡ Some b → lacks_length b ≡ false) where
    declarator_part : (ss : List PlacedStep) → steps_lack gives ss ≡ false → Part gives (declarator p js node ss)
    unfolding declarator
    declarator_part ss h =
        of_choice gives (is_whole p.nodes node) _ _
        (λ w. of_given_part gives base_at _ (λ b e.
        let made = build (layouts js) b ss in
        whole_part made.type made.faults (λ none. build_fine (layouts js) b ss (base w b e) (ap (λ x. steps_lack x ss) (sym none) ∙ h)) (build_inside gives (layouts js) b ss (base w b e) h)))
        (of_steps gives ss h)

    module _ (inner : (ss : List PlacedStep) → steps_at js (kid node 0) ≡ Some ss → steps_lack gives ss ≡ false) where
      stepped : (ss : List PlacedStep) (s : Step) → steps_at js (kid node 0) ≡ Some ss → step_lacks false s ≡ false → Part gives (declarator p js node (with_step ss node s))
      stepped ss s e h = declarator_part (with_step ss node s) (more_steps gives ss node s (inner ss e) h)

      given_by : (a b c d : Bool) → (a && b && c && d) ≡ true → (a ≡ true) × (not (b && c && d) ≡ false)
      given_by true true true true e = (refl, refl)
      given_by true true true false e = absurd (true≢false (sym e))
      given_by true true false d e = absurd (true≢false (sym e))
      given_by true false c d e = absurd (true≢false (sym e))
      given_by false b c d e = absurd (true≢false (sym e))

      -- the step that is next to its name
      unsized_part : (is_next_to_name p.nodes node ≡ true → (ss : List PlacedStep) → steps_at js (kid node 0) ≡ Some ss → ss ≡ []) → (ss : List PlacedStep) → steps_at js (kid node 0) ≡ Some ss → is_given_by_initializer p node ≡ true → Part gives (declarator p js node (with_step ss node of_unsized))
      unsized_part first ss e g =
          let found = given_by (is_next_to_name p.nodes node) _ _ _ g in
          subst (λ rs. Part gives (declarator p js node (with_step rs node of_unsized))) (sym (first found.0 ss e)) (declarator_part (with_step [] node of_unsized) (one_step gives node of_unsized found.1))

      absent_part : (is_next_to_name p.nodes node ≡ true → (ss : List PlacedStep) → steps_at js (kid node 0) ≡ Some ss → ss ≡ []) → (ss : List PlacedStep) → steps_at js (kid node 0) ≡ Some ss → Part gives (absent_length_step p js node ss)
      unfolding absent_length_step
      absent_part first ss e =
          of_choice gives (is_parameter_length p node) _ _ (λ h. stepped ss Step.of_parameter e refl)
          (of_choice gives (is_given_by_initializer p node) _ _ (λ h. unsized_part first ss e h) (never gives (verdict (absent_length node.id) (steps ss)) refl refl))

      length_part : (ss : List PlacedStep) (x : Typing) → steps_at js (kid node 0) ≡ Some ss → Part gives (length_step p js node ss x)
      unfolding length_step
      length_part ss x e =
          of_choice gives (is_parameter_length p node) _ _ (λ h. stepped ss Step.of_parameter e refl)
          (by_list gives (length_faults x (kid node 1) node.id) _ (steps ss) (stepped ss (of_array (word_in x.constant)) e refl))

      parentheses_part : (o : Option Typing) → Part gives (in_parentheses p js node o)
      parentheses_part None = of_given_part gives (steps_at js (kid node 0)) _ (λ ss e. declarator_part ss (inner ss e))
      parentheses_part (Some x) = never gives (means (expresses x 0)) refl refl

      same_types : {xs ys : List CType} → Some xs ≡ Some ys → xs ≡ ys
      same_types e = cc e

      found : (ks : List ℕ) → ((i k : ℕ) (t : CType) → slice_get ks i ≡ Some k → type_at js k ≡ Some t → lacks_length t ≡ false) → (ts : List CType) → all_of (map (type_at js) ks) ≡ Some ts → (t : CType) → InTypes t ts → lacks_length t ≡ false
      found [] h ts e t i = absurd (nothing ts (sym (same_types e)) i)
        where
          nothing : (us : List CType) → us ≡ [] → InTypes t us → ⊥
          nothing (u ∷ us) same j = absurd (cc same)
          nothing [] same j = elim j [ ]
      found (k ∷ ks) h ts e t i = by (type_at js k) refl e (λ us rest j. found ks (λ i k t at is. h (suc i) k t at is) us rest t j)
        where
          gone : {us : List CType} → None ≡ Some us → ⊥
          gone e = cc e

          among : (u : CType) (us : List CType) → type_at js k ≡ Some u → (InTypes t us → lacks_length t ≡ false) → InTypes t (u ∷ us) → lacks_length t ≡ false
          among u us own h2 at_first = h 0 k t refl own
          among u us own h2 (behind j) = h2 j

          more : (u : CType) → type_at js k ≡ Some u → (o : Option (List CType)) → ((us : List CType) → o ≡ Some us → InTypes t us → lacks_length t ≡ false) → before u o ≡ Some ts → lacks_length t ≡ false
          more u own None h2 e = absurd (gone e)
          more u own (Some us) h2 e = among u us own (h2 us refl) (subst (λ vs. InTypes t vs) (sym (same_types e)) i)

          by : (o : Option CType) → type_at js k ≡ o → all_of (o ∷ map (type_at js) ks) ≡ Some ts → ((us : List CType) → all_of (map (type_at js) ks) ≡ Some us → InTypes t us → lacks_length t ≡ false) → lacks_length t ≡ false
          by None own e h2 = absurd (gone e)
          by (Some u) own e h2 = more u own (all_of (map (type_at js) ks)) h2 e

      abbrev pub Parameters : Type 0
      Parameters = (i k : ℕ) (t : CType) → slice_get (other_kids node) i ≡ Some k → type_at js k ≡ Some t → lacks_length t ≡ false

      takes_part : Parameters → Part gives (judged_by p js node kind.Takes)
      unfolding judged_by function_declarator
      takes_part h =
          of_besides gives (many_parameters (length (map (type_at js) (other_kids node))) node.id ++ bad_parameter (filter_map (λ part. part) (map (type_at js) (other_kids node))) node.id) _
          (of_given_part gives (steps_at js (kid node 0)) _ (λ ss f. of_given_part gives (all_of (map (type_at js) (other_kids node))) _ (λ types q. stepped ss (of_function (types_of types)) f (all_fine types (λ t i. found (other_kids node) h types q t i)))))

      kinds : (k : SynKind) → is_declarator k ≡ true → (k ≡ kind.ArrayOf → is_next_to_name p.nodes node ≡ true → (ss : List PlacedStep) → steps_at js (kid node 0) ≡ Some ss → ss ≡ []) → (k ≡ kind.Takes → Parameters) → Part gives (judged_by p js node k)
      unfolding judged_by pointer_declarator array_declarator
      kinds kind.Ident e first h = declarator_part [] refl
      kinds kind.NoName e first h = declarator_part [] refl
      kinds kind.Paren e first h = parentheses_part (typing_at js (kid node 0))
      kinds kind.Pointer e first h = of_given_part gives (steps_at js (kid node 0)) _ (λ ss f. stepped ss to_pointer f refl)
      kinds kind.ArrayOf e first h =
          of_given_part gives (steps_at js (kid node 0)) _ (λ ss f. of_choice gives (has_kid node 1) _ _ (λ there. of_given_part gives (typing_at js (kid node 1)) _ (λ x q. length_part ss x f)) (absent_part (first refl) ss f))
      kinds kind.Takes e first h = takes_part (h refl)
      kinds _ e first h = absurd (true≢false (sym e))

    -- a name, or the place of an absent one, has no part
    pub any_part : (k : SynKind) → is_declarator k ≡ true
        → (is_leaf k ≡ false → (ss : List PlacedStep) → steps_at js (kid node 0) ≡ Some ss → steps_lack gives ss ≡ false)
        → (k ≡ kind.ArrayOf → is_next_to_name p.nodes node ≡ true → (ss : List PlacedStep) → steps_at js (kid node 0) ≡ Some ss → ss ≡ [])
        → (k ≡ kind.Takes → (i k : ℕ) (t : CType) → slice_get (other_kids node) i ≡ Some k → type_at js k ≡ Some t → lacks_length t ≡ false)
        → Part gives (judged_by p js node k)
    unfolding judged_by
    any_part kind.Ident e h first params = declarator_part [] refl
    any_part kind.NoName e h first params = declarator_part [] refl
    any_part k e h first params = kinds (h refl) k e first params
