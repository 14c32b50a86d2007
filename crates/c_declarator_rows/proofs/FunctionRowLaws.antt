-- What functions mean as parts of declarators.
use Rattle.std.proofs.Common.{◌≡◌, ℕ, zero, suc, ◌+◌, ◌<◌, ◌≤◌, true, false, List, [], ◌∷◌, ◌++◌, length, Option, Some, None, refl, sym, ap, ◌∙◌, subst, arith, append-nil, take}
use Rattle.std.specs.Prelude.{Result, Err, filter_map, map, nat_lt, slice_get}
use Rattle.std.proofs.lemmas.List.{length-map}
use Rattle.c_syntax.specs.declared.syntax.SynId.{SynId}
use Rattle.c_syntax.specs.declared.syntax.SynNode.{SynNode}
use Rattle.c_syntax.specs.declared.kind.SynKind.TheVariants as kind
use Rattle.c_types.specs.declared.kind.TypeId.{TypeId}
use Rattle.c_typing.specs.Types.{CType, types_of}
use Rattle.c_typing.specs.Places.{is_whole, numbers, other_kids}
use Rattle.c_typing.specs.Judgements.{Fault, rule, Judgement, PlacedStep, all_of, before, besides, given, layout_in, means, of_function, steps, steps_at, type_at, waits}
use Rattle.c_typing.specs.Rules.{bad_parameter, broken_if, many_parameters}
use Rattle.c_typing.specs.Declarators.{declarator, function_declarator, with_step}
use Rattle.c_typing.specs.Typing.{judged_by}
use Rattle.c_nodes.specs.Parents.{nodes_in}
use Rattle.c_names.specs.Denoted.{places_in}
use Rattle.c_type_ids.specs.Ids.{Known, Names, NamesAll}
use Rattle.c_answers.specs.declared.refusal.Refusal.{Refusal}
use Rattle.c_answers.specs.declared.refusal.Refusal.TheVariants as refusal
use Rattle.c_answers.specs.Answers.{Allows, IsFirst}
use Rattle.c_meanings.specs.Meanings.{IsAnswered, judged_at, judged_to, kid_in, node_in}
use Rattle.c_declarator_rows.specs.Lengths.{FindsId}
use Rattle.c_declarator_rows.specs.Parameters.{listed, parameter_faults}
use Rattle.c_declarator_rows.proofs.PartLaws.{part_is}
use Rattle.c_declarator_rows.proofs.SpecLaws.{besides_layout}

-- ---- those that are there

abbrev present : {A : Type 0} → List (Option A) → List A
present os = filter_map (λ part. part) os

pub at_most : {A : Type 0} (os : List (Option A)) → length (present os) ≤ length os
at_most [] = omega arith
at_most (None ∷ os) = let h = at_most os in omega (arith, h)
at_most (Some a ∷ os) = let h = at_most os in omega (arith, h)

pub all_present : {A : Type 0} (os : List (Option A)) → length os ≤ length (present os) → all_of os ≡ Some (present os)
all_present [] h = refl
all_present (None ∷ os) h = let most = at_most os in absurd (omega (arith, h, most))
all_present (Some a ∷ os) h = ap (before a) (all_present os (omega (arith, h)))

pub one_absent : {A : Type 0} (os : List (Option A)) → length (present os) < length os → all_of os ≡ None
one_absent [] h = absurd (omega (arith, h))
one_absent (None ∷ os) h = refl
one_absent (Some a ∷ os) h = ap (before a) (one_absent os (omega (arith, h)))

present_some : {A : Type 0} (os : List (Option A)) (i : ℕ) (a : A) → slice_get os i ≡ Some (Some a) → present (take (suc i) os) ≡ present (take i os) ++ a ∷ []
present_some [] i a e = absurd (cc e)
present_some (o ∷ os) zero a e = let here : o ≡ Some a = cc e in ap (λ p. present (p ∷ [])) here
present_some (None ∷ os) (suc i) a e = present_some os i a e
present_some (Some b ∷ os) (suc i) a e = ap (λ xs. b ∷ xs) (present_some os i a e)

present_none : {A : Type 0} (os : List (Option A)) (i : ℕ) → slice_get os i ≡ Some None → present (take (suc i) os) ≡ present (take i os)
present_none [] i e = absurd (cc e)
present_none (o ∷ os) zero e = let here : o ≡ None = cc e in ap (λ p. present (p ∷ [])) here
present_none (None ∷ os) (suc i) e = present_none os i e
present_none (Some b ∷ os) (suc i) e = ap (λ xs. b ∷ xs) (present_none os i e)

-- ---- their types

pub names_more : (k : Known) (ids : List TypeId) (ts : List CType) (id : TypeId) (t : CType) → NamesAll k ids (types_of ts) → Names k id t → NamesAll k (ids ++ id ∷ []) (types_of (ts ++ t ∷ []))
names_more k [] [] id t h named = (named, tt)
names_more k (i ∷ ids) (u ∷ ts) id t h named = (h.0, names_more k ids ts id t h.1 named)
names_more k [] (u ∷ ts) id t h named = absurd h
names_more k (i ∷ ids) [] id t h named = absurd h

pub names_long : (k : Known) (ids : List TypeId) (ts : List CType) → NamesAll k ids (types_of ts) → length ids ≡ length ts
names_long k [] [] h = refl
names_long k (i ∷ ids) (u ∷ ts) h = ap suc (names_long k ids ts h.1)
names_long k [] (u ∷ ts) h = absurd h
names_long k (i ∷ ids) [] h = absurd h

pub types_next : (k : Known) (os : List (Option CType)) (i : ℕ) (o : Option CType) (ids : List TypeId) (found : Option TypeId) → slice_get os i ≡ Some o → FindsId k found o → NamesAll k ids (types_of (present (take i os)))
    → NamesAll k (ids ++ listed found) (types_of (present (take (i + 1) os)))
types_next k os i o ids found at finds named =
    let same : i + 1 ≡ suc i = omega arith in subst (λ j. NamesAll k (ids ++ listed found) (types_of (present (take j os)))) (sym same) (by found finds)
  where
    by : (found : Option TypeId) → FindsId k found o → NamesAll k (ids ++ listed found) (types_of (present (take (suc i) os)))
    by None none =
        subst (λ is. NamesAll k is (types_of (present (take (suc i) os)))) (sym (append-nil ids)) (subst (λ ts. NamesAll k ids (types_of ts)) (sym (present_none os i (at ∙ ap Some none))) named)
    by (Some id) (t, e, is) =
        subst (λ ts. NamesAll k (ids ++ id ∷ []) (types_of ts)) (sym (present_some os i t (at ∙ ap Some e))) (names_more k ids (present (take i os)) id t named is)

-- ---- what is asked of them

not_more : (count : ℕ) → count ≤ 8 → nat_lt 8 count ≡ false
not_more count h = grind arith

more : (count : ℕ) → 8 < count → nat_lt 8 count ≡ true
more count h = grind arith

few : (count n : ℕ) → count ≤ 8 → many_parameters count n ≡ []
few count n h = ap (λ b. broken_if b 20 n) (not_more count h)

pub many : (count n : ℕ) (fs : List Fault) → 8 < count → (others : List Fault) × (many_parameters count n ++ fs ≡ rule 20 n ∷ others)
many count n fs h = (fs, ap (λ b. broken_if b 20 n ++ fs) (more count h))

pub check_same : (k : Known) (ids : List TypeId) (count n : ℕ) (found : Result (Unit {0}) Refusal) → length ids ≤ count → count ≤ 8 → ((ts : List CType) → NamesAll k ids (types_of ts) → Allows found (many_parameters (length ts) n ++ bad_parameter ts n))
    → (ts : List CType) → NamesAll k ids (types_of ts) → Allows found (many_parameters count n ++ bad_parameter ts n)
check_same k ids count n found low high h ts named =
    let long = names_long k ids ts named in
    subst (λ fs. Allows found (fs ++ bad_parameter ts n)) (few (length ts) n (omega (arith, long, low, high)) ∙ sym (few count n high)) (h ts named)

-- ---- the node

module _ (table : List SynNode) (n : ℕ) where
  abbrev pub its_parts : List (Option CType)
  its_parts = map (type_at (judged_to table n)) (other_kids (node_in table n))

  abbrev pub function_by : Option (List PlacedStep) → Option (List CType) → Judgement
  function_by o p = given o (λ ss. given p (λ types. declarator (places_in table) (judged_to table n) (node_in table n) (with_step ss (node_in table n) (of_function (types_of types)))))

  pub function_is : (node_in table n).label.kind ≡ kind.Takes → judged_at table n ≡ besides (parameter_faults table n) (function_by (steps_at (judged_to table n) (kid_in table n 0)) (all_of its_parts))
  unfolding judged_at judged_by function_declarator
  function_is is = ap (judged_by (places_in table) (judged_to table n) (node_in table n)) is

  module _ (is : (node_in table n).label.kind ≡ kind.Takes) (allowed : parameter_faults table n ≡ []) where
    pub function_allowed : judged_at table n ≡ function_by (steps_at (judged_to table n) (kid_in table n 0)) (all_of its_parts)
    function_allowed = function_is is ∙ ap (λ fs. besides fs (function_by (steps_at (judged_to table n) (kid_in table n 0)) (all_of its_parts))) allowed

    no_types : (o : Option (List PlacedStep)) → function_by o None ≡ waits
    no_types None = refl
    no_types (Some ss) = refl

    pub function_untyped : all_of its_parts ≡ None → judged_at table n ≡ waits
    function_untyped none = function_allowed ∙ ap (function_by (steps_at (judged_to table n) (kid_in table n 0))) none ∙ no_types (steps_at (judged_to table n) (kid_in table n 0))

    pub function_waits : steps_at (judged_to table n) (kid_in table n 0) ≡ None → judged_at table n ≡ waits
    function_waits none = function_allowed ∙ ap (λ o. function_by o (all_of its_parts)) none

    pub function_made : is_whole (nodes_in table) (node_in table n) ≡ false → (node_in table n).id ≡ n → (ss : List PlacedStep) (types : List CType) → steps_at (judged_to table n) (kid_in table n 0) ≡ Some ss → all_of its_parts ≡ Some types
        → judged_at table n ≡ means (steps (ss ++ record { node = n; step = of_function (types_of types) } ∷ []))
    function_made part own ss types e f =
        function_allowed ∙ ap (λ o. function_by o (all_of its_parts)) e ∙ ap (function_by (Some ss)) f
        ∙ part_is table n (with_step ss (node_in table n) (of_function (types_of types))) part
        ∙ ap (λ i. means (steps (ss ++ record { node = i; step = of_function (types_of types) } ∷ []))) own

  -- by how many have a type
  module _ (k : Known) (takes : List TypeId) (count : ℕ) (all : count ≡ length (other_kids (node_in table n))) (named : NamesAll k takes (types_of (present its_parts))) where
    parts_long : length its_parts ≡ count
    parts_long = length-map (other_kids (node_in table n)) (type_at (judged_to table n)) ∙ sym all

    pub untyped : length takes < count → all_of its_parts ≡ None
    untyped less = let long = names_long k takes (present its_parts) named in let parts = parts_long in one_absent its_parts (omega (arith, less, long, parts))

    pub typed : count ≤ length takes → all_of its_parts ≡ Some (present its_parts)
    typed least = let long = names_long k takes (present its_parts) named in let parts = parts_long in all_present its_parts (omega (arith, least, long, parts))

    pub fits : length takes ≤ count
    fits = let long = names_long k takes (present its_parts) named in let parts = parts_long in let most = at_most its_parts in omega (arith, long, parts, most)

    pub faults_are : (node_in table n).id ≡ n → many_parameters count n ++ bad_parameter (present its_parts) n ≡ parameter_faults table n
    faults_are own = ap (λ c. many_parameters c n ++ bad_parameter (present its_parts) n) (sym parts_long) ∙ ap (λ i. many_parameters (length its_parts) i ++ bad_parameter (present its_parts) i) (sym own)

  -- a refusal of the parameters
  pub function_refused : (k : Known) (r : Refusal) → IsFirst r (parameter_faults table n) → IsAnswered k (Err r) (besides (parameter_faults table n) (function_by (steps_at (judged_to table n) (kid_in table n 0)) (all_of its_parts)))
  function_refused k r first = by (parameter_faults table n) (function_by (steps_at (judged_to table n) (kid_in table n 0)) (all_of its_parts)) r first
    where
      first_of : (f : Fault) (fs : List Fault) (j : Judgement) (r : Refusal) → IsFirst r (f ∷ fs) → IsAnswered k (Err r) (besides (f ∷ fs) j)
      first_of f fs j refusal.OutOfMemory h = tt
      first_of f fs (Judgement.breaks_rules g gs) (refusal.Broken r n) (others, e) = let same : f ≡ rule r n = cc e in (fs ++ g ∷ gs, ap (λ x. x ∷ (fs ++ g ∷ gs)) same)
      first_of f fs (means m) (refusal.Broken r n) (others, e) = (others, e)
      first_of f fs waits (refusal.Broken r n) (others, e) = (others, e)
      first_of f fs (Judgement.breaks_rules g gs) (refusal.TooBig n size) (others, e) = let same : f ≡ Fault.too_big n size = cc e in (fs ++ g ∷ gs, ap (λ x. x ∷ (fs ++ g ∷ gs)) same)
      first_of f fs (means m) (refusal.TooBig n size) (others, e) = (others, e)
      first_of f fs waits (refusal.TooBig n size) (others, e) = (others, e)

      by : (fs : List Fault) (j : Judgement) (r : Refusal) → IsFirst r fs → IsAnswered k (Err r) (besides fs j)
      by [] j refusal.OutOfMemory h = tt
      by [] j (refusal.Broken r n) (others, e) = absurd (cc e)
      by [] j (refusal.TooBig n size) (others, e) = absurd (cc e)
      by (f ∷ fs) j r h = first_of f fs j r h

  -- the layout of none is among them
  pub function_layout : is_whole (nodes_in table) (node_in table n) ≡ false → (fs : List Fault) (o : Option (List PlacedStep)) (p : Option (List CType)) → layout_in (besides fs (function_by o p)) ≡ None
  function_layout part fs o p = besides_layout fs (function_by o p) (by o p)
    where
      by : (o : Option (List PlacedStep)) (p : Option (List CType)) → layout_in (function_by o p) ≡ None
      by None p = refl
      by (Some ss) None = refl
      by (Some ss) (Some types) = ap layout_in (part_is table n (with_step ss (node_in table n) (of_function (types_of types))) part)

-- how many kids there are
pub kids_counted : (table : List SynNode) (n : ℕ) (kids : List SynId) → numbers kids ≡ other_kids (node_in table n) → length kids ≡ length (other_kids (node_in table n))
kids_counted table n kids same = sym (length-map kids (λ (id : SynId). id.number)) ∙ ap length same
