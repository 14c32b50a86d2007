-- The faults of specs, declarators and initializers name rules and nodes that are there.
use Rattle.std.proofs.Common.{◌≡◌, ℕ, zero, suc, ◌-◌, ◌*◌, ◌^◌, ◌<◌, Bool, true, false, not, ◌||◌, List, [], ◌∷◌, ◌++◌, length, map, Option, Some, None, refl}
use Rattle.std.specs.Prelude.{slice_get, unwrap_or, if◌then◌else◌, ◌==◌, filter, filter_map}
use Rattle.std.specs.Option.{is_some}
use Rattle.c_syntax.specs.declared.kind.SynKind.{SynKind}
use Rattle.c_syntax.specs.declared.kind.SynKind.TheVariants as kind
use Rattle.c_grammar.specs.Vocabulary.{is_type_word, is_storage_word}
use Rattle.c_typing.specs.Types.{CType, void, integer, int, is_unsized, Field, Layout, has_size, size_of}
use Rattle.c_typing.specs.Places.{Node, kid, has_kid, other_kids, kind_at, text_at, is_word, parent_of, index_in, specs_of, is_whole, own_takes}
use Rattle.c_typing.specs.Names.{Places, Name, Entity, typedef_name, function_name, static_object, automatic, parameter, enumerator, is_typedef, denoted, tag_of, Tag, name_of}
use Rattle.c_typing.specs.Judgements.{Fault, Typing, Judgement, means, Meaning, itself, a_type, steps, Step, to_pointer, of_array, of_unsized, of_function, PlacedStep, verdict, all_of, typing_at, type_at, steps_at, judgement_at, layouts}
use Rattle.c_typing.specs.Rules.{not_constant, out_of_range, bad_array_length, bad_main, local_array_or_struct, bad_storage_class, many_parameters, bad_parameter, unknown_name, incomplete_type, not_a_function, declared_twice, bad_library_name, broken_if}
use Rattle.c_typing.specs.Expressions.{type_of_name, word_of_enumerator}
use Rattle.c_typing.specs.Declarators.{typedef_type, spec_word, spec_meaning, is_storage, place_of_specs, specs, members_of, struct_body, struct_specifier, tag_faults, member_faults, is_known_enum, enum_specifier, enumerator_faults, enumerator_after, enumerator_value, enumerator_node, built, array_faults, stepped_type, stepped_from, build, object_size, parameter_size, name_faults, declared_faults, whole_by, whole_type, declarator, with_step, pointer_declarator, is_parameter_length, is_given_by_initializer, absent_length_step, length_faults, length_step, array_declarator, function_declarator, member_at, member, parameter_node, type_name, type_before, word_in}
use Rattle.c_typing.proofs.BoundsBase.{AllProper, ConstantIn, StepsIn, JudgedIn, both_in, rule_in, size_in, range_in, means_in, breaks_in, verdict_in, besides_in, given_in, AllIn, typing_in, steps_in}

-- ---- types of declarators

module _ (N : ℕ) where
  pub by_list : (fs : List Fault) (j : Judgement) (m : Meaning) → AllProper N fs → JudgedIn N j → JudgedIn N (elim fs as (λ x. Judgement) [ [] ↦ j | ◌∷◌ f rest ↦ verdict (f ∷ rest) m ])
  by_list [] j m h k = k
  by_list (f ∷ fs) j m h k = record { holds = h }

  pub choice : (b : Bool) (x y : Judgement) → JudgedIn N x → JudgedIn N y → JudgedIn N (if b then x else y)
  choice true x y h k = h
  choice false x y h k = k

  array_in : (ls : List Layout) (t : CType) (count n : ℕ) → n < N → AllProper N (array_faults ls t count n)
  array_in ls t count n lt = both_in N _ _ (rule_in N (not (has_size ls t)) 5 n refl lt) (size_in N (count * size_of ls t) n lt)

  step_type_in : (ls : List Layout) (s : Step) (n : ℕ) (t : CType) → n < N → AllProper N (stepped_type ls s n t).faults
  step_type_in ls to_pointer n t lt = tt
  step_type_in ls (of_array count) n t lt = array_in ls t count n lt
  step_type_in ls of_unsized n t lt = rule_in N (not (has_size ls t)) 5 n refl lt
  step_type_in ls Step.of_parameter n t lt = rule_in N (not (has_size ls t)) 5 n refl lt
  step_type_in ls (of_function ps) n t lt = rule_in N _ 21 n refl lt

  stepped_in : (ls : List Layout) (s : PlacedStep) (t : CType) (fs : List Fault) → s.node < N → AllProper N fs → AllProper N (stepped_from ls s (built t fs)).faults
  stepped_in ls s t [] lt h = step_type_in ls s.step s.node t lt
  stepped_in ls s t (f ∷ fs) lt h = h

  pub build_in : (ls : List Layout) (base : CType) (ss : List PlacedStep) → StepsIn N ss → AllProper N (build ls base ss).faults
  build_in ls base [] h = tt
  build_in ls base (s ∷ ss) h = let b = build ls base ss in stepped_in ls s b.type b.faults h.0 (build_in ls base ss h.1)

  pub with_in : (ss : List PlacedStep) (node : Node) (s : Step) → StepsIn N ss → node.id < N → StepsIn N (with_step ss node s)
  with_in [] node s h lt = (lt, tt)
  with_in (x ∷ ss) node s h lt = (h.0, with_in ss node s h.1 lt)

  members_in : (before : List Field) (fs : List (List Field)) (ns : List ℕ) → ((i k : ℕ) → slice_get ns i ≡ Some k → k < N) → AllProper N (member_faults before fs ns)
  members_in before [] ns h = tt
  members_in before (f ∷ fs) [] h = tt
  members_in before (f ∷ fs) (n ∷ ns) h = both_in N _ _ (rule_in N _ 3 n refl (h 0 n refl)) (members_in (before ++ f) fs ns (λ i k at. h (suc i) k at))

  void_in : (t : CType) (n : ℕ) → n < N → AllProper N (parameter_size t n)
  void_in void n lt = rule_in N true 5 n refl lt
  void_in _ n lt = tt

  module _ (p : Places) (js : List Judgement) (node : Node) (own : node.id < N) (kids : (i : ℕ) → kid node i < N) (listed : (i k : ℕ) → slice_get node.kids i ≡ Some k → k < N)
      (names : (n : ℕ) (e : Name) → name_of p n ≡ Some e → e.node < N) (all : AllIn N js) where
    name_in : (e : Name) (t : CType) (as_function : Bool) → e.node < N → AllProper N (name_faults p js e t node.id as_function)
    name_in e t as_function lt = both_in N (declared_twice p e t (type_before p js e) e.node) (bad_library_name e.text as_function t node.id) (rule_in N _ 3 e.node refl lt) (rule_in N _ 23 node.id refl own)

    object_in : (t : CType) → AllProper N (object_size (layouts js) t node.id)
    object_in t = by (is_unsized t)
      where
        by : (b : Bool) → AllProper N (if b then [] else incomplete_type (layouts js) t node.id)
        by true = tt
        by false = rule_in N (not (has_size (layouts js) t)) 5 node.id refl own

    declared_in : (e : Name) (t : CType) (d : Bool) (k : Entity) → e.node < N → AllProper N (declared_faults p js e t node.id d k)
    declared_in e t d typedef_name lt = name_in e t false lt
    declared_in e t d function_name lt = both_in N (name_faults p js e t node.id (not d)) (bad_main e.text t node.id) (name_in e t (not d) lt) (rule_in N _ 22 node.id refl own)
    declared_in e t d static_object lt = both_in N (object_size (layouts js) t node.id) (name_faults p js e t node.id false) (object_in t) (name_in e t false lt)
    declared_in e t d automatic lt =
        both_in N (object_size (layouts js) t node.id ++ local_array_or_struct t node.id) (name_faults p js e t node.id false)
        (both_in N (object_size (layouts js) t node.id) (local_array_or_struct t node.id) (object_in t) (rule_in N _ 10 node.id refl own)) (name_in e t false lt)
    declared_in e t d (parameter i) lt = both_in N (parameter_size t node.id) (name_faults p js e t node.id false) (void_in t node.id own) (name_in e t false lt)
    declared_in e t d enumerator lt = tt

    whole_in : (t : CType) (o : Option Name) (k : SynKind) → ((e : Name) → o ≡ Some e → e.node < N) → AllProper N (whole_by p js node t o k)
    whole_in t o kind.TypeName h = tt
    whole_in t o kind.Member h = rule_in N (not (has_size (layouts js) t)) 5 node.id refl own
    whole_in t None kind.Function h = void_in t node.id own
    whole_in t (Some e) kind.Function h = by (is_some (own_takes p.nodes (parent_of p.nodes node.id)))
      where
        by : (b : Bool) → AllProper N (if b then declared_faults p js e t node.id true e.entity else not_a_function false node.id)
        by true = declared_in e t true e.entity (h e refl)
        by false = rule_in N true 16 node.id refl own
    whole_in t None _ h = void_in t node.id own
    whole_in t (Some e) _ h = declared_in e t false e.entity (h e refl)

    whole_type_in : (owner : Node) (t : CType) (fs : List Fault) → AllProper N fs → JudgedIn N (whole_type p js node owner (built t fs))
    unfolding whole_type
    whole_type_in owner t [] h = verdict_in N _ _ (whole_in _ (name_of p node.first) owner.label.kind (λ e same. names node.first e same)) tt
    whole_type_in owner t (f ∷ fs) h = record { holds = h }

    pub declarator_in : (ss : List PlacedStep) → StepsIn N ss → JudgedIn N (declarator p js node ss)
    unfolding declarator
    declarator_in ss h =
        choice (is_whole p.nodes node) _ _ (given_in N (type_at js (specs_of p.nodes (parent_of p.nodes node.id)).id) _ (λ base same.
        let b = build (layouts js) base ss in whole_type_in (parent_of p.nodes node.id) b.type b.faults (build_in (layouts js) base ss h))) (means_in N (steps ss) h)

    pub pointer_in : JudgedIn N (pointer_declarator p js node)
    unfolding pointer_declarator
    pointer_in = given_in N (steps_at js (kid node 0)) _ (λ ss same. declarator_in _ (with_in ss node to_pointer (steps_in N js (kid node 0) ss all same) own))

    absent_in : (ss : List PlacedStep) → StepsIn N ss → JudgedIn N (absent_length_step p js node ss)
    unfolding absent_length_step
    absent_in ss h =
        choice (is_parameter_length p node) _ _ (declarator_in _ (with_in ss node Step.of_parameter h own)) (
        choice (is_given_by_initializer p node) _ _ (declarator_in _ (with_in ss node of_unsized h own)) (breaks_in N 7 node.id refl own))

    length_in : (ss : List PlacedStep) (x : Typing) → StepsIn N ss → ConstantIn N x.constant → JudgedIn N (length_step p js node ss x)
    unfolding length_step
    length_in ss x h c =
        choice (is_parameter_length p node) _ _ (declarator_in _ (with_in ss node Step.of_parameter h own))
        (by_list (length_faults x (kid node 1) node.id) _ (steps ss)
        (both_in N (not_constant x.constant (kid node 1) ++ out_of_range x.constant) (bad_array_length x node.id)
        (both_in N (not_constant x.constant (kid node 1)) (out_of_range x.constant) (rule_in N _ 8 (kid node 1) refl (kids 1)) (range_in N x.constant c)) (rule_in N _ 7 node.id refl own))
        (declarator_in _ (with_in ss node (of_array (word_in x.constant)) h own)))

    pub array_declarator_in : JudgedIn N (array_declarator p js node)
    unfolding array_declarator
    array_declarator_in =
        given_in N (steps_at js (kid node 0)) _ (λ ss same. let h = steps_in N js (kid node 0) ss all same in
        choice (has_kid node 1) _ _ (given_in N (typing_at js (kid node 1)) _ (λ x also. length_in ss x h (typing_in N js (kid node 1) x all also))) (absent_in ss h))

    pub function_in : JudgedIn N (function_declarator p js node)
    unfolding function_declarator
    function_in =
        besides_in N (many_parameters (length (map (type_at js) (other_kids node))) node.id ++ bad_parameter (filter_map (λ part. part) (map (type_at js) (other_kids node))) node.id) _
        (both_in N (many_parameters (length (map (type_at js) (other_kids node))) node.id) (bad_parameter (filter_map (λ part. part) (map (type_at js) (other_kids node))) node.id) (rule_in N _ 20 node.id refl own) (rule_in N _ 21 node.id refl own))
        (given_in N (steps_at js (kid node 0)) _ (λ ss same. given_in N (all_of (map (type_at js) (other_kids node))) _ (λ types also.
        declarator_in _ (with_in ss node _ (steps_in N js (kid node 0) ss all same) own))))

    -- ---- specs

    pub specs_in : JudgedIn N (specs p js node)
    unfolding specs
    specs_in =
        besides_in N (bad_storage_class (place_of_specs p node) (filter is_storage (map (text_at p.nodes) (filter (λ n. is_word (kind_at p.nodes n)) node.kids))) node.id) _ (rule_in N _ 2 node.id refl own)
        (given_in N (all_of (map (λ n. spec_meaning (judgement_at js n)) node.kids)) _ (λ types same. verdict_in N _ _ (rule_in N _ 1 node.id refl own) tt))

    pub word_in_bounds : JudgedIn N (spec_word p js node)
    unfolding spec_word typedef_type
    word_in_bounds = choice (is_storage_word node.label.text || is_type_word node.label.text) _ _ (means_in N itself tt) (by (denoted p.names node.id node.label.text))
      where
        by : (o : Option Name) → JudgedIn N (typedef_type js node o)
        by None = breaks_in N 1 node.id refl own
        by (Some e) = choice (is_typedef e.entity) _ _ (given_in N (type_of_name js e) (λ t. means (a_type t)) (λ t same. means_in N (a_type t) tt)) (breaks_in N 1 node.id refl own)

    tag_in : (o : Option Tag) → AllProper N (tag_faults p node o)
    tag_in None = tt
    tag_in (Some e) = rule_in N _ 3 node.id refl own

    pub struct_in : JudgedIn N (struct_specifier p js node)
    unfolding struct_specifier struct_body
    struct_in =
        choice (has_kid node 0) _ _
        (besides_in N (tag_faults p node (tag_of p node.id) ++ member_faults [] (map (λ part. unwrap_or part []) (map (λ n. members_of (judgement_at js n)) node.kids)) node.kids) _
        (both_in N (tag_faults p node (tag_of p node.id)) (member_faults [] (map (λ part. unwrap_or part []) (map (λ n. members_of (judgement_at js n)) node.kids)) node.kids) (tag_in (tag_of p node.id)) (members_in [] (map (λ part. unwrap_or part []) (map (λ n. members_of (judgement_at js n)) node.kids)) node.kids listed))
        (given_in N (all_of (map (λ n. members_of (judgement_at js n)) node.kids)) _ (λ fields same. verdict_in N _ _ (size_in N _ node.id own) tt)))
        (verdict_in N (tag_faults p node (tag_of p node.id)) _ (tag_in (tag_of p node.id)) tt)

    pub enum_in : JudgedIn N (enum_specifier p js node)
    unfolding enum_specifier
    enum_in =
        besides_in N (unknown_name (is_known_enum node (tag_of p node.id)) node.id ++ tag_faults p node (tag_of p node.id)) _
        (both_in N (unknown_name (is_known_enum node (tag_of p node.id)) node.id) (tag_faults p node (tag_of p node.id)) (rule_in N _ 4 node.id refl own) (tag_in (tag_of p node.id)))
        (given_in N (all_of (map (λ n. word_of_enumerator (judgement_at js n)) node.kids)) _ (λ values same. means_in N _ tt))

    enumerator_name_in : (o : Option Name) → AllProper N (enumerator_faults p js node o)
    enumerator_name_in None = tt
    enumerator_name_in (Some e) = both_in N (declared_twice p e (integer int) None node.id) (bad_library_name e.text false (integer int) node.id) (rule_in N _ 3 node.id refl own) (rule_in N _ 23 node.id refl own)

    pub enumerator_in : JudgedIn N (enumerator_node p js node)
    unfolding enumerator_node enumerator_value enumerator_after
    enumerator_in =
        choice (has_kid node 0) _ _
        (given_in N (typing_at js (kid node 0)) _ (λ x same. verdict_in N _ _
        (both_in N _ _ (both_in N _ _ (both_in N _ _ (enumerator_name_in (name_of p node.id)) (rule_in N _ 8 (kid node 0) refl (kids 0))) (range_in N x.constant (typing_in N js (kid node 0) x all same))) (rule_in N _ 9 (kid node 0) refl (kids 0))) tt))
        (by (index_in (parent_of p.nodes node.id).kids node.id))
      where
        by : (i : ℕ) → JudgedIn N (enumerator_after p js node (parent_of p.nodes node.id).kids i)
        by zero = verdict_in N (enumerator_faults p js node (name_of p node.id)) _ (enumerator_name_in (name_of p node.id)) tt
        by (suc i) =
            given_in N (word_of_enumerator (judgement_at js (unwrap_or (slice_get (parent_of p.nodes node.id).kids (suc i - 1)) 0))) _
            (λ w same. verdict_in N (enumerator_faults p js node (name_of p node.id) ++ broken_if (w == 2 ^ 31 - 1) 9 node.id) _
            (both_in N (enumerator_faults p js node (name_of p node.id)) (broken_if (w == 2 ^ 31 - 1) 9 node.id) (enumerator_name_in (name_of p node.id)) (rule_in N _ 9 node.id refl own)) tt)

    pub member_in : JudgedIn N (member p js node)
    unfolding member
    member_in = given_in N (all_of (map (member_at p js) (other_kids node))) _ (λ fields same. means_in N _ tt)

    pub parameter_in : JudgedIn N (parameter_node js node)
    unfolding parameter_node
    parameter_in = given_in N (type_at js (kid node 1)) _ (λ t same. means_in N _ tt)

    pub type_name_in : JudgedIn N (type_name js node)
    unfolding type_name
    type_name_in = given_in N (type_at js (kid node 1)) _ (λ t same. means_in N _ tt)
