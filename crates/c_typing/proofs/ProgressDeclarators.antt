-- Specs, declarators and what is made of them: where the parts have meanings, and no rule is broken, each has one.
use Rattle.std.proofs.Common.{◌≡◌, ℕ, zero, suc, Bool, true, false, ◌||◌, not, List, [], ◌∷◌, ◌++◌, length, map, Option, Some, None, refl, sym, ap, ◌∙◌, subst, arith, true≢false}
use Rattle.std.specs.Prelude.{slice_get, unwrap_or, if◌then◌else◌, filter, filter_map}
use Rattle.c_syntax.specs.declared.kind.SynKind.{SynKind}
use Rattle.c_grammar.specs.Vocabulary.{is_type_word, is_storage_word}
use Rattle.c_typing.specs.Types.{CType}
use Rattle.c_typing.specs.Places.{Node, kid, has_kid, other_kids, kind_at, text_at, is_word, parent_of, index_in, specs_of, is_whole, is_declarator}
use Rattle.c_typing.specs.Names.{Places, Name, is_typedef, denoted, tag_of}
use Rattle.c_typing.specs.Judgements.{Fault, rule, Meaning, itself, a_type, steps, declares, Judgement, means, Typing, PlacedStep, verdict, typing_at, code_at, type_at, steps_at, judgement_at, layouts}
use Rattle.c_typing.specs.Rules.{bad_storage_class, many_parameters, bad_parameter, unknown_name}
use Rattle.c_typing.specs.Expressions.{type_of_name, word_of_enumerator}
use Rattle.c_typing.specs.Declarators.{typedef_type, spec_word, spec_meaning, is_storage, place_of_specs, specs, members_of, struct_body, struct_specifier, tag_faults, member_faults, is_known_enum, enum_specifier, enumerator_after, enumerator_value, enumerator_node, built, whole_type, declarator, build, pointer_declarator, is_parameter_length, is_given_by_initializer, absent_length_step, length_faults, length_step, array_declarator, function_declarator, member_at, member, parameter_node, type_name}
use Rattle.c_typing.specs.Typing.{function_node, unit_node, in_parentheses}
use Rattle.c_typing.specs.Shapes as category
use Rattle.c_typing.specs.Shapes.{Category, word_category}
use Rattle.c_typing.proofs.ProgressBase.{Settles, settled, verdict_settles, besides_settles, given_settles, AllThere, all_there}
use Rattle.c_typing.proofs.ProgressForms.{fits, Has, is_part}

no : {A : Type 0} → false ≡ true → A
no e = absurd (true≢false (sym e))

pub cases : (test : Judgement → Bool) (b : Bool) (x y : Judgement) → (b ≡ true → Settles test x) → (b ≡ false → Settles test y) → Settles test (if b then x else y)
cases test true x y s u = s refl
cases test false x y s u = u refl

pub broken : (test : Judgement → Bool) (f : Fault) (fs : List Fault) (m : Meaning) → Settles test (verdict (f ∷ fs) m)
broken test f fs m = record { passes = λ c. absurd (cc c) }

by_faults : (test : Judgement → Bool) (fs : List Fault) (j : Judgement) (m : Meaning) → Settles test j
    → Settles test (elim fs as (λ x. Judgement) [ [] ↦ j | ◌∷◌ f rest ↦ verdict (f ∷ rest) m ])
by_faults test [] j m s = s
by_faults test (f ∷ fs) j m s = broken test f fs m

-- ---- a declarator or a part of one, of this category, below a node of the kind `outer`

module _ (outer own : SynKind) (c : Category) (part : is_part c ≡ true) where
  abbrev Test : Judgement → Bool
  Test j = fits outer own c j

  declared : (t : CType) → not (is_declarator outer) ≡ true → Test (means (declares t)) ≡ true
  declared t e = by c part
    where
      by : (k : Category) → is_part k ≡ true → fits outer own k (means (declares t)) ≡ true
      by category.declarator h = rw e refl
      by category.abstract_declarator h = rw e refl
      by category.no_name h = rw e refl
      by _ h = no h

  stepped : (ss : List PlacedStep) → not (is_declarator outer) ≡ false → Test (means (steps ss)) ≡ true
  stepped ss e = by c part
    where
      by : (k : Category) → is_part k ≡ true → fits outer own k (means (steps ss)) ≡ true
      by category.declarator h = rw e refl
      by category.abstract_declarator h = rw e refl
      by category.no_name h = rw e refl
      by _ h = no h

  whole_settles : (p : Places) (js : List Judgement) (node owner : Node) (t : CType) (fs : List Fault) → not (is_declarator outer) ≡ true → Settles Test (whole_type p js node owner (built t fs))
  unfolding whole_type
  whole_settles p js node owner t [] e = verdict_settles Test _ _ (declared _ e)
  whole_settles p js node owner t (f ∷ fs) e = broken Test f fs (declares t)

  pub declarator_settles : (p : Places) (js : List Judgement) (node : Node) (ss : List PlacedStep) → (parent_of p.nodes node.id).label.kind ≡ outer
      → (not (is_declarator outer) ≡ true → Has (type_at js (specs_of p.nodes (parent_of p.nodes node.id)).id)) → Settles Test (declarator p js node ss)
  unfolding declarator
  declarator_settles p js node ss same h =
      let whole : is_whole p.nodes node ≡ not (is_declarator outer) = ap (λ k. not (is_declarator k)) same in
      cases Test (is_whole p.nodes node) _ _
      (λ e. let t = h (sym whole ∙ e) in given_settles Test _ t.value _ t.is (
      let b = build (layouts js) t.value ss in whole_settles p js node (parent_of p.nodes node.id) b.type b.faults (sym whole ∙ e)))
      (λ e. settled Test (means (steps ss)) (stepped ss (sym whole ∙ e)))

  -- a part that has others in it
  module _ (p : Places) (js : List Judgement) (node : Node) (same : (parent_of p.nodes node.id).label.kind ≡ outer)
      (specified : not (is_declarator outer) ≡ true → Has (type_at js (specs_of p.nodes (parent_of p.nodes node.id)).id)) where
    pub pointer_settles : Has (steps_at js (kid node 0)) → Settles Test (pointer_declarator p js node)
    unfolding pointer_declarator
    pointer_settles ss = given_settles Test _ ss.value _ ss.is (declarator_settles p js node _ same specified)

    absent_settles : (ss : List PlacedStep) → Settles Test (absent_length_step p js node ss)
    unfolding absent_length_step
    absent_settles ss =
        cases Test (is_parameter_length p node) _ _ (λ e. declarator_settles p js node _ same specified) (λ e.
        cases Test (is_given_by_initializer p node) _ _ (λ f. declarator_settles p js node _ same specified) (λ f. broken Test (rule 7 node.id) [] (steps ss)))

    length_settles : (ss : List PlacedStep) (x : Typing) → Settles Test (length_step p js node ss x)
    unfolding length_step
    length_settles ss x =
        cases Test (is_parameter_length p node) _ _ (λ e. declarator_settles p js node _ same specified)
        (λ e. by_faults Test (length_faults x (kid node 1) node.id) _ (steps ss) (declarator_settles p js node _ same specified))

    pub array_settles : Has (steps_at js (kid node 0)) → (has_kid node 1 ≡ true → Has (typing_at js (kid node 1))) → Settles Test (array_declarator p js node)
    unfolding array_declarator
    array_settles ss h =
        given_settles Test _ ss.value _ ss.is (cases Test (has_kid node 1) _ _
        (λ e. let x = h e in given_settles Test _ x.value _ x.is (length_settles ss.value x.value)) (λ e. absent_settles ss.value))

    pub function_settles : Has (steps_at js (kid node 0)) → AllThere (map (type_at js) (other_kids node)) → Settles Test (function_declarator p js node)
    unfolding function_declarator
    function_settles ss there =
        let parts = map (type_at js) (other_kids node) in
        let types = all_there parts there in
        besides_settles Test (many_parameters (length parts) node.id ++ bad_parameter (filter_map (λ part. part) parts) node.id) _
        (λ none. given_settles Test _ ss.value _ ss.is (given_settles Test _ types.0 _ types.1 (declarator_settles p js node _ same specified)))

    pub parentheses_settle : Has (steps_at js (kid node 0)) → Settles Test (in_parentheses p js node None)
    parentheses_settle ss = given_settles Test _ ss.value _ ss.is (declarator_settles p js node _ same specified)

-- ---- specs

module _ (outer own : SynKind) where
  pub specs_settle : (p : Places) (js : List Judgement) (node : Node) → AllThere (map (λ n. spec_meaning (judgement_at js n)) node.kids) → Settles (fits outer own category.specifiers) (specs p js node)
  unfolding specs
  specs_settle p js node there =
      let words = map (text_at p.nodes) (filter (λ n. is_word (kind_at p.nodes n)) node.kids) in
      let types = all_there _ there in
      besides_settles (fits outer own category.specifiers) (bad_storage_class (place_of_specs p node) (filter is_storage words) node.id) _
      (λ none. given_settles (fits outer own category.specifiers) _ types.0 _ types.1 (verdict_settles (fits outer own category.specifiers) _ _ refl))

  -- where a name among specs is a typedef name, it has a type
  pub word_settles : (p : Places) (js : List Judgement) (node : Node)
      → ((e : Name) → denoted p.names node.id node.label.text ≡ Some e → is_typedef e.entity ≡ true → Has (type_of_name js e)) → Settles (fits outer own (word_category node.label.text)) (spec_word p js node)
  unfolding spec_word typedef_type
  word_settles p js node h = by (is_storage_word node.label.text) (is_type_word node.label.text)
    where
      named : (o : Option Name) → ((e : Name) → o ≡ Some e → is_typedef e.entity ≡ true → Has (type_of_name js e)) → Settles (fits outer own category.typedef_name) (typedef_type js node o)
      named None h = broken (fits outer own category.typedef_name) (rule 1 node.id) [] itself
      named (Some e) h =
          cases (fits outer own category.typedef_name) (is_typedef e.entity) _ _
          (λ f. let t = h e refl f in given_settles (fits outer own category.typedef_name) _ t.value _ t.is (settled (fits outer own category.typedef_name) (means (a_type t.value)) refl))
          (λ f. broken (fits outer own category.typedef_name) (rule 1 node.id) [] itself)

      by : (s t : Bool)
          → Settles (fits outer own (if s then category.storage_word else if t then category.type_specifier else category.typedef_name)) (if s || t then means itself else typedef_type js node (denoted p.names node.id node.label.text))
      by true t = settled (fits outer own category.storage_word) (means itself) refl
      by false true = settled (fits outer own category.type_specifier) (means itself) refl
      by false false = named (denoted p.names node.id node.label.text) h

  pub struct_settles : (p : Places) (js : List Judgement) (node : Node) → AllThere (map (λ n. members_of (judgement_at js n)) node.kids) → Settles (fits outer own category.type_specifier) (struct_specifier p js node)
  unfolding struct_specifier struct_body
  struct_settles p js node there =
      let parts = map (λ n. members_of (judgement_at js n)) node.kids in
      let fields = all_there parts there in
      cases (fits outer own category.type_specifier) (has_kid node 0) _ _
      (λ e. besides_settles (fits outer own category.type_specifier) (tag_faults p node (tag_of p node.id) ++ member_faults [] (map (λ part. unwrap_or part []) parts) node.kids) _
      (λ none. given_settles (fits outer own category.type_specifier) _ fields.0 _ fields.1 (verdict_settles (fits outer own category.type_specifier) _ _ refl)))
      (λ e. verdict_settles (fits outer own category.type_specifier) _ _ refl)

  pub enum_settles : (p : Places) (js : List Judgement) (node : Node) → AllThere (map (λ n. word_of_enumerator (judgement_at js n)) node.kids) → Settles (fits outer own category.type_specifier) (enum_specifier p js node)
  unfolding enum_specifier
  enum_settles p js node there =
      let values = all_there _ there in
      besides_settles (fits outer own category.type_specifier) (unknown_name (is_known_enum node (tag_of p node.id)) node.id ++ tag_faults p node (tag_of p node.id)) _
      (λ none. given_settles (fits outer own category.type_specifier) _ values.0 _ values.1 (settled (fits outer own category.type_specifier) _ refl))

  pub enumerator_settles : (p : Places) (js : List Judgement) (node : Node) → (has_kid node 0 ≡ true → Has (typing_at js (kid node 0)))
      → ((i : ℕ) → index_in (parent_of p.nodes node.id).kids node.id ≡ suc i → Has (word_of_enumerator (judgement_at js (unwrap_or (slice_get (parent_of p.nodes node.id).kids i) 0))))
      → Settles (fits outer own category.enumerator) (enumerator_node p js node)
  unfolding enumerator_node enumerator_value enumerator_after
  enumerator_settles p js node h before =
      cases (fits outer own category.enumerator) (has_kid node 0) _ _
      (λ e. let x = h e in given_settles (fits outer own category.enumerator) _ x.value _ x.is (verdict_settles (fits outer own category.enumerator) _ _ refl))
      (λ e. by (index_in (parent_of p.nodes node.id).kids node.id) before)
    where
      by : (i : ℕ) → ((k : ℕ) → i ≡ suc k → Has (word_of_enumerator (judgement_at js (unwrap_or (slice_get (parent_of p.nodes node.id).kids k) 0))))
          → Settles (fits outer own category.enumerator) (enumerator_after p js node (parent_of p.nodes node.id).kids i)
      by zero f = verdict_settles (fits outer own category.enumerator) _ _ refl
      by (suc k) f =
          let w = subst (λ l. Has (word_of_enumerator (judgement_at js (unwrap_or (slice_get (parent_of p.nodes node.id).kids l) 0)))) (omega arith) (f k refl) in
          given_settles (fits outer own category.enumerator) _ w.value _ w.is (verdict_settles (fits outer own category.enumerator) _ _ refl)

  -- ---- members, parameters, names of types, functions

  pub member_settles : (p : Places) (js : List Judgement) (node : Node) → AllThere (map (member_at p js) (other_kids node)) → Settles (fits outer own category.member) (member p js node)
  unfolding member
  member_settles p js node there = let fields = all_there _ there in given_settles (fits outer own category.member) _ fields.0 _ fields.1 (settled (fits outer own category.member) _ refl)

  pub parameter_settles : (js : List Judgement) (node : Node) → Has (type_at js (kid node 1)) → Settles (fits outer own category.parameter) (parameter_node js node)
  unfolding parameter_node
  parameter_settles js node t = given_settles (fits outer own category.parameter) _ t.value _ t.is (settled (fits outer own category.parameter) _ refl)

  pub type_name_settles : (js : List Judgement) (node : Node) → Has (type_at js (kid node 1)) → Settles (fits outer own category.type_name) (type_name js node)
  unfolding type_name
  type_name_settles js node t = given_settles (fits outer own category.type_name) _ t.value _ t.is (settled (fits outer own category.type_name) _ refl)

  pub function_settles_whole : (p : Places) (js : List Judgement) (node : Node) → Has (type_at js (kid node 0)) → Has (type_at js (kid node 1)) → Has (code_at js (kid node 2)) → Settles (fits outer own category.function) (function_node p js node)
  unfolding function_node
  function_settles_whole p js node base t body =
      given_settles (fits outer own category.function) _ base.value _ base.is (
      given_settles (fits outer own category.function) _ t.value _ t.is (
      given_settles (fits outer own category.function) _ body.value _ body.is (settled (fits outer own category.function) _ refl)))

  pub unit_settles : (p : Places) (node : Node) → Settles (fits outer own category.unit) (unit_node p node)
  unfolding unit_node
  unit_settles p node = verdict_settles (fits outer own category.unit) _ _ refl
