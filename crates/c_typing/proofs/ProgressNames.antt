-- Names, strings and initializers: where what they name or initialize is known, and no rule is broken, each has a meaning.
use Rattle.std.proofs.Common.{◌≡◌, ℕ, Bool, true, false, List, [], ◌∷◌, ◌++◌, length, map, Option, Some, None, refl, sym, subst, true≢false}
use Rattle.std.specs.List.{range_with_len}
use Rattle.c_syntax.specs.declared.kind.SynKind.{SynKind}
use Rattle.c_types.specs.Forms.{const}
use Rattle.c_typing.specs.Types.{CType, is_function, int}
use Rattle.c_typing.specs.Rules.{function_as_value, not_a_function, unknown_name, bad_initializer}
use Rattle.c_typing.specs.Places.{Node, kid, has_kid, node_at}
use Rattle.c_typing.specs.Names.{Places, Name, Entity, typedef_name, function_name, static_object, automatic, parameter, enumerator, is_static, name_of}
use Rattle.c_typing.specs.Judgements.{callee, no_constant, rule, Fault, initial, initialized, fills_array, Judgement, means, verdict, type_at, judgement_at, layouts}
use Rattle.c_typing.specs.Expressions.{is_called, callee_of, type_of_name, word_of_enumerator, variable_by, variable, expression, number_of_type, literal}
use Rattle.c_typing.specs.Initializers.{is_object, target, fills, string, literal_faults, part_for, kid_part, too_many, init_around, is_static_name, braces_for, braces_by, braces, initialized_object, init_by, init_declarator, bare_code}
use Rattle.c_typing.specs.Shapes as category
use Rattle.c_typing.specs.Shapes.{Category}
use Rattle.c_typing.proofs.ProgressBase.{Settles, settled, verdict_settles, besides_settles, given_settles, AllThere, all_there}
use Rattle.c_typing.proofs.ProgressForms.{fits, may_fill, Has}
use Rattle.c_typing.proofs.ProgressExpressions.{expressed}
use Rattle.c_typing.proofs.ProgressDeclarators.{cases, broken}
use Rattle.c_syntax.specs.declared.kind.SynKind.TheVariants as kind

no : {A : Type 0} → false ≡ true → A
no e = absurd (true≢false (sym e))

-- ---- the name of a variable, a function or an enumerator

-- what is known of a name, where it is no typedef name
abbrev pub Known : List Judgement → Name → Entity → Type 0
Known js e typedef_name = Unit {0}
Known js e enumerator = Has (word_of_enumerator (judgement_at js e.node))
Known js e other = Has (type_of_name js e)

module _ (outer own : SynKind) (level : ℕ) where
  abbrev Test : Judgement → Bool
  Test j = fits outer own (category.expression level) j

  by_settles : (p : Places) (js : List Judgement) (node : Node) (e : Name) (k : Entity) → Known js e k → Settles Test (variable_by p js node e k)
  unfolding variable_by
  by_settles p js node e typedef_name h = expressed outer own level (unknown_name false node.id) (number_of_type int 0) 0 refl
  by_settles p js node e enumerator h = given_settles Test _ h.value _ h.is (expressed outer own level [] _ 0 refl)
  by_settles p js node e function_name h =
      given_settles Test _ h.value _ h.is (callable (function_as_value (is_called p (length p.nodes) node.id) node.id) h.value (is_function h.value) refl)
    where
      callable : (fs : List Fault) (t : CType) (b : Bool) → is_function t ≡ b
          → Settles Test (verdict (fs ++ not_a_function (is_function t) node.id) (expression (record { type = t; form = callee (callee_of p e.text); code = const 0; constant = no_constant })))
      callable fs t true same = expressed outer own level (fs ++ not_a_function (is_function t) node.id) (record { type = t; form = callee (callee_of p e.text); code = const 0; constant = no_constant }) 0 same
      callable [] t false same = subst (λ k. Settles Test (verdict (not_a_function k node.id) (expression (record { type = t; form = callee (callee_of p e.text); code = const 0; constant = no_constant })))) (sym same) (broken Test (rule 16 node.id) [] (expression (record { type = t; form = callee (callee_of p e.text); code = const 0; constant = no_constant })))
      callable (f ∷ fs) t false same = broken Test f (fs ++ not_a_function (is_function t) node.id) (expression (record { type = t; form = callee (callee_of p e.text); code = const 0; constant = no_constant }))
  by_settles p js node e static_object h = given_settles Test _ h.value _ h.is (expressed outer own level [] _ 0 refl)
  by_settles p js node e automatic h = given_settles Test _ h.value _ h.is (expressed outer own level [] _ 0 refl)
  by_settles p js node e (parameter i) h = given_settles Test _ h.value _ h.is (expressed outer own level [] _ 0 refl)

  pub variable_settles : (p : Places) (js : List Judgement) (node : Node) (o : Option Name) → ((e : Name) → o ≡ Some e → Known js e e.entity) → Settles Test (variable p js node o)
  unfolding variable
  variable_settles p js node None h = expressed outer own level (unknown_name false node.id) (number_of_type int 0) 0 refl
  variable_settles p js node (Some e) h = by_settles p js node e e.entity (h e refl)

-- ---- strings and braces

module _ (outer : SynKind) (level : ℕ) where
  pub string_settles : (p : Places) (js : List Judgement) (node : Node) → (fills (target p js node.id) ≡ true → may_fill fills_array outer ≡ true) → Settles (fits outer kind.Str (category.expression level)) (string p js node)
  unfolding string
  string_settles p js node h =
      cases (fits outer kind.Str (category.expression level)) (fills (target p js node.id)) _ _ (λ e. settled (fits outer kind.Str (category.expression level)) (means fills_array) (h e))
      (λ e. verdict_settles (fits outer kind.Str (category.expression level)) (literal_faults node) (expression (literal p js node.label.bytes)) refl)

-- the parts of braces for an object of this type
abbrev pub HasParts : Places → List Judgement → Node → CType → Type 0
HasParts p js node t = AllThere (map (kid_part p js (is_static_name (init_around p node)) t node) (range_with_len 0 (length node.kids)))

-- what is known of a declarator with an initializer
pub record IsInitial (p : Places) (js : List Judgement) (node : Node) : Type 0 where
  pub type : CType
  pub typed : type_at js (kid node 0) ≡ Some type
  pub name : Name
  pub named : name_of p (node_at p.nodes (kid node 0)).first ≡ Some name
  pub part : has_kid node 1 ≡ true → is_object name.entity ≡ true → Has (part_for p js (is_static name.entity) false type (kid node 1))

module _ (outer own : SynKind) where
  pub braces_settle : (p : Places) (js : List Judgement) (node : Node) → ((t : CType) → target p js node.id ≡ Some t → HasParts p js node t) → Settles (fits outer own category.braces) (braces p js node)
  unfolding braces braces_for
  braces_settle p js node h = by (target p js node.id) h
    where
      by : (o : Option CType) → ((t : CType) → o ≡ Some t → HasParts p js node t) → Settles (fits outer own category.braces) (braces_by p js node o)
      by None h = settled (fits outer own category.braces) (means (initial 0 [])) refl
      by (Some t) h =
          let parts = all_there (map (kid_part p js (is_static_name (init_around p node)) t node) (range_with_len 0 (length node.kids))) (h t refl) in
          besides_settles (fits outer own category.braces) (too_many p (layouts js) t node) _ (λ none.
          given_settles (fits outer own category.braces) _ parts.0 _ parts.1 (verdict_settles (fits outer own category.braces) _ _ refl))

  pub initializer_settles : (p : Places) (js : List Judgement) (node : Node) → IsInitial p js node → Settles (fits outer own category.init_declarator) (init_declarator p js node)
  unfolding init_declarator init_by initialized_object
  initializer_settles p js node h =
      given_settles (fits outer own category.init_declarator) _ h.type _ h.typed (given_settles (fits outer own category.init_declarator) _ h.name _ h.named (
      cases (fits outer own category.init_declarator) (has_kid node 1) _ _
      (λ e. cases (fits outer own category.init_declarator) (is_object h.name.entity) _ _
      (λ f. let q = h.part e f in given_settles (fits outer own category.init_declarator) _ q.value _ q.is (verdict_settles (fits outer own category.init_declarator) _ _ refl))
      (λ f. verdict_settles (fits outer own category.init_declarator) (bad_initializer true (kid node 1)) (initialized h.type [] []) refl))
      (λ e. settled (fits outer own category.init_declarator) (means (initialized h.type (bare_code p h.name h.name.entity) [])) refl)))
