-- What names of objects and locals mean.
use Rattle.std.proofs.Common.{◌≡◌, ℕ, Bool, true, false, List, Option, Some, None, refl, sym, ap, ◌∙◌, subst}
use Rattle.std.specs.Prelude.{IfSome, if◌then◌else◌}
use Rattle.std.specs.Option.{is_some}
use Rattle.std.proofs.lemmas.Bool.{false≢true}
use Rattle.c_syntax.specs.declared.kind.SynKind.TheVariants as kind
use Rattle.c_syntax.specs.declared.syntax.SynNode.{SynNode}
use Rattle.c_typing.specs.Types.{CType, pointer, unsized}
use Rattle.c_typing.specs.Names.{Entity, Name, automatic, enumerator, function_name, local_number, object_number, parameter, static_object, typedef_name}
use Rattle.c_typing.specs.Judgements.{given, judgement_at, means, type_at, type_of}
use Rattle.c_typing.specs.Expressions.{expression, local_typing, object_typing, variable_by}
use Rattle.c_names.specs.Denoted.{IsDerived, places_in}
use Rattle.c_type_ids.specs.Ids.{Known}
use Rattle.c_values.specs.declared.typings.«Type».{«Type» as TypeForm}
use Rattle.c_values.specs.declared.typings.«Type».TheVariants as type
use Rattle.c_values.specs.declared.typings.Form.TheVariants as form
use Rattle.c_values.specs.Typings.{HasForm, IsType}
use Rattle.c_meanings.specs.Meanings.{judged_at, judged_to, node_in}
use Rattle.c_expression_rows.specs.Names.{Denotes, declared_type, is_local}
use Rattle.c_lengths.specs.Lengths.{inside_lacks}
use Rattle.c_lengths.proofs.Objects.{denoted_inside}
use Rattle.c_lengths.proofs.Prefixes.{type_before}
use Rattle.c_typing.proofs.ProgressDeclared.{is_enumerator_entity}
use Rattle.c_typing.specs.Typing.{judgements_at}
use Rattle.c_nodes.specs.Parents.{nodes_in, tree_in}
use Rattle.c_expression_rows.proofs.NameRowLaws.{by_entity}

-- ---- the types of objects

abbrev pub points_to_unsized : CType → Bool
points_to_unsized (pointer (unsized t)) = true
points_to_unsized t = false

-- no object is a pointer to an array without a length: an initializer gives a length to what it initializes alone
abbrev pub IsOfObject : Option CType → Type 0
IsOfObject o = IfSome o (λ t. points_to_unsized t ≡ false)

outermost : (t : CType) → inside_lacks t ≡ false → points_to_unsized t ≡ false
outermost (pointer (unsized t)) e = absurd (false≢true (sym e))
outermost _ e = refl

-- by its name
pub named_object : (table : List SynNode) (n : ℕ) → IsDerived table → (e : Name) (owner behind : ℕ) → Denotes table n e → is_enumerator_entity e.entity ≡ false → e.owner ≡ owner → e.behind ≡ behind → IsOfObject (declared_type table n owner behind)
unfolding judged_to places_in nodes_in
named_object table n d e owner behind denotes other own_owner own_behind =
    let inside = denoted_inside d.tokens (tree_in table) d.derived n (node_in table n).label.text e denotes other in
    by (type_at (judged_to table n) owner) (type_at (judged_to table n) behind)
    (λ u at. inside.owner u (ap (λ i. type_of (judgement_at (judgements_at (places_in table)) i)) own_owner ∙ type_before (places_in table) n (nodes_in table) owner u at))
    (λ u at. inside.declarator u (ap (λ i. type_of (judgement_at (judgements_at (places_in table)) i)) own_behind ∙ type_before (places_in table) n (nodes_in table) behind u at))
  where
    by : (o p : Option CType) → ((u : CType) → o ≡ Some u → inside_lacks u ≡ false) → ((u : CType) → p ≡ Some u → inside_lacks u ≡ false) → IsOfObject (if is_some o then o else p)
    by (Some u) p h k = outermost u (h u refl)
    by None (Some u) h k = outermost u (k u refl)
    by None None h k = tt

pub static_named : (e : Entity) → e ≡ static_object → is_enumerator_entity e ≡ false
static_named e same = ap is_enumerator_entity same

pub local_named : (e : Entity) → is_local e ≡ true → is_enumerator_entity e ≡ false
local_named automatic h = refl
local_named (parameter i) h = refl
local_named _ h = absurd (false≢true h)

-- what has the type of an object may stand in memory, and in a local
pub in_memory : (k : Known) (a : TypeForm) (t : CType) → points_to_unsized t ≡ false → IsType k a t → HasForm a form.InMemory
in_memory k (type.Known id) t other named = tt
in_memory k (type.Unsized id) t other named = tt
in_memory k (type.ToUnsized id) (pointer (unsized t)) other named = absurd (false≢true (sym other))
in_memory k (type.ToUnsized id) t other named = absurd named

pub in_local : (k : Known) (a : TypeForm) (t : CType) (i : ℕ) → points_to_unsized t ≡ false → IsType k a t → HasForm a (form.InLocal i)
in_local k (type.Known id) t i other named = tt
in_local k (type.Unsized id) t i other named = tt
in_local k (type.ToUnsized id) (pointer (unsized t)) i other named = absurd (false≢true (sym other))
in_local k (type.ToUnsized id) t i other named = absurd named

pub of_object : (o : Option CType) (t : CType) → IsOfObject o → o ≡ Some t → points_to_unsized t ≡ false
of_object o t is e = subst IsOfObject e is

module _ (table : List SynNode) (n : ℕ) (is : (node_in table n).label.kind ≡ kind.Var) (own : (node_in table n).id ≡ n) where
  pub object_is : (e : Name) (owner behind : ℕ) → Denotes table n e → e.entity ≡ static_object → e.owner ≡ owner → e.behind ≡ behind
      → judged_at table n ≡ given (declared_type table n owner behind) (λ t. means (expression (object_typing t (object_number (places_in table) e))))
  unfolding variable_by
  object_is e owner behind denotes same own_owner own_behind =
      by_entity table n is own e static_object denotes same
      ∙ ap (λ i. given (declared_type table n i e.behind) (λ t. means (expression (object_typing t (object_number (places_in table) e))))) own_owner
      ∙ ap (λ i. given (declared_type table n owner i) (λ t. means (expression (object_typing t (object_number (places_in table) e))))) own_behind

  local_by : (e : Name) (entity : Entity) → is_local entity ≡ true
      → variable_by (places_in table) (judged_to table n) (node_in table n) e entity ≡ given (declared_type table n e.owner e.behind) (λ t. means (expression (local_typing t (local_number (places_in table) e))))
  unfolding variable_by
  local_by e automatic h = refl
  local_by e (parameter i) h = refl
  local_by e typedef_name h = absurd (false≢true h)
  local_by e function_name h = absurd (false≢true h)
  local_by e static_object h = absurd (false≢true h)
  local_by e enumerator h = absurd (false≢true h)

  pub local_is : (e : Name) (owner behind number : ℕ) → Denotes table n e → is_local e.entity ≡ true → e.owner ≡ owner → e.behind ≡ behind → local_number (places_in table) e ≡ number
      → judged_at table n ≡ given (declared_type table n owner behind) (λ t. means (expression (local_typing t number)))
  local_is e owner behind number denotes same own_owner own_behind numbered =
      by_entity table n is own e e.entity denotes refl ∙ local_by e e.entity same
      ∙ ap (λ i. given (declared_type table n i e.behind) (λ t. means (expression (local_typing t (local_number (places_in table) e))))) own_owner
      ∙ ap (λ i. given (declared_type table n owner i) (λ t. means (expression (local_typing t (local_number (places_in table) e))))) own_behind
      ∙ ap (λ k. given (declared_type table n owner behind) (λ t. means (expression (local_typing t k)))) numbered
