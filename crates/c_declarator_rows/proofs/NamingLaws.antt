-- What is asked of names.
use Rattle.std.proofs.Common.{◌≡◌, ℕ, ◌<◌, Bool, true, false, ◌&&◌, not, List, [], ◌∷◌, ◌++◌, length, Option, Some, None, refl, sym, ap, ◌∙◌, subst, get_or}
use Rattle.std.specs.Prelude.{Result, option_map}
use Rattle.std.proofs.lemmas.List.{append-nil}
use Rattle.std.proofs.lemmas.Bool.{false≢true}
use Rattle.c_syntax.specs.declared.syntax.SynNode.{SynNode}
use Rattle.c_typing.specs.Types.{CType}
use Rattle.c_typing.specs.Places.{text_at}
use Rattle.c_typing.specs.Names.{Entity, Name, automatic, enumerator, function_name, name_of, parameter, static_object, typedef_name}
use Rattle.c_typing.specs.Judgements.{Fault, rule, Judgement, layouts}
use Rattle.c_typing.specs.Rules.{bad_library_name, broken_if, declared_twice, local_array_or_struct}
use Rattle.c_typing.specs.Declarators.{declared_faults, name_faults, object_size, parameter_size, type_before}
use Rattle.c_nodes.specs.Parents.{nodes_in}
use Rattle.c_names.specs.declared.names.DeclaredName.{DeclaredName}
use Rattle.c_names.specs.Denoted.{places_in}
use Rattle.c_names.specs.Names.{AreNames, entity_of, rule_name}
use Rattle.c_answers.specs.declared.refusal.Refusal.{Refusal}
use Rattle.c_answers.specs.declared.refusal.Refusal.TheVariants as refusal
use Rattle.c_answers.specs.Answers.{Allows, IsFirst}
use Rattle.c_declarator_rows.specs.Naming.{is_enumerator, is_function, kind_faults, main_faults}

-- a name stands at its node, with its text
pub named_node : (table : List SynNode) (n : ℕ) (names : List (Option DeclaredName)) (e : Name) → AreNames table names → n < length table → name_of (places_in table) n ≡ Some e → (e.node ≡ n) × (e.text ≡ text_at (nodes_in table) n)
named_node table n names e a within h = by (get_or names n None) (sym h ∙ a.are n within)
  where
    by : (o : Option DeclaredName) → Some e ≡ option_map (rule_name (nodes_in table) n) o → (e.node ≡ n) × (e.text ≡ text_at (nodes_in table) n)
    by None q = absurd (cc q)
    by (Some x) q = let same : e ≡ rule_name (nodes_in table) n x = cc q in (ap (λ (y : Name). y.node) same, ap (λ (y : Name). y.text) same)

module _ (table : List SynNode) (js : List Judgement) (e : Name) (t : CType) (i n : ℕ) (as_function : Bool) (at : e.node ≡ i) (twice : Bool)
    (told : declared_twice (places_in table) e t (type_before (places_in table) js e) e.node ≡ broken_if twice 3 e.node) where
  abbrev library : List Fault
  library = bad_library_name e.text as_function t n

  pub name_twice : twice ≡ true → IsFirst (refusal.Broken 3 i) (name_faults (places_in table) js e t n as_function)
  name_twice is = (library, ap (λ fs. fs ++ library) (told ∙ ap (λ b. broken_if b 3 e.node) is) ∙ ap (λ k. rule 3 k ∷ library) at)

  pub name_once : (text : List ℕ) (bad : Bool) → twice ≡ false → text ≡ e.text → bad_library_name text as_function t n ≡ broken_if bad 23 n → name_faults (places_in table) js e t n as_function ≡ broken_if bad 23 n
  name_once text bad is same h = ap (λ fs. fs ++ library) (told ∙ ap (λ b. broken_if b 3 e.node) is) ∙ ap (λ x. bad_library_name x as_function t n) (sym same) ∙ h

-- ---- all that is asked of a declared name

module _ (table : List SynNode) (js : List Judgement) (e : Name) (t : CType) (n : ℕ) (defines : Bool) where
  -- of what it is, of the name, and of `main`
  abbrev pub all_faults : Entity → List Fault
  all_faults entity = kind_faults (layouts js) t n entity ++ name_faults (places_in table) js e t n (is_function entity && not defines) ++ main_faults e.text t n (is_function entity)

  pub declared_are : (entity : Entity) → is_enumerator entity ≡ false → declared_faults (places_in table) js e t n defines entity ≡ all_faults entity
  declared_are typedef_name other = sym (append-nil (name_faults (places_in table) js e t n false))
  declared_are function_name other = refl
  declared_are static_object other = sym (append-nil (object_size (layouts js) t n ++ name_faults (places_in table) js e t n false))
  declared_are automatic other = sym (append-nil (object_size (layouts js) t n ++ local_array_or_struct t n ++ name_faults (places_in table) js e t n false))
  declared_are (parameter i) other = sym (append-nil (parameter_size t n ++ name_faults (places_in table) js e t n false))
  declared_are enumerator other = absurd (false≢true (sym other))

  pub no_value_faults : (entity : Entity) → is_enumerator entity ≡ true → declared_faults (places_in table) js e t n defines entity ≡ []
  no_value_faults enumerator is = refl
  no_value_faults _ is = absurd (false≢true is)

first_more : (r : Refusal) (fs gs : List Fault) → IsFirst r fs → IsFirst r (fs ++ gs)
first_more refusal.OutOfMemory fs gs h = tt
first_more (refusal.Broken r n) fs gs (others, e) = (others ++ gs, ap (λ x. x ++ gs) e)
first_more (refusal.TooBig n size) fs gs (others, e) = (others ++ gs, ap (λ x. x ++ gs) e)

pub first_of_three : (r : Refusal) (fs gs hs : List Fault) → IsFirst r fs → IsFirst r (fs ++ gs ++ hs)
first_of_three r fs gs hs h = first_more r (fs ++ gs) hs (first_more r fs gs h)

pub second_of_three : (r : Refusal) (fs gs hs : List Fault) → fs ≡ [] → IsFirst r gs → IsFirst r (fs ++ gs ++ hs)
second_of_three r fs gs hs e h = subst (λ xs. IsFirst r (xs ++ gs ++ hs)) (sym e) (first_more r gs hs h)

pub third_of_three : (found : Result (Unit {0}) Refusal) (fs gs hs : List Fault) → fs ≡ [] → gs ≡ [] → Allows found hs → Allows found (fs ++ gs ++ hs)
third_of_three found fs gs hs e f h = subst (λ xs. Allows found (xs ++ gs ++ hs)) (sym e) (subst (λ xs. Allows found (xs ++ hs)) (sym f) h)

-- the name that the vector has at a node
pub named_there : (table : List SynNode) (n : ℕ) (names : List (Option DeclaredName)) (e : Name) → AreNames table names → n < length table → name_of (places_in table) n ≡ Some e
    → (x : DeclaredName) × (get_or names n None ≡ Some x) × (entity_of x.entity ≡ e.entity)
named_there table n names e a within h = by (get_or names n None) (sym h ∙ a.are n within)
  where
    by : (o : Option DeclaredName) → Some e ≡ option_map (rule_name (nodes_in table) n) o → (x : DeclaredName) × (o ≡ Some x) × (entity_of x.entity ≡ e.entity)
    by None q = absurd (cc q)
    by (Some x) q = let same : e ≡ rule_name (nodes_in table) n x = cc q in (x, refl, ap (λ (y : Name). y.entity) (sym same))
