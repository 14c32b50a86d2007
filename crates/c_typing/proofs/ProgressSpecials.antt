-- What the meaning of a node is made of beside its kids is there, where those before it have meanings.
use Rattle.std.proofs.Common.{◌≡◌, ℕ, zero, suc, ◌<◌, ◌≤◌, Bool, true, false, List, [], length, Some, refl, sym, ap, ◌∙◌, subst, arith, true≢false, inl, inr}
use Rattle.std.specs.Prelude.{slice_get, take, filter}
use Rattle.c_syntax.specs.declared.kind.SynKind.TheVariants as kind
use Rattle.c_typing.specs.Types.{CType, is_text_array}
use Rattle.c_typing.specs.Places.{Node, node_at, kind_at, parent_of, is_function}
use Rattle.c_typing.specs.Names.{Entity, typedef_name, function_name, static_object, automatic, parameter, enumerator, Name, Places, is_typedef, denoted, names_from}
use Rattle.c_typing.specs.Judgements.{fills_array, means, Judgement, judgement_at}
use Rattle.c_typing.specs.Expressions.{type_of_name}
use Rattle.c_typing.specs.Initializers.{fills, target}
use Rattle.c_typing.specs.Typing.{judgements_at, judged_by}
use Rattle.c_typing.specs.Shapes.{Category}
use Rattle.c_typing.proofs.ProgressBase.{judged_at, earlier_at}
use Rattle.c_typing.proofs.ProgressForms.{may_fill, Has}
use Rattle.c_typing.proofs.ProgressNames.{Known}
use Rattle.c_typing.proofs.ProgressAll.{Meant, found_at}
use Rattle.c_typing.proofs.ProgressPlaces.{AreLinked, within}
use Rattle.c_typing.proofs.ProgressDeclared.{is_enumerator_entity, AllNames, Stands, IsDeclaredName, of_denoted, begins_before, all_names_stand, typed_name, valued_name}
use Rattle.c_typing.proofs.ProgressInitial.{string_fills, filled_type, fills_in, of_parent}

no : {A : Type 0} → false ≡ true → A
no e = absurd (true≢false (sym e))

-- the names and functions are those of the nodes
pub record ArePlaced (p : Places) : Type 0 where
  pub names : p.names ≡ names_from p.nodes p.scopes [] p.nodes
  pub functions : p.functions ≡ filter (λ node. is_function node.label.kind) p.nodes

module _ (cat : ℕ → Category) (p : Places) (l : AreLinked cat p.nodes) (places : ArePlaced p) where
  all_stand : AllNames (Stands cat p.nodes) p.names
  all_stand = subst (λ es. AllNames (Stands cat p.nodes) es) (sym places.names) (all_names_stand cat p.nodes l p.scopes)

  -- ---- names

  pub named : (n : ℕ) (m : Node) → slice_get p.nodes n ≡ Some m → ((k : ℕ) → k < n → Meant cat p k) → (e : Name) → denoted p.names m.id m.label.text ≡ Some e → is_typedef e.entity ≡ true → Has (type_of_name (take n (judgements_at p)) e)
  named n m at before e d typedef =
      let f = of_denoted (Stands cat p.nodes) p.names m.id m.label.text e all_stand d in
      let id = (l.shapes.tiled n m at).numbered in
      let less = begins_before m.id m.label.text e f.1 in
      by f.0 (omega (arith, less, id))
    where
      by : Stands cat p.nodes e → e.behind < n → Has (type_of_name (take n (judgements_at p)) e)
      by (inl en) lt = no (ap is_typedef (sym en.entity) ∙ typedef)
      by (inr de) lt = typed_name cat p l n e before lt de

  pub known : (n : ℕ) (m : Node) → slice_get p.nodes n ≡ Some m → ((k : ℕ) → k < n → Meant cat p k) → (e : Name) → denoted p.names m.id m.label.text ≡ Some e → Known (take n (judgements_at p)) e e.entity
  known n m at before e d =
      let f = of_denoted (Stands cat p.nodes) p.names m.id m.label.text e all_stand d in
      let id = (l.shapes.tiled n m at).numbered in
      let less = begins_before m.id m.label.text e f.1 in
      by f.0 (omega (arith, less, id))
    where
      js : List Judgement
      js = take n (judgements_at p)

      entity : IsDeclaredName cat p.nodes e → e.behind < n → (k : Entity) → e.entity ≡ k → Known js e k
      entity de lt typedef_name same = tt
      entity de lt enumerator same = absurd (enumerates de.entity same)
        where
          enumerates : is_enumerator_entity e.entity ≡ false → e.entity ≡ enumerator → ⊥
          enumerates f g = true≢false (ap is_enumerator_entity (sym g) ∙ f)
      entity de lt function_name same = typed_name cat p l n e before lt de
      entity de lt static_object same = typed_name cat p l n e before lt de
      entity de lt automatic same = typed_name cat p l n e before lt de
      entity de lt (parameter i) same = typed_name cat p l n e before lt de

      by : Stands cat p.nodes e → e.behind < n → Known js e e.entity
      by (inl en) lt = subst (λ k. Known js e k) (sym en.entity) (valued_name cat p l n e before lt en)
      by (inr de) lt = entity de lt e.entity refl

  -- ---- strings

  outer_is : (n : ℕ) (m : Node) → slice_get p.nodes n ≡ Some m → parent_of p.nodes m.id ≡ node_at p.nodes m.parent
  outer_is n m e = ap (λ o. node_at p.nodes (node_at p.nodes o).parent) (l.shapes.tiled n m e).numbered ∙ ap (λ (q : Node). node_at p.nodes q.parent) (found_at p.nodes n m e)

  pub long : (n : ℕ) (m : Node) → slice_get p.nodes n ≡ Some m → (d : ℕ) × (length p.nodes ≡ suc d)
  long n m e = by (length p.nodes) refl (within p.nodes n m e)
    where
      by : (k : ℕ) → length p.nodes ≡ k → suc n ≤ length p.nodes → (d : ℕ) × (length p.nodes ≡ suc d)
      by zero same le = absurd (omega (arith, same, le))
      by (suc d) same le = (d, same)

  pub filled : (n : ℕ) (m : Node) → slice_get p.nodes n ≡ Some m → fills (target p (take n (judgements_at p)) m.id) ≡ true → may_fill fills_array (kind_at p.nodes m.parent) ≡ true
  filled n m e f =
      let js = take n (judgements_at p) in
      let d = long n m e in
      let outer = outer_is n m e in
      let kind = ap (λ (q : Node). q.label.kind) outer in
      ap (λ k. may_fill fills_array k) (sym kind)
      ∙ fills_in p js (parent_of p.nodes m.id) m.id _ (parent_of p.nodes m.id).label.kind (ap fills (sym (of_parent p js d.0 m.id d.1)) ∙ f)

  -- a string that fills, below this node, has this target
  pub string_target : (n j : ℕ) → j < n → (k : Node) → slice_get p.nodes j ≡ Some k → k.label.kind ≡ kind.Str → judgement_at (take n (judgements_at p)) j ≡ means fills_array
      → (t : CType) × (target p (take j (judgements_at p)) j ≡ Some t) × (is_text_array t ≡ true)
  string_target n j less k at string fill =
      let all = judgements_at p in
      let js = take j all in
      let own = sym (judged_at p p.nodes j k at) ∙ (sym (earlier_at all n j less) ∙ fill) in
      let fills = string_fills p js j k (ap (λ s. judged_by p js k s) (sym string) ∙ own) in
      filled_type p js j (ap (λ i. fills_at js i) (sym (l.shapes.tiled j k at).numbered) ∙ fills)
    where
      fills_at : List Judgement → ℕ → Bool
      fills_at js i = fills (target p js i)
