-- What an initializer is for has a size, or is an array that is to get its length.
use Rattle.std.proofs.Common.{◌≡◌, ◌⊎◌, inl, inr, ℕ, zero, suc, ◌<◌, Bool, true, false, not, List, [], ◌∷◌, ◌++◌, length, map, Option, Some, None, refl, sym, ap, ◌∙◌, subst, arith, true≢false, unwrap_or}
use Rattle.std.specs.Prelude.{slice_get, get_or, take, if◌then◌else◌, option_and_then, ◌==◌}
use Rattle.c_lexer.specs.declared.token.Token.{Token}
use Rattle.c_syntax.specs.declared.kind.SynKind.{SynKind}
use Rattle.c_syntax.specs.declared.kind.SynKind.TheVariants as kind
use Rattle.c_syntax.specs.Trees.{Tree}
use Rattle.c_grammar.specs.Derivation.{IsTreeOf}
use Rattle.c_typing.specs.Types.{CType, Layout, has_size, is_unsized, element_of}
use Rattle.c_typing.specs.Places.{Node, nodes, node_at, parent_of, kid, index_in, nowhere, is_declarator, specs_of}
use Rattle.c_typing.specs.Names.{Name, Entity, static_object, automatic, Places, places, name_of}
use Rattle.c_typing.specs.Judgements.{Judgement, judgement_at, type_at, type_of, layouts}
use Rattle.c_typing.specs.Rules.{broken_if, incomplete_type, local_array_or_struct}
use Rattle.c_typing.specs.Declarators.{whole_by, declared_faults, name_faults, object_size, build, adjusted}
use Rattle.c_typing.specs.Initializers.{is_text_alone, part_type, part_of, is_object, declared_object, target, target_by, target_within}
use Rattle.c_typing.specs.Shapes as category
use Rattle.c_typing.specs.Shapes.{Category, no_category, kids_fit}
use Rattle.c_typing.specs.ShapesOfNodes.{category_at}
use Rattle.c_typing.specs.Typing.{judgements_at, faults}
use Rattle.c_typing.proofs.MadeTexts.{front_none}
use Rattle.c_typing.proofs.MadeDeclarators.{Whole, typed_at}
use Rattle.c_typing.proofs.MadeFunctionNames.{Anything, no_chains}
use Rattle.c_typing.proofs.ProgressForms.{is_part}
use Rattle.c_typing.proofs.ProgressAll.{found_at}
use Rattle.c_typing.proofs.ProgressKids.{Kid, kid_of}
use Rattle.c_typing.proofs.ProgressKinds as of
use Rattle.c_typing.proofs.ProgressPlaces.{AreLinked, are_linked}
use Rattle.c_typing.proofs.ProgressInside.{kind_declares}
use Rattle.c_typing.proofs.ProgressOwners.{specs_before}
use Rattle.c_typing.proofs.ProgressBuilt.{has_unsized, unsized_from}
use Rattle.c_typing.proofs.ProgressSizes.{specs_lengthy}
use Rattle.c_typing.proofs.ProgressSized.{all_lengthy}
use Rattle.c_typing.proofs.MadeCellsTypes.{MayHold, part_sized}
use Rattle.c_typing.proofs.MadeCellsLater.{hold_later}
use Rattle.c_typing.proofs.MadeCellsMembers.{front_is, structs_laid}

no : {A : Type 0} → false ≡ true → A
no e = absurd (true≢false (sym e))

has_or : (b : Bool) (n : ℕ) → broken_if (not b) 5 n ≡ [] → b ≡ true
has_or true n e = refl
has_or false n e = absurd (cc e)

abbrev is_parent : SynKind → Bool
is_parent kind.InitDecl = true
is_parent kind.Braces = true
is_parent k = false

real : (ns : List Node) (i : ℕ) → is_parent (node_at ns i).label.kind ≡ true → slice_get ns i ≡ Some (node_at ns i)
real ns i e = by (slice_get ns i) e
  where
    by : (o : Option Node) → is_parent (unwrap_or o nowhere).label.kind ≡ true → o ≡ Some (unwrap_or o nowhere)
    by None f = no f
    by (Some m) f = refl

first_there : (cat : ℕ → Category) (ks : List ℕ) → get_or (map cat ks) 0 no_category ≡ category.declarator → (slice_get ks 0 ≡ Some (unwrap_or (slice_get ks 0) 0)) × (cat (unwrap_or (slice_get ks 0) 0) ≡ category.declarator)
first_there cat [] e = absurd (clash e)
  where
    clash : no_category ≡ category.declarator → ⊥
    clash f = true≢false (sym (ap of.is_declarator_only f))
first_there cat (k ∷ ks) e = (refl, e)

pub type_meant : (js : List Judgement) (b k : ℕ) (u : CType) → type_at (take b js) k ≡ Some u → (k < b) × (type_of (judgement_at js k) ≡ Some u)
type_meant [] zero k u e = absurd (cc e)
type_meant (j ∷ js) zero k u e = absurd (cc e)
type_meant [] (suc b) k u e = absurd (cc e)
type_meant (j ∷ js) (suc b) zero u e = (omega arith, e)
type_meant (j ∷ js) (suc b) (suc k) u e = let h = type_meant js b k u e in let lt = h.0 in (omega (arith, lt), h.1)

-- what an object is asked
size_asked : (p : Places) (js : List Judgement) (e : Name) (u : CType) (n : ℕ) (y : Entity) → is_object y ≡ true → declared_faults p js e u n false y ≡ [] → object_size (layouts js) u n ≡ []
size_asked p js e u n static_object h f = front_none (object_size (layouts js) u n) (name_faults p js e u n false) f
size_asked p js e u n automatic h f = front_none (object_size (layouts js) u n) (local_array_or_struct u n) (front_none (object_size (layouts js) u n ++ local_array_or_struct u n) (name_faults p js e u n false) f)
size_asked p js e u n _ h f = no h

size_or : (ls : List Layout) (u : CType) (n : ℕ) → object_size ls u n ≡ [] → (is_unsized u ≡ true) ⊎ (has_size ls u ≡ true)
size_or ls u n e = by (is_unsized u) refl e
  where
    by : (b : Bool) → is_unsized u ≡ b → (if b then [] else incomplete_type ls u n) ≡ [] → (is_unsized u ≡ true) ⊎ (has_size ls u ≡ true)
    by true g f = inl g
    by false g f = inr (has_or (has_size ls u) n f)

object_by : (o : Option Name) (e : Name) → (elim o as (λ x. Option Name) [ None ↦ None | Some a ↦ if is_object a.entity then Some a else None ]) ≡ Some e → (o ≡ Some e) × (is_object e.entity ≡ true)
object_by None e f = absurd (cc f)
object_by (Some a) e f = by (is_object a.entity) refl f
  where
    by : (b : Bool) → is_object a.entity ≡ b → (if b then Some a else None) ≡ Some e → (Some a ≡ Some e) × (is_object e.entity ≡ true)
    by true g h = (h, let same : a ≡ e = cc h in ap (λ (x : Name). is_object x.entity) (sym same) ∙ g)
    by false g h = absurd (cc h)

module _ (tokens : List Token) (t : Tree) (derived : IsTreeOf tokens t) (quiet : faults t ≡ []) where
  l : AreLinked (category_at t) (nodes t)
  l = are_linked tokens t derived

  -- the type that the declarator of an object declares
  pub declared_hold : (o : ℕ) (outer : Node) (e : Name) (u : CType) → slice_get (nodes t) o ≡ Some outer → outer.label.kind ≡ kind.InitDecl → declared_object (places t) outer ≡ Some e → type_of (judgement_at (judgements_at (places t)) (kid outer 0)) ≡ Some u
      → MayHold (layouts (take (kid outer 0) (judgements_at (places t)))) u
  declared_hold o outer e u at is object typed = by (size_or (layouts w.js) u q.node.id size)
    where
      k : ℕ
      k = kid outer 0

      first : (slice_get outer.kids 0 ≡ Some (kid outer 0)) × (category_at t (kid outer 0) ≡ category.declarator)
      first = first_there (category_at t) outer.kids (of.of_initializer outer.label.text (map (category_at t) outer.kids) (ap (λ x. kids_fit x outer.label.text (map (category_at t) outer.kids)) (sym is) ∙ (l.shapes.shaped o outer at).kids)).0

      q : Kid (nodes t) o (kid outer 0)
      q = kid_of (nodes t) outer.first o outer.kids 0 (kid outer 0) (l.shapes.tiled o outer at).kids first.0

      declares : is_declarator q.node.label.kind ≡ true
      declares = kind_declares q.node.label.kind q.node.label.text (map (category_at t) q.node.kids) (ap of.is_declarator_only (sym (l.shapes.shaped (kid outer 0) q.node q.at).category ∙ first.1))

      w : Whole t (Anything tokens t derived) (kid outer 0) q.node u
      w = typed_at tokens t derived (Anything tokens t derived) (no_chains tokens t derived) (kid outer 0) u q.node q.at declares typed

      above : (node_at (nodes t) q.node.parent).label.kind ≡ kind.InitDecl
      above = ap (λ i. (node_at (nodes t) i).label.kind) q.below ∙ (ap (λ (x : Node). x.label.kind) (found_at (nodes t) o outer at) ∙ is)

      owner : (parent_of (nodes t) q.node.id).label.kind ≡ kind.InitDecl
      owner = ap (λ i. (parent_of (nodes t) i).label.kind) (l.shapes.tiled (kid outer 0) q.node q.at).numbered ∙ (ap (λ (x : Node). (node_at (nodes t) x.parent).label.kind) (found_at (nodes t) (kid outer 0) q.node q.at) ∙ above)

      named : (name_of (places t) (node_at (nodes t) (kid outer 0)).first ≡ Some e) × (is_object e.entity ≡ true)
      named = object_by (name_of (places t) (node_at (nodes t) (kid outer 0)).first) e object

      kept : whole_by (places t) w.js q.node u (Some e) kind.InitDecl ≡ []
      kept = subst (λ x. whole_by (places t) w.js q.node u (Some e) x ≡ []) owner
          (subst (λ x. whole_by (places t) w.js q.node u x (parent_of (nodes t) q.node.id).label.kind ≡ []) (ap (λ (x : Node). name_of (places t) x.first) (sym (found_at (nodes t) (kid outer 0) q.node q.at)) ∙ named.0) w.kept)

      size : object_size (layouts w.js) u q.node.id ≡ []
      size = size_asked (places t) w.js e u q.node.id e.entity named.1 kept

      early : take (kid outer 0) (judgements_at (places t)) ≡ w.js
      early = front_is (places t) w.js (kid outer 0) w.front w.long

      is_built : u ≡ (build (layouts w.js) w.base w.steps).type
      is_built = w.is ∙ ap (λ x. adjusted x (build (layouts w.js) w.base w.steps).type) owner

      by : (is_unsized u ≡ true) ⊎ (has_size (layouts w.js) u ≡ true) → MayHold (layouts (take (kid outer 0) (judgements_at (places t)))) u
      by (inr h) = inl (ap (λ js. has_size (layouts js) u) early ∙ h)
      by (inl h) = of_steps (unsized_from (layouts w.js) w.base w.steps w.clean (ap is_unsized (sym is_built) ∙ h)).from
        where
          of_steps : ((has_unsized w.steps ≡ true) × (has_size (layouts w.js) (element_of (build (layouts w.js) w.base w.steps).type) ≡ true)) ⊎ (is_unsized w.base ≡ true) → MayHold (layouts (take (kid outer 0) (judgements_at (places t)))) u
          of_steps (inl r) = inr (h, ap (λ js. has_size (layouts js) (element_of u)) early ∙ (ap (λ x. has_size (layouts w.js) (element_of x)) is_built ∙ r.1))
          of_steps (inr bare) =
              let s = specs_before (category_at t) (nodes t) l (kid outer 0) q.node q.at (ap is_part first.1) (ap (λ x. not (is_declarator x)) above) in
              let typed = ap (λ js. type_at js (specs_of (nodes t) (parent_of (nodes t) q.node.id)).id) early ∙ w.based in
              let plain = specs_lengthy tokens t derived quiet is_unsized refl (λ i. refl) (λ i. refl) (kid outer 0) (λ i lt. all_lengthy tokens t derived quiet i) (specs_of (nodes t) (parent_of (nodes t) q.node.id)).id s w.base typed in
              absurd (true≢false (sym bare ∙ plain))

  -- ---- targets

  part_hold : (b i : ℕ) (braces : Node) (above : Option CType) (u : CType) → ((v : CType) → above ≡ Some v → MayHold (layouts (take b (judgements_at (places t)))) v)
      → option_and_then (part_of (places t) (layouts (take b (judgements_at (places t)))) braces i) above ≡ Some u → MayHold (layouts (take b (judgements_at (places t)))) u
  part_hold b i braces None u h e = absurd (cc e)
  part_hold b i braces (Some v) u h e = by (is_text_alone (places t) v braces) e
    where
      by : (c : Bool) → (if c then Some v else part_type (layouts (take b (judgements_at (places t)))) v i) ≡ Some u → MayHold (layouts (take b (judgements_at (places t)))) u
      by true g = let same : v ≡ u = cc g in subst (λ x. MayHold (layouts (take b (judgements_at (places t)))) x) same (h v refl)
      by false g = inl (part_sized (layouts (take b (judgements_at (places t)))) v i u (structs_laid tokens t derived b) (h v refl) g)

  object_hold : (b o : ℕ) (outer : Node) (c : Bool) (x : Option Name) (u : CType) → slice_get (nodes t) o ≡ Some outer → outer.label.kind ≡ kind.InitDecl → declared_object (places t) outer ≡ x
      → (if c then None else option_and_then (λ (e : Name). type_at (take b (judgements_at (places t))) (kid outer 0)) x) ≡ Some u → MayHold (layouts (take b (judgements_at (places t)))) u
  object_hold b o outer true x u at is same e = absurd (cc e)
  object_hold b o outer false None u at is same e = absurd (cc e)
  object_hold b o outer false (Some n) u at is same e =
      let h = type_meant (judgements_at (places t)) b (kid outer 0) u e in
      let lt = h.0 in
      hold_later (judgements_at (places t)) (kid outer 0) b u (omega (arith, lt)) (declared_hold o outer n u at is same h.1)

  by_kind : (b o n : ℕ) (outer : Node) (above : Option CType) (u : CType) (k : SynKind) → outer.label.kind ≡ k → (is_parent outer.label.kind ≡ true → slice_get (nodes t) o ≡ Some outer) → ((v : CType) → above ≡ Some v → MayHold (layouts (take b (judgements_at (places t)))) v)
      → target_by (places t) (take b (judgements_at (places t))) outer n above k ≡ Some u → MayHold (layouts (take b (judgements_at (places t)))) u
  by_kind b o n outer above u kind.InitDecl is at h e = object_hold b o outer (kid outer 0 == n) (declared_object (places t) outer) u (at (ap is_parent is)) is refl e
  by_kind b o n outer above u kind.Braces is at h e = part_hold b (index_in outer.kids n) outer above u h e
  by_kind b o n outer above u _ is at h e = absurd (cc e)

  within_hold : (b d n : ℕ) (u : CType) → target_within (places t) (take b (judgements_at (places t))) d n ≡ Some u → MayHold (layouts (take b (judgements_at (places t)))) u
  within_hold b zero n u e = absurd (cc e)
  within_hold b (suc d) n u e =
      by_kind b (node_at (nodes t) n).parent n (parent_of (nodes t) n) (target_within (places t) (take b (judgements_at (places t))) d (parent_of (nodes t) n).id) u (parent_of (nodes t) n).label.kind refl
      (λ p. real (nodes t) (node_at (nodes t) n).parent p) (λ v g. within_hold b d (parent_of (nodes t) n).id v g) e

  pub target_hold : (n : ℕ) (u : CType) → target (places t) (take n (judgements_at (places t))) n ≡ Some u → MayHold (layouts (take n (judgements_at (places t)))) u
  target_hold n u e = within_hold n (length (nodes t)) n u e
