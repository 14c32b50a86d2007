-- The type of each object has a size.
use Rattle.std.proofs.Common.{◌≡◌, ℕ, zero, suc, ◌<◌, Bool, true, false, not, ◌&&◌, ◌||◌, List, [], ◌∷◌, ◌++◌, length, Option, Some, None, refl, sym, ap, ap₂, ◌∙◌, arith, true≢false, ◌⊎◌, inl, inr}
use Rattle.std.specs.Prelude.{slice_get, take, if◌then◌else◌, option_map, ◌==◌}
use Rattle.std.specs.Option.{is_some}
use Rattle.c_lexer.specs.declared.token.Token.{Token}
use Rattle.c_syntax.specs.declared.kind.SynKind.TheVariants as kind
use Rattle.c_syntax.specs.Trees.{Tree}
use Rattle.c_grammar.specs.Derivation.{IsTreeOf}
use Rattle.c_types.specs.declared.kind.Measure.{Measure}
use Rattle.c_types.specs.Sizes.{array_measure}
use Rattle.c_typing.specs.Types.{CType, void, integer, pointer, array, unsized, struct, function, Layout, layout_of, measure, is_unsized, has_size, element_of}
use Rattle.c_typing.specs.Places.{Node, nodes, node_at, parent_of, specs_of, has_kid}
use Rattle.c_typing.specs.Names.{static_object, Name, places, is_typedef, is_static, earlier, is_defined_object, objects_of, name_of}
use Rattle.c_typing.specs.Judgements.{Judgement, type_at, type_of, layouts}
use Rattle.c_typing.specs.Rules.{incomplete_type, broken_if}
use Rattle.c_typing.specs.Declarators.{adjusted, build, object_size, name_faults, declared_faults, whole_by}
use Rattle.c_typing.specs.Initializers.{is_object}
use Rattle.c_typing.specs.Typing.{judgements_at, faults}
use Rattle.c_typing.specs.ShapesOfNodes.{category_at}
use Rattle.c_typing.specs.Meant.{IsSized}
use Rattle.c_typing.proofs.ProgressForms.{is_part}
use Rattle.c_typing.proofs.ProgressAll.{fronts_empty, found_at, by_number}
use Rattle.c_typing.proofs.ProgressPlaces.{AreLinked, are_linked}
use Rattle.c_typing.proofs.ProgressOwners.{specs_before}
use Rattle.c_typing.proofs.ProgressTargets.{layouts_front, found_front}
use Rattle.c_typing.proofs.ProgressDeclared.{Stands, IsDeclaredName}
use Rattle.c_typing.proofs.ProgressNumbers.{InList, from_filter}
use Rattle.c_typing.proofs.ProgressObjects.{stand, named, static_is}
use Rattle.c_typing.proofs.ProgressBuilt.{has_unsized, Made, is_given, unsized_from}
use Rattle.c_typing.proofs.ProgressCompleted.{Completes, completed_other, completed_size}
use Rattle.c_typing.proofs.ProgressTyped.{Declared, declared}
use Rattle.c_typing.proofs.ProgressSizes.{Lengthy, specs_lengthy, declares_same, no_object, or_second}

no : {A : Type 0} → false ≡ true → A
no e = absurd (true≢false (sym e))

-- ---- sizes stay

some_of : {A : Type 0} (o : Option A) → is_some o ≡ true → (a : A) × (o ≡ Some a)
some_of {A = A} (Some a) e = (a, refl)
some_of {A = A} None e = no e

measured_more : (ls more : List Layout) (t : CType) → is_some (measure ls t) ≡ true → is_some (measure (ls ++ more) t) ≡ true
measured_more ls more (array t n) e = mapped (measure ls t) (measure (ls ++ more) t) e (measured_more ls more t)
  where
    mapped : (o q : Option Measure) → is_some (option_map (array_measure n) o) ≡ true → (is_some o ≡ true → is_some q ≡ true) → is_some (option_map (array_measure n) q) ≡ true
    mapped None q e h = no e
    mapped (Some m) q e h = by q (h refl)
      where
        by : (x : Option Measure) → is_some x ≡ true → is_some (option_map (array_measure n) x) ≡ true
        by (Some y) f = refl
        by None f = no f
measured_more ls more (struct k) e = found (layout_of ls k) (layout_of (ls ++ more) k) e (λ l f. found_front (λ l. l.number == k) ls more l f)
  where
    found : (o q : Option Layout) → is_some (option_map (λ (l : Layout). l.measure) o) ≡ true → ((l : Layout) → o ≡ Some l → q ≡ Some l) → is_some (option_map (λ (l : Layout). l.measure) q) ≡ true
    found None q e h = no e
    found (Some l) q e h = ap (λ x. is_some (option_map (λ (l : Layout). l.measure) x)) (h l refl)
measured_more ls more void e = no e
measured_more ls more (integer k) e = refl
measured_more ls more (pointer t) e = refl
measured_more ls more (unsized t) e = no e
measured_more ls more (function r ps) e = no e

take_rest : (js : List Judgement) (n : ℕ) → (rest : List Judgement) × (js ≡ take n js ++ rest)
take_rest js zero = (js, by js)
  where
    by : (ks : List Judgement) → ks ≡ take 0 ks ++ ks
    by [] = refl
    by (k ∷ ks) = refl
take_rest [] (suc n) = ([], refl)
take_rest (j ∷ js) (suc n) = let r = take_rest js n in (r.0, ap (λ ks. j ∷ ks) r.1)

pub sized_later : (js : List Judgement) (n : ℕ) (t : CType) → has_size (layouts (take n js)) t ≡ true → has_size (layouts js) t ≡ true
sized_later js n t h =
    let r = take_rest js n in
    ap (λ ks. has_size (layouts ks) t) r.1 ∙ (ap (λ ls. has_size ls t) (layouts_front (take n js) r.0) ∙ measured_more (layouts (take n js)) (layouts r.0) t h)

has_or : (b : Bool) (n : ℕ) → broken_if (not b) 5 n ≡ [] → b ≡ true
has_or true n e = refl
has_or false n e = absurd (cc e)

-- ---- objects

module _ (tokens : List Token) (t : Tree) (derived : IsTreeOf tokens t) (quiet : faults t ≡ []) where
  l : AreLinked (category_at t) (nodes t)
  l = are_linked tokens t derived

  -- what an array without a length is made of
  record Unmeasured (e : Name) (d : Declared tokens t derived quiet e) : Type 0 where
    initialized : has_kid d.owner 1 ≡ true
    element : has_size (layouts (take e.behind (judgements_at (places t)))) (element_of d.type) ≡ true

  unmeasured : (e : Name) (de : IsDeclaredName (category_at t) (nodes t) e) → (node_at (nodes t) e.owner).label.kind ≡ kind.InitDecl → (d : Declared tokens t derived quiet e) → ((k : ℕ) → k < e.behind → Lengthy tokens t derived quiet is_unsized refl (λ k. refl) (λ k. refl) k)
      → is_unsized d.type ≡ true → Unmeasured e d
  unmeasured e de init d f h =
      by (unsized_from (layouts js) made.base made.steps made.fine (ap is_unsized (sym is) ∙ h)).from
    where
      js : List Judgement
      js = take e.behind (judgements_at (places t))

      made : Made (places t) (take e.behind (judgements_at (places t))) (node_at (nodes t) e.behind) d.type
      made = d.made

      node : node_at (nodes t) e.behind ≡ de.whole.node
      node = found_at (nodes t) e.behind de.whole.node de.whole.at

      number : de.whole.node.id ≡ e.behind
      number = (l.shapes.tiled e.behind de.whole.node de.whole.at).numbered

      owner : (parent_of (nodes t) (node_at (nodes t) e.behind).id).label.kind ≡ kind.InitDecl
      owner =
          ap (λ (x : Node). (parent_of (nodes t) x.id).label.kind) node
          ∙ (ap (λ i. (parent_of (nodes t) i).label.kind) number
          ∙ (ap (λ (x : Node). (node_at (nodes t) x.parent).label.kind) node ∙ (ap (λ i. (node_at (nodes t) i).label.kind) (sym de.owner) ∙ init)))

      is : d.type ≡ (build (layouts js) made.base made.steps).type
      is = made.is ∙ ap (λ k. adjusted k (build (layouts js) made.base made.steps).type) owner

      by : ((has_unsized made.steps ≡ true) × (has_size (layouts js) (element_of (build (layouts js) made.base made.steps).type) ≡ true)) ⊎ (is_unsized made.base ≡ true) → Unmeasured e d
      by (inl r) =
          let given = made.given_length r.0 in
          let first : (node_at (nodes t) e.behind).first ≡ e.node = ap (λ (x : Node). x.first) node ∙ de.first in
          record {
            initialized = sym d.given ∙ (ap (λ i. is_given (places t) i) (sym first) ∙ given);
            element = ap (λ x. has_size (layouts js) (element_of x)) is ∙ r.1;
          }
      by (inr base) =
          let s = specs_before (category_at t) (nodes t) l e.behind de.whole.node de.whole.at (ap is_part de.whole.is) de.whole.whole in
          let typed = ap (λ (x : Node). type_at js (specs_of (nodes t) (parent_of (nodes t) x.id)).id) (sym node) ∙ made.typed in
          let plain = specs_lengthy tokens t derived quiet is_unsized refl (λ k. refl) (λ k. refl) e.behind f (specs_of (nodes t) (parent_of (nodes t) de.whole.node.id)).id s made.base typed in
          absurd (true≢false (sym base ∙ plain))

  pub all_lengthy : (n : ℕ) → Lengthy tokens t derived quiet is_unsized refl (λ k. refl) (λ k. refl) n
  all_lengthy n = by_number (Lengthy tokens t derived quiet is_unsized refl (λ k. refl) (λ k. refl)) step n
    where
      step : (n : ℕ) → ((k : ℕ) → k < n → Lengthy tokens t derived quiet is_unsized refl (λ k. refl) (λ k. refl) k) → Lengthy tokens t derived quiet is_unsized refl (λ k. refl) (λ k. refl) n
      step n f e same m de typedef u is =
          let init = de.init_owner (or_second (is_static e.entity) (is_typedef e.entity) typedef) in
          let d = declared tokens t derived quiet e m de init in
          let equal : d.type ≡ u = declares_same (sym d.declares ∙ is) in
          ap is_unsized (sym equal) ∙ by init d (is_unsized d.type) refl
        where
          by : (node_at (nodes t) e.owner).label.kind ≡ kind.InitDecl → (d : Declared tokens t derived quiet e) → (b : Bool) → is_unsized d.type ≡ b → is_unsized d.type ≡ false
          by init d false h = h
          by init d true h = absurd (how d.how)
            where
              un : Unmeasured e d
              un = unmeasured e de init d (λ k lt. f k (omega (arith, lt, same))) h

              how : ((has_kid d.owner 1 ≡ false) × (d.whole ≡ d.type)) ⊎ ((is_object e.entity ≡ true) × Completes (places t) (take e.owner (judgements_at (places t))) e d.type d.whole) → ⊥
              how (inl x) = true≢false (sym un.initialized ∙ x.0)
              how (inr x) = no_object e.entity typedef x.0

  -- what the declarator of a static object is asked: its type has its length from the initializer, or has a size
  declared_size : (e : Name) → InList (places t).names e → (de : IsDeclaredName (category_at t) (nodes t) e) → (node_at (nodes t) e.owner).label.kind ≡ kind.InitDecl → is_static e.entity ≡ true → (d : Declared tokens t derived quiet e)
      → is_unsized d.type ≡ false → has_size (layouts (take e.behind (judgements_at (places t)))) d.type ≡ true
  declared_size e m de init static d un =
      let p = places t in
      let js = take e.behind (judgements_at p) in
      let made = d.made in
      let node = found_at (nodes t) e.behind de.whole.node de.whole.at in
      let number = (l.shapes.tiled e.behind de.whole.node de.whole.at).numbered in
      let owner : (parent_of (nodes t) (node_at (nodes t) e.behind).id).label.kind ≡ kind.InitDecl =
      ap (λ (x : Node). (parent_of (nodes t) x.id).label.kind) node
      ∙ (ap (λ i. (parent_of (nodes t) i).label.kind) number
      ∙ (ap (λ (x : Node). (node_at (nodes t) x.parent).label.kind) node ∙ (ap (λ i. (node_at (nodes t) i).label.kind) (sym de.owner) ∙ init))) in
      let name : name_of p (node_at (nodes t) e.behind).first ≡ Some e = ap (λ (x : Node). name_of p x.first) node ∙ (ap (λ i. name_of p i) de.first ∙ named tokens t derived quiet e m) in
      let at = (node_at (nodes t) e.behind).id in
      let keeps : declared_faults p js e d.type at false static_object ≡ [] =
      ap (λ k. declared_faults p js e d.type at false k) (sym (static_is e.entity static))
      ∙ (ap₂ (λ o k. whole_by p js (node_at (nodes t) e.behind) d.type o k) (sym name) (sym owner) ∙ made.keeps) in
      let size = (fronts_empty (object_size (layouts js) d.type at) (name_faults p js e d.type at false) keeps).0 in
      has_or (has_size (layouts js) d.type) at (sym (ap (λ b. if b then [] else incomplete_type (layouts js) d.type at) un) ∙ size)

  -- a static object has a type with a size
  pub sized : (e : Name) → InList (places t).names e → is_static e.entity ≡ true → IsSized t e
  sized e m static = by (stand tokens t derived quiet e m)
    where
      js : List Judgement
      js = judgements_at (places t)

      first : (a b : Bool) → a ≡ true → (a || b) ≡ true
      first true b h = refl
      first false b h = no h

      by : Stands (category_at t) (nodes t) e → IsSized t e
      by (inl en) = no (ap is_static (sym en.entity) ∙ static)
      by (inr de) = from (declared tokens t derived quiet e m de init)
        where
          init : (node_at (nodes t) e.owner).label.kind ≡ kind.InitDecl
          init = de.init_owner (first (is_static e.entity) (is_typedef e.entity) static)

          from : Declared tokens t derived quiet e → IsSized t e
          from d = record {
            type = d.whole;
            typed = ap (λ o. if is_some o then o else type_at js e.behind) typed;
            has = sized_later js e.behind d.whole (size (is_unsized d.type) refl d.how);
          }
            where
              typed : type_at js e.owner ≡ Some d.whole
              typed = ap type_of d.means_whole

              size : (b : Bool) → is_unsized d.type ≡ b → ((has_kid d.owner 1 ≡ false) × (d.whole ≡ d.type)) ⊎ ((is_object e.entity ≡ true) × Completes (places t) (take e.owner js) e d.type d.whole)
                  → has_size (layouts (take e.behind js)) d.whole ≡ true
              size false h (inl x) = ap (λ u. has_size (layouts (take e.behind js)) u) x.1 ∙ declared_size e m de init static d h
              size false h (inr x) = ap (λ u. has_size (layouts (take e.behind js)) u) (x.1.is ∙ completed_other d.type x.1.count h) ∙ declared_size e m de init static d h
              size true h o = cases (unmeasured e de init d (λ k lt. all_lengthy k) h) o
                where
                  cases : Unmeasured e d → ((has_kid d.owner 1 ≡ false) × (d.whole ≡ d.type)) ⊎ ((is_object e.entity ≡ true) × Completes (places t) (take e.owner js) e d.type d.whole)
                      → has_size (layouts (take e.behind js)) d.whole ≡ true
                  cases un (inl x) = absurd (true≢false (sym un.initialized ∙ x.0))
                  cases un (inr x) = completed_size (places t) (take e.owner js) e d.type d.whole (layouts (take e.behind js)) h un.element x.1

  pub object_sized : (k : ℕ) (e : Name) → slice_get (objects_of (places t)) k ≡ Some e → IsSized t e
  object_sized k e at =
      let r = from_filter (λ e. is_static e.entity && length (earlier (places t) e) == 0 && is_defined_object (places t) e) (places t).names e (record { index = k; at = at }) in
      sized e r.0 (static_first (is_static e.entity) (length (earlier (places t) e) == 0) (is_defined_object (places t) e) r.1)
    where
      static_first : (a b c : Bool) → (a && b && c) ≡ true → a ≡ true
      static_first true b c h = refl
      static_first false b c h = no h
