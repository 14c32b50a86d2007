-- What specs and enumerators before a node mean.
use Rattle.std.proofs.Common.{◌≡◌, ℕ, suc, ◌<◌, true, false, not, List, length, map, Option, Some, None, refl, sym, ap, ap₂, ◌∙◌, arith, true≢false, ◌⊎◌, inl, inr}
use Rattle.std.specs.Prelude.{slice_get, get_or, unwrap_or, take, position, ◌==◌}
use Rattle.std.proofs.lemmas.List.Quantifiers.{position-Some}
use Rattle.std.proofs.lemmas.Bool.Decides.{Decides-eqb}
use Rattle.std.proofs.lemmas.Option.{slice_get-get_or}
use Rattle.c_syntax.specs.declared.kind.SynKind.TheVariants as kind
use Rattle.c_typing.specs.Places.{Node, kind_at, parent_of, index_in, specs_of, is_declarator as is_declarator_kind}
use Rattle.c_typing.specs.Names.{Places}
use Rattle.c_typing.specs.Judgements.{judgement_at, type_of, type_at}
use Rattle.c_typing.specs.Expressions.{word_of_enumerator}
use Rattle.c_typing.specs.Typing.{judgements_at}
use Rattle.c_typing.specs.Shapes as category
use Rattle.c_typing.specs.Shapes.{Category, no_category, category_by, kids_fit, stands_in, is_enumerator}
use Rattle.c_typing.proofs.ProgressBase.{earlier_at}
use Rattle.c_typing.proofs.ProgressForms.{fits, is_part, Has, has_type, has_its_type, has_word}
use Rattle.c_typing.proofs.ProgressKinds as of
use Rattle.c_typing.proofs.ProgressStep.{at_all}
use Rattle.c_typing.proofs.ProgressAll.{Meant}
use Rattle.c_typing.proofs.ProgressPlaces.{Linked, AreLinked, kids_apart, first_low, stands}
use Rattle.c_typing.proofs.ProgressOwners.{is_specs, only_specs, Before, specs_before, parent_is, in_enum}
use Rattle.c_typing.proofs.ProgressKids.{kid_of}

no : {A : Type 0} → false ≡ true → A
no e = absurd (true≢false (sym e))

placed : (ids : List ℕ) (n i : ℕ) → index_in ids n ≡ suc i → (slice_get ids (suc i) ≡ Some n) × (i < length ids)
placed ids n i e = by (position (λ m. m == n) ids) refl e
  where
    by : (o : Option ℕ) → position (λ m. m == n) ids ≡ o → unwrap_or o 0 ≡ suc i → (slice_get ids (suc i) ≡ Some n) × (i < length ids)
    by None same h = absurd (omega (arith, h))
    by (Some k) same h =
        let found = position-Some (λ m. m == n) ids k 0 same in
        let within = found.0 in
        let there : slice_get ids k ≡ Some (get_or ids k 0) = slice_get-get_or ids k 0 within in
        let equal : get_or ids k 0 ≡ n = (Decides-eqb (get_or ids k 0) n).0 found.1 in
        (ap (λ j. slice_get ids j) (sym h) ∙ (there ∙ ap (λ j. Some j) equal), omega (arith, within, h))

module _ (cat : ℕ → Category) (p : Places) (l : AreLinked cat p.nodes) where
  -- specs before a node have a type
  pub typed_specs : (n j : ℕ) → ((k : ℕ) → k < n → Meant cat p k) → Before cat p.nodes n j is_specs → Has (type_at (take n (judgements_at p)) j)
  typed_specs n j before b =
      let meant = before j b.less b.node b.at in
      let outer = kind_at p.nodes b.node.parent in
      let t = has_its_type outer b.node.label.kind (cat j) (judgement_at (judgements_at p) j) (ap (λ c. has_type outer c) (only_specs (cat j) b.is)) meant in
      record { value = t.value; is = ap type_of (earlier_at (judgements_at p) n j b.less) ∙ t.is }

  pub specified : (n : ℕ) (m : Node) → slice_get p.nodes n ≡ Some m → ((k : ℕ) → k < n → Meant cat p k)
      → is_part (cat n) ≡ true → not (is_declarator_kind (kind_at p.nodes m.parent)) ≡ true → Has (type_at (take n (judgements_at p)) (specs_of p.nodes (parent_of p.nodes m.id)).id)
  specified n m e before part whole = typed_specs n _ before (specs_before cat p.nodes l n m e part whole)

  -- the enumerator before an enumerator has a value
  pub enumerated : (n : ℕ) (m : Node) → slice_get p.nodes n ≡ Some m → ((k : ℕ) → k < n → Meant cat p k)
      → m.label.kind ≡ kind.Enumer → (i : ℕ) → index_in (parent_of p.nodes m.id).kids m.id ≡ suc i
      → Has (word_of_enumerator (judgement_at (take n (judgements_at p)) (unwrap_or (slice_get (parent_of p.nodes m.id).kids i) 0)))
  unfolding category_by
  enumerated n m e before same i at = by (l.linked n m e)
    where
      own : cat n ≡ category.enumerator
      own = (l.shapes.shaped n m e).category ∙ ap (λ k. category_by k m.label.text (map cat m.kids)) same

      by : (suc n ≡ length p.nodes) ⊎ Linked p.nodes n m → Has (word_of_enumerator (judgement_at (take n (judgements_at p)) (unwrap_or (slice_get (parent_of p.nodes m.id).kids i) 0)))
      by (inl last) = no (ap is_enumerator (sym (l.root n m e last) ∙ own))
      by (inr q) =
          let tile = l.shapes.tiled m.parent q.parent q.at in
          let shape = l.shapes.shaped m.parent q.parent q.at in
          let kids : (parent_of p.nodes m.id).kids ≡ q.parent.kids = ap (λ (x : Node). x.kids) (parent_is cat p.nodes l n m e q) in
          let here = placed q.parent.kids n i (ap₂ index_in (sym kids) (sym (l.shapes.tiled n m e).numbered) ∙ at) in
          let j = get_or q.parent.kids i 0 in
          let there : slice_get q.parent.kids i ≡ Some j = slice_get-get_or q.parent.kids i 0 here.1 in
          let k = kid_of p.nodes q.parent.first m.parent q.parent.kids i j tile.kids there in
          let apart = kids_apart p.nodes q.parent.first m.parent m.parent q.parent.kids i (suc i) j n m tile.kids (omega arith) there here.0 e in
          let low = first_low cat p.nodes l n m e in
          let less : j < n = omega (arith, apart, low) in
          let in_it = in_enum q.parent.label.kind (ap (λ c. stands_in c q.parent.label.kind) (sym own) ∙ stands cat p.nodes l n m q) in
          let fit = of.of_enum q.parent.label.text (map cat q.parent.kids) (ap (λ k. kids_fit k q.parent.label.text (map cat q.parent.kids)) (sym in_it) ∙ shape.kids) in
          let c = of.only_enumerator (cat j) (at_all cat is_enumerator q.parent.kids i j fit there) in
          let meant = before j less k.node k.at in
          let w = has_word (kind_at p.nodes k.node.parent) k.node.label.kind (judgement_at (judgements_at p) j) (ap (λ d. fits (kind_at p.nodes k.node.parent) k.node.label.kind d (judgement_at (judgements_at p) j)) (sym c) ∙ meant) in
          let same_place : unwrap_or (slice_get (parent_of p.nodes m.id).kids i) 0 ≡ j = ap (λ ks. unwrap_or (slice_get ks i) 0) kids ∙ ap (λ o. unwrap_or o 0) there in
          record { value = w.value; is = ap (λ k. word_of_enumerator (judgement_at (take n (judgements_at p)) k)) same_place ∙ (ap word_of_enumerator (earlier_at (judgements_at p) n j less) ∙ w.is) }
