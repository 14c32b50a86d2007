-- Tables over variables and blocks, as the maps that keep them.
use Rattle.std.proofs.Common.{◌≡◌, ℕ, ◌==◌, ◌&&◌, Bool, true, false, cond, List, [], ◌∷◌, ◌++◌, Option, Some, None, refl, sym, ap, ◌∙◌, arith}
use Rattle.std.proofs.lemmas.Bool.Decides.{nat_tests}
use Rattle.std.specs.Map.{lookup}
use Rattle.indexmap.specs.IndexMap.{insert_entry}
use Rattle.ssa_core.specs.declared.places.Place.{Place}
use Rattle.ssa_core.specs.Places.{is_place, place, found, Puts}

E : Place → Place → Bool
E a b = is_place a.var a.block b

none_is_not_some : {X : Type 0} (x : X) → None ≡ Some x → ⊥
none_is_not_some x e = grind arith

not_place : (var block : ℕ) (q : Place) → (q.var ≡ var → q.block ≡ block → ⊥) → is_place var block q ≡ false
not_place var block q differs = by (var == q.var) refl (block == q.block) refl
  where
    by : (t : Bool) → (var == q.var) ≡ t → (u : Bool) → (block == q.block) ≡ u → is_place var block q ≡ false
    by false e u f = ap (λ t. t && (block == q.block)) e
    by true e false f = ap (λ t. t && (block == q.block)) e ∙ f
    by true e true f = absurd (differs (grind (arith, nat_tests, e)) (grind (arith, nat_tests, f)))

module _ {V : Type 0} where
  pub found_is_lookup : (es : List (Place × V)) (var block : ℕ) → found es var block ≡ lookup (is_place var block) es
  unfolding found
  found_is_lookup [] var block = refl
  found_is_lookup (e ∷ es) var block = ap (λ o. cond (is_place var block e.0) (Some e.1) o) (found_is_lookup es var block)

  pub found_at : (now es : List (Place × V)) (var block : ℕ) (o : Option V) → now ≡ es → o ≡ lookup (is_place var block) es → o ≡ found now var block
  found_at now es var block o same is = is ∙ sym (found_is_lookup es var block) ∙ ap (λ fs. found fs var block) (sym same)

  pub puts_from : (old es new : List (Place × V)) (var block : ℕ) (value : V) → old ≡ es
      → lookup (is_place var block) new ≡ Some value
      → ((q : Place) → is_place var block q ≡ false → lookup (is_place q.var q.block) new ≡ lookup (is_place q.var q.block) es)
      → Puts old new var block value
  puts_from old es new var block value same here others = record {
    here = found_is_lookup new var block ∙ here;
    others = λ x b differs.
        found_is_lookup new x b
        ∙ others (place x b) (not_place var block (place x b) differs)
        ∙ sym (found_is_lookup es x b)
        ∙ ap (λ fs. found fs x b) (sym same);
  }

  insert_new : (es : List (Place × V)) (var block : ℕ) (value : V) → found es var block ≡ None
      → insert_entry E es (place var block) value ≡ es ++ (place var block, value) ∷ []
  unfolding found E
  insert_new [] var block value none = refl
  insert_new (e ∷ es) var block value none = by (is_place var block e.0) refl (λ h. insert_new es var block value h)
    where
      Goal : Type 0
      Goal = insert_entry E (e ∷ es) (place var block) value ≡ (e ∷ es) ++ (place var block, value) ∷ []

      by : (t : Bool) → is_place var block e.0 ≡ t → (found es var block ≡ None → insert_entry E es (place var block) value ≡ es ++ (place var block, value) ∷ []) → Goal
      by true t more = absurd (none_is_not_some e.1 (sym none ∙ ap (λ b. cond b (Some e.1) (found es var block)) t))
      by false t more =
          ap (λ b. cond b ((e.0, value) ∷ es) (e ∷ insert_entry E es (place var block) value)) t
          ∙ ap (λ fs. e ∷ fs) (more (sym (ap (λ b. cond b (Some e.1) (found es var block)) t) ∙ none))

  pub appends_from : (old es new : List (Place × V)) (var block : ℕ) (value : V) → old ≡ es
      → new ≡ insert_entry (λ a b. is_place a.var a.block b) es (place var block) value
      → found old var block ≡ None → new ≡ old ++ (place var block, value) ∷ []
  unfolding E
  appends_from old es new var block value same is none =
      is ∙ insert_new es var block value (ap (λ fs. found fs var block) (sym same) ∙ none) ∙ ap (λ fs. fs ++ (place var block, value) ∷ []) (sym same)
