-- What a node means on a walk, by what it is: `along` at a graph.
use Rattle.std.proofs.Common.{◌≡◌, refl, ap, ◌∙◌, ℕ, suc, ◌≤◌, ◌==◌, arith, le_refl, le_trans, Bool, true, false, List, [], ◌∷◌, length, Option, Some, None}
use Rattle.std.specs.Prelude.{slice_get, if◌then◌else◌}
use Rattle.ssa_core.specs.Shapes.{Shape, ValueKind, absent, gone, unknown, phi, other}
use Rattle.ssa_core.specs.Walks.{Edge, Walk, end, Origin, nowhere, from, met, operand_at, along}
use Rattle.firm_rules.proofs.Steps.{Test, alike, apart, test}

-- the visit at which it came to be has at most so many edges
abbrev pub Within : {V : Type 0} → ℕ → Origin V → Type 0
Within n nowhere = Unit {0}
Within n (from v visit) = length visit ≤ n

module _ {V : Type 0} (s : Shape V) where
  abbrev operand : Walk → ℕ → List V → Origin V
  operand w place operands = operand_at (slice_get operands place) (along s w)

  -- a kind that means nothing
  abbrev pub MeansNothing : ValueKind V → Type 0
  MeansNothing kind = (v : V) (visit : Walk) (next : List V → Origin V) → met kind v visit next ≡ nowhere

  pub along_nothing : (w : Walk) (v : V) → MeansNothing (s.kind v) → along s w v ≡ nowhere
  unfolding along
  along_nothing [] v none = by (s.block v == s.first)
    where
      by : (t : Bool) → (if t then met (s.kind v) v [] (λ operands. nowhere) else nowhere) ≡ nowhere
      by true = none v [] (λ operands. nowhere)
      by false = refl
  along_nothing (e ∷ w) v none = by (s.block v == e.into) (along_nothing w v none)
    where
      by : (t : Bool) → along s w v ≡ nowhere → (if t then met (s.kind v) v (e ∷ w) (operand w e.place) else along s w v) ≡ nowhere
      by true before = none v (e ∷ w) (operand w e.place)
      by false before = before

  pub along_other : (w : Walk) (v : V) → s.kind v ≡ other → s.block v ≡ end s w → along s w v ≡ from v w
  unfolding along
  along_other [] v kind at = by (test (s.block v) s.first)
    where
      by : Test (s.block v) s.first → along s [] v ≡ from v []
      by (alike _ t) = ap (λ b. if b then met (s.kind v) v [] (λ operands. nowhere) else nowhere) t ∙ ap (λ k. met k v [] (λ operands. nowhere)) kind
      by (apart d _) = absurd (d at)
  along_other (e ∷ w) v kind at = by (test (s.block v) e.into)
    where
      by : Test (s.block v) e.into → along s (e ∷ w) v ≡ from v (e ∷ w)
      by (alike _ t) =
          ap (λ b. if b then met (s.kind v) v (e ∷ w) (operand w e.place) else along s w v) t ∙ ap (λ k. met k v (e ∷ w) (operand w e.place)) kind
      by (apart d _) = absurd (d at)

  pub along_phi_first : (v : V) (operands : List V) → s.kind v ≡ phi operands → along s [] v ≡ nowhere
  unfolding along
  along_phi_first v operands kind = by (s.block v == s.first)
    where
      by : (t : Bool) → (if t then met (s.kind v) v [] (λ xs. nowhere) else nowhere) ≡ nowhere
      by true = ap (λ k. met k v [] (λ xs. nowhere)) kind
      by false = refl

  pub along_phi : (e : Edge) (w : Walk) (v : V) (operands : List V) → s.kind v ≡ phi operands → s.block v ≡ e.into
      → along s (e ∷ w) v ≡ operand_at (slice_get operands e.place) (along s w)
  unfolding along
  along_phi e w v operands kind at = by (test (s.block v) e.into)
    where
      by : Test (s.block v) e.into → along s (e ∷ w) v ≡ operand_at (slice_get operands e.place) (along s w)
      by (alike _ t) =
          ap (λ b. if b then met (s.kind v) v (e ∷ w) (operand w e.place) else along s w v) t ∙ ap (λ k. met k v (e ∷ w) (operand w e.place)) kind
      by (apart d _) = absurd (d at)

  pub along_elsewhere : (e : Edge) (w : Walk) (v : V) → (s.block v ≡ e.into → ⊥) → along s (e ∷ w) v ≡ along s w v
  unfolding along
  along_elsewhere e w v away = by (test (s.block v) e.into)
    where
      by : Test (s.block v) e.into → along s (e ∷ w) v ≡ along s w v
      by (alike same _) = absurd (away same)
      by (apart _ t) = ap (λ b. if b then met (s.kind v) v (e ∷ w) (operand w e.place) else along s w v) t

  pub along_not_first : (v : V) → (s.block v ≡ s.first → ⊥) → along s [] v ≡ nowhere
  unfolding along
  along_not_first v away = by (test (s.block v) s.first)
    where
      by : Test (s.block v) s.first → along s [] v ≡ nowhere
      by (alike same _) = absurd (away same)
      by (apart _ t) = ap (λ b. if b then met (s.kind v) v [] (λ operands. nowhere) else nowhere) t

  -- ---- the visit at which a value came to be is on the walk

  within_more : (n m : ℕ) (o : Origin V) → n ≤ m → Within n o → Within m o
  within_more n m nowhere more is = tt
  within_more n m (from v visit) more is = le_trans is more

  met_within : (n : ℕ) (kind : ValueKind V) (v : V) (visit : Walk) (next : List V → Origin V) → length visit ≤ n → ((operands : List V) → Within n (next operands))
      → Within n (met kind v visit next)
  met_within n other v visit next here each = here
  met_within n (phi operands) v visit next here each = each operands
  met_within n absent v visit next here each = tt
  met_within n gone v visit next here each = tt
  met_within n unknown v visit next here each = tt

  operand_within : (n : ℕ) (found : Option V) (w : Walk) → ((v : V) → Within n (along s w v)) → Within n (operand_at found (along s w))
  operand_within n (Some v) w each = each v
  operand_within n None w each = tt

  pub along_within : (w : Walk) (v : V) → Within (length w) (along s w v)
  unfolding along
  along_within [] v = by (s.block v == s.first)
    where
      by : (t : Bool) → Within 0 (if t then met (s.kind v) v [] (λ operands. nowhere) else nowhere)
      by true = met_within 0 (s.kind v) v [] (λ operands. nowhere) (le_refl 0) (λ _. tt)
      by false = tt
  along_within (e ∷ w) v = by (s.block v == e.into) (λ x. within_more (length w) (suc (length w)) (along s w x) (omega arith) (along_within w x))
    where
      by : (t : Bool) → ((x : V) → Within (suc (length w)) (along s w x)) → Within (suc (length w)) (if t then met (s.kind v) v (e ∷ w) (operand w e.place) else along s w v)
      by true before =
          met_within (suc (length w)) (s.kind v) v (e ∷ w) (operand w e.place) (le_refl (suc (length w)))
          (λ operands. operand_within (suc (length w)) (slice_get operands e.place) w before)
      by false before = before v
