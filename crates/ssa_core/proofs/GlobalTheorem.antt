-- The global theorem: where every value that was made is full, a value that is given at the end of a block is, along every
-- walk to it, what was last written on the walk; and its block stands on the walk. The induction is on the walk.
use Rattle.std.proofs.Common.{◌≡◌, ℕ, zero, suc, ◌<◌, ◌==◌, ◌⊎◌, inl, inr, true, false, List, [], ◌∷◌, length, Option, Some, None, refl, sym, ap, ◌∙◌, subst, arith}
use Rattle.std.specs.Prelude.{if◌then◌else◌}
use Rattle.std.proofs.lemmas.Bool.{cases_eq}
use Rattle.std.proofs.lemmas.Bool.Decides.{nat_tests}
use Rattle.std.specs.List.{slice_get}
use Rattle.ssa_core.specs.Shapes.{Shape, unknown, phi}
use Rattle.ssa_core.specs.Walks.{Edge, Walk, end, IsWalk, Visits, Origin, nowhere, met, operand_at, along, last_with}
use Rattle.ssa_core.specs.Gives.{View, Gives, written, entered, passed, Chain, no_step, step, IsGivenAt, Full, at_start, endless, joined, replaced, Reaches, IsComplete}

none_is_not_some : {X : Type 0} (x : X) → None ≡ Some x → ⊥
none_is_not_some x e = grind arith

empty_is_not_more : {X : Type 0} (x : X) (xs : List X) → [] ≡ x ∷ xs → ⊥
empty_is_not_more x xs e = grind arith

-- the only element stands at every place
only_place : {X : Type 0} (x y : X) (i : ℕ) → slice_get (x ∷ []) i ≡ Some y → x ≡ y
only_place x y zero e = grind arith
only_place x y (suc i) e = absurd (none_is_not_some y e)

-- the two cases of a test of numbers
data Test (m n : ℕ) : Type 0 where
  alike : m ≡ n → (m == n) ≡ true → Test m n
  apart : (m ≡ n → ⊥) → (m == n) ≡ false → Test m n

test : (m n : ℕ) → Test m n
test m n = at (cases_eq m n)
  where
    at : (m ≡ n) ⊎ (m ≡ n → ⊥) → Test m n
    at (inl e) = alike e (grind (arith, nat_tests))
    at (inr d) = apart d (grind (arith, nat_tests))

module _ {V : Type 0} (s : Shape V) where
  -- ---- `along`, step by step

  along_unknown : (w : Walk) (v : V) → s.kind v ≡ unknown → along s w v ≡ nowhere
  unfolding along
  along_unknown [] v e = here (test (s.block v) s.first)
    where
      here : Test (s.block v) s.first → along s [] v ≡ nowhere
      here (alike _ t) = ap (λ b. if b then met (s.kind v) v [] (λ operands. nowhere) else nowhere) t ∙ ap (λ kind. met kind v [] (λ operands. nowhere)) e
      here (apart _ t) = ap (λ b. if b then met (s.kind v) v [] (λ operands. nowhere) else nowhere) t
  along_unknown (e ∷ w) v h = here (test (s.block v) e.into) (along_unknown w v h)
    where
      go : List V → Origin V
      go operands = operand_at (slice_get operands e.place) (along s w)

      here : Test (s.block v) e.into → along s w v ≡ nowhere → along s (e ∷ w) v ≡ nowhere
      here (alike _ t) before = ap (λ b. if b then met (s.kind v) v (e ∷ w) go else along s w v) t ∙ ap (λ kind. met kind v (e ∷ w) go) h
      here (apart _ t) before = ap (λ b. if b then met (s.kind v) v (e ∷ w) go else along s w v) t ∙ before

  -- a Phi is nowhere on the walk without an edge
  along_phi_first : (v : V) (operands : List V) → s.kind v ≡ phi operands → along s [] v ≡ nowhere
  unfolding along
  along_phi_first v operands e = here (test (s.block v) s.first)
    where
      here : Test (s.block v) s.first → along s [] v ≡ nowhere
      here (alike _ t) = ap (λ b. if b then met (s.kind v) v [] (λ xs. nowhere) else nowhere) t ∙ ap (λ kind. met kind v [] (λ xs. nowhere)) e
      here (apart _ t) = ap (λ b. if b then met (s.kind v) v [] (λ xs. nowhere) else nowhere) t

  -- a Phi whose block is entered is its operand for the edge
  along_phi : (e : Edge) (w : Walk) (v : V) (operands : List V) (a : V) → s.kind v ≡ phi operands → s.block v ≡ e.into
      → slice_get operands e.place ≡ Some a → along s (e ∷ w) v ≡ along s w a
  unfolding along
  along_phi e w v operands a kind at is =
      let t : (s.block v == e.into) ≡ true = grind (arith, nat_tests, at) in
      ap (λ b. if b then met (s.kind v) v (e ∷ w) go else along s w v) t
      ∙ ap (λ found. met found v (e ∷ w) go) kind
      ∙ ap (λ found. operand_at found (along s w)) is
    where
      go : List V → Origin V
      go xs = operand_at (slice_get xs e.place) (along s w)

  -- a block that is not the value's own changes nothing
  along_by : (e : Edge) (w : Walk) (v : V) → (s.block v == e.into) ≡ false → along s (e ∷ w) v ≡ along s w v
  unfolding along
  along_by e w v t = ap (λ b. if b then met (s.kind v) v (e ∷ w) go else along s w v) t
    where
      go : List V → Origin V
      go xs = operand_at (slice_get xs e.place) (along s w)

  -- ---- what was last written

  last_here : (wrote : ℕ → Option V) (own : Option V) (u : V) (w : Walk) → own ≡ Some u → last_with s wrote own w ≡ along s w (s.current u)
  unfolding last_with
  last_here wrote own u w e = ap (λ o. last_with s wrote o w) e

  last_at_first : (wrote : ℕ → Option V) (own : Option V) → own ≡ None → last_with s wrote own [] ≡ nowhere
  unfolding last_with
  last_at_first wrote own e = ap (λ o. last_with s wrote o []) e

  last_before : (wrote : ℕ → Option V) (own : Option V) (e : Edge) (w : Walk) → own ≡ None
      → last_with s wrote own (e ∷ w) ≡ last_with s wrote (wrote (end s w)) w
  unfolding last_with
  last_before wrote own e w none = ap (λ o. last_with s wrote o (e ∷ w)) none

module _ {V : Type 0} (k : View V) (c : IsComplete k) where
  -- the first block has no predecessor
  no_pred_of_first : (b q : ℕ) (qs : List ℕ) → k.shape.first ≡ b → k.shape.preds b ≡ q ∷ qs → ⊥
  no_pred_of_first b q qs at e = empty_is_not_more q qs (sym c.no_way_back ∙ ap k.shape.preds at ∙ e)

  made_here : (b : ℕ) (p v : V) → k.made b ≡ Some p → k.shape.current p ≡ p → v ≡ k.shape.current p → b ≡ k.shape.block v
  made_here b p v m own is = sym (ap k.shape.block (is ∙ own) ∙ c.in_block b p m)

  -- no walk goes back along an endless chain
  no_chain : (w : Walk) → IsWalk k.shape w → (n b : ℕ) → Chain k n b → end k.shape w ≡ b → length w < n → ⊥
  no_chain w is zero b no_step at less = omega (arith, less)
  no_chain [] is (suc n) b (step q sealed e unwritten more) at less = no_pred_of_first b q [] at e
  no_chain (edge ∷ w) is (suc n) b (step q sealed e unwritten more) at less =
      let there : slice_get (q ∷ []) edge.place ≡ Some (end k.shape w) = ap (λ qs. slice_get qs edge.place) (sym (ap k.shape.preds at ∙ e)) ∙ is.0 in
      no_chain w is.1 n q more (sym (only_place q (end k.shape w) edge.place there)) (omega (arith, less))

  no_way : (e : Edge) (w : Walk) → IsWalk k.shape (e ∷ w) → (b : ℕ) → e.into ≡ b → ((n : ℕ) → Chain k n b) → ⊥
  no_way e w is b at chain = no_chain (e ∷ w) is (suc (suc (length w))) b (chain (suc (suc (length w)))) at (omega arith)

  -- ---- the value's block stands on the walk

  stands_first : (own : Option V) (b : ℕ) (v : V) → Gives k own b v → k.shape.first ≡ b → Reaches k.shape own b → Visits k.shape [] (k.shape.block v)
  stands_first own b v (written u is e) at reaches =
      subst (λ x. k.shape.first ≡ k.shape.block x) (sym e) (reaches u is [] tt at)
  stands_first own b v (entered p none m e) at reaches = by (c.full b p m)
    where
      by : Full k b p → Visits k.shape [] (k.shape.block v)
      by (at_start kind same sealed none) = at ∙ made_here b p v m same e
      by (joined operands kind same size each) = at ∙ made_here b p v m same e
      by (replaced went q qs preds each) = absurd (no_pred_of_first b q qs at preds)
  stands_first own b v (passed q none sealed preds g) at reaches = absurd (no_pred_of_first b q [] at preds)
  stands_first own b v (endless none lost kind chain) at reaches = absurd (no_chain [] tt 1 b (chain 1) at (omega arith))

  -- what stands at the end of the walk before the last edge
  IsBefore : Walk → Type 0
  IsBefore w = (own : Option V) (v : V) → Reaches k.shape own (end k.shape w) → Gives k own (end k.shape w) v → Visits k.shape w (k.shape.block v)

  stands_next : (e : Edge) (w : Walk) → IsWalk k.shape (e ∷ w) → IsBefore w → (own : Option V) (b : ℕ) (v : V) → Gives k own b v
      → e.into ≡ b → Reaches k.shape own b → Visits k.shape (e ∷ w) (k.shape.block v)
  unfolding IsBefore
  stands_next e w is before own b v (written u some same) at reaches =
      subst (λ x. Visits k.shape (e ∷ w) (k.shape.block x)) (sym same) (reaches u some (e ∷ w) is at)
  stands_next e w is before own b v (entered p none m same) at reaches = by (c.full b p m)
    where
      by : Full k b p → Visits k.shape (e ∷ w) (k.shape.block v)
      by (at_start kind itself sealed none) = inl (at ∙ made_here b p v m itself same)
      by (joined operands kind itself size each) = inl (at ∙ made_here b p v m itself same)
      by (replaced went q qs preds each) =
          let there : slice_get (k.shape.preds b) e.place ≡ Some (end k.shape w) = ap (λ x. slice_get (k.shape.preds x) e.place) (sym at) ∙ is.0 in
          let g = subst (λ x. Gives k (k.wrote (end k.shape w)) (end k.shape w) x) (sym same) (each e.place (end k.shape w) there) in
          inr (before (k.wrote (end k.shape w)) v (c.reaches (end k.shape w)) g)
  stands_next e w is before own b v (passed q none sealed preds g) at reaches =
      let there : slice_get (q ∷ []) e.place ≡ Some (end k.shape w) = ap (λ qs. slice_get qs e.place) (sym (ap k.shape.preds at ∙ preds)) ∙ is.0 in
      let from_end = subst (λ x. Gives k (k.wrote x) x v) (only_place q (end k.shape w) e.place there) g in
      inr (before (k.wrote (end k.shape w)) v (c.reaches (end k.shape w)) from_end)
  stands_next e w is before own b v (endless none lost kind chain) at reaches = absurd (no_way e w is b at chain)

  stands : (w : Walk) → IsWalk k.shape w → IsBefore w
  unfolding IsBefore
  stands [] is own v reaches g = stands_first own k.shape.first v g refl reaches
  stands (e ∷ w) is own v reaches g = stands_next e w is (stands w is.1) own e.into v g refl reaches

  -- ---- a value that is given at each predecessor of a block does not stand in this block where a walk comes there

  never : (b : ℕ) (v : V) (q : ℕ) (qs : List ℕ) → k.shape.block v ≡ b → k.shape.preds b ≡ q ∷ qs
      → ((place pred : ℕ) → slice_get (k.shape.preds b) place ≡ Some pred → Gives k (k.wrote pred) pred v)
      → (w : Walk) → IsWalk k.shape w → Visits k.shape w b → ⊥
  unfolding IsBefore
  never b v q qs home preds each [] is at = no_pred_of_first b q qs at preds
  never b v q qs home preds each (e ∷ w) is (inl at) =
      let there : slice_get (k.shape.preds b) e.place ≡ Some (end k.shape w) = ap (λ x. slice_get (k.shape.preds x) e.place) (sym at) ∙ is.0 in
      let visit = stands w is.1 (k.wrote (end k.shape w)) v (c.reaches (end k.shape w)) (each e.place (end k.shape w) there) in
      never b v q qs home preds each w is.1 (subst (λ x. Visits k.shape w x) home visit)
  never b v q qs home preds each (e ∷ w) is (inr before) = never b v q qs home preds each w is.1 before

  -- ---- the value is what was last written

  Meets : Walk → Type 0
  Meets w = (own : Option V) (v : V) → Reaches k.shape own (end k.shape w) → Gives k own (end k.shape w) v
      → along k.shape w v ≡ last_with k.shape k.wrote own w

  meets_first : (own : Option V) (b : ℕ) (v : V) → Gives k own b v → k.shape.first ≡ b → along k.shape [] v ≡ last_with k.shape k.wrote own []
  meets_first own b v (written u some same) at = ap (λ x. along k.shape [] x) same ∙ sym (last_here k.shape k.wrote own u [] some)
  meets_first own b v (entered p none m same) at = by (c.full b p m) ∙ sym (last_at_first k.shape k.wrote own none)
    where
      move : k.shape.current p ≡ p → along k.shape [] v ≡ along k.shape [] p
      move itself = ap (λ x. along k.shape [] x) (same ∙ itself)

      by : Full k b p → along k.shape [] v ≡ nowhere
      by (at_start kind itself sealed none) = move itself ∙ along_unknown k.shape [] p kind
      by (joined operands kind itself size each) = move itself ∙ along_phi_first k.shape p operands kind
      by (replaced went q qs preds each) = absurd (no_pred_of_first b q qs at preds)
  meets_first own b v (passed q none sealed preds g) at = absurd (no_pred_of_first b q [] at preds)
  meets_first own b v (endless none lost kind chain) at = absurd (no_chain [] tt 1 b (chain 1) at (omega arith))

  -- the value is given at each predecessor of the block that the last edge leads to
  meets_by : (e : Edge) (w : Walk) → IsWalk k.shape (e ∷ w) → Meets w → (v : V) (q : ℕ) (qs : List ℕ) → k.shape.preds e.into ≡ q ∷ qs
      → ((place pred : ℕ) → slice_get (k.shape.preds e.into) place ≡ Some pred → Gives k (k.wrote pred) pred v)
      → along k.shape (e ∷ w) v ≡ last_with k.shape k.wrote (k.wrote (end k.shape w)) w
  unfolding Meets
  meets_by e w is before v q qs preds each = by (test (k.shape.block v) e.into)
    where
      by : Test (k.shape.block v) e.into → along k.shape (e ∷ w) v ≡ last_with k.shape k.wrote (k.wrote (end k.shape w)) w
      by (alike home _) = absurd (never e.into v q qs home preds each (e ∷ w) is (inl refl))
      by (apart _ t) =
          along_by k.shape e w v t ∙ before (k.wrote (end k.shape w)) v (c.reaches (end k.shape w)) (each e.place (end k.shape w) is.0)

  meets_next : (e : Edge) (w : Walk) → IsWalk k.shape (e ∷ w) → Meets w → (own : Option V) (b : ℕ) (v : V) → Gives k own b v → b ≡ e.into
      → along k.shape (e ∷ w) v ≡ last_with k.shape k.wrote own (e ∷ w)
  unfolding Meets
  meets_next e w is before own b v (written u some same) at = ap (λ x. along k.shape (e ∷ w) x) same ∙ sym (last_here k.shape k.wrote own u (e ∷ w) some)
  meets_next e w is before own b v (entered p none m same) at = by (c.full b p m) ∙ sym (last_before k.shape k.wrote own e w none)
    where
      there : slice_get (k.shape.preds b) e.place ≡ Some (end k.shape w)
      there = ap (λ x. slice_get (k.shape.preds x) e.place) at ∙ is.0

      move : k.shape.current p ≡ p → along k.shape (e ∷ w) v ≡ along k.shape (e ∷ w) p
      move itself = ap (λ x. along k.shape (e ∷ w) x) (same ∙ itself)

      given : (operands : List V) → k.shape.kind p ≡ phi operands → IsGivenAt k operands e.place (end k.shape w)
          → along k.shape (e ∷ w) p ≡ last_with k.shape k.wrote (k.wrote (end k.shape w)) w
      given operands kind g =
          along_phi k.shape e w p operands g.operand kind (c.in_block b p m ∙ at) g.is
          ∙ before (k.wrote (end k.shape w)) g.operand (c.reaches (end k.shape w)) g.gives

      by : Full k b p → along k.shape (e ∷ w) v ≡ last_with k.shape k.wrote (k.wrote (end k.shape w)) w
      by (at_start kind itself sealed none) =
          absurd (none_is_not_some (end k.shape w) (ap (λ qs. slice_get qs e.place) (sym none) ∙ there))
      by (joined operands kind itself size each) = move itself ∙ given operands kind (each e.place (end k.shape w) there)
      by (replaced went q qs preds each) =
          meets_by e w is before v q qs (sym (ap k.shape.preds at) ∙ preds)
          (λ place pred h. subst (λ x. Gives k (k.wrote pred) pred x) (sym same) (each place pred (ap (λ x. slice_get (k.shape.preds x) place) at ∙ h)))
  meets_next e w is before own b v (passed q none sealed preds g) at =
      let only : k.shape.preds e.into ≡ q ∷ [] = sym (ap k.shape.preds at) ∙ preds in
      meets_by e w is before v q [] only
      (λ place pred h. subst (λ x. Gives k (k.wrote x) x v) (only_place q pred place (ap (λ qs. slice_get qs place) (sym only) ∙ h)) g)
      ∙ sym (last_before k.shape k.wrote own e w none)
  meets_next e w is before own b v (endless none lost kind chain) at = absurd (no_way e w is b (sym at) chain)

  meets : (w : Walk) → IsWalk k.shape w → Meets w
  unfolding Meets
  meets [] is own v reaches g = meets_first own k.shape.first v g refl
  meets (e ∷ w) is own v reaches g = meets_next e w is (meets w is.1) own e.into v g refl

  -- A value that is given at the end of a walk is, along the walk, what was last written on it,
  pub is_last_written : (w : Walk) → IsWalk k.shape w → (own : Option V) (v : V) → Reaches k.shape own (end k.shape w) → Gives k own (end k.shape w) v
      → along k.shape w v ≡ last_with k.shape k.wrote own w
  unfolding Meets
  is_last_written w is own v reaches g = meets w is own v reaches g

  -- and its block stands on the walk.
  pub is_on_walk : (w : Walk) → IsWalk k.shape w → (own : Option V) (v : V) → Reaches k.shape own (end k.shape w) → Gives k own (end k.shape w) v
      → Visits k.shape w (k.shape.block v)
  unfolding IsBefore
  is_on_walk w is own v reaches g = stands w is own v reaches g
