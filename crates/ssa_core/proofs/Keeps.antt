-- What a view keeps: where more is known, and where a trivial Phi is replaced by its other value. Neither speaks of walks.
use Rattle.std.proofs.Common.{◌≡◌, ℕ, zero, suc, ◌⊎◌, inl, inr, true, List, [], ◌∷◌, length, Option, Some, refl, sym, ap, ◌∙◌, subst, arith}
use Rattle.std.proofs.lemmas.Option.{slice_get_within, get_or_from_slice_get}
use Rattle.std.specs.List.{slice_get, Contains}
use Rattle.ssa_core.specs.Shapes.{Shape, ValueKind, gone, unknown, phi, HasOnly, Becomes, AllBecome, KindBecomes, PhiBecomes, IsReplaced}
use Rattle.ssa_core.specs.Gives.{View, Gives, written, entered, passed, endless, Chain, no_step, step, IsGivenAt, Full, at_start, joined, replaced}

-- What l knows is at least what k knows: no write more in a block, but more blocks may be sealed, and more values made; what
-- was named is the same.
pub record Extends {V : Type 0} (k l : View V) : Type 0 where
  pub preds : (b : ℕ) → k.sealed b ≡ true → l.shape.preds b ≡ k.shape.preds b
  pub sealed : (b : ℕ) → k.sealed b ≡ true → l.sealed b ≡ true
  pub wrote : (b : ℕ) → l.wrote b ≡ k.wrote b
  pub wrote_stays : (b : ℕ) (u : V) → k.wrote b ≡ Some u → l.shape.current u ≡ k.shape.current u
  pub made : (b : ℕ) (p : V) → k.made b ≡ Some p → l.made b ≡ Some p
  pub made_stays : (b : ℕ) (p : V) → k.made b ≡ Some p → l.shape.current p ≡ k.shape.current p
  pub lost : (b : ℕ) (v : V) → k.lost b ≡ Some v → l.lost b ≡ Some v
  pub unknown_stays : (b : ℕ) (v : V) → k.lost b ≡ Some v → k.shape.kind v ≡ unknown → l.shape.kind v ≡ unknown

-- what is written in the block is the same
abbrev pub OwnStays : {V : Type 0} → View V → View V → Option V → Type 0
OwnStays {V} k l own = (u : V) → own ≡ Some u → l.shape.current u ≡ k.shape.current u

pub gone_is_no_phi : {V : Type 0} (operands : List V) (kind : ValueKind V) → kind ≡ gone → kind ≡ phi operands → ⊥
gone_is_no_phi operands kind e f = grind (arith, e, f)

module _ {V : Type 0} (k l : View V) (more : Extends k l) where
  pub chain_extends : (n b : ℕ) → Chain k n b → Chain l n b
  chain_extends zero b c = no_step
  chain_extends (suc n) b (step q sealed preds unwritten c) = step q (more.sealed b sealed) (more.preds b sealed ∙ preds) (more.wrote q ∙ unwritten) (chain_extends n q c)

  pub gives_extends : (own : Option V) (b : ℕ) (v : V) → OwnStays k l own → Gives k own b v → Gives l own b v
  gives_extends own b v stays (written u is same) = written u is (same ∙ sym (stays u is))
  gives_extends own b v stays (entered p none m same) = entered p none (more.made b p m) (same ∙ sym (more.made_stays b p m))
  gives_extends own b v stays (passed q none sealed preds g) =
      let there = gives_extends (k.wrote q) q v (more.wrote_stays q) g in
      passed q none (more.sealed b sealed) (more.preds b sealed ∙ preds) (subst (λ o. Gives l o q v) (sym (more.wrote q)) there)
  gives_extends own b v stays (endless none lost kind chain) =
      endless none (more.lost b v lost) (more.unknown_stays b v lost kind) (λ n. chain_extends n b (chain n))

  -- what is given at the end of a block, with all its writes
  pub gives_at_end : (b : ℕ) (v : V) → Gives k (k.wrote b) b v → Gives l (l.wrote b) b v
  gives_at_end b v g = subst (λ o. Gives l o b v) (sym (more.wrote b)) (gives_extends (k.wrote b) b v (more.wrote_stays b) g)

  -- a Phi that has no operand, and whose block has predecessors, is not full
  not_empty : (b : ℕ) (kind : ValueKind V) (operands : List V) → kind ≡ phi operands → length operands ≡ length (k.shape.preds b)
      → kind ≡ phi [] → (k.shape.preds b ≡ [] → ⊥) → ⊥
  not_empty b kind operands is size empty some = some (by (k.shape.preds b) refl)
    where
      none : operands ≡ []
      none = grind (arith, is, empty)

      by : (qs : List ℕ) → k.shape.preds b ≡ qs → k.shape.preds b ≡ []
      by [] e = e
      by (q ∷ qs) e = absurd (omega (arith, size, ap (λ xs. length xs) none, ap (λ xs. length xs) e))

  pub full_extends : (b : ℕ) (p : V) → k.made b ≡ Some p → (l.shape.kind p ≡ k.shape.kind p) ⊎ ((k.shape.kind p ≡ phi []) × (k.shape.preds b ≡ [] → ⊥))
      → l.shape.preds b ≡ k.shape.preds b → Full k b p → Full l b p
  full_extends b p m (inl kind) preds (at_start is own sealed none) =
      at_start (kind ∙ is) (more.made_stays b p m ∙ own) (more.sealed b sealed) (preds ∙ none)
  full_extends b p m (inr e) preds (at_start is own sealed none) = absurd (e.1 none)
  full_extends b p m (inr e) preds (joined operands is own size each) = absurd (not_empty b (k.shape.kind p) operands is size e.0 e.1)
  full_extends b p m (inl kind) preds (joined operands is own size each) =
      joined operands (kind ∙ is) (more.made_stays b p m ∙ own) (size ∙ ap (λ qs. length qs) (sym preds))
      (λ place pred h. more_given (each place pred (ap (λ qs. slice_get qs place) (sym preds) ∙ h)))
    where
      more_given : {place pred : ℕ} → IsGivenAt k operands place pred → IsGivenAt l operands place pred
      more_given {pred = pred} g = record { operand = g.operand; is = g.is; gives = gives_at_end pred g.operand g.gives }
  full_extends b p m (inr e) preds (replaced went q qs some each) = absurd (gone_is_no_phi [] (k.shape.kind p) went e.0)
  full_extends b p m (inl kind) preds (replaced went q qs some each) =
      replaced (kind ∙ went) q qs (preds ∙ some)
      (λ place pred h. subst (λ x. Gives l (l.wrote pred) pred x) (sym (more.made_stays b p m))
      (gives_at_end pred (k.shape.current p) (each place pred (ap (λ qs. slice_get qs place) (sym preds) ∙ h))))

-- ---- a trivial Phi is replaced

module _ {V : Type 0} where
  pub becomes_one : (old to x y z : V) → Becomes old to x y → Becomes old to x z → y ≡ z
  becomes_one old to x y z (inl a) (inl b) = a.1 ∙ sym b.1
  becomes_one old to x y z (inl a) (inr b) = absurd (b.0 a.0)
  becomes_one old to x y z (inr a) (inl b) = absurd (a.0 b.0)
  becomes_one old to x y z (inr a) (inr b) = a.1 ∙ sym b.1

  all_become_place : (old to : V) (xs ys : List V) (i : ℕ) (x : V) → AllBecome old to xs ys → slice_get xs i ≡ Some x
      → (y : V) × (slice_get ys i ≡ Some y) × Becomes old to x y
  all_become_place old to [] ys i x all is = absurd (grind (arith, is))
  all_become_place old to (a ∷ xs) [] i x all is = absurd all
  all_become_place old to (a ∷ xs) (b ∷ ys) zero x all is =
      let same : a ≡ x = grind arith in
      (b, refl, subst (λ z. Becomes old to z b) same all.0)
  all_become_place old to (a ∷ xs) (b ∷ ys) (suc i) x all is = all_become_place old to xs ys i x all.1 is

  all_become_length : (old to : V) (xs ys : List V) → AllBecome old to xs ys → length ys ≡ length xs
  all_become_length old to [] [] all = refl
  all_become_length old to [] (y ∷ ys) all = absurd all
  all_become_length old to (x ∷ xs) [] all = absurd all
  all_become_length old to (x ∷ xs) (y ∷ ys) all = ap suc (all_become_length old to xs ys all.1)

  unknown_is_no_phi : (operands : List V) (kind : ValueKind V) → kind ≡ unknown → kind ≡ phi operands → ⊥
  unknown_is_no_phi operands kind e f = grind (arith, e, f)

  same_operands : (xs ys : List V) (kind : ValueKind V) → kind ≡ phi xs → kind ≡ phi ys → xs ≡ ys
  same_operands xs ys kind e f = grind (arith, e, f)

  pub unknown_becomes : (old to : V) (kind new : ValueKind V) → kind ≡ unknown → KindBecomes old to kind new → new ≡ unknown
  unknown_becomes old to kind new e h = subst (λ x. KindBecomes old to x new) e h

  pub phi_becomes : (old to : V) (operands : List V) (kind new : ValueKind V) → kind ≡ phi operands → KindBecomes old to kind new → PhiBecomes old to operands new
  phi_becomes old to operands kind new e h = subst (λ x. KindBecomes old to x new) e h

  place_of : (xs : List V) (i : ℕ) (x : V) → slice_get xs i ≡ Some x → Contains xs x
  place_of xs i x e = (i, slice_get_within xs i x e, get_or_from_slice_get xs i x x e)

module _ {V : Type 0} (k : View V) (t : Shape V) (old to : V) (only : HasOnly k.shape old to) (r : IsReplaced k.shape t old to)
    (decide : (x y : V) → (x ≡ y) ⊎ (x ≡ y → ⊥)) where
  abbrev after : View V
  after = record k { shape = t }

  pub chain_replaced : (n b : ℕ) → Chain k n b → Chain after n b
  chain_replaced zero b c = no_step
  chain_replaced (suc n) b (step q sealed preds unwritten c) = step q sealed (r.same_blocks.preds b ∙ preds) unwritten (chain_replaced n q c)

  gives_replaced : (own : Option V) (b : ℕ) (v w : V) → Becomes old to v w → Gives k own b v → Gives after own b w
  gives_replaced own b v w becomes (written u is same) =
      written u is (becomes_one old to (k.shape.current u) w (t.current u) (subst (λ x. Becomes old to x w) same becomes) (r.current u))
  gives_replaced own b v w becomes (entered p none m same) =
      entered p none m (becomes_one old to (k.shape.current p) w (t.current p) (subst (λ x. Becomes old to x w) same becomes) (r.current p))
  gives_replaced own b v w becomes (passed q none sealed preds g) =
      passed q none sealed (r.same_blocks.preds b ∙ preds) (gives_replaced (k.wrote q) q v w becomes g)
  gives_replaced own b v w becomes (endless none lost kind chain) = by becomes
    where
      by : Becomes old to v w → Gives after own b w
      by (inl h) = absurd (unknown_is_no_phi only.operands (k.shape.kind old) (ap k.shape.kind (sym h.0) ∙ kind) only.kind_is)
      by (inr h) =
          endless none (lost ∙ ap Some (sym h.1))
          (ap t.kind h.1 ∙ unknown_becomes old to (k.shape.kind v) (t.kind v) kind (r.kinds v h.0))
          (λ n. chain_replaced n b (chain n))

  stays : (x : V) → (x ≡ old → ⊥) → k.shape.current x ≡ x → t.current x ≡ x
  stays x differs own = by (r.current x)
    where
      by : Becomes old to (k.shape.current x) (t.current x) → t.current x ≡ x
      by (inl h) = absurd (differs (sym own ∙ h.0))
      by (inr h) = h.1 ∙ own

  stays_gone : (x : V) → k.shape.kind x ≡ gone → t.kind x ≡ gone
  stays_gone x e =
      subst (λ kind. KindBecomes old to kind (t.kind x)) e
      (r.kinds x (λ h. gone_is_no_phi only.operands (k.shape.kind old) (ap k.shape.kind (sym h) ∙ e) only.kind_is))

  to_itself : Becomes old to to to
  to_itself = inr (only.differs, refl)

  -- each operand of the replaced Phi becomes the other value
  operand_is_to : (operands : List V) → k.shape.kind old ≡ phi operands → (place : ℕ) (x : V) → slice_get operands place ≡ Some x → Becomes old to x to
  operand_is_to operands is place x at = by (only.each x (place_of only.operands place x (ap (λ xs. slice_get xs place) (sym (same_operands operands only.operands (k.shape.kind old) is only.kind_is)) ∙ at)))
    where
      by : (x ≡ old) ⊎ (x ≡ to) → Becomes old to x to
      by (inl e) = inl (e, refl)
      by (inr e) = subst (λ y. Becomes old to y to) (sym e) to_itself

  pub full_replaced : (b : ℕ) (p : V) → Full k b p → Full after b p
  full_replaced b p (at_start is own sealed none) =
      at_start (unknown_becomes old to (k.shape.kind p) (t.kind p) is (r.kinds p differs)) (stays p differs own) sealed (r.same_blocks.preds b ∙ none)
    where
      differs : p ≡ old → ⊥
      differs e = unknown_is_no_phi only.operands (k.shape.kind old) (ap k.shape.kind (sym e) ∙ is) only.kind_is
  full_replaced b p (joined operands is own size each) = by (decide p old)
    where
      old_preds : (place pred : ℕ) → slice_get (t.preds b) place ≡ Some pred → slice_get (k.shape.preds b) place ≡ Some pred
      old_preds place pred h = ap (λ qs. slice_get qs place) (sym (r.same_blocks.preds b)) ∙ h

      becomes_given : (news : List V) → AllBecome old to operands news → {place pred : ℕ} → IsGivenAt k operands place pred → IsGivenAt after news place pred
      becomes_given news all {place} {pred} g =
          let there = all_become_place old to operands news place g.operand all g.is in
          record { operand = there.0; is = there.1; gives = gives_replaced (k.wrote pred) pred g.operand there.0 there.2 g.gives }

      kept : (p ≡ old → ⊥) → PhiBecomes old to operands (t.kind p) → Full after b p
      kept differs new =
          joined new.new_operands new.is (stays p differs own)
          (all_become_length old to operands new.new_operands new.each ∙ size ∙ ap (λ qs. length qs) (sym (r.same_blocks.preds b)))
          (λ place pred h. becomes_given new.new_operands new.each (each place pred (old_preds place pred h)))

      -- the Phi that is replaced
      current_is_to : p ≡ old → t.current p ≡ to
      current_is_to e = becomes_one old to (k.shape.current p) (t.current p) to (r.current p) (inl (own ∙ e, refl))

      given : {place pred : ℕ} → p ≡ old → IsGivenAt k operands place pred → Gives after (k.wrote pred) pred (t.current p)
      given {place} {pred} e g =
          let becomes = operand_is_to operands (ap k.shape.kind (sym e) ∙ is) place g.operand g.is in
          subst (λ x. Gives after (k.wrote pred) pred x) (sym (current_is_to e)) (gives_replaced (k.wrote pred) pred g.operand to becomes g.gives)

      some : p ≡ old → (qs : List ℕ) → k.shape.preds b ≡ qs → Full after b p
      some e [] none = absurd (omega (arith, only.among.1, ap (λ xs. length xs) (same_operands operands only.operands (k.shape.kind old) (ap k.shape.kind (sym e) ∙ is) only.kind_is), size, ap (λ qs. length qs) none))
      some e (q ∷ qs) more =
          replaced (ap t.kind e ∙ r.went) q qs (r.same_blocks.preds b ∙ more) (λ place pred h. given e (each place pred (old_preds place pred h)))

      by : (p ≡ old) ⊎ (p ≡ old → ⊥) → Full after b p
      by (inl e) = some e (k.shape.preds b) refl
      by (inr differs) = kept differs (phi_becomes old to operands (k.shape.kind p) (t.kind p) is (r.kinds p differs))
  full_replaced b p (replaced went q qs some each) =
      replaced (stays_gone p went) q qs (r.same_blocks.preds b ∙ some)
      (λ place pred h. gives_replaced (k.wrote pred) pred (k.shape.current p) (t.current p) (r.current p) (each place pred (ap (λ qs. slice_get qs place) (sym (r.same_blocks.preds b)) ∙ h)))

  pub gives_after : (own : Option V) (b : ℕ) (v w : V) → Becomes old to v w → Gives k own b v → Gives after own b w
  gives_after own b v w becomes g = gives_replaced own b v w becomes g
