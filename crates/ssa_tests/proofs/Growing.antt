-- Lists that grow, or change at a place.
use Rattle.std.proofs.Common.{◌≡◌, ℕ, zero, suc, ◌<◌, ◌≤◌, ◌⊎◌, inl, inr, List, [], ◌∷◌, ◌++◌, length, get_or, take, Option, Some, None, refl, sym, ap, ◌∙◌, subst, arith}
use Rattle.std.specs.Prelude.{set}
use Rattle.std.proofs.lemmas.Bool.{cases_eq}
use Rattle.std.proofs.lemmas.List.{length-set, take_all}
use Rattle.std.proofs.lemmas.Option.{slice_get_within, slice_get-get_or, get_or_from_slice_get}
use Rattle.std.specs.List.{slice_get}
use Rattle.std.specs.Option.{IfNone}
use Rattle.ssa_core.specs.Shapes.{Shape, ValueKind, HasOnly}
use Rattle.ssa_core.specs.Shapes.{phi as phi_kind}
use Rattle.ssa_tests.specs.declared.lists.ListBlock.{ListBlock}
use Rattle.ssa_tests.specs.declared.lists.ListValue.{ListValue}
use Rattle.ssa_tests.specs.declared.lists.Tag.{Tag}
use Rattle.ssa_tests.specs.declared.lists.Tag.TheVariants as tag
use Rattle.ssa_tests.specs.ListShape.{kind_of, kind_at}
use Rattle.ssa_tests.specs.Edges.{preds_at, EdgesAreThere}
use Rattle.ssa_tests.specs.declared.only.Seen.{Seen}
use Rattle.ssa_tests.specs.declared.only.Seen.TheVariants as seen
use Rattle.ssa_tests.specs.Seen.{IsOnly, AreTwo, Sees}

none_is_not_some : {X : Type 0} (x : X) → None ≡ Some x → ⊥
none_is_not_some x e = grind arith

some_same : {X : Type 0} (x y : X) → Some x ≡ Some y → x ≡ y
some_same x y e = grind (arith, e)

module _ {X : Type 0} where
  get_front : (xs ys : List X) (i : ℕ) (x : X) → slice_get xs i ≡ Some x → slice_get (xs ++ ys) i ≡ Some x
  get_front [] ys i x e = absurd (none_is_not_some x e)
  get_front (z ∷ xs) ys zero x e = e
  get_front (z ∷ xs) ys (suc i) x e = get_front xs ys i x e

  pub get_pushed : (xs : List X) (y x : X) (i : ℕ) → slice_get (xs ++ y ∷ []) i ≡ Some x → (slice_get xs i ≡ Some x) ⊎ (x ≡ y)
  get_pushed [] y x zero e = inr (sym (some_same y x e))
  get_pushed [] y x (suc i) e = absurd (none_is_not_some x e)
  get_pushed (z ∷ xs) y x zero e = inl e
  get_pushed (z ∷ xs) y x (suc i) e = get_pushed xs y x i e

  get_last : (xs : List X) (y : X) → slice_get (xs ++ y ∷ []) (length xs) ≡ Some y
  get_last [] y = refl
  get_last (z ∷ xs) y = get_last xs y

  set_same : (xs : List X) (i : ℕ) (y : X) → i < length xs → slice_get (set xs i y) i ≡ Some y
  set_same [] i y less = absurd (omega (arith, less))
  set_same (x ∷ xs) zero y less = refl
  set_same (x ∷ xs) (suc i) y less = set_same xs i y (omega (arith, less))

  set_other : (xs : List X) (i j : ℕ) (y : X) → (j ≡ i → ⊥) → slice_get (set xs i y) j ≡ slice_get xs j
  set_other [] i j y differs = refl
  set_other (x ∷ xs) zero zero y differs = absurd (differs refl)
  set_other (x ∷ xs) zero (suc j) y differs = refl
  set_other (x ∷ xs) (suc i) zero y differs = refl
  set_other (x ∷ xs) (suc i) (suc j) y differs = set_other xs i j y (λ e. differs (ap suc e))

-- ---- one edge more

pub edge_more : (blocks : List ListBlock) (to from : ℕ) (old new : ListBlock) → EdgesAreThere blocks → from < length blocks → to < length blocks → old ≡ get_or blocks to old
    → new.preds.items ≡ old.preds.items ++ from ∷ [] → EdgesAreThere (set blocks to new)
edge_more blocks to from old new edges less within was is b i p at =
    subst (λ n. p < n) (sym (length-set blocks to new)) (by (cases_eq b to))
  where
    old_at : slice_get blocks to ≡ Some old
    old_at = slice_get-get_or blocks to old within ∙ ap Some (sym was)

    here : (slice_get old.preds.items i ≡ Some p) ⊎ (p ≡ from) → p < length blocks
    here (inl h) = edges to i p (ap (λ o. slice_get (preds_at o) i) old_at ∙ h)
    here (inr e) = subst (λ n. n < length blocks) (sym e) less

    by : (b ≡ to) ⊎ (b ≡ to → ⊥) → p < length blocks
    by (inl e) =
        here (get_pushed old.preds.items from p i
        (ap (λ xs. slice_get xs i) (sym is) ∙ ap (λ o. slice_get (preds_at o) i) (sym (set_same blocks to new within)) ∙ ap (λ n. slice_get (preds_at (slice_get (set blocks to new) n)) i) (sym e) ∙ at))
    by (inr d) = edges b i p (ap (λ o. slice_get (preds_at o) i) (sym (set_other blocks to b new d)) ∙ at)

-- ---- one operand more

pub sees_self : (s : Seen) (phi operand : ℕ) (before : List ℕ) → operand ≡ phi → Sees s phi before → Sees s phi (before ++ operand ∷ [])
sees_self seen.Nothing phi operand before same h = λ i x at. by i x (get_pushed before operand x i at)
  where
    by : (i x : ℕ) → (slice_get before i ≡ Some x) ⊎ (x ≡ operand) → x ≡ phi
    by i x (inl is) = h i x is
    by i x (inr e) = e ∙ same
sees_self (seen.One only) phi operand before same h = record {
  index = h.index;
  is = get_front before (operand ∷ []) h.index only h.is;
  differs = h.differs;
  each = λ i x at. by i x (get_pushed before operand x i at);
}
  where
    by : (i x : ℕ) → (slice_get before i ≡ Some x) ⊎ (x ≡ operand) → (x ≡ phi) ⊎ (x ≡ only)
    by i x (inl is) = h.each i x is
    by i x (inr e) = inl (e ∙ same)
sees_self seen.More phi operand before same h = two_more phi operand before h
  where
    two_more : (phi operand : ℕ) (before : List ℕ) → AreTwo before phi → AreTwo (before ++ operand ∷ []) phi
    two_more phi operand before h = record {
      i = h.i;
      a = h.a;
      a_is = get_front before (operand ∷ []) h.i h.a h.a_is;
      a_differs = h.a_differs;
      j = h.j;
      b = h.b;
      b_is = get_front before (operand ∷ []) h.j h.b h.b_is;
      b_differs = h.b_differs;
      apart = h.apart;
    }

pub sees_first : (s : Seen) (phi operand : ℕ) (before : List ℕ) → s ≡ seen.Nothing → (operand ≡ phi → ⊥) → Sees s phi before → IsOnly (before ++ operand ∷ []) phi operand
sees_first s phi operand before is differs h = record {
  index = length before;
  is = get_last before operand;
  differs = differs;
  each = λ i x at. by i x (get_pushed before operand x i at);
}
  where
    none : Sees seen.Nothing phi before
    none = subst (λ t. Sees t phi before) is h

    by : (i x : ℕ) → (slice_get before i ≡ Some x) ⊎ (x ≡ operand) → (x ≡ phi) ⊎ (x ≡ operand)
    by i x (inl at) = inl (none i x at)
    by i x (inr e) = inr e

pub sees_again : (s : Seen) (phi operand only : ℕ) (before : List ℕ) → s ≡ seen.One only → only ≡ operand → Sees s phi before → IsOnly (before ++ operand ∷ []) phi only
sees_again s phi operand only before is same h = record {
  index = one.index;
  is = get_front before (operand ∷ []) one.index only one.is;
  differs = one.differs;
  each = λ i x at. by i x (get_pushed before operand x i at);
}
  where
    one : IsOnly before phi only
    one = subst (λ t. Sees t phi before) is h

    by : (i x : ℕ) → (slice_get before i ≡ Some x) ⊎ (x ≡ operand) → (x ≡ phi) ⊎ (x ≡ only)
    by i x (inl at) = one.each i x at
    by i x (inr e) = inr (e ∙ sym same)

pub sees_other : (s : Seen) (phi operand only : ℕ) (before : List ℕ) → s ≡ seen.One only → (only ≡ operand → ⊥) → (operand ≡ phi → ⊥) → Sees s phi before → AreTwo (before ++ operand ∷ []) phi
sees_other s phi operand only before is apart differs h = record {
  i = one.index;
  a = only;
  a_is = get_front before (operand ∷ []) one.index only one.is;
  a_differs = one.differs;
  j = length before;
  b = operand;
  b_is = get_last before operand;
  b_differs = differs;
  apart = apart;
}
  where
    one : IsOnly before phi only
    one = subst (λ t. Sees t phi before) is h

pub sees_more : (s : Seen) (phi operand : ℕ) (before : List ℕ) → s ≡ seen.More → Sees s phi before → AreTwo (before ++ operand ∷ []) phi
sees_more s phi operand before is h = record {
  i = two.i;
  a = two.a;
  a_is = get_front before (operand ∷ []) two.i two.a two.a_is;
  a_differs = two.a_differs;
  j = two.j;
  b = two.b;
  b_is = get_front before (operand ∷ []) two.j two.b two.b_is;
  b_differs = two.b_differs;
  apart = two.apart;
}
  where
    two : AreTwo before phi
    two = subst (λ t. Sees t phi before) is h

pub not_only_two : (operands : List ℕ) (phi only : ℕ) → AreTwo operands phi → IsOnly operands phi only → ⊥
not_only_two operands phi only h one = by (one.each h.i h.a h.a_is) (one.each h.j h.b h.b_is)
  where
    by : (h.a ≡ phi) ⊎ (h.a ≡ only) → (h.b ≡ phi) ⊎ (h.b ≡ only) → ⊥
    by (inl e) f = h.a_differs e
    by (inr e) (inl f) = h.b_differs f
    by (inr e) (inr f) = h.apart (e ∙ sym f)

pub edge_same : (blocks : List ListBlock) (to : ℕ) (old new : ListBlock) → EdgesAreThere blocks → to < length blocks → old ≡ get_or blocks to old → new.preds.items ≡ old.preds.items
    → EdgesAreThere (set blocks to new)
edge_same blocks to old new edges within was is b i p at = subst (λ n. p < n) (sym (length-set blocks to new)) (by (cases_eq b to))
  where
    old_at : slice_get blocks to ≡ Some old
    old_at = slice_get-get_or blocks to old within ∙ ap Some (sym was)

    by : (b ≡ to) ⊎ (b ≡ to → ⊥) → p < length blocks
    by (inl e) =
        edges to i p
        (ap (λ o. slice_get (preds_at o) i) old_at ∙ ap (λ xs. slice_get xs i) (sym is) ∙ ap (λ o. slice_get (preds_at o) i) (sym (set_same blocks to new within))
        ∙ ap (λ n. slice_get (preds_at (slice_get (set blocks to new) n)) i) (sym e) ∙ at)
    by (inr d) = edges b i p (ap (λ o. slice_get (preds_at o) i) (sym (set_other blocks to b new d)) ∙ at)

pub if_none_map : {X A B : Type 0} (o : Option X) → (A → B) → IfNone o A → IfNone o B
if_none_map (Some x) f h = tt
if_none_map None f h = f h

pub only_from : (s : Shape ℕ) (p only : ℕ) (xs : List ℕ) → s.kind p ≡ phi_kind xs → HasOnly s p only → IsOnly xs p only
only_from s p only xs is h = record {
  index = h.among.0;
  is =
      ap (λ ys. slice_get ys h.among.0) same ∙ slice_get-get_or h.operands h.among.0 only h.among.1 ∙ ap (λ x. Some x) h.among.2;
  differs = h.differs;
  each = λ i x at.
      let there = ap (λ ys. slice_get ys i) (sym same) ∙ at in
      h.each x (i, slice_get_within h.operands i x there, get_or_from_slice_get h.operands i x x there);
}
  where
    lists : (kind : ValueKind ℕ) (ys zs : List ℕ) → kind ≡ phi_kind ys → kind ≡ phi_kind zs → ys ≡ zs
    lists kind ys zs e f = grind (arith, e, f)

    same : xs ≡ h.operands
    same = lists (s.kind p) xs h.operands is h.kind_is

pub value_kind : (values : List ListValue) (p : ℕ) (v : ListValue) (operands : List ℕ) → v ≡ get_or values p v → kind_at (slice_get values p) ≡ phi_kind operands
    → kind_at (slice_get values p) ≡ phi_kind v.operands.items
value_kind values p v operands at is = ap kind_at found ∙ by v.tag refl
  where
    within : (o : Option ListValue) → slice_get values p ≡ o → p < length values
    within (Some x) e = slice_get_within values p x e
    within None e = absurd (grind (arith, sym (ap kind_at e) ∙ is))

    found : slice_get values p ≡ Some v
    found = slice_get-get_or values p v (within (slice_get values p) refl) ∙ ap Some (sym at)

    known : kind_of v.tag v.operands.items ≡ phi_kind operands
    known = ap kind_at (sym found) ∙ is

    by : (t : Tag) → v.tag ≡ t → kind_of v.tag v.operands.items ≡ phi_kind v.operands.items
    by tag.Phi e = ap (λ t. kind_of t v.operands.items) e
    by tag.Gone e = absurd (grind (arith, sym (ap (λ t. kind_of t v.operands.items) e) ∙ known))
    by tag.Unknown e = absurd (grind (arith, sym (ap (λ t. kind_of t v.operands.items) e) ∙ known))
    by tag.Other e = absurd (grind (arith, sym (ap (λ t. kind_of t v.operands.items) e) ∙ known))

pub sees_whole : (s : Seen) (phi : ℕ) (operands : List ℕ) (i : ℕ) → length operands ≤ i → Sees s phi (take i operands) → Sees s phi operands
sees_whole s phi operands i le h = subst (λ xs. Sees s phi xs) (take_all i operands le) h

pub only_seen : (s : Seen) (phi only : ℕ) (operands : List ℕ) → s ≡ seen.One only → Sees s phi operands → IsOnly operands phi only
only_seen s phi only operands is h = subst (λ t. Sees t phi operands) is h

pub none_seen : (s : Seen) (phi : ℕ) (operands : List ℕ) → ((only : ℕ) → s ≡ seen.One only → ⊥) → Sees s phi operands → (only : ℕ) → IsOnly operands phi only → ⊥
none_seen seen.Nothing phi operands other h only one = one.differs (h one.index only one.is)
none_seen (seen.One x) phi operands other h only one = other x refl
none_seen seen.More phi operands other h only one = not_only_two operands phi only h one
