-- Sizes stay the same while more nodes are judged.
use Rattle.std.proofs.Common.{◌≡◌, inl, inr, ℕ, ◌≤◌, ◌*◌, true, false, List, ◌++◌, Option, Some, None, refl, sym, ap, ◌∙◌, subst, true≢false, unwrap_or}
use Rattle.std.specs.Prelude.{take, option_map, ◌==◌}
use Rattle.std.specs.Option.{is_some}
use Rattle.c_types.specs.declared.kind.Measure.{Measure}
use Rattle.c_types.specs.Sizes.{array_measure}
use Rattle.c_typing.specs.Types.{CType, void, integer, pointer, array, unsized, struct, function, Layout, layout_of, measure, no_measure, has_size, size_of, element_of}
use Rattle.c_typing.specs.Judgements.{Judgement, layouts}
use Rattle.c_typing.specs.Initializers.{completed}
use Rattle.c_typing.proofs.ProgressTargets.{layouts_front, found_front, take_split}
use Rattle.c_typing.proofs.ProgressCompleted.{completed_other}
use Rattle.c_typing.proofs.MadeCellsTypes.{MayHold, sized_length, array_size}

no : {A : Type 0} → false ≡ true → A
no e = absurd (true≢false (sym e))

pub measure_more : (ls more : List Layout) (t : CType) (m : Measure) → measure ls t ≡ Some m → measure (ls ++ more) t ≡ Some m
measure_more ls more (array t n) m e = mapped (measure ls t) (measure (ls ++ more) t) e (λ k h. measure_more ls more t k h)
  where
    mapped : (o q : Option Measure) → option_map (array_measure n) o ≡ Some m → ((k : Measure) → o ≡ Some k → q ≡ Some k) → option_map (array_measure n) q ≡ Some m
    mapped None q h g = absurd (cc h)
    mapped (Some k) q h g = ap (λ x. option_map (array_measure n) x) (g k refl) ∙ h
measure_more ls more (struct k) m e = found (layout_of ls k) (layout_of (ls ++ more) k) e (λ l f. found_front (λ l. l.number == k) ls more l f)
  where
    found : (o q : Option Layout) → option_map (λ (l : Layout). l.measure) o ≡ Some m → ((l : Layout) → o ≡ Some l → q ≡ Some l) → option_map (λ (l : Layout). l.measure) q ≡ Some m
    found None q h g = absurd (cc h)
    found (Some l) q h g = ap (λ x. option_map (λ (l : Layout). l.measure) x) (g l refl) ∙ h
measure_more ls more void m e = absurd (cc e)
measure_more ls more (integer k) m e = e
measure_more ls more (pointer t) m e = e
measure_more ls more (unsized t) m e = absurd (cc e)
measure_more ls more (function r ps) m e = absurd (cc e)

some_of : (o : Option Measure) → is_some o ≡ true → (m : Measure) × (o ≡ Some m)
some_of None e = no e
some_of (Some m) e = (m, refl)

pub size_more : (ls more : List Layout) (t : CType) → has_size ls t ≡ true → size_of (ls ++ more) t ≡ size_of ls t
size_more ls more t e =
    let m = some_of (measure ls t) e in
    ap (λ o. (unwrap_or o no_measure).size) (measure_more ls more t m.0 m.1 ∙ sym m.1)

pub sized_more : (ls more : List Layout) (t : CType) → has_size ls t ≡ true → has_size (ls ++ more) t ≡ true
sized_more ls more t e = let m = some_of (measure ls t) e in ap is_some (measure_more ls more t m.0 m.1)

pub done_more : (ls more : List Layout) (t : CType) (k : ℕ) → MayHold ls t → size_of (ls ++ more) (completed t (Some k)) ≡ size_of ls (completed t (Some k))
done_more ls more t k (inl h) =
    let same = completed_other t (Some k) (sized_length ls t h) in
    ap (λ u. size_of (ls ++ more) u) same ∙ (size_more ls more t h ∙ ap (λ u. size_of ls u) (sym same))
done_more ls more (unsized w) k (inr h) = array_size (ls ++ more) w k ∙ (ap (λ n. k * n) (size_more ls more w h.1) ∙ sym (array_size ls w k))
done_more ls more _ k (inr h) = no h.0

pub hold_more : (ls more : List Layout) (t : CType) → MayHold ls t → MayHold (ls ++ more) t
hold_more ls more t (inl h) = inl (sized_more ls more t h)
hold_more ls more t (inr h) = inr (h.0, sized_more ls more (element_of t) h.1)

-- of judgements
pub layouts_later : (js : List Judgement) (a b : ℕ) → a ≤ b → (more : List Layout) × (layouts (take b js) ≡ layouts (take a js) ++ more)
layouts_later js a b le = let r = take_split js a b le in (layouts r.0, ap (λ ks. layouts ks) r.1 ∙ layouts_front (take a js) r.0)

pub done_later : (js : List Judgement) (a b : ℕ) (t : CType) (k : ℕ) → a ≤ b → MayHold (layouts (take a js)) t → size_of (layouts (take b js)) (completed t (Some k)) ≡ size_of (layouts (take a js)) (completed t (Some k))
done_later js a b t k le h = let r = layouts_later js a b le in ap (λ ls. size_of ls (completed t (Some k))) r.1 ∙ done_more (layouts (take a js)) r.0 t k h

pub hold_later : (js : List Judgement) (a b : ℕ) (t : CType) → a ≤ b → MayHold (layouts (take a js)) t → MayHold (layouts (take b js)) t
hold_later js a b t le h = let r = layouts_later js a b le in subst (λ ls. MayHold ls t) (sym r.1) (hold_more (layouts (take a js)) r.0 t h)

pub sized_later : (js : List Judgement) (a b : ℕ) (t : CType) → a ≤ b → has_size (layouts (take a js)) t ≡ true → has_size (layouts (take b js)) t ≡ true
sized_later js a b t le h = let r = layouts_later js a b le in subst (λ ls. has_size ls t ≡ true) (sym r.1) (sized_more (layouts (take a js)) r.0 t h)

-- of a type that has got its length or not
pub any_more : (ls more : List Layout) (t : CType) (c : Option ℕ) → MayHold ls t → size_of (ls ++ more) (completed t c) ≡ size_of ls (completed t c)
any_more ls more t (Some k) h = done_more ls more t k h
any_more ls more t None (inl h) =
    let same = completed_other t None (sized_length ls t h) in
    ap (λ u. size_of (ls ++ more) u) same ∙ (size_more ls more t h ∙ ap (λ u. size_of ls u) (sym same))
any_more ls more (unsized w) None (inr h) = refl
any_more ls more _ None (inr h) = no h.0
