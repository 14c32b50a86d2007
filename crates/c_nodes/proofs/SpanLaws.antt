-- Spans that are painted, the inner ones over the outer ones.
use Rattle.std.proofs.Common.{◌≡◌, ◌⊎◌, inl, inr, ℕ, zero, suc, ◌+◌, ◌<◌, ◌≤◌, true, false, Bool, ◌&&◌, ◌||◌, List, [], ◌∷◌, length, map, refl, sym, ap, ap₂, ◌∙◌, subst, arith, replicate, drop, get_or, ◌-◌}
use Rattle.std.proofs.Math.Seq.{drop-cons}
use Rattle.std.specs.Prelude.{slice_set, nat_le, nat_lt, if◌then◌else◌}
use Rattle.std.specs.List.{range_with_len}
use Rattle.std.proofs.lemmas.Grind.{common_steps}
use Rattle.c_nodes.specs.declared.spans.Span.{Span}
use Rattle.c_nodes.specs.Spans.{IsSpanWithin, AreWithin, found_in, painted_from, painted}

-- nothing is painted where the bound is not behind the start
pub painted_none : (i from bound number : ℕ) (xs : List ℕ) → bound ≤ from → painted_from i from bound number xs ≡ xs
painted_none i from bound number [] low = refl
painted_none i from bound number (x ∷ xs) low = ap₂ (λ y ys. y ∷ ys) (ap (λ b. if b then number else x) outside) (painted_none (i + 1) from bound number xs low)
  where
    outside : (nat_le from i && nat_lt i bound) ≡ false
    outside = grind (arith, common_steps)

-- one more place
pub painted_next : (i from number j : ℕ) (xs : List ℕ) → j < length xs → from ≤ i + j
    → slice_set (painted_from i from (i + j) number xs) j number ≡ painted_from i from (i + j + 1) number xs
painted_next i from number j [] within low = absurd (omega (arith, within))
painted_next i from number zero (x ∷ xs) within low =
    ap₂ (λ y ys. y ∷ ys) here (same (i + 1) xs (omega arith))
  where
    here : number ≡ (if nat_le from i && nat_lt i (i + 0 + 1) then number else x)
    here = grind (arith, common_steps)

    outside : (k : ℕ) → i < k → (nat_le from k && nat_lt k (i + 0)) ≡ (nat_le from k && nat_lt k (i + 0 + 1))
    outside k past = grind (arith, common_steps)

    same : (k : ℕ) (ys : List ℕ) → i < k → painted_from k from (i + 0) number ys ≡ painted_from k from (i + 0 + 1) number ys
    same k [] past = refl
    same k (y ∷ ys) past = ap₂ (λ z zs. z ∷ zs) (ap (λ b. if b then number else y) (outside k past)) (same (k + 1) ys (omega (arith, past)))
painted_next i from number (suc j) (x ∷ xs) within low =
    ap₂ (λ y ys. y ∷ ys) (ap (λ b. if b then number else x) here)
    (ap (λ n. slice_set (painted_from (i + 1) from n number xs) j number) {x = i + suc j} (omega arith)
    ∙ painted_next (i + 1) from number j xs (omega (arith, within)) (omega (arith, low))
    ∙ ap (λ n. painted_from (i + 1) from n number xs) {x = i + 1 + j + 1} (omega arith))
  where
    here : (nat_le from i && nat_lt i (i + suc j)) ≡ (nat_le from i && nat_lt i (i + suc j + 1))
    here = grind (arith, common_steps)

-- the same from 0 on
pub one_more : (from number place : ℕ) (xs : List ℕ) → place < length xs → from ≤ place
    → slice_set (painted_from 0 from place number xs) place number ≡ painted_from 0 from (place + 1) number xs
one_more from number place xs within low =
    subst (λ n. slice_set (painted_from 0 from n number xs) place number ≡ painted_from 0 from (n + 1) number xs) {x = 0 + place} (omega arith)
    (painted_next 0 from number place xs within (omega (arith, low)))

-- the places of a function
pub painted_map : (f : ℕ → ℕ) (from to number a n : ℕ)
    → painted_from a from (to + 1) number (map f (range_with_len a n)) ≡ map (λ i. if nat_le from i && nat_le i to then number else f i) (range_with_len a n)
painted_map f from to number a zero = refl
painted_map f from to number a (suc n) = ap₂ (λ y ys. y ∷ ys) (ap (λ b. if b then number else f a) here) (painted_map f from to number (a + 1) n)
  where
    here : (nat_le from a && nat_lt a (to + 1)) ≡ (nat_le from a && nat_le a to)
    here = grind (arith, common_steps)

-- ---- the first span that a node stands in

-- counted from this index on
abbrev pub from_index : ℕ → List Span → ℕ → ℕ
from_index i spans n = i + found_in spans n

-- one more span, outside of which the others are as before
pub one_span : (span : Span) (spans : List Span) (i a count : ℕ)
    → painted_from a span.more_from (span.more_to + 1) i (painted_from a span.from (span.to + 1) i (map (from_index (i + 1) spans) (range_with_len a count)))
    ≡ map (from_index i (span ∷ spans)) (range_with_len a count)
one_span span spans i a count =
    ap (painted_from a span.more_from (span.more_to + 1) i) (painted_map (from_index (i + 1) spans) span.from span.to i a count)
    ∙ painted_map inner span.more_from span.more_to i a count
    ∙ same a count
  where
    inner : ℕ → ℕ
    inner n = if nat_le span.from n && nat_le n span.to then i else from_index (i + 1) spans n

    both : (p q : Bool) (k : ℕ) → (if q then i else (if p then i else i + 1 + k)) ≡ i + (if p || q then 0 else 1 + k)
    both true true k = omega arith
    both false true k = omega arith
    both true false k = omega arith
    both false false k = omega arith

    same : (a n : ℕ) → map (λ m. if nat_le span.more_from m && nat_le m span.more_to then i else inner m) (range_with_len a n) ≡ map (from_index i (span ∷ spans)) (range_with_len a n)
    same a zero = refl
    same a (suc n) =
        ap₂ (λ y ys. y ∷ ys) (both (nat_le span.from a && nat_le a span.to) (nat_le span.more_from a && nat_le a span.more_to) (found_in spans a)) (same (a + 1) n)

-- of no spans
pub none_yet : (spans : List Span) (count : ℕ) → replicate count (length spans) ≡ map (from_index (length spans) (drop (length spans) spans)) (range_with_len 0 count)
none_yet spans count = by 0 count ∙ ap (λ rest. map (from_index (length spans) rest) (range_with_len 0 count)) (sym (drop-all spans))
  where
    by : (a n : ℕ) → replicate n (length spans) ≡ map (from_index (length spans) []) (range_with_len a n)
    by a zero = refl
    by a (suc n) = ap₂ (λ y ys. y ∷ ys) (omega arith) (by (a + 1) n)

    drop-all : (ss : List Span) → drop (length ss) ss ≡ []
    drop-all [] = refl
    drop-all (s ∷ ss) = drop-all ss

-- from the first one on
pub all_spans : (spans : List Span) (a count : ℕ) → map (from_index 0 spans) (range_with_len a count) ≡ map (found_in spans) (range_with_len a count)
all_spans spans a zero = refl
all_spans spans a (suc n) = ap₂ (λ y ys. y ∷ ys) (omega arith) (all_spans spans (a + 1) n)

-- the span before those that are painted
module _ (spans : List Span) (left : ℕ) (some : 0 < left) (within : left ≤ length spans) (d : Span) where
  at : Span
  at = get_or spans (left - 1) d

  pub cut : drop (left - 1) spans ≡ get_or spans (left - 1) d ∷ drop left spans
  cut = drop-cons spans (left - 1) d (omega (arith, some, within)) ∙ ap (λ n. get_or spans (left - 1) d ∷ drop n spans) {x = suc (left - 1)} {y = left} (omega (arith, some))

  pub span_before : (count : ℕ) (xs : List ℕ) → xs ≡ map (from_index left (drop left spans)) (range_with_len 0 count)
      → painted (get_or spans (left - 1) d).more_from (get_or spans (left - 1) d).more_to (left - 1)
      (painted (get_or spans (left - 1) d).from (get_or spans (left - 1) d).to (left - 1) xs)
      ≡ map (from_index (left - 1) (drop (left - 1) spans)) (range_with_len 0 count)
  unfolding at
  span_before count xs e =
      let step = one_span at (drop left spans) (left - 1) 0 count in
      ap (λ ys. painted at.more_from at.more_to (left - 1) (painted at.from at.to (left - 1) ys))
      (e ∙ ap (λ n. map (from_index n (drop left spans)) (range_with_len 0 count)) (omega (arith, some)))
      ∙ step ∙ ap (λ rest. map (from_index (left - 1) rest) (range_with_len 0 count)) (sym cut)

-- what is painted up to a bound that is reached, or that is not behind the start
pub painted_end : (from to place number : ℕ) (xs : List ℕ) → to + 1 ≤ place → (place ≡ from) ⊎ (place ≤ to + 1)
    → painted_from 0 from place number xs ≡ painted_from 0 from (to + 1) number xs
painted_end from to place number xs past (inl e) =
    painted_none 0 from place number xs (omega (arith, e)) ∙ sym (painted_none 0 from (to + 1) number xs (omega (arith, past, e)))
painted_end from to place number xs past (inr low) = ap (λ n. painted_from 0 from n number xs) (omega (arith, past, low))

-- each of the spans is within so many places
pub within_at : (count : ℕ) (spans : List Span) (i : ℕ) (d : Span) → AreWithin count spans → i < length spans
    → IsSpanWithin count (get_or spans i d).from (get_or spans i d).to × IsSpanWithin count (get_or spans i d).more_from (get_or spans i d).more_to
within_at count [] i d all within = absurd (omega (arith, within))
within_at count (span ∷ spans) zero d all within = all.0
within_at count (span ∷ spans) (suc i) d all within = within_at count spans i d all.1 (omega (arith, within))

pub length-painted : (i from bound number : ℕ) (xs : List ℕ) → length (painted_from i from bound number xs) ≡ length xs
length-painted i from bound number [] = refl
length-painted i from bound number (x ∷ xs) = ap suc (length-painted (i + 1) from bound number xs)

-- what stands at a place
pub painted_at : (from to number : ℕ) (xs : List ℕ) (i : ℕ)
    → get_or (painted from to number xs) i 0 ≡ (if nat_le from i && (nat_le i to && nat_lt i (length xs)) then number else get_or xs i 0)
painted_at from to number xs i = by 0 xs i ∙ ap (λ k. if nat_le from k && (nat_le k to && nat_lt i (length xs)) then number else get_or xs i 0) {x = 0 + i} (omega arith)
  where
    same : (p : Bool) (k to : ℕ) (x : ℕ) → (if p && nat_lt k (to + 1) then number else x) ≡ (if p && (nat_le k to && true) then number else x)
    same p k to x = grind (arith, common_steps)

    by : (a : ℕ) (xs : List ℕ) (i : ℕ) → get_or (painted_from a from (to + 1) number xs) i 0
        ≡ (if nat_le from (a + i) && (nat_le (a + i) to && nat_lt i (length xs)) then number else get_or xs i 0)
    by a [] i = none (nat_le from (a + i)) (nat_le (a + i) to)
      where
        none : (p q : Bool) → 0 ≡ (if p && (q && nat_lt i 0) then number else 0)
        none p q = grind (arith, common_steps)
    by a (x ∷ xs) zero = grind (arith, common_steps)
    by a (x ∷ xs) (suc i) =
        by (a + 1) xs i
        ∙ ap₂ (λ k b. if nat_le from k && (nat_le k to && b) then number else get_or xs i 0) {u = nat_lt i (length xs)} {v = nat_lt (suc i) (suc (length xs))} (omega arith) (grind (arith, common_steps))
