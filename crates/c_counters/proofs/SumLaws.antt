-- Sums over judgements.
use Rattle.std.proofs.Common.{◌≡◌, ◌⊎◌, inl, inr, ℕ, zero, suc, ◌+◌, ◌-◌, ◌*◌, ◌<◌, ◌≤◌, List, [], ◌∷◌, ◌++◌, length, refl, sym, ap, ◌∙◌, subst, arith, get_or, take, drop, map}
use Rattle.std.specs.Prelude.{sum}
use Rattle.std.proofs.lemmas.Bool.{cases_lt}
use Rattle.std.proofs.lemmas.List.{drop_all, length_push, take_all}
use Rattle.std.proofs.lemmas.List.Sums.{sum-map, sum_by-take-drop, sum_by_push}
use Rattle.c_typing.specs.Judgements.{Judgement, hidden_in}
use Rattle.c_counters.specs.Counters.{AreSums}

abbrev pub taken : List Judgement → ℕ
taken js = sum (map hidden_in js)

pub taken_split : (js : List Judgement) (k : ℕ) → taken (take k js) + taken (drop k js) ≡ taken js
taken_split js k =
    let a = sum-map hidden_in (take k js) in
    let b = sum-map hidden_in (drop k js) in
    let c = sum-map hidden_in js in
    let d = sum_by-take-drop hidden_in js k in
    omega (arith, a, b, c, d)

taken_push : (js : List Judgement) (j : Judgement) → taken (js ++ j ∷ []) ≡ taken js + hidden_in j
taken_push js j =
    let a = sum-map hidden_in (js ++ j ∷ []) in
    let b = sum-map hidden_in js in
    let c = sum_by_push hidden_in js j in
    omega (arith, a, b, c)

take_front : (js : List Judgement) (j : Judgement) (k : ℕ) → k ≤ length js → take k (js ++ j ∷ []) ≡ take k js
take_front js j zero h = refl
take_front [] j (suc k) h = absurd (omega (arith, h))
take_front (x ∷ js) j (suc k) h = ap (λ r. x ∷ r) (take_front js j k (omega (arith, h)))

front_at : (xs : List ℕ) (y k : ℕ) → k < length xs → get_or (xs ++ y ∷ []) k 0 ≡ get_or xs k 0
front_at [] y k h = absurd (omega (arith, h))
front_at (x ∷ xs) y zero h = refl
front_at (x ∷ xs) y (suc k) h = front_at xs y k (omega (arith, h))

last_at : (xs : List ℕ) (y : ℕ) → get_or (xs ++ y ∷ []) (length xs) 0 ≡ y
last_at [] y = refl
last_at (x ∷ xs) y = last_at xs y

less_or : (k n : ℕ) → k ≤ n + 1 → (k ≤ n) ⊎ (k ≡ n + 1)
less_or k n h = by (cases_lt n k)
  where
    by : (n < k) ⊎ (k ≤ n) → (k ≤ n) ⊎ (k ≡ n + 1)
    by (inl b) = inr (omega (arith, b, h))
    by (inr a) = inl a

-- the last of the sums is that of all
pub whole_is : (js : List Judgement) (sums : List ℕ) → AreSums js sums → get_or sums (length sums - 1) 0 ≡ taken js
whole_is js sums a =
    let long = a.long in
    ap (λ k. get_or sums k 0) {x = length sums - 1} {y = length js} (omega (arith, long))
    ∙ (a.are (length js) (omega arith) ∙ ap taken (take_all (length js) js (omega arith)))

pub from_is : (js : List Judgement) (sums : List ℕ) → AreSums js sums → (first : ℕ) → first < length sums → get_or sums (length sums - 1) 0 - get_or sums first 0 ≡ taken (drop first js)
from_is js sums a first within =
    let long = a.long in
    let all = whole_is js sums a in
    let front = a.are first (omega (arith, within, long)) in
    let parts = taken_split js first in
    omega (arith, all, front, parts)

pub no_more : (js : List Judgement) (sums : List ℕ) → AreSums js sums → (first : ℕ) → first < length sums → get_or sums first 0 ≤ get_or sums (length sums - 1) 0
no_more js sums a first within =
    let long = a.long in
    let all = whole_is js sums a in
    let front = a.are first (omega (arith, within, long)) in
    let parts = taken_split js first in
    omega (arith, all, front, parts)

pub whole_few : (js : List Judgement) (sums : List ℕ) → AreSums js sums → get_or sums (length sums - 1) 0 ≤ 2 * (length sums - 1)
whole_few js sums a =
    let long = a.long in
    let at : length sums - 1 ≡ length js = omega (arith, long) in
    subst (λ k. get_or sums k 0 ≤ 2 * k) (sym at) (a.few (length js) (omega arith))

pub past_is : (js : List Judgement) (sums : List ℕ) → AreSums js sums → (first : ℕ) → length sums ≤ first → 0 ≡ taken (drop first js)
past_is js sums a first past = let long = a.long in sym (ap taken (drop_all first js (omega (arith, past, long))))

pub no_sums : AreSums [] (0 ∷ [])
no_sums = record { long = refl; are = λ k low. first k low; few = λ k low. small k low }
  where
    zero_so : (k : ℕ) → k ≤ 0 → k ≡ 0
    zero_so k low = omega (arith, low)

    first : (k : ℕ) → k ≤ 0 → get_or (0 ∷ []) k 0 ≡ taken (take k [])
    first k low = subst (λ k. get_or (0 ∷ []) k 0 ≡ taken (take k [])) (sym (zero_so k low)) refl

    small : (k : ℕ) → k ≤ 0 → get_or (0 ∷ []) k 0 ≤ 2 * k
    small k low = subst (λ k. get_or (0 ∷ []) k 0 ≤ 2 * k) (sym (zero_so k low)) (omega arith)

pub one_more : (js : List Judgement) (j : Judgement) (sums : List ℕ) (next : ℕ) → AreSums js sums → hidden_in j ≤ 2 → next ≡ get_or sums (length sums - 1) 0 + hidden_in j → AreSums (js ++ j ∷ []) (sums ++ next ∷ [])
one_more js j sums next a few is = record {
  long = (let more = length_push sums next in let one = length_push js j in let long = a.long in omega (arith, more, one, long));
  are = λ k low. are k (less_or k (length js) (let one = length_push js j in omega (arith, one, low)));
  few = λ k low. small k (less_or k (length js) (let one = length_push js j in omega (arith, one, low)));
}
  where
    last : (k : ℕ) → k ≡ length js + 1 → get_or (sums ++ next ∷ []) k 0 ≡ next
    last k at = ap (λ i. get_or (sums ++ next ∷ []) i 0) (at ∙ sym a.long) ∙ last_at sums next

    front : (k : ℕ) → k ≤ length js → get_or (sums ++ next ∷ []) k 0 ≡ get_or sums k 0
    front k low = let long = a.long in front_at sums next k (omega (arith, low, long))

    are : (k : ℕ) → (k ≤ length js) ⊎ (k ≡ length js + 1) → get_or (sums ++ next ∷ []) k 0 ≡ taken (take k (js ++ j ∷ []))
    are k (inl low) = front k low ∙ (a.are k low ∙ sym (ap taken (take_front js j k low)))
    are k (inr at) =
        let one = length_push js j in
        last k at ∙ (is ∙ (ap (λ n. n + hidden_in j) (whole_is js sums a) ∙ (sym (taken_push js j) ∙ sym (ap taken (take_all k (js ++ j ∷ []) (omega (arith, at, one)))))))

    small : (k : ℕ) → (k ≤ length js) ⊎ (k ≡ length js + 1) → get_or (sums ++ next ∷ []) k 0 ≤ 2 * k
    small k (inl low) = subst (λ n. n ≤ 2 * k) (sym (front k low)) (a.few k low)
    small k (inr at) = subst (λ n. n ≤ 2 * k) (sym (last k at)) (let low = whole_few js sums a in let long = a.long in omega (arith, low, long, few, is, at))
