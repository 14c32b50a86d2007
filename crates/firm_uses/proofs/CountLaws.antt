-- Laws on how often a number stands in a list.
use Rattle.std.proofs.Common.{◌≡◌, ◌≢◌, ◌==◌, ℕ, zero, suc, ◌+◌, ◌<◌, ◌≤◌, List, [], ◌∷◌, ◌++◌, length, take, drop, map, get_or, set, refl, sym, ap, ap₂, ◌∙◌, arith, if◌then◌else◌, cond, inl, inr}
use Rattle.std.proofs.lemmas.Bool.{cases_eq, eq-eqb, ne_eqb}
use Rattle.std.proofs.lemmas.Bool.Decides.{nat_tests}
use Rattle.std.proofs.lemmas.List.{length-set, get_or-set_same, get_or-set_other}
use Rattle.std.specs.List.{remove}
use Rattle.cp_obstack.specs.Lists.{list_of}
use Rattle.firm_uses.specs.Counts.{times, renamed}

-- 1 where the two are equal
abbrev pub one : ℕ → ℕ → ℕ
one x y = if y == x then 1 else 0

pub times-append : (x : ℕ) (a b : List ℕ) → times x (a ++ b) ≡ times x a + times x b
times-append x [] b = omega arith
times-append x (y ∷ a) b = omega (arith, times-append x a b)

pub times_push : (x : ℕ) (a : List ℕ) (y : ℕ) → times x (a ++ y ∷ []) ≡ times x a + one x y
times_push x a y = omega (arith, times-append x a (y ∷ []))

pub times-set : (x : ℕ) (l : List ℕ) (i v d : ℕ) → i < length l → times x (set l i v) + one x (get_or l i d) ≡ times x l + one x v
times-set x [] i v d h = absurd (omega arith)
times-set x (y ∷ l) zero v d h = omega arith
times-set x (y ∷ l) (suc i) v d h = omega (arith, times-set x l i v d (omega arith))

pub times-last : (x : ℕ) (l : List ℕ) (n d : ℕ) → length l ≡ suc n → times x (take n l) + one x (get_or l n d) ≡ times x l
times-last x [] n d h = absurd (omega arith)
times-last x (y ∷ []) zero d h = omega arith
times-last x (y ∷ z ∷ l) zero d h = absurd (omega arith)
times-last x (y ∷ l) (suc n) d h = omega (arith, times-last x l n d (omega arith))

pub times-remove : (x : ℕ) (l : List ℕ) (i d : ℕ) → i < length l → times x (remove l i) + one x (get_or l i d) ≡ times x l
times-remove x [] i d h = absurd (omega arith)
times-remove x (y ∷ l) zero d h = omega arith
times-remove x (y ∷ l) (suc i) d h = omega (arith, times-remove x l i d (omega arith))

pub times_found : (x : ℕ) (l : List ℕ) (i d : ℕ) → i < length l → get_or l i d ≡ x → 0 < times x l
times_found x [] i d h e = absurd (omega arith)
times_found x (y ∷ l) zero d h e = grind (arith, nat_tests)
times_found x (y ∷ l) (suc i) d h e = omega (arith, times_found x l i d (omega arith) e)

-- ---- looking for a number

pub times_front : (x : ℕ) (l : List ℕ) (n d : ℕ) → n < length l → times x (take (suc n) l) ≡ times x (take n l) + one x (get_or l n d)
times_front x [] n d h = absurd (omega arith)
times_front x (y ∷ l) zero d h = omega arith
times_front x (y ∷ l) (suc n) d h = omega (arith, times_front x l n d (omega arith))

pub one_other : (x y : ℕ) → y ≢ x → one x y ≡ 0
one_other x y ne = ap (λ b. cond b 1 0) (ne_eqb y x ne)

pub one_same : (x : ℕ) → one x x ≡ 1
one_same x = ap (λ b. cond b 1 0) (eq-eqb x x refl)

pub times_some : (x : ℕ) (l : List ℕ) → 0 < times x l → 0 < length l
times_some x [] h = absurd (omega arith)
times_some x (y ∷ l) h = omega arith

pub times_rest : (x : ℕ) (l : List ℕ) (n d : ℕ) → n < length l → times x (drop n l) ≡ one x (get_or l n d) + times x (drop (suc n) l)
times_rest x [] n d h = absurd (omega arith)
times_rest x (y ∷ l) zero d h = refl
times_rest x (y ∷ l) (suc n) d h = times_rest x l n d (omega arith)

pub times_take_le : (x : ℕ) (l : List ℕ) (n : ℕ) → times x (take n l) ≤ times x l
times_take_le x l zero = omega arith
times_take_le x [] (suc n) = omega arith
times_take_le x (y ∷ l) (suc n) = omega (arith, times_take_le x l n)

-- a row in which something stands is there
pub row_is_there : (rows : List (List ℕ)) (k x : ℕ) → 0 < times x (list_of rows k) → k < length rows
row_is_there [] k x h = absurd (omega arith)
row_is_there (r ∷ rows) zero x h = omega arith
row_is_there (r ∷ rows) (suc k) x h = omega (arith, row_is_there rows k x h)

-- the last number moves to the place, and the list is cut
pub times_moved : (x : ℕ) (l : List ℕ) (place last moved : ℕ) → place < length l → suc last ≡ length l → moved ≡ get_or l last 0
    → times x (take last (set l place moved)) + one x (get_or l place 0) ≡ times x l
times_moved x l place last moved h e m =
    let cut = times-last x (set l place moved) last 0 (length-set l place moved ∙ sym e) in
    let put = times-set x l place moved 0 h in
    elim (cases_eq last place) [
      | inl same ↦ omega (arith, cut, put, ap (one x) (ap (λ i. get_or (set l place moved) i 0) same ∙ get_or-set_same l place moved 0 h))
      | inr ne ↦ omega (arith, cut, put, ap (one x) (get_or-set_other l place last moved 0 ne ∙ sym m))
    ]

-- ---- numbers that are renamed

pub renamed_other : (old to x : ℕ) → x ≢ old → renamed old to x ≡ x
renamed_other old to x ne = ap (λ b. cond b to x) (ne_eqb x old ne)

pub renamed_old : (old to : ℕ) → renamed old to old ≡ to
renamed_old old to = ap (λ b. cond b to old) (eq-eqb old old refl)

pub none_renamed : (old to : ℕ) (l : List ℕ) → times old l ≡ 0 → map (renamed old to) l ≡ l
none_renamed old to [] h = refl
none_renamed old to (x ∷ l) h = elim (cases_eq x old) [
  | inl same ↦ absurd (omega (arith, h, ap (one old) same, one_same old))
  | inr ne ↦ ap₂ (λ a b. a ∷ b) (renamed_other old to x ne) (none_renamed old to l (omega (arith, h)))
]

pub times_renamed_old : (old to : ℕ) (l : List ℕ) → to ≢ old → times old (map (renamed old to) l) ≡ 0
times_renamed_old old to [] ne = refl
times_renamed_old old to (x ∷ l) ne = elim (cases_eq x old) [
  | inl same ↦ omega (arith, times_renamed_old old to l ne, ap (one old) (ap (renamed old to) same ∙ renamed_old old to), one_other old to ne)
  | inr other ↦ omega (arith, times_renamed_old old to l ne, ap (one old) (renamed_other old to x other), one_other old x other)
]

pub times_renamed_to : (old to : ℕ) (l : List ℕ) → to ≢ old → times to (map (renamed old to) l) ≡ times to l + times old l
times_renamed_to old to [] ne = refl
times_renamed_to old to (x ∷ l) ne = elim (cases_eq x old) [
  | inl same ↦ omega (
    arith,
    times_renamed_to old to l ne,
    ap (one to) (ap (renamed old to) same ∙ renamed_old old to),
    one_same to,
    ap (one old) same,
    one_same old,
    ap (one to) same,
    one_other to old (λ e. ne (sym e)),
  )
  | inr other ↦ omega (arith, times_renamed_to old to l ne, ap (one to) (renamed_other old to x other), one_other old x other)
]

pub times_renamed_other : (old to x : ℕ) (l : List ℕ) → x ≢ old → x ≢ to → times x (map (renamed old to) l) ≡ times x l
times_renamed_other old to x [] a b = refl
times_renamed_other old to x (y ∷ l) a b = elim (cases_eq y old) [
  | inl same ↦ omega (
    arith,
    times_renamed_other old to x l a b,
    ap (one x) (ap (renamed old to) same ∙ renamed_old old to),
    one_other x to (λ e. b (sym e)),
    ap (one x) same,
    one_other x old (λ e. a (sym e)),
  )
  | inr other ↦ omega (arith, times_renamed_other old to x l a b, ap (one x) (renamed_other old to y other))
]

pub renamed_twice : (old to : ℕ) (l : List ℕ) → to ≢ old → map (renamed old to) (map (renamed old to) l) ≡ map (renamed old to) l
renamed_twice old to l ne = none_renamed old to (map (renamed old to) l) (times_renamed_old old to l ne)
