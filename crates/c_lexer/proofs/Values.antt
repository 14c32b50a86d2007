-- The number that digits write never falls.
use Rattle.std.proofs.Common.{◌≡◌, ℕ, suc, ◌+◌, ◌*◌, ◌<◌, ◌≤◌, ⊎_elim, List, [], ◌∷◌, sym, ap, ◌∙◌, arith, length, drop, get_or}
use Rattle.std.specs.Char.{digit_value}
use Rattle.std.specs.Str.Parse.{digits_value, digits_value_after}
use Rattle.std.proofs.lemmas.Bool.{cases_lt}
use Rattle.std.proofs.lemmas.List.{drop_more}
use Rattle.std.proofs.Math.Nat.{le-mul_of_pos_right}

grows : (base n : ℕ) (digits : List ℕ) → 0 < base → n ≤ digits_value_after base n digits
grows base n [] h = omega arith
grows base n (d ∷ digits) h =
    let on = grows base (n * base + digit_value d) digits h in
    let more = le-mul_of_pos_right n h in
    omega (arith, on, more)

-- a number that does not fit
pub no_fit : (n limit : ℕ) → (n < suc limit → ⊥) → limit < n
no_fit n limit h = ⊎_elim (λ lt. absurd (h lt)) (λ ge. omega (arith, ge)) (cases_lt n (suc limit))

-- where one digit more passes a limit, the whole number does
pub passes : (limit base value index : ℕ) (digits : List ℕ) → 0 < base → index < length digits → digits_value_after base value (drop index digits) ≡ digits_value base digits → limit < value * base + digit_value (get_or digits index 0) → limit < digits_value base digits
passes limit base value index digits h lt e over =
    let on = grows base (value * base + digit_value (get_or digits index 0)) (drop (index + 1) digits) h in
    let same = sym e ∙ ap (digits_value_after base value) (drop_more digits index 0 lt) in
    omega (arith, on, over, same)
