-- A shift of a number with a sign, on the words: the bits that come in are the sign.
use Rattle.std.proofs.Common.{◌≡◌, refl, sym, ap, ◌∙◌, ℕ, suc, ◌+◌, ◌-◌, ◌*◌, ◌/◌, ◌%◌, ◌^◌, ◌<◌, ◌≤◌, ⊎_elim, arith, ℤ, negsuc, Bool, nat_lt, true, false, cond, w32}
use Rattle.std.specs.Int.{cast_signed, cast_unsigned, int_shr}
use Rattle.std.proofs.lemmas.Nat.{div-mul-add, div-add-mod', pow-add, pow_pos}
use Rattle.std.proofs.lemmas.Bool.{cases_lt, cond_below, cond_above}
use Rattle.std.proofs.lemmas.Int.{to_z_pos, of_z-to_z}
use Rattle.std.proofs.Math.Facts.{to_z-neg}
use Rattle.std.proofs.Math.Nat.{mod-lt, mod-eq_of_lt, div-lt_iff_lt-mul}
use Rattle.std.proofs.Math.Pow.{pow_mono}
use Rattle.cp_base.specs.Words.{sign_extended}

mul_parts : (m q p : ℕ) → (m + suc q) * p ≡ m * p + (q * p + p)
mul_parts m q p = grind arith

complement_apart : (n a m q p r : ℕ) → n ≡ m + suc q → a ≡ q * p + r → r < p → n * p - suc a ≡ m * p + (p - suc r)
complement_apart n a m q p r whole parts below = rw (whole, parts) (omega (arith, mul_parts m q p, below))

-- the quotient of the complement of a is the complement of the quotient
complement : (n p a : ℕ) → 0 < p → a / p < n → (n * p - suc a) / p ≡ n - suc (a / p)
complement n p a some below =
    let whole : n ≡ n - suc (a / p) + suc (a / p) = omega (arith, below) in
    let rest : a % p < p = mod-lt a some in
    rw (complement_apart n a (n - suc (a / p)) (a / p) p (a % p) whole (sym (div-add-mod' a p)) rest)
    (div-mul-add (n - suc (a / p)) p (p - suc (a % p)) (omega (arith, rest)))

powers : (j k : ℕ) → k ≤ j → 2 ^ (j - k) * 2 ^ k ≡ 2 ^ j
powers j k below = sym (pow-add 2 (j - k) k) ∙ ap (λ n. 2 ^ n) (omega (arith, below))

extended_low : (bits q : ℕ) → q < 2 ^ bits → q < 2 ^ (bits - 1) → sign_extended bits q ≡ q
extended_low bits q within low = rw (mod-eq_of_lt within) (sym (cond_below q (2 ^ (bits - 1)) q (q + (2 ^ 32 - 2 ^ bits)) low))

extended_high : (bits q : ℕ) → q < 2 ^ bits → 2 ^ (bits - 1) ≤ q → sign_extended bits q ≡ q + (2 ^ 32 - 2 ^ bits)
extended_high bits q within high = rw (mod-eq_of_lt within) (sym (cond_above q (2 ^ (bits - 1)) q (q + (2 ^ 32 - 2 ^ bits)) (q + (2 ^ 32 - 2 ^ bits)) high refl))

quotient_below : (a n k : ℕ) → a < n * 2 ^ k → a / 2 ^ k < n
quotient_below a n k below = (div-lt_iff_lt-mul (pow_pos k)).1 below

quotient_above : (a n k : ℕ) → n * 2 ^ k ≤ a → n ≤ a / 2 ^ k
quotient_above a n k above = ⊎_elim (λ low. absurd (omega (arith, above, (div-lt_iff_lt-mul (pow_pos k)).0 low))) (λ high. high) (cases_lt (a / 2 ^ k) n)

joined : (n q : ℕ) → q < n → n ≤ 2 ^ 32 → 2 ^ 32 - suc (n - suc q) ≡ q + (2 ^ 32 - n)
joined n q below within = omega (arith, below, within)

halves : (k : ℕ) → k < 32 → 2 ^ (32 - k - 1) * 2 ^ k ≡ 2 ^ 31
halves k few = ap (λ n. 2 ^ n * 2 ^ k) (omega (arith, few)) ∙ powers 31 k (omega (arith, few))

wholes : (k : ℕ) → k < 32 → 2 ^ (32 - k) * 2 ^ k ≡ 2 ^ 32
wholes k few = powers 32 k (omega (arith, few))

shifted_low : (a k : ℕ) → k < 32 → a < 2 ^ 31 → cast_unsigned w32 (int_shr (cast_signed w32 a) k) ≡ sign_extended (32 - k) (a / 2 ^ k)
shifted_low a k few low =
    let whole = quotient_below a (2 ^ (32 - k)) k (omega (arith, low, wholes k few)) in
    let half = quotient_below a (2 ^ (32 - k - 1)) k (omega (arith, low, halves k few)) in
    rw (to_z_pos w32 a low) (sym (extended_low (32 - k) (a / 2 ^ k) whole half))

shifted_high : (a k : ℕ) → k < 32 → 2 ^ 31 ≤ a → a < 2 ^ 32 → cast_unsigned w32 (int_shr (cast_signed w32 a) k) ≡ sign_extended (32 - k) (a / 2 ^ k)
shifted_high a k few high within =
    let whole = quotient_below a (2 ^ (32 - k)) k (omega (arith, within, wholes k few)) in
    let half = quotient_above a (2 ^ (32 - k - 1)) k (omega (arith, high, halves k few)) in
    let read : cast_signed w32 a ≡ negsuc (2 ^ 32 - suc a) = ap (cast_signed w32) (omega (arith, within)) ∙ to_z-neg w32 (2 ^ 32 - suc a) (omega (arith, high, within)) in
    let quotient : (2 ^ 32 - suc a) / 2 ^ k ≡ 2 ^ (32 - k) - suc (a / 2 ^ k) = ap (λ n. (n - suc a) / 2 ^ k) (sym (wholes k few)) ∙ complement (2 ^ (32 - k)) (2 ^ k) a (pow_pos k) whole in
    rw read (rw quotient (rw (extended_high (32 - k) (a / 2 ^ k) whole half) (joined (2 ^ (32 - k)) (a / 2 ^ k) whole (pow_mono {i = 32 - k} {j = 32} (omega arith)))))

shifted : (a k : ℕ) → a < 2 ^ 32 → k < 32 → cast_unsigned w32 (int_shr (cast_signed w32 a) k) ≡ sign_extended (32 - k) (a / 2 ^ k)
shifted a k within few = ⊎_elim (shifted_low a k few) (λ high. shifted_high a k few high within) (cases_lt a (2 ^ 31))

either_within : (is_first : Bool) (x y m : ℕ) → x < m → y < m → cond is_first x y < m
either_within true x y m first second = first
either_within false x y m first second = second

extended_within : (bits q : ℕ) → bits ≤ 32 → sign_extended bits q < 2 ^ 32
extended_within bits q few =
    let low : q % 2 ^ bits < 2 ^ bits = mod-lt q (pow_pos bits) in
    let most : 2 ^ bits ≤ 2 ^ 32 = pow_mono {i = bits} {j = 32} few in
    either_within (nat_lt (q % 2 ^ bits) (2 ^ (bits - 1))) (q % 2 ^ bits) (q % 2 ^ bits + (2 ^ 32 - 2 ^ bits)) (2 ^ 32) (omega (arith, low, most)) (omega (arith, low, most))

-- what `>>` gives at the signed type, read as a word, is the shift of the definition
pub shifted_word : (a k n : ℕ) (z : ℤ) → a < 2 ^ 32 → k < 32 → z ≡ cast_signed w32 a → n ≡ cast_unsigned w32 (cast_signed w32 (cast_unsigned w32 (int_shr (cast_signed w32 (cast_unsigned w32 z)) k))) → n ≡ sign_extended (32 - k) (a / 2 ^ k)
shifted_word a k n z within few number word =
    let same : cast_unsigned w32 (int_shr (cast_signed w32 (cast_unsigned w32 z)) k) ≡ sign_extended (32 - k) (a / 2 ^ k) = rw (number, of_z-to_z w32 a within) (shifted a k within few) in
    rw (word, same) (of_z-to_z w32 (sign_extended (32 - k) (a / 2 ^ k)) (extended_within (32 - k) (a / 2 ^ k) (omega arith)))
