-- Words of 32 bits as numbers below 2 ^ 32, and the operations on them.
-- The RISC-V Instruction Set Manual, Volume I, edition of December 2019: 2.4 (sums, shifts, comparisons),
-- 2.6 (extensions) and 7 (products, division); the Assembly Programmer's Manual for the parts of an address.
use Rattle.std.specs.Prelude.{ℕ, ◌+◌, ◌-◌, ◌*◌, ◌/◌, ◌%◌, ◌^◌, ◌==◌, nat_lt, if◌then◌else◌, ℤ, int_lt, int_div, int_rem}
use Rattle.std.specs.Int.{w32, cast_unsigned, cast_signed}

-- the word of an integer from -2 ^ 31 to 2 ^ 32 - 1, in two's complement
abbrev pub word_of : ℤ → ℕ
word_of z = cast_unsigned w32 z

-- the integer that a word is, from -2 ^ 31 to 2 ^ 31 - 1
abbrev pub signed : ℕ → ℤ
signed a = cast_signed w32 a

-- the word whose low `bits` bits are those of a, and whose other bits are the highest of these
abbrev pub sign_extended : ℕ → ℕ → ℕ
sign_extended bits a =
    let low = a % 2 ^ bits in
    if nat_lt low (2 ^ (bits - 1)) then low else low + (2 ^ 32 - 2 ^ bits)

-- the low `bits` bits of a
abbrev pub zero_extended : ℕ → ℕ → ℕ
zero_extended bits a = a % 2 ^ bits

abbrev pub sum : ℕ → ℕ → ℕ
sum a b = (a + b) % 2 ^ 32

abbrev pub difference : ℕ → ℕ → ℕ
difference a b = (a + 2 ^ 32 - b) % 2 ^ 32

abbrev pub product : ℕ → ℕ → ℕ
product a b = (a * b) % 2 ^ 32

-- shifts go by the low five bits of b
abbrev pub shift_left : ℕ → ℕ → ℕ
shift_left a b = (a * 2 ^ (b % 32)) % 2 ^ 32

abbrev pub shift_right : ℕ → ℕ → ℕ
shift_right a b = a / 2 ^ (b % 32)

-- the bits that come in are the sign
abbrev pub shift_right_signed : ℕ → ℕ → ℕ
shift_right_signed a b = sign_extended (32 - b % 32) (shift_right a b)

abbrev pub less_signed : ℕ → ℕ → ℕ
less_signed a b = if int_lt (signed a) (signed b) then 1 else 0

abbrev pub less_unsigned : ℕ → ℕ → ℕ
less_unsigned a b = if nat_lt a b then 1 else 0

-- division rounds towards zero; by zero its quotient has all bits set, and its remainder is a.
-- The quotient of -2 ^ 31 by -1 is -2 ^ 31, and its remainder 0.
abbrev pub quotient_signed : ℕ → ℕ → ℕ
quotient_signed a b = if b == 0 then 2 ^ 32 - 1 else word_of (int_div (signed a) (signed b))

abbrev pub quotient_unsigned : ℕ → ℕ → ℕ
quotient_unsigned a b = if b == 0 then 2 ^ 32 - 1 else a / b

abbrev pub remainder_signed : ℕ → ℕ → ℕ
remainder_signed a b = if b == 0 then a else word_of (int_rem (signed a) (signed b))

abbrev pub remainder_unsigned : ℕ → ℕ → ℕ
remainder_unsigned a b = if b == 0 then a else a % b

-- `%hi`: the upper 20 bits that `lui` takes so that `low_part` completes the word
abbrev pub high_part : ℕ → ℕ
high_part a = (a + 2048) / 4096 % 2 ^ 20

-- `%lo`: the low 12 bits, which an instruction extends by their sign
abbrev pub low_part : ℕ → ℕ
low_part a = sign_extended 12 a
