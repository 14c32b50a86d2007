-- The operators of C at the edges of 32 bits, computed from their definitions. The values are worked by hand from C99 6.5, two's
-- complement and the two points that `c_types/specs/Operators.antt` calls this project's: `min` is -2 ^ 31, `max` is 2 ^ 31 - 1, `top` is 2 ^ 32 - 1, which a signed operator reads as -1.
use Rattle.std.proofs.Common.{◌≡◌, refl, ℕ, List, [], ◌∷◌, Option, Some, None}
use Rattle.std.specs.Prelude.{map}
use Rattle.c_types.specs.declared.tree.COp.{COp}
use Rattle.c_types.specs.declared.tree.COp.TheVariants.{AddS, AddU, SubS, SubU, MulS, MulU, DivS, DivU, RemS, RemU, ShlS, ShlU, ShrS, ShrU, LtS, LtU, LeS, LeU, GtS, GtU, GeS, GeU, And, Or, Xor, Eq, Ne}
use Rattle.c_types.specs.Operators.{c_operator}

abbrev min : ℕ
min = 0x8000_0000

abbrev max : ℕ
max = 0x7fff_ffff

abbrev top : ℕ
top = 0xffff_ffff

abbrev Operands : Type 0
Operands = ℕ × ℕ

-- what an operator gives of each pair
abbrev results : COp → List Operands → List (Option ℕ)
results op pairs = map (λ pair. c_operator op pair.0 pair.1) pairs

-- max + 1, max + 0, min + -1, min + max, -1 + 1
add_signed : results AddS ((max, 1) ∷ (max, 0) ∷ (min, top) ∷ (min, max) ∷ (top, 1) ∷ [])
    ≡ None ∷ Some max ∷ None ∷ Some top ∷ Some 0 ∷ []
add_signed = refl

add_unsigned : results AddU ((top, 1) ∷ (max, 1) ∷ (min, min) ∷ []) ≡ Some 0 ∷ Some min ∷ Some 0 ∷ []
add_unsigned = refl

-- min - 1, 0 - min, -1 - min, max - -1, min - min
sub_signed : results SubS ((min, 1) ∷ (0, min) ∷ (top, min) ∷ (max, top) ∷ (min, min) ∷ [])
    ≡ None ∷ None ∷ Some max ∷ None ∷ Some 0 ∷ []
sub_signed = refl

sub_unsigned : results SubU ((0, 1) ∷ (min, 1) ∷ (0, min) ∷ []) ≡ Some top ∷ Some max ∷ Some min ∷ []
sub_unsigned = refl

-- min * -1, max * -1, 46341 * 46341 (above max), 46340 * 46340 (below), 65536 * -32768 (min), 2 * 2 ^ 30
mul_signed : results MulS ((min, top) ∷ (max, top) ∷ (46341, 46341) ∷ (46340, 46340) ∷ (0x1_0000, 0xffff_8000) ∷ (2, 0x4000_0000) ∷ [])
    ≡ None ∷ Some 0x8000_0001 ∷ None ∷ Some 2147395600 ∷ Some min ∷ None ∷ []
mul_signed = refl

mul_unsigned : results MulU ((top, top) ∷ (min, 2) ∷ (0x1_0000, 0x1_0001) ∷ []) ≡ Some 1 ∷ Some 0 ∷ Some 0x1_0000 ∷ []
mul_unsigned = refl

-- min / -1, 1 / 0, -7 / 2, 7 / -2, -7 / -2, min / 1, min / min, max / min
div_signed : results DivS ((min, top) ∷ (1, 0) ∷ (0xffff_fff9, 2) ∷ (7, 0xffff_fffe) ∷ (0xffff_fff9, 0xffff_fffe) ∷ (min, 1) ∷ (min, min) ∷ (max, min) ∷ [])
    ≡ None ∷ None ∷ Some 0xffff_fffd ∷ Some 0xffff_fffd ∷ Some 3 ∷ Some min ∷ Some 1 ∷ Some 0 ∷ []
div_signed = refl

div_unsigned : results DivU ((top, 0) ∷ (top, 1) ∷ (top, 2) ∷ (min, top) ∷ []) ≡ None ∷ Some top ∷ Some max ∷ Some 0 ∷ []
div_unsigned = refl

-- min % -1, 1 % 0, -7 % 2, 7 % -2, min % max
rem_signed : results RemS ((min, top) ∷ (1, 0) ∷ (0xffff_fff9, 2) ∷ (7, 0xffff_fffe) ∷ (min, max) ∷ [])
    ≡ None ∷ None ∷ Some top ∷ Some 1 ∷ Some top ∷ []
rem_signed = refl

rem_unsigned : results RemU ((top, 0) ∷ (top, min) ∷ (0xffff_fff9, 2) ∷ []) ≡ None ∷ Some max ∷ Some 1 ∷ []
rem_unsigned = refl

-- 1 << 30, 1 << 31 (above max), 1 << 32, 1 << -1, -1 << 0, 0 << 31, max << 0
shl_signed : results ShlS ((1, 30) ∷ (1, 31) ∷ (1, 32) ∷ (1, top) ∷ (top, 0) ∷ (0, 31) ∷ (max, 0) ∷ [])
    ≡ Some 0x4000_0000 ∷ None ∷ None ∷ None ∷ None ∷ Some 0 ∷ Some max ∷ []
shl_signed = refl

shl_unsigned : results ShlU ((1, 31) ∷ (3, 31) ∷ (top, 0) ∷ (1, 32) ∷ (1, top) ∷ []) ≡ Some min ∷ Some min ∷ Some top ∷ None ∷ None ∷ []
shl_unsigned = refl

-- -1 >> 31, min >> 31, min >> 1, max >> 30, 1 >> 32, 1 >> -1
shr_signed : results ShrS ((top, 31) ∷ (min, 31) ∷ (min, 1) ∷ (max, 30) ∷ (1, 32) ∷ (1, top) ∷ [])
    ≡ Some top ∷ Some top ∷ Some 0xc000_0000 ∷ Some 1 ∷ None ∷ None ∷ []
shr_signed = refl

shr_unsigned : results ShrU ((top, 31) ∷ (min, 1) ∷ (1, 0) ∷ (1, 32) ∷ []) ≡ Some 1 ∷ Some 0x4000_0000 ∷ Some 1 ∷ None ∷ []
shr_unsigned = refl

-- each of min and max, max and min, -1 and 0, 0 and 0
abbrev compared_pairs : List Operands
compared_pairs = (min, max) ∷ (max, min) ∷ (top, 0) ∷ (0, 0) ∷ []

abbrev bits : ℕ → ℕ → ℕ → ℕ → List (Option ℕ)
bits a b c d = map Some (a ∷ b ∷ c ∷ d ∷ [])

less_signed : results LtS compared_pairs ≡ bits 1 0 1 0
less_signed = refl

less_unsigned : results LtU compared_pairs ≡ bits 0 1 0 0
less_unsigned = refl

less_equal_signed : results LeS compared_pairs ≡ bits 1 0 1 1
less_equal_signed = refl

less_equal_unsigned : results LeU compared_pairs ≡ bits 0 1 0 1
less_equal_unsigned = refl

greater_signed : results GtS compared_pairs ≡ bits 0 1 0 0
greater_signed = refl

greater_unsigned : results GtU compared_pairs ≡ bits 1 0 1 0
greater_unsigned = refl

greater_equal_signed : results GeS compared_pairs ≡ bits 0 1 0 1
greater_equal_signed = refl

greater_equal_unsigned : results GeU compared_pairs ≡ bits 1 0 1 1
greater_equal_unsigned = refl

equal : results Eq compared_pairs ≡ bits 0 0 0 1
equal = refl

different : results Ne compared_pairs ≡ bits 1 1 1 0
different = refl

bitwise_and : results And ((top, min) ∷ (min, max) ∷ (0xf0f0_f0f0, 0xff00_ff00) ∷ []) ≡ Some min ∷ Some 0 ∷ Some 0xf000_f000 ∷ []
bitwise_and = refl

bitwise_or : results Or ((max, min) ∷ (0, min) ∷ (0xf0f0_f0f0, 0xff00_ff00) ∷ []) ≡ Some top ∷ Some min ∷ Some 0xfff0_fff0 ∷ []
bitwise_or = refl

-- ~x is x ^ -1
bitwise_xor : results Xor ((min, top) ∷ (0, top) ∷ (0xf0f0_f0f0, 0xff00_ff00) ∷ []) ≡ Some max ∷ Some top ∷ Some 0x0ff0_0ff0 ∷ []
bitwise_xor = refl
