-- Words computed from their definitions. The values of division by zero and of overflow are those of the
-- manual's table (Volume I, 7.2); the others follow from its sentences in 2.4, 2.6 and 7.
use Rattle.std.proofs.Common.{◌≡◌, refl, negsuc}
use Rattle.cp_base.specs.Words.{word_of, sign_extended, zero_extended, sum, difference, product, shift_left, shift_right, shift_right_signed, less_signed, less_unsigned, quotient_signed, quotient_unsigned, remainder_signed, remainder_unsigned, high_part, low_part}

pub minus_one_word : word_of (negsuc 0) ≡ 0xffff_ffff
minus_one_word = refl

pub least_word : word_of (negsuc 2147483647) ≡ 0x8000_0000
least_word = refl

pub byte_extended : sign_extended 8 0x80 ≡ 0xffff_ff80
byte_extended = refl

pub byte_kept : sign_extended 8 0x17f ≡ 0x7f
byte_kept = refl

pub half_extended : sign_extended 16 0x8000 ≡ 0xffff_8000
half_extended = refl

pub half_cut : zero_extended 16 0x1_8000 ≡ 0x8000
half_cut = refl

pub sum_wraps : sum 0xffff_ffff 1 ≡ 0
sum_wraps = refl

pub difference_wraps : difference 0 1 ≡ 0xffff_ffff
difference_wraps = refl

pub product_low : product 0xffff_ffff 0xffff_ffff ≡ 1
product_low = refl

pub left_by_low_bits : shift_left 3 33 ≡ 6
left_by_low_bits = refl

pub right_logical : shift_right 0x8000_0000 31 ≡ 1
right_logical = refl

pub right_arithmetic : shift_right_signed 0x8000_0000 31 ≡ 0xffff_ffff
right_arithmetic = refl

pub right_arithmetic_by_zero : shift_right_signed 0x8000_0001 32 ≡ 0x8000_0001
right_arithmetic_by_zero = refl

pub right_arithmetic_positive : shift_right_signed 0x7fff_ffff 4 ≡ 0x07ff_ffff
right_arithmetic_positive = refl

pub minus_one_less : less_signed 0xffff_ffff 0 ≡ 1
minus_one_less = refl

pub greatest_not_less : less_unsigned 0xffff_ffff 0 ≡ 0
greatest_not_less = refl

pub division_rounds_to_zero : quotient_signed 0xffff_fff9 2 ≡ 0xffff_fffd
division_rounds_to_zero = refl

pub remainder_has_sign : remainder_signed 0xffff_fff9 2 ≡ 0xffff_ffff
remainder_has_sign = refl

pub signed_by_zero : quotient_signed 7 0 ≡ 0xffff_ffff
signed_by_zero = refl

pub unsigned_by_zero : quotient_unsigned 7 0 ≡ 0xffff_ffff
unsigned_by_zero = refl

pub signed_remainder_by_zero : remainder_signed 0xffff_fff9 0 ≡ 0xffff_fff9
signed_remainder_by_zero = refl

pub unsigned_remainder_by_zero : remainder_unsigned 7 0 ≡ 7
unsigned_remainder_by_zero = refl

pub division_overflows : quotient_signed 0x8000_0000 0xffff_ffff ≡ 0x8000_0000
division_overflows = refl

pub remainder_of_overflow : remainder_signed 0x8000_0000 0xffff_ffff ≡ 0
remainder_of_overflow = refl

pub unsigned_division : quotient_unsigned 0x8000_0000 0xffff_ffff ≡ 0
unsigned_division = refl

pub high_of_carry : high_part 0x1234_5fff ≡ 0x12346
high_of_carry = refl

pub low_of_carry : low_part 0x1234_5fff ≡ 0xffff_ffff
low_of_carry = refl

pub high_wraps : high_part 0xffff_ffff ≡ 0
high_wraps = refl

pub low_positive : low_part 0x1000_07ff ≡ 0x7ff
low_positive = refl
