-- The operations of the graphs on two words. The RISC-V Instruction Set Manual, Volume I, edition of December 2019: 2.4
-- and 7; the conversions are those of C99 6.3.1.2 and 6.3.1.3 to a narrower type and back to a word.
use Rattle.std.specs.Prelude.{ℕ, ◌==◌, ◌-◌, if◌then◌else◌, bit_and, bit_or, bit_xor}
use Rattle.cp_base.specs.declared.op.Op.{Op}
use Rattle.cp_base.specs.declared.op.Op.TheVariants as op
use Rattle.cp_base.specs.declared.op.Relation.{Relation}
use Rattle.cp_base.specs.declared.op.Relation.TheVariants as relation
use Rattle.cp_base.specs.declared.op.To.{To}
use Rattle.cp_base.specs.declared.op.To.TheVariants as to
use Rattle.cp_base.specs.Words.{sum, difference, product, quotient_signed, quotient_unsigned, remainder_signed, remainder_unsigned, shift_left, shift_right, shift_right_signed, less_signed, less_unsigned, sign_extended, zero_extended}

-- 1 where the relation holds of the words, else 0
abbrev pub compared : Relation → ℕ → ℕ → ℕ
compared relation.Eq a b = if a == b then 1 else 0
compared relation.Ne a b = if a == b then 0 else 1
compared relation.LtS a b = less_signed a b
compared relation.LtU a b = less_unsigned a b
compared relation.LeS a b = 1 - less_signed b a
compared relation.LeU a b = 1 - less_unsigned b a
compared relation.GtS a b = less_signed b a
compared relation.GtU a b = less_unsigned b a
compared relation.GeS a b = 1 - less_signed a b
compared relation.GeU a b = 1 - less_unsigned a b

-- the word as a value of the narrower type
abbrev pub converted : To → ℕ → ℕ
converted to.U8 a = zero_extended 8 a
converted to.I8 a = sign_extended 8 a
converted to.U16 a = zero_extended 16 a
converted to.I16 a = sign_extended 16 a
converted to.Truth a = if a == 0 then 0 else 1

abbrev pub applied : Op → ℕ → ℕ → ℕ
applied op.Add a b = sum a b
applied op.Sub a b = difference a b
applied op.Mul a b = product a b
applied op.DivS a b = quotient_signed a b
applied op.DivU a b = quotient_unsigned a b
applied op.ModS a b = remainder_signed a b
applied op.ModU a b = remainder_unsigned a b
applied op.Shl a b = shift_left a b
applied op.ShrS a b = shift_right_signed a b
applied op.ShrU a b = shift_right a b
applied op.And a b = bit_and a b
applied op.Or a b = bit_or a b
applied op.Eor a b = bit_xor a b
applied (op.Cmp relation) a b = compared relation a b
applied (op.Conv to) a b = converted to a
