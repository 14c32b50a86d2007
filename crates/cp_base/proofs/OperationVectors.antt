-- Operations of the graphs computed from their definitions, where a wrong one would most likely differ: the values of
-- division by zero and of overflow are those of the manual's table (Volume I, 7.2).
use Rattle.std.proofs.Common.{◌≡◌, refl, ℕ, List, [], ◌∷◌}
use Rattle.std.specs.Prelude.{map}
use Rattle.cp_base.specs.declared.op.Op.{Op}
use Rattle.cp_base.specs.declared.op.Op.TheVariants as op
use Rattle.cp_base.specs.declared.op.Relation.TheVariants as relation
use Rattle.cp_base.specs.declared.op.To.TheVariants as to
use Rattle.cp_base.specs.Operations.{applied}

-- what the operations give of the same two words
abbrev of_words : ℕ → ℕ → List Op → List ℕ
of_words a b operations = map (λ operation. applied operation a b) operations

abbrev divisions : List Op
divisions = op.DivS ∷ op.DivU ∷ op.ModS ∷ op.ModU ∷ []

abbrev relations : List Op
relations = map op.Cmp (relation.Eq ∷ relation.Ne ∷ relation.LtS ∷ relation.LtU ∷ relation.LeS ∷ relation.LeU ∷ relation.GtS ∷ relation.GtU ∷ relation.GeS ∷ relation.GeU ∷ [])

abbrev conversions : List Op
conversions = map op.Conv (to.U8 ∷ to.I8 ∷ to.U16 ∷ to.I16 ∷ to.Truth ∷ [])

pub sums : of_words 0xffff_ffff 3 (op.Add ∷ op.Sub ∷ op.Mul ∷ []) ≡ 2 ∷ 0xffff_fffc ∷ 0xffff_fffd ∷ []
sums = refl

pub divided_by_zero : of_words 7 0 divisions ≡ 0xffff_ffff ∷ 0xffff_ffff ∷ 7 ∷ 7 ∷ []
divided_by_zero = refl

-- -2 ^ 31 by -1
pub divided_over : of_words 0x8000_0000 0xffff_ffff divisions ≡ 0x8000_0000 ∷ 0 ∷ 0 ∷ 0x8000_0000 ∷ []
divided_over = refl

-- -7 by 2
pub divided_to_zero : of_words 0xffff_fff9 2 divisions ≡ 0xffff_fffd ∷ 0x7fff_fffc ∷ 0xffff_ffff ∷ 1 ∷ []
divided_to_zero = refl

-- the amount is 1, the low five bits of 33
pub shifted_by_low_bits : of_words 0x8000_0003 33 (op.Shl ∷ op.ShrS ∷ op.ShrU ∷ []) ≡ 6 ∷ 0xc000_0001 ∷ 0x4000_0001 ∷ []
shifted_by_low_bits = refl

pub bit_by_bit : of_words 12 10 (op.And ∷ op.Or ∷ op.Eor ∷ []) ≡ 8 ∷ 14 ∷ 6 ∷ []
bit_by_bit = refl

-- -1, or the greatest word, against 0
pub compared_with_zero : of_words 0xffff_ffff 0 relations ≡ 0 ∷ 1 ∷ 1 ∷ 0 ∷ 1 ∷ 0 ∷ 0 ∷ 1 ∷ 0 ∷ 1 ∷ []
compared_with_zero = refl

pub compared_with_itself : of_words 5 5 relations ≡ 1 ∷ 0 ∷ 0 ∷ 0 ∷ 1 ∷ 1 ∷ 0 ∷ 0 ∷ 1 ∷ 1 ∷ []
compared_with_itself = refl

pub converted_down : of_words 0x1_81ff 0 conversions ≡ 0xff ∷ 0xffff_ffff ∷ 0x81ff ∷ 0xffff_81ff ∷ 1 ∷ []
converted_down = refl

-- the low byte is 0, and the word is not
pub converted_to_truth : of_words 0x100 0 conversions ≡ 0 ∷ 0 ∷ 0x100 ∷ 0x100 ∷ 1 ∷ []
converted_to_truth = refl
