-- What is asked of the initial values of scalars.
use Rattle.std.proofs.Common.{◌≡◌, ◌++◌, ℕ, false, not, List, ◌∷◌, sym, ap}
use Rattle.c_typing.specs.Types.{CType, integer}
use Rattle.c_type_ids.specs.declared.integers.Integer.{Integer}
use Rattle.c_type_ids.specs.declared.kinds.Kind.TheVariants as shown
use Rattle.c_type_ids.specs.Integers.{integer_of}
use Rattle.c_type_ids.specs.Ids.{Known, Shows}
use Rattle.c_typing.specs.Judgements.{Fault, rule, Typing, Constant}
use Rattle.c_typing.specs.Conversions.{is_assignable}
use Rattle.c_typing.specs.Rules.{broken_if, bad_conversion, is_constant_for, not_constant_for, out_of_range}

pub not_constant_first : (t : CType) (c : Constant) (n : ℕ) → is_constant_for t c ≡ false → (others : List Fault) × (not_constant_for t c n ++ out_of_range c ≡ rule 8 n ∷ others)
not_constant_first t c n h = (out_of_range c, ap (λ b. broken_if (not b) 8 n ++ out_of_range c) h)

pub not_assignable_first : (t : CType) (x : Typing) (n : ℕ) (more : List Fault) → is_assignable t x ≡ false → (others : List Fault) × (bad_conversion t x n ++ more ≡ rule 14 n ∷ others)
not_assignable_first t x n more h = (more, ap (λ b. broken_if (not b) 14 n ++ more) h)

pub integer_shown : (k : Known) (i : Integer) (t : CType) → Shows k (shown.Integer i) t → t ≡ integer (integer_of i)
integer_shown k i (integer j) h = ap integer (sym h)
integer_shown k i _ h = absurd h
