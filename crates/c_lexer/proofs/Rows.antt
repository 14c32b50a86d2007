-- Worked rows of the definitions of constants, literals and punctuators.
use Rattle.std.proofs.Common.{◌≡◌, ℕ, true, false, List, [], None, codes, refl, sym, ◌∙◌}
use Rattle.c_lexer.specs.declared.token.IntType.{IntType}
use Rattle.c_lexer.specs.declared.token.IntType.TheVariants.{Int, UInt, Long, ULong}
use Rattle.c_lexer.specs.declared.token.Punct.TheVariants.{ShiftLeftEqual}
use Rattle.c_lexer.specs.Literals.{IsLiteral, single_quote, double_quote}
use Rattle.c_lexer.specs.Numbers.{IsConstant, decimal, octal, hexadecimal}
use Rattle.c_lexer.specs.Readings.{constant_of}
use Rattle.c_lexer.specs.Spellings.{IsSpelling, as_punctuator}
use Rattle.c_lexer.proofs.Constants.{constant_read}

-- ---- integer constants

-- `0`
zero-is-octal : IsConstant (codes "0") 0 Int
zero-is-octal = record {
  front = [];
  digits = codes "0";
  suffix = codes "";
  split = refl;
  base = 8;
  numeral = octal [] refl;
  ending = record { has_u = false; has_l = false };
  suffix_is = refl;
  value_is = refl;
  type_is = refl;
}

-- `10u`
decimal-with-u : IsConstant (codes "10u") 10 UInt
decimal-with-u = record {
  front = [];
  digits = codes "10";
  suffix = codes "u";
  split = refl;
  base = 10;
  numeral = decimal 49 (codes "0") refl refl;
  ending = record { has_u = true; has_l = false };
  suffix_is = refl;
  value_is = refl;
  type_is = refl;
}

-- `017L`
octal-with-l : IsConstant (codes "017L") 15 Long
octal-with-l = record {
  front = [];
  digits = codes "017";
  suffix = codes "L";
  split = refl;
  base = 8;
  numeral = octal (codes "17") refl;
  ending = record { has_u = false; has_l = true };
  suffix_is = refl;
  value_is = refl;
  type_is = refl;
}

-- `0X1fuL`
hexadecimal-with-both : IsConstant (codes "0X1fuL") 31 ULong
hexadecimal-with-both = record {
  front = codes "0X";
  digits = codes "1f";
  suffix = codes "uL";
  split = refl;
  base = 16;
  numeral = hexadecimal 88 49 (codes "f") refl refl refl;
  ending = record { has_u = true; has_l = true };
  suffix_is = refl;
  value_is = refl;
  type_is = refl;
}

-- `2147483647`
greatest-int : IsConstant (codes "2147483647") 2147483647 Int
greatest-int = record {
  front = [];
  digits = codes "2147483647";
  suffix = codes "";
  split = refl;
  base = 10;
  numeral = decimal 50 (codes "147483647") refl refl;
  ending = record { has_u = false; has_l = false };
  suffix_is = refl;
  value_is = refl;
  type_is = refl;
}

-- `2147483648u`
past-int-with-u : IsConstant (codes "2147483648u") 2147483648 UInt
past-int-with-u = record {
  front = [];
  digits = codes "2147483648";
  suffix = codes "u";
  split = refl;
  base = 10;
  numeral = decimal 50 (codes "147483648") refl refl;
  ending = record { has_u = true; has_l = false };
  suffix_is = refl;
  value_is = refl;
  type_is = refl;
}

-- `0x80000000`
past-int-in-hexadecimal : IsConstant (codes "0x80000000") 2147483648 UInt
past-int-in-hexadecimal = record {
  front = codes "0x";
  digits = codes "80000000";
  suffix = codes "";
  split = refl;
  base = 16;
  numeral = hexadecimal 120 56 (codes "0000000") refl refl refl;
  ending = record { has_u = false; has_l = false };
  suffix_is = refl;
  value_is = refl;
  type_is = refl;
}

-- what is read as none is none
none : (text : List ℕ) → constant_of text ≡ None → (value : ℕ) (type : IntType) → IsConstant text value type → ⊥
none text e value type c = absurd (cc (sym e ∙ constant_read text value type c))

past-int : (value : ℕ) (type : IntType) → IsConstant (codes "2147483648") value type → ⊥
past-int = none (codes "2147483648") refl

past-all-types : (value : ℕ) (type : IntType) → IsConstant (codes "0x100000000") value type → ⊥
past-all-types = none (codes "0x100000000") refl

octal-with-eight : (value : ℕ) (type : IntType) → IsConstant (codes "08") value type → ⊥
octal-with-eight = none (codes "08") refl

no-digits : (value : ℕ) (type : IntType) → IsConstant (codes "0x") value type → ⊥
no-digits = none (codes "0x") refl

u-twice : (value : ℕ) (type : IntType) → IsConstant (codes "1uu") value type → ⊥
u-twice = none (codes "1uu") refl

no-suffix : (value : ℕ) (type : IntType) → IsConstant (codes "1ull") value type → ⊥
no-suffix = none (codes "1ull") refl

-- ---- literals

-- `'\''`
quote-in-a-character : IsLiteral single_quote (codes "\\'") (codes "'\\''")
quote-in-a-character = record { split = refl; allowed = refl }

-- `""`
empty-string : IsLiteral double_quote [] (codes "\"\"")
empty-string = record { split = refl; allowed = refl }

-- ---- punctuators

shift-and-assign : IsSpelling (codes "<<=")
shift-and-assign = as_punctuator (codes "<<=") ShiftLeftEqual refl
