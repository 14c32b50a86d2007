use Rattle.std.proofs.Common.{◌≡◌, drop}
use Rattle.std.specs.Str.Parse.{digits_value, digits_value_after}
use Rattle.c_lexer.proofs.scan.value_of.Given as goal

-- the digits that are left write the number after those so far
abbrev pub invariant-loop-digit : goal.invariant-loop-digit
invariant-loop-digit l = digits_value_after l.base l.value (drop l.digit-index l.digits) ≡ digits_value l.base l.digits
