use Rattle.std.proofs.Common.{rules, arith, ◌+◌, ◌*◌, ◌∙◌}
use Rattle.c_lexer.proofs.Values.{passes, no_fit}
use Rattle.c_lexer.proofs.scan.value_of.Goals as goal

pub returns-in_err-shifted-clause-none : goal.returns-in_err-shifted-clause-none
returns-in_err-shifted-clause-none c =
    let over = no_fit (c.loop-digit.value * c.args.base) 4294967295 c.in_err-shifted.ensures in
    rw c.from_residual.ensures (passes 4294967295 c.args.base c.loop-digit.value c.loop-digit.digit-index c.args.digits.now c.requires (search rules) c.loop-digit.invariant (omega (arith, over)))

pub returns-in_err-value-clause-none : goal.returns-in_err-value-clause-none
returns-in_err-value-clause-none c =
    let over = no_fit (c.in_ok-shifted.shifted + c.from.result) 4294967295 c.in_err-value.ensures in
    let shifted = c.in_ok-shifted.ensures.1 in
    let digit = c.from.ensures ∙ c.digit_value.ensures in
    rw c.from_residual-in_err-value.ensures (passes 4294967295 c.args.base c.loop-digit.value c.loop-digit.digit-index c.args.digits.now c.requires (search rules) c.loop-digit.invariant (omega (arith, over, shifted, digit)))
