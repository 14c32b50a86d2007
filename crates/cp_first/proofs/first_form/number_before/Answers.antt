use Rattle.std.proofs.Common.{◌<◌, ◌^◌, sym, ◌∙◌, arith}
use Rattle.std.specs.Fmt.{decimal}
use Rattle.cp_first.proofs.Numbers.{Avoids-decimal, no_split, one_split}
use Rattle.cp_first.proofs.first_form.number_before.Goals as goal

pub returns-in_err-digits-clause-only : goal.returns-in_err-digits-clause-only
returns-in_err-digits-clause-only c = λ n rest h e. absurd (no_split _ _ _ _ c.in_err-digits.ensures.none e)

pub returns-in_err-number-clause-only : goal.returns-in_err-number-clause-only
returns-in_err-number-clause-only c = λ n rest h e.
    let fits : n < 2 ^ 64 = omega arith in
    let found = c.in_ok-digits.ensures in
    let split = one_split c.args.end c.in_ok-digits.digits.now (decimal n) c.in_ok-digits.rest.now rest found.first (Avoids-decimal c.args.end n fits c.requires) (sym found.found ∙ e) in
    absurd (cc (c.in_err-number.ensures.only n h split.0))

pub returns-clause-only : goal.returns-clause-only
returns-clause-only c = λ n rest h e.
    let fits : n < 2 ^ 64 = omega arith in
    let found = c.in_ok-digits.ensures in
    let split = one_split c.args.end c.in_ok-digits.digits.now (decimal n) c.in_ok-digits.rest.now rest found.first (Avoids-decimal c.args.end n fits c.requires) (sym found.found ∙ e) in
    let same = c.in_ok-number.ensures.only n h split.0 in
    (cc same, split.1)
