use Rattle.std.proofs.Common.{◌-◌, ◌∙◌, ap, arith, get_or}
use Rattle.c_counters.proofs.SumLaws.{from_is, no_more}
use Rattle.c_counters.proofs.sums.taken_from.Goals as goal

pub overflow_sub-result : goal.overflow_sub-result
overflow_sub-result c =
    let r = c.requires in
    let low = no_more r.0 c.args.sums.now r.1 c.args.first c.if-first-sums.true in
    let is = c.whole.ensures.is in
    omega (arith, low, is)

pub returns-then-first-sums-clause-is : goal.returns-then-first-sums-clause-is
returns-then-first-sums-clause-is c = λ js a.
    ap (λ all. all - get_or c.args.sums.now c.args.first 0) c.whole.ensures.is ∙ from_is js c.args.sums.now a c.args.first c.if-first-sums.true
