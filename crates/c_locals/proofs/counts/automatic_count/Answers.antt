use Rattle.std.proofs.Common.{◌+◌, ◌≤◌, ap, arith, get_or, subst}
use Rattle.c_locals.proofs.NumberLaws.{inside}
use Rattle.c_locals.proofs.counts.automatic_count.Goals as goal

pub overflow_sub-result : goal.overflow_sub-result
overflow_sub-result c =
    let is = c.first.ensures.is in
    let all = inside c.args.nodes.now c.args.counts.now c.requires.counts c.args.function c.requires.within (subst (λ k. k ≤ c.args.function) is c.first.ensures.low) in
    let at = ap (λ k. get_or c.args.counts.now k 0) is in
    omega (arith, all, at)

pub returns : goal.returns
returns c =
    let is = c.first.ensures.is in
    let all = inside c.args.nodes.now c.args.counts.now c.requires.counts c.args.function c.requires.within (subst (λ k. k ≤ c.args.function) is c.first.ensures.low) in
    let at = ap (λ k. get_or c.args.counts.now k 0) is in
    let within = c.requires.within in
    let few = c.requires.counts.few (c.args.function + 1) (omega (arith, within)) in
    record { is = omega (arith, all, at); few = omega (arith, few) }
