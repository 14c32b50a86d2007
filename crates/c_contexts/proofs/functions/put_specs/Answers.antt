use Rattle.std.proofs.Common.{arith, subst, sym}
use Rattle.c_contexts.specs.Contexts.{AreFunctionSpecsBefore}
use Rattle.c_contexts.proofs.SpecsLaws.{all_put, first_put}
use Rattle.c_contexts.proofs.functions.put_specs.Goals as goal

pub loop-number-init : goal.loop-number-init
loop-number-init c = subst (AreFunctionSpecsBefore c.args.scoped.now 0) (sym c.requires.start) (first_put c.args.scoped.now c.len-number-end.ensures.derived c.len-number-end.ensures.nodes)

pub returns : goal.returns
returns c =
    let l = c.loop-number in
    let most = c.loop-number-test.false in
    let is = c.len-number-end.ensures.is in
    all_put c.args.scoped.now c.len-number-end.ensures.derived c.len-number-end.ensures.nodes l.number l.found (omega (arith, most, is)) l.invariant
