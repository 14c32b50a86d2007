use Rattle.std.proofs.Common.{arith, subst, sym}
use Rattle.c_objects.specs.Firsts.{AreFirstsBefore}
use Rattle.c_objects.proofs.FirstLaws.{all_put, none_first}
use Rattle.c_objects.proofs.firsts.put_firsts.Goals as goal

pub loop-number-init : goal.loop-number-init
loop-number-init c = subst (AreFirstsBefore c.args.scoped.now 0) (sym c.requires.start) (none_first c.args.scoped.now c.len-number-end.ensures.derived c.len-number-end.ensures.nodes)

pub returns : goal.returns
returns c =
    let l = c.loop-number in
    let most = c.loop-number-test.false in
    let is = c.len-number-end.ensures.is in
    all_put c.args.scoped.now c.len-number-end.ensures.derived l.number l.found (omega (arith, most, is)) l.invariant
