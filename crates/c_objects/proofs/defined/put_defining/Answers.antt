use Rattle.std.proofs.Common.{arith, subst, sym}
use Rattle.c_objects.specs.Objects.{AreDefiningBefore}
use Rattle.c_objects.proofs.DefinedLaws.{all_defining, first_defining}
use Rattle.c_objects.proofs.defined.put_defining.Goals as goal

pub loop-number-init : goal.loop-number-init
loop-number-init c = subst (AreDefiningBefore c.args.scoped.now 0) (sym c.requires.start) (first_defining c.args.scoped.now)

pub returns : goal.returns
returns c =
    let l = c.loop-number in
    let most = c.loop-number-test.false in
    let is = c.len-number-end.ensures.is in
    all_defining c.args.scoped.now c.len-number-end.ensures.derived l.number l.defining c.len-number-end.ensures.nodes (omega (arith, most, is)) l.invariant
