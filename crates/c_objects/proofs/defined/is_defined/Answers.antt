use Rattle.std.proofs.Common.{arith}
use Rattle.c_objects.proofs.DefinedLaws.{defined_first, first_below}
use Rattle.c_objects.proofs.defined.is_defined.Goals as goal

pub bounds-defining-first : goal.bounds-defining-first
bounds-defining-first c =
    let low = first_below c.args.scoped.now c.args.number c.in-Some.first c.args.firsts.now c.requires.firsts c.requires.within c.in-Some.is in
    let long = c.requires.defining.long in
    omega (arith, low, long)

pub returns-in-Some : goal.returns-in-Some
returns-in-Some c = defined_first c.args.scoped.now c.args.number c.in-Some.first c.args.firsts.now c.args.defining.now c.requires.firsts c.requires.defining c.requires.within c.in-Some.is
