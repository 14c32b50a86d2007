use Rattle.std.proofs.Common.{arith}
use Rattle.c_objects.proofs.DefinedLaws.{first_below}
use Rattle.c_objects.proofs.ObjectLaws.{number_first}
use Rattle.c_objects.proofs.numbers.number_of.Goals as goal

pub bounds-by_first-first : goal.bounds-by_first-first
bounds-by_first-first c =
    let low = first_below c.args.scoped.now c.args.number c.in-Some.first c.args.firsts.now c.requires.firsts c.requires.within c.in-Some.is in
    let long = c.requires.by_first.long in
    omega (arith, low, long)

pub offset_bounds-by_first-first : goal.offset_bounds-by_first-first
offset_bounds-by_first-first c = let within = bounds-by_first-first c in omega (arith, within)

pub returns-in-Some : goal.returns-in-Some
returns-in-Some c = number_first c.args.scoped.now c.args.number c.in-Some.first c.args.firsts.now c.args.by_first.now c.requires.firsts c.requires.by_first c.requires.within c.in-Some.is
