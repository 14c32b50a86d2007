use Rattle.std.proofs.Common.{arith}
use Rattle.c_objects.proofs.FirstLaws.{first_none, first_some, last_within}
use Rattle.c_objects.proofs.firsts.first_of.Goals as goal

pub bounds-found-last : goal.bounds-found-last
bounds-found-last c =
    let b = c.requires.begins in
    let low = last_within c.args.scoped.now b.derived c.args.earlier.now c.requires.earlier c.args.behind c.args.node b c.in-Some.last c.in-Some.is in
    let long = c.requires.found.long in
    omega (arith, low, long)

pub offset_bounds-found-last : goal.offset_bounds-found-last
offset_bounds-found-last c = let within = bounds-found-last c in omega (arith, within)

pub returns-in-Some : goal.returns-in-Some
returns-in-Some c = λ b. first_some c.args.scoped.now b.derived c.args.earlier.now c.requires.earlier c.args.behind c.args.node b c.in-Some.last c.in-Some.is c.args.found.now c.requires.found

pub returns-in-None : goal.returns-in-None
returns-in-None c = λ b. first_none c.args.scoped.now b.derived c.args.earlier.now c.requires.earlier c.args.behind c.args.node b c.in-None.is
