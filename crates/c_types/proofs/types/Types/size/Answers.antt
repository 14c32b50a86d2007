use Rattle.c_types.proofs.ReadLaws.{no_size, size_is, some_size}
use Rattle.c_types.proofs.types.Types.size.Goals as goal

pub returns-in-Some-clause-some : goal.returns-in-Some-clause-some
returns-in-Some-clause-some c = λ size. size_is c.args.self.now c.args.id c.in-Some.m size c.in-Some.ensures.some.0

pub returns-in-Some-clause-none : goal.returns-in-Some-clause-none
returns-in-Some-clause-none c = some_size c.args.self.now c.args.id c.in-Some.m c.in-Some.ensures.some.0

pub returns-in-None-clause-some : goal.returns-in-None-clause-some
returns-in-None-clause-some c = λ size. no_size c.args.self.now c.args.id size c.in-None.ensures.none
