use Rattle.c_names.specs.Denoted.{Begins}
use Rattle.c_objects.proofs.FirstLaws.{none_put, one_put}
use Rattle.c_objects.proofs.firsts.put_first.Goals as goal

pub returns-in-Some : goal.returns-in-Some
returns-in-Some c =
    let b : Begins c.args.scoped.now c.args.number c.in-Some.node = c.in-Some.ensures {u = tt} in
    one_put c.args.scoped.now b.derived c.args.number c.in-Some.node b c.args.found.now c.first_of.result (c.first_of.ensures b) c.requires.found

pub returns-in_default : goal.returns-in_default
returns-in_default c = none_put c.args.scoped.now c.requires.found.derived c.args.number c.args.found.now (c.in_default.ensures {u = tt}) c.requires.found
