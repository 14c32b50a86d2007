use Rattle.c_names.specs.Denoted.{Begins}
use Rattle.c_names.proofs.FoundLaws.{put_some, put_none}
use Rattle.c_names.proofs.names.put_name.Goals as goal

pub returns-in-Some : goal.returns-in-Some
returns-in-Some c =
    let b : Begins c.args.scoped.now c.args.number c.in-Some.node = c.in-Some.ensures {u = tt} in
    put_some c.args.scoped.now c.requires.found.derived c.args.number c.in-Some.node c.args.found.now b c.name_at.result (c.name_at.ensures b) c.requires.found

pub returns-in_default : goal.returns-in_default
returns-in_default c = put_none c.args.scoped.now c.requires.found.derived c.args.number c.args.found.now (c.in_default.ensures {u = tt}) c.requires.found
