use Rattle.std.proofs.Common.{sym}
use Rattle.c_typing.specs.Places.{node_at}
use Rattle.c_nodes.specs.Parents.{nodes_in}
use Rattle.c_locals.proofs.OwnerLaws.{no_parameters, parameters_are}
use Rattle.c_locals.proofs.functions.parameters.Goals as goal

pub returns-in-Some : goal.returns-in-Some
returns-in-Some c =
    parameters_are c.args.nodes.now (node_at (nodes_in c.args.nodes.now) c.args.function) c.in-Some.takes c.kids.result.now c.but_first.result.now
    (c.in-Some.ensures {u = tt}).1 c.kids.ensures.are c.but_first.ensures

pub returns-in-None : goal.returns-in-None
returns-in-None c = sym (no_parameters c.args.nodes.now (node_at (nodes_in c.args.nodes.now) c.args.function) (c.in-None.ensures {u = tt}))
