use Rattle.c_typing.specs.Places.{node_at}
use Rattle.c_nodes.specs.Parents.{nodes_in}
use Rattle.c_nodes.proofs.ReadLaws.{is_kid}
use Rattle.c_nodes.proofs.nodes.Nodes.has_kid.Goals as goal

pub returns : goal.returns
returns c = is_kid c.kids.result.now (node_at (nodes_in c.args.self.now) c.args.number).kids c.args.index c.kids.ensures.are
