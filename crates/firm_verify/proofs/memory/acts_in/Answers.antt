use Rattle.firm_verify.proofs.RivalLaws.{acts_seen, acts_elsewhere}
use Rattle.firm_verify.proofs.memory.acts_in.Goals as goal

pub returns-then-read-block : goal.returns-then-read-block
returns-then-read-block c =
    acts_seen c.args.graph.now c.args.node c.args.block.number c.node-read.result.block.number c.node-read.result.op c.acts.result c.requires c.node-read.ensures.op c.node-read.ensures.block c.acts.ensures c.if-read-block.true

pub returns-else-read-block : goal.returns-else-read-block
returns-else-read-block c = acts_elsewhere c.args.graph.now c.args.node c.args.block.number c.node-read.result.block.number c.requires c.node-read.ensures.block c.if-read-block.false
