use Rattle.firm_tables.proofs.NodeLaws.{agrees, refuses}
use Rattle.firm_verify.proofs.EdgeLaws.{within_preds, within_both}
use Rattle.firm_verify.proofs.edges.edges_within.Goals as goal

pub returns-then-not-are_blocks : goal.returns-then-not-are_blocks
returns-then-not-are_blocks c = within_preds c.args.graph.now c.args.block.number c.preds.result.now c.preds.ensures (refuses c.are_blocks.result c.if-not-are_blocks.true c.are_blocks.ensures)

pub returns : goal.returns
returns c =
    within_both c.args.graph.now c.args.block.number c.preds.result.now c.targets_within.result c.preds.ensures (agrees c.are_blocks.result c.if-not-are_blocks.false c.are_blocks.ensures)
    c.targets_within.ensures
