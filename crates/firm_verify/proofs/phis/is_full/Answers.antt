use Rattle.std.proofs.Common.{sym, ◌∙◌}
use Rattle.firm_tables.specs.Nodes.{node_of}
use Rattle.firm_verify.proofs.GraphLaws.{block_stands}
use Rattle.firm_verify.proofs.PhiLaws.{no_phi_is_full, full_by_counts}
use Rattle.firm_verify.proofs.phis.is_full.Goals as goal

pub preds-requires : goal.preds-requires
preds-requires c = block_stands c.args.graph.now c.args.node.number c.node-read.result.block.number c.requires.whole c.requires.node c.node-read.ensures.block

pub returns-then-not-is_phi : goal.returns-then-not-is_phi
returns-then-not-is_phi c = no_phi_is_full c.args.graph.now (node_of c.args.graph.now.nodes c.args.node.number) c.node-read.result.op c.node-read.ensures.op (sym c.is_phi.ensures ∙ c.if-not-is_phi.true)

pub returns : goal.returns
returns c =
    full_by_counts c.args.graph.now (node_of c.args.graph.now.nodes c.args.node.number) c.node-read.result.op c.node-read.result.block.number c.operands.result.now c.preds.result.now
    c.node-read.ensures.op c.node-read.ensures.block (sym c.is_phi.ensures ∙ c.if-not-is_phi.false) c.operands.ensures c.preds.ensures
