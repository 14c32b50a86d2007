use Rattle.std.proofs.Common.{sym, ◌∙◌}
use Rattle.firm_verify.proofs.LastLaws.{last_by, not_acting}
use Rattle.firm_verify.proofs.chains.is_last.Goals as goal

pub returns : goal.returns
returns c =
    last_by c.args.graph.now c.args.node.number c.node.result.op c.args.nexts.now c.get_at.result c.is_none.result c.requires.nexts c.requires.node c.node.ensures.op (sym c.acts.ensures ∙ c.if-not-acts.false)
    c.get_at.ensures c.is_none.ensures

pub returns-then-not-acts : goal.returns-then-not-acts
returns-then-not-acts c = not_acting c.args.graph.now c.args.node.number c.node.result.op c.node.ensures.op (sym c.acts.ensures ∙ c.if-not-acts.true)
