use Rattle.std.proofs.Common.{get_or, ap, ◌∙◌, None}
use Rattle.firm_verify.proofs.DefinedLaws.{operands_there}
use Rattle.firm_verify.proofs.TakesLaws.{phi_there, phi_by, no_phi}
use Rattle.firm_verify.proofs.takes.phi_takes.Goals as goal

pub operands-requires : goal.operands-requires
operands-requires c = phi_there c.args.graph.now c.args.chains.now c.args.block.number c.in-Some.number c.get_at.result c.requires.chains (c.get_at.ensures ∙ ap (λ l. get_or l c.args.block.number None) c.deref.ensures.value) c.in-Some.is

pub each_takes-requires-clause-operands : goal.each_takes-requires-clause-operands
each_takes-requires-clause-operands c = operands_there c.args.graph.now c.in-Some.number c.operands.result.now c.requires.rule1
    (phi_there c.args.graph.now c.args.chains.now c.args.block.number c.in-Some.number c.get_at.result c.requires.chains (c.get_at.ensures ∙ ap (λ l. get_or l c.args.block.number None) c.deref.ensures.value) c.in-Some.is)
    c.operands.ensures

pub returns-in_default : goal.returns-in_default
returns-in_default c = no_phi c.args.graph.now c.args.chains.now c.args.block.number c.get_at.result c.requires.chains (c.get_at.ensures ∙ ap (λ l. get_or l c.args.block.number None) c.deref.ensures.value) c.in_default.is

pub returns : goal.returns
returns c =
    phi_by c.args.graph.now c.args.chains.now c.args.block.number c.in-Some.number c.get_at.result c.operands.result.now c.preds.result.now c.each_takes.result c.requires.chains
    (c.get_at.ensures ∙ ap (λ l. get_or l c.args.block.number None) c.deref.ensures.value) c.in-Some.is c.operands.ensures c.preds.ensures c.each_takes.ensures
