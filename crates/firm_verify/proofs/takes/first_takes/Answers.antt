use Rattle.std.proofs.Common.{get_or, ap, ◌∙◌, None}
use Rattle.firm_verify.proofs.TakesLaws.{first_there, first_by, no_first, brings_by}
use Rattle.firm_verify.proofs.takes.first_takes.Goals as goal

pub taken-requires-clause-node : goal.taken-requires-clause-node
taken-requires-clause-node c = (first_there c.args.graph.now c.args.chains.now c.args.block.number c.in-Some.number c.get_at.result c.requires.rule1 c.requires.chains (c.get_at.ensures ∙ ap (λ l. get_or l c.args.block.number None) c.deref.ensures.value) c.in-Some.is).0

pub taken-requires-clause-acts : goal.taken-requires-clause-acts
taken-requires-clause-acts c = (first_there c.args.graph.now c.args.chains.now c.args.block.number c.in-Some.number c.get_at.result c.requires.rule1 c.requires.chains (c.get_at.ensures ∙ ap (λ l. get_or l c.args.block.number None) c.deref.ensures.value) c.in-Some.is).1

pub returns : goal.returns
returns c =
    first_by c.args.graph.now c.args.chains.now c.args.block.number c.in-Some.number c.taken.result c.get_at.result c.fits.result c.requires.chains
    (c.get_at.ensures ∙ ap (λ l. get_or l c.args.block.number None) c.deref.ensures.value) c.in-Some.is c.taken.ensures.is
    (brings_by c.args.graph.now c.args.coming.now c.args.block.number c.taken.result c.get_at-2.result c.fits.result c.requires.coming c.get_at-2.ensures c.fits.ensures)

pub returns-in_default : goal.returns-in_default
returns-in_default c = no_first c.args.graph.now c.args.chains.now c.args.block.number c.get_at.result c.requires.chains (c.get_at.ensures ∙ ap (λ l. get_or l c.args.block.number None) c.deref.ensures.value) c.in_default.is
