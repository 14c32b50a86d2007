use Rattle.std.proofs.Common.{ap, ◌∙◌, Some}
use Rattle.firm_verify.proofs.TakesLaws.{return_by, leaves_by}
use Rattle.firm_verify.proofs.takes.return_takes.Goals as goal

pub returns : goal.returns
returns c =
    return_by c.args.graph.now c.args.block.number c.giver_of.result c.end_of.result c.in-Some-Return.memory c.in-Some-Return.field-0-1 c.fits.result c.end_of.ensures (c.in-Some-Return.is ∙ ap Some c.in-Some-Return.field-0-is)
    c.giver_of.ensures.is
    (leaves_by c.args.graph.now c.args.chains.now c.args.coming.now c.args.block.number c.giver_of.result c.leaving.result c.fits.result c.requires.chains c.requires.coming c.leaving.ensures c.fits.ensures)
