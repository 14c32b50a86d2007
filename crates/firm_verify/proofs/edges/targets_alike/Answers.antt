use Rattle.std.proofs.Common.{ap, ◌∙◌, Some}
use Rattle.firm_verify.proofs.EdgeLaws.{target_jump, target_first, target_second}
use Rattle.firm_verify.proofs.edges.targets_alike.Goals as goal

pub alike-requires-clause-to : goal.alike-requires-clause-to
alike-requires-clause-to c = target_jump c.args.graph.now c.args.block.number c.end_of.result c.in-Some-Jump.to c.requires.within c.end_of.ensures (c.in-Some-Jump.is ∙ ap Some c.in-Some-Jump.field-0-is)

pub alike-requires-in-Some-Branch-clause-to : goal.alike-requires-in-Some-Branch-clause-to
alike-requires-in-Some-Branch-clause-to c =
    target_first c.args.graph.now c.args.block.number c.end_of.result c.in-Some-Branch.field-0-0 c.in-Some-Branch.first c.in-Some-Branch.second c.requires.within c.end_of.ensures
    (c.in-Some-Branch.is ∙ ap Some c.in-Some-Branch.field-0-is)

pub alike-requires-then-alike-clause-to : goal.alike-requires-then-alike-clause-to
alike-requires-then-alike-clause-to c =
    target_second c.args.graph.now c.args.block.number c.end_of.result c.in-Some-Branch.field-0-0 c.in-Some-Branch.first c.in-Some-Branch.second c.requires.within c.end_of.ensures
    (c.in-Some-Branch.is ∙ ap Some c.in-Some-Branch.field-0-is)
