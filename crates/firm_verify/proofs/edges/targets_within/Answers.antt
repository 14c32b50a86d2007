use Rattle.std.proofs.Common.{sym, ap, [], ◌∷◌, ◌∙◌, Some}
use Rattle.firm_rules.specs.Lookups.{end_of, targets}
use Rattle.firm_verify.proofs.EdgeLaws.{list_within}
use Rattle.firm_verify.proofs.edges.targets_within.Goals as goal

pub returns-in-Some-Jump : goal.returns-in-Some-Jump
returns-in-Some-Jump c =
    list_within c.args.graph.now (c.in-Some-Jump.to.number ∷ []) (targets (end_of c.args.graph.now c.args.block.number)) c.are_blocks.result (sym (ap targets (sym c.end_of.ensures ∙ c.in-Some-Jump.is ∙ ap Some c.in-Some-Jump.field-0-is))) c.are_blocks.ensures

pub returns-in-Some-Branch : goal.returns-in-Some-Branch
returns-in-Some-Branch c =
    list_within c.args.graph.now (c.in-Some-Branch.first.number ∷ c.in-Some-Branch.second.number ∷ []) (targets (end_of c.args.graph.now c.args.block.number)) c.are_blocks-in-Some-Branch.result
    (sym (ap targets (sym c.end_of.ensures ∙ c.in-Some-Branch.is ∙ ap Some c.in-Some-Branch.field-0-is))) c.are_blocks-in-Some-Branch.ensures
