use Rattle.std.proofs.Common.{◌∙◌, ap}
use Rattle.firm_rules.specs.Lookups.{targets}
use Rattle.firm_nodes.specs.Calls.{without_some, without_all}
use Rattle.firm_nodes.proofs.EdgeLaws.{without_both}
use Rattle.firm_nodes.proofs.edges.lost_targets.Goals as goal

pub returns : goal.returns
returns c =
    c.without-2.ensures
    ∙ ap (λ l. without_some l c.targets_of-kept.result.second) (c.without.ensures ∙ ap (λ l. without_some l c.targets_of-kept.result.first) c.targets_of.ensures)
    ∙ without_both (targets c.args.old) c.targets_of-kept.result.first c.targets_of-kept.result.second
    ∙ ap (without_all (targets c.args.old)) c.targets_of-kept.ensures
