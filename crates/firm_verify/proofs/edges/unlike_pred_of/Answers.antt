use Rattle.std.proofs.Common.{ap, ◌∙◌}
use Rattle.firm_uses.specs.Counts.{times}
use Rattle.firm_rules.specs.Lookups.{targets}
use Rattle.firm_verify.proofs.EdgeLaws.{pred_is, pred_unlike, all_led}
use Rattle.firm_verify.proofs.edges.unlike_pred_of.Goals as goal

pub end_of-requires : goal.end_of-requires
end_of-requires c = pred_is c.args.graph.now c.args.to.number c.preds-from-items.result.now c.loop-from.from-index c.requires.within c.preds-from-items.ensures c.loop-from-test.true

pub returns-then-target_count-eq0-clause-some : goal.returns-then-target_count-eq0-clause-some
returns-then-target_count-eq0-clause-some c =
    pred_unlike c.args.graph.now c.args.to.number c.preds-from-items.result.now c.loop-from.from-index c.target_count.result c.requires.within c.requires.to c.preds-from-items.ensures c.loop-from-test.true
    (c.target_count.ensures ∙ ap (λ t. times c.args.to.number (targets t)) c.end_of.ensures) c.if-target_count-eq0.true

pub returns-clause-none : goal.returns-clause-none
returns-clause-none c = all_led c.args.graph.now c.args.to.number c.preds-from-items.result.now c.loop-from.from-index c.preds-from-items.ensures c.loop-from-test.false c.loop-from.invariant
