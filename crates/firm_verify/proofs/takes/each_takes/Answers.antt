use Rattle.std.proofs.Common.{get_or, ap, ◌∙◌, arith}
use Rattle.firm_rules.specs.Rules.{giver}
use Rattle.firm_tables.proofs.NodeLaws.{agrees, refuses}
use Rattle.firm_verify.specs.Memory.{LeavesOnly, fits}
use Rattle.firm_verify.proofs.GraphLaws.{each_more}
use Rattle.firm_verify.proofs.TakesLaws.{leaves_by}
use Rattle.firm_verify.proofs.takes.each_takes.Goals as goal

pub returns-then-not-fits : goal.returns-then-not-fits
returns-then-not-fits c each = refuses c.fits.result c.if-not-fits.true
    (leaves_by c.args.graph.now c.args.chains.now c.args.coming.now (get_or c.args.preds.now c.loop-index.index 0) (giver c.args.graph.now (get_or c.args.operands.now c.loop-index.index 0)) c.leaving.result c.fits.result
    c.requires.chains c.requires.coming c.leaving.ensures (c.fits.ensures ∙ ap (fits c.leaving.result) c.giver_of.ensures.is))
    (each c.loop-index.index c.loop-index-test.true (omega (arith, c.if-index-preds.false)))

pub loop-index-preserved : goal.loop-index-preserved
loop-index-preserved c =
    each_more (λ i. LeavesOnly c.args.graph.now (get_or c.args.preds.now i 0) (giver c.args.graph.now (get_or c.args.operands.now i 0))) c.loop-index.index c.loop-index.invariant
    (agrees c.fits.result c.if-not-fits.false
    (leaves_by c.args.graph.now c.args.chains.now c.args.coming.now (get_or c.args.preds.now c.loop-index.index 0) (giver c.args.graph.now (get_or c.args.operands.now c.loop-index.index 0)) c.leaving.result c.fits.result
    c.requires.chains c.requires.coming c.leaving.ensures (c.fits.ensures ∙ ap (fits c.leaving.result) c.giver_of.ensures.is)))
