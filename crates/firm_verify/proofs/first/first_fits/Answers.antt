use Rattle.firm_tables.specs.Nodes.{numbers}
use Rattle.std.proofs.Common.{sym, ◌∙◌, ◌==◌}
use Rattle.std.proofs.lemmas.Bool.{eqb-true, eq-eqb}
use Rattle.firm_verify.proofs.PhiLaws.{decides}
use Rattle.firm_verify.proofs.FirstLaws.{first_fits, fits_start, phis_refuse, no_length}
use Rattle.firm_verify.proofs.first.first_fits.Goals as goal

pub returns-then-count_phis-eq0 : goal.returns-then-count_phis-eq0
returns-then-count_phis-eq0 c =
    let members = numbers c.nodes-nodes.result.now in
    decides (c.count_starts.result == 1)
    (λ t. first_fits c.args.graph.now c.args.block.number members c.preds.result.now c.nodes-nodes.ensures c.preds.ensures (no_length c.preds.result.now (c.if-not-is_empty.ensures {u = tt})) (sym c.count_phis.ensures ∙ c.if-count_phis-eq0.true)
    (sym c.count_starts.ensures ∙ eqb-true c.count_starts.result 1 t))
    (λ fits. eq-eqb c.count_starts.result 1 (c.count_starts.ensures ∙ fits_start c.args.graph.now c.args.block.number members c.nodes-nodes.ensures fits))

pub returns-else-count_phis-eq0 : goal.returns-else-count_phis-eq0
returns-else-count_phis-eq0 c =
    phis_refuse c.args.graph.now c.args.block.number c.count_phis.result (numbers c.nodes-nodes.result.now) c.nodes-nodes.ensures c.count_phis.ensures c.if-count_phis-eq0.false
