use Rattle.firm_tables.specs.Nodes.{numbers}
use Rattle.std.proofs.Common.{sym, ◌∙◌}
use Rattle.firm_verify.proofs.FirstLaws.{other_fits, fits_no_start}
use Rattle.firm_verify.proofs.first.other_fits.Goals as goal

pub returns-then-count_starts-ne0 : goal.returns-then-count_starts-ne0
returns-then-count_starts-ne0 c = λ fits. c.if-count_starts-ne0.true (c.count_starts.ensures ∙ fits_no_start c.args.graph.now c.args.block.number (numbers c.nodes.result.now) c.nodes.ensures fits)

pub returns : goal.returns
returns c =
    other_fits c.args.graph.now c.args.block.number (numbers c.nodes.result.now) c.preds.result.now c.rank_of.result c.has_earlier.result c.nodes.ensures c.preds.ensures c.rank_of.ensures
    (sym c.count_starts.ensures ∙ c.if-count_starts-ne0.false) c.has_earlier.ensures
