use Rattle.firm_tables.proofs.EqualLaws.{row_matches}
use Rattle.firm_tables.proofs.nodes.is_row.Goals as goal

pub returns : goal.returns
returns c = row_matches c.args.row c.args.op c.args.block c.eq.result c.if-not-row.false c.if-row-block.false c.eq.ensures
