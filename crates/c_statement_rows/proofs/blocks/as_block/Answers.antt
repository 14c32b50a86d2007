use Rattle.c_types.proofs.FormLaws.{block_is}
use Rattle.c_statement_rows.proofs.blocks.as_block.Goals as goal

pub returns : goal.returns
returns c = block_is c.args.stmts
