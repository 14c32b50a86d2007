use Rattle.std.proofs.Common.{◌≡◌, length}
use Rattle.firm_tables.proofs.BlockLaws.{renamed_first}
use Rattle.firm_tables.proofs.blocks.rename_ends.Given as goal

abbrev pub invariant-loop-block : goal.invariant-loop-block
invariant-loop-block l = (l.rows ≡ renamed_first l.old l.to l.fn.rows l.block) × (l.block-end ≡ length l.fn.rows)
