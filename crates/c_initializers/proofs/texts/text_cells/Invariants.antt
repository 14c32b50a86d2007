use Rattle.c_initializers.proofs.CellLaws.{AreFirst}
use Rattle.c_initializers.proofs.texts.text_cells.Given as goal

abbrev pub invariant-loop-k : goal.invariant-loop-k
invariant-loop-k l = AreFirst l.bytes l.k l.cells
