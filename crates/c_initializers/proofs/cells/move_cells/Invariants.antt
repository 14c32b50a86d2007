use Rattle.std.proofs.Common.{◌≡◌}
use Rattle.c_initializers.proofs.CellLaws.{first_shifted}
use Rattle.c_initializers.proofs.cells.move_cells.Given as goal

abbrev pub invariant-loop-k : goal.invariant-loop-k
invariant-loop-k l = l.cells ≡ first_shifted l.by l.initial.cells l.k
