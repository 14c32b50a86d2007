-- What the loop has read of the unit.
use Rattle.std.proofs.Common.{[], ◌≡◌, ◌≤◌, length}
use Rattle.c_syntax.specs.Tables.{stack_of}
use Rattle.c_grammar.specs.Scopes.{opened}
use Rattle.c_grammar.specs.Reading.{Rows, below, rows_in}
use Rattle.c_parser.proofs.ItemRows.{IsExternalRow}
use Rattle.c_parser.proofs.parser.Parser.unit.Given as goal

abbrev pub decreases-loop-self : goal.decreases-loop-self
decreases-loop-self l = length l.self.rest.now

abbrev pub invariant-loop-self : goal.invariant-loop-self
invariant-loop-self l = record {
  low : l.height ≤ l.lower;
  read : l.fn.self.names ≡ opened [] → stack_of l.fn.self.trees ≡ []
      → IsExternalRow l.lower (below l.lower) (rows_in l.lower (below l.lower) Rows.externals l.fn.self.names l.fn.self.rest.now) [] l.lower l.first.start l.self l.height;
}
