-- The cycle of initializers: each call has a lower budget, or stands for less at the same one; what the loop has read.
use Rattle.std.proofs.Common.{◌+◌, ◌*◌, length}
use Rattle.c_syntax.specs.Tables.{stack_of}
use Rattle.c_grammar.specs.Reading.{below, initializer_in, rows_in, initializers}
use Rattle.c_parser.proofs.BraceRows.{IsListingInBraces}
use Rattle.c_parser.proofs.parser.Parser.+initialize.Given as goal

abbrev pub decreases-initializer : goal.decreases-initializer
decreases-initializer l = l.budget * 2

abbrev pub decreases-initializers : goal.decreases-initializers
decreases-initializers l = l.budget * 2 + 1

abbrev pub decreases-initializers-loop-self : goal.decreases-initializers-loop-self
decreases-initializers-loop-self l = length l.self.rest.now

abbrev pub invariant-initializers-loop-self : goal.invariant-initializers-loop-self
invariant-initializers-loop-self l =
    IsListingInBraces l.budget (below l.budget) (initializer_in l.budget (below l.budget)) (rows_in l.budget (below l.budget) initializers l.fn.self.names l.fn.self.rest.now)
    l.fn.self.names (stack_of l.fn.self.trees) l.budget (length l.fn.self.rest.now) l.self l.height
