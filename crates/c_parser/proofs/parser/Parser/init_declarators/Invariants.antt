-- What the loop has read.
use Rattle.std.proofs.Common.{length}
use Rattle.c_syntax.specs.Tables.{stack_of}
use Rattle.c_grammar.specs.Scopes.{add, entries_behind}
use Rattle.c_grammar.specs.Reading.{Rows, below, rows_in, init_declarator_in}
use Rattle.c_parser.proofs.CommaRows.{IsListing}
use Rattle.c_parser.proofs.InitializerLaws.{after_initialized}
use Rattle.c_parser.proofs.parser.Parser.init_declarators.Given as goal

abbrev pub decreases-loop-self : goal.decreases-loop-self
decreases-loop-self l = length l.self.rest.now

abbrev pub invariant-loop-self : goal.invariant-loop-self
invariant-loop-self l =
    IsListing l.budget (below l.budget) (init_declarator_in l.budget (below l.budget) l.is_typedef) (after_initialized l.is_typedef)
    (rows_in l.budget (below l.budget) (Rows.init_declarators l.is_typedef) l.fn.self.names l.fn.self.rest.now)
    (λ ts. add l.fn.self.names (entries_behind l.is_typedef ts)) (stack_of l.fn.self.trees) l.budget (length l.fn.self.rest.now) l.self l.height
