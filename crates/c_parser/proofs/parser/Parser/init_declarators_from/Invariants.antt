-- What the loop has read, behind any declarator that was read before it.
use Rattle.std.proofs.Common.{◌≤◌, List, length, suc}
use Rattle.c_syntax.specs.Trees.{Tree}
use Rattle.c_grammar.specs.Scopes.{Names, after, add, entries_behind}
use Rattle.c_grammar.specs.Reading.{below, init_declarator_in, declarators_behind}
use Rattle.c_parser.specs.Gives.{IsDeclared}
use Rattle.c_parser.proofs.CommaRows.{IsListing}
use Rattle.c_parser.proofs.InitializerLaws.{after_initialized}
use Rattle.c_parser.proofs.parser.Parser.init_declarators_from.Given as goal

abbrev pub decreases-loop-self : goal.decreases-loop-self
decreases-loop-self l = length l.self.rest.now

abbrev pub invariant-loop-self : goal.invariant-loop-self
invariant-loop-self l = record {
  low : l.height ≤ l.budget;
  read : (names : Names) (x : Tree) (under : List Tree) → IsDeclared (after names) x under l.fn.self l.declarator
      → IsListing l.budget (below l.budget) (init_declarator_in l.budget (below l.budget) l.is_typedef) (after_initialized l.is_typedef)
      (declarators_behind l.budget (below l.budget) l.is_typedef x names l.fn.self.rest.now)
      (λ ts. add names (entries_behind l.is_typedef ts)) under l.budget (suc (length l.fn.self.rest.now)) l.self l.height;
}
