-- The strings joined so far.
use Rattle.std.proofs.Common.{◌≡◌, ◌≤◌, length}
use Rattle.c_grammar.specs.Reading.{joined_behind}
use Rattle.c_parser.specs.Gives.{Keeps}
use Rattle.c_parser.proofs.parser.Parser.string.Given as goal

abbrev pub invariant-loop-more : goal.invariant-loop-more
invariant-loop-more l = record {
  joined : joined_behind l.bytes l.self.rest.now ≡ joined_behind l.first l.initial.self.rest.now;
  shorter : length l.self.rest.now ≤ length l.initial.self.rest.now;
  kept : Keeps l.initial.self l.self;
}

abbrev pub decreases-loop-more : goal.decreases-loop-more
decreases-loop-more l = length l.self.rest.now
