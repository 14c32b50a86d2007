-- The words `const` that are left out.
use Rattle.std.proofs.Common.{◌≡◌, length}
use Rattle.c_grammar.specs.Reading.{behind_const}
use Rattle.c_parser.specs.Gives.{Keeps}
use Rattle.c_parser.proofs.parser.Parser.skip_const.Given as goal

abbrev pub invariant-loop-self : goal.invariant-loop-self
invariant-loop-self l = record { rest : behind_const l.self.rest.now ≡ behind_const l.fn.self.rest.now; kept : Keeps l.fn.self l.self }

abbrev pub decreases-loop-self : goal.decreases-loop-self
decreases-loop-self l = length l.self.rest.now
