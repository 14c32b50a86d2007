-- The words among the kids so far.
use Rattle.std.proofs.Common.{take}
use Rattle.c_typing.specs.Places.{numbers}
use Rattle.c_nodes.specs.Parents.{nodes_in}
use Rattle.c_declared_types.specs.Words.{AreWords}
use Rattle.c_declarator_rows.specs.Said.{words_in}
use Rattle.c_declarator_rows.proofs.said.words_of.Given as goal

abbrev pub invariant-loop-kid : goal.invariant-loop-kid
invariant-loop-kid l = AreWords l.words (words_in (nodes_in l.nodes) (take l.kid-index (numbers l.kids)))
