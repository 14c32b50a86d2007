-- The kids that are left decide.
use Rattle.std.proofs.Common.{◌≡◌, drop}
use Rattle.c_typing.specs.Places.{node_at}
use Rattle.c_typing.specs.Names.{says_function}
use Rattle.c_nodes.specs.Parents.{nodes_in}
use Rattle.c_names.specs.Denoted.{places_in}
use Rattle.c_names.specs.Names.{is_function_word}
use Rattle.c_names.proofs.IndexLaws.{any_of}
use Rattle.c_names.proofs.words.says_function.Given as goal

abbrev pub invariant-loop-kid : goal.invariant-loop-kid
invariant-loop-kid l =
    any_of (is_function_word (nodes_in l.scoped) (places_in l.scoped).names) (drop l.kid-index l.kid-items)
    ≡ says_function (nodes_in l.scoped) (places_in l.scoped).names (node_at (nodes_in l.scoped) l.number)
