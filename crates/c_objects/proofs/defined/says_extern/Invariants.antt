-- The kids that are left decide.
use Rattle.std.proofs.Common.{◌≡◌, ◌&&◌, drop}
use Rattle.std.specs.Prelude.{codes}
use Rattle.std.specs.Str.{bytes_eq}
use Rattle.c_typing.specs.Places.{is_word, kind_at, node_at, says, text_at}
use Rattle.c_nodes.specs.Parents.{nodes_in}
use Rattle.c_names.proofs.IndexLaws.{any_of}
use Rattle.c_objects.proofs.defined.says_extern.Given as goal

abbrev pub invariant-loop-kid : goal.invariant-loop-kid
invariant-loop-kid l =
    any_of (λ n. is_word (kind_at (nodes_in l.scoped) n) && bytes_eq (text_at (nodes_in l.scoped) n) (codes "extern")) (drop l.kid-index l.kid-items) ≡ says (nodes_in l.scoped) (codes "extern") (node_at (nodes_in l.scoped) l.number)
