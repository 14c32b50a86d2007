-- The kids that are left decide.
use Rattle.std.proofs.Common.{◌≡◌, ◌&&◌, drop}
use Rattle.std.specs.Str.{bytes_eq}
use Rattle.c_typing.specs.Places.{is_word, kind_at, node_at, says, text_at}
use Rattle.c_nodes.specs.Parents.{nodes_in}
use Rattle.c_names.proofs.IndexLaws.{any_of}
use Rattle.c_declarator_rows.proofs.arrays.has_word.Given as goal

abbrev pub invariant-loop-kid : goal.invariant-loop-kid
invariant-loop-kid l =
    any_of (λ n. is_word (kind_at (nodes_in l.nodes) n) && bytes_eq (text_at (nodes_in l.nodes) n) l.word) (drop l.kid-index l.kid-items) ≡ says (nodes_in l.nodes) l.word (node_at (nodes_in l.nodes) l.node)
