-- Nodes with their scopes and their texts.
use Rattle.std.specs.Prelude.{◌≡◌, ℕ, List, length, map}
use Rattle.std.specs.List.{range_with_len}
use Rattle.c_syntax.specs.declared.syntax.SynNode.{SynNode}
use Rattle.c_typing.specs.Places.{scopes_of}
use Rattle.c_nodes.specs.declared.spans.Span.{Span}
use Rattle.c_nodes.specs.Parents.{nodes_in, AreNumbered}
use Rattle.c_nodes.specs.Spans.{AreWithin, found_in}
use Rattle.c_nodes.specs.Scopes.{scope_of}
use Rattle.c_names.specs.Texts.{AreTexts}

pub record IsTagged (table : List SynNode) (spans : List Span) (inner texts : List ℕ) : Type 0 where
  pub nodes : length (nodes_in table) ≡ length table
  pub numbered : AreNumbered (nodes_in table)
  pub scopes : map scope_of spans ≡ scopes_of (nodes_in table)
  pub innermost : inner ≡ map (found_in spans) (range_with_len 0 (length table))
  pub alike : AreTexts table texts

pub record AreSpans (table : List SynNode) (spans : List Span) : Type 0 where
  pub are : map scope_of spans ≡ scopes_of (nodes_in table)
  pub within : AreWithin (length table) spans
