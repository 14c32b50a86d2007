-- The blocks and values of a target of lists.
use Rattle.std.specs.Prelude.{◌≡◌, ℕ, List, [], ◌∷◌, ◌++◌, length, Option, Some, None}
use Rattle.std.specs.List.{slice_get}
use Rattle.ssa_core.specs.Shapes.{Shape, ValueKind, absent, gone, unknown, phi, other, word}
use Rattle.ssa_tests.specs.declared.lists.Tag.{Tag}
use Rattle.ssa_tests.specs.declared.lists.Tag.TheVariants as tag
use Rattle.ssa_tests.specs.declared.lists.ListValue.{ListValue}
use Rattle.ssa_tests.specs.Edges.{preds_at}
use Rattle.ssa_tests.specs.declared.lists.ListTarget.{ListTarget}

abbrev pub kind_of : Tag → List ℕ → ValueKind ℕ
kind_of tag.Gone operands = gone
kind_of tag.Unknown operands = unknown
kind_of tag.Phi operands = phi operands
kind_of tag.Other operands = other

abbrev pub kind_at : Option ListValue → ValueKind ℕ
kind_at (Some v) = kind_of v.tag v.operands.items
kind_at None = absent

abbrev pub block_at : Option ListValue → ℕ
block_at (Some v) = v.block
block_at None = 0

abbrev pub current_at : ℕ → Option ListValue → ℕ
current_at x (Some v) = v.current
current_at x None = x

abbrev pub shape_of : ListTarget → Shape ℕ
shape_of t = record {
  first = 0;
  blocks = length t.blocks.items;
  preds = λ b. preds_at (slice_get t.blocks.items b);
  kind = λ v. kind_at (slice_get t.values.items v);
  block = λ v. block_at (slice_get t.values.items v);
  mode = λ v. word;
  current = λ v. current_at v (slice_get t.values.items v);
}

-- the value is the last of the list
pub record AddsValue (s t : ListTarget) (block : ℕ) (tag : Tag) : Type 0 where
  pub value : ListValue
  pub values : t.values.items ≡ s.values.items ++ value ∷ []
  pub blocks : t.blocks.items ≡ s.blocks.items
  pub is_tag : value.tag ≡ tag
  pub no_operands : value.operands.items ≡ []
  pub in_block : value.block ≡ block
  pub itself : value.current ≡ length s.values.items
