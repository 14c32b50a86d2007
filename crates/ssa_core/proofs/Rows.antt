-- Worked rows, by computation: two diamonds and a loop. Blocks and values are given by lists.
use Rattle.std.specs.Prelude.{◌≡◌, ℕ, List, [], ◌∷◌, length, Option, Some, None, refl}
use Rattle.std.specs.List.{slice_get}
use Rattle.std.specs.Option.{unwrap_or}
use Rattle.ssa_core.specs.Shapes.{Shape, ValueKind, absent, phi, other, word}
use Rattle.ssa_core.specs.Walks.{Edge, Walk, nowhere, from, along, last, last_with}

record Standing : Type 0 where
  block : ℕ
  kind : ValueKind ℕ

kind_of : Option Standing → ValueKind ℕ
kind_of (Some v) = v.kind
kind_of None = absent

block_of : Option Standing → ℕ
block_of (Some v) = v.block
block_of None = 0

listed : List (List ℕ) → List Standing → Shape ℕ
listed preds values = record {
  first = 0;
  blocks = length preds;
  preds = λ b. unwrap_or (slice_get preds b) [];
  kind = λ v. kind_of (slice_get values v);
  block = λ v. block_of (slice_get values v);
  mode = λ v. word;
  current = λ v. v;
}

at : ℕ → ValueKind ℕ → Standing
at b k = record { block = b; kind = k }

edge : ℕ → ℕ → Edge
edge b i = record { into = b; place = i }

-- the value that is written in each block, if any
writes : List (Option ℕ) → ℕ → Option ℕ
writes list b = unwrap_or (slice_get list b) None

-- 0 leads to 1 and 2, and these lead to 3. The variable is written in 1 and in 2, and 3 has a Phi of the two values.
diamond : Shape ℕ
unfolding listed at kind_of block_of
diamond = listed ([] ∷ (0 ∷ []) ∷ (0 ∷ []) ∷ (1 ∷ 2 ∷ []) ∷ []) (at 1 other ∷ at 2 other ∷ at 3 (phi (0 ∷ 1 ∷ [])) ∷ [])

by_one : Walk
unfolding edge
by_one = edge 3 0 ∷ edge 1 0 ∷ []

by_two : Walk
unfolding edge
by_two = edge 3 1 ∷ edge 2 0 ∷ []

diamond_writes : ℕ → Option ℕ
unfolding writes
diamond_writes = writes (None ∷ Some 0 ∷ Some 1 ∷ None ∷ [])

left_arm : along diamond by_one 2 ≡ from 0 (edge 1 0 ∷ [])
unfolding diamond by_one along edge
left_arm = refl

right_arm : along diamond by_two 2 ≡ from 1 (edge 2 0 ∷ [])
unfolding diamond by_two along edge
right_arm = refl

left_write : last diamond diamond_writes by_one ≡ from 0 (edge 1 0 ∷ [])
unfolding diamond by_one diamond_writes along last_with edge
left_write = refl

right_write : last diamond diamond_writes by_two ≡ from 1 (edge 2 0 ∷ [])
unfolding diamond by_two diamond_writes along last_with edge
right_write = refl

-- The same blocks; the variable is written in 0 and in 1. The Phi has no operand yet for the second predecessor.
half : Shape ℕ
unfolding listed at kind_of block_of
half = listed ([] ∷ (0 ∷ []) ∷ (0 ∷ []) ∷ (1 ∷ 2 ∷ []) ∷ []) (at 0 other ∷ at 1 other ∷ at 3 (phi (1 ∷ [])) ∷ [])

half_writes : ℕ → Option ℕ
unfolding writes
half_writes = writes (Some 0 ∷ Some 1 ∷ None ∷ None ∷ [])

half_left : along half by_one 2 ≡ last half half_writes by_one
unfolding half by_one half_writes along last_with
half_left = refl

half_right : along half by_two 2 ≡ nowhere
unfolding half by_two along
half_right = refl

half_right_write : last half half_writes by_two ≡ from 0 []
unfolding half by_two half_writes along last_with
half_right_write = refl

-- what is written in 3 itself does not count where it comes after the read
half_before : last_with half half_writes None by_two ≡ from 0 []
unfolding half by_two half_writes along last_with
half_before = refl

-- 0 leads to 1, and 1 to itself. The variable is written in 0 and, after it is read, in 1: value 1 is the Phi at the start
-- of 1, and value 2 is what is written there.
loop : Shape ℕ
unfolding listed at kind_of block_of
loop = listed ([] ∷ (0 ∷ 1 ∷ []) ∷ []) (at 0 other ∷ at 1 (phi (0 ∷ 2 ∷ [])) ∷ at 1 other ∷ [])

loop_writes : ℕ → Option ℕ
unfolding writes
loop_writes = writes (Some 0 ∷ Some 2 ∷ [])

twice : Walk
unfolding edge
twice = edge 1 1 ∷ edge 1 1 ∷ edge 1 0 ∷ []

-- on the third visit of 1 the Phi is the value written on the second
third_visit : along loop twice 1 ≡ from 2 (edge 1 1 ∷ edge 1 0 ∷ [])
unfolding loop twice along edge
third_visit = refl

third_visit_write : last_with loop loop_writes None twice ≡ from 2 (edge 1 1 ∷ edge 1 0 ∷ [])
unfolding loop twice loop_writes along last_with edge
third_visit_write = refl

-- behind the write it is the value of this visit
behind_write : last loop loop_writes twice ≡ from 2 twice
unfolding loop twice loop_writes along last_with
behind_write = refl
