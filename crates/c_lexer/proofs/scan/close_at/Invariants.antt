use Rattle.std.proofs.Common.{◌≡◌, ℕ, ◌<◌, ◌+◌, slice_index}
use Rattle.c_lexer.proofs.scan.close_at.Given as goal

-- none stands before
abbrev pub invariant-loop-index : goal.invariant-loop-index
invariant-loop-index l = (k : ℕ) → k + 1 < l.index → slice_index l.text k ≡ 42 → slice_index l.text (k + 1) ≡ 47 → ⊥
