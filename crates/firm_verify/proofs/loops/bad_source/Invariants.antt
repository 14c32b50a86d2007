use Rattle.std.proofs.Common.{◌<◌, ℕ, get_or}
use Rattle.firm_verify.specs.Tables.{IsBadLoop}
use Rattle.firm_verify.proofs.loops.bad_source.Given as goal

abbrev pub invariant-loop-last : goal.invariant-loop-last
invariant-loop-last l = (i : ℕ) → i < l.last-index → IsBadLoop l.graph l.head.number (get_or l.last-items i 0) → ⊥
