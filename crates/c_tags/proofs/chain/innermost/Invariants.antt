-- The innermost so far, and those from here on.
use Rattle.std.proofs.Common.{◌≡◌, drop}
use Rattle.std.specs.Prelude.{filter}
use Rattle.c_tags.specs.Chains.{innermost_entry, is_seen, seen_at}
use Rattle.c_tags.proofs.chain.innermost.Given as goal

abbrev pub invariant-loop-entry : goal.invariant-loop-entry
invariant-loop-entry l = innermost_entry l.best (filter (is_seen l.number) (drop l.entry-index l.chain)) ≡ seen_at l.chain l.number
