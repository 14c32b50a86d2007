use Rattle.std.proofs.Common.{◌<◌}
use Rattle.cp_base.proofs.KnownBytes.{HasRead}
use Rattle.cp_base.proofs.system.read_within.Given as goal

-- some bytes have come, and at least one more may come
abbrev pub invariant-loop : goal.invariant-loop
invariant-loop g l = record {
  has_read : HasRead (g.R.Read.remaining l.fn.reader) (g.R.Read.remaining l.reader) l.fn.into l.into l.left l.fn.limit;
  some : 0 < l.left;
}
