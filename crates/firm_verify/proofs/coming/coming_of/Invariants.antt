use Rattle.std.proofs.Common.{◌≡◌, ◌+◌, false, if◌then◌else◌}
use Rattle.firm_verify.specs.Broken.{AtBlocks}
use Rattle.firm_verify.specs.Memory.{AreSeen, IsClosedAt, rooms}
use Rattle.firm_verify.proofs.coming.coming_of.Given as goal

abbrev pub invariant-loop-is_open : goal.invariant-loop-is_open
invariant-loop-is_open l = AreSeen l.graph l.coming.items × (l.is_open ≡ false → AtBlocks l.graph (IsClosedAt l.graph l.chains l.coming.items))

abbrev pub decreases-loop-is_open : goal.decreases-loop-is_open
decreases-loop-is_open l = rooms l.coming.items l.graph.order + (if l.is_open then 1 else 0)
