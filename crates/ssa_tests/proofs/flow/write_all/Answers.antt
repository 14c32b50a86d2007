use Rattle.ssa_tests.proofs.Unread.{never_read}
use Rattle.ssa_tests.proofs.flow.write_all.Goals as goal

pub write-requires-clause-last : goal.write-requires-clause-last
write-requires-clause-last c = λ read before. never_read c.loop-write.builder _ c.loop-write.invariant.unread read
