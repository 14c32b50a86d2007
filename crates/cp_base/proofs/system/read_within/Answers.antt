use Rattle.std.proofs.Common.{◌∙◌, refl, arith}
use Rattle.cp_base.proofs.KnownBytes.{HasRead-none, HasRead-more, HasRead-kept, HasRead-within, HasRead-past, HasRead-front, HasRead-lost}
use Rattle.cp_base.proofs.system.read_within.Goals as goal
use Rattle.cp_base.proofs.system.read_within.Goals.{in-Ok+in_ok-push_all-in-Ok, in-Err}

pub loop-init : goal.loop-init
loop-init g c = record { has_read = HasRead-none _ _ _; some = omega arith }

pub returns-in-Err-2-clause-appends : goal.returns-in-Err-2-clause-appends
returns-in-Err-2-clause-appends g c = HasRead-within _ _ _ _ _ _ c.loop.invariant.has_read c.loop.invariant.some

pub returns-in-Err-2-clause-front : goal.returns-in-Err-2-clause-front
returns-in-Err-2-clause-front g c = HasRead-front _ _ _ _ _ _ (HasRead-kept _ _ _ _ _ _ _ _ _ c.loop.invariant.has_read c.in-Err-2.ensures.bytes refl refl)

-- what the last read gave is lost where there is no memory for it
pub returns-in_err-push_all-in-Ok-clause-front : goal.returns-in_err-push_all-in-Ok-clause-front
returns-in_err-push_all-in-Ok-clause-front g c = HasRead-lost _ _ _ _ _ _ _ _ _ c.loop.invariant.has_read c.in-Ok.ensures.bytes.0 c.in_err-push_all-in-Ok.ensures.err

pub returns-then-left-eq0-clause-appends : goal.returns-then-left-eq0-clause-appends
returns-then-left-eq0-clause-appends g c = elim c.match-read.branch [
  | in-Ok+in_ok-push_all-in-Ok w ↦ HasRead-past _ _ _ _ _ _ (HasRead-more _ _ _ _ _ _ _ _ _ _ _ _ _ _ _ c.loop.invariant.has_read w.in-Ok.ensures.bytes.0 w.in-Ok.ensures.bound.0 c.read.auto.buf c.min-room.ensures (w.into-is ∙ w.in_ok-push_all-in-Ok.ensures.ok) w.left-is) c.if-left-eq0.true
  | in-Err w ↦ HasRead-past _ _ _ _ _ _ (HasRead-kept _ _ _ _ _ _ _ _ _ c.loop.invariant.has_read w.in-Err.ensures.bytes w.into-is w.left-is) c.if-left-eq0.true
]

pub returns-then-left-eq0-clause-front : goal.returns-then-left-eq0-clause-front
returns-then-left-eq0-clause-front g c = elim c.match-read.branch [
  | in-Ok+in_ok-push_all-in-Ok w ↦ HasRead-front _ _ _ _ _ _ (HasRead-more _ _ _ _ _ _ _ _ _ _ _ _ _ _ _ c.loop.invariant.has_read w.in-Ok.ensures.bytes.0 w.in-Ok.ensures.bound.0 c.read.auto.buf c.min-room.ensures (w.into-is ∙ w.in_ok-push_all-in-Ok.ensures.ok) w.left-is)
  | in-Err w ↦ HasRead-front _ _ _ _ _ _ (HasRead-kept _ _ _ _ _ _ _ _ _ c.loop.invariant.has_read w.in-Err.ensures.bytes w.into-is w.left-is)
]

pub loop-preserved : goal.loop-preserved
loop-preserved g c = elim c.match-read.branch [
  | in-Ok+in_ok-push_all-in-Ok w ↦ record {
    has_read = HasRead-more _ _ _ _ _ _ _ _ _ _ _ _ _ _ _ c.loop.invariant.has_read w.in-Ok.ensures.bytes.0 w.in-Ok.ensures.bound.0 c.read.auto.buf c.min-room.ensures (w.into-is ∙ w.in_ok-push_all-in-Ok.ensures.ok) w.left-is;
    some = omega arith;
  }
  | in-Err w ↦ record { has_read = HasRead-kept _ _ _ _ _ _ _ _ _ c.loop.invariant.has_read w.in-Err.ensures.bytes w.into-is w.left-is; some = omega arith }
]

pub returns-clause-appends : goal.returns-clause-appends
returns-clause-appends g c = HasRead-within _ _ _ _ _ _ c.loop.invariant.has_read c.loop.invariant.some

pub returns-clause-front : goal.returns-clause-front
returns-clause-front g c = HasRead-front _ _ _ _ _ _ c.loop.invariant.has_read
