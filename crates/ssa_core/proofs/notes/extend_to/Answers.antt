use Rattle.std.proofs.Common.{refl, sym, subst}
use Rattle.ssa_core.specs.Kept.{IsExtended}
use Rattle.ssa_core.proofs.Lookups.{not_extended, extended_by}
use Rattle.ssa_core.proofs.notes.extend_to.Goals as goal

pub loop-alloc-init : goal.loop-alloc-init
loop-alloc-init c = not_extended c.args.states.now.items

pub loop-alloc-preserved : goal.loop-alloc-preserved
loop-alloc-preserved c =
    subst (λ xs. IsExtended c.args.states.now.items xs) (sym c.in_ok-push.ensures.items)
    (extended_by c.args.states.now.items c.loop-alloc.states.items _ refl c.new.ensures.items c.loop-alloc.invariant)
