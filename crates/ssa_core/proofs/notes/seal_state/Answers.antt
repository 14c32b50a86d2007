use Rattle.std.proofs.Common.{refl}
use Rattle.ssa_core.specs.Kept.{IsSealed}
use Rattle.ssa_core.proofs.States.{changes_at}
use Rattle.ssa_core.proofs.notes.seal_state.Goals as goal

pub returns : goal.returns
returns c =
    changes_at IsSealed c.args.states.now.items c.args.block c.index_mut.result.now _ c.requires c.index_mut.ensures.value
    (record { flag = refl; lists = refl })
