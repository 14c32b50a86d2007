use Rattle.std.proofs.Common.{refl}
use Rattle.ssa_core.specs.Kept.{IsListed, IsAlike}
use Rattle.ssa_core.proofs.States.{changes_at}
use Rattle.ssa_core.proofs.Results.{on_err}
use Rattle.ssa_core.proofs.notes.list_index.Goals as goal

pub returns-clause-ok : goal.returns-clause-ok
returns-clause-ok c =
    changes_at (IsListed c.args.index) c.args.states.now.items c.args.block c.index_mut.result.now _ c.requires c.index_mut.ensures.value
    (record { flag = refl; lists = c.in_ok-push.ensures.items })

pub returns-in_err-push-clause-err : goal.returns-in_err-push-clause-err
returns-in_err-push-clause-err c =
    on_err _ _
    (changes_at IsAlike c.args.states.now.items c.args.block c.index_mut.result.now (record { is_sealed = c.index_mut.result.now.is_sealed; made = c.push.new.self }) c.requires c.index_mut.ensures.value
    (record { flag = refl; lists = c.in_err-push.ensures.items }))
