use Rattle.std.proofs.Common.{refl, ◌∙◌, arith}
use Rattle.ssa_core.specs.Kept.{IsUnlisted}
use Rattle.ssa_core.proofs.States.{changes_at, take_front}
use Rattle.ssa_core.proofs.notes.unlist_index.Goals as goal

pub returns : goal.returns
returns c =
    changes_at IsUnlisted c.args.states.now.items c.args.block c.index_mut.result.now _ c.requires c.index_mut.ensures.value
    (record {
      flag = refl;
      lists = λ rest index is. c.pop.ensures.rest ∙ take_front rest c.index_mut.result.now.made.items index _ is (omega (arith, c.index_mut.result.now.made.ok.0));
    })
