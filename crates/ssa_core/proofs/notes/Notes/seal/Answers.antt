use Rattle.std.proofs.Common.{◌<◌, length, Some, sym, ap, ◌∙◌}
use Rattle.std.proofs.lemmas.Option.{slice_get-get_or}
use Rattle.ssa_core.specs.Known.{sealed_in, indices_in}
use Rattle.ssa_core.specs.Kept.{IsSealed}
use Rattle.ssa_core.proofs.States.{flags_other, copied, below_states}
use Rattle.ssa_core.proofs.notes.Notes.seal.Goals as goal

pub returns-clause-others : goal.returns-clause-others
returns-clause-others g c = λ b differs.
    flags_other IsSealed c.self.inside.blocks.items c.seal_state.new.states.items c.args.block b c.seal_state.ensures differs
    ∙ ap (λ k. sealed_in k.sealed b) c.self.view_is
    ∙ c.has_state.ensures.same b

pub returns-clause-waiting : goal.returns-clause-waiting
returns-clause-waiting g c =
    copied c.index.result.now.made.items c.in_ok-waiting.waiting.items c.in_ok-waiting.ensures.cases.0
    ∙ c.self.invariant.lists c.args.block c.index.result.now (slice_get-get_or c.self.inside.blocks.items c.args.block c.index.result.now less ∙ ap Some (sym c.index.ensures))
    ∙ ap (λ k. indices_in k.made c.args.block) (c.self.view_is ∙ c.has_state.ensures.rest)
  where
    less : c.args.block < length c.self.inside.blocks.items
    less = below_states c.self.inside.blocks.items c.has_state.new.self.sealed c.args.block (ap (λ k. k.sealed) c.self.view_is) c.in_ok-has_state.ensures.there
