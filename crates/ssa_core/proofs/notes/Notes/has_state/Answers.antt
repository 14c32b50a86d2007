use Rattle.std.proofs.Common.{ap, ◌∙◌}
use Rattle.ssa_core.specs.Known.{sealed_in}
use Rattle.ssa_core.proofs.Lookups.{extended_kept, extended_sealed}
use Rattle.ssa_core.proofs.notes.Notes.has_state.Goals as goal

pub invariant_of-self : goal.invariant_of-self
invariant_of-self g c =
    extended_kept c.self.inside.writes.items c.self.inside.written c.self.inside.made c.self.inside.blocks.items c.extend_to.new.states.items
    c.self.invariant c.extend_to.ensures.fresh

pub returns-clause-same : goal.returns-clause-same
returns-clause-same g c = λ b.
    extended_sealed c.self.inside.blocks.items c.extend_to.new.states.items c.extend_to.ensures.fresh b ∙ ap (λ k. sealed_in k.sealed b) c.self.view_is
