use Rattle.std.proofs.Common.{sym, ap, ◌∙◌, subst}
use Rattle.ssa_core.specs.Places.{found}
use Rattle.ssa_core.specs.Known.{sealed_in}
use Rattle.ssa_core.specs.Kept.{Indexes, ChangesAt, IsListed}
use Rattle.ssa_core.proofs.States.{indexes_back, indexes_made, flags_same, below_states}
use Rattle.ssa_core.proofs.notes.Notes.note_made.Goals as goal

pub invariant_of-self-in-Err : goal.invariant_of-self-in-Err
invariant_of-self-in-Err g c =
    subst (λ made. Indexes c.self.inside.writes.items c.self.inside.written made c.unlist_index.new.states.items) (sym c.in-Err.ensures.err)
    (indexes_back c.self.inside.writes.items c.self.inside.written c.self.inside.made c.self.inside.blocks.items c.list_index.new.states.items
    c.unlist_index.new.states.items c.args.block c.len-index.result c.self.invariant c.in_ok-list_index.ensures.ok c.unlist_index.ensures)

pub invariant_of-self-in_default : goal.invariant_of-self-in_default
invariant_of-self-in_default g c =
    let none = ap (λ k. found k.made c.args.var c.args.block) (c.self.view_is ∙ c.has_state.ensures.rest) ∙ c.requires in
    let less = below_states c.self.inside.blocks.items c.has_state.new.self.sealed c.args.block (ap (λ k. k.sealed) c.self.view_is) c.in_ok-has_state.ensures.there in
    subst (λ made. Indexes c.self.inside.writes.items c.self.inside.written made c.list_index.new.states.items) (sym (c.in_default.ensures.appends none))
    (indexes_made c.self.inside.writes.items c.self.inside.written c.self.inside.made c.self.inside.blocks.items c.list_index.new.states.items
    c.args.var c.args.block c.args.value c.self.invariant less
    (subst (λ index. ChangesAt (IsListed index) c.self.inside.blocks.items c.list_index.new.states.items c.args.block) c.len-index.ensures c.in_ok-list_index.ensures.ok))

pub returns-clause-sealed : goal.returns-clause-sealed
returns-clause-sealed g c = λ b.
    flags_same (IsListed c.len-index.result) c.self.inside.blocks.items c.list_index.new.states.items c.args.block c.in_ok-list_index.ensures.ok
    c.in_ok-list_index.ensures.ok.changes.flag b
    ∙ ap (λ k. sealed_in k.sealed b) c.self.view_is
    ∙ c.has_state.ensures.same b
