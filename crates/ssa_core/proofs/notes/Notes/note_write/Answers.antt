use Rattle.std.proofs.Common.{sym, subst}
use Rattle.ssa_core.specs.Kept.{Indexes}
use Rattle.ssa_core.proofs.Lookups.{writes_kept}
use Rattle.ssa_core.proofs.notes.Notes.note_write.Goals as goal

pub invariant_of-self-in_default : goal.invariant_of-self-in_default
invariant_of-self-in_default g c =
    subst (λ ws. Indexes ws c.put.new.self c.self.inside.made c.self.inside.blocks.items) (sym c.in_ok-push.ensures.items)
    (writes_kept c.self.inside.writes.items c.args.write c.self.inside.written c.put.new.self c.self.inside.made c.self.inside.blocks.items c.self.invariant
    c.in_default.ensures.puts)
