use Rattle.std.proofs.Common.{◌≡◌, ◌≤◌, ◌∷◌, [], ℕ, List, length, sym, ap, ◌∙◌, subst}
use Rattle.ssa_core.specs.Building.{Makes}
use Rattle.ssa_core.specs.Steps.{AreOpen, AreReached, Settles}
use Rattle.ssa_core.proofs.Making.{calls_trans}
use Rattle.ssa_core.proofs.Settling.{longer}
use Rattle.ssa_core.proofs.Reading.{read_settled, read_value, all_makes, noted_settled, noted_value, noted_makes, noted_reads}
use Rattle.ssa_core.proofs.work.Work.read.Goals as goal

pub settle-requires-clause-pending : goal.settle-requires-clause-pending
settle-requires-clause-pending g c =
    subst (λ n. AreOpen c.find.new.self (g.T.SsaTarget.shape c.find.new.target) c.args.var n) (sym (c.made_count-start.ensures ∙ ap (λ k. length k.made) c.self.view_is)) c.in_ok-value.ensures.pending

pub settle-requires-clause-within : goal.settle-requires-clause-within
settle-requires-clause-within g c =
    subst (λ n. n ≤ length c.find.new.self.made) (sym (c.made_count-start.ensures ∙ ap (λ k. length k.made) c.self.view_is))
    (longer (λ x. x ≡ c.args.var) (c.args.block ∷ []) c.args.self.now c.find.new.self (g.T.SsaTarget.shape c.args.target.now) (g.T.SsaTarget.shape c.find.new.target)
    c.in_ok-value.ensures.makes)

pub returns-clause-settled : goal.returns-clause-settled
returns-clause-settled g c =
    noted_settled g.T.SsaTarget.mode_of c.args.self.now c.settle.new.self c.note_read.new.self c.self-2.inside.notes (g.T.SsaTarget.shape c.args.target.now)
    (g.T.SsaTarget.shape c.settle.new.target) c.args.var c.args.block c.in_ok-value.value c.write_count-writes.result c.in_ok-note_read.ensures.ok c.self-2.view_is
    c.write_count-writes.ensures
    (calls_trans c.args.self.now c.find.new.self c.settle.new.self c.in_ok-value.ensures.advances.calls c.in_ok-settle.ensures.advances.calls).writes
    (read_settled g.T.SsaTarget.mode_of c.args.self.now c.find.new.self c.settle.new.self (g.T.SsaTarget.shape c.args.target.now) (g.T.SsaTarget.shape c.find.new.target)
    (g.T.SsaTarget.shape c.settle.new.target) c.requires.settled c.args.var c.args.block c.in_ok-value.value c.in_ok-value.ensures.advances c.in_ok-value.ensures.makes
    c.in_ok-value.ensures.value c.in_ok-settle.ensures.advances
    (subst (λ n. (ends : List ℕ) → AreReached c.find.new.self (g.T.SsaTarget.shape c.find.new.target) n ends
    → Makes (λ x. x ≡ c.args.var) ends c.find.new.self c.settle.new.self (g.T.SsaTarget.shape c.find.new.target) (g.T.SsaTarget.shape c.settle.new.target))
    (c.made_count-start.ensures ∙ ap (λ k. length k.made) c.self.view_is) c.in_ok-settle.ensures.makes)
    (subst (λ n. Settles c.find.new.self c.settle.new.self (g.T.SsaTarget.shape c.find.new.target) (g.T.SsaTarget.shape c.settle.new.target) n)
    (c.made_count-start.ensures ∙ ap (λ k. length k.made) c.self.view_is) c.in_ok-settle.ensures.settles))

pub returns-clause-reads : goal.returns-clause-reads
returns-clause-reads g c =
    noted_reads g.T.SsaTarget.mode_of c.args.self.now c.settle.new.self c.note_read.new.self c.self-2.inside.notes (g.T.SsaTarget.shape c.args.target.now)
    (g.T.SsaTarget.shape c.settle.new.target) c.args.var c.args.block c.in_ok-value.value c.write_count-writes.result c.in_ok-note_read.ensures.ok c.self-2.view_is
    c.write_count-writes.ensures
    (calls_trans c.args.self.now c.find.new.self c.settle.new.self c.in_ok-value.ensures.advances.calls c.in_ok-settle.ensures.advances.calls).writes
    (calls_trans c.args.self.now c.find.new.self c.settle.new.self c.in_ok-value.ensures.advances.calls c.in_ok-settle.ensures.advances.calls).reads

pub returns-clause-value : goal.returns-clause-value
returns-clause-value g c =
    noted_value g.T.SsaTarget.mode_of c.args.self.now c.settle.new.self c.note_read.new.self c.self-2.inside.notes (g.T.SsaTarget.shape c.args.target.now)
    (g.T.SsaTarget.shape c.settle.new.target) c.args.var c.args.block c.in_ok-value.value c.write_count-writes.result c.in_ok-note_read.ensures.ok c.self-2.view_is
    c.write_count-writes.ensures
    (calls_trans c.args.self.now c.find.new.self c.settle.new.self c.in_ok-value.ensures.advances.calls c.in_ok-settle.ensures.advances.calls).writes
    (read_value g.T.SsaTarget.mode_of c.args.self.now c.find.new.self c.settle.new.self (g.T.SsaTarget.shape c.args.target.now) (g.T.SsaTarget.shape c.find.new.target)
    (g.T.SsaTarget.shape c.settle.new.target) c.requires.settled c.args.var c.args.block c.in_ok-value.value c.in_ok-value.ensures.advances c.in_ok-value.ensures.makes
    c.in_ok-value.ensures.value c.in_ok-settle.ensures.advances
    (subst (λ n. (ends : List ℕ) → AreReached c.find.new.self (g.T.SsaTarget.shape c.find.new.target) n ends
    → Makes (λ x. x ≡ c.args.var) ends c.find.new.self c.settle.new.self (g.T.SsaTarget.shape c.find.new.target) (g.T.SsaTarget.shape c.settle.new.target))
    (c.made_count-start.ensures ∙ ap (λ k. length k.made) c.self.view_is) c.in_ok-settle.ensures.makes)
    (subst (λ n. Settles c.find.new.self c.settle.new.self (g.T.SsaTarget.shape c.find.new.target) (g.T.SsaTarget.shape c.settle.new.target) n)
    (c.made_count-start.ensures ∙ ap (λ k. length k.made) c.self.view_is) c.in_ok-settle.ensures.settles))

pub returns-clause-makes : goal.returns-clause-makes
returns-clause-makes g c =
    noted_makes g.T.SsaTarget.mode_of c.args.self.now c.settle.new.self c.note_read.new.self c.self-2.inside.notes (g.T.SsaTarget.shape c.args.target.now)
    (g.T.SsaTarget.shape c.settle.new.target) c.args.var c.args.block c.in_ok-value.value c.write_count-writes.result c.in_ok-note_read.ensures.ok c.self-2.view_is
    c.write_count-writes.ensures
    (calls_trans c.args.self.now c.find.new.self c.settle.new.self c.in_ok-value.ensures.advances.calls c.in_ok-settle.ensures.advances.calls).writes (λ x. x ≡ c.args.var) (c.args.block ∷ [])
    (all_makes g.T.SsaTarget.mode_of c.args.self.now c.find.new.self c.settle.new.self (g.T.SsaTarget.shape c.args.target.now) (g.T.SsaTarget.shape c.find.new.target)
    (g.T.SsaTarget.shape c.settle.new.target) c.requires.settled c.args.var c.args.block c.in_ok-value.value c.in_ok-value.ensures.advances c.in_ok-value.ensures.makes
    c.in_ok-value.ensures.value c.in_ok-settle.ensures.advances
    (subst (λ n. (ends : List ℕ) → AreReached c.find.new.self (g.T.SsaTarget.shape c.find.new.target) n ends
    → Makes (λ x. x ≡ c.args.var) ends c.find.new.self c.settle.new.self (g.T.SsaTarget.shape c.find.new.target) (g.T.SsaTarget.shape c.settle.new.target))
    (c.made_count-start.ensures ∙ ap (λ k. length k.made) c.self.view_is) c.in_ok-settle.ensures.makes)
    (subst (λ n. Settles c.find.new.self c.settle.new.self (g.T.SsaTarget.shape c.find.new.target) (g.T.SsaTarget.shape c.settle.new.target) n)
    (c.made_count-start.ensures ∙ ap (λ k. length k.made) c.self.view_is) c.in_ok-settle.ensures.settles))
