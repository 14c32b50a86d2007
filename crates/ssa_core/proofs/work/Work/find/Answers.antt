use Rattle.std.proofs.Common.{◌≡◌, ◌∷◌, [], length, ap, subst, arith}
use Rattle.ssa_core.specs.Known.{Known}
use Rattle.ssa_core.specs.Steps.{IsTrailNoted}
use Rattle.ssa_core.proofs.Standing.{none_open}
use Rattle.ssa_core.proofs.Finding.{long_endless, lose_read, lose_through, noted_kept, noted_ends, stand_advances, stand_makes, stand_read, stand_open}
use Rattle.ssa_core.proofs.work.Work.find.Goals as goal

pub lose-requires-clause-endless : goal.lose-requires-clause-endless
lose-requires-clause-endless g c =
    long_endless g.T.SsaTarget.mode_of c.args.self.now (g.T.SsaTarget.shape c.args.target.now) c.requires.kept c.args.var c.args.block c.in_ok-stop.stop
    c.go_back.new.trail.items c.in_ok-stop.ensures (omega (arith, c.go_back.new.trail.ok.0, ap (λ k. length k.sealed) c.self.view_is))

pub stand-requires-clause-kept : goal.stand-requires-clause-kept
stand-requires-clause-kept g c =
    noted_kept g.T.SsaTarget.mode_of c.args.self.now (g.T.SsaTarget.shape c.args.target.now) c.requires.kept c.args.var c.in_ok-stop.stop c.go_back.new.trail.items
    c.in_ok-stop.ensures.each c.note_trail.new.self
    (subst (λ (k : Known _). c.note_trail.new.self ≡ record k { passed = c.note_trail.new.self.passed }) c.self.view_is c.in_ok-note_trail.ensures.rest)
    (subst (λ xs. IsTrailNoted c.args.self.now.passed c.note_trail.new.self.passed c.args.var xs c.in_ok-stop.stop) c.deref.ensures.value
    (subst (λ (k : Known _). IsTrailNoted k.passed c.note_trail.new.self.passed c.args.var c.deref.result.now c.in_ok-stop.stop) c.self.view_is c.in_ok-note_trail.ensures.noted))

pub stand-requires-clause-ends : goal.stand-requires-clause-ends
stand-requires-clause-ends g c =
    noted_ends g.T.SsaTarget.mode_of c.args.self.now (g.T.SsaTarget.shape c.args.target.now) c.requires.kept c.args.var c.in_ok-stop.stop c.go_back.new.trail.items
    c.in_ok-stop.ensures.each c.note_trail.new.self
    (subst (λ (k : Known _). c.note_trail.new.self ≡ record k { passed = c.note_trail.new.self.passed }) c.self.view_is c.in_ok-note_trail.ensures.rest)
    (c.in_ok-stop.ensures.ends (omega (arith, c.go_back.new.trail.ok.0, ap (λ k. length k.sealed) c.self.view_is)))

pub returns-clause-advances : goal.returns-clause-advances
returns-clause-advances g c =
    stand_advances g.T.SsaTarget.mode_of c.args.self.now c.note_trail.new.self c.stand.new.self (g.T.SsaTarget.shape c.args.target.now)
    (g.T.SsaTarget.shape c.stand.new.target) c.requires.kept c.args.var c.args.block c.in_ok-stop.stop (length c.args.self.now.sealed) c.in_ok-stand.field-0 c.go_back.new.trail.items
    c.in_ok-stop.ensures (omega (arith, c.go_back.new.trail.ok.0, ap (λ k. length k.sealed) c.self.view_is))
    (subst (λ (k : Known _). c.note_trail.new.self ≡ record k { passed = c.note_trail.new.self.passed }) c.self.view_is c.in_ok-note_trail.ensures.rest)
    (subst (λ xs. IsTrailNoted c.args.self.now.passed c.note_trail.new.self.passed c.args.var xs c.in_ok-stop.stop) c.deref.ensures.value
    (subst (λ (k : Known _). IsTrailNoted k.passed c.note_trail.new.self.passed c.args.var c.deref.result.now c.in_ok-stop.stop) c.self.view_is c.in_ok-note_trail.ensures.noted))
    c.in_ok-stand.ensures.advances c.in_ok-stand.ensures.makes c.in_ok-stand.ensures.value c.in_ok-stand.ensures.pending

pub returns-clause-makes : goal.returns-clause-makes
returns-clause-makes g c =
    stand_makes g.T.SsaTarget.mode_of c.args.self.now c.note_trail.new.self c.stand.new.self (g.T.SsaTarget.shape c.args.target.now)
    (g.T.SsaTarget.shape c.stand.new.target) c.requires.kept c.args.var c.args.block c.in_ok-stop.stop (length c.args.self.now.sealed) c.in_ok-stand.field-0 c.go_back.new.trail.items
    c.in_ok-stop.ensures (omega (arith, c.go_back.new.trail.ok.0, ap (λ k. length k.sealed) c.self.view_is))
    (subst (λ (k : Known _). c.note_trail.new.self ≡ record k { passed = c.note_trail.new.self.passed }) c.self.view_is c.in_ok-note_trail.ensures.rest)
    (subst (λ xs. IsTrailNoted c.args.self.now.passed c.note_trail.new.self.passed c.args.var xs c.in_ok-stop.stop) c.deref.ensures.value
    (subst (λ (k : Known _). IsTrailNoted k.passed c.note_trail.new.self.passed c.args.var c.deref.result.now c.in_ok-stop.stop) c.self.view_is c.in_ok-note_trail.ensures.noted))
    c.in_ok-stand.ensures.advances c.in_ok-stand.ensures.makes c.in_ok-stand.ensures.value c.in_ok-stand.ensures.pending

pub returns-clause-value : goal.returns-clause-value
returns-clause-value g c =
    stand_read g.T.SsaTarget.mode_of c.args.self.now c.note_trail.new.self c.stand.new.self (g.T.SsaTarget.shape c.args.target.now)
    (g.T.SsaTarget.shape c.stand.new.target) c.requires.kept c.args.var c.args.block c.in_ok-stop.stop (length c.args.self.now.sealed) c.in_ok-stand.field-0 c.go_back.new.trail.items
    c.in_ok-stop.ensures (omega (arith, c.go_back.new.trail.ok.0, ap (λ k. length k.sealed) c.self.view_is))
    (subst (λ (k : Known _). c.note_trail.new.self ≡ record k { passed = c.note_trail.new.self.passed }) c.self.view_is c.in_ok-note_trail.ensures.rest)
    (subst (λ xs. IsTrailNoted c.args.self.now.passed c.note_trail.new.self.passed c.args.var xs c.in_ok-stop.stop) c.deref.ensures.value
    (subst (λ (k : Known _). IsTrailNoted k.passed c.note_trail.new.self.passed c.args.var c.deref.result.now c.in_ok-stop.stop) c.self.view_is c.in_ok-note_trail.ensures.noted))
    c.in_ok-stand.ensures.advances c.in_ok-stand.ensures.makes c.in_ok-stand.ensures.value c.in_ok-stand.ensures.pending

pub returns-clause-pending : goal.returns-clause-pending
returns-clause-pending g c =
    stand_open g.T.SsaTarget.mode_of c.args.self.now c.note_trail.new.self c.stand.new.self (g.T.SsaTarget.shape c.args.target.now)
    (g.T.SsaTarget.shape c.stand.new.target) c.requires.kept c.args.var c.args.block c.in_ok-stop.stop (length c.args.self.now.sealed) c.in_ok-stand.field-0 c.go_back.new.trail.items
    c.in_ok-stop.ensures (omega (arith, c.go_back.new.trail.ok.0, ap (λ k. length k.sealed) c.self.view_is))
    (subst (λ (k : Known _). c.note_trail.new.self ≡ record k { passed = c.note_trail.new.self.passed }) c.self.view_is c.in_ok-note_trail.ensures.rest)
    (subst (λ xs. IsTrailNoted c.args.self.now.passed c.note_trail.new.self.passed c.args.var xs c.in_ok-stop.stop) c.deref.ensures.value
    (subst (λ (k : Known _). IsTrailNoted k.passed c.note_trail.new.self.passed c.args.var c.deref.result.now c.in_ok-stop.stop) c.self.view_is c.in_ok-note_trail.ensures.noted))
    c.in_ok-stand.ensures.advances c.in_ok-stand.ensures.makes c.in_ok-stand.ensures.value c.in_ok-stand.ensures.pending

pub returns-then-len-block_count-clause-value : goal.returns-then-len-block_count-clause-value
returns-then-len-block_count-clause-value g c =
    lose_read g.T.SsaTarget.mode_of c.args.self.now c.lose.new.self (g.T.SsaTarget.shape c.args.target.now) (g.T.SsaTarget.shape c.lose.new.target)
    c.requires.kept c.args.var c.args.block c.in_ok-stop.stop c.in_ok-lose.field-0 c.go_back.new.trail.items c.in_ok-stop.ensures
    (omega (arith, c.go_back.new.trail.ok.0, ap (λ k. length k.sealed) c.self.view_is))
    c.in_ok-lose.ensures.advances c.in_ok-lose.ensures.makes c.in_ok-lose.ensures.value

pub returns-then-len-block_count-clause-makes : goal.returns-then-len-block_count-clause-makes
returns-then-len-block_count-clause-makes g c =
    lose_through g.T.SsaTarget.mode_of c.args.self.now c.lose.new.self (g.T.SsaTarget.shape c.args.target.now) (g.T.SsaTarget.shape c.lose.new.target)
    c.requires.kept c.args.var c.args.block c.in_ok-stop.stop c.in_ok-lose.field-0 c.go_back.new.trail.items c.in_ok-stop.ensures
    (omega (arith, c.go_back.new.trail.ok.0, ap (λ k. length k.sealed) c.self.view_is))
    c.in_ok-lose.ensures.advances c.in_ok-lose.ensures.makes c.in_ok-lose.ensures.value
    (c.args.block ∷ [])

pub returns-then-len-block_count-clause-pending : goal.returns-then-len-block_count-clause-pending
returns-then-len-block_count-clause-pending g c =
    none_open g.T.SsaTarget.mode_of c.args.self.now (g.T.SsaTarget.shape c.args.target.now) c.requires.kept (g.T.SsaTarget.shape c.lose.new.target)
    c.lose.new.self c.args.var c.in_ok-lose.ensures.same
