use Rattle.std.proofs.Common.{◌≡◌, [], true, length, sym, ap, ◌∙◌, subst, arith, rules}
use Rattle.std.specs.List.{slice_get}
use Rattle.ssa_core.specs.Known.{sealed_in}
use Rattle.ssa_core.specs.Steps.{IsFilled}
use Rattle.ssa_core.proofs.Filling.{decide_by}
use Rattle.ssa_core.proofs.Making.{makes_refl}
use Rattle.ssa_core.proofs.Standing.{advances_refl}
use Rattle.ssa_core.proofs.Settling.{full_alone, filled_full, filled_advances, filled_makes, filled_others, filled_pending, made_mode, made_home, found_after, room_for, no_preds}
use Rattle.ssa_core.proofs.work.Work.fill.Goals as goal

pub returns-then-not-is_sealed-clause-advances : goal.returns-then-not-is_sealed-clause-advances
returns-then-not-is_sealed-clause-advances g c = advances_refl g.T.SsaTarget.mode_of c.args.self.now (g.T.SsaTarget.shape c.args.target.now) c.requires.kept c.args.var

pub returns-then-not-is_sealed-clause-makes : goal.returns-then-not-is_sealed-clause-makes
returns-then-not-is_sealed-clause-makes g c = makes_refl (λ x. x ≡ c.args.var) _ c.args.self.now (g.T.SsaTarget.shape c.args.target.now)

pub returns-then-pred_count-eq0-clause-advances : goal.returns-then-pred_count-eq0-clause-advances
returns-then-pred_count-eq0-clause-advances g c = advances_refl g.T.SsaTarget.mode_of c.args.self.now (g.T.SsaTarget.shape c.args.target.now) c.requires.kept c.args.var

pub returns-then-pred_count-eq0-clause-makes : goal.returns-then-pred_count-eq0-clause-makes
returns-then-pred_count-eq0-clause-makes g c = makes_refl (λ x. x ≡ c.args.var) _ c.args.self.now (g.T.SsaTarget.shape c.args.target.now)

pub returns-then-pred_count-eq0-clause-full : goal.returns-then-pred_count-eq0-clause-full
returns-then-pred_count-eq0-clause-full g c = λ sealed.
    full_alone g.T.SsaTarget.mode_of c.args.self.now (g.T.SsaTarget.shape c.args.target.now) c.requires.kept c.args.var c.args.block c.args.phi c.requires.made
    (no_preds ((g.T.SsaTarget.shape c.args.target.now).preds c.args.block) (sym c.pred_count.ensures ∙ c.if-pred_count-eq0.true))

pub append_all-requires-clause-room : goal.append_all-requires-clause-room
append_all-requires-clause-room g c =
    room_for (g.T.SsaTarget.shape c.args.target.now) (g.T.SsaTarget.shape c.gather.new.target) c.args.block c.args.phi c.deref.result.now c.in_ok-operands.ensures.adds.same_blocks
    (made_home g.T.SsaTarget.mode_of c.gather.new.self (g.T.SsaTarget.shape c.gather.new.target) c.in_ok-operands.ensures.advances.kept c.args.var c.args.block c.args.phi
    (found_after (λ x. x ≡ c.args.var) _ c.args.self.now c.gather.new.self (g.T.SsaTarget.shape c.args.target.now) (g.T.SsaTarget.shape c.gather.new.target)
    c.in_ok-operands.ensures.makes c.args.var c.args.block c.args.phi c.requires.made))
    (ap (λ xs. length xs) c.deref.ensures.value ∙ c.in_ok-operands.ensures.all)

pub append_all-requires-clause-there : goal.append_all-requires-clause-there
append_all-requires-clause-there g c = λ i v at.
    (c.in_ok-operands.ensures.given i v (ap (λ xs. slice_get xs i) (sym c.deref.ensures.value) ∙ at)).given.there

pub append_all-requires-clause-alike : goal.append_all-requires-clause-alike
append_all-requires-clause-alike g c = λ i v at.
    (c.in_ok-operands.ensures.given i v (ap (λ xs. slice_get xs i) (sym c.deref.ensures.value) ∙ at)).given.alike
    ∙ sym (made_mode g.T.SsaTarget.mode_of c.gather.new.self (g.T.SsaTarget.shape c.gather.new.target) c.in_ok-operands.ensures.advances.kept c.args.var c.args.block c.args.phi
    (found_after (λ x. x ≡ c.args.var) _ c.args.self.now c.gather.new.self (g.T.SsaTarget.shape c.args.target.now) (g.T.SsaTarget.shape c.gather.new.target)
    c.in_ok-operands.ensures.makes c.args.var c.args.block c.args.phi c.requires.made))

pub returns-clause-advances : goal.returns-clause-advances
returns-clause-advances g c =
    let sealed : sealed_in c.args.self.now.sealed c.args.block ≡ true = search rules in
    let some : (g.T.SsaTarget.shape c.args.target.now).preds c.args.block ≡ [] → ⊥ = λ none. absurd (omega (arith, c.if-pred_count-eq0.false, c.pred_count.ensures, ap (λ qs. length qs) none)) in
    let filled : IsFilled (g.T.SsaTarget.shape c.gather.new.target) (g.T.SsaTarget.shape c.append_all.new.target) c.args.phi c.in_ok-operands.operands.items =
    subst (λ xs. IsFilled (g.T.SsaTarget.shape c.gather.new.target) (g.T.SsaTarget.shape c.append_all.new.target) c.args.phi xs) c.deref.ensures.value c.in_ok-append_all.ensures.filled in
    filled_advances g.T.SsaTarget.mode_of (decide_by g.T.Value.PartialEq.eq g.met.T.SsaTarget.same g.met.T.SsaTarget.equal) c.args.self.now c.gather.new.self
    (g.T.SsaTarget.shape c.args.target.now) (g.T.SsaTarget.shape c.gather.new.target) (g.T.SsaTarget.shape c.append_all.new.target) c.requires.kept c.args.var
    c.args.block c.args.phi c.in_ok-operands.operands.items c.requires.made sealed some c.requires.pending c.in_ok-operands.ensures.advances
    c.in_ok-operands.ensures.makes c.in_ok-operands.ensures.adds c.in_ok-operands.ensures.pending c.in_ok-operands.ensures.given c.in_ok-operands.ensures.all
    filled

pub returns-clause-makes : goal.returns-clause-makes
returns-clause-makes g c =
    let sealed : sealed_in c.args.self.now.sealed c.args.block ≡ true = search rules in
    let some : (g.T.SsaTarget.shape c.args.target.now).preds c.args.block ≡ [] → ⊥ = λ none. absurd (omega (arith, c.if-pred_count-eq0.false, c.pred_count.ensures, ap (λ qs. length qs) none)) in
    let filled : IsFilled (g.T.SsaTarget.shape c.gather.new.target) (g.T.SsaTarget.shape c.append_all.new.target) c.args.phi c.in_ok-operands.operands.items =
    subst (λ xs. IsFilled (g.T.SsaTarget.shape c.gather.new.target) (g.T.SsaTarget.shape c.append_all.new.target) c.args.phi xs) c.deref.ensures.value c.in_ok-append_all.ensures.filled in
    filled_makes g.T.SsaTarget.mode_of (decide_by g.T.Value.PartialEq.eq g.met.T.SsaTarget.same g.met.T.SsaTarget.equal) c.args.self.now c.gather.new.self
    (g.T.SsaTarget.shape c.args.target.now) (g.T.SsaTarget.shape c.gather.new.target) (g.T.SsaTarget.shape c.append_all.new.target) c.requires.kept c.args.var
    c.args.block c.args.phi c.in_ok-operands.operands.items c.requires.made sealed some c.requires.pending c.in_ok-operands.ensures.advances
    c.in_ok-operands.ensures.makes c.in_ok-operands.ensures.adds c.in_ok-operands.ensures.pending c.in_ok-operands.ensures.given c.in_ok-operands.ensures.all
    filled

pub returns-clause-others : goal.returns-clause-others
returns-clause-others g c =
    let sealed : sealed_in c.args.self.now.sealed c.args.block ≡ true = search rules in
    let some : (g.T.SsaTarget.shape c.args.target.now).preds c.args.block ≡ [] → ⊥ = λ none. absurd (omega (arith, c.if-pred_count-eq0.false, c.pred_count.ensures, ap (λ qs. length qs) none)) in
    let filled : IsFilled (g.T.SsaTarget.shape c.gather.new.target) (g.T.SsaTarget.shape c.append_all.new.target) c.args.phi c.in_ok-operands.operands.items =
    subst (λ xs. IsFilled (g.T.SsaTarget.shape c.gather.new.target) (g.T.SsaTarget.shape c.append_all.new.target) c.args.phi xs) c.deref.ensures.value c.in_ok-append_all.ensures.filled in
    filled_others g.T.SsaTarget.mode_of (decide_by g.T.Value.PartialEq.eq g.met.T.SsaTarget.same g.met.T.SsaTarget.equal) c.args.self.now c.gather.new.self
    (g.T.SsaTarget.shape c.args.target.now) (g.T.SsaTarget.shape c.gather.new.target) (g.T.SsaTarget.shape c.append_all.new.target) c.requires.kept c.args.var
    c.args.block c.args.phi c.in_ok-operands.operands.items c.requires.made sealed some c.requires.pending c.in_ok-operands.ensures.advances
    c.in_ok-operands.ensures.makes c.in_ok-operands.ensures.adds c.in_ok-operands.ensures.pending c.in_ok-operands.ensures.given c.in_ok-operands.ensures.all
    filled

pub returns-clause-full : goal.returns-clause-full
returns-clause-full g c =
    let sealed : sealed_in c.args.self.now.sealed c.args.block ≡ true = search rules in
    let some : (g.T.SsaTarget.shape c.args.target.now).preds c.args.block ≡ [] → ⊥ = λ none. absurd (omega (arith, c.if-pred_count-eq0.false, c.pred_count.ensures, ap (λ qs. length qs) none)) in
    let filled : IsFilled (g.T.SsaTarget.shape c.gather.new.target) (g.T.SsaTarget.shape c.append_all.new.target) c.args.phi c.in_ok-operands.operands.items =
    subst (λ xs. IsFilled (g.T.SsaTarget.shape c.gather.new.target) (g.T.SsaTarget.shape c.append_all.new.target) c.args.phi xs) c.deref.ensures.value c.in_ok-append_all.ensures.filled in
    λ is_sealed. filled_full g.T.SsaTarget.mode_of (decide_by g.T.Value.PartialEq.eq g.met.T.SsaTarget.same g.met.T.SsaTarget.equal) c.args.self.now c.gather.new.self
    (g.T.SsaTarget.shape c.args.target.now) (g.T.SsaTarget.shape c.gather.new.target) (g.T.SsaTarget.shape c.append_all.new.target) c.requires.kept c.args.var
    c.args.block c.args.phi c.in_ok-operands.operands.items c.requires.made sealed some c.requires.pending c.in_ok-operands.ensures.advances
    c.in_ok-operands.ensures.makes c.in_ok-operands.ensures.adds c.in_ok-operands.ensures.pending c.in_ok-operands.ensures.given c.in_ok-operands.ensures.all
    filled

pub returns-clause-pending : goal.returns-clause-pending
returns-clause-pending g c =
    let sealed : sealed_in c.args.self.now.sealed c.args.block ≡ true = search rules in
    let some : (g.T.SsaTarget.shape c.args.target.now).preds c.args.block ≡ [] → ⊥ = λ none. absurd (omega (arith, c.if-pred_count-eq0.false, c.pred_count.ensures, ap (λ qs. length qs) none)) in
    let filled : IsFilled (g.T.SsaTarget.shape c.gather.new.target) (g.T.SsaTarget.shape c.append_all.new.target) c.args.phi c.in_ok-operands.operands.items =
    subst (λ xs. IsFilled (g.T.SsaTarget.shape c.gather.new.target) (g.T.SsaTarget.shape c.append_all.new.target) c.args.phi xs) c.deref.ensures.value c.in_ok-append_all.ensures.filled in
    filled_pending g.T.SsaTarget.mode_of (decide_by g.T.Value.PartialEq.eq g.met.T.SsaTarget.same g.met.T.SsaTarget.equal) c.args.self.now c.gather.new.self
    (g.T.SsaTarget.shape c.args.target.now) (g.T.SsaTarget.shape c.gather.new.target) (g.T.SsaTarget.shape c.append_all.new.target) c.requires.kept c.args.var
    c.args.block c.args.phi c.in_ok-operands.operands.items c.requires.made sealed some c.requires.pending c.in_ok-operands.ensures.advances
    c.in_ok-operands.ensures.makes c.in_ok-operands.ensures.adds c.in_ok-operands.ensures.pending c.in_ok-operands.ensures.given c.in_ok-operands.ensures.all
    filled
