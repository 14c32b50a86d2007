use Rattle.std.proofs.Common.{◌≡◌, ap, ◌∙◌, Some, List, ℕ}
use Rattle.cp_first.proofs.FirstForms.{one_form}
use Rattle.cp_first.proofs.first_form.read_first.Goals as goal

pub returns-in_default-clause-only : goal.returns-in_default-clause-only
returns-in_default-clause-only c = λ bytes status f. absurd (c.in_default.ensures.only _ f.spelled)

pub returns-in-Some-return_status-clause-only : goal.returns-in-Some-return_status-clause-only
returns-in-Some-return_status-clause-only c = λ bytes status f.
    let form = one_form c.args.text.now c.loop-byte.bytes bytes c.loop-byte.rest.now status c.loop-byte.invariant.split c.loop-byte.invariant.each (λ n r h e. c.in_default-call.ensures.only n r h e) f in
    let last : c.in-Some-return_status.status ≡ status = cc (c.in-Some-return_status.ensures.only status f.last form.1) in
    ap (λ (xs : List ℕ). Some (record { bytes = xs; status = c.in-Some-return_status.status })) form.0
    ∙ ap (λ (s : ℕ). Some (record { bytes = bytes; status = s })) last

pub returns-in-None-clause-only : goal.returns-in-None-clause-only
returns-in-None-clause-only c = λ bytes status f.
    let form = one_form c.args.text.now c.loop-byte.bytes bytes c.loop-byte.rest.now status c.loop-byte.invariant.split c.loop-byte.invariant.each (λ n r h e. c.in_default-call.ensures.only n r h e) f in
    absurd (cc (c.in-None.ensures.only status f.last form.1))
