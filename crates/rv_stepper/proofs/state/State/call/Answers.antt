use Rattle.std.proofs.Common.{◌≡◌, ◌%◌, sym, ap, ◌∙◌, true, false, eq-eqb}
use Rattle.std.specs.Prelude.{slice_index, ◌==◌}
use Rattle.rv_code.specs.Registers.{x_a7}
use Rattle.rv_code.specs.Machine.{Ends}
use Rattle.rv_stepper.proofs.Calls.{call_reads, call_writes, call_exits, called_access, unequal}
use Rattle.rv_stepper.proofs.state.State.call.Goals as goal

pub read_byte-requires : goal.read_byte-requires
read_byte-requires c = called_access c.args.self.now 63 0 (sym c.is_call.ensures ∙ c.if-is_call.true)

pub write_byte-requires : goal.write_byte-requires
write_byte-requires c = called_access c.args.self.now 64 1 (sym c.is_call-2.ensures ∙ c.if-is_call-2.true)

pub returns-then-is_call-clause-step : goal.returns-then-is_call-clause-step
returns-then-is_call-clause-step c = λ p out r. c.read_byte.ensures.step out ∙ sym (call_reads p c.args.input.now c.args.self.now out r (sym c.is_call.ensures ∙ c.if-is_call.true))

pub returns-then-is_call-2-clause-step : goal.returns-then-is_call-2-clause-step
returns-then-is_call-2-clause-step c = λ p out r. c.write_byte.ensures.step out ∙ sym (call_writes p c.args.input.now c.args.self.now out r (sym c.is_call.ensures ∙ c.if-is_call.false) (sym c.is_call-2.ensures ∙ c.if-is_call-2.true))

pub returns-then-word-eq-EXIT-clause-step : goal.returns-then-word-eq-EXIT-clause-step
returns-then-word-eq-EXIT-clause-step c = λ p out r.
    let seven = sym c.word.ensures in
    let test : (slice_index c.args.self.now.registers x_a7 == 93) ≡ true = eq-eqb _ _ (seven ∙ c.if-word-eq-EXIT.true) in
    ap (λ w. Ends (w % 256)) c.word-then-word-eq-EXIT.ensures
    ∙ sym (call_exits p c.args.input.now c.args.self.now out true r (sym c.is_call.ensures ∙ c.if-is_call.false) (sym c.is_call-2.ensures ∙ c.if-is_call-2.false) test)

pub returns-else-word-eq-EXIT-clause-step : goal.returns-else-word-eq-EXIT-clause-step
returns-else-word-eq-EXIT-clause-step c = λ p out r.
    let test : (slice_index c.args.self.now.registers x_a7 == 93) ≡ false = unequal _ 93 (λ e. c.if-word-eq-EXIT.false (c.word.ensures ∙ e)) in
    sym (call_exits p c.args.input.now c.args.self.now out false r (sym c.is_call.ensures ∙ c.if-is_call.false) (sym c.is_call-2.ensures ∙ c.if-is_call-2.false) test)
