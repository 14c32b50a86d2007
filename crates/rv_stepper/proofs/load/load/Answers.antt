use Rattle.std.proofs.Common.{◌∙◌, ap, sym, length}
use Rattle.rv_stepper.proofs.Images.{space_of, image_made}
use Rattle.rv_stepper.proofs.load.load.Goals as goal

pub returns : goal.returns
returns c =
    image_made c.args.asm.now c.as_slice-functions.result.now c.as_slice-items.result.now c.args.layout.now c.in-Ok.size c.main_number.result c.saturating_sub.result _ c.in_ok-code.code.instrs.items c.in_ok-memory.memory _
    c.as_slice-functions.ensures c.as_slice-items.ensures (let e = c.in-Ok.ensures in e.1 ∙ c.data_size.ensures) c.main_number.ensures c.saturating_sub.ensures c.in_ok-code.ensures.instrs (ap length c.as_slice.ensures.value)
    (sym c.holds.ensures ∙ c.if-not-holds.false) c.in_ok-load_code.ensures c.first_state.ensures c.in_ok-memory.ensures

pub load_memory-requires-clause-space : goal.load_memory-requires-clause-space
load_memory-requires-clause-space c = space_of c.args.layout.now _ c.in-Ok.size (sym c.holds.ensures ∙ c.if-not-holds.false)
