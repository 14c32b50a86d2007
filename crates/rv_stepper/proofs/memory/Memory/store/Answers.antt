use Rattle.std.proofs.Common.{◌∙◌, ap, sym, length}
use Rattle.std.proofs.lemmas.List.{with_items_is}
use Rattle.rv_stepper.specs.Space.{with_bytes, width_of}
use Rattle.rv_stepper.proofs.Spaces.{stored, memory_with}
use Rattle.rv_stepper.proofs.memory.Memory.store.Goals as goal

pub returns-clause-stored : goal.returns-clause-stored
returns-clause-stored c = λ t.
    let items = c.deref_mut.ensures.value in
    let len = ap length (sym items) ∙ c.deref_mut.ensures.len ∙ c.self.invariant.0 in
    let written = c.put.ensures ∙ ap (λ b. with_bytes b c.in-Some.index (width_of c.args.kind) c.args.word) items in
    memory_with c.self.inside.layout c.self.inside.size _ c.put.new.bytes (with_items_is c.self.inside.bytes c.put.new.bytes (c.put.auto.bytes ∙ c.deref_mut.ensures.len))
    ∙ stored _ _ _ _ _ _ c.in-Some.index _ c.self.view_is c.self.invariant.1 len c.width_of.ensures.value c.in-Some.ensures.place written
