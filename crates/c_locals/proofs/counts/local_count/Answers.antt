use Rattle.std.proofs.Common.{◌+◌, ◌∙◌, ap, ap₂, arith, length, sym}
use Rattle.std.proofs.lemmas.List.{length-map}
use Rattle.c_syntax.specs.declared.syntax.SynId.{SynId}
use Rattle.c_locals.proofs.counts.local_count.Goals as goal

pub overflow_add-result : goal.overflow_add-result
overflow_add-result c =
    let few = c.automatic_count.ensures.few in
    let within = c.requires.within in
    let long = c.requires.counts.long in
    omega (arith, few, within, long)

pub returns : goal.returns
returns c = ap₂ (λ a b. a + b) (sym (length-map c.parameters.result.now (λ (id : SynId). id.number)) ∙ ap length c.parameters.ensures) c.automatic_count.ensures.is
