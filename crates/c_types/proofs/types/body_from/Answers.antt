use Rattle.std.proofs.Common.{ap, ◌∙◌, length, arith}
use Rattle.c_types.specs.declared.kind.Measure.{Measure}
use Rattle.c_types.specs.InOrder.{end_of, greatest_align}
use Rattle.c_types.proofs.OrderLaws.{greatest_align_some, least_multiple_behind}
use Rattle.c_types.proofs.FieldLaws.{length-offsets_from}
use Rattle.c_types.proofs.types.body_from.Goals as goal

pub offsets_of-requires-clause-fits : goal.offsets_of-requires-clause-fits
offsets_of-requires-clause-fits c =
    let ms = c.args.measures.now in
    let behind = least_multiple_behind (greatest_align ms) (end_of ms) (greatest_align_some ms) in
    let is = ap (λ (m : Measure). m.size) c.requires.is in
    let low = c.requires.fits in
    omega (arith, behind, is, low)

pub fields_of-requires : goal.fields_of-requires
fields_of-requires c = ap length (c.as_slice.ensures ∙ c.in_ok-offsets.ensures) ∙ length-offsets_from 0 c.args.measures.now ∙ c.requires.long
