use Rattle.std.proofs.Common.{sym, subst, ◌∙◌, ap}
use Rattle.c_types.specs.InOrder.{AreAligned, StandFrom, offsets}
use Rattle.c_types.specs.Placing.{measures_of}
use Rattle.c_types.proofs.OrderLaws.{objects_aligned, offsets_stand}
use Rattle.c_types.proofs.placing.place.Goals as goal

pub offsets_of-requires-clause-aligned : goal.offsets_of-requires-clause-aligned
offsets_of-requires-clause-aligned c =
    subst AreAligned (sym (c.deref.ensures.value ∙ c.in_ok-measures.ensures ∙ ap measures_of c.as_slice.ensures)) (objects_aligned c.args.unit.now.objects c.requires.alignments)

pub end_of-size-requires : goal.end_of-size-requires
end_of-size-requires c =
    subst AreAligned (sym (c.deref-2.ensures.value ∙ c.in_ok-measures.ensures ∙ ap measures_of c.as_slice.ensures)) (objects_aligned c.args.unit.now.objects c.requires.alignments)

pub returns-clause-least : goal.returns-clause-least
returns-clause-least c =
    let objects = c.args.unit.now.objects in
    let same = c.deref.ensures.value ∙ c.in_ok-measures.ensures ∙ ap measures_of c.as_slice.ensures in
    subst (StandFrom 0 (measures_of objects)) (sym (c.in_ok-offsets.ensures ∙ ap offsets same)) (offsets_stand 0 (measures_of objects) (objects_aligned objects c.requires.alignments))
