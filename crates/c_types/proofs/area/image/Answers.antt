use Rattle.std.proofs.Common.{◌≡◌, ap, sym, subst, ◌∙◌, length}
use Rattle.std.specs.List.{AllByRecursion}
use Rattle.c_types.specs.declared.tree.Object.{Object}
use Rattle.c_types.specs.Placing.{data_size, object_offsets}
use Rattle.c_types.specs.Writing.{AddressesFit, ObjectsFit}
use Rattle.c_types.proofs.PaintLaws.{length-offsets, objects_fit, objects_known}
use Rattle.c_types.proofs.area.image.Goals as goal

pub written-requires-clause-fit : goal.written-requires-clause-fit
written-requires-clause-fit c =
    let objects = c.args.unit.now.objects in
    let fit : ObjectsFit objects (object_offsets objects) (data_size objects) = objects_fit 0 objects c.requires.alignments c.requires.cells_inside in
    rw (c.as_slice.ensures, c.as_slice-offsets.ensures, c.in_ok-places.ensures.offsets, c.in_ok-places.ensures.size) fit

pub written-requires-clause-known : goal.written-requires-clause-known
written-requires-clause-known c =
    let u = c.args.unit.now in
    let long : length c.as_slice-offsets.result.now ≡ length u.objects = ap length (c.as_slice-offsets.ensures ∙ c.in_ok-places.ensures.offsets) ∙ length-offsets 0 u.objects in
    subst (AllByRecursion (λ (o : Object). AddressesFit (length c.as_slice-offsets.result.now) o.cells)) (sym c.as_slice.ensures) (objects_known u _ u.objects long c.requires.addresses)
