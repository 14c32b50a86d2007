use Rattle.c_types.specs.Placing.{cells_of}
use Rattle.c_types.proofs.PaintLaws.{written_is}
use Rattle.c_types.proofs.area.written.Goals as goal

pub returns : goal.returns
returns c =
    written_is c.in_ok-area.area.items c.deref_mut.result.now c.put_objects.new.area c.in_ok-area.area.len c.args.size
    (cells_of c.args.base c.args.offsets.now c.args.objects.now c.args.offsets.now) c.in_ok-area.ensures c.deref_mut.ensures.value c.in_ok-area.area.ok.0 c.put_objects.ensures
