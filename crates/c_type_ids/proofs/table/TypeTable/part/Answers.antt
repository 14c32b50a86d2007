use Rattle.std.proofs.Common.{◌≡◌, List, None, Some, subst, sym}
use Rattle.c_types.specs.declared.kind.Measure.{Measure}
use Rattle.c_types.specs.InOrder.{offsets}
use Rattle.c_types.specs.Sizes.{Member, IsClosed, IsOpen, MeasuresAll, part_at}
use Rattle.c_type_ids.specs.Ids.{Known, struct_by}
use Rattle.c_type_ids.proofs.FindLaws.{part_found}
use Rattle.c_type_ids.proofs.table.TypeTable.part.Goals as goal

pub part-requires : goal.part-requires
part-requires c =
    let (node, declared) = c.requires in
    c.self.invariant.there node c.args.s (subst (λ (k : Known). struct_by k.structs node ≡ Some c.args.s) (sym c.self.view_is) declared)

pub returns : goal.returns
returns c =
    part_found c.args.self.now c.args.s c.args.index c.part.result
    (subst (λ (k : Known). (members : List Member) (ms : List Measure) → IsClosed k.table c.args.s members → MeasuresAll k.table members ms → c.part.result ≡ part_at c.args.index members (offsets ms)) c.self.view_is c.part.ensures.closed)
    (subst (λ (k : Known). IsOpen k.table c.args.s → c.part.result ≡ None) c.self.view_is c.part.ensures.open)
