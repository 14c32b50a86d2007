use Rattle.std.proofs.Common.{◌≡◌, ℕ, List, Option, Some, None, ap, sym, subst, ◌∙◌}
use Rattle.std.specs.Prelude.{slice_get}
use Rattle.c_types.specs.declared.kind.TypeId.{TypeId}
use Rattle.c_types.specs.declared.kind.Measure.{Measure}
use Rattle.c_types.specs.InOrder.{offsets}
use Rattle.c_types.specs.Sizes.{IsClosed, IsOpen, Member, MeasuresAll, part_at}
use Rattle.c_types.specs.Tables.{IsStruct}
use Rattle.c_types.proofs.FieldLaws.{at_place, part_is, open_part, closed_part}
use Rattle.c_types.proofs.ReadLaws.{body_read}
use Rattle.c_types.proofs.types.Types.part.Goals as goal

pub returns-in-Some-clause-closed : goal.returns-in-Some-clause-closed
returns-in-Some-clause-closed c = λ members ms.
    let kinds = c.self.inside.kinds.entries in
    let structs = c.self.inside.structs.items in
    let at : slice_get structs c.args.id.number ≡ Some (Some c.in-Some.body) = body_read kinds structs c.args.id c.index.result.now (subst (λ t. IsStruct t c.args.id) (sym c.self.view_is) c.requires) c.index.ensures ∙ ap Some c.in-Some.is in
    let answer : c.field_at.result ≡ at_place c.args.index c.in-Some.body.fields = c.field_at.ensures ∙ ap (at_place c.args.index) c.as_slice.ensures in
    rw answer (subst (λ t. IsClosed t c.args.id members → MeasuresAll t members ms → at_place c.args.index c.in-Some.body.fields ≡ part_at c.args.index members (offsets ms)) c.self.view_is
    (part_is kinds structs c.args.id c.self.invariant c.args.index c.in-Some.body at members ms))

pub returns-in-Some-clause-open : goal.returns-in-Some-clause-open
returns-in-Some-clause-open c =
    let kinds = c.self.inside.kinds.entries in
    let structs = c.self.inside.structs.items in
    let at : slice_get structs c.args.id.number ≡ Some (Some c.in-Some.body) = body_read kinds structs c.args.id c.index.result.now (subst (λ t. IsStruct t c.args.id) (sym c.self.view_is) c.requires) c.index.ensures ∙ ap Some c.in-Some.is in
    subst (λ t. IsOpen t c.args.id → c.field_at.result ≡ None) c.self.view_is
    (open_part kinds structs c.args.id c.in-Some.body at c.field_at.result)

pub returns-in-None-clause-closed : goal.returns-in-None-clause-closed
returns-in-None-clause-closed c = λ members ms.
    let kinds = c.self.inside.kinds.entries in
    let structs = c.self.inside.structs.items in
    let at : slice_get structs c.args.id.number ≡ Some None = body_read kinds structs c.args.id c.index.result.now (subst (λ t. IsStruct t c.args.id) (sym c.self.view_is) c.requires) c.index.ensures ∙ ap Some c.in-None.is in
    subst (λ t. IsClosed t c.args.id members → MeasuresAll t members ms → ◌≡◌ {A = Option (ℕ × TypeId)} None (part_at c.args.index members (offsets ms))) c.self.view_is
    (closed_part kinds structs c.args.id c.args.index at members ms)
