use Rattle.std.proofs.Common.{◌*◌, ◌≤◌, sym, ap, ◌∙◌}
use Rattle.c_types.specs.declared.kind.TypeKind.TheVariants as kind
use Rattle.c_types.specs.declared.kind.TheConstants.{MAX_SIZE}
use Rattle.c_types.specs.declared.kind.Measure.{Measure}
use Rattle.c_types.specs.Sizes.{Has, IsMeasured, array}
use Rattle.c_types.specs.Tables.{Fits}
use Rattle.c_types.proofs.SizeLaws.{told}
use Rattle.c_typing.specs.Types as types
use Rattle.c_typing.specs.Types.{CType}
use Rattle.c_type_ids.specs.Ids.{Names}
use Rattle.c_type_ids.proofs.IdLaws.{if_ok, on_ok, names_grow}
use Rattle.c_type_ids.proofs.table.TypeTable.array.Goals as goal

pub returns-clause-ok : goal.returns-clause-ok
returns-clause-ok c =
    if_ok (λ id. Has c.add.new.self.table id (kind.Array c.args.element c.args.count)) (λ id. (t : CType) → Names c.args.self.now c.args.element t → Names c.add.new.self id (types.array t c.args.count)) c.add.result
    (λ id h t n. (c.args.element, h, names_grow c.args.self.now c.add.new.self c.add.ensures.grows.keeps.types c.add.ensures.grows.keeps.structs c.args.element t n)) c.add.ensures.found

pub returns-clause-fits : goal.returns-clause-fits
returns-clause-fits c =
    on_ok (Fits c.args.self.now.table (kind.Array c.args.element c.args.count)) ((m : Measure) → IsMeasured c.args.self.now.table c.args.element m → c.args.count * m.size ≤ MAX_SIZE) c.add.result
    (λ fits m (u, has, measured). fits (record { size = c.args.count * m.size; align = m.align }) (array c.args.element c.args.count u m has measured)) c.add.ensures.fits

pub returns-clause-too_big : goal.returns-clause-too_big
returns-clause-too_big c = λ size e.
    let (m, measured, same, big) = c.add.ensures.too_big size e in
    let (u, own, has, inner, is) = told measured in
    (own, (u, has, inner), sym same ∙ ap (λ (x : Measure). x.size) is, big)
