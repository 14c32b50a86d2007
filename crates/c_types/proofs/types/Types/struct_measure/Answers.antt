use Rattle.std.proofs.Common.{◌≤◌, Some, None, sym, ap, subst, ◌∙◌}
use Rattle.c_types.specs.declared.kind.TypeKind.TheVariants.{Struct}
use Rattle.c_types.specs.declared.kind.TheConstants.{MAX_SIZE}
use Rattle.c_types.specs.Sizes.{IsOpen, Measures}
use Rattle.c_types.specs.Tables.{IsStruct}
use Rattle.c_types.proofs.ReadLaws.{body_at, body_read, struct_measured}
use Rattle.c_types.proofs.types.Types.struct_measure.Goals as goal

pub returns-in-Some-clause-some : goal.returns-in-Some-clause-some
returns-in-Some-clause-some c =
    let kinds = c.self.inside.kinds.entries in
    let structs = c.self.inside.structs.items in
    let at = body_read kinds structs c.args.s c.index.result.now (subst (λ t. IsStruct t c.args.s) (sym c.self.view_is) c.requires) c.index.ensures in
    subst (λ t. Measures t (Struct c.args.s) c.in-Some.body.measure × (c.in-Some.body.measure.size ≤ MAX_SIZE)) c.self.view_is
    (struct_measured kinds structs c.args.s c.in-Some.body (at ∙ ap Some c.in-Some.is) c.self.invariant)

pub returns-in-None-clause-none : goal.returns-in-None-clause-none
returns-in-None-clause-none c =
    let kinds = c.self.inside.kinds.entries in
    let structs = c.self.inside.structs.items in
    let at = body_read kinds structs c.args.s c.index.result.now (subst (λ t. IsStruct t c.args.s) (sym c.self.view_is) c.requires) c.index.ensures in
    subst (λ t. IsOpen t c.args.s) c.self.view_is (body_at kinds structs c.args.s None (at ∙ ap Some c.in-None.is))
