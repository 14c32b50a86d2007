use Rattle.std.proofs.Common.{◌≡◌, ◌≤◌, Some, IfSome, IfNone, sym, subst}
use Rattle.std.specs.Prelude.{slice_get}
use Rattle.c_types.specs.declared.kind.TheConstants.{MAX_SIZE}
use Rattle.c_types.specs.Sizes.{IsIncomplete, IsMeasured, Has}
use Rattle.c_types.proofs.ReadLaws.{has_at, open_measured, read_none, read_some}
use Rattle.c_types.proofs.types.Types.measure_of.Goals as goal

pub returns-in-Struct-clause-none : goal.returns-in-Struct-clause-none
returns-in-Struct-clause-none c =
    let kinds = c.self.inside.kinds.entries in
    let structs = c.self.inside.structs.items in
    let has = has_at kinds structs c.self.invariant c.args.id c.in_ok-kind.kind.now c.in_ok-kind.known.now (sym c.in_ok-kind.ensures.entry) in
    open_measured c.args.self.now c.args.id c.in_ok-kind.kind.now c.in-Struct.s c.struct_measure.result (subst (λ t. Has t c.args.id c.in_ok-kind.kind.now) c.self.view_is has) c.in-Struct.is c.struct_measure.ensures.none

pub returns-in_default : goal.returns-in_default
returns-in_default c =
    let kinds = c.self.inside.kinds.entries in
    let structs = c.self.inside.structs.items in
    let at : slice_get kinds c.args.id.number ≡ Some (c.in_ok-kind.kind.now, c.in_ok-kind.known.now) = sym c.in_ok-kind.ensures.entry in
    record {
      some = subst (λ t. IfSome c.in_ok-kind.known.now (λ m. IsMeasured t c.args.id m × (m.size ≤ MAX_SIZE))) c.self.view_is (read_some kinds structs c.self.invariant c.args.id c.in_ok-kind.kind.now c.in_ok-kind.known.now at);
      none = subst (λ t. IfNone c.in_ok-kind.known.now (IsIncomplete t c.args.id)) c.self.view_is (read_none kinds structs c.self.invariant c.args.id c.in_ok-kind.kind.now c.in_ok-kind.known.now at c.in_default.not-Struct);
    }
