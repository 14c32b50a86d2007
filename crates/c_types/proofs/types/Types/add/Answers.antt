use Rattle.std.proofs.Common.{sym, subst}
use Rattle.c_types.specs.Tables.{Fits, IsAdded, PartsAreThere}
use Rattle.c_types.specs.Kept.{IsKnown, table_of}
use Rattle.c_types.proofs.KeptLaws.{added_keeps}
use Rattle.c_types.proofs.ReadLaws.{known_fits}
use Rattle.c_types.proofs.types.Types.add.Goals as goal

pub invariant_of-self-2 : goal.invariant_of-self-2
invariant_of-self-2 c =
    c.in_ok-id.ensures.kept c.self.inside.structs.items c.self.invariant
    (subst (λ t. PartsAreThere t c.args.kind) (sym c.self.view_is) c.requires)
    (subst (λ t. IsKnown t c.args.kind c.in_ok-known.known) (sym c.self.view_is) c.in_ok-known.ensures.known)

pub returns-clause-added : goal.returns-clause-added
returns-clause-added c =
    subst (λ t. IsAdded t c.args.kind c.in_ok-id.id (table_of c.insert.new.kinds.entries c.self.inside.structs.items)) c.self.view_is
    (c.in_ok-id.ensures.added c.self.inside.structs.items)

pub returns-clause-fits : goal.returns-clause-fits
returns-clause-fits c =
    subst (λ t. Fits t c.args.kind) c.self.view_is
    (known_fits c.self.inside.kinds.entries c.self.inside.structs.items c.args.kind c.in_ok-known.known c.self.invariant
    (subst (λ t. IsKnown t c.args.kind c.in_ok-known.known) (sym c.self.view_is) c.in_ok-known.ensures.known))

pub returns-clause-sizes : goal.returns-clause-sizes
returns-clause-sizes c =
    added_keeps _ _ c.args.kind c.in_ok-id.id
    (subst (λ t. IsAdded t c.args.kind c.in_ok-id.id (table_of c.insert.new.kinds.entries c.self.inside.structs.items)) c.self.view_is
    (c.in_ok-id.ensures.added c.self.inside.structs.items))
