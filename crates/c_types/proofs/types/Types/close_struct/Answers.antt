use Rattle.std.proofs.Common.{ap, sym, subst, ◌∙◌, Some}
use Rattle.c_types.specs.Sizes.{IsOpen}
use Rattle.c_types.specs.Tables.{StructFits, closed, members_from}
use Rattle.c_types.specs.Kept.{IsLaid, members_of}
use Rattle.c_types.proofs.KeptLaws.{closed_keeps, closed_kept}
use Rattle.c_types.proofs.FieldLaws.{laid_fits, view_closed}
use Rattle.c_types.proofs.types.Types.close_struct.Goals as goal

pub invariant_of-self : goal.invariant_of-self
invariant_of-self c =
    closed_kept c.self.inside.kinds.entries c.self.inside.structs.items c.args.id c.in_ok-body.body c.self.invariant
    (subst (λ t. IsOpen t c.args.id) (sym c.self.view_is) c.requires.open)
    (subst (λ t. IsLaid t (Some c.in_ok-body.body)) (sym c.self.view_is) c.in_ok-body.ensures.laid)

pub returns-clause-closed : goal.returns-clause-closed
returns-clause-closed c =
    view_closed c.self.inside.kinds.entries c.self.inside.structs.items c.args.id c.in_ok-body.body
    ∙ ap (λ t. closed t c.args.id (members_of c.in_ok-body.body)) c.self.view_is
    ∙ ap (closed c.args.self.now c.args.id) c.in_ok-body.ensures.members

pub returns-clause-fits : goal.returns-clause-fits
returns-clause-fits c = subst (StructFits c.args.self.now) c.in_ok-body.ensures.members (laid_fits c.args.self.now c.in_ok-body.body c.in_ok-body.ensures.laid)

pub returns-clause-sizes : goal.returns-clause-sizes
returns-clause-sizes c = closed_keeps c.args.self.now _ c.args.id (members_from c.args.members.now) c.requires.open (returns-clause-closed c)
