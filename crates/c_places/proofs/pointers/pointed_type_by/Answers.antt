use Rattle.std.proofs.Common.{subst}
use Rattle.c_type_ids.specs.Ids.{Shows}
use Rattle.c_places.specs.Places.{IsPlaceType}
use Rattle.c_places.proofs.PointerLaws.{to_known, no_pointer}
use Rattle.c_places.proofs.pointers.pointed_type_by.Goals as goal

pub returns-in-Pointer : goal.returns-in-Pointer
returns-in-Pointer c = λ js n t y laid same shows.
    to_known c.args.table.now c.args.node js n y same (IsPlaceType c.args.table.now y.code) c.sized_target.result c.in-Pointer.target t
    (subst (λ K. Shows c.args.table.now K t) c.in-Pointer.is shows) (λ u named. c.sized_target.ensures js u y.code laid named)

pub returns-in_default : goal.returns-in_default
returns-in_default c = λ js n t y laid same shows. no_pointer c.args.table.now c.args.node js n y same c.args.shown t shows c.in_default.not-Pointer
