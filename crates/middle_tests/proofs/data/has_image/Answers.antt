use Rattle.std.proofs.Common.{sym, subst}
use Rattle.c_types.specs.WellMade.{IsWellMade}
use Rattle.middle_tests.proofs.Made.{well_made}
use Rattle.middle_tests.proofs.data.has_image.Goals as goal

pub place-requires : goal.place-requires
place-requires c = subst IsWellMade (sym c.in_ok-unit.ensures) well_made

pub image-requires : goal.image-requires
image-requires c = subst IsWellMade (sym c.in_ok-unit.ensures) well_made
