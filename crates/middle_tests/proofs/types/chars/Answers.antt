use Rattle.std.proofs.Common.{refl}
use Rattle.c_types.specs.declared.kind.TypeKind.TheVariants.{Char}
use Rattle.middle_tests.proofs.Sized.{array_sized, basic_sized}
use Rattle.middle_tests.proofs.types.chars.Goals as goal

pub add-requires-2 : goal.add-requires-2
add-requires-2 c = basic_sized _ _ Char (record { size = 1; align = 1 }) c.in_ok-element.ensures.added.found refl

pub returns-clause-sized : goal.returns-clause-sized
returns-clause-sized c =
    array_sized _ _ _ _ c.args.count c.in_ok-id.ensures.added.found c.in_ok-id.ensures.sizes
    (basic_sized _ _ Char (record { size = 1; align = 1 }) c.in_ok-element.ensures.added.found refl)
