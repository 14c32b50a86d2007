use Rattle.std.proofs.Common.{refl}
use Rattle.c_types.specs.declared.kind.TypeKind.TheVariants.{Char, Int, Short}
use Rattle.middle_tests.proofs.Sized.{basic_sized, stays_sized}
use Rattle.middle_tests.proofs.types.struct_size_is_12.Goals as goal

pub struct_of-requires-clause-a : goal.struct_of-requires-clause-a
struct_of-requires-clause-a c =
    stays_sized _ _ _ c.in_ok-s.ensures.sizes
    (stays_sized _ _ _ c.in_ok-i.ensures.sizes (basic_sized _ _ Char (record { size = 1; align = 1 }) c.in_ok-c.ensures.added.found refl))

pub struct_of-requires-clause-b : goal.struct_of-requires-clause-b
struct_of-requires-clause-b c = stays_sized _ _ _ c.in_ok-s.ensures.sizes (basic_sized _ _ Int (record { size = 4; align = 4 }) c.in_ok-i.ensures.added.found refl)

pub struct_of-requires-clause-c : goal.struct_of-requires-clause-c
struct_of-requires-clause-c c = basic_sized _ _ Short (record { size = 2; align = 2 }) c.in_ok-s.ensures.added.found refl
