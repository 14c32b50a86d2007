use Rattle.std.proofs.Common.{refl}
use Rattle.c_types.specs.declared.kind.TypeKind.TheVariants.{Char}
use Rattle.middle_tests.proofs.Sized.{basic_sized}
use Rattle.middle_tests.proofs.types.limit_struct.Goals as goal

pub struct_of-requires-clause-b : goal.struct_of-requires-clause-b
struct_of-requires-clause-b c = basic_sized _ _ Char (record { size = 1; align = 1 }) c.in_ok-one.ensures.added.found refl

pub struct_of-requires-clause-c : goal.struct_of-requires-clause-c
struct_of-requires-clause-c c = basic_sized _ _ Char (record { size = 1; align = 1 }) c.in_ok-one.ensures.added.found refl
