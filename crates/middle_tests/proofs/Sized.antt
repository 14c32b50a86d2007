-- Types that have a size.
use Rattle.std.proofs.Common.{◌≡◌, ℕ, Some}
use Rattle.c_types.specs.declared.kind.TypeId.{TypeId}
use Rattle.c_types.specs.declared.kind.TypeKind.{TypeKind}
use Rattle.c_types.specs.declared.kind.TypeKind.TheVariants.{Array}
use Rattle.c_types.specs.declared.kind.Measure.{Measure}
use Rattle.c_types.specs.Sizes.{Table, Has, IsSized, array, array_measure, basic, basic_measure}
use Rattle.c_types.specs.Tables.{KeepsSizes}

pub basic_sized : (t : Table) (id : TypeId) (kind : TypeKind) (m : Measure) → Has t id kind → basic_measure kind ≡ Some m → IsSized t id
basic_sized t id kind m has is = (m, (kind, has, basic kind m is))

pub stays_sized : (old new : Table) (id : TypeId) → KeepsSizes old new → IsSized old id → IsSized new id
stays_sized old new id keeps sized = (sized.0, keeps.types id sized.0 sized.1)

pub array_sized : (old new : Table) (id element : TypeId) (count : ℕ) → Has new id (Array element count) → KeepsSizes old new → IsSized old element → IsSized new id
array_sized old new id element count has keeps sized =
    let m = sized.0 in
    (array_measure count m, (Array element count, has, keeps.kinds (Array element count) (array_measure count m) (array element count sized.1.0 m sized.1.1 sized.1.2)))
