-- Types that are the same have the same size.
use Rattle.std.proofs.Common.{◌≡◌, ℕ, true, false, List, refl, sym, ap, ap₂, ◌∙◌, true≢false}
use Rattle.std.specs.Prelude.{option_map, nat_lt, if◌then◌else◌, ◌==◌}
use Rattle.c_types.specs.Sizes.{array_measure}
use Rattle.c_typing.specs.Types as type
use Rattle.c_typing.specs.Types.{CType, void, integer, pointer, array, unsized, struct, function, IntegerType, code_of, traits_of, same, Layout, layout_of, measure, measured}
use Rattle.c_typing.proofs.MadeAround.{both_true, equal_so}

no : {A : Type 0} → false ≡ true → A
no e = absurd (true≢false (sym e))

-- the size of the integer type with this code
abbrev size_by : ℕ → ℕ
size_by n = if nat_lt n 4 then 1 else if nat_lt n 6 then 2 else 4

by_code : (k : IntegerType) → (traits_of k).size ≡ size_by (code_of k)
by_code type.bool = refl
by_code type.char = refl
by_code type.schar = refl
by_code type.uchar = refl
by_code type.short = refl
by_code type.ushort = refl
by_code type.int = refl
by_code type.uint = refl
by_code type.long = refl
by_code type.ulong = refl

pub same_measure : (ls : List Layout) (t u : CType) → same t u ≡ true → measure ls t ≡ measure ls u
same_measure ls (integer k) (integer l) e = let size = by_code k ∙ (ap size_by (equal_so (code_of k) (code_of l) e) ∙ sym (by_code l)) in ap (λ n. measured n n) size
same_measure ls (array a n) (array b m) e =
    let h = both_true (n == m) (same a b) e in
    ap₂ (λ k o. option_map (array_measure k) o) (equal_so n m h.0) (same_measure ls a b h.1)
same_measure ls (struct k) (struct l) e = ap (λ n. option_map (λ (x : Layout). x.measure) (layout_of ls n)) (equal_so k l e)
same_measure ls (pointer a) (pointer b) e = refl
same_measure ls (unsized a) (unsized b) e = refl
same_measure ls (function a ps) (function b qs) e = refl
same_measure ls void void e = refl
same_measure ls _ _ e = no e
