-- Two kinds are equal exactly where `==` finds them so.
use Rattle.std.proofs.Common.{◌≡◌, ℕ, Bool, true, false, ◌&&◌, ◌==◌, List, [], ◌∷◌, refl, sym, ap, ap₂, true≢false}
use Rattle.std.specs.Cmp.Lexicographic.{pointwise}
use Rattle.std.proofs.lemmas.Bool.Decides.{Decides-eqb}
use Rattle.c_types.specs.declared.kind.TypeId.{TypeId}
use Rattle.c_types.specs.declared.kind.TypeKind.{TypeKind}
use Rattle.c_types.specs.declared.kind.TypeKind.TheVariants.{Void, Bool as BoolKind, Char, SChar, UChar, Short, UShort, Int, UInt, Long, ULong, Pointer, Array, Struct, Function}
use Rattle.c_types.specs.contracts.kind.TypeKindPartialEq.TheImpl.{eq-value}

-- the answer of `==`
abbrev pub equal : TypeKind → TypeKind → Bool
equal a b = eq-value.it a b

first_true : (a b : Bool) → (a && b) ≡ true → a ≡ true
first_true true b e = refl
first_true false b e = e

second_true : (a b : Bool) → (a && b) ≡ true → b ≡ true
second_true true b e = e
second_true false b e = absurd (true≢false (sym e))

both_true : (a b : Bool) → a ≡ true → b ≡ true → (a && b) ≡ true
both_true a b x y = ap₂ (λ a b. a && b) x y

same_number : (m n : ℕ) → (m == n) ≡ true → m ≡ n
same_number m n = (Decides-eqb m n).0

own_number : (n : ℕ) → (n == n) ≡ true
own_number n = (Decides-eqb n n).1 refl

same_type : (x y : TypeId) → (x.number == y.number) ≡ true → x ≡ y
same_type x y e = ap (λ (n : ℕ). record { number = n }) (same_number x.number y.number e)

abbrev equal_types : List TypeId → List TypeId → Bool
equal_types = pointwise (λ a b. a.number == b.number)

same_types : (xs ys : List TypeId) → equal_types xs ys ≡ true → xs ≡ ys
same_types [] [] e = refl
same_types [] (y ∷ ys) e = absurd (true≢false (sym e))
same_types (x ∷ xs) [] e = absurd (true≢false (sym e))
same_types (x ∷ xs) (y ∷ ys) e =
    ap₂ (λ z zs. z ∷ zs) (same_type x y (first_true (x.number == y.number) (equal_types xs ys) e)) (same_types xs ys (second_true (x.number == y.number) (equal_types xs ys) e))

own_types : (xs : List TypeId) → equal_types xs xs ≡ true
own_types [] = refl
own_types (x ∷ xs) = both_true (x.number == x.number) (equal_types xs xs) (own_number x.number) (own_types xs)

pub same_kind : (a b : TypeKind) → equal a b ≡ true → a ≡ b
same_kind Void Void e = refl
same_kind BoolKind BoolKind e = refl
same_kind Char Char e = refl
same_kind SChar SChar e = refl
same_kind UChar UChar e = refl
same_kind Short Short e = refl
same_kind UShort UShort e = refl
same_kind Int Int e = refl
same_kind UInt UInt e = refl
same_kind Long Long e = refl
same_kind ULong ULong e = refl
same_kind (Pointer x) (Pointer y) e = ap Pointer (same_type x y e)
same_kind (Array x m) (Array y n) e = ap₂ Array (same_type x y (first_true (x.number == y.number) (m == n) e)) (same_number m n (second_true (x.number == y.number) (m == n) e))
same_kind (Struct x) (Struct y) e = ap (λ (n : ℕ). Struct (record { number = n })) (same_number x.number y.number e)
same_kind (Function x xs) (Function y ys) e =
    ap₂ Function (same_type x y (first_true (x.number == y.number) (equal_types xs ys) e)) (same_types xs ys (second_true (x.number == y.number) (equal_types xs ys) e))
same_kind a b e = absurd (true≢false (sym e))

pub own_kind : (a : TypeKind) → equal a a ≡ true
own_kind (Pointer x) = own_number x.number
own_kind (Array x n) = both_true (x.number == x.number) (n == n) (own_number x.number) (own_number n)
own_kind (Struct x) = own_number x.number
own_kind (Function x xs) = both_true (x.number == x.number) (equal_types xs xs) (own_number x.number) (own_types xs)
own_kind a = refl
