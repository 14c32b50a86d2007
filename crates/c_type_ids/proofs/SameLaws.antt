-- Two types are the same where their ids are.
use Rattle.std.proofs.Common.{◌≡◌, ◌≢◌, ◌⊎◌, inl, inr, ℕ, Bool, true, false, ◌&&◌, refl, sym, ap, ap₂, ◌∙◌, subst, true≢false, Some}
use Rattle.std.specs.Prelude.{nat_eq, ◌==◌}
use Rattle.std.proofs.lemmas.Bool.{eq-eqb, eqb-true}
use Rattle.std.proofs.lemmas.Bool.Decides.{eqb_tells}
use Rattle.c_types.specs.declared.kind.TypeId.{TypeId}
use Rattle.c_typing.specs.Types as types
use Rattle.c_typing.specs.Types.{IntegerType, CType, CTypes, void, integer, pointer, array, unsized, struct, function, no_types, a_type, code_of, same, same_all}
use Rattle.c_type_ids.specs.Ids.{Known, Names, AreDistinct, struct_by}
use Rattle.c_types.specs.declared.kind.StructId.{StructId}
use Rattle.c_type_ids.proofs.IdLaws.{one_id, one_type}

both_true : {p q : Bool} → p && q ≡ true → (p ≡ true) × (q ≡ true)
both_true {p = true} e = (refl, e)
both_true {p = false} e = absurd (true≢false (sym e))

one_code : (t u : IntegerType) → code_of t ≡ code_of u → t ≡ u
one_code types.bool types.bool e = refl
one_code types.bool types.char e = absurd (cc e)
one_code types.bool types.schar e = absurd (cc e)
one_code types.bool types.uchar e = absurd (cc e)
one_code types.bool types.short e = absurd (cc e)
one_code types.bool types.ushort e = absurd (cc e)
one_code types.bool types.int e = absurd (cc e)
one_code types.bool types.uint e = absurd (cc e)
one_code types.bool types.long e = absurd (cc e)
one_code types.bool types.ulong e = absurd (cc e)
one_code types.char types.bool e = absurd (cc e)
one_code types.char types.char e = refl
one_code types.char types.schar e = absurd (cc e)
one_code types.char types.uchar e = absurd (cc e)
one_code types.char types.short e = absurd (cc e)
one_code types.char types.ushort e = absurd (cc e)
one_code types.char types.int e = absurd (cc e)
one_code types.char types.uint e = absurd (cc e)
one_code types.char types.long e = absurd (cc e)
one_code types.char types.ulong e = absurd (cc e)
one_code types.schar types.bool e = absurd (cc e)
one_code types.schar types.char e = absurd (cc e)
one_code types.schar types.schar e = refl
one_code types.schar types.uchar e = absurd (cc e)
one_code types.schar types.short e = absurd (cc e)
one_code types.schar types.ushort e = absurd (cc e)
one_code types.schar types.int e = absurd (cc e)
one_code types.schar types.uint e = absurd (cc e)
one_code types.schar types.long e = absurd (cc e)
one_code types.schar types.ulong e = absurd (cc e)
one_code types.uchar types.bool e = absurd (cc e)
one_code types.uchar types.char e = absurd (cc e)
one_code types.uchar types.schar e = absurd (cc e)
one_code types.uchar types.uchar e = refl
one_code types.uchar types.short e = absurd (cc e)
one_code types.uchar types.ushort e = absurd (cc e)
one_code types.uchar types.int e = absurd (cc e)
one_code types.uchar types.uint e = absurd (cc e)
one_code types.uchar types.long e = absurd (cc e)
one_code types.uchar types.ulong e = absurd (cc e)
one_code types.short types.bool e = absurd (cc e)
one_code types.short types.char e = absurd (cc e)
one_code types.short types.schar e = absurd (cc e)
one_code types.short types.uchar e = absurd (cc e)
one_code types.short types.short e = refl
one_code types.short types.ushort e = absurd (cc e)
one_code types.short types.int e = absurd (cc e)
one_code types.short types.uint e = absurd (cc e)
one_code types.short types.long e = absurd (cc e)
one_code types.short types.ulong e = absurd (cc e)
one_code types.ushort types.bool e = absurd (cc e)
one_code types.ushort types.char e = absurd (cc e)
one_code types.ushort types.schar e = absurd (cc e)
one_code types.ushort types.uchar e = absurd (cc e)
one_code types.ushort types.short e = absurd (cc e)
one_code types.ushort types.ushort e = refl
one_code types.ushort types.int e = absurd (cc e)
one_code types.ushort types.uint e = absurd (cc e)
one_code types.ushort types.long e = absurd (cc e)
one_code types.ushort types.ulong e = absurd (cc e)
one_code types.int types.bool e = absurd (cc e)
one_code types.int types.char e = absurd (cc e)
one_code types.int types.schar e = absurd (cc e)
one_code types.int types.uchar e = absurd (cc e)
one_code types.int types.short e = absurd (cc e)
one_code types.int types.ushort e = absurd (cc e)
one_code types.int types.int e = refl
one_code types.int types.uint e = absurd (cc e)
one_code types.int types.long e = absurd (cc e)
one_code types.int types.ulong e = absurd (cc e)
one_code types.uint types.bool e = absurd (cc e)
one_code types.uint types.char e = absurd (cc e)
one_code types.uint types.schar e = absurd (cc e)
one_code types.uint types.uchar e = absurd (cc e)
one_code types.uint types.short e = absurd (cc e)
one_code types.uint types.ushort e = absurd (cc e)
one_code types.uint types.int e = absurd (cc e)
one_code types.uint types.uint e = refl
one_code types.uint types.long e = absurd (cc e)
one_code types.uint types.ulong e = absurd (cc e)
one_code types.long types.bool e = absurd (cc e)
one_code types.long types.char e = absurd (cc e)
one_code types.long types.schar e = absurd (cc e)
one_code types.long types.uchar e = absurd (cc e)
one_code types.long types.short e = absurd (cc e)
one_code types.long types.ushort e = absurd (cc e)
one_code types.long types.int e = absurd (cc e)
one_code types.long types.uint e = absurd (cc e)
one_code types.long types.long e = refl
one_code types.long types.ulong e = absurd (cc e)
one_code types.ulong types.bool e = absurd (cc e)
one_code types.ulong types.char e = absurd (cc e)
one_code types.ulong types.schar e = absurd (cc e)
one_code types.ulong types.uchar e = absurd (cc e)
one_code types.ulong types.short e = absurd (cc e)
one_code types.ulong types.ushort e = absurd (cc e)
one_code types.ulong types.int e = absurd (cc e)
one_code types.ulong types.uint e = absurd (cc e)
one_code types.ulong types.long e = absurd (cc e)
one_code types.ulong types.ulong e = refl

mutual
  same_itself : (t : CType) → same t t ≡ true
  same_itself void = refl
  same_itself (integer t) = eq-eqb (code_of t) (code_of t) refl
  same_itself (pointer t) = same_itself t
  same_itself (array t n) = ap₂ (λ p q. p && q) (eq-eqb n n refl) (same_itself t)
  same_itself (unsized t) = same_itself t
  same_itself (struct m) = eq-eqb m m refl
  same_itself (function t ts) = ap₂ (λ p q. p && q) (same_itself t) (same_themselves ts)

  same_themselves : (ts : CTypes) → same_all ts ts ≡ true
  same_themselves no_types = refl
  same_themselves (a_type t ts) = ap₂ (λ p q. p && q) (same_itself t) (same_themselves ts)

mutual
  are_one : (t u : CType) → same t u ≡ true → t ≡ u
  are_one void void e = refl
  are_one void (integer u) e = absurd (true≢false (sym e))
  are_one void (pointer u) e = absurd (true≢false (sym e))
  are_one void (array u j) e = absurd (true≢false (sym e))
  are_one void (unsized u) e = absurd (true≢false (sym e))
  are_one void (struct l) e = absurd (true≢false (sym e))
  are_one void (function u us) e = absurd (true≢false (sym e))
  are_one (integer t) void e = absurd (true≢false (sym e))
  are_one (integer t) (integer u) e = ap integer (one_code t u (eqb-true (code_of t) (code_of u) e))
  are_one (integer t) (pointer u) e = absurd (true≢false (sym e))
  are_one (integer t) (array u j) e = absurd (true≢false (sym e))
  are_one (integer t) (unsized u) e = absurd (true≢false (sym e))
  are_one (integer t) (struct l) e = absurd (true≢false (sym e))
  are_one (integer t) (function u us) e = absurd (true≢false (sym e))
  are_one (pointer t) void e = absurd (true≢false (sym e))
  are_one (pointer t) (integer u) e = absurd (true≢false (sym e))
  are_one (pointer t) (pointer u) e = ap pointer (are_one t u e)
  are_one (pointer t) (array u j) e = absurd (true≢false (sym e))
  are_one (pointer t) (unsized u) e = absurd (true≢false (sym e))
  are_one (pointer t) (struct l) e = absurd (true≢false (sym e))
  are_one (pointer t) (function u us) e = absurd (true≢false (sym e))
  are_one (array t n) void e = absurd (true≢false (sym e))
  are_one (array t n) (integer u) e = absurd (true≢false (sym e))
  are_one (array t n) (pointer u) e = absurd (true≢false (sym e))
  are_one (array t n) (array u j) e = let parts = both_true e in ap₂ array (are_one t u parts.1) (eqb-true n j parts.0)
  are_one (array t n) (unsized u) e = absurd (true≢false (sym e))
  are_one (array t n) (struct l) e = absurd (true≢false (sym e))
  are_one (array t n) (function u us) e = absurd (true≢false (sym e))
  are_one (unsized t) void e = absurd (true≢false (sym e))
  are_one (unsized t) (integer u) e = absurd (true≢false (sym e))
  are_one (unsized t) (pointer u) e = absurd (true≢false (sym e))
  are_one (unsized t) (array u j) e = absurd (true≢false (sym e))
  are_one (unsized t) (unsized u) e = ap unsized (are_one t u e)
  are_one (unsized t) (struct l) e = absurd (true≢false (sym e))
  are_one (unsized t) (function u us) e = absurd (true≢false (sym e))
  are_one (struct m) void e = absurd (true≢false (sym e))
  are_one (struct m) (integer u) e = absurd (true≢false (sym e))
  are_one (struct m) (pointer u) e = absurd (true≢false (sym e))
  are_one (struct m) (array u j) e = absurd (true≢false (sym e))
  are_one (struct m) (unsized u) e = absurd (true≢false (sym e))
  are_one (struct m) (struct l) e = ap struct (eqb-true m l e)
  are_one (struct m) (function u us) e = absurd (true≢false (sym e))
  are_one (function t ts) void e = absurd (true≢false (sym e))
  are_one (function t ts) (integer u) e = absurd (true≢false (sym e))
  are_one (function t ts) (pointer u) e = absurd (true≢false (sym e))
  are_one (function t ts) (array u j) e = absurd (true≢false (sym e))
  are_one (function t ts) (unsized u) e = absurd (true≢false (sym e))
  are_one (function t ts) (struct l) e = absurd (true≢false (sym e))
  are_one (function t ts) (function u us) e = let parts = both_true e in ap₂ function (are_one t u parts.0) (all_one ts us parts.1)

  all_one : (ts us : CTypes) → same_all ts us ≡ true → ts ≡ us
  all_one no_types no_types e = refl
  all_one no_types (a_type u us) e = absurd (true≢false (sym e))
  all_one (a_type t ts) no_types e = absurd (true≢false (sym e))
  all_one (a_type t ts) (a_type u us) e = let parts = both_true e in ap₂ a_type (are_one t u parts.0) (all_one ts us parts.1)

pub same_ids : (k : Known) → AreDistinct k → (a b : TypeId) (t u : CType) → Names k a t → Names k b u → (a.number == b.number) ≡ same t u
same_ids k d a b t u h i = by (eqb_tells a.number b.number)
  where
    one_number : a.number ≡ b.number → a ≡ b
    one_number e = ap (λ n. record { number = n }) e

    differ : a.number ≢ b.number → (r : Bool) → same t u ≡ r → r ≡ false
    differ other true e = absurd (other (ap (λ (x : TypeId). x.number) (one_id k d a b u (subst (Names k a) (are_one t u e) h) i)))
    differ other false e = refl

    by : ((nat_eq a.number b.number ≡ true) × (a.number ≡ b.number)) ⊎ ((nat_eq a.number b.number ≡ false) × (a.number ≢ b.number)) → (a.number == b.number) ≡ same t u
    by (inl (x, e)) = x ∙ sym (ap (same t) (sym (one_type k d b t u (subst (λ z. Names k z t) (one_number e) h) i)) ∙ same_itself t)
    by (inr (x, other)) = x ∙ sym (differ other (same t u) refl)

pub same_structs : (k : Known) → AreDistinct k → (s r : StructId) (a b : ℕ) → struct_by k.structs a ≡ Some s → struct_by k.structs b ≡ Some r → (s.number == r.number) ≡ (a == b)
same_structs k d s r a b h i = by (eqb_tells s.number r.number) (eqb_tells a b)
  where
    one_number : s.number ≡ r.number → s ≡ r
    one_number e = ap (λ n. record { number = n }) e

    some_same : Some s ≡ Some r → s ≡ r
    some_same e = cc e

    by : ((nat_eq s.number r.number ≡ true) × (s.number ≡ r.number)) ⊎ ((nat_eq s.number r.number ≡ false) × (s.number ≢ r.number))
        → ((nat_eq a b ≡ true) × (a ≡ b)) ⊎ ((nat_eq a b ≡ false) × (a ≢ b)) → (s.number == r.number) ≡ (a == b)
    by (inl (x, e)) (inl (y, f)) = x ∙ sym y
    by (inl (x, e)) (inr (y, other)) = absurd (other (d.nodes a b r (subst (λ z. struct_by k.structs a ≡ Some z) (one_number e) h) i))
    by (inr (x, other)) (inl (y, f)) = absurd (other (ap (λ (z : StructId). z.number) (some_same (sym h ∙ (ap (struct_by k.structs) f ∙ i)))))
    by (inr (x, other)) (inr (y, apart)) = x ∙ sym y
