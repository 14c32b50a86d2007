-- One id names one type, and one type has one id.
use Rattle.std.proofs.Common.{◌≡◌, ℕ, List, [], ◌∷◌, refl, sym, ap, ap₂, ◌∙◌, subst, Some}
use Rattle.std.specs.Prelude.{Result, Ok, Err, IfOk, OnOk}
use Rattle.c_types.specs.declared.kind.TypeId.{TypeId}
use Rattle.c_types.specs.declared.kind.StructId.{StructId}
use Rattle.c_types.specs.declared.kind.TypeKind.{TypeKind}
use Rattle.c_types.specs.declared.kind.TypeKind.TheVariants as kind
use Rattle.c_types.specs.Sizes.{Has}
use Rattle.c_typing.specs.Types as types
use Rattle.c_typing.specs.Types.{IntegerType, CType, CTypes, void, integer, pointer, array, unsized, struct, function, no_types, a_type}
use Rattle.c_type_ids.specs.Integers.{kind_of}
use Rattle.c_type_ids.specs.Ids.{Known, Names, NamesAll, AreDistinct, struct_by}

-- ---- what stays

abbrev KeepsTypes : Known → Known → Type 0
KeepsTypes old new = (id : TypeId) (t : TypeKind) → Has old.table id t → Has new.table id t

abbrev KeepsStructs : Known → Known → Type 0
KeepsStructs old new = (node : ℕ) (s : StructId) → struct_by old.structs node ≡ Some s → struct_by new.structs node ≡ Some s

mutual
  pub names_grow : (old new : Known) → KeepsTypes old new → KeepsStructs old new → (id : TypeId) (t : CType) → Names old id t → Names new id t
  names_grow old new g f id void h = g id kind.Void h
  names_grow old new g f id (integer t) h = g id (kind_of t) h
  names_grow old new g f id (pointer t) (to, h, i) = (to, g id (kind.Pointer to) h, names_grow old new g f to t i)
  names_grow old new g f id (array t n) (element, h, i) = (element, g id (kind.Array element n) h, names_grow old new g f element t i)
  names_grow old new g f id (unsized t) h = absurd h
  names_grow old new g f id (struct m) (s, h, i) = (s, g id (kind.Struct s) h, f m s i)
  names_grow old new g f id (function t ts) (gives, takes, h, i, j) = (gives, takes, g id (kind.Function gives takes) h, names_grow old new g f gives t i, all_grow old new g f takes ts j)

  pub all_grow : (old new : Known) → KeepsTypes old new → KeepsStructs old new → (ids : List TypeId) (ts : CTypes) → NamesAll old ids ts → NamesAll new ids ts
  all_grow old new g f [] no_types h = tt
  all_grow old new g f [] (a_type t ts) h = absurd h
  all_grow old new g f (id ∷ ids) no_types h = absurd h
  all_grow old new g f (id ∷ ids) (a_type t ts) h = (names_grow old new g f id t h.0, all_grow old new g f ids ts h.1)

-- ---- one id for one type

module _ (k : Known) (d : AreDistinct k) where
  one_struct : {x y : StructId} → Some x ≡ Some y → x ≡ y
  one_struct e = cc e

  mutual
    pub one_id : (a b : TypeId) (t : CType) → Names k a t → Names k b t → a ≡ b
    one_id a b void h i = d.kinds a b kind.Void h i
    one_id a b (integer t) h i = d.kinds a b (kind_of t) h i
    one_id a b (pointer t) (x, h, p) (y, i, q) = d.kinds a b (kind.Pointer y) (subst (λ z. Has k.table a (kind.Pointer z)) (one_id x y t p q) h) i
    one_id a b (array t n) (x, h, p) (y, i, q) = d.kinds a b (kind.Array y n) (subst (λ z. Has k.table a (kind.Array z n)) (one_id x y t p q) h) i
    one_id a b (unsized t) h i = absurd h
    one_id a b (struct m) (x, h, p) (y, i, q) = d.kinds a b (kind.Struct y) (subst (λ z. Has k.table a (kind.Struct z)) (one_struct (sym p ∙ q)) h) i
    one_id a b (function t ts) (x, xs, h, p, ps) (y, ys, i, q, qs) =
        d.kinds a b (kind.Function y ys)
        (subst (λ z. Has k.table a (kind.Function z ys)) (one_id x y t p q) (subst (λ zs. Has k.table a (kind.Function x zs)) (all_ids xs ys ts ps qs) h)) i

    pub all_ids : (xs ys : List TypeId) (ts : CTypes) → NamesAll k xs ts → NamesAll k ys ts → xs ≡ ys
    all_ids [] [] no_types h i = refl
    all_ids [] (y ∷ ys) no_types h i = absurd i
    all_ids (x ∷ xs) ys no_types h i = absurd h
    all_ids [] ys (a_type t ts) h i = absurd h
    all_ids (x ∷ xs) [] (a_type t ts) h i = absurd i
    all_ids (x ∷ xs) (y ∷ ys) (a_type t ts) h i = ap₂ (λ z zs. z ∷ zs) (one_id x y t h.0 i.0) (all_ids xs ys ts h.1 i.1)

  -- ---- one type for one id

  one_kind : (a : TypeId) {t u : TypeKind} → Has k.table a t → Has k.table a u → t ≡ u
  one_kind a h i = let same = sym h ∙ i in cc same

  one_integer : (t u : IntegerType) → kind_of t ≡ kind_of u → t ≡ u
  one_integer types.bool types.bool e = refl
  one_integer types.bool types.char e = absurd (cc e)
  one_integer types.bool types.schar e = absurd (cc e)
  one_integer types.bool types.uchar e = absurd (cc e)
  one_integer types.bool types.short e = absurd (cc e)
  one_integer types.bool types.ushort e = absurd (cc e)
  one_integer types.bool types.int e = absurd (cc e)
  one_integer types.bool types.uint e = absurd (cc e)
  one_integer types.bool types.long e = absurd (cc e)
  one_integer types.bool types.ulong e = absurd (cc e)
  one_integer types.char types.bool e = absurd (cc e)
  one_integer types.char types.char e = refl
  one_integer types.char types.schar e = absurd (cc e)
  one_integer types.char types.uchar e = absurd (cc e)
  one_integer types.char types.short e = absurd (cc e)
  one_integer types.char types.ushort e = absurd (cc e)
  one_integer types.char types.int e = absurd (cc e)
  one_integer types.char types.uint e = absurd (cc e)
  one_integer types.char types.long e = absurd (cc e)
  one_integer types.char types.ulong e = absurd (cc e)
  one_integer types.schar types.bool e = absurd (cc e)
  one_integer types.schar types.char e = absurd (cc e)
  one_integer types.schar types.schar e = refl
  one_integer types.schar types.uchar e = absurd (cc e)
  one_integer types.schar types.short e = absurd (cc e)
  one_integer types.schar types.ushort e = absurd (cc e)
  one_integer types.schar types.int e = absurd (cc e)
  one_integer types.schar types.uint e = absurd (cc e)
  one_integer types.schar types.long e = absurd (cc e)
  one_integer types.schar types.ulong e = absurd (cc e)
  one_integer types.uchar types.bool e = absurd (cc e)
  one_integer types.uchar types.char e = absurd (cc e)
  one_integer types.uchar types.schar e = absurd (cc e)
  one_integer types.uchar types.uchar e = refl
  one_integer types.uchar types.short e = absurd (cc e)
  one_integer types.uchar types.ushort e = absurd (cc e)
  one_integer types.uchar types.int e = absurd (cc e)
  one_integer types.uchar types.uint e = absurd (cc e)
  one_integer types.uchar types.long e = absurd (cc e)
  one_integer types.uchar types.ulong e = absurd (cc e)
  one_integer types.short types.bool e = absurd (cc e)
  one_integer types.short types.char e = absurd (cc e)
  one_integer types.short types.schar e = absurd (cc e)
  one_integer types.short types.uchar e = absurd (cc e)
  one_integer types.short types.short e = refl
  one_integer types.short types.ushort e = absurd (cc e)
  one_integer types.short types.int e = absurd (cc e)
  one_integer types.short types.uint e = absurd (cc e)
  one_integer types.short types.long e = absurd (cc e)
  one_integer types.short types.ulong e = absurd (cc e)
  one_integer types.ushort types.bool e = absurd (cc e)
  one_integer types.ushort types.char e = absurd (cc e)
  one_integer types.ushort types.schar e = absurd (cc e)
  one_integer types.ushort types.uchar e = absurd (cc e)
  one_integer types.ushort types.short e = absurd (cc e)
  one_integer types.ushort types.ushort e = refl
  one_integer types.ushort types.int e = absurd (cc e)
  one_integer types.ushort types.uint e = absurd (cc e)
  one_integer types.ushort types.long e = absurd (cc e)
  one_integer types.ushort types.ulong e = absurd (cc e)
  one_integer types.int types.bool e = absurd (cc e)
  one_integer types.int types.char e = absurd (cc e)
  one_integer types.int types.schar e = absurd (cc e)
  one_integer types.int types.uchar e = absurd (cc e)
  one_integer types.int types.short e = absurd (cc e)
  one_integer types.int types.ushort e = absurd (cc e)
  one_integer types.int types.int e = refl
  one_integer types.int types.uint e = absurd (cc e)
  one_integer types.int types.long e = absurd (cc e)
  one_integer types.int types.ulong e = absurd (cc e)
  one_integer types.uint types.bool e = absurd (cc e)
  one_integer types.uint types.char e = absurd (cc e)
  one_integer types.uint types.schar e = absurd (cc e)
  one_integer types.uint types.uchar e = absurd (cc e)
  one_integer types.uint types.short e = absurd (cc e)
  one_integer types.uint types.ushort e = absurd (cc e)
  one_integer types.uint types.int e = absurd (cc e)
  one_integer types.uint types.uint e = refl
  one_integer types.uint types.long e = absurd (cc e)
  one_integer types.uint types.ulong e = absurd (cc e)
  one_integer types.long types.bool e = absurd (cc e)
  one_integer types.long types.char e = absurd (cc e)
  one_integer types.long types.schar e = absurd (cc e)
  one_integer types.long types.uchar e = absurd (cc e)
  one_integer types.long types.short e = absurd (cc e)
  one_integer types.long types.ushort e = absurd (cc e)
  one_integer types.long types.int e = absurd (cc e)
  one_integer types.long types.uint e = absurd (cc e)
  one_integer types.long types.long e = refl
  one_integer types.long types.ulong e = absurd (cc e)
  one_integer types.ulong types.bool e = absurd (cc e)
  one_integer types.ulong types.char e = absurd (cc e)
  one_integer types.ulong types.schar e = absurd (cc e)
  one_integer types.ulong types.uchar e = absurd (cc e)
  one_integer types.ulong types.short e = absurd (cc e)
  one_integer types.ulong types.ushort e = absurd (cc e)
  one_integer types.ulong types.int e = absurd (cc e)
  one_integer types.ulong types.uint e = absurd (cc e)
  one_integer types.ulong types.long e = absurd (cc e)
  one_integer types.ulong types.ulong e = refl

  same_pointer : {x y : TypeId} → kind.Pointer x ≡ kind.Pointer y → x ≡ y
  same_pointer e = cc e

  same_array : {x y : TypeId} {n j : ℕ} → kind.Array x n ≡ kind.Array y j → (x ≡ y) × (n ≡ j)
  same_array e = (cc e, cc e)

  same_struct : {x y : StructId} → kind.Struct x ≡ kind.Struct y → x ≡ y
  same_struct e = cc e

  same_function : {x y : TypeId} {xs ys : List TypeId} → kind.Function x xs ≡ kind.Function y ys → (x ≡ y) × (xs ≡ ys)
  same_function e = (cc e, cc e)

  -- a kind of no integer type
  abbrev IsNoInteger : TypeKind → Type 0
  IsNoInteger kind.Void = Unit {0}
  IsNoInteger (kind.Pointer x) = Unit {0}
  IsNoInteger (kind.Array x n) = Unit {0}
  IsNoInteger (kind.Struct s) = Unit {0}
  IsNoInteger (kind.Function x xs) = Unit {0}
  IsNoInteger t = ⊥

  no_integer : (t : IntegerType) (u : TypeKind) → kind_of t ≡ u → IsNoInteger u → ⊥
  no_integer t u e h = by t (subst IsNoInteger (sym e) h)
    where
      by : (t : IntegerType) → IsNoInteger (kind_of t) → ⊥
      by types.bool h = h
      by types.char h = h
      by types.schar h = h
      by types.uchar h = h
      by types.short h = h
      by types.ushort h = h
      by types.int h = h
      by types.uint h = h
      by types.long h = h
      by types.ulong h = h

  mutual
    pub one_type : (a : TypeId) (t u : CType) → Names k a t → Names k a u → t ≡ u
    one_type a void void h i = refl
    one_type a void (integer u) h i = absurd (no_integer u _ (one_kind a i h) tt)
    one_type a void (pointer u) h i = absurd (cc (one_kind a h i.1))
    one_type a void (array u j) h i = absurd (cc (one_kind a h i.1))
    one_type a void (struct l) h i = absurd (cc (one_kind a h i.1))
    one_type a void (function u us) h i = absurd (cc (one_kind a h i.2))
    one_type a void (unsized u) h i = absurd i
    one_type a (integer t) void h i = absurd (no_integer t _ (one_kind a h i) tt)
    one_type a (integer t) (integer u) h i = ap integer (one_integer t u (one_kind a h i))
    one_type a (integer t) (pointer u) h i = absurd (no_integer t _ (one_kind a h i.1) tt)
    one_type a (integer t) (array u j) h i = absurd (no_integer t _ (one_kind a h i.1) tt)
    one_type a (integer t) (struct l) h i = absurd (no_integer t _ (one_kind a h i.1) tt)
    one_type a (integer t) (function u us) h i = absurd (no_integer t _ (one_kind a h i.2) tt)
    one_type a (integer t) (unsized u) h i = absurd i
    one_type a (pointer t) void h i = absurd (cc (one_kind a h.1 i))
    one_type a (pointer t) (integer u) h i = absurd (no_integer u _ (one_kind a i h.1) tt)
    one_type a (pointer t) (pointer u) (x, h, p) (y, i, q) = ap pointer (one_type y t u (subst (λ z. Names k z t) (same_pointer (one_kind a h i)) p) q)
    one_type a (pointer t) (array u j) h i = absurd (cc (one_kind a h.1 i.1))
    one_type a (pointer t) (struct l) h i = absurd (cc (one_kind a h.1 i.1))
    one_type a (pointer t) (function u us) h i = absurd (cc (one_kind a h.1 i.2))
    one_type a (pointer t) (unsized u) h i = absurd i
    one_type a (array t n) void h i = absurd (cc (one_kind a h.1 i))
    one_type a (array t n) (integer u) h i = absurd (no_integer u _ (one_kind a i h.1) tt)
    one_type a (array t n) (pointer u) h i = absurd (cc (one_kind a h.1 i.1))
    one_type a (array t n) (array u j) (x, h, p) (y, i, q) = let e = same_array (one_kind a h i) in ap₂ array (one_type y t u (subst (λ z. Names k z t) e.0 p) q) e.1
    one_type a (array t n) (struct l) h i = absurd (cc (one_kind a h.1 i.1))
    one_type a (array t n) (function u us) h i = absurd (cc (one_kind a h.1 i.2))
    one_type a (array t n) (unsized u) h i = absurd i
    one_type a (struct m) void h i = absurd (cc (one_kind a h.1 i))
    one_type a (struct m) (integer u) h i = absurd (no_integer u _ (one_kind a i h.1) tt)
    one_type a (struct m) (pointer u) h i = absurd (cc (one_kind a h.1 i.1))
    one_type a (struct m) (array u j) h i = absurd (cc (one_kind a h.1 i.1))
    one_type a (struct m) (struct l) (x, h, p) (y, i, q) = ap struct (d.nodes m l y (subst (λ z. struct_by k.structs m ≡ Some z) (same_struct (one_kind a h i)) p) q)
    one_type a (struct m) (function u us) h i = absurd (cc (one_kind a h.1 i.2))
    one_type a (struct m) (unsized u) h i = absurd i
    one_type a (function t ts) void h i = absurd (cc (one_kind a h.2 i))
    one_type a (function t ts) (integer u) h i = absurd (no_integer u _ (one_kind a i h.2) tt)
    one_type a (function t ts) (pointer u) h i = absurd (cc (one_kind a h.2 i.1))
    one_type a (function t ts) (array u j) h i = absurd (cc (one_kind a h.2 i.1))
    one_type a (function t ts) (struct l) h i = absurd (cc (one_kind a h.2 i.1))
    one_type a (function t ts) (function u us) (x, xs, h, p, ps) (y, ys, i, q, qs) = let e = same_function (one_kind a h i) in ap₂ function (one_type y t u (subst (λ z. Names k z t) e.0 p) q) (all_types ys ts us (subst (λ zs. NamesAll k zs ts) e.1 ps) qs)
    one_type a (function t ts) (unsized u) h i = absurd i
    one_type a (unsized t) u h i = absurd h

    pub all_types : (xs : List TypeId) (ts us : CTypes) → NamesAll k xs ts → NamesAll k xs us → ts ≡ us
    all_types [] no_types no_types h i = refl
    all_types [] no_types (a_type u us) h i = absurd i
    all_types [] (a_type t ts) us h i = absurd h
    all_types (x ∷ xs) no_types us h i = absurd h
    all_types (x ∷ xs) (a_type t ts) no_types h i = absurd i
    all_types (x ∷ xs) (a_type t ts) (a_type u us) h i = ap₂ a_type (one_type x t u h.0 i.0) (all_types xs ts us h.1 i.1)

-- ---- a result that is there

pub if_ok : {A E : Type 0} (P Q : A → Type 0) (r : Result A E) → ((a : A) → P a → Q a) → IfOk r P → IfOk r Q
if_ok P Q (Ok a) f h = f a h
if_ok P Q (Err e) f h = tt

pub on_ok : {A E : Type 0} (P Q : Type 0) (r : Result A E) → (P → Q) → OnOk r P → OnOk r Q
on_ok P Q (Ok a) f h = f h
on_ok P Q (Err e) f h = tt
