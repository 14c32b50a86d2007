-- The value of what stands in memory, by its type.
use Rattle.std.proofs.Common.{◌≡◌, ◌≢◌, ℕ, false, refl, sym, ap, subst}
use Rattle.std.specs.Prelude.{Result, Ok, Err, IfOk}
use Rattle.c_types.specs.declared.kind.TypeId.{TypeId}
use Rattle.c_types.specs.declared.kind.StructId.{StructId}
use Rattle.c_types.specs.Forms.{load}
use Rattle.c_typing.specs.Types.{CType, same, void, integer, pointer, array, unsized, struct, function}
use Rattle.c_typing.specs.Judgements as rules
use Rattle.c_typing.specs.Judgements.{temporary, no_constant}
use Rattle.c_typing.specs.Conversions.{valued, access_of, address_in, read_by}
use Rattle.c_type_ids.specs.declared.kinds.Kind.{Kind}
use Rattle.c_type_ids.specs.declared.kinds.Kind.TheVariants as kind
use Rattle.c_type_ids.specs.Ids.{Known, Names, Shows}
use Rattle.c_type_ids.specs.declared.integers.Integer.{Integer}
use Rattle.c_type_ids.specs.Integers.{integer_of}
use Rattle.c_values.specs.declared.conversions.Shown.TheVariants as shown
use Rattle.c_values.specs.declared.typings.Typing.{Typing}
use Rattle.c_values.specs.declared.typings.«Type».{«Type» as TypeForm}
use Rattle.c_values.specs.declared.typings.«Type».TheVariants as type
use Rattle.c_values.specs.Typings.{IsType, Is, ShownAs}

-- an array, by its element
abbrev Decays : Known → TypeId → CType → Type 0
Decays k element u = (t : CType) × Names k element t × ((y : rules.Typing) → read_by u y ≡ valued (pointer t) y.code (address_in y.constant))

pub read_array : (k : Known) (element : TypeId) (n : ℕ) (u : CType) → Shows k (kind.Array element n) u → Decays k element u
read_array k element n (array t m) (h, e, sized) = (t, h, λ y. refl)
read_array k element n u h = absurd h

pub read_unsized : (k : Known) (element : TypeId) (u : CType) → ShownAs k (shown.Unsized element) u → Decays k element u
read_unsized k element (unsized t) h = (t, h, λ y. refl)
read_unsized k element u h = absurd h

pub read_struct : (k : Known) (s : StructId) (u : CType) → Shows k (kind.Struct s) u → (y : rules.Typing) → read_by u y ≡ record y { form = temporary; constant = no_constant }
read_struct k s (struct node) h y = refl
read_struct k s u h y = absurd h

pub read_other : (k : Known) (K : Kind) (u : CType) → Shows k K u → ((element : TypeId) (n : ℕ) → K ≢ kind.Array element n) → ((s : StructId) → K ≢ kind.Struct s)
    → (y : rules.Typing) → read_by u y ≡ valued u (load (access_of u) y.code) no_constant
read_other k K void h a b y = refl
read_other k K (integer t) h a b y = refl
read_other k K (pointer t) h a b y = refl
read_other k kind.Void (array t m) h a b y = absurd h
read_other k (kind.Integer i) (array t m) h a b y = absurd h
read_other k (kind.Pointer x) (array t m) h a b y = absurd h
read_other k (kind.Array element n) (array t m) h a b y = absurd (a element n refl)
read_other k (kind.Struct s) (array t m) h a b y = absurd h
read_other k (kind.Function x) (array t m) h a b y = absurd h
read_other k kind.Void (unsized t) h a b y = absurd h
read_other k (kind.Integer i) (unsized t) h a b y = absurd h
read_other k (kind.Pointer x) (unsized t) h a b y = absurd h
read_other k (kind.Array element n) (unsized t) h a b y = absurd h
read_other k (kind.Struct s) (unsized t) h a b y = absurd h
read_other k (kind.Function x) (unsized t) h a b y = absurd h
read_other k kind.Void (struct node) h a b y = absurd h
read_other k (kind.Integer i) (struct node) h a b y = absurd h
read_other k (kind.Pointer x) (struct node) h a b y = absurd h
read_other k (kind.Array element n) (struct node) h a b y = absurd h
read_other k (kind.Struct s) (struct node) h a b y = absurd (b s refl)
read_other k (kind.Function x) (struct node) h a b y = absurd h
read_other k K (function t ts) h a b y = refl

-- an array that is read is a pointer
pub decay : (old new : Known) (x : Typing) (element : TypeId) {E : Type 0} (r : Result Typing E) → ((u : CType) → IsType old x.kind u → Decays old element u)
    → IfOk r (λ v. (t : CType) (y : rules.Typing) → Names old element t → Is old x y → Is new v (valued (pointer t) y.code (address_in y.constant)))
    → IfOk r (λ v. (y : rules.Typing) → Is old x y → Is new v (read_by y.type y))
decay old new x element (Ok v) shows h = λ y is.
    let (t, named, same) = shows y.type is.type in
    subst (Is new v) (sym (same y)) (h t y named is)
decay old new x element (Err e) shows h = tt

-- ---- conversions

pub known_unsized : (k : Known) (id : TypeId) (t u : CType) → Names k id t → same t (unsized u) ≡ false
known_unsized k id void u h = refl
known_unsized k id (integer t) u h = refl
known_unsized k id (pointer t) u h = refl
known_unsized k id (array t n) u h = refl
known_unsized k id (unsized t) u h = absurd h
known_unsized k id (struct node) u h = refl
known_unsized k id (function t ts) u h = refl

pub unsized_known : (k : Known) (id : TypeId) (t u : CType) → Names k id u → same (unsized t) u ≡ false
unsized_known k id t void h = refl
unsized_known k id t (integer u) h = refl
unsized_known k id t (pointer u) h = refl
unsized_known k id t (array u n) h = refl
unsized_known k id t (unsized u) h = absurd h
unsized_known k id t (struct node) h = refl
unsized_known k id t (function u us) h = refl

pub integer_is : (k : Known) (i : Integer) (t : CType) → Shows k (kind.Integer i) t → integer (integer_of i) ≡ t
integer_is k i void h = absurd h
integer_is k i (integer t) h = ap integer h
integer_is k i (pointer t) h = absurd h
integer_is k i (array t n) h = absurd h
integer_is k i (unsized t) h = absurd h
integer_is k i (struct node) h = absurd h
integer_is k i (function t ts) h = absurd h

-- a type that an id names is no array without a length, and no pointer to one
pub known_to_unsized : (k : Known) (id : TypeId) (t u : CType) → Names k id t → same t (pointer (unsized u)) ≡ false
known_to_unsized k id void u h = refl
known_to_unsized k id (integer t) u h = refl
known_to_unsized k id (pointer t) u (to, has, h) = known_unsized k to t u h
known_to_unsized k id (array t n) u h = refl
known_to_unsized k id (unsized t) u h = absurd h
known_to_unsized k id (struct node) u h = refl
known_to_unsized k id (function t ts) u h = refl

pub known_other : (k : Known) (id : TypeId) (b : TypeForm) (t u : CType) → ((other : TypeId) → b ≢ type.Known other) → Names k id t → IsType k b u → same t u ≡ false
known_other k id (type.Known other) t u n h i = absurd (n other refl)
known_other k id (type.Unsized other) t (unsized u) n h i = known_unsized k id t u h
known_other k id (type.Unsized other) t u n h i = absurd i
known_other k id (type.ToUnsized other) t (pointer (unsized u)) n h i = known_to_unsized k id t u h
known_other k id (type.ToUnsized other) t u n h i = absurd i
