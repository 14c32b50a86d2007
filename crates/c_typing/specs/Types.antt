-- Types as the rules see them. C99 6.2.5, 6.3.1.1, 6.3.1.8.
use Rattle.std.specs.Prelude.{ℕ, Bool, true, false, List, [], ◌∷◌, ◌&&◌, ◌||◌, ◌==◌, Option, Some, None, find, option_map, unwrap_or}
use Rattle.std.specs.Option.{is_some}
use Rattle.c_types.specs.declared.kind.Measure.{Measure}
use Rattle.c_types.specs.Sizes.{array_measure}
use Rattle.cp_base.specs.declared.op.Kind.{Kind}
use Rattle.cp_base.specs.declared.op.Kind.TheVariants as access
use Rattle.cp_base.specs.declared.op.To.{To}
use Rattle.cp_base.specs.declared.op.To.TheVariants as to

-- 6.2.5, 4 to 9; an enum is compatible with `int` (6.7.2.2, 4)
pub data IntegerType : Type 0 where
  bool char schar uchar short ushort int uint long ulong : IntegerType

mutual
  pub data CType : Type 0 where
    void : CType
    integer : IntegerType → CType
    pointer : CType → CType
    -- the type of the elements, and how many there are
    array : CType → ℕ → CType
    -- an array whose initializer has not ended, and is to give its length (6.7.8, 22)
    unsized : CType → CType
    -- a struct has the number of the node that declares its tag, or that has no tag
    struct : ℕ → CType
    -- the result, the parameters
    function : CType → CTypes → CType

  pub data CTypes : Type 0 where
    no_types : CTypes
    a_type : CType → CTypes → CTypes

-- whether two integer types are one
abbrev pub code_of : IntegerType → ℕ
code_of bool = 0
code_of char = 1
code_of schar = 2
code_of uchar = 3
code_of short = 4
code_of ushort = 5
code_of int = 6
code_of uint = 7
code_of long = 8
code_of ulong = 9

abbrev mutual
  -- the same type (6.2.7), qualifiers aside
  pub same : CType → CType → Bool
  same void void = true
  same (integer k) (integer l) = code_of k == code_of l
  same (pointer a) (pointer b) = same a b
  same (array a n) (array b m) = n == m && same a b
  same (unsized a) (unsized b) = same a b
  same (struct k) (struct l) = k == l
  same (function a ps) (function b qs) = same a b && same_all ps qs
  same a b = false

  pub same_all : CTypes → CTypes → Bool
  same_all no_types no_types = true
  same_all (a_type a ps) (a_type b qs) = same a b && same_all ps qs
  same_all ps qs = false

-- ---- integer types

-- one line a type: its size, whether it has a sign, how it is read from memory, and what a word is made to be a value of it
pub record Traits : Type 0 where
  pub size : ℕ
  pub is_signed : Bool
  pub access : Kind
  pub narrowing : Option To

abbrev pub traits : ℕ → Bool → Kind → Option To → Traits
traits size is_signed access narrowing = record { size = size; is_signed = is_signed; access = access; narrowing = narrowing }

-- 6.2.5, 6.2.6.1; plain `char` has no sign
abbrev pub traits_of : IntegerType → Traits
traits_of bool = traits 1 false access.U8 (Some to.Truth)
traits_of char = traits 1 false access.U8 (Some to.U8)
traits_of schar = traits 1 true access.I8 (Some to.I8)
traits_of uchar = traits 1 false access.U8 (Some to.U8)
traits_of short = traits 2 true access.I16 (Some to.I16)
traits_of ushort = traits 2 false access.U16 (Some to.U16)
traits_of int = traits 4 true access.W32 None
traits_of uint = traits 4 false access.W32 None
traits_of long = traits 4 true access.W32 None
traits_of ulong = traits 4 false access.W32 None

-- the integer promotions (6.3.1.1, 2): each narrow type has its values in `int`
abbrev pub promoted : IntegerType → IntegerType
promoted int = int
promoted uint = uint
promoted long = long
promoted ulong = ulong
promoted narrow = int

-- the usual arithmetic conversions, of promoted types (6.3.1.8): `long` has not all values of `unsigned`
abbrev pub common_of : IntegerType → IntegerType → IntegerType
common_of ulong b = ulong
common_of a ulong = ulong
common_of long uint = ulong
common_of uint long = ulong
common_of long b = long
common_of a long = long
common_of uint b = uint
common_of a uint = uint
common_of a b = int

abbrev pub common : IntegerType → IntegerType → IntegerType
common a b = common_of (promoted a) (promoted b)

-- ---- classes of types (6.2.5, 17 to 21)

abbrev pub is_integer : CType → Bool
is_integer (integer k) = true
is_integer t = false

abbrev pub is_pointer : CType → Bool
is_pointer (pointer t) = true
is_pointer t = false

abbrev pub is_scalar : CType → Bool
is_scalar t = is_integer t || is_pointer t

abbrev pub is_void : CType → Bool
is_void void = true
is_void t = false

abbrev pub is_struct : CType → Bool
is_struct (struct k) = true
is_struct t = false

abbrev pub is_array : CType → Bool
is_array (array t n) = true
is_array (unsized t) = true
is_array t = false

abbrev pub is_unsized : CType → Bool
is_unsized (unsized t) = true
is_unsized t = false

abbrev pub is_function : CType → Bool
is_function (function r ps) = true
is_function t = false

-- an array of a character type (6.2.5, 15)
abbrev pub is_character : CType → Bool
is_character (integer char) = true
is_character (integer schar) = true
is_character (integer uchar) = true
is_character t = false

abbrev pub is_text_array : CType → Bool
is_text_array (array t n) = is_character t
is_text_array (unsized t) = is_character t
is_text_array t = false

-- the integer type of a value; of another type, which a rule refuses, `int`
abbrev pub integer_of : CType → IntegerType
integer_of (integer k) = k
integer_of t = int

-- what a pointer points to
abbrev pub target_of : CType → CType
target_of (pointer t) = t
target_of t = void

-- the element of an array
abbrev pub element_of : CType → CType
element_of (array t n) = t
element_of (unsized t) = t
element_of t = t

abbrev pub types_of : List CType → CTypes
types_of [] = no_types
types_of (t ∷ ts) = a_type t (types_of ts)

abbrev pub listed : CTypes → List CType
listed no_types = []
listed (a_type t ts) = t ∷ listed ts

-- ---- sizes (6.2.5, 6.2.6.1, 6.7.2.1)

pub record Field : Type 0 where
  pub name : List ℕ
  pub type : CType
  pub offset : ℕ

-- a struct whose body has been read: its number, its members, its size and alignment
pub record Layout : Type 0 where
  pub number : ℕ
  pub fields : List Field
  pub measure : Measure

abbrev pub measured : ℕ → ℕ → Option Measure
measured size align = Some (record { size = size; align = align })

abbrev pub layout_of : List Layout → ℕ → Option Layout
layout_of layouts k = find (λ l. l.number == k) layouts

-- the size and alignment of a type; `void`, functions, and structs and arrays that are not complete have none
abbrev pub measure : List Layout → CType → Option Measure
measure layouts void = None
measure layouts (integer k) = measured (traits_of k).size (traits_of k).size
measure layouts (pointer t) = measured 4 4
measure layouts (array t n) = option_map (array_measure n) (measure layouts t)
measure layouts (unsized t) = None
measure layouts (struct k) = option_map (λ (l : Layout). l.measure) (layout_of layouts k)
measure layouts (function r ps) = None

abbrev pub has_size : List Layout → CType → Bool
has_size layouts t = is_some (measure layouts t)

abbrev pub no_measure : Measure
no_measure = record { size = 0; align = 1 }

abbrev pub size_of : List Layout → CType → ℕ
size_of layouts t = (unwrap_or (measure layouts t) no_measure).size

abbrev pub align_of : List Layout → CType → ℕ
align_of layouts t = (unwrap_or (measure layouts t) no_measure).align
