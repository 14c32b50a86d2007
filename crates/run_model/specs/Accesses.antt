-- Accesses to the data of a program: its bytes, of which the first has the address `base`. C99 6.2.6.1 (objects are bytes).
-- The data is one flat memory, this project's choice: an access has to be aligned and in the data, and may be of any type and
-- in the padding between objects, where 6.5, 7 and 6.5.3.2, 4 allow less.
use Rattle.std.specs.Prelude.{ℕ, zero, suc, ◌+◌, ◌-◌, ◌*◌, ◌/◌, ◌%◌, Bool, ◌==◌, nat_le, ◌&&◌, ◌||◌, if◌then◌else◌, List, [], ◌∷◌, ◌++◌, length, take, drop, Option, Some, None}
use Rattle.cp_base.specs.declared.op.Kind.{Kind}
use Rattle.cp_base.specs.declared.op.Kind.TheVariants as kind
use Rattle.cp_base.specs.Words.{sign_extended}

-- how many bytes an access has
abbrev pub width : Kind → ℕ
width kind.U8 = 1
width kind.I8 = 1
width kind.U16 = 2
width kind.I16 = 2
width kind.W32 = 4

-- the word that a number of so many bytes is read as
abbrev pub extended : Kind → ℕ → ℕ
extended kind.U8 n = n
extended kind.I8 n = sign_extended 8 n
extended kind.U16 n = n
extended kind.I16 n = sign_extended 16 n
extended kind.W32 n = n

-- the number that bytes are, the least byte first
abbrev pub number_of : List ℕ → ℕ
number_of [] = 0
number_of (b ∷ bs) = b + 256 * number_of bs

-- the low bytes of a number, so many, the least first
abbrev pub bytes_of : ℕ → ℕ → List ℕ
bytes_of zero n = []
bytes_of (suc count) n = n % 256 ∷ bytes_of count (n / 256)

-- so many bytes from an index on
abbrev pub part : List ℕ → ℕ → ℕ → List ℕ
part bytes at size = take size (drop at bytes)

-- the bytes, with these in place of as many from an index on
abbrev pub with_part : List ℕ → ℕ → List ℕ → List ℕ
with_part bytes at new = take at bytes ++ (new ++ drop (at + length new) bytes)

-- the address is a multiple of `align`, and the `size` bytes from it on are all in the data
abbrev pub can_access : ℕ → List ℕ → ℕ → ℕ → ℕ → Bool
can_access base bytes align address size =
    (address % align == 0) && nat_le base address && nat_le (address + size) (base + length bytes)

-- the word at an address; none where it cannot be accessed
abbrev pub loaded : ℕ → List ℕ → Kind → ℕ → Option ℕ
loaded base bytes k address =
    if can_access base bytes (width k) address (width k)
    then Some (extended k (number_of (part bytes (address - base) (width k))))
    else None

-- the data with the low bytes of a word at an address
abbrev pub stored : ℕ → List ℕ → Kind → ℕ → ℕ → Option (List ℕ)
stored base bytes k address word =
    if can_access base bytes (width k) address (width k)
    then Some (with_part bytes (address - base) (bytes_of (width k) word))
    else None

-- `size` bytes from two addresses on do not meet
abbrev pub are_apart : ℕ → ℕ → ℕ → Bool
are_apart size a b = nat_le (a + size) b || nat_le (b + size) a

-- the data with the `size` bytes from the address `from` on at the address `to` too. Both are multiples of `align`,
-- and they are one address, or the bytes do not meet (6.5.16.1, 3).
abbrev pub copied : ℕ → List ℕ → ℕ → ℕ → ℕ → ℕ → Option (List ℕ)
copied base bytes size align to from =
    if can_access base bytes align to size && can_access base bytes align from size && ((to == from) || are_apart size to from)
    then Some (with_part bytes (to - base) (part bytes (from - base) size))
    else None
