-- Where the objects of a unit are, and the bytes of the data.
use Rattle.std.specs.Prelude.{ℕ, ◌+◌, ◌-◌, ◌/◌, ◌%◌, ◌^◌, Bool, List, [], ◌∷◌, ◌++◌, map, nat_le, nat_lt, ◌&&◌, if◌then◌else◌, slice_index}
use Rattle.std.specs.List.{range_with_len}
use Rattle.c_types.specs.declared.kind.Measure.{Measure}
use Rattle.c_types.specs.declared.tree.Object.{Object}
use Rattle.c_types.specs.declared.tree.Cell.{Cell}
use Rattle.c_types.specs.declared.tree.CellValue.{CellValue}
use Rattle.c_types.specs.declared.tree.CellValue.TheVariants.{Number, Address}
use Rattle.c_types.specs.InOrder.{offsets, end_of}

-- ---- places: the objects stand in order

abbrev pub measure_of : Object → Measure
measure_of o = record { size = o.size; align = o.align }

abbrev pub measures_of : List Object → List Measure
measures_of objects = map measure_of objects

abbrev pub object_offsets : List Object → List ℕ
object_offsets objects = offsets (measures_of objects)

abbrev pub data_size : List Object → ℕ
data_size objects = end_of (measures_of objects)

-- ---- the image (6.7.8, 10: what has no initializer is 0)

-- a cell in the data: its first byte, how many bytes it has, and the number that they are
pub record Placed : Type 0 where
  pub at : ℕ
  pub width : ℕ
  pub number : ℕ

-- the number of a cell; an address is that of the object, plus the addend, modulo 2^32
abbrev pub number_of : ℕ → List ℕ → CellValue → ℕ
number_of base offsets (Number n) = n
number_of base offsets (Address object addend) = (base + slice_index offsets object + addend) % 2 ^ 32

abbrev pub placed : ℕ → List ℕ → ℕ → Cell → Placed
placed base offsets at cell = record { at = at + cell.offset; width = cell.width; number = number_of base offsets cell.value }

-- the cells of objects that are at these offsets
abbrev pub cells_of : ℕ → List ℕ → List Object → List ℕ → List Placed
cells_of base offsets (o ∷ os) (at ∷ ats) = map (placed base offsets at) o.cells ++ cells_of base offsets os ats
cells_of base offsets os ats = []

-- this byte of the data is one of the cell's
abbrev pub covers : ℕ → Placed → Bool
covers i cell = nat_le cell.at i && nat_lt i (cell.at + cell.width)

-- byte k of a number, the least byte first
abbrev pub byte_of : ℕ → ℕ → ℕ
byte_of number k = number / 256 ^ k % 256

-- byte i of the data: that of the cell which has it, else 0
abbrev pub byte_at : List Placed → ℕ → ℕ
byte_at [] i = 0
byte_at (cell ∷ cells) i = if covers i cell then byte_of cell.number (i - cell.at) else byte_at cells i

-- so many bytes with these cells
abbrev pub painted : List Placed → ℕ → List ℕ
painted cells size = map (byte_at cells) (range_with_len 0 size)

-- the data, where its first byte has the address `base`
abbrev pub image : List Object → ℕ → List ℕ
image objects base =
    let offsets = object_offsets objects in
    painted (cells_of base offsets objects offsets) (data_size objects)
