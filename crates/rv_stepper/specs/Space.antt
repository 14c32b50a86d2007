-- The bytes that a program reaches, in one vector, as the memory of the machine. No public contract names this file.
use Rattle.std.specs.Prelude.{ℕ, zero, suc, ◌+◌, ◌-◌, ◌*◌, ◌/◌, ◌%◌, ◌≤◌, ◌^◌, ◌≡◌, ◌⊎◌, Bool, ◌==◌, ◌&&◌, ◌||◌, if◌then◌else◌, List, slice_index, slice_set, Option, Some, None}
use Rattle.cp_base.specs.declared.layout.Layout.{Layout}
use Rattle.cp_base.specs.declared.op.Kind.{Kind}
use Rattle.cp_base.specs.declared.op.Kind.TheVariants.{U8, I8, U16, I16, W32}
use Rattle.cp_base.specs.Words.{sign_extended}
use Rattle.rv_code.specs.Machine.{is_inside, load_bytes}

-- the bytes of the data, of which there are `size`, and then those of the stack
pub record Space : Type 0 where
  pub layout : Layout
  pub size : ℕ
  pub bytes : List ℕ

-- data and stack have no address in common, and are below 2 ^ 32
pub record IsSpace (layout : Layout) (size : ℕ) : Type 0 where
  pub apart : (size ≡ 0) ⊎ ((layout.stack ≡ 0) ⊎ ((layout.cdata + size ≤ layout.top - layout.stack) ⊎ (layout.top ≤ layout.cdata)))
  pub below : layout.stack ≤ layout.top
  pub within : layout.cdata + size ≤ 2 ^ 32

-- where the byte of an address is among the bytes; past their end, where the program does not reach it
abbrev pub index_of : Layout → ℕ → ℕ → ℕ
index_of layout size address =
    if is_inside layout.cdata size address 1 then address - layout.cdata
    else if is_inside (layout.top - layout.stack) layout.stack address 1 then size + (address - (layout.top - layout.stack))
    else size + layout.stack

abbrev pub memory_of : Space → ℕ → ℕ
memory_of s address = slice_index s.bytes (index_of s.layout s.size address)

-- an access of `width` bytes is aligned, and wholly inside the data or inside the stack
abbrev pub may_access : Layout → ℕ → ℕ → ℕ → Bool
may_access layout size address width =
    (address % width == 0)
    && (is_inside layout.cdata size address width || is_inside (layout.top - layout.stack) layout.stack address width)

abbrev pub place_of : Space → ℕ → ℕ → Option ℕ
place_of s address width = if may_access s.layout s.size address width then Some (index_of s.layout s.size address) else None

-- a number of bytes from an index on, the least first
abbrev pub bytes_at : List ℕ → ℕ → ℕ → ℕ
bytes_at bytes index zero = 0
bytes_at bytes index (suc n) = slice_index bytes index + 256 * bytes_at bytes (index + 1) n

abbrev pub with_bytes : List ℕ → ℕ → ℕ → ℕ → List ℕ
with_bytes bytes index zero value = bytes
with_bytes bytes index (suc n) value = with_bytes (slice_set bytes index (value % 256)) (index + 1) n (value / 256)

abbrev pub width_of : Kind → ℕ
width_of U8 = 1
width_of I8 = 1
width_of U16 = 2
width_of I16 = 2
width_of W32 = 4

abbrev pub extended : Kind → ℕ → ℕ
extended U8 w = w
extended I8 w = sign_extended 8 w
extended U16 w = w
extended I16 w = sign_extended 16 w
extended W32 w = w

-- what a load gives
abbrev pub loaded_word : Space → Kind → ℕ → Option ℕ
loaded_word s kind address =
    if may_access s.layout s.size address (width_of kind)
    then Some (extended kind (load_bytes (memory_of s) address (width_of kind)))
    else None
