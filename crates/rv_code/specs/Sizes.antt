-- The size of the data section.
use Rattle.std.specs.Prelude.{ℕ, ◌+◌, ◌-◌, List, [], ◌∷◌}
use Rattle.rv_code.specs.declared.assembly.DataItem.{DataItem}
use Rattle.rv_code.specs.declared.assembly.DataItem.TheVariants.{Zero, Byte, Address}

-- how many bytes an item is
abbrev pub item_size : DataItem → ℕ
item_size (Zero count) = count
item_size (Byte value) = 1
item_size (Address offset) = 4

abbrev pub data_size : List DataItem → ℕ
data_size [] = 0
data_size (item ∷ items) = item_size item + data_size items

-- the buffer byte is the last byte of the data
abbrev pub buffer_offset : List DataItem → ℕ
buffer_offset items = data_size items - 1
