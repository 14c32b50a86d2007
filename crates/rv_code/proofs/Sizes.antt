-- The size of data, item by item.
use Rattle.std.proofs.Common.{◌≡◌, ℕ, zero, suc, ◌+◌, ◌<◌, List, [], ◌∷◌, length, take, get_or, arith}
use Rattle.rv_code.specs.declared.assembly.DataItem.{DataItem}
use Rattle.rv_code.specs.Sizes.{item_size, data_size}

-- one item more
pub data_size-take : (items : List DataItem) (i : ℕ) (d : DataItem) → i < length items → data_size (take (i + 1) items) ≡ data_size (take i items) + item_size (get_or items i d)
data_size-take [] i d h = absurd (omega arith)
data_size-take (item ∷ items) zero d h = omega arith
data_size-take (item ∷ items) (suc i) d h =
    let rest = data_size-take items i d (omega arith) in
    grind (arith, rest)

-- a running sum over the items
pub data_size-more : (items : List DataItem) (i size n : ℕ) (d : DataItem) → i < length items → n ≡ item_size (get_or items i d) → size ≡ data_size (take i items) → size + n ≡ data_size (take (i + 1) items)
data_size-more items i size n d h e f =
    let all = data_size-take items i d h in
    omega (arith, all, e, f)
