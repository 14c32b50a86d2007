-- What the functions that write the cells into the data ask. No public clause names it.
use Rattle.std.specs.Prelude.{ℕ, ◌+◌, ◌<◌, ◌≤◌, List}
use Rattle.std.specs.List.{AllByRecursion, AllZip}
use Rattle.c_types.specs.declared.tree.Object.{Object}
use Rattle.c_types.specs.declared.tree.Cell.{Cell}
use Rattle.c_types.specs.declared.tree.CellValue.{CellValue}
use Rattle.c_types.specs.declared.tree.CellValue.TheVariants.{Number, Address}

-- an address is that of one of so many objects
abbrev pub IsKnown : ℕ → CellValue → Type 0
IsKnown count (Number n) = Unit {0}
IsKnown count (Address object addend) = object < count

abbrev pub AddressesFit : ℕ → List Cell → Type 0
AddressesFit count cells = AllByRecursion (λ c. IsKnown count c.value) cells

-- the cells of an object that is at this place lie in the data
abbrev pub CellsFit : List Cell → ℕ → ℕ → Type 0
CellsFit cells at size = AllByRecursion (λ c. at + c.offset + c.width ≤ size) cells

abbrev pub ObjectsFit : List Object → List ℕ → ℕ → Type 0
ObjectsFit objects offsets size = AllZip (λ o at. CellsFit o.cells at size) objects offsets
