-- The data of a unit that counts words, with a `main` that does nothing.
use Rattle.std.specs.Prelude.{ℕ, [], ◌∷◌, codes, None, true}
use Rattle.c_types.specs.declared.tree.Cell.{Cell}
use Rattle.c_types.specs.declared.tree.CellValue.TheVariants.{Number}
use Rattle.c_types.specs.declared.tree.Object.{Object}
use Rattle.c_types.specs.declared.tree.Func.{Func}
use Rattle.c_types.specs.declared.tree.Unit.{Unit as Whole}
use Rattle.c_types.specs.Forms.{return_with}

abbrev pub byte : ℕ → ℕ → Cell
byte offset number = record { offset = offset; width = 1; value = Number number }

abbrev pub blanks : Object
blanks = record { name = codes "blanks"; size = 4; align = 1; cells = byte 0 32 ∷ byte 1 9 ∷ byte 2 10 ∷ [] }

abbrev pub counts : Object
counts = record { name = codes "counts"; size = 12; align = 4; cells = [] }

abbrev pub main : Func
main = record { name = codes "main"; params = 0; locals = 0; gives = true; body = return_with None }

abbrev pub unit : Whole
unit = record { objects = blanks ∷ counts ∷ []; functions = main ∷ [] }
