-- Pieces of a line.
use Rattle.std.specs.Prelude.{ℕ, List}
use Rattle.std.specs.List.{flat_map}
use Rattle.std.specs.Fmt.{decimal}
use Rattle.cp_driver.specs.declared.message.Piece.{Piece}
use Rattle.cp_driver.specs.declared.message.Piece.TheVariants.{Text, Number}

abbrev pub piece_text : Piece → List ℕ
piece_text (Text text) = text.now
piece_text (Number number) = decimal number

-- all pieces, one after another
abbrev pub text_of : List Piece → List ℕ
text_of pieces = flat_map piece_text pieces
