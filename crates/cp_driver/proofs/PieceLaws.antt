-- The pieces before one, that one, and those after it.
use Rattle.std.proofs.Common.{◌≡◌, ℕ, suc, ◌<◌, List, ◌++◌, length, take, drop, sym, ap, ◌∙◌}
use Rattle.std.proofs.lemmas.List.{take-append-drop}
use Rattle.std.proofs.lemmas.Grind.{flat_map-append}
use Rattle.std.proofs.Math.ListN.{get_or}
use Rattle.std.proofs.Math.Seq.{drop-cons}
use Rattle.cp_driver.specs.declared.message.Piece.{Piece}
use Rattle.cp_driver.specs.Pieces.{piece_text, text_of}

pub pieces_split : (pieces : List Piece) (i : ℕ) (d : Piece) → i < length pieces → text_of pieces ≡ text_of (take i pieces) ++ (piece_text (get_or pieces i d) ++ text_of (drop (suc i) pieces))
pieces_split pieces i d h =
    ap text_of (sym (take-append-drop i pieces))
    ∙ flat_map-append piece_text (take i pieces) (drop i pieces)
    ∙ ap (λ rest. text_of (take i pieces) ++ text_of rest) (drop-cons pieces i d h)
