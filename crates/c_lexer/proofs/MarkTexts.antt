-- The text of a punctuator is that of no other one.
use Rattle.std.proofs.Common.{◌≡◌, ℕ, List, true, Option, Some, None, find, option_map, refl, sym, ◌∙◌, ap}
use Rattle.std.specs.List.{list_all}
use Rattle.std.specs.Str.{bytes_eq}
use Rattle.std.proofs.lemmas.Slice.Eq.{bytes_eq-Decides}
use Rattle.c_lexer.specs.declared.token.Punct.{Punct}
use Rattle.c_lexer.specs.declared.token.Punct.TheVariants.{Comma}
use Rattle.c_lexer.specs.Marks.{mark_text}
use Rattle.c_lexer.specs.Readings.{marks, mark_of}
use Rattle.c_lexer.proofs.Fronts.{find_passes}

pub mark_read : (p : Punct) → mark_of (mark_text p) ≡ Some p
mark_read = elim [ Comma ↦ refl | _ ↦ refl ]

rows_as_written : list_all (λ (m : List ℕ × Punct). bytes_eq (mark_text m.1) m.0) marks ≡ true
rows_as_written = refl

-- the punctuator that a text is read as has that text
pub mark_has_text : (text : List ℕ) (mark : Punct) → mark_of text ≡ Some mark → text ≡ mark_text mark
mark_has_text text mark e = at (find (λ (m : List ℕ × Punct). bytes_eq m.0 text) marks) refl e
  where
    at : (found : Option (List ℕ × Punct)) → find (λ (m : List ℕ × Punct). bytes_eq m.0 text) marks ≡ found → option_map (λ (m : List ℕ × Punct). m.1) found ≡ Some mark → text ≡ mark_text mark
    at (Some m) h f =
        let t = find_passes (λ (m : List ℕ × Punct). bytes_eq (mark_text m.1) m.0) (λ (m : List ℕ × Punct). bytes_eq m.0 text) marks m rows_as_written h in
        let same : m.1 ≡ mark = cc f in
        sym ((bytes_eq-Decides m.0 text).0 t.1) ∙ sym ((bytes_eq-Decides (mark_text m.1) m.0).0 t.0) ∙ ap mark_text same
    at None h f = absurd (cc f)
