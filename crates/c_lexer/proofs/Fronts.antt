-- The first bytes of spellings.
use Rattle.std.proofs.Common.{◌≡◌, ℕ, ◌⊎◌, inl, inr, ⊎_elim, Bool, true, false, cond, List, [], ◌∷◌, ◌==◌, ◌||◌, ◌&&◌, not, Option, Some, None, refl, sym, ap, ◌∙◌, subst, arith, option_map, find, is_some, length, nat_le}
use Rattle.std.specs.List.{list_all}
use Rattle.std.specs.Str.{bytes_eq}
use Rattle.std.proofs.lemmas.Bool.Decides.{nat_tests}
use Rattle.std.proofs.lemmas.Slice.Eq.{bytes_eq-Decides}
use Rattle.c_lexer.specs.declared.token.Punct.{Punct}
use Rattle.c_lexer.specs.Characters.{is_blank, is_nondigit}
use Rattle.c_lexer.specs.Readings.{marks, mark_of}
use Rattle.c_lexer.specs.Numbers.{begins_number, is_number_run}
use Rattle.c_lexer.specs.Literals.{single_quote, double_quote}
use Rattle.c_lexer.specs.Spellings.{is_word}
use Rattle.c_lexer.proofs.Tests.{is_literal, is_spelling}

-- ---- tests

pub both : (a b : Bool) → (a && b) ≡ true → (a ≡ true) × (b ≡ true)
both true b e = (refl, e)
both false b e = absurd (cc e)

pub either : (a b : Bool) → (a || b) ≡ true → (a ≡ true) ⊎ (b ≡ true)
either true b e = inl refl
either false b e = inr e

-- what a search finds passes its test, and any test that all pass
pub find_passes : {X : Type 0} (p q : X → Bool) (xs : List X) (x : X) → list_all p xs ≡ true → find q xs ≡ Some x → (p x ≡ true) × (q x ≡ true)
find_passes p q [] x all e = absurd (cc e)
find_passes p q (y ∷ xs) x all e = at (find_passes p q xs x) (q y) refl e
  where
    parts : (p y ≡ true) × (list_all p xs ≡ true)
    parts = both (p y) (list_all p xs) all

    at : (list_all p xs ≡ true → find q xs ≡ Some x → (p x ≡ true) × (q x ≡ true)) → (b : Bool) → q y ≡ b → find q (y ∷ xs) ≡ Some x → (p x ≡ true) × (q x ≡ true)
    at later true h f =
        let same : y ≡ x = cc (sym (ap (λ b. cond b (Some y) (find q xs)) h) ∙ f) in
        (subst (λ z. p z ≡ true) same parts.0, subst (λ z. q z ≡ true) same h)
    at later false h f = later parts.1 (sym (ap (λ b. cond b (Some y) (find q xs)) h) ∙ f)

-- ---- marks

-- the first byte is no blank, `#`, letter or quote
abbrev pub is_plain_front : List ℕ → Bool
is_plain_front [] = false
is_plain_front (a ∷ rest) = not (is_blank a) && (not (a == 35) && (not (is_nondigit a) && (not (a == single_quote) && not (a == double_quote))))

-- a mark begins so, and with no number
abbrev pub is_plain_mark : List ℕ × Punct → Bool
is_plain_mark m = is_plain_front m.0 && not (begins_number m.0)

pub marks_are_plain : list_all is_plain_mark marks ≡ true
marks_are_plain = refl

-- the text of a mark is that of a row of the table, and that row passes any test that all rows pass
pub record IsMark (p : List ℕ × Punct → Bool) (text : List ℕ) : Type 0 where
  pub row : List ℕ × Punct
  pub same : row.0 ≡ text
  pub passes : p row ≡ true

pub mark_row : (p : List ℕ × Punct → Bool) (text : List ℕ) → list_all p marks ≡ true → is_some (mark_of text) ≡ true → IsMark p text
mark_row p text all e = at (find (λ m. bytes_eq m.0 text) marks) refl e
  where
    at : (found : Option (List ℕ × Punct)) → find (λ m. bytes_eq m.0 text) marks ≡ found → is_some (option_map (λ m. m.1) found) ≡ true → IsMark p text
    at (Some m) h f = let t = find_passes p (λ m. bytes_eq m.0 text) marks m all h in record { row = m; same = (bytes_eq-Decides m.0 text).0 t.1; passes = t.0 }
    at None h f = absurd (cc f)

-- ---- what a spelling begins with

-- the first byte of a spelling is no blank and no `#`
pub plain_front : (a : ℕ) (rest : List ℕ) → is_spelling (a ∷ rest) ≡ true → (is_blank a ≡ false) × ((a == 35) ≡ false)
unfolding is_spelling
plain_front a rest e =
    ⊎_elim word (λ f. ⊎_elim number (λ g. ⊎_elim (literal single_quote refl) (λ h. ⊎_elim (literal double_quote refl) mark (either _ _ h)) (either _ _ g)) (either _ _ f)) (either _ _ e)
  where
    word : is_word (a ∷ rest) ≡ true → (is_blank a ≡ false) × ((a == 35) ≡ false)
    word h = let letter = (both (is_nondigit a) _ h).0 in (grind (arith, nat_tests), grind (arith, nat_tests))

    begins : (more : List ℕ) → begins_number (a ∷ more) ≡ true → (is_blank a ≡ false) × ((a == 35) ≡ false)
    begins [] h = (grind (arith, nat_tests), grind (arith, nat_tests))
    begins (b ∷ more) h = (grind (arith, nat_tests), grind (arith, nat_tests))

    number : is_number_run (a ∷ rest) ≡ true → (is_blank a ≡ false) × ((a == 35) ≡ false)
    number h = begins rest (both (begins_number (a ∷ rest)) _ h).0

    literal : (quote : ℕ) → (quote == single_quote || quote == double_quote) ≡ true → is_literal quote (a ∷ rest) ≡ true → (is_blank a ≡ false) × ((a == 35) ≡ false)
    literal quote q h = let first = (both (a == quote) _ (both (nat_le 2 (length (a ∷ rest))) _ h).1).0 in (grind (arith, nat_tests), grind (arith, nat_tests))

    mark : is_some (mark_of (a ∷ rest)) ≡ true → (is_blank a ≡ false) × ((a == 35) ≡ false)
    mark h =
        let m = mark_row is_plain_mark (a ∷ rest) marks_are_plain h in
        let front : is_plain_front (a ∷ rest) ≡ true = subst (λ text. is_plain_front text ≡ true) m.same (both (is_plain_front m.row.0) _ m.passes).0 in
        (grind (arith, nat_tests), grind (arith, nat_tests))
