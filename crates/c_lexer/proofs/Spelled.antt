-- What is spelled as a token passes the test, and what passes the test is spelled so.
use Rattle.std.proofs.Common.{◌≡◌, ℕ, ◌<◌, ◌≤◌, ⊎_elim, Bool, true, false, List, ◌||◌, Option, Some, None, is_some, refl, sym, ap, ◌∙◌, length, take}
use Rattle.c_lexer.specs.declared.token.Punct.{Punct}
use Rattle.c_lexer.specs.Literals.{single_quote, double_quote}
use Rattle.c_lexer.specs.Numbers.{is_number_run}
use Rattle.c_lexer.specs.Readings.{mark_of}
use Rattle.c_lexer.specs.Spellings.{is_word, IsSpelling, as_word, as_number_run, as_character, as_string, as_punctuator, IsLongest}
use Rattle.c_lexer.proofs.Fronts.{either}
use Rattle.c_lexer.proofs.MarkTexts.{mark_read, mark_has_text}
use Rattle.c_lexer.proofs.Tests.{is_literal, is_spelling, literal_passes, passes_literal}

or_left : (a b : Bool) → a ≡ true → (a || b) ≡ true
or_left a b e = ap (λ t. t || b) e

or_right : (a b : Bool) → b ≡ true → (a || b) ≡ true
or_right true b e = refl
or_right false b e = e

pub passes : (text : List ℕ) → IsSpelling text → is_spelling text ≡ true
unfolding is_spelling
passes _ (as_word text h) = or_left _ _ h
passes _ (as_number_run text h) = or_right (is_word text) _ (or_left _ _ h)
passes _ (as_character text inside l) = or_right (is_word text) _ (or_right (is_number_run text) _ (or_left _ _ (literal_passes single_quote inside text l)))
passes _ (as_string text inside l) = or_right (is_word text) _ (or_right (is_number_run text) _ (or_right (is_literal single_quote text) _ (or_left _ _ (literal_passes double_quote inside text l))))
passes _ (as_punctuator text mark e) =
    or_right (is_word text) _ (or_right (is_number_run text) _ (or_right (is_literal single_quote text) _ (or_right (is_literal double_quote text) _ (ap is_some (ap mark_of e ∙ mark_read mark)))))

pub is_spelled : (text : List ℕ) → is_spelling text ≡ true → IsSpelling text
unfolding is_spelling
is_spelled text e =
    ⊎_elim (as_word text) (λ f. ⊎_elim (as_number_run text) (λ g. ⊎_elim character (λ h. ⊎_elim string (mark (mark_of text) refl) (either _ _ h)) (either _ _ g)) (either _ _ f)) (either _ _ e)
  where
    character : is_literal single_quote text ≡ true → IsSpelling text
    character h = let l = passes_literal single_quote text h in as_character text l.0 l.1

    string : is_literal double_quote text ≡ true → IsSpelling text
    string h = let l = passes_literal double_quote text h in as_string text l.0 l.1

    mark : (m : Option Punct) → mark_of text ≡ m → is_some m ≡ true → IsSpelling text
    mark (Some m) g h = as_punctuator text m (mark_has_text text m g)
    mark None g h = absurd (cc h)

-- the longest spelling by the test
pub longest_by_test : (text : List ℕ) (n : ℕ) → 0 < n → n ≤ length text → is_spelling (take n text) ≡ true
    → ((m : ℕ) → n < m → m ≤ length text → is_spelling (take m text) ≡ false) → IsLongest text n
longest_by_test text n some within spelled longest = record {
  some = some;
  within = within;
  spelled = is_spelled (take n text) spelled;
  longest = λ m lt le s. absurd (cc (sym (longest m lt le) ∙ passes (take m text) s));
}
