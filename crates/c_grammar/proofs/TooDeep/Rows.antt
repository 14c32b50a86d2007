-- Where a row of parts with commas between goes too deep, the tokens before the place are completed, where each part's are.
use Rattle.std.proofs.Common.{ℕ, zero, suc, List, [], ◌∷◌}
use Rattle.c_lexer.specs.declared.token.Punct.TheVariants.{Comma, RightBrace}
use Rattle.c_lexer.specs.declared.token.Token.{Token}
use Rattle.c_syntax.specs.Trees.{Tree, Forest, ◌then◌, one}
use Rattle.c_grammar.specs.Vocabulary.{Place, mark}
use Rattle.c_grammar.specs.Scopes.{Names, after}
use Rattle.c_grammar.specs.Fronts.{IsFront}
use Rattle.c_grammar.specs.Answers.{Answer}
use Rattle.c_grammar.specs.Reading.{Reader, begins_with_mark, behind_one, listed, listed_in_braces}
use Rattle.c_grammar.proofs.SoundSteps.{Says, Is}
use Rattle.c_grammar.proofs.TooDeep.Steps.{Has, has, Cuts, cuts_found, cuts_wrong, cuts_if, cuts_then, cuts_last, cuts_behind_mark}

module _ (d : ℕ) (r : Reader) where
  -- parts with a comma between
  module _ (R : Names → List Token → List Token → Tree → Type 0) (L : Names → List Token → List Token → Forest → Type 0)
      (item : Names → List Token → Answer Tree) (next : Names → Tree → Names)
      (each : (names : Names) (ts : List Token) → Cuts (Has (R names)) ts (item names ts))
      (sound : (names : Names) (ts : List Token) → Says (Is (suc d) (R names) ts) (item names ts))
      (front : (names : Names) (a b : List Token) (t : Tree) → R names a b t → IsFront (λ x y. R names x y t) a b)
      (last : (names : Names) (a b : List Token) (t : Tree) → R names a b t → L names a b (one t))
      (more : (names : Names) (a b c : List Token) (at : Place) (t : Tree) (ts : Forest)
      → R names a (mark Comma at ∷ b) t → L (next names t) b c ts → L names a c (t then ts)) where
    pub listed_cuts : (k : ℕ) (names : Names) (ts : List Token) → Cuts (Has (L names)) ts (listed d r item next k names ts)
    unfolding listed
    listed_cuts zero names ts = cuts_wrong
    listed_cuts (suc k) names ts = cuts_then {S = R names} (each names ts) (sound names ts) (λ t b g. front names ts b t g.holds)
        [] (λ z h. h) (λ z _ a t g. has _ (last names a z t g))
        (λ t rest g. cuts_if (begins_with_mark Comma rest)
        (λ e. cuts_behind_mark Comma rest e (λ at.
        cuts_last {S = L (next names t)} (listed_cuts k (next names t) (behind_one rest))
        [] (λ z h. h) (λ z _ c us m a p. has _ (more names a c z at t us p m))
        (λ us end. cuts_found)))
        (λ e. cuts_found))

  -- the same, where a comma may stand before the brace at the end
  module _ (R : Names → List Token → List Token → Tree → Type 0) (L : Names → List Token → List Token → Forest → Type 0)
      (item : Names → List Token → Answer Tree)
      (each : (names : Names) (ts : List Token) → Cuts (Has (R names)) ts (item names ts))
      (sound : (names : Names) (ts : List Token) → Says (Is (suc d) (R names) ts) (item names ts))
      (front : (names : Names) (a b : List Token) (t : Tree) → R names a b t → IsFront (λ x y. R names x y t) a b)
      (last : (names : Names) (a b : List Token) (t : Tree) → R names a b t → L names a b (one t))
      (more : (names : Names) (a b c : List Token) (at : Place) (t : Tree) (ts : Forest)
      → R names a (mark Comma at ∷ b) t → L (after names t) b c ts → L names a c (t then ts)) where
    pub listed_in_braces_cuts : (k : ℕ) (names : Names) (ts : List Token) → Cuts (Has (L names)) ts (listed_in_braces d r item k names ts)
    unfolding listed_in_braces
    listed_in_braces_cuts zero names ts = cuts_wrong
    listed_in_braces_cuts (suc k) names ts = cuts_then {S = R names} (each names ts) (sound names ts) (λ t b g. front names ts b t g.holds)
        [] (λ z h. h) (λ z _ a t g. has _ (last names a z t g))
        (λ t rest g. cuts_if (begins_with_mark Comma rest)
        (λ e. cuts_behind_mark Comma rest e (λ at.
        cuts_if (begins_with_mark RightBrace (behind_one rest))
        (λ _. cuts_found)
        (λ _. cuts_last {S = L (after names t)} (listed_in_braces_cuts k (after names t) (behind_one rest))
        [] (λ z h. h) (λ z _ c us m a p. has _ (more names a c z at t us p m))
        (λ us end. cuts_found))))
        (λ e. cuts_found))
