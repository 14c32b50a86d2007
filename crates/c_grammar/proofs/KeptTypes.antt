-- The readings of specs keep their answers, where those within the next lower budget do.
use Rattle.std.proofs.Common.{◌≡◌, ℕ, zero, suc, ◌<◌, ◌≤◌, Bool, true, false, ◌&&◌, ◌||◌, not, List, [], ◌∷◌, length, if◌then◌else◌, refl, sym, ap, ◌∙◌, arith, codes, bytes_eq, true≢false}
use Rattle.c_lexer.specs.declared.token.Punct.TheVariants.{LeftBrace, RightBrace}
use Rattle.c_lexer.specs.declared.token.Token.{Token}
use Rattle.c_syntax.specs.declared.kind.SynKind.{SynKind}
use Rattle.c_syntax.specs.declared.kind.SynKind.TheVariants as kind
use Rattle.c_syntax.specs.Trees.{Tree, Forest, ◌then◌, one}
use Rattle.c_grammar.specs.Vocabulary.{Place, word, is_identifier, is_type_word, is_storage_word}
use Rattle.c_grammar.specs.Scopes.{Names, is_typedef_name, says_type, after}
use Rattle.c_grammar.specs.Answers.{Answer, found, and_then, Ahead, ahead, ahead_by}
use Rattle.c_grammar.specs.Reading.{Reader, Goal, Rows, begins_specifier, body_in, tagged_by, tag_by, specifier_by, specifier_in, specifier_list_in, specifiers_in, specs_first}
use Rattle.c_grammar.proofs.SoundSteps.{IsAhead, is_nothing, is_mark, is_word, ahead_is, said}
use Rattle.c_grammar.proofs.SoundExpressions.{IsSound}
use Rattle.c_grammar.proofs.SoundTypes.{specifier_sound}
use Rattle.c_grammar.proofs.KeptSteps.{Keeps, keeps_same, keeps_less, keeps_then, keeps_lower, keeps_fit, keeps_fits, keeps_here, keeps_no_token, keeps_at_end, all_found, all_wrong, inside, keeps_at, behind_if, keeps_if}
use Rattle.c_grammar.proofs.KeptFirst.{keeps_if_specifier, keeps_expect}
use Rattle.c_grammar.proofs.KeptExpressions.{IsKept}
use Rattle.c_grammar.proofs.KeptCounters.{then_same, specifier_length}

module _ (d : ℕ) (r : Reader) (sound : IsSound d r) (kept : IsKept d r) where
  body_kept : (k : SynKind) (row : Rows) (names : Names) (tag : List ℕ) (at : Place) (rest : List Token) → Keeps 0 (λ c. body_in d r k row names tag at c) rest
  unfolding body_in
  body_kept k row names tag at rest = keeps_fit _ _ (λ le. keeps_less (
      keeps_then (kept.trees row names rest) (λ ts behind _.
      keeps_expect RightBrace behind (λ end. keeps_here))))

  tagged_kept : (k : SynKind) (row : Rows) (names : Names) (tag : List ℕ) (at : Place) {rest : List Token} {h : Ahead} → IsAhead rest h
      → Keeps 1 (λ c. tagged_by d r k row names tag at c (ahead c)) rest
  unfolding tagged_by ahead ahead_by
  tagged_kept k row names tag at is_nothing = keeps_at_end _ refl
  tagged_kept k row names tag at (is_mark {p = LeftBrace} {rest = behind}) = keeps_at (inside (body_kept k row names tag at behind))
  tagged_kept k row names tag at _ = keeps_at (all_found _ (λ c. refl))

  tag_kept : (k : SynKind) (row : Rows) (names : Names) (at : Place) {rest : List Token} {h : Ahead} → IsAhead rest h
      → Keeps 1 (λ c. tag_by d r k row names at c (ahead c)) rest
  unfolding tag_by ahead ahead_by
  tag_kept k row names at is_nothing = keeps_no_token refl
  tag_kept k row names at (is_word {text = tag} {rest = behind}) = keeps_at (behind_if (is_identifier tag)
      (λ e. inside (keeps_less (tagged_kept k row names tag at (ahead_is behind))))
      (λ e. all_wrong (λ c. refl)))
  tag_kept k row names at (is_mark {p = LeftBrace} {rest = behind}) = keeps_at (inside (body_kept k row names [] at behind))
  tag_kept k row names at _ = keeps_at (all_wrong (λ c. refl))

  specifier_kept_by : (typed : Bool) (names : Names) {ts : List Token} {h : Ahead} → IsAhead ts h → Keeps 1 (λ c. specifier_by d r typed names c (ahead c)) ts
  unfolding specifier_by ahead ahead_by
  specifier_kept_by typed names is_nothing = keeps_no_token refl
  specifier_kept_by typed names (is_word {text = text} {at = at} {rest = rest}) = keeps_at (
      behind_if (is_type_word text || is_storage_word text) (λ _. inside (keeps_fit _ _ (λ le. keeps_here)))
      (λ _. behind_if (bytes_eq text (codes "struct")) (λ _. inside (keeps_fit _ _ (λ le. keeps_less (tag_kept kind.StructSpec Rows.members names at (ahead_is rest)))))
      (λ _. behind_if (bytes_eq text (codes "enum")) (λ _. inside (keeps_fit _ _ (λ le. keeps_less (tag_kept kind.EnumSpec Rows.enumerators names at (ahead_is rest)))))
      (λ _. behind_if (not typed && (is_identifier text && is_typedef_name names text)) (λ _. inside (keeps_fit _ _ (λ le. keeps_here)))
      (λ _. all_wrong (λ c. refl))))))
  specifier_kept_by typed names _ = keeps_at (all_wrong (λ c. refl))

  pub specifier_kept : (typed : Bool) (names : Names) (ts : List Token) → Keeps 1 (specifier_in d r typed names) ts
  unfolding specifier_in
  specifier_kept typed names ts = specifier_kept_by typed names (ahead_is ts)

  -- behind a word that is a specifier
  specifier_word_kept : (text : List ℕ) → is_type_word text || is_storage_word text ≡ true → 1 ≤ d → (names : Names) (at : Place) (ts : List Token)
      → Keeps 1 (λ c. specifier_in d r false names (word text at ∷ c)) ts
  unfolding specifier_in specifier_by ahead ahead_by
  specifier_word_kept text e le names at ts = keeps_if (is_type_word text || is_storage_word text)
      (λ _. keeps_fits _ _ le keeps_here)
      (λ f. absurd (true≢false (sym e ∙ f)))

  -- ---- specifiers in a row

  shorter : (typed : Bool) (names : Names) (ts b : List Token) (t : Tree) → specifier_in d r typed names ts ≡ found t b → length b < length ts
  shorter typed names ts b t e = let g = said t b (specifier_sound d r sound typed names ts) e in specifier_length g.holds

  list_counted : (k n : ℕ) (typed : Bool) (names : Names) (ts : List Token)
      → length ts < k
      → length ts < n
      → specifier_list_in d r k typed names ts ≡ specifier_list_in d r n typed names ts
  unfolding specifier_list_in
  list_counted zero n typed names ts lt ln = absurd (omega (arith, lt))
  list_counted (suc k) zero typed names ts lt ln = absurd (omega (arith, ln))
  list_counted (suc k) (suc n) typed names ts lt ln = then_same (specifier_in d r typed names ts) (λ t b e.
      ap (λ x. if begins_specifier (typed || says_type t) (after names t) b then and_then x (λ more end. found (t then more) end) else found (one t) b)
      (list_counted k n (typed || says_type t) (after names t) b (omega (arith, lt, shorter typed names ts b t e)) (omega (arith, ln, shorter typed names ts b t e))))

  -- one specifier, and then a row with a counter of its own
  list_step : Bool → Names → List Token → Answer Forest
  list_step typed names ts = and_then (specifier_in d r typed names ts) (λ t rest.
      if begins_specifier (typed || says_type t) (after names t) rest then
      and_then (specifier_list_in d r (suc (length rest)) (typed || says_type t) (after names t) rest) (λ more end. found (t then more) end)
      else found (one t) rest)

  list_is : (typed : Bool) (names : Names) (ts : List Token) → specifier_list_in d r (suc (length ts)) typed names ts ≡ list_step typed names ts
  unfolding specifier_list_in list_step
  list_is typed names ts = then_same (specifier_in d r typed names ts) (λ t b e.
      ap (λ x. if begins_specifier (typed || says_type t) (after names t) b then and_then x (λ more end. found (t then more) end) else found (one t) b)
      (list_counted (length ts) (suc (length b)) (typed || says_type t) (after names t) b (shorter typed names ts b t e) (omega arith)))

  list_kept : (n : ℕ) (typed : Bool) (names : Names) (ts : List Token) → length ts < n → Keeps 1 (λ c. specifier_list_in d r (suc (length c)) typed names c) ts
  unfolding list_step
  list_kept zero typed names ts lt = absurd (omega (arith, lt))
  list_kept (suc n) typed names ts lt = keeps_same (list_is typed names) (keeps_then (specifier_kept typed names ts) (λ t b e.
      keeps_if_specifier (typed || says_type t) (after names t) b
      (λ _. keeps_then (list_kept n (typed || says_type t) (after names t) b (omega (arith, lt, shorter typed names ts b t e))) (λ more end _. keeps_here))
      (λ _. keeps_here)))

  pub specifier_list_kept : (typed : Bool) (names : Names) (ts : List Token) → Keeps 1 (λ c. specifier_list_in d r (suc (length c)) typed names c) ts
  specifier_list_kept typed names ts = list_kept (suc (length ts)) typed names ts (omega arith)

  pub specifiers_kept : (names : Names) (ts : List Token) → Keeps 1 (specifiers_in d r names) ts
  unfolding specifiers_in
  specifiers_kept names ts = keeps_then (keeps_lower d (λ _. specifier_list_kept false names ts) (λ _. kept.trees (Rows.specifier_list false) names ts)) (λ more end _. keeps_here)

  pub specs_kept : (names : Names) (ts : List Token) → Keeps 1 (specs_first d r names) ts
  unfolding specs_first
  specs_kept names ts = keeps_lower d (λ _. specifiers_kept names ts) (λ _. kept.tree Goal.specifiers names ts (omega arith))

  -- ---- behind the word `void`

  pub specifier_list_void_kept : (names : Names) (at : Place) (ts : List Token) → 1 ≤ d
      → Keeps 1 (λ c. specifier_list_in d r (suc (length (word (codes "void") at ∷ c))) false names (word (codes "void") at ∷ c)) ts
  unfolding list_step
  specifier_list_void_kept names at ts le = keeps_same (λ c. list_is false names (word (codes "void") at ∷ c)) (
      keeps_then (specifier_word_kept (codes "void") refl le names at ts) (λ t b _.
      keeps_if_specifier (says_type t) (after names t) b
      (λ _. keeps_then (specifier_list_kept (says_type t) (after names t) b) (λ more end _. keeps_here))
      (λ _. keeps_here)))

  pub specifiers_void_kept : (names : Names) (at : Place) (ts : List Token) → 2 ≤ d → Keeps 1 (λ c. specifiers_in d r names (word (codes "void") at ∷ c)) ts
  unfolding specifiers_in
  specifiers_void_kept names at ts le = keeps_then (keeps_lower d (λ z. absurd (omega (arith, z, le))) (λ _. kept.void_list names at ts le)) (λ more end _. keeps_here)

  pub specs_void_kept : (names : Names) (at : Place) (ts : List Token) → 3 ≤ d → Keeps 1 (λ c. specs_first d r names (word (codes "void") at ∷ c)) ts
  unfolding specs_first
  specs_void_kept names at ts le = keeps_lower d (λ z. absurd (omega (arith, z, le))) (λ _. kept.void_specifiers names at ts le)
