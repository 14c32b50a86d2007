-- Parameters that begin with `void` and are not that word alone go on behind it.
use Rattle.std.proofs.Common.{◌≡◌, ℕ, suc, ◌<◌, ◌≤◌, ◌⊎◌, inl, inr, Bool, true, false, List, [], ◌∷◌, length, refl, sym, ap, ◌∙◌, subst, true≢false, codes, arith, ◌||◌}
use Rattle.std.proofs.lemmas.Slice.Eq.{bytes_eq-Decides}
use Rattle.c_lexer.specs.declared.token.Punct.TheVariants.{RightParenthesis, LeftParenthesis, LeftBracket, Star, Comma}
use Rattle.c_lexer.specs.declared.token.Token.{Token}
use Rattle.c_lexer.specs.declared.token.TokenKind.{TokenKind}
use Rattle.c_lexer.specs.declared.token.TokenKind.TheVariants as token
use Rattle.c_syntax.specs.declared.kind.SynKind.TheVariants as kind
use Rattle.c_syntax.specs.Trees.{Tree, Forest, none, one, two, text_node, plain_node, forest_height}
use Rattle.c_grammar.specs.Vocabulary.{Place, word, is_identifier}
use Rattle.c_grammar.specs.Scopes.{Names, after_parameter}
use Rattle.c_grammar.specs.Derivation as rule
use Rattle.c_grammar.specs.Derivation.{is_lone_void, no_name}
use Rattle.c_grammar.specs.Answers.{Answer, found, deep, and_then, fit, ahead, ahead_by, Ahead, mark_ahead, word_ahead}
use Rattle.c_grammar.specs.Reading.{level, read, goal_in, rows_in, lower, if_any, begins_specifier_by, begins_with_mark, begins_with_word, behind_one, needs_name, specifier_by, specifier_in, specifier_list_in, specifiers_in, specs_first, parameter_in, declared_in, declared_by, undeclared_in, declared_suffixes, declared_suffix_by, listed, goes_on_behind_void, goes_on_behind_void_by, has_name, begins_with_mark_by, below}
use Rattle.c_grammar.proofs.Budgets.{Finds, order}
use Rattle.c_grammar.proofs.Found.Claims.{CompleteRow}

first_of_neither : (p q : Bool) → p || q ≡ false → p ≡ false
first_of_neither true q e = absurd (true≢false e)
first_of_neither false q e = refl

second_of_neither : (p q : Bool) → p || q ≡ false → q ≡ false
second_of_neither true q e = absurd (true≢false e)
second_of_neither false q e = e

-- ---- by the answer

forest_of : Answer Forest → Forest
forest_of (found ts rest) = ts
forest_of other = none

is_deep : Answer Forest → Bool
is_deep (deep rest) = true
is_deep other = false

-- what is found within a budget is what has been found
same_forest : (answer : Answer Forest) (d h : ℕ) (ts us : Forest) (b c : List Token) → Finds answer d h ts b → answer ≡ found us c → ts ≡ us
unfolding forest_of is_deep
same_forest answer d h ts us b c f e = at (order h d)
  where
    at : (h ≤ d) ⊎ (d < h) → ts ≡ us
    at (inl le) = ap forest_of (sym (f.low le) ∙ e)
    at (inr lt) = let far = f.high lt in absurd (true≢false (ap is_deep (sym far.too_deep ∙ e)))

-- ---- behind `void`

module _ (names : Names) (at : Place) where
  abbrev pub void_tokens : List Token → List Token
  void_tokens ts = word (codes "void") at ∷ ts

  void_tree : List Token → Tree
  void_tree ts = plain_node kind.Param at.start (two (plain_node kind.Specs at.start (one (text_node kind.Word (codes "void") at.start none))) (no_name ts))

  -- within a budget of 2 no parameter fits that begins so
  void_deep : (k : ℕ) (ts : List Token) → listed 2 (below 2) (parameter_in 2 (below 2)) after_parameter (suc k) names (void_tokens ts) ≡ deep ts
  unfolding read level goal_in rows_in lower if_any specifier_by specifier_in specifier_list_in specifiers_in specs_first parameter_in listed and_then fit ahead ahead_by
  void_deep k ts = refl

  -- within a budget of 3 the word alone is one, where nothing goes on behind it
  void_read : (k : ℕ) (ts : List Token) → goes_on_behind_void ts ≡ false
      → listed 3 (below 3) (parameter_in 3 (below 3)) after_parameter (suc k) names (void_tokens ts) ≡ found (one (void_tree ts)) ts
  unfolding void_tree goes_on_behind_void_by read level goal_in rows_in lower if_any begins_specifier_by needs_name has_name specifier_by specifier_in specifier_list_in specifiers_in specs_first parameter_in declared_in declared_by undeclared_in declared_suffixes declared_suffix_by listed and_then fit ahead ahead_by
  void_read k [] e = refl
  void_read k (t ∷ rest) e = by t.kind e
    where
      at_token : TokenKind → Token
      at_token k = record { kind = k; start = t.start; end = t.end }

      by : (kind : TokenKind) → goes_on_behind_void (at_token kind ∷ rest) ≡ false
          → listed 3 (below 3) (parameter_in 3 (below 3)) after_parameter (suc k) names (void_tokens (at_token kind ∷ rest)) ≡ found (one (void_tree (at_token kind ∷ rest))) (at_token kind ∷ rest)
      by (token.Punct Star) e = absurd (true≢false e)
      by (token.Punct LeftParenthesis) e = absurd (true≢false e)
      by (token.Punct LeftBracket) e = absurd (true≢false e)
      by (token.Punct Comma) e = absurd (true≢false e)
      by (token.Punct p) e = refl
      by (token.Word text) e =
          let place : Place = record { start = t.start; end = t.end } in
          let typed : begins_specifier_by true [] (word_ahead text place rest) ≡ false = first_of_neither _ (is_identifier text) e in
          let named : is_identifier text ≡ false = second_of_neither (begins_specifier_by true [] (word_ahead text place rest)) _ e in
          rw (typed, named) refl
      by (token.Int value type) e = refl
      by (token.Char value) e = refl
      by (token.Str bytes) e = refl

-- ---- tokens that begin so

word_token : (t : Token) (rest : List Token) → begins_with_word (codes "void") (t ∷ rest) ≡ true
    → t ≡ word (codes "void") (record { start = t.start; end = t.end })
unfolding ahead ahead_by
word_token t rest e = by t.kind refl e
  where
    by : (k : TokenKind) → t.kind ≡ k → begins_with_word (codes "void") (record { kind = k; start = t.start; end = t.end } ∷ rest) ≡ true
        → t ≡ word (codes "void") (record { start = t.start; end = t.end })
    by (token.Word text) same f = ap (λ k. record { kind = k; start = t.start; end = t.end }) (same ∙ ap (λ p. token.Word p) (sym ((bytes_eq-Decides (codes "void") text).0 f)))
    by other same f = absurd (true≢false (sym f))

-- parameters that are not `void` alone and begin with it go on behind it
pub record GoesOn (ts : List Token) (ps : Forest) : Type 0 where
  pub goes_on : goes_on_behind_void ts ≡ true
  pub goes_no_end : begins_with_mark RightParenthesis ts ≡ false
  pub high : 3 ≤ forest_height ps

module _ (names : Names) (at : Place) (ts c : List Token) (ps : Forest) (row : CompleteRow names rule.parameters (void_tokens names at ts) c ps)
    (ends : begins_with_mark RightParenthesis c ≡ true) (other : is_lone_void ps ≡ false) where
  goes_on_there : goes_on_behind_void ts ≡ true
  unfolding void_tree
  goes_on_there = by (goes_on_behind_void ts) refl
    where
      by : (q : Bool) → goes_on_behind_void ts ≡ q → q ≡ true
      by true e = refl
      by false e =
          let f = row ends 3 (suc (length (void_tokens names at ts))) (omega arith) in
          let same = same_forest _ 3 (forest_height ps) ps (one (void_tree names at ts)) c ts f (void_read names at (length (void_tokens names at ts)) ts e) in
          absurd (true≢false (ap is_lone_void (sym same) ∙ other))

  high_there : 3 ≤ forest_height ps
  unfolding is_deep
  high_there = by (order (forest_height ps) 2)
    where
      by : (forest_height ps ≤ 2) ⊎ (2 < forest_height ps) → 3 ≤ forest_height ps
      by (inr lt) = lt
      by (inl le) =
          let f = row ends 2 (suc (length (void_tokens names at ts))) (omega arith) in
          absurd (true≢false (ap is_deep (sym (void_deep names at (length (void_tokens names at ts)) ts) ∙ f.low le)))

  no_end : (ts : List Token) → goes_on_behind_void ts ≡ true → begins_with_mark RightParenthesis ts ≡ false
  unfolding goes_on_behind_void_by
  no_end ts e = by (ahead ts) e
    where
      by : (h : Ahead) → goes_on_behind_void_by h ≡ true → begins_with_mark_by RightParenthesis h ≡ false
      by (mark_ahead RightParenthesis at rest) e = absurd (true≢false (sym e))
      by (mark_ahead p at rest) e = refl
      by other e = refl

  pub void_goes_on : GoesOn ts ps
  void_goes_on = record { goes_on = goes_on_there; goes_no_end = no_end ts goes_on_there; high = high_there }

pub goes_on_behind : (names : Names) (b c : List Token) (ps : Forest) → CompleteRow names rule.parameters b c ps
    → begins_with_mark RightParenthesis c ≡ true → is_lone_void ps ≡ false
    → begins_with_word (codes "void") b ≡ true
    → GoesOn (behind_one b) ps
unfolding ahead ahead_by
goes_on_behind names [] c ps row ends other e = absurd (true≢false (sym e))
goes_on_behind names (t ∷ ts) c ps row ends other e =
    void_goes_on names (record { start = t.start; end = t.end }) ts c ps (subst (λ x. CompleteRow names rule.parameters (x ∷ ts) c ps) (word_token t ts e) row) ends other
