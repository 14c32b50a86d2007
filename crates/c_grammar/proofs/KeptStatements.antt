-- The readings of statements keep their answers, where those within the next lower budget do.
use Rattle.std.proofs.Common.{◌≡◌, ℕ, ◌≤◌, false, ◌&&◌, ◌||◌, not, List, [], ◌∷◌, if◌then◌else◌, refl, ap, ◌∙◌, arith, codes, bytes_eq}
use Rattle.c_lexer.specs.declared.token.Punct.TheVariants.{LeftParenthesis, RightParenthesis, LeftBrace, RightBrace, Colon, Semicolon}
use Rattle.c_lexer.specs.declared.token.Token.{Token}
use Rattle.c_syntax.specs.declared.kind.SynKind.TheVariants as kind
use Rattle.c_syntax.specs.Trees.{Tree, none, ◌then◌, two, three, plain_node}
use Rattle.c_grammar.specs.Vocabulary.{Place, word, start_of}
use Rattle.c_grammar.specs.Scopes.{Names, opened, after}
use Rattle.c_grammar.specs.Derivation.{ends_open}
use Rattle.c_grammar.specs.Answers.{Answer, found, and_then, Ahead, ahead, ahead_by}
use Rattle.c_grammar.specs.Fronts.{first}
use Rattle.c_grammar.specs.Reading.{Reader, Goal, Rows, begins_with_mark, begins_with_word, behind_one, body_by, optional_expression_in, in_parentheses_then, if_in, while_in, do_in, for_behind, for_in, switch_in, label_by, label_in, return_in, expression_statement_in, keyword_by, statement_by, statement_in}
use Rattle.c_grammar.proofs.SoundSteps.{IsAhead, is_nothing, is_mark, is_word, ahead_is, mark_split, word_split, both_true}
use Rattle.c_grammar.proofs.SoundExpressions.{IsSound}
use Rattle.c_grammar.proofs.FrontSteps.{same_start}
use Rattle.c_grammar.proofs.KeptSteps.{Keeps, keeps_as, keeps_less, keeps_then, keeps_lower, keeps_fit, keeps_here, keeps_token, keeps_end, keeps_no_token, Behind, all_wrong, inside, keeps_at, behind_it, behind_if, keeps_if_first, keeps_behind}
use Rattle.c_grammar.proofs.KeptFirst.{keeps_if_specifier, keeps_if_mark, keeps_expect, keeps_expect_word, mark_first_decides, word_first_decides}
use Rattle.c_grammar.proofs.KeptExpressions.{IsKept, expression_kept}
use Rattle.c_grammar.proofs.KeptDeclarators.{keeps_any}

semicolon_or_parenthesis : (a b : List Token) → first a ≡ first b
    → begins_with_mark Semicolon a || begins_with_mark RightParenthesis a ≡ begins_with_mark Semicolon b || begins_with_mark RightParenthesis b
semicolon_or_parenthesis a b h =
    ap (λ v. v || begins_with_mark RightParenthesis a) (mark_first_decides Semicolon a b h)
    ∙ ap (λ v. begins_with_mark Semicolon b || v) (mark_first_decides RightParenthesis a b h)

module _ (d : ℕ) (r : Reader) (sound : IsSound d r) (kept : IsKept d r) where
  body_kept_by : (names : Names) {ts : List Token} {h : Ahead} → IsAhead ts h → Keeps 1 (λ c. body_by d r names c (ahead c)) ts
  unfolding body_by ahead ahead_by
  body_kept_by names is_nothing = keeps_no_token refl
  body_kept_by names (is_mark {p = LeftBrace}) = keeps_at (inside (keeps_fit _ _ (λ le. keeps_less (
      keeps_then (kept.trees Rows.block_items _ _) (λ items behind _.
      keeps_expect RightBrace behind (λ end. keeps_here))))))
  body_kept_by names _ = keeps_at (all_wrong (λ c. refl))

  pub body_kept : (names : Names) (ts : List Token) → Keeps 1 (λ c. body_by d r names c (ahead c)) ts
  body_kept names ts = body_kept_by names (ahead_is ts)

  pub optional_expression_kept : 1 ≤ d → (names : Names) (ts : List Token) → Keeps 1 (optional_expression_in d r names) ts
  unfolding optional_expression_in
  optional_expression_kept le names ts = keeps_if_first (λ c. begins_with_mark Semicolon c || begins_with_mark RightParenthesis c) semicolon_or_parenthesis
      (λ _. keeps_any d le (keeps_as
      (λ a h. ap (λ n. found (plain_node kind.Empty n none) a) (same_start a ts h))
      (keeps_here {t = plain_node kind.Empty (start_of ts) none})))
      (λ _. expression_kept d r kept names ts)

  in_parentheses_kept : (names : Names) (ts : List Token) {go : Tree → List Token → Answer Tree}
      → ((x : Tree) (b : List Token) → Keeps 0 (go x) b)
      → Keeps 1 (λ c. in_parentheses_then d r names c go) ts
  unfolding in_parentheses_then
  in_parentheses_kept names ts next = keeps_expect LeftParenthesis ts (λ rest. keeps_less (
      keeps_then (kept.tree Goal.expression names rest (omega arith)) (λ x behind _.
      keeps_expect RightParenthesis behind (λ end. next x end))))

  else_kept : (names : Names) (at : Place) (x s : Tree) (end : List Token)
      → Keeps 1 (λ c. if begins_with_word (codes "else") c && not (ends_open s) then
      and_then (r.tree_of Goal.statement (after (after names x) s) (behind_one c)) (λ t last. found (plain_node kind.If at.start (three x s t)) last)
      else found (plain_node kind.If at.start (two x s)) c) end
  else_kept names at x s end = keeps_if_first (λ c. begins_with_word (codes "else") c && not (ends_open s))
      (λ a b h. ap (λ v. v && not (ends_open s)) (word_first_decides (codes "else") a b h))
      (λ e. keeps_then
      (keeps_behind {G = r.tree_of Goal.statement (after (after names x) s)} (word_split (codes "else") end (both_true e).0).1 (keeps_less (kept.tree Goal.statement _ _ (omega arith))))
      (λ t last _. keeps_here))
      (λ _. keeps_here)

  if_kept : (names : Names) (at : Place) (ts : List Token) → Keeps 1 (if_in d r names at) ts
  unfolding if_in
  if_kept names at ts = in_parentheses_kept names ts (λ x behind. keeps_less (
      keeps_then (kept.tree Goal.statement (after names x) behind (omega arith)) (λ s end _. else_kept names at x s end)))

  while_kept : (names : Names) (at : Place) (ts : List Token) → Keeps 1 (while_in d r names at) ts
  unfolding while_in
  while_kept names at ts = in_parentheses_kept names ts (λ x behind. keeps_less (
      keeps_then (kept.tree Goal.statement (after names x) behind (omega arith)) (λ s end _. keeps_here)))

  do_kept : (names : Names) (at : Place) (ts : List Token) → Keeps 1 (do_in d r names at) ts
  unfolding do_in
  do_kept names at ts = keeps_then (kept.tree Goal.statement names ts (omega arith)) (λ s behind _.
      keeps_expect_word (codes "while") behind (λ behind2. keeps_less (
      in_parentheses_kept (after names s) behind2 (λ x behind3. keeps_less (
      keeps_expect Semicolon behind3 (λ end. keeps_here))))))

  for_behind_kept : 2 ≤ d → (names : Names) (at : Place) (f : Tree) (ts : List Token) → Keeps 1 (for_behind d r names at f) ts
  unfolding for_behind
  for_behind_kept le names at f ts = keeps_then (kept.tree Goal.optional_expression (after names f) ts le) (λ x behind _.
      keeps_expect Semicolon behind (λ behind2. keeps_less (
      keeps_then (kept.tree Goal.optional_expression (after (after names f) x) behind2 le) (λ y behind3 _.
      keeps_expect RightParenthesis behind3 (λ behind4. keeps_less (
      keeps_then (kept.tree Goal.statement _ behind4 (omega arith)) (λ s end _. keeps_here)))))))

  for_kept : 2 ≤ d → (names : Names) (at : Place) (ts : List Token) → Keeps 1 (for_in d r names at) ts
  unfolding for_in
  for_kept le names at ts = keeps_expect LeftParenthesis ts (λ rest. keeps_less (keeps_if_specifier false (opened names) rest
      (λ _. keeps_then (kept.tree Goal.declaration (opened names) rest (omega arith)) (λ f behind _. for_behind_kept le (opened names) at f behind))
      (λ _. keeps_then (kept.tree Goal.optional_expression (opened names) rest le) (λ f behind _.
      keeps_expect Semicolon behind (λ behind2. keeps_less (for_behind_kept le (opened names) at f behind2))))))

  switch_kept : (names : Names) (at : Place) (ts : List Token) → Keeps 1 (switch_in d r names at) ts
  unfolding switch_in
  switch_kept names at ts = in_parentheses_kept names ts (λ x behind. keeps_less (
      keeps_expect LeftBrace behind (λ behind2. keeps_less (
      keeps_then (kept.trees Rows.groups (opened (after names x)) behind2) (λ items behind3 _.
      keeps_expect RightBrace behind3 (λ end. keeps_here))))))

  return_kept : (names : Names) (at : Place) (ts : List Token) → Keeps 1 (return_in d r names at) ts
  unfolding return_in
  return_kept names at ts = keeps_if_mark Semicolon ts
      (λ e. keeps_behind {G = λ c. found (plain_node kind.Return at.start none) c} (mark_split Semicolon ts e).1 keeps_here)
      (λ _. keeps_then (kept.tree Goal.expression names ts (omega arith)) (λ x behind _.
      keeps_expect Semicolon behind (λ end. keeps_here)))

  expression_statement_kept : (names : Names) (ts : List Token) → Keeps 1 (expression_statement_in d r names) ts
  unfolding expression_statement_in
  expression_statement_kept names ts = keeps_then
      (keeps_lower d (λ _. expression_kept d r kept names ts) (λ _. kept.tree Goal.expression names ts (omega arith)))
      (λ x behind _. keeps_expect Semicolon behind (λ end. keeps_here))

  keyword_kept : (names : Names) (text : List ℕ) (at : Place) (rest : List Token) → Behind (word text at) (λ c. keyword_by d r names (word text at ∷ c) text at c) rest
  unfolding keyword_by
  keyword_kept names text at rest =
      behind_if (bytes_eq text (codes "if")) (λ _. inside (keeps_fit _ _ (λ le. keeps_less (if_kept names at rest))))
      (λ _. behind_if (bytes_eq text (codes "while")) (λ _. inside (keeps_fit _ _ (λ le. keeps_less (while_kept names at rest))))
      (λ _. behind_if (bytes_eq text (codes "do")) (λ _. inside (keeps_fit _ _ (λ le. keeps_less (do_kept names at rest))))
      (λ _. behind_if (bytes_eq text (codes "for")) (λ _. inside (keeps_fit _ _ (λ le. keeps_less (for_kept le names at rest))))
      (λ _. behind_if (bytes_eq text (codes "return")) (λ _. inside (keeps_fit _ _ (λ le. keeps_less (return_kept names at rest))))
      (λ _. behind_if (bytes_eq text (codes "break")) (λ _. inside (keeps_fit _ _ (λ le. keeps_less (keeps_expect Semicolon rest (λ end. keeps_here)))))
      (λ _. behind_if (bytes_eq text (codes "continue")) (λ _. inside (keeps_fit _ _ (λ le. keeps_less (keeps_expect Semicolon rest (λ end. keeps_here)))))
      (λ _. behind_if (bytes_eq text (codes "switch")) (λ _. inside (keeps_fit _ _ (λ le. keeps_less (switch_kept names at rest))))
      (λ _. behind_it (expression_statement_kept names (word text at ∷ rest))))))))))

  statement_kept_by : (names : Names) {ts : List Token} {h : Ahead} → IsAhead ts h → Keeps 1 (λ c. statement_by d r names c (ahead c)) ts
  unfolding statement_by ahead ahead_by
  statement_kept_by names is_nothing = keeps_end (expression_statement_kept names []) refl
  statement_kept_by names (is_mark {p = LeftBrace}) = keeps_token (body_kept (opened names) _) (λ c. refl)
  statement_kept_by names (is_mark {p = Semicolon}) = keeps_at (inside (keeps_fit _ _ (λ le. keeps_here)))
  statement_kept_by names (is_word {text = text} {at = at} {rest = rest}) = keeps_at (keyword_kept names text at rest)
  statement_kept_by names _ = keeps_token (expression_statement_kept names _) (λ c. refl)

  pub statement_kept : (names : Names) (ts : List Token) → Keeps 1 (statement_in d r names) ts
  unfolding statement_in
  statement_kept names ts = statement_kept_by names (ahead_is ts)

  label_kept_by : (names : Names) {ts : List Token} {h : Ahead} → IsAhead ts h → Keeps 1 (λ c. label_by d r names c (ahead c)) ts
  unfolding label_by ahead ahead_by
  label_kept_by names is_nothing = keeps_no_token refl
  label_kept_by names (is_word {text = text} {rest = rest}) = keeps_at (
      behind_if (bytes_eq text (codes "case")) (λ _. inside (keeps_fit _ _ (λ le. keeps_less (
      keeps_then (kept.tree Goal.conditional names rest (omega arith)) (λ x behind _.
      keeps_expect Colon behind (λ end. keeps_here))))))
      (λ _. behind_if (bytes_eq text (codes "default")) (λ _. inside (keeps_fit _ _ (λ le. keeps_less (keeps_expect Colon rest (λ end. keeps_here)))))
      (λ _. all_wrong (λ c. refl))))
  label_kept_by names _ = keeps_at (all_wrong (λ c. refl))

  pub label_kept : (names : Names) (ts : List Token) → Keeps 1 (label_in d r names) ts
  unfolding label_in
  label_kept names ts = label_kept_by names (ahead_is ts)
