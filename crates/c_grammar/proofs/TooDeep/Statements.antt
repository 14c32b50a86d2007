-- Where a statement goes too deep, the tokens before the place are completed, where the next lower budget reads so.
use Rattle.std.proofs.Common.{ℕ, ◌≤◌, false, ◌&&◌, not, List, [], ◌∷◌, refl, codes, bytes_eq, ◌++◌}
use Rattle.c_lexer.specs.declared.token.Punct.TheVariants.{LeftParenthesis, RightParenthesis, LeftBrace, RightBrace, Colon, Semicolon}
use Rattle.c_lexer.specs.declared.token.Token.{Token}
use Rattle.c_syntax.specs.Trees.{Tree}
use Rattle.c_grammar.specs.Vocabulary.{Place, mark, word}
use Rattle.c_grammar.specs.Scopes.{Names, opened, after}
use Rattle.c_grammar.specs.Derivation as rule
use Rattle.c_grammar.specs.Derivation.{Derives, Lists, ends_open}
use Rattle.c_grammar.specs.Answers.{Answer, Ahead, ahead}
use Rattle.c_grammar.specs.Meanings.{IsBody, body_of}
use Rattle.c_grammar.specs.Reading.{Reader, Goal, Rows, begins_specifier, begins_with_word, begins_with_mark, behind_one, body_by, in_parentheses_then, if_in, while_in, do_in, for_behind, for_in, switch_in, label_by, label_in, return_in, expression_statement_in, keyword_by, statement_by, statement_in}
use Rattle.c_grammar.proofs.FirstTokens.{not_true}
use Rattle.c_grammar.proofs.SoundSteps.{IsAhead, is_mark, is_word, ahead_is, word_is, both_true}
use Rattle.c_grammar.proofs.SoundExpressions.{IsSound, expression_sound}
use Rattle.c_grammar.proofs.SoundTypes.{says_lower_tree}
use Rattle.c_grammar.proofs.SoundStatements.{block_of_body}
use Rattle.c_grammar.proofs.FrontLaw.{front_of}
use Rattle.c_grammar.proofs.TooDeep.Steps.{Has, has, Cuts, cuts_found, cuts_wrong, cuts_as, cuts_token, cuts_if, cuts_fit, cuts_lower, cuts_then, cuts_expect, cuts_expect_word, cuts_behind_word}
use Rattle.c_grammar.proofs.TooDeep.Parts.{HasCuts, cuts_tree, cuts_any_tree, cuts_trees, a_mark, a_word, a_zero, zero_conditional, zero_expression}
use Rattle.c_grammar.proofs.TooDeep.Expressions.{expression_cuts}

module _ (d : ℕ) (r : Reader) (sound : IsSound d r) (cuts : HasCuts d r) where
  abbrev Statement : Names → List Token → List Token → Type 0
  Statement names = Has (Derives names rule.statement)

  -- ---- blocks

  body_cuts_by : (names : Names) {ts : List Token} {h : Ahead} → IsAhead ts h → Cuts (Has (IsBody names)) ts (body_by d r names ts h)
  unfolding body_by
  body_cuts_by names (is_mark {p = LeftBrace} {rest = rest}) = cuts_fit _ _ (a_mark RightBrace ∷ []) (λ z _. has _ (body_of rule.no_items)) (λ k.
      cuts_token (cuts_trees d r sound cuts Rows.block_items refl names rest (a_mark RightBrace ∷ []) (λ z _. refl) (λ z _ a t g. has _ (body_of g)) (λ items behind.
      cuts_expect RightBrace behind (λ at c. cuts_found))))
  body_cuts_by names _ = cuts_wrong

  pub body_cuts : (names : Names) (ts : List Token) → Cuts (Has (IsBody names)) ts (body_by d r names ts (ahead ts))
  body_cuts names ts = body_cuts_by names (ahead_is ts)

  -- ---- an expression in parentheses, and then

  in_parentheses_cuts : {R : List Token → List Token → Type 0} (names : Names) (ts tail : List Token) {go : Tree → List Token → Answer Tree}
      → ((z : List Token) (at at2 : Place) (a : List Token) (x : Tree) → Derives names rule.expression a (mark RightParenthesis at2 ∷ (tail ++ z)) x → R (mark LeftParenthesis at ∷ a) z)
      → ((x : Tree) (b : List Token)
      → Cuts (λ b z. (at at2 : Place) (a : List Token) → Derives names rule.expression a (mark RightParenthesis at2 ∷ b) x → R (mark LeftParenthesis at ∷ a) z) b (go x b))
      → Cuts R ts (in_parentheses_then d r names ts go)
  unfolding in_parentheses_then
  in_parentheses_cuts names ts tail join next = cuts_expect LeftParenthesis ts (λ at rest.
      cuts_tree d r sound cuts Goal.expression refl names rest (a_mark RightParenthesis ∷ tail) (λ z _. refl) (λ z _ a x g. join z at _ a x g) (λ x behind.
      cuts_expect RightParenthesis behind (λ at2 c.
      cuts_as (λ b z q a g. q at at2 a g) (next x c))))

  -- ---- statements with a word in front

  if_cuts : (names : Names) (at : Place) (ts : List Token) → Cuts (λ a z. Statement names (word (codes "if") at ∷ a) z) ts (if_in d r names at ts)
  unfolding if_in
  if_cuts names at ts = in_parentheses_cuts names ts (a_mark Semicolon ∷ []) (λ z at2 at3 a x g. has _ (rule.if_then g rule.empty_statement)) (λ x b.
      cuts_tree d r sound cuts Goal.statement refl (after names x) b [] (λ z h. h) (λ z _ b s h at2 at3 a g. has _ (rule.if_then g h)) (λ s end.
      cuts_if (begins_with_word (codes "else") end && not (ends_open s))
      (λ e. cuts_behind_word (codes "else") end (both_true e).0 (λ at4.
      cuts_tree d r sound cuts Goal.statement refl (after (after names x) s) (behind_one end) [] (λ z h. h)
      (λ z _ c t i b h at2 at3 a g. has _ (rule.if_else g h (not_true (ends_open s) (both_true e).1) i))
      (λ t last. cuts_found)))
      (λ e. cuts_found)))

  while_cuts : (names : Names) (at : Place) (ts : List Token) → Cuts (λ a z. Statement names (word (codes "while") at ∷ a) z) ts (while_in d r names at ts)
  unfolding while_in
  while_cuts names at ts = in_parentheses_cuts names ts (a_mark Semicolon ∷ []) (λ z at2 at3 a x g. has _ (rule.while_do g rule.empty_statement)) (λ x b.
      cuts_tree d r sound cuts Goal.statement refl (after names x) b [] (λ z h. h) (λ z _ b s h at2 at3 a g. has _ (rule.while_do g h)) (λ s end. cuts_found))

  do_cuts : (names : Names) (at : Place) (ts : List Token) → Cuts (λ a z. Statement names (word (codes "do") at ∷ a) z) ts (do_in d r names at ts)
  unfolding do_in
  do_cuts names at ts = cuts_tree d r sound cuts Goal.statement refl names ts
      (a_word (codes "while") ∷ a_mark LeftParenthesis ∷ a_zero ∷ a_mark RightParenthesis ∷ a_mark Semicolon ∷ []) (λ z _. refl)
      (λ z _ a s g. has _ (rule.do_while g zero_expression))
      (λ s behind. cuts_expect_word (codes "while") behind (λ at2 behind2.
      in_parentheses_cuts (after names s) behind2 (a_mark Semicolon ∷ []) (λ z at3 at4 b x h a g. has _ (rule.do_while g h)) (λ x behind3.
      cuts_expect Semicolon behind3 (λ at5 end. cuts_found))))

  -- behind the first part f of `for`
  for_behind_cuts : {R : List Token → List Token → Type 0} (names : Names) (at : Place) (f : Tree) (ts : List Token) → 2 ≤ d
      → ((at3 at4 : Place) (a b c z : List Token) (x y s : Tree)
      → Derives (after names f) rule.optional_expression a (mark Semicolon at3 ∷ b) x
      → Derives (after (after names f) x) rule.optional_expression b (mark RightParenthesis at4 ∷ c) y
      → Derives (after (after (after names f) x) y) rule.statement c z s
      → R a z)
      → Cuts R ts (for_behind d r names at f ts)
  unfolding for_behind
  for_behind_cuts names at f ts le finish = cuts_any_tree d r sound cuts Goal.optional_expression refl le (after names f) ts
      (a_mark Semicolon ∷ a_mark RightParenthesis ∷ a_mark Semicolon ∷ []) (λ z _. refl)
      (λ z _ a x g. finish _ _ a _ _ z x _ _ g rule.absent rule.empty_statement)
      (λ x behind. cuts_expect Semicolon behind (λ at3 behind2.
      cuts_any_tree d r sound cuts Goal.optional_expression refl le (after (after names f) x) behind2
      (a_mark RightParenthesis ∷ a_mark Semicolon ∷ []) (λ z _. refl)
      (λ z _ b y h a g. finish at3 _ a b _ z x y _ g h rule.empty_statement)
      (λ y behind3. cuts_expect RightParenthesis behind3 (λ at4 behind4.
      cuts_tree d r sound cuts Goal.statement refl (after (after (after names f) x) y) behind4 [] (λ z h. h)
      (λ z _ c s i b h a g. finish at3 at4 a b c z x y s g h i)
      (λ s end. cuts_found)))))

  for_cuts : (names : Names) (at : Place) (ts : List Token) → 2 ≤ d → Cuts (λ a z. Statement names (word (codes "for") at ∷ a) z) ts (for_in d r names at ts)
  unfolding for_in
  for_cuts names at ts le = cuts_expect LeftParenthesis ts (λ at2 rest.
      cuts_if (begins_specifier false (opened names) rest)
      (λ _. cuts_tree d r sound cuts Goal.declaration refl (opened names) rest
      (a_mark Semicolon ∷ a_mark RightParenthesis ∷ a_mark Semicolon ∷ []) (λ z _. refl)
      (λ z _ a f g. has _ (rule.for_declaration g rule.absent rule.absent rule.empty_statement))
      (λ f behind. for_behind_cuts (opened names) at f behind le (λ at3 at4 b c e z x y s i j k a g. has _ (rule.for_declaration g i j k))))
      (λ _. cuts_any_tree d r sound cuts Goal.optional_expression refl le (opened names) rest
      (a_mark Semicolon ∷ a_mark Semicolon ∷ a_mark RightParenthesis ∷ a_mark Semicolon ∷ []) (λ z _. refl)
      (λ z _ a f g. has _ (rule.for_expression g rule.absent rule.absent rule.empty_statement))
      (λ f behind. cuts_expect Semicolon behind (λ at5 behind2.
      for_behind_cuts (opened names) at f behind2 le (λ at3 at4 b c e z x y s i j k a g. has _ (rule.for_expression g i j k))))))

  switch_cuts : (names : Names) (at : Place) (ts : List Token) → Cuts (λ a z. Statement names (word (codes "switch") at ∷ a) z) ts (switch_in d r names at ts)
  unfolding switch_in
  switch_cuts names at ts = in_parentheses_cuts names ts (a_mark LeftBrace ∷ a_mark RightBrace ∷ []) (λ z at2 at3 a x g. has _ (rule.switch_of g (rule.no_more_groups refl))) (λ x b.
      cuts_expect LeftBrace b (λ at4 rest.
      cuts_trees d r sound cuts Rows.groups refl (opened (after names x)) rest (a_mark RightBrace ∷ []) (λ z _. refl)
      (λ z _ b items h at2 at3 a g. has _ (rule.switch_of g h))
      (λ items behind. cuts_expect RightBrace behind (λ at5 end. cuts_found))))

  return_cuts : (names : Names) (at : Place) (ts : List Token) → Cuts (λ a z. Statement names (word (codes "return") at ∷ a) z) ts (return_in d r names at ts)
  unfolding return_in
  return_cuts names at ts = cuts_if (begins_with_mark Semicolon ts)
      (λ e. cuts_found)
      (λ _. cuts_tree d r sound cuts Goal.expression refl names ts (a_mark Semicolon ∷ []) (λ z _. refl) (λ z _ a x g. has _ (rule.return_value g)) (λ x behind.
      cuts_expect Semicolon behind (λ at2 end. cuts_found)))

  expression_statement_cuts : (names : Names) (ts : List Token) → Cuts (Statement names) ts (expression_statement_in d r names ts)
  unfolding expression_statement_in
  expression_statement_cuts names ts = cuts_then {S = Derives names rule.expression}
      (cuts_lower d (λ _. expression_cuts d r sound cuts names ts) (cuts.tree Goal.expression refl names ts))
      (says_lower_tree d (expression_sound d r sound names ts) (sound.tree Goal.expression names ts))
      (λ t b g. front_of g.holds)
      (a_mark Semicolon ∷ []) (λ z _. refl) (λ z _ a x g. has _ (rule.expression_statement g))
      (λ x behind g. cuts_expect Semicolon behind (λ at end. cuts_found))

  keyword_cuts : (names : Names) (text : List ℕ) (at : Place) (rest : List Token)
      → Cuts (Statement names) (word text at ∷ rest) (keyword_by d r names (word text at ∷ rest) text at rest)
  unfolding keyword_by
  keyword_cuts names text at rest =
      let behind : List Token = a_mark LeftParenthesis ∷ a_zero ∷ a_mark RightParenthesis ∷ a_mark Semicolon ∷ [] in
      cuts_if (bytes_eq text (codes "if"))
      (λ e. rw (word_is text _ e) (cuts_fit _ _ behind (λ z _. has _ (rule.if_then zero_expression rule.empty_statement)) (λ k. cuts_token (if_cuts names at rest))))
      (λ _. cuts_if (bytes_eq text (codes "while"))
      (λ e. rw (word_is text _ e) (cuts_fit _ _ behind (λ z _. has _ (rule.while_do zero_expression rule.empty_statement)) (λ k. cuts_token (while_cuts names at rest))))
      (λ _. cuts_if (bytes_eq text (codes "do"))
      (λ e. rw (word_is text _ e) (cuts_fit _ _ (a_mark Semicolon ∷ a_word (codes "while") ∷ behind)
      (λ z _. has _ (rule.do_while rule.empty_statement zero_expression)) (λ k. cuts_token (do_cuts names at rest))))
      (λ _. cuts_if (bytes_eq text (codes "for"))
      (λ e. rw (word_is text _ e) (cuts_fit _ _ (a_mark LeftParenthesis ∷ a_mark Semicolon ∷ a_mark Semicolon ∷ a_mark RightParenthesis ∷ a_mark Semicolon ∷ [])
      (λ z _. has _ (rule.for_expression rule.absent rule.absent rule.absent rule.empty_statement)) (λ k. cuts_token (for_cuts names at rest k))))
      (λ _. cuts_if (bytes_eq text (codes "return"))
      (λ e. rw (word_is text _ e) (cuts_fit _ _ (a_mark Semicolon ∷ []) (λ z _. has _ rule.return_nothing) (λ k. cuts_token (return_cuts names at rest))))
      (λ _. cuts_if (bytes_eq text (codes "break"))
      (λ e. rw (word_is text _ e) (cuts_fit _ _ (a_mark Semicolon ∷ []) (λ z _. has _ rule.break_of) (λ k. cuts_token (cuts_expect Semicolon rest (λ at2 end. cuts_found)))))
      (λ _. cuts_if (bytes_eq text (codes "continue"))
      (λ e. rw (word_is text _ e) (cuts_fit _ _ (a_mark Semicolon ∷ []) (λ z _. has _ rule.continue_of) (λ k. cuts_token (cuts_expect Semicolon rest (λ at2 end. cuts_found)))))
      (λ _. cuts_if (bytes_eq text (codes "switch"))
      (λ e. rw (word_is text _ e) (cuts_fit _ _ (a_mark LeftParenthesis ∷ a_zero ∷ a_mark RightParenthesis ∷ a_mark LeftBrace ∷ a_mark RightBrace ∷ [])
      (λ z _. has _ (rule.switch_of zero_expression (rule.no_more_groups refl))) (λ k. cuts_token (switch_cuts names at rest))))
      (λ _. expression_statement_cuts names (word text at ∷ rest)))))))))

  statement_cuts_by : (names : Names) {ts : List Token} {h : Ahead} → IsAhead ts h → Cuts (Statement names) ts (statement_by d r names ts h)
  unfolding statement_by
  statement_cuts_by names (is_mark {p = LeftBrace}) = cuts_as (λ a z b. has _ (block_of_body b.holds)) (body_cuts_by (opened names) is_mark)
  statement_cuts_by names (is_mark {p = Semicolon}) = cuts_fit _ _ [] (λ z _. has _ rule.empty_statement) (λ k. cuts_found)
  statement_cuts_by names (is_word {text = text} {at = at} {rest = rest}) = keyword_cuts names text at rest
  statement_cuts_by names _ = expression_statement_cuts names _

  pub statement_cuts : (names : Names) (ts : List Token) → Cuts (Statement names) ts (statement_in d r names ts)
  unfolding statement_in
  statement_cuts names ts = statement_cuts_by names (ahead_is ts)

  -- ---- labels

  label_cuts_by : (names : Names) {ts : List Token} {h : Ahead} → IsAhead ts h → Cuts (Has (Derives names rule.switch_label)) ts (label_by d r names ts h)
  unfolding label_by
  label_cuts_by names (is_word {text = text} {at = at} {rest = rest}) =
      cuts_if (bytes_eq text (codes "case"))
      (λ e. rw (word_is text _ e) (cuts_fit _ _ (a_zero ∷ a_mark Colon ∷ []) (λ z _. has _ (rule.case_label zero_conditional)) (λ k.
      cuts_token (cuts_tree d r sound cuts Goal.conditional refl names rest (a_mark Colon ∷ []) (λ z _. refl) (λ z _ a x g. has _ (rule.case_label g)) (λ x behind.
      cuts_expect Colon behind (λ at2 end. cuts_found))))))
      (λ _. cuts_if (bytes_eq text (codes "default"))
      (λ e. rw (word_is text _ e) (cuts_fit _ _ (a_mark Colon ∷ []) (λ z _. has _ rule.default_label) (λ k. cuts_token (cuts_expect Colon rest (λ at2 end. cuts_found)))))
      (λ _. cuts_wrong))
  label_cuts_by names _ = cuts_wrong

  pub label_cuts : (names : Names) (ts : List Token) → Cuts (Has (Derives names rule.switch_label)) ts (label_in d r names ts)
  unfolding label_in
  label_cuts names ts = label_cuts_by names (ahead_is ts)
