-- What is read as a declaration or a statement within a budget is derived, where the next lower budget reads so.
use Rattle.std.proofs.Common.{◌≡◌, ℕ, suc, ◌<◌, ◌≤◌, Bool, false, ◌&&◌, ◌||◌, not, List, ◌∷◌, if◌then◌else◌, ap, ◌∙◌, arith, codes, bytes_eq}
use Rattle.c_lexer.specs.declared.token.Punct.TheVariants.{LeftParenthesis, RightParenthesis, LeftBrace, RightBrace, Colon, Semicolon, Equal, Comma}
use Rattle.c_lexer.specs.declared.token.Token.{Token}
use Rattle.c_syntax.specs.declared.kind.SynKind.TheVariants as kind
use Rattle.c_syntax.specs.Trees.{Tree, ◌then◌, one, three, plain_node, height}
use Rattle.c_grammar.specs.Vocabulary.{Place, mark, word}
use Rattle.c_grammar.specs.Scopes.{Names, opened, says_typedef, after, in_body}
use Rattle.c_grammar.specs.Derivation as rule
use Rattle.c_grammar.specs.Derivation.{Derives, Lists, start, ends_open}
use Rattle.c_grammar.specs.Answers.{Answer, Ahead, ahead}
use Rattle.c_grammar.specs.Reading.{Reader, Goal, Rows, Mode, begins_specifier, begins_with_word, begins_with_mark, behind_one, initializer_by, initializer_in, initialized_by, init_declarator_in, init_behind_by, init_behind_in, declaration_behind, declaration_in, declaration_from, function_by, external_in, body_by, optional_expression_in, in_parentheses_then, if_in, while_in, do_in, for_behind, for_in, switch_in, label_by, label_in, return_in, expression_statement_in, keyword_by, statement_by, statement_in}
use Rattle.c_grammar.specs.Meanings.{IsTree, IsBody, body_of}
use Rattle.c_grammar.proofs.FirstTokens.{not_true}
use Rattle.c_grammar.proofs.SoundSteps.{Says, says_wrong, Is, says_then, says_if, says_fit, says_any, says_expect, says_expect_word, says_close, IsAhead, is_mark, is_word, ahead_is, word_is, both_true, mark_split, word_split, before}
use Rattle.c_grammar.proofs.SoundExpressions.{IsSound, says_good, says_as, expression_sound, assignment_sound}
use Rattle.c_grammar.proofs.SoundTypes.{says_lower_tree, specs_sound}
use Rattle.c_grammar.proofs.SoundDeclarators.{declarator_of, declared_sound}

pub function_of : {names : Names} {a b c e : List Token} {s x body : Tree}
    → Derives names rule.specifiers a b s
    → Derives (after names s) rule.declarator b c x
    → IsBody (in_body names s x) c e body
    → Derives names rule.external a e (plain_node kind.Function (start s) (three s x body))
function_of s x (body_of items) = rule.function s x items

pub block_of_body : {names : Names} {a b : List Token} {t : Tree} → IsBody (opened names) a b t → Derives names rule.statement a b t
block_of_body (body_of items) = rule.block_statement (rule.block_of items)

module _ (d : ℕ) (r : Reader) (sound : IsSound d r) where
  abbrev Statement : Names → List Token → Tree → List Token → Type 0
  Statement names = Is (suc d) (Derives names rule.statement)

  -- ---- declarations

  initializer_sound_by : (names : Names) {ts : List Token} {h : Ahead} → IsAhead ts h → Says (Is (suc d) (Derives names rule.initializer) ts) (initializer_by d r names ts h)
  unfolding initializer_by
  initializer_sound_by names (is_mark {p = LeftBrace}) = says_fit _ _ _ (λ le.
      says_then (sound.trees Rows.initializers _ _) (λ xs behind s.
      says_close RightBrace s (λ at2 end c. says_good (rule.braces c) (omega (arith, s.fits)))))
  initializer_sound_by names _ = says_as (λ t b. rule.initial_value) (assignment_sound d r sound names _)

  pub initializer_sound : (names : Names) (ts : List Token) → Says (Is (suc d) (Derives names rule.initializer) ts) (initializer_in d r names ts)
  unfolding initializer_in
  initializer_sound names ts = initializer_sound_by names (ahead_is ts)

  initialized_sound : (is_typedef : Bool) {names : Names} {a ts : List Token} {x : Tree} {h : Ahead}
      → Is d (Derives names rule.declarator) a x ts
      → IsAhead ts h
      → Says (Is (suc d) (Derives names (rule.init_declarator is_typedef)) a) (initialized_by d r is_typedef names x ts h)
  unfolding initialized_by
  initialized_sound is_typedef g (is_mark {p = Equal}) = says_then (sound.tree Goal.initializer _ _) (λ y end s.
      says_good (rule.initialized g.holds s.holds) (omega (arith, g.fits, s.fits)))
  initialized_sound is_typedef g _ = says_good (rule.uninitialized g.holds) (omega (arith, g.fits))

  pub init_declarator_sound : (is_typedef : Bool) (names : Names) (ts : List Token)
      → Says (Is (suc d) (Derives names (rule.init_declarator is_typedef)) ts) (init_declarator_in d r is_typedef names ts)
  unfolding init_declarator_in
  init_declarator_sound is_typedef names ts = says_then
      (says_as (λ t b. declarator_of) (says_lower_tree d (declared_sound d r sound Mode.named names ts) (sound.tree (Goal.declared Mode.named) names ts)))
      (λ x rest g. initialized_sound is_typedef g (ahead_is rest))

  -- the same behind its declarator x
  init_behind_sound_by : (is_typedef : Bool) (x : Tree) (names : Names) {ts : List Token} {h : Ahead} → IsAhead ts h
      → Says (Is (suc d) (IsTree (Goal.init_behind is_typedef x) names) ts) (init_behind_by d r is_typedef names x ts h)
  unfolding init_behind_by
  init_behind_sound_by is_typedef x names (is_mark {p = Equal}) = says_fit _ _ _ (λ le.
      says_then (sound.tree Goal.initializer _ _) (λ y end s. says_good (λ a g. rule.initialized g s.holds) (omega (arith, le, s.fits))))
  init_behind_sound_by is_typedef x names (is_mark {p = Comma}) = says_fit _ _ _ (λ le. says_good (λ a g. rule.uninitialized g) (omega (arith, le)))
  init_behind_sound_by is_typedef x names (is_mark {p = Semicolon}) = says_fit _ _ _ (λ le. says_good (λ a g. rule.uninitialized g) (omega (arith, le)))
  init_behind_sound_by is_typedef x names _ = says_wrong

  pub init_behind_sound : (is_typedef : Bool) (x : Tree) (names : Names) (ts : List Token)
      → Says (Is (suc d) (IsTree (Goal.init_behind is_typedef x) names) ts) (init_behind_in d r is_typedef x names ts)
  unfolding init_behind_in
  init_behind_sound is_typedef x names ts = init_behind_sound_by is_typedef x names (ahead_is ts)

  declaration_behind_sound : {names : Names} {a : List Token} (s : Tree) (ts : List Token)
      → Is d (Derives names rule.specifiers) a s ts
      → Says (Is (suc d) (Derives names rule.declaration) a) (declaration_behind d r names s ts)
  unfolding declaration_behind
  declaration_behind_sound s ts g = says_if (begins_with_mark Semicolon ts)
      (λ e. says_good (rule.bare_declaration (before g (mark_split Semicolon ts e).1)) (omega (arith, g.fits)))
      (λ _. says_then (sound.trees (Rows.init_declarators (says_typedef (one s))) _ _) (λ xs behind h.
      says_close Semicolon h (λ at end c. says_good (rule.full_declaration g.holds c) (omega (arith, g.fits, h.fits)))))

  pub declaration_sound : (names : Names) (ts : List Token) → Says (Is (suc d) (Derives names rule.declaration) ts) (declaration_in d r names ts)
  unfolding declaration_in
  declaration_sound names ts = says_then (specs_sound d r sound names ts) declaration_behind_sound

  declaration_from_sound : {names : Names} {a rest ts : List Token} {s x : Tree}
      → Is d (Derives names rule.specifiers) a s rest
      → Is d (Derives (after names s) rule.declarator) rest x ts
      → Says (Is (suc d) (Derives names rule.external) a) (declaration_from d r names s x ts)
  unfolding declaration_from
  declaration_from_sound {rest = rest} {s = s} {x = x} g i = says_then (sound.trees (Rows.init_declarators_behind (says_typedef (one s)) x) _ _) (λ xs behind h.
      says_close Semicolon h (λ at end c. says_good (rule.declared (rule.full_declaration g.holds (c rest i.holds))) (omega (arith, g.fits, h.fits))))

  function_sound : {names : Names} {a rest ts : List Token} {s x : Tree} {h : Ahead}
      → Is d (Derives names rule.specifiers) a s rest
      → Is d (Derives (after names s) rule.declarator) rest x ts
      → IsAhead ts h
      → Says (Is (suc d) (Derives names rule.external) a) (function_by d r names s x ts h)
  unfolding function_by
  function_sound g i (is_mark {p = LeftBrace}) = says_then (sound.tree Goal.body _ _) (λ b end s.
      says_good (function_of g.holds i.holds s.holds) (omega (arith, g.fits, i.fits, s.fits)))
  function_sound g i _ = declaration_from_sound g i

  pub external_sound : (names : Names) (ts : List Token) → Says (Is (suc d) (Derives names rule.external) ts) (external_in d r names ts)
  unfolding external_in
  external_sound names ts = says_then (specs_sound d r sound names ts) (λ s rest g.
      says_if (begins_with_mark Semicolon rest)
      (λ e. says_good (rule.declared (rule.bare_declaration (before g (mark_split Semicolon rest e).1))) (omega (arith, g.fits)))
      (λ e. says_then (says_as (λ t b. declarator_of) (sound.tree (Goal.declared Mode.named) (after names s) rest)) (λ x behind i.
      function_sound g i (ahead_is behind))))

  -- ---- statements

  body_sound_by : (names : Names) {ts : List Token} {h : Ahead} → IsAhead ts h → Says (Is (suc d) (IsBody names) ts) (body_by d r names ts h)
  unfolding body_by
  body_sound_by names (is_mark {p = LeftBrace}) = says_fit _ _ _ (λ le.
      says_then (sound.trees Rows.block_items _ _) (λ items behind s.
      says_close RightBrace s (λ at2 end c. says_good (body_of c) (omega (arith, le, s.fits)))))
  body_sound_by names _ = says_wrong

  pub body_sound : (names : Names) (ts : List Token) → Says (Is (suc d) (IsBody names) ts) (body_by d r names ts (ahead ts))
  body_sound names ts = body_sound_by names (ahead_is ts)

  pub optional_expression_sound : (names : Names) (ts : List Token)
      → Says (Is (suc d) (Derives names rule.optional_expression) ts) (optional_expression_in d r names ts)
  unfolding optional_expression_in
  optional_expression_sound names ts = says_if (begins_with_mark Semicolon ts || begins_with_mark RightParenthesis ts)
      (λ e. says_any d ts (λ le. says_good rule.absent (omega (arith, le))))
      (λ e. says_as (λ t b. rule.present) (expression_sound d r sound names ts))

  in_parentheses_sound : {Q : Tree → List Token → Type 0} (names : Names) (ts : List Token) {go : Tree → List Token → Answer Tree}
      → ((at at2 : Place) (x : Tree) (a b : List Token)
      → ts ≡ mark LeftParenthesis at ∷ a
      → Derives names rule.expression a (mark RightParenthesis at2 ∷ b) x
      → height x < d
      → Says Q (go x b))
      → Says Q (in_parentheses_then d r names ts go)
  unfolding in_parentheses_then
  in_parentheses_sound names ts next = says_expect LeftParenthesis ts (λ at rest e.
      says_then (sound.tree Goal.expression names rest) (λ x behind s.
      says_close RightParenthesis s (λ at2 end c. next at at2 x rest end e c s.fits)))

  if_sound : (names : Names) (at : Place) (ts : List Token) → 2 ≤ d → Says (Statement names (word (codes "if") at ∷ ts)) (if_in d r names at ts)
  unfolding if_in
  if_sound names at ts le = in_parentheses_sound names ts (λ at2 at3 x a b e c f. rw e (
      says_then (sound.tree Goal.statement (after names x) b) (λ s end g.
      says_if (begins_with_word (codes "else") end && not (ends_open s))
      (λ h. says_then (sound.tree Goal.statement (after (after names x) s) (behind_one end)) (λ t last i.
      says_good (rule.if_else c (before g (word_split (codes "else") end (both_true h).0).1) (not_true (ends_open s) (both_true h).1) i.holds) (omega (arith, f, g.fits, i.fits))))
      (λ h. says_good (rule.if_then c g.holds) (omega (arith, f, g.fits))))))

  while_sound : (names : Names) (at : Place) (ts : List Token) → 2 ≤ d → Says (Statement names (word (codes "while") at ∷ ts)) (while_in d r names at ts)
  unfolding while_in
  while_sound names at ts le = in_parentheses_sound names ts (λ at2 at3 x a b e c f. rw e (
      says_then (sound.tree Goal.statement (after names x) b) (λ s end g.
      says_good (rule.while_do c g.holds) (omega (arith, f, g.fits)))))

  do_sound : (names : Names) (at : Place) (ts : List Token) → 2 ≤ d → Says (Statement names (word (codes "do") at ∷ ts)) (do_in d r names at ts)
  unfolding do_in
  do_sound names at ts le = says_then (sound.tree Goal.statement names ts) (λ s behind g.
      says_expect_word (codes "while") behind (λ at2 behind2 e.
      in_parentheses_sound (after names s) behind2 (λ at3 at4 x a b e2 c f.
      says_expect Semicolon b (λ at5 end e3.
      says_good (rule.do_while (before g (e ∙ ap (λ l. word (codes "while") at2 ∷ l) e2)) (rw e3 at c)) (omega (arith, f, g.fits))))))

  for_behind_sound : {R : List Token → List Token → Tree → Type 0} (names : Names) (at : Place) (a : List Token) (f : Tree) (ts : List Token)
      → height f < d
      → ((at3 at4 : Place) (b c e : List Token) (x y s : Tree)
      → Derives (after names f) rule.optional_expression ts (mark Semicolon at3 ∷ b) x
      → Derives (after (after names f) x) rule.optional_expression b (mark RightParenthesis at4 ∷ c) y
      → Derives (after (after (after names f) x) y) rule.statement c e s
      → R a e (plain_node kind.For at.start (f then three x y s)))
      → Says (Is (suc d) R a) (for_behind d r names at f ts)
  unfolding for_behind
  for_behind_sound names at a f ts le finish = says_then (sound.tree Goal.optional_expression (after names f) ts) (λ x behind g.
      says_close Semicolon g (λ at3 behind2 c.
      says_then (sound.tree Goal.optional_expression (after (after names f) x) behind2) (λ y behind3 h.
      says_close RightParenthesis h (λ at4 behind4 c2.
      says_then (sound.tree Goal.statement (after (after (after names f) x) y) behind4) (λ s end i.
      says_good (finish at3 at4 behind2 behind4 end x y s c c2 i.holds) (omega (arith, le, g.fits, h.fits, i.fits)))))))

  for_sound : (names : Names) (at : Place) (ts : List Token) → 2 ≤ d → Says (Statement names (word (codes "for") at ∷ ts)) (for_in d r names at ts)
  unfolding for_in
  for_sound names at ts le = says_expect LeftParenthesis ts (λ at2 rest e. rw e (
      says_if (begins_specifier false (opened names) rest)
      (λ _. says_then (sound.tree Goal.declaration (opened names) rest) (λ f behind g.
      for_behind_sound (opened names) at _ f behind g.fits (λ at3 at4 b c e2 x y s i j k. rule.for_declaration g.holds i j k)))
      (λ _. says_then (sound.tree Goal.optional_expression (opened names) rest) (λ f behind g.
      says_close Semicolon g (λ at5 behind2 c0.
      for_behind_sound (opened names) at _ f behind2 g.fits (λ at3 at4 b c e2 x y s i j k. rule.for_expression c0 i j k))))))

  switch_sound : (names : Names) (at : Place) (ts : List Token) → 2 ≤ d → Says (Statement names (word (codes "switch") at ∷ ts)) (switch_in d r names at ts)
  unfolding switch_in
  switch_sound names at ts le = in_parentheses_sound names ts (λ at2 at3 x a b e c f. rw e (
      says_expect LeftBrace b (λ at4 behind e2.
      says_then (sound.trees Rows.groups (opened (after names x)) behind) (λ items behind2 g.
      says_close RightBrace g (λ at5 end h.
      says_good (rule.switch_of (rw e2 at c) h) (omega (arith, f, g.fits)))))))

  return_sound : (names : Names) (at : Place) (ts : List Token) → 1 ≤ d → Says (Statement names (word (codes "return") at ∷ ts)) (return_in d r names at ts)
  unfolding return_in
  return_sound names at ts le = says_if (begins_with_mark Semicolon ts)
      (λ e. rw (mark_split Semicolon ts e).1 (says_good rule.return_nothing (omega (arith, le))))
      (λ _. says_then (sound.tree Goal.expression names ts) (λ x behind g.
      says_close Semicolon g (λ at2 end c. says_good (rule.return_value c) (omega (arith, g.fits)))))

  expression_statement_sound : (names : Names) (ts : List Token) → Says (Statement names ts) (expression_statement_in d r names ts)
  unfolding expression_statement_in
  expression_statement_sound names ts = says_then
      (says_lower_tree d (expression_sound d r sound names ts) (sound.tree Goal.expression names ts))
      (λ x behind g. says_close Semicolon g (λ at end c. says_good (rule.expression_statement c) (omega (arith, g.fits))))

  keyword_sound : (names : Names) (text : List ℕ) (at : Place) (rest : List Token)
      → Says (Statement names (word text at ∷ rest)) (keyword_by d r names (word text at ∷ rest) text at rest)
  unfolding keyword_by
  keyword_sound names text at rest =
      says_if (bytes_eq text (codes "if")) (λ e. says_fit _ _ _ (λ le. rw (word_is text _ e) (if_sound names at rest le)))
      (λ _. says_if (bytes_eq text (codes "while")) (λ e. says_fit _ _ _ (λ le. rw (word_is text _ e) (while_sound names at rest le)))
      (λ _. says_if (bytes_eq text (codes "do")) (λ e. says_fit _ _ _ (λ le. rw (word_is text _ e) (do_sound names at rest le)))
      (λ _. says_if (bytes_eq text (codes "for")) (λ e. says_fit _ _ _ (λ le. rw (word_is text _ e) (for_sound names at rest le)))
      (λ _. says_if (bytes_eq text (codes "return")) (λ e. says_fit _ _ _ (λ le. rw (word_is text _ e) (return_sound names at rest le)))
      (λ _. says_if (bytes_eq text (codes "break"))
      (λ e. says_fit _ _ _ (λ le. says_expect Semicolon rest (λ at2 end e2. rw (word_is text _ e, e2) (says_good rule.break_of (omega (arith, le))))))
      (λ _. says_if (bytes_eq text (codes "continue"))
      (λ e. says_fit _ _ _ (λ le. says_expect Semicolon rest (λ at2 end e2. rw (word_is text _ e, e2) (says_good rule.continue_of (omega (arith, le))))))
      (λ _. says_if (bytes_eq text (codes "switch")) (λ e. says_fit _ _ _ (λ le. rw (word_is text _ e) (switch_sound names at rest le)))
      (λ _. expression_statement_sound names (word text at ∷ rest)))))))))

  statement_sound_by : (names : Names) {ts : List Token} {h : Ahead} → IsAhead ts h → Says (Statement names ts) (statement_by d r names ts h)
  unfolding statement_by
  statement_sound_by names (is_mark {p = LeftBrace}) = says_as (λ t b. block_of_body) (body_sound_by (opened names) is_mark)
  statement_sound_by names (is_mark {p = Semicolon}) = says_fit _ _ _ (λ le. says_good rule.empty_statement (omega (arith, le)))
  statement_sound_by names (is_word {text = text} {at = at} {rest = rest}) = keyword_sound names text at rest
  statement_sound_by names _ = expression_statement_sound names _

  pub statement_sound : (names : Names) (ts : List Token) → Says (Is (suc d) (Derives names rule.statement) ts) (statement_in d r names ts)
  unfolding statement_in
  statement_sound names ts = statement_sound_by names (ahead_is ts)

  -- ---- labels

  label_sound_by : (names : Names) {ts : List Token} {h : Ahead} → IsAhead ts h → Says (Is (suc d) (Derives names rule.switch_label) ts) (label_by d r names ts h)
  unfolding label_by
  label_sound_by names (is_word {text = text} {at = at} {rest = rest}) =
      says_if (bytes_eq text (codes "case")) (λ e. says_fit _ _ _ (λ le.
      says_then (sound.tree Goal.conditional names rest) (λ x behind g.
      says_close Colon g (λ at2 end c. rw (word_is text _ e) (says_good (rule.case_label c) (omega (arith, g.fits)))))))
      (λ _. says_if (bytes_eq text (codes "default"))
      (λ e. says_fit _ _ _ (λ le. says_expect Colon rest (λ at2 end e2. rw (word_is text _ e, e2) (says_good rule.default_label (omega (arith, le))))))
      (λ _. says_wrong))
  label_sound_by names _ = says_wrong

  pub label_sound : (names : Names) (ts : List Token) → Says (Is (suc d) (Derives names rule.switch_label) ts) (label_in d r names ts)
  unfolding label_in
  label_sound names ts = label_sound_by names (ahead_is ts)
