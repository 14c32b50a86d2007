-- Where an expression goes too deep, the tokens before the place are completed, where the next lower budget reads so.
use Rattle.std.proofs.Common.{ℕ, zero, suc, ◌+◌, ◌≤◌, false, List, [], ◌∷◌, refl, arith, ◌==◌, ◌&&◌, if◌then◌else◌, codes, bytes_eq}
use Rattle.std.proofs.lemmas.Bool.Decides.{Decides-eqb}
use Rattle.c_lexer.specs.declared.token.Punct.{Punct}
use Rattle.c_lexer.specs.declared.token.Punct.TheVariants.{LeftBracket, RightBracket, LeftParenthesis, RightParenthesis, Dot, Arrow, PlusPlus, MinusMinus, Question, Colon, Comma}
use Rattle.c_lexer.specs.declared.token.Token.{Token}
use Rattle.c_lexer.specs.Marks.{mark_text}
use Rattle.c_syntax.specs.declared.kind.SynKind.TheVariants as kind
use Rattle.c_syntax.specs.Trees.{Tree, height, one, text_node}
use Rattle.c_grammar.specs.Vocabulary.{Place, mark, word, is_unary_operator, is_assignment, level_of}
use Rattle.c_grammar.specs.Scopes.{Names, after}
use Rattle.c_grammar.specs.Derivation as rule
use Rattle.c_grammar.specs.Derivation.{Derives}
use Rattle.c_grammar.specs.Answers.{Answer, Ahead, mark_ahead, found, and_then, fit}
use Rattle.c_grammar.specs.Reading.{Reader, Goal, Rows, is_variable, begins_specifier, is_unary_by, primary_by, suffix_by, suffixes, postfix_in, size_in, unary_by, unary_in, cast_by, cast_in, operand_by, operands, binary_in, choice_by, conditional_in, assigned_by, assignment_in, comma_by, commas, expression_in}
use Rattle.c_grammar.proofs.FirstTokens.{not_true}
use Rattle.c_grammar.proofs.SoundSteps.{IsAhead, is_nothing, is_mark, is_word, is_integer, is_character, is_string, ahead_is, word_is, both_true}
use Rattle.c_grammar.proofs.SoundExpressions.{IsSound, says_as, primary_sound, binary_sound, conditional_sound, assignment_sound, as_unary}
use Rattle.c_grammar.proofs.FrontLaw.{front_of}
use Rattle.c_grammar.proofs.TooDeep.Steps.{Has, has, Cuts, cuts_found, cuts_wrong, cuts_as, cuts_token, cuts_if, cuts_fit, Behind, cuts_then, cuts_expect, cuts_expect_identifier}
use Rattle.c_grammar.proofs.TooDeep.Parts.{HasCuts, cuts_tree, cuts_trees, a_mark, a_name, a_zero, zero_unary, zero_cast, zero_binary, zero_conditional, zero_assignment, zero_expression}

-- the places within a part, as those of another part with the same trees
pub cuts_part : {T U : Type 0} {S S2 : List Token → List Token → T → Type 0} {ts : List Token} {x : Answer U}
    → ((a z : List Token) (t : T) → S a z t → S2 a z t)
    → Cuts (Has S) ts x
    → Cuts (Has S2) ts x
cuts_part f = cuts_as (λ a z p. has _ (f a z _ p.holds))

module _ (d : ℕ) (r : Reader) (sound : IsSound d r) (cuts : HasCuts d r) where
  primary_cuts : {names : Names} {ts : List Token} {h : Ahead} → IsAhead ts h → Cuts (Has (Derives names rule.primary)) ts (primary_by d r names ts h)
  unfolding primary_by
  primary_cuts {names} (is_word {text = text}) = cuts_if (is_variable names text)
      (λ e. cuts_fit _ _ [] (λ z _. has _ (rule.variable (both_true e).0 (not_true _ (both_true e).1))) (λ k. cuts_found))
      (λ e. cuts_wrong)
  primary_cuts is_integer = cuts_fit _ _ [] (λ z _. has _ rule.integer_constant) (λ k. cuts_found)
  primary_cuts is_character = cuts_fit _ _ [] (λ z _. has _ rule.character_constant) (λ k. cuts_found)
  primary_cuts is_string = cuts_fit _ _ [] (λ z _. has _ (rule.string_literal rule.last_literal)) (λ k. cuts_found)
  primary_cuts {names} (is_mark {p = LeftParenthesis} {rest = rest}) = cuts_fit _ _ (a_zero ∷ a_mark RightParenthesis ∷ []) (λ z _. has _ (rule.in_parentheses zero_expression)) (λ k.
      cuts_token (cuts_tree d r sound cuts Goal.expression refl names rest (a_mark RightParenthesis ∷ []) (λ z _. refl) (λ z _ a t e. has _ (rule.in_parentheses e)) (λ x behind.
      cuts_expect RightParenthesis behind (λ at c. cuts_found))))
  primary_cuts _ = cuts_wrong

  -- a suffix behind x, and `go` behind it
  suffix_cuts : {names : Names} {ts : List Token} {h : Ahead} {go : Tree → List Token → Answer Tree} (x : Tree)
      → ((y : Tree) (b : List Token) → suc (height x) ≤ d → suc (height x) ≤ height y → Cuts (Behind (Derives names rule.postfix) y (Has (Derives names rule.postfix))) b (go y b))
      → IsAhead ts h
      → Cuts (Behind (Derives names rule.postfix) x (Has (Derives names rule.postfix))) ts (suffix_by d r names x ts go h)
  unfolding suffix_by
  suffix_cuts {names} x next (is_mark {p = LeftBracket} {rest = rest}) = cuts_fit _ _ (a_zero ∷ a_mark RightBracket ∷ []) (λ z _ a g. has _ (rule.index g zero_expression)) (λ k.
      cuts_token (cuts_tree d r sound cuts Goal.expression refl (after names x) rest (a_mark RightBracket ∷ []) (λ z _. refl) (λ z _ b t e a g. has _ (rule.index g e)) (λ y behind.
      cuts_expect RightBracket behind (λ at c. cuts_as (λ b z go_on b2 e a g. go_on a (rule.index g e)) (next _ _ k (omega arith))))))
  suffix_cuts {names} x next (is_mark {p = LeftParenthesis} {rest = rest}) = cuts_fit _ _ (a_mark RightParenthesis ∷ []) (λ z _ a g. has _ (rule.call g rule.no_arguments)) (λ k.
      cuts_token (cuts_trees d r sound cuts Rows.arguments refl (after names x) rest (a_mark RightParenthesis ∷ []) (λ z _. refl) (λ z _ b t e a g. has _ (rule.call g e)) (λ ys behind.
      cuts_expect RightParenthesis behind (λ at c. cuts_as (λ b z go_on b2 e a g. go_on a (rule.call g e)) (next _ _ k (omega arith))))))
  suffix_cuts x next (is_mark {p = Dot} {rest = rest}) = cuts_fit _ _ (a_name ∷ []) (λ z _ a g. has _ (rule.dot g refl)) (λ k.
      cuts_token (cuts_expect_identifier rest (λ text at c h. cuts_as (λ b z go_on a g. go_on a (rule.dot g h)) (next _ _ k (omega arith)))))
  suffix_cuts x next (is_mark {p = Arrow} {rest = rest}) = cuts_fit _ _ (a_name ∷ []) (λ z _ a g. has _ (rule.arrow g refl)) (λ k.
      cuts_token (cuts_expect_identifier rest (λ text at c h. cuts_as (λ b z go_on a g. go_on a (rule.arrow g h)) (next _ _ k (omega arith)))))
  suffix_cuts x next (is_mark {p = PlusPlus}) = cuts_fit _ _ [] (λ z _ a g. has _ (rule.post_increment g)) (λ k.
      cuts_token (cuts_as (λ b z go_on a g. go_on a (rule.post_increment g)) (next _ _ k (omega arith))))
  suffix_cuts x next (is_mark {p = MinusMinus}) = cuts_fit _ _ [] (λ z _ a g. has _ (rule.post_decrement g)) (λ k.
      cuts_token (cuts_as (λ b z go_on a g. go_on a (rule.post_decrement g)) (next _ _ k (omega arith))))
  suffix_cuts x next _ = cuts_found

  -- with k suffixes more, where k and the height make up the budget
  suffixes_cuts : (k : ℕ) {names : Names} (x : Tree) (ts : List Token) → d ≤ k + height x
      → Cuts (Behind (Derives names rule.postfix) x (Has (Derives names rule.postfix))) ts (suffixes d r k names x ts)
  unfolding suffixes
  suffixes_cuts zero x ts enough = suffix_cuts x (λ y b fits higher. absurd (omega (arith, enough, fits))) (ahead_is ts)
  suffixes_cuts (suc k) x ts enough = suffix_cuts x (λ y b fits higher. suffixes_cuts k y b (omega (arith, enough, higher))) (ahead_is ts)

  postfix_cuts : (names : Names) (ts : List Token) → Cuts (Has (Derives names rule.postfix)) ts (postfix_in d r names ts)
  unfolding postfix_in
  postfix_cuts names ts = cuts_then {S = Derives names rule.postfix}
      (cuts_part (λ a z t. rule.primary_of) (primary_cuts (ahead_is ts)))
      (says_as {S = Derives names rule.postfix} (λ t b. rule.primary_of) (primary_sound d r sound (ahead_is ts)))
      (λ t b g. front_of g.holds)
      [] (λ z h. h) (λ z _ a t e. has _ e)
      (λ x b g. suffixes_cuts d x b (omega arith))

  as_postfix_cuts : (names : Names) (ts : List Token) → Cuts (Has (Derives names rule.unary)) ts (postfix_in d r names ts)
  as_postfix_cuts names ts = cuts_part {S = Derives names rule.postfix} {S2 = Derives names rule.unary} (λ a z t. rule.plain) (postfix_cuts names ts)

  -- ---- unary expressions and casts

  -- behind `sizeof`
  size_cuts : {names : Names} {at : Place} {rest : List Token} {h : Ahead} → IsAhead rest h
      → Cuts (λ a z. Has (Derives names rule.unary) (word (codes "sizeof") at ∷ a) z) rest (size_in d r names at rest h)
  unfolding size_in
  size_cuts {names} (is_mark {p = LeftParenthesis} {at = at2} {rest = rest2}) = cuts_fit _ _ (a_zero ∷ a_mark RightParenthesis ∷ [])
      (λ z _. has _ (rule.size_of_expression (rule.plain (rule.primary_of (rule.in_parentheses zero_expression))))) (λ _. cuts_if (begins_specifier false names rest2)
      (λ _. cuts_token (cuts_tree d r sound cuts Goal.type_name refl names rest2 (a_mark RightParenthesis ∷ []) (λ z _. refl) (λ z _ a t g. has _ (rule.size_of_type g)) (λ t behind.
      cuts_expect RightParenthesis behind (λ at c. cuts_found))))
      (λ _. cuts_tree d r sound cuts Goal.unary refl names (mark LeftParenthesis at2 ∷ rest2) [] (λ z h. h) (λ z _ a t g. has _ (rule.size_of_expression g)) (λ t behind. cuts_found)))
  size_cuts {names} {rest = rest} _ = cuts_tree d r sound cuts Goal.unary refl names rest [] (λ z h. h) (λ z _ a t g. has _ (rule.size_of_expression g)) (λ t behind. cuts_found)

  other_operator_cuts : (names : Names) (op : Punct) (at : Place) (rest : List Token)
      → Cuts (Has (Derives names rule.unary)) (mark op at ∷ rest) (if is_unary_operator op then
      fit 2 d rest (and_then (r.tree_of Goal.cast names rest) (λ x end. found (text_node kind.Unary (mark_text op) at.start (one x)) end))
      else postfix_in d r names (mark op at ∷ rest))
  other_operator_cuts names op at rest = cuts_if (is_unary_operator op)
      (λ e. cuts_fit _ _ (a_zero ∷ []) (λ z _. has _ (rule.operator e zero_cast)) (λ k.
      cuts_token (cuts_tree d r sound cuts Goal.cast refl names rest [] (λ z h. h) (λ z _ a t g. has _ (rule.operator e g)) (λ x end. cuts_found))))
      (λ e. as_postfix_cuts names (mark op at ∷ rest))

  operator_cuts : (names : Names) (op : Punct) (at : Place) (rest : List Token)
      → Cuts (Has (Derives names rule.unary)) (mark op at ∷ rest) (unary_by d r names (mark op at ∷ rest) (mark_ahead op at rest))
  unfolding unary_by
  operator_cuts names PlusPlus at rest = cuts_fit _ _ (a_zero ∷ []) (λ z _. has _ (rule.increment zero_unary)) (λ k.
      cuts_token (cuts_tree d r sound cuts Goal.unary refl names rest [] (λ z h. h) (λ z _ a t g. has _ (rule.increment g)) (λ x end. cuts_found)))
  operator_cuts names MinusMinus at rest = cuts_fit _ _ (a_zero ∷ []) (λ z _. has _ (rule.decrement zero_unary)) (λ k.
      cuts_token (cuts_tree d r sound cuts Goal.unary refl names rest [] (λ z h. h) (λ z _ a t g. has _ (rule.decrement g)) (λ x end. cuts_found)))
  operator_cuts names op at rest = other_operator_cuts names op at rest

  unary_cuts_by : {names : Names} {ts : List Token} {h : Ahead} → IsAhead ts h → Cuts (Has (Derives names rule.unary)) ts (unary_by d r names ts h)
  unfolding unary_by
  unary_cuts_by {names} (is_mark {p = p} {at = at} {rest = rest}) = operator_cuts names p at rest
  unary_cuts_by {names} (is_word {text = text} {at = at} {rest = rest}) = cuts_if (bytes_eq text (codes "sizeof"))
      (λ e. rw (word_is text _ e) (cuts_fit _ _ (a_zero ∷ []) (λ z _. has _ (rule.size_of_expression zero_unary)) (λ k. cuts_token (size_cuts (ahead_is rest)))))
      (λ e. as_postfix_cuts names _)
  unary_cuts_by {names} _ = as_postfix_cuts names _

  pub unary_cuts : (names : Names) (ts : List Token) → Cuts (Has (Derives names rule.unary)) ts (unary_in d r names ts)
  unfolding unary_in
  unary_cuts names ts = unary_cuts_by (ahead_is ts)

  as_uncast_cuts : (names : Names) (ts : List Token) → Cuts (Has (Derives names rule.cast)) ts (unary_in d r names ts)
  as_uncast_cuts names ts = cuts_part {S = Derives names rule.unary} {S2 = Derives names rule.cast} (λ a z t. rule.uncast) (unary_cuts names ts)

  -- a parenthesis with an expression, as a cast
  zero_in_parentheses : {names : Names} {at : Place} {z : List Token} → Has (Derives names rule.cast) (mark LeftParenthesis at ∷ a_zero ∷ a_mark RightParenthesis ∷ z) z
  zero_in_parentheses = has _ (rule.uncast (rule.plain (rule.primary_of (rule.in_parentheses zero_expression))))

  cast_cuts_by : {names : Names} {ts : List Token} {h : Ahead} → IsAhead ts h → Cuts (Has (Derives names rule.cast)) ts (cast_by d r names ts h)
  unfolding cast_by
  cast_cuts_by {names} (is_mark {p = LeftParenthesis} {rest = rest}) = cuts_if (begins_specifier false names rest)
      (λ e. cuts_fit _ _ (a_zero ∷ a_mark RightParenthesis ∷ []) (λ z _. zero_in_parentheses) (λ k.
      cuts_token (cuts_tree d r sound cuts Goal.type_name refl names rest (a_mark RightParenthesis ∷ a_zero ∷ []) (λ z _. refl) (λ z _ a t g. has _ (rule.cast_to g zero_cast)) (λ t behind.
      cuts_expect RightParenthesis behind (λ at2 behind2.
      cuts_tree d r sound cuts Goal.cast refl (after names t) behind2 [] (λ z h. h) (λ z _ b x g a h. has _ (rule.cast_to h g)) (λ x end. cuts_found))))))
      (λ e. as_uncast_cuts names _)
  cast_cuts_by {names} _ = as_uncast_cuts names _

  pub cast_cuts : (names : Names) (ts : List Token) → Cuts (Has (Derives names rule.cast)) ts (cast_in d r names ts)
  unfolding cast_in
  cast_cuts names ts = cast_cuts_by (ahead_is ts)

  -- ---- binary operators

  -- an operator behind x, and `go` behind its right side
  operand_cuts : (n : ℕ) {names : Names} {ts : List Token} {h : Ahead} {go : Tree → List Token → Answer Tree} (x : Tree)
      → ((y : Tree) (b : List Token) → suc (height x) ≤ d → suc (height x) ≤ height y → Cuts (Behind (Derives names (rule.binary (suc n))) y (Has (Derives names (rule.binary (suc n))))) b (go y b))
      → IsAhead ts h
      → Cuts (Behind (Derives names (rule.binary (suc n))) x (Has (Derives names (rule.binary (suc n))))) ts (operand_by d r n names x ts go h)
  unfolding operand_by
  operand_cuts n {names} x next (is_mark {p = op} {rest = rest}) = cuts_if (level_of op == suc n)
      (λ e. let level = (Decides-eqb (level_of op) (suc n)).0 e in
      cuts_fit _ _ (a_zero ∷ []) (λ z _ a g. has _ (rule.chain g level (zero_binary n))) (λ k.
      cuts_token (cuts_tree d r sound cuts (Goal.binary n) refl (after names x) rest [] (λ z h. h) (λ z _ b y h a g. has _ (rule.chain g level h)) (λ y end.
      cuts_as (λ b z go_on b2 h a g. go_on a (rule.chain g level h)) (next _ _ k (omega arith))))))
      (λ e. cuts_found)
  operand_cuts n x next is_nothing = cuts_found
  operand_cuts n x next _ = cuts_found

  operands_cuts : (k n : ℕ) {names : Names} (x : Tree) (ts : List Token) → d ≤ k + height x
      → Cuts (Behind (Derives names (rule.binary (suc n))) x (Has (Derives names (rule.binary (suc n))))) ts (operands d r k n names x ts)
  unfolding operands
  operands_cuts zero n x ts enough = operand_cuts n x (λ y b fits higher. absurd (omega (arith, enough, fits))) (ahead_is ts)
  operands_cuts (suc k) n x ts enough = operand_cuts n x (λ y b fits higher. operands_cuts k n y b (omega (arith, enough, higher))) (ahead_is ts)

  pub binary_cuts : (n : ℕ) (names : Names) (ts : List Token) → Cuts (Has (Derives names (rule.binary n))) ts (binary_in d r n names ts)
  unfolding binary_in
  binary_cuts zero names ts = cuts_part {S = Derives names rule.cast} {S2 = Derives names (rule.binary 0)} (λ a z t. rule.tightest) (cast_cuts names ts)
  binary_cuts (suc n) names ts = cuts_then {S = Derives names (rule.binary (suc n))}
      (cuts_part {S = Derives names (rule.binary n)} {S2 = Derives names (rule.binary (suc n))} (λ a z t. rule.tighter) (binary_cuts n names ts))
      (says_as {S = Derives names (rule.binary (suc n))} (λ t b. rule.tighter) (binary_sound d r sound n names ts))
      (λ t b g. front_of g.holds)
      [] (λ z h. h) (λ z _ a t e. has _ e)
      (λ x b g. operands_cuts d n x b (omega arith))

  -- ---- conditional expressions, assignments and commas

  choice_cuts : {names : Names} {ts : List Token} {h : Ahead} (x : Tree) → IsAhead ts h
      → Cuts (Behind (Derives names (rule.binary 10)) x (Has (Derives names rule.conditional))) ts (choice_by d r names x ts h)
  unfolding choice_by
  choice_cuts {names} x (is_mark {p = Question} {rest = rest}) = cuts_fit _ _ (a_zero ∷ a_mark Colon ∷ a_zero ∷ [])
      (λ z _ a g. has _ (rule.choice g zero_expression zero_conditional)) (λ k.
      cuts_token (cuts_tree d r sound cuts Goal.expression refl (after names x) rest (a_mark Colon ∷ a_zero ∷ []) (λ z _. refl) (λ z _ b y h a g. has _ (rule.choice g h zero_conditional)) (λ y behind.
      cuts_expect Colon behind (λ at2 behind2.
      cuts_tree d r sound cuts Goal.conditional refl (after (after names x) y) behind2 [] (λ z h. h) (λ z _ c w i b h a g. has _ (rule.choice g h i)) (λ w end. cuts_found)))))
  choice_cuts x _ = cuts_found

  pub conditional_cuts : (names : Names) (ts : List Token) → Cuts (Has (Derives names rule.conditional)) ts (conditional_in d r names ts)
  unfolding conditional_in
  conditional_cuts names ts = cuts_then {S = Derives names (rule.binary 10)}
      (binary_cuts 10 names ts)
      (binary_sound d r sound 10 names ts)
      (λ t b g. front_of g.holds)
      [] (λ z h. h) (λ z _ a t e. has _ (rule.unconditional e))
      (λ x b g. choice_cuts x (ahead_is b))

  assigned_cuts : {names : Names} {ts : List Token} {h : Ahead} (x : Tree) → IsAhead ts h
      → Cuts (Behind (Derives names rule.conditional) x (Has (Derives names rule.assignment))) ts (assigned_by d r names x ts h)
  unfolding assigned_by
  assigned_cuts {names} x (is_mark {p = op} {rest = rest}) = cuts_if (is_assignment op && is_unary_by x.label.kind)
      (λ e. let both = both_true e in
      cuts_fit _ _ (a_zero ∷ []) (λ z _ a g. has _ (rule.assigned (as_unary g both.1) both.0 zero_assignment)) (λ k.
      cuts_token (cuts_tree d r sound cuts Goal.assignment refl (after names x) rest [] (λ z h. h) (λ z _ b y h a g. has _ (rule.assigned (as_unary g both.1) both.0 h)) (λ y end. cuts_found))))
      (λ e. cuts_found)
  assigned_cuts x is_nothing = cuts_found
  assigned_cuts x _ = cuts_found

  pub assignment_cuts : (names : Names) (ts : List Token) → Cuts (Has (Derives names rule.assignment)) ts (assignment_in d r names ts)
  unfolding assignment_in
  assignment_cuts names ts = cuts_then {S = Derives names rule.conditional}
      (conditional_cuts names ts)
      (conditional_sound d r sound names ts)
      (λ t b g. front_of g.holds)
      [] (λ z h. h) (λ z _ a t e. has _ (rule.unassigned e))
      (λ x b g. assigned_cuts x (ahead_is b))

  comma_cuts : {names : Names} {ts : List Token} {h : Ahead} {go : Tree → List Token → Answer Tree} (x : Tree)
      → ((y : Tree) (b : List Token) → suc (height x) ≤ d → suc (height x) ≤ height y → Cuts (Behind (Derives names rule.expression) y (Has (Derives names rule.expression))) b (go y b))
      → IsAhead ts h
      → Cuts (Behind (Derives names rule.expression) x (Has (Derives names rule.expression))) ts (comma_by d r names x ts go h)
  unfolding comma_by
  comma_cuts {names} x next (is_mark {p = Comma} {rest = rest}) = cuts_fit _ _ (a_zero ∷ []) (λ z _ a g. has _ (rule.comma g zero_assignment)) (λ k.
      cuts_token (cuts_tree d r sound cuts Goal.assignment refl (after names x) rest [] (λ z h. h) (λ z _ b y h a g. has _ (rule.comma g h)) (λ y end.
      cuts_as (λ b z go_on b2 h a g. go_on a (rule.comma g h)) (next _ _ k (omega arith)))))
  comma_cuts x next _ = cuts_found

  commas_cuts : (k : ℕ) {names : Names} (x : Tree) (ts : List Token) → d ≤ k + height x
      → Cuts (Behind (Derives names rule.expression) x (Has (Derives names rule.expression))) ts (commas d r k names x ts)
  unfolding commas
  commas_cuts zero x ts enough = comma_cuts x (λ y b fits higher. absurd (omega (arith, enough, fits))) (ahead_is ts)
  commas_cuts (suc k) x ts enough = comma_cuts x (λ y b fits higher. commas_cuts k y b (omega (arith, enough, higher))) (ahead_is ts)

  pub expression_cuts : (names : Names) (ts : List Token) → Cuts (Has (Derives names rule.expression)) ts (expression_in d r names ts)
  unfolding expression_in
  expression_cuts names ts = cuts_then {S = Derives names rule.expression}
      (cuts_part {S = Derives names rule.assignment} {S2 = Derives names rule.expression} (λ a z t. rule.single_expression) (assignment_cuts names ts))
      (says_as {S = Derives names rule.expression} (λ t b. rule.single_expression) (assignment_sound d r sound names ts))
      (λ t b g. front_of g.holds)
      [] (λ z h. h) (λ z _ a t e. has _ e)
      (λ x b g. commas_cuts d x b (omega arith))
