-- Unary, binary, conditional and assignment expressions, and commas, that are derived are read.
use Rattle.std.proofs.Common.{◌≡◌, ℕ, zero, suc, ◌<◌, ◌≤◌, ◌⊎◌, inl, inr, Bool, true, false, List, [], ◌∷◌, refl, sym, ap, ◌∙◌, arith, codes, true≢false}
use Rattle.std.proofs.lemmas.Bool.Decides.{nat_tests}
use Rattle.std.specs.Prelude.{◌==◌, ◌||◌, ◌&&◌, not, nat_lt, max, if◌then◌else◌}
use Rattle.std.specs.Str.{bytes_eq}
use Rattle.c_lexer.specs.declared.token.Punct.{Punct}
use Rattle.c_lexer.specs.declared.token.Punct.TheVariants.{LeftBracket, LeftParenthesis, RightParenthesis, LeftBrace, Dot, Arrow, PlusPlus, MinusMinus, Question, Colon, Semicolon, Equal, Comma, StarEqual, SlashEqual, PercentEqual, PlusEqual, MinusEqual, ShiftLeftEqual, ShiftRightEqual, AmpersandEqual, CaretEqual, BarEqual}
use Rattle.c_lexer.specs.declared.token.Token.{Token}
use Rattle.c_lexer.specs.declared.token.TokenKind.{TokenKind}
use Rattle.c_lexer.specs.declared.token.TokenKind.TheVariants as token
use Rattle.c_lexer.specs.Marks.{mark_text}
use Rattle.c_syntax.specs.declared.kind.SynKind.TheVariants as kind
use Rattle.c_syntax.specs.Trees.{Tree, ◌then◌, one, two, three, text_node, plain_node, height}
use Rattle.c_grammar.specs.Vocabulary.{is_among, is_identifier, is_type_word, is_storage_word, is_unary_operator, is_assignment, level_of, Place, mark, word}
use Rattle.c_grammar.specs.Scopes.{Names, is_typedef_name, after}
use Rattle.c_grammar.specs.Derivation.{Part, Row, Derives, Lists, Literals, start}
use Rattle.c_grammar.specs.Answers.{Answer, found, and_then, fit, Ahead, nothing_ahead, mark_ahead, word_ahead, integer_ahead, character_ahead, string_ahead, ahead, ahead_by, expect, expect_by, deep}
use Rattle.c_grammar.specs.Reading.{Reader, Goal, begins_with_mark_by, begins_specifier, begins_specifier_by, suffix_by, suffixes, postfix_in, unary_by, unary_in, size_in, cast_by, cast_in, operand_by, operands, binary_in, choice_by, conditional_in, assigned_by, assignment_in, comma_by, commas, expression_in, goal_in, level, read, is_unary_by, begins_with_mark, primary_by, behind_one, below}
use Rattle.c_grammar.specs.Derivation
use Rattle.c_grammar.proofs.Budgets.{order, within, beyond, then_found, then_deep, Leads, Finds, leads_from, leads_height, leads_here, leads_then, chain_ends, leads_fit_within}
use Rattle.c_grammar.proofs.Found.Claims.{Complete, Is, begins_type_by, no_suffix_by, no_operator_by, no_assignment_by, no_string, ends_postfix, ends_binary, ends_conditional}
use Rattle.c_grammar.proofs.Found.Expressions.{tags, statement_words, nested, node_of, chain_link, dead, expression_finds}
use Rattle.c_grammar.proofs.SoundSteps.{mark_split}
use Rattle.c_grammar.proofs.FirstTokens.{has_front, front, Front, mark_front, of_statement, other, kind_front, word_front, keyword_front, of_expression, of_specs, begins_statement, among, not_true}

-- ---- unary expressions

suffixes_end : (d : ℕ) (r : Reader) (names : Names) (x : Tree) (b : List Token) → Is (ends_postfix b) → (k : ℕ) → suffixes d r k names x b ≡ found x b
unfolding suffixes suffix_by
suffixes_end d r names x b stop k = at k (second (no_string b) (no_suffix_by (ahead b)) stop)
  where
    second : (p q : Bool) → p && q ≡ true → q ≡ true
    second true q e = e
    second false q e = absurd (true≢false (sym e))

    by : (go : Tree → List Token → Answer Tree) (h : Ahead) → no_suffix_by h ≡ true → suffix_by d r names x b go h ≡ found x b
    by go (mark_ahead LeftBracket at rest) e = absurd (true≢false (sym e))
    by go (mark_ahead LeftParenthesis at rest) e = absurd (true≢false (sym e))
    by go (mark_ahead Dot at rest) e = absurd (true≢false (sym e))
    by go (mark_ahead Arrow at rest) e = absurd (true≢false (sym e))
    by go (mark_ahead PlusPlus at rest) e = absurd (true≢false (sym e))
    by go (mark_ahead MinusMinus at rest) e = absurd (true≢false (sym e))
    by go (mark_ahead p at rest) e = refl
    by go next e = refl

    at : (k : ℕ) → no_suffix_by (ahead b) ≡ true → suffixes d r k names x b ≡ found x b
    at zero e = by dead (ahead b) e
    at (suc k) e = by (suffixes d r k names) (ahead b) e

first_test : (p q : Bool) → p && q ≡ true → p ≡ true
first_test true q e = refl
first_test false q e = e

pub c_plain : {names : Names} {a b : List Token} {x : Tree} → Complete names Part.postfix a b x → Complete names Part.unary a b x
c_plain {names} {a} {b} {x} h stop d =
    let r = h (first_test (no_string b) (no_suffix_by (ahead b)) stop) d in
    record {
      finds = leads_from _ _ d (height x) _ r.unaries (chain_ends d _ _ (height x) x b r.chain (suffixes_end d (below d) names x b stop));
      casts = r.casts;
      no_type = r.no_type;
    }

-- a node over one part, behind a token of its own
module _ (names : Names) (a b : List Token) (x : Tree) (make : Tree → Tree) (same : suc (max (height x) 0) ≡ height (make x)) where
  one_part : (goal : Goal) → ((e : ℕ) → Finds (goal_in e (below e) goal names a) e (height x) x b) → (d : ℕ)
      → Finds (fit 2 d a (and_then ((below d).tree_of goal names a) (λ y end. found (make y) end))) d (height (make x)) (make x) b
  one_part goal kids d = node_of 2 (max (height x) 0) (height (make x)) a (λ r. and_then (r.tree_of goal names a) (λ y end. found (make y) end)) (found (make x) b) same (omega arith) (omega (arith, same))
      (λ e. leads_then _ _ e (height x) 0 x b _ (nested e (height x) names a b goal x (kids e)) (leads_here _ e)) d

pub c_increment : {names : Names} {a b : List Token} {x : Tree} {at : Place} → Complete names Part.unary a b x → Complete names Part.unary (mark PlusPlus at ∷ a) b (text_node kind.Unary (codes "++") at.start (one x))
unfolding ahead ahead_by unary_in unary_by cast_in cast_by goal_in
c_increment {names} {a} {b} {x} {at} h stop d = record {
  finds = one_part names a b x (λ y. text_node kind.Unary (codes "++") at.start (one y)) (omega arith) Goal.unary (λ e. (h stop e).finds) d;
  casts = refl;
  no_type = refl;
}

pub c_decrement : {names : Names} {a b : List Token} {x : Tree} {at : Place} → Complete names Part.unary a b x → Complete names Part.unary (mark MinusMinus at ∷ a) b (text_node kind.Unary (codes "--") at.start (one x))
unfolding ahead ahead_by unary_in unary_by cast_in cast_by goal_in
c_decrement {names} {a} {b} {x} {at} h stop d = record {
  finds = one_part names a b x (λ y. text_node kind.Unary (codes "--") at.start (one y)) (omega arith) Goal.unary (λ e. (h stop e).finds) d;
  casts = refl;
  no_type = refl;
}

-- what an operator begins
module _ (d : ℕ) (r : Reader) (names : Names) (ts : List Token) (at : Place) (rest : List Token) where
  operator_read : (op : Punct) → is_unary_operator op ≡ true
      → unary_by d r names ts (mark_ahead op at rest) ≡ fit 2 d rest (and_then (r.tree_of Goal.cast names rest) (λ x end. found (text_node kind.Unary (mark_text op) at.start (one x)) end))
  unfolding unary_by
  operator_read PlusPlus e = absurd (true≢false (sym e))
  operator_read MinusMinus e = absurd (true≢false (sym e))
  operator_read op e = ap (λ p. if p then fit 2 d rest (and_then (r.tree_of Goal.cast names rest) (λ x end. found (text_node kind.Unary (mark_text op) at.start (one x)) end)) else postfix_in d r names ts) e

  operator_casts : (op : Punct) → is_unary_operator op ≡ true → cast_by d r names ts (mark_ahead op at rest) ≡ unary_in d r names ts
  unfolding cast_by
  operator_casts LeftParenthesis e = absurd (true≢false (sym e))
  operator_casts op e = refl

  operator_type : (op : Punct) → is_unary_operator op ≡ true → begins_type_by names (mark_ahead op at rest) ≡ false
  operator_type LeftParenthesis e = absurd (true≢false (sym e))
  operator_type op e = refl

pub c_operator : {op : Punct} {names : Names} {a b : List Token} {x : Tree} {at : Place} → is_unary_operator op ≡ true → Complete names Part.cast a b x
    → Complete names Part.unary (mark op at ∷ a) b (text_node kind.Unary (mark_text op) at.start (one x))
unfolding ahead ahead_by unary_in cast_in goal_in
c_operator {op} {names} {a} {b} {x} {at} unary h stop d = record {
  finds = leads_from _ _ d _ _ (operator_read d (below d) names (mark op at ∷ a) at a op unary)
      (one_part names a b x (λ y. text_node kind.Unary (mark_text op) at.start (one y)) (omega arith) Goal.cast (λ e. h stop e) d);
  casts = operator_casts d (below d) names (mark op at ∷ a) at a op unary;
  no_type = operator_type d (below d) names (mark op at ∷ a) at a op unary;
}

-- `sizeof` behind which no type stands in parentheses
size_leads : (d h : ℕ) (r : Reader) (names : Names) (at : Place) (a : List Token) (next : Ahead) (answer : Answer Tree) → begins_type_by names next ≡ false
    → (begins_with_mark_by LeftParenthesis next ≡ true → 3 ≤ h)
    → Leads (fit 2 d a (and_then (r.tree_of Goal.unary names a) (λ x end. found (plain_node kind.SizeExpr at.start (one x)) end))) d h answer
    → Leads (fit 2 d a (size_in d r names at a next)) d h answer
unfolding size_in
size_leads d h r names at a (mark_ahead LeftParenthesis at2 rest2) answer e high f = leads_from _ _ d h answer
    (ap (λ p. fit 2 d a (fit 3 d rest2 (if p then
    and_then (r.tree_of Goal.type_name names rest2) (λ t behind.
    expect RightParenthesis behind (λ end. found (plain_node kind.SizeType at.start (one t)) end))
    else and_then (r.tree_of Goal.unary names a) (λ x end. found (plain_node kind.SizeExpr at.start (one x)) end)))) e)
    (leads_fit_within 2 3 d h a rest2 _ answer (high refl) f)
size_leads d h r names at a (mark_ahead p at2 rest2) answer e high f = f
size_leads d h r names at a next answer e high f = f

is_deep : Answer Tree → Bool
is_deep (deep rest) = true
is_deep next = false

parenthesis_deep : (names : Names) (at : Place) (a rest : List Token) → a ≡ mark LeftParenthesis at ∷ rest → unary_in 1 (below 1) names a ≡ deep rest
unfolding unary_in unary_by postfix_in primary_by and_then fit ahead ahead_by
parenthesis_deep names at a rest same = rw same refl

-- an expression that begins with a parenthesis is as high as 2
parenthesis_height : (names : Names) (a b : List Token) (x : Tree) → begins_with_mark LeftParenthesis a ≡ true
    → Finds (unary_in 1 (below 1) names a) 1 (height x) x b → 2 ≤ height x
unfolding is_deep
parenthesis_height names a b x e f = at (order (height x) 1)
  where
    at : (height x ≤ 1) ⊎ (1 < height x) → 2 ≤ height x
    at (inr lt) = lt
    at (inl le) = let first = mark_split LeftParenthesis a e in
        absurd (true≢false (ap is_deep (sym (parenthesis_deep names first.0 a (behind_one a) first.1) ∙ f.low le)))

pub c_size_of_expression : {names : Names} {a b : List Token} {x : Tree} {at : Place} → Complete names Part.unary a b x → Complete names Part.unary (word (codes "sizeof") at ∷ a) b (plain_node kind.SizeExpr at.start (one x))
unfolding ahead ahead_by unary_in unary_by cast_in cast_by goal_in
c_size_of_expression {names} {a} {b} {x} {at} h stop d = record {
  finds = size_leads d _ (below d) names at a (ahead a) _ (h stop d).no_type
      (λ e. let high = parenthesis_height names a b x e (h stop 1).finds in omega (arith, high))
      (one_part names a b x (λ y. plain_node kind.SizeExpr at.start (one y)) (omega arith) Goal.unary (λ e. (h stop e).finds) d);
  casts = refl;
  no_type = refl;
}

-- a type name, and then a parenthesis
module _ (names : Names) (front a b : List Token) (at2 : Place) (t : Tree) (make : Tree → Tree) (same : suc (max (height t) 0) ≡ height (make t)) where
  type_part : Complete names Part.type_name a (mark RightParenthesis at2 ∷ b) t → (d : ℕ)
      → Finds (fit 2 d front (and_then ((below d).tree_of Goal.type_name names a) (λ y behind. expect RightParenthesis behind (λ end. found (make y) end)))) d (height (make t)) (make t) b
  unfolding expect expect_by ahead ahead_by goal_in
  type_part h d = node_of 2 (max (height t) 0) (height (make t)) front (λ r. and_then (r.tree_of Goal.type_name names a) (λ y behind. expect RightParenthesis behind (λ end. found (make y) end))) (found (make t) b) same (omega arith) (omega (arith, same))
      (λ e. leads_then _ _ e (height t) 0 t (mark RightParenthesis at2 ∷ b) _ (nested e (height t) names a (mark RightParenthesis at2 ∷ b) Goal.type_name t (h refl e)) (leads_here _ e)) d

-- specs begin where a type name does
some_test : (p q r s t : Bool) → (p || q) || ((r || s) || t) ≡ true → p || (q || (r || (s || t))) ≡ true
some_test true q r s t e = refl
some_test false true r s t e = refl
some_test false false true s t e = refl
some_test false false false true t e = refl
some_test false false false false t e = e

last_true : (p q r s t : Bool) → t ≡ true → p || (q || (r || (s || t))) ≡ true
last_true true q r s t e = refl
last_true false true r s t e = refl
last_true false false true s t e = refl
last_true false false false true t e = refl
last_true false false false false t e = e

or_true : (p : Bool) → p || true ≡ true
or_true true = refl
or_true false = refl

word_specs : (names : Names) (text : List ℕ) → (p : Bool) → is_identifier text ≡ p → (q : Bool) → is_typedef_name names text ≡ q
    → word_front p q (is_type_word text || is_storage_word text) text ≡ of_specs
    → is_type_word text || (is_storage_word text || (bytes_eq text (codes "struct") || (bytes_eq text (codes "enum") || (is_identifier text && is_typedef_name names text)))) ≡ true
word_specs names text true name true typed e = last_true (is_type_word text) (is_storage_word text) (bytes_eq text (codes "struct")) (bytes_eq text (codes "enum")) (is_identifier text && is_typedef_name names text) (rw (name, typed) refl)
word_specs names text true name false typed e = absurd (no_specs e)
  where
    no_specs : of_expression ≡ of_specs → ⊥
    no_specs e = true≢false (ap begins_statement e)
word_specs names text false name q typed e = at (is_type_word text || is_storage_word text) (is_among tags text) refl refl (bytes_eq (codes "sizeof") text) (is_among statement_words text) e
  where
    no_expression : of_expression ≡ of_specs → ⊥
    no_expression e = true≢false (ap begins_statement e)

    no_statement : of_statement ≡ of_specs → ⊥
    no_statement e = true≢false (ap begins_statement e)

    is_other : Front → Bool
    is_other other = true
    is_other f = false

    at : (p r : Bool) → is_type_word text || is_storage_word text ≡ p → is_among tags text ≡ r → (s t : Bool) → keyword_front (p || r) s t ≡ of_specs
        → is_type_word text || (is_storage_word text || (bytes_eq text (codes "struct") || (bytes_eq text (codes "enum") || (is_identifier text && is_typedef_name names text)))) ≡ true
    at true r f g s t e = some_test (is_type_word text) (is_storage_word text) (bytes_eq text (codes "struct")) (bytes_eq text (codes "enum")) (is_identifier text && is_typedef_name names text) (ap (λ p. p || ((bytes_eq text (codes "struct") || bytes_eq text (codes "enum")) || (is_identifier text && is_typedef_name names text))) f)
    at false true f g s t e = some_test (is_type_word text) (is_storage_word text) (bytes_eq text (codes "struct")) (bytes_eq text (codes "enum")) (is_identifier text && is_typedef_name names text)
        (ap (λ p. (is_type_word text || is_storage_word text) || (p || (is_identifier text && is_typedef_name names text))) (among (λ w. bytes_eq w (codes "struct") || bytes_eq w (codes "enum")) tags text refl g) ∙ or_true (is_type_word text || is_storage_word text))
    at false false f g true t e = absurd (no_expression e)
    at false false f g false true e = absurd (no_statement e)
    at false false f g false false e = absurd (true≢false (ap is_other e))

pub specs_front : (names : Names) (a : List Token) → front names a ≡ of_specs → begins_specifier false names a ≡ true
unfolding ahead ahead_by begins_specifier_by
specs_front names [] e = absurd (none e)
  where
    is_other : Front → Bool
    is_other other = true
    is_other f = false

    none : other ≡ of_specs → ⊥
    none e = true≢false (ap is_other e)
specs_front names (t ∷ rest) e = by t.kind e
  where
    no_expression : of_expression ≡ of_specs → ⊥
    no_expression e = true≢false (ap begins_statement e)

    no_mark : (b : Bool) (p : Punct) → mark_front b p ≡ of_specs → ⊥
    no_mark b p e = true≢false (sym (ap is_specs e) ∙ marks b p)
      where
        is_specs : Front → Bool
        is_specs of_specs = true
        is_specs f = false

        marks : (b : Bool) (p : Punct) → is_specs (mark_front b p) ≡ false
        marks true p = refl
        marks false LeftParenthesis = refl
        marks false PlusPlus = refl
        marks false MinusMinus = refl
        marks false LeftBrace = refl
        marks false Semicolon = refl
        marks false p = refl

    by : (k : TokenKind) → kind_front names k ≡ of_specs → begins_specifier_by false names (ahead_by k (record { start = t.start; end = t.end }) rest) ≡ true
    by (token.Word text) e = word_specs names text (is_identifier text) refl (is_typedef_name names text) refl e
    by (token.Punct p) e = absurd (no_mark (is_unary_operator p) p e)
    by (token.Int value type) e = absurd (no_expression e)
    by (token.Char value) e = absurd (no_expression e)
    by (token.Str bytes) e = absurd (no_expression e)

type_height : {names : Names} {a b : List Token} {t : Tree} → Derives names Part.type_name a b t → 2 ≤ height t
type_height (Derivation.bare_type d) = omega arith
type_height (Derivation.derived_type d e) = omega arith

pub c_size_of_type : {names : Names} {a b : List Token} {at3 at at2 : Place} {t : Tree} → Derives names Part.type_name a (mark RightParenthesis at3 ∷ b) t → Complete names Part.type_name a (mark RightParenthesis at3 ∷ b) t
    → Complete names Part.unary (word (codes "sizeof") at ∷ mark LeftParenthesis at2 ∷ a) b (plain_node kind.SizeType at.start (one t))
unfolding ahead ahead_by unary_in unary_by cast_in cast_by size_in
c_size_of_type {names} {a} {b} {at3} {at} {at2} {t} derived h stop d = record {
  finds = leads_from _ _ d _ _ (ap (λ p. fit 2 d (mark LeftParenthesis at2 ∷ a) (fit 3 d a (if p then
      and_then ((below d).tree_of Goal.type_name names a) (λ t behind.
      expect RightParenthesis behind (λ end. found (plain_node kind.SizeType at.start (one t)) end))
      else and_then ((below d).tree_of Goal.unary names (mark LeftParenthesis at2 ∷ a)) (λ x end. found (plain_node kind.SizeExpr at.start (one x)) end)))) (specs_front names a (has_front derived)))
      (leads_fit_within 2 3 d _ (mark LeftParenthesis at2 ∷ a) a _ _ (let high = type_height derived in omega (arith, high))
      (type_part names (mark LeftParenthesis at2 ∷ a) a b at3 t (λ y. plain_node kind.SizeType at.start (one y)) (omega arith) h d));
  casts = refl;
  no_type = refl;
}

pub c_cast_to : (names : Names) (a b c : List Token) (at2 at : Place) (t x : Tree) → Derives names Part.type_name a (mark RightParenthesis at2 ∷ b) t → Complete names Part.type_name a (mark RightParenthesis at2 ∷ b) t
    → Complete (after names t) Part.cast b c x → Complete names Part.cast (mark LeftParenthesis at ∷ a) c (plain_node kind.Cast at.start (two t x))
unfolding ahead ahead_by cast_in cast_by expect expect_by goal_in
c_cast_to names a b c at2 at t x derived h k stop d =
    leads_from _ _ d _ _ (ap (λ p. if p then fit 2 d a (and_then ((below d).tree_of Goal.type_name names a) (λ t behind.
    expect RightParenthesis behind (λ behind2.
    and_then ((below d).tree_of Goal.cast (after names t) behind2) (λ y end. found (plain_node kind.Cast at.start (two t y)) end))))
    else unary_in d (below d) names (mark LeftParenthesis at ∷ a)) (specs_front names a (has_front derived)))
    (node_of 2 (max (height t) (max (height x) 0)) (height (plain_node kind.Cast at.start (two t x))) a (λ r. and_then (r.tree_of Goal.type_name names a) (λ t behind.
    expect RightParenthesis behind (λ behind2.
    and_then (r.tree_of Goal.cast (after names t) behind2) (λ y end. found (plain_node kind.Cast at.start (two t y)) end))))
    (found (plain_node kind.Cast at.start (two t x)) c) (omega arith) (omega arith) (omega arith)
    (λ e. leads_then _ _ e (height t) (max (height x) 0) t (mark RightParenthesis at2 ∷ b) _ (nested e (height t) names a (mark RightParenthesis at2 ∷ b) Goal.type_name t (h refl e))
    (leads_then _ _ e (height x) 0 x c _ (nested e (height x) (after names t) b c Goal.cast x (k stop e)) (leads_here _ e))) d)

pub c_uncast : (names : Names) (a b : List Token) (x : Tree) → Complete names Part.unary a b x → Complete names Part.cast a b x
c_uncast names a b x h stop d = leads_from _ _ d (height x) _ (h stop d).casts (h stop d).finds

pub c_tightest : (names : Names) (a b : List Token) (x : Tree) → Complete names Part.cast a b x → Complete names (Part.binary zero) a b x
unfolding binary_in
c_tightest names a b x h stop d = h stop d

-- ---- binary expressions

first_of_two : (p q : Bool) → p && q ≡ true → p ≡ true
first_of_two true q e = refl
first_of_two false q e = e

second_of_two : (p q : Bool) → p && q ≡ true → q ≡ true
second_of_two true q e = e
second_of_two false q e = absurd (true≢false (sym e))

both_true : (p q : Bool) → p ≡ true → q ≡ true → p && q ≡ true
both_true p q e f = rw (e, f) refl

-- where no operator up to a level stands, none up to a lower one does
no_operator_below : (n : ℕ) (h : Ahead) → no_operator_by (suc n) h ≡ true → no_operator_by n h ≡ true
no_operator_below n (mark_ahead op at rest) e = lower (level_of op) e
  where
    lower : (l : ℕ) → (l == 0) || nat_lt (suc n) l ≡ true → (l == 0) || nat_lt n l ≡ true
    lower l e = grind (arith, nat_tests)
no_operator_below n nothing_ahead e = refl
no_operator_below n (word_ahead text at rest) e = refl
no_operator_below n (integer_ahead value type at rest) e = refl
no_operator_below n (character_ahead value at rest) e = refl
no_operator_below n (string_ahead bytes at rest) e = refl

pub ends_below : (n : ℕ) (b : List Token) → Is (ends_binary (suc n) b) → Is (ends_binary n b)
ends_below n b e = both_true (ends_postfix b) _ (first_of_two (ends_postfix b) _ e) (no_operator_below n (ahead b) (second_of_two (ends_postfix b) _ e))

operands_end : (d : ℕ) (r : Reader) (n : ℕ) (names : Names) (x : Tree) (b : List Token) → Is (ends_binary (suc n) b) → (k : ℕ) → operands d r k n names x b ≡ found x b
unfolding operands operand_by
operands_end d r n names x b stop k = at k (second_of_two (ends_postfix b) _ stop)
  where
    no_level : (l : ℕ) → (l == 0) || nat_lt (suc n) l ≡ true → (l == suc n) ≡ false
    no_level l e = grind (arith, nat_tests)

    by : (go : Tree → List Token → Answer Tree) (h : Ahead) → no_operator_by (suc n) h ≡ true → operand_by d r n names x b go h ≡ found x b
    by go (mark_ahead op at rest) e = ap (λ p. if p then
        fit (suc (height x)) d rest (and_then (r.tree_of (Goal.binary n) (after names x) rest) (λ y end. go (text_node kind.Binary (mark_text op) (start x) (two x y)) end))
        else found x b) (no_level (level_of op) e)
    by go nothing_ahead e = refl
    by go (word_ahead text at rest) e = refl
    by go (integer_ahead value type at rest) e = refl
    by go (character_ahead value at rest) e = refl
    by go (string_ahead bytes at rest) e = refl

    at : (k : ℕ) → no_operator_by (suc n) (ahead b) ≡ true → operands d r k n names x b ≡ found x b
    at zero e = by dead (ahead b) e
    at (suc k) e = by (operands d r k n names) (ahead b) e

-- a binary expression in full
pub binary_finds : (n : ℕ) (names : Names) (a b : List Token) (t : Tree) → Complete names (Part.binary n) a b t → Is (ends_binary n b) → (d : ℕ) → Finds (binary_in d (below d) n names a) d (height t) t b
binary_finds zero names a b t h stop d = h (first_of_two (ends_postfix b) _ stop) d
binary_finds (suc n) names a b t h stop d = chain_ends d _ _ (height t) t b (h (ends_below n b stop) d) (operands_end d (below d) n names t b stop)

pub c_tighter : (names : Names) (n : ℕ) (a b : List Token) (x : Tree) → Complete names (Part.binary n) a b x → Complete names (Part.binary (suc n)) a b x
unfolding binary_in
c_tighter names n a b x h stop d =
    let f = binary_finds n names a b x h stop d in
    record {
      low = λ le. (d, omega arith, then_found _ _ x b (f.low le));
      high = λ lt. then_deep _ _ (f.high lt);
    }

is_level : (n l : ℕ) → l ≡ suc n → (l == suc n) ≡ true
is_level n l e = grind (arith, nat_tests)

level_above : (n l : ℕ) → l ≡ suc n → (l == 0) || nat_lt n l ≡ true
level_above n l e = grind (arith, nat_tests)

-- an operator is no suffix
level_ends : (op : Punct) (n : ℕ) (at : Place) (b : List Token) → level_of op ≡ suc n → Is (ends_postfix (mark op at ∷ b))
unfolding ahead ahead_by
level_ends LeftBracket n at b e = absurd (omega (arith, e))
level_ends LeftParenthesis n at b e = absurd (omega (arith, e))
level_ends Dot n at b e = absurd (omega (arith, e))
level_ends Arrow n at b e = absurd (omega (arith, e))
level_ends PlusPlus n at b e = absurd (omega (arith, e))
level_ends MinusMinus n at b e = absurd (omega (arith, e))
level_ends op n at b e = refl

pub c_chain : (names : Names) (n : ℕ) (a b c : List Token) (op : Punct) (at : Place) (l r : Tree) → Complete names (Part.binary (suc n)) a (mark op at ∷ b) l → level_of op ≡ suc n → Complete (after names l) (Part.binary n) b c r
    → Complete names (Part.binary (suc n)) a c (text_node kind.Binary (mark_text op) (start l) (two l r))
unfolding operands operand_by ahead ahead_by goal_in
c_chain names n a b c op at l r h level k stop d =
    chain_link d _ (λ k. operands d (below d) k n names) (height l) (max (height r) 0) _ l (text_node kind.Binary (mark_text op) (start l) (two l r)) (mark op at ∷ b) c b
    (λ go reader. and_then (reader.tree_of (Goal.binary n) (after names l) b) (λ y end. go (text_node kind.Binary (mark_text op) (start l) (two l y)) end))
    (omega arith) (taken dead) (λ m. taken (operands d (below d) m n names))
    (λ go e. leads_then _ _ e (height r) 0 r c _ (nested e (height r) (after names l) b c (Goal.binary n) r (binary_finds n (after names l) b c r k stop e)) (leads_here _ e))
    (h (both_true (ends_postfix (mark op at ∷ b)) (no_operator_by n (mark_ahead op at b)) (level_ends op n at b level) (level_above n (level_of op) level)) d)
  where
    taken : (go : Tree → List Token → Answer Tree) → operand_by d (below d) n names l (mark op at ∷ b) go (mark_ahead op at b)
        ≡ fit (suc (height l)) d b (and_then ((below d).tree_of (Goal.binary n) (after names l) b) (λ y end. go (text_node kind.Binary (mark_text op) (start l) (two l y)) end))
    taken go = ap (λ p. if p then
        fit (suc (height l)) d b (and_then ((below d).tree_of (Goal.binary n) (after names l) b) (λ y end. go (text_node kind.Binary (mark_text op) (start l) (two l y)) end))
        else found l (mark op at ∷ b)) (is_level n (level_of op) level)

-- ---- conditional and assignment expressions, and commas

pub c_unconditional : (names : Names) (a b : List Token) (x : Tree) → Complete names (Part.binary 10) a b x → Complete names Part.conditional a b x
unfolding conditional_in choice_by
c_unconditional names a b x h stop d =
    let f = binary_finds 10 names a b x h (first_of_two (ends_binary 10 b) _ stop) d in
    record {
      low = λ le. then_found _ _ x b (f.low le) ∙ no_choice (ahead b) (not_false _ (second_of_two (ends_binary 10 b) _ stop));
      high = λ lt. then_deep _ _ (f.high lt);
    }
  where
    not_false : (p : Bool) → not p ≡ true → p ≡ false
    not_false true e = sym e
    not_false false e = refl

    no_choice : (h : Ahead) → begins_with_mark_by Question h ≡ false → choice_by d (below d) names x b h ≡ found x b
    no_choice (mark_ahead Question at rest) e = absurd (true≢false e)
    no_choice (mark_ahead p at rest) e = refl
    no_choice h e = refl

-- behind an operator, where h is the height of what stands before it
module _ {T : Type 0} (h k : ℕ) (rest : List Token) (parts : Reader → Answer T) (next : Answer T) (kids : (e : ℕ) → Leads (parts (read e)) e k next) where
  pub fit_leads : (d : ℕ) → Leads (fit (suc h) d rest (parts (below d))) d (suc (max h k)) next
  fit_leads zero = record {
    low = λ le. absurd (omega (arith, le));
    high = λ lt. record { behind = rest; too_deep = beyond (suc h) zero rest (parts (below zero)) (omega arith) };
  }
  fit_leads (suc e) = at (order h e)
    where
      at : (h ≤ e) ⊎ (e < h) → Leads (fit (suc h) (suc e) rest (parts (read e))) (suc e) (suc (max h k)) next
      at (inl le) = leads_from _ _ (suc e) _ next (within (suc h) (suc e) rest (parts (read e)) (omega (arith, le))) (record {
        low = λ small. (kids e).low (omega (arith, small));
        high = λ lt. (kids e).high (omega (arith, lt, le));
      })
      at (inr over) = record {
        low = λ small. absurd (omega (arith, small, over));
        high = λ lt. record { behind = rest; too_deep = beyond (suc h) (suc e) rest (parts (read e)) (omega (arith, over)) };
      }

pub c_choice : (names : Names) (a b c d : List Token) (at at2 : Place) (x y z : Tree) → Complete names (Part.binary 10) a (mark Question at ∷ b) x → Complete (after names x) Part.expression b (mark Colon at2 ∷ c) y
    → Complete (after (after names x) y) Part.conditional c d z → Complete names Part.conditional a d (plain_node kind.Cond (start x) (three x y z))
unfolding conditional_in choice_by ahead ahead_by expect expect_by goal_in
c_choice names a b c rest at at2 x y z h k l stop d =
    leads_height _ d _ (height (plain_node kind.Cond (start x) (three x y z))) _ (omega arith) (leads_then _ _ d (height x) (suc (max (height x) (max (height y) (max (height z) 0)))) x (mark Question at ∷ b) _ (binary_finds 10 names a _ x h refl d)
    (fit_leads (height x) (max (height y) (max (height z) 0)) b (λ r. and_then (r.tree_of Goal.expression (after names x) b) (λ y behind.
    expect Colon behind (λ behind2.
    and_then (r.tree_of Goal.conditional (after (after names x) y) behind2) (λ z end. found (plain_node kind.Cond (start x) (three x y z)) end)))) (found (plain_node kind.Cond (start x) (three x y z)) rest)
    (λ e. leads_then _ _ e (height y) (max (height z) 0) y (mark Colon at2 ∷ c) _ (nested e (height y) (after names x) b _ Goal.expression y (expression_finds (after names x) b _ y k refl refl e))
    (leads_then _ _ e (height z) 0 z rest _ (nested e (height z) (after (after names x) y) c rest Goal.conditional z (l stop e)) (leads_here _ e))) d))

pub c_unassigned : (names : Names) (a b : List Token) (x : Tree) → Complete names Part.conditional a b x → Complete names Part.assignment a b x
unfolding assignment_in assigned_by
c_unassigned names a b x h stop d =
    let f = h (first_of_two (ends_conditional b) _ stop) d in
    record {
      low = λ le. then_found _ _ x b (f.low le) ∙ no_assigned (ahead b) (second_of_two (ends_conditional b) _ stop);
      high = λ lt. then_deep _ _ (f.high lt);
    }
  where
    no_assigned : (h : Ahead) → no_assignment_by h ≡ true → assigned_by d (below d) names x b h ≡ found x b
    no_assigned (mark_ahead op at rest) e = ap (λ p. if p && is_unary_by x.label.kind then
        fit (suc (height x)) d rest (and_then ((below d).tree_of Goal.assignment (after names x) rest) (λ y end. found (text_node kind.Assign (mark_text op) (start x) (two x y)) end))
        else found x b) (not_true (is_assignment op) e)
    no_assigned h e = refl

-- an assignment operator ends a conditional expression
assignment_ends : (op : Punct) (at : Place) (b : List Token) → is_assignment op ≡ true → Is (ends_conditional (mark op at ∷ b))
unfolding ahead ahead_by
assignment_ends Equal at b e = refl
assignment_ends StarEqual at b e = refl
assignment_ends SlashEqual at b e = refl
assignment_ends PercentEqual at b e = refl
assignment_ends PlusEqual at b e = refl
assignment_ends MinusEqual at b e = refl
assignment_ends ShiftLeftEqual at b e = refl
assignment_ends ShiftRightEqual at b e = refl
assignment_ends AmpersandEqual at b e = refl
assignment_ends CaretEqual at b e = refl
assignment_ends BarEqual at b e = refl
assignment_ends op at b e = absurd (true≢false (sym e))

-- a unary expression by its kind
pub unary_kind : {names : Names} {a b : List Token} {x : Tree} → Derives names Part.unary a b x → is_unary_by x.label.kind ≡ true
unfolding is_unary_by
unary_kind (Derivation.increment d) = refl
unary_kind (Derivation.decrement d) = refl
unary_kind (Derivation.operator u d) = refl
unary_kind (Derivation.size_of_expression d) = refl
unary_kind (Derivation.size_of_type d) = refl
unary_kind (Derivation.plain d) = of_postfix d
  where
    of_primary : {names : Names} {a b : List Token} {x : Tree} → Derives names Part.primary a b x → is_unary_by x.label.kind ≡ true
    of_primary (Derivation.variable e f) = refl
    of_primary Derivation.integer_constant = refl
    of_primary Derivation.character_constant = refl
    of_primary (Derivation.string_literal l) = refl
    of_primary (Derivation.in_parentheses d) = refl

    of_postfix : {names : Names} {a b : List Token} {x : Tree} → Derives names Part.postfix a b x → is_unary_by x.label.kind ≡ true
    of_postfix (Derivation.primary_of d) = of_primary d
    of_postfix (Derivation.index d e) = refl
    of_postfix (Derivation.call d e) = refl
    of_postfix (Derivation.dot d e) = refl
    of_postfix (Derivation.arrow d e) = refl
    of_postfix (Derivation.post_increment d) = refl
    of_postfix (Derivation.post_decrement d) = refl

-- a unary expression as one of every level
pub unary_as_conditional : (names : Names) (a b : List Token) (x : Tree) → Complete names Part.unary a b x → Complete names Part.conditional a b x
unary_as_conditional names a b x h = c_unconditional names a b x (levels 10)
  where
    levels : (n : ℕ) → Complete names (Part.binary n) a b x
    levels zero = c_tightest names a b x (c_uncast names a b x h)
    levels (suc n) = c_tighter names n a b x (levels n)

pub c_assigned : (names : Names) (a b c : List Token) (op : Punct) (at : Place) (l r : Tree) → Derives names Part.unary a (mark op at ∷ b) l → Complete names Part.unary a (mark op at ∷ b) l → is_assignment op ≡ true
    → Complete (after names l) Part.assignment b c r → Complete names Part.assignment a c (text_node kind.Assign (mark_text op) (start l) (two l r))
unfolding assignment_in assigned_by ahead ahead_by goal_in
c_assigned names a b c op at l r derived h assigns k stop d =
    leads_height _ d _ (height (text_node kind.Assign (mark_text op) (start l) (two l r))) _ (omega arith) (leads_then _ _ d (height l) (suc (max (height l) (max (height r) 0))) l (mark op at ∷ b) _
    (unary_as_conditional names a (mark op at ∷ b) l h (assignment_ends op at b assigns) d)
    (leads_from _ _ d _ _ (ap (λ p. if p then
    fit (suc (height l)) d b (and_then ((below d).tree_of Goal.assignment (after names l) b) (λ y end. found (text_node kind.Assign (mark_text op) (start l) (two l y)) end))
    else found l (mark op at ∷ b)) (both_true (is_assignment op) (is_unary_by l.label.kind) assigns (unary_kind derived)))
    (fit_leads (height l) (max (height r) 0) b (λ reader. and_then (reader.tree_of Goal.assignment (after names l) b) (λ y end. found (text_node kind.Assign (mark_text op) (start l) (two l y)) end))
    (found (text_node kind.Assign (mark_text op) (start l) (two l r)) c)
    (λ e. leads_then _ _ e (height r) 0 r c _ (nested e (height r) (after names l) b c Goal.assignment r (k stop e)) (leads_here _ e)) d)))

pub c_single_expression : (names : Names) (a b : List Token) (x : Tree) → Complete names Part.assignment a b x → Complete names Part.expression a b x
unfolding expression_in
c_single_expression names a b x h stop d =
    let f = h stop d in
    record {
      low = λ le. (d, omega arith, then_found _ _ x b (f.low le));
      high = λ lt. then_deep _ _ (f.high lt);
    }

pub c_comma : (names : Names) (a b c : List Token) (at : Place) (l r : Tree) → Complete names Part.expression a (mark Comma at ∷ b) l → Complete (after names l) Part.assignment b c r
    → Complete names Part.expression a c (plain_node kind.Comma (start l) (two l r))
unfolding commas comma_by ahead ahead_by goal_in
c_comma names a b c at l r h k stop d =
    chain_link d _ (λ k. commas d (below d) k names) (height l) (max (height r) 0) _ l (plain_node kind.Comma (start l) (two l r)) (mark Comma at ∷ b) c b
    (λ go reader. and_then (reader.tree_of Goal.assignment (after names l) b) (λ y end. go (plain_node kind.Comma (start l) (two l y)) end))
    (omega arith) refl (λ m. refl)
    (λ go e. leads_then _ _ e (height r) 0 r c _ (nested e (height r) (after names l) b c Goal.assignment r (k stop e)) (leads_here _ e))
    (h refl d)
