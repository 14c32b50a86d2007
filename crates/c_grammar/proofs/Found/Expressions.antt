-- Expressions that are derived are read.
use Rattle.std.proofs.Common.{◌≡◌, ℕ, zero, suc, ◌≤◌, Bool, true, false, List, [], ◌∷◌, ◌++◌, append_assoc, refl, sym, ap, ◌∙◌, subst, arith, codes, true≢false}
use Rattle.std.proofs.lemmas.Slice.Eq.{bytes_eq-Decides}
use Rattle.std.specs.Prelude.{◌||◌, ◌&&◌, not, max, if◌then◌else◌}
use Rattle.std.specs.Str.{bytes_eq}
use Rattle.c_lexer.specs.declared.token.IntType.{IntType}
use Rattle.c_lexer.specs.declared.token.Punct.TheVariants.{LeftBracket, RightBracket, LeftParenthesis, RightParenthesis, Dot, Arrow, PlusPlus, MinusMinus, Comma}
use Rattle.c_lexer.specs.declared.token.Token.{Token}
use Rattle.c_lexer.specs.declared.token.TokenKind.{TokenKind}
use Rattle.c_lexer.specs.declared.token.TokenKind.TheVariants as token
use Rattle.c_syntax.specs.declared.kind.SynKind.TheVariants as kind
use Rattle.c_syntax.specs.Trees.{Tree, Forest, none, ◌then◌, one, two, text_node, plain_node, int_node, char_node, string_node, height, forest_height}
use Rattle.c_grammar.specs.Vocabulary.{is_among, keywords, is_identifier, is_type_word, is_storage_word, Place, mark, word, integer, character, string}
use Rattle.c_grammar.specs.Scopes.{Names, is_typedef_name, after}
use Rattle.c_grammar.specs.Derivation.{Part, Row, Derives, Lists, Literals, start}
use Rattle.c_grammar.specs.Answers.{Answer, found, wrong, deep, and_then, fit, Ahead, mark_ahead, ahead, ahead_by, expect, expect_by, expect_identifier, expect_identifier_by}
use Rattle.c_grammar.specs.Reading.{Reader, Goal, Rows, begins_with_mark, begins_with_mark_by, begins_specifier, begins_specifier_by, is_variable, primary_by, suffix_by, suffixes, postfix_in, unary_by, unary_in, size_in, cast_by, cast_in, comma_by, commas, expression_in, goal_in, rows_in, level, read, joined_behind, joined_by, string_in, below}
use Rattle.c_grammar.specs.Derivation
use Rattle.c_grammar.proofs.Budgets.{then_found, then_deep, Leads, Finds, leads_from, leads_height, leads_here, leads_then, node_leads, Chain, chain_ends, chain_goes_on}
use Rattle.c_grammar.proofs.Found.Claims.{Complete, CompleteRow, Is, no_string_by, no_string, ends_assignment}
use Rattle.c_grammar.proofs.FirstTokens.{has_front, front, kind_front, word_front, keyword_front, of_expression, of_specs, begins_statement, among}

-- ---- what reads the parts of a node

pub read_level : (e : ℕ) → read e ≡ level e (below e)
unfolding read
read_level zero = refl
read_level (suc e) = refl

module _ (e h : ℕ) (names : Names) (a b : List Token) where
  pub nested : (goal : Goal) (t : Tree) → Finds (goal_in e (below e) goal names a) e h t b → Finds ((read e).tree_of goal names a) e h t b
  unfolding level
  nested goal t f = leads_from _ _ e h (found t b) (ap (λ (r : Reader). r.tree_of goal names a) (read_level e)) f

  pub nested_row : (row : Rows) (ts : Forest) → Finds (rows_in e (below e) row names a) e h ts b → Finds ((read e).trees_of row names a) e h ts b
  unfolding level
  nested_row row ts f = leads_from _ _ e h (found ts b) (ap (λ (r : Reader). r.trees_of row names a) (read_level e)) f

-- ---- words

pub not_keyword : (text keyword : List ℕ) → is_identifier keyword ≡ false → is_identifier text ≡ true → bytes_eq text keyword ≡ false
not_keyword text keyword is name = at (bytes_eq text keyword) refl
  where
    at : (p : Bool) → bytes_eq text keyword ≡ p → bytes_eq text keyword ≡ false
    at false e = e
    at true e = absurd (true≢false (sym name ∙ ap is_identifier ((bytes_eq-Decides text keyword).0 e) ∙ is))

-- ---- primary expressions

module _ {T : Type 0} (next : Answer T) where
  -- a node of one token
  pub leaf_leads : (rest : List Token) (d : ℕ) → Leads (fit 1 d rest next) d 1 next
  leaf_leads rest d = node_leads 1 0 rest (λ r. next) next (omega arith) (omega arith) (λ e. leads_here next e) d

pub c_variable : {text : List ℕ} {names : Names} {at : Place} {b : List Token} → is_identifier text ≡ true → is_typedef_name names text ≡ false
    → Complete names Part.primary (word text at ∷ b) b (text_node kind.Var text at.start none)
unfolding ahead ahead_by primary_by unary_in unary_by cast_in cast_by
c_variable {text} {names} {at} {b} name typed stop d = record {
  finds = leads_from _ _ d 1 _ (ap (λ t. if t then fit 1 d b (found (text_node kind.Var text at.start none) b) else wrong (word text at ∷ b)) is_one) (leaf_leads (found (text_node kind.Var text at.start none) b) b d);
  unaries = ap (λ t. if t then fit 2 d b (size_in d (below d) names at b (ahead b)) else postfix_in d (below d) names (word text at ∷ b)) (not_keyword text (codes "sizeof") refl name);
  casts = refl;
  no_type = refl;
}
  where
    is_one : is_variable names text ≡ true
    is_one = ap (λ p. p && not (is_typedef_name names text)) name ∙ ap not typed

pub c_integer_constant : {names : Names} {value : ℕ} {type : IntType} {at : Place} {b : List Token} → Complete names Part.primary (integer value type at ∷ b) b (int_node type value at.start)
unfolding ahead ahead_by primary_by unary_in unary_by cast_in cast_by
c_integer_constant stop d = record { finds = leaf_leads _ _ d; unaries = refl; casts = refl; no_type = refl }

pub c_character_constant : {names : Names} {value : ℕ} {at : Place} {b : List Token} → Complete names Part.primary (character value at ∷ b) b (char_node value at.start)
unfolding ahead ahead_by primary_by unary_in unary_by cast_in cast_by
c_character_constant stop d = record { finds = leaf_leads _ _ d; unaries = refl; casts = refl; no_type = refl }

-- ---- by the first token

either_true : (p q : Bool) → p || q ≡ false → (p ≡ false) × (q ≡ false)
either_true true q e = absurd (true≢false e)
either_true false q e = (refl, e)

false_by : (p : Bool) → (p ≡ true → ⊥) → p ≡ false
false_by true h = absurd (h refl)
false_by false h = refl

abbrev type_words : List (List ℕ)
type_words = codes "void" ∷ codes "char" ∷ codes "short" ∷ codes "int" ∷ codes "long" ∷ codes "signed" ∷ codes "unsigned" ∷ codes "_Bool" ∷ []

pub no_type_word : (text : List ℕ) → is_identifier text ≡ true → is_type_word text ≡ false
no_type_word text name = false_by (is_type_word text) (λ e. true≢false (sym name ∙ ap not (among (is_among keywords) type_words text refl e)))

abbrev storage_words : List (List ℕ)
storage_words = codes "typedef" ∷ codes "extern" ∷ codes "static" ∷ codes "auto" ∷ codes "register" ∷ codes "const" ∷ []

pub no_storage_word : (text : List ℕ) → is_identifier text ≡ true → is_storage_word text ≡ false
no_storage_word text name = false_by (is_storage_word text) (λ e. true≢false (sym name ∙ ap not (among (is_among keywords) storage_words text refl e)))

abbrev pub tags : List (List ℕ)
tags = codes "struct" ∷ codes "enum" ∷ []

abbrev pub statement_words : List (List ℕ)
statement_words = codes "if" ∷ codes "while" ∷ codes "do" ∷ codes "for" ∷ codes "break" ∷ codes "continue" ∷ codes "return" ∷ codes "switch" ∷ []

-- the test of a word, from the tests that it is made of
word_begins : (p q r s t : Bool) → p ≡ false → q ≡ false → r ≡ false → s ≡ false → t ≡ false → p || (q || (r || (s || t))) ≡ false
word_begins p q r s t a b c d e = rw (a, b, c, d, e) refl

word_no_specs : (names : Names) (text : List ℕ) → (p : Bool) → is_identifier text ≡ p → (q : Bool) → is_typedef_name names text ≡ q
    → word_front p q (is_type_word text || is_storage_word text) text ≡ of_expression
    → is_type_word text || (is_storage_word text || (bytes_eq text (codes "struct") || (bytes_eq text (codes "enum") || (is_identifier text && is_typedef_name names text)))) ≡ false
word_no_specs names text true name true typed e = absurd (of_specs≢ e)
  where
    of_specs≢ : of_specs ≡ of_expression → ⊥
    of_specs≢ e = true≢false (sym (ap begins_statement e))
word_no_specs names text true name false typed e = word_begins _ _ _ _ _ (no_type_word text name) (no_storage_word text name) (not_keyword text (codes "struct") refl name) (not_keyword text (codes "enum") refl name) (ap (λ p. is_identifier text && p) typed ∙ both (is_identifier text))
  where
    both : (p : Bool) → p && false ≡ false
    both true = refl
    both false = refl
word_no_specs names text false name q typed e = at (is_type_word text) (is_storage_word text) (is_among tags text) refl refl refl (bytes_eq (codes "sizeof") text) (is_among statement_words text) e
  where
    of_specs≢ : of_specs ≡ of_expression → ⊥
    of_specs≢ e = true≢false (sym (ap begins_statement e))

    -- of the words with tags
    no_tag : is_among tags text ≡ false → (tag : List ℕ) → is_among tags tag ≡ true → bytes_eq text tag ≡ false
    no_tag g tag there = false_by (bytes_eq text tag) (λ e. true≢false (sym there ∙ ap (is_among tags) (sym ((bytes_eq-Decides text tag).0 e)) ∙ g))

    at : (p q r : Bool) → is_type_word text ≡ p → is_storage_word text ≡ q → is_among tags text ≡ r → (s t : Bool) → keyword_front ((p || q) || r) s t ≡ of_expression
        → is_type_word text || (is_storage_word text || (bytes_eq text (codes "struct") || (bytes_eq text (codes "enum") || (is_identifier text && is_typedef_name names text)))) ≡ false
    at true q r f g h s t e = absurd (of_specs≢ e)
    at false true r f g h s t e = absurd (of_specs≢ e)
    at false false true f g h s t e = absurd (of_specs≢ e)
    at false false false f g h s t e = word_begins _ _ _ _ _ f g (no_tag h (codes "struct") refl) (no_tag h (codes "enum") refl) (ap (λ p. p && is_typedef_name names text) name)

pub expression_front : (names : Names) (a : List Token) → front names a ≡ of_expression → begins_specifier false names a ≡ false
unfolding ahead ahead_by begins_specifier_by
expression_front names [] e = refl
expression_front names (t ∷ rest) e = by t.kind e
  where
    by : (k : TokenKind) → kind_front names k ≡ of_expression → begins_specifier_by false names (ahead_by k (record { start = t.start; end = t.end }) rest) ≡ false
    by (token.Word text) e = word_no_specs names text (is_identifier text) refl (is_typedef_name names text) refl e
    by (token.Punct p) e = refl
    by (token.Int value type) e = refl
    by (token.Char value) e = refl
    by (token.Str bytes) e = refl

-- ---- nodes with one part, two and three

module _ {T : Type 0} (needed h k : ℕ) (rest : List Token) (parts : Reader → Answer T) (next : Answer T) (same : suc h ≡ k) (some : 1 ≤ needed) (least : needed ≤ k) where
  pub node_of : ((e : ℕ) → Leads (parts (read e)) e h next) → (d : ℕ) → Leads (fit needed d rest (parts (below d))) d k next
  node_of kids d = leads_height _ d (suc h) k next same (node_leads needed h rest parts next some (omega (arith, same, least)) kids d)

-- ---- expressions in full, where no comma goes on

no_comma : (d : ℕ) (r : Reader) (names : Names) (x : Tree) (b : List Token) → begins_with_mark Comma b ≡ false → (go : Tree → List Token → Answer Tree) → comma_by d r names x b go (ahead b) ≡ found x b
unfolding comma_by
no_comma d r names x b stop go = by (ahead b) stop
  where
    by : (h : Ahead) → begins_with_mark_by Comma h ≡ false → comma_by d r names x b go h ≡ found x b
    by (mark_ahead Comma at rest) e = absurd (true≢false e)
    by (mark_ahead p at rest) e = refl
    by other e = refl

commas_end : (d : ℕ) (r : Reader) (names : Names) (x : Tree) (b : List Token) → begins_with_mark Comma b ≡ false → (k : ℕ) → commas d r k names x b ≡ found x b
unfolding commas
commas_end d r names x b stop zero = no_comma d r names x b stop _
commas_end d r names x b stop (suc k) = no_comma d r names x b stop _

pub expression_finds : (names : Names) (a b : List Token) (t : Tree) → Complete names Part.expression a b t → Is (ends_assignment b) → begins_with_mark Comma b ≡ false → (d : ℕ) → Finds (expression_in d (below d) names a) d (height t) t b
expression_finds names a b t h ok stop d = chain_ends d _ _ (height t) t b (h ok d) (commas_end d (below d) names t b stop)

pub c_in_parentheses : {names : Names} {a b : List Token} {at2 at : Place} {x : Tree} → Derives names Part.expression a (mark RightParenthesis at2 ∷ b) x → Complete names Part.expression a (mark RightParenthesis at2 ∷ b) x
    → Complete names Part.primary (mark LeftParenthesis at ∷ a) b (plain_node kind.Paren at.start (one x))
unfolding ahead ahead_by primary_by unary_in unary_by cast_in cast_by expect expect_by goal_in
c_in_parentheses {names} {a} {b} {at2} {at} {x} derived h stop d = record {
  finds = node_of 2 (max (height x) 0) (height (plain_node kind.Paren at.start (one x))) a (λ r. and_then (r.tree_of Goal.expression names a) (λ y behind. expect RightParenthesis behind (λ end. found (plain_node kind.Paren at.start (one y)) end)))
      (found (plain_node kind.Paren at.start (one x)) b) (omega arith) (omega arith) (omega arith)
      (λ e. leads_then _ _ e (height x) 0 x (mark RightParenthesis at2 ∷ b) _ (nested e (height x) names a (mark RightParenthesis at2 ∷ b) Goal.expression x (expression_finds names a _ x h refl refl e)) (leads_here _ e)) d;
  unaries = refl;
  casts = ap (λ p. if p then fit 2 d a (and_then ((below d).tree_of Goal.type_name names a) (λ t behind.
      expect RightParenthesis behind (λ behind2.
      and_then ((below d).tree_of Goal.cast (after names t) behind2) (λ y end. found (plain_node kind.Cast at.start (two t y)) end))))
      else unary_in d (below d) names (mark LeftParenthesis at ∷ a)) (expression_front names a (has_front derived));
  no_type = expression_front names a (has_front derived);
}

-- ---- strings

no_more : (bytes : List ℕ) (b : List Token) → Is (no_string b) → joined_behind bytes b ≡ (bytes, b)
unfolding joined_behind joined_by ahead ahead_by
no_more bytes [] stop = refl
no_more bytes (t ∷ rest) stop = by t.kind stop
  where
    by : (k : TokenKind) → Is (no_string_by (ahead_by k (record { start = t.start; end = t.end }) rest)) → joined_by bytes k (t ∷ rest) (joined_behind (bytes ++ string_in k) rest) ≡ (bytes, t ∷ rest)
    by (token.Str more) e = absurd (true≢false (sym e))
    by (token.Word text) e = refl
    by (token.Punct p) e = refl
    by (token.Int value type) e = refl
    by (token.Char value) e = refl

joined_on : (before : List ℕ) {a b : List Token} {joined : List ℕ} → Literals a b joined → Is (no_string b) → joined_behind before a ≡ (before ++ joined, b)
unfolding joined_behind joined_by
joined_on before (Derivation.last_literal {bytes} {at} {b}) stop = no_more (before ++ bytes) b stop
joined_on before (Derivation.more_literals {bytes} {more} {joined} {at} {a} {b} l e) stop =
    joined_on (before ++ bytes) l stop ∙ ap (λ j. (j, b)) (append_assoc before bytes more ∙ ap (λ j. before ++ j) (sym e))

joined_first : {bytes : List ℕ} {at : Place} {a b : List Token} {joined : List ℕ} → Literals (string bytes at ∷ a) b joined → Is (no_string b) → joined_behind bytes a ≡ (joined, b)
joined_first {bytes} {at} {a} {b} {joined} (Derivation.last_literal) stop = no_more bytes b stop
joined_first {bytes} {at} {a} {b} {joined} (Derivation.more_literals l e) stop = joined_on bytes l stop ∙ ap (λ j. (j, b)) (sym e)

pub c_string_literal : {names : Names} {bytes joined : List ℕ} {at : Place} {a b : List Token} → Literals (string bytes at ∷ a) b joined → Complete names Part.primary (string bytes at ∷ a) b (string_node joined at.start)
unfolding ahead ahead_by primary_by unary_in unary_by cast_in cast_by
c_string_literal {names} {bytes} {joined} {at} {a} {b} l stop d = record {
  finds = leads_from _ _ d 1 _ (ap (λ (more : List ℕ × List Token). fit 1 d a (found (string_node more.0 at.start) more.1)) (joined_first l stop)) (leaf_leads _ a d);
  unaries = refl;
  casts = refl;
  no_type = refl;
}

-- ---- chains of suffixes

abbrev pub dead : Tree → List Token → Answer Tree
dead y rest = deep rest

module _ (d : ℕ) (begun : Answer Tree) (tail : ℕ → Tree → List Token → Answer Tree) (h k n : ℕ) (x y : Tree) (ts c rest : List Token) (parts : (Tree → List Token → Answer Tree) → Reader → Answer Tree) where
  -- one link, where this is how the tail reads it
  pub chain_link : suc (max h k) ≡ n → tail zero x ts ≡ fit (suc h) d rest (parts dead (below d)) → ((m : ℕ) → tail (suc m) x ts ≡ fit (suc h) d rest (parts (tail m) (below d)))
      → ((go : Tree → List Token → Answer Tree) (e : ℕ) → Leads (parts go (read e)) e k (go y c)) → Chain d begun tail h x ts → Chain d begun tail n y c
  chain_link same first later kids chain = subst (λ m. Chain d begun tail m y c) same (chain_goes_on d begun tail h k x y ts c rest parts chain (λ go e near. kids go e) step)
    where
      step : (n : ℕ) → (go : Tree → List Token → Answer Tree) × (tail n x ts ≡ fit (suc h) d rest (parts go (below d))) × ((m : ℕ) → n ≡ suc m → go y c ≡ tail m y c)
      step zero = (dead, first, λ m e. absurd (omega (arith, e)))
      step (suc n) = (tail n, later n, λ m e. let same : n ≡ m = omega (arith, e) in ap (λ i. tail i y c) same)

pub c_primary_of : {names : Names} {a b : List Token} {x : Tree} → Complete names Part.primary a b x → Complete names Part.postfix a b x
unfolding postfix_in
c_primary_of {names} {a} {b} {x} h stop d = record {
  chain = record {
    low = λ le. (d, omega arith, then_found _ _ x b ((h stop d).finds.low le));
    high = λ lt. then_deep _ _ ((h stop d).finds.high lt);
  };
  unaries = (h stop d).unaries;
  casts = (h stop d).casts;
  no_type = (h stop d).no_type;
}

pub c_index : {names : Names} {a b c : List Token} {at at2 : Place} {x y : Tree} → Complete names Part.postfix a (mark LeftBracket at ∷ b) x → Complete (after names x) Part.expression b (mark RightBracket at2 ∷ c) y
    → Complete names Part.postfix a c (plain_node kind.Index (start x) (two x y))
unfolding suffixes suffix_by ahead ahead_by expect expect_by goal_in
c_index {names} {a} {b} {c} {at} {at2} {x} {y} h k stop d =
    let so_far = h refl d in
    record {
      chain = chain_link d _ (λ k. suffixes d (below d) k names) (height x) (max (height y) 0) _ x (plain_node kind.Index (start x) (two x y)) (mark LeftBracket at ∷ b) c b
          (λ go r. and_then (r.tree_of Goal.expression (after names x) b) (λ y behind. expect RightBracket behind (λ end. go (plain_node kind.Index (start x) (two x y)) end)))
          (omega arith) refl (λ m. refl)
          (λ go e. leads_then _ _ e (height y) 0 y (mark RightBracket at2 ∷ c) _ (nested e (height y) (after names x) b (mark RightBracket at2 ∷ c) Goal.expression y (expression_finds (after names x) b _ y k refl refl e)) (leads_here _ e))
          so_far.chain;
      unaries = so_far.unaries;
      casts = so_far.casts;
      no_type = so_far.no_type;
    }

pub c_post_increment : {names : Names} {a b : List Token} {at : Place} {x : Tree} → Complete names Part.postfix a (mark PlusPlus at ∷ b) x → Complete names Part.postfix a b (text_node kind.Post (codes "++") (start x) (one x))
unfolding suffixes suffix_by ahead ahead_by
c_post_increment {names} {a} {b} {at} {x} h stop d =
    let so_far = h refl d in
    record {
      chain = chain_link d _ (λ k. suffixes d (below d) k names) (height x) 0 _ x (text_node kind.Post (codes "++") (start x) (one x)) (mark PlusPlus at ∷ b) b b
          (λ go r. go (text_node kind.Post (codes "++") (start x) (one x)) b) (omega arith) refl (λ m. refl) (λ go e. leads_here _ e) so_far.chain;
      unaries = so_far.unaries;
      casts = so_far.casts;
      no_type = so_far.no_type;
    }

pub c_post_decrement : {names : Names} {a b : List Token} {at : Place} {x : Tree} → Complete names Part.postfix a (mark MinusMinus at ∷ b) x → Complete names Part.postfix a b (text_node kind.Post (codes "--") (start x) (one x))
unfolding suffixes suffix_by ahead ahead_by
c_post_decrement {names} {a} {b} {at} {x} h stop d =
    let so_far = h refl d in
    record {
      chain = chain_link d _ (λ k. suffixes d (below d) k names) (height x) 0 _ x (text_node kind.Post (codes "--") (start x) (one x)) (mark MinusMinus at ∷ b) b b
          (λ go r. go (text_node kind.Post (codes "--") (start x) (one x)) b) (omega arith) refl (λ m. refl) (λ go e. leads_here _ e) so_far.chain;
      unaries = so_far.unaries;
      casts = so_far.casts;
      no_type = so_far.no_type;
    }

-- the name of a member
member_name : {T : Type 0} (text : List ℕ) (at : Place) (b : List Token) (go : List ℕ → List Token → Answer T) → is_identifier text ≡ true → expect_identifier (word text at ∷ b) go ≡ go text b
unfolding expect_identifier expect_identifier_by ahead ahead_by
member_name text at b go name = ap (λ p. if p then go text b else wrong (word text at ∷ b)) name

pub c_dot : {names : Names} {a b : List Token} {at at2 : Place} {text : List ℕ} {x : Tree} → Complete names Part.postfix a (mark Dot at ∷ word text at2 ∷ b) x → is_identifier text ≡ true
    → Complete names Part.postfix a b (text_node kind.Dot text (start x) (one x))
unfolding suffixes suffix_by ahead ahead_by
c_dot {names} {a} {b} {at} {at2} {text} {x} h name stop d =
    let so_far = h refl d in
    record {
      chain = chain_link d _ (λ k. suffixes d (below d) k names) (height x) 0 _ x (text_node kind.Dot text (start x) (one x)) (mark Dot at ∷ word text at2 ∷ b) b (word text at2 ∷ b)
          (λ go r. expect_identifier (word text at2 ∷ b) (λ text end. go (text_node kind.Dot text (start x) (one x)) end)) (omega arith) refl (λ m. refl)
          (λ go e. leads_from _ _ e 0 _ (member_name text at2 b (λ text end. go (text_node kind.Dot text (start x) (one x)) end) name) (leads_here _ e)) so_far.chain;
      unaries = so_far.unaries;
      casts = so_far.casts;
      no_type = so_far.no_type;
    }

pub c_arrow : {names : Names} {a b : List Token} {at at2 : Place} {text : List ℕ} {x : Tree} → Complete names Part.postfix a (mark Arrow at ∷ word text at2 ∷ b) x → is_identifier text ≡ true
    → Complete names Part.postfix a b (text_node kind.Arrow text (start x) (one x))
unfolding suffixes suffix_by ahead ahead_by
c_arrow {names} {a} {b} {at} {at2} {text} {x} h name stop d =
    let so_far = h refl d in
    record {
      chain = chain_link d _ (λ k. suffixes d (below d) k names) (height x) 0 _ x (text_node kind.Arrow text (start x) (one x)) (mark Arrow at ∷ word text at2 ∷ b) b (word text at2 ∷ b)
          (λ go r. expect_identifier (word text at2 ∷ b) (λ text end. go (text_node kind.Arrow text (start x) (one x)) end)) (omega arith) refl (λ m. refl)
          (λ go e. leads_from _ _ e 0 _ (member_name text at2 b (λ text end. go (text_node kind.Arrow text (start x) (one x)) end) name) (leads_here _ e)) so_far.chain;
      unaries = so_far.unaries;
      casts = so_far.casts;
      no_type = so_far.no_type;
    }

pub c_call : {names : Names} {a b c : List Token} {at at2 : Place} {x : Tree} {ts : Forest} → Complete names Part.postfix a (mark LeftParenthesis at ∷ b) x → CompleteRow (after names x) Row.arguments b (mark RightParenthesis at2 ∷ c) ts
    → Complete names Part.postfix a c (plain_node kind.Call (start x) (x then ts))
unfolding suffixes suffix_by ahead ahead_by expect expect_by rows_in
c_call {names} {a} {b} {c} {at} {at2} {x} {ts} h k stop d =
    let so_far = h refl d in
    record {
      chain = chain_link d _ (λ k. suffixes d (below d) k names) (height x) (max (forest_height ts) 0) _ x (plain_node kind.Call (start x) (x then ts)) (mark LeftParenthesis at ∷ b) c b
          (λ go r. and_then (r.trees_of Rows.arguments (after names x) b) (λ ys behind. expect RightParenthesis behind (λ end. go (plain_node kind.Call (start x) (x then ys)) end)))
          (omega arith) refl (λ m. refl)
          (λ go e. leads_then _ _ e (forest_height ts) 0 ts (mark RightParenthesis at2 ∷ c) _ (nested_row e (forest_height ts) (after names x) b (mark RightParenthesis at2 ∷ c) Rows.arguments ts (k refl e)) (leads_here _ e))
          so_far.chain;
      unaries = so_far.unaries;
      casts = so_far.casts;
      no_type = so_far.no_type;
    }
