-- What derivations of statements say of their reading.
use Rattle.std.proofs.Common.{◌≡◌, ℕ, suc, Bool, true, false, List, ◌∷◌, length, refl, ap, arith}
use Rattle.std.specs.Prelude.{max, not, ◌&&◌, codes}
use Rattle.c_lexer.specs.declared.token.Punct.TheVariants.{LeftParenthesis, RightParenthesis, LeftBrace, RightBrace, Colon, Semicolon}
use Rattle.c_lexer.specs.declared.token.Token.{Token}
use Rattle.c_syntax.specs.declared.kind.SynKind.TheVariants as kind
use Rattle.c_syntax.specs.Trees.{Tree, Forest, none, ◌then◌, one, two, three, plain_node, height, forest_height}
use Rattle.c_grammar.specs.Vocabulary.{Place, mark, word}
use Rattle.c_grammar.specs.Scopes.{Names, opened, after}
use Rattle.c_grammar.specs.Derivation as grammar
use Rattle.c_grammar.specs.Derivation.{Part, Row, Derives, Lists, start, ends_open}
use Rattle.c_grammar.specs.Answers.{found, and_then, expect, expect_by, expect_word, expect_word_by, ahead, ahead_by}
use Rattle.c_grammar.specs.Reading.{Reader, read, goal_in, rows_in, statement_in, statement_by, body_by, expression_statement_in, keyword_by, while_in, do_in, if_in, for_in, for_behind, switch_in, label_by, label_in, return_in, in_parentheses_then, begins_with_word, begins_with_mark, below}
use Rattle.c_grammar.specs.Reading as reading
use Rattle.c_grammar.proofs.Budgets.{Finds, leads_then, leads_here, leads_height, leads_from}
use Rattle.c_grammar.proofs.Found.Claims.{Complete, CompleteRow}
use Rattle.c_grammar.proofs.Found.StatementSteps.{tree_finds, trees_find, node_then, expression_finds, token_node, leads_true, leads_false, is_false}
use Rattle.c_grammar.proofs.Found.StatementFirsts.{reads_expression, no_semicolon}
use Rattle.c_grammar.proofs.FirstTokens.{has_front}

-- ---- blocks

-- statements in braces, with the names before them
pub body_finds : (names : Names) (a b : List Token) (at2 at : Place) (ts : Forest)
    → CompleteRow names Row.block_items a (mark RightBrace at2 ∷ b) ts
    → (d : ℕ) → Finds (body_by d (below d) names (mark LeftBrace at ∷ a) (ahead (mark LeftBrace at ∷ a))) d (height (plain_node kind.Block at.start ts)) (plain_node kind.Block at.start ts) b
unfolding body_by expect expect_by ahead ahead_by rows_in
body_finds names a b at2 at ts items d =
    token_node 1 (max (forest_height ts) 0) _ a (λ r. and_then (r.trees_of reading.block_items names a) (λ items behind. expect RightBrace behind (λ end. found (plain_node kind.Block at.start items) end)))
    (found (plain_node kind.Block at.start ts) b) (omega arith) (omega arith) (omega arith)
    (λ e. leads_then _ _ e (forest_height ts) 0 ts _ _ (trees_find reading.block_items names a (items refl e (suc (length a)) (omega arith))) (leads_here _ e)) d

pub c_block_of : (names : Names) (a b : List Token) (at2 at : Place) (ts : Forest)
    → CompleteRow (opened names) Row.block_items a (mark RightBrace at2 ∷ b) ts
    → Complete names Part.block (mark LeftBrace at ∷ a) b (plain_node kind.Block at.start ts)
c_block_of names a b at2 at ts items = body_finds (opened names) a b at2 at ts items

pub c_block_statement : {names : Names} {a b : List Token} {t : Tree}
    → Derives names Part.block a b t
    → Complete names Part.block a b t
    → Complete names Part.statement a b t
unfolding statement_in statement_by ahead ahead_by
c_block_statement (grammar.block_of ts) c ends d = c d

-- ---- statements with a word or a mark of their own in front

pub c_empty_statement : (names : Names) (at : Place) (b : List Token) → Complete names Part.statement (mark Semicolon at ∷ b) b (plain_node kind.Empty at.start none)
unfolding statement_in statement_by ahead ahead_by
c_empty_statement names at b ends d =
    token_node 1 0 _ b (λ r. found (plain_node kind.Empty at.start none) b) _ (omega arith) (omega arith) (omega arith) (λ e. leads_here _ e) d

pub c_expression_statement : {names : Names} {a b : List Token} {at : Place} {x : Tree}
    → Derives names Part.expression a (mark Semicolon at ∷ b) x
    → Complete names Part.expression a (mark Semicolon at ∷ b) x
    → Complete names Part.statement a b (plain_node kind.ExprStmt (start x) (one x))
unfolding statement_in expression_statement_in expect expect_by ahead ahead_by goal_in
c_expression_statement {names} {a} {b} {at} {x} dx cx ends d =
    leads_from _ _ d _ _ (reads_expression d (below d) names a (has_front dx)) (leads_height _ d (suc (max (height x) 0)) _ _ (omega arith)
    (node_then reading.expression names a (λ e. expression_finds names a _ x cx refl e) (omega arith)
    (λ r x behind. expect Semicolon behind (λ end. found (plain_node kind.ExprStmt (start x) (one x)) end)) (λ e. leads_here _ e) d))

pub c_if_then : (names : Names) (a b c : List Token) (at3 at at2 : Place) (x s : Tree)
    → Complete names Part.expression a (mark RightParenthesis at3 ∷ b) x
    → Complete (after names x) Part.statement b c s
    → Complete names Part.statement (word (codes "if") at ∷ mark LeftParenthesis at2 ∷ a) c (plain_node kind.If at.start (two x s))
unfolding statement_in statement_by keyword_by if_in in_parentheses_then expect expect_by ahead ahead_by goal_in
c_if_then names a b c at3 at at2 x s cx cs ends d =
    token_node 2 (max (height x) (max (height s) 0)) _ rest (λ r. if_in d r names at rest) _ (omega arith) (omega arith) (omega arith)
    (λ e. leads_then _ _ e (height x) _ x _ _ (tree_finds reading.expression names a (expression_finds _ _ _ _ cx refl e))
    (leads_then _ _ e (height s) 0 s c _ (tree_finds reading.statement _ _ (cs (not_open (ends_open s) (begins_with_word (codes "else") c) no_else) e))
    (leads_false (begins_with_word (codes "else") c && not (ends_open s)) _ _ e 0 _ (ap (λ p. p && not (ends_open s)) no_else) (leads_here _ e)))) d
  where
    rest : List Token
    rest = mark LeftParenthesis at2 ∷ a

    no_else : begins_with_word (codes "else") c ≡ false
    no_else = is_false _ ends

    not_open : (p q : Bool) → q ≡ false → not (p && q) ≡ true
    not_open true q e = ap not e
    not_open false q e = refl

pub c_if_else : (names : Names) (a b c g : List Token) (at3 at4 at at2 : Place) (x s t : Tree)
    → Complete names Part.expression a (mark RightParenthesis at3 ∷ b) x
    → Complete (after names x) Part.statement b (word (codes "else") at4 ∷ c) s
    → ends_open s ≡ false
    → Complete (after (after names x) s) Part.statement c g t
    → Complete names Part.statement (word (codes "if") at ∷ mark LeftParenthesis at2 ∷ a) g (plain_node kind.If at.start (three x s t))
unfolding statement_in statement_by keyword_by if_in in_parentheses_then expect expect_by ahead ahead_by goal_in
c_if_else names a b c g at3 at4 at at2 x s t cx cs closed ct ends d =
    token_node 2 (max (height x) (max (height s) (max (height t) 0))) _ rest (λ r. if_in d r names at rest) _ (omega arith) (omega arith) (omega arith)
    (λ e. leads_then _ _ e (height x) _ x _ _ (tree_finds reading.expression names a (expression_finds _ _ _ _ cx refl e))
    (leads_then _ _ e (height s) _ s _ _ (tree_finds reading.statement _ _ (cs (ap (λ p. not (p && true)) closed) e))
    (leads_true (not (ends_open s)) _ _ e _ _ (ap not closed)
    (leads_then _ _ e (height t) 0 t g _ (tree_finds reading.statement _ _ (ct ends e)) (leads_here _ e))))) d
  where
    rest : List Token
    rest = mark LeftParenthesis at2 ∷ a

pub c_while_do : (names : Names) (a b c : List Token) (at3 at at2 : Place) (x s : Tree)
    → Complete names Part.expression a (mark RightParenthesis at3 ∷ b) x
    → Complete (after names x) Part.statement b c s
    → Complete names Part.statement (word (codes "while") at ∷ mark LeftParenthesis at2 ∷ a) c (plain_node kind.While at.start (two x s))
unfolding statement_in statement_by keyword_by while_in in_parentheses_then expect expect_by ahead ahead_by goal_in
c_while_do names a b c at3 at at2 x s cx cs ends d =
    token_node 2 (max (height x) (max (height s) 0)) _ rest (λ r. while_in d r names at rest) _ (omega arith) (omega arith) (omega arith)
    (λ e. leads_then _ _ e (height x) _ x _ _ (tree_finds reading.expression names a (expression_finds _ _ _ _ cx refl e))
    (leads_then _ _ e (height s) 0 s c _ (tree_finds reading.statement _ _ (cs ends e)) (leads_here _ e))) d
  where
    rest : List Token
    rest = mark LeftParenthesis at2 ∷ a

pub c_do_while : (names : Names) (a b c : List Token) (at2 at3 at4 at5 at : Place) (s x : Tree)
    → Complete names Part.statement a (word (codes "while") at2 ∷ mark LeftParenthesis at3 ∷ b) s
    → Complete (after names s) Part.expression b (mark RightParenthesis at4 ∷ mark Semicolon at5 ∷ c) x
    → Complete names Part.statement (word (codes "do") at ∷ a) c (plain_node kind.Do at.start (two s x))
unfolding statement_in statement_by keyword_by do_in in_parentheses_then expect expect_by expect_word expect_word_by ahead ahead_by goal_in
c_do_while names a b c at2 at3 at4 at5 at s x cs cx ends d =
    token_node 2 (max (height s) (max (height x) 0)) _ a (λ r. do_in d r names at a) _ (omega arith) (omega arith) (omega arith)
    (λ e. leads_then _ _ e (height s) _ s _ _ (tree_finds reading.statement _ _ (cs (no_more (ends_open s)) e))
    (leads_then _ _ e (height x) 0 x _ _ (tree_finds reading.expression _ b (expression_finds _ _ _ _ cx refl e)) (leads_here _ e))) d
  where
    no_more : (p : Bool) → not (p && false) ≡ true
    no_more true = refl
    no_more false = refl

pub c_switch_of : (names : Names) (a b c : List Token) (at3 at4 at5 at at2 : Place) (x : Tree) (ts : Forest)
    → Complete names Part.expression a (mark RightParenthesis at3 ∷ mark LeftBrace at4 ∷ b) x
    → CompleteRow (opened (after names x)) (Row.groups grammar.at_first) b (mark RightBrace at5 ∷ c) ts
    → Complete names Part.statement (word (codes "switch") at ∷ mark LeftParenthesis at2 ∷ a) c (plain_node kind.Switch at.start (x then ts))
unfolding statement_in statement_by keyword_by switch_in in_parentheses_then expect expect_by ahead ahead_by goal_in rows_in
c_switch_of names a b c at3 at4 at5 at at2 x ts cx cts ends d =
    token_node 2 (max (height x) (max (forest_height ts) 0)) _ rest (λ r. switch_in d r names at rest) _ (omega arith) (omega arith) (omega arith)
    (λ e. leads_then _ _ e (height x) _ x _ _ (tree_finds reading.expression names a (expression_finds _ _ _ _ cx refl e))
    (leads_then _ _ e (forest_height ts) 0 ts _ _ (trees_find reading.groups (opened (after names x)) b (cts refl e (suc (length b)) (omega arith))) (leads_here _ e))) d
  where
    rest : List Token
    rest = mark LeftParenthesis at2 ∷ a

pub c_case_label : (names : Names) (a b : List Token) (at2 at : Place) (x : Tree)
    → Complete names Part.conditional a (mark Colon at2 ∷ b) x
    → Complete names Part.switch_label (word (codes "case") at ∷ a) b (plain_node kind.Case at.start (one x))
unfolding label_in label_by expect expect_by ahead ahead_by goal_in
c_case_label names a b at2 at x cx d =
    token_node 2 (max (height x) 0) _ a (λ r. and_then (r.tree_of reading.conditional names a) (λ x behind. expect Colon behind (λ end. found (plain_node kind.Case at.start (one x)) end))) _
    (omega arith) (omega arith) (omega arith)
    (λ e. leads_then _ _ e (height x) 0 x _ _ (tree_finds reading.conditional names a (cx refl e)) (leads_here _ e)) d

pub c_default_label : (names : Names) (at at2 : Place) (b : List Token)
    → Complete names Part.switch_label (word (codes "default") at ∷ mark Colon at2 ∷ b) b (plain_node kind.Default at.start none)
unfolding label_in label_by expect expect_by ahead ahead_by
c_default_label names at at2 b d =
    token_node 1 0 _ (mark Colon at2 ∷ b) (λ r. found (plain_node kind.Default at.start none) b) _ (omega arith) (omega arith) (omega arith) (λ e. leads_here _ e) d

pub c_break_of : (names : Names) (at at2 : Place) (b : List Token)
    → Complete names Part.statement (word (codes "break") at ∷ mark Semicolon at2 ∷ b) b (plain_node kind.Break at.start none)
unfolding statement_in statement_by keyword_by expect expect_by ahead ahead_by
c_break_of names at at2 b ends d =
    token_node 1 0 _ (mark Semicolon at2 ∷ b) (λ r. found (plain_node kind.Break at.start none) b) _ (omega arith) (omega arith) (omega arith) (λ e. leads_here _ e) d

pub c_continue_of : (names : Names) (at at2 : Place) (b : List Token)
    → Complete names Part.statement (word (codes "continue") at ∷ mark Semicolon at2 ∷ b) b (plain_node kind.Continue at.start none)
unfolding statement_in statement_by keyword_by expect expect_by ahead ahead_by
c_continue_of names at at2 b ends d =
    token_node 1 0 _ (mark Semicolon at2 ∷ b) (λ r. found (plain_node kind.Continue at.start none) b) _ (omega arith) (omega arith) (omega arith) (λ e. leads_here _ e) d

pub c_return_nothing : (names : Names) (at at2 : Place) (b : List Token)
    → Complete names Part.statement (word (codes "return") at ∷ mark Semicolon at2 ∷ b) b (plain_node kind.Return at.start none)
unfolding statement_in statement_by keyword_by return_in expect expect_by ahead ahead_by
c_return_nothing names at at2 b ends d =
    token_node 1 0 _ (mark Semicolon at2 ∷ b) (λ r. found (plain_node kind.Return at.start none) b) _ (omega arith) (omega arith) (omega arith) (λ e. leads_here _ e) d

pub c_return_value : {names : Names} {a b : List Token} {at2 : Place} (at : Place) {x : Tree}
    → Derives names Part.expression a (mark Semicolon at2 ∷ b) x
    → Complete names Part.expression a (mark Semicolon at2 ∷ b) x
    → Complete names Part.statement (word (codes "return") at ∷ a) b (plain_node kind.Return at.start (one x))
unfolding statement_in statement_by keyword_by return_in expect expect_by ahead ahead_by goal_in
c_return_value {names} {a} {b} {at2} at {x} dx cx ends d =
    token_node 1 (max (height x) 0) _ a (λ r. return_in d r names at a) _ (omega arith) (omega arith) (omega arith)
    (λ e. leads_false (begins_with_mark Semicolon a) _ _ e _ _ (no_semicolon names a (λ f. cc (f, has_front dx)))
    (leads_then _ _ e (height x) 0 x _ _ (tree_finds reading.expression _ a (expression_finds _ _ _ _ cx refl e)) (leads_here _ e))) d
