-- What derivations of declarations and initializers say of their reading.
use Rattle.std.proofs.Common.{◌≡◌, ℕ, suc, ◌≤◌, Bool, true, List, ◌∷◌, length, refl, sym, arith, true≢false}
use Rattle.std.specs.Prelude.{max, not, ◌&&◌, if◌then◌else◌}
use Rattle.c_lexer.specs.declared.token.Punct.TheVariants.{LeftBracket, LeftParenthesis, LeftBrace, RightBrace, Semicolon, Equal}
use Rattle.c_lexer.specs.declared.token.Token.{Token}
use Rattle.c_syntax.specs.declared.kind.SynKind.TheVariants as kind
use Rattle.c_syntax.specs.Trees.{Tree, Forest, ◌then◌, one, two, plain_node, height, forest_height}
use Rattle.c_grammar.specs.Vocabulary.{Place, mark}
use Rattle.c_grammar.specs.Scopes.{Names, after, after_declarator, says_typedef}
use Rattle.c_grammar.specs.Derivation as grammar
use Rattle.c_grammar.specs.Derivation.{Part, Row, Derives, Lists, start, first_start}
use Rattle.c_grammar.specs.Answers.{found, and_then, expect, expect_by, Ahead, mark_ahead, ahead, ahead_by}
use Rattle.c_grammar.specs.Reading.{Reader, read, read_unit, goal_in, rows_in, named, begins_with_mark, begins_with_mark_by, initializer_in, initializer_by, init_declarator_in, initialized_by, declaration_in, declaration_behind, specs_first, function_by, external_in, below}
use Rattle.c_grammar.specs.Reading as reading
use Rattle.c_grammar.proofs.Budgets.{leads_then, leads_here, leads_height, leads_from}
use Rattle.c_grammar.proofs.Found.Claims.{Complete, CompleteRow}
use Rattle.c_grammar.proofs.Found.StatementSteps.{tree_finds, trees_find, node_then, token_node, leads_false, closes_by, closes_assignment}
use Rattle.c_grammar.proofs.Found.StatementFirsts.{reads_assignment, declarator_begins, DeclaratorBegins}
use Rattle.c_grammar.proofs.FirstTokens.{has_front}

-- ---- initializers

pub c_initial_value : {names : Names} {a b : List Token} {t : Tree} → Derives names Part.assignment a b t → Complete names Part.assignment a b t → Complete names Part.initializer a b t
unfolding initializer_in
c_initial_value {names} {a} {b} dt ct ends d =
    leads_from _ _ d _ _ (reads_assignment d (below d) names a (has_front dt)) (ct (closes_assignment (ahead b) ends) d)

some_initializer : {names : Names} {a b : List Token} {ts : Forest} → Lists names Row.initializers a b ts → 1 ≤ forest_height ts
some_initializer (grammar.last_initializer d) = omega arith
some_initializer (grammar.last_initializer_with_comma d) = omega arith
some_initializer (grammar.more_initializers d ds) = omega arith

pub c_braces : {names : Names} {a b : List Token} {at2 : Place} (at : Place) {ts : Forest}
    → Lists names Row.initializers a (mark RightBrace at2 ∷ b) ts
    → CompleteRow names Row.initializers a (mark RightBrace at2 ∷ b) ts
    → Complete names Part.initializer (mark LeftBrace at ∷ a) b (plain_node kind.Braces at.start ts)
unfolding initializer_in initializer_by expect expect_by ahead ahead_by rows_in
c_braces {names} {a} {b} {at2} at {ts} dts cts ends d =
    token_node 2 (max (forest_height ts) 0) _ a (λ r. and_then (r.trees_of reading.initializers names a) (λ xs behind. expect RightBrace behind (λ end. found (plain_node kind.Braces at.start xs) end)))
    (found (plain_node kind.Braces at.start ts) b) (omega arith) (omega (arith, some_initializer dts)) (omega arith)
    (λ e. leads_then _ _ e (forest_height ts) 0 ts _ _ (trees_find reading.initializers names a (cts refl e (suc (length a)) (omega arith))) (leads_here _ e)) d

-- ---- declarators with initializers

closes_declarator : (a : Ahead) → closes_by a ≡ true → not (begins_with_mark_by LeftBracket a) && not (begins_with_mark_by LeftParenthesis a) ≡ true
closes_declarator (mark_ahead LeftBracket at rest) e = e
closes_declarator (mark_ahead LeftParenthesis at rest) e = e
closes_declarator other e = refl

no_value : (d : ℕ) (r : Reader) (is_typedef : Bool) (names : Names) (x : Tree) (ts : List Token) (a : Ahead) → closes_by a ≡ true
    → initialized_by d r is_typedef names x ts a ≡ found (plain_node kind.InitDecl (start x) (one x)) ts
unfolding initialized_by
no_value d r is_typedef names x ts (mark_ahead Equal at rest) e = absurd (true≢false (sym e))
no_value d r is_typedef names x ts other e = refl

pub c_uninitialized : (names : Names) (a b : List Token) (x : Tree) (is_typedef : Bool)
    → Complete names Part.declarator a b x
    → Complete names (Part.init_declarator is_typedef) a b (plain_node kind.InitDecl (start x) (one x))
unfolding init_declarator_in goal_in
c_uninitialized names a b x is_typedef cx ends d =
    leads_height _ d _ _ _ (omega arith)
    (node_then (reading.declared named) names a (λ e. (cx (closes_declarator (ahead b) ends) e).alone) (omega arith)
    (λ r x rest. initialized_by d r is_typedef names x rest (ahead rest)) (λ e. leads_from _ _ e 0 _ (no_value d (read e) is_typedef names x b (ahead b) ends) (leads_here _ e)) d)

pub c_initialized : (names : Names) (a b c : List Token) (at : Place) (x i : Tree) (is_typedef : Bool)
    → Complete names Part.declarator a (mark Equal at ∷ b) x
    → Complete (after_declarator names is_typedef x) Part.initializer b c i
    → Complete names (Part.init_declarator is_typedef) a c (plain_node kind.InitDecl (start x) (two x i))
unfolding init_declarator_in initialized_by ahead ahead_by goal_in
c_initialized names a b c at x i is_typedef cx ci ends d =
    leads_height _ d _ _ _ (omega arith)
    (node_then (reading.declared named) names a (λ e. (cx refl e).alone) (omega arith)
    (λ r x rest. initialized_by d r is_typedef names x rest (ahead rest))
    (λ e. leads_then _ _ e (height i) 0 i c _ (tree_finds reading.initializer _ _ (ci ends e)) (leads_here _ e)) d)

-- ---- declarations

pub c_bare_declaration : (names : Names) (a b : List Token) (at : Place) (s : Tree)
    → Complete names Part.specifiers a (mark Semicolon at ∷ b) s
    → Complete names Part.declaration a b (plain_node kind.Declaration (start s) (one s))
unfolding declaration_in declaration_behind specs_first reading.begins_specifier_by ahead ahead_by goal_in
c_bare_declaration names a b at s cs d =
    leads_height _ d _ _ _ (omega arith)
    (node_then reading.specifiers names a (λ e. cs refl e) (omega arith) (λ r. declaration_behind d r names) (λ e. leads_here _ e) d)

-- init declarators begin with a declarator
pub init_declarators_begin : {names : Names} {is_typedef : Bool} {a b : List Token} {ds : Forest} → Lists names (Row.init_declarators is_typedef) a b ds → DeclaratorBegins a
init_declarators_begin (grammar.last_init_declarator (grammar.uninitialized d)) = declarator_begins d
init_declarators_begin (grammar.last_init_declarator (grammar.initialized d i)) = declarator_begins d
init_declarators_begin (grammar.more_init_declarators (grammar.uninitialized d) ds) = declarator_begins d
init_declarators_begin (grammar.more_init_declarators (grammar.initialized d i) ds) = declarator_begins d

pub c_full_declaration : (names : Names) (a : List Token) {b c : List Token} (s : Tree) {at : Place} {ds : Forest}
    → Lists (after names s) (Row.init_declarators (says_typedef (one s))) b (mark Semicolon at ∷ c) ds
    → Complete names Part.specifiers a b s
    → CompleteRow (after names s) (Row.init_declarators (says_typedef (one s))) b (mark Semicolon at ∷ c) ds
    → Complete names Part.declaration a c (plain_node kind.Declaration (start s) (s then ds))
unfolding declaration_in declaration_behind specs_first expect expect_by ahead ahead_by goal_in rows_in
c_full_declaration names a {b} {c} s {at} {ds} dds cs cds d =
    let begins = init_declarators_begin dds in
    leads_height _ d _ _ _ (omega arith)
    (node_then reading.specifiers names a (λ e. cs (begins.1 names) e) (omega arith) (λ r. declaration_behind d r names)
    (λ e. leads_false (begins_with_mark Semicolon b) _ _ e _ _ begins.0
    (leads_then _ _ e (forest_height ds) 0 ds _ _ (trees_find (reading.init_declarators (says_typedef (one s))) (after names s) b (cds refl e (suc (length b)) (omega arith))) (leads_here _ e))) d)
