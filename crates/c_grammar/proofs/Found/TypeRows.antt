-- The cases of specs, members and enumerators, and of rows among types.
use Rattle.std.proofs.Common.{◌≡◌, ℕ, zero, suc, ◌≤◌, Bool, true, false, not, ◌||◌, max, List, [], ◌∷◌, length, refl, sym, ap, ◌∙◌, true≢false, if◌then◌else◌, arith}
use Rattle.c_lexer.specs.declared.token.Punct.TheVariants.{RightBracket, RightParenthesis, LeftBrace, RightBrace, Semicolon, Equal, Comma}
use Rattle.c_lexer.specs.declared.token.Token.{Token}
use Rattle.c_lexer.specs.declared.token.TokenKind.{TokenKind}
use Rattle.c_lexer.specs.declared.token.TokenKind.TheVariants as token
use Rattle.c_syntax.specs.declared.kind.SynKind.TheVariants as kind
use Rattle.c_syntax.specs.Trees.{Tree, Forest, none, ◌then◌, one, text_node, plain_node, height, forest_height}
use Rattle.c_grammar.specs.Vocabulary.{is_identifier, Place, mark, word}
use Rattle.c_grammar.specs.Scopes.{Names, after, after_parameter, says_type}
use Rattle.c_grammar.specs.Derivation as rule
use Rattle.c_grammar.specs.Derivation.{Part, Row, Derives, Lists, start, first_start, begins_with_typedef_name}
use Rattle.c_grammar.specs.Answers.{Answer, found, and_then, Ahead, mark_ahead, ahead, ahead_by, expect, expect_by}
use Rattle.c_grammar.specs.Reading as reading
use Rattle.c_grammar.specs.Reading.{Rows, Reader, read, rows_in, goal_in, begins_specifier, begins_with_mark, begins_with_mark_by, specifier_in, specifier_list_in, specifiers_in, specs_first, member_in, members_in, enumerator_in, enumerator_by, value_by, conditional_in, length_in, parameter_in, declared_in, listed, below}
use Rattle.c_grammar.proofs.Budgets.{Leads, leads_height, leads_here, leads_then, node_leads}
use Rattle.c_grammar.proofs.FirstTokens.{front, of_expression, kind_front, begins_statement, has_front}
use Rattle.c_grammar.proofs.Found.Claims.{Complete, CompleteRow, Is, ends_specs}
use Rattle.c_grammar.proofs.Found.TypeSteps.{read_goal, read_row, goal_leads, row_leads, fit_leads, leaf_leads, lower_leads, some_height, listed_last, listed_more, braces_last, braces_comma, braces_more}
use Rattle.c_grammar.proofs.Found.TypeEnds.{begins_as, right_bracket_closes, right_parenthesis_closes, right_brace_closes, semicolon_closes, closes_declarator, closes_equal, specs_end, specs_end_any, specs_no_brace, closes_conditional}
use Rattle.c_grammar.proofs.Found.TypeFronts.{specifier_no_mark, list_begins, members_begin, specifier_shorter, member_shorter, before_token, enumerators_no_brace, declarators_front}

-- ---- specs

some_specifiers : {names : Names} {typed : Bool} {a b : List Token} {ts : Forest} → Lists names (rule.specifier_list typed) a b ts → 1 ≤ forest_height ts
some_specifiers (rule.last_specifier {t = t} x e) = some_height t none
some_specifiers (rule.more_specifiers {t = t} {ts = ts} x xs) = some_height t ts

pub c_specs : (names : Names) (a b : List Token) (ts : Forest) → Lists names (rule.specifier_list false) a b ts
    → CompleteRow names (rule.specifier_list false) a b ts
    → Complete names rule.specifiers a b (plain_node kind.Specs (first_start ts) ts)
unfolding specifiers_in rows_in
c_specs names a b ts l c ends d = leads_height _ d (suc (max (forest_height ts) 0)) _ _ (omega arith) (
    lower_leads (λ e. specifier_list_in e (below e) (suc (length a)) false names a) (λ r. r.trees_of (reading.specifier_list false) names a)
    (λ r more end. found (plain_node kind.Specs (first_start more) more) end)
    (forest_height ts) 0 ts b _ (some_specifiers l) (λ e. c ends e (suc (length a)) (omega arith)) (λ e. read_row e (reading.specifier_list false) names a) (λ e. leads_here _ e) d)

or_assoc : (p q r : Bool) → p || q || r ≡ true → (p || q) || r ≡ true
or_assoc true q r e = refl
or_assoc false q r e = e

pub c_last_specifier : (names : Names) (typed : Bool) (a b : List Token) (t : Tree) → Complete names (rule.specifier typed) a b t
    → typed || says_type t || not (begins_with_typedef_name (after names t) b) ≡ true
    → CompleteRow names (rule.specifier_list typed) a b (one t)
unfolding specifier_list_in
c_last_specifier names typed a b t c e ends d zero lt = absurd (omega (arith, lt))
c_last_specifier names typed a b t c e ends d (suc k) lt =
    let stop = specs_end (typed || says_type t) names (after names t) b ends (or_assoc typed (says_type t) _ e) in
    leads_height _ d (max (height t) 0) _ _ (omega arith) (leads_then (specifier_in d (below d) typed names a) _ d (height t) 0 t b _ (c (specs_no_brace names b ends) d) (rw stop (leads_here _ d)))

pub c_more_specifiers : (names : Names) (typed : Bool) (a b c : List Token) (t : Tree) (ts : Forest)
    → Derives names (rule.specifier typed) a b t → Complete names (rule.specifier typed) a b t
    → Lists (after names t) (rule.specifier_list (typed || says_type t)) b c ts
    → CompleteRow (after names t) (rule.specifier_list (typed || says_type t)) b c ts
    → CompleteRow names (rule.specifier_list typed) a c (t then ts)
unfolding specifier_list_in
c_more_specifiers names typed a b c t ts x cx xs cxs ends d zero lt = absurd (omega (arith, lt))
c_more_specifiers names typed a b c t ts x cx xs cxs ends d (suc k) lt =
    let goes_on = list_begins xs in
    leads_height _ d (max (height t) (max (forest_height ts) 0)) _ _ (omega arith) (
    leads_then (specifier_in d (below d) typed names a) _ d (height t) (max (forest_height ts) 0) t b _ (cx (specifier_no_mark LeftBrace _ _ b goes_on) d) (rw goes_on (
    leads_then (specifier_list_in d (below d) k (typed || says_type t) (after names t) b) _ d (forest_height ts) 0 ts c _
    (cxs (specs_end_any names (after names t) c ends) d k (omega (arith, lt, specifier_shorter x))) (leads_here _ d))))

-- ---- specs in front of another part

pub specs_leads : {U : Type 0} (names : Names) (a b : List Token) (s : Tree) → Complete names rule.specifiers a b s → Is (ends_specs names b)
    → (go : Reader → Tree → List Token → Answer U) (k : ℕ) (next : Answer U) → ((e : ℕ) → Leads (go (read e) s b) e k next)
    → (d : ℕ) → Leads (and_then (specs_first d (below d) names a) (go (below d))) d (suc (max (height s) k)) next
unfolding specs_first goal_in
specs_leads names a b s c ends go k next kids =
    lower_leads (λ e. specifiers_in e (below e) names a) (λ r. r.tree_of reading.specifiers names a) go (height s) k s b next (omega arith) (c ends) (λ e. read_goal e reading.specifiers names a) kids

-- ---- members

pub c_member_of : (names : Names) (a b c : List Token) (s : Tree) (at : Place) (ds : Forest) → Complete names rule.specifiers a b s
    → Lists (after names s) rule.declarators b (mark Semicolon at ∷ c) ds → CompleteRow (after names s) rule.declarators b (mark Semicolon at ∷ c) ds
    → Complete names rule.member a c (plain_node kind.Member (start s) (s then ds))
unfolding member_in rows_in expect expect_by ahead ahead_by
c_member_of names a b c s at ds cs ds_list cds d =
    let go : Forest → List Token → Answer Tree = λ xs behind. expect Semicolon behind (λ end. found (plain_node kind.Member (start s) (s then xs)) end) in
    leads_height _ d (suc (max (height s) (max (forest_height ds) 0))) _ _ (omega arith) (
    specs_leads names a b s cs ((declarators_front ds_list).specs names)
    (λ r s rest. and_then (r.trees_of reading.declarators (after names s) rest) (λ xs behind. expect Semicolon behind (λ end. found (plain_node kind.Member (start s) (s then xs)) end)))
    (max (forest_height ds) 0) (found (plain_node kind.Member (start s) (s then ds)) c)
    (λ e. leads_then ((read e).trees_of reading.declarators (after names s) b) go e (forest_height ds) 0 ds (mark Semicolon at ∷ c) _
    (row_leads e reading.declarators (after names s) b (cds refl e (suc (length b)) (omega arith))) (leads_here _ e)) d)

pub c_last_member : (names : Names) (a b : List Token) (t : Tree) → Complete names rule.member a b t → CompleteRow names rule.members a b (one t)
unfolding members_in
c_last_member names a b t c ends d zero lt = absurd (omega (arith, lt))
c_last_member names a b t c ends d (suc k) lt =
    leads_height _ d (max (height t) 0) _ _ (omega arith) (leads_then (member_in d (below d) names a) _ d (height t) 0 t b _ (c d) (rw (stop (begins_specifier false (after names t) b) refl) (leads_here _ d)))
  where
    stop : (p : Bool) → begins_specifier false (after names t) b ≡ p → begins_specifier false (after names t) b ≡ false
    stop true e = absurd (true≢false (sym ends ∙ specifier_no_mark RightBrace false (after names t) b e))
    stop false e = e

pub c_more_members : (names : Names) (a b c : List Token) (t : Tree) (ts : Forest) → Derives names rule.member a b t → Complete names rule.member a b t
    → Lists (after names t) rule.members b c ts → CompleteRow (after names t) rule.members b c ts → CompleteRow names rule.members a c (t then ts)
unfolding members_in
c_more_members names a b c t ts x cx xs cxs ends d zero lt = absurd (omega (arith, lt))
c_more_members names a b c t ts x cx xs cxs ends d (suc k) lt =
    let goes_on = members_begin xs in
    leads_height _ d (max (height t) (max (forest_height ts) 0)) _ _ (omega arith) (
    leads_then (member_in d (below d) names a) _ d (height t) (max (forest_height ts) 0) t b _ (cx d) (rw goes_on (
    leads_then (members_in d (below d) k (after names t) b) _ d (forest_height ts) 0 ts c _ (cxs ends d k (omega (arith, lt, member_shorter x))) (leads_here _ d))))

-- ---- enumerators

no_value : (d : ℕ) (r : Reader) (names : Names) (text : List ℕ) (at : Place) (b : List Token) → begins_with_mark Equal b ≡ false
    → value_by d r names text at b (ahead b) ≡ found (text_node kind.Enumer text at.start none) b
unfolding value_by
no_value d r names text at b ends = by (ahead b) ends
  where
    by : (x : Ahead) → begins_with_mark_by Equal x ≡ false → value_by d r names text at b x ≡ found (text_node kind.Enumer text at.start none) b
    by (mark_ahead Equal place rest) e = absurd (true≢false e)
    by other e = refl

pub c_enumerator_name : (text : List ℕ) (names : Names) (at : Place) (b : List Token) → is_identifier text ≡ true
    → Complete names rule.enumerator (word text at ∷ b) b (text_node kind.Enumer text at.start none)
unfolding enumerator_in enumerator_by ahead ahead_by
c_enumerator_name text names at b h ends d = rw (h, no_value d (below d) names text at b (closes_equal b ends)) (leaf_leads d _ _)

pub c_enumerator_value : (text : List ℕ) (names : Names) (a b : List Token) (v : Tree) (at at2 : Place) → is_identifier text ≡ true
    → Complete names rule.conditional a b v
    → Complete names rule.enumerator (word text at ∷ mark Equal at2 ∷ a) b (text_node kind.Enumer text at.start (one v))
unfolding enumerator_in enumerator_by value_by goal_in ahead ahead_by
c_enumerator_value text names a b v at at2 h c ends d =
    let go : Tree → List Token → Answer Tree = λ x end. found (text_node kind.Enumer text at.start (one x)) end in
    rw h (fit_leads 1 d _ _ _ _ (omega arith) (leads_height _ d (suc (max (height v) 0)) _ _ (omega arith) (
    node_leads 2 (max (height v) 0) a (λ r. and_then (r.tree_of reading.conditional names a) go) (found (text_node kind.Enumer text at.start (one v)) b) (omega arith) (omega arith)
    (λ e. leads_then ((read e).tree_of reading.conditional names a) go e (height v) 0 v b _ (goal_leads e reading.conditional names a (c (closes_conditional b ends) e)) (leads_here _ e)) d)))

pub c_last_enumerator : (names : Names) (a b : List Token) (t : Tree) → Complete names rule.enumerator a b t → CompleteRow names rule.enumerators a b (one t)
c_last_enumerator names a b t c ends d =
    braces_last d (below d) (enumerator_in d (below d)) names a b t (c (right_brace_closes b ends) d) (begins_as RightBrace Comma b ends)

pub c_last_enumerator_with_comma : (names : Names) (a b : List Token) (at : Place) (t : Tree)
    → Complete names rule.enumerator a (mark Comma at ∷ b) t → CompleteRow names rule.enumerators a b (one t)
unfolding ahead ahead_by
c_last_enumerator_with_comma names a b at t c ends d = braces_comma d (below d) (enumerator_in d (below d)) names a b at t (c refl d) ends

pub c_more_enumerators : (names : Names) (a b c : List Token) (at : Place) (t : Tree) (ts : Forest)
    → Derives names rule.enumerator a (mark Comma at ∷ b) t → Complete names rule.enumerator a (mark Comma at ∷ b) t
    → Lists (after names t) rule.enumerators b c ts → CompleteRow (after names t) rule.enumerators b c ts → CompleteRow names rule.enumerators a c (t then ts)
unfolding ahead ahead_by
c_more_enumerators names a b c at t ts x cx xs cxs ends d =
    braces_more d (below d) (enumerator_in d (below d)) names a b at t ts c (cx refl d) (before_token x) (enumerators_no_brace xs) (cxs ends d)

-- ---- declarators and parameters

pub c_last_declarator : (names : Names) (a b : List Token) (t : Tree) → Complete names rule.declarator a b t → CompleteRow names rule.declarators a b (one t)
c_last_declarator names a b t c ends d =
    listed_last d (below d) (declared_in d (below d) reading.named) after names a b t (c (closes_declarator b (semicolon_closes b ends)) d).alone (begins_as Semicolon Comma b ends)

pub c_more_declarators : (names : Names) (a b c : List Token) (at : Place) (t : Tree) (ts : Forest)
    → Derives names rule.declarator a (mark Comma at ∷ b) t → Complete names rule.declarator a (mark Comma at ∷ b) t
    → CompleteRow (after names t) rule.declarators b c ts → CompleteRow names rule.declarators a c (t then ts)
unfolding ahead ahead_by
c_more_declarators names a b c at t ts x cx cxs ends d =
    listed_more d (below d) (declared_in d (below d) reading.named) after names a b at t ts c (cx refl d).alone (before_token x) (cxs ends d)

pub c_last_parameter : (names : Names) (a b : List Token) (t : Tree) → Complete names rule.parameter a b t → CompleteRow names rule.parameters a b (one t)
c_last_parameter names a b t c ends d =
    listed_last d (below d) (parameter_in d (below d)) after_parameter names a b t (c (right_parenthesis_closes b ends) d) (begins_as RightParenthesis Comma b ends)

pub c_more_parameters : (names : Names) (a b c : List Token) (at : Place) (t : Tree) (ts : Forest)
    → Derives names rule.parameter a (mark Comma at ∷ b) t → Complete names rule.parameter a (mark Comma at ∷ b) t
    → CompleteRow (after_parameter names t) rule.parameters b c ts → CompleteRow names rule.parameters a c (t then ts)
unfolding ahead ahead_by
c_more_parameters names a b c at t ts x cx cxs ends d =
    listed_more d (below d) (parameter_in d (below d)) after_parameter names a b at t ts c (cx refl d) (before_token x) (cxs ends d)

-- ---- lengths of arrays

pub c_no_length : (names : Names) (b : List Token) → CompleteRow names rule.optional_length b b none
unfolding length_in
c_no_length names b ends d = rw ends (leads_here _ d)

no_bracket : (names : Names) (a : List Token) → front names a ≡ of_expression → begins_with_mark RightBracket a ≡ false
unfolding ahead ahead_by
no_bracket names [] e = refl
no_bracket names (t ∷ rest) e = at t.kind _ e
  where
    at : (kind : TokenKind) (place : Place) → kind_front names kind ≡ of_expression → begins_with_mark_by RightBracket (ahead_by kind place rest) ≡ false
    at (token.Punct RightBracket) place e = absurd (true≢false (sym (ap begins_statement e)))
    at other place e = refl

pub c_a_length : (names : Names) (a b : List Token) (t : Tree) → Derives names rule.conditional a b t
    → Complete names rule.conditional a b t → CompleteRow names rule.optional_length a b (one t)
unfolding length_in
c_a_length names a b t x c ends d = rw (no_bracket names a (has_front x)) (leads_height _ d (max (height t) 0) _ _ (omega arith) (
    leads_then (conditional_in d (below d) names a) _ d (height t) 0 t b _ (c (closes_conditional b (right_bracket_closes b ends)) d) (leads_here _ d)))
