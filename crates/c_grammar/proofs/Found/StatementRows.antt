-- What derivations of rows say of their reading: externals, declarators with initializers, initializers, statements, arguments.
use Rattle.std.proofs.Common.{◌≡◌, ℕ, zero, suc, ◌<◌, ◌≤◌, Bool, true, false, List, [], ◌∷◌, length, refl, sym, ap, ◌∙◌, arith, true≢false}
use Rattle.std.specs.Prelude.{not, ◌||◌, ◌&&◌, codes, if◌then◌else◌}
use Rattle.c_lexer.specs.declared.token.Punct.TheVariants.{RightParenthesis, RightBrace, Semicolon, Comma}
use Rattle.c_lexer.specs.declared.token.Token.{Token}
use Rattle.c_syntax.specs.Trees.{Tree, Forest, none, ◌then◌, one, height, forest_height}
use Rattle.c_grammar.specs.Vocabulary.{Place, mark}
use Rattle.c_grammar.specs.Scopes.{Names, after, add, entries_behind}
use Rattle.c_grammar.specs.Derivation as grammar
use Rattle.c_grammar.specs.Derivation.{Part, Row, Derives, Lists, Standing, may_end, is_labelled, ends_open}
use Rattle.c_grammar.specs.Answers.{Answer, found, and_then, Ahead, mark_ahead, ahead, ahead_by}
use Rattle.c_grammar.specs.Reading.{begins_with_mark, begins_with_mark_by, begins_with_word, begins_with_word_by, begins_specifier, listed, listed_in_braces, items_in, begins_label, ends_groups, standing_behind, group_item_in, groups_in, externals_in, externals_by, arguments_in, assignment_in, initializer_in, init_declarator_in, below}
use Rattle.c_grammar.proofs.Budgets.{Finds, leads_then, leads_here, leads_from, leads_height}
use Rattle.c_grammar.proofs.Found.Claims.{Complete, CompleteRow, Counted, Is}
use Rattle.c_grammar.proofs.Found.StatementSteps.{leads_true, leads_false, closes_assignment, ends_row}
use Rattle.c_grammar.proofs.Found.StatementFirsts.{no_brace, no_parenthesis, no_else_word, no_label_begins, specs_begin, no_specs_begin}
use Rattle.c_grammar.proofs.Found.Lengths.{part_length, declaration_length, statement_length, label_length, external_length}
use Rattle.c_grammar.proofs.Sound.{standing_at}
use Rattle.c_grammar.proofs.FirstTokens.{Front, of_specs, of_expression, front, begins_statement, has_front, row_has_front}

-- ---- with commas between

module _ (d : ℕ) (item : Names → List Token → Answer Tree) (next : Names → Tree → Names) (names : Names) (a : List Token) (t : Tree) where
  pub listed_last : (b : List Token) → begins_with_mark Comma b ≡ false → Finds (item names a) d (height t) t b → Counted (λ k. listed d (below d) item next k names a) a d (one t) b
  unfolding listed
  listed_last b stop f zero lt = absurd (omega (arith, lt))
  listed_last b stop f (suc k) lt = leads_then _ _ d (height t) 0 t b _ f (leads_false (begins_with_mark Comma b) _ _ d 0 _ stop (leads_here _ d))

  pub listed_more : (b c : List Token) (at : Place) (ts : Forest) → suc (length b) ≤ length a → Finds (item names a) d (height t) t (mark Comma at ∷ b)
      → Counted (λ k. listed d (below d) item next k (next names t) b) b d ts c
      → Counted (λ k. listed d (below d) item next k names a) a d (t then ts) c
  unfolding listed ahead ahead_by
  listed_more b c at ts shorter f more zero lt = absurd (omega (arith, lt))
  listed_more b c at ts shorter f more (suc k) lt =
      leads_height _ d _ _ _ (omega arith)
      (leads_then _ _ d (height t) _ t _ _ f (leads_then _ _ d (forest_height ts) 0 ts c _ (more k (omega (arith, shorter, lt))) (leads_here _ d)))

module _ (d : ℕ) (item : Names → List Token → Answer Tree) (names : Names) (a : List Token) (t : Tree) where
  pub braces_last : (b : List Token) → begins_with_mark Comma b ≡ false → Finds (item names a) d (height t) t b → Counted (λ k. listed_in_braces d (below d) item k names a) a d (one t) b
  unfolding listed_in_braces
  braces_last b stop f zero lt = absurd (omega (arith, lt))
  braces_last b stop f (suc k) lt = leads_then _ _ d (height t) 0 t b _ f (leads_false (begins_with_mark Comma b) _ _ d 0 _ stop (leads_here _ d))

  pub braces_comma : (b : List Token) (at : Place) → Is (begins_with_mark RightBrace b) → Finds (item names a) d (height t) t (mark Comma at ∷ b)
      → Counted (λ k. listed_in_braces d (below d) item k names a) a d (one t) b
  unfolding listed_in_braces ahead ahead_by
  braces_comma b at stop f zero lt = absurd (omega (arith, lt))
  braces_comma b at stop f (suc k) lt = leads_then _ _ d (height t) 0 t _ _ f (leads_true (begins_with_mark RightBrace b) _ _ d 0 _ stop (leads_here _ d))

  pub braces_more : (b c : List Token) (at : Place) (ts : Forest) → begins_with_mark RightBrace b ≡ false → suc (length b) ≤ length a → Finds (item names a) d (height t) t (mark Comma at ∷ b)
      → Counted (λ k. listed_in_braces d (below d) item k (after names t) b) b d ts c
      → Counted (λ k. listed_in_braces d (below d) item k names a) a d (t then ts) c
  unfolding listed_in_braces ahead ahead_by
  braces_more b c at ts go_on shorter f more zero lt = absurd (omega (arith, lt))
  braces_more b c at ts go_on shorter f more (suc k) lt =
      leads_height _ d _ _ _ (omega arith)
      (leads_then _ _ d (height t) _ t _ _ f (leads_false (begins_with_mark RightBrace b) _ _ d _ _ go_on
      (leads_then _ _ d (forest_height ts) 0 ts c _ (more k (omega (arith, shorter, lt))) (leads_here _ d))))

-- ---- declarators with initializers

pub c_last_init_declarator : (names : Names) (is_typedef : Bool) (a b : List Token) (t : Tree)
    → Complete names (Part.init_declarator is_typedef) a b t
    → CompleteRow names (Row.init_declarators is_typedef) a b (one t)
c_last_init_declarator names is_typedef a b t c stop d =
    let at = ends_row (ahead b) (rw stop refl) in
    listed_last d (init_declarator_in d (below d) is_typedef) (λ ns t. add ns (entries_behind is_typedef (one t))) names a t b at.1 (c at.0 d)

pub c_more_init_declarators : {names : Names} {is_typedef : Bool} {a b : List Token} (c : List Token) {at : Place} {t : Tree} (ts : Forest)
    → Derives names (Part.init_declarator is_typedef) a (mark Comma at ∷ b) t
    → Complete names (Part.init_declarator is_typedef) a (mark Comma at ∷ b) t
    → CompleteRow (add names (entries_behind is_typedef (one t))) (Row.init_declarators is_typedef) b c ts
    → CompleteRow names (Row.init_declarators is_typedef) a c (t then ts)
unfolding ahead ahead_by
c_more_init_declarators {names} {is_typedef} {a} {b} c {at} {t} ts dt ct cts stop d =
    listed_more d (init_declarator_in d (below d) is_typedef) (λ ns t. add ns (entries_behind is_typedef (one t))) names a t b c at ts (part_length dt) (ct refl d) (cts stop d)

-- ---- initializers

pub c_last_initializer : (names : Names) (a b : List Token) (t : Tree) → Complete names Part.initializer a b t → CompleteRow names Row.initializers a b (one t)
c_last_initializer names a b t c stop d =
    let at = ends_row (ahead b) (either_true (begins_with_mark Semicolon b) _ _ stop) in
    braces_last d (initializer_in d (below d)) names a t b at.1 (c at.0 d)
  where
    either_true : (p q r : Bool) → q ≡ true → p || (q || r) ≡ true
    either_true true q r e = refl
    either_true false q r e = ap (λ s. s || r) e

pub c_last_initializer_with_comma : (names : Names) (a b : List Token) (at : Place) (t : Tree)
    → Complete names Part.initializer a (mark Comma at ∷ b) t
    → CompleteRow names Row.initializers a b (one t)
unfolding ahead ahead_by
c_last_initializer_with_comma names a b at t c stop d = braces_comma d (initializer_in d (below d)) names a t b at stop (c refl d)

-- no brace at the end stands where an initializer begins
begins_initializer : {names : Names} {a b : List Token} {t : Tree} → Derives names Part.initializer a b t → begins_with_mark RightBrace a ≡ false
unfolding ahead ahead_by
begins_initializer {names} {a} (grammar.initial_value d) = no_brace names a (λ f. cc (f, has_front d))
begins_initializer (grammar.braces ts) = refl

begins_initializers : {names : Names} {a b : List Token} {ts : Forest} → Lists names Row.initializers a b ts → begins_with_mark RightBrace a ≡ false
begins_initializers (grammar.last_initializer d) = begins_initializer d
begins_initializers (grammar.last_initializer_with_comma d) = begins_initializer d
begins_initializers (grammar.more_initializers d ds) = begins_initializer d

pub c_more_initializers : {names : Names} {a b c : List Token} {at : Place} {t : Tree} {ts : Forest}
    → Derives names Part.initializer a (mark Comma at ∷ b) t
    → Lists (after names t) Row.initializers b c ts
    → Complete names Part.initializer a (mark Comma at ∷ b) t
    → CompleteRow (after names t) Row.initializers b c ts
    → CompleteRow names Row.initializers a c (t then ts)
unfolding ahead ahead_by
c_more_initializers {names} {a} {b} {c} {at} {t} {ts} dt dts ct cts stop d =
    braces_more d (initializer_in d (below d)) names a t b c at ts (begins_initializers dts) (part_length dt) (ct refl d) (cts stop d)

-- ---- arguments

pub c_no_arguments : (names : Names) (b : List Token) → CompleteRow names Row.arguments b b none
unfolding arguments_in
c_no_arguments names b stop d = leads_true (begins_with_mark RightParenthesis b) _ _ d 0 _ stop (leads_here _ d)

begins_arguments : {names : Names} {a b : List Token} {ts : Forest} → Lists names Row.argument_list a b ts → front names a ≡ of_expression
begins_arguments (grammar.last_argument d) = has_front d
begins_arguments (grammar.more_arguments d ds) = has_front d

pub c_some_arguments : {names : Names} {a b : List Token} {ts : Forest}
    → Lists names Row.argument_list a b ts
    → CompleteRow names Row.argument_list a b ts
    → CompleteRow names Row.arguments a b ts
unfolding arguments_in
c_some_arguments {names} {a} {b} {ts} dts cts stop d =
    leads_false (begins_with_mark RightParenthesis a) _ _ d _ _ (no_parenthesis names a (λ f. cc (f, begins_arguments dts))) (cts stop d (suc (length a)) (omega arith))

pub c_last_argument : (names : Names) (a b : List Token) (t : Tree) → Complete names Part.assignment a b t → CompleteRow names Row.argument_list a b (one t)
c_last_argument names a b t c stop d =
    let at = ends_row (ahead b) (last_true (begins_with_mark Semicolon b) (begins_with_mark RightBrace b) _ stop) in
    listed_last d (assignment_in d (below d)) after names a t b at.1 (c (closes_assignment (ahead b) at.0) d)
  where
    last_true : (p q r : Bool) → r ≡ true → p || (q || r) ≡ true
    last_true true q r e = refl
    last_true false true r e = refl
    last_true false false r e = e

pub c_more_arguments : {names : Names} {a b : List Token} (c : List Token) {at : Place} {t : Tree} (ts : Forest)
    → Derives names Part.assignment a (mark Comma at ∷ b) t
    → Complete names Part.assignment a (mark Comma at ∷ b) t
    → CompleteRow (after names t) Row.argument_list b c ts
    → CompleteRow names Row.argument_list a c (t then ts)
unfolding ahead ahead_by
c_more_arguments {names} {a} {b} c {at} {t} ts dt ct cts stop d =
    listed_more d (assignment_in d (below d)) after names a t b c at ts (part_length dt) (ct refl d) (cts stop d)

-- ---- declarations and statements

pub c_no_items : (names : Names) (b : List Token) → CompleteRow names Row.block_items b b none
unfolding items_in
c_no_items names b stop d zero lt = absurd (omega (arith, lt))
c_no_items names b stop d (suc k) lt = leads_true (begins_with_mark RightBrace b) _ _ d 0 _ stop (leads_here _ d)

no_else_at_brace : (b : List Token) → Is (begins_with_mark RightBrace b) → begins_with_word (codes "else") b ≡ false
no_else_at_brace b stop = by (ahead b) stop
  where
    by : (a : Ahead) → begins_with_mark_by RightBrace a ≡ true → begins_with_word_by (codes "else") a ≡ false
    by (mark_ahead p at rest) e = refl
    by other e = absurd (true≢false (sym e))

-- a statement before what is no `else`
not_open : (p q : Bool) → q ≡ false → not (p && q) ≡ true
not_open true q e = ap not e
not_open false q e = refl

-- no `else` stands before more of them
no_else_there : {names : Names} {a b : List Token} {ts : Forest} → Lists names Row.block_items a b ts → Is (begins_with_mark RightBrace b) → begins_with_word (codes "else") a ≡ false
no_else_there {a = a} grammar.no_items stop = no_else_at_brace a stop
no_else_there {names} {a} (grammar.declaration_first d ds) stop = no_else_word names a (λ f. cc (f, has_front d))
no_else_there {names} {a} (grammar.statement_first d ds) stop = no_else_word names a (λ f. true≢false (sym (has_front d) ∙ ap begins_statement f))

pub c_declaration_first : {names : Names} {a b : List Token} (c : List Token) {t : Tree} (ts : Forest)
    → Derives names Part.declaration a b t
    → Complete names Part.declaration a b t
    → CompleteRow (after names t) Row.block_items b c ts
    → CompleteRow names Row.block_items a c (t then ts)
unfolding items_in
c_declaration_first c ts dt ct cts stop d zero lt = absurd (omega (arith, lt))
c_declaration_first {names} {a} {b} c {t} ts dt ct cts stop d (suc k) lt =
    leads_height _ d _ _ _ (omega arith)
    (leads_false (begins_with_mark RightBrace a) _ _ d _ _ (no_brace names a (λ f. cc (f, has_front dt)))
    (leads_then _ _ d (height t) _ t b _ (leads_true (begins_specifier false names a) _ _ d _ _ (specs_begin names a (has_front dt)) (ct d))
    (leads_then _ _ d (forest_height ts) 0 ts c _ (cts stop d k (omega (arith, declaration_length dt, lt))) (leads_here _ d))))

pub c_statement_first : {names : Names} {a b c : List Token} {t : Tree} {ts : Forest}
    → Derives names Part.statement a b t
    → Lists (after names t) Row.block_items b c ts
    → Complete names Part.statement a b t
    → CompleteRow (after names t) Row.block_items b c ts
    → CompleteRow names Row.block_items a c (t then ts)
unfolding items_in
c_statement_first dt dts ct cts stop d zero lt = absurd (omega (arith, lt))
c_statement_first {names} {a} {b} {c} {t} {ts} dt dts ct cts stop d (suc k) lt =
    leads_height _ d _ _ _ (omega arith)
    (leads_false (begins_with_mark RightBrace a) _ _ d _ _ (no_brace names a (λ f. true≢false (sym (has_front dt) ∙ ap begins_statement f)))
    (leads_then _ _ d (height t) _ t b _ (leads_false (begins_specifier false names a) _ _ d _ _ (no_specs_begin names a (has_front dt)) (ct (not_open (ends_open t) _ (no_else_there dts stop)) d))
    (leads_then _ _ d (forest_height ts) 0 ts c _ (cts stop d k (omega (arith, statement_length dt, lt))) (leads_here _ d))))

-- ---- the groups of a `switch`

-- no label stands at the brace behind them, and they end there
no_label_at_brace : (b : List Token) → Is (begins_with_mark RightBrace b) → begins_label b ≡ false
no_label_at_brace b stop = by (ahead b) stop
  where
    by : (a : Ahead) → begins_with_mark_by RightBrace a ≡ true → begins_with_word_by (codes "case") a || begins_with_word_by (codes "default") a ≡ false
    by (mark_ahead p at rest) e = refl
    by other e = absurd (true≢false (sym e))

groups_end : (standing : Standing) (b : List Token) → may_end standing ≡ true → Is (begins_with_mark RightBrace b) → ends_groups standing b ≡ true
groups_end grammar.at_first b e stop = ap not (no_label_at_brace b stop)
groups_end grammar.behind_label b e stop = e
groups_end grammar.behind_statement b e stop = stop

pub c_no_more_groups : (names : Names) (standing : Standing) (b : List Token) → may_end standing ≡ true → CompleteRow names (Row.groups standing) b b none
unfolding groups_in
c_no_more_groups names standing b e stop d zero lt = absurd (omega (arith, lt))
c_no_more_groups names standing b e stop d (suc k) lt = leads_true (ends_groups standing b) _ _ d 0 _ (groups_end standing b e stop) (leads_here _ d)

-- they do not end where a label begins, nor where a statement may and does
label_begins : {names : Names} {a b : List Token} {t : Tree} → Derives names Part.switch_label a b t → begins_label a ≡ true
unfolding ahead ahead_by
label_begins (grammar.case_label x) = refl
label_begins grammar.default_label = refl

label_goes_on : {names : Names} {a b : List Token} {t : Tree} (standing : Standing) → Derives names Part.switch_label a b t → ends_groups standing a ≡ false
unfolding ahead ahead_by
label_goes_on grammar.at_first dt = ap not (label_begins dt)
label_goes_on grammar.behind_label dt = refl
label_goes_on grammar.behind_statement (grammar.case_label x) = refl
label_goes_on grammar.behind_statement grammar.default_label = refl

statement_goes_on : (standing : Standing) (a : List Token) → is_labelled standing ≡ true → begins_with_mark RightBrace a ≡ false → ends_groups standing a ≡ false
statement_goes_on grammar.at_first a e f = absurd (true≢false (sym e))
statement_goes_on grammar.behind_label a e f = refl
statement_goes_on grammar.behind_statement a e f = f

-- no `else` stands before more of them
no_else_in_groups : {names : Names} {standing : Standing} {a b : List Token} {ts : Forest}
    → Lists names (Row.groups standing) a b ts
    → Is (begins_with_mark RightBrace b)
    → begins_with_word (codes "else") a ≡ false
unfolding ahead ahead_by
no_else_in_groups {a = a} (grammar.no_more_groups e) stop = no_else_at_brace a stop
no_else_in_groups (grammar.label_first (grammar.case_label x) ds) stop = refl
no_else_in_groups (grammar.label_first grammar.default_label ds) stop = refl
no_else_in_groups {names} {a = a} (grammar.labelled_statement e d ds) stop = no_else_word names a (λ f. true≢false (sym (has_front d) ∙ ap begins_statement f))

-- one label or statement, and then those behind it
group_more : (names : Names) (standing next : Standing) (a b c : List Token) (t : Tree) (ts : Forest) → ends_groups standing a ≡ false → standing_behind a ≡ next → length b < length a
    → ((d : ℕ) → Finds (group_item_in d (below d) names a) d (height t) t b)
    → CompleteRow (after names t) (Row.groups next) b c ts
    → CompleteRow names (Row.groups standing) a c (t then ts)
unfolding groups_in
group_more names standing next a b c t ts go_on place shorter item cts stop d zero lt = absurd (omega (arith, lt))
group_more names standing next a b c t ts go_on place shorter item cts stop d (suc k) lt =
    leads_height _ d _ _ _ (omega arith)
    (leads_false (ends_groups standing a) _ _ d _ _ go_on
    (leads_then _ _ d (height t) _ t b _ (item d)
    (leads_from _ _ d _ _ (ap (λ s. and_then (groups_in d (below d) k s (after names t) b) (λ more end. found (t then more) end)) place)
    (leads_then _ _ d (forest_height ts) 0 ts c _ (cts stop d k (omega (arith, shorter, lt))) (leads_here _ d)))))

pub c_label_first : {names : Names} (standing : Standing) {a b : List Token} (c : List Token) {t : Tree} (ts : Forest)
    → Derives names Part.switch_label a b t
    → Complete names Part.switch_label a b t
    → CompleteRow (after names t) (Row.groups grammar.behind_label) b c ts
    → CompleteRow names (Row.groups standing) a c (t then ts)
unfolding group_item_in
c_label_first {names} standing {a} {b} c {t} ts dt ct cts =
    group_more names standing grammar.behind_label a b c t ts (label_goes_on standing dt) (standing_at a true (label_begins dt)) (label_length dt)
    (λ d. leads_true (begins_label a) _ _ d _ _ (label_begins dt) (ct d)) cts

pub c_labelled_statement : {names : Names} (standing : Standing) {a b c : List Token} {t : Tree} {ts : Forest}
    → is_labelled standing ≡ true
    → Derives names Part.statement a b t
    → Lists (after names t) (Row.groups grammar.behind_statement) b c ts
    → Complete names Part.statement a b t
    → CompleteRow (after names t) (Row.groups grammar.behind_statement) b c ts
    → CompleteRow names (Row.groups standing) a c (t then ts)
unfolding group_item_in
c_labelled_statement {names} standing {a} {b} {c} {t} {ts} e dt dts ct cts stop =
    group_more names standing grammar.behind_statement a b c t ts (statement_goes_on standing a e (no_brace names a no_other)) (standing_at a false no_label) (statement_length dt)
    (λ d. leads_false (begins_label a) _ _ d _ _ no_label (ct (not_open (ends_open t) _ (no_else_in_groups dts stop)) d)) cts stop
  where
    no_other : front names a ≡ Front.other → ⊥
    no_other f = true≢false (sym (has_front dt) ∙ ap begins_statement f)

    no_label : begins_label a ≡ false
    no_label = no_label_begins names a no_other

-- ---- externals

pub c_last_external : (names : Names) (a b : List Token) (t : Tree) → Complete names Part.external a b t → CompleteRow names Row.externals a b (one t)
unfolding externals_in externals_by
c_last_external names a b t c stop d zero lt = absurd (omega (arith, lt))
c_last_external names a b t c stop d (suc k) lt =
    leads_then _ _ d (height t) 0 t b _ (c d) (leads_from _ _ d 0 _ (last b _ stop) (leads_here _ d))
  where
    last : (b : List Token) (deeper : Answer Forest) → b ≡ [] → externals_by d (below d) t b deeper ≡ found (one t) b
    last [] deeper e = refl
    last (next ∷ b) deeper e = absurd (cc e)

pub c_more_externals : {names : Names} {a b c : List Token} {t : Tree} {ts : Forest}
    → Derives names Part.external a b t
    → Lists (after names t) Row.externals b c ts
    → Complete names Part.external a b t
    → CompleteRow (after names t) Row.externals b c ts
    → CompleteRow names Row.externals a c (t then ts)
unfolding externals_in externals_by
c_more_externals dt dts ct cts stop d zero lt = absurd (omega (arith, lt))
c_more_externals {names} {a} {b} {c} {t} {ts} dt dts ct cts stop d (suc k) lt =
    leads_height _ d _ _ _ (omega arith)
    (leads_then _ _ d (height t) _ t b _ (ct d) (leads_from _ _ d _ _ (more b _ (row_has_front dts))
    (leads_then _ _ d (forest_height ts) 0 ts c _ (cts stop d k (omega (arith, external_length dt, lt))) (leads_here _ d))))
  where
    more : (b : List Token) (deeper : Answer Forest) → front (after names t) b ≡ of_specs → externals_by d (below d) t b deeper ≡ and_then deeper (λ more end. found (t then more) end)
    more [] deeper e = absurd (cc e)
    more (next ∷ b) deeper e = refl
