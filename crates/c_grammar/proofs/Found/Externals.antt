-- What derivations of externals and of a unit say of their reading.
use Rattle.std.proofs.Common.{◌≡◌, ℕ, zero, suc, ◌≤◌, Bool, false, List, [], ◌∷◌, length, refl, arith, true≢false}
use Rattle.std.specs.Prelude.{max, if◌then◌else◌}
use Rattle.c_lexer.specs.declared.token.Punct.TheVariants.{LeftBrace, RightBrace, Semicolon, Equal, Comma}
use Rattle.c_lexer.specs.declared.token.Token.{Token}
use Rattle.c_syntax.specs.declared.kind.SynKind.TheVariants as kind
use Rattle.c_syntax.specs.Trees.{Tree, Forest, ◌then◌, one, two, three, plain_node, height, forest_height}
use Rattle.c_grammar.specs.Vocabulary.{Place, mark}
use Rattle.c_grammar.specs.Scopes.{Names, opened, after, after_declarator, add, entries_behind, says_typedef, in_body}
use Rattle.c_grammar.specs.Derivation.{Part, Row, Derives, start, first_start}
use Rattle.c_grammar.specs.Answers.{Answer, found, and_then, expect, expect_by, Ahead, mark_ahead, ahead, ahead_by}
use Rattle.c_grammar.specs.Reading.{Reader, read, read_unit, goal_in, rows_in, named, begins_with_mark, begins_with_mark_by, begins_specifier_by, behind_one, init_behind_by, init_behind_in, declarators_behind, declaration_from, specs_first, function_by, external_in, below}
use Rattle.c_grammar.specs.Reading as reading
use Rattle.c_grammar.proofs.Budgets.{Finds, IsDeep, leads_then, leads_here, leads_height, leads_from, leads_up, then_deep, then_found}
use Rattle.c_grammar.proofs.Found.Claims.{Complete, CompleteRow, Is, closes, ends_declarator}
use Rattle.c_grammar.proofs.Found.StatementSteps.{tree_finds, trees_find, node_then, leads_false}
use Rattle.c_grammar.proofs.Found.StatementFirsts.{declarator_begins, DeclaratorBegins}
use Rattle.c_grammar.proofs.Found.Operators.{fit_leads}
use Rattle.c_grammar.proofs.Found.Statements.{body_finds}

-- what an external reads behind its specs
abbrev behind_specs : ℕ → Names → Reader → Tree → List Token → Answer Tree
behind_specs d names r s rest =
    if begins_with_mark Semicolon rest then found (plain_node kind.Declaration (start s) (one s)) (behind_one rest)
    else and_then (r.tree_of (reading.declared named) (after names s) rest) (λ x behind. function_by d r names s x behind (ahead behind))

-- ---- functions

pub c_function : (names : Names) (a : List Token) {b c : List Token} (e : List Token) (s : Tree) {x : Tree} {at : Place} (at2 : Place) (items : Forest)
    → Derives (after names s) Part.declarator b (mark LeftBrace at ∷ c) x
    → Complete names Part.specifiers a b s
    → Complete (after names s) Part.declarator b (mark LeftBrace at ∷ c) x
    → CompleteRow (in_body names s x) Row.block_items c (mark RightBrace at2 ∷ e) items
    → Complete names Part.external a e (plain_node kind.Function (start s) (three s x (plain_node kind.Block at.start items)))
unfolding external_in specs_first function_by ahead ahead_by goal_in
c_function names a {b} {c} end s {x} {at} at2 items dx cs cx ci d =
    let begins = declarator_begins dx in
    let block : Tree = plain_node kind.Block at.start items in
    leads_height _ d _ _ _ (omega arith)
    (node_then reading.specifiers names a (λ e. cs (begins.1 names) e) (omega arith) (behind_specs d names)
    (λ e. leads_false (begins_with_mark Semicolon b) _ _ e _ _ begins.0
    (leads_then _ _ e (height x) _ x _ _ (tree_finds (reading.declared named) (after names s) b (cx refl e).alone)
    (leads_then _ _ e (height block) 0 block end _ (tree_finds reading.body (in_body names s x) (mark LeftBrace at ∷ c) (body_finds (in_body names s x) c end at2 at items ci e)) (leads_here _ e)))) d)

-- ---- declarators with initializers, from behind the first declarator

module _ (names : Names) (is_typedef : Bool) (x : Tree) where
  behind_last : (c : List Token) (at : Place) (d : ℕ)
      → Finds (init_behind_in d (below d) is_typedef x names (mark Semicolon at ∷ c)) d (height (plain_node kind.InitDecl (start x) (one x))) (plain_node kind.InitDecl (start x) (one x)) (mark Semicolon at ∷ c)
  unfolding init_behind_in init_behind_by ahead ahead_by
  behind_last c at d = leads_height _ d (suc (max (height x) 0)) _ _ (omega arith) (fit_leads (height x) 0 c (λ r. found (plain_node kind.InitDecl (start x) (one x)) (mark Semicolon at ∷ c)) _ (λ e. leads_here _ e) d)

  behind_more : (c : List Token) (at : Place) (d : ℕ)
      → Finds (init_behind_in d (below d) is_typedef x names (mark Comma at ∷ c)) d (height (plain_node kind.InitDecl (start x) (one x))) (plain_node kind.InitDecl (start x) (one x)) (mark Comma at ∷ c)
  unfolding init_behind_in init_behind_by ahead ahead_by
  behind_more c at d = leads_height _ d (suc (max (height x) 0)) _ _ (omega arith) (fit_leads (height x) 0 c (λ r. found (plain_node kind.InitDecl (start x) (one x)) (mark Comma at ∷ c)) _ (λ e. leads_here _ e) d)

  behind_value : (c g : List Token) (at : Place) (i : Tree) → Is (closes g)
      → Complete (after_declarator names is_typedef x) Part.initializer c g i
      → (d : ℕ) → Finds (init_behind_in d (below d) is_typedef x names (mark Equal at ∷ c)) d (height (plain_node kind.InitDecl (start x) (two x i))) (plain_node kind.InitDecl (start x) (two x i)) g
  unfolding init_behind_in init_behind_by ahead ahead_by goal_in
  behind_value c g at i ends ci d = leads_height _ d (suc (max (height x) (max (height i) 0))) _ _ (omega arith) (fit_leads (height x) (max (height i) 0) c
      (λ r. and_then (r.tree_of reading.initializer (after_declarator names is_typedef x) c) (λ y end. found (plain_node kind.InitDecl (start x) (two x y)) end)) _
      (λ e. leads_then _ _ e (height i) 0 i g _ (tree_finds reading.initializer (after_declarator names is_typedef x) c (ci ends e)) (leads_here _ e)) d)

  -- the rows of them
  abbrev Behind : List Token → List Token → Forest → Type 0
  Behind c e ds = (d : ℕ) → Finds (declarators_behind d (below d) is_typedef x names c) d (forest_height ds) ds e

  row_last : (c e : List Token) (at : Place) (t : Tree)
      → ((d : ℕ) → Finds (init_behind_in d (below d) is_typedef x names c) d (height t) t (mark Semicolon at ∷ e))
      → Behind c (mark Semicolon at ∷ e) (one t)
  unfolding declarators_behind ahead ahead_by
  row_last c e at t f d = leads_height _ d _ _ _ (omega arith) (leads_then _ _ d (height t) 0 t _ _ (f d) (leads_here _ d))

  row_more : (c g e : List Token) (at at2 : Place) (t : Tree) (ds : Forest)
      → ((d : ℕ) → Finds (init_behind_in d (below d) is_typedef x names c) d (height t) t (mark Comma at2 ∷ g))
      → CompleteRow (add names (entries_behind is_typedef (one t))) (Row.init_declarators is_typedef) g (mark Semicolon at ∷ e) ds
      → Behind c (mark Semicolon at ∷ e) (t then ds)
  unfolding declarators_behind ahead ahead_by
  row_more c g e at at2 t ds f more d =
      leads_height _ d _ _ _ (omega arith)
      (leads_then _ _ d (height t) _ t _ _ (f d)
      (leads_then _ _ d (forest_height ds) 0 ds _ _ (more refl d (suc (suc (length g))) (omega arith)) (leads_here _ d)))

-- ---- declarations

-- behind specs and a declarator that no body follows
no_body : (d : ℕ) (r : Reader) (names : Names) (s x : Tree) (behind : List Token) (a : Ahead) → begins_with_mark_by LeftBrace a ≡ false
    → function_by d r names s x behind a ≡ declaration_from d r names s x behind
unfolding function_by
no_body d r names s x behind (mark_ahead LeftBrace at rest) e = absurd (true≢false e)
no_body d r names s x behind other e = refl

declared_by : (names : Names) (a b c e : List Token) (at : Place) (s x : Tree) (ds : Forest)
    → Is (ends_declarator c) → begins_with_mark LeftBrace c ≡ false → DeclaratorBegins b → height x ≤ forest_height ds
    → Complete names Part.specifiers a b s
    → Complete (after names s) Part.declarator b c x
    → Behind (after names s) (says_typedef (one s)) x c (mark Semicolon at ∷ e) ds
    → Complete names Part.external a e (plain_node kind.Declaration (start s) (s then ds))
unfolding external_in specs_first declaration_from expect expect_by ahead ahead_by goal_in rows_in
declared_by names a b c end at s x ds ends stop begins low cs cx row d =
    leads_height _ d _ _ _ (omega (arith, low))
    (node_then reading.specifiers names a (λ e. cs (begins.1 names) e) (omega arith) (behind_specs d names)
    (λ e. leads_false (begins_with_mark Semicolon b) _ _ e _ _ begins.0
    (leads_then _ _ e (height x) _ x _ _ (tree_finds (reading.declared named) (after names s) b (cx ends e).alone)
    (leads_from _ _ e _ _ (no_body d (read e) names s x c (ahead c) stop)
    (leads_then _ _ e (forest_height ds) 0 ds _ _ (trees_find (reading.init_declarators_behind (says_typedef (one s)) x) (after names s) c (row e)) (leads_here _ e))))) d)

pub c_declared_bare : (names : Names) (a b : List Token) (at : Place) (s : Tree)
    → Complete names Part.specifiers a (mark Semicolon at ∷ b) s
    → Complete names Part.external a b (plain_node kind.Declaration (start s) (one s))
unfolding external_in specs_first begins_specifier_by ahead ahead_by goal_in
c_declared_bare names a b at s cs d =
    leads_height _ d _ _ _ (omega arith)
    (node_then reading.specifiers names a (λ e. cs refl e) (omega arith) (behind_specs d names) (λ e. leads_here _ e) d)

-- by the first declarator and what stands behind it
module _ (names : Names) (a : List Token) {b c : List Token} (s : Tree) {at : Place} {x : Tree} where
  pub c_declared_last : Derives (after names s) Part.declarator b (mark Semicolon at ∷ c) x
      → Complete names Part.specifiers a b s
      → Complete (after names s) Part.declarator b (mark Semicolon at ∷ c) x
      → Complete names Part.external a c (plain_node kind.Declaration (start s) (two s (plain_node kind.InitDecl (start x) (one x))))
  unfolding ahead ahead_by
  c_declared_last dx cs cx =
      declared_by names a b _ c at s x _ refl refl (declarator_begins dx) (omega arith) cs cx
      (row_last (after names s) (says_typedef (one s)) x _ c at _ (behind_last (after names s) (says_typedef (one s)) x c at))

  pub c_declared_last_value : {g : List Token} {at2 : Place} {i : Tree}
      → Derives (after names s) Part.declarator b (mark Equal at ∷ c) x
      → Complete names Part.specifiers a b s
      → Complete (after names s) Part.declarator b (mark Equal at ∷ c) x
      → Complete (after_declarator (after names s) (says_typedef (one s)) x) Part.initializer c (mark Semicolon at2 ∷ g) i
      → Complete names Part.external a g (plain_node kind.Declaration (start s) (two s (plain_node kind.InitDecl (start x) (two x i))))
  unfolding ahead ahead_by
  c_declared_last_value {g} {at2} {i} dx cs cx ci =
      declared_by names a b _ g at2 s x _ refl refl (declarator_begins dx) (omega arith) cs cx
      (row_last (after names s) (says_typedef (one s)) x _ g at2 _ (behind_value (after names s) (says_typedef (one s)) x c _ at i refl ci))

  pub c_declared_more : {g : List Token} {at2 : Place} {ds : Forest}
      → Derives (after names s) Part.declarator b (mark Comma at ∷ c) x
      → Complete names Part.specifiers a b s
      → Complete (after names s) Part.declarator b (mark Comma at ∷ c) x
      → CompleteRow (add (after names s) (entries_behind (says_typedef (one s)) (one (plain_node kind.InitDecl (start x) (one x))))) (Row.init_declarators (says_typedef (one s))) c (mark Semicolon at2 ∷ g) ds
      → Complete names Part.external a g (plain_node kind.Declaration (start s) (s then (plain_node kind.InitDecl (start x) (one x) then ds)))
  unfolding ahead ahead_by
  c_declared_more {g} {at2} {ds} dx cs cx cds =
      declared_by names a b _ g at2 s x _ refl refl (declarator_begins dx) (omega arith) cs cx
      (row_more (after names s) (says_typedef (one s)) x _ c g at2 at _ ds (behind_more (after names s) (says_typedef (one s)) x c at) cds)

  pub c_declared_more_value : {g h : List Token} {at2 at3 : Place} {i : Tree} {ds : Forest}
      → Derives (after names s) Part.declarator b (mark Equal at ∷ c) x
      → Complete names Part.specifiers a b s
      → Complete (after names s) Part.declarator b (mark Equal at ∷ c) x
      → Complete (after_declarator (after names s) (says_typedef (one s)) x) Part.initializer c (mark Comma at2 ∷ g) i
      → CompleteRow (add (after names s) (entries_behind (says_typedef (one s)) (one (plain_node kind.InitDecl (start x) (two x i))))) (Row.init_declarators (says_typedef (one s))) g (mark Semicolon at3 ∷ h) ds
      → Complete names Part.external a h (plain_node kind.Declaration (start s) (s then (plain_node kind.InitDecl (start x) (two x i) then ds)))
  unfolding ahead ahead_by
  c_declared_more_value {g} {h} {at2} {at3} {i} {ds} dx cs cx ci cds =
      declared_by names a b _ h at3 s x _ refl refl (declarator_begins dx) (omega arith) cs cx
      (row_more (after names s) (says_typedef (one s)) x _ g h at3 at2 _ ds (behind_value (after names s) (says_typedef (one s)) x c _ at i refl ci) cds)

-- ---- a unit

pub unit_found : (a : List Token) (ts : Forest) → CompleteRow (opened []) Row.externals a [] ts
    → (d : ℕ) → Finds (read_unit d a) d (height (plain_node kind.Unit (first_start ts) ts)) (plain_node kind.Unit (first_start ts) ts) []
unfolding read_unit rows_in
unit_found a ts c zero = record { low = λ le. absurd (omega (arith, le)); high = λ lt. late (forest_height ts) refl }
  where
    row : Finds ((read zero).trees_of reading.externals (opened []) a) zero (forest_height ts) ts []
    row = trees_find reading.externals (opened []) a (c refl zero (suc (length a)) (omega arith))

    late : (n : ℕ) → n ≡ forest_height ts → IsDeep (read_unit zero a)
    late zero e = record { behind = []; too_deep = then_found _ _ ts [] (row.low (omega (arith, e))) }
    late (suc n) e = then_deep _ _ (row.high (omega (arith, e)))
unit_found a ts c (suc d) =
    leads_height _ (suc d) _ _ _ (omega arith)
    (leads_up _ d (max (forest_height ts) 0) _
    (leads_then _ _ d (forest_height ts) 0 ts [] _ (trees_find reading.externals (opened []) a (c refl d (suc (length a)) (omega arith))) (leads_here _ d)))
