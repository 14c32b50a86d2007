-- What declarations and functions read, as far as each call has come, and the nodes above it.
use Rattle.std.specs.Prelude.{⊤}
use Rattle.std.proofs.Common.{◌≡◌, ◌≢◌, ℕ, zero, suc, ◌≤◌, ◌<◌, max, Bool, true, false, List, map, length, if◌then◌else◌, Result, refl, sym, ap, ◌∙◌, arith}
use Rattle.c_lexer.specs.declared.token.Token.{Token}
use Rattle.c_lexer.specs.declared.token.Punct.TheVariants.{LeftBrace, Semicolon}
use Rattle.c_syntax.specs.declared.kind.SynKind.TheVariants as kind
use Rattle.c_syntax.specs.Trees.{Tree, Forest, ◌then◌, one, three, plain_node, forest_of, forest_height}
use Rattle.c_syntax.specs.Tables.{stack_of}
use Rattle.c_grammar.specs.Scopes.{Names, add, after, entries_behind, in_body, parameter_entries, parameters_of, says_typedef}
use Rattle.c_grammar.specs.Answers.{Answer, Ahead, found, and_then, expect, ahead}
use Rattle.c_grammar.specs.Reading.{Reader, Goal, Rows, named, below, level, goal_in, rows_in, specs_first, specifiers_in, declared_in, declaration_in, declaration_behind, declaration_from, external_in, function_by, body_by, begins_with_mark, begins_with_mark_by, behind_one}
use Rattle.c_grammar.proofs.SoundSteps.{IsAhead, is_nothing, is_mark, is_word, is_integer, is_character, is_string, ahead_is}
use Rattle.c_scopes.specs.ScopeLog.{entry_of}
use Rattle.c_parts.specs.declared.budget.Stop.{Stop}
use Rattle.c_parts.specs.declared.part.Part.{Part}
use Rattle.c_parts.specs.declared.specifier.Specs.{Specs}
use Rattle.c_parts.specs.declared.declarator.Declarator.{Declarator}
use Rattle.c_parts.specs.Pushed.{IsPushed, Pushes}
use Rattle.c_parts.proofs.Levels.{next_tree}
use Rattle.c_parser.specs.declared.parser.Parser.{Parser}
use Rattle.c_parser.specs.Gives.{Gives, Reads, Keeps, SaysSpecs, IsDeclared, OpenedBody, itself, nothing_more}
use Rattle.c_parser.specs.Steps.{function_of, declared_row_from}
use Rattle.c_parser.proofs.Made.{made, pushed_on}
use Rattle.c_parser.proofs.NamesBehind.{names_declaration, names_specs_alone, names_in_function}
use Rattle.c_parser.proofs.Spans.{IsWithin, within_next, some_height}
use Rattle.c_parser.proofs.Stopping.{chosen, not_chosen}

-- specs and a declarator are within the budget
pub within_both : (d a b : ℕ) → max a b < d → IsWithin a d
within_both zero a b h = absurd (omega (arith, h))
within_both (suc d) a b h = (d, (refl, omega (arith, h)))

-- ---- behind the specs

abbrev pub declaration_go : Tree → ℕ → Forest → List Token → Answer Tree
declaration_go s start xs behind = expect Semicolon behind (λ end. found (plain_node kind.Declaration start (s then xs)) end)

abbrev pub external_go : ℕ → Reader → Names → Tree → List Token → Answer Tree
external_go d r names s rest = if begins_with_mark Semicolon rest then found (plain_node kind.Declaration s.label.start (one s)) (behind_one rest)
    else and_then (r.tree_of (Goal.declared named) (after names s) rest) (λ x behind. function_by d r names s x behind (ahead behind))

module _ (d l : ℕ) (names : Names) (ts : List Token) (at_none : d ≡ 0 → l ≡ 0) (more : d ≢ 0 → below d ≡ level l (below l)) where
  pub declaration_inside : declaration_in d (below d) names ts ≡ and_then (specifiers_in l (below l) names ts) (declaration_behind d (below d) names)
  unfolding declaration_in specs_first goal_in
  declaration_inside = ap (λ (x : Answer Tree). and_then x (declaration_behind d (below d) names)) (next_tree d l at_none more Goal.specifiers names ts)

  pub external_inside : external_in d (below d) names ts ≡ and_then (specifiers_in l (below l) names ts) (external_go d (below d) names)
  unfolding external_in specs_first goal_in
  external_inside = ap (λ (x : Answer Tree). and_then x (external_go d (below d) names)) (next_tree d l at_none more Goal.specifiers names ts)

pub declaration_alone : (d : ℕ) (r : Reader) (names : Names) (s : Tree) (ts : List Token) → begins_with_mark Semicolon ts ≡ true
    → declaration_behind d r names s ts ≡ found (plain_node kind.Declaration s.label.start (one s)) (behind_one ts)
unfolding declaration_behind
declaration_alone d r names s ts e = chosen _ _ _ e

pub external_alone : (d : ℕ) (r : Reader) (names : Names) (s : Tree) (ts : List Token) → begins_with_mark Semicolon ts ≡ true
    → external_go d r names s ts ≡ found (plain_node kind.Declaration s.label.start (one s)) (behind_one ts)
external_alone d r names s ts e = chosen _ _ _ e

-- within the next lower budget
module _ (d l : ℕ) (level_is : below d ≡ level l (below l)) (names names2 : Names) (s : Tree) (ts : List Token) (same : names2 ≡ after names s) where
  pub declaration_row : (is_typedef : Bool) (start : ℕ) → is_typedef ≡ says_typedef (one s) → start ≡ s.label.start → begins_with_mark Semicolon ts ≡ false
      → declaration_behind d (below d) names s ts ≡ and_then (rows_in l (below l) (Rows.init_declarators is_typedef) names2 ts) (declaration_go s start)
  unfolding declaration_behind level
  declaration_row is_typedef start flag start_is e =
      not_chosen _ _ _ e
      ∙ ap (λ (r : Reader). and_then (r.trees_of (Rows.init_declarators (says_typedef (one s))) (after names s) ts) (declaration_go s s.label.start)) level_is
      ∙ ap (λ (b : Bool). and_then (rows_in l (below l) (Rows.init_declarators b) (after names s) ts) (declaration_go s s.label.start)) (sym flag)
      ∙ ap (λ (m : Names). and_then (rows_in l (below l) (Rows.init_declarators is_typedef) m ts) (declaration_go s s.label.start)) (sym same)
      ∙ ap (λ (k : ℕ). and_then (rows_in l (below l) (Rows.init_declarators is_typedef) names2 ts) (declaration_go s k)) (sym start_is)

  pub external_declarator : begins_with_mark Semicolon ts ≡ false
      → external_go d (below d) names s ts ≡ and_then (declared_in l (below l) named names2 ts) (λ x behind. function_by d (below d) names s x behind (ahead behind))
  unfolding level goal_in
  external_declarator e =
      not_chosen _ _ _ e
      ∙ ap (λ (r : Reader). and_then (r.tree_of (Goal.declared named) (after names s) ts) (λ x behind. function_by d (below d) names s x behind (ahead behind))) level_is
      ∙ ap (λ (m : Names). and_then (declared_in l (below l) named m ts) (λ x behind. function_by d (below d) names s x behind (ahead behind))) (sym same)

-- ---- behind the first declarator

pub row_behind : (d l : ℕ) → below d ≡ level l (below l) → (names : Names) (s x : Tree) (ts : List Token) (is_typedef : Bool) (start : ℕ) → is_typedef ≡ says_typedef (one s) → start ≡ s.label.start
    → declaration_from d (below d) names s x ts ≡ and_then (declared_row_from l (below l) is_typedef (after names s) x ts) (declaration_go s start)
unfolding declaration_from level rows_in
row_behind d l level_is names s x ts is_typedef start flag start_is =
    ap (λ (r : Reader). and_then (r.trees_of (Rows.init_declarators_behind (says_typedef (one s)) x) (after names s) ts) (declaration_go s s.label.start)) level_is
    ∙ ap (λ (b : Bool). and_then (declared_row_from l (below l) b (after names s) x ts) (declaration_go s s.label.start)) (sym flag)
    ∙ ap (λ (k : ℕ). and_then (declared_row_from l (below l) is_typedef (after names s) x ts) (declaration_go s k)) (sym start_is)

module _ (d : ℕ) (r : Reader) (names : Names) (s x : Tree) (ts : List Token) where
  -- a brace begins a body
  function_split : function_by d r names s x ts (ahead ts) ≡ (if begins_with_mark LeftBrace ts then function_of r names s x ts else declaration_from d r names s x ts)
  unfolding function_by
  function_split = by (ahead_is ts)
    where
      by : {us : List Token} {h : Ahead} → IsAhead us h → function_by d r names s x us h ≡ (if begins_with_mark_by LeftBrace h then function_of r names s x us else declaration_from d r names s x us)
      by is_nothing = refl
      by (is_mark {p = LeftBrace}) = refl
      by (is_mark {p = other}) = refl
      by is_word = refl
      by is_integer = refl
      by is_character = refl
      by is_string = refl

  pub function_here : begins_with_mark LeftBrace ts ≡ true → function_by d r names s x ts (ahead ts) ≡ function_of r names s x ts
  function_here b = function_split ∙ chosen _ _ _ b

  pub declaration_here : begins_with_mark LeftBrace ts ≡ false → function_by d r names s x ts (ahead ts) ≡ declaration_from d r names s x ts
  declaration_here b = function_split ∙ not_chosen _ _ _ b

-- ---- the body of a function

abbrev pub function_go : Tree → Tree → ℕ → Tree → List Token → Answer Tree
function_go s x start b end = found (plain_node kind.Function start (three s x b)) end

-- the names where it begins
pub body_names : (names : Names) (s x : Tree) (behind : List Tree) (declarator : Declarator) (p a : Parser) → IsDeclared (after (after names s)) x behind p declarator
    → OpenedBody declarator.name.now p a → a.names ≡ in_body names s x
body_names names s x behind declarator p a declared opened =
    names_in_function names p.names a.names declarator.name.now s x (map entry_of p.parameters.items) (parameter_entries (parameters_of (one x))) declared.read.names_are
    declared.said.itself_is.name_is opened.names_are declared.said.parameters_are

pub body_inside : (d l : ℕ) → below d ≡ level l (below l) → (names names2 : Names) (s x : Tree) (ts mid : List Token) (start : ℕ) → names2 ≡ in_body names s x → mid ≡ ts → start ≡ s.label.start
    → function_of (below d) names s x ts ≡ and_then (body_by l (below l) names2 mid (ahead mid)) (function_go s x start)
unfolding level goal_in
body_inside d l level_is names names2 s x ts mid start n m e =
    ap (λ (r : Reader). function_of r names s x ts) level_is
    ∙ ap (λ (k : Names). and_then (body_by l (below l) k ts (ahead ts)) (function_go s x s.label.start)) (sym n)
    ∙ ap (λ (us : List Token). and_then (body_by l (below l) names2 us (ahead us)) (function_go s x s.label.start)) (sym m)
    ∙ ap (λ (k : ℕ). and_then (body_by l (below l) names2 mid (ahead mid)) (function_go s x k)) (sym e)

-- ---- the nodes

-- specs alone
pub alone_made : (whole e : Answer Tree) (d next : ℕ) → (d ≡ 0 → next ≡ 0) → (d ≢ 0 → next < d) → (p q a z : Parser) (specs : Specs) (result : Result Part Stop)
    → (given : Reads e (after p.names) (λ t. SaysSpecs t specs) (stack_of p.trees) next (length p.rest.now) q specs.part) → Keeps q a → a.rest.now ≡ behind_one q.rest.now
    → z.names ≡ a.names → z.rest.now ≡ a.rest.now → length a.rest.now ≤ length q.rest.now
    → ((t : Tree) (under : List Tree) → IsPushed t under (stack_of a.trees) specs.part → Pushes (plain_node kind.Declaration specs.part.start (one t)) under (stack_of z.trees) result)
    → whole ≡ found (plain_node kind.Declaration given.tree.label.start (one given.tree)) (behind_one q.rest.now)
    → Gives itself nothing_more whole (after p.names) (stack_of p.trees) d (length p.rest.now) z result
alone_made whole e d next at_none less p q a z specs result given kept mid same_names same_rest shorter push f =
    let s = given.tree in
    let node = plain_node kind.Declaration specs.part.start (one s) in
    let within = within_next d next specs.part.height at_none less (some_height _ s _ q specs.part given.read) given.low in
    made (λ t. ⊤) whole (after p.names) node (stack_of p.trees) d (length p.rest.now) z result
    (push s (stack_of p.trees) (pushed_on s (stack_of p.trees) specs.part q a kept given.read.pushed))
    (f ∙ ap (λ (k : ℕ). found (plain_node kind.Declaration k (one s)) (behind_one q.rest.now)) (sym given.read.pushed.start_is) ∙ ap (found node) (sym (same_rest ∙ mid)))
    (same_names ∙ kept.names_are ∙ names_specs_alone p.names q.names specs.part.start node s given.said.kind_is refl given.read.names_are) tt
    (let h = given.read.pushed.height_is in let i = within.1.0 in let j = within.1.1 in omega (arith, h, i, j))
    (let i = given.shorter in let j = ap length same_rest in omega (arith, i, j, shorter))

-- specs and initialized declarators
pub declaration_made : (whole : Answer Tree) (d l most : ℕ) → d ≡ suc l → (names : Names) (s : Tree) (xs under behind : List Tree) (specs : Specs) (high : ℕ) (q : Parser) (result : Result Part Stop)
    → IsPushed s under behind specs.part → SaysSpecs s specs → specs.part.height ≤ l → high ≡ forest_height (forest_of xs) → high ≤ l
    → q.names ≡ add (after names s) (entries_behind specs.is_typedef (forest_of xs))
    → Pushes (plain_node kind.Declaration specs.part.start (s then forest_of xs)) under (stack_of q.trees) result
    → whole ≡ found (plain_node kind.Declaration specs.part.start (s then forest_of xs)) q.rest.now → length q.rest.now < most
    → Gives itself nothing_more whole (after names) under d most q result
declaration_made whole d l most next names s xs under behind specs high q result pushed said low height_is low2 n push f shorter =
    let node = plain_node kind.Declaration specs.part.start (s then forest_of xs) in
    made (λ t. ⊤) whole (after names) node under d most q result push f
    (names_declaration names (after names s) q.names specs.is_typedef specs.part.start node s (forest_of xs) said.kind_is said.typedef_is refl refl n) tt
    (let h = pushed.height_is in omega (arith, h, low, height_is, low2, next)) shorter
