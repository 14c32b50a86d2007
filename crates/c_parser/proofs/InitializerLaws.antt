-- What initializers and initialized declarators read, as far as each call has come.
use Rattle.std.proofs.Common.{◌≡◌, ◌≢◌, ℕ, suc, Bool, true, false, List, [], ◌∷◌, length, if◌then◌else◌, refl, sym, ap, ◌∙◌, arith, true≢false}
use Rattle.c_lexer.specs.declared.token.Token.{Token}
use Rattle.c_lexer.specs.declared.token.Punct.TheVariants.{LeftBrace, RightBrace, Equal, Comma, Semicolon}
use Rattle.c_syntax.specs.declared.kind.SynKind.TheVariants as kind
use Rattle.c_syntax.specs.Trees.{Tree, Forest, none, ◌then◌, one, two, plain_node, height}
use Rattle.c_syntax.specs.Tables.{stack_of}
use Rattle.c_grammar.specs.Vocabulary.{start_of}
use Rattle.c_grammar.specs.Scopes.{Names, add, after_declarator, entries_behind}
use Rattle.c_grammar.specs.Answers.{Answer, Ahead, found, wrong, and_then, fit, expect, ahead}
use Rattle.c_grammar.specs.Reading.{Reader, Goal, Rows, named, below, level, goal_in, initializers, init_declarator_in, initialized_by, init_behind_by, init_behind_in, declarators_behind, declared_in, listed, rows_in, initializer_in, initializer_by, assignment_in, listed_in_braces, begins_with_mark, begins_with_mark_by, behind_one}
use Rattle.c_grammar.proofs.SoundSteps.{IsAhead, is_nothing, is_mark, is_word, is_integer, is_character, is_string, ahead_is, mark_split}
use Rattle.c_parts.specs.declared.budget.Stop.{Stop}
use Rattle.c_parts.specs.declared.part.Part.{Part}
use Rattle.c_parts.proofs.PushLaws.{alone}
use Rattle.c_parser.specs.declared.parser.Parser.{Parser}
use Rattle.c_parts.proofs.Levels.{next_tree}
use Rattle.c_parts.proofs.NameLaws.{add_nothing, add_joined, entries_more}
use Rattle.c_parser.specs.Gives.{Stops, Reads}
use Rattle.c_parser.specs.Steps.{initialized_of, uninitialized_at, initialized_from, declared_row_from}
use Rattle.c_parser.proofs.CommaRows.{Follows, IsListed, IsListing, listed_behind}
use Rattle.c_parser.proofs.Rows.{Left}
use Rattle.c_parser.proofs.Stopping.{stops_then}
use Rattle.c_parser.proofs.ExpressionLaws.{ahead_mark, some_ahead_mark}

module _ (d : ℕ) (r : Reader) (names : Names) (ts : List Token) where
  -- ---- initializers

  pub initializers_listed : rows_in d r initializers names ts ≡ listed_in_braces d r (initializer_in d r) (suc (length ts)) names ts
  unfolding rows_in
  initializers_listed = refl

  abbrev pub braces_go : Forest → List Token → Answer Tree
  braces_go xs behind = expect RightBrace behind (λ end. found (plain_node kind.Braces (start_of ts) xs) end)

  pub braces_shape : begins_with_mark LeftBrace ts ≡ true → initializer_in d r names ts ≡ fit 2 d (behind_one ts) (and_then (r.trees_of initializers names (behind_one ts)) braces_go)
  unfolding initializer_in initializer_by
  braces_shape e =
      let s = mark_split LeftBrace ts e in
      ap (initializer_by d r names ts) (ahead_mark LeftBrace ts s.0 s.1)
      ∙ ap (λ (k : ℕ). fit 2 d (behind_one ts) (and_then (r.trees_of initializers names (behind_one ts)) (λ xs behind. expect RightBrace behind (λ end. found (plain_node kind.Braces k xs) end))))
      (sym (ap start_of s.1))

  pub no_braces : begins_with_mark LeftBrace ts ≡ false → initializer_in d r names ts ≡ assignment_in d r names ts
  unfolding initializer_in initializer_by
  no_braces e = by (ahead_is ts) e
    where
      by : {us : List Token} {h : Ahead} → IsAhead us h → begins_with_mark_by LeftBrace h ≡ false → initializer_by d r names us h ≡ assignment_in d r names us
      by is_nothing e = refl
      by (is_mark {p = LeftBrace}) e = absurd (true≢false e)
      by (is_mark {p = other}) e = refl
      by is_word e = refl
      by is_integer e = refl
      by is_character e = refl
      by is_string e = refl

-- ---- a declarator without an initializer, and with one

pub bare_found : (names : Names) (x : Tree) (ts : List Token) (start : ℕ) → start ≡ x.label.start → uninitialized_at names x ts ≡ found (plain_node kind.InitDecl start (one x)) ts
bare_found names x ts start e = ap (λ (n : ℕ). found (plain_node kind.InitDecl n (one x)) ts) (sym e)

abbrev pub value_go : Tree → ℕ → Tree → List Token → Answer Tree
value_go x start y end = found (plain_node kind.InitDecl start (two x y)) end

pub value_inside : (d : ℕ) (is_typedef : Bool) (names names3 : Names) (x : Tree) (ts : List Token) (start : ℕ) → names3 ≡ after_declarator names is_typedef x → start ≡ x.label.start
    → initialized_of (level d (below d)) is_typedef names x ts ≡ and_then (initializer_in d (below d) names3 ts) (value_go x start)
unfolding level goal_in
value_inside d is_typedef names names3 x ts start n e =
    ap (λ (m : Names). and_then (initializer_in d (below d) m ts) (value_go x x.label.start)) (sym n) ∙ ap (λ (k : ℕ). and_then (initializer_in d (below d) names3 ts) (value_go x k)) (sym e)

-- the reader by another name
pub value_level : (d l : ℕ) → below d ≡ level l (below l) → (is_typedef : Bool) (names : Names) (x : Tree) (ts mid : List Token) → mid ≡ behind_one ts
    → initialized_of (below d) is_typedef names x (behind_one ts) ≡ initialized_of (level l (below l)) is_typedef names x mid
value_level d l e is_typedef names x ts mid m =
    ap (λ (r : Reader). initialized_of r is_typedef names x (behind_one ts)) e ∙ ap (λ (us : List Token). initialized_of (level l (below l)) is_typedef names x us) (sym m)

-- ---- an initialized declarator

module _ (d l : ℕ) (names : Names) (ts : List Token) (at_none : d ≡ 0 → l ≡ 0) (more : d ≢ 0 → below d ≡ level l (below l)) (is_typedef : Bool) where
  pub declared_inside : init_declarator_in d (below d) is_typedef names ts
      ≡ and_then (declared_in l (below l) named names ts) (λ x rest. initialized_by d (below d) is_typedef names x rest (ahead rest))
  unfolding init_declarator_in goal_in
  declared_inside = ap (λ (a : Answer Tree). and_then a (λ x rest. initialized_by d (below d) is_typedef names x rest (ahead rest))) (next_tree d l at_none more (Goal.declared named) names ts)

module _ (d : ℕ) (r : Reader) (is_typedef : Bool) (names : Names) (x : Tree) (ts : List Token) where
  pub with_value : begins_with_mark Equal ts ≡ true → initialized_by d r is_typedef names x ts (ahead ts) ≡ initialized_of r is_typedef names x (behind_one ts)
  unfolding initialized_by
  with_value e = ap (initialized_by d r is_typedef names x ts) (some_ahead_mark Equal ts e).1

  pub without_value : begins_with_mark Equal ts ≡ false → initialized_by d r is_typedef names x ts (ahead ts) ≡ uninitialized_at names x ts
  unfolding initialized_by
  without_value e = by (ahead_is ts) e
    where
      by : {us : List Token} {h : Ahead} → IsAhead us h → begins_with_mark_by Equal h ≡ false → initialized_by d r is_typedef names x us h ≡ uninitialized_at names x us
      by is_nothing e = refl
      by (is_mark {p = Equal}) e = absurd (true≢false e)
      by (is_mark {p = other}) e = refl
      by is_word e = refl
      by is_integer e = refl
      by is_character e = refl
      by is_string e = refl

  -- from behind its declarator
  pub behind_equal : begins_with_mark Equal ts ≡ true → initialized_from d r is_typedef names x ts ≡ fit (suc (height x)) d (behind_one ts) (initialized_of r is_typedef names x (behind_one ts))
  unfolding init_behind_by
  behind_equal e = ap (init_behind_by d r is_typedef names x ts) (some_ahead_mark Equal ts e).1

  pub behind_comma : begins_with_mark Comma ts ≡ true → initialized_from d r is_typedef names x ts ≡ fit (suc (height x)) d (behind_one ts) (uninitialized_at names x ts)
  unfolding init_behind_by
  behind_comma e = ap (init_behind_by d r is_typedef names x ts) (some_ahead_mark Comma ts e).1

  pub behind_semicolon : begins_with_mark Semicolon ts ≡ true → initialized_from d r is_typedef names x ts ≡ fit (suc (height x)) d (behind_one ts) (uninitialized_at names x ts)
  unfolding init_behind_by
  behind_semicolon e = ap (init_behind_by d r is_typedef names x ts) (some_ahead_mark Semicolon ts e).1

  pub behind_other : begins_with_mark Equal ts ≡ false → begins_with_mark Comma ts ≡ false → begins_with_mark Semicolon ts ≡ false → initialized_from d r is_typedef names x ts ≡ wrong ts
  unfolding init_behind_by
  behind_other e f g = by (ahead_is ts) e f g
    where
      by : {us : List Token} {h : Ahead} → IsAhead us h → begins_with_mark_by Equal h ≡ false → begins_with_mark_by Comma h ≡ false → begins_with_mark_by Semicolon h ≡ false
          → init_behind_by d r is_typedef names x us h ≡ wrong us
      by is_nothing e f g = refl
      by (is_mark {p = Equal}) e f g = absurd (true≢false e)
      by (is_mark {p = Comma}) e f g = absurd (true≢false f)
      by (is_mark {p = Semicolon}) e f g = absurd (true≢false g)
      by (is_mark {p = other}) e f g = refl
      by is_word e f g = refl
      by is_integer e f g = refl
      by is_character e f g = refl
      by is_string e f g = refl

-- ---- rows of them

abbrev pub after_initialized : Bool → Names → Tree → Names
after_initialized is_typedef names t = add names (entries_behind is_typedef (one t))

pub follows_initialized : (is_typedef : Bool) (names : Names) → Follows names (λ ts. add names (entries_behind is_typedef ts)) (after_initialized is_typedef)
follows_initialized is_typedef names =
    (add_nothing names, λ xs t. ap (add names) (entries_more is_typedef xs t) ∙ sym (add_joined names _ _))

pub declarators_listed : (d : ℕ) (r : Reader) (is_typedef : Bool) (names : Names) (ts : List Token)
    → rows_in d r (Rows.init_declarators is_typedef) names ts ≡ listed d r (init_declarator_in d r is_typedef) (after_initialized is_typedef) (suc (length ts)) names ts
unfolding rows_in
declarators_listed d r is_typedef names ts = refl

-- ---- the same from behind the first declarator

-- the first of a row has been read behind its declarator
behind_cases : (b : Bool) (t : Tree) (more : Answer Forest) (rest : List Token)
    → (if b then and_then more (λ ts end. found (t then ts) end) else found (one t) rest)
    ≡ and_then (if b then more else found none rest) (λ ts end. found (t then ts) end)
unfolding and_then
behind_cases true t more rest = refl
behind_cases false t more rest = refl

module _ (d : ℕ) (r : Reader) (is_typedef : Bool) (names : Names) (x : Tree) (ts : List Token) where
  abbrev behind_listed : Tree → List Token → Answer Forest
  behind_listed t rest = listed_behind d r (init_declarator_in d r is_typedef) (after_initialized is_typedef) (suc (length rest)) (after_initialized is_typedef names t) rest

  behind_first : (names2 : Names) (rest : List Token) (t : Tree) → initialized_from d r is_typedef names x ts ≡ found t rest → names2 ≡ after_initialized is_typedef names t
      → IsListed d r (init_declarator_in d r is_typedef) (after_initialized is_typedef) (declared_row_from d r is_typedef names x ts) names2 rest (t ∷ [])
  unfolding declarators_behind init_behind_in and_then
  behind_first names2 rest t e n = (suc (length rest), omega arith, rw n read)
    where
      read : Left (declared_row_from d r is_typedef names x ts) (t ∷ []) (behind_listed t rest)
      read = ap (λ (a : Answer Tree). and_then a (λ t rest. if begins_with_mark Comma rest then
          and_then (listed d r (init_declarator_in d r is_typedef) (after_initialized is_typedef) (suc (length rest)) (after_initialized is_typedef names t) (behind_one rest)) (λ more end. found (t then more) end)
          else found (one t) rest)) e
          ∙ behind_cases (begins_with_mark Comma rest) t
          (listed d r (init_declarator_in d r is_typedef) (after_initialized is_typedef) (suc (length rest)) (after_initialized is_typedef names t) (behind_one rest)) rest

  pub behind_stops : (rest : List Token) (s : Stop) → Stops (initialized_from d r is_typedef names x ts) rest s → Stops (declared_row_from d r is_typedef names x ts) rest s
  unfolding declarators_behind init_behind_in
  behind_stops rest s h = stops_then (initialized_from d r is_typedef names x ts) _ rest s h

  pub listing_behind : (says : Tree → Type 0) (under : List Tree) (budget most : ℕ) (p : Parser) (part : Part)
      → Reads (initialized_from d r is_typedef names x ts) (after_initialized is_typedef names) says under budget most p part
      → IsListing d r (init_declarator_in d r is_typedef) (after_initialized is_typedef) (declared_row_from d r is_typedef names x ts) (λ ts. add names (entries_behind is_typedef ts)) under budget most p
      part.height
  listing_behind says under budget most p part first = record {
    trees = first.tree ∷ [];
    listed_is = behind_first p.names p.rest.now first.tree first.found_is first.read.names_are;
    is_read = record { names_are = first.read.names_are; pushed = alone first.tree under (stack_of p.trees) part first.read.pushed };
    low = first.low;
    shorter = first.shorter;
  }
