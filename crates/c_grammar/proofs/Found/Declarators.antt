-- The cases of declarators with a name, and without.
use Rattle.std.proofs.Common.{◌≡◌, ℕ, zero, suc, Bool, true, false, not, ◌&&◌, max, List, ◌∷◌, refl, sym, ap, true≢false, if◌then◌else◌, arith}
use Rattle.c_lexer.specs.declared.token.Punct.TheVariants.{LeftBracket, RightBracket, LeftParenthesis, RightParenthesis, Star}
use Rattle.c_lexer.specs.declared.token.Token.{Token}
use Rattle.c_syntax.specs.declared.kind.SynKind.{SynKind}
use Rattle.c_syntax.specs.declared.kind.SynKind.TheVariants as kind
use Rattle.c_syntax.specs.Trees.{Tree, Forest, none, ◌then◌, one, text_node, plain_node, height, forest_height}
use Rattle.c_grammar.specs.Vocabulary.{is_identifier, Place, mark, word}
use Rattle.c_grammar.specs.Scopes.{Names, after}
use Rattle.c_grammar.specs.Derivation.{start, no_name}
use Rattle.c_grammar.specs.Answers.{Answer, found, wrong, deep, and_then, fit, Ahead, mark_ahead, ahead, ahead_by, expect, expect_by}
use Rattle.c_grammar.specs.Reading as reading
use Rattle.c_grammar.specs.Reading.{Mode, named, unnamed, either, Reader, read, rows_in, goal_in, begins_with_mark, begins_with_mark_by, begins_with_word, behind_one, behind_const, is_named, is_named_by, is_absent_by, has_name, needs_name, if_any, after_any, length_in, takes_in, declared_suffix_by, declared_suffixes, undeclared_in, declared_by, declared_in, below}
use Rattle.c_grammar.proofs.Budgets.{Leads, Finds, Chain, chain_goes_on, leads_from, leads_height, leads_here, leads_then, node_leads}
use Rattle.c_grammar.proofs.Found.Claims.{Is, closes, ends_declarator}
use Rattle.c_grammar.proofs.Found.TypeSteps.{goal_leads, row_leads, leaf_leads, chain_height}
use Rattle.c_grammar.proofs.Found.TypeEnds.{closing, closes_bracket, closes_parenthesis}

-- ---- names

-- what has a name is not absent
by_name : (k : SynKind) (inner : Bool) → is_named_by k inner ≡ true → is_absent_by k ≡ false
unfolding is_named_by is_absent_by
by_name kind.NoName inner e = absurd (true≢false (sym e))
by_name other inner e = refl

pub named_there : (t : Tree) → Is (is_named (one t)) → is_absent_by t.label.kind ≡ false
named_there t e = by_name t.label.kind (is_named t.kids) e

pub there_names : (names : Names) (t : Tree) → is_absent_by t.label.kind ≡ false → after_any names t ≡ after names t
unfolding after_any
there_names names t e = rw e refl

-- ---- where suffixes end

suffix_end : (d : ℕ) (r : Reader) (names : Names) (t : Tree) (ts : List Token) (go : Tree → List Token → Answer Tree) (x : Ahead)
    → begins_with_mark_by LeftBracket x ≡ false → begins_with_mark_by LeftParenthesis x ≡ false → declared_suffix_by d r names t ts go x ≡ found t ts
unfolding declared_suffix_by
suffix_end d r names t ts go (mark_ahead LeftBracket at rest) e f = absurd (true≢false e)
suffix_end d r names t ts go (mark_ahead LeftParenthesis at rest) e f = absurd (true≢false f)
suffix_end d r names t ts go other e f = refl

pub suffixes_end : (d : ℕ) (r : Reader) (names : Names) (t : Tree) (b : List Token) → begins_with_mark LeftBracket b ≡ false
    → begins_with_mark LeftParenthesis b ≡ false
    → (k : ℕ) → declared_suffixes d r k names t b ≡ found t b
unfolding declared_suffixes
suffixes_end d r names t b e f zero = suffix_end d r names t b _ (ahead b) e f
suffixes_end d r names t b e f (suc k) = suffix_end d r names t b _ (ahead b) e f

no_first : (p q : Bool) → not p && not q ≡ true → p ≡ false
no_first true q e = absurd (true≢false (sym e))
no_first false q e = refl

no_second : (p q : Bool) → not p && not q ≡ true → q ≡ false
no_second true q e = absurd (true≢false (sym e))
no_second false true e = absurd (true≢false (sym e))
no_second false false e = refl

pub no_opening_bracket : (b : List Token) → Is (ends_declarator b) → begins_with_mark LeftBracket b ≡ false
no_opening_bracket b e = no_first (begins_with_mark LeftBracket b) (begins_with_mark LeftParenthesis b) e

pub no_opening_parenthesis : (b : List Token) → Is (ends_declarator b) → begins_with_mark LeftParenthesis b ≡ false
no_opening_parenthesis b e = no_second (begins_with_mark LeftBracket b) (begins_with_mark LeftParenthesis b) e

-- ---- in any mode

module _ (mode : Mode) (names : Names) where
  pub pointer_finds : (a b c : List Token) (at : Place) (x : Tree) → behind_const a ≡ b
      → ((e : ℕ) → Finds (declared_in e (below e) mode names b) e (height x) x c)
      → (d : ℕ)
      → Finds (declared_in d (below d) mode names (mark Star at ∷ a)) d (height (plain_node kind.Pointer at.start (one x))) (plain_node kind.Pointer at.start (one x)) c
  unfolding declared_in declared_by goal_in ahead ahead_by
  pointer_finds a b c at x same finds d =
      let go : Tree → List Token → Answer Tree = λ y end. found (plain_node kind.Pointer at.start (one y)) end in
      leads_height _ d (suc (max (height x) 0)) _ _ (omega arith) (
      node_leads 2 (max (height x) 0) a (λ r. and_then (r.tree_of (reading.declared mode) names (behind_const a)) go) (found (plain_node kind.Pointer at.start (one x)) c) (omega arith) (omega arith)
      (λ e. leads_then ((read e).tree_of (reading.declared mode) names (behind_const a)) go e (height x) 0 x c _ (rw same (goal_leads e (reading.declared mode) names b (finds e))) (leads_here _ e)) d)

  pub parentheses_lead : (a b : List Token) (at at2 : Place) (x : Tree) → is_absent_by x.label.kind ≡ false
      → ((e : ℕ) → Finds (declared_in e (below e) mode names a) e (height x) x (mark RightParenthesis at2 ∷ b))
      → (d : ℕ)
      → Leads (declared_in d (below d) mode names (mark LeftParenthesis at ∷ a)) d (height (plain_node kind.Paren at.start (one x))) (declared_suffixes d (below d) d names (plain_node kind.Paren at.start (one x)) b)
  unfolding declared_in declared_by goal_in expect expect_by ahead ahead_by
  parentheses_lead a b at at2 x there finds d =
      let go : Tree → List Token → Answer Tree = λ y behind. if is_absent_by y.label.kind then wrong behind else
      expect RightParenthesis behind (declared_suffixes d (below d) d names (plain_node kind.Paren at.start (one y))) in
      leads_height _ d (suc (max (height x) 0)) _ _ (omega arith) (
      node_leads 2 (max (height x) 0) a (λ r. and_then (r.tree_of (reading.declared mode) names a) go) (declared_suffixes d (below d) d names (plain_node kind.Paren at.start (one x)) b) (omega arith) (omega arith)
      (λ e. leads_then ((read e).tree_of (reading.declared mode) names a) go e (height x) 0 x (mark RightParenthesis at2 ∷ b) _ (goal_leads e (reading.declared mode) names a (finds e)) (rw there (leads_here _ e))) d)

  pub name_leads : (text : List ℕ) (at : Place) (b : List Token) → is_identifier text ≡ true → has_name mode ≡ true
      → (d : ℕ)
      → Leads (declared_in d (below d) mode names (word text at ∷ b)) d 1 (declared_suffixes d (below d) d names (text_node kind.Ident text at.start none) b)
  unfolding declared_in declared_by ahead ahead_by
  name_leads text at b h i d = rw (h, i) (leaf_leads d _ _)

  any_leads : (d : ℕ) (ts : List Token) (answer : Answer Tree) → Leads (if_any d ts answer) d 1 answer
  unfolding if_any
  any_leads zero ts answer = record { low = λ le. absurd (omega (arith, le)); high = λ lt. record { behind = ts; too_deep = refl } }
  any_leads (suc d) ts answer = record { low = λ le. refl; high = λ lt. absurd (omega (arith, lt)) }

  -- no name stands before these tokens
  absent_finds : (b : List Token) → needs_name mode ≡ false → Is (closes b) → (d : ℕ)
      → Finds (declared_in d (below d) mode names b) d (height (no_name b)) (no_name b) b
  unfolding declared_in declared_by undeclared_in
  absent_finds b free ends d = leads_from _ _ d 1 _ (closing (λ x. declared_by d (below d) mode names b x ≡ undeclared_in d (below d) mode names b)
      (λ at rest. refl) (λ at rest. refl) (λ at rest. refl) (λ at rest. refl) (λ at rest. refl) (λ at rest. refl) b ends) (
      rw (free, suffixes_end d (below d) names (no_name b) b (closes_bracket b ends) (closes_parenthesis b ends) d) (any_leads d b _))

  -- nor before an array
  pub bracket_leads : (a : List Token) (at : Place) → needs_name mode ≡ false
      → (d : ℕ)
      → Leads (declared_in d (below d) mode names (mark LeftBracket at ∷ a)) d 1 (declared_suffixes d (below d) d names (no_name (mark LeftBracket at ∷ a)) (mark LeftBracket at ∷ a))
  unfolding declared_in declared_by undeclared_in ahead ahead_by
  bracket_leads a at free d = rw free (any_leads d _ _)

pub absent_either : (names : Names) (b : List Token) → Is (closes b) → (d : ℕ)
    → Finds (declared_in d (below d) either names b) d (height (no_name b)) (no_name b) b
unfolding needs_name
absent_either names b ends d = absent_finds either names b refl ends d

pub absent_unnamed : (names : Names) (b : List Token) → Is (closes b) → (d : ℕ)
    → Finds (declared_in d (below d) unnamed names b) d (height (no_name b)) (no_name b) b
unfolding needs_name
absent_unnamed names b ends d = absent_finds unnamed names b refl ends d

-- ---- chains of suffixes

module _ (d : ℕ) (begun : Answer Tree) (names : Names) (x : Tree) where
  -- one array more
  pub array_chain : (inner : Names) (at at2 : Place) (b c : List Token) (n : Forest) → after_any names x ≡ inner
      → ((e : ℕ) → Finds (length_in e (below e) inner b) e (forest_height n) n (mark RightBracket at2 ∷ c))
      → Chain d begun (λ k. declared_suffixes d (below d) k names) (height x) x (mark LeftBracket at ∷ b)
      → Chain d begun (λ k. declared_suffixes d (below d) k names) (height (plain_node kind.ArrayOf (start x) (x then n))) (plain_node kind.ArrayOf (start x) (x then n)) c
  unfolding declared_suffixes declared_suffix_by rows_in expect expect_by ahead ahead_by
  array_chain inner at at2 b c n same finds chain =
      let y : Tree = plain_node kind.ArrayOf (start x) (x then n) in
      let behind : (Tree → List Token → Answer Tree) → Forest → List Token → Answer Tree = λ go m rest. expect RightBracket rest (λ end. go (plain_node kind.ArrayOf (start x) (x then m)) end) in
      let parts : (Tree → List Token → Answer Tree) → Reader → Answer Tree = λ go r. and_then (r.trees_of reading.optional_length (after_any names x) b) (behind go) in
      chain_height d begun (λ k. declared_suffixes d (below d) k names) (suc (max (height x) (max (forest_height n) 0))) _ y c (omega arith) (
      chain_goes_on d begun (λ k. declared_suffixes d (below d) k names) (height x) (max (forest_height n) 0) x y (mark LeftBracket at ∷ b) c b parts chain
      (λ go e near. leads_then ((read e).trees_of reading.optional_length (after_any names x) b) (behind go) e (forest_height n) 0 n (mark RightBracket at2 ∷ c) _
      (rw same (row_leads e reading.optional_length inner b (finds e))) (leads_here _ e))
      step)
    where
      step : (k : ℕ) → (go : Tree → List Token → Answer Tree)
          × (declared_suffixes d (below d) k names x (mark LeftBracket at ∷ b) ≡ fit (suc (height x)) d b (and_then ((below d).trees_of reading.optional_length (after_any names x) b) (λ m rest. expect RightBracket rest (λ end. go (plain_node kind.ArrayOf (start x) (x then m)) end))))
          × ((m : ℕ) → k ≡ suc m → go (plain_node kind.ArrayOf (start x) (x then n)) c ≡ declared_suffixes d (below d) m names (plain_node kind.ArrayOf (start x) (x then n)) c)
      step zero = (λ y rest. deep rest, refl, λ m e. absurd (omega (arith, e)))
      step (suc k) = (declared_suffixes d (below d) k names, refl, λ m e. let same : k ≡ m = omega (arith, e) in ap (λ i. declared_suffixes d (below d) i names (plain_node kind.ArrayOf (start x) (x then n)) c) same)

  -- one list of parameters more
  pub takes_chain : (at : Place) (b c : List Token) (y : Tree) (k : ℕ) → Is (is_named (one x)) → height y ≡ suc (max (height x) k)
      → ((go : Tree → List Token → Answer Tree) (e : ℕ) → suc e ≡ d → Leads (takes_in d (read e) names x b go) e k (go y c))
      → Chain d begun (λ k. declared_suffixes d (below d) k names) (height x) x (mark LeftParenthesis at ∷ b)
      → Chain d begun (λ k. declared_suffixes d (below d) k names) (height y) y c
  unfolding declared_suffixes declared_suffix_by ahead ahead_by
  takes_chain at b c y k name high kids chain =
      chain_height d begun (λ k. declared_suffixes d (below d) k names) (suc (max (height x) k)) _ y c (sym high) (
      chain_goes_on d begun (λ k. declared_suffixes d (below d) k names) (height x) k x y (mark LeftParenthesis at ∷ b) c b (λ go r. takes_in d r names x b go) chain kids step)
    where
      step : (n : ℕ) → (go : Tree → List Token → Answer Tree)
          × (declared_suffixes d (below d) n names x (mark LeftParenthesis at ∷ b) ≡ fit (suc (height x)) d b (takes_in d (below d) names x b go))
          × ((m : ℕ) → n ≡ suc m → go y c ≡ declared_suffixes d (below d) m names y c)
      step zero = (λ y rest. deep rest, rw name refl, λ m e. absurd (omega (arith, e)))
      step (suc n) = (declared_suffixes d (below d) n names, rw name refl, λ m e. let same : n ≡ m = omega (arith, e) in ap (λ i. declared_suffixes d (below d) i names y c) same)
