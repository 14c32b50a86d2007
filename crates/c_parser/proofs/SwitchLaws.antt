-- What a `switch` and its groups read, as far as each call has come.
use Rattle.std.proofs.Common.{◌≡◌, ℕ, zero, suc, ◌<◌, ◌≤◌, ◌||◌, Bool, true, false, List, [], ◌∷◌, ◌++◌, max, length, codes, refl, sym, ap, ◌∙◌, subst, arith}
use Rattle.c_lexer.specs.declared.token.Token.{Token}
use Rattle.c_lexer.specs.declared.token.Punct.TheVariants.{LeftBrace, RightBrace, Colon}
use Rattle.c_syntax.specs.declared.kind.SynKind.TheVariants as kind
use Rattle.c_syntax.specs.Trees.{Tree, Forest, ◌then◌, none, one, forest_of, plain_node}
use Rattle.c_syntax.specs.Tables.{stack_of}
use Rattle.c_grammar.specs.Vocabulary.{start_of}
use Rattle.c_grammar.specs.Scopes.{Names, after, opened}
use Rattle.c_grammar.specs.Derivation.{Standing, at_first}
use Rattle.c_grammar.specs.Answers.{Answer, found, and_then, fit, expect, ahead, ahead_by}
use Rattle.c_grammar.specs.Reading.{Reader, Goal, Rows, below, level, goal_in, rows_in, switch_in, label_in, label_by, group_item_in, groups_in, statement_in, conditional_in, begins_label, ends_groups, standing_behind, begins_with_mark, begins_with_word, behind_one}
use Rattle.c_grammar.proofs.SoundSteps.{word_split}
use Rattle.c_parts.specs.declared.budget.Stop.{Stop}
use Rattle.c_parts.specs.declared.part.Part.{Part}
use Rattle.c_parts.specs.Pushed.{IsBelow}
use Rattle.c_parts.proofs.NameLaws.{add_nothing}
use Rattle.c_parts.proofs.PushLaws.{more_trees, same_height}
use Rattle.c_parser.specs.declared.parser.Parser.{Parser}
use Rattle.c_parser.specs.Gives.{Stops, Reads, ReadsAll, AreRead, Keeps, Passes, behind_all}
use Rattle.c_parser.specs.Steps.{condition_of, switch_of, scoped_groups_of, case_of, default_of}
use Rattle.c_parser.proofs.CompoundLaws.{condition_then, expect_same}
use Rattle.c_parser.proofs.Links.{then_then, then_same, expect_then}
use Rattle.c_parser.proofs.Rows.{Left, left_start, left_more, left_end, left_stop, names_more}
use Rattle.c_parser.proofs.Spans.{reader_inside, entered_at}
use Rattle.c_parser.proofs.Stopping.{chosen, not_chosen, found_then, passed, stops_then, stops_same}

-- ---- the statement

abbrev pub switch_go : ℕ → Reader → Names → Tree → List Token → Answer Tree
switch_go start r names x behind = expect LeftBrace behind (λ behind2.
    and_then (r.trees_of Rows.groups (opened (after names x)) behind2) (λ items behind3.
    expect RightBrace behind3 (λ end. found (plain_node kind.Switch start (x then items)) end)))

abbrev pub switch_inside : ℕ → Reader → Names → List Token → Answer Tree
switch_inside start r names ts = and_then (condition_of r names ts) (switch_go start r names)

pub switch_shape : (d : ℕ) (r : Reader) (start : ℕ) (names : Names) (ts : List Token) → switch_of d r start names ts ≡ fit 2 d (behind_one ts) (switch_inside start r names (behind_one ts))
unfolding switch_in
switch_shape d r start names ts = ap (fit 2 d (behind_one ts)) (condition_then d r names (behind_one ts) (switch_go start r names))

pub switch_entered : (d l : ℕ) → IsBelow 1 d l → (start : ℕ) (p a : Parser) → Keeps p a → a.rest.now ≡ behind_one p.rest.now
    → switch_of d (below d) start p.names p.rest.now ≡ switch_inside start (level l (below l)) a.names a.rest.now
switch_entered d l below_is start p a kept rest =
    reader_inside 1 d l below_is (switch_inside start) _ p a (switch_shape d (below d) start p.names p.rest.now) kept rest

-- behind its expression x and its brace
abbrev pub groups_go : ℕ → ℕ → Names → Tree → List Token → Answer Tree
groups_go l start names x ts = and_then (scoped_groups_of l (below l) names ts) (λ items end. found (plain_node kind.Switch start (x then items)) end)

groups_closed : (x : Answer Forest) (go : Forest → List Token → Answer Tree)
    → and_then (and_then x (λ items behind. expect RightBrace behind (λ end. found items end))) go ≡ and_then x (λ items behind. expect RightBrace behind (go items))
unfolding and_then
groups_closed x go =
    then_then x (λ items behind. expect RightBrace behind (λ end. found items end)) go
    ∙ then_same x _ (λ items behind. expect RightBrace behind (go items)) (λ items behind. expect_then RightBrace behind (λ end. found items end) go)

switch_brace : (l start : ℕ) (names names2 : Names) (x : Tree) (ts : List Token) → names2 ≡ after names x
    → switch_go start (level l (below l)) names x ts ≡ expect LeftBrace ts (groups_go l start names2 x)
unfolding level
switch_brace l start names names2 x ts n =
    expect_same LeftBrace ts _ (groups_go l start (after names x) x)
    (λ us. sym (groups_closed (rows_in l (below l) Rows.groups (opened (after names x)) us) (λ items end. found (plain_node kind.Switch start (x then items)) end)))
    ∙ ap (λ (k : Names). expect LeftBrace ts (groups_go l start k x)) (sym n)

-- as far as each call has come
module _ (d l : ℕ) (below_is : IsBelow 1 d l) (start : ℕ) (p a b : Parser) (x : Tree) (kept : Keeps p a) (rest : a.rest.now ≡ behind_one p.rest.now)
    (found_x : condition_of (level l (below l)) a.names a.rest.now ≡ found x b.rest.now) (names_x : b.names ≡ after a.names x) where
  pub switch_behind : switch_of d (below d) start p.names p.rest.now ≡ expect LeftBrace b.rest.now (groups_go l start b.names x)
  switch_behind =
      switch_entered d l below_is start p a kept rest ∙ found_then _ _ x b.rest.now found_x ∙ switch_brace l start a.names b.names x b.rest.now names_x

  pub switch_open : (e : Parser) → Passes (begins_with_mark LeftBrace b.rest.now) b e → switch_of d (below d) start p.names p.rest.now ≡ groups_go l start e.names x e.rest.now
  switch_open e passes = switch_behind ∙ passed LeftBrace b e _ passes ∙ ap (λ (n : Names). groups_go l start n x e.rest.now) (sym passes.kept.names_are)

-- what its expression declares stands behind it, and nothing else of it does
pub switch_names : (names : Names) (start : ℕ) (x : Tree) (items : Forest) → after names (plain_node kind.Switch start (x then items)) ≡ after names x
switch_names names start x items = refl

-- its groups in their scope
pub scoped_open : (d : ℕ) (names names2 : Names) (ts : List Token) → names2 ≡ opened names
    → scoped_groups_of d (below d) names ts ≡ and_then (rows_in d (below d) Rows.groups names2 ts) (λ items behind. expect RightBrace behind (λ end. found items end))
scoped_open d names names2 ts n = ap (λ (k : Names). and_then (rows_in d (below d) Rows.groups k ts) (λ items behind. expect RightBrace behind (λ end. found items end))) (sym n)

-- ---- labels

case_is_label : (a b : Bool) → a ≡ true → a || b ≡ true
case_is_label a b e = ap (λ c. c || b) e

default_is_label : (a b : Bool) → a ≡ false → b ≡ true → a || b ≡ true
default_is_label a b e f = ap (λ c. c || b) e ∙ f

no_label : (a b : Bool) → a ≡ false → b ≡ false → a || b ≡ false
no_label a b e f = ap (λ c. c || b) e ∙ f

module _ (d : ℕ) (r : Reader) (names : Names) (ts : List Token) where
  pub item_case : begins_with_word (codes "case") ts ≡ true → group_item_in d r names ts ≡ case_of d r (start_of ts) names ts
  unfolding group_item_in label_in label_by ahead ahead_by
  item_case e =
      let s = word_split (codes "case") ts e in
      chosen (begins_label ts) _ _ (case_is_label _ _ e) ∙ ap (label_by d r names ts) (ap ahead s.1) ∙ ap (λ (n : ℕ). case_of d r n names ts) (sym (ap start_of s.1))

  module _ (no_case : begins_with_word (codes "case") ts ≡ false) where
    pub item_default : begins_with_word (codes "default") ts ≡ true → group_item_in d r names ts ≡ default_of d (start_of ts) names ts
    unfolding group_item_in label_in label_by ahead ahead_by
    item_default e =
        let s = word_split (codes "default") ts e in
        chosen (begins_label ts) _ _ (default_is_label _ _ no_case e) ∙ ap (label_by d r names ts) (ap ahead s.1) ∙ ap (λ (n : ℕ). default_of d n names ts) (sym (ap start_of s.1))

    pub item_statement : begins_with_word (codes "default") ts ≡ false → group_item_in d r names ts ≡ statement_in d r names ts
    unfolding group_item_in
    item_statement e = not_chosen (begins_label ts) _ _ (no_label _ _ no_case e)

abbrev pub case_go : ℕ → Tree → List Token → Answer Tree
case_go start x behind = expect Colon behind (λ end. found (plain_node kind.Case start (one x)) end)

abbrev pub case_inside : ℕ → Reader → Names → List Token → Answer Tree
case_inside start r names ts = and_then (r.tree_of Goal.conditional names ts) (case_go start)

case_conditional : (l start : ℕ) (names : Names) (ts : List Token) → case_inside start (level l (below l)) names ts ≡ and_then (conditional_in l (below l) names ts) (case_go start)
unfolding level goal_in
case_conditional l start names ts = refl

pub case_entered : (d l : ℕ) → IsBelow 1 d l → (start : ℕ) (p a : Parser) → Keeps p a → a.rest.now ≡ behind_one p.rest.now
    → case_of d (below d) start p.names p.rest.now ≡ and_then (conditional_in l (below l) a.names a.rest.now) (case_go start)
case_entered d l below_is start p a kept rest = reader_inside 1 d l below_is (case_inside start) _ p a refl kept rest ∙ case_conditional l start a.names a.rest.now

abbrev pub default_go : ℕ → List Token → Answer Tree
default_go start ts = expect Colon ts (λ end. found (plain_node kind.Default start none) end)

pub default_entered : (d l : ℕ) → IsBelow 0 d l → (start : ℕ) (names : Names) (ts mid : List Token) → mid ≡ behind_one ts → default_of d start names ts ≡ default_go start mid
default_entered d l below_is start names ts mid e = entered_at 0 d l below_is (default_go start) ts mid e

-- ---- groups

-- behind any labels and statements
abbrev pub IsGroups : ℕ → Reader → Answer Forest → Standing → Names → List Token → List Tree → Type 0
IsGroups d r whole standing names ts xs = (k : ℕ) × (length ts < k) × Left whole xs (groups_in d r k standing names ts)

-- what a loop has read of them
pub record IsGroupRow (d : ℕ) (r : Reader) (whole : Answer Forest) (names0 : Names) (under : List Tree) (budget most : ℕ) (p : Parser) (standing : Standing) (high : ℕ) : Type 0 where
  pub trees : List Tree
  pub groups_are : IsGroups d r whole standing p.names p.rest.now trees
  pub is_read : AreRead (behind_all names0) trees under p high
  pub low : high ≤ budget
  pub shorter : length p.rest.now < most

module _ (d : ℕ) (r : Reader) where
  groups_found : (k : ℕ) (standing : Standing) (names : Names) (ts rest : List Token) (t : Tree) → ends_groups standing ts ≡ false → group_item_in d r names ts ≡ found t rest
      → groups_in d r (suc k) standing names ts ≡ and_then (groups_in d r k (standing_behind ts) (after names t) rest) (λ more end. found (t then more) end)
  unfolding groups_in and_then
  groups_found k standing names ts rest t b e = not_chosen _ _ _ b
      ∙ ap (λ (x : Answer Tree). and_then x (λ t rest. and_then (groups_in d r k (standing_behind ts) (after names t) rest) (λ more end. found (t then more) end))) e

  groups_next : (whole : Answer Forest) (standing standing2 : Standing) (names names2 : Names) (ts rest : List Token) (t : Tree) (xs ys : List Tree)
      → IsGroups d r whole standing names ts xs → ends_groups standing ts ≡ false
      → group_item_in d r names ts ≡ found t rest → names2 ≡ after names t → standing2 ≡ standing_behind ts → length rest < length ts → ys ≡ xs ++ (t ∷ [])
      → IsGroups d r whole standing2 names2 rest ys
  groups_next whole standing standing2 names names2 ts rest t xs ys (k, enough, l) b e n s shorter y = by k enough l
    where
      by : (k : ℕ) → length ts < k → Left whole xs (groups_in d r k standing names ts) → IsGroups d r whole standing2 names2 rest ys
      by zero enough l = absurd (omega (arith, enough))
      by (suc k) enough l =
          let read : Left whole (xs ++ (t ∷ [])) (groups_in d r k (standing_behind ts) (after names t) rest)
          = left_more whole xs _ (groups_in d r k (standing_behind ts) (after names t) rest) t l (groups_found k standing names ts rest t b e) in
          (k, omega (arith, enough, shorter), rw (y, n, s) read)

  groups_first_stops : (k : ℕ) (standing : Standing) (names : Names) (ts rest : List Token) (s : Stop)
      → ends_groups standing ts ≡ false → Stops (group_item_in d r names ts) rest s → Stops (groups_in d r (suc k) standing names ts) rest s
  unfolding groups_in
  groups_first_stops k standing names ts rest s b h = stops_same _ _ rest s (not_chosen _ _ _ b) (stops_then (group_item_in d r names ts) _ rest s h)

  groups_stops : (whole : Answer Forest) (standing : Standing) (names : Names) (ts rest : List Token) (xs : List Tree) (s : Stop)
      → IsGroups d r whole standing names ts xs → ends_groups standing ts ≡ false → Stops (group_item_in d r names ts) rest s → Stops whole rest s
  groups_stops whole standing names ts rest xs s (k, enough, l) b h = by k enough l
    where
      by : (k : ℕ) → length ts < k → Left whole xs (groups_in d r k standing names ts) → Stops whole rest s
      by zero enough l = absurd (omega (arith, enough))
      by (suc k) enough l = left_stop whole xs _ rest s l (groups_first_stops k standing names ts rest s b h)

  groups_end : (whole : Answer Forest) (standing : Standing) (names : Names) (ts : List Token) (xs : List Tree)
      → IsGroups d r whole standing names ts xs → ends_groups standing ts ≡ true → whole ≡ found (forest_of xs) ts
  unfolding groups_in
  groups_end whole standing names ts xs (k, enough, l) b = by k enough l
    where
      by : (k : ℕ) → length ts < k → Left whole xs (groups_in d r k standing names ts) → whole ≡ found (forest_of xs) ts
      by zero enough l = absurd (omega (arith, enough))
      by (suc k) enough l = left_end whole xs _ ts l (chosen _ _ _ b)

-- ---- what the loop has read

module _ (d : ℕ) (r : Reader) (names0 : Names) (whole : Answer Forest) (under : List Tree) (budget most : ℕ) where
  pub group_row_start : (p : Parser) → whole ≡ rows_in d r Rows.groups p.names p.rest.now → p.names ≡ names0 → stack_of p.trees ≡ under → length p.rest.now < most
      → IsGroupRow d r whole names0 under budget most p at_first 0
  unfolding rows_in
  group_row_start p shape n stack shorter = record {
    trees = [];
    groups_are = subst (λ (w : Answer Forest). IsGroups d r w at_first p.names p.rest.now []) (sym shape) (suc (length p.rest.now), omega arith, left_start _);
    is_read = record { names_are = n ∙ sym (add_nothing names0); pushed = record { stack_is = stack; height_is = refl } };
    low = omega arith;
    shorter = shorter;
  }

  module _ (p : Parser) (standing : Standing) (high : ℕ) (so_far : IsGroupRow d r whole names0 under budget most p standing high) where
    module _ (more : ends_groups standing p.rest.now ≡ false) where
      pub group_row_stops : (rest : List Token) (s : Stop) → Stops (group_item_in d r p.names p.rest.now) rest s → Stops whole rest s
      group_row_stops rest s h = groups_stops d r whole standing p.names p.rest.now rest so_far.trees s so_far.groups_are more h

      pub group_row_next : (says : Tree → Type 0) (q : Parser) (part : Part) → Reads (group_item_in d r p.names p.rest.now) (after p.names) says (stack_of p.trees) budget (length p.rest.now) q part
          → (high2 : ℕ) → high2 ≡ max part.height high → (standing2 : Standing) → standing2 ≡ standing_behind p.rest.now → IsGroupRow d r whole names0 under budget most q standing2 high2
      group_row_next says q part next high2 e standing2 s =
          let t = next.tree in
          let xs = so_far.trees in
          let e2 : high2 ≡ max high part.height = omega (arith, e) in
          record {
            trees = xs ++ (t ∷ []);
            groups_are = groups_next d r whole standing standing2 p.names q.names p.rest.now q.rest.now t xs (xs ++ (t ∷ [])) so_far.groups_are more next.found_is next.read.names_are s next.shorter refl;
            is_read = record {
              names_are = names_more q.names names0 p.names xs t so_far.is_read.names_are next.read.names_are;
              pushed = same_height _ _ _ _ high2 e2 (more_trees xs t under (stack_of p.trees) (stack_of q.trees) high part so_far.is_read.pushed next.read.pushed);
            };
            low = let a = so_far.low in let b = next.low in omega (arith, a, b, e);
            shorter = let a = so_far.shorter in let b = next.shorter in omega (arith, a, b);
          }

    pub group_row_end : (says : List Tree → Type 0) → ends_groups standing p.rest.now ≡ true → says so_far.trees → ReadsAll whole (behind_all names0) says under budget most p high
    group_row_end says ends s = record {
      trees = so_far.trees;
      found_is = groups_end d r whole standing p.names p.rest.now so_far.trees so_far.groups_are ends;
      read = so_far.is_read;
      said = s;
      low = so_far.low;
      shorter = so_far.shorter;
    }
