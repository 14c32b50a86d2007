-- What expressions read behind their first tokens.
use Rattle.std.proofs.Common.{◌≡◌, ℕ, zero, suc, ◌-◌, ◌<◌, ◌≤◌, ◌==◌, Bool, true, false, ◌&&◌, ◌||◌, List, [], ◌∷◌, refl, sym, ap, ap₂, ◌∙◌, arith, true≢false}
use Rattle.std.proofs.lemmas.Bool.Decides.{nat_tests}
use Rattle.c_lexer.specs.declared.token.Token.{Token}
use Rattle.c_lexer.specs.declared.token.Punct.{Punct}
use Rattle.c_lexer.specs.declared.token.Punct.TheVariants.{Comma, Question, Colon, Semicolon, RightParenthesis}
use Rattle.c_lexer.specs.Marks.{mark_text}
use Rattle.c_syntax.specs.declared.kind.SynKind.{SynKind}
use Rattle.c_syntax.specs.declared.kind.SynKind.TheVariants as kind
use Rattle.c_syntax.specs.Trees.{Tree, none, two, three, text_node, plain_node, height}
use Rattle.c_grammar.specs.Scopes.{Names, after}
use Rattle.c_grammar.specs.Derivation.{start}
use Rattle.c_grammar.specs.Vocabulary.{Place, mark, is_assignment, level_of, start_of}
use Rattle.c_grammar.specs.Answers.{Answer, found, deep, and_then, fit, Ahead, mark_ahead, ahead, ahead_by, expect}
use Rattle.c_grammar.specs.Reading.{Reader, Goal, begins_with_mark, begins_with_mark_by, behind_one, below, goal_in, assignment_in, expression_in, conditional_in, binary_in, postfix_in, optional_expression_in, suffixes, commas, comma_by, choice_by, assigned_by, operand_by, is_unary_by, if_any}
use Rattle.c_grammar.proofs.SoundSteps.{mark_split}
use Rattle.c_parts.specs.Pushed.{IsBelow}
use Rattle.c_parts.specs.declared.budget.Stop.{Stop}
use Rattle.c_parts.specs.declared.budget.Stop.TheVariants.{Deep}
use Rattle.c_parser.specs.declared.parser.Parser.{Parser}
use Rattle.c_parser.specs.Gives.{Stops, Passes, Balks}
use Rattle.c_parser.proofs.PartLaws.{operand_stops, operand_found, closed_open, closed_found}
use Rattle.c_parser.specs.Steps.{comma_at, choice_at, assigned_at, operand_at, primary_at, assigns_by}
use Rattle.c_parser.proofs.Stopping.{whole_barred, whole_entered, below_as, part_found, part_stops, stops_then, found_then, chosen, not_chosen}

-- the first token is this mark
pub ahead_mark : (p : Punct) (ts : List Token) (at : Place) → ts ≡ mark p at ∷ behind_one ts → ahead ts ≡ mark_ahead p at (behind_one ts)
unfolding ahead ahead_by
ahead_mark p ts at e = ap ahead e

pub some_ahead_mark : (p : Punct) (ts : List Token) → begins_with_mark p ts ≡ true → (at : Place) × (ahead ts ≡ mark_ahead p at (behind_one ts))
some_ahead_mark p ts e = let s = mark_split p ts e in (s.0, ahead_mark p ts s.0 s.1)

-- ---- an operand behind x and an operator, and the node above both

abbrev pub IsLink : SynKind → List ℕ → Goal → ℕ → Names → Tree → List Token → Answer Tree → Type 0
IsLink kind text g d names x ts whole =
    whole ≡ fit (suc (height x)) d (behind_one ts) (and_then ((below d).tree_of g (after names x) (behind_one ts)) (λ y end. found (text_node kind text (start x) (two x y)) end))

module _ (kind : SynKind) (text : List ℕ) (g : Goal) (d : ℕ) (names : Names) (x : Tree) (ts : List Token) (whole : Answer Tree) (shape : IsLink kind text g d names x ts whole) (high : ℕ) (e : high ≡ height x)
  where
    pub link_deep : (left : List Token) (s : Stop) → (s ≡ Deep) × (d < suc high) → left ≡ behind_one ts → Stops whole left s
    link_deep left s h same = whole_barred _ (height x) d 0 _ _ shape left s (h.0, let g = h.1 in omega (arith, g, e)) same

    module _ (lower : ℕ) (below_is : IsBelow high d lower) (names2 : Names) (ts2 : List Token) (n : names2 ≡ after names x) (m : ts2 ≡ behind_one ts) where
      link_part : whole ≡ and_then ((below d).tree_of g (after names x) (behind_one ts)) (λ y end. found (text_node kind text (start x) (two x y)) end)
      link_part = whole_entered _ (height x) d lower _ _ shape (below_as _ _ d lower e below_is)

      pub link_stops : (rest : List Token) (s : Stop) → Stops (goal_in lower (below lower) g names2 ts2) rest s → Stops whole rest s
      link_stops rest s h = part_stops _ high d lower below_is g (after names x) names2 (behind_one ts) ts2 _ link_part n m rest s h

      pub link_found : (at : ℕ) → at ≡ start x → (y : Tree) (rest : List Token) → goal_in lower (below lower) g names2 ts2 ≡ found y rest → whole ≡ found (text_node kind text at (two x y)) rest
      link_found at same y rest h =
          part_found _ high d lower below_is g (after names x) names2 (behind_one ts) ts2 _ link_part n m y rest h
          ∙ ap (λ k. found (text_node kind text k (two x y)) rest) (sym same)

pub comma_link : (d : ℕ) (names : Names) (x : Tree) (ts : List Token) → begins_with_mark Comma ts ≡ true → IsLink kind.Comma [] Goal.assignment d names x ts (comma_at d (below d) names x ts)
unfolding comma_by
comma_link d names x ts comma = ap (comma_by d (below d) names x ts found) (some_ahead_mark Comma ts comma).1

-- an assignment
both_true : (a b : Bool) → a ≡ true → b ≡ true → a && b ≡ true
both_true a b e f = ap (λ x. x && b) e ∙ f

pub assigned_link : (d : ℕ) (names : Names) (x : Tree) (ts : List Token) (op : Punct) → (is_assignment op ≡ true) × ((at : Place) × (ts ≡ mark op at ∷ behind_one ts)) → is_unary_by x.label.kind ≡ true
    → IsLink kind.Assign (mark_text op) Goal.assignment d names x ts (assigned_at d (below d) names x ts)
unfolding assigned_by
assigned_link d names x ts op (assigns, (at, first)) unary =
    ap (assigned_by d (below d) names x ts) (ahead_mark op ts at first) ∙ chosen (is_assignment op && is_unary_by x.label.kind) _ _ (both_true _ _ assigns unary)

-- an operator of some level
pub operand_link : (d : ℕ) (names : Names) (x : Tree) (ts : List Token) (op : Punct) (level : ℕ) → (1 ≤ level) × ((level_of op ≡ level) × ((at : Place) × (ts ≡ mark op at ∷ behind_one ts)))
    → IsLink kind.Binary (mark_text op) (Goal.binary (level - 1)) d names x ts (operand_at d (below d) (level - 1) names x ts)
unfolding operand_by
operand_link d names x ts op level (some, (is, (at, first))) =
    ap (operand_by d (below d) (level - 1) names x ts found) (ahead_mark op ts at first) ∙ chosen (level_of op == suc (level - 1)) _ _ (grind (arith, nat_tests))

pub second_true : (a b : Bool) → b ≡ true → a || b ≡ true
second_true true b e = refl
second_true false b e = e

-- ---- what stands behind the first operand, or nothing

module _ (d : ℕ) (r : Reader) (names : Names) (ts : List Token) where
  pub assignment_stops : (rest : List Token) (s : Stop) → Stops (conditional_in d r names ts) rest s → Stops (assignment_in d r names ts) rest s
  unfolding assignment_in
  assignment_stops rest s h = stops_then (conditional_in d r names ts) (λ x rest. assigned_by d r names x rest (ahead rest)) rest s h

  pub assignment_behind : (x : Tree) (mid : List Token) → conditional_in d r names ts ≡ found x mid → assignment_in d r names ts ≡ assigned_at d r names x mid
  unfolding assignment_in
  assignment_behind x mid e = found_then _ (λ x rest. assigned_by d r names x rest (ahead rest)) x mid e

  pub conditional_stops : (rest : List Token) (s : Stop) → Stops (binary_in d r 10 names ts) rest s → Stops (conditional_in d r names ts) rest s
  unfolding conditional_in
  conditional_stops rest s h = stops_then (binary_in d r 10 names ts) (λ x rest. choice_by d r names x rest (ahead rest)) rest s h

  pub conditional_behind : (x : Tree) (mid : List Token) → binary_in d r 10 names ts ≡ found x mid → conditional_in d r names ts ≡ choice_at d r names x mid
  unfolding conditional_in
  conditional_behind x mid e = found_then _ (λ x rest. choice_by d r names x rest (ahead rest)) x mid e

  pub expression_stops : (rest : List Token) (s : Stop) → Stops (assignment_in d r names ts) rest s → Stops (expression_in d r names ts) rest s
  unfolding expression_in
  expression_stops rest s h = stops_then (assignment_in d r names ts) (commas d r d names) rest s h

  pub postfix_stops : (rest : List Token) (s : Stop) → Stops (primary_at d r names ts) rest s → Stops (postfix_in d r names ts) rest s
  unfolding postfix_in
  postfix_stops rest s h = stops_then (primary_at d r names ts) (suffixes d r d names) rest s h

  pub optional_some : begins_with_mark Semicolon ts ≡ false → begins_with_mark RightParenthesis ts ≡ false → optional_expression_in d r names ts ≡ expression_in d r names ts
  unfolding optional_expression_in
  optional_some e f = not_chosen _ _ _ (ap₂ (λ a b. a || b) e f)

  -- nothing, before `;` or `)`
  module _ (ends : begins_with_mark Semicolon ts || begins_with_mark RightParenthesis ts ≡ true) where
    pub optional_deep : d < 1 → optional_expression_in d r names ts ≡ deep ts
    unfolding optional_expression_in if_any
    optional_deep h = chosen _ _ _ ends ∙ by d h
      where
        by : (d : ℕ) → d < 1 → if_any d ts (found (plain_node kind.Empty (start_of ts) none) ts) ≡ deep ts
        by zero h = refl
        by (suc d) h = absurd (omega (arith, h))

    pub optional_none : (lower start : ℕ) → d ≡ suc lower → start ≡ start_of ts → optional_expression_in d r names ts ≡ found (plain_node kind.Empty start none) ts
    unfolding optional_expression_in if_any
    optional_none lower start e same =
        chosen _ _ _ ends ∙ ap (λ n. if_any n ts (found (plain_node kind.Empty (start_of ts) none) ts)) e ∙ ap (λ n. found (plain_node kind.Empty n none) ts) (sym same)

  module _ (x : Tree) where
    pub not_assigned : assigns_by (ahead ts) ≡ false → assigned_at d r names x ts ≡ found x ts
    unfolding assigned_by
    not_assigned e = by (ahead ts) e
      where
        by : (h : Ahead) → assigns_by h ≡ false → assigned_by d r names x ts h ≡ found x ts
        by (mark_ahead op at rest) e = not_chosen (is_assignment op && is_unary_by x.label.kind) _ _ (ap (λ b. b && is_unary_by x.label.kind) e)
        by other e = refl

    and_false : (b c : Bool) → c ≡ false → b && c ≡ false
    and_false true c e = e
    and_false false c e = refl

    pub no_target : is_unary_by x.label.kind ≡ false → assigned_at d r names x ts ≡ found x ts
    unfolding assigned_by
    no_target e = by (ahead ts)
      where
        by : (h : Ahead) → assigned_by d r names x ts h ≡ found x ts
        by (mark_ahead op at rest) = not_chosen (is_assignment op && is_unary_by x.label.kind) _ _ (and_false (is_assignment op) _ e)
        by other = refl

    pub no_choice : begins_with_mark Question ts ≡ false → choice_at d r names x ts ≡ found x ts
    unfolding choice_by
    no_choice e = by (ahead ts) e
      where
        by : (h : Ahead) → begins_with_mark_by Question h ≡ false → choice_by d r names x ts h ≡ found x ts
        by (mark_ahead Question at rest) e = absurd (true≢false e)
        by other e = refl

-- ---- choices

module _ (d : ℕ) (names : Names) (x : Tree) (ts : List Token) (question : begins_with_mark Question ts ≡ true) (high : ℕ) (e : high ≡ height x) where
  choice_shape : choice_at d (below d) names x ts
      ≡ fit (suc (height x)) d (behind_one ts) (and_then ((below d).tree_of Goal.expression (after names x) (behind_one ts)) (λ y behind.
      expect Colon behind (λ behind2.
      and_then ((below d).tree_of Goal.conditional (after (after names x) y) behind2) (λ z end. found (plain_node kind.Cond (start x) (three x y z)) end))))
  unfolding choice_by
  choice_shape = ap (choice_by d (below d) names x ts) (some_ahead_mark Question ts question).1

  pub choice_deep : (left : List Token) (s : Stop) → (s ≡ Deep) × (d < suc high) → left ≡ behind_one ts → Stops (choice_at d (below d) names x ts) left s
  choice_deep left s h same = whole_barred _ (height x) d 0 _ _ choice_shape left s (h.0, let g = h.1 in omega (arith, g, e)) same

  module _ (lower : ℕ) (below_is : IsBelow high d lower) (here : Parser) (n : here.names ≡ after names x) (m : here.rest.now ≡ behind_one ts) where
    choice_entered : choice_at d (below d) names x ts
        ≡ and_then ((below d).tree_of Goal.expression (after names x) (behind_one ts)) (λ y behind.
        expect Colon behind (λ behind2.
        and_then ((below d).tree_of Goal.conditional (after (after names x) y) behind2) (λ z end. found (plain_node kind.Cond (start x) (three x y z)) end)))
    choice_entered = whole_entered _ (height x) d lower _ _ choice_shape (below_as _ _ d lower e below_is)

    pub choice_first_stops : (rest : List Token) (s : Stop) → Stops (goal_in lower (below lower) Goal.expression here.names here.rest.now) rest s → Stops (choice_at d (below d) names x ts) rest s
    choice_first_stops rest s h = operand_stops (below d) lower below_is.level_is (after names x) (behind_one ts) here n m Goal.expression _ _ choice_entered rest s h

    module _ (y : Tree) (behind new : Parser) (f : goal_in lower (below lower) Goal.expression here.names here.rest.now ≡ found y behind.rest.now) where
      pub choice_open : (s : Stop) → Balks (begins_with_mark Colon behind.rest.now) behind new s → Stops (choice_at d (below d) names x ts) new.rest.now s
      choice_open s h = closed_open (below d) lower below_is.level_is (after names x) (behind_one ts) here n m Goal.expression _ Colon _ choice_entered y behind new f s h

      module _ (passes : Passes (begins_with_mark Colon behind.rest.now) behind new) (n2 : behind.names ≡ after here.names y) where
        choice_closed : choice_at d (below d) names x ts
            ≡ and_then ((below d).tree_of Goal.conditional (after (after names x) y) new.rest.now) (λ z end. found (plain_node kind.Cond (start x) (three x y z)) end)
        choice_closed = closed_found (below d) lower below_is.level_is (after names x) (behind_one ts) here n m Goal.expression _ Colon _ choice_entered y behind new f passes

        names_there : new.names ≡ after (after names x) y
        names_there = passes.kept.names_are ∙ n2 ∙ ap (λ (k : Names). after k y) n

        pub choice_last_stops : (rest : List Token) (s : Stop) → Stops (goal_in lower (below lower) Goal.conditional new.names new.rest.now) rest s → Stops (choice_at d (below d) names x ts) rest s
        choice_last_stops rest s h = operand_stops (below d) lower below_is.level_is (after (after names x) y) new.rest.now new names_there refl Goal.conditional _ _ choice_closed rest s h

        pub choice_found : (at : ℕ) → at ≡ start x → (z : Tree) (rest : List Token) → goal_in lower (below lower) Goal.conditional new.names new.rest.now ≡ found z rest
            → choice_at d (below d) names x ts ≡ found (plain_node kind.Cond at (three x y z)) rest
        choice_found at same z rest h =
            operand_found (below d) lower below_is.level_is (after (after names x) y) new.rest.now new names_there refl Goal.conditional _ _ choice_closed z rest h
            ∙ ap (λ k. found (plain_node kind.Cond k (three x y z)) rest) (sym same)
