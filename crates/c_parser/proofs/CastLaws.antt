-- What casts, operators before an operand and `sizeof` read, by their first tokens.
use Rattle.std.proofs.Common.{◌≡◌, ℕ, ◌<◌, ◌≢◌, Bool, true, false, List, [], ◌∷◌, codes, if◌then◌else◌, refl, sym, ap, ap₂, ◌∙◌, bytes_eq, true≢false}
use Rattle.c_lexer.specs.declared.token.Punct.{Punct}
use Rattle.c_lexer.specs.declared.token.Punct.TheVariants.{LeftParenthesis, RightParenthesis, PlusPlus, MinusMinus}
use Rattle.c_lexer.specs.declared.token.Token.{Token}
use Rattle.c_lexer.specs.declared.token.TokenKind.{TokenKind}
use Rattle.c_lexer.specs.declared.token.TokenKind.TheVariants as token
use Rattle.c_syntax.specs.declared.kind.SynKind.TheVariants as kind
use Rattle.c_syntax.specs.Trees.{Tree, one, two, text_node, plain_node}
use Rattle.c_grammar.specs.Scopes.{Names, after}
use Rattle.c_grammar.specs.Vocabulary.{Place, mark, word, start_of}
use Rattle.c_grammar.specs.Answers.{Answer, found, and_then, fit, Ahead, mark_ahead, ahead, ahead_by, expect}
use Rattle.c_grammar.specs.Reading.{Reader, Goal, begins_with_mark, begins_with_mark_by, begins_specifier, behind_one, below, goal_in, cast_by, cast_in, unary_by, unary_in, postfix_in, size_in}
use Rattle.c_grammar.proofs.SoundSteps.{mark_split}
use Rattle.c_parts.specs.Pushed.{IsBelow}
use Rattle.c_parts.specs.declared.budget.Stop.{Stop}
use Rattle.c_parts.specs.declared.budget.Stop.TheVariants.{Deep}
use Rattle.c_parser.specs.declared.parser.Parser.{Parser}
use Rattle.c_parser.specs.Gives.{Stops, Passes, Balks}
use Rattle.c_parser.specs.Steps.{cast_to, size_in_at, size_of_operand, size_of_type, marked_at, operated_at, place}
use Rattle.c_parser.proofs.Stopping.{whole_barred, whole_entered, entered, chosen, not_chosen}
use Rattle.c_parser.proofs.Tokens.{place_of}
use Rattle.c_parser.proofs.PartLaws.{operand_stops, operand_found, closed_open, closed_found}
use Rattle.c_parser.proofs.ExpressionLaws.{ahead_mark, some_ahead_mark}

module _ (d : ℕ) (r : Reader) (names : Names) (ts : List Token) where
  -- ---- casts

  pub no_cast : begins_with_mark LeftParenthesis ts ≡ false → cast_in d r names ts ≡ unary_in d r names ts
  unfolding cast_in cast_by
  no_cast e = by (ahead ts) e
    where
      by : (h : Ahead) → begins_with_mark_by LeftParenthesis h ≡ false → cast_by d r names ts h ≡ unary_in d r names ts
      by (mark_ahead LeftParenthesis at rest) e = absurd (true≢false e)
      by other e = refl

  module _ (names2 : Names) (n : names2 ≡ names) (mid : List Token) (m : mid ≡ behind_one ts) (opens : begins_with_mark LeftParenthesis ts ≡ true) where
    -- specs begin there, as they are known here
    specs_there : (b : Bool) → begins_specifier false names2 mid ≡ b → begins_specifier false names (behind_one ts) ≡ b
    specs_there b e = ap₂ (begins_specifier false) (sym n) (sym m) ∙ e

    pub cast_named : (start : ℕ) → start ≡ start_of ts → begins_specifier false names2 mid ≡ true → cast_in d r names ts ≡ cast_to d r start names2 mid
    unfolding cast_in cast_by
    cast_named start same b =
        let s = mark_split LeftParenthesis ts opens in
        ap (cast_by d r names ts) (ahead_mark LeftParenthesis ts s.0 s.1) ∙ chosen _ _ _ (specs_there true b)
        ∙ ap (λ k. cast_to d r k names (behind_one ts)) (sym (same ∙ ap start_of s.1)) ∙ ap₂ (cast_to d r start) (sym n) (sym m)

    pub cast_unnamed : begins_specifier false names2 mid ≡ false → cast_in d r names ts ≡ unary_in d r names2 ts
    unfolding cast_in cast_by
    cast_unnamed b =
        ap (cast_by d r names ts) (some_ahead_mark LeftParenthesis ts opens).1 ∙ not_chosen _ _ _ (specs_there false b)
        ∙ ap (λ k. unary_in d r k ts) (sym n)

    -- ---- `sizeof`, and a parenthesis behind it

    module _ (start : ℕ) where
      size_shape : size_in_at d r start names ts
          ≡ fit 3 d (behind_one ts) (if begins_specifier false names (behind_one ts) then size_of_type r start names (behind_one ts) else size_of_operand r start names ts)
      unfolding size_in
      size_shape = ap (size_in d r names (place start) ts) (some_ahead_mark LeftParenthesis ts opens).1

      pub size_deep : (left : List Token) (s : Stop) → (s ≡ Deep) × (d < 3) → left ≡ behind_one ts → Stops (size_in_at d r start names ts) left s
      size_deep left s h same = whole_barred _ 2 d 0 _ _ size_shape left s h same

      module _ (lower : ℕ) (below_is : IsBelow 2 d lower) (r2 : Reader) (same : r ≡ r2) where
        pub size_named : begins_specifier false names2 mid ≡ true → size_in_at d r start names ts ≡ size_of_type r2 start names2 mid
        size_named b =
            whole_entered _ 2 d lower _ _ size_shape below_is ∙ chosen _ _ _ (specs_there true b)
            ∙ ap (λ q. size_of_type q start names (behind_one ts)) same ∙ ap₂ (size_of_type r2 start) (sym n) (sym m)

        pub size_unnamed : begins_specifier false names2 mid ≡ false → size_in_at d r start names ts ≡ size_of_operand r2 start names2 ts
        size_unnamed b =
            whole_entered _ 2 d lower _ _ size_shape below_is ∙ not_chosen _ _ _ (specs_there false b)
            ∙ ap₂ (λ q k. size_of_operand q start k ts) same (sym n)

  -- ---- operators before an operand

  -- no token is left
  pub unary_nothing : ts ≡ [] → unary_in d r names ts ≡ postfix_in d r names ts
  unfolding unary_in unary_by ahead
  unary_nothing e = ap (λ us. unary_by d r names ts (ahead us)) e

  module _ (at : Place) (start : ℕ) (same : start ≡ at.start) where
    pub unary_increment : ts ≡ mark PlusPlus at ∷ behind_one ts → unary_in d r names ts ≡ marked_at d r Goal.unary (codes "++") start names ts
    unfolding unary_in unary_by
    unary_increment e = ap (unary_by d r names ts) (ahead_mark PlusPlus ts at e) ∙ ap (λ n. marked_at d r Goal.unary (codes "++") n names ts) (sym same)

    pub unary_decrement : ts ≡ mark MinusMinus at ∷ behind_one ts → unary_in d r names ts ≡ marked_at d r Goal.unary (codes "--") start names ts
    unfolding unary_in unary_by
    unary_decrement e = ap (unary_by d r names ts) (ahead_mark MinusMinus ts at e) ∙ ap (λ n. marked_at d r Goal.unary (codes "--") n names ts) (sym same)

    operated_by : (op : Punct) → op ≢ PlusPlus → op ≢ MinusMinus → unary_by d r names ts (mark_ahead op at (behind_one ts)) ≡ operated_at d r op at.start names ts
    unfolding unary_by
    operated_by PlusPlus a b = absurd (a refl)
    operated_by MinusMinus a b = absurd (b refl)
    operated_by op a b = refl

    pub unary_operated : (op : Punct) → ts ≡ mark op at ∷ behind_one ts → op ≢ PlusPlus → op ≢ MinusMinus → unary_in d r names ts ≡ operated_at d r op start names ts
    unfolding unary_in
    unary_operated op e a b = ap (unary_by d r names ts) (ahead_mark op ts at e) ∙ operated_by op a b ∙ ap (λ n. operated_at d r op n names ts) (sym same)

    -- ---- `sizeof`

    -- the place of `sizeof` has an end too, which no tree has
    size_places : (us : List Token) → size_in d r names at us (ahead us) ≡ size_in_at d r start names us
    unfolding size_in
    size_places us = by (ahead us)
      where
        by : (h : Ahead) → size_in d r names at us h ≡ size_in d r names (place start) us h
        by (mark_ahead LeftParenthesis at2 rest2) = rw same refl
        by other = rw same refl

    pub unary_size : (text : List ℕ) → ts ≡ word text at ∷ behind_one ts → bytes_eq text (codes "sizeof") ≡ true → unary_in d r names ts ≡ fit 2 d (behind_one ts) (size_in_at d r start names (behind_one ts))
    unfolding unary_in unary_by ahead ahead_by
    unary_size text e is = ap (λ us. unary_by d r names ts (ahead us)) e ∙ chosen _ _ _ is ∙ ap (fit 2 d (behind_one ts)) (size_places (behind_one ts))

  pub unary_word : (text : List ℕ) (at : Place) → ts ≡ word text at ∷ behind_one ts → bytes_eq text (codes "sizeof") ≡ false → unary_in d r names ts ≡ postfix_in d r names ts
  unfolding unary_in unary_by ahead ahead_by
  unary_word text at e is = ap (λ us. unary_by d r names ts (ahead us)) e ∙ not_chosen _ _ _ is

  -- another token
  pub unary_other : (t : Token) → ts ≡ t ∷ behind_one ts → ((p : Punct) → t.kind ≡ token.Punct p → ⊥) → ((text : List ℕ) → t.kind ≡ token.Word text → ⊥) → unary_in d r names ts ≡ postfix_in d r names ts
  unfolding unary_in unary_by ahead ahead_by
  unary_other t e no_mark no_word = ap (λ us. unary_by d r names ts (ahead us)) e ∙ by t.kind no_mark no_word
    where
      by : (k : TokenKind) → ((p : Punct) → k ≡ token.Punct p → ⊥) → ((text : List ℕ) → k ≡ token.Word text → ⊥) → unary_by d r names ts (ahead_by k (place_of t) (behind_one ts)) ≡ postfix_in d r names ts
      by (token.Punct p) no_mark no_word = absurd (no_mark p refl)
      by (token.Word text) no_mark no_word = absurd (no_word text refl)
      by other no_mark no_word = refl

  module _ (start : ℕ) where
    pub size_open : begins_with_mark LeftParenthesis ts ≡ false → size_in_at d r start names ts ≡ size_of_operand r start names ts
    unfolding size_in
    size_open e = by (ahead ts) e
      where
        by : (h : Ahead) → begins_with_mark_by LeftParenthesis h ≡ false → size_in d r names (place start) ts h ≡ size_of_operand r start names ts
        by (mark_ahead LeftParenthesis at rest) e = absurd (true≢false e)
        by other e = refl

-- ---- a mark before an operand

module _ (whole : Answer Tree) (d : ℕ) (g : Goal) (text : List ℕ) (start : ℕ) (names : Names) (ts : List Token) (shape : whole ≡ marked_at d (below d) g text start names ts) where
  pub marked_deep : (left : List Token) (s : Stop) → (s ≡ Deep) × (d < 2) → left ≡ behind_one ts → Stops whole left s
  marked_deep left s h same = whole_barred _ 1 d 0 _ _ shape left s h same

  module _ (lower : ℕ) (below_is : IsBelow 1 d lower) (here : Parser) (n : here.names ≡ names) (m : here.rest.now ≡ behind_one ts) where
    marked_part : whole ≡ and_then ((below d).tree_of g names (behind_one ts)) (λ x end. found (text_node kind.Unary text start (one x)) end)
    marked_part = whole_entered _ 1 d lower _ _ shape below_is

    pub marked_stops : (rest : List Token) (s : Stop) → Stops (goal_in lower (below lower) g here.names here.rest.now) rest s → Stops whole rest s
    marked_stops rest s h = operand_stops (below d) lower below_is.level_is names (behind_one ts) here n m g _ _ marked_part rest s h

    pub marked_found : (x : Tree) (rest : List Token) → goal_in lower (below lower) g here.names here.rest.now ≡ found x rest → whole ≡ found (text_node kind.Unary text start (one x)) rest
    marked_found x rest h = operand_found (below d) lower below_is.level_is names (behind_one ts) here n m g _ _ marked_part x rest h

-- ---- a cast, from behind its parenthesis

module _ (d lower : ℕ) (below_is : IsBelow 1 d lower) (start : ℕ) (here : Parser) where
  cast_entered : cast_to d (below d) start here.names here.rest.now
      ≡ and_then ((below d).tree_of Goal.type_name here.names here.rest.now) (λ t behind.
      expect RightParenthesis behind (λ behind2.
      and_then ((below d).tree_of Goal.cast (after here.names t) behind2) (λ x end. found (plain_node kind.Cast start (two t x)) end)))
  cast_entered = entered 1 d lower here.rest.now _ below_is

  pub cast_first_stops : (rest : List Token) (s : Stop) → Stops (goal_in lower (below lower) Goal.type_name here.names here.rest.now) rest s → Stops (cast_to d (below d) start here.names here.rest.now) rest s
  cast_first_stops rest s h = operand_stops (below d) lower below_is.level_is here.names here.rest.now here refl refl Goal.type_name _ _ cast_entered rest s h

  module _ (t : Tree) (behind new : Parser) (f : goal_in lower (below lower) Goal.type_name here.names here.rest.now ≡ found t behind.rest.now) where
    pub cast_open : (s : Stop) → Balks (begins_with_mark RightParenthesis behind.rest.now) behind new s → Stops (cast_to d (below d) start here.names here.rest.now) new.rest.now s
    cast_open s h = closed_open (below d) lower below_is.level_is here.names here.rest.now here refl refl Goal.type_name _ RightParenthesis _ cast_entered t behind new f s h

    module _ (passes : Passes (begins_with_mark RightParenthesis behind.rest.now) behind new) (n : behind.names ≡ after here.names t) where
      cast_closed : cast_to d (below d) start here.names here.rest.now
          ≡ and_then ((below d).tree_of Goal.cast (after here.names t) new.rest.now) (λ x end. found (plain_node kind.Cast start (two t x)) end)
      cast_closed = closed_found (below d) lower below_is.level_is here.names here.rest.now here refl refl Goal.type_name _ RightParenthesis _ cast_entered t behind new f passes

      pub cast_last_stops : (rest : List Token) (s : Stop) → Stops (goal_in lower (below lower) Goal.cast new.names new.rest.now) rest s → Stops (cast_to d (below d) start here.names here.rest.now) rest s
      cast_last_stops rest s h =
          operand_stops (below d) lower below_is.level_is (after here.names t) new.rest.now new (passes.kept.names_are ∙ n) refl Goal.cast _ _ cast_closed rest s h

      pub cast_found : (x : Tree) (rest : List Token) → goal_in lower (below lower) Goal.cast new.names new.rest.now ≡ found x rest
          → cast_to d (below d) start here.names here.rest.now ≡ found (plain_node kind.Cast start (two t x)) rest
      cast_found x rest h = operand_found (below d) lower below_is.level_is (after here.names t) new.rest.now new (passes.kept.names_are ∙ n) refl Goal.cast _ _ cast_closed x rest h
