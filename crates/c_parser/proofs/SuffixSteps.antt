-- What stands behind a declarator, by its first tokens.
use Rattle.std.proofs.Common.{◌≡◌, ℕ, suc, ◌<◌, ◌≤◌, Bool, true, false, ◌&&◌, ◌||◌, List, codes, refl, sym, ap, ap₂, ◌∙◌, arith, true≢false}
use Rattle.c_lexer.specs.declared.token.Token.{Token}
use Rattle.c_lexer.specs.declared.token.Punct.TheVariants.{LeftBracket, RightBracket, LeftParenthesis, RightParenthesis}
use Rattle.c_syntax.specs.declared.kind.SynKind.TheVariants as kind
use Rattle.c_syntax.specs.Trees.{Tree, none, ◌then◌, one, plain_node, height}
use Rattle.c_grammar.specs.Scopes.{Names, opened, after}
use Rattle.c_grammar.specs.Derivation.{start}
use Rattle.c_grammar.specs.Answers.{found, wrong, deep, and_then, fit, expect}
use Rattle.c_grammar.specs.Reading.{Reader, Rows, below, level, rows_in, length_in, conditional_in, begins_with_mark, begins_with_word, behind_one, goes_on_behind_void, is_named, after_any, parameters_in, void_in, takes_in, declared_suffix_by}
use Rattle.c_parts.specs.declared.budget.Stop.{Stop}
use Rattle.c_parts.specs.declared.budget.Stop.TheVariants.{Deep}
use Rattle.c_parts.specs.declared.declarator.Declarator.{Declarator}
use Rattle.c_parts.specs.Pushed.{IsBelow}
use Rattle.c_parser.specs.declared.parser.Parser.{Parser}
use Rattle.c_parser.specs.Gives.{Stops, Keeps, IsDeclared}
use Rattle.c_parser.specs.Steps.{begins_declared_suffix, declared_suffix_at, array_of, takes_at, nothing_at, void_at, parameters_at, scoped_at}
use Rattle.c_parser.proofs.DeclaratorGives.{parameters_on}
use Rattle.c_parser.proofs.ExpressionLaws.{some_ahead_mark}
use Rattle.c_parser.proofs.Made.{read_on}
use Rattle.c_parser.proofs.Stopping.{chosen, not_chosen, whole_barred, whole_entered, below_as, fit_beyond}
use Rattle.c_parser.proofs.Suffixes.{then_on, expect_on}
use Rattle.c_parser.proofs.Tokens.{fit_enough}

-- a declarator behind which only the place changed
pub declared_on : (names : Names) (x : Tree) (under : List Tree) (p q : Parser) (inner : Declarator) → Keeps p q → IsDeclared (after names) x under p inner → IsDeclared (after names) x under q inner
declared_on names x under p q inner kept h = record {
  read = read_on names x under inner.part p q kept h.read;
  said = record { itself_is = h.said.itself_is; parameters_are = parameters_on p q x x kept h.said.parameters_are refl };
}

-- ---- one suffix

module _ (d : ℕ) (r : Reader) (names : Names) (x : Tree) (ts : List Token) where
  bracket_shape : begins_with_mark LeftBracket ts ≡ true → declared_suffix_at d r names x ts ≡ fit (suc (height x)) d (behind_one ts) (array_of r names x (behind_one ts))
  unfolding declared_suffix_by
  bracket_shape e = ap (declared_suffix_by d r names x ts found) (some_ahead_mark LeftBracket ts e).1

  parenthesis_shape : begins_with_mark LeftParenthesis ts ≡ true → is_named (one x) ≡ true → declared_suffix_at d r names x ts ≡ fit (suc (height x)) d (behind_one ts) (takes_at d r names x (behind_one ts))
  unfolding declared_suffix_by
  parenthesis_shape e named = ap (declared_suffix_by d r names x ts found) (some_ahead_mark LeftParenthesis ts e).1 ∙ chosen (is_named (one x)) _ _ named

  module _ (named : Bool) (same : named ≡ is_named (one x)) (begins : begins_declared_suffix named ts ≡ true) where
    behind_parenthesis : begins_with_mark LeftBracket ts ≡ false → (begins_with_mark LeftParenthesis ts ≡ true) × (is_named (one x) ≡ true)
    behind_parenthesis other = by named (begins_with_mark LeftParenthesis ts) refl refl (sym (ap (λ b. b || (named && begins_with_mark LeftParenthesis ts)) other) ∙ begins)
      where
        by : (a b : Bool) → named ≡ a → begins_with_mark LeftParenthesis ts ≡ b → (named && begins_with_mark LeftParenthesis ts) ≡ true → (begins_with_mark LeftParenthesis ts ≡ true) × (is_named (one x) ≡ true)
        by true true n e h = (e, sym same ∙ n)
        by true false n e h = absurd (true≢false (sym h ∙ ap₂ (λ a b. a && b) n e))
        by false b n e h = absurd (true≢false (sym h ∙ ap (λ a. a && begins_with_mark LeftParenthesis ts) n))

    module _ (high : ℕ) (e : high ≡ height x) where
      pub declared_suffix_deep : (left : List Token) (s : Stop) → (s ≡ Deep) × (d < suc high) → left ≡ behind_one ts → Stops (declared_suffix_at d r names x ts) left s
      declared_suffix_deep left s h m = by (begins_with_mark LeftBracket ts) refl
        where
          beyond : (s ≡ Deep) × (d < suc (height x))
          beyond = (h.0, let g = h.1 in omega (arith, g, e))

          by : (b : Bool) → begins_with_mark LeftBracket ts ≡ b → Stops (declared_suffix_at d r names x ts) left s
          by true c = whole_barred _ (height x) d 0 _ _ (bracket_shape c) left s beyond m
          by false c = let p = behind_parenthesis c in whole_barred _ (height x) d 0 _ _ (parenthesis_shape p.0 p.1) left s beyond m

      module _ (lower : ℕ) (below_is : IsBelow high d lower) (ts2 : List Token) (m : ts2 ≡ behind_one ts) where
        pub suffix_array : begins_with_mark LeftBracket ts ≡ true → declared_suffix_at d r names x ts ≡ array_of r names x ts2
        suffix_array c = whole_entered _ (height x) d lower _ _ (bracket_shape c) (below_as _ _ d lower e below_is) ∙ ap (array_of r names x) (sym m)

        pub suffix_takes : begins_with_mark LeftBracket ts ≡ false → declared_suffix_at d r names x ts ≡ takes_at d r names x ts2
        suffix_takes c = let p = behind_parenthesis c in
            whole_entered _ (height x) d lower _ _ (parenthesis_shape p.0 p.1) (below_as _ _ d lower e below_is) ∙ ap (takes_at d r names x) (sym m)

-- ---- an array

pub array_shape : (l : ℕ) (names names2 : Names) (x : Tree) (ts : List Token) → names2 ≡ after names x → after_any names x ≡ after names x
    → array_of (level l (below l)) names x ts
    ≡ and_then (length_in l (below l) names2 ts) (λ n behind. expect RightBracket behind (λ end. found (plain_node kind.ArrayOf (start x) (x then n)) end))
unfolding level rows_in
array_shape l names names2 x ts n silent =
    ap (λ (m : Names). and_then (length_in l (below l) m ts) (λ n behind. expect RightBracket behind (λ end. found (plain_node kind.ArrayOf (start x) (x then n)) end))) (silent ∙ sym n)

-- ---- parameters

module _ (d : ℕ) (r : Reader) (names : Names) (x : Tree) (ts : List Token) where
  pub takes_no_parameters : begins_with_mark RightParenthesis ts ≡ true → takes_at d r names x ts ≡ nothing_at names x ts
  unfolding takes_in
  takes_no_parameters e = chosen _ _ _ e

  module _ (unclosed : begins_with_mark RightParenthesis ts ≡ false) where
    pub takes_void_first : begins_with_word (codes "void") ts ≡ true → takes_at d r names x ts ≡ void_at d r names x ts
    unfolding takes_in
    takes_void_first e = not_chosen _ _ _ unclosed ∙ chosen _ _ _ e

    pub takes_others : begins_with_word (codes "void") ts ≡ false → takes_at d r names x ts ≡ parameters_at d r names x ts
    unfolding takes_in
    takes_others e = not_chosen _ _ _ unclosed ∙ not_chosen _ _ _ e

  -- behind `void`
  module _ (mid : List Token) (m : mid ≡ behind_one ts) where
    pub void_alone : begins_with_mark RightParenthesis mid ≡ true → void_at d r names x ts ≡ nothing_at names x mid
    unfolding void_in
    void_alone e = chosen _ _ _ (ap (begins_with_mark RightParenthesis) (sym m) ∙ e) ∙ ap (nothing_at names x) (sym m)

    module _ (unclosed : begins_with_mark RightParenthesis mid ≡ false) where
      pub void_wrong : goes_on_behind_void mid ≡ false → void_at d r names x ts ≡ wrong mid
      unfolding void_in
      void_wrong e = not_chosen _ _ _ (ap (begins_with_mark RightParenthesis) (sym m) ∙ unclosed) ∙ not_chosen _ _ _ (ap goes_on_behind_void (sym m) ∙ e) ∙ ap wrong (sym m)

      void_more : goes_on_behind_void mid ≡ true → void_at d r names x ts ≡ fit 4 d (behind_one mid) (parameters_at d r names x ts)
      unfolding void_in
      void_more e = not_chosen _ _ _ (ap (begins_with_mark RightParenthesis) (sym m) ∙ unclosed) ∙ chosen _ _ _ (ap goes_on_behind_void (sym m) ∙ e)
          ∙ ap (λ us. fit 4 d (behind_one us) (parameters_at d r names x ts)) (sym m)

      pub void_deep : goes_on_behind_void mid ≡ true → d < 4 → (left : List Token) → left ≡ behind_one mid → void_at d r names x ts ≡ deep left
      void_deep e beyond left l = void_more e ∙ fit_beyond 4 d (behind_one mid) _ beyond ∙ ap deep (sym l)

      pub void_goes_on : goes_on_behind_void mid ≡ true → 4 ≤ d → void_at d r names x ts ≡ parameters_at d r names x ts
      void_goes_on e enough = void_more e ∙ fit_enough 4 d (behind_one mid) _ enough

-- parameters within the next lower budget, up to their closing parenthesis
pub scoped_shape : (d next : ℕ) (names names2 : Names) (x : Tree) (ts : List Token) → below d ≡ level next (below next) → names2 ≡ after names x
    → parameters_at d (below d) names x ts ≡ and_then (scoped_at next (below next) names2 ts) (λ xs end. found (plain_node kind.Takes (start x) (x then xs)) end)
unfolding parameters_in level and_then
scoped_shape d next names names2 x ts l n =
    ap₂ (λ (r : Reader) (m : Names). and_then (r.trees_of Rows.parameters (opened m) ts) (λ ts behind. expect RightParenthesis behind (λ end. found (plain_node kind.Takes (start x) (x then ts)) end))) l (sym n)
    ∙ sym (then_on (rows_in next (below next) Rows.parameters (opened names2) ts) _ (λ xs end. found (plain_node kind.Takes (start x) (x then xs)) end) _ (λ xs behind.
    expect_on RightParenthesis behind (λ end. found xs end) (λ xs end. found (plain_node kind.Takes (start x) (x then xs)) end) (λ end. found (plain_node kind.Takes (start x) (x then xs)) end) (λ end. refl)))

-- [ cond ]
pub no_length : (d : ℕ) (r : Reader) (names : Names) (ts : List Token) → begins_with_mark RightBracket ts ≡ true → length_in d r names ts ≡ found none ts
unfolding length_in
no_length d r names ts e = chosen _ _ _ e

pub some_length : (d : ℕ) (r : Reader) (names : Names) (ts : List Token) → begins_with_mark RightBracket ts ≡ false
    → length_in d r names ts ≡ and_then (conditional_in d r names ts) (λ x end. found (one x) end)
unfolding length_in
some_length d r names ts e = not_chosen _ _ _ e
