-- The readings of declarators, parameters, type names, members and enumerators keep their answers, where those within the next lower budget do.
use Rattle.std.proofs.Common.{◌≡◌, ℕ, zero, suc, ◌+◌, ◌<◌, ◌≤◌, ◌⊎◌, inl, inr, Bool, true, false, ◌&&◌, List, [], ◌∷◌, ◌++◌, if◌then◌else◌, refl, sym, ap, ◌∙◌, subst, arith, codes, bytes_eq, true≢false}
use Rattle.c_lexer.specs.declared.token.Punct.TheVariants.{LeftBracket, RightBracket, LeftParenthesis, RightParenthesis, Star, Semicolon, Equal}
use Rattle.c_lexer.specs.declared.token.Token.{Token}
use Rattle.c_lexer.specs.declared.token.TokenKind.{TokenKind}
use Rattle.c_lexer.specs.declared.token.TokenKind.TheVariants as token
use Rattle.c_syntax.specs.declared.kind.SynKind.TheVariants as kind
use Rattle.c_syntax.specs.Trees.{Tree, none, ◌then◌, one, plain_node, height}
use Rattle.c_grammar.specs.Vocabulary.{Place, mark, word, integer, character, string, is_identifier}
use Rattle.c_grammar.specs.Scopes.{Names, after}
use Rattle.c_grammar.specs.Derivation as rule
use Rattle.c_grammar.specs.Derivation.{Derives, start, no_name}
use Rattle.c_grammar.specs.Answers.{Answer, found, fit, Ahead, ahead, ahead_by}
use Rattle.c_grammar.specs.Fronts.{first}
use Rattle.c_grammar.specs.Reading.{Reader, Goal, Rows, Mode, has_name, needs_name, behind_one, behind_const, behind_const_by, goes_on_behind_void, goes_on_behind_void_by, is_absent_by, is_named, if_any, specs_first, parameters_in, void_in, takes_in, declared_suffix_by, declared_suffixes, undeclared_in, declared_by, declared_in, parameter_in, type_name_in, member_in, value_by, enumerator_by, enumerator_in}
use Rattle.c_grammar.proofs.Budgets.{order, beyond, within}
use Rattle.c_grammar.proofs.SoundSteps.{IsAhead, is_nothing, is_mark, is_word, ahead_is, mark_split, word_split, said}
use Rattle.c_grammar.proofs.SoundShapes.{some_specs}
use Rattle.c_grammar.proofs.SoundExpressions.{IsSound}
use Rattle.c_grammar.proofs.SoundTypes.{specs_sound}
use Rattle.c_grammar.proofs.FrontSteps.{same_start}
use Rattle.c_grammar.proofs.KeptSteps.{Keeps, keeps_deep, keeps_same, keeps_as, keeps_less, keeps_then, keeps_fit, keeps_here, keeps_refused, keeps_token, keeps_end, keeps_no_token, keeps_at_end, all_found, all_wrong, inside, keeps_at, behind_it, behind_if, keeps_if, keeps_if_first, keeps_behind, keeps_skip}
use Rattle.c_grammar.proofs.KeptFirst.{keeps_if_mark, keeps_if_word, keeps_expect, goes_on_first}
use Rattle.c_grammar.proofs.KeptExpressions.{IsKept, least_of}
use Rattle.c_grammar.proofs.KeptTypes.{specs_void_kept, specs_kept}

-- ---- the words `const` that are left out

abbrev Skipped : List Token → Type 0
Skipped ts = (q : List Token) × (ts ≡ q ++ behind_const ts) × ((c : List Token) → first c ≡ first (behind_const ts) → behind_const (q ++ c) ≡ c)

-- this token is left
stays : (t : Token) (rest : List Token) → ((c : List Token) → behind_const (t ∷ c) ≡ t ∷ c) → Skipped (t ∷ rest)
stays t rest here = ([], sym (here rest), λ c h. by c (h ∙ ap first (here rest)))
  where
    by : (c : List Token) → first c ≡ first (t ∷ rest) → behind_const c ≡ c
    by [] e = absurd (cc e)
    by (u ∷ c) e = let same : u ≡ t = cc e in subst (λ v. behind_const (v ∷ c) ≡ v ∷ c) (sym same) (here c)

-- this token is left out
goes : (t : Token) (rest : List Token) → ((c : List Token) → behind_const (t ∷ c) ≡ behind_const c) → Skipped rest → Skipped (t ∷ rest)
goes t rest out n = (
  t ∷ n.0,
  ap (λ a. t ∷ a) n.1 ∙ ap (λ a. t ∷ (n.0 ++ a)) (sym (out rest)),
  λ c h. out (n.0 ++ c) ∙ n.2 c (h ∙ ap first (out rest)),
)

skipped_by : (k : TokenKind) (at : Place) (rest : List Token) → Skipped rest → Skipped (record { kind = k; start = at.start; end = at.end } ∷ rest)
unfolding behind_const behind_const_by
skipped_by (token.Word text) at rest next = by (bytes_eq text (codes "const")) refl
  where
    by : (b : Bool) → bytes_eq text (codes "const") ≡ b → Skipped (word text at ∷ rest)
    by true e = goes (word text at) rest (λ c. ap (λ x. if x then behind_const c else word text at ∷ c) e) next
    by false e = stays (word text at) rest (λ c. ap (λ x. if x then behind_const c else word text at ∷ c) e)
skipped_by (token.Punct p) at rest next = stays (mark p at) rest (λ c. refl)
skipped_by (token.Int value type) at rest next = stays (integer value type at) rest (λ c. refl)
skipped_by (token.Char value) at rest next = stays (character value at) rest (λ c. refl)
skipped_by (token.Str bytes) at rest next = stays (string bytes at) rest (λ c. refl)

skipped : (ts : List Token) → Skipped ts
unfolding behind_const
skipped [] = ([], refl, by)
  where
    by : (c : List Token) → first c ≡ first [] → behind_const c ≡ c
    by [] e = refl
    by (u ∷ c) e = absurd (cc e)
skipped (t ∷ rest) = skipped_by t.kind (record { start = t.start; end = t.end }) rest (skipped rest)

-- ---- what may be absent

declared_least : (mode : Mode) (d : ℕ) → 2 ≤ d → least_of (Goal.declared mode) ≤ d
unfolding needs_name
declared_least Mode.named d le = omega arith
declared_least Mode.unnamed d le = le
declared_least Mode.either d le = le

pub keeps_any : {T : Type 0} {n : ℕ} (d : ℕ) {G : List Token → Answer T} {ts : List Token} → 1 ≤ d → Keeps n G ts → Keeps n (λ c. if_any d c (G c)) ts
unfolding if_any
keeps_any zero le k = absurd (omega (arith, le))
keeps_any (suc d) le k = k

specs_height : {names : Names} {a b : List Token} {s : Tree} → Derives names rule.specifiers a b s → 2 ≤ height s
specs_height (rule.specs l) = omega (arith, some_specs l)

-- a token that goes on behind `void`
goes_on_split : (ts : List Token) → goes_on_behind_void ts ≡ true → (t : Token) × (ts ≡ t ∷ behind_one ts)
unfolding ahead goes_on_behind_void_by
goes_on_split [] e = absurd (true≢false (sym e))
goes_on_split (t ∷ rest) e = (t, refl)

-- ---- within the budget d

module _ (d : ℕ) (r : Reader) (sound : IsSound d r) (kept : IsKept d r) where
  -- a list of parameters, or `void`, behind a declarator's parenthesis
  module _ (names : Names) (x : Tree) (go : Tree → List Token → Answer Tree) (next : (y : Tree) (b : List Token) → height x < height y → Keeps 1 (go y) b) where
    parameters_kept : (rest : List Token) → Keeps 1 (λ c. parameters_in d r names x c go) rest
    unfolding parameters_in
    parameters_kept rest = keeps_then (kept.trees Rows.parameters _ _) (λ ps behind _.
        keeps_expect RightParenthesis behind (λ end. keeps_less (next _ end (omega arith))))

    parameters_void_kept : (at : Place) (ts : List Token) → 4 ≤ d → Keeps 1 (λ c. parameters_in d r names x (word (codes "void") at ∷ c) go) ts
    unfolding parameters_in
    parameters_void_kept at ts le = keeps_then (kept.void_parameters _ at ts le) (λ ps behind _.
        keeps_expect RightParenthesis behind (λ end. keeps_less (next _ end (omega arith))))

    goes_on_kept : (at : Place) (ts : List Token) → goes_on_behind_void ts ≡ true → (4 ≤ d) ⊎ (d < 4)
        → Keeps 1 (λ c. fit 4 d (behind_one c) (parameters_in d r names x (word (codes "void") at ∷ c) go)) ts
    goes_on_kept at ts e (inl le) = keeps_same (λ c. within 4 d (behind_one c) _ le) (parameters_void_kept at ts le)
    goes_on_kept at ts e (inr lt) = let s = goes_on_split ts e in
        keeps_deep (s.0 ∷ []) (behind_one ts) s.1 (λ _. omega arith) (λ c. beyond 4 d c _ lt)

    void_kept : (at : Place) (ts : List Token) → Keeps 1 (λ c. void_in d r names x c (behind_one c) go) (word (codes "void") at ∷ ts)
    unfolding void_in
    void_kept at ts = keeps_at (inside (keeps_less (keeps_if_mark RightParenthesis ts
        (λ e. keeps_behind (mark_split RightParenthesis ts e).1 (keeps_less (next _ _ (omega arith))))
        (λ _. keeps_if_first goes_on_behind_void goes_on_first
        (λ e. goes_on_kept at ts e (order 4 d))
        (λ _. keeps_refused)))))

    takes_kept : (rest : List Token) → Keeps 1 (λ c. takes_in d r names x c go) rest
    unfolding takes_in
    takes_kept rest = keeps_if_mark RightParenthesis rest
        (λ e. keeps_behind (mark_split RightParenthesis rest e).1 (keeps_less (next _ _ (omega arith))))
        (λ _. keeps_if_word (codes "void") rest
        (λ e. let w = word_split (codes "void") rest e in subst (λ ts. Keeps 1 (λ c. void_in d r names x c (behind_one c) go) ts) (sym w.1) (void_kept w.0 (behind_one rest)))
        (λ _. parameters_kept rest))

  declared_suffix_kept : (names : Names) (x : Tree) {go : Tree → List Token → Answer Tree} {ts : List Token} {h : Ahead}
      → ((y : Tree) (b : List Token) → height x < height y → suc (height x) ≤ d → Keeps 1 (go y) b)
      → IsAhead ts h
      → Keeps 1 (λ c. declared_suffix_by d r names x c go (ahead c)) ts
  unfolding declared_suffix_by ahead ahead_by
  declared_suffix_kept names x next is_nothing = keeps_at_end x refl
  declared_suffix_kept names x next (is_mark {p = LeftBracket}) = keeps_at (inside (keeps_fit _ _ (λ le. keeps_less (
      keeps_then (kept.trees Rows.optional_length _ _) (λ n behind _.
      keeps_expect RightBracket behind (λ end. keeps_less (next _ end (omega arith) le)))))))
  declared_suffix_kept names x {go = go} next (is_mark {p = LeftParenthesis} {rest = rest}) = keeps_at (behind_if (is_named (one x))
      (λ e. inside (keeps_fit _ _ (λ le. keeps_less (takes_kept names x go (λ y b lt. next y b lt le) rest))))
      (λ e. all_found x (λ c. refl)))
  declared_suffix_kept names x next _ = keeps_at (all_found x (λ c. refl))

  declared_suffixes_kept : (k : ℕ) (names : Names) (x : Tree) (ts : List Token) → d ≤ k + height x → Keeps 1 (declared_suffixes d r k names x) ts
  unfolding declared_suffixes
  declared_suffixes_kept zero names x ts far = declared_suffix_kept names x (λ y b lt le. absurd (omega (arith, far, le))) (ahead_is ts)
  declared_suffixes_kept (suc k) names x ts far = declared_suffix_kept names x (λ y b lt le. declared_suffixes_kept k names y b (omega (arith, far, lt))) (ahead_is ts)

  module _ (mode : Mode) (ready : needs_name mode ≡ false → 1 ≤ d) where
    undeclared_kept : (names : Names) (ts : List Token) → Keeps 1 (undeclared_in d r mode names) ts
    unfolding undeclared_in
    undeclared_kept names ts = keeps_if (needs_name mode)
        (λ _. keeps_refused)
        (λ e. keeps_any d (ready e) (keeps_as
        (λ a h. ap (λ n. declared_suffixes d r d names (plain_node kind.NoName n none) a) (same_start a ts h))
        (declared_suffixes_kept d names (no_name ts) ts (omega arith))))

    declared_kept_by : (names : Names) {ts : List Token} {h : Ahead} → IsAhead ts h → Keeps 1 (λ c. declared_by d r mode names c (ahead c)) ts
    unfolding declared_by ahead ahead_by
    declared_kept_by names is_nothing = keeps_end (undeclared_kept names []) refl
    declared_kept_by names (is_mark {p = Star} {rest = rest}) = let s = skipped rest in keeps_at (inside (keeps_fit _ _ (λ le. keeps_less (
        keeps_then (keeps_skip {G = r.tree_of (Goal.declared mode) names} {skip = behind_const} s.0 s.1 s.2 (kept.tree (Goal.declared mode) names (behind_const rest) (declared_least mode d le)))
        (λ x end _. keeps_here)))))
    declared_kept_by names (is_mark {p = LeftParenthesis}) = keeps_at (inside (keeps_fit _ _ (λ le. keeps_less (
        keeps_then (kept.tree (Goal.declared mode) _ _ (declared_least mode d le)) (λ x behind _.
        keeps_if (is_absent_by x.label.kind)
        (λ _. keeps_refused)
        (λ _. keeps_expect RightParenthesis behind (λ end. keeps_less (declared_suffixes_kept d names _ end (omega arith)))))))))
    declared_kept_by names (is_word {text = text}) = keeps_at (behind_if (is_identifier text && has_name mode)
        (λ e. inside (keeps_fit _ _ (λ le. keeps_less (declared_suffixes_kept d names _ _ (omega arith)))))
        (λ e. behind_it (undeclared_kept names _)))
    declared_kept_by names _ = keeps_token (undeclared_kept names _) (λ c. refl)

    pub declared_kept : (names : Names) (ts : List Token) → Keeps 1 (declared_in d r mode names) ts
    unfolding declared_in
    declared_kept names ts = declared_kept_by names (ahead_is ts)

  -- ---- what stands behind specs

  pub specs_fit : (names : Names) (ts b : List Token) (s : Tree) → specs_first d r names ts ≡ found s b → 3 ≤ d
  specs_fit names ts b s e = let g = said s b (specs_sound d r sound names ts) e in omega (arith, g.fits, specs_height g.holds)

  pub parameter_kept : (names : Names) (ts : List Token) → Keeps 1 (parameter_in d r names) ts
  unfolding parameter_in
  parameter_kept names ts = keeps_then (specs_kept d r sound kept names ts) (λ s b e.
      keeps_then (kept.tree (Goal.declared Mode.either) (after names s) b (declared_least Mode.either d (omega (arith, specs_fit names ts b s e)))) (λ x end _. keeps_here))

  pub parameter_void_kept : (names : Names) (at : Place) (ts : List Token) → 3 ≤ d → Keeps 1 (λ c. parameter_in d r names (word (codes "void") at ∷ c)) ts
  unfolding parameter_in
  parameter_void_kept names at ts le = keeps_then (specs_void_kept d r sound kept names at ts le) (λ s b e.
      keeps_then (kept.tree (Goal.declared Mode.either) (after names s) b (declared_least Mode.either d (omega (arith, le)))) (λ x end _. keeps_here))

  pub type_name_kept : (names : Names) (ts : List Token) → Keeps 1 (type_name_in d r names) ts
  unfolding type_name_in
  type_name_kept names ts = keeps_then (specs_kept d r sound kept names ts) (λ s b e.
      keeps_then (kept.tree (Goal.declared Mode.unnamed) (after names s) b (declared_least Mode.unnamed d (omega (arith, specs_fit names ts b s e)))) (λ x end _. keeps_here))

  pub member_kept : (names : Names) (ts : List Token) → Keeps 1 (member_in d r names) ts
  unfolding member_in
  member_kept names ts = keeps_then (specs_kept d r sound kept names ts) (λ s b _.
      keeps_then (kept.trees Rows.declarators (after names s) b) (λ xs behind _.
      keeps_expect Semicolon behind (λ end. keeps_here)))

  value_kept : (names : Names) (text : List ℕ) (at : Place) {ts : List Token} {h : Ahead} → IsAhead ts h → Keeps 1 (λ c. value_by d r names text at c (ahead c)) ts
  unfolding value_by ahead ahead_by
  value_kept names text at is_nothing = keeps_at_end _ refl
  value_kept names text at (is_mark {p = Equal}) = keeps_at (inside (keeps_fit _ _ (λ le. keeps_less (
      keeps_then (kept.tree Goal.conditional _ _ (omega arith)) (λ x end _. keeps_here)))))
  value_kept names text at _ = keeps_at (all_found _ (λ c. refl))

  enumerator_kept_by : (names : Names) {ts : List Token} {h : Ahead} → IsAhead ts h → Keeps 1 (λ c. enumerator_by d r names c (ahead c)) ts
  unfolding enumerator_by ahead ahead_by
  enumerator_kept_by names is_nothing = keeps_no_token refl
  enumerator_kept_by names (is_word {text = text} {at = at} {rest = rest}) = keeps_at (behind_if (is_identifier text)
      (λ e. inside (keeps_fit _ _ (λ le. keeps_less (value_kept names text at (ahead_is rest)))))
      (λ e. all_wrong (λ c. refl)))
  enumerator_kept_by names _ = keeps_at (all_wrong (λ c. refl))

  pub enumerator_kept : (names : Names) (ts : List Token) → Keeps 1 (enumerator_in d r names) ts
  unfolding enumerator_in
  enumerator_kept names ts = enumerator_kept_by names (ahead_is ts)
