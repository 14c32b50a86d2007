-- The readings of rows keep their answers, where those within the next lower budget do.
use Rattle.std.proofs.Common.{◌≡◌, ℕ, zero, suc, ◌<◌, ◌≤◌, Bool, true, false, List, [], ◌∷◌, length, if◌then◌else◌, refl, ap, arith, codes}
use Rattle.c_lexer.specs.declared.token.Punct.TheVariants.{RightBracket, RightParenthesis, RightBrace, Comma}
use Rattle.c_lexer.specs.declared.token.Token.{Token}
use Rattle.c_syntax.specs.Trees.{Tree, Forest, none, ◌then◌, one}
use Rattle.c_grammar.specs.Vocabulary.{Place, word}
use Rattle.c_grammar.specs.Scopes.{Names, add, after, after_parameter, entries_behind}
use Rattle.c_grammar.specs.Derivation as rule
use Rattle.c_grammar.specs.Derivation.{Standing}
use Rattle.c_grammar.specs.Answers.{Answer, found, and_then}
use Rattle.c_grammar.specs.Reading.{Reader, Rows, Mode, begins_specifier, begins_with_mark, behind_one, assignment_in, declared_in, parameter_in, member_in, enumerator_in, initializer_in, init_declarator_in, declaration_in, external_in, statement_in, label_in, listed, members_in, items_in, begins_label, ends_groups, standing_behind, group_item_in, groups_in, externals_by, externals_in, arguments_in, length_in, declarators_behind, rows_in}
use Rattle.c_grammar.proofs.SoundSteps.{mark_split, said}
use Rattle.c_grammar.proofs.SoundExpressions.{IsSound}
use Rattle.c_grammar.proofs.SoundDeclarators.{member_sound}
use Rattle.c_grammar.proofs.SoundStatements.{declaration_sound, external_sound, statement_sound, label_sound}
use Rattle.c_grammar.proofs.Found.Lengths.{declaration_length, external_length, statement_length, label_length}
use Rattle.c_grammar.proofs.KeptSteps.{Keeps, keeps_as, keeps_same, keeps_less, keeps_then, keeps_here, keeps_token, keeps_at_end, keeps_if_first, keeps_behind}
use Rattle.c_grammar.proofs.KeptFirst.{keeps_if_specifier, keeps_if_mark, label_first_decides, groups_end_by_first, standing_first}
use Rattle.c_grammar.proofs.KeptExpressions.{IsKept, conditional_kept, assignment_kept}
use Rattle.c_grammar.proofs.KeptCounters.{behind_length, then_same, member_length}
use Rattle.c_grammar.proofs.KeptTypes.{specifier_list_kept}
use Rattle.c_grammar.proofs.KeptDeclarators.{declared_kept, parameter_kept, parameter_void_kept, member_kept, enumerator_kept}
use Rattle.c_grammar.proofs.KeptDeclarations.{named_ready, initializer_kept, init_declarator_kept, init_behind_kept, declaration_kept, external_kept}
use Rattle.c_grammar.proofs.KeptStatements.{statement_kept, label_kept}
use Rattle.c_grammar.proofs.KeptListed.{listed_counted, listed_kept, listed_on_kept, listed_is, listed_in_braces_kept}

module _ (d : ℕ) (r : Reader) (sound : IsSound d r) (kept : IsKept d r) where
  -- ---- members

  member_shorter : (names : Names) (ts b : List Token) (t : Tree) → member_in d r names ts ≡ found t b → length b < length ts
  member_shorter names ts b t e = let g = said t b (member_sound d r sound names ts) e in member_length g.holds

  members_counted : (k n : ℕ) (names : Names) (ts : List Token) → length ts < k → length ts < n → members_in d r k names ts ≡ members_in d r n names ts
  unfolding members_in
  members_counted zero n names ts lt ln = absurd (omega (arith, lt))
  members_counted (suc k) zero names ts lt ln = absurd (omega (arith, ln))
  members_counted (suc k) (suc n) names ts lt ln = then_same (member_in d r names ts) (λ t b e.
      ap (λ x. if begins_specifier false (after names t) b then and_then x (λ more end. found (t then more) end) else found (one t) b)
      (members_counted k n (after names t) b (omega (arith, lt, member_shorter names ts b t e)) (omega (arith, ln, member_shorter names ts b t e))))

  members_step : Names → List Token → Answer Forest
  members_step names ts = and_then (member_in d r names ts) (λ t rest.
      if begins_specifier false (after names t) rest then
      and_then (members_in d r (suc (length rest)) (after names t) rest) (λ more end. found (t then more) end)
      else found (one t) rest)

  members_are : (names : Names) (ts : List Token) → members_in d r (suc (length ts)) names ts ≡ members_step names ts
  unfolding members_in members_step
  members_are names ts = then_same (member_in d r names ts) (λ t b e.
      ap (λ x. if begins_specifier false (after names t) b then and_then x (λ more end. found (t then more) end) else found (one t) b)
      (members_counted (length ts) (suc (length b)) (after names t) b (member_shorter names ts b t e) (omega arith)))

  members_kept : (n : ℕ) (names : Names) (ts : List Token) → length ts < n → Keeps 1 (λ c. members_in d r (suc (length c)) names c) ts
  unfolding members_step
  members_kept zero names ts lt = absurd (omega (arith, lt))
  members_kept (suc n) names ts lt = keeps_same (members_are names) (keeps_then (member_kept d r sound kept names ts) (λ t b e.
      keeps_if_specifier false (after names t) b
      (λ _. keeps_then (members_kept n (after names t) b (omega (arith, lt, member_shorter names ts b t e))) (λ more end _. keeps_here))
      (λ _. keeps_here)))

  -- ---- what a block has

  item_in : Names → List Token → Answer Tree
  item_in names ts = if begins_specifier false names ts then declaration_in d r names ts else statement_in d r names ts

  item_kept : (names : Names) (ts : List Token) → Keeps 1 (item_in names) ts
  unfolding item_in
  item_kept names ts = keeps_if_specifier false names ts (λ _. declaration_kept d r sound kept names ts) (λ _. statement_kept d r sound kept names ts)

  item_shorter : (names : Names) (ts b : List Token) (t : Tree) → item_in names ts ≡ found t b → length b < length ts
  unfolding item_in
  item_shorter names ts b t = by (begins_specifier false names ts)
    where
      by : (v : Bool) → (if v then declaration_in d r names ts else statement_in d r names ts) ≡ found t b → length b < length ts
      by true e = let g = said t b (declaration_sound d r sound names ts) e in declaration_length g.holds
      by false e = let g = said t b (statement_sound d r sound names ts) e in statement_length g.holds

  items_counted : (k n : ℕ) (names : Names) (ts : List Token) → length ts < k → length ts < n → items_in d r k names ts ≡ items_in d r n names ts
  unfolding items_in item_in
  items_counted zero n names ts lt ln = absurd (omega (arith, lt))
  items_counted (suc k) zero names ts lt ln = absurd (omega (arith, ln))
  items_counted (suc k) (suc n) names ts lt ln = ap (λ x. if begins_with_mark RightBrace ts then found none ts else x) (then_same (item_in names ts) (λ t b e.
      ap (λ x. and_then x (λ more end. found (t then more) end))
      (items_counted k n (after names t) b (omega (arith, lt, item_shorter names ts b t e)) (omega (arith, ln, item_shorter names ts b t e)))))

  items_step : Names → List Token → Answer Forest
  items_step names ts = if begins_with_mark RightBrace ts then found none ts
      else and_then (item_in names ts) (λ t rest.
      and_then (items_in d r (suc (length rest)) (after names t) rest) (λ more end. found (t then more) end))

  items_are : (names : Names) (ts : List Token) → items_in d r (suc (length ts)) names ts ≡ items_step names ts
  unfolding items_in items_step item_in
  items_are names ts = ap (λ x. if begins_with_mark RightBrace ts then found none ts else x) (then_same (item_in names ts) (λ t b e.
      ap (λ x. and_then x (λ more end. found (t then more) end))
      (items_counted (length ts) (suc (length b)) (after names t) b (item_shorter names ts b t e) (omega arith))))

  items_kept : (n : ℕ) (names : Names) (ts : List Token) → length ts < n → Keeps 1 (λ c. items_in d r (suc (length c)) names c) ts
  unfolding items_step
  items_kept zero names ts lt = absurd (omega (arith, lt))
  items_kept (suc n) names ts lt = keeps_same (items_are names) (keeps_if_mark RightBrace ts
      (λ _. keeps_here)
      (λ _. keeps_then (item_kept names ts) (λ t b e.
      keeps_then (items_kept n (after names t) b (omega (arith, lt, item_shorter names ts b t e))) (λ more end _. keeps_here))))

  -- ---- the groups of a `switch`

  group_item_kept : (names : Names) (ts : List Token) → Keeps 1 (group_item_in d r names) ts
  unfolding group_item_in
  group_item_kept names ts = keeps_if_first begins_label label_first_decides (λ _. label_kept d r sound kept names ts) (λ _. statement_kept d r sound kept names ts)

  group_item_shorter : (names : Names) (ts b : List Token) (t : Tree) → group_item_in d r names ts ≡ found t b → length b < length ts
  unfolding group_item_in
  group_item_shorter names ts b t = by (begins_label ts)
    where
      by : (v : Bool) → (if v then label_in d r names ts else statement_in d r names ts) ≡ found t b → length b < length ts
      by true e = let g = said t b (label_sound d r sound names ts) e in label_length g.holds
      by false e = let g = said t b (statement_sound d r sound names ts) e in statement_length g.holds

  groups_counted : (k n : ℕ) (standing : Standing) (names : Names) (ts : List Token) → length ts < k → length ts < n
      → groups_in d r k standing names ts ≡ groups_in d r n standing names ts
  unfolding groups_in
  groups_counted zero n standing names ts lt ln = absurd (omega (arith, lt))
  groups_counted (suc k) zero standing names ts lt ln = absurd (omega (arith, ln))
  groups_counted (suc k) (suc n) standing names ts lt ln = ap (λ x. if ends_groups standing ts then found none ts else x) (then_same (group_item_in d r names ts) (λ t b e.
      ap (λ x. and_then x (λ more end. found (t then more) end))
      (groups_counted k n (standing_behind ts) (after names t) b (omega (arith, lt, group_item_shorter names ts b t e)) (omega (arith, ln, group_item_shorter names ts b t e)))))

  groups_step : Standing → Names → List Token → Answer Forest
  groups_step standing names ts = if ends_groups standing ts then found none ts
      else and_then (group_item_in d r names ts) (λ t rest.
      and_then (groups_in d r (suc (length rest)) (standing_behind ts) (after names t) rest) (λ more end. found (t then more) end))

  groups_are : (standing : Standing) (names : Names) (ts : List Token) → groups_in d r (suc (length ts)) standing names ts ≡ groups_step standing names ts
  unfolding groups_in groups_step
  groups_are standing names ts = ap (λ x. if ends_groups standing ts then found none ts else x) (then_same (group_item_in d r names ts) (λ t b e.
      ap (λ x. and_then x (λ more end. found (t then more) end))
      (groups_counted (length ts) (suc (length b)) (standing_behind ts) (after names t) b (group_item_shorter names ts b t e) (omega arith))))

  -- the place behind an item depends on its first token
  groups_kept : (n : ℕ) (standing : Standing) (names : Names) (ts : List Token) → length ts < n → Keeps 1 (λ c. groups_in d r (suc (length c)) standing names c) ts
  unfolding groups_step
  groups_kept zero standing names ts lt = absurd (omega (arith, lt))
  groups_kept (suc n) standing names ts lt = keeps_same (groups_are standing names) (keeps_if_first (ends_groups standing) (groups_end_by_first standing)
      (λ _. keeps_here)
      (λ _. keeps_as
      (λ a h. ap (λ (next : Standing). and_then (group_item_in d r names a) (λ t rest.
      and_then (groups_in d r (suc (length rest)) next (after names t) rest) (λ more end. found (t then more) end))) (standing_first a ts h))
      (keeps_then (group_item_kept names ts) (λ t b e.
      keeps_then (groups_kept n (standing_behind ts) (after names t) b (omega (arith, lt, group_item_shorter names ts b t e))) (λ more end _. keeps_here)))))

  -- ---- externals

  external_shorter : (names : Names) (ts b : List Token) (t : Tree) → external_in d r names ts ≡ found t b → length b < length ts
  external_shorter names ts b t e = let g = said t b (external_sound d r sound names ts) e in external_length g.holds

  externals_counted : (k n : ℕ) (names : Names) (ts : List Token) → length ts < k → length ts < n → externals_in d r k names ts ≡ externals_in d r n names ts
  unfolding externals_in
  externals_counted zero n names ts lt ln = absurd (omega (arith, lt))
  externals_counted (suc k) zero names ts lt ln = absurd (omega (arith, ln))
  externals_counted (suc k) (suc n) names ts lt ln = then_same (external_in d r names ts) (λ t b e.
      ap (λ x. externals_by d r t b x)
      (externals_counted k n (after names t) b (omega (arith, lt, external_shorter names ts b t e)) (omega (arith, ln, external_shorter names ts b t e))))

  externals_step : Names → List Token → Answer Forest
  externals_step names ts = and_then (external_in d r names ts) (λ t rest. externals_by d r t rest (externals_in d r (suc (length rest)) (after names t) rest))

  externals_are : (names : Names) (ts : List Token) → externals_in d r (suc (length ts)) names ts ≡ externals_step names ts
  unfolding externals_in externals_step
  externals_are names ts = then_same (external_in d r names ts) (λ t b e.
      ap (λ x. externals_by d r t b x)
      (externals_counted (length ts) (suc (length b)) (after names t) b (external_shorter names ts b t e) (omega arith)))

  more_kept : (t : Tree) {G : List Token → Answer Forest} (ts : List Token) → Keeps 1 G ts → Keeps 1 (λ c. externals_by d r t c (G c)) ts
  unfolding externals_by
  more_kept t [] k = keeps_at_end (one t) refl
  more_kept t {G = G} (u ∷ rest) k = keeps_token joined (λ c. refl)
    where
      joined : Keeps 1 (λ c. and_then (G c) (λ more end. found (t then more) end)) (u ∷ rest)
      joined = keeps_then k (λ more end _. keeps_here)

  externals_kept : (n : ℕ) (names : Names) (ts : List Token) → length ts < n → Keeps 1 (λ c. externals_in d r (suc (length c)) names c) ts
  unfolding externals_step
  externals_kept zero names ts lt = absurd (omega (arith, lt))
  externals_kept (suc n) names ts lt = keeps_same (externals_are names) (keeps_then (external_kept d r sound kept names ts) (λ t b e.
      more_kept t b (externals_kept n (after names t) b (omega (arith, lt, external_shorter names ts b t e)))))

  -- ---- the others

  -- the names behind one of some initialized declarators
  abbrev declares : Bool → Names → Tree → Names
  declares is_typedef ns t = add ns (entries_behind is_typedef (one t))

  declarators_behind_kept : (is_typedef : Bool) (x : Tree) (names : Names) (ts : List Token) → Keeps 1 (declarators_behind d r is_typedef x names) ts
  unfolding declarators_behind
  declarators_behind_kept is_typedef x names ts = keeps_then (init_behind_kept d r sound kept is_typedef x names ts) (λ t b _.
      keeps_if_mark Comma b
      (λ c. keeps_then (keeps_same (counted t) (
      keeps_behind {G = λ a. listed d r (init_declarator_in d r is_typedef) (declares is_typedef) (suc (length a)) (declares is_typedef names t) a} (mark_split Comma b c).1 (keeps_less (
      listed_kept d r (init_declarator_in d r is_typedef) (init_declarator_kept d r sound kept is_typedef) (declares is_typedef) (declares is_typedef names t) (behind_one b)))))
      (λ more end _. keeps_here))
      (λ _. keeps_here))
    where
      counted : (t : Tree) (a : List Token)
          → listed d r (init_declarator_in d r is_typedef) (declares is_typedef) (suc (length a)) (declares is_typedef names t) (behind_one a)
          ≡ listed d r (init_declarator_in d r is_typedef) (declares is_typedef) (suc (length (behind_one a))) (declares is_typedef names t) (behind_one a)
      counted t a = listed_counted d r (init_declarator_in d r is_typedef) (init_declarator_kept d r sound kept is_typedef) (declares is_typedef)
          (suc (length a)) (suc (length (behind_one a))) (declares is_typedef names t) (behind_one a) (omega (arith, behind_length a)) (omega arith)

  arguments_kept : (names : Names) (ts : List Token) → Keeps 1 (arguments_in d r names) ts
  unfolding arguments_in
  arguments_kept names ts = keeps_if_mark RightParenthesis ts
      (λ _. keeps_here)
      (λ _. listed_kept d r (assignment_in d r) (assignment_kept d r kept) after names ts)

  length_kept : (names : Names) (ts : List Token) → Keeps 1 (length_in d r names) ts
  unfolding length_in
  length_kept names ts = keeps_if_mark RightBracket ts
      (λ _. keeps_here)
      (λ _. keeps_then (conditional_kept d r kept names ts) (λ x end _. keeps_here))

  pub parameters_row_void_kept : (names : Names) (at : Place) (ts : List Token) → 3 ≤ d
      → Keeps 1 (λ c. listed d r (parameter_in d r) after_parameter (suc (length (word (codes "void") at ∷ c))) names (word (codes "void") at ∷ c)) ts
  parameters_row_void_kept names at ts le = keeps_same
      (λ c. listed_is d r (parameter_in d r) (parameter_kept d r sound kept) after_parameter names (word (codes "void") at ∷ c))
      (keeps_then (parameter_void_kept d r sound kept names at ts le) (λ t b _. listed_on_kept d r (parameter_in d r) (parameter_kept d r sound kept) after_parameter names t b))

  pub rows_kept : (row : Rows) (names : Names) (ts : List Token) → Keeps 1 (rows_in d r row names) ts
  unfolding rows_in
  rows_kept Rows.externals names ts = externals_kept (suc (length ts)) names ts (omega arith)
  rows_kept (Rows.init_declarators is_typedef) names ts = listed_kept d r (init_declarator_in d r is_typedef) (init_declarator_kept d r sound kept is_typedef) (declares is_typedef) names ts
  rows_kept (Rows.init_declarators_behind is_typedef x) names ts = declarators_behind_kept is_typedef x names ts
  rows_kept Rows.initializers names ts = listed_in_braces_kept d r (initializer_in d r) (initializer_kept d r sound kept) names ts
  rows_kept (Rows.specifier_list typed) names ts = specifier_list_kept d r sound kept typed names ts
  rows_kept Rows.members names ts = members_kept (suc (length ts)) names ts (omega arith)
  rows_kept Rows.declarators names ts = listed_kept d r (declared_in d r Mode.named) (declared_kept d r sound kept Mode.named (named_ready d)) after names ts
  rows_kept Rows.enumerators names ts = listed_in_braces_kept d r (enumerator_in d r) (enumerator_kept d r sound kept) names ts
  rows_kept Rows.parameters names ts = listed_kept d r (parameter_in d r) (parameter_kept d r sound kept) after_parameter names ts
  rows_kept Rows.block_items names ts = items_kept (suc (length ts)) names ts (omega arith)
  rows_kept Rows.groups names ts = groups_kept (suc (length ts)) rule.at_first names ts (omega arith)
  rows_kept Rows.arguments names ts = arguments_kept names ts
  rows_kept Rows.optional_length names ts = length_kept names ts
