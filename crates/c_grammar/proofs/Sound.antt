-- What is read within a budget is derived, and no higher than the budget.
use Rattle.std.proofs.Common.{◌≡◌, ℕ, zero, suc, ◌≤◌, Bool, true, false, List, [], ◌∷◌, length, not, if◌then◌else◌, refl, sym, ap, ◌∙◌, subst, arith}
use Rattle.c_lexer.specs.declared.token.Punct.TheVariants.{RightBracket, RightParenthesis, RightBrace, Comma}
use Rattle.c_lexer.specs.declared.token.Token.{Token}
use Rattle.c_syntax.specs.Trees.{Tree, Forest, ◌then◌, one, height, forest_height}
use Rattle.c_grammar.specs.Vocabulary.{Place, mark}
use Rattle.c_grammar.specs.Scopes.{Names, opened, add, after, after_parameter, entries_behind}
use Rattle.c_grammar.specs.Derivation as rule
use Rattle.c_grammar.specs.Derivation.{Derives, Lists, IsTreeOf, Standing, may_end, is_labelled}
use Rattle.c_grammar.specs.Answers.{Answer, found}
use Rattle.c_grammar.specs.Reading.{Reader, Goal, Rows, Mode, begins_specifier, begins_with_mark, behind_one, assignment_in, init_declarator_in, initializer_in, declared_in, enumerator_in, parameter_in, goal_in, rows_in, listed, listed_in_braces, members_in, items_in, begins_label, ends_groups, standing_behind, group_item_in, groups_in, externals_by, externals_in, arguments_in, length_in, declarators_behind, level, no_reader, read, read_unit}
use Rattle.c_grammar.specs.Meanings.{IsTree, AreTrees}
use Rattle.c_grammar.proofs.SoundSteps.{Says, says_found, says_wrong, says_deep, Is, Are, said, says_then, says_map, says_if, mark_split, before}
use Rattle.c_grammar.proofs.SoundExpressions.{IsSound, says_good, says_as, unary_sound, cast_sound, binary_sound, conditional_sound, assignment_sound, expression_sound}
use Rattle.c_grammar.proofs.SoundTypes.{specifier_sound, specifier_list_sound, specifiers_sound}
use Rattle.c_grammar.proofs.SoundDeclarators.{declarator_of, declared_sound, parameter_sound, type_name_sound, member_sound, enumerator_sound}
use Rattle.c_grammar.proofs.SoundStatements.{initializer_sound, init_declarator_sound, init_behind_sound, declaration_sound, external_sound, body_sound, optional_expression_sound, statement_sound, label_sound}

-- what goes before items of a block
abbrev IsItem : Names → List Token → List Token → Tree → Type 0
IsItem names a b t = (c : List Token) (us : Forest) → Lists (after names t) rule.block_items b c us → Lists names rule.block_items a c (t then us)

-- a label or a statement among the groups of a `switch`, at one place and before another
pub data IsGroupItem (standing : Standing) (names : Names) (a b : List Token) (t : Tree) : Standing → Type 0 where
  item_label : Derives names rule.switch_label a b t → IsGroupItem standing names a b t rule.behind_label
  item_statement : is_labelled standing ≡ true → Derives names rule.statement a b t → IsGroupItem standing names a b t rule.behind_statement

pub group_item_first : {standing next : Standing} {names : Names} {a b c : List Token} {t : Tree} {us : Forest}
    → IsGroupItem standing names a b t next
    → Lists (after names t) (rule.groups next) b c us
    → Lists names (rule.groups standing) a c (t then us)
group_item_first (item_label h) i = rule.label_first h i
group_item_first (item_statement e h) i = rule.labelled_statement e h i

ends_where : (standing : Standing) (ts : List Token) → ends_groups standing ts ≡ true → may_end standing ≡ true
ends_where rule.at_first ts e = refl
ends_where rule.behind_label ts e = e
ends_where rule.behind_statement ts e = refl

-- a statement stands behind a label
pub labelled_where : (standing : Standing) (ts : List Token) → ends_groups standing ts ≡ false → begins_label ts ≡ false → is_labelled standing ≡ true
labelled_where rule.at_first ts e f = sym e ∙ ap not f
labelled_where rule.behind_label ts e f = refl
labelled_where rule.behind_statement ts e f = refl

pub standing_at : (ts : List Token) (b : Bool) → begins_label ts ≡ b → standing_behind ts ≡ (if b then rule.behind_label else rule.behind_statement)
standing_at ts b e = ap (λ p. if p then rule.behind_label else rule.behind_statement) e

module _ (d : ℕ) (r : Reader) (sound : IsSound d r) where
  -- ---- rows

  -- parts with a comma between
  module _ (R : Names → List Token → List Token → Tree → Type 0) (L : Names → List Token → List Token → Forest → Type 0)
      (item : Names → List Token → Answer Tree) (next : Names → Tree → Names)
      (each : (names : Names) (ts : List Token) → Says (Is (suc d) (R names) ts) (item names ts))
      (last : (names : Names) (a b : List Token) (t : Tree) → R names a b t → L names a b (one t))
      (more : (names : Names) (a b c : List Token) (at : Place) (t : Tree) (ts : Forest)
      → R names a (mark Comma at ∷ b) t → L (next names t) b c ts → L names a c (t then ts)) where
    listed_sound : (k : ℕ) (names : Names) (ts : List Token) → Says (Are (suc d) (L names) ts) (listed d r item next k names ts)
    unfolding listed
    listed_sound zero names ts = says_wrong
    listed_sound (suc k) names ts = says_then (each names ts) (λ t rest g.
        says_if (begins_with_mark Comma rest)
        (λ e. let m = mark_split Comma rest e in
        says_then (listed_sound k (next names t) (behind_one rest)) (λ us end s.
        says_found (record { holds = more names ts (behind_one rest) end m.0 t us (before g m.1) s.holds; fits = omega (arith, g.fits, s.fits) })))
        (λ e. says_found (record { holds = last names ts rest t g.holds; fits = omega (arith, g.fits) })))

  -- the same, where a comma may stand before the brace at the end
  module _ (R : Names → List Token → List Token → Tree → Type 0) (L : Names → List Token → List Token → Forest → Type 0)
      (item : Names → List Token → Answer Tree)
      (each : (names : Names) (ts : List Token) → Says (Is (suc d) (R names) ts) (item names ts))
      (last : (names : Names) (a b : List Token) (t : Tree) → R names a b t → L names a b (one t))
      (last_comma : (names : Names) (a b : List Token) (at : Place) (t : Tree) → R names a (mark Comma at ∷ b) t → L names a b (one t))
      (more : (names : Names) (a b c : List Token) (at : Place) (t : Tree) (ts : Forest)
      → R names a (mark Comma at ∷ b) t → L (after names t) b c ts → L names a c (t then ts)) where
    listed_in_braces_sound : (k : ℕ) (names : Names) (ts : List Token) → Says (Are (suc d) (L names) ts) (listed_in_braces d r item k names ts)
    unfolding listed_in_braces
    listed_in_braces_sound zero names ts = says_wrong
    listed_in_braces_sound (suc k) names ts = says_then (each names ts) (λ t rest g.
        says_if (begins_with_mark Comma rest)
        (λ e. let m = mark_split Comma rest e in
        says_if (begins_with_mark RightBrace (behind_one rest))
        (λ _. says_found (record { holds = last_comma names ts (behind_one rest) m.0 t (before g m.1); fits = omega (arith, g.fits) }))
        (λ _. says_then (listed_in_braces_sound k (after names t) (behind_one rest)) (λ us end s.
        says_found (record { holds = more names ts (behind_one rest) end m.0 t us (before g m.1) s.holds; fits = omega (arith, g.fits, s.fits) }))))
        (λ e. says_found (record { holds = last names ts rest t g.holds; fits = omega (arith, g.fits) })))

  init_declarators_sound : (is_typedef : Bool) (k : ℕ) (names : Names) (ts : List Token)
      → Says (Are (suc d) (Lists names (rule.init_declarators is_typedef)) ts)
      (listed d r (init_declarator_in d r is_typedef) (λ ns t. add ns (entries_behind is_typedef (one t))) k names ts)
  init_declarators_sound is_typedef = listed_sound
      (λ ns. Derives ns (rule.init_declarator is_typedef)) (λ ns. Lists ns (rule.init_declarators is_typedef)) (init_declarator_in d r is_typedef) (λ ns t. add ns (entries_behind is_typedef (one t)))
      (init_declarator_sound d r sound is_typedef)
      (λ ns a b t. rule.last_init_declarator)
      (λ ns a b c at t ts. rule.more_init_declarators)

  declarators_behind_sound : (is_typedef : Bool) (x : Tree) (names : Names) (ts : List Token)
      → Says (Are (suc d) (AreTrees (Rows.init_declarators_behind is_typedef x) names) ts) (declarators_behind d r is_typedef x names ts)
  unfolding declarators_behind
  declarators_behind_sound is_typedef x names ts = says_then (init_behind_sound d r sound is_typedef x names ts) (λ t rest g.
      says_if (begins_with_mark Comma rest)
      (λ e. let m = mark_split Comma rest e in
      says_then (init_declarators_sound is_typedef _ (add names (entries_behind is_typedef (one t))) (behind_one rest)) (λ us end s.
      says_found (record { holds = λ a h. rule.more_init_declarators (before g m.1 a h) s.holds; fits = omega (arith, g.fits, s.fits) })))
      (λ e. says_found (record { holds = λ a h. rule.last_init_declarator (g.holds a h); fits = omega (arith, g.fits) })))

  declarators_sound : (names : Names) (ts : List Token)
      → Says (Are (suc d) (Lists names rule.declarators) ts) (listed d r (declared_in d r Mode.named) after (suc (length ts)) names ts)
  declarators_sound names ts = listed_sound
      (IsTree (Goal.declared Mode.named)) (λ ns. Lists ns rule.declarators) (declared_in d r Mode.named) after
      (declared_sound d r sound Mode.named)
      (λ ns a b t h. rule.last_declarator (declarator_of h))
      (λ ns a b c at t ts h. rule.more_declarators (declarator_of h))
      (suc (length ts)) names ts

  parameters_sound : (names : Names) (ts : List Token)
      → Says (Are (suc d) (Lists names rule.parameters) ts) (listed d r (parameter_in d r) after_parameter (suc (length ts)) names ts)
  parameters_sound names ts = listed_sound
      (λ ns. Derives ns rule.parameter) (λ ns. Lists ns rule.parameters) (parameter_in d r) after_parameter
      (parameter_sound d r sound)
      (λ ns a b t. rule.last_parameter)
      (λ ns a b c at t ts. rule.more_parameters)
      (suc (length ts)) names ts

  argument_list_sound : (names : Names) (ts : List Token)
      → Says (Are (suc d) (Lists names rule.argument_list) ts) (listed d r (assignment_in d r) after (suc (length ts)) names ts)
  argument_list_sound names ts = listed_sound
      (λ ns. Derives ns rule.assignment) (λ ns. Lists ns rule.argument_list) (assignment_in d r) after
      (assignment_sound d r sound)
      (λ ns a b t. rule.last_argument)
      (λ ns a b c at t ts. rule.more_arguments)
      (suc (length ts)) names ts

  initializers_sound : (names : Names) (ts : List Token)
      → Says (Are (suc d) (Lists names rule.initializers) ts) (listed_in_braces d r (initializer_in d r) (suc (length ts)) names ts)
  initializers_sound names ts = listed_in_braces_sound
      (λ ns. Derives ns rule.initializer) (λ ns. Lists ns rule.initializers) (initializer_in d r)
      (initializer_sound d r sound)
      (λ ns a b t. rule.last_initializer)
      (λ ns a b at t. rule.last_initializer_with_comma)
      (λ ns a b c at t ts. rule.more_initializers)
      (suc (length ts)) names ts

  enumerators_sound : (names : Names) (ts : List Token)
      → Says (Are (suc d) (Lists names rule.enumerators) ts) (listed_in_braces d r (enumerator_in d r) (suc (length ts)) names ts)
  enumerators_sound names ts = listed_in_braces_sound
      (λ ns. Derives ns rule.enumerator) (λ ns. Lists ns rule.enumerators) (enumerator_in d r)
      (enumerator_sound d r sound)
      (λ ns a b t. rule.last_enumerator)
      (λ ns a b at t. rule.last_enumerator_with_comma)
      (λ ns a b c at t ts. rule.more_enumerators)
      (suc (length ts)) names ts

  members_sound : (k : ℕ) (names : Names) (ts : List Token) → Says (Are (suc d) (Lists names rule.members) ts) (members_in d r k names ts)
  unfolding members_in
  members_sound zero names ts = says_wrong
  members_sound (suc k) names ts = says_then (member_sound d r sound names ts) (λ t rest g.
      says_if (begins_specifier false (after names t) rest)
      (λ e. says_then (members_sound k (after names t) rest) (λ more end s.
      says_found (record { holds = rule.more_members g.holds s.holds; fits = omega (arith, g.fits, s.fits) })))
      (λ e. says_found (record { holds = rule.last_member g.holds; fits = omega (arith, g.fits) })))

  items_sound : (k : ℕ) (names : Names) (ts : List Token) → Says (Are (suc d) (Lists names rule.block_items) ts) (items_in d r k names ts)
  unfolding items_in
  items_sound zero names ts = says_wrong
  items_sound (suc k) names ts = says_if (begins_with_mark RightBrace ts)
      (λ e. says_found (record { holds = rule.no_items; fits = omega arith }))
      (λ e. says_then
      (says_if {Q = Is (suc d) (IsItem names) ts} (begins_specifier false names ts)
      (λ _. says_as (λ t b h c us. rule.declaration_first h) (declaration_sound d r sound names ts))
      (λ _. says_as (λ t b h c us. rule.statement_first h) (statement_sound d r sound names ts)))
      (λ t rest i. says_then (items_sound k (after names t) rest) (λ more end s.
      says_found (record { holds = i.holds end more s.holds; fits = omega (arith, i.fits, s.fits) }))))

  pub group_item_sound : (standing : Standing) (names : Names) (ts : List Token) → ends_groups standing ts ≡ false
      → Says (Is (suc d) (λ a b t. IsGroupItem standing names a b t (standing_behind ts)) ts) (group_item_in d r names ts)
  unfolding group_item_in
  group_item_sound standing names ts e = says_if (begins_label ts)
      (λ f. says_as (λ t b h. subst (IsGroupItem standing names ts b t) (sym (standing_at ts true f)) (item_label h)) (label_sound d r sound names ts))
      (λ f. says_as (λ t b h. subst (IsGroupItem standing names ts b t) (sym (standing_at ts false f)) (item_statement (labelled_where standing ts e f) h)) (statement_sound d r sound names ts))

  groups_sound : (k : ℕ) (standing : Standing) (names : Names) (ts : List Token)
      → Says (Are (suc d) (Lists names (rule.groups standing)) ts) (groups_in d r k standing names ts)
  unfolding groups_in
  groups_sound zero standing names ts = says_wrong
  groups_sound (suc k) standing names ts = says_if (ends_groups standing ts)
      (λ e. says_found (record { holds = rule.no_more_groups (ends_where standing ts e); fits = omega arith }))
      (λ e. says_then (group_item_sound standing names ts e) (λ t rest i.
      says_then (groups_sound k (standing_behind ts) (after names t) rest) (λ more end s.
      says_found (record { holds = group_item_first i.holds s.holds; fits = omega (arith, i.fits, s.fits) }))))

  externals_sound_by : {names : Names} {a : List Token} (t : Tree) (rest : List Token) (deeper : Answer Forest)
      → Is (suc d) (Derives names rule.external) a t rest
      → Says (Are (suc d) (Lists (after names t) rule.externals) rest) deeper
      → Says (Are (suc d) (Lists names rule.externals) a) (externals_by d r t rest deeper)
  unfolding externals_by
  externals_sound_by t [] deeper g s = says_found (record { holds = rule.last_external g.holds; fits = omega (arith, g.fits) })
  externals_sound_by t (next ∷ rest) deeper g s = says_then s (λ more end h.
      says_found (record { holds = rule.more_externals g.holds h.holds; fits = omega (arith, g.fits, h.fits) }))

  externals_sound : (k : ℕ) (names : Names) (ts : List Token) → Says (Are (suc d) (Lists names rule.externals) ts) (externals_in d r k names ts)
  unfolding externals_in
  externals_sound zero names ts = says_wrong
  externals_sound (suc k) names ts = says_then (external_sound d r sound names ts) (λ t rest g.
      externals_sound_by t rest (externals_in d r k (after names t) rest) g (externals_sound k (after names t) rest))

  arguments_sound : (names : Names) (ts : List Token) → Says (Are (suc d) (Lists names rule.arguments) ts) (arguments_in d r names ts)
  unfolding arguments_in
  arguments_sound names ts = says_if (begins_with_mark RightParenthesis ts)
      (λ e. says_found (record { holds = rule.no_arguments; fits = omega arith }))
      (λ e. says_map (argument_list_sound names ts) (λ us b s. record { holds = rule.some_arguments s.holds; fits = s.fits }))

  length_sound : (names : Names) (ts : List Token) → Says (Are (suc d) (Lists names rule.optional_length) ts) (length_in d r names ts)
  unfolding length_in
  length_sound names ts = says_if (begins_with_mark RightBracket ts)
      (λ e. says_found (record { holds = rule.no_length; fits = omega arith }))
      (λ e. says_then (conditional_sound d r sound names ts) (λ x end g.
      says_found (record { holds = rule.a_length g.holds; fits = omega (arith, g.fits) })))

  -- ---- all goals and rows

  rows_sound : (row : Rows) (names : Names) (ts : List Token) → Says (Are (suc d) (AreTrees row names) ts) (rows_in d r row names ts)
  unfolding rows_in
  rows_sound Rows.externals names ts = externals_sound (suc (length ts)) names ts
  rows_sound (Rows.init_declarators is_typedef) names ts = init_declarators_sound is_typedef (suc (length ts)) names ts
  rows_sound (Rows.init_declarators_behind is_typedef x) names ts = declarators_behind_sound is_typedef x names ts
  rows_sound Rows.initializers names ts = initializers_sound names ts
  rows_sound (Rows.specifier_list typed) names ts = specifier_list_sound d r sound (suc (length ts)) typed names ts
  rows_sound Rows.members names ts = members_sound (suc (length ts)) names ts
  rows_sound Rows.declarators names ts = declarators_sound names ts
  rows_sound Rows.enumerators names ts = enumerators_sound names ts
  rows_sound Rows.parameters names ts = parameters_sound names ts
  rows_sound Rows.block_items names ts = items_sound (suc (length ts)) names ts
  rows_sound Rows.groups names ts = groups_sound (suc (length ts)) rule.at_first names ts
  rows_sound Rows.arguments names ts = arguments_sound names ts
  rows_sound Rows.optional_length names ts = length_sound names ts

  goals_sound : (goal : Goal) (names : Names) (ts : List Token) → Says (Is (suc d) (IsTree goal names) ts) (goal_in d r goal names ts)
  unfolding goal_in
  goals_sound Goal.external names ts = external_sound d r sound names ts
  goals_sound Goal.declaration names ts = declaration_sound d r sound names ts
  goals_sound (Goal.init_declarator is_typedef) names ts = init_declarator_sound d r sound is_typedef names ts
  goals_sound (Goal.init_behind is_typedef x) names ts = init_behind_sound d r sound is_typedef x names ts
  goals_sound Goal.initializer names ts = initializer_sound d r sound names ts
  goals_sound Goal.specifiers names ts = specifiers_sound d r sound names ts
  goals_sound (Goal.specifier typed) names ts = specifier_sound d r sound typed names ts
  goals_sound Goal.member names ts = member_sound d r sound names ts
  goals_sound Goal.enumerator names ts = enumerator_sound d r sound names ts
  goals_sound (Goal.declared mode) names ts = declared_sound d r sound mode names ts
  goals_sound Goal.parameter names ts = parameter_sound d r sound names ts
  goals_sound Goal.type_name names ts = type_name_sound d r sound names ts
  goals_sound Goal.body names ts = body_sound d r sound names ts
  goals_sound Goal.statement names ts = statement_sound d r sound names ts
  goals_sound Goal.optional_expression names ts = optional_expression_sound d r sound names ts
  goals_sound Goal.expression names ts = expression_sound d r sound names ts
  goals_sound Goal.assignment names ts = assignment_sound d r sound names ts
  goals_sound Goal.conditional names ts = conditional_sound d r sound names ts
  goals_sound (Goal.binary n) names ts = binary_sound d r sound n names ts
  goals_sound Goal.cast names ts = cast_sound d r sound names ts
  goals_sound Goal.unary names ts = unary_sound d r sound names ts

  level_sound : IsSound (suc d) (level d r)
  unfolding level
  level_sound = record { tree = goals_sound; trees = rows_sound }

-- ---- by the budget

pub none_sound : IsSound 0 no_reader
none_sound = record { tree = λ goal names ts. says_wrong; trees = λ row names ts. says_wrong }

pub read_sound : (d : ℕ) → IsSound (suc d) (read d)
unfolding read
read_sound zero = level_sound 0 no_reader none_sound
read_sound (suc d) = level_sound (suc d) (read d) (read_sound d)

pub found_tree : (d : ℕ) (goal : Goal) (names : Names) (ts rest : List Token) (t : Tree)
    → (read d).tree_of goal names ts ≡ found t rest
    → IsTree goal names ts rest t × (height t ≤ d)
found_tree d goal names ts rest t e = let g = said t rest ((read_sound d).tree goal names ts) e in (g.holds, omega (arith, g.fits))

pub found_trees : (d : ℕ) (row : Rows) (names : Names) (ts rest : List Token) (us : Forest)
    → (read d).trees_of row names ts ≡ found us rest
    → AreTrees row names ts rest us × (forest_height us ≤ d)
found_trees d row names ts rest us e = let g = said us rest ((read_sound d).trees row names ts) e in (g.holds, omega (arith, g.fits))

unit_sound : (d : ℕ) (ts : List Token) → Says (Is (suc d) (Derives (opened []) rule.unit) ts) (read_unit d ts)
unfolding read_unit
unit_sound zero ts = says_then ((read_sound zero).trees Rows.externals (opened []) ts) (λ more end s. says_deep)
unit_sound (suc d) ts = says_then ((read_sound d).trees Rows.externals (opened []) ts) (λ more end s. says_good (rule.unit_of s.holds) (omega (arith, s.fits)))

pub found_unit : (d : ℕ) (ts : List Token) (t : Tree) → read_unit d ts ≡ found t [] → IsTreeOf ts t × (height t ≤ d)
found_unit d ts t e = let g = said t [] (unit_sound d ts) e in (g.holds, omega (arith, g.fits))
