-- A reading depends on the tokens before its place and, unless it is too deep, on the token there.
use Rattle.std.proofs.Common.{◌≡◌, ℕ, zero, suc, ◌≤◌, false, List, [], ◌∷◌, ◌++◌, length, length-append, if◌then◌else◌, refl, sym, ap, ◌∙◌, arith}
use Rattle.c_lexer.specs.declared.token.Token.{Token}
use Rattle.c_syntax.specs.Trees.{Forest, ◌then◌, forest_height}
use Rattle.c_grammar.specs.Scopes.{Names, opened}
use Rattle.c_grammar.specs.Derivation as rule
use Rattle.c_grammar.specs.Derivation.{Lists}
use Rattle.c_grammar.specs.Answers.{wrong, deep}
use Rattle.c_grammar.specs.Fronts.{first}
use Rattle.c_grammar.specs.Reading.{Reader, Goal, Rows, Mode, needs_name, goal_in, rows_in, level, no_reader, read, read_unit}
use Rattle.c_grammar.proofs.SoundSteps.{says_wrong}
use Rattle.c_grammar.proofs.SoundExpressions.{IsSound}
use Rattle.c_grammar.proofs.Sound.{read_sound, found_trees}
use Rattle.c_grammar.proofs.KeptSteps.{Keeps, keeps_found, keeps_wrong, keeps_deep, keeps_then, keeps_here, keeps_refused}
use Rattle.c_grammar.proofs.KeptExpressions.{IsKept, least_of, unary_kept, unary_parenthesis_kept, cast_kept, binary_kept, conditional_kept, assignment_kept, expression_kept}
use Rattle.c_grammar.proofs.KeptCounters.{rest_of, form_of}
use Rattle.c_grammar.proofs.KeptTypes.{specifier_kept, specifier_list_void_kept, specifiers_kept, specifiers_void_kept}
use Rattle.c_grammar.proofs.KeptDeclarators.{declared_kept, parameter_kept, type_name_kept, member_kept, enumerator_kept}
use Rattle.c_grammar.proofs.KeptDeclarations.{initializer_kept, init_declarator_kept, init_behind_kept, declaration_kept, external_kept}
use Rattle.c_grammar.proofs.KeptStatements.{body_kept, optional_expression_kept, statement_kept}
use Rattle.c_grammar.proofs.KeptRows.{parameters_row_void_kept, rows_kept}

module _ (d : ℕ) (r : Reader) (sound : IsSound d r) (kept : IsKept d r) where
  -- nothing is absent within the budget 0
  ready : (mode : Mode) → least_of (Goal.declared mode) ≤ suc d → needs_name mode ≡ false → 1 ≤ d
  ready mode le e = omega (arith, le, ap {B = ℕ} (λ b. if b then 0 else 2) e)

  goals_kept : (goal : Goal) (names : Names) (ts : List Token) → least_of goal ≤ suc d → Keeps 1 (goal_in d r goal names) ts
  unfolding goal_in
  goals_kept Goal.external names ts le = external_kept d r sound kept names ts
  goals_kept Goal.declaration names ts le = declaration_kept d r sound kept names ts
  goals_kept (Goal.init_declarator is_typedef) names ts le = init_declarator_kept d r sound kept is_typedef names ts
  goals_kept (Goal.init_behind is_typedef x) names ts le = init_behind_kept d r sound kept is_typedef x names ts
  goals_kept Goal.initializer names ts le = initializer_kept d r sound kept names ts
  goals_kept Goal.specifiers names ts le = specifiers_kept d r sound kept names ts
  goals_kept (Goal.specifier typed) names ts le = specifier_kept d r sound kept typed names ts
  goals_kept Goal.member names ts le = member_kept d r sound kept names ts
  goals_kept Goal.enumerator names ts le = enumerator_kept d r sound kept names ts
  goals_kept (Goal.declared mode) names ts le = declared_kept d r sound kept mode (ready mode le) names ts
  goals_kept Goal.parameter names ts le = parameter_kept d r sound kept names ts
  goals_kept Goal.type_name names ts le = type_name_kept d r sound kept names ts
  goals_kept Goal.body names ts le = body_kept d r sound kept names ts
  goals_kept Goal.statement names ts le = statement_kept d r sound kept names ts
  goals_kept Goal.optional_expression names ts le = optional_expression_kept d r sound kept (omega (arith, le)) names ts
  goals_kept Goal.expression names ts le = expression_kept d r kept names ts
  goals_kept Goal.assignment names ts le = assignment_kept d r kept names ts
  goals_kept Goal.conditional names ts le = conditional_kept d r kept names ts
  goals_kept (Goal.binary n) names ts le = binary_kept d r kept n names ts
  goals_kept Goal.cast names ts le = cast_kept d r kept names ts
  goals_kept Goal.unary names ts le = unary_kept d r kept names ts

  level_kept : IsKept (suc d) (level d r)
  unfolding level goal_in rows_in
  level_kept = record {
    tree = goals_kept;
    trees = rows_kept d r sound kept;
    parenthesis = λ names at ts le. unary_parenthesis_kept d r kept names at ts (omega (arith, le));
    void_list = λ names at ts le. specifier_list_void_kept d r sound kept names at ts (omega (arith, le));
    void_specifiers = λ names at ts le. specifiers_void_kept d r sound kept names at ts (omega (arith, le));
    void_parameters = λ names at ts le. parameters_row_void_kept d r sound kept names at ts (omega (arith, le));
  }

-- ---- by the budget

none_sound : IsSound 0 no_reader
none_sound = record { tree = λ goal names ts. says_wrong; trees = λ row names ts. says_wrong }

none_kept : IsKept 0 no_reader
none_kept = record {
  tree = λ goal names ts le. keeps_refused;
  trees = λ row names ts. keeps_refused;
  parenthesis = λ names at ts le. absurd (omega (arith, le));
  void_list = λ names at ts le. absurd (omega (arith, le));
  void_specifiers = λ names at ts le. absurd (omega (arith, le));
  void_parameters = λ names at ts le. absurd (omega (arith, le));
}

read_kept : (d : ℕ) → IsKept (suc d) (read d)
unfolding read
read_kept zero = level_kept 0 no_reader none_sound none_kept
read_kept (suc d) = level_kept (suc d) (read d) (read_sound d) (read_kept d)

some_externals : {names : Names} {a b : List Token} {ts : Forest} → Lists names rule.externals a b ts → 1 ≤ forest_height ts
some_externals (rule.last_external t) = omega arith
some_externals (rule.more_externals t ts) = omega arith

pub unit_kept : (d : ℕ) (ts : List Token) → Keeps 1 (read_unit d) ts
unfolding read_unit
unit_kept zero ts = keeps_then ((read_kept zero).trees Rows.externals (opened []) ts) (λ more end e.
    let f = found_trees 0 Rows.externals (opened []) ts end more e in absurd (omega (arith, f.1, some_externals f.0)))
unit_kept (suc d) ts = keeps_then ((read_kept d).trees Rows.externals (opened []) ts) (λ more end _. keeps_here)

-- ---- the place that the answer names

same_front : (p q b : List Token) → p ++ b ≡ q ++ b → p ≡ q
same_front [] [] b e = refl
same_front [] (u ∷ q) b e = absurd (omega (arith, ap length e, length-append q b))
same_front (t ∷ p) [] b e = absurd (omega (arith, ap length e, length-append p b))
same_front (t ∷ p) (u ∷ q) b e =
    let head : t ≡ u = cc e in
    let tail : p ++ b ≡ q ++ b = cc e in
    let fronts : p ≡ q = same_front p q b tail in
    cc (head, fronts)

pub kept_deep : (d : ℕ) (pre rest other : List Token) → read_unit d (pre ++ rest) ≡ deep rest → read_unit d (pre ++ other) ≡ deep other
unfolding rest_of form_of
kept_deep d pre rest other e = by (unit_kept d (pre ++ rest))
  where
    by : Keeps 1 (read_unit d) (pre ++ rest) → read_unit d (pre ++ other) ≡ deep other
    by (keeps_found p b t s m) = absurd (omega (arith, ap form_of (sym e ∙ (ap (read_unit d) s ∙ m b refl))))
    by (keeps_wrong p b s m) = absurd (omega (arith, ap form_of (sym e ∙ (ap (read_unit d) s ∙ m b refl))))
    by (keeps_deep p b s l m) =
        let place : rest ≡ b = ap rest_of (sym e ∙ (ap (read_unit d) s ∙ m b)) in
        let front : pre ≡ p = same_front pre p b (ap (λ x. pre ++ x) (sym place) ∙ s) in
        ap (λ x. read_unit d (x ++ other)) front ∙ m other

pub kept_wrong : (d : ℕ) (pre : List Token) (t : Token) (rest other : List Token) → read_unit d (pre ++ t ∷ rest) ≡ wrong (t ∷ rest) → read_unit d (pre ++ t ∷ other) ≡ wrong (t ∷ other)
unfolding rest_of form_of
kept_wrong d pre t rest other e = by (unit_kept d (pre ++ t ∷ rest))
  where
    by : Keeps 1 (read_unit d) (pre ++ t ∷ rest) → read_unit d (pre ++ t ∷ other) ≡ wrong (t ∷ other)
    by (keeps_found p b x s m) = absurd (omega (arith, ap form_of (sym e ∙ (ap (read_unit d) s ∙ m b refl))))
    by (keeps_wrong p b s m) =
        let place : t ∷ rest ≡ b = ap rest_of (sym e ∙ (ap (read_unit d) s ∙ m b refl)) in
        let front : pre ≡ p = same_front pre p b (ap (λ x. pre ++ x) (sym place) ∙ s) in
        ap (λ x. read_unit d (x ++ t ∷ other)) front ∙ m (t ∷ other) (ap first place)
    by (keeps_deep p b s l m) = absurd (omega (arith, ap form_of (sym e ∙ (ap (read_unit d) s ∙ m b))))
