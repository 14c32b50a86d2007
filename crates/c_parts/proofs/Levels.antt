-- What reads below a budget.
use Rattle.std.proofs.Common.{◌≡◌, ◌≢◌, ◌-◌, ◌≤◌, ℕ, zero, suc, List, refl, ap, arith, sym}
use Rattle.std.proofs.Math.Numerals.{sub-one}
use Rattle.c_lexer.specs.declared.token.Token.{Token}
use Rattle.c_grammar.specs.Scopes.{Names}
use Rattle.c_grammar.specs.Reading.{Reader, Goal, Rows, below, level, read, lower, goal_in, rows_in, specs_first, specifiers_in}

below_next : (d : ℕ) → below (suc d) ≡ level d (below d)
unfolding read
below_next zero = refl
below_next (suc d) = refl

pub below_lower : (d : ℕ) → d ≢ 0 → below d ≡ level (d - 1) (below (d - 1))
below_lower zero h = absurd (h refl)
below_lower (suc d) h = rw sub-one (below_next d)

suc_is_some : (d : ℕ) → suc d ≢ 0
suc_is_some d = λ e. absurd (omega (arith, e))

-- a first part, within the next lower budget or 0
pub next_tree : (d next : ℕ) → (d ≡ 0 → next ≡ 0) → (d ≢ 0 → below d ≡ level next (below next)) → (goal : Goal) (names : Names) (ts : List Token)
    → lower d (goal_in d (below d) goal names ts) ((below d).tree_of goal names ts) ≡ goal_in next (below next) goal names ts
unfolding lower level
next_tree zero next none more goal names ts = ap (λ (d : ℕ). goal_in d (below d) goal names ts) (sym (none refl))
next_tree (suc d) next none more goal names ts = ap (λ (r : Reader). r.tree_of goal names ts) (more (suc_is_some d))

pub next_row : (d next : ℕ) → (d ≡ 0 → next ≡ 0) → (d ≢ 0 → below d ≡ level next (below next)) → (row : Rows) (names : Names) (ts : List Token)
    → lower d (rows_in d (below d) row names ts) ((below d).trees_of row names ts) ≡ rows_in next (below next) row names ts
unfolding lower level
next_row zero next none more row names ts = ap (λ (d : ℕ). rows_in d (below d) row names ts) (sym (none refl))
next_row (suc d) next none more row names ts = ap (λ (r : Reader). r.trees_of row names ts) (more (suc_is_some d))

-- specs in front of another part
pub specs_first_read : (d next : ℕ) → (d ≡ 0 → next ≡ 0) → (d ≢ 0 → below d ≡ level next (below next)) → (names : Names) (ts : List Token)
    → specs_first d (below d) names ts ≡ specifiers_in next (below next) names ts
unfolding specs_first goal_in
specs_first_read d next none more names ts = next_tree d next none more Goal.specifiers names ts

-- behind a part that was read within the next lower budget, there is one
some_budget : (d next n : ℕ) → (d ≡ 0 → next ≡ 0) → 1 ≤ n → n ≤ next → d ≢ 0
some_budget d next n none some within = λ e. absurd (let z = none e in omega (arith, z, some, within))

pub lower_tree : (d next later n : ℕ) → (d ≡ 0 → next ≡ 0) → 1 ≤ n → n ≤ next → (d ≢ 0 → below d ≡ level later (below later))
    → (goal : Goal) (names : Names) (ts : List Token)
    → (below d).tree_of goal names ts ≡ goal_in later (below later) goal names ts
unfolding level
lower_tree d next later n none some within more goal names ts = ap (λ (r : Reader). r.tree_of goal names ts) (more (some_budget d next n none some within))

pub lower_row : (d next later n : ℕ) → (d ≡ 0 → next ≡ 0) → 1 ≤ n → n ≤ next → (d ≢ 0 → below d ≡ level later (below later))
    → (row : Rows) (names : Names) (ts : List Token)
    → (below d).trees_of row names ts ≡ rows_in later (below later) row names ts
unfolding level
lower_row d next later n none some within more row names ts = ap (λ (r : Reader). r.trees_of row names ts) (more (some_budget d next n none some within))
