-- Units that are derived are read, and so a token list has one tree at most.
use Rattle.std.proofs.Common.{◌≡◌, ℕ, ◌+◌, ◌<◌, ◌≤◌, ◌⊎◌, inl, inr, Bool, true, false, List, [], sym, ap, ◌∙◌, arith, true≢false}
use Rattle.c_lexer.specs.declared.token.Token.{Token}
use Rattle.c_syntax.specs.Trees.{Tree, height}
use Rattle.c_grammar.specs.Derivation as rule
use Rattle.c_grammar.specs.Derivation.{IsTreeOf}
use Rattle.c_grammar.specs.Answers.{Answer, found, wrong, deep}
use Rattle.c_grammar.specs.Reading.{read_unit}
use Rattle.c_grammar.proofs.Budgets.{Finds, order}
use Rattle.c_grammar.proofs.Found.Externals.{unit_found}
use Rattle.c_grammar.proofs.Found.Whole.{complete_row}

pub unit_reads : (a : List Token) (t : Tree) → IsTreeOf a t → (d : ℕ) → Finds (read_unit d a) d (height t) t []
unit_reads a t (rule.unit_of {ts = ts} l) d = unit_found a ts (complete_row l) d

-- the three answers differ
is_wrong : Answer Tree → Bool
is_wrong (found t rest) = false
is_wrong (wrong rest) = true
is_wrong (deep rest) = false

tree_or : Tree → Answer Tree → Tree
tree_or other (found t rest) = t
tree_or other (wrong rest) = other
tree_or other (deep rest) = other

pub wrong_has_none : (d : ℕ) (a rest : List Token) (t : Tree) → read_unit d a ≡ wrong rest → IsTreeOf a t → ⊥
unfolding is_wrong
wrong_has_none d a rest t e derived = at (order (height t) d)
  where
    at : (height t ≤ d) ⊎ (d < height t) → ⊥
    at (inl le) = true≢false (sym (ap is_wrong e) ∙ ap is_wrong ((unit_reads a t derived d).low le))
    at (inr lt) = true≢false (sym (ap is_wrong e) ∙ ap is_wrong ((unit_reads a t derived d).high lt).too_deep)

pub one_tree_of : (a : List Token) (t u : Tree) → IsTreeOf a t → IsTreeOf a u → t ≡ u
unfolding tree_or
one_tree_of a t u g h =
    let d = height t + height u in
    ap (tree_or t) (sym ((unit_reads a t g d).low (omega arith)) ∙ (unit_reads a u h d).low (omega arith))
