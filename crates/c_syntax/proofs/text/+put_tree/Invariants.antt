use Rattle.std.proofs.Common.{◌≡◌, ◌++◌, ◌+◌, ◌-◌, ◌≤◌, drop}
use Rattle.c_syntax.specs.Trees.{Tree, Forest, forest_height, max_height}
use Rattle.c_syntax.specs.Tables.{StandAll, StandsFor}
use Rattle.c_syntax.specs.TreeText.{lines, tree_lines}
use Rattle.c_syntax.proofs.text.+put_tree.Given as goal

-- no level is below the lowest that a tree can have
abbrev pub decreases-put_tree : goal.decreases-put_tree
decreases-put_tree l = max_height - l.level

-- the text so far and the lines of the kids that are left are those of the tree, and they are no higher than its kids
abbrev pub invariant-loop-kid : goal.invariant-loop-kid
invariant-loop-kid l = (t : Tree) → StandsFor l.table l.fn.id t
    → (rest : Forest) × StandAll l.table (drop l.kid-index l.kid-items) rest × (l.out ++ lines (l.level + 1) rest ≡ l.fn.out ++ tree_lines l.level t)
    × (forest_height rest ≤ forest_height t.kids)
