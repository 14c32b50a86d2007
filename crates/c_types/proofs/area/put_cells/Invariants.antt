use Rattle.std.proofs.Common.{◌≡◌, ◌≤◌, ◌++◌, List, length, drop, map}
use Rattle.c_types.specs.Placing.{Placed, painted, placed}
use Rattle.c_types.proofs.area.put_cells.Given as goal

-- the cells from here on are written
abbrev pub invariant-loop-left : goal.invariant-loop-left
invariant-loop-left l = record {
  within : l.left ≤ length l.cells;
  long : length l.area ≡ length l.fn.area;
  written : (done : List Placed) → l.fn.area ≡ painted done (length l.fn.area)
      → l.area ≡ painted (map (placed l.base l.offsets l.at) (drop l.left l.cells) ++ done) (length l.fn.area);
}

abbrev pub decreases-loop-left : goal.decreases-loop-left
decreases-loop-left l = l.left
