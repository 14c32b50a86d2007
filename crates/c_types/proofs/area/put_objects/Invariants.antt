use Rattle.std.proofs.Common.{◌≡◌, ◌≤◌, ◌++◌, List, length, drop}
use Rattle.c_types.specs.Placing.{Placed, cells_of, painted}
use Rattle.c_types.proofs.area.put_objects.Given as goal

-- the cells of the objects from here on are written
abbrev pub invariant-loop-left : goal.invariant-loop-left
invariant-loop-left l = record {
  within : l.left ≤ length l.objects;
  long : length l.area ≡ length l.fn.area;
  written : (done : List Placed) → l.fn.area ≡ painted done (length l.fn.area)
      → l.area ≡ painted (cells_of l.base l.offsets (drop l.left l.objects) (drop l.left l.offsets) ++ done) (length l.fn.area);
}

abbrev pub decreases-loop-left : goal.decreases-loop-left
decreases-loop-left l = l.left
