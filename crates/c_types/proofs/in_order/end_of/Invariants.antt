use Rattle.std.proofs.Common.{◌≡◌, ◌≤◌, ◌*◌, ◌^◌, drop}
use Rattle.c_types.specs.InOrder.{end_from, end_of}
use Rattle.c_types.proofs.in_order.end_of.Given as goal

-- what is left ends where all end, and each step was short
abbrev pub invariant-loop-measure : goal.invariant-loop-measure
invariant-loop-measure l = record {
  ends : end_from l.end (drop l.measure-index l.measures) ≡ end_of l.measures;
  short : l.end ≤ l.measure-index * 2 ^ 33;
}
