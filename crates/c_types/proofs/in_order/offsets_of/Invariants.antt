use Rattle.std.proofs.Common.{◌≡◌, ◌++◌, drop}
use Rattle.c_types.specs.InOrder.{end_from, end_of, offsets, offsets_from}
use Rattle.c_types.proofs.in_order.offsets_of.Given as goal

-- the offsets so far, and those of what is left
abbrev pub invariant-loop-measure : goal.invariant-loop-measure
invariant-loop-measure l = record {
  all : l.found ++ offsets_from l.end (drop l.measure-index l.measures) ≡ offsets l.measures;
  ends : end_from l.end (drop l.measure-index l.measures) ≡ end_of l.measures;
}
