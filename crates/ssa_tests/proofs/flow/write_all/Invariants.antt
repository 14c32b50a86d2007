use Rattle.std.proofs.Common.{◌≡◌, []}
use Rattle.ssa_core.specs.Shapes.{word}
use Rattle.ssa_core.specs.Building.{IsReady}
use Rattle.ssa_tests.specs.ListShape.{shape_of}
use Rattle.ssa_tests.proofs.flow.write_all.Given as goal

abbrev pub invariant-loop-write : goal.invariant-loop-write
invariant-loop-write l = record {
  ready : IsReady (λ var. word) l.builder (shape_of l.target);
  unread : l.builder.reads ≡ [];
  sealed : l.builder.sealed ≡ l.initial.builder.sealed;
}
