use Rattle.ssa_core.specs.Shapes.{word}
use Rattle.ssa_core.specs.Building.{IsReady}
use Rattle.ssa_tests.specs.ListShape.{shape_of}
use Rattle.ssa_tests.specs.Flows.{AreOpen}
use Rattle.ssa_tests.proofs.flow.take_steps.Given as goal

abbrev pub invariant-loop-step : goal.invariant-loop-step
invariant-loop-step l = record {
  ready : IsReady (λ var. word) l.builder (shape_of l.target);
  unsealed : AreOpen l.flags.items l.builder.sealed;
}
