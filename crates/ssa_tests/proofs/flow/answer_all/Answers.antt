use Rattle.std.proofs.Common.{sym, subst}
use Rattle.ssa_core.specs.Shapes.{word}
use Rattle.ssa_core.specs.Building.{IsSettled}
use Rattle.ssa_tests.specs.ListShape.{shape_of}
use Rattle.ssa_tests.proofs.flow.answer_all.Goals as goal

pub write_all-requires-clause-ready : goal.write_all-requires-clause-ready
write_all-requires-clause-ready c = λ fresh.
    subst (λ k. IsSettled (λ var. word) k (shape_of c.args.target.now)) (sym c.new-builder.ensures)
    (c.callers_keep.ensures.nothing (λ var. word) (shape_of c.args.target.now))
