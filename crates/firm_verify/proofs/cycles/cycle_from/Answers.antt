use Rattle.std.proofs.Common.{◌∙◌, sym, ℕ, arith}
use Rattle.firm_verify.specs.Marks.{AreMarks, NoneMore}
use Rattle.firm_verify.proofs.EdgeLaws.{none_fits}
use Rattle.firm_verify.proofs.cycles.cycle_from.Goals as goal

pub loop-left-preserved : goal.loop-left-preserved
loop-left-preserved c =
    let found = c.in_ok-found.ensures {u = tt} in
    let none = sym c.is_some.ensures ∙ c.if-is_some.false in
    let after = c.step.new.left.items in
    let stay = none_fits c.in_ok-found.found (λ (n : ℕ). ℕ) (NoneMore c.loop-left.left.items after) none found.stay in (
      none_fits c.in_ok-found.found (λ (n : ℕ). ℕ) (AreMarks c.args.graph.now after c.step.new.path.items) none found.marks,
      (λ x. omega (arith, stay x, c.loop-left.invariant.1.0 x), omega (arith, stay c.args.start, c.loop-left.invariant.1.1)),
    )
