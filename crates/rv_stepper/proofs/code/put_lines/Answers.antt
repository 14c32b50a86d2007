use Rattle.rv_stepper.proofs.Codes.{lines_more}
use Rattle.rv_stepper.proofs.code.put_lines.Goals as goal

pub loop-line-preserved : goal.loop-line-preserved
loop-line-preserved c = lines_more c.args.lines.now c.loop-line.line-index _ _ _ _ c.loop-line-test.true c.loop-line.invariant c.in_ok-put_line.ensures
