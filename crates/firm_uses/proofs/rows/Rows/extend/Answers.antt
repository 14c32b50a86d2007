use Rattle.std.proofs.Common.{◌∙◌, ap, arith, get_or}
use Rattle.firm_uses.proofs.EditLaws.{extend_turn, on_ok}
use Rattle.firm_uses.proofs.rows.Rows.extend.Goals as goal

pub loop-index-preserved : goal.loop-index-preserved
loop-index-preserved c =
    let turn = c.loop-index-test.true in
    let pushed = c.push.ensures.within (omega (arith, c.loop-index.invariant.1, turn)) in (
      on_ok c.push.result pushed c.push.ensures.ok
          ∙ extend_turn c.args.self.now.rows c.loop-index.self.rows c.args.row c.args.from c.loop-index.index _ c.requires.there c.requires.differs (omega (arith, turn, c.loop-index.invariant.2)) c.loop-index.invariant.0
          (ap (λ l. get_or l c.loop-index.index 0) c.list.ensures),
      omega (arith, c.loop-index.invariant.1, on_ok c.push.result pushed c.push.ensures.room),
      c.loop-index.invariant.2,
    )
