use Rattle.std.proofs.Common.{◌≡◌, ◌∙◌, ◌<◌, ◌≤◌, suc, ap, ◌+◌, ◌-◌, length, arith, get_or}
use Rattle.cp_obstack.specs.Lists.{list_of}
use Rattle.firm_uses.specs.Tables.{with_list}
use Rattle.firm_uses.proofs.EditLaws.{moved_up, remove_turn, remove_done}
use Rattle.firm_uses.proofs.rows.Rows.remove.Goals as goal

pub loop-at-preserved : goal.loop-at-preserved
loop-at-preserved c =
    let within : suc c.loop-at.at < length (list_of c.args.self.now.rows c.args.row) = omega (arith, c.loop-at.invariant.1, c.loop-at-test.true) in (
      c.set.ensures.rows ∙ remove_turn c.args.self.now.rows c.loop-at.self.rows c.args.row c.args.index c.loop-at.at _ c.requires.there c.loop-at.auto.at within c.loop-at.invariant.0
          (ap (λ l. get_or l (c.loop-at.at + 1) 0) c.list-in-loop-at.ensures),
      c.loop-at.invariant.1,
    )

pub returns : goal.returns
returns c =
    let rows = c.args.self.now.rows in
    let last = length c.list.result.now - 1 in
    let before : c.args.index ≤ last = omega (arith, c.requires.within, c.loop-at.invariant.1) in
    let at_end : c.loop-at.at ≡ last = omega (arith, c.loop-at.auto.at-end before, c.loop-at-test.false) in
    c.truncate.ensures ∙ remove_done rows c.loop-at.self.rows c.args.row c.args.index last c.requires.there c.requires.within c.loop-at.invariant.1
    (c.loop-at.invariant.0 ∙ ap (λ at. with_list rows c.args.row (moved_up (list_of rows c.args.row) c.args.index at)) at_end)
