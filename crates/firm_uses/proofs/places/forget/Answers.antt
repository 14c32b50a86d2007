use Rattle.std.proofs.Common.{◌∙◌, get_or}
use Rattle.cp_obstack.specs.Lists.{list_of}
use Rattle.firm_uses.specs.Counts.{times}
use Rattle.firm_uses.proofs.CountLaws.{row_is_there}
use Rattle.firm_uses.proofs.TieLaws.{still_among, forget_turn}
use Rattle.firm_uses.proofs.places.forget.Goals as goal

pub forget_one-requires-clause-there : goal.forget_one-requires-clause-there
forget_one-requires-clause-there c =
    let all = c.args.all_used.now in
    let used = get_or all c.loop-used.used-index 0 in
    row_is_there c.loop-used.users.rows used c.args.user
    (still_among all c.loop-used.used-index c.args.user (times c.args.user (list_of c.loop-used.users.rows used)) _ c.loop-used-test.true (c.loop-used.invariant.1 c.args.user used) (c.requires used))

pub forget_one-requires-clause-among : goal.forget_one-requires-clause-among
forget_one-requires-clause-among c =
    let all = c.args.all_used.now in
    let used = get_or all c.loop-used.used-index 0 in
    still_among all c.loop-used.used-index c.args.user (times c.args.user (list_of c.loop-used.users.rows used)) _ c.loop-used-test.true (c.loop-used.invariant.1 c.args.user used) (c.requires used)

pub loop-used-preserved : goal.loop-used-preserved
loop-used-preserved c = (
  c.forget_one.ensures.length ∙ c.loop-used.invariant.0,
  λ x used. forget_turn c.args.users.now.rows c.loop-used.users.rows c.forget_one.new.users.rows c.args.all_used.now c.loop-used.used-index c.args.user x used
      c.loop-used-test.true c.forget_one.ensures.this c.forget_one.ensures.others (c.loop-used.invariant.1 x used),
)
