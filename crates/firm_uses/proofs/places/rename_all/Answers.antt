use Rattle.std.proofs.Common.{◌<◌, get_or, refl, length, arith}
use Rattle.firm_uses.proofs.CountLaws.{times_found}
use Rattle.firm_uses.proofs.TieLaws.{rename_turn_rows, rename_turn_same, rename_turn_left, rename_done}
use Rattle.firm_uses.proofs.places.rename_all.Goals as goal

pub rename-requires : goal.rename-requires
rename-requires c =
    let users = c.args.users.now in
    let user = get_or users c.loop-user.user-index 0 in
    omega (arith, c.requires.there user (times_found user users c.loop-user.user-index 0 c.loop-user-test.true refl), c.loop-user.invariant.0)

pub loop-user-preserved : goal.loop-user-preserved
loop-user-preserved c =
    let users = c.args.users.now in
    let now = c.loop-user.uses.rows in
    let first = c.args.uses.now.rows in
    let user = get_or users c.loop-user.user-index 0 in
    let there : user < length now = omega (arith, c.requires.there user (times_found user users c.loop-user.user-index 0 c.loop-user-test.true refl), c.loop-user.invariant.0) in (
      rename_turn_rows now c.rename.new.self.rows _ user (length first) c.rename.ensures c.loop-user.invariant.0,
      λ x. rename_turn_same first now c.rename.new.self.rows c.args.old c.args.to user x c.requires.differs there c.rename.ensures c.loop-user.invariant.1,
      λ x. rename_turn_left now c.rename.new.self.rows users c.args.old c.args.to c.loop-user.user-index x c.requires.differs c.loop-user-test.true there c.rename.ensures c.loop-user.invariant.2,
    )

pub returns : goal.returns
returns c =
    rename_done c.args.uses.now.rows c.loop-user.uses.rows c.args.users.now c.args.old c.args.to c.loop-user.user-index c.loop-user-test.false
    c.loop-user.invariant.0 c.loop-user.invariant.1 c.loop-user.invariant.2
