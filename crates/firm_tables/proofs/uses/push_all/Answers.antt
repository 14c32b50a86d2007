use Rattle.std.proofs.Common.{◌<◌, ◌++◌, ◌∷◌, [], ◌∙◌, sym, ap, length, suc, arith, get_or}
use Rattle.std.proofs.lemmas.List.{get_or-set_other}
use Rattle.cp_obstack.specs.Lists.{list_of}
use Rattle.firm_tables.specs.Nodes.{numbers}
use Rattle.firm_tables.proofs.MemberLaws.{number_at, numbers_long}
use Rattle.firm_tables.proofs.NodeLaws.{covers_set, front_pushed}
use Rattle.firm_tables.proofs.uses.push_all.Goals as goal

pub push-requires-clause-used : goal.push-requires-clause-used
push-requires-clause-used c =
    let list = c.args.list.now in
    omega (
      arith,
      c.requires.list c.loop-used.used-index c.loop-used-test.true,
      number_at list c.loop-used.used-index (record { number = 0 }) c.loop-used-test.true,
      c.loop-used.invariant.0.used_ones,
    )

pub loop-used-preserved : goal.loop-used-preserved
loop-used-preserved c =
    let list = c.args.list.now in
    let at = c.loop-used.used-index in
    let rows = c.loop-used.uses.uses in
    let number = (get_or list at (record { number = 0 })).number in
    let within : at < length (numbers list) = omega (arith, c.loop-used-test.true, numbers_long list) in
    let there : c.args.user < length rows = omega (arith, c.loop-used.invariant.0.users) in (
      covers_set (suc c.args.user) c.args.user (list_of rows c.args.user ++ number ∷ []) c.loop-used.uses c.push.new.self c.loop-used.invariant.0 c.in_ok-push.ensures.ok c.push.ensures.loads,
      front_pushed rows c.push.new.self.uses c.args.user at number (numbers list) there within c.loop-used.invariant.1
          (sym (number_at list at (record { number = 0 }) c.loop-used-test.true)) c.in_ok-push.ensures.ok,
      λ other ne. ap (λ ls. list_of ls other) c.in_ok-push.ensures.ok ∙ get_or-set_other rows c.args.user other (list_of rows c.args.user ++ number ∷ []) [] ne
          ∙ c.loop-used.invariant.2 other ne,
    )
