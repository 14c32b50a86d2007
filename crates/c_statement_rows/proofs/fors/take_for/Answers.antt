use Rattle.std.proofs.Common.{◌+◌, arith}
use Rattle.c_meanings.specs.Meanings.{kid_in}
use Rattle.c_meanings.proofs.MeaningLaws.{left_on}
use Rattle.c_statement_rows.proofs.ForLaws.{for_made}
use Rattle.c_statement_rows.proofs.fors.take_for.Goals as goal

pub take_first-requires-clause-kids : goal.take_first-requires-clause-kids
take_first-requires-clause-kids c = let h = c.requires.kids in omega (arith, h)

pub take_part-requires-clause-kids : goal.take_part-requires-clause-kids
take_part-requires-clause-kids c = let h = c.requires.kids in omega (arith, h)

pub returns-in_err-first-clause-ready : goal.returns-in_err-first-clause-ready
returns-in_err-first-clause-ready c = (c.in_err-first.ensures.ready.0, c.in_err-first.ensures.ready.2)

pub returns-in_err-test-clause-ready : goal.returns-in_err-test-clause-ready
returns-in_err-test-clause-ready c = (c.in_err-test.ensures.ready.0, c.in_err-test.ensures.ready.2)

pub returns-in_err-step-clause-ready : goal.returns-in_err-step-clause-ready
returns-in_err-step-clause-ready c = (c.in_err-step.ensures.ready.0, c.in_err-step.ensures.ready.2)

pub returns-in_err-test-clause-left : goal.returns-in_err-test-clause-left
returns-in_err-test-clause-left c = left_on c.args.nodes.now c.args.node c.args.meanings.now c.take_first.new.meanings c.take_part.new.meanings c.in_ok-first.ensures.left c.in_err-test.ensures.left

pub returns-in_err-step-clause-left : goal.returns-in_err-step-clause-left
returns-in_err-step-clause-left c =
    let table = c.args.nodes.now in
    let n = c.args.node in
    let old = c.args.meanings.now in
    left_on table n old c.take_part.new.meanings c.take_part-2.new.meanings (left_on table n old c.take_first.new.meanings c.take_part.new.meanings c.in_ok-first.ensures.left c.in_ok-test.ensures.left) c.in_err-step.ensures.left

pub returns-clause-is : goal.returns-clause-is
returns-clause-is c = for_made c.args.nodes.now c.args.node c.for_of.result c.in_ok-first.first c.in_ok-test.test c.in_ok-step.step c.take_code-body.result c.for_of.ensures c.in_ok-test.ensures.is c.in_ok-first.ensures.is c.in_ok-step.ensures.is c.take_code-body.ensures.is

pub returns-clause-ready : goal.returns-clause-ready
returns-clause-ready c = (kid_in c.args.nodes.now c.args.node 3 + 1, c.take_code-body.ensures.ready)

pub returns-clause-left : goal.returns-clause-left
returns-clause-left c =
    let table = c.args.nodes.now in
    let n = c.args.node in
    let old = c.args.meanings.now in
    let third = c.take_part-2.new.meanings in
    left_on table n old third c.take_code-body.new.self (left_on table n old c.take_part.new.meanings third (left_on table n old c.take_first.new.meanings c.take_part.new.meanings c.in_ok-first.ensures.left c.in_ok-test.ensures.left) c.in_ok-step.ensures.left) c.take_code-body.ensures.left
