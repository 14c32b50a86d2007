use Rattle.std.proofs.Common.{◌+◌}
use Rattle.c_typing.specs.Conversions.{value_of}
use Rattle.c_type_ids.proofs.TableLaws.{grows_on}
use Rattle.c_values.proofs.GrowLaws.{is_grows}
use Rattle.c_meanings.specs.Meanings.{kid_in}
use Rattle.c_meanings.proofs.MeaningLaws.{left_on, next_kid}
use Rattle.c_expression_rows.proofs.RowLaws.{left_there, right_there}
use Rattle.c_expression_rows.proofs.operands.take_values.Goals as goal

pub take_value-requires-clause-there : goal.take_value-requires-clause-there
take_value-requires-clause-there c = left_there c.args.nodes.now c.args.node c.requires.there

pub take_value-requires-2-clause-there : goal.take_value-requires-2-clause-there
take_value-requires-2-clause-there c = right_there c.args.nodes.now c.args.node c.requires.there

pub take_value-requires-2-clause-ready : goal.take_value-requires-2-clause-ready
take_value-requires-2-clause-ready c =
    let table = c.args.nodes.now in
    let n = c.args.node in
    (kid_in table n 0 + 1, next_kid table n 0 c.args.meanings.now c.requires.ready c.requires.within 0 c.requires.kids, c.in_ok-left.ensures.ready)

pub returns-in_err-left-clause-ready : goal.returns-in_err-left-clause-ready
returns-in_err-left-clause-ready c = (kid_in c.args.nodes.now c.args.node 0 + 1, c.in_err-left.ensures.ready)

pub returns-in_err-right-clause-ready : goal.returns-in_err-right-clause-ready
returns-in_err-right-clause-ready c = (kid_in c.args.nodes.now c.args.node 1 + 1, c.in_err-right.ensures.ready)

pub returns-in_err-right-clause-left : goal.returns-in_err-right-clause-left
returns-in_err-right-clause-left c = left_on c.args.nodes.now c.args.node c.args.meanings.now c.take_value.new.self c.take_value-2.new.self c.in_ok-left.ensures.left c.in_err-right.ensures.left

pub returns-in_err-right-clause-grows : goal.returns-in_err-right-clause-grows
returns-in_err-right-clause-grows c = grows_on c.args.meanings.now.types c.take_value.new.self.types c.take_value-2.new.self.types c.in_ok-left.ensures.grows c.in_err-right.ensures.grows

pub returns-clause-is : goal.returns-clause-is
returns-clause-is c = λ x y a b.
    (is_grows c.take_value.new.self.types c.take_value-2.new.self.types c.in_ok-right.ensures.grows.keeps c.in_ok-left.left (value_of x) (c.in_ok-left.ensures.is x a), c.in_ok-right.ensures.is y b)

pub returns-clause-ready : goal.returns-clause-ready
returns-clause-ready c = (kid_in c.args.nodes.now c.args.node 1 + 1, c.in_ok-right.ensures.ready)

pub returns-clause-left : goal.returns-clause-left
returns-clause-left c = left_on c.args.nodes.now c.args.node c.args.meanings.now c.take_value.new.self c.take_value-2.new.self c.in_ok-left.ensures.left c.in_ok-right.ensures.left

pub returns-clause-grows : goal.returns-clause-grows
returns-clause-grows c = grows_on c.args.meanings.now.types c.take_value.new.self.types c.take_value-2.new.self.types c.in_ok-left.ensures.grows c.in_ok-right.ensures.grows
