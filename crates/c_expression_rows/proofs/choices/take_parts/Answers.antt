use Rattle.std.proofs.Common.{◌+◌, arith}
use Rattle.c_typing.specs.Conversions.{value_of}
use Rattle.c_type_ids.proofs.TableLaws.{grows_on}
use Rattle.c_values.proofs.GrowLaws.{is_grows}
use Rattle.c_meanings.specs.Meanings.{kid_in}
use Rattle.c_meanings.proofs.MeaningLaws.{left_on, next_kid}
use Rattle.c_expression_rows.proofs.choices.take_parts.Goals as goal

pub take_value-requires-2-clause-ready : goal.take_value-requires-2-clause-ready
take_value-requires-2-clause-ready c =
    let table = c.args.nodes.now in
    let n = c.args.node in
    (kid_in table n 0 + 1, next_kid table n 0 c.args.meanings.now c.requires.ready c.requires.within 0 (let h = c.requires.kids in omega (arith, h)), c.in_ok-decides.ensures.ready)

pub take_value-requires-3-clause-ready : goal.take_value-requires-3-clause-ready
take_value-requires-3-clause-ready c =
    let table = c.args.nodes.now in
    let n = c.args.node in
    (kid_in table n 1 + 1, next_kid table n 0 c.args.meanings.now c.requires.ready c.requires.within 1 c.requires.kids, c.in_ok-first.ensures.ready)

pub returns-in_err-decides-clause-ready : goal.returns-in_err-decides-clause-ready
returns-in_err-decides-clause-ready c = (kid_in c.args.nodes.now c.args.node 0 + 1, c.in_err-decides.ensures.ready)

pub returns-in_err-first-clause-ready : goal.returns-in_err-first-clause-ready
returns-in_err-first-clause-ready c = (kid_in c.args.nodes.now c.args.node 1 + 1, c.in_err-first.ensures.ready)

pub returns-in_err-first-clause-left : goal.returns-in_err-first-clause-left
returns-in_err-first-clause-left c = left_on c.args.nodes.now c.args.node c.args.meanings.now c.take_value.new.self c.take_value-2.new.self c.in_ok-decides.ensures.left c.in_err-first.ensures.left

pub returns-in_err-first-clause-grows : goal.returns-in_err-first-clause-grows
returns-in_err-first-clause-grows c = grows_on c.args.meanings.now.types c.take_value.new.self.types c.take_value-2.new.self.types c.in_ok-decides.ensures.grows c.in_err-first.ensures.grows

pub returns-in_err-second-clause-ready : goal.returns-in_err-second-clause-ready
returns-in_err-second-clause-ready c = (kid_in c.args.nodes.now c.args.node 2 + 1, c.in_err-second.ensures.ready)

pub returns-in_err-second-clause-left : goal.returns-in_err-second-clause-left
returns-in_err-second-clause-left c =
    let table = c.args.nodes.now in
    let n = c.args.node in
    left_on table n c.args.meanings.now c.take_value-2.new.self c.take_value-3.new.self (left_on table n c.args.meanings.now c.take_value.new.self c.take_value-2.new.self c.in_ok-decides.ensures.left c.in_ok-first.ensures.left) c.in_err-second.ensures.left

pub returns-in_err-second-clause-grows : goal.returns-in_err-second-clause-grows
returns-in_err-second-clause-grows c =
    let a = c.args.meanings.now.types in
    let d = c.take_value-2.new.self.types in
    grows_on a d c.take_value-3.new.self.types (grows_on a c.take_value.new.self.types d c.in_ok-decides.ensures.grows c.in_ok-first.ensures.grows) c.in_err-second.ensures.grows

pub returns-clause-is : goal.returns-clause-is
returns-clause-is c = λ d x y e a b.
    let one = c.take_value.new.self.types in
    let two = c.take_value-2.new.self.types in
    let three = c.take_value-3.new.self.types in (
      is_grows one three (grows_on one two three c.in_ok-first.ensures.grows c.in_ok-second.ensures.grows).keeps c.in_ok-decides.decides (value_of d) (c.in_ok-decides.ensures.is d e),
      is_grows two three c.in_ok-second.ensures.grows.keeps c.in_ok-first.first (value_of x) (c.in_ok-first.ensures.is x a),
      c.in_ok-second.ensures.is y b,
    )

pub returns-clause-ready : goal.returns-clause-ready
returns-clause-ready c = (kid_in c.args.nodes.now c.args.node 2 + 1, c.in_ok-second.ensures.ready)

pub returns-clause-left : goal.returns-clause-left
returns-clause-left c =
    let table = c.args.nodes.now in
    let n = c.args.node in
    left_on table n c.args.meanings.now c.take_value-2.new.self c.take_value-3.new.self (left_on table n c.args.meanings.now c.take_value.new.self c.take_value-2.new.self c.in_ok-decides.ensures.left c.in_ok-first.ensures.left) c.in_ok-second.ensures.left

pub returns-clause-grows : goal.returns-clause-grows
returns-clause-grows c =
    let a = c.args.meanings.now.types in
    let d = c.take_value-2.new.self.types in
    grows_on a d c.take_value-3.new.self.types (grows_on a c.take_value.new.self.types d c.in_ok-decides.ensures.grows c.in_ok-first.ensures.grows) c.in_ok-second.ensures.grows
