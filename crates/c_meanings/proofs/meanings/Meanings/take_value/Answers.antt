use Rattle.std.proofs.Common.{refl}
use Rattle.c_type_ids.proofs.IdLaws.{if_ok}
use Rattle.c_meanings.specs.Meanings.{judged_to, kid_in}
use Rattle.c_meanings.proofs.MeaningLaws.{operand_there, ready_grows}
use Rattle.c_meanings.proofs.meanings.Meanings.take_value.Goals as goal

pub value_of-requires : goal.value_of-requires
value_of-requires c =
    operand_there _ c.take_operand-operand.result (judged_to c.args.nodes.now c.args.node) (kid_in c.args.nodes.now c.args.node c.args.index) c.requires.there c.take_operand-operand.ensures.is

pub returns-clause-is : goal.returns-clause-is
returns-clause-is c = if_ok _ _ c.value_of.result (λ x h y e. h y (c.take_operand-operand.ensures.is y e)) c.value_of.ensures.is

pub returns-clause-ready : goal.returns-clause-ready
returns-clause-ready c = ready_grows c.args.nodes.now c.args.node _ c.take_operand-operand.new.self _ c.take_operand-operand.ensures.ready refl c.value_of.ensures.grows
