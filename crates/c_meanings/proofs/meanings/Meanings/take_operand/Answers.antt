use Rattle.std.proofs.Common.{◌≡◌, sym, subst}
use Rattle.std.specs.Prelude.{is_some}
use Rattle.c_typing.specs.Judgements.{typing_at}
use Rattle.c_meanings.specs.Meanings.{judged_to, kid_in}
use Rattle.c_meanings.proofs.MeaningLaws.{operand_owned, operand_is, some_there, take_left, take_ready, take_there, take_within}
use Rattle.c_meanings.proofs.meanings.Meanings.take_operand.Goals as goal

pub take_typing-requires-clause-within : goal.take_typing-requires-clause-within
take_typing-requires-clause-within c = take_within c.args.nodes.now c.args.node c.args.index c.args.self.now c.requires.within c.requires.kids c.requires.ready c.kid.result c.kid.ensures.is

pub take_typing-requires-clause-there : goal.take_typing-requires-clause-there
take_typing-requires-clause-there c = take_there c.args.nodes.now c.args.node c.args.index c.args.self.now c.requires.within c.requires.kids c.requires.ready c.kid.result c.kid.ensures.is

pub unreachable-requires : goal.unreachable-requires
unreachable-requires c =
    let js = judged_to c.args.nodes.now c.args.node in
    some_there (typing_at js c.kid.result) ((c.in-None.ensures {u = tt}).is c.args.self.now.types js c.requires.ready.2.judged)
    (subst (λ i. is_some (typing_at js i) ≡ _) (sym c.kid.ensures.is) c.requires.there)

pub returns-clause-is : goal.returns-clause-is
returns-clause-is c = λ y e.
    let js = judged_to c.args.nodes.now c.args.node in
    operand_is c.args.self.now.types c.in-Some.typing js c.kid.result (kid_in c.args.nodes.now c.args.node c.args.index) c.kid.ensures.is ((c.in-Some.ensures {u = tt}).is c.args.self.now.types js c.requires.ready.2.judged) y e

pub returns-clause-ready : goal.returns-clause-ready
returns-clause-ready c =
    let js = judged_to c.args.nodes.now c.args.node in
    take_ready c.args.nodes.now c.args.node c.args.index c.args.self.now c.requires.within c.requires.kids c.requires.ready c.requires.other c.take_typing.new.self (is_some c.take_typing.result) c.kid.result c.kid.ensures.is c.take_typing.ensures.left
    (operand_owned c.args.self.now.types c.take_typing.result js c.kid.result (c.take_typing.ensures.is c.args.self.now.types js c.requires.ready.2.judged))

pub returns-clause-left : goal.returns-clause-left
returns-clause-left c = take_left c.args.nodes.now c.args.node c.args.index c.args.self.now c.requires.within c.requires.kids c.requires.ready c.requires.other c.take_typing.new.self (is_some c.take_typing.result) c.kid.result c.kid.ensures.is c.take_typing.ensures.left
