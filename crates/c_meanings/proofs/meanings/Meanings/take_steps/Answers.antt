use Rattle.std.specs.Prelude.{is_some}
use Rattle.c_meanings.specs.Meanings.{judged_to}
use Rattle.c_meanings.proofs.MeaningLaws.{steps_taken, take_left, take_ready, take_there, take_within}
use Rattle.c_meanings.proofs.meanings.Meanings.take_steps.Goals as goal

pub take_steps-requires-clause-within : goal.take_steps-requires-clause-within
take_steps-requires-clause-within c = take_within c.args.nodes.now c.args.node 0 c.args.self.now c.requires.within c.requires.kids c.requires.ready c.kid.result c.kid.ensures.is

pub take_steps-requires-clause-there : goal.take_steps-requires-clause-there
take_steps-requires-clause-there c = take_there c.args.nodes.now c.args.node 0 c.args.self.now c.requires.within c.requires.kids c.requires.ready c.kid.result c.kid.ensures.is

pub returns-clause-ready : goal.returns-clause-ready
returns-clause-ready c =
    let js = judged_to c.args.nodes.now c.args.node in
    take_ready c.args.nodes.now c.args.node 0 c.args.self.now c.requires.within c.requires.kids c.requires.ready c.requires.other c.take_steps.new.self (is_some c.take_steps.result) c.kid.result c.kid.ensures.is c.take_steps.ensures.left
    (steps_taken c.args.self.now.types c.take_steps.result js c.kid.result (c.take_steps.ensures.is c.args.self.now.types js c.requires.ready.2.judged))

pub returns-clause-left : goal.returns-clause-left
returns-clause-left c = take_left c.args.nodes.now c.args.node 0 c.args.self.now c.requires.within c.requires.kids c.requires.ready c.requires.other c.take_steps.new.self (is_some c.take_steps.result) c.kid.result c.kid.ensures.is c.take_steps.ensures.left
