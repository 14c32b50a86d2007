use Rattle.c_typing.specs.Judgements.{typing_at}
use Rattle.c_meanings.specs.Meanings.{judged_to, kid_in}
use Rattle.c_statement_rows.proofs.ForLaws.{behind, dropped_is}
use Rattle.c_statement_rows.proofs.fors.take_dropped.Goals as goal

pub returns-in_err-value-clause-ready : goal.returns-in_err-value-clause-ready
returns-in_err-value-clause-ready c = behind c.args.nodes.now c.args.node 0 c.take_value.new.self c.requires.kids c.requires.within c.in_err-value.ensures.ready

pub returns-clause-is : goal.returns-clause-is
returns-clause-is c = dropped_is c.dropped.result c.in_ok-value.value.code (typing_at (judged_to c.args.nodes.now c.args.node) (kid_in c.args.nodes.now c.args.node 0)) c.dropped.ensures (λ y e. (c.in_ok-value.ensures.is y e).code)

pub returns-clause-ready : goal.returns-clause-ready
returns-clause-ready c = behind c.args.nodes.now c.args.node 0 c.take_value.new.self c.requires.kids c.requires.within c.in_ok-value.ensures.ready
