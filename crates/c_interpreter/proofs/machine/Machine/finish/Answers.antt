use Rattle.c_interpreter.specs.Machine.{seen, flow_of}
use Rattle.c_interpreter.proofs.CallLaws.{call_done_at}
use Rattle.c_interpreter.proofs.machine.Machine.finish.Goals as goal

pub returns-in-Call : goal.returns-in-Call
returns-in-Call c =
    call_done_at c.args.place.now (seen c.args.self.now) c.args.frame c.in-Call.function c.in-Call.from c.in-Call.to c.in-Call.active (flow_of c.args.ending)
    c.truncate.new.self.items c.value_of.result c.in-Call.is c.truncate.ensures.items c.value_of.ensures c.requires.whole
