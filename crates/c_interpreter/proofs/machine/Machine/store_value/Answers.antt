use Rattle.std.proofs.Common.{Some}
use Rattle.c_interpreter.specs.declared.frame.Frame.TheVariants as frame
use Rattle.c_interpreter.specs.Machine.{seen, Gave}
use Rattle.c_interpreter.specs.Leading.{frame_meaning}
use Rattle.c_interpreter.specs.Weights.{frame_weight}
use Rattle.c_interpreter.proofs.Plain.{opened_plain, store_opens}
use Rattle.c_interpreter.proofs.machine.Machine.store_value.Goals as goal

pub returns-in-Some : goal.returns-in-Some
returns-in-Some c =
    opened_plain c.args.place.now (seen c.args.self.now) (seen c.store.new.self) _ _ (frame.Store c.args.kind c.args.to) c.args.value _ c.store.result
    (store_opens c.args.kind c.args.to c.args.value) c.in-Some.ensures c.store.ensures

pub returns-in-None : goal.returns-in-None
returns-in-None c =
    c.push.ensures c.args.place.now (frame_meaning (frame.StoreTo c.args.kind c.args.value) (Gave (Some c.args.to))) (frame_weight (frame.StoreTo c.args.kind c.args.value))
    (store_opens c.args.kind c.args.to c.args.value) c.requires
