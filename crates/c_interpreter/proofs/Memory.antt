-- A copy that may not be made.
use Rattle.std.proofs.Common.{◌≡◌, ℕ, List, Some, None, refl, arith}
use Rattle.run_model.specs.declared.outcome.Outcome.TheVariants.{Undefined}
use Rattle.run_model.specs.Accesses.{copied}
use Rattle.c_interpreter.specs.declared.frame.Frame.TheVariants as frame
use Rattle.c_interpreter.specs.declared.frame.Task.TheVariants as task
use Rattle.c_interpreter.specs.declared.machine.Place.{Place}
use Rattle.c_interpreter.specs.Machine.{Gave, Configuration, IsSound}
use Rattle.c_interpreter.specs.Leading.{Continues}
use Rattle.c_interpreter.proofs.Resume.{settled_here}

pub copy_failed : (place : Place) (c : Configuration) (bytes : List ℕ) (size align to from : ℕ) → copied place.base c.bytes size align to from ≡ None → bytes ≡ c.bytes → IsSound c
    → Continues place c (frame.Copy size align to) (Gave (Some from)) (record c { bytes = bytes }) (task.Stop Undefined)
copy_failed place c bytes size align to from none same sound =
    rw same (settled_here place c _ _ (task.Stop Undefined) (λ again before. rw none refl) (omega arith) sound)
