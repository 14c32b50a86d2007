use Rattle.std.proofs.Common.{◌+◌, refl}
use Rattle.std.proofs.lemmas.List.{length-set}
use Rattle.c_interpreter.proofs.Locals.{set_is, set_below}
use Rattle.c_interpreter.proofs.machine.Machine.set_local.Goals as goal

pub returns-then-local-len : goal.returns-then-local-len
returns-then-local-len c =
    let old = c.args.self.now in
    record {
      rest = refl;
      locals = set_is old.words.items old.base c.args.local c.args.word;
      below = set_below old.words.items old.base c.args.local c.args.word;
      long = length-set old.words.items (old.base + c.args.local) c.args.word;
    }
