-- There are no more scopes than steps in the log, and a `Vec` has fewer than 2 ^ 63 items.
use Rattle.std.proofs.Common.{reverse, arith}
use Rattle.std.proofs.lemmas.List.{length-reverse}
use Rattle.c_scopes.proofs.KeptLaws.{length-names_of}
use Rattle.c_scopes.proofs.scopes.Scopes.open.Goals as goal

pub overflow_add-self : goal.overflow_add-self
overflow_add-self c =
    let steps = c.self.inside.log.items in
    omega (arith, length-names_of (reverse steps), length-reverse steps, c.self.invariant.counts)
