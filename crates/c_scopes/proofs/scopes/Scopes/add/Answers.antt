-- The log has one more declaration, and the map says it.
use Rattle.std.proofs.Common.{◌<◌, length, reverse, arith}
use Rattle.std.proofs.lemmas.List.{reverse-append}
use Rattle.c_scopes.specs.ScopeLog.{names_of}
use Rattle.c_scopes.proofs.KeptLaws.{added-kept, recorded-updated}
use Rattle.c_scopes.proofs.scopes.Scopes.add.Goals as goal

pub invariant_of-self-in-Ok : goal.invariant_of-self-in-Ok
invariant_of-self-in-Ok c =
    let some : 0 < length (names_of (reverse c.self.inside.log.items)) = grind (arith, c.self.invariant.counts, c.if-self-eq0.false) in
    rw (c.in_ok-push.ensures.items, reverse-append)
    (added-kept _ _ _ _ _ c.self.invariant some c.latest_of-before.ensures
    (rw (← c.declared_again-now.ensures)
    (recorded-updated c.args.name.now c.self.inside.latest c.insert.new.self c.declared_again-now.result c.in-Ok.ensures.updates)))
