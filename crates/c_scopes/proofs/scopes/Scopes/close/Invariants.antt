-- The scopes around the one that closes stay.
use Rattle.std.proofs.Common.{◌≡◌, drop, length}
use Rattle.c_scopes.specs.ScopeLog.{innermost}
use Rattle.c_scopes.proofs.scopes.Scopes.close.Given as goal

abbrev pub invariant-loop : goal.invariant-loop
invariant-loop l = drop 1 l.self ≡ drop 1 l.initial.self

abbrev pub decreases-loop : goal.decreases-loop
decreases-loop l = length (innermost l.self)
