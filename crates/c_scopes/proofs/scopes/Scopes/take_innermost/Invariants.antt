-- What was taken, the last name first, is what the innermost scope had behind the names that it still has.
use Rattle.std.proofs.Common.{◌≡◌, ◌++◌, drop, length, map, reverse}
use Rattle.c_scopes.specs.ScopeLog.{entry_of, innermost}
use Rattle.c_scopes.proofs.scopes.Scopes.take_innermost.Given as goal

abbrev pub invariant-loop-declared : goal.invariant-loop-declared
invariant-loop-declared l = record {
  taken : innermost l.self ++ map entry_of (reverse l.names.items) ≡ innermost l.initial.self;
  outer : drop 1 l.self ≡ drop 1 l.initial.self;
}

abbrev pub decreases-loop-declared : goal.decreases-loop-declared
decreases-loop-declared l = length (innermost l.self)
