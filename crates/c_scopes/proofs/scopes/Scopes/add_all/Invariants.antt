-- With the names that are left, the scopes become what they shall be.
use Rattle.std.proofs.Common.{◌≡◌, drop, map}
use Rattle.c_grammar.specs.Scopes.{add}
use Rattle.c_scopes.specs.ScopeLog.{entry_of}
use Rattle.c_scopes.proofs.scopes.Scopes.add_all.Given as goal

abbrev pub invariant-loop-declared : goal.invariant-loop-declared
invariant-loop-declared l = add l.self (map entry_of (drop l.declared-index l.names)) ≡ add l.initial.self (map entry_of l.names)
