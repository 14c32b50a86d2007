use Rattle.std.proofs.Common.{◌≡◌, ◌+◌, drop}
use Rattle.c_meaning.specs.Meaning.{groups_before}
use Rattle.c_interpreter.proofs.labels.defaulted.Given as goal

-- the groups before this one were passed
abbrev pub invariant-loop-group : goal.invariant-loop-group
invariant-loop-group l = record {
  before : l.before ≡ l.group-index;
  passed : groups_before (λ g. g.other) l.groups ≡ l.group-index + groups_before (λ g. g.other) (drop l.group-index l.groups);
}
