use Rattle.std.proofs.Common.{◌≡◌, [], drop}
use Rattle.c_declared_types.specs.Members.{named_in, texts_of}
use Rattle.c_declared_types.proofs.MemberLaws.{first_twice}
use Rattle.c_declared_types.proofs.members.check_names.Given as goal

abbrev pub invariant-loop-k : goal.invariant-loop-k
invariant-loop-k l = first_twice (texts_of l.names) (named_in (drop l.k l.members) (drop l.k l.nodes)) ≡ first_twice [] (named_in l.members l.nodes)
