use Rattle.std.proofs.Common.{◌≡◌, ◌++◌, drop, map}
use Rattle.c_types.specs.declared.types.Field.{Field}
use Rattle.c_types.specs.Tables.{members_from}
use Rattle.c_types.specs.Kept.{member_of}
use Rattle.c_types.proofs.types.fields_of.Given as goal

-- the fields so far, and what is left
abbrev pub invariant-loop-k : goal.invariant-loop-k
invariant-loop-k l = record {
  members : map member_of l.fields ++ members_from (drop l.k l.members) ≡ members_from l.members;
  offsets : map (λ (field : Field). field.offset) l.fields ++ drop l.k l.offsets ≡ l.offsets;
}
