use Rattle.std.proofs.Common.{◌≡◌, drop}
use Rattle.c_types.proofs.FieldLaws.{named}
use Rattle.c_types.proofs.types.field_named.Given as goal

-- the member is not among the fields before this one
abbrev pub invariant-loop-field : goal.invariant-loop-field
invariant-loop-field l = named l.name (drop l.field-index l.fields) ≡ named l.name l.fields
