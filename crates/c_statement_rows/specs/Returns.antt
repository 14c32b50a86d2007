-- What a statement that may break a rule does.
use Rattle.std.specs.Prelude.{List, Option, Some, None, Result, Ok, Err}
use Rattle.c_types.specs.declared.kind.TypeId.{TypeId}
use Rattle.c_values.specs.declared.typings.«Type».{«Type» as TypeForm}
use Rattle.c_values.specs.declared.typings.«Type».TheVariants as type
use Rattle.c_types.specs.declared.tree.Stmt.{Stmt}
use Rattle.c_answers.specs.declared.refusal.Refusal.{Refusal}
use Rattle.c_judgements.specs.declared.judged.Judged.{Judged}
use Rattle.c_judgements.specs.declared.judged.Judged.TheVariants as judged

-- the node does this, or breaks a rule
abbrev pub as_performed : Result (List Stmt) Refusal → Result Judged Refusal
as_performed (Ok code) = Ok (judged.Performs code)
as_performed (Err refused) = Err refused

-- a type that has an id alone
abbrev pub id_alone : TypeForm → Option TypeId
id_alone (type.Known id) = Some id
id_alone other = None
