-- Types that are made of tags.
use Rattle.std.specs.Prelude.{◌<◌, ℕ, List, Result, Ok, Err, length}
use Rattle.c_syntax.specs.declared.syntax.SynNode.{SynNode}
use Rattle.c_types.specs.declared.kind.TypeId.{TypeId}
use Rattle.c_typing.specs.Names.{tag_of}
use Rattle.c_typing.specs.Declarators.{tag_names}
use Rattle.c_names.specs.Denoted.{places_in}
use Rattle.c_values.specs.declared.typings.«Type».TheVariants as type
use Rattle.c_answers.specs.declared.refusal.Refusal.{Refusal}
use Rattle.c_answers.specs.declared.refusal.Refusal.TheVariants as refusal
use Rattle.c_judgements.specs.declared.judged.Judged.{Judged}
use Rattle.c_judgements.specs.declared.judged.Judged.TheVariants as judged
use Rattle.c_meanings.specs.declared.meanings.Meanings.{Meanings}
use Rattle.c_meanings.specs.Meanings.{node_in}

-- the table of types has a place for the struct that the node n names
abbrev pub HasRoom : List SynNode → ℕ → Meanings → Type 0
HasRoom table n m = tag_names (node_in table n) (tag_of (places_in table) (node_in table n).id) < length m.types.structs

abbrev pub as_made : {E : Type 0} → Result TypeId E → Result Judged Refusal
as_made (Ok id) = Ok (judged.«Type» (type.Known id))
as_made (Err e) = Err refusal.OutOfMemory
