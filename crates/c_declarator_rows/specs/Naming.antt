-- What is asked of what names are, by their types.
use Rattle.std.specs.Prelude.{ℕ, Bool, true, false, List, [], ◌++◌, Result, Ok, Err}
use Rattle.c_types.specs.declared.kind.TypeId.{TypeId}
use Rattle.c_typing.specs.Types.{CType, Layout}
use Rattle.c_typing.specs.Names.{Entity, automatic, enumerator, function_name, parameter, static_object}
use Rattle.c_typing.specs.Judgements.{Fault}
use Rattle.c_typing.specs.Rules.{bad_main, local_array_or_struct}
use Rattle.c_typing.specs.Declarators.{object_size, parameter_size}
use Rattle.c_values.specs.declared.typings.«Type».{«Type» as TypeForm}
use Rattle.c_values.specs.declared.typings.«Type».TheVariants as type
use Rattle.c_answers.specs.declared.refusal.Refusal.{Refusal}
use Rattle.c_answers.specs.declared.refusal.Refusal.TheVariants as refusal

abbrev pub kind_faults : List Layout → CType → ℕ → Entity → List Fault
kind_faults ls t n static_object = object_size ls t n
kind_faults ls t n automatic = object_size ls t n ++ local_array_or_struct t n
kind_faults ls t n (parameter i) = parameter_size t n
kind_faults ls t n e = []

abbrev pub as_known : {E : Type 0} → Result TypeId E → Result TypeForm Refusal
as_known (Ok id) = Ok (type.Known id)
as_known (Err e) = Err refusal.OutOfMemory

abbrev pub is_function : Entity → Bool
is_function function_name = true
is_function e = false

abbrev pub is_enumerator : Entity → Bool
is_enumerator enumerator = true
is_enumerator e = false

-- of a function alone
abbrev pub main_faults : List ℕ → CType → ℕ → Bool → List Fault
main_faults text t n true = bad_main text t n
main_faults text t n false = []
