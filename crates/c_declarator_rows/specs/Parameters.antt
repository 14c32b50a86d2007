-- The parameters of functions by their types.
use Rattle.std.specs.Prelude.{ℕ, List, [], ◌∷◌, ◌++◌, Option, Some, None, filter_map, length, map}
use Rattle.c_syntax.specs.declared.syntax.SynNode.{SynNode}
use Rattle.c_types.specs.declared.kind.TypeId.{TypeId}
use Rattle.c_typing.specs.Types.{CType}
use Rattle.c_typing.specs.Places.{other_kids}
use Rattle.c_typing.specs.Judgements.{Fault, Judgement, type_at}
use Rattle.c_typing.specs.Rules.{bad_parameter, many_parameters}
use Rattle.c_meanings.specs.Meanings.{judged_to, node_in}

abbrev pub listed : Option TypeId → List TypeId
listed None = []
listed (Some id) = id ∷ []

-- the types of those of these nodes that have one
abbrev pub types_at : List Judgement → List ℕ → List CType
types_at js ns = filter_map (λ part. part) (map (type_at js) ns)

-- what is asked of the parameters of the node n
abbrev pub parameter_faults : List SynNode → ℕ → List Fault
parameter_faults table n =
    let node = node_in table n in
    many_parameters (length (map (type_at (judged_to table n)) (other_kids node))) node.id ++ bad_parameter (types_at (judged_to table n) (other_kids node)) node.id
