-- The types of the kids so far.
use Rattle.std.proofs.Common.{List, take}
use Rattle.std.specs.Prelude.{filter_map, map}
use Rattle.c_typing.specs.Types.{types_of}
use Rattle.c_typing.specs.Places.{numbers, other_kids}
use Rattle.c_typing.specs.Judgements.{Judgement, type_at}
use Rattle.c_type_ids.specs.Ids.{NamesAll}
use Rattle.c_judgements.specs.Judged.{AreJudged}
use Rattle.c_meanings.specs.Meanings.{node_in, slots_of}
use Rattle.c_declarator_rows.specs.Lengths.{KidsHaveLengths}
use Rattle.c_declarator_rows.proofs.functions.parameter_types.Given as goal

abbrev pub invariant-loop-kid : goal.invariant-loop-kid
invariant-loop-kid l = (js : List Judgement) → AreJudged l.meanings.types (slots_of l.meanings) js → KidsHaveLengths js (other_kids (node_in l.nodes l.node)) →
    NamesAll l.meanings.types l.takes (types_of (filter_map (λ part. part) (take l.kid-index (map (type_at js) (numbers l.kids)))))
