-- The members that the kids so far declare.
use Rattle.std.proofs.Common.{◌≡◌, List, Some, take}
use Rattle.std.specs.Prelude.{map}
use Rattle.c_typing.specs.Types.{Field}
use Rattle.c_typing.specs.Places.{numbers, other_kids}
use Rattle.c_typing.specs.Judgements.{Judgement, all_of}
use Rattle.c_typing.specs.Declarators.{member_at}
use Rattle.c_names.specs.Denoted.{places_in}
use Rattle.c_type_ids.specs.Ids.{AreMembers}
use Rattle.c_judgements.specs.Judged.{AreJudged}
use Rattle.c_meanings.specs.Meanings.{node_in, slots_of}
use Rattle.c_declarator_rows.specs.Lengths.{KidsHaveLengths}
use Rattle.c_declarator_rows.proofs.members.all_members.Given as goal

abbrev pub invariant-loop-kid : goal.invariant-loop-kid
invariant-loop-kid l = (js : List Judgement) → AreJudged l.meanings.types (slots_of l.meanings) js → KidsHaveLengths js (other_kids (node_in l.nodes l.node)) →
    (fields : List Field) × (all_of (take l.kid-index (map (member_at (places_in l.nodes) js) (numbers l.kids))) ≡ Some fields) × AreMembers l.meanings.types l.members fields
