-- What the kids so far say.
use Rattle.std.proofs.Common.{◌≡◌, List, Some, take}
use Rattle.std.specs.Prelude.{flat_map, map}
use Rattle.c_typing.specs.Types.{CType}
use Rattle.c_typing.specs.Places.{numbers}
use Rattle.c_typing.specs.Judgements.{Judgement, all_of, judgement_at}
use Rattle.c_typing.specs.Declarators.{spec_meaning}
use Rattle.c_judgements.specs.Judged.{AreJudged}
use Rattle.c_meanings.specs.Meanings.{slots_of}
use Rattle.c_declarator_rows.specs.Said.{AreSaid}
use Rattle.c_declarator_rows.proofs.said.said_by.Given as goal

abbrev pub invariant-loop-kid : goal.invariant-loop-kid
invariant-loop-kid l = (js : List Judgement) → AreJudged l.meanings.types (slots_of l.meanings) js →
    (tss : List (List CType)) × (all_of (take l.kid-index (map (λ n. spec_meaning (judgement_at js n)) (numbers l.kids))) ≡ Some tss) × AreSaid l.meanings.types l.said (flat_map (λ ts. ts) tss)
