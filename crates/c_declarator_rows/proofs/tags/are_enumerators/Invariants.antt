-- The kids so far are enumerators with a value.
use Rattle.std.proofs.Common.{◌≡◌, ℕ, List, Some, take}
use Rattle.std.specs.Prelude.{map}
use Rattle.c_typing.specs.Places.{numbers}
use Rattle.c_typing.specs.Judgements.{Judgement, all_of, judgement_at}
use Rattle.c_typing.specs.Expressions.{word_of_enumerator}
use Rattle.c_judgements.specs.Judged.{AreJudged}
use Rattle.c_meanings.specs.Meanings.{slots_of}
use Rattle.c_declarator_rows.proofs.tags.are_enumerators.Given as goal

abbrev pub invariant-loop-kid : goal.invariant-loop-kid
invariant-loop-kid l = (js : List Judgement) → AreJudged l.meanings.types (slots_of l.meanings) js →
    (values : List ℕ) × (all_of (take l.kid-index (map (λ n. word_of_enumerator (judgement_at js n)) (numbers l.kids))) ≡ Some values)
