-- String literals.
use Rattle.std.proofs.Common.{◌≡◌, ◌+◌, ◌≤◌, ◌<◌, ◌-◌, ◌^◌, ℕ, List, [], ◌∷◌, length, min, if◌then◌else◌, ap, refl, arith}
use Rattle.std.proofs.lemmas.Bool.{le-ltb}
use Rattle.std.specs.Prelude.{Ok}
use Rattle.c_types.specs.declared.kind.TypeId.{TypeId}
use Rattle.c_types.specs.declared.kind.TypeKind.TheVariants as kind
use Rattle.c_types.specs.declared.kind.TheConstants.{MAX_SIZE}
use Rattle.c_types.specs.Sizes.{IsSized, basic}
use Rattle.c_typing.specs.Types.{integer, char}
use Rattle.c_typing.specs.Judgements.{Judgement, too_big, verdict}
use Rattle.c_typing.specs.Names.{Places}
use Rattle.c_typing.specs.Rules.{size_fault}
use Rattle.c_typing.specs.Expressions.{expression, literal}
use Rattle.c_type_ids.specs.Ids.{Known, Names}
use Rattle.c_values.specs.declared.typings.Typing.{Typing}
use Rattle.c_answers.specs.Answers.{Expresses}
use Rattle.c_answers.proofs.AnswerLaws.{answers_means}
use Rattle.c_values.specs.Typings.{Is}
use Rattle.c_places.specs.Places.{IsAnswer}

pub char_sized : (k : Known) (id : TypeId) → Names k id (integer char) → IsSized k.table id
char_sized k id named = (record { size = 1; align = 1 }, (kind.Char, named, basic kind.Char (record { size = 1; align = 1 }) refl))

pub literal_fits : (k : Known) (x : Typing) (bytes node : ℕ) (p : Places) (js : List Judgement) (text : List ℕ) → length text ≡ bytes → bytes < MAX_SIZE
    → Is k x (literal p js text) → IsAnswer k (Ok x) (verdict (size_fault (length text + 1) node) (expression (literal p js text)))
literal_fits k x bytes node p js text same below is =
    let within : length text + 1 ≤ MAX_SIZE = omega (arith, below, same) in
    answers_means (Expresses k 0) x (size_fault (length text + 1) node) (expression (literal p js text))
    (ap (λ b. if b then too_big node (min (length text + 1) (2 ^ 64 - 1)) ∷ [] else []) (le-ltb MAX_SIZE (length text + 1) within)) (is, refl)
