-- What specs say, as the code has it and as the rules do.
use Rattle.std.specs.Prelude.{◌≡◌, ◌<◌, ℕ, List, [], ◌∷◌, Option, Some, None, MatchOption, Result, Ok, Err, filter, flat_map, length, map}
use Rattle.c_syntax.specs.declared.kind.SynKind.{SynKind}
use Rattle.c_syntax.specs.declared.kind.SynKind.TheVariants as kind
use Rattle.c_types.specs.declared.kind.TypeId.{TypeId}
use Rattle.c_typing.specs.Types.{CType}
use Rattle.c_typing.specs.Places.{Node, is_word, kind_at, text_at}
use Rattle.c_typing.specs.Rules.{SpecsPlace, in_block, in_for, in_unit}
use Rattle.c_type_ids.specs.Ids.{Known}
use Rattle.c_values.specs.declared.typings.«Type».{«Type» as TypeForm}
use Rattle.c_values.specs.declared.typings.«Type».TheVariants as type
use Rattle.c_values.specs.Typings.{IsType}
use Rattle.c_answers.specs.declared.refusal.Refusal.{Refusal}
use Rattle.c_declared_types.specs.declared.specs_words.Given.{Given}
use Rattle.c_declared_types.specs.declared.specs_words.Given.TheVariants as given
use Rattle.c_judgements.specs.declared.judged.Judged.{Judged}
use Rattle.c_judgements.specs.declared.judged.Judged.TheVariants as judged
use Rattle.c_declarator_rows.specs.declared.said.Said.{Said}
use Rattle.c_declarator_rows.specs.declared.said.Said.TheVariants as said

-- what is answered with a value, by what is kept of that
abbrev pub as_answer : {A : Type 0} → (A → Judged) → Result A Refusal → Result Judged Refusal
as_answer slot (Ok a) = Ok (slot a)
as_answer slot (Err refused) = Err refused

-- the texts of the words among these nodes
abbrev pub words_in : List Node → List ℕ → List (List ℕ)
words_in s ns = map (text_at s) (filter (λ n. is_word (kind_at s n)) ns)

-- where the specs of a declaration stand, by what the declaration stands in
abbrev pub declaration_place : SynKind → SpecsPlace
declaration_place kind.Unit = in_unit
declaration_place kind.For = in_for
declaration_place outer = in_block

-- they are these types
abbrev pub AreSaid : Known → Said → List CType → Type 0
AreSaid k said.Nothing ts = ts ≡ []
AreSaid k (said.One kind) ts = (t : CType) × (ts ≡ t ∷ []) × IsType k kind t
AreSaid k said.Many ts = 1 < length ts

-- of one node, and of several
abbrev pub Says : Known → Option Said → Option (List CType) → Type 0
Says k found o = MatchOption found (o ≡ None) (λ s. (ts : List CType) × (o ≡ Some ts) × AreSaid k s ts)

abbrev pub SaysAll : Known → Option Said → Option (List (List CType)) → Type 0
SaysAll k found o = MatchOption found (o ≡ None) (λ s. (tss : List (List CType)) × (o ≡ Some tss) × AreSaid k s (flat_map (λ ts. ts) tss))

-- the id in a type
abbrev pub id_of : TypeForm → TypeId
id_of (type.Known id) = id
id_of (type.Unsized id) = id
id_of (type.ToUnsized id) = id

abbrev pub given_of : Said → Given
given_of said.Nothing = given.None
given_of (said.One kind) = given.One (id_of kind)
given_of said.Many = given.Many

abbrev pub kind_by : Said → TypeId → TypeForm
kind_by (said.One kind) id = kind
kind_by other id = type.Known id

abbrev pub as_specs : Said → TypeId → Judged
as_specs s id = judged.«Type» (kind_by s id)
