-- What parentheses mean by what stands in them.
use Rattle.std.proofs.Common.{◌≡◌, ◌<◌, ℕ, Bool, true, false, List, Option, Some, None, length, refl, sym, ap, ◌∙◌, subst}
use Rattle.std.specs.Prelude.{Ok, if◌then◌else◌}
use Rattle.c_syntax.specs.declared.kind.SynKind.TheVariants as kind
use Rattle.c_syntax.specs.declared.syntax.SynNode.{SynNode}
use Rattle.c_typing.specs.Places.{is_whole, parent_of, specs_of}
use Rattle.c_typing.specs.Judgements as rules
use Rattle.c_typing.specs.Judgements.{Judgement, given, layouts, means, steps_at, type_at, typing_at, waits}
use Rattle.c_typing.specs.Expressions.{expression}
use Rattle.c_typing.specs.Declarators.{build, declarator, whole_type}
use Rattle.c_typing.specs.Typing.{in_parentheses, judged_by}
use Rattle.c_nodes.specs.Parents.{nodes_in}
use Rattle.c_names.specs.Denoted.{places_in}
use Rattle.c_type_ids.proofs.TableLaws.{grows_same}
use Rattle.c_declared_types.specs.declared.steps.Steps.{Steps}
use Rattle.c_declared_types.specs.Steps.{AreSteps}
use Rattle.c_judgements.specs.declared.judged.Judged.TheVariants as judged
use Rattle.c_values.specs.declared.typings.Typing.{Typing}
use Rattle.c_values.specs.Typings.{Is}
use Rattle.c_meanings.specs.declared.meanings.Meanings.{Meanings}
use Rattle.c_meanings.specs.Meanings.{AreLeft, IsAnswered, IsReady, IsRow, judged_at, judged_to, kid_in, node_in}
use Rattle.c_meanings.proofs.MeaningLaws.{grown_row, waits_answered}

module _ (table : List SynNode) (n : ℕ) where
  abbrev inside : Option rules.Typing
  inside = typing_at (judged_to table n) (kid_in table n 0)

  abbrev steps_inside : Option (List rules.PlacedStep)
  steps_inside = steps_at (judged_to table n) (kid_in table n 0)

  module _ (is : (node_in table n).label.kind ≡ kind.Paren) where
    parentheses_are : judged_at table n ≡ in_parentheses (places_in table) (judged_to table n) (node_in table n) inside
    unfolding judged_at judged_by
    parentheses_are = ap (judged_by (places_in table) (judged_to table n) (node_in table n)) is

    pub expression_inside : (x : rules.Typing) → inside ≡ Some x → judged_at table n ≡ means (expression x)
    expression_inside x e = parentheses_are ∙ ap (in_parentheses (places_in table) (judged_to table n) (node_in table n)) e

    declarator_inside : inside ≡ None → judged_at table n ≡ given steps_inside (declarator (places_in table) (judged_to table n) (node_in table n))
    declarator_inside none = parentheses_are ∙ ap (in_parentheses (places_in table) (judged_to table n) (node_in table n)) none

    pub nothing_inside : inside ≡ None → steps_inside ≡ None → judged_at table n ≡ waits
    nothing_inside none e = declarator_inside none ∙ ap (λ o. given o (declarator (places_in table) (judged_to table n) (node_in table n))) e

    pub part_inside : inside ≡ None → (ss : List rules.PlacedStep) → steps_inside ≡ Some ss → is_whole (nodes_in table) (node_in table n) ≡ false → judged_at table n ≡ means (rules.steps ss)
    unfolding declarator places_in nodes_in
    part_inside none ss e part =
        declarator_inside none ∙ ap (λ o. given o (declarator (places_in table) (judged_to table n) (node_in table n))) e
        ∙ ap (λ b. if b then whole else means (rules.steps ss)) part
      where
        whole : Judgement
        whole = given (type_at (judged_to table n) (specs_of (nodes_in table) (parent_of (nodes_in table) (node_in table n).id)).id)
            (λ base. whole_type (places_in table) (judged_to table n) (node_in table n) (parent_of (nodes_in table) (node_in table n).id) (build (layouts (judged_to table n)) base ss))

  module _ (low : ℕ) (old mid : Meanings) (r : IsReady table n low mid) (within : n < length table) (left : AreLeft table n old mid) where
    pub steps_row : (ss : Steps) (rs : List rules.PlacedStep) → judged_at table n ≡ means (rules.steps rs) → AreSteps mid.types ss rs → IsRow table n old mid (Ok (judged.Steps ss))
    steps_row ss rs same are =
        grown_row table n low old mid mid (Ok (judged.Steps ss)) r within left refl (grows_same mid.types mid.types refl) refl
        (subst (IsAnswered mid.types (Ok (judged.Steps ss))) (sym same) (refl, are, refl))

    pub operand_row : (x : Typing) (y : rules.Typing) → judged_at table n ≡ means (expression y) → Is mid.types x y → IsRow table n old mid (Ok (judged.Expresses x))
    operand_row x y same is =
        grown_row table n low old mid mid (Ok (judged.Expresses x)) r within left refl (grows_same mid.types mid.types refl) refl
        (subst (IsAnswered mid.types (Ok (judged.Expresses x))) (sym same) (refl, is, refl))

    pub waiting_after : judged_at table n ≡ waits → IsRow table n old mid (Ok judged.Waits)
    waiting_after none =
        grown_row table n low old mid mid (Ok judged.Waits) r within left refl (grows_same mid.types mid.types refl) refl (waits_answered mid.types (judged_at table n) none)

-- a part of a declarator is not whole
pub is_part : (b : Bool) {X : Type 0} (o : Option X) (x : X) → (b ≡ true → o ≡ None) → o ≡ Some x → b ≡ false
is_part true o x part e = absurd (cc (part refl, e))
is_part false o x part e = refl
