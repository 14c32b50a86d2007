use Rattle.c_typing.specs.Declarators.{build}
use Rattle.c_values.specs.Typings.{IsType}
use Rattle.c_answers.proofs.AnswerLaws.{handed_on}
use Rattle.std.proofs.Common.{◌≡◌, ◌∙◌, sym, subst}
use Rattle.std.specs.Prelude.{Result, Ok, Err, IfOk}
use Rattle.c_types.specs.declared.kind.TypeId.{TypeId}
use Rattle.c_values.specs.declared.typings.«Type».{«Type» as TypeForm}
use Rattle.c_values.specs.declared.typings.«Type».TheVariants as type
use Rattle.c_declared_types.specs.Steps.{AreFrom}
use Rattle.c_declared_types.proofs.BuildLaws.{outer_some, refused_within, with_length, lengthless}
use Rattle.c_declared_types.proofs.built.build.Goals as goal

pub built_on-requires-clause-steps : goal.built_on-requires-clause-steps
built_on-requires-clause-steps c = outer_some c.args.table.now c.args.steps.without_length c.args.steps.outer.items c.requires.steps

pub returns-in_err-id-clause-is : goal.returns-in_err-id-clause-is
returns-in_err-id-clause-is c = λ ls t ss laid named h.
    handed_on (λ kind. IsType c.built_on.new.table kind (build ls t ss).type) c.from_residual.result (build ls t ss).faults c.in_err-id.field-0.0 c.from_residual.ensures.1
    (refused_within c.args.table.now c.built_on.new.table ls t c.args.steps.outer.items c.args.steps.without_length c.in_err-id.field-0.0 (λ xs placed. c.in_err-id.ensures.is ls t xs laid named placed) ss h)

pub returns-in-None-clause-is : goal.returns-in-None-clause-is
returns-in-None-clause-is c = λ ls t ss laid named h.
    with_length c.args.table.now c.built_on.new.table ls t c.args.steps.outer.items c.in_ok-id.id (λ xs placed. c.in_ok-id.ensures.is ls t xs laid named placed) ss
    (subst (λ w. AreFrom c.args.table.now w c.args.steps.outer.items ss) c.in-None.is h)

pub returns-in-Some-clause-is : goal.returns-in-Some-clause-is
returns-in-Some-clause-is c = λ ls t ss laid named h.
    lengthless c.args.table.now c.built_on.new.table ls t c.args.steps.outer.items c.in-Some.node c.in_ok-id.id c.without_length.result (λ xs placed. c.in_ok-id.ensures.is ls t xs laid named placed)
    (λ u is. c.without_length.ensures.is ls u (c.in_ok-id.ensures.grows.laid ls laid) is) ss
    (subst (λ w. AreFrom c.args.table.now w c.args.steps.outer.items ss) c.in-Some.is h)

-- an array without a length has no id
no_id : {E : Type 0} → (r : Result TypeForm E) (element id : TypeId) → IfOk r (λ kind. kind ≡ type.Unsized element) → r ≡ Ok (type.Known id) → ⊥
no_id (Ok kind) element id e is =
    let same : kind ≡ type.Known id = cc is in
    absurd (cc (sym e ∙ same))
no_id (Err e) element id h is = absurd (cc is)

pub returns-in-Some-clause-there : goal.returns-in-Some-clause-there
returns-in-Some-clause-there c = λ id e. absurd (no_id c.without_length.result c.in_ok-id.id id c.without_length.ensures.lengthless e)
