use Rattle.std.proofs.Common.{[], ◌∷◌, ◌≡◌, not, sym, subst}
use Rattle.std.specs.Prelude.{if◌then◌else◌}
use Rattle.c_typing.specs.Types.{integer, int}
use Rattle.c_typing.specs.Rules.{gives_int, broken_if, bad_library_name}
use Rattle.c_declared_types.proofs.QuestionLaws.{library_faults}
use Rattle.c_values.proofs.GrowLaws.{type_grows}
use Rattle.c_declared_types.proofs.questions.is_bad_library_name.Goals as goal

pub returns-clause-is : goal.returns-clause-is
returns-clause-is c = λ t n h.
    let one = c.in-Some.takes_int in
    subst (λ d. bad_library_name c.args.name.now d t n ≡ broken_if (not c.is_same.result) 23 n) (sym c.if-not-declares_function.false)
    (library_faults c.args.name.now t n one c.is_same.result (sym c.in-Some.ensures)
    (c.is_same.ensures t (gives_int (if one then integer int ∷ [] else [])) (type_grows c.args.table.now c.function_to_int.new.table c.in_ok-wanted.ensures.grows.keeps c.args.kind t h)
    c.in_ok-wanted.ensures.is))
