use Rattle.std.proofs.Common.{[], sym, ◌∙◌}
use Rattle.c_typing.specs.Rules.{gives_int}
use Rattle.c_declared_types.proofs.QuestionLaws.{main_faults}
use Rattle.c_values.proofs.GrowLaws.{type_grows}
use Rattle.c_declared_types.proofs.questions.is_bad_main.Goals as goal

pub returns-clause-is : goal.returns-clause-is
returns-clause-is c = λ t n h.
    main_faults c.args.name.now t n c.is_same.result (sym c.is_main.ensures ∙ c.if-not-is_main.false)
    (c.is_same.ensures t (gives_int []) (type_grows c.args.table.now c.function_to_int.new.table c.in_ok-wanted.ensures.grows.keeps c.args.kind t h) c.in_ok-wanted.ensures.is)
