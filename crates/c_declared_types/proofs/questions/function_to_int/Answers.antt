use Rattle.c_type_ids.proofs.TableLaws.{grows_on}
use Rattle.c_declared_types.proofs.QuestionLaws.{to_int}
use Rattle.c_declared_types.proofs.questions.function_to_int.Goals as goal

pub returns-clause-is : goal.returns-clause-is
returns-clause-is c =
    to_int c.integer.new.self c.function.new.self c.in_ok-int.int c.args.takes_int c.in_ok-takes.takes c.function.result c.in_ok-int.ensures.ok c.in_ok-takes.ensures c.function.ensures.ok

pub returns-clause-grows : goal.returns-clause-grows
returns-clause-grows c = grows_on c.args.table.now c.integer.new.self c.function.new.self c.in_ok-int.ensures.grows c.function.ensures.grows
