use Rattle.std.proofs.Common.{[], sym}
use Rattle.c_typing.specs.Declarators.{said_type}
use Rattle.c_declared_types.specs.Words.{said_of}
use Rattle.c_declared_types.proofs.WordLaws.{no_type, some_said}
use Rattle.c_declared_types.proofs.specs_words.type_of_words.Goals as goal

pub returns-in-Some-clause-is : goal.returns-in-Some-clause-is
returns-in-Some-clause-is c = λ texts h.
    some_said c.type_said.new.table (said_type texts []) c.args.node (said_of c.in-Some.said) c.type_said.result (sym (c.in-Some.ensures texts h)) c.type_said.ensures.is

pub returns-in-None-clause-is : goal.returns-in-None-clause-is
returns-in-None-clause-is c = λ texts h. no_type (said_type texts []) c.args.node (sym (c.in-None.ensures texts h))
