use Rattle.std.proofs.Common.{[], sym, subst}
use Rattle.c_typing.specs.Types.{pointer}
use Rattle.c_type_ids.specs.Ids.{Names}
use Rattle.c_answers.specs.Answers.{Settles}
use Rattle.c_declared_types.proofs.BuildLaws.{incomplete, complete}
use Rattle.c_declared_types.proofs.built.parameter_of.Goals as goal

pub returns-in-None-clause-is : goal.returns-in-None-clause-is
returns-in-None-clause-is c = λ ls t laid named. ([], incomplete ls t c.args.node (c.in-None.ensures.is t ls named laid))

pub returns-in-Some-clause-is : goal.returns-in-Some-clause-is
returns-in-Some-clause-is c = λ ls t laid named.
    subst (Settles (λ made. Names c.pointer_to.new.table made (pointer t)) c.pointer_to.result) (sym (complete ls t c.args.node c.in-Some.field-0 (c.in-Some.ensures.is t ls named laid)))
    (c.pointer_to.ensures.is t named)
