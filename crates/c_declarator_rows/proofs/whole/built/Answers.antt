use Rattle.c_typing.specs.Declarators.{build}
use Rattle.c_type_ids.proofs.TableLaws.{grows_on}
use Rattle.c_declarator_rows.proofs.whole.built.Goals as goal

pub adjusted_for-requires : goal.adjusted_for-requires
adjusted_for-requires c =
    let (none, is) = (c.in-Ok.ensures {u = tt}).is c.requires.laid.0 c.requires.base.0 c.requires.steps.0 c.requires.laid.1 c.requires.base.1 c.requires.steps.1 in
    ((build c.requires.laid.0 c.requires.base.0 c.requires.steps.0).type, is)

pub returns-in-Ok-clause-grows : goal.returns-in-Ok-clause-grows
returns-in-Ok-clause-grows c = grows_on c.args.table.now c.build.new.table c.adjusted_for.new.table c.build.ensures.grows c.adjusted_for.ensures.grows
