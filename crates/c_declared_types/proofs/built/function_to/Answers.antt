use Rattle.c_declared_types.proofs.BuildLaws.{all_there}
use Rattle.c_declared_types.proofs.built.function_to.Goals as goal

pub function-requires-clause-takes : goal.function-requires-clause-takes
function-requires-clause-takes c = all_there c.args.table.now c.args.takes c.requires.takes.0 c.requires.takes.1
