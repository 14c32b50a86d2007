use Rattle.c_typing.proofs.ShapesNames.{begins_with_name}
use Rattle.c_typing.proofs.laws.names.Goals as goal

pub returns : goal.returns
returns c t e = begins_with_name t e
