use Rattle.c_typing.proofs.ShapesParents.{kids_stand}
use Rattle.c_typing.proofs.laws.parents.Goals as goal

pub returns : goal.returns
returns c k text kids e = kids_stand k text kids e
