use Rattle.c_typing.proofs.ShapesIdentifiers.{all_read}
use Rattle.c_typing.proofs.laws.identifiers.Goals as goal

pub returns : goal.returns
returns c tokens t derived = all_read tokens t derived
