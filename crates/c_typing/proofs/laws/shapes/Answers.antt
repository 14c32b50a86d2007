use Rattle.c_typing.proofs.ShapesLaw.{all_shaped, root_is_unit}
use Rattle.c_typing.proofs.ShapesPlaces.{shaped_at}
use Rattle.c_typing.proofs.ShapesTable.{fits_at}
use Rattle.c_typing.proofs.laws.shapes.Goals as goal

pub returns-clause-nodes : goal.returns-clause-nodes
returns-clause-nodes c tokens t derived = all_shaped tokens t derived

pub returns-clause-root : goal.returns-clause-root
returns-clause-root c tokens t derived = root_is_unit tokens t derived

pub returns-clause-places : goal.returns-clause-places
returns-clause-places c tokens t id derived within = shaped_at tokens t id derived within

pub returns-clause-table : goal.returns-clause-table
returns-clause-table c tokens t id n derived e = fits_at tokens t id n derived e
