use Rattle.std.proofs.Common.{subst}
use Rattle.c_type_ids.specs.Ids.{AreDistinct}
use Rattle.c_type_ids.proofs.SameLaws.{same_structs}
use Rattle.c_type_ids.proofs.table.TypeTable.is_same_struct.Goals as goal

pub returns : goal.returns
returns c = λ a b h i. same_structs c.args.self.now (subst AreDistinct c.self.view_is c.self.invariant) c.args.left c.args.right a b h i
