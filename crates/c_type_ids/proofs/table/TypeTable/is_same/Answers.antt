use Rattle.std.proofs.Common.{subst}
use Rattle.c_type_ids.specs.Ids.{AreDistinct}
use Rattle.c_type_ids.proofs.SameLaws.{same_ids}
use Rattle.c_type_ids.proofs.table.TypeTable.is_same.Goals as goal

pub returns : goal.returns
returns c = λ t u h i. same_ids c.args.self.now (subst AreDistinct c.self.view_is c.self.invariant) c.args.left c.args.right t u h i
