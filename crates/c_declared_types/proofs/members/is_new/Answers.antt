use Rattle.std.proofs.Common.{◌∙◌, not, ap}
use Rattle.c_declared_types.proofs.MemberLaws.{any_text}
use Rattle.c_declared_types.proofs.members.is_new.Goals as goal

pub returns-in-Ok-clause-new : goal.returns-in-Ok-clause-new
returns-in-Ok-clause-new c = c.in-Ok.ensures.added ∙ ap not (any_text c.args.name.now c.args.names.now.keys)
