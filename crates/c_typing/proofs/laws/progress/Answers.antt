use Rattle.c_typing.proofs.ProgressMeant.{meant, sound}
use Rattle.c_typing.proofs.BoundsTree.{one_typing}
use Rattle.c_typing.proofs.ProgressSized.{object_sized}
use Rattle.c_typing.proofs.ProgressUses.{used}
use Rattle.c_typing.proofs.ProgressLocals.{local_there}
use Rattle.c_typing.proofs.laws.progress.Goals as goal

pub returns-clause-one_typing : goal.returns-clause-one_typing
returns-clause-one_typing c tokens t derived = one_typing tokens t derived

pub returns-clause-alone : goal.returns-clause-alone
returns-clause-alone c t u typed = sound t u typed

pub returns-clause-meant : goal.returns-clause-meant
returns-clause-meant c tokens t n m derived quiet e = meant tokens t n m derived quiet e

pub returns-clause-objects : goal.returns-clause-objects
returns-clause-objects c tokens t k e derived quiet at = object_sized tokens t derived quiet k e at

pub returns-clause-uses : goal.returns-clause-uses
returns-clause-uses c tokens t n m derived quiet e same = used tokens t n m derived quiet e same

pub returns-clause-locals : goal.returns-clause-locals
returns-clause-locals c tokens t k e derived at auto = local_there tokens t k e derived at auto
