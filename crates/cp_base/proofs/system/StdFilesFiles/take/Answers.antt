use Rattle.cp_base.proofs.Takings.{AppendsFor-along, AppendsFor-none}
use Rattle.cp_base.proofs.system.StdFilesFiles.take.Goals as goal
use Rattle.cp_base.proofs.system.StdFilesFiles.take.Goals.{then-eq, else-eq+in-Ok, else-eq+in-Err}

pub returns-in-Err-Failed-clause-appends : goal.returns-in-Err-Failed-clause-appends
returns-in-Err-Failed-clause-appends g c = elim c.if-eq.branch [
  | then-eq w ↦ AppendsFor-along _ _ _ _ _ _ w.read_within-taken.ensures.appends w.taken-is w.into-is
  | else-eq+in-Ok w ↦ AppendsFor-along _ _ _ _ _ _ w.read_within.ensures.appends w.taken-is w.into-is
  | else-eq+in-Err w ↦ AppendsFor-none _ _ _ _ w.taken-is w.into-is
]

pub returns-after-eq-2-clause-appends : goal.returns-after-eq-2-clause-appends
returns-after-eq-2-clause-appends g c = elim c.if-eq.branch [
  | then-eq w ↦ AppendsFor-along _ _ _ _ _ _ w.read_within-taken.ensures.appends w.taken-is w.into-is
  | else-eq+in-Ok w ↦ AppendsFor-along _ _ _ _ _ _ w.read_within.ensures.appends w.taken-is w.into-is
  | else-eq+in-Err w ↦ AppendsFor-none _ _ _ _ w.taken-is w.into-is
]
