use Rattle.std.proofs.Common.{subst}
use Rattle.std.proofs.lemmas.Result.{err_from_is_err_and}
use Rattle.cp_driver.specs.Causes.{MakeCause}
use Rattle.cp_driver.proofs.Answering.{make_cause}
use Rattle.cp_driver.proofs.driver.do_job.Goals as goal

pub returns-in_err-made-clause-cause : goal.returns-in_err-made-clause-cause
returns-in_err-made-clause-cause g c =
    let p = err_from_is_err_and c.from_residual-in_err-made.result c.from_residual-in_err-made.ensures.1 in
    rw (p.1, p.2) (make_cause _ _ _ _ _ _ _ _ _ c.in_ok-read_file.ensures.ok (subst (MakeCause _ _) c.as_slice.ensures c.in_err-made.ensures.cause))
