use Rattle.std.proofs.Common.{[], sym, ap, ◌∙◌, refl, option_map}
use Rattle.cp_driver.specs.Jobs.{job_of}
use Rattle.cp_driver.specs.Asked.{job_now}
use Rattle.cp_driver.proofs.Makings.{accepts_first, accepts_shown, made_by, compiled}
use Rattle.cp_driver.proofs.Answering.{one_job, told_of, job_not_refused, answers_done, answers_fault, answers_no_job, answers_no_memory}
use Rattle.cp_driver.proofs.driver.cparser.Goals as goal

pub returns-in-Ok-None-clause-answers : goal.returns-in-Ok-None-clause-answers
returns-in-Ok-None-clause-answers g c =
    let asked = ap job_of (sym c.as_slice.ensures) ∙ sym c.in-Ok-None.ensures ∙ ap (option_map job_now) c.in-Ok-None.field-0-is in
    answers_no_job _ _ _ [] asked refl c.refuse.ensures.told

pub returns-in-Err-clause-answers : goal.returns-in-Err-clause-answers
returns-in-Err-clause-answers g c = answers_no_memory _ _ _ [] refl c.refuse-in-Err.ensures.told

pub returns-in-Ok-clause-compiles : goal.returns-in-Ok-clause-compiles
returns-in-Ok-clause-compiles g c = λ file text bytes status job told le first quiet memory.
    let asked = ap job_of (sym c.as_slice.ensures) ∙ sym c.in-Ok-Some.ensures ∙ ap (option_map job_now) c.in-Ok-Some.field-0-is in
    compiled _ _ _ _ file text told _ bytes status (made_by _ _ _ _ _ _ (one_job _ _ _ asked job) c.in-Ok.ensures.ok) first

pub returns-in-Ok-clause-answers : goal.returns-in-Ok-clause-answers
returns-in-Ok-clause-answers g c =
    let asked = ap job_of (sym c.as_slice.ensures) ∙ sym c.in-Ok-Some.ensures ∙ ap (option_map job_now) c.in-Ok-Some.field-0-is in
    answers_done _ _ _ _ _ asked c.in-Ok.report refl c.in-Ok.ensures.ok refl

pub returns-clause-compiles : goal.returns-clause-compiles
returns-clause-compiles g c = λ file text bytes status job told le first quiet memory.
    let asked = ap job_of (sym c.as_slice.ensures) ∙ sym c.in-Ok-Some.ensures ∙ ap (option_map job_now) c.in-Ok-Some.field-0-is in
    absurd (job_not_refused _ _ _ _ _ _ _ _ _ _ _ text _ _ c.in-Err-do_job.fault (one_job _ _ _ asked job) c.in-Err-do_job.ensures.cause (told_of _ _ _ _ _ _ _ _ _ c.as_slice-in-Err-do_job.ensures c.refuse-in-Err-do_job.ensures.told)
    quiet memory told le (accepts_first text bytes status first))

pub returns-clause-dumps : goal.returns-clause-dumps
returns-clause-dumps g c = λ stage file bytes text job told le shows quiet memory.
    let asked = ap job_of (sym c.as_slice.ensures) ∙ sym c.in-Ok-Some.ensures ∙ ap (option_map job_now) c.in-Ok-Some.field-0-is in
    absurd (job_not_refused _ _ _ _ _ _ _ _ _ _ _ bytes _ _ c.in-Err-do_job.fault (one_job _ _ _ asked job) c.in-Err-do_job.ensures.cause (told_of _ _ _ _ _ _ _ _ _ c.as_slice-in-Err-do_job.ensures c.refuse-in-Err-do_job.ensures.told)
    quiet memory told le (accepts_shown stage bytes text shows))

pub returns-clause-answers : goal.returns-clause-answers
returns-clause-answers g c =
    let asked = ap job_of (sym c.as_slice.ensures) ∙ sym c.in-Ok-Some.ensures ∙ ap (option_map job_now) c.in-Ok-Some.field-0-is in
    answers_fault _ _ _ _ _ asked c.in-Err-do_job.fault _ (c.in-Err-do_job.ensures.cause, c.in-Err-do_job.ensures.leaves) (told_of _ _ _ _ _ _ _ _ _ c.as_slice-in-Err-do_job.ensures c.refuse-in-Err-do_job.ensures.told)
