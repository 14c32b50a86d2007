use Rattle.std.proofs.Common.{ap, ◌∙◌, sym, ⊎_elim}
use Rattle.clap.specs.Words.{is_simple, is_simple_and_free}
use Rattle.cp_driver.specs.Jobs.{job_of_options}
use Rattle.cp_driver.proofs.CommandLine.{command_is_simple, command_is_free, job_taken, job_refused}
use Rattle.cp_driver.proofs.words.job_of.Goals as goal

pub returns-in-Ok : goal.returns-in-Ok
returns-in-Ok c =
    let same = c.in_ok-command.ensures in
    c.job.ensures
    ∙ ap job_of_options c.options_of.ensures
    ∙ job_taken _ c.args.words.now c.in-Ok.matches same (c.in-Ok.ensures.kinds (ap is_simple_and_free same ∙ command_is_free)) (c.in-Ok.ensures.matches (ap is_simple same ∙ command_is_simple)).0

pub returns : goal.returns
returns c =
    let same = c.in_ok-command.ensures in
    ⊎_elim (λ memory. absurd (cc (c.if-is_out_of_memory.ensures.yes memory))) (λ among. sym (job_refused _ c.args.words.now _ same among)) (c.in-Err.ensures.kinds (ap is_simple_and_free same ∙ command_is_free))
