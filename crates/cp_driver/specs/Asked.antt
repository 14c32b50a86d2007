-- The job and the options of the code as the definitions have them.
use Rattle.std.specs.Prelude.{option_map}
use Rattle.cp_driver.specs.declared.job.Job as job
use Rattle.cp_driver.specs.declared.words.Options as words
use Rattle.cp_driver.specs.Jobs.{Job, Options}

abbrev pub job_now : job.Job → Job
job_now asked = record { task = asked.task; file = asked.file.now }

abbrev pub options_now : words.Options → Options
options_now options = record { assembly = options.assembly; dump = option_map (λ s. s.now) options.dump; file = option_map (λ s. s.now) options.file }
