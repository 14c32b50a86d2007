use Rattle.cp_first.proofs.Prefixes.{stripped, stripped_only}
use Rattle.cp_first.proofs.first_form.after.Goals as goal

pub returns-clause-found : goal.returns-clause-found
returns-clause-found c = stripped _ _ c.strip_prefix.result c.strip_prefix.ensures.cases

pub returns-clause-only : goal.returns-clause-only
returns-clause-only c = stripped_only _ _ c.strip_prefix.result c.strip_prefix.ensures.cases
