use Rattle.firm_verify.proofs.ObeyLaws.{none_obeys}
use Rattle.firm_verify.proofs.all.verify.Goals as goal

pub returns-clause-none : goal.returns-clause-none
returns-clause-none c = none_obeys c.args.graph.now c.in_ok-late.late c.requires.some_block (c.in_ok-late.ensures {u = tt}).none
