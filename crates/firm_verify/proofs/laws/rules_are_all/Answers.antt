use Rattle.firm_verify.proofs.ObeyLaws.{obeys, holds, broken}
use Rattle.firm_verify.proofs.laws.rules_are_all.Goals as goal

pub returns-clause-obeys : goal.returns-clause-obeys
returns-clause-obeys c = obeys

pub returns-clause-holds : goal.returns-clause-holds
returns-clause-holds c = holds

pub returns-clause-broken : goal.returns-clause-broken
returns-clause-broken c = broken
