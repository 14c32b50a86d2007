use Rattle.std.specs.Prelude.{IfSome}
use Rattle.std.proofs.Common.{subst}
use Rattle.cp_first.specs.FirstForm.{IsFirst}
use Rattle.cp_first.proofs.FirstAssemblies.{is_assembly}
use Rattle.cp_first.proofs.compile.compile_first.Goals as goal

pub returns-in_ok-first_unit-in-Some-clause-found : goal.returns-in_ok-first_unit-in-Some-clause-found
returns-in_ok-first_unit-in-Some-clause-found c =
    is_assembly _ _ _ _ (subst (λ o. IfSome o (λ unit. IsFirst c.args.text.now unit.bytes unit.status)) c.in-Some.is c.in_ok-unit.ensures.found) c.in_ok-first_unit-in-Some.ensures

pub returns-in-None-clause-none : goal.returns-in-None-clause-none
returns-in-None-clause-none c = λ bytes status f. absurd (cc (c.in_ok-unit.ensures.only bytes status f, c.in-None.is))
