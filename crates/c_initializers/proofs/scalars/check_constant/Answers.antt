use Rattle.std.proofs.Common.{◌∙◌, sym, ap}
use Rattle.c_typing.specs.Rules as faults
use Rattle.c_initializers.proofs.ScalarLaws.{not_constant_first}
use Rattle.c_initializers.proofs.scalars.check_constant.Goals as goal

pub returns-then-not-is_constant_for-clause-is : goal.returns-then-not-is_constant_for-clause-is
returns-then-not-is_constant_for-clause-is c = λ k t d shows is.
    not_constant_first t d c.args.node (ap (faults.is_constant_for t) (sym is) ∙ sym (c.is_constant_for.ensures k t shows) ∙ c.if-not-is_constant_for.true)
