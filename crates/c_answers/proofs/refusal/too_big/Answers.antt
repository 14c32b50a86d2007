use Rattle.std.proofs.Common.{◌≡◌, ◌∷◌, ◌-◌, ◌^◌, [], min, ap, arith}
use Rattle.c_typing.specs.Judgements as rules
use Rattle.c_answers.proofs.refusal.too_big.Goals as goal

pub returns-clause-first : goal.returns-clause-first
returns-clause-first c =
    let limited : min c.args.size (2 ^ 64 - 1) ≡ c.args.size = omega (arith, c.ranges.size.fits) in
    ([], ap (λ s. rules.too_big c.args.node s ∷ []) limited)
