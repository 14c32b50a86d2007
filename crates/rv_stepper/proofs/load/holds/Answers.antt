use Rattle.std.proofs.Common.{◌∙◌, ap}
use Rattle.cp_base.specs.Regions.{holds}
use Rattle.rv_stepper.proofs.Images.{holds_is}
use Rattle.rv_stepper.proofs.load.holds.Goals as goal

pub returns-in-Ok : goal.returns-in-Ok
returns-in-Ok c =
    let layout = c.args.layout.now in
    let e = c.in-Ok.ensures in
    holds_is c.holds.result layout c.in-Ok.code c.from.result c.holds.ensures ∙ ap (λ n. holds layout n c.from.result) e.1 ∙ ap (λ n. holds layout c.args.code n) c.from.ensures
