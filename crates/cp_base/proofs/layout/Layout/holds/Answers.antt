use Rattle.std.proofs.Common.{refl, arith}
use Rattle.cp_base.proofs.Placing.{Holds-apart}
use Rattle.cp_base.proofs.layout.Layout.holds.Goals as goal

pub returns : goal.returns
returns c =
    let same = Holds-apart c.args.self.now c.args.code c.args.size c.new-code.result c.new-data.result c.new-stack.result (cc) (cc) (cc) (c.if-not-is_aligned.ensures.0 refl) (omega arith) (c.if-not-is_placed.ensures.0 refl) (c.if-not-is_placed-2.ensures.0 refl) (c.if-not-is_placed-3.ensures.0 refl) in
    (λ t. same.0 (c.are_apart.ensures.0 t), λ h. c.are_apart.ensures.1 (same.1 h))
