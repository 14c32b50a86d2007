use Rattle.std.proofs.Common.{◌≡◌, ◌+◌, ◌-◌, ◌≤◌, length, sym, ap, subst, ◌∙◌, arith}
use Rattle.c_syntax.specs.Trees.{one, max_height}
use Rattle.c_syntax.proofs.TextLaws.{root_within}
use Rattle.c_syntax.proofs.TreeLaws.{length-nodes}
use Rattle.c_syntax.proofs.syntax.Syntax.root.Goals as goal

pub returns-clause-low : goal.returns-clause-low
returns-clause-low c =
    let of = c.self.invariant.of in
    let whole = sym c.self.view_is ∙ c.self.invariant.whole in
    let many = ap length c.self.invariant.whole ∙ length-nodes 0 (one of) in
    let last : c.len.result - 1 + 1 ≡ length c.args.self.now = let long = c.len.ensures in let same = ap length c.self.view_is in omega (arith, many, long, same) in
    root_within of c.args.self.now (record { number = c.len.result - 1 }) whole last (subst (λ n. n ≤ max_height) c.self.invariant.highest c.self.invariant.low)
