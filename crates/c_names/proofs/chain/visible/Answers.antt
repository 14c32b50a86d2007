use Rattle.std.proofs.Common.{◌≡◌, ◌-◌, ◌∙◌, arith, drop, false, subst, suc, sym}
use Rattle.std.specs.List.{AllByRecursion}
use Rattle.c_names.specs.Chains.{is_seen}
use Rattle.c_names.proofs.PutLaws.{all_more, nothing, visible_at}
use Rattle.c_names.proofs.chain.visible.Goals as goal

pub returns-then-holds : goal.returns-then-holds
returns-then-holds c =
    let some = c.loop-left-test.true in
    let low = c.loop-left.invariant.low in
    visible_at c.args.chain.now (c.loop-left.left - 1) c.args.number nothing (omega (arith, some, low)) (sym c.holds.ensures ∙ c.if-holds.true)
    (subst (λ i. AllByRecursion (λ e. is_seen c.args.number e ≡ false) (drop i c.args.chain.now)) {x = c.loop-left.left} {y = suc (c.loop-left.left - 1)} (omega (arith, some)) c.loop-left.invariant.none)

pub loop-left-preserved : goal.loop-left-preserved
loop-left-preserved c =
    let some = c.loop-left-test.true in
    let low = c.loop-left.invariant.low in
    record {
      low = omega (arith, low);
      none = all_more (λ e. is_seen c.args.number e ≡ false) c.args.chain.now c.loop-left.left nothing some low (sym c.holds.ensures ∙ c.if-holds.false) c.loop-left.invariant.none;
    }
