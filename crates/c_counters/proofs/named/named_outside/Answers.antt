use Rattle.std.proofs.Common.{◌-◌, ◌∙◌, ap, arith, subst, sym}
use Rattle.c_typing.specs.Places.{is_takes, next_to_name}
use Rattle.c_nodes.specs.Parents.{nodes_in}
use Rattle.c_nodes.specs.Declarators.{Points}
use Rattle.c_nodes.proofs.ScopeLaws.{not_takes}
use Rattle.c_counters.proofs.OutsideLaws.{none_outside, takes_outside}
use Rattle.c_counters.proofs.named.named_outside.Goals as goal

pub returns-in-Takes-clause-is : goal.returns-in-Takes-clause-is
returns-in-Takes-clause-is c =
    let s = nodes_in c.args.nodes.now in
    let low = c.first.ensures.low in
    let some = c.requires.some in
    let at = c.requires.next.points c.first.result (omega (arith, low, some)) in
    let points = subst (λ n. Points s n (next_to_name s c.first.result)) (sym c.function_at-part.ensures) at in
    c.saturating_sub.ensures ∙ (ap (λ n. n - 1) c.count_of.ensures.is
    ∙ takes_outside c.args.nodes.now c.function_at-part.result (subst (λ i. Points s c.function_at-part.result (next_to_name s i)) c.first.ensures.is points) c.kids.result.now (sym c.kind_at.ensures ∙ c.in-Takes.is) c.kids.ensures.are)

pub returns-in_default : goal.returns-in_default
returns-in_default c =
    let s = nodes_in c.args.nodes.now in
    let low = c.first.ensures.low in
    let some = c.requires.some in
    let at = c.requires.next.points c.first.result (omega (arith, low, some)) in
    let points = subst (λ n. Points s n (next_to_name s c.first.result)) (sym c.function_at-part.ensures) at in
    record {
      is = none_outside c.args.nodes.now c.function_at-part.result (subst (λ i. Points s c.function_at-part.result (next_to_name s i)) c.first.ensures.is points) (ap is_takes (sym c.kind_at.ensures) ∙ not_takes c.kind_at.result c.in_default.not-Takes);
      few = omega arith;
    }
