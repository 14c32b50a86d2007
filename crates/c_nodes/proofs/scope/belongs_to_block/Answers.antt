use Rattle.std.proofs.Common.{◌<◌, ◌∙◌, ap, sym, subst, get_or, arith}
use Rattle.c_typing.specs.Places.{kind_at, is_function}
use Rattle.c_nodes.specs.Parents.{nodes_in}
use Rattle.c_nodes.proofs.ScopeLaws.{of_block, same_number, other_number}
use Rattle.c_nodes.proofs.scope.belongs_to_block.Goals as goal

pub returns-then-next-first : goal.returns-then-next-first
returns-then-next-first c =
    let s = nodes_in c.args.nodes.now in
    let low = c.first-first.ensures.low in
    let within = c.requires.within in
    let part = get_or c.args.next.now c.first-first.result 0 in
    let whole = of_block s c.args.takes part c.first-first.result c.owner_of-owner.result c.requires.next.numbered (subst (λ k. c.args.takes < k) (sym c.requires.next.nodes) within)
    c.first-first.ensures.is (c.requires.next.points c.first-first.result (omega (arith, low, within))) c.owner_of-owner.ensures in
    c.is_function.ensures ∙ ap is_function c.kind_at.ensures ∙ sym (same_number part c.args.takes (is_function (kind_at s c.owner_of-owner.result)) c.if-next-first.true) ∙ whole

pub returns-else-next-first : goal.returns-else-next-first
returns-else-next-first c =
    let s = nodes_in c.args.nodes.now in
    let low = c.first-first.ensures.low in
    let within = c.requires.within in
    let part = get_or c.args.next.now c.first-first.result 0 in
    let whole = of_block s c.args.takes part c.first-first.result c.owner_of-owner.result c.requires.next.numbered (subst (λ k. c.args.takes < k) (sym c.requires.next.nodes) within)
    c.first-first.ensures.is (c.requires.next.points c.first-first.result (omega (arith, low, within))) c.owner_of-owner.ensures in
    sym (other_number part c.args.takes (is_function (kind_at s c.owner_of-owner.result)) c.if-next-first.false) ∙ whole
