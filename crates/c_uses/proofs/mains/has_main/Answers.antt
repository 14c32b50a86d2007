use Rattle.std.proofs.Common.{arith, sym, ◌∙◌}
use Rattle.c_uses.proofs.MainLaws.{main_here, main_is, main_later, no_main_left}
use Rattle.c_uses.proofs.mains.has_main.Goals as goal

pub returns-then-is_main : goal.returns-then-is_main
returns-then-is_main c =
    let l = c.loop-number in
    let less = c.loop-number-test.true in
    let is = c.len-number-end.ensures.is in
    let nodes = c.len-number-end.ensures.nodes in
    sym (main_here c.args.nodes.now l.number (omega (arith, less, is, nodes)) (sym c.is_main.ensures ∙ c.if-is_main.true)) ∙ (l.invariant ∙ main_is c.args.nodes.now)

pub loop-number-preserved : goal.loop-number-preserved
loop-number-preserved c =
    let l = c.loop-number in
    let less = c.loop-number-test.true in
    let is = c.len-number-end.ensures.is in
    let nodes = c.len-number-end.ensures.nodes in
    sym (main_later c.args.nodes.now l.number (omega (arith, less, is, nodes)) (sym c.is_main.ensures ∙ c.if-is_main.false)) ∙ l.invariant

pub returns : goal.returns
returns c =
    let most = c.loop-number-test.false in
    let is = c.len-number-end.ensures.is in
    let nodes = c.len-number-end.ensures.nodes in
    sym (no_main_left c.args.nodes.now c.loop-number.number (omega (arith, most, is, nodes))) ∙ (c.loop-number.invariant ∙ main_is c.args.nodes.now)
