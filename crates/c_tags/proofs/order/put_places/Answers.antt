use Rattle.std.proofs.Common.{◌+◌, ◌∙◌, ap, arith, get_or}
use Rattle.std.proofs.lemmas.List.{length-set}
use Rattle.c_tags.proofs.OrderLaws.{filled_more, all_filled}
use Rattle.c_tags.proofs.order.put_places.Goals as goal

pub loop-number-preserved : goal.loop-number-preserved
loop-number-preserved c =
    let l = c.loop-number in
    let place = c.first.result + get_or c.args.depths.now l.number 0 in
    let less = c.loop-number-test.true in
    let is = c.len-number-end.ensures.is in
    record {
      long = length-set l.order place l.number ∙ l.invariant.long;
      filled = filled_more c.args.nodes.now c.len-number-end.ensures.nodes c.len-number-end.ensures.numbered c.args.depths.now c.requires.depths l.order l.number place l.invariant.long (omega (arith, less, is))
          (ap (λ f. f + get_or c.args.depths.now l.number 0) c.first.ensures.is) l.invariant.filled;
    }

pub returns : goal.returns
returns c =
    let l = c.loop-number in
    let most = c.loop-number-test.false in
    let is = c.len-number-end.ensures.is in
    all_filled c.args.nodes.now c.len-number-end.ensures.nodes c.len-number-end.ensures.numbered l.order l.number l.invariant.long (omega (arith, most, is)) l.invariant.filled
