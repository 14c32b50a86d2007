use Rattle.std.proofs.Common.{◌≡◌, ◌≤◌, ◌+◌, ◌++◌, suc, sym, ap, ◌∙◌, subst, arith}
use Rattle.c_typing.specs.Judgements.{code_at}
use Rattle.c_meanings.specs.Meanings.{HasKids, judged_to, kid_in, node_in}
use Rattle.c_meanings.proofs.MeaningLaws.{left_on, next_kid}
use Rattle.c_statement_rows.proofs.PartLaws.{all_there, run_more, run_of, take_all}
use Rattle.c_statement_rows.proofs.BlockLaws.{as_many, block_made}
use Rattle.c_statement_rows.proofs.blocks.take_block.Goals as goal

pub take_code-requires-clause-there : goal.take_code-requires-clause-there
take_code-requires-clause-there c =
    let table = c.args.nodes.now in
    let n = c.args.node in
    let long = as_many c.kids-index-end.result.now (node_in table n).kids c.kids-index-end.ensures.are in
    let less = c.loop-index-test.true in
    all_there (code_at (judged_to table n)) (node_in table n).kids c.requires.there c.loop-index.index (omega (arith, less, long))

pub loop-index-preserved : goal.loop-index-preserved
loop-index-preserved c =
    let table = c.args.nodes.now in
    let n = c.args.node in
    let i = c.loop-index.index in
    let kids = (node_in table n).kids in
    let long = as_many c.kids-index-end.result.now kids c.kids-index-end.ensures.are in
    let less = c.loop-index-test.true in
    let next : suc i ≡ i + 1 = omega arith in
    let inv = c.loop-index.invariant in
    record {
      low = kid_in table n i + 1;
      ready = c.take_code.ensures.ready;
      may = subst (λ j. HasKids table n (suc j) → kid_in table n i + 1 ≤ kid_in table n j) next (next_kid table n 0 c.args.meanings.now c.requires.ready c.requires.within i);
      left = left_on table n c.args.meanings.now c.loop-index.meanings c.take_code.new.self inv.left c.take_code.ensures.left;
      types = c.take_code.ensures.types ∙ inv.types;
      whole =
          c.in_ok-append.ensures
          ∙ ap (λ whole. whole ++ c.take_code.result) inv.whole
          ∙ sym (run_more (code_at (judged_to table n)) kids i c.take_code.result (omega (arith, less, long)) c.take_code.ensures.is);
    }

pub returns-clause-is : goal.returns-clause-is
returns-clause-is c =
    let table = c.args.nodes.now in
    let n = c.args.node in
    let kids = (node_in table n).kids in
    let long = as_many c.kids-index-end.result.now kids c.kids-index-end.ensures.are in
    let ended = c.loop-index-test.false in
    block_made c.one.result c.as_block.result c.loop-index.whole (code_at (judged_to table n)) kids c.one.ensures c.as_block.ensures
    (c.loop-index.invariant.whole ∙ ap (run_of (code_at (judged_to table n))) (take_all kids c.loop-index.index (omega (arith, ended, long))))
