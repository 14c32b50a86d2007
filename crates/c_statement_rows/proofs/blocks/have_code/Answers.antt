use Rattle.std.proofs.Common.{sym, ◌∙◌, arith}
use Rattle.c_typing.specs.Judgements.{code_at}
use Rattle.c_meanings.specs.Meanings.{judged_to, node_in}
use Rattle.c_statement_rows.proofs.PartLaws.{all_found, one_missing}
use Rattle.c_statement_rows.proofs.BlockLaws.{as_many}
use Rattle.c_statement_rows.proofs.blocks.have_code.Goals as goal

pub returns-then-not-has_code : goal.returns-then-not-has_code
returns-then-not-has_code c =
    let table = c.args.nodes.now in
    let n = c.args.node in
    let long = as_many c.kids-index-end.result.now (node_in table n).kids c.kids-index-end.ensures.are in
    let less = c.loop-index-test.true in
    sym (one_missing (code_at (judged_to table n)) (node_in table n).kids c.loop-index.index (omega (arith, less, long)) (sym c.has_code.ensures ∙ c.if-not-has_code.true))

pub returns : goal.returns
returns c =
    let table = c.args.nodes.now in
    let n = c.args.node in
    let long = as_many c.kids-index-end.result.now (node_in table n).kids c.kids-index-end.ensures.are in
    let ended = c.loop-index-test.false in
    sym (all_found (code_at (judged_to table n)) (node_in table n).kids (λ i less. c.loop-index.invariant i (omega (arith, less, ended, long))))
