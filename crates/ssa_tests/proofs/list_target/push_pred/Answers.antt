use Rattle.ssa_tests.proofs.Growing.{edge_more, edge_same}
use Rattle.ssa_tests.proofs.list_target.push_pred.Goals as goal

pub returns : goal.returns
returns c = λ edges.
    edge_more c.args.blocks.now.items c.args.to c.args.from c.index_mut.result.now (record { preds = c.push.new.self }) edges c.requires.from_there c.requires.to_there
    c.index_mut.ensures.value c.in_ok-push.ensures.items

pub returns-in_err-push : goal.returns-in_err-push
returns-in_err-push c = λ edges.
    edge_same c.args.blocks.now.items c.args.to c.index_mut.result.now (record { preds = c.push.new.self }) edges c.requires.to_there
    c.index_mut.ensures.value c.in_err-push.ensures.items
