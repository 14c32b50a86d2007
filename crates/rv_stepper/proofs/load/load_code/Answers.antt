use Rattle.std.proofs.Common.{◌+◌, take, sym, ap, ◌∙◌}
use Rattle.rv_code.specs.Loading.{loaded_from}
use Rattle.rv_stepper.proofs.Loads.{load_more}
use Rattle.rv_stepper.proofs.load.load_code.Goals as goal

pub loop-index-preserved : goal.loop-index-preserved
loop-index-preserved c =
    let same = c.as_slice-instr-items.ensures.value in
    let from = loaded_from c.args.functions.now c.args.layout.now 0 in
    load_more c.args.functions.now c.args.layout.now c.as_slice-instr-items.result.now c.loop-index.index _ c.loop-index.loaded.items c.push.new.self.items c.load_instr.result c.loop-index-test.true (c.loop-index.invariant ∙ ap (λ xs. from (take c.loop-index.index xs)) (sym same)) c.load_instr.ensures c.in_ok-push.ensures.items
    ∙ ap (λ xs. from (take (c.loop-index.index + 1) xs)) same
