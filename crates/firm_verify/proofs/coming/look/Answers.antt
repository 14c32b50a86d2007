use Rattle.std.proofs.Common.{◌+◌, true, get_or, sym, ◌∙◌, ap, subst, nat_lt}
use Rattle.std.proofs.lemmas.Bool.{ltb-true, ltb-false}
use Rattle.firm_rules.specs.Lookups.{preds_of}
use Rattle.firm_verify.specs.Memory.{Within, Receives, coming_at, room}
use Rattle.firm_verify.proofs.GraphLaws.{block_listed}
use Rattle.firm_verify.proofs.ComingLaws.{moved, looked_none, looked_same, looked_more, looked_all}
use Rattle.firm_verify.proofs.coming.look.Goals as goal
use Rattle.firm_verify.proofs.coming.look.Goals.{then-more_comes+in_ok-set_at, else-more_comes}

pub coming_to-found-requires-clause-block : goal.coming_to-found-requires-clause-block
coming_to-found-requires-clause-block c = block_listed c.args.graph.now c.blocks-block-items.result.now c.loop-block.block-index (record { number = 0 }) c.blocks-block-items.ensures c.loop-block-test.true

pub loop-block-preserved : goal.loop-block-preserved
loop-block-preserved c =
    let g = c.args.graph.now in
    let chains = c.args.chains.now in
    let ids = c.blocks-block-items.result.now in
    let at = c.loop-block.block-index in
    let b = (get_or ids at (record { number = 0 })).number in
    let coming = c.loop-block.coming.items in
    let found = c.coming_to-found.result in
    let known = subst (λ l. Within (coming_at l b) found) c.deref.ensures.value c.coming_to-found.ensures.known in
    let received = subst (λ l. Receives chains l b (preds_of g b) found) c.deref.ensures.value c.coming_to-found.ensures.received in
    let test = c.more_comes.ensures ∙ ap (λ l. nat_lt (room found) (room (coming_at l b))) c.deref-in-loop-block.ensures.value in
    elim c.if-more_comes.branch [
      | then-more_comes+in_ok-set_at w ↦
          let set_now = w.in_ok-set_at.ensures {u = tt} in
          moved g chains c.args.coming.now.items w.set_at.new.table.items c.if-more_comes.coming.items ids (at + 1) true c.if-more_comes.more (ap (λ l. l.items) w.coming-is) w.more-is
          (looked_more g chains c.args.coming.now.items coming w.set_at.new.table.items ids at (record { number = 0 }) c.loop-block.more found c.blocks-block-items.ensures c.loop-block-test.true
          (ltb-true (room found) (room (coming_at coming b)) (sym test ∙ w.if-more_comes.true)) c.coming_to-found.ensures.seen known set_now.this set_now.others c.loop-block.invariant)
      | else-more_comes w ↦
          moved g chains c.args.coming.now.items coming c.if-more_comes.coming.items ids (at + 1) c.loop-block.more c.if-more_comes.more (ap (λ l. l.items) w.coming-is) w.more-is
          (looked_same g chains c.args.coming.now.items coming ids at (record { number = 0 }) c.loop-block.more found c.loop-block-test.true
          (ltb-false (room found) (room (coming_at coming b)) (sym test ∙ w.if-more_comes.false)) known received c.loop-block.invariant)
    ]

pub returns-clause-closed : goal.returns-clause-closed
returns-clause-closed c =
    looked_all c.args.graph.now c.args.chains.now c.args.coming.now.items c.loop-block.coming.items c.blocks-block-items.result.now c.loop-block.block-index c.loop-block.more c.blocks-block-items.ensures c.loop-block-test.false
    c.loop-block.invariant

pub loop-block-init : goal.loop-block-init
loop-block-init c = looked_none c.args.graph.now c.args.chains.now c.args.coming.now.items c.blocks-block-items.result.now c.requires.seen
