use Rattle.std.proofs.Common.{◌≡◌, ◌+◌, ◌++◌, ◌∷◌, ◌∙◌, [], ap, arith, cond, get_or, None, subst, sym}
use Rattle.c_locals.specs.Locals.{declares_automatic}
use Rattle.c_locals.proofs.NumberLaws.{AreSoFar, all_so_far, derived_in, more_so_far, one_so_far}
use Rattle.c_locals.proofs.counts.automatic_counts.Goals as goal
use Rattle.c_locals.proofs.counts.automatic_counts.Goals.{then-is_automatic, else-is_automatic}

pub loop-number-init : goal.loop-number-init
loop-number-init c = one_so_far c.args.nodes.now c.push.new.self.items ((c.in_ok-push.ensures {u = tt}).items ∙ ap (λ xs. xs ++ 0 ∷ []) c.new-counts.ensures.items)

pub loop-number-preserved : goal.loop-number-preserved
loop-number-preserved c =
    let l = c.loop-number in
    let table = c.args.nodes.now in
    let less = c.loop-number-test.true in
    let is = c.len-number-end.ensures.is in
    let told = c.is_automatic.ensures in
    let next : c.if-is_automatic.count ≡ l.count + cond (declares_automatic (get_or c.args.names.now l.number None)) 1 0 =
    elim c.if-is_automatic.branch [
      | then-is_automatic w ↦ (w.count-is ∙ ap (λ b. l.count + cond b 1 0) (sym (sym told ∙ w.if-is_automatic.true)))
      | else-is_automatic w ↦ (w.count-is ∙ (omega arith ∙ ap (λ b. l.count + cond b 1 0) (sym (sym told ∙ w.if-is_automatic.false))))
    ] in
    subst (λ xs. AreSoFar table (l.number + 1) xs c.if-is_automatic.count) (sym ((c.in_ok-push-2.ensures {u = tt}).items))
    (more_so_far table (derived_in table c.requires.tokens) l.number (omega (arith, less, is)) c.args.names.now c.requires.names l.counts.items l.count c.if-is_automatic.count next l.invariant)

pub returns : goal.returns
returns c =
    let l = c.loop-number in
    let most = c.loop-number-test.false in
    let is = c.len-number-end.ensures.is in
    let low = l.auto.number-end in
    all_so_far c.args.nodes.now l.number l.counts.items l.count (omega (arith, most, is, low)) c.len-number-end.ensures.numbered c.len-number-end.ensures.nodes l.invariant
