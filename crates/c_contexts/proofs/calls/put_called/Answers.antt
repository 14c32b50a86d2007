use Rattle.std.proofs.Common.{◌-◌, arith, subst, sym}
use Rattle.c_contexts.specs.Contexts.{AreCalledFrom}
use Rattle.c_contexts.proofs.CallLaws.{all_put, none_put, one_put}
use Rattle.c_contexts.proofs.calls.put_called.Goals as goal

pub is_called-called-requires-clause-found : goal.is_called-called-requires-clause-found
is_called-called-requires-clause-found c = let some = c.loop-number-test.true in subst (λ k. AreCalledFrom c.args.nodes.now k c.loop-number.found) (omega (arith, some)) c.loop-number.invariant.told

pub loop-number-init : goal.loop-number-init
loop-number-init c =
    let is = c.len-number.ensures.is in
    record {
      told = subst (AreCalledFrom c.args.nodes.now c.len-number.result) (sym c.requires) (none_put c.args.nodes.now c.len-number.result c.len-number.ensures.numbered c.len-number.ensures.nodes (omega (arith, is)));
      within = omega (arith, is);
    }

pub loop-number-preserved : goal.loop-number-preserved
loop-number-preserved c =
    let l = c.loop-number in
    let some = c.loop-number-test.true in
    let within = l.invariant.within in
    record {
      told = one_put c.args.nodes.now (l.number - 1) l.found c.is_called-called.result (omega (arith, some, within)) c.is_called-called.ensures
          (subst (λ k. AreCalledFrom c.args.nodes.now k l.found) (omega (arith, some)) l.invariant.told);
      within = omega (arith, within);
    }

pub returns : goal.returns
returns c = let none = c.loop-number-test.false in all_put c.args.nodes.now c.loop-number.number c.loop-number.found (omega (arith, none)) c.loop-number.invariant.told
