use Rattle.std.proofs.Common.{arith, rules, sym, subst}
use Rattle.cp_base.proofs.Gains.{on_err, HasTaken, HasTaken-front, HasTaken-more}
use Rattle.cp_base.proofs.sink.put_all.Goals as goal

pub returns-in_err-taken-clause-err : goal.returns-in_err-taken-clause-err
returns-in_err-taken-clause-err g c =
    on_err c.from_residual.result (HasTaken-front _ _ _ _ _ (search rules) c.loop-rest.invariant.taken c.in_err-taken.ensures.err)

pub loop-rest-preserved : goal.loop-rest-preserved
loop-rest-preserved g c = record {
  count = omega (arith, c.loop-rest.invariant.count, c.put.ensures.count);
  bound = λ h. c.put.ensures.bound (c.loop-rest.invariant.bound h);
  taken = subst (HasTaken (g.S.Sink.written c.args.sink.now) (g.S.Sink.written c.put.new.self) c.args.piece.now) (sym c.split_at.ensures.back) (HasTaken-more _ _ _ _ _ c.in_ok-taken.taken c.loop-rest.invariant.taken c.in_ok-taken.ensures.ok);
}
