use Rattle.std.proofs.Common.{ap, arith, subst, sym, unwrap_or}
use Rattle.std.specs.Map.{lookup}
use Rattle.c_names.specs.Earlier.{is_key, none_before}
use Rattle.c_names.proofs.EarlierLaws.{AreNoted, latest_first, noted_first, noted_all, step}
use Rattle.c_names.proofs.declarations.put_all.Goals as goal

pub loop-number-init : goal.loop-number-init
loop-number-init c = record {
  latest = latest_first c.args.scoped.now c.len-number-end.ensures.derived c.new-latest.result (λ t o. ap (λ es. unwrap_or (lookup (is_key t o) es) none_before) c.new-latest.ensures.empty);
  noted = subst (AreNoted c.args.scoped.now 0) (sym c.requires.start) (noted_first c.args.scoped.now c.len-number-end.ensures.derived);
}

pub loop-number-preserved : goal.loop-number-preserved
loop-number-preserved c =
    let l = c.loop-number in
    let s = step c.args.scoped.now c.len-number-end.ensures.derived l.number l.latest c.put_one.new.latest l.found c.put_one.new.found (c.in_ok-put_one.ensures {u = tt}) l.invariant.latest l.invariant.noted in
    record { latest = s.0; noted = s.1 }

pub returns : goal.returns
returns c =
    let l = c.loop-number in
    let most = c.loop-number-test.false in
    let is = c.len-number-end.ensures.is in
    noted_all c.args.scoped.now c.len-number-end.ensures.derived l.number l.found c.len-number-end.ensures.nodes (omega (arith, most, is)) l.invariant.noted
