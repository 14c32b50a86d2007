use Rattle.std.proofs.Common.{drop, subst, sym, take}
use Rattle.std.specs.List.{AllByRecursion}
use Rattle.std.proofs.lemmas.List.{take-append-drop}
use Rattle.std.proofs.lemmas.Result.{on_ok_weaker}
use Rattle.c_names.specs.Chains.{IsEnded, IsPut}
use Rattle.c_names.proofs.chain.enter.Goals as goal

pub returns : goal.returns
returns c =
    let left = c.left_at-left.result in
    let xs = c.args.chain.now.items in
    on_ok_weaker c.put.result (λ put. (
      take left xs,
      drop left xs,
      sym (take-append-drop left xs),
      subst (λ ys. AllByRecursion (IsEnded c.args.number) (drop left ys)) c.deref.ensures.value c.left_at-left.ensures.ended,
      subst (λ ys. IsPut c.args.entry ys c.put.new.chain.items) c.truncate.ensures.items put,
    )) c.put.ensures
