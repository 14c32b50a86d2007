use Rattle.std.proofs.Common.{◌≡◌, ◌+◌, ◌∷◌, ◌≤◌, [], ap, arith, length, refl, subst, suc, sym, ◌∙◌}
use Rattle.std.proofs.lemmas.List.{length-append}
use Rattle.c_typing.specs.Judgements.{typing_at}
use Rattle.c_typing.specs.Places.{other_kids}
use Rattle.c_meanings.specs.Meanings.{judged_to, kid_in, node_in}
use Rattle.c_meanings.proofs.MeaningLaws.{left_on, next_kid, nothing_taken}
use Rattle.c_expression_rows.specs.Calls.{AreOf}
use Rattle.c_expression_rows.proofs.ArgumentLaws.{as_many_ids, next_argument, seen_at}
use Rattle.c_expression_rows.proofs.arguments.put_arguments.Goals as goal

pub loop-index-init : goal.loop-index-init
loop-index-init c =
    let table = c.args.nodes.now in
    let n = c.args.node in
    let m = c.args.meanings.now in
    let none = sym c.requires.none in
    record {
      count = ap (λ ts. suc (length ts)) none;
      are = subst (λ ts. AreOf m.types (judged_to table n) ts (other_kids (node_in table n))) none tt;
      ready = (kid_in table n 0 + 1, c.requires.ready, λ less. next_kid table n (kid_in table n 0 + 1) m c.requires.ready c.requires.within 0 (omega (arith, less)));
      left = nothing_taken table n m;
      types = refl;
    }

pub put_argument-requires-clause-there : goal.put_argument-requires-clause-there
put_argument-requires-clause-there c =
    let kids = (node_in c.args.nodes.now c.args.node).kids in
    let long = as_many_ids c.kids-index-end.result.now kids c.kids-index-end.ensures.are in
    let less = c.loop-index-test.true in
    let count = c.loop-index.invariant.count in
    seen_at (typing_at (judged_to c.args.nodes.now c.args.node)) kids c.loop-index.index (omega (arith, count)) (omega (arith, long, less)) c.requires.there

pub loop-index-preserved : goal.loop-index-preserved
loop-index-preserved c =
    let table = c.args.nodes.now in
    let n = c.args.node in
    let kids = (node_in table n).kids in
    let l = c.loop-index in
    let new = c.put_argument.new.meanings in
    let js = judged_to table n in
    let long = as_many_ids c.kids-index-end.result.now kids c.kids-index-end.ensures.are in
    let less = c.loop-index-test.true in
    let count = l.invariant.count in
    let (t, items, is) = c.in_ok-put_argument.ensures.is in
    let grown = ap length items ∙ length-append l.arguments.items (t ∷ []) in
    let types = c.in_ok-put_argument.ensures.types in
    let next : suc l.index ≡ l.index + 1 = omega arith in
    record {
      count = omega (arith, grown, count);
      are = next_argument new.types js kids l.arguments.items c.put_argument.new.arguments.items t l.index count (omega (arith, long, less)) items
          (subst (λ k. AreOf k js l.arguments.items (other_kids (node_in table n))) (sym types) l.invariant.are) is;
      ready = (
        kid_in table n l.index + 1,
        c.in_ok-put_argument.ensures.ready,
        λ more. subst (λ i. kid_in table n l.index + 1 ≤ kid_in table n i) next (next_kid table n (kid_in table n l.index + 1) new c.in_ok-put_argument.ensures.ready c.requires.within l.index (omega (arith, more))),
      );
      left = left_on table n c.args.meanings.now l.meanings new l.invariant.left c.in_ok-put_argument.ensures.left;
      types = types ∙ l.invariant.types;
    }
