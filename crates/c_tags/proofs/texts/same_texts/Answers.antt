use Rattle.std.proofs.Common.{◌<◌, ◌+◌, ℕ, List, ap, arith, get_or, length, subst, sym}
use Rattle.std.proofs.lemmas.List.{length_push}
use Rattle.c_typing.specs.Places.{text_at}
use Rattle.c_nodes.specs.Parents.{nodes_in}
use Rattle.c_names.specs.Texts.{IsFirst}
use Rattle.c_names.proofs.PutLaws.{all_pushed}
use Rattle.c_names.proofs.TextLaws.{first_take}
use Rattle.c_tags.proofs.texts.same_texts.Goals as goal

pub loop-number-preserved : goal.loop-number-preserved
loop-number-preserved c =
    let l = c.loop-number in
    record {
      says = (c.in_ok-first_with.ensures {u = tt}).says;
      long = (let more = ap length ((c.in_ok-push.ensures {u = tt}).items) in let one = length_push l.found.items c.in_ok-first_with.field-0 in let old = l.invariant.long in omega (arith, more, one, old));
      firsts = subst (λ xs. (i : ℕ) → i < l.number + 1 → IsFirst (nodes_in c.args.nodes.now) i (get_or xs i 0)) (sym {A = List ℕ} ((c.in_ok-push.ensures {u = tt}).items))
          (all_pushed (λ i. IsFirst (nodes_in c.args.nodes.now) i) l.found.items l.number c.in_ok-first_with.field-0 0 l.invariant.long l.invariant.firsts ((c.in_ok-first_with.ensures {u = tt}).is));
    }

pub returns : goal.returns
returns c =
    let l = c.loop-number in
    let s = nodes_in c.args.nodes.now in
    record {
      long = (let old = l.invariant.long in let most = c.loop-number-test.false in let low = l.auto.number-end in let is = c.len-number-end.ensures.is in omega (arith, old, most, low, is));
      firsts = λ i within has. first_take (text_at s i) s (i + 1) (get_or l.found.items i 0) (l.invariant.firsts i (let most = c.loop-number-test.false in let is = c.len-number-end.ensures.is in omega (arith, within, most, is)) has);
    }
