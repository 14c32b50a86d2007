use Rattle.std.proofs.Common.{◌<◌, ◌+◌, ◌∙◌, ℕ, Option, None, ap, arith, get_or, length, subst, sym}
use Rattle.std.proofs.lemmas.List.{length_push}
use Rattle.c_names.specs.Chains.{chains_of}
use Rattle.c_names.specs.Denoted.{IsDenoted}
use Rattle.c_names.proofs.PutLaws.{all_pushed}
use Rattle.c_names.proofs.UseLaws.{step, sees, length-chains, none_stands, empty_at}
use Rattle.c_names.proofs.uses.denoted_by.Goals as goal

pub loop-number-init : goal.loop-number-init
loop-number-init c = record {
  stand = none_stands c.args.scoped.now (chains_of c.args.chains.now) (λ text within. empty_at c.args.chains.now c.requires.empty text);
  long = ap length c.new-found.ensures.items;
  are = λ i low. absurd (omega (arith, low));
}

pub loop-number-preserved : goal.loop-number-preserved
loop-number-preserved c =
    let l = c.loop-number in
    let table = c.args.scoped.now in
    let d = c.len-number-end.ensures.derived in
    record {
      stand = step table d l.number (chains_of l.chains) (chains_of c.enter_begun.new.chains) (length-chains l.chains ∙ (l.auto.chains ∙ c.requires.long)) (c.in_ok-enter_begun.ensures {u = tt}) l.invariant.stand;
      long = (let more = ap length ((c.in_ok-push.ensures {u = tt}).items) in let one = length_push l.found.items c.denoted_at.result in let old = l.invariant.long in omega (arith, more, one, old));
      are = subst (λ xs. (i : ℕ) → i < l.number + 1 → IsDenoted table i (get_or xs i None)) (sym ((c.in_ok-push.ensures {u = tt}).items))
          (all_pushed (λ i (o : Option ℕ). IsDenoted table i o) l.found.items l.number c.denoted_at.result None l.invariant.long l.invariant.are
          (sees table d l.number (chains_of l.chains) c.denoted_at.result c.denoted_at.ensures.sees c.len-number-end.ensures.nodes l.invariant.stand, c.denoted_at.ensures.other));
    }

pub returns : goal.returns
returns c =
    let l = c.loop-number in
    record {
      long = (let old = l.invariant.long in let most = c.loop-number-test.false in let low = l.auto.number-end in let is = c.len-number-end.ensures.is in omega (arith, old, most, low, is));
      are = λ i within. l.invariant.are i (let most = c.loop-number-test.false in let is = c.len-number-end.ensures.is in omega (arith, within, most, is));
    }
