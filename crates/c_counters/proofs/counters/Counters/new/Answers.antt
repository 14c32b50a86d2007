use Rattle.std.proofs.Common.{◌++◌, ◌∷◌, ◌∙◌, [], ap, arith, subst, sym}
use Rattle.c_counters.specs.Counters.{AreSums}
use Rattle.c_counters.proofs.CounterLaws.{no_literals}
use Rattle.c_counters.proofs.SumLaws.{no_sums}
use Rattle.c_counters.proofs.counters.Counters.new.Goals as goal

pub returns : goal.returns
returns c = λ p. record {
  sums = subst (AreSums []) (sym ((c.in_ok-push.ensures {u = tt}).items ∙ ap (λ xs. xs ++ 0 ∷ []) c.new-sums.ensures.items)) no_sums;
  literals = sym (no_literals p.nodes);
  few = omega arith;
}
