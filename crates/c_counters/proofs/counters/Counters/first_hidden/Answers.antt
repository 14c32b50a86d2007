use Rattle.std.proofs.Common.{◌+◌, ◌∙◌, ap, ap₂, drop, map, subst, sym}
use Rattle.std.specs.Prelude.{sum}
use Rattle.c_typing.specs.Names.{function_around, named_locals}
use Rattle.c_typing.specs.Judgements.{hidden_in}
use Rattle.c_names.specs.Denoted.{places_in}
use Rattle.c_counters.specs.Counters.{AreSums}
use Rattle.c_counters.proofs.counters.Counters.first_hidden.Goals as goal

pub returns : goal.returns
returns c = λ js a at.
    let p = places_in c.args.nodes.now in
    ap₂ (λ x y. x + y) c.named_around.ensures.is
    (c.taken_from.ensures.is js (subst (AreSums js) (sym c.deref.ensures.value) a.sums) ∙ ap (λ f. sum (map hidden_in (drop f js))) c.first_around.ensures)
    ∙ ap (λ n. named_locals p (function_around p n) + sum (map hidden_in (drop (function_around p n).first js))) (sym at)
