use Rattle.std.proofs.Common.{◌∷◌, ◌++◌, [], sym, ap, ◌∙◌, subst}
use Rattle.ssa_core.specs.declared.notes.Write.{Write}
use Rattle.ssa_core.specs.Known.{Known}
use Rattle.ssa_core.specs.Building.{IsSettled}
use Rattle.ssa_core.proofs.Writing.{settled_written}
use Rattle.ssa_core.proofs.builder.SsaBuilder.write.Goals as goal

pub returns-clause-ready : goal.returns-clause-ready
returns-clause-ready g c = λ fresh.
    let w : Write _ = record { var = c.args.var; block = c.args.block; value = c.args.value } in
    subst (λ x. IsSettled g.T.SsaTarget.mode_of x (g.T.SsaTarget.shape c.args.target.now))
    (sym (ap (λ (x : Known _). record x { spent = c.self.inside.is_spent }) c.in_ok-write.ensures.ok
    ∙ ap (λ (x : Known _). record x { writes = x.writes ++ w ∷ [] }) c.self.view_is))
    (settled_written g.T.SsaTarget.mode_of c.args.self.now (g.T.SsaTarget.shape c.args.target.now) w
    (c.requires.ready (ap (λ k. k.spent) (sym c.self.view_is) ∙ fresh)) c.requires.value_there c.requires.alike c.requires.last)
