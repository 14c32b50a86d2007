-- The newest step is taken back.
use Rattle.std.proofs.Common.{◌≡◌, ◌∙◌, ◌∷◌, ap, reverse, List, ◌++◌, []}
use Rattle.std.proofs.lemmas.List.{reverse-append}
use Rattle.c_scopes.specs.declared.scopes.Addition.{Addition}
use Rattle.c_scopes.specs.declared.scopes.Step.{Step}
use Rattle.c_scopes.specs.declared.scopes.Step.TheVariants.{Added}
use Rattle.c_scopes.proofs.KeptLaws.{added-recorded, undone-kept}
use Rattle.c_scopes.proofs.scopes.Scopes.take_newest.Goals as goal

-- the log before its newest step was taken
newest : (log older : List Step) (step : Step) (a : Addition) → log ≡ older ++ step ∷ [] → step ≡ Added a → reverse log ≡ Added a ∷ reverse older
newest log older step a split is = ap reverse split ∙ reverse-append older (step ∷ []) ∙ ap (λ s. s ∷ reverse older) is

pub restore-requires : goal.restore-requires
restore-requires c =
    let taken = newest _ _ _ _ c.in-Some-Added.ensures.items c.in-Some-Added.field-0-is in
    added-recorded _ _ _ _ c.self.inside.latest (rw taken at c.self.invariant)

pub invariant_of-self-in-Some-Added : goal.invariant_of-self-in-Some-Added
invariant_of-self-in-Some-Added c =
    let taken = newest _ _ _ _ c.in-Some-Added.ensures.items c.in-Some-Added.field-0-is in
    undone-kept _ _ _ _ _ (rw taken at c.self.invariant) c.restore.ensures
