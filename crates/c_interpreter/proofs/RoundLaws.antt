-- One turn of a run.
use Rattle.std.proofs.Common.{◌≡◌, ℕ, [], Option, refl, sym, ap, subst, ◌∙◌, arith}
use Rattle.std.specs.Prelude.{Result as Answer, IfOk}
use Rattle.std.proofs.lemmas.Result.{IfOk-weaker}
use Rattle.run_model.specs.declared.outcome.Outcome.TheVariants as outcome
use Rattle.c_meaning.specs.Runs.{status_of}
use Rattle.c_meaning.specs.Meaning.{at_turn}
use Rattle.c_interpreter.specs.declared.frame.Ending.{Ending}
use Rattle.c_interpreter.specs.declared.frame.Task.{Task}
use Rattle.c_interpreter.specs.declared.frame.Task.TheVariants as task
use Rattle.c_interpreter.specs.declared.machine.Place.{Place}
use Rattle.c_interpreter.specs.Machine.{Configuration, IsSound, flow_of, resume, task_of, state_of}
use Rattle.c_interpreter.specs.Leading.{Advances, Reaches, Nears, Falls, ran_of, world_of}

pub advanced : (place : Place) (c d : Configuration) (t s : Task) → Advances place c t d s → Nears place c t d s
advanced place c d t s h = record { run = λ bound before few. ap ran_of (h.run bound before few); sound = h.sound; turns = h.turns }

pub advanced_if : {E : Type 0} (place : Place) (c d : Configuration) (t : Task) (r : Answer Task E) → IfOk r (λ s. Advances place c t d s) → IfOk r (λ s. Nears place c t d s)
advanced_if place c d t r h = IfOk-weaker r _ _ (λ s k. advanced place c d t s k) h

-- no frame is left, so the run has ended
pub run_ended : (place : Place) (c : Configuration) (ending : Ending) (status : ℕ) → c.frames ≡ [] → status ≡ status_of (flow_of ending) → IsSound c
    → Nears place c (task.Ending ending) c (task.Stop (outcome.Ended status))
run_ended place c ending status none is sound = record {
  run = λ bound before few.
      let u = place.unit.now in
      let w = world_of place in
      let again = at_turn place.unit.now (world_of place) bound in
      ap (λ fs. ran_of (resume u w again c.words fs (task_of u w again c.arguments (task.Stop (outcome.Ended status)) (state_of before c)))) none
      ∙ rw is refl
      ∙ sym (ap (λ fs. ran_of (resume u w again c.words fs (task_of u w again c.arguments (task.Ending ending) (state_of before c)))) none);
  sound = sound;
  turns = refl;
}

-- a value where no frame is left
pub value_left : (place : Place) (c : Configuration) (v : Option ℕ) → c.frames ≡ [] → IsSound c → Nears place c (task.Value v) c (task.Stop outcome.Undefined)
value_left place c v none sound = record {
  run = λ bound before few.
      let u = place.unit.now in
      let w = world_of place in
      let again = at_turn place.unit.now (world_of place) bound in
      ap (λ fs. ran_of (resume u w again c.words fs (task_of u w again c.arguments (task.Stop outcome.Undefined) (state_of before c)))) none
      ∙ sym (ap (λ fs. ran_of (resume u w again c.words fs (task_of u w again c.arguments (task.Value v) (state_of before c)))) none);
  sound = sound;
  turns = refl;
}

pub values_left : (place : Place) (c : Configuration) → c.frames ≡ [] → IsSound c → Nears place c task.Values c (task.Stop outcome.Undefined)
values_left place c none sound = record {
  run = λ bound before few.
      let u = place.unit.now in
      let w = world_of place in
      let again = at_turn place.unit.now (world_of place) bound in
      ap (λ fs. ran_of (resume u w again c.words fs (task_of u w again c.arguments (task.Stop outcome.Undefined) (state_of before c)))) none
      ∙ sym (ap (λ fs. ran_of (resume u w again c.words fs (task_of u w again c.arguments task.Values (state_of before c)))) none);
  sound = sound;
  turns = refl;
}

-- the steps up to a pause, and then what comes there
pub round_done : {E : Type 0} (place : Place) (c d e : Configuration) (t s : Task) (r : Answer Task E) → Reaches place c t d s → IfOk r (λ next. Nears place d s e next)
    → IfOk r (λ next. Nears place c t e next)
round_done place c d e t s r reached h = IfOk-weaker r _ _ (λ next k. record {
  run = λ bound before few.
      k.run bound before (let same = reached.turns in omega (arith, few, same)) ∙ ap ran_of (reached.run (at_turn place.unit.now (world_of place) bound) before);
  sound = k.sound;
  turns = subst (λ n. Falls n e.turns next) reached.turns k.turns;
}) h
