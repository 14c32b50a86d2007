-- What a run over a sink comes to. No public clause names it.
use Rattle.std.specs.Prelude.{◌≡◌, ℕ, ◌+◌, ◌*◌, ◌≤◌, List, [], Option, None, replicate}
use Rattle.cp_base.specs.Outside.{gained}
use Rattle.run_model.specs.declared.outcome.Outcome.{Outcome}
use Rattle.c_types.specs.declared.tree.Func.{Func}
use Rattle.c_types.specs.declared.tree.Unit.{Unit as Whole}
use Rattle.c_types.specs.Placing.{image}
use Rattle.c_meaning.specs.Runs.{Ran}
use Rattle.c_meaning.specs.Meaning.{at_turn}
use Rattle.c_interpreter.specs.declared.frame.Task.{Task}
use Rattle.c_interpreter.specs.declared.frame.Task.TheVariants as task
use Rattle.c_interpreter.specs.declared.machine.Place.{Place}
use Rattle.c_interpreter.specs.Machine.{Configuration, means, IsSound}
use Rattle.c_interpreter.specs.Leading.{ran_of, world_of}

-- what a run comes to that begins here, before any output
abbrev pub start_of : Place → Configuration → Task → Ran
start_of place c t = ran_of (means place.unit.now (world_of place) (at_turn place.unit.now (world_of place) c.turns) [] c t)

-- where the body of `main` begins
abbrev pub first_moment : Whole → (base : ℕ) → Func → (turns : ℕ) → Configuration
first_moment u base main turns = record {
  frames = [];
  words = replicate main.locals None;
  base = 0;
  arguments = [];
  bytes = image u.objects base;
  taken = 0;
  out = [];
  turns = turns;
  active = 1;
}

-- a measure that falls with each turn, and where the run stops
abbrev pub rounds_left : ℕ → Task → ℕ
rounds_left turns (task.Stop outcome) = 2 * turns
rounds_left turns t = 2 * turns + 1

pub record RunsTo (ran : Ran) (outcome : Outcome) (old new : Option (List ℕ)) : Type 0 where
  pub same : outcome ≡ ran.outcome
  pub told : new ≡ gained old ran.out

-- a moment of a run that began with `bound` turns and is to come to this; the sink has gained the output up to here, but for the last bytes
pub record IsOnWay (place : Place) (ran : Ran) (bound : ℕ) (old : Option (List ℕ)) (c : Configuration) (t : Task) (now : Option (List ℕ)) : Type 0 where
  pub before : List ℕ
  pub told : now ≡ gained old before
  pub run : ran_of (means place.unit.now (world_of place) (at_turn place.unit.now (world_of place) bound) before c t) ≡ ran
  pub sound : IsSound c
  pub few : c.turns ≤ bound
