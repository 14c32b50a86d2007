-- What a step of the interpreter keeps. No public clause names it.
use Rattle.std.specs.Prelude.{◌≡◌, ℕ, ◌+◌, ◌<◌, ◌≤◌, List, [], length, take, drop, slice_set, Option, Some, None}
use Rattle.run_model.specs.Stores.{World}
use Rattle.c_types.specs.declared.tree.Expr.{Expr}
use Rattle.c_types.specs.declared.tree.Stmt.{Stmt}
use Rattle.c_types.specs.declared.tree.Unit.{Unit as Whole}
use Rattle.c_types.specs.Placing.{object_offsets}
use Rattle.c_meaning.specs.Steps.{State, Result, Gives, Stops, Step, and_then}
use Rattle.c_meaning.specs.Runs.{Ran, ran}
use Rattle.run_model.specs.declared.outcome.Outcome.TheVariants.{Undefined}
use Rattle.c_meaning.specs.Meaning.{Flow, eval, exec, at_turn}
use Rattle.c_interpreter.specs.declared.frame.Frame.{Frame}
use Rattle.c_interpreter.specs.declared.frame.Task.{Task}
use Rattle.c_interpreter.specs.declared.frame.Task.TheVariants as task
use Rattle.c_interpreter.specs.declared.machine.Place.{Place}
use Rattle.c_interpreter.specs.Machine.{Signal, Finished, Configuration, state_of, continue_with, resume, task_of, means, span_of, IsSound, gives, ends}
use Rattle.c_interpreter.specs.Weights.{task_weight, frame_weight, frames_weight, weight}

abbrev pub world_of : Place → World
world_of place = record { base = place.base; input = place.input.now; depth = place.depth }

-- the offsets are those of the unit's objects
abbrev pub IsPlaced : Place → Type 0
IsPlaced place = place.offsets.now ≡ object_offsets place.unit.now.objects

-- what is to be done, in any unit: it may read the locals of callers and the arguments that were found
abbrev pub Meaning : Type 0
Meaning = Whole → World → (Stmt → Step Flow) → List (Option ℕ) → List ℕ → Step Signal

abbrev pub task_meaning : Task → Meaning
task_meaning t u w again words arguments = task_of u w again arguments t

abbrev pub frame_meaning : Frame → Signal → Meaning
frame_meaning f signal u w again words arguments = continue_with u w again words f signal

abbrev pub expr_meaning : Expr → Meaning
expr_meaning e u w again words arguments = gives (eval u w again e)

abbrev pub stmt_meaning : Stmt → Meaning
stmt_meaning st u w again words arguments = ends (exec u w again st)

-- it is a task, and then a frame
pub record Opens (meaning : Meaning) (heavy : ℕ) (f : Frame) (s : Task) : Type 0 where
  pub run : (u : Whole) (w : World) (again : Stmt → Step Flow) (words : List (Option ℕ)) (arguments : List ℕ) (state : State)
      → and_then (task_of u w again arguments s state) (continue_with u w again words f) ≡ meaning u w again words arguments state
  pub lighter : task_weight s + frame_weight f < heavy
  pub plain : span_of f ≡ None

-- it is a task
pub record Settles (meaning : Meaning) (heavy : ℕ) (s : Task) : Type 0 where
  pub run : (u : Whole) (w : World) (again : Stmt → Step Flow) (words : List (Option ℕ)) (arguments : List ℕ) (state : State)
      → task_of u w again arguments s state ≡ meaning u w again words arguments state
  pub lighter : task_weight s < heavy

-- a moment in a run that is to do this goes on to a task at another moment, by steps that use no turn
pub record LeadsFrom (place : Place) (c : Configuration) (meaning : Meaning) (heavy : ℕ) (d : Configuration) (s : Task) : Type 0 where
  pub run : (again : Stmt → Step Flow) (before : List ℕ)
      → means place.unit.now (world_of place) again before d s
      ≡ resume place.unit.now (world_of place) again c.words c.frames (meaning place.unit.now (world_of place) again c.words c.arguments (state_of before c))
  pub sound : IsSound d
  pub lighter : weight d s < heavy + frames_weight c.frames
  pub turns : d.turns ≡ c.turns

abbrev pub Leads : Place → Configuration → Task → Configuration → Task → Type 0
Leads place c t d s = LeadsFrom place c (task_meaning t) (task_weight t) d s

-- from a signal to the last frame, which was taken away
abbrev pub Continues : Place → Configuration → Frame → Signal → Configuration → Task → Type 0
Continues place c f signal d s = LeadsFrom place c (frame_meaning f signal) (frame_weight f) d s

-- the expression has this value at this moment, and changes nothing
pub record IsPlain (c : Configuration) (e : Expr) (word : ℕ) : Type 0 where
  pub run : (u : Whole) (w : World) (again : Stmt → Step Flow) (before : List ℕ) → eval u w again e (state_of before c) ≡ Gives (Some word) (state_of before c)

-- the value of one local was set
pub record SetsLocal (c : Configuration) (x : ℕ) (value : Option ℕ) (d : Configuration) : Type 0 where
  pub rest : d ≡ record c { words = d.words }
  pub locals : drop c.base d.words ≡ slice_set (drop c.base c.words) x value
  pub below : take c.base d.words ≡ take c.base c.words
  pub long : length d.words ≡ length c.words

-- a later moment in the same run, where no turn was used
pub record Reaches (place : Place) (c : Configuration) (t : Task) (d : Configuration) (s : Task) : Type 0 where
  pub run : (again : Stmt → Step Flow) (before : List ℕ)
      → means place.unit.now (world_of place) again before d s ≡ means place.unit.now (world_of place) again before c t
  pub sound : IsSound d
  pub turns : d.turns ≡ c.turns

-- where the run pauses: a turn or a call is next, it has stopped, or no frame is left
abbrev pub Pauses : Configuration → Task → Type 0
Pauses c (task.Value v) = c.frames ≡ []
Pauses c task.Values = c.frames ≡ []
Pauses c (task.Ending flow) = c.frames ≡ []
Pauses c (task.Turn st) = Unit {0}
Pauses c (task.Call f) = Unit {0}
Pauses c (task.Stop outcome) = Unit {0}
Pauses c t = ⊥

-- the turns left fall, where the run has not stopped
abbrev pub Falls : ℕ → ℕ → Task → Type 0
Falls old new (task.Stop outcome) = new ≡ old
Falls old new t = new < old

-- a moment at which a turn or a call is next, and the one after it; the bound of the turns is any that is not below those that were left
pub record Advances (place : Place) (c : Configuration) (t : Task) (d : Configuration) (s : Task) : Type 0 where
  pub run : (bound : ℕ) (before : List ℕ) → c.turns ≤ bound
      → means place.unit.now (world_of place) (at_turn place.unit.now (world_of place) bound) before d s
      ≡ means place.unit.now (world_of place) (at_turn place.unit.now (world_of place) bound) before c t
  pub sound : IsSound d
  pub turns : Falls c.turns d.turns s

-- what a whole run came to
abbrev pub ran_of : Result Signal → Ran
ran_of (Gives (Finished flow) s) = ran (Gives flow s)
ran_of (Gives signal s) = record { outcome = Undefined; out = s.store.out }
ran_of (Stops outcome store) = record { outcome = outcome; out = store.out }

-- a later moment of one run: it comes to the same, and a turn was used or it has stopped
pub record Nears (place : Place) (c : Configuration) (t : Task) (d : Configuration) (s : Task) : Type 0 where
  pub run : (bound : ℕ) (before : List ℕ) → c.turns ≤ bound
      → ran_of (means place.unit.now (world_of place) (at_turn place.unit.now (world_of place) bound) before d s)
      ≡ ran_of (means place.unit.now (world_of place) (at_turn place.unit.now (world_of place) bound) before c t)
  pub sound : IsSound d
  pub turns : Falls c.turns d.turns s
