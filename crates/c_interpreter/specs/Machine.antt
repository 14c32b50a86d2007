-- The steps of the interpreter: what its tasks and its frames mean, in the terms of the C meaning. No public clause names it.
use Rattle.std.specs.Prelude.{ℕ, zero, ◌%◌, ◌≤◌, List, [], ◌∷◌, ◌++◌, length, take, drop, reverse, Option, Some, None, slice_get}
use Rattle.cp_base.specs.declared.op.To.TheVariants.{Truth}
use Rattle.cp_base.specs.Operations.{converted}
use Rattle.run_model.specs.declared.outcome.Outcome.TheVariants.{Undefined}
use Rattle.run_model.specs.Stores.{World}
use Rattle.c_types.specs.declared.tree.Stmt.{Stmt}
use Rattle.c_types.specs.declared.tree.Unit.{Unit as Whole}
use Rattle.c_types.specs.declared.tree.Expr.{Expr}
use Rattle.c_types.specs.declared.tree.Expr as expr
use Rattle.c_types.specs.Forms.{expr_row, stmt_row, group_row}
use Rattle.c_meaning.specs.Steps.{State, Result, Gives, Step, pure, stop, and_then, ◌>>=◌, ◌>>◌, choice, known, is_true, turn, write_local, read_data, write_data, copy_data, write_byte, operate}
use Rattle.c_meaning.specs.Meaning.{Flow, Normal, Breaks, Continues, Returns, value, used, left, if_normal, if_goes_on, ended_by_break, passed, call_of, eval, eval_all, holds, dropped, exec, exec_all, exec_from}
use Rattle.c_interpreter.specs.declared.frame.Frame.{Frame}
use Rattle.c_interpreter.specs.declared.frame.Frame.TheVariants as frame
use Rattle.c_interpreter.specs.declared.frame.Ending.{Ending}
use Rattle.c_interpreter.specs.declared.frame.Ending.TheVariants as ending
use Rattle.c_interpreter.specs.declared.frame.Task.{Task}
use Rattle.c_interpreter.specs.declared.frame.Task.TheVariants as task
use Rattle.c_interpreter.specs.declared.machine.Machine.{Machine}

-- what a part of a program gives: the value of an expression, the values of arguments, or how a statement ended
pub data Signal : Type 0 where
  Gave : Option ℕ → Signal
  Gathered : List ℕ → Signal
  Finished : Flow → Signal

abbrev pub gives : Step (Option ℕ) → Step Signal
gives step = step >>= (λ v. pure (Gave v))

abbrev pub gathers : Step (List ℕ) → Step Signal
gathers step = step >>= (λ vs. pure (Gathered vs))

abbrev pub ends : Step Flow → Step Signal
ends step = step >>= (λ flow. pure (Finished flow))

abbrev pub flow_of : Ending → Flow
flow_of ending.Normal = Normal
flow_of ending.Breaks = Breaks
flow_of ending.Continues = Continues
flow_of (ending.Returns v) = Returns v

-- where the locals of the caller stand
abbrev pub span_of : Frame → Option (ℕ × ℕ)
span_of (frame.Call f from to active) = Some (from, to)
span_of f = None

-- the locals that stand from one index to another
abbrev pub locals_of : List (Option ℕ) → Option (ℕ × ℕ) → List (Option ℕ)
locals_of words (Some span) = drop span.0 (take span.1 words)
locals_of words None = []

-- the state of a caller
abbrev pub caller_of : List (Option ℕ) → ℕ → State → State
caller_of locals active s = record { store = record s.store { active = active }; locals = locals }

module _ (u : Whole) (w : World) (again : Stmt → Step Flow) where
  -- what a construct does with the value of its part
  abbrev pub go_on : Frame → ℕ → Step Signal
  go_on (frame.SetLocal x) v = gives (write_local x (Some v) >> value v)
  go_on (frame.Load kind) at = gives (read_data w kind at >>= value)
  go_on (frame.StoreTo kind e) to = gives (used (eval u w again e.now) >>= (λ v. write_data w kind to v >> value v))
  go_on (frame.Store kind to) v = gives (write_data w kind to v >> value v)
  go_on (frame.CopyTo size align from_at) to = gives (used (eval u w again from_at.now) >>= (λ from. copy_data w size align to from >> value to))
  go_on (frame.Copy size align to) from = gives (copy_data w size align to from >> value to)
  go_on (frame.BinaryLeft op r) a = gives (used (eval u w again r.now) >>= (λ b. operate op a b >>= value))
  go_on (frame.Binary op a) b = gives (operate op a b >>= value)
  go_on (frame.Convert to) v = gives (value (converted to v))
  go_on (frame.Both r) a = gives (choice (is_true a) (used (eval u w again r.now) >>= (λ b. value (converted Truth b))) (value 0))
  go_on (frame.Either r) a = gives (choice (is_true a) (value 1) (used (eval u w again r.now) >>= (λ b. value (converted Truth b))))
  go_on (frame.Choose first second) v = gives (choice (is_true v) (eval u w again first.now) (eval u w again second.now))
  go_on frame.PutChar v = gives (write_byte v >> value (v % 256))
  go_on (frame.Arguments es) v = gathers (eval_all u w again (expr_row es.now) >>= (λ vs. pure (v ∷ vs)))
  go_on frame.Return v = ends (pure (Returns (Some v)))
  go_on (frame.If first second) v = ends (choice (is_true v) (exec u w again first.now) (exec u w again second.now))
  go_on (frame.Switch gs) v = ends (exec_from u w again (passed v gs.now) (group_row gs.now) >>= (λ flow. pure (ended_by_break flow)))
  go_on (frame.LoopTest whole step body) v =
      ends (choice (is_true v) (exec u w again body.now >>= (λ flow. if_goes_on flow (dropped u w again step.now >> turn (again whole.now)))) (pure Normal))
  go_on (frame.DoLoopTest whole) v = ends (choice (is_true v) (turn (again whole.now)) (pure Normal))
  go_on f v = stop Undefined

  -- the same, where the part may have given no value
  abbrev pub give : Frame → Option ℕ → Step Signal
  give (frame.Seq r) v = gives (eval u w again r.now)
  give frame.Drop v = ends (pure Normal)
  give (frame.LoopStep whole) v = ends (turn (again whole.now))
  give f v = known v >>= go_on f

  abbrev pub gather : Frame → List ℕ → Step Signal
  gather (frame.Argument v) vs = gathers (pure (v ∷ vs))
  gather (frame.CallTo function) vs = gives (call_of u w again (slice_get u.functions function) vs)
  gather f vs = stop Undefined

  abbrev pub finish : List (Option ℕ) → Frame → Flow → Step Signal
  finish locals frame.SwitchEnd flow = ends (pure (ended_by_break flow))
  finish locals (frame.Stmts ss) flow = ends (if_normal flow (exec_all u w again (stmt_row ss.now)))
  finish locals (frame.Groups gs) flow = ends (if_normal flow (exec_from u w again zero (group_row gs.now)))
  finish locals (frame.LoopBody whole step) flow = ends (if_goes_on flow (dropped u w again step.now >> turn (again whole.now)))
  finish locals (frame.DoLoopBody whole test) flow =
      ends (if_goes_on flow (holds u w again (Some test.now) >>= (λ goes_on. choice goes_on (turn (again whole.now)) (pure Normal))))
  finish locals (frame.Call f from to active) flow = gives (λ s. left f.now (caller_of locals active s) (Gives flow s))
  finish locals f flow = stop Undefined

  abbrev pub continue_in : List (Option ℕ) → Frame → Signal → Step Signal
  continue_in locals f (Gave v) = give f v
  continue_in locals f (Gathered vs) = gather f vs
  continue_in locals f (Finished flow) = finish locals f flow

  abbrev pub continue_with : List (Option ℕ) → Frame → Signal → Step Signal
  continue_with words f signal = continue_in (locals_of words (span_of f)) f signal

  -- what the frames make of a result, the last of them first
  abbrev pub resume : List (Option ℕ) → List Frame → Result Signal → Result Signal
  resume words [] r = r
  resume words (f ∷ fs) r = and_then (resume words fs r) (continue_with words f)

  abbrev pub task_of : List ℕ → Task → Step Signal
  task_of arguments (task.Expr e) = gives (eval u w again e.now)
  task_of arguments (task.Exprs es) = gathers (eval_all u w again (expr_row es.now))
  task_of arguments (task.Stmt st) = ends (exec u w again st.now)
  task_of arguments (task.Stmts ss) = ends (exec_all u w again (stmt_row ss.now))
  task_of arguments (task.Groups skipped gs) = ends (exec_from u w again skipped (group_row gs.now))
  task_of arguments (task.Value v) = pure (Gave v)
  task_of arguments task.Values = pure (Gathered (reverse arguments))
  task_of arguments (task.Ending flow) = pure (Finished (flow_of flow))
  task_of arguments (task.Turn st) = ends (turn (again st.now))
  task_of arguments (task.Call f) = gives (call_of u w again (Some f.now) (reverse arguments))
  task_of arguments (task.Stop outcome) = stop outcome

-- what a run has at a moment
pub record Configuration : Type 0 where
  pub frames : List Frame
  pub words : List (Option ℕ)
  pub base : ℕ
  pub arguments : List ℕ
  pub bytes : List ℕ
  pub taken : ℕ
  pub out : List ℕ
  pub turns : ℕ
  pub active : ℕ

abbrev pub seen : Machine → Configuration
seen m = record {
  frames = m.frames.items;
  words = m.words.items;
  base = m.base;
  arguments = m.arguments.items;
  bytes = m.bytes.items;
  taken = m.taken;
  out = m.out.items;
  turns = m.turns;
  active = m.active;
}

abbrev pub with_frame : Configuration → Frame → Configuration
with_frame c f = record c { frames = c.frames ++ f ∷ [] }

-- the state, where this output was handed on before
abbrev pub state_of : List ℕ → Configuration → State
state_of before c = record {
  store = record { bytes = c.bytes; taken = c.taken; out = before ++ c.out; turns = c.turns; active = c.active };
  locals = drop c.base c.words;
}

-- what the whole run comes to from here
abbrev pub means : Whole → World → (Stmt → Step Flow) → List ℕ → Configuration → Task → Result Signal
means u w again before c t = resume u w again c.words c.frames (task_of u w again c.arguments t (state_of before c))

-- ---- the locals of all calls in one list

abbrev pub NestedIn : Option (ℕ × ℕ) → (ℕ → Type 0) → ℕ → Type 0
NestedIn (Some span) above low = (low ≤ span.0) × (span.0 ≤ span.1) × above span.1
NestedIn None above low = above low

-- the locals of callers stand one behind the other, all of them before `base`
abbrev pub Nested : List Frame → ℕ → ℕ → Type 0
Nested [] base low = low ≤ base
Nested (f ∷ fs) base low = NestedIn (span_of f) (Nested fs base) low

pub record IsSound (c : Configuration) : Type 0 where
  pub nested : Nested c.frames c.base 0
  pub within : c.base ≤ length c.words

-- a value that has to be there
abbrev pub known_task : Option ℕ → Task
known_task (Some v) = task.Value (Some v)
known_task None = task.Stop Undefined

-- a frame that is rarer than these
abbrev pub IsRarerFrame : Frame → Type 0
IsRarerFrame (frame.Seq r) = ⊥
IsRarerFrame frame.Drop = ⊥
IsRarerFrame (frame.LoopStep whole) = ⊥
IsRarerFrame (frame.SetLocal x) = ⊥
IsRarerFrame (frame.BinaryLeft op r) = ⊥
IsRarerFrame (frame.Binary op a) = ⊥
IsRarerFrame (frame.Load kind) = ⊥
IsRarerFrame (frame.StoreTo kind e) = ⊥
IsRarerFrame (frame.Store kind to) = ⊥
IsRarerFrame (frame.Choose a b) = ⊥
IsRarerFrame (frame.Arguments es) = ⊥
IsRarerFrame frame.Return = ⊥
IsRarerFrame (frame.If a b) = ⊥
IsRarerFrame (frame.LoopTest whole step body) = ⊥
IsRarerFrame f = Unit {0}

-- an expression that is rarer than these
abbrev pub IsRarer : Expr → Type 0
IsRarer (expr.Const n) = ⊥
IsRarer (expr.Address object addend) = ⊥
IsRarer (expr.Local x) = ⊥
IsRarer (expr.SetLocal' x shape row) = ⊥
IsRarer (expr.Load' kind shape row) = ⊥
IsRarer (expr.Store' kind shape row other_shape other_row) = ⊥
IsRarer (expr.Binary' op shape row other_shape other_row) = ⊥
IsRarer (expr.Call' function n arguments) = ⊥
IsRarer e = Unit {0}
