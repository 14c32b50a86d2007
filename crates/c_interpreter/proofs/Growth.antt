-- The output only grows: whatever is left to do in a run, its output begins with what it was before.
use Rattle.std.proofs.Common.{◌≡◌, ℕ, zero, suc, Bool, true, false, nat_lt, List, [], ◌∷◌, ◌++◌, Option, Some, None, reverse, refl, sym, subst}
use mathlib.Core.Former.{Count}
use Rattle.cp_base.specs.declared.op.To.TheVariants.{Truth}
use Rattle.cp_base.specs.Operations.{converted}
use Rattle.run_model.specs.declared.outcome.Outcome.{Outcome}
use Rattle.run_model.specs.declared.outcome.Outcome.TheVariants.{Running, Undefined, Deep}
use Rattle.run_model.specs.Accesses.{loaded, stored, copied}
use Rattle.run_model.specs.Stores.{World, IsPrefix}
use Rattle.c_types.specs.declared.tree.Expr.{Expr}
use Rattle.c_types.specs.declared.tree.Stmt.{Stmt}
use Rattle.c_types.specs.declared.tree.Func.{Func}
use Rattle.c_types.specs.declared.tree.Unit.{Unit as Whole}
use Rattle.c_types.specs.Operators.{c_operator}
use Rattle.c_types.specs.Forms.{ExprRow, no_exprs, an_expr, expr_row, StmtRow, no_stmts, a_stmt, stmt_row, GroupRow, no_groups, a_group, group_row}
use Rattle.c_meaning.specs.Steps.{State, Result, Gives, Stops, Step, out_of, pure, stop, and_then, ◌>>=◌, ◌>>◌, choice, known, is_true, turn_of, turn, change_bytes}
use Rattle.c_meaning.specs.Meaning.{Flow, Normal, Breaks, Continues, Returns, value, used, left, entered, if_normal, if_goes_on, call_body, call_of, eval, eval_all, dropped, exec, exec_all, exec_from, at_turn}
use Rattle.c_meaning.proofs.Agreement.{prefix_refl, prefix_trans}
use Rattle.c_meaning.proofs.RunLaws.{statement_grows, expression_grows}
use Rattle.c_interpreter.specs.declared.frame.Frame.{Frame}
use Rattle.c_interpreter.specs.declared.frame.Frame.TheVariants as frame
use Rattle.c_interpreter.specs.declared.frame.Task.{Task}
use Rattle.c_interpreter.specs.declared.frame.Task.TheVariants as task
use Rattle.c_interpreter.specs.Machine.{Signal, Gave, Gathered, Finished, Configuration, state_of, gives, gathers, ends, go_on, give, gather, finish, continue_in, continue_with, resume, task_of, means, span_of, locals_of}
use Rattle.c_interpreter.specs.Leading.{ran_of}

-- ---- steps

record OnlyGrows (A : Type 0) (step : Step A) : Type 0 where
  by : (s : State) → IsPrefix s.store.out (out_of (step s))

grows_pure : {A : Type 0} → (a : A) → OnlyGrows A (pure a)
grows_pure a = record { by = λ s. prefix_refl s.store.out }

grows_stop : {A : Type 0} → (outcome : Outcome) → OnlyGrows A (stop outcome)
grows_stop outcome = record { by = λ s. prefix_refl s.store.out }

and_then_grows : {A B : Type 0} → (r : Result A) (next : A → Step B) → ((a : A) → OnlyGrows B (next a)) → IsPrefix (out_of r) (out_of (and_then r next))
and_then_grows (Gives a s) next grows = (grows a).by s
and_then_grows (Stops outcome last) next grows = prefix_refl last.out

grows_next : {A B : Type 0} → {step : Step A} → {next : A → Step B} → OnlyGrows A step → ((a : A) → OnlyGrows B (next a)) → OnlyGrows B (step >>= next)
grows_next {step = step} {next = next} first rest = record { by = λ s. prefix_trans (first.by s) (and_then_grows (step s) next rest) }

grows_known : {A : Type 0} → (a : Option A) → OnlyGrows A (known a)
grows_known (Some a) = grows_pure a
grows_known None = grows_stop Undefined

grows_choice : {A : Type 0} → (b : Bool) → {p q : Step A} → OnlyGrows A p → OnlyGrows A q → OnlyGrows A (choice b p q)
grows_choice true first second = first
grows_choice false first second = second

grows_used : {step : Step (Option ℕ)} → OnlyGrows (Option ℕ) step → OnlyGrows ℕ (used step)
grows_used grows = grows_next grows grows_known

grows_change : (bytes : Option (List ℕ)) → OnlyGrows (Unit {0}) (change_bytes bytes)
grows_change (Some bytes) = record { by = λ s. prefix_refl s.store.out }
grows_change None = grows_stop Undefined

-- a step that looks at the state and leaves it
grows_from : {A B : Type 0} → (look : State → B) → {step : B → Step A} → ((b : B) → OnlyGrows A (step b)) → OnlyGrows A (λ s. step (look s) s)
grows_from look grows = record { by = λ s. (grows (look s)).by s }

turn_of_grows : {A : Type 0} → (step : Step A) → OnlyGrows A step → (n : ℕ) (s : State) → IsPrefix s.store.out (out_of (turn_of n step s))
turn_of_grows step grows zero s = prefix_refl s.store.out
turn_of_grows step grows (suc n) s = grows.by (record s { store = record s.store { turns = n } })

grows_turn : {A : Type 0} → {step : Step A} → OnlyGrows A step → OnlyGrows A (turn step)
grows_turn {step = step} grows = record { by = λ s. turn_of_grows step grows s.store.turns s }

grows_gives : {step : Step (Option ℕ)} → OnlyGrows (Option ℕ) step → OnlyGrows Signal (gives step)
grows_gives grows = grows_next grows (λ v. grows_pure (Gave v))

grows_gathers : {step : Step (List ℕ)} → OnlyGrows (List ℕ) step → OnlyGrows Signal (gathers step)
grows_gathers grows = grows_next grows (λ vs. grows_pure (Gathered vs))

grows_ends : {step : Step Flow} → OnlyGrows Flow step → OnlyGrows Signal (ends step)
grows_ends grows = grows_next grows (λ flow. grows_pure (Finished flow))

grows_if_normal : (flow : Flow) → {step : Step Flow} → OnlyGrows Flow step → OnlyGrows Flow (if_normal flow step)
grows_if_normal Normal grows = grows
grows_if_normal Breaks grows = grows_pure Breaks
grows_if_normal Continues grows = grows_pure Continues
grows_if_normal (Returns v) grows = grows_pure (Returns v)

grows_if_goes_on : (flow : Flow) → {step : Step Flow} → OnlyGrows Flow step → OnlyGrows Flow (if_goes_on flow step)
grows_if_goes_on Normal grows = grows
grows_if_goes_on Breaks grows = grows_pure Normal
grows_if_goes_on Continues grows = grows
grows_if_goes_on (Returns v) grows = grows_pure (Returns v)

left_out : (f : Func) (caller : State) (r : Result Flow) → out_of (left f caller r) ≡ out_of r
left_out f caller (Gives flow s) = refl
left_out f caller (Stops outcome last) = refl

-- ---- what a run does, over a number of turns

module _ (u : Whole) (w : World) (bound : ℕ) where
  abbrev again : Stmt → Step Flow
  again = at_turn u w bound

  grows_again : (n : ℕ) (st : Stmt) → OnlyGrows _ (at_turn u w n st)
  unfolding at_turn
  grows_again zero st = grows_stop Running
  grows_again (suc n) st = record { by = statement_grows u w n st }

  grows_eval : (e : Expr) → OnlyGrows _ (eval u w again e)
  grows_eval e = record { by = expression_grows u w bound e }

  grows_exec : (st : Stmt) → OnlyGrows _ (exec u w again st)
  grows_exec st = record { by = statement_grows u w bound st }

  grows_all : {n : Count} → (es : ExprRow n) → OnlyGrows _ (eval_all u w again es)
  grows_all no_exprs = grows_pure []
  grows_all (an_expr e es) = grows_next (grows_used (grows_eval e)) (λ v. grows_next (grows_all es) (λ vs. grows_pure (v ∷ vs)))

  grows_stmts : {n : Count} → (ss : StmtRow n) → OnlyGrows _ (exec_all u w again ss)
  grows_stmts no_stmts = grows_pure Normal
  grows_stmts (a_stmt st ss) = grows_next (grows_exec st) (λ flow. grows_if_normal flow (grows_stmts ss))

  grows_groups : (skipped : ℕ) {n : Count} → (gs : GroupRow n) → OnlyGrows _ (exec_from u w again skipped gs)
  grows_groups skipped no_groups = grows_pure Normal
  grows_groups (suc skipped) (a_group labels other n body gs) = grows_groups skipped gs
  grows_groups zero (a_group labels other n body gs) = grows_next (grows_stmts body) (λ flow. grows_if_normal flow (grows_groups zero gs))

  grows_dropped : (step : Option Expr) → OnlyGrows _ (dropped u w again step)
  grows_dropped (Some e) = grows_next (grows_eval e) (λ _. grows_pure (tt {0}))
  grows_dropped None = grows_pure (tt {0})

  grows_loop : (whole : Stmt) → OnlyGrows _ (turn (again whole))
  grows_loop whole = grows_turn (grows_again bound whole)

  grows_step : (step : Option Expr) (whole : Stmt) → OnlyGrows _ (dropped u w again step >> turn (again whole))
  grows_step step whole = grows_next (grows_dropped step) (λ _. grows_loop whole)

  grows_body : (f : Func) (arguments : List ℕ) → OnlyGrows _ (call_body u w again f arguments)
  grows_body f arguments = grows_turn (record {
    by = λ s. subst (IsPrefix s.store.out) (sym (left_out f s (again f.body (entered f arguments s)))) ((grows_again bound f.body).by (entered f arguments s));
  })

  grows_call : (f : Option Func) (arguments : List ℕ) → OnlyGrows _ (call_of u w again f arguments)
  grows_call None arguments = grows_stop Undefined
  grows_call (Some f) arguments =
      grows_from (λ s. nat_lt s.store.active w.depth) (λ allowed. grows_choice allowed (grows_body f arguments) (grows_stop Deep))

  grows_truth : (e : Expr) → OnlyGrows _ (used (eval u w again e) >>= (λ b. value (converted Truth b)))
  grows_truth e = grows_next (grows_used (grows_eval e)) (λ b. grows_pure _)

  -- ---- frames

  grows_on : (f : Frame) (v : ℕ) → OnlyGrows _ (go_on u w again f v)
  grows_on (frame.SetLocal x) v = record { by = λ s. prefix_refl s.store.out }
  grows_on (frame.Load kind) at = grows_gives (grows_next (grows_from (λ s. loaded w.base s.store.bytes kind at) grows_known) (λ v. grows_pure _))
  grows_on (frame.StoreTo kind e) to =
      grows_gives (grows_next (grows_used (grows_eval e.now)) (λ v. grows_next (grows_from (λ s. stored w.base s.store.bytes kind to v) grows_change) (λ _. grows_pure _)))
  grows_on (frame.Store kind to) v = grows_gives (grows_next (grows_from (λ s. stored w.base s.store.bytes kind to v) grows_change) (λ _. grows_pure _))
  grows_on (frame.CopyTo size align e) to =
      grows_gives (grows_next (grows_used (grows_eval e.now)) (λ v. grows_next (grows_from (λ s. copied w.base s.store.bytes size align to v) grows_change) (λ _. grows_pure _)))
  grows_on (frame.Copy size align to) v = grows_gives (grows_next (grows_from (λ s. copied w.base s.store.bytes size align to v) grows_change) (λ _. grows_pure _))
  grows_on (frame.BinaryLeft op r) a =
      grows_gives (grows_next (grows_used (grows_eval r.now)) (λ b. grows_next (grows_known (c_operator op a b)) (λ _. grows_pure _)))
  grows_on (frame.Binary op a) b = grows_gives (grows_next (grows_known (c_operator op a b)) (λ _. grows_pure _))
  grows_on (frame.Convert to) v = grows_gives (grows_pure _)
  grows_on (frame.Both r) a = grows_gives (grows_choice (is_true a) (grows_truth r.now) (grows_pure _))
  grows_on (frame.Either r) a = grows_gives (grows_choice (is_true a) (grows_pure _) (grows_truth r.now))
  grows_on (frame.Choose first second) v = grows_gives (grows_choice (is_true v) (grows_eval first.now) (grows_eval second.now))
  grows_on frame.PutChar v = record { by = λ s. record { rest = _; is = refl } }
  grows_on (frame.Arguments es) v = grows_gathers (grows_next (grows_all (expr_row es.now)) (λ vs. grows_pure _))
  grows_on frame.Return v = grows_ends (grows_pure _)
  grows_on (frame.If first second) v = grows_ends (grows_choice (is_true v) (grows_exec first.now) (grows_exec second.now))
  grows_on (frame.Switch gs) v = grows_ends (grows_next (grows_groups _ (group_row gs.now)) (λ flow. grows_pure _))
  grows_on (frame.LoopTest whole step body) v =
      grows_ends (grows_choice (is_true v) (grows_next (grows_exec body.now) (λ flow. grows_if_goes_on flow (grows_step step.now whole.now))) (grows_pure _))
  grows_on (frame.DoLoopTest whole) v = grows_ends (grows_choice (is_true v) (grows_loop whole.now) (grows_pure _))
  grows_on (frame.Seq r) v = grows_stop Undefined
  grows_on (frame.Argument x) v = grows_stop Undefined
  grows_on (frame.CallTo f) v = grows_stop Undefined
  grows_on frame.Drop v = grows_stop Undefined
  grows_on frame.SwitchEnd v = grows_stop Undefined
  grows_on (frame.Stmts ss) v = grows_stop Undefined
  grows_on (frame.Groups gs) v = grows_stop Undefined
  grows_on (frame.LoopBody whole step) v = grows_stop Undefined
  grows_on (frame.LoopStep whole) v = grows_stop Undefined
  grows_on (frame.DoLoopBody whole test) v = grows_stop Undefined
  grows_on (frame.Call f from to active) v = grows_stop Undefined

  grows_known_on : (f : Frame) (v : Option ℕ) → OnlyGrows _ (known v >>= go_on u w again f)
  grows_known_on f v = grows_next (grows_known v) (grows_on f)

  grows_give : (f : Frame) (v : Option ℕ) → OnlyGrows _ (give u w again f v)
  grows_give (frame.Seq r) v = grows_gives (grows_eval r.now)
  grows_give frame.Drop v = grows_ends (grows_pure Normal)
  grows_give (frame.LoopStep whole) v = grows_ends (grows_loop whole.now)
  grows_give (frame.SetLocal x) v = grows_known_on (frame.SetLocal x) v
  grows_give (frame.Load kind) v = grows_known_on (frame.Load kind) v
  grows_give (frame.StoreTo kind e) v = grows_known_on (frame.StoreTo kind e) v
  grows_give (frame.Store kind to) v = grows_known_on (frame.Store kind to) v
  grows_give (frame.CopyTo size align e) v = grows_known_on (frame.CopyTo size align e) v
  grows_give (frame.Copy size align to) v = grows_known_on (frame.Copy size align to) v
  grows_give (frame.BinaryLeft op r) v = grows_known_on (frame.BinaryLeft op r) v
  grows_give (frame.Binary op a) v = grows_known_on (frame.Binary op a) v
  grows_give (frame.Convert to) v = grows_known_on (frame.Convert to) v
  grows_give (frame.Both r) v = grows_known_on (frame.Both r) v
  grows_give (frame.Either r) v = grows_known_on (frame.Either r) v
  grows_give (frame.Choose first second) v = grows_known_on (frame.Choose first second) v
  grows_give frame.PutChar v = grows_known_on frame.PutChar v
  grows_give (frame.Arguments es) v = grows_known_on (frame.Arguments es) v
  grows_give (frame.Argument x) v = grows_known_on (frame.Argument x) v
  grows_give (frame.CallTo f) v = grows_known_on (frame.CallTo f) v
  grows_give frame.Return v = grows_known_on frame.Return v
  grows_give (frame.If first second) v = grows_known_on (frame.If first second) v
  grows_give (frame.Switch gs) v = grows_known_on (frame.Switch gs) v
  grows_give frame.SwitchEnd v = grows_known_on frame.SwitchEnd v
  grows_give (frame.Stmts ss) v = grows_known_on (frame.Stmts ss) v
  grows_give (frame.Groups gs) v = grows_known_on (frame.Groups gs) v
  grows_give (frame.LoopTest whole step body) v = grows_known_on (frame.LoopTest whole step body) v
  grows_give (frame.LoopBody whole step) v = grows_known_on (frame.LoopBody whole step) v
  grows_give (frame.DoLoopBody whole test) v = grows_known_on (frame.DoLoopBody whole test) v
  grows_give (frame.DoLoopTest whole) v = grows_known_on (frame.DoLoopTest whole) v
  grows_give (frame.Call f from to active) v = grows_known_on (frame.Call f from to active) v

  grows_gather : (f : Frame) (vs : List ℕ) → OnlyGrows _ (gather u w again f vs)
  grows_gather (frame.Argument x) vs = grows_gathers (grows_pure (x ∷ vs))
  grows_gather (frame.CallTo f) vs = grows_gives (grows_call _ vs)
  grows_gather (frame.SetLocal x) vs = grows_stop Undefined
  grows_gather (frame.Load kind) vs = grows_stop Undefined
  grows_gather (frame.StoreTo kind e) vs = grows_stop Undefined
  grows_gather (frame.Store kind to) vs = grows_stop Undefined
  grows_gather (frame.CopyTo size align e) vs = grows_stop Undefined
  grows_gather (frame.Copy size align to) vs = grows_stop Undefined
  grows_gather (frame.BinaryLeft op r) vs = grows_stop Undefined
  grows_gather (frame.Binary op a) vs = grows_stop Undefined
  grows_gather (frame.Convert to) vs = grows_stop Undefined
  grows_gather (frame.Both r) vs = grows_stop Undefined
  grows_gather (frame.Either r) vs = grows_stop Undefined
  grows_gather (frame.Choose first second) vs = grows_stop Undefined
  grows_gather (frame.Seq r) vs = grows_stop Undefined
  grows_gather frame.PutChar vs = grows_stop Undefined
  grows_gather (frame.Arguments es) vs = grows_stop Undefined
  grows_gather frame.Drop vs = grows_stop Undefined
  grows_gather frame.Return vs = grows_stop Undefined
  grows_gather (frame.If first second) vs = grows_stop Undefined
  grows_gather (frame.Switch gs) vs = grows_stop Undefined
  grows_gather frame.SwitchEnd vs = grows_stop Undefined
  grows_gather (frame.Stmts ss) vs = grows_stop Undefined
  grows_gather (frame.Groups gs) vs = grows_stop Undefined
  grows_gather (frame.LoopTest whole step body) vs = grows_stop Undefined
  grows_gather (frame.LoopBody whole step) vs = grows_stop Undefined
  grows_gather (frame.LoopStep whole) vs = grows_stop Undefined
  grows_gather (frame.DoLoopBody whole test) vs = grows_stop Undefined
  grows_gather (frame.DoLoopTest whole) vs = grows_stop Undefined
  grows_gather (frame.Call f from to active) vs = grows_stop Undefined

  grows_finish : (locals : List (Option ℕ)) (f : Frame) (flow : Flow) → OnlyGrows _ (finish u w again locals f flow)
  grows_finish locals frame.SwitchEnd flow = grows_ends (grows_pure _)
  grows_finish locals (frame.Stmts ss) flow = grows_ends (grows_if_normal flow (grows_stmts (stmt_row ss.now)))
  grows_finish locals (frame.Groups gs) flow = grows_ends (grows_if_normal flow (grows_groups zero (group_row gs.now)))
  grows_finish locals (frame.LoopBody whole step) flow = grows_ends (grows_if_goes_on flow (grows_step step.now whole.now))
  grows_finish locals (frame.DoLoopBody whole test) flow =
      grows_ends (grows_if_goes_on flow (grows_next (grows_next (grows_used (grows_eval test.now)) (λ v. grows_pure (is_true v)))
      (λ goes_on. grows_choice goes_on (grows_loop whole.now) (grows_pure Normal))))
  grows_finish locals (frame.Call f from to active) flow = record { by = λ s. prefix_refl s.store.out }
  grows_finish locals (frame.SetLocal x) flow = grows_stop Undefined
  grows_finish locals (frame.Load kind) flow = grows_stop Undefined
  grows_finish locals (frame.StoreTo kind e) flow = grows_stop Undefined
  grows_finish locals (frame.Store kind to) flow = grows_stop Undefined
  grows_finish locals (frame.CopyTo size align e) flow = grows_stop Undefined
  grows_finish locals (frame.Copy size align to) flow = grows_stop Undefined
  grows_finish locals (frame.BinaryLeft op r) flow = grows_stop Undefined
  grows_finish locals (frame.Binary op a) flow = grows_stop Undefined
  grows_finish locals (frame.Convert to) flow = grows_stop Undefined
  grows_finish locals (frame.Both r) flow = grows_stop Undefined
  grows_finish locals (frame.Either r) flow = grows_stop Undefined
  grows_finish locals (frame.Choose first second) flow = grows_stop Undefined
  grows_finish locals (frame.Seq r) flow = grows_stop Undefined
  grows_finish locals frame.PutChar flow = grows_stop Undefined
  grows_finish locals (frame.Arguments es) flow = grows_stop Undefined
  grows_finish locals (frame.Argument x) flow = grows_stop Undefined
  grows_finish locals (frame.CallTo f) flow = grows_stop Undefined
  grows_finish locals frame.Drop flow = grows_stop Undefined
  grows_finish locals frame.Return flow = grows_stop Undefined
  grows_finish locals (frame.If first second) flow = grows_stop Undefined
  grows_finish locals (frame.Switch gs) flow = grows_stop Undefined
  grows_finish locals (frame.LoopTest whole step body) flow = grows_stop Undefined
  grows_finish locals (frame.LoopStep whole) flow = grows_stop Undefined
  grows_finish locals (frame.DoLoopTest whole) flow = grows_stop Undefined

  grows_in : (locals : List (Option ℕ)) (f : Frame) (signal : Signal) → OnlyGrows _ (continue_in u w again locals f signal)
  grows_in locals f (Gave v) = grows_give f v
  grows_in locals f (Gathered vs) = grows_gather f vs
  grows_in locals f (Finished flow) = grows_finish locals f flow

  -- ---- what is left to do

  grows_task : (arguments : List ℕ) (t : Task) → OnlyGrows _ (task_of u w again arguments t)
  grows_task arguments (task.Expr e) = grows_gives (grows_eval e.now)
  grows_task arguments (task.Exprs es) = grows_gathers (grows_all (expr_row es.now))
  grows_task arguments (task.Stmt st) = grows_ends (grows_exec st.now)
  grows_task arguments (task.Stmts ss) = grows_ends (grows_stmts (stmt_row ss.now))
  grows_task arguments (task.Groups skipped gs) = grows_ends (grows_groups skipped (group_row gs.now))
  grows_task arguments (task.Value v) = grows_pure _
  grows_task arguments task.Values = grows_pure _
  grows_task arguments (task.Ending flow) = grows_pure _
  grows_task arguments (task.Turn st) = grows_ends (grows_loop st.now)
  grows_task arguments (task.Call f) = grows_gives (grows_call (Some f.now) (reverse arguments))
  grows_task arguments (task.Stop outcome) = grows_stop outcome

  resume_grows : (words : List (Option ℕ)) (fs : List Frame) (r : Result Signal) → IsPrefix (out_of r) (out_of (resume u w again words fs r))
  resume_grows words [] r = prefix_refl (out_of r)
  resume_grows words (f ∷ fs) r =
      prefix_trans (resume_grows words fs r)
      (and_then_grows (resume u w again words fs r) (continue_with u w again words f) (grows_in (locals_of words (span_of f)) f))

  ran_out : (r : Result Signal) → (ran_of r).out ≡ out_of r
  ran_out (Gives (Gave v) s) = refl
  ran_out (Gives (Gathered vs) s) = refl
  ran_out (Gives (Finished flow) s) = refl
  ran_out (Stops outcome last) = refl

  -- the output of the whole run begins with what a moment has
  pub moment_grows : (before : List ℕ) (c : Configuration) (t : Task) → IsPrefix (before ++ c.out) (ran_of (means u w again before c t)).out
  moment_grows before c t =
      let r = task_of u w again c.arguments t (state_of before c) in
      subst (IsPrefix (before ++ c.out)) (sym (ran_out (resume u w again c.words c.frames r)))
      (prefix_trans ((grows_task c.arguments t).by (state_of before c)) (resume_grows c.words c.frames r))
