-- A statement is its first part, and then its frame.
use Rattle.std.proofs.Common.{◌≡◌, ℕ, suc, List, [], ◌∷◌, Option, Some, None, refl, sym, ap, ap₂, subst, ◌∙◌, arith}
use Rattle.std.specs.Borrow.{Bor}
use Rattle.run_model.specs.Stores.{World}
use Rattle.c_types.specs.declared.tree.Expr.{Expr}
use Rattle.c_types.specs.declared.tree.Group.{Group}
use Rattle.c_types.specs.declared.tree.Stmt.{Stmt}
use Rattle.c_types.specs.declared.tree.Stmt.TheVariants as stmt
use Rattle.c_types.specs.declared.tree.Unit.{Unit as Whole}
use Rattle.c_types.specs.Forms.{block, drop_expr, return_with, if_else, loop, do_loop, switch, expr_row, stmt_row, group_row, length_of}
use Rattle.c_types.proofs.FormLaws.{block_is, if_else_is, loop_is, do_loop_is, switch_is, groups-group_row}
use Rattle.c_meaning.specs.Steps.{Result, Gives, Stops, Step, pure, and_then, ◌>>=◌, ◌>>◌, known, choice, is_true, turn}
use Rattle.c_meaning.specs.Meaning.{Flow, Normal, Returns, eval, eval_all, exec, exec_all, exec_from, holds, dropped, if_normal, if_goes_on, ended_by_break, passed}
use Rattle.c_interpreter.specs.declared.frame.Frame.{Frame}
use Rattle.c_interpreter.specs.declared.frame.Frame.TheVariants as frame
use Rattle.c_interpreter.specs.declared.frame.Ending.TheVariants as ending
use Rattle.c_interpreter.specs.declared.frame.Task.{Task}
use Rattle.c_interpreter.specs.declared.machine.Place.{Place}
use Rattle.c_interpreter.specs.Leading.{LeadsFrom, Leads}
use Rattle.c_interpreter.specs.Machine.{Configuration, IsSound}
use Rattle.c_interpreter.proofs.Resume.{changed}
use Rattle.c_interpreter.specs.declared.frame.Task.TheVariants as task
use Rattle.c_interpreter.specs.Machine.{Gave, Gathered, Finished, gathers, ends, continue_with}
use Rattle.c_interpreter.specs.Weights.{sizes, size_stmt, size_stmts, size_groups}
use Rattle.c_interpreter.specs.Leading.{Opens, Settles, stmt_meaning, task_meaning}
use Rattle.c_interpreter.proofs.Opening.{by_used}

abbrev pub OpensStmt : Stmt → Frame → Task → Type 0
OpensStmt s f t = Opens (stmt_meaning s) (size_stmt s) f t

pub open_drop : (s : Stmt) (e : Bor Expr) (part : Expr) → s ≡ stmt.Drop part → e.now ≡ part → OpensStmt s frame.Drop (task.Expr e)
open_drop s e part is eis = subst (λ form. OpensStmt form frame.Drop (task.Expr e)) (sym (is ∙ ap drop_expr (sym eis))) (record {
  run = λ u w again words arguments state. run u w again words (eval u w again e.now state);
  lighter = omega arith;
  plain = refl;
})
  where
    run : (u : Whole) (w : World) (again : Stmt → Step Flow) (words : List (Option ℕ)) (first : Result (Option ℕ))
        → and_then (and_then first (λ v. pure (Gave v))) (continue_with u w again words frame.Drop)
        ≡ and_then (and_then (and_then first (λ _. pure (tt {0}))) (λ _. pure Normal)) (λ flow. pure (Finished flow))
    run u w again words (Gives v s) = refl
    run u w again words (Stops outcome last) = refl

pub open_return : (s : Stmt) (e : Bor Expr) (part : Expr) → s ≡ stmt.Return (Some part) → e.now ≡ part → OpensStmt s frame.Return (task.Expr e)
open_return s e part is eis = subst (λ form. OpensStmt form frame.Return (task.Expr e)) (sym (is ∙ ap (λ x. return_with (Some x)) (sym eis))) (record {
  run = λ u w again words arguments state. by_used (eval u w again e.now state) (λ v. pure (Returns (Some v))) Finished (continue_with u w again words frame.Return) (λ n s. refl) (λ s. refl);
  lighter = omega arith;
  plain = refl;
})

pub open_if : (s : Stmt) (q : Bor Expr) (a b : Bor Stmt) (test : Expr) (first second : Stmt) → s ≡ stmt.If test first second → q.now ≡ test → a.now ≡ first → b.now ≡ second
    → OpensStmt s (frame.If a b) (task.Expr q)
open_if s q a b test first second is qis ais bis =
    subst (λ form. OpensStmt form (frame.If a b) (task.Expr q)) (sym (is ∙ if_else_is test first second ∙ ap₂ (λ x y. if_else x y second) (sym qis) (sym ais) ∙ ap (if_else q.now a.now) (sym bis))) (record {
      run = λ u w again words arguments state. by_used (eval u w again q.now state) (λ v. choice (is_true v) (exec u w again a.now) (exec u w again b.now)) Finished (continue_with u w again words (frame.If a b)) (λ n s. refl) (λ s. refl);
      lighter = omega arith;
      plain = refl;
    })

pub open_switch : (s : Stmt) (e : Bor Expr) (gs : Bor (List Group)) (part : Expr) (parts : List Group) → s ≡ stmt.Switch part parts → e.now ≡ part → gs.now ≡ parts
    → OpensStmt s (frame.Switch gs) (task.Expr e)
open_switch s e gs part parts is eis gis =
    subst (λ form. OpensStmt form (frame.Switch gs) (task.Expr e)) (sym (is ∙ switch_is part parts ∙ ap₂ (λ x xs. switch x (length_of xs) (group_row xs)) (sym eis) (sym gis))) (record {
      run = λ u w again words arguments state.
          by_used (eval u w again e.now state) (λ v. exec_from u w again (passed v gs.now) (group_row gs.now) >>= (λ flow. pure (ended_by_break flow))) Finished (continue_with u w again words (frame.Switch gs)) (λ n s. refl) (λ s. refl)
          ∙ ap (λ xs. and_then (and_then (and_then (eval u w again e.now state) known) (λ v. exec_from u w again (passed v xs) (group_row gs.now) >>= (λ flow. pure (ended_by_break flow)))) (λ flow. pure (Finished flow))) (sym (groups-group_row gs.now));
      lighter = omega arith;
      plain = refl;
    })

module _ (s : Stmt) (whole : Bor Stmt) (step : Bor (Option Expr)) (body : Bor Stmt) (part : Stmt) (third : Option Expr) where
  pub open_loop : (e : Bor Expr) (test : Expr) → s ≡ stmt.Loop (Some test) third part → whole.now ≡ s → step.now ≡ third → body.now ≡ part → e.now ≡ test
      → OpensStmt s (frame.LoopTest whole step body) (task.Expr e)
  open_loop e test is wis sis bis eis =
      subst (λ form. OpensStmt form (frame.LoopTest whole step body) (task.Expr e)) (sym form_is) (record {
        run = λ u w again words arguments state. loop_run u w again words (eval u w again e.now state);
        lighter = omega arith;
        plain = refl;
      })
    where
      form_is : s ≡ loop (Some e.now) step.now body.now
      form_is = is ∙ loop_is (Some test) third part ∙ ap₂ (λ x y. loop (Some x) y part) (sym eis) (sym sis) ∙ ap (loop (Some e.now) step.now) (sym bis)

      loop_run : (u : Whole) (w : World) (again : Stmt → Step Flow) (words : List (Option ℕ)) (first : Result (Option ℕ))
          → and_then (and_then first (λ v. pure (Gave v))) (continue_with u w again words (frame.LoopTest whole step body))
          ≡ and_then (and_then (and_then (and_then first known) (λ v. pure (is_true v))) (λ goes_on. choice goes_on (exec u w again body.now >>= (λ flow. if_goes_on flow (dropped u w again step.now >> turn (again (loop (Some e.now) step.now body.now))))) (pure Normal))) (λ flow. pure (Finished flow))
      loop_run u w again words (Gives (Some a) t) = rw (wis ∙ form_is) refl
      loop_run u w again words (Gives None t) = refl
      loop_run u w again words (Stops outcome last) = refl

  pub open_endless : s ≡ stmt.Loop None third part → whole.now ≡ s → step.now ≡ third → body.now ≡ part → OpensStmt s (frame.LoopBody whole step) (task.Stmt body)
  open_endless is wis sis bis =
      subst (λ form. OpensStmt form (frame.LoopBody whole step) (task.Stmt body)) (sym form_is) (record {
        run = λ u w again words arguments state. body_run u w again words (exec u w again body.now state);
        lighter = omega arith;
        plain = refl;
      })
    where
      form_is : s ≡ loop None step.now body.now
      form_is = is ∙ loop_is None third part ∙ ap₂ (loop None) (sym sis) (sym bis)

      body_run : (u : Whole) (w : World) (again : Stmt → Step Flow) (words : List (Option ℕ)) (first : Result Flow)
          → and_then (and_then first (λ flow. pure (Finished flow))) (continue_with u w again words (frame.LoopBody whole step))
          ≡ and_then (and_then first (λ flow. if_goes_on flow (dropped u w again step.now >> turn (again (loop None step.now body.now))))) (λ flow. pure (Finished flow))
      body_run u w again words (Gives flow t) = rw (wis ∙ form_is) refl
      body_run u w again words (Stops outcome last) = refl

pub open_do : (s : Stmt) (whole body : Bor Stmt) (e : Bor Expr) (part : Stmt) (test : Expr) → s ≡ stmt.DoLoop part test → whole.now ≡ s → body.now ≡ part → e.now ≡ test
    → OpensStmt s (frame.DoLoopBody whole e) (task.Stmt body)
open_do s whole body e part test is wis bis eis =
    subst (λ form. OpensStmt form (frame.DoLoopBody whole e) (task.Stmt body)) (sym form_is) (record {
      run = λ u w again words arguments state. do_run u w again words (exec u w again body.now state);
      lighter = omega arith;
      plain = refl;
    })
  where
    form_is : s ≡ do_loop body.now e.now
    form_is = is ∙ do_loop_is part test ∙ ap₂ do_loop (sym bis) (sym eis)

    do_run : (u : Whole) (w : World) (again : Stmt → Step Flow) (words : List (Option ℕ)) (first : Result Flow)
        → and_then (and_then first (λ flow. pure (Finished flow))) (continue_with u w again words (frame.DoLoopBody whole e))
        ≡ and_then (and_then first (λ flow. if_goes_on flow (holds u w again (Some e.now) >>= (λ goes_on. choice goes_on (turn (again (do_loop body.now e.now))) (pure Normal))))) (λ flow. pure (Finished flow))
    do_run u w again words (Gives flow t) = rw (wis ∙ form_is) refl
    do_run u w again words (Stops outcome last) = refl

-- a list of statements, of groups, of arguments: the first of them, and then the others
pub open_stmts : (ss more : Bor (List Stmt)) (s : Bor Stmt) → ss.now ≡ s.now ∷ more.now → Opens (task_meaning (task.Stmts ss)) (size_stmts (stmt_row ss.now)) (frame.Stmts more) (task.Stmt s)
open_stmts ss more s is =
    subst (λ xs. Opens (λ u w again words arguments. ends (exec_all u w again (stmt_row xs))) (size_stmts (stmt_row xs)) (frame.Stmts more) (task.Stmt s)) (sym is) (record {
      run = λ u w again words arguments state. run u w again words (exec u w again s.now state);
      lighter = omega arith;
      plain = refl;
    })
  where
    run : (u : Whole) (w : World) (again : Stmt → Step Flow) (words : List (Option ℕ)) (first : Result Flow)
        → and_then (and_then first (λ flow. pure (Finished flow))) (continue_with u w again words (frame.Stmts more))
        ≡ and_then (and_then first (λ flow. if_normal flow (exec_all u w again (stmt_row more.now)))) (λ flow. pure (Finished flow))
    run u w again words (Gives flow t) = refl
    run u w again words (Stops outcome last) = refl

pub open_exprs : (es more : Bor (List Expr)) (e : Bor Expr) → es.now ≡ e.now ∷ more.now → Opens (task_meaning (task.Exprs es)) (sizes (expr_row es.now)) (frame.Arguments more) (task.Expr e)
open_exprs es more e is =
    subst (λ xs. Opens (λ u w again words arguments. gathers (eval_all u w again (expr_row xs))) (sizes (expr_row xs)) (frame.Arguments more) (task.Expr e)) (sym is) (record {
      run = λ u w again words arguments state. by_used (eval u w again e.now state) (λ v. eval_all u w again (expr_row more.now) >>= (λ vs. pure (v ∷ vs))) Gathered (continue_with u w again words (frame.Arguments more)) (λ n s. refl) (λ s. refl);
      lighter = omega arith;
      plain = refl;
    })

pub end_stmts : (ss : Bor (List Stmt)) → ss.now ≡ [] → Settles (task_meaning (task.Stmts ss)) (size_stmts (stmt_row ss.now)) (task.Ending ending.Normal)
end_stmts ss is =
    subst (λ xs. Settles (λ u w again words arguments. ends (exec_all u w again (stmt_row xs))) (size_stmts (stmt_row xs)) (task.Ending ending.Normal)) (sym is)
    (record { run = λ u w again words arguments state. refl; lighter = omega arith })

pub open_groups : (gs more : Bor (List Group)) (ss : Bor (List Stmt)) (skipped : ℕ) (g : Group) → skipped ≡ 0 → gs.now ≡ g ∷ more.now → ss.now ≡ g.body
    → Opens (task_meaning (task.Groups skipped gs)) (size_groups (group_row gs.now)) (frame.Groups more) (task.Stmts ss)
open_groups gs more ss skipped g none is sis =
    subst (λ n. Opens (λ u w again words arguments. ends (exec_from u w again n (group_row gs.now))) (size_groups (group_row gs.now)) (frame.Groups more) (task.Stmts ss)) (sym none)
    (subst (λ xs. Opens (λ u w again words arguments. ends (exec_from u w again 0 (group_row xs))) (size_groups (group_row xs)) (frame.Groups more) (task.Stmts ss)) (sym is) (record {
      run = λ u w again words arguments state. run u w again words (exec_all u w again (stmt_row ss.now) state) ∙ ap (λ xs. and_then (and_then (exec_all u w again (stmt_row xs) state) (λ flow. if_normal flow (exec_from u w again 0 (group_row more.now)))) (λ flow. pure (Finished flow))) sis;
      lighter = let same : size_stmts (stmt_row ss.now) ≡ size_stmts (stmt_row g.body) = ap (λ xs. size_stmts (stmt_row xs)) sis in omega (arith, same);
      plain = refl;
    }))
  where
    run : (u : Whole) (w : World) (again : Stmt → Step Flow) (words : List (Option ℕ)) (first : Result Flow)
        → and_then (and_then first (λ flow. pure (Finished flow))) (continue_with u w again words (frame.Groups more))
        ≡ and_then (and_then first (λ flow. if_normal flow (exec_from u w again 0 (group_row more.now)))) (λ flow. pure (Finished flow))
    run u w again words (Gives flow t) = refl
    run u w again words (Stops outcome last) = refl

pub skip_group : (gs more : Bor (List Group)) (skipped fewer : ℕ) (g : Group) → skipped ≡ suc fewer → gs.now ≡ g ∷ more.now
    → Settles (task_meaning (task.Groups skipped gs)) (size_groups (group_row gs.now)) (task.Groups fewer more)
skip_group gs more skipped fewer g some is =
    subst (λ n. Settles (λ u w again words arguments. ends (exec_from u w again n (group_row gs.now))) (size_groups (group_row gs.now)) (task.Groups fewer more)) (sym some)
    (subst (λ xs. Settles (λ u w again words arguments. ends (exec_from u w again (suc fewer) (group_row xs))) (size_groups (group_row xs)) (task.Groups fewer more)) (sym is)
    (record { run = λ u w again words arguments state. refl; lighter = omega arith }))

pub end_groups : (gs : Bor (List Group)) (skipped : ℕ) → gs.now ≡ [] → Settles (task_meaning (task.Groups skipped gs)) (size_groups (group_row gs.now)) (task.Ending ending.Normal)
end_groups gs skipped is =
    subst (λ xs. Settles (λ u w again words arguments. ends (exec_from u w again skipped (group_row xs))) (size_groups (group_row xs)) (task.Ending ending.Normal)) (sym is)
    (record { run = λ u w again words arguments state. refl; lighter = omega arith })

pub open_block : (s : Stmt) (ss : Bor (List Stmt)) (parts : List Stmt) → s ≡ stmt.Block parts → ss.now ≡ parts → Settles (stmt_meaning s) (size_stmt s) (task.Stmts ss)
open_block s ss parts is sis =
    subst (λ form. Settles (stmt_meaning form) (size_stmt form) (task.Stmts ss)) (sym (is ∙ block_is parts ∙ ap (λ xs. block (length_of xs) (stmt_row xs)) (sym sis)))
    (record { run = λ u w again words arguments state. refl; lighter = omega arith })

-- no argument is left
pub end_exprs : (place : Place) (c : Configuration) (arguments : List ℕ) (es : Bor (List Expr)) → es.now ≡ [] → arguments ≡ [] → IsSound c
    → Leads place c (task.Exprs es) (record c { arguments = arguments }) task.Values
end_exprs place c arguments es is none sound =
    subst (λ xs. LeadsFrom place c (λ u w again words before. gathers (eval_all u w again (expr_row xs))) (sizes (expr_row xs)) (record c { arguments = arguments }) task.Values) (sym is)
    (rw none (changed place c (record c { arguments = [] }) _ _ task.Values (λ again before. refl) refl (omega arith) sound))
