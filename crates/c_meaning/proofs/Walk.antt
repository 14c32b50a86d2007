-- One walk over the trees: a relation on steps that the parts of steps keep relates the meaning of each expression and
-- each statement in two runs, where it relates what the runs do at a turn and at a call.
use Rattle.std.proofs.Common.{ℕ, zero, suc, ◌%◌, Bool, true, false, List, [], ◌∷◌, Option, Some, None}
use mathlib.Core.Former.{Count}
use Rattle.cp_base.specs.declared.op.Kind.{Kind}
use Rattle.run_model.specs.declared.outcome.Outcome.TheVariants.{Undefined}
use Rattle.run_model.specs.Stores.{World}
use Rattle.c_types.specs.declared.tree.Expr.{Expr}
use Rattle.c_types.specs.declared.tree.Stmt.{Stmt}
use Rattle.c_types.specs.declared.tree.Func.{Func}
use Rattle.c_types.specs.declared.tree.Unit.{Unit as Whole}
use Rattle.c_types.specs.Forms.{ExprRow, no_exprs, an_expr, const, address, local, set_local, load, store, binary, convert, both, either, choose, seq, call, get_char, put_char, copy, StmtRow, no_stmts, a_stmt, GroupRow, no_groups, a_group, block, drop_expr, unset, return_with, if_else, loop, do_loop, break, continue, switch, groups}
use Rattle.c_types.specs.Operators.{c_operator}
use Rattle.c_meaning.specs.Steps.{Step, pure, stop, ◌>>=◌, choice, known, turn, read_local, write_local, read_data, write_data, copy_data, read_byte, write_byte, is_true}
use Rattle.c_meaning.specs.Meaning.{Flow, Normal, Breaks, Continues, Returns, used, if_normal, if_goes_on, passed, call_of, eval, eval_all, holds, dropped, returned, exec, exec_all, exec_from}

-- the parts of steps, all but turns and calls
pub record IsKept (w : World) (Rel : (A : Type 0) → Step A → Step A → Type 0) : Type 1 where
  pub by_pure : {A : Type 0} → (a : A) → Rel _ (pure a) (pure a)
  pub by_undefined : {A : Type 0} → Rel A (stop Undefined) (stop Undefined)
  pub by_next : {A B : Type 0} → {p q : Step A} → {f g : A → Step B} → Rel _ p q → ((a : A) → Rel _ (f a) (g a)) → Rel _ (p >>= f) (q >>= g)
  pub by_read_local : (x : ℕ) → Rel _ (read_local x) (read_local x)
  pub by_write_local : (x : ℕ) (v : Option ℕ) → Rel _ (write_local x v) (write_local x v)
  pub by_read_data : (kind : Kind) (at : ℕ) → Rel _ (read_data w kind at) (read_data w kind at)
  pub by_write_data : (kind : Kind) (at v : ℕ) → Rel _ (write_data w kind at v) (write_data w kind at v)
  pub by_copy_data : (size align to from : ℕ) → Rel _ (copy_data w size align to from) (copy_data w size align to from)
  pub by_read_byte : Rel _ (read_byte w) (read_byte w)
  pub by_write_byte : (v : ℕ) → Rel _ (write_byte v) (write_byte v)

abbrev pub with_depth : World → ℕ → World
with_depth w depth = record w { depth = depth }

-- two runs of one unit that may differ in their depth and in what they do at a turn
module _ (u : Whole) (w : World) (depth : ℕ) (Rel : (A : Type 0) → Step A → Step A → Type 0) (kept : IsKept w Rel)
    (again other : Stmt → Step Flow)
    (at_turn : (st : Stmt) → Rel _ (turn (again st)) (turn (other st)))
    (at_call : (f : Option Func) (arguments : List ℕ) → Rel _ (call_of u w again f arguments) (call_of u (with_depth w depth) other f arguments)) where
  by_known : {A : Type 0} → (a : Option A) → Rel _ (known a) (known a)
  by_known (Some a) = kept.by_pure a
  by_known None = kept.by_undefined

  by_choice : {A : Type 0} → (b : Bool) → {p q p2 q2 : Step A} → Rel _ p q → Rel _ p2 q2 → Rel _ (choice b p p2) (choice b q q2)
  by_choice true first second = first
  by_choice false first second = second

  by_used : {p q : Step (Option ℕ)} → Rel _ p q → Rel _ (used p) (used q)
  by_used r = kept.by_next r by_known

  mutual
    pub eval_kept : (e : Expr) → Rel _ (eval u w again e) (eval u (with_depth w depth) other e)
    eval_kept (const n) = kept.by_pure (Some n)
    eval_kept (address object addend) = kept.by_pure _
    eval_kept (local x) = kept.by_next (kept.by_read_local x) (λ v. kept.by_pure (Some v))
    eval_kept (load kind at) =
        kept.by_next (kept.by_next (by_used (eval_kept at)) (kept.by_read_data kind)) (λ v. kept.by_pure (Some v))
    eval_kept (set_local x e) =
        kept.by_next (by_used (eval_kept e)) (λ v. kept.by_next (kept.by_write_local x (Some v)) (λ _. kept.by_pure (Some v)))
    eval_kept (store kind at e) =
        kept.by_next (by_used (eval_kept at)) (λ to. kept.by_next (by_used (eval_kept e)) (λ v.
        kept.by_next (kept.by_write_data kind to v) (λ _. kept.by_pure (Some v))))
    eval_kept (copy size align at from_at) =
        kept.by_next (by_used (eval_kept at)) (λ to. kept.by_next (by_used (eval_kept from_at)) (λ from.
        kept.by_next (kept.by_copy_data size align to from) (λ _. kept.by_pure (Some to))))
    eval_kept (binary op l r) =
        kept.by_next (by_used (eval_kept l)) (λ a. kept.by_next (by_used (eval_kept r)) (λ b.
        kept.by_next (by_known (c_operator op a b)) (λ v. kept.by_pure (Some v))))
    eval_kept (convert to e) = kept.by_next (by_used (eval_kept e)) (λ v. kept.by_pure _)
    eval_kept (both l r) =
        kept.by_next (by_used (eval_kept l)) (λ a. by_choice (is_true a)
        (kept.by_next (by_used (eval_kept r)) (λ b. kept.by_pure _)) (kept.by_pure _))
    eval_kept (either l r) =
        kept.by_next (by_used (eval_kept l)) (λ a. by_choice (is_true a)
        (kept.by_pure _) (kept.by_next (by_used (eval_kept r)) (λ b. kept.by_pure _)))
    eval_kept (choose c first second) =
        kept.by_next (by_used (eval_kept c)) (λ v. by_choice (is_true v) (eval_kept first) (eval_kept second))
    eval_kept (seq l r) = kept.by_next (eval_kept l) (λ _. eval_kept r)
    eval_kept (call function n arguments) = kept.by_next (eval_all_kept arguments) (at_call _)
    eval_kept get_char = kept.by_next kept.by_read_byte (λ v. kept.by_pure (Some v))
    eval_kept (put_char e) =
        kept.by_next (by_used (eval_kept e)) (λ v. kept.by_next (kept.by_write_byte v) (λ _. kept.by_pure (Some (v % 256))))

    eval_all_kept : {n : Count} → (es : ExprRow n) → Rel _ (eval_all u w again es) (eval_all u (with_depth w depth) other es)
    eval_all_kept no_exprs = kept.by_pure []
    eval_all_kept (an_expr e es) =
        kept.by_next (by_used (eval_kept e)) (λ v. kept.by_next (eval_all_kept es) (λ vs. kept.by_pure (v ∷ vs)))

  holds_kept : (test : Option Expr) → Rel _ (holds u w again test) (holds u (with_depth w depth) other test)
  holds_kept (Some e) = kept.by_next (by_used (eval_kept e)) (λ v. kept.by_pure (is_true v))
  holds_kept None = kept.by_pure true

  dropped_kept : (step : Option Expr) → Rel _ (dropped u w again step) (dropped u (with_depth w depth) other step)
  dropped_kept (Some e) = kept.by_next (eval_kept e) (λ _. kept.by_pure tt)
  dropped_kept None = kept.by_pure tt

  returned_kept : (e : Option Expr) → Rel _ (returned u w again e) (returned u (with_depth w depth) other e)
  returned_kept (Some e) = kept.by_next (by_used (eval_kept e)) (λ v. kept.by_pure _)
  returned_kept None = kept.by_pure _

  by_if_normal : (flow : Flow) → {p q : Step Flow} → Rel _ p q → Rel _ (if_normal flow p) (if_normal flow q)
  by_if_normal Normal r = r
  by_if_normal Breaks r = kept.by_pure _
  by_if_normal Continues r = kept.by_pure _
  by_if_normal (Returns v) r = kept.by_pure _

  by_if_goes_on : (flow : Flow) → {p q : Step Flow} → Rel _ p q → Rel _ (if_goes_on flow p) (if_goes_on flow q)
  by_if_goes_on Normal r = r
  by_if_goes_on Breaks r = kept.by_pure _
  by_if_goes_on Continues r = r
  by_if_goes_on (Returns v) r = kept.by_pure _

  mutual
    pub exec_kept : (s : Stmt) → Rel _ (exec u w again s) (exec u (with_depth w depth) other s)
    exec_kept (block n ss) = exec_all_kept ss
    exec_kept (unset x) = kept.by_next (kept.by_write_local x None) (λ _. kept.by_pure Normal)
    exec_kept (drop_expr e) = kept.by_next (dropped_kept (Some e)) (λ _. kept.by_pure Normal)
    exec_kept break = kept.by_pure Breaks
    exec_kept continue = kept.by_pure Continues
    exec_kept (return_with e) = returned_kept e
    exec_kept (if_else c first second) =
        kept.by_next (by_used (eval_kept c)) (λ v. by_choice (is_true v) (exec_kept first) (exec_kept second))
    exec_kept (switch e n gs) =
        kept.by_next (by_used (eval_kept e)) (λ v.
        kept.by_next (exec_from_kept (passed v (groups gs)) gs) (λ flow. kept.by_pure _))
    exec_kept (loop test step body) =
        kept.by_next (holds_kept test) (λ goes_on. by_choice goes_on
        (kept.by_next (exec_kept body) (λ flow. by_if_goes_on flow
        (kept.by_next (dropped_kept step) (λ _. at_turn (loop test step body)))))
        (kept.by_pure Normal))
    exec_kept (do_loop body test) =
        kept.by_next (exec_kept body) (λ flow. by_if_goes_on flow
        (kept.by_next (holds_kept (Some test)) (λ goes_on. by_choice goes_on
        (at_turn (do_loop body test)) (kept.by_pure Normal))))

    exec_all_kept : {n : Count} → (ss : StmtRow n) → Rel _ (exec_all u w again ss) (exec_all u (with_depth w depth) other ss)
    exec_all_kept no_stmts = kept.by_pure Normal
    exec_all_kept (a_stmt s ss) = kept.by_next (exec_kept s) (λ flow. by_if_normal flow (exec_all_kept ss))

    exec_from_kept : (skipped : ℕ) → {n : Count} → (gs : GroupRow n) → Rel _ (exec_from u w again skipped gs) (exec_from u (with_depth w depth) other skipped gs)
    exec_from_kept skipped no_groups = kept.by_pure Normal
    exec_from_kept (suc skipped) (a_group labels other n body gs) = exec_from_kept skipped gs
    exec_from_kept zero (a_group labels other n body gs) =
        kept.by_next (exec_all_kept body) (λ flow. by_if_normal flow (exec_from_kept zero gs))
