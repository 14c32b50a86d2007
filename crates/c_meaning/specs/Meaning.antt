-- What the expressions and statements of a typed unit mean: each is a step of a run.
--
-- The definitions recurse on the tree. A return to a loop's head and a call of a function go on with `again`, the
-- meaning of statements with one turn less, so a run recurses on the turns and then on the tree.
use Rattle.std.specs.Prelude.{ℕ, zero, suc, ◌-◌, ◌%◌, Bool, true, ◌==◌, nat_lt, if◌then◌else◌, List, [], ◌∷◌, ◌++◌, length, map, replicate, codes, Option, Some, None, slice_get}
use Rattle.std.specs.Str.{bytes_eq}
use Rattle.std.specs.List.{list_any}
use mathlib.Core.Former.{Count}
use Rattle.cp_base.specs.declared.op.To.TheVariants.{Truth}
use Rattle.cp_base.specs.Operations.{converted}
use Rattle.run_model.specs.declared.outcome.Outcome.TheVariants.{Running, Undefined, Deep}
use Rattle.run_model.specs.Stores.{World}
use Rattle.c_types.specs.declared.tree.Expr.{Expr}
use Rattle.c_types.specs.declared.tree.Stmt.{Stmt}
use Rattle.c_types.specs.declared.tree.Group.{Group}
use Rattle.c_types.specs.declared.tree.Func.{Func}
use Rattle.c_types.specs.declared.tree.Unit.{Unit as Whole}
use Rattle.c_types.specs.declared.tree.CellValue.TheVariants.{Address}
use Rattle.c_types.specs.Forms.{ExprRow, no_exprs, an_expr, const, address, local, set_local, load, store, binary, convert, both, either, choose, seq, call, get_char, put_char, copy, StmtRow, no_stmts, a_stmt, GroupRow, no_groups, a_group, block, drop_expr, unset, return_with, if_else, loop, do_loop, break, continue, switch, groups}
use Rattle.c_types.specs.Placing.{number_of, object_offsets}
use Rattle.c_meaning.specs.Steps.{State, Result, Gives, Stops, Step, pure, stop, ◌>>=◌, ◌>>◌, choice, known, is_true, turn, read_local, write_local, read_data, write_data, copy_data, read_byte, write_byte, operate}

-- how a statement ends: normally, or by a jump (6.8.6)
pub data Flow : Type 0 where
  Normal : Flow
  Breaks : Flow
  Continues : Flow
  Returns : Option ℕ → Flow

-- a value of an expression
abbrev pub value : ℕ → Step (Option ℕ)
value word = pure (Some word)

abbrev pub used : Step (Option ℕ) → Step ℕ
used step = step >>= known

-- ---- calls (6.5.2.2)

abbrev pub is_main : Func → Bool
is_main f = bytes_eq f.name (codes "main")

-- the value of a call whose body ended so: that of its `return`. Without one there is none (6.9.1, 12), but that of
-- `main` is 0 (5.1.2.2.3).
abbrev pub value_of : Func → Flow → Option ℕ
value_of f (Returns (Some v)) = Some v
value_of f flow = if is_main f then Some 0 else None

-- the locals where a body begins: the arguments, and all others unset
abbrev pub first_locals : Func → List ℕ → List (Option ℕ)
first_locals f arguments = map Some arguments ++ replicate (f.locals - length arguments) None

-- one more call is active, and the locals are those of the function
abbrev pub entered : Func → List ℕ → State → State
entered f arguments s = record { store = record s.store { active = suc s.store.active }; locals = first_locals f arguments }

-- after the call the locals and the number of active calls are those that the caller had
abbrev pub left : Func → State → Result Flow → Result (Option ℕ)
left f caller (Gives flow s) =
    Gives (value_of f flow) (record { store = record s.store { active = caller.store.active }; locals = caller.locals })
left f caller (Stops outcome last) = Stops outcome last

-- ---- statements one after the other (6.8.2), and jumps out of them

abbrev pub if_normal : Flow → Step Flow → Step Flow
if_normal Normal next = next
if_normal flow next = pure flow

-- what a loop does after its body ended so (6.8.6.2, 6.8.6.3)
abbrev pub if_goes_on : Flow → Step Flow → Step Flow
if_goes_on Normal next = next
if_goes_on Continues next = next
if_goes_on Breaks next = pure Normal
if_goes_on (Returns v) next = pure (Returns v)

-- a `break` ends the `switch` around it
abbrev pub ended_by_break : Flow → Flow
ended_by_break Breaks = Normal
ended_by_break flow = flow

-- ---- the group of a `switch` (6.8.4.2)

-- how many groups stand before the first that this holds of; all of them, where it holds of none
abbrev pub groups_before : (Group → Bool) → List Group → ℕ
groups_before holds [] = 0
groups_before holds (g ∷ gs) = if holds g then 0 else suc (groups_before holds gs)

-- how many groups a jump to the label of this word passes; where no group has the word, one to the default
abbrev pub passed : ℕ → List Group → ℕ
passed word gs =
    let labelled = groups_before (λ g. list_any (λ label. label == word) g.labels) gs in
    if nat_lt labelled (length gs) then labelled else groups_before (λ g. g.other) gs

module _ (u : Whole) (w : World) (again : Stmt → Step Flow) where
  -- a call tests the depth, then uses a turn, then runs the body
  abbrev pub call_body : Func → List ℕ → Step (Option ℕ)
  call_body f arguments = λ s. turn (λ t. left f t (again f.body (entered f arguments t))) s

  abbrev pub call_of : Option Func → List ℕ → Step (Option ℕ)
  call_of (Some f) arguments = λ s. choice (nat_lt s.store.active w.depth) (call_body f arguments) (stop Deep) s
  call_of None arguments = stop Undefined

  abbrev mutual
    pub eval : Expr → Step (Option ℕ)
    -- 6.5.1, 6.5.3.2
    eval (const n) = value n
    eval (address object addend) = value (number_of w.base (object_offsets u.objects) (Address object addend))
    eval (local x) = read_local x >>= value
    eval (load kind at) = used (eval at) >>= read_data w kind >>= value
    -- 6.5.16: where C99 leaves the order open, the address of what is assigned to is found first
    eval (set_local x e) = do
      v ← used (eval e)
      write_local x (Some v)
      value v
    eval (store kind at e) = do
      to ← used (eval at)
      v ← used (eval e)
      write_data w kind to v
      value v
    -- 6.5.16.1, 3
    eval (copy size align at from_at) = do
      to ← used (eval at)
      from ← used (eval from_at)
      copy_data w size align to from
      value to
    -- 6.5.5 to 6.5.12
    eval (binary op l r) = do
      a ← used (eval l)
      b ← used (eval r)
      operate op a b >>= value
    -- 6.3.1
    eval (convert to e) = used (eval e) >>= (λ v. value (converted to v))
    -- 6.5.13
    eval (both l r) = do
      a ← used (eval l)
      choice (is_true a) (used (eval r) >>= (λ b. value (converted Truth b))) (value 0)
    -- 6.5.14
    eval (either l r) = do
      a ← used (eval l)
      choice (is_true a) (value 1) (used (eval r) >>= (λ b. value (converted Truth b)))
    -- 6.5.15
    eval (choose c first second) = do
      condition ← used (eval c)
      choice (is_true condition) (eval first) (eval second)
    -- 6.5.17
    eval (seq l r) = eval l >> eval r
    -- 6.5.2.2
    eval (call function n arguments) = eval_all arguments >>= call_of (slice_get u.functions function)
    -- 7.19.7.6 and 7.19.7.9
    eval get_char = read_byte w >>= value
    eval (put_char e) = do
      v ← used (eval e)
      write_byte v
      value (v % 256)

    -- from left to right, where C99 leaves the order open (6.5.2.2, 10)
    pub eval_all : {n : Count} → ExprRow n → Step (List ℕ)
    eval_all no_exprs = pure []
    eval_all (an_expr e es) = do
      v ← used (eval e)
      vs ← eval_all es
      pure (v ∷ vs)

  -- the condition of a loop; one that is absent is true (6.8.5.3, 2)
  abbrev pub holds : Option Expr → Step Bool
  holds (Some e) = used (eval e) >>= (λ v. pure (is_true v))
  holds None = pure true

  -- 6.8.3, 6.8.5.3, 1: the value is dropped
  abbrev pub dropped : Option Expr → Step (Unit {0})
  dropped (Some e) = eval e >> pure tt
  dropped None = pure tt

  -- 6.8.6.4
  abbrev pub returned : Option Expr → Step Flow
  returned (Some e) = used (eval e) >>= (λ v. pure (Returns (Some v)))
  returned None = pure (Returns None)

  abbrev mutual
    pub exec : Stmt → Step Flow
    -- 6.8.2
    exec (block n ss) = exec_all ss
    -- 6.2.4, 5
    exec (unset x) = write_local x None >> pure Normal
    -- 6.8.3
    exec (drop_expr e) = dropped (Some e) >> pure Normal
    -- 6.8.6
    exec break = pure Breaks
    exec continue = pure Continues
    exec (return_with e) = returned e
    -- 6.8.4.1
    exec (if_else c first second) = do
      condition ← used (eval c)
      choice (is_true condition) (exec first) (exec second)
    -- 6.8.4.2
    exec (switch e n gs) = do
      v ← used (eval e)
      flow ← exec_from (passed v (groups gs)) gs
      pure (ended_by_break flow)
    -- 6.8.5.1, 6.8.5.3
    exec (loop test step body) = do
      goes_on ← holds test
      choice goes_on (exec body >>= (λ flow. if_goes_on flow (dropped step >> turn (again (loop test step body))))) (pure Normal)
    -- 6.8.5.2
    exec (do_loop body test) = do
      flow ← exec body
      if_goes_on flow (holds (Some test) >>= (λ goes_on. choice goes_on (turn (again (do_loop body test))) (pure Normal)))

    pub exec_all : {n : Count} → StmtRow n → Step Flow
    exec_all no_stmts = pure Normal
    exec_all (a_stmt s ss) = exec s >>= (λ flow. if_normal flow (exec_all ss))

    -- the bodies of all groups but so many first ones
    pub exec_from : ℕ → {n : Count} → GroupRow n → Step Flow
    exec_from skipped no_groups = pure Normal
    exec_from (suc skipped) (a_group labels other n body gs) = exec_from skipped gs
    exec_from zero (a_group labels other n body gs) = exec_all body >>= (λ flow. if_normal flow (exec_from zero gs))

module _ (u : Whole) (w : World) where
  -- how a statement goes on from a turn, where at most so many turns are left, that one among them
  unfoldable pub at_turn : ℕ → Stmt → Step Flow
  at_turn zero s = stop Running
  at_turn (suc turns) s = exec u w (at_turn turns) s

  -- a statement, where at most so many turns are left
  abbrev pub run : ℕ → Stmt → Step Flow
  run turns s = exec u w (at_turn turns) s
