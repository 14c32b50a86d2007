-- Expressions whose value is known at once: they need no frame.
use Rattle.std.proofs.Common.{◌≡◌, ◌==◌, Bool, true, length, ℕ, List, [], ◌∷◌, Option, Some, None, drop, refl, sym, ap, subst, ◌∙◌, arith}
use Rattle.std.specs.Prelude.{slice_get, Result as Answer, IfOk, IfSome}
use Rattle.std.specs.Borrow.{Bor}
use Rattle.std.proofs.lemmas.Bool.{eqb-true}
use Rattle.std.proofs.lemmas.List.{nil_from_length}
use Rattle.std.proofs.lemmas.Result.{IfOk-weaker}
use Rattle.cp_base.specs.declared.op.Kind.{Kind}
use Rattle.run_model.specs.Stores.{World}
use Rattle.c_types.specs.declared.tree.COp.{COp}
use Rattle.c_types.specs.declared.tree.Expr.{Expr}
use Rattle.c_types.specs.declared.tree.Expr.TheVariants as expr
use Rattle.c_types.specs.declared.tree.Stmt.{Stmt}
use Rattle.c_types.specs.declared.tree.Unit.{Unit as Whole}
use Rattle.c_types.specs.Forms.{expr_row, stmt_row}
use Rattle.c_types.specs.Operators.{c_operator}
use Rattle.c_meaning.specs.Steps.{State, Result, Gives, Stops, Step, and_then, pure, known, value_at, ◌>>=◌, ◌>>◌, operate, write_data}
use Rattle.c_meaning.specs.Meaning.{Flow, Normal, Breaks, Continues as Goes, Returns, eval, eval_all, exec, exec_all, value, if_normal}
use Rattle.c_interpreter.specs.declared.frame.Frame.{Frame}
use Rattle.c_interpreter.specs.declared.frame.Frame.TheVariants as frame
use Rattle.c_interpreter.specs.declared.frame.Task.{Task}
use Rattle.c_interpreter.specs.declared.frame.Task.TheVariants as task
use Rattle.c_interpreter.specs.declared.machine.Place.{Place}
use Rattle.c_interpreter.specs.Machine.{Gave, Gathered, Finished, Configuration, state_of, continue_with, resume, task_of, known_task, ends, IsSound}
use Rattle.c_interpreter.specs.Weights.{size, size_stmts, frame_weight, task_weight}
use Rattle.c_interpreter.specs.Leading.{Meaning, Opens, Settles, LeadsFrom, Continues, IsPlain, world_of, expr_meaning, frame_meaning, task_meaning}
use Rattle.c_interpreter.proofs.Resume.{settled_here, changed}
use Rattle.c_interpreter.proofs.Opening.{by_used}

pub empty_is : {A : Type 0} (xs : List A) (b : Bool) → b ≡ (length xs == 0) → b ≡ true → xs ≡ []
empty_is xs b is holds = nil_from_length xs (eqb-true (length xs) 0 (sym is ∙ holds))

pub plain_const : (c : Configuration) (e : Expr) (word : ℕ) → e ≡ expr.Const word → IsPlain c e word
plain_const c e word is = subst (λ x. IsPlain c x word) (sym is) (record { run = λ u w again before. refl })

local_run : (v : Option ℕ) (word : ℕ) (s : State) → v ≡ Some word → and_then (known v s) (λ n. pure (Some n)) ≡ Gives (Some word) s
local_run v word s is = rw is refl

pub plain_local : (c : Configuration) (e : Expr) (x : ℕ) (v : Option ℕ) → e ≡ expr.Local x → v ≡ value_at (slice_get (drop c.base c.words) x)
    → IfSome v (λ word. IsPlain c e word)
plain_local c e x None is found = tt
plain_local c e x (Some word) is found = subst (λ f. IsPlain c f word) (sym is) (record { run = λ u w again before. local_run _ word (state_of before c) (sym found) })

-- what a frame does with the value of its part is what the whole does, where the part is plain
pub opened_plain : (place : Place) (c d : Configuration) (meaning : Meaning) (heavy : ℕ) (f : Frame) (e : Bor Expr) (word : ℕ) (s : Task)
    → Opens meaning heavy f (task.Expr e) → IsPlain c e.now word → Continues place c f (Gave (Some word)) d s → LeadsFrom place c meaning heavy d s
opened_plain place c d meaning heavy f e word s opens plain next = record {
  run = λ again before.
      let u = place.unit.now in
      let w = world_of place in
      next.run again before
      ∙ ap (resume u w again c.words c.frames)
      (sym (ap (λ r. and_then (and_then r (λ v. pure (Gave v))) (continue_with u w again c.words f)) (plain.run u w again before))
      ∙ opens.run u w again c.words c.arguments (state_of before c));
  sound = next.sound;
  lighter = let small = next.lighter in let less = opens.lighter in omega (arith, small, less);
  turns = next.turns;
}

pub opened_plain_if : {E : Type 0} (place : Place) (c d : Configuration) (meaning : Meaning) (heavy : ℕ) (f : Frame) (e : Bor Expr) (word : ℕ) (r : Answer Task E)
    → Opens meaning heavy f (task.Expr e) → IsPlain c e.now word → IfOk r (λ s. Continues place c f (Gave (Some word)) d s)
    → IfOk r (λ s. LeadsFrom place c meaning heavy d s)
opened_plain_if place c d meaning heavy f e word r opens plain h = IfOk-weaker r _ _ (λ s k. opened_plain place c d meaning heavy f e word s opens plain k) h

-- the same expression in another form
pub whole_if : {E : Type 0} (place : Place) (c d : Configuration) (e form : Expr) (r : Answer Task E) → e ≡ form
    → IfOk r (λ s. LeadsFrom place c (expr_meaning form) (size form) d s) → IfOk r (λ s. LeadsFrom place c (expr_meaning e) (size e) d s)
whole_if place c d e form r is h = subst (λ x. IfOk r (λ s. LeadsFrom place c (expr_meaning x) (size x) d s)) (sym is) h

-- ---- the right operand of an operator, and a value that is stored

pub binary_opens : (op : COp) (a : ℕ) (r : Bor Expr) → Opens (frame_meaning (frame.BinaryLeft op r) (Gave (Some a))) (frame_weight (frame.BinaryLeft op r)) (frame.Binary op a) (task.Expr r)
binary_opens op a r = record {
  run = λ u w again words arguments state. by_used (eval u w again r.now state) (λ b. operate op a b >>= value) Gave (continue_with u w again words (frame.Binary op a)) (λ n s. refl) (λ s. refl);
  lighter = omega arith;
  plain = refl;
}

pub store_opens : (kind : Kind) (to : ℕ) (e : Bor Expr) → Opens (frame_meaning (frame.StoreTo kind e) (Gave (Some to))) (frame_weight (frame.StoreTo kind e)) (frame.Store kind to) (task.Expr e)
store_opens kind to e = record {
  run = λ u w again words arguments state. by_used (eval u w again e.now state) (λ v. write_data w kind to v >> value v) Gave (continue_with u w again words (frame.Store kind to)) (λ n s. refl) (λ s. refl);
  lighter = omega arith;
  plain = refl;
}

known_run : (u : Whole) (w : World) (again : Stmt → Step Flow) (arguments : List ℕ) (v : Option ℕ) (s : State)
    → task_of u w again arguments (known_task v) s ≡ and_then (and_then (known v s) value) (λ x. pure (Gave x))
known_run u w again arguments (Some v) s = refl
known_run u w again arguments None s = refl

known_weight : (v : Option ℕ) → task_weight (known_task v) ≡ 0
known_weight (Some v) = refl
known_weight None = refl

-- both operands are known
pub operated : (place : Place) (c : Configuration) (op : COp) (a b : ℕ) (r : Bor Expr) (v : Option ℕ) (s : Task) → v ≡ c_operator op a b → s ≡ known_task v → IsPlain c r.now b → IsSound c
    → Continues place c (frame.BinaryLeft op r) (Gave (Some a)) c s
operated place c op a b r v s vis sis plain sound =
    opened_plain place c c _ _ (frame.Binary op a) r b s (binary_opens op a r) plain
    (rw (sis, vis) (settled_here place c _ _ (known_task (c_operator op a b)) (λ again before. known_run place.unit.now (world_of place) again c.arguments (c_operator op a b) (state_of before c))
    (let none = known_weight (c_operator op a b) in omega (arith, none)) sound))

-- ---- the last argument, and the last statement of a block

pub last_argument : (place : Place) (c : Configuration) (word : ℕ) (rest : Bor (List Expr)) (arguments : List ℕ) → rest.now ≡ [] → arguments ≡ word ∷ [] → IsSound c
    → Continues place c (frame.Arguments rest) (Gave (Some word)) (record c { arguments = arguments }) task.Values
last_argument place c word rest arguments none is sound =
    rw is (changed place c (record c { arguments = word ∷ [] }) _ _ task.Values
    (λ again before. sym (ap (λ xs. and_then (and_then (eval_all place.unit.now (world_of place) again (expr_row xs) (state_of before c)) (λ vs. pure (word ∷ vs))) (λ vs. pure (Gathered vs))) none)) refl (omega arith) sound)

ends_alike : (flow : Flow) (s : State) → if_normal flow (pure Normal) s ≡ Gives flow s
ends_alike Normal s = refl
ends_alike Breaks s = refl
ends_alike Goes s = refl
ends_alike (Returns v) s = refl

pub last_stmt : (ss more : Bor (List Stmt)) (s : Bor Stmt) → ss.now ≡ s.now ∷ more.now → more.now ≡ [] → Settles (task_meaning (task.Stmts ss)) (size_stmts (stmt_row ss.now)) (task.Stmt s)
last_stmt ss more s is none =
    subst (λ xs. Settles (λ u w again words arguments. ends (exec_all u w again (stmt_row xs))) (size_stmts (stmt_row xs)) (task.Stmt s)) (sym (is ∙ ap (λ xs. s.now ∷ xs) none)) (record {
      run = λ u w again words arguments state. run (exec u w again s.now state);
      lighter = omega arith;
    })
  where
    run : (first : Result Flow) → and_then first (λ flow. pure (Finished flow)) ≡ and_then (and_then first (λ flow. if_normal flow (pure Normal))) (λ flow. pure (Finished flow))
    run (Gives flow t) = sym (ap (λ r. and_then r (λ flow. pure (Finished flow))) (ends_alike flow t))
    run (Stops outcome last) = refl
