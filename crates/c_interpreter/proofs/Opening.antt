-- An expression is its first part, and then its frame.
use Rattle.std.proofs.Common.{◌≡◌, ℕ, ◌%◌, List, Option, Some, None, refl, sym, ap, ap₂, subst, ◌∙◌, arith}
use Rattle.std.specs.Prelude.{slice_get}
use Rattle.std.specs.Borrow.{Bor}
use Rattle.cp_base.specs.declared.op.Kind.{Kind}
use Rattle.cp_base.specs.declared.op.To.{To}
use Rattle.cp_base.specs.declared.op.To.TheVariants.{Truth}
use Rattle.cp_base.specs.Operations.{converted}
use Rattle.run_model.specs.declared.outcome.Outcome.TheVariants.{Undefined}
use Rattle.run_model.specs.Stores.{World}
use Rattle.c_types.specs.declared.tree.COp.{COp}
use Rattle.c_types.specs.declared.tree.Expr.{Expr}
use Rattle.c_types.specs.declared.tree.Expr.TheVariants as expr
use Rattle.c_types.specs.declared.tree.Stmt.{Stmt}
use Rattle.c_types.specs.declared.tree.Unit.{Unit as Whole}
use Rattle.c_types.specs.Forms.{set_local, load, store, binary, convert, both, either, choose, seq, call, put_char, copy, length_of, expr_row}
use Rattle.c_types.proofs.FormLaws.{set_local_is, load_is, store_is, binary_is, convert_is, both_is, either_is, choose_is, seq_is, put_char_is, copy_is, call_is}
use Rattle.c_meaning.specs.Steps.{State, Result, Gives, Stops, Step, pure, and_then, ◌>>=◌, ◌>>◌, known, operate, write_local, read_data, write_data, copy_data, write_byte, choice, is_true}
use Rattle.c_meaning.specs.Meaning.{Flow, eval, eval_all, used, value, call_of}
use Rattle.c_interpreter.specs.declared.frame.Frame.{Frame}
use Rattle.c_interpreter.specs.declared.frame.Frame.TheVariants as frame
use Rattle.c_interpreter.specs.declared.frame.Task.{Task}
use Rattle.c_interpreter.specs.declared.frame.Task.TheVariants as task
use Rattle.c_interpreter.specs.Machine.{Signal, Gave, Gathered, continue_with}
use Rattle.c_interpreter.specs.Weights.{size}
use Rattle.c_interpreter.specs.Leading.{Opens, expr_meaning}

-- a value that has to be there, and then the rest
pub by_used : {A : Type 0} → (first : Result (Option ℕ)) (rest : ℕ → Step A) (lift : A → Signal) (k : Signal → Step Signal)
    → ((a : ℕ) (s : State) → k (Gave (Some a)) s ≡ and_then (rest a s) (λ x. pure (lift x)))
    → ((s : State) → k (Gave None) s ≡ Stops Undefined s.store)
    → and_then (and_then first (λ v. pure (Gave v))) k ≡ and_then (and_then (and_then first known) rest) (λ x. pure (lift x))
by_used (Gives (Some a) s) rest lift k some none = some a s
by_used (Gives None s) rest lift k some none = none s
by_used (Stops outcome last) rest lift k some none = refl

-- a value that may be missing, and then the rest
pub by_given : {A : Type 0} → (first : Result (Option ℕ)) (rest : Step A) (lift : A → Signal) (k : Signal → Step Signal)
    → ((v : Option ℕ) (s : State) → k (Gave v) s ≡ and_then (rest s) (λ x. pure (lift x)))
    → and_then (and_then first (λ v. pure (Gave v))) k ≡ and_then (and_then first (λ _. rest)) (λ x. pure (lift x))
by_given (Gives v s) rest lift k given = given v s
by_given (Stops outcome last) rest lift k given = refl

abbrev pub OpensExpr : Expr → Frame → Task → Type 0
OpensExpr e f s = Opens (expr_meaning e) (size e) f s

pub open_set_local : (e : Expr) (v : Bor Expr) (x : ℕ) (part : Expr) → e ≡ expr.SetLocal x part → v.now ≡ part → OpensExpr e (frame.SetLocal x) (task.Expr v)
open_set_local e v x part is vis = subst (λ form. OpensExpr form (frame.SetLocal x) (task.Expr v)) (sym (is ∙ set_local_is x part ∙ ap (set_local x) (sym vis))) (record {
  run = λ u w again words arguments state. by_used (eval u w again v.now state) (λ n. write_local x (Some n) >> value n) Gave (continue_with u w again words (frame.SetLocal x)) (λ n s. refl) (λ s. refl);
  lighter = omega arith;
  plain = refl;
})

pub open_load : (e : Expr) (at : Bor Expr) (kind : Kind) (part : Expr) → e ≡ expr.Load kind part → at.now ≡ part → OpensExpr e (frame.Load kind) (task.Expr at)
open_load e at kind part is ais = subst (λ form. OpensExpr form (frame.Load kind) (task.Expr at)) (sym (is ∙ load_is kind part ∙ ap (load kind) (sym ais))) (record {
  run = λ u w again words arguments state. load_run u w again words kind (eval u w again at.now state);
  lighter = omega arith;
  plain = refl;
})
  where
    load_run : (u : Whole) (w : World) (again : Stmt → Step Flow) (words : List (Option ℕ)) (kind : Kind) (first : Result (Option ℕ))
        → and_then (and_then first (λ v. pure (Gave v))) (continue_with u w again words (frame.Load kind))
        ≡ and_then (and_then (and_then (and_then first known) (read_data w kind)) value) (λ v. pure (Gave v))
    load_run u w again words kind (Gives (Some a) s) = refl
    load_run u w again words kind (Gives None s) = refl
    load_run u w again words kind (Stops outcome last) = refl

pub open_store : (e : Expr) (at v : Bor Expr) (kind : Kind) (left right : Expr) → e ≡ expr.Store kind left right → at.now ≡ left → v.now ≡ right
    → OpensExpr e (frame.StoreTo kind v) (task.Expr at)
open_store e at v kind left right is lis ris = subst (λ form. OpensExpr form (frame.StoreTo kind v) (task.Expr at)) (sym (is ∙ store_is kind left right ∙ ap₂ (store kind) (sym lis) (sym ris))) (record {
  run = λ u w again words arguments state. by_used (eval u w again at.now state) (λ to. used (eval u w again v.now) >>= (λ n. write_data w kind to n >> value n)) Gave (continue_with u w again words (frame.StoreTo kind v)) (λ n s. refl) (λ s. refl);
  lighter = omega arith;
  plain = refl;
})

pub open_copy : (e : Expr) (to from : Bor Expr) (bytes align : ℕ) (left right : Expr) → e ≡ expr.Copy bytes align left right → to.now ≡ left → from.now ≡ right
    → OpensExpr e (frame.CopyTo bytes align from) (task.Expr to)
open_copy e to from bytes align left right is lis ris = subst (λ form. OpensExpr form (frame.CopyTo bytes align from) (task.Expr to)) (sym (is ∙ copy_is bytes align left right ∙ ap₂ (copy bytes align) (sym lis) (sym ris))) (record {
  run = λ u w again words arguments state. by_used (eval u w again to.now state) (λ a. used (eval u w again from.now) >>= (λ b. copy_data w bytes align a b >> value a)) Gave (continue_with u w again words (frame.CopyTo bytes align from)) (λ n s. refl) (λ s. refl);
  lighter = omega arith;
  plain = refl;
})

pub open_binary : (e : Expr) (l r : Bor Expr) (op : COp) (left right : Expr) → e ≡ expr.Binary op left right → l.now ≡ left → r.now ≡ right
    → OpensExpr e (frame.BinaryLeft op r) (task.Expr l)
open_binary e l r op left right is lis ris = subst (λ form. OpensExpr form (frame.BinaryLeft op r) (task.Expr l)) (sym (is ∙ binary_is op left right ∙ ap₂ (binary op) (sym lis) (sym ris))) (record {
  run = λ u w again words arguments state. by_used (eval u w again l.now state) (λ a. used (eval u w again r.now) >>= (λ b. operate op a b >>= value)) Gave (continue_with u w again words (frame.BinaryLeft op r)) (λ n s. refl) (λ s. refl);
  lighter = omega arith;
  plain = refl;
})

pub open_convert : (e : Expr) (v : Bor Expr) (to : To) (part : Expr) → e ≡ expr.Convert to part → v.now ≡ part → OpensExpr e (frame.Convert to) (task.Expr v)
open_convert e v to part is vis = subst (λ form. OpensExpr form (frame.Convert to) (task.Expr v)) (sym (is ∙ convert_is to part ∙ ap (convert to) (sym vis))) (record {
  run = λ u w again words arguments state. by_used (eval u w again v.now state) (λ n. value (converted to n)) Gave (continue_with u w again words (frame.Convert to)) (λ n s. refl) (λ s. refl);
  lighter = omega arith;
  plain = refl;
})

pub open_both : (e : Expr) (l r : Bor Expr) (left right : Expr) → e ≡ expr.Both left right → l.now ≡ left → r.now ≡ right → OpensExpr e (frame.Both r) (task.Expr l)
open_both e l r left right is lis ris = subst (λ form. OpensExpr form (frame.Both r) (task.Expr l)) (sym (is ∙ both_is left right ∙ ap₂ both (sym lis) (sym ris))) (record {
  run = λ u w again words arguments state. by_used (eval u w again l.now state) (λ a. choice (is_true a) (used (eval u w again r.now) >>= (λ b. value (converted Truth b))) (value 0)) Gave (continue_with u w again words (frame.Both r)) (λ n s. refl) (λ s. refl);
  lighter = omega arith;
  plain = refl;
})

pub open_either : (e : Expr) (l r : Bor Expr) (left right : Expr) → e ≡ expr.Either left right → l.now ≡ left → r.now ≡ right → OpensExpr e (frame.Either r) (task.Expr l)
open_either e l r left right is lis ris = subst (λ form. OpensExpr form (frame.Either r) (task.Expr l)) (sym (is ∙ either_is left right ∙ ap₂ either (sym lis) (sym ris))) (record {
  run = λ u w again words arguments state. by_used (eval u w again l.now state) (λ a. choice (is_true a) (value 1) (used (eval u w again r.now) >>= (λ b. value (converted Truth b)))) Gave (continue_with u w again words (frame.Either r)) (λ n s. refl) (λ s. refl);
  lighter = omega arith;
  plain = refl;
})

pub open_choose : (e : Expr) (q a b : Bor Expr) (test first second : Expr) → e ≡ expr.Choose test first second → q.now ≡ test → a.now ≡ first → b.now ≡ second
    → OpensExpr e (frame.Choose a b) (task.Expr q)
open_choose e q a b test first second is qis ais bis = subst (λ form. OpensExpr form (frame.Choose a b) (task.Expr q)) (sym (is ∙ choose_is test first second ∙ ap₂ (λ x y. choose x y second) (sym qis) (sym ais) ∙ ap (choose q.now a.now) (sym bis))) (record {
  run = λ u w again words arguments state. by_used (eval u w again q.now state) (λ n. choice (is_true n) (eval u w again a.now) (eval u w again b.now)) Gave (continue_with u w again words (frame.Choose a b)) (λ n s. refl) (λ s. refl);
  lighter = omega arith;
  plain = refl;
})

pub open_seq : (e : Expr) (l r : Bor Expr) (left right : Expr) → e ≡ expr.Seq left right → l.now ≡ left → r.now ≡ right → OpensExpr e (frame.Seq r) (task.Expr l)
open_seq e l r left right is lis ris = subst (λ form. OpensExpr form (frame.Seq r) (task.Expr l)) (sym (is ∙ seq_is left right ∙ ap₂ seq (sym lis) (sym ris))) (record {
  run = λ u w again words arguments state. by_given (eval u w again l.now state) (eval u w again r.now) Gave (continue_with u w again words (frame.Seq r)) (λ v s. refl);
  lighter = omega arith;
  plain = refl;
})

pub open_put_char : (e : Expr) (v : Bor Expr) (part : Expr) → e ≡ expr.PutChar part → v.now ≡ part → OpensExpr e frame.PutChar (task.Expr v)
open_put_char e v part is vis = subst (λ form. OpensExpr form frame.PutChar (task.Expr v)) (sym (is ∙ put_char_is part ∙ ap put_char (sym vis))) (record {
  run = λ u w again words arguments state. by_used (eval u w again v.now state) (λ n. write_byte n >> value (n % 256)) Gave (continue_with u w again words frame.PutChar) (λ n s. refl) (λ s. refl);
  lighter = omega arith;
  plain = refl;
})

pub open_call : (e : Expr) (es : Bor (List Expr)) (function : ℕ) (arguments : List Expr) → e ≡ expr.Call function arguments → es.now ≡ arguments
    → OpensExpr e (frame.CallTo function) (task.Exprs es)
open_call e es function parts is eis = subst (λ form. OpensExpr form (frame.CallTo function) (task.Exprs es)) (sym (is ∙ call_is function parts ∙ ap (λ xs. call function (length_of xs) (expr_row xs)) (sym eis))) (record {
  run = λ u w again words arguments state. call_run u w again words function (eval_all u w again (expr_row es.now) state);
  lighter = omega arith;
  plain = refl;
})
  where
    call_run : (u : Whole) (w : World) (again : Stmt → Step Flow) (words : List (Option ℕ)) (function : ℕ) (first : Result (List ℕ))
        → and_then (and_then first (λ vs. pure (Gathered vs))) (continue_with u w again words (frame.CallTo function))
        ≡ and_then (and_then first (call_of u w again (slice_get u.functions function))) (λ v. pure (Gave v))
    call_run u w again words function (Gives vs s) = refl
    call_run u w again words function (Stops outcome last) = refl
