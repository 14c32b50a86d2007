-- The locals of all calls in one list: what changes from an index on changes nothing for callers that stand before it.
use Rattle.std.proofs.Common.{◌≡◌, ℕ, ◌+◌, ◌<◌, ◌≤◌, List, [], ◌∷◌, take, drop, Option, Some, None, refl, sym, ap, ap₂, subst, ◌∙◌, arith}
use Rattle.std.specs.Prelude.{slice_set}
use Rattle.std.proofs.lemmas.List.{take-take, take-set-le, drop-set-add}
use Rattle.std.specs.Borrow.{Bor}
use Rattle.run_model.specs.Stores.{World}
use Rattle.c_types.specs.declared.tree.Stmt.{Stmt}
use Rattle.c_types.specs.declared.tree.Unit.{Unit as Whole}
use Rattle.c_types.specs.Forms.{unset}
use Rattle.c_meaning.specs.Steps.{Result, Step, and_then}
use Rattle.c_meaning.specs.Meaning.{Flow}
use Rattle.c_interpreter.specs.declared.frame.Frame.{Frame}
use Rattle.c_interpreter.specs.declared.frame.Frame.TheVariants as frame
use Rattle.c_interpreter.specs.declared.frame.Ending.TheVariants as ending
use Rattle.c_interpreter.specs.declared.frame.Task.{Task}
use Rattle.c_interpreter.specs.declared.frame.Task.TheVariants as task
use Rattle.c_interpreter.specs.declared.machine.Place.{Place}
use Rattle.c_interpreter.specs.Machine.{Signal, Gave, Configuration, state_of, IsSound, continue_in, resume, task_of, Nested, NestedIn, span_of, locals_of}
use Rattle.c_interpreter.specs.Weights.{size_stmt, frames_weight, task_weight}
use Rattle.c_interpreter.specs.Leading.{Meaning, LeadsFrom, Leads, Continues, SetsLocal, world_of, stmt_meaning}
use Rattle.c_interpreter.proofs.Resume.{nested_below}

same_span : (span : Option (ℕ × ℕ)) (above : ℕ → Type 0) (base low : ℕ) (words others : List (Option ℕ)) → ((n : ℕ) → above n → n ≤ base)
    → NestedIn span above low → take base others ≡ take base words → locals_of others span ≡ locals_of words span
same_span None above base low words others f h same = refl
same_span (Some span) above base low words others f h same =
    let le = f span.1 h.2 in
    ap (drop span.0) (sym (take-take span.1 base others le) ∙ ap (take span.1) same ∙ take-take span.1 base words le)

-- a fact of what stands above
above_at : (span : Option (ℕ × ℕ)) (above : ℕ → Type 0) (low : ℕ) → NestedIn span above low → (n : ℕ) × above n
above_at None above low h = (low, h)
above_at (Some span) above low h = (span.1, h.2)

pub resume_same : (u : Whole) (w : World) (again : Stmt → Step Flow) (fs : List Frame) (base low : ℕ) (words others : List (Option ℕ)) (r : Result Signal)
    → Nested fs base low → take base others ≡ take base words → resume u w again others fs r ≡ resume u w again words fs r
resume_same u w again [] base low words others r h same = refl
resume_same u w again (f ∷ fs) base low words others r h same =
    let inner = above_at (span_of f) (Nested fs base) low h in
    ap₂ (λ x locals. and_then x (continue_in u w again locals f))
    (resume_same u w again fs base inner.0 words others r inner.1 same)
    (same_span (span_of f) (Nested fs base) base low words others (λ n. nested_below fs base n) h same)

-- the value of a local is set
pub set_is : (words : List (Option ℕ)) (base x : ℕ) (value : Option ℕ) → drop base (slice_set words (base + x) value) ≡ slice_set (drop base words) x value
set_is words base x value = drop-set-add base words x value

pub set_below : (words : List (Option ℕ)) (base x : ℕ) (value : Option ℕ) → take base (slice_set words (base + x) value) ≡ take base words
set_below words base x value = take-set-le base words (base + x) value (omega arith)

module _ (place : Place) (c d : Configuration) (x : ℕ) (value : Option ℕ) (sets : SetsLocal c x value d) (sound : IsSound c) where
  set_sound : IsSound d
  set_sound = rw sets.rest (record { nested = sound.nested; within = let h = sound.within in omega (arith, h, sets.long) })

  pub set_leads : (meaning : Meaning) (heavy : ℕ) (s : Task)
      → ((again : Stmt → Step Flow) (before : List ℕ) → task_of place.unit.now (world_of place) again c.arguments s (record (state_of before c) { locals = slice_set (drop c.base c.words) x value })
      ≡ meaning place.unit.now (world_of place) again c.words c.arguments (state_of before c))
      → task_weight s < heavy → LeadsFrom place c meaning heavy d s
  set_leads meaning heavy s run less = record {
    run = λ again before.
        ap (λ (e : Configuration). resume place.unit.now (world_of place) again d.words e.frames (task_of place.unit.now (world_of place) again e.arguments s (record (state_of before e) { locals = drop e.base d.words }))) sets.rest
        ∙ resume_same place.unit.now (world_of place) again c.frames c.base 0 c.words d.words _ sound.nested sets.below
        ∙ ap (λ locals. resume place.unit.now (world_of place) again c.words c.frames (task_of place.unit.now (world_of place) again c.arguments s (record (state_of before c) { locals = locals }))) sets.locals
        ∙ ap (resume place.unit.now (world_of place) again c.words c.frames) (run again before);
    sound = set_sound;
    lighter = let same : frames_weight d.frames ≡ frames_weight c.frames = ap (λ (e : Configuration). frames_weight e.frames) sets.rest in omega (arith, less, same);
    turns = ap (λ (e : Configuration). e.turns) sets.rest;
  }

pub set_local_done : (place : Place) (c d : Configuration) (x v : ℕ) → SetsLocal c x (Some v) d → IsSound c → Continues place c (frame.SetLocal x) (Gave (Some v)) d (task.Value (Some v))
set_local_done place c d x v sets sound = set_leads place c d x (Some v) sets sound _ _ _ (λ again before. refl) (omega arith)

pub unset_done : (place : Place) (c d : Configuration) (x : ℕ) → SetsLocal c x None d → IsSound c → LeadsFrom place c (stmt_meaning (unset x)) 1 d (task.Ending ending.Normal)
unset_done place c d x sets sound = set_leads place c d x None sets sound _ _ _ (λ again before. refl) (omega arith)

pub unset_at : (place : Place) (c d : Configuration) (x : ℕ) (st : Bor Stmt) → st.now ≡ unset x → SetsLocal c x None d → IsSound c → Leads place c (task.Stmt st) d (task.Ending ending.Normal)
unset_at place c d x st is sets sound =
    subst (λ form. LeadsFrom place c (stmt_meaning form) (size_stmt form) d (task.Ending ending.Normal)) (sym is) (unset_done place c d x sets sound)

pub set_local_at : (place : Place) (c d : Configuration) (f : Frame) (x v : ℕ) → f ≡ frame.SetLocal x → SetsLocal c x (Some v) d → IsSound c
    → Continues place c f (Gave (Some v)) d (task.Value (Some v))
set_local_at place c d f x v is sets sound = subst (λ g. Continues place c g (Gave (Some v)) d (task.Value (Some v))) (sym is) (set_local_done place c d x v sets sound)
