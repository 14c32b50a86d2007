-- Frames, and what stands below them.
use Rattle.std.proofs.Common.{◌≡◌, ℕ, ◌+◌, ◌<◌, ◌≤◌, List, [], ◌∷◌, ◌++◌, reverse, Option, Some, None, refl, sym, ap, ap₂, subst, ◌∙◌, arith, le_trans, add_assoc}
use Rattle.std.specs.Prelude.{Result as Answer, IfOk}
use Rattle.std.proofs.lemmas.Result.{IfOk-weaker}
use Rattle.run_model.specs.Stores.{World}
use Rattle.c_types.specs.declared.tree.Stmt.{Stmt}
use Rattle.c_types.specs.declared.tree.Unit.{Unit as Whole}
use Rattle.c_meaning.specs.Steps.{State, Result, Gives, Stops, Step, and_then}
use Rattle.c_meaning.specs.Meaning.{Flow}
use Rattle.c_interpreter.specs.declared.frame.Frame.{Frame}
use Rattle.c_interpreter.specs.declared.frame.Ending.{Ending}
use Rattle.c_interpreter.specs.declared.frame.Task.{Task}
use Rattle.c_interpreter.specs.declared.frame.Task.TheVariants as task
use Rattle.c_interpreter.specs.declared.machine.Place.{Place}
use Rattle.c_interpreter.specs.Machine.{Signal, Gave, Gathered, Finished, flow_of, Configuration, with_frame, state_of, IsSound, continue_with, resume, task_of, Nested, NestedIn, span_of}
use Rattle.c_interpreter.specs.Weights.{frame_weight, frames_weight, task_weight}
use Rattle.c_interpreter.specs.Leading.{Reaches, Meaning, Opens, Settles, LeadsFrom, Leads, Continues, world_of}

pub resume_push : (u : Whole) (w : World) (again : Stmt → Step Flow) (words : List (Option ℕ)) (fs : List Frame) (f : Frame) (r : Result Signal)
    → resume u w again words (fs ++ f ∷ []) r ≡ resume u w again words fs (and_then r (continue_with u w again words f))
resume_push u w again words [] f r = refl
resume_push u w again words (g ∷ fs) f r = ap (λ x. and_then x (continue_with u w again words g)) (resume_push u w again words fs f r)

-- a run that has stopped stays so
pub resume_stops : (u : Whole) (w : World) (again : Stmt → Step Flow) (words : List (Option ℕ)) (fs : List Frame) (outcome : _) (store : _)
    → resume u w again words fs (Stops outcome store) ≡ Stops outcome store
resume_stops u w again words [] outcome store = refl
resume_stops u w again words (g ∷ fs) outcome store = ap (λ x. and_then x (continue_with u w again words g)) (resume_stops u w again words fs outcome store)

pub frames_weight_push : (fs : List Frame) (f : Frame) → frames_weight (fs ++ f ∷ []) ≡ frames_weight fs + frame_weight f
frames_weight_push [] f = omega arith
frames_weight_push (g ∷ fs) f = ap (λ n. frame_weight g + n) (frames_weight_push fs f) ∙ sym (add_assoc (frame_weight g) (frames_weight fs) (frame_weight f))

-- ---- the locals of callers

pub nested_map : (span : Option (ℕ × ℕ)) (above below : ℕ → Type 0) (low : ℕ) → ((n : ℕ) → above n → below n) → NestedIn span above low → NestedIn span below low
nested_map None above below low f h = f low h
nested_map (Some span) above below low f h = (h.0, h.1, f span.1 h.2)

nested_in_below : (span : Option (ℕ × ℕ)) (above : ℕ → Type 0) (base low : ℕ) → ((n : ℕ) → above n → n ≤ base) → NestedIn span above low → low ≤ base
nested_in_below None above base low f h = f low h
nested_in_below (Some span) above base low f h = le_trans h.0 (le_trans h.1 (f span.1 h.2))

pub nested_below : (fs : List Frame) (base low : ℕ) → Nested fs base low → low ≤ base
nested_below [] base low h = h
nested_below (f ∷ fs) base low h = nested_in_below (span_of f) (Nested fs base) base low (λ n. nested_below fs base n) h

pub nested_push : (fs : List Frame) (f : Frame) (base low : ℕ) → span_of f ≡ None → Nested fs base low → Nested (fs ++ f ∷ []) base low
nested_push [] f base low plain h = subst (λ span. NestedIn span (λ n. n ≤ base) low) (sym plain) h
nested_push (g ∷ fs) f base low plain h =
    nested_map (span_of g) (Nested fs base) (Nested (fs ++ f ∷ []) base) low (λ n. nested_push fs f base n plain) h

nested_last : (span : Option (ℕ × ℕ)) (base low : ℕ) → NestedIn span (λ n. n ≤ base) low → low ≤ base
nested_last span base low h = nested_in_below span (λ n. n ≤ base) base low (λ n h. h) h

pub nested_pop : (fs : List Frame) (f : Frame) (base low : ℕ) → Nested (fs ++ f ∷ []) base low → Nested fs base low
nested_pop [] f base low h = nested_last (span_of f) base low h
nested_pop (g ∷ fs) f base low h =
    nested_map (span_of g) (Nested (fs ++ f ∷ []) base) (Nested fs base) low (λ n. nested_pop fs f base n) h

-- ---- what a step comes to

pub opened : (place : Place) (c d : Configuration) (meaning : Meaning) (heavy : ℕ) (s next : Task) (f : Frame)
    → Opens meaning heavy f s → IsSound c → d ≡ with_frame c f → next ≡ s → LeadsFrom place c meaning heavy d next
opened place c d meaning heavy s next f opens sound is task = rw (is, task) (record {
  run = λ again before.
      resume_push place.unit.now (world_of place) again c.words c.frames f _
      ∙ ap (resume place.unit.now (world_of place) again c.words c.frames) (opens.run place.unit.now (world_of place) again c.words c.arguments (state_of before c));
  sound = record { nested = nested_push c.frames f c.base 0 opens.plain sound.nested; within = sound.within };
  lighter = let h = opens.lighter in omega (arith, frames_weight_push c.frames f, h);
  turns = refl;
})

pub settled : (place : Place) (c : Configuration) (meaning : Meaning) (heavy : ℕ) (s : Task)
    → Settles meaning heavy s → IsSound c → LeadsFrom place c meaning heavy c s
settled place c meaning heavy s settles sound = record {
  run = λ again before. ap (resume place.unit.now (world_of place) again c.words c.frames) (settles.run place.unit.now (world_of place) again c.words c.arguments (state_of before c));
  sound = sound;
  lighter = let h = settles.lighter in omega (arith, h);
  turns = refl;
}

-- the frame that was taken away is put back
pub popped : (place : Place) (c : Configuration) (f : Frame) (t : Task) (signal : Signal) (d : Configuration) (s : Task)
    → ((u : Whole) (w : World) (again : Stmt → Step Flow) (state : State) → task_of u w again c.arguments t state ≡ Gives signal state)
    → Continues place c f signal d s → Leads place (with_frame c f) t d s
popped place c f t signal d s given h = record {
  run = λ again before. h.run again before
      ∙ sym (resume_push place.unit.now (world_of place) again c.words c.frames f _
      ∙ ap (λ r. resume place.unit.now (world_of place) again c.words c.frames (and_then r (continue_with place.unit.now (world_of place) again c.words f))) (given place.unit.now (world_of place) again (state_of before c)));
  sound = h.sound;
  lighter = let l = h.lighter in omega (arith, frames_weight_push c.frames f, l);
  turns = h.turns;
}

-- the state is the same, and the frames too
pub settled_here : (place : Place) (c : Configuration) (meaning : Meaning) (heavy : ℕ) (s : Task)
    → ((again : Stmt → Step Flow) (before : List ℕ) → task_of place.unit.now (world_of place) again c.arguments s (state_of before c)
    ≡ meaning place.unit.now (world_of place) again c.words c.arguments (state_of before c))
    → task_weight s < heavy → IsSound c → LeadsFrom place c meaning heavy c s
settled_here place c meaning heavy s run less sound = record {
  run = λ again before. ap (resume place.unit.now (world_of place) again c.words c.frames) (run again before);
  sound = sound;
  lighter = omega (arith, less);
  turns = refl;
}

-- the frames and the locals are the same
pub changed : (place : Place) (c d : Configuration) (meaning : Meaning) (heavy : ℕ) (s : Task)
    → ((again : Stmt → Step Flow) (before : List ℕ) → task_of place.unit.now (world_of place) again d.arguments s (state_of before d)
    ≡ meaning place.unit.now (world_of place) again c.words c.arguments (state_of before c))
    → d ≡ record c { arguments = d.arguments; bytes = d.bytes; taken = d.taken; out = d.out; active = d.active }
    → task_weight s < heavy → IsSound c → LeadsFrom place c meaning heavy d s
changed place c d meaning heavy s run is less sound = record {
  run = λ again before.
      ap₂ (λ words frames. resume place.unit.now (world_of place) again words frames (task_of place.unit.now (world_of place) again d.arguments s (state_of before d))) (ap (λ x. x.words) is) (ap (λ x. x.frames) is)
      ∙ ap (resume place.unit.now (world_of place) again c.words c.frames) (run again before);
  sound = rw is (record { nested = sound.nested; within = sound.within });
  lighter = let same : frames_weight d.frames ≡ frames_weight c.frames = ap (λ x. frames_weight x.frames) is in omega (arith, less, same);
  turns = ap (λ x. x.turns) is;
}

-- what stands below a sound moment's last frame is sound
pub sound_below : (c whole : Configuration) (f : Frame) → whole ≡ with_frame c f → IsSound whole → IsSound c
sound_below c whole f is sound =
    let all = subst IsSound is sound in
    record { nested = nested_pop c.frames f c.base 0 all.nested; within = all.within }

module _ (place : Place) (c whole : Configuration) (f : Frame) (is : whole ≡ with_frame c f) (d : Configuration) where
  pass : {E : Type 0} → (t : Task) (signal : Signal) (r : Answer Task E)
      → ((u : Whole) (w : World) (again : Stmt → Step Flow) (state : State) → task_of u w again c.arguments t state ≡ Gives signal state)
      → IfOk r (λ next. Continues place c f signal d next) → IfOk r (λ next. Leads place whole t d next)
  pass t signal r given h = IfOk-weaker r _ _ (λ next k. subst (λ x. Leads place x t d next) (sym is) (popped place c f t signal d next given k)) h

  pub pass_value : {E : Type 0} → (v : Option ℕ) (r : Answer Task E) → IfOk r (λ next. Continues place c f (Gave v) d next) → IfOk r (λ next. Leads place whole (task.Value v) d next)
  pass_value v r h = pass (task.Value v) (Gave v) r (λ u w again state. refl) h

  pub pass_values : {E : Type 0} → (r : Answer Task E) → IfOk r (λ next. Continues place c f (Gathered (reverse c.arguments)) d next) → IfOk r (λ next. Leads place whole task.Values d next)
  pass_values r h = pass task.Values (Gathered (reverse c.arguments)) r (λ u w again state. refl) h

  pub pass_ending : {E : Type 0} → (flow : Ending) (r : Answer Task E) → IfOk r (λ next. Continues place c f (Finished (flow_of flow)) d next) → IfOk r (λ next. Leads place whole (task.Ending flow) d next)
  pass_ending flow r h = pass (task.Ending flow) (Finished (flow_of flow)) r (λ u w again state. refl) h

-- ---- many steps

pub reached_none : (place : Place) (c : Configuration) (t : Task) → IsSound c → Reaches place c t c t
reached_none place c t sound = record { run = λ again before. refl; sound = sound; turns = refl }

pub reached_more : (place : Place) (c d e : Configuration) (t s r : Task) → Reaches place c t d s → Leads place d s e r → Reaches place c t e r
reached_more place c d e t s r one two = record {
  run = λ again before. two.run again before ∙ one.run again before;
  sound = two.sound;
  turns = two.turns ∙ one.turns;
}
