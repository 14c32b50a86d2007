-- Calls: their arguments, and their ends.
use Rattle.std.proofs.Common.{◌≡◌, ℕ, ◌≤◌, List, [], ◌∷◌, ◌++◌, length, take, reverse, Option, Some, None, refl, sym, ap, subst, arith}
use Rattle.std.specs.Borrow.{Bor}
use Rattle.std.proofs.lemmas.List.{take-take, length-take-le, reverse-append}
use Rattle.c_types.specs.declared.tree.Func.{Func}
use Rattle.c_meaning.specs.Steps.{Gives}
use Rattle.c_meaning.specs.Meaning.{Flow, value_of}
use Rattle.c_interpreter.specs.declared.frame.Frame.{Frame}
use Rattle.c_interpreter.specs.declared.frame.Frame.TheVariants as frame
use Rattle.c_interpreter.specs.declared.frame.Task.TheVariants as task
use Rattle.c_interpreter.specs.declared.machine.Place.{Place}
use Rattle.c_interpreter.specs.Machine.{Gathered, Finished, Configuration, with_frame, state_of, IsSound, Nested, NestedIn, span_of}
use Rattle.c_interpreter.specs.Leading.{Continues, world_of}
use Rattle.c_interpreter.proofs.Resume.{changed}
use Rattle.c_interpreter.proofs.Locals.{resume_same}

-- one more argument stands before those that were gathered
pub argument_done : (place : Place) (c : Configuration) (word : ℕ) (arguments : List ℕ) → arguments ≡ c.arguments ++ word ∷ [] → IsSound c
    → Continues place c (frame.Argument word) (Gathered (reverse c.arguments)) (record c { arguments = arguments }) task.Values
argument_done place c word arguments is sound =
    rw is (changed place c (record c { arguments = c.arguments ++ word ∷ [] }) _ _ task.Values
    (λ again before. ap (λ vs. Gives (Gathered vs) (state_of before c)) (reverse-append c.arguments (word ∷ []))) refl (omega arith) sound)

-- ---- the frame of a call

pub record Called (fs : List Frame) (from to base low : ℕ) : Type 0 where
  pub nested : Nested fs from low
  pub up : from ≤ to
  pub below : to ≤ base

called_in : (span : Option (ℕ × ℕ)) (fs : List Frame) (above : ℕ → Type 0) (from to base low : ℕ) → ((n : ℕ) → above n → Called fs from to base n)
    → NestedIn span above low → NestedIn span (Nested fs from) low × (from ≤ to) × (to ≤ base)
called_in None fs above from to base low h n = let x = h low n in (x.nested, x.up, x.below)
called_in (Some span) fs above from to base low h n = let x = h span.1 n.2 in ((n.0, n.1, x.nested), x.up, x.below)

pub called : (fs : List Frame) (f : Bor Func) (from to active base low : ℕ) → Nested (fs ++ frame.Call f from to active ∷ []) base low → Called fs from to base low
called [] f from to active base low h = record { nested = h.0; up = h.1; below = h.2 }
called (g ∷ fs) f from to active base low h =
    let x = called_in (span_of g) fs (Nested (fs ++ frame.Call f from to active ∷ []) base) from to base low (λ n. called fs f from to active base n) h in
    record { nested = x.0; up = x.1; below = x.2 }

pub call_done : (place : Place) (c : Configuration) (f : Bor Func) (from to active : ℕ) (flow : Flow) (words : List (Option ℕ)) (v : Option ℕ)
    → words ≡ take to c.words → v ≡ value_of f.now flow
    → IsSound (with_frame c (frame.Call f from to active)) → Continues place c (frame.Call f from to active) (Finished flow) (record c { words = words; base = from; active = active }) (task.Value v)
call_done place c f from to active flow words v is vis sound =
    let all = called c.frames f from to active c.base 0 sound.nested in
    let up = all.up in
    let below = all.below in
    let within = sound.within in
    let long : length (take to c.words) ≡ to = length-take-le to c.words (omega (arith, below, within)) in
    rw (is, vis) (record {
      run = λ again before. resume_same place.unit.now (world_of place) again c.frames from 0 c.words (take to c.words) _ all.nested (take-take from to c.words up);
      sound = record { nested = all.nested; within = omega (arith, up, long) };
      lighter = omega arith;
      turns = refl;
    })

pub call_done_at : (place : Place) (c : Configuration) (g : Frame) (f : Bor Func) (from to active : ℕ) (flow : Flow) (words : List (Option ℕ)) (v : Option ℕ)
    → g ≡ frame.Call f from to active → words ≡ take to c.words → v ≡ value_of f.now flow
    → IsSound (with_frame c g) → Continues place c g (Finished flow) (record c { words = words; base = from; active = active }) (task.Value v)
call_done_at place c g f from to active flow words v is wis vis sound =
    subst (λ h. IsSound (with_frame c h) → Continues place c h (Finished flow) (record c { words = words; base = from; active = active }) (task.Value v)) (sym is)
    (call_done place c f from to active flow words v wis vis) sound
