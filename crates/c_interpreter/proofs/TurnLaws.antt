-- Turns and calls.
use Rattle.std.proofs.Common.{◌≡◌, ℕ, zero, suc, ◌-◌, ◌<◌, true, false, nat_lt, List, [], ◌∷◌, ◌++◌, length, take, drop, reverse, map, replicate, Option, Some, None, refl, sym, ap, ap₂, ◌∙◌, arith, append_assoc, length-append, le_refl}
use Rattle.std.specs.Borrow.{Bor}
use Rattle.std.proofs.Math.Seq.{take-append_seam, drop-append_seam}
use Rattle.std.proofs.lemmas.List.{take-append-le, length-reverse}
use Rattle.run_model.specs.declared.outcome.Outcome.TheVariants.{Running, Deep}
use Rattle.run_model.specs.Stores.{World}
use Rattle.c_types.specs.declared.tree.Func.{Func}
use Rattle.c_types.specs.declared.tree.Stmt.{Stmt}
use Rattle.c_types.specs.declared.tree.Unit.{Unit as Whole}
use Rattle.c_meaning.specs.Steps.{State, Result, Gives, Stops, Step, and_then, pure, stop, choice, turn_of}
use Rattle.c_meaning.specs.Meaning.{Flow, left, entered, first_locals, exec, call_body, at_turn}
use Rattle.c_meaning.proofs.RunLaws.{statement_bound}
use Rattle.c_interpreter.specs.declared.frame.Frame.{Frame}
use Rattle.c_interpreter.specs.declared.frame.Frame.TheVariants as frame
use Rattle.c_interpreter.specs.declared.frame.Task.TheVariants as task
use Rattle.c_interpreter.specs.declared.machine.Place.{Place}
use Rattle.c_interpreter.specs.Machine.{Signal, Gave, Finished, Configuration, state_of, IsSound, continue_with, resume, ends, Nested, span_of}
use Rattle.c_interpreter.specs.Leading.{Advances, world_of}
use Rattle.c_interpreter.proofs.Resume.{resume_push, nested_map}
use Rattle.c_interpreter.proofs.Locals.{resume_same}

-- a statement goes on from a turn as a run of it does
turn_here : (u : Whole) (w : World) (bound : ℕ) (st : Stmt) (s : State) → s.store.turns < bound → at_turn u w bound st s ≡ exec u w (at_turn u w bound) st s
unfolding at_turn
turn_here u w zero st s few = absurd (omega (arith, few))
turn_here u w (suc bound) st s few = statement_bound u w bound (suc bound) st s (omega (arith, few)) (omega (arith, few))

finished : Result Flow → Result Signal
finished r = and_then r (λ flow. pure (Finished flow))

gave : Result (Option ℕ) → Result Signal
gave r = and_then r (λ v. pure (Gave v))

module _ (place : Place) (c : Configuration) (sound : IsSound c) where
  abbrev u : Whole
  u = place.unit.now

  abbrev w : World
  w = world_of place

  pub no_turn : (st : Bor Stmt) → c.turns ≡ 0 → Advances place c (task.Turn st) c (task.Stop Running)
  no_turn st none = record {
    run = λ bound before few. ap (resume u w (at_turn u w bound) c.words c.frames)
        (sym (ap (λ n. and_then (turn_of n (at_turn u w bound st.now) (state_of before c)) (λ flow. pure (Finished flow))) none));
    sound = sound;
    turns = refl;
  }

  pub turn_taken : (st : Bor Stmt) (n : ℕ) → c.turns ≡ suc n → Advances place c (task.Turn st) (record c { turns = n }) (task.Stmt st)
  turn_taken st n some = record {
    run = λ bound before few. ap (resume u w (at_turn u w bound) c.words c.frames)
        (ap (λ r. and_then r (λ flow. pure (Finished flow))) (sym (turn_here u w bound st.now (state_of before (record c { turns = n })) (omega (arith, few, some))))
        ∙ sym (ap (λ n. and_then (turn_of n (at_turn u w bound st.now) (state_of before c)) (λ flow. pure (Finished flow))) some));
    sound = record { nested = sound.nested; within = sound.within };
    turns = omega (arith, some);
  }

  pub too_deep : (f : Bor Func) → nat_lt c.active place.depth ≡ false → Advances place c (task.Call f) c (task.Stop Deep)
  too_deep f deep = record {
    run = λ bound before few. ap (resume u w (at_turn u w bound) c.words c.frames)
        (sym (ap (λ b. and_then (choice b (call_body u w (at_turn u w bound) f.now (reverse c.arguments)) (stop Deep) (state_of before c)) (λ v. pure (Gave v))) deep));
    sound = sound;
    turns = refl;
  }

  pub no_turn_call : (f : Bor Func) → nat_lt c.active place.depth ≡ true → c.turns ≡ 0 → Advances place c (task.Call f) c (task.Stop Running)
  no_turn_call f allowed none = record {
    run = λ bound before few. ap (resume u w (at_turn u w bound) c.words c.frames)
        (sym (ap (λ b. and_then (choice b (call_body u w (at_turn u w bound) f.now (reverse c.arguments)) (stop Deep) (state_of before c)) (λ v. pure (Gave v))) allowed
        ∙ ap (λ n. and_then (turn_of n (λ t. left f.now t (at_turn u w bound f.now.body (entered f.now (reverse c.arguments) t))) (state_of before c)) (λ v. pure (Gave v))) none));
    sound = sound;
    turns = refl;
  }

  -- the locals of the function stand behind those of its caller
  abbrev pub entered_at : Bor Func → ℕ → List ℕ → Configuration
  entered_at f n arguments = record c {
    frames = c.frames ++ frame.Call f c.base (length c.words) c.active ∷ [];
    words = c.words ++ first_locals f.now (reverse c.arguments);
    base = length c.words;
    arguments = arguments;
    turns = n;
    active = suc c.active;
  }

  nested_call : (fs : List Frame) (f : Bor Func) (active low : ℕ) → Nested fs c.base low → Nested (fs ++ frame.Call f c.base (length c.words) active ∷ []) (length c.words) low
  nested_call [] f active low h = (h, sound.within, le_refl (length c.words))
  nested_call (g ∷ fs) f active low h =
      nested_map (span_of g) (Nested fs c.base) (Nested (fs ++ frame.Call f c.base (length c.words) active ∷ []) (length c.words)) low (λ n. nested_call fs f active n) h

  ended : (f : Bor Func) (words : List (Option ℕ)) (again : Stmt → Step Flow) (caller : State) (active : ℕ)
      → drop c.base (take (length c.words) words) ≡ caller.locals → active ≡ caller.store.active → (r : Result Flow)
      → and_then (and_then r (λ flow. pure (Finished flow))) (continue_with u w again words (frame.Call f c.base (length c.words) active))
      ≡ and_then (left f.now caller r) (λ v. pure (Gave v))
  ended f words again caller active locals act (Gives flow s) = rw (locals, act) refl
  ended f words again caller active locals act (Stops outcome last) = refl

  pub call_entered : (f : Bor Func) (body : Bor Stmt) (n : ℕ) (arguments : List ℕ) → body.now ≡ f.now.body → nat_lt c.active place.depth ≡ true → c.turns ≡ suc n
      → Advances place c (task.Call f) (entered_at f n arguments) (task.Stmt body)
  call_entered f body n arguments bis allowed some = record {
    run = λ bound before few.
        let again = at_turn u w bound in
        let d = entered_at f n arguments in
        let args = reverse c.arguments in
        let t : State = state_of before (record c { turns = n }) in
        let seam : drop (length c.words) d.words ≡ first_locals f.now args = drop-append_seam c.words (first_locals f.now args) in
        let state_is : state_of before d ≡ entered f.now args t = ap (λ locals. record (state_of before d) { locals = locals }) seam in
        let caller_is : drop c.base (take (length c.words) d.words) ≡ t.locals = ap (drop c.base) (take-append_seam c.words (first_locals f.now args)) in
        let base_is : take c.base d.words ≡ take c.base c.words = take-append-le c.base c.words (first_locals f.now args) sound.within in
        resume_push u w again d.words c.frames (frame.Call f c.base (length c.words) c.active) (ends (exec u w again body.now) (state_of before d))
        ∙ ap (resume u w again d.words c.frames) (ended f d.words again t c.active caller_is refl (exec u w again body.now (state_of before d)))
        ∙ resume_same u w again c.frames c.base 0 c.words d.words _ sound.nested base_is
        ∙ ap (λ r. resume u w again c.words c.frames (and_then (left f.now t r) (λ v. pure (Gave v))))
        (ap₂ (λ st s. exec u w again st s) bis state_is ∙ sym (turn_here u w bound f.now.body (entered f.now args t) (omega (arith, few, some))))
        ∙ ap (resume u w again c.words c.frames)
        (sym (ap (λ b. and_then (choice b (call_body u w again f.now args) (stop Deep) (state_of before c)) (λ v. pure (Gave v))) allowed
        ∙ ap (λ m. and_then (turn_of m (λ t. left f.now t (again f.now.body (entered f.now args t))) (state_of before c)) (λ v. pure (Gave v))) some));
    sound = record { nested = nested_call c.frames f c.active 0 sound.nested; within = omega (arith, length-append c.words (first_locals f.now (reverse c.arguments))) };
    turns = omega (arith, some);
  }

  pub call_entered_at : (f : Bor Func) (body : Bor Stmt) (n base active : ℕ) (arguments : List ℕ) (frames : List Frame) (words : List (Option ℕ))
      → body.now ≡ f.now.body → nat_lt c.active place.depth ≡ true → c.turns ≡ suc n → base ≡ length c.words → active ≡ suc c.active
      → frames ≡ c.frames ++ frame.Call f c.base base c.active ∷ []
      → words ≡ (c.words ++ map Some (reverse c.arguments)) ++ replicate (f.now.locals - length c.arguments) None
      → Advances place c (task.Call f) (record { frames = frames; words = words; base = base; arguments = arguments; bytes = c.bytes; taken = c.taken; out = c.out; turns = n; active = active }) (task.Stmt body)
  call_entered_at f body n base active arguments frames words bis allowed some base_is active_is frames_is words_is =
      let long : length (reverse c.arguments) ≡ length c.arguments = length-reverse c.arguments in
      let words_are : words ≡ c.words ++ first_locals f.now (reverse c.arguments) =
      words_is ∙ append_assoc c.words (map Some (reverse c.arguments)) (replicate (f.now.locals - length c.arguments) None)
      ∙ ap (λ m. c.words ++ (map Some (reverse c.arguments) ++ replicate (f.now.locals - m) None)) (sym long) in
      let frames_are : frames ≡ c.frames ++ frame.Call f c.base (length c.words) c.active ∷ [] =
      frames_is ∙ ap (λ m. c.frames ++ frame.Call f c.base m c.active ∷ []) base_is in
      rw (words_are, frames_are, base_is, active_is) (call_entered f body n arguments bis allowed some)
