-- The machine runs the assembly of a unit of the first form: it writes the bytes and ends with the status.
use Rattle.std.proofs.Common.{◌≡◌, ℕ, ◌+◌, ◌-◌, ◌%◌, ◌^◌, ◌<◌, ◌≤◌, ◌⊎◌, inl, inr, true, cond, List, [], ◌∷◌, ◌++◌, refl, sym, ap, ◌∙◌, subst, ⊎_elim, arith, lit<, append_assoc}
use Rattle.std.specs.List.{AllByRecursion, flat_map}
use Rattle.std.proofs.lemmas.Bool.{cases_lt}
use Rattle.std.proofs.lemmas.List.{append-nil}
use Rattle.std.proofs.lemmas.List.Concat.{flat_map-cons}
use Rattle.cp_base.specs.declared.layout.Layout.{Layout}
use Rattle.cp_base.specs.Words.{sum, product, high_part, low_part}
use Rattle.cp_base.proofs.HoldsTest.{test-Holds}
use Rattle.rv_code.specs.declared.machine.RvOutcome.TheVariants.{Ended, Stuck}
use Rattle.rv_code.specs.declared.assembly.AsmUnit.{AsmUnit}
use Rattle.rv_code.specs.Sizes.{data_size}
use Rattle.rv_code.specs.Registers.{x_zero, x_ra, x_sp, x_t0, x_a0}
use Rattle.rv_code.specs.Places.{instrs_of}
use Rattle.rv_code.specs.Loading.{address_of, loaded_from, HoldsUnit, code_size}
use Rattle.rv_code.specs.Machine.{LoadedProgram, loaded, Machine, read, with_register, with_pc, load_bytes, store_bytes, can_access, first_state, run, rv_run, IsRunFrom}
use Rattle.rv_code.proofs.Runs.{Comes, stays, then_comes, IsHeld, on_gives, on_loads, on_stores, on_jumps, parts_make, sum-zero, address_is_word, jump_target, jump_target-address_of}
use Rattle.rv_code.proofs.Stands.{StandsAt}
use Rattle.rv_code.proofs.MemoryLaws.{load_bytes-store_bytes, load_bytes-put_at}
use Rattle.rv_code.proofs.UnitStands.{entry_stands, putchar_stands, function_stands, unit_is_held, data_is_accessible, stack_is_accessible}
use Rattle.rv_code.proofs.RunLaws.{ended_stays}
use Rattle.rv_code.proofs.RoutineRuns.{putchar_runs, PutsByte, start_runs, start_ends}
use Rattle.cp_first.specs.FirstForm.{IsByte}
use Rattle.cp_first.specs.FirstUnit.{lines_of, call_code, tail_code, main_lines, main_function, first_unit}

-- the instructions of the calls, and of what follows them
instrs_of-calls : (ns : List ℕ) (s : ℕ) → instrs_of (flat_map (λ n. lines_of (call_code n)) ns ++ lines_of (tail_code s)) ≡ flat_map call_code ns ++ tail_code s
instrs_of-calls [] s = refl
instrs_of-calls (n ∷ ns) s =
    ap (λ lines. instrs_of (lines ++ lines_of (tail_code s))) (flat_map-cons (λ m. lines_of (call_code m)) n ns)
    ∙ ap (λ code. call_code n ++ code) (instrs_of-calls ns s)
    ∙ sym (append_assoc (call_code n) (flat_map call_code ns) (tail_code s))
    ∙ ap (λ code. code ++ tail_code s) (sym (flat_map-cons call_code n ns))

module _ (bytes : List ℕ) (s : ℕ) (layout : Layout) (holds : HoldsUnit layout (first_unit bytes s)) (room : 16 ≤ layout.stack) (first_stack : ℕ → ℕ) (input : List ℕ) where
  abbrev asm : AsmUnit
  asm = first_unit bytes s

  abbrev p : LoadedProgram
  p = loaded asm layout

  held : IsHeld p
  held = unit_is_held asm layout holds

  -- where `main` keeps the return address: 16 bytes below the top
  abbrev saved : ℕ
  saved = layout.top - 16

  abbrev buffer : ℕ
  buffer = sum layout.cdata 0

  saved_access : can_access p saved 4 ≡ true
  saved_access =
      let aligned = holds.aligned.top.aligned in
      let below = holds.stack_below_top in
      stack_is_accessible asm layout holds saved (omega (arith, aligned, below, room)) (omega (arith, below, room)) (omega (arith, below, room))

  buffer_access : can_access p buffer 1 ≡ true
  buffer_access = data_is_accessible asm layout holds 0 (lit< tt)

  top_is_word : (layout.top < 2 ^ 32) × (16 ≤ layout.top)
  top_is_word = let word = holds.aligned.top.word in let below = holds.stack_below_top in (word, omega (arith, below, room))

  saved_fits : saved < 2 ^ 32
  saved_fits = omega (arith, top_is_word.0)

  -- the buffer byte is not among the four saved bytes
  beside : (buffer < saved) ⊎ (saved + 4 ≤ buffer)
  beside = ⊎_elim (λ lt. inl lt) (λ from. ⊎_elim (λ lt. absurd (meets from lt)) (λ past. inr past) (cases_lt buffer (saved + 4))) (cases_lt buffer saved)
    where
      meets : saved ≤ buffer → buffer < saved + 4 → ⊥
      meets from to =
          let word = holds.aligned.cdata.word in
          let below = holds.stack_below_top in
          let same : buffer ≡ layout.cdata = omega (arith, word) in
          holds.apart.second_third layout.cdata
          (record { from = omega arith; below = omega arith })
          (record { from = omega (arith, from, same, below, room); below = omega (arith, to, same, below, room) })

  -- in `main`, at an index, after some bytes were written
  record InMain (t : Machine) (index : ℕ) (written : List ℕ) : Type 0 where
    at : t.pc ≡ address_of layout index
    sp : read t x_sp ≡ saved
    link : load_bytes t.memory saved 4 ≡ address_of layout 2
    out : t.out ≡ written

  -- the address of the routine that writes, out of its two parts
  abbrev routine : ℕ
  routine = address_of layout 15

  -- one call of it
  call_runs : (t : Machine) (index n : ℕ) (written : List ℕ) → IsByte n → InMain t index written → StandsAt p.code index (loaded_from asm.functions layout index (call_code n)) → (u : Machine) × InMain u (index + 1 + 1 + 1) (written ++ n ∷ []) × Comes p input t 0 u 0
  call_runs t index n written byte in_main stands = (u.0, in_main_again, comes)
    where
      back : ℕ
      back = address_of layout (index + 1 + 1 + 1)

      c1 : Machine
      c1 = with_pc (with_register t x_a0 n) (address_of layout (index + 1))

      c2 : Machine
      c2 = with_pc (with_register c1 x_t0 (product (high_part routine) 4096)) (address_of layout (index + 1 + 1))

      c3 : Machine
      c3 = with_pc (with_register c2 x_ra back) routine

      returns : jump_target (sum back 0) ≡ back
      returns = ap jump_target (sum-zero back (address_is_word layout (index + 1 + 1 + 1))) ∙ jump_target-address_of layout (index + 1 + 1 + 1) held.aligned

      lands : jump_target (sum (product (high_part routine) 4096) (low_part routine)) ≡ routine
      lands = ap jump_target (parts_make routine (address_is_word layout 15)) ∙ jump_target-address_of layout 15 held.aligned

      u : (v : Machine) × (v.pc ≡ back) × PutsByte p input held asm.functions 0 0 c3 v × Comes p input c3 0 v 0
      u = putchar_runs p input held asm.functions 0 0 buffer_access (putchar_stands asm layout) c3 back refl returns

      calls : Comes p input t 0 c3 0
      calls =
          then_comes p input t c1 c3 0 0 0 (on_gives p input held 0 index t _ x_a0 _ n stands.0 in_main.at refl (omega (arith, byte)))
          (then_comes p input c1 c2 c3 0 0 0 (on_gives p input held 0 (index + 1) c1 _ x_t0 _ _ stands.1.0 refl refl refl)
          (on_jumps p input held 0 (index + 1 + 1) c2 _ x_ra _ routine 0 stands.1.1.0 refl refl lands (omega arith)))

      comes : Comes p input t 0 u.0 0
      comes = then_comes p input t c3 u.0 0 0 0 calls u.3

      low : n % 256 ≡ n
      low = omega (arith, byte)

      in_main_again : InMain u.0 (index + 1 + 1 + 1) (written ++ n ∷ [])
      in_main_again = record {
        at = u.1;
        sp = u.2.kept x_sp refl ∙ in_main.sp;
        link = ap (λ memory. load_bytes memory saved 4) u.2.memory ∙ load_bytes-put_at t.memory buffer (n % 256) saved 4 beside ∙ in_main.link;
        out = u.2.out ∙ ap (λ b. t.out ++ b ∷ []) low ∙ ap (λ before. before ++ n ∷ []) in_main.out;
      }

  -- the calls, up to what follows them
  record AtTail (t : Machine) (written : List ℕ) : Type 0 where
    state : Machine
    index : ℕ
    in_main : InMain state index written
    stands : StandsAt p.code index (loaded_from asm.functions layout index (tail_code s))
    comes : Comes p input t 0 state 0

  calls_run : (ns : List ℕ) (t : Machine) (index : ℕ) (written : List ℕ) → AllByRecursion IsByte ns → InMain t index written → StandsAt p.code index (loaded_from asm.functions layout index (flat_map call_code ns ++ tail_code s)) → AtTail t (written ++ ns)
  calls_run [] t index written h in_main stands = record {
    state = t;
    index = index;
    in_main = subst (InMain t index) (sym (append-nil written)) in_main;
    stands = stands;
    comes = stays p input t 0;
  }
  calls_run (n ∷ ns) t index written h in_main stands =
      let code : flat_map call_code (n ∷ ns) ++ tail_code s ≡ call_code n ++ (flat_map call_code ns ++ tail_code s) = ap (λ c. c ++ tail_code s) (flat_map-cons call_code n ns) ∙ append_assoc (call_code n) (flat_map call_code ns) (tail_code s) in
      let here = subst (λ c. StandsAt p.code index (loaded_from asm.functions layout index c)) code stands in
      let one = call_runs t index n written h.0 in_main (here.0, (here.1.0, (here.1.1.0, tt))) in
      let rest = calls_run ns one.0 (index + 1 + 1 + 1) (written ++ n ∷ []) h.1 one.1 here.1.1.1 in
      record {
        state = rest.state;
        index = rest.index;
        in_main = subst (InMain rest.state rest.index) (append_assoc written (n ∷ []) ns) rest.in_main;
        stands = rest.stands;
        comes = then_comes p input t one.0 rest.state 0 0 0 one.2 rest.comes;
      }

  -- up to the first call
  head_runs : (t : Machine) × InMain t 27 [] × Comes p input (first_state p first_stack) 0 t 0
  head_runs = (h2, in_main, comes)
    where
      start : Machine
      start = first_state p first_stack

      entered : Machine
      entered = with_pc (with_register (with_register start x_t0 (product (high_part (address_of layout 25)) 4096)) x_ra (address_of layout 2)) (address_of layout 25)

      h1 : Machine
      h1 = with_pc (with_register entered x_sp saved) (address_of layout 26)

      h2 : Machine
      h2 = with_pc (record h1 { memory = store_bytes h1.memory saved 4 (address_of layout 2) }) (address_of layout 27)

      stands : StandsAt p.code 25 (loaded_from asm.functions layout 25 (instrs_of (main_lines bytes s)))
      stands = function_stands asm layout 0 (main_function bytes s) refl

      starts : start.pc ≡ address_of layout 0
      starts = let word = holds.aligned.code.word in omega (arith, word)

      down : sum layout.top 4294967280 ≡ saved
      down = omega (arith, top_is_word.0, top_is_word.1)

      comes : Comes p input start 0 h2 0
      comes =
          then_comes p input start entered h2 0 0 0 (start_runs p input held asm.functions 0 0 0 (entry_stands asm layout) start 25 starts refl)
          (then_comes p input entered h1 h2 0 0 0 (on_gives p input held 0 25 entered _ x_sp _ saved stands.0 refl refl down)
          (on_stores p input held 0 26 h1 _ _ saved 4 (address_of layout 2) stands.1.0 refl refl (sum-zero saved saved_fits) saved_access))

      in_main : InMain h2 27 []
      in_main = record {
        at = refl;
        sp = refl;
        link = load_bytes-store_bytes h1.memory saved 4 (address_of layout 2) (address_is_word layout 2);
        out = refl;
      }

  -- from the return on
  tail_runs : (t : Machine) (index : ℕ) → IsByte s → InMain t index bytes → StandsAt p.code index (loaded_from asm.functions layout index (tail_code s)) → (m : ℕ) × (run p input m t ≡ (Ended s, bytes))
  tail_runs t index byte in_main stands =
      let ends = start_ends p input held asm.functions 0 0 0 (entry_stands asm layout) t4 refl in
      let all = comes.by ends.0 in
      (all.0, all.2 ∙ ends.1 ∙ ap (λ status. (Ended status, t.out)) (omega (arith, byte)) ∙ ap (λ out. (Ended s, out)) in_main.out)
    where
      t1 : Machine
      t1 = with_pc (with_register t x_a0 s) (address_of layout (index + 1))

      t2 : Machine
      t2 = with_pc (with_register t1 x_ra (address_of layout 2)) (address_of layout (index + 1 + 1))

      t3 : Machine
      t3 = with_pc (with_register t2 x_sp (sum (read t x_sp) 16)) (address_of layout (index + 1 + 1 + 1))

      t4 : Machine
      t4 = with_pc (with_register t3 x_zero (address_of layout (index + 1 + 1 + 1 + 1))) (address_of layout 2)

      returns : jump_target (sum (address_of layout 2) 0) ≡ address_of layout 2
      returns = ap jump_target (sum-zero (address_of layout 2) (address_is_word layout 2)) ∙ jump_target-address_of layout 2 held.aligned

      comes : Comes p input t 0 t4 0
      comes =
          then_comes p input t t1 t4 0 0 0 (on_gives p input held 0 index t _ x_a0 _ s stands.0 in_main.at refl (omega (arith, byte)))
          (then_comes p input t1 t2 t4 0 0 0 (on_loads p input held 0 (index + 1) t1 _ x_ra _ saved 4 (address_of layout 2) (λ w. w) stands.1.0 refl refl (ap (λ a. sum a 0) in_main.sp ∙ sum-zero saved saved_fits) saved_access in_main.link)
          (then_comes p input t2 t3 t4 0 0 0 (on_gives p input held 0 (index + 1 + 1) t2 _ x_sp _ _ stands.1.1.0 refl refl refl)
          (on_jumps p input held 0 (index + 1 + 1 + 1) t3 _ x_zero _ (address_of layout 2) 0 stands.1.1.1.0 refl refl returns (omega arith))))

  -- the whole run
  ended : AllByRecursion IsByte bytes → IsByte s → (m : ℕ) × (rv_run asm layout first_stack input m ≡ (Ended s, bytes))
  unfolding rv_run
  ended h byte =
      let body = subst (λ code. StandsAt p.code 27 (loaded_from asm.functions layout 27 code)) (instrs_of-calls bytes s) (function_stands asm layout 0 (main_function bytes s) refl).1.1 in
      let calls = calls_run bytes head_runs.0 27 [] h head_runs.1 body in
      let ends = tail_runs calls.state calls.index byte calls.in_main calls.stands in
      let all = (then_comes p input (first_state p first_stack) head_runs.0 calls.state 0 0 0 head_runs.2 calls.comes).by ends.0 in
      (all.0, ap (λ b. cond b (run p input all.0 (first_state p first_stack)) (Stuck layout.code, [])) (test-Holds layout (code_size asm) (data_size asm.items) holds) ∙ all.2 ∙ ends.1)

  pub first_unit_runs : AllByRecursion IsByte bytes → IsByte s → (steps : ℕ) × IsRunFrom asm layout first_stack input steps (Ended s, bytes)
  first_unit_runs h byte =
      let done = ended h byte in
      (done.0, ended_stays asm layout first_stack input done.0 s bytes done.1)
