-- What the start and the two routines do, from any state.
use Rattle.std.proofs.Common.{◌≡◌, ℕ, zero, suc, ◌+◌, ◌%◌, ◌^◌, ◌<◌, Bool, true, false, cond, ◌||◌, List, [], ◌∷◌, ◌++◌, Option, Some, None, refl, ap, ◌∙◌, arith}
use Rattle.std.specs.Prelude.{slice_get, ◌==◌}
use Rattle.std.proofs.lemmas.Bool.Decides.{nat_tests}
use Rattle.std.proofs.lemmas.Nat.{and_mask}
use Rattle.cp_base.specs.Words.{sum, product, high_part, low_part}
use Rattle.rv_code.specs.declared.machine.RvOutcome.TheVariants.{Ended}
use Rattle.rv_code.specs.declared.assembly.RvName.TheVariants.{Ecall}
use Rattle.rv_code.specs.declared.assembly.Symbol.TheVariants.{Func}
use Rattle.rv_code.specs.declared.assembly.AsmFunction.{AsmFunction}
use Rattle.rv_code.specs.Registers.{x_zero, x_ra, x_t0, x_t1, x_a0, x_a1, x_a2, x_a7}
use Rattle.rv_code.specs.Routines.{entry_code, getchar_code, putchar_code}
use Rattle.rv_code.specs.Loading.{address_of, loaded_from, symbol_address}
use Rattle.rv_code.specs.Machine.{LoadedProgram, Machine, Sticks, read, with_register, with_pc, put_at, store_bytes, load_bytes, goes_on, reads_byte, writes_byte, can_access, executes, obeys, resumes, run}
use Rattle.rv_code.proofs.Runs.{Comes, then_comes, IsHeld, on_goes, on_gives, on_loads, on_stores, on_jumps, on_branches, on_passes, parts_make, sum-zero, later_address, address_is_word, jump_target, jump_target-address_of, fetched-address_of}
use Rattle.rv_code.proofs.Stands.{StandsAt}

-- a register that a routine may change: t1, a0 to a2 and a7
abbrev pub is_scratch : ℕ → Bool
is_scratch r = (r == x_t1) || (r == x_a0) || (r == x_a1) || (r == x_a2) || (r == x_a7)

-- t reads as s does in each register that a routine may not change
abbrev pub Keeps : Machine → Machine → Type 0
Keeps s t = (r : ℕ) → is_scratch r ≡ false → read t r ≡ read s r

keeps-register : (m : Machine) (rd value r : ℕ) → (r == rd) ≡ false → read (with_register m rd value) r ≡ read m r
keeps-register m rd value zero e = refl
keeps-register m rd value (suc r) e = ap (λ b. cond b value (m.registers (suc r))) e

keeps-zero : (m : Machine) (value r : ℕ) → read (with_register m 0 value) r ≡ read m r
keeps-zero m value zero = refl
keeps-zero m value (suc r) = let e : (suc r == 0) ≡ false = grind (arith, nat_tests) in ap (λ b. cond b value (m.registers (suc r))) e

not_scratch : (r rd : ℕ) → is_scratch r ≡ false → is_scratch rd ≡ true → (r == rd) ≡ false
not_scratch r rd h k = grind (arith, nat_tests)

same_number : (a : ℕ) → (a == a) ≡ true
same_number a = grind (arith, nat_tests)

module _ (p : LoadedProgram) (input : List ℕ) (held : IsHeld p) (functions : List AsmFunction) (buffer : ℕ) (T : ℕ) where
  -- the buffer byte's address
  abbrev address : ℕ
  address = sum p.layout.cdata buffer

  address_fits : address < 2 ^ 32
  address_fits = omega arith

  -- a byte, written: it is the low byte of a0 of the caller
  pub record PutsByte (s t : Machine) : Type 0 where
    pub out : t.out ≡ s.out ++ (read s x_a0 % 256) ∷ []
    pub given : read t x_a0 ≡ read s x_a0 % 256
    pub memory : t.memory ≡ put_at s.memory address (read s x_a0 % 256)
    pub taken : t.taken ≡ s.taken
    pub kept : Keeps s t

  module _ (allowed : can_access p address 1 ≡ true) (stands : StandsAt p.code 15 (loaded_from functions p.layout 15 (putchar_code buffer))) where
    pub putchar_runs : (s : Machine) (to : ℕ) → s.pc ≡ address_of p.layout 15 → jump_target (sum (read s x_ra) 0) ≡ to → (t : Machine) × (t.pc ≡ to) × PutsByte s t × Comes p input s T t T
    putchar_runs s to at back = (s10, refl, puts, comes)
      where
        byte : ℕ
        byte = read s x_a0 % 256

        byte_fits : byte < 256
        byte_fits = omega arith

        -- andi t1, a0, 255
        s1 : Machine
        s1 = with_pc (with_register s x_t1 byte) (address_of p.layout 16)

        -- lui a1, %hi(cdata+N); addi a1, a1, %lo(cdata+N)
        s2 : Machine
        s2 = with_pc (with_register s1 x_a1 (product (high_part address) 4096)) (address_of p.layout 17)

        s3 : Machine
        s3 = with_pc (with_register s2 x_a1 address) (address_of p.layout 18)

        -- sb t1, 0(a1)
        s4 : Machine
        s4 = with_pc (record s3 { memory = store_bytes s3.memory address 1 byte }) (address_of p.layout 19)

        -- addi a0, zero, 1; addi a2, zero, 1; addi a7, zero, 64
        s5 : Machine
        s5 = with_pc (with_register s4 x_a0 1) (address_of p.layout 20)

        s6 : Machine
        s6 = with_pc (with_register s5 x_a2 1) (address_of p.layout 21)

        s7 : Machine
        s7 = with_pc (with_register s6 x_a7 64) (address_of p.layout 22)

        -- ecall
        told : Machine
        told = with_register (record s7 { out = s7.out ++ s7.memory address ∷ [] }) x_a0 1

        s8 : Machine
        s8 = with_pc told (address_of p.layout 23)

        -- addi a0, t1, 0
        s9 : Machine
        s9 = with_pc (with_register s8 x_a0 byte) (address_of p.layout 24)

        -- jalr zero, 0(ra)
        s10 : Machine
        s10 = with_pc (with_register s9 x_zero (address_of p.layout 25)) to

        call : executes p input s7 Ecall 0 (read s7 0) (read s7 0) 0 ≡ goes_on told
        call = ap (λ b. cond b (writes_byte s7 address) Sticks) allowed

        comes : Comes p input s T s10 T
        comes =
            then_comes p input s s1 s10 T T T (on_gives p input held T 15 s _ x_t1 _ byte stands.0 at refl (and_mask (read s x_a0) 8))
            (then_comes p input s1 s2 s10 T T T (on_gives p input held T 16 s1 _ x_a1 _ _ stands.1.0 refl refl refl)
            (then_comes p input s2 s3 s10 T T T (on_gives p input held T 17 s2 _ x_a1 _ address stands.1.1.0 refl refl (parts_make address address_fits))
            (then_comes p input s3 s4 s10 T T T (on_stores p input held T 18 s3 _ _ address 1 byte stands.1.1.1.0 refl refl (sum-zero address address_fits) allowed)
            (then_comes p input s4 s5 s10 T T T (on_gives p input held T 19 s4 _ x_a0 _ 1 stands.1.1.1.1.0 refl refl refl)
            (then_comes p input s5 s6 s10 T T T (on_gives p input held T 20 s5 _ x_a2 _ 1 stands.1.1.1.1.1.0 refl refl refl)
            (then_comes p input s6 s7 s10 T T T (on_gives p input held T 21 s6 _ x_a7 _ 64 stands.1.1.1.1.1.1.0 refl refl refl)
            (then_comes p input s7 s8 s10 T T T (on_goes p input held T 22 s7 told _ stands.1.1.1.1.1.1.1.0 refl refl call)
            (then_comes p input s8 s9 s10 T T T (on_gives p input held T 23 s8 _ x_a0 _ byte stands.1.1.1.1.1.1.1.1.0 refl refl (sum-zero byte (omega (arith, byte_fits))))
            (on_jumps p input held T 24 s9 _ x_zero _ to T stands.1.1.1.1.1.1.1.1.1.0 refl refl back (omega arith))))))))))

        -- the byte that was stored
        stored : s7.memory address ≡ byte
        stored = ap (λ b. cond b (byte % 256) (s.memory address)) (same_number address) ∙ omega (arith, byte_fits)

        keeps : Keeps s s10
        keeps r h =
            keeps-zero s9 (address_of p.layout 25) r
            ∙ keeps-register s8 x_a0 byte r (not_scratch r x_a0 h refl)
            ∙ keeps-register (record s7 { out = s7.out ++ s7.memory address ∷ [] }) x_a0 1 r (not_scratch r x_a0 h refl)
            ∙ keeps-register s6 x_a7 64 r (not_scratch r x_a7 h refl)
            ∙ keeps-register s5 x_a2 1 r (not_scratch r x_a2 h refl)
            ∙ keeps-register s4 x_a0 1 r (not_scratch r x_a0 h refl)
            ∙ keeps-register s2 x_a1 address r (not_scratch r x_a1 h refl)
            ∙ keeps-register s1 x_a1 (product (high_part address) 4096) r (not_scratch r x_a1 h refl)
            ∙ keeps-register s x_t1 byte r (not_scratch r x_t1 h refl)

        puts : PutsByte s s10
        puts = record {
          out = ap (λ b. s.out ++ b ∷ []) stored;
          given = refl;
          memory = ap (λ b. put_at s.memory address b) (omega (arith, byte_fits));
          taken = refl;
          kept = keeps;
        }

  -- a byte of the input, which is in a0 afterwards; it is in the buffer too
  pub record GetsByte (s t : Machine) (byte : ℕ) : Type 0 where
    pub given : read t x_a0 ≡ byte % 256
    pub memory : t.memory ≡ put_at s.memory address (byte % 256)
    pub taken : t.taken ≡ s.taken + 1
    pub out : t.out ≡ s.out
    pub kept : Keeps s t

  -- the end of the input: -1 is in a0
  pub record GetsEnd (s t : Machine) : Type 0 where
    pub given : read t x_a0 ≡ 0xffff_ffff
    pub memory : t.memory ≡ s.memory
    pub taken : t.taken ≡ s.taken
    pub out : t.out ≡ s.out
    pub kept : Keeps s t

  module _ (allowed : can_access p address 1 ≡ true) (stands : StandsAt p.code 4 (loaded_from functions p.layout 4 (getchar_code buffer))) where
    module _ (s : Machine) (at : s.pc ≡ address_of p.layout 4) where
      -- addi a0, zero, 0; lui a1, %hi(cdata+N); addi a1, a1, %lo(cdata+N); addi a2, zero, 1; addi a7, zero, 63
      abbrev g1 : Machine
      g1 = with_pc (with_register s x_a0 0) (address_of p.layout 5)

      abbrev g2 : Machine
      g2 = with_pc (with_register g1 x_a1 (product (high_part address) 4096)) (address_of p.layout 6)

      abbrev g3 : Machine
      g3 = with_pc (with_register g2 x_a1 address) (address_of p.layout 7)

      abbrev g4 : Machine
      g4 = with_pc (with_register g3 x_a2 1) (address_of p.layout 8)

      abbrev g5 : Machine
      g5 = with_pc (with_register g4 x_a7 63) (address_of p.layout 9)

      asks : Comes p input s T g5 T
      asks =
          then_comes p input s g1 g5 T T T (on_gives p input held T 4 s _ x_a0 _ 0 stands.0 at refl refl)
          (then_comes p input g1 g2 g5 T T T (on_gives p input held T 5 g1 _ x_a1 _ _ stands.1.0 refl refl refl)
          (then_comes p input g2 g3 g5 T T T (on_gives p input held T 6 g2 _ x_a1 _ address stands.1.1.0 refl refl (parts_make address address_fits))
          (then_comes p input g3 g4 g5 T T T (on_gives p input held T 7 g3 _ x_a2 _ 1 stands.1.1.1.0 refl refl refl)
          (on_gives p input held T 8 g4 _ x_a7 _ 63 stands.1.1.1.1.0 refl refl refl))))

      asks_keep : Keeps s g5
      asks_keep r h =
          keeps-register g4 x_a7 63 r (not_scratch r x_a7 h refl)
          ∙ keeps-register g3 x_a2 1 r (not_scratch r x_a2 h refl)
          ∙ keeps-register g2 x_a1 address r (not_scratch r x_a1 h refl)
          ∙ keeps-register g1 x_a1 (product (high_part address) 4096) r (not_scratch r x_a1 h refl)
          ∙ keeps-register s x_a0 0 r (not_scratch r x_a0 h refl)

      -- the call, by what is left of the input
      asked : (left : Option ℕ) → slice_get input s.taken ≡ left → executes p input g5 Ecall 0 (read g5 0) (read g5 0) 0 ≡ reads_byte g5 left address
      asked left e = ap (λ b. cond b (reads_byte g5 (slice_get input s.taken) address) Sticks) allowed ∙ ap (λ o. reads_byte g5 o address) e

      -- a byte is left: the branch is passed, and the byte is loaded
      pub getchar_runs : (byte to : ℕ) → slice_get input s.taken ≡ Some byte → jump_target (sum (read s x_ra) 0) ≡ to → (t : Machine) × (t.pc ≡ to) × GetsByte s t byte × Comes p input s T t T
      getchar_runs byte to left back = (g9, refl, gets, comes)
        where
          low : ℕ
          low = byte % 256

          got : Machine
          got = with_register (record g5 { memory = put_at s.memory address low; taken = s.taken + 1 }) x_a0 1

          g6 : Machine
          g6 = with_pc got (address_of p.layout 10)

          g7 : Machine
          g7 = with_pc g6 (address_of p.layout 11)

          g8 : Machine
          g8 = with_pc (with_register g7 x_a0 low) (address_of p.layout 12)

          g9 : Machine
          g9 = with_pc (with_register g8 x_zero (address_of p.layout 13)) to

          loaded_byte : load_bytes g7.memory address 1 ≡ low
          loaded_byte = let stored : put_at s.memory address low address ≡ low = ap (λ b. cond b low (s.memory address)) (same_number address) in omega (arith, stored)

          comes : Comes p input s T g9 T
          comes =
              then_comes p input s g5 g9 T T T asks
              (then_comes p input g5 g6 g9 T T T (on_goes p input held T 9 g5 got _ stands.1.1.1.1.1.0 refl refl (asked (Some byte) left))
              (then_comes p input g6 g7 g9 T T T (on_passes p input held T 10 g6 _ false 12 stands.1.1.1.1.1.1.0 refl refl refl)
              (then_comes p input g7 g8 g9 T T T (on_loads p input held T 11 g7 _ x_a0 _ address 1 low (λ w. w) stands.1.1.1.1.1.1.1.0 refl refl (sum-zero address address_fits) allowed loaded_byte)
              (on_jumps p input held T 12 g8 _ x_zero _ to T stands.1.1.1.1.1.1.1.1.0 refl refl back (omega arith)))))

          keeps : Keeps s g9
          keeps r h =
              keeps-zero g8 (address_of p.layout 13) r
              ∙ keeps-register g7 x_a0 low r (not_scratch r x_a0 h refl)
              ∙ keeps-register (record g5 { memory = put_at s.memory address low; taken = s.taken + 1 }) x_a0 1 r (not_scratch r x_a0 h refl)
              ∙ asks_keep r h

          gets : GetsByte s g9 byte
          gets = record { given = refl; memory = refl; taken = refl; out = refl; kept = keeps }

      -- nothing is left: the branch is taken
      pub getchar_ends : (to : ℕ) → slice_get input s.taken ≡ None → jump_target (sum (read s x_ra) 0) ≡ to → (t : Machine) × (t.pc ≡ to) × GetsEnd s t × Comes p input s T t T
      getchar_ends to left back = (g9, refl, gets, comes)
        where
          g6 : Machine
          g6 = with_pc (with_register g5 x_a0 0) (address_of p.layout 10)

          g7 : Machine
          g7 = with_pc g6 (address_of p.layout 13)

          g8 : Machine
          g8 = with_pc (with_register g7 x_a0 0xffff_ffff) (address_of p.layout 14)

          g9 : Machine
          g9 = with_pc (with_register g8 x_zero (address_of p.layout 15)) to

          comes : Comes p input s T g9 T
          comes =
              then_comes p input s g5 g9 T T T asks
              (then_comes p input g5 g6 g9 T T T (on_goes p input held T 9 g5 (with_register g5 x_a0 0) _ stands.1.1.1.1.1.0 refl refl (asked None left))
              (then_comes p input g6 g7 g9 T T T (on_branches p input held T 10 g6 _ true 12 _ T stands.1.1.1.1.1.1.0 refl refl refl (later_address p.layout 10 3) (omega arith))
              (then_comes p input g7 g8 g9 T T T (on_gives p input held T 13 g7 _ x_a0 _ 0xffff_ffff stands.1.1.1.1.1.1.1.1.1.0 refl refl refl)
              (on_jumps p input held T 14 g8 _ x_zero _ to T stands.1.1.1.1.1.1.1.1.1.1.0 refl refl back (omega arith)))))

          keeps : Keeps s g9
          keeps r h =
              keeps-zero g8 (address_of p.layout 15) r
              ∙ keeps-register g7 x_a0 0xffff_ffff r (not_scratch r x_a0 h refl)
              ∙ keeps-register g5 x_a0 0 r (not_scratch r x_a0 h refl)
              ∙ asks_keep r h

          gets : GetsEnd s g9
          gets = record { given = refl; memory = refl; taken = refl; out = refl; kept = keeps }

  module _ (main : ℕ) (stands : StandsAt p.code 0 (loaded_from functions p.layout 0 (entry_code main))) where
    -- the start calls `main`, whose first instruction has this index: sp, the memory, the input and the output are
    -- as they were, and ra is the address of the third instruction
    pub start_runs : (s : Machine) (index : ℕ) → s.pc ≡ address_of p.layout 0 → symbol_address functions p.layout (Func main) ≡ address_of p.layout index
        → Comes p input s T (with_pc (with_register (with_register s x_t0 (product (high_part (address_of p.layout index)) 4096)) x_ra (address_of p.layout 2)) (address_of p.layout index)) T
    start_runs s index at target =
        then_comes p input s e1 _ T T T (on_gives p input held T 0 s _ x_t0 _ (product (high_part to) 4096) stands.0 at refl (ap (λ a. product (high_part a) 4096) target))
        (on_jumps p input held T 1 e1 _ x_ra _ to T stands.1.0 refl refl lands (omega arith))
      where
        to : ℕ
        to = address_of p.layout index

        e1 : Machine
        e1 = with_pc (with_register s x_t0 (product (high_part to) 4096)) (address_of p.layout 1)

        lands : jump_target (sum (product (high_part to) 4096) (low_part (symbol_address functions p.layout (Func main)))) ≡ to
        lands =
            ap (λ a. jump_target (sum (product (high_part to) 4096) (low_part a))) target
            ∙ ap jump_target (parts_make to (address_is_word p.layout index))
            ∙ jump_target-address_of p.layout index held.aligned

    -- and it ends with what is in a0 where `main` has come back
    pub start_ends : (s : Machine) → s.pc ≡ address_of p.layout 2 → (m : ℕ) × (run p input m s ≡ (Ended (read s x_a0 % 256), s.out))
    start_ends s at =
        let first = (on_gives p input held 0 2 s _ x_a7 _ 93 stands.1.1.0 at refl refl).by 1 in
        (first.0, first.2 ∙ ended)
      where
        f1 : Machine
        f1 = with_pc (with_register s x_a7 93) (address_of p.layout 3)

        ended : run p input 1 f1 ≡ (Ended (read s x_a0 % 256), s.out)
        ended = ap (λ o. resumes f1 (obeys p input f1 o) (run p input 0)) (fetched-address_of p held 3 _ stands.1.1.1.0)
