-- From one state the machine comes to another: what emission stands on.
use Rattle.std.proofs.Common.{◌≡◌, ℕ, suc, ◌+◌, ◌-◌, ◌*◌, ◌/◌, ◌%◌, ◌^◌, ◌<◌, ◌≤◌, Bool, true, false, cond, ◌&&◌, List, length, Some, None, refl, ap, ◌∙◌, arith}
use Rattle.std.specs.Prelude.{slice_get, nat_le, ◌==◌}
use Rattle.std.proofs.lemmas.Bool.Decides.{nat_tests}
use Rattle.std.proofs.lemmas.Option.{slice_get_within}
use Rattle.cp_base.specs.declared.layout.Layout.{Layout}
use Rattle.cp_base.specs.Words.{sum, product, high_part, low_part}
use Rattle.rv_code.specs.Loading.{LoadedInstr, address_of}
use Rattle.rv_code.specs.Machine.{LoadedProgram, Machine, Next, Goes, Sticks, read, with_register, with_pc, goes_on, gives, jumps, branches, loads, stores, load_bytes, store_bytes, can_access, executes, fetched, obeys, resumes, run}

-- From s with T turns left the machine comes to t with U turns left: whatever the steps k that follow, some
-- number of steps from s comes to the same, and it is greater than k by at least the turns that were used.
pub record Comes (p : LoadedProgram) (input : List ℕ) (s : Machine) (T : ℕ) (t : Machine) (U : ℕ) : Type 0 where
  pub by : (k : ℕ) → (j : ℕ) × (k + T ≤ j + U) × (run p input j s ≡ run p input k t)

pub stays : (p : LoadedProgram) (input : List ℕ) (s : Machine) (T : ℕ) → Comes p input s T s T
stays p input s T = record { by = λ k. (k, omega arith, refl) }

pub then_comes : (p : LoadedProgram) (input : List ℕ) (s t u : Machine) (S T U : ℕ) → Comes p input s S t T → Comes p input t T u U → Comes p input s S u U
then_comes p input s t u S T U c d = record { by = λ k. let b = d.by k in let a = c.by b.0 in (a.0, omega (arith, a.1, b.1), a.2 ∙ b.2) }

-- one step, which may use a turn
pub one_step : (p : LoadedProgram) (input : List ℕ) (s t : Machine) (T U : ℕ) (i : LoadedInstr) → fetched p s.pc ≡ Some i → executes p input s i.name i.rd (read s i.rs1) (read s i.rs2) i.value ≡ Goes t → T ≤ suc U → Comes p input s T t U
one_step p input s t T U i f e le = record {
  by = λ k. (
    suc k,
    omega (arith, le),
    ap (λ o. resumes s (obeys p input s o) (run p input k)) f ∙ ap (λ n. resumes s n (run p input k)) e,
  );
}

-- the code of a program has its addresses
pub record IsHeld (p : LoadedProgram) : Type 0 where
  pub aligned : p.layout.code % 4 ≡ 0
  pub within : p.layout.code + 4 * length p.code ≤ 2 ^ 32

-- the instruction at an index is fetched at its address
pub fetched-address_of : (p : LoadedProgram) → IsHeld p → (index : ℕ) (i : LoadedInstr) → slice_get p.code index ≡ Some i → fetched p (address_of p.layout index) ≡ Some i
fetched-address_of p held index i e =
    let inside = slice_get_within p.code index i e in
    let exact : (p.layout.code + 4 * index) % 2 ^ 32 ≡ p.layout.code + 4 * index = omega (arith, held.within, inside) in
    ap (fetched p) exact ∙ at (p.layout.code + 4 * index) refl ∙ e
  where
    at : (a : ℕ) → a ≡ p.layout.code + 4 * index → fetched p a ≡ slice_get p.code index
    at a same =
        let aligned = held.aligned in
        let passes : ((a % 4 == 0) && nat_le p.layout.code a) ≡ true = grind (arith, nat_tests) in
        let place : (a - p.layout.code) / 4 ≡ index = omega arith in
        ap (λ b. cond b (slice_get p.code ((a - p.layout.code) / 4)) None) passes ∙ ap (slice_get p.code) place

-- the next instruction's address
pub next_address : (layout : Layout) (index : ℕ) → sum (address_of layout index) 4 ≡ address_of layout (index + 1)
next_address layout index = omega arith

-- the address of an instruction some instructions on
pub later_address : (layout : Layout) (index n : ℕ) → sum (address_of layout index) (4 * n) ≡ address_of layout (index + n)
later_address layout index n = omega arith

-- where `jalr` goes to with this sum: bit 0 is cleared
abbrev pub jump_target : ℕ → ℕ
jump_target a = a - a % 2

-- to the address of an instruction it goes
pub jump_target-address_of : (layout : Layout) (index : ℕ) → layout.code % 4 ≡ 0 → jump_target (address_of layout index) ≡ address_of layout index
jump_target-address_of layout index h = omega (arith, h)

pub sum-zero : (a : ℕ) → a < 2 ^ 32 → sum a 0 ≡ a
sum-zero a h = omega (arith, h)

pub address_is_word : (layout : Layout) (index : ℕ) → address_of layout index < 2 ^ 32
address_is_word layout index = omega arith

-- `lui` and an addition of the low part make the word
pub parts_make : (a : ℕ) → a < 2 ^ 32 → sum (product (high_part a) 4096) (low_part a) ≡ a
parts_make a h = grind (arith, nat_tests)

module _ (p : LoadedProgram) (input : List ℕ) (held : IsHeld p) (T : ℕ) where
  -- The instruction at an index, from a state there. Each lemma is of one class of instructions. It gives the
  -- next state, which stands at the next index, or at a target.

  -- what the class is, by what the instruction does
  abbrev Does : (s : Machine) → LoadedInstr → Next → Type 0
  Does s i next = executes p input s i.name i.rd (read s i.rs1) (read s i.rs2) i.value ≡ next

  fetched_at : (index : ℕ) (s : Machine) (i : LoadedInstr) → slice_get p.code index ≡ Some i → s.pc ≡ address_of p.layout index → fetched p s.pc ≡ Some i
  fetched_at index s i there at = ap (fetched p) at ∙ fetched-address_of p held index i there

  -- on to the next instruction, from what has become of the state
  pub on_goes : (index : ℕ) (s u : Machine) (i : LoadedInstr) → slice_get p.code index ≡ Some i → s.pc ≡ address_of p.layout index → u.pc ≡ s.pc → Does s i (goes_on u) → Comes p input s T (with_pc u (address_of p.layout (index + 1))) T
  on_goes index s u i there at same e =
      let next : sum u.pc 4 ≡ address_of p.layout (index + 1) = ap (λ a. sum a 4) (same ∙ at) ∙ next_address p.layout index in
      one_step p input s _ T T i (fetched_at index s i there at) (e ∙ ap (λ a. Goes (with_pc u a)) next) (omega arith)

  -- a value into a register
  pub on_gives : (index : ℕ) (s : Machine) (i : LoadedInstr) (rd v w : ℕ) → slice_get p.code index ≡ Some i → s.pc ≡ address_of p.layout index → Does s i (gives s rd v) → v ≡ w → Comes p input s T (with_pc (with_register s rd w) (address_of p.layout (index + 1))) T
  on_gives index s i rd v w there at e value = on_goes index s (with_register s rd w) i there at refl (e ∙ ap (gives s rd) value)

  -- a value from memory, where the access is allowed
  pub on_loads : (index : ℕ) (s : Machine) (i : LoadedInstr) (rd address from size w : ℕ) (extended : ℕ → ℕ) → slice_get p.code index ≡ Some i → s.pc ≡ address_of p.layout index → Does s i (loads p s rd address size extended) → address ≡ from → can_access p from size ≡ true → extended (load_bytes s.memory from size) ≡ w → Comes p input s T (with_pc (with_register s rd w) (address_of p.layout (index + 1))) T
  on_loads index s i rd address from size w extended there at e same allowed value =
      on_goes index s (with_register s rd w) i there at refl
      (e ∙ ap (λ a. loads p s rd a size extended) same ∙ ap (λ b. cond b (gives s rd (extended (load_bytes s.memory from size))) Sticks) allowed ∙ ap (gives s rd) value)

  -- a value to memory, where the access is allowed
  pub on_stores : (index : ℕ) (s : Machine) (i : LoadedInstr) (address to size value : ℕ) → slice_get p.code index ≡ Some i → s.pc ≡ address_of p.layout index → Does s i (stores p s address size value) → address ≡ to → can_access p to size ≡ true → Comes p input s T (with_pc (record s { memory = store_bytes s.memory to size value }) (address_of p.layout (index + 1))) T
  on_stores index s i address to size value there at e same allowed =
      on_goes index s (record s { memory = store_bytes s.memory to size value }) i there at refl
      (e ∙ ap (λ a. stores p s a size value) same ∙ ap (λ b. cond b (goes_on (record s { memory = store_bytes s.memory to size value })) Sticks) allowed)

  -- a jump, which may use a turn
  pub on_jumps : (index : ℕ) (s : Machine) (i : LoadedInstr) (rd target to U : ℕ) → slice_get p.code index ≡ Some i → s.pc ≡ address_of p.layout index → Does s i (jumps s rd target) → target ≡ to → T ≤ suc U → Comes p input s T (with_pc (with_register s rd (address_of p.layout (index + 1))) to) U
  on_jumps index s i rd target to U there at e same le =
      let link : sum s.pc 4 ≡ address_of p.layout (index + 1) = ap (λ a. sum a 4) at ∙ next_address p.layout index in
      one_step p input s _ T U i (fetched_at index s i there at)
      (e ∙ ap (λ a. Goes (with_pc (with_register s rd a) target)) link ∙ ap (λ a. Goes (with_pc (with_register s rd (address_of p.layout (index + 1))) a)) same) le

  -- a branch that is taken
  pub on_branches : (index : ℕ) (s : Machine) (i : LoadedInstr) (test : Bool) (distance to U : ℕ) → slice_get p.code index ≡ Some i → s.pc ≡ address_of p.layout index → Does s i (branches s test distance) → test ≡ true → sum s.pc distance ≡ to → T ≤ suc U → Comes p input s T (with_pc s to) U
  on_branches index s i test distance to U there at e taken same le =
      one_step p input s _ T U i (fetched_at index s i there at)
      (e ∙ ap (λ b. cond b (Goes (with_pc s (sum s.pc distance))) (goes_on s)) taken ∙ ap (λ a. Goes (with_pc s a)) same) le

  -- a branch that is not taken
  pub on_passes : (index : ℕ) (s : Machine) (i : LoadedInstr) (test : Bool) (distance : ℕ) → slice_get p.code index ≡ Some i → s.pc ≡ address_of p.layout index → Does s i (branches s test distance) → test ≡ false → Comes p input s T (with_pc s (address_of p.layout (index + 1))) T
  on_passes index s i test distance there at e passed =
      on_goes index s s i there at refl (e ∙ ap (λ b. cond b (Goes (with_pc s (sum s.pc distance))) (goes_on s)) passed)
