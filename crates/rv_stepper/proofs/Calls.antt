-- The environment call, by the state of the stepper.
use Rattle.std.proofs.Common.{◌≡◌, ℕ, zero, suc, Bool, true, false, Option, Some, None, arith, List, length, refl, ap, ◌∙◌}
use Rattle.std.specs.Prelude.{slice_get, slice_index, ◌==◌, ◌&&◌, ◌%◌, if◌then◌else◌}
use Rattle.std.proofs.lemmas.Bool.Decides.{nat_tests}
use Rattle.rv_code.specs.Registers.{x_a0, x_a1, x_a2, x_a7}
use Rattle.rv_code.specs.Machine.{LoadedProgram, Machine, Next, Ends, Sticks, read, reads_byte, writes_byte, environment_call}
use Rattle.rv_stepper.specs.declared.state.State.{State}
use Rattle.rv_stepper.specs.Space.{Space, memory_of, may_access}
use Rattle.rv_stepper.specs.States.{machine_of, is_called, word_of_register, Reaches}

pub read_is : (s : State) (out : List ℕ) (r : ℕ) → word_of_register s.registers r ≡ read (machine_of s out) r
read_is s out zero = refl
read_is s out (suc r) = refl

pub reaches_access : (p : LoadedProgram) (space : Space) (a n : ℕ) → Reaches p space → may_access p.layout (length p.bytes) a n ≡ may_access space.layout space.size a n
reaches_access p space a n r = ap (λ l. may_access l (length p.bytes) a n) r.layout ∙ ap (λ m. may_access space.layout m a n) r.size

-- the call, by whether its byte may be accessed
by_access : List ℕ → Machine → Bool → Next
by_access input m b =
    if (read m x_a7 == 63) && (read m x_a0 == 0) && (read m x_a2 == 1) && b
    then reads_byte m (slice_get input m.taken) (read m x_a1)
    else if (read m x_a7 == 64) && (read m x_a0 == 1) && (read m x_a2 == 1) && b
    then writes_byte m (read m x_a1)
    else if read m x_a7 == 93
    then Ends (read m x_a0 % 256)
    else Sticks

-- the call, by the tests of the stepper
by_tests : List ℕ → State → List ℕ → Bool → Bool → Bool → Next
by_tests input s out reads writes exits =
    if reads then reads_byte (machine_of s out) (slice_get input s.taken) (slice_index s.registers x_a1)
    else if writes then writes_byte (machine_of s out) (slice_index s.registers x_a1)
    else if exits then Ends (slice_index s.registers x_a0 % 256)
    else Sticks

call_is : (p : LoadedProgram) (input : List ℕ) (s : State) (out : List ℕ) → Reaches p s.memory → environment_call p input (machine_of s out) ≡ by_tests input s out (is_called s 63 0) (is_called s 64 1) (slice_index s.registers x_a7 == 93)
unfolding by_access by_tests
call_is p input s out r = ap (by_access input (machine_of s out)) (reaches_access p s.memory (slice_index s.registers x_a1) 1 r)

pub call_reads : (p : LoadedProgram) (input : List ℕ) (s : State) (out : List ℕ) → Reaches p s.memory → is_called s 63 0 ≡ true → environment_call p input (machine_of s out) ≡ reads_byte (machine_of s out) (slice_get input s.taken) (slice_index s.registers x_a1)
unfolding by_tests
call_reads p input s out r e = call_is p input s out r ∙ ap (λ b. by_tests input s out b (is_called s 64 1) (slice_index s.registers x_a7 == 93)) e

pub call_writes : (p : LoadedProgram) (input : List ℕ) (s : State) (out : List ℕ) → Reaches p s.memory → is_called s 63 0 ≡ false → is_called s 64 1 ≡ true → environment_call p input (machine_of s out) ≡ writes_byte (machine_of s out) (slice_index s.registers x_a1)
unfolding by_tests
call_writes p input s out r e f = call_is p input s out r ∙ ap (λ b. by_tests input s out b (is_called s 64 1) (slice_index s.registers x_a7 == 93)) e ∙ ap (λ b. by_tests input s out false b (slice_index s.registers x_a7 == 93)) f

pub call_exits : (p : LoadedProgram) (input : List ℕ) (s : State) (out : List ℕ) (b : Bool) → Reaches p s.memory → is_called s 63 0 ≡ false → is_called s 64 1 ≡ false → (slice_index s.registers x_a7 == 93) ≡ b → environment_call p input (machine_of s out) ≡ (if b then Ends (slice_index s.registers x_a0 % 256) else Sticks)
unfolding by_tests
call_exits p input s out b r e f g = call_is p input s out r ∙ ap (λ b. by_tests input s out b (is_called s 64 1) (slice_index s.registers x_a7 == 93)) e ∙ ap (λ b. by_tests input s out false b (slice_index s.registers x_a7 == 93)) f ∙ ap (λ b. by_tests input s out false false b) g

last : (a b : Bool) → (a && b) ≡ true → b ≡ true
last true b e = e
last false b e = absurd (cc e)

pub called_access : (s : State) (number file : ℕ) → is_called s number file ≡ true → may_access s.memory.layout s.memory.size (slice_index s.registers x_a1) 1 ≡ true
called_access s number file e = last ((slice_index s.registers x_a7 == number) && (slice_index s.registers x_a0 == file) && (slice_index s.registers x_a2 == 1)) _ e

pub unequal : (a b : ℕ) → (a ≡ b → ⊥) → (a == b) ≡ false
unequal a b h = grind (arith, nat_tests)

some_is : (b : Bool) (result : Option ℕ) (x y : ℕ) → result ≡ (if b then Some x else None) → b ≡ true → result ≡ Some y → y ≡ x
some_is true result x y e f g = cc
some_is false result x y e f g = absurd (cc f)

-- the byte that is written
pub byte_is : (space : Space) (a address byte : ℕ) (result : Option ℕ) → result ≡ (if may_access space.layout space.size a 1 then Some (memory_of space a) else None) → a ≡ address → may_access space.layout space.size address 1 ≡ true → result ≡ Some byte → byte ≡ memory_of space address
byte_is space a address byte result e f g h =
    some_is (may_access space.layout space.size a 1) result (memory_of space a) byte e (ap (λ x. may_access space.layout space.size x 1) f ∙ g) h ∙ ap (memory_of space) f
