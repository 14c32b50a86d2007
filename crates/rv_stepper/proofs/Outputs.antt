-- A run only adds to its output.
use Rattle.std.proofs.Common.{◌≡◌, ℕ, zero, suc, Bool, true, false, List, [], ◌∷◌, ◌++◌, Option, Some, None, refl, sym, ap, ◌∙◌, append_assoc}
use Rattle.std.specs.Prelude.{slice_get, ◌==◌, ◌&&◌, ◌%◌, if◌then◌else◌}
use Rattle.std.proofs.lemmas.List.{append-nil}
use Rattle.rv_code.specs.declared.assembly.RvName.{RvName}
use Rattle.rv_code.specs.declared.assembly.RvName.TheVariants.{Beq, Bne, Blt, Bge, Bltu, Bgeu, Lb, Lh, Lw, Lbu, Lhu, Sb, Sh, Sw, Ecall}
use Rattle.rv_code.specs.Registers.{x_a0, x_a1, x_a2, x_a7}
use Rattle.rv_code.specs.Loading.{LoadedInstr}
use Rattle.rv_code.specs.Machine.{LoadedProgram, Machine, Next, Goes, Ends, Sticks, read, can_access, branches, reads_byte, environment_call, executes, fetched, obeys, step, resumes, run}

abbrev pub Extends : List ℕ → List ℕ → Type 0
Extends before out = (more : List ℕ) × (out ≡ before ++ more)

abbrev Adds : List ℕ → Next → Type 0
Adds out (Goes m) = Extends out m.out
Adds out (Ends status) = Unit {0}
Adds out Sticks = Unit {0}

none : (out : List ℕ) → Extends out out
none out = ([], sym (append-nil out))

either : (out : List ℕ) (b : Bool) (x y : Next) → Adds out x → Adds out y → Adds out (if b then x else y)
either out true x y h k = h
either out false x y h k = k

read_adds : (m : Machine) (byte : Option ℕ) (address : ℕ) → Adds m.out (reads_byte m byte address)
read_adds m None address = none m.out
read_adds m (Some byte) address = none m.out

call_adds : (p : LoadedProgram) (input : List ℕ) (m : Machine) → Adds m.out (environment_call p input m)
call_adds p input m =
    either m.out ((read m x_a7 == 63) && (read m x_a0 == 0) && (read m x_a2 == 1) && can_access p (read m x_a1) 1) _ _ (read_adds m (slice_get input m.taken) (read m x_a1))
    (either m.out ((read m x_a7 == 64) && (read m x_a0 == 1) && (read m x_a2 == 1) && can_access p (read m x_a1) 1) _ _ (m.memory (read m x_a1) ∷ [], refl)
    (either m.out (read m x_a7 == 93) (Ends (read m x_a0 % 256)) Sticks tt tt))

branch_adds : (m : Machine) (b : Bool) (v : ℕ) → Adds m.out (branches m b v)
branch_adds m true v = none m.out
branch_adds m false v = none m.out

access_adds : (out : List ℕ) (b : Bool) (m : Machine) → m.out ≡ out → Adds out (if b then Goes m else Sticks)
access_adds out true m e = ([], e ∙ sym (append-nil out))
access_adds out false m e = tt

executes_adds : (p : LoadedProgram) (input : List ℕ) (m : Machine) (name : RvName) (rd a b v : ℕ) → Adds m.out (executes p input m name rd a b v)
executes_adds p input m Beq rd a b v = branch_adds m _ v
executes_adds p input m Bne rd a b v = branch_adds m _ v
executes_adds p input m Blt rd a b v = branch_adds m _ v
executes_adds p input m Bge rd a b v = branch_adds m _ v
executes_adds p input m Bltu rd a b v = branch_adds m _ v
executes_adds p input m Bgeu rd a b v = branch_adds m _ v
executes_adds p input m Lb rd a b v = access_adds m.out _ _ refl
executes_adds p input m Lh rd a b v = access_adds m.out _ _ refl
executes_adds p input m Lw rd a b v = access_adds m.out _ _ refl
executes_adds p input m Lbu rd a b v = access_adds m.out _ _ refl
executes_adds p input m Lhu rd a b v = access_adds m.out _ _ refl
executes_adds p input m Sb rd a b v = access_adds m.out _ _ refl
executes_adds p input m Sh rd a b v = access_adds m.out _ _ refl
executes_adds p input m Sw rd a b v = access_adds m.out _ _ refl
executes_adds p input m Ecall rd a b v = call_adds p input m
executes_adds p input m name rd a b v = none m.out

obeys_adds : (p : LoadedProgram) (input : List ℕ) (m : Machine) (o : Option LoadedInstr) → Adds m.out (obeys p input m o)
obeys_adds p input m None = tt
obeys_adds p input m (Some i) = executes_adds p input m i.name i.rd (read m i.rs1) (read m i.rs2) i.value

pub run_extends : (p : LoadedProgram) (input : List ℕ) (n : ℕ) (m : Machine) → Extends m.out (run p input n m).1
run_extends p input zero m = none m.out
run_extends p input (suc n) m = by (λ t. run_extends p input n t) (step p input m) (obeys_adds p input m (fetched p m.pc))
  where
    by : ((t : Machine) → Extends t.out (run p input n t).1) → (next : Next) → Adds m.out next → Extends m.out (resumes m next (run p input n)).1
    by later (Goes t) h = let rest = later t in (h.0 ++ rest.0, rest.1 ∙ ap (λ o. o ++ rest.0) h.1 ∙ append_assoc m.out h.0 rest.0)
    by later (Ends status) h = none m.out
    by later Sticks h = none m.out
