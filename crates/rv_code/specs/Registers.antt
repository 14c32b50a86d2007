-- Registers and their names in the calling convention.
use Rattle.std.specs.Prelude.{ℕ, List, [], ◌∷◌, codes, slice_get, unwrap_or}

-- the names of registers in the calling convention
abbrev pub register_names : List (List ℕ)
register_names =
    codes "zero" ∷ codes "ra" ∷ codes "sp" ∷ codes "gp" ∷ codes "tp" ∷ codes "t0" ∷ codes "t1" ∷ codes "t2" ∷
    codes "s0" ∷ codes "s1" ∷ codes "a0" ∷ codes "a1" ∷ codes "a2" ∷ codes "a3" ∷ codes "a4" ∷ codes "a5" ∷
    codes "a6" ∷ codes "a7" ∷ codes "s2" ∷ codes "s3" ∷ codes "s4" ∷ codes "s5" ∷ codes "s6" ∷ codes "s7" ∷
    codes "s8" ∷ codes "s9" ∷ codes "s10" ∷ codes "s11" ∷ codes "t3" ∷ codes "t4" ∷ codes "t5" ∷ codes "t6" ∷ []

abbrev pub register_text : ℕ → List ℕ
register_text register = unwrap_or (slice_get register_names register) []

-- the numbers of those that definitions name
abbrev pub x_zero : ℕ
x_zero = 0

abbrev pub x_ra : ℕ
x_ra = 1

abbrev pub x_sp : ℕ
x_sp = 2

abbrev pub x_t0 : ℕ
x_t0 = 5

abbrev pub x_t1 : ℕ
x_t1 = 6

abbrev pub x_a0 : ℕ
x_a0 = 10

abbrev pub x_a1 : ℕ
x_a1 = 11

abbrev pub x_a2 : ℕ
x_a2 = 12

abbrev pub x_a7 : ℕ
x_a7 = 17
