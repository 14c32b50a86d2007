-- Where the bytes of an access are.
use Rattle.std.specs.Prelude.{◌≡◌, ◌≤◌, ◌+◌, ◌-◌, ℕ, true, List, length}
use Rattle.run_model.specs.Accesses.{can_access}

-- the access may be made, and this is the index of its first byte
pub record IsAt (base : ℕ) (bytes : List ℕ) (align address size index : ℕ) : Type 0 where
  pub can : can_access base bytes align address size ≡ true
  pub is : index ≡ address - base
  pub within : index + size ≤ length bytes
