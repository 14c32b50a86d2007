-- The texts of operators.
use Rattle.std.specs.Prelude.{ℕ, Bool, List, codes, ◌||◌}
use Rattle.std.specs.Str.{bytes_eq}

-- `++` or `--`
abbrev pub is_step : List ℕ → Bool
is_step text = bytes_eq text (codes "++") || bytes_eq text (codes "--")
