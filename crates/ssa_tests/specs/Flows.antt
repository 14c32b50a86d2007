-- Which blocks are still to be sealed.
use Rattle.std.specs.Prelude.{◌≡◌, ℕ, Bool, true, false, List, Some}
use Rattle.std.specs.List.{slice_get}
use Rattle.ssa_core.specs.Known.{sealed_in}

abbrev pub AreOpen : List Bool → List Bool → Type 0
AreOpen flags sealed = (b : ℕ) → slice_get flags b ≡ Some true → sealed_in sealed b ≡ false
