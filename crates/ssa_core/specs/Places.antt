-- Tables over pairs of a variable and a block, as lists of entries.
use Rattle.std.specs.Prelude.{◌≡◌, ℕ, ◌==◌, ◌&&◌, Bool, if◌then◌else◌, List, [], ◌∷◌, Option, Some, None}
use Rattle.ssa_core.specs.declared.places.Place.{Place}

abbrev pub is_place : ℕ → ℕ → Place → Bool
is_place var block place = (var == place.var) && (block == place.block)

abbrev pub place : ℕ → ℕ → Place
place var block = record { var = var; block = block }

module _ {V : Type 0} where
  -- the value of the first entry for the variable and the block
  unfoldable pub found : List (Place × V) → ℕ → ℕ → Option V
  found [] var block = None
  found (e ∷ es) var block = if is_place var block e.0 then Some e.1 else found es var block

  -- the table has the value for this variable and block, and is as before for all others
  pub record Puts (old new : List (Place × V)) (var block : ℕ) (value : V) : Type 0 where
    pub here : found new var block ≡ Some value
    pub others : (x b : ℕ) → (x ≡ var → b ≡ block → ⊥) → found new x b ≡ found old x b
