-- How the lists that the builder keeps stand to what it looks things up in.
use Rattle.std.specs.Prelude.{◌≡◌, ℕ, ◌<◌, ◌≤◌, true, false, List, [], ◌∷◌, ◌++◌, length, Some}
use Rattle.std.specs.List.{slice_get}
use Rattle.ssa_core.specs.declared.places.Place.{Place}
use Rattle.ssa_core.specs.declared.notes.Write.{Write}
use Rattle.ssa_core.specs.declared.notes.BlockState.{BlockState}
use Rattle.ssa_core.specs.Places.{found}
use Rattle.ssa_core.specs.Known.{last_write, indices_in}

-- the table of last writes has what the list of writes says, and each block lists the values that were made in it
pub record Indexes {V : Type 0} (writes : List (Write V)) (written made : List (Place × V)) (blocks : List BlockState) : Type 0 where
  pub last : (var block : ℕ) → found written var block ≡ last_write writes var block
  pub lists : (block : ℕ) (state : BlockState) → slice_get blocks block ≡ Some state → state.made.items ≡ indices_in made block
  pub within : (index : ℕ) (place : Place) (value : V) → slice_get made index ≡ Some (place, value) → place.block < length blocks

-- states came for more blocks, which are not sealed, and in which nothing was made
pub record IsExtended (old new : List BlockState) : Type 0 where
  pub longer : length old ≤ length new
  pub same : (block : ℕ) → block < length old → slice_get new block ≡ slice_get old block
  pub fresh : (block : ℕ) (state : BlockState) → length old ≤ block → slice_get new block ≡ Some state → (state.is_sealed ≡ false) × (state.made.items ≡ [])

-- the state at the block changes as `change` says, and all others are as before
pub record ChangesAt (change : BlockState → BlockState → Type 0) (old new : List BlockState) (block : ℕ) : Type 0 where
  pub same_length : length new ≡ length old
  pub before : BlockState
  pub was : slice_get old block ≡ Some before
  pub after : BlockState
  pub is : slice_get new block ≡ Some after
  pub changes : change before after
  pub others : (b : ℕ) → (b ≡ block → ⊥) → slice_get new b ≡ slice_get old b

-- it has one index more at the end of its list
pub record IsListed (index : ℕ) (before after : BlockState) : Type 0 where
  pub flag : after.is_sealed ≡ before.is_sealed
  pub lists : after.made.items ≡ before.made.items ++ index ∷ []

-- it has lost the last index of its list
pub record IsUnlisted (before after : BlockState) : Type 0 where
  pub flag : after.is_sealed ≡ before.is_sealed
  pub lists : (rest : List ℕ) (index : ℕ) → before.made.items ≡ rest ++ index ∷ [] → after.made.items ≡ rest

-- it is sealed
pub record IsSealed (before after : BlockState) : Type 0 where
  pub flag : after.is_sealed ≡ true
  pub lists : after.made.items ≡ before.made.items

-- it has the same in it
pub record IsAlike (before after : BlockState) : Type 0 where
  pub flag : after.is_sealed ≡ before.is_sealed
  pub lists : after.made.items ≡ before.made.items
