-- What the builder keeps: the calls of `write` and of `read`, the values that it made, and which blocks are sealed.
use Rattle.std.specs.Prelude.{ℕ, suc, ◌==◌, ◌&&◌, Bool, false, if◌then◌else◌, List, [], ◌∷◌, Option, Some, None}
use Rattle.std.specs.List.{slice_get}
use Rattle.std.specs.Option.{unwrap_or}
use Rattle.ssa_core.specs.declared.places.Place.{Place}
use Rattle.ssa_core.specs.declared.notes.Write.{Write}
use Rattle.ssa_core.specs.declared.notes.Read.{Read}
use Rattle.ssa_core.specs.Places.{found}
use Rattle.ssa_core.specs.Shapes.{Shape}
use Rattle.ssa_core.specs.Gives.{View}

-- The calls of `write` and of `read`, each list in order; the values that were made at the starts of blocks, in order; for
-- each block that was passed a block from which its value comes; the values that were made where no walk comes; of each block
-- up to some number, whether it is sealed; and whether a call was refused.
pub record Known (V : Type 0) : Type 0 where
  pub writes : List (Write V)
  pub reads : List (Read V)
  pub made : List (Place × V)
  pub passed : List (Place × ℕ)
  pub lost : List (Place × V)
  pub sealed : List Bool
  pub spent : Bool

-- before any call
abbrev pub nothing_known : {V : Type 0} → Known V
nothing_known = record { writes = []; reads = []; made = []; passed = []; lost = []; sealed = []; spent = false }

-- the later of two, where there are both
abbrev pub later_of : {X : Type 0} → Option X → Option X → Option X
later_of first (Some x) = Some x
later_of first None = first

-- the value last written to the variable in the block
unfoldable pub last_write : {V : Type 0} → List (Write V) → ℕ → ℕ → Option V
last_write [] var block = None
last_write (w ∷ ws) var block =
    later_of (if (var == w.var) && (block == w.block) then Some w.value else None) (last_write ws var block)

abbrev pub sealed_in : List Bool → ℕ → Bool
sealed_in flags block = unwrap_or (slice_get flags block) false

-- what is known of one variable
abbrev pub view : {V : Type 0} → Known V → Shape V → ℕ → View V
view k s var = record { shape = s; sealed = sealed_in k.sealed; wrote = last_write k.writes var; made = found k.made var; lost = found k.lost var }

-- the indices, from `next` on, of the values that were made in the block
unfoldable pub indices_from : {V : Type 0} → ℕ → List (Place × V) → ℕ → List ℕ
indices_from next [] block = []
indices_from next (e ∷ es) block =
    if block == e.0.block then next ∷ indices_from (suc next) es block else indices_from (suc next) es block

abbrev pub indices_in : {V : Type 0} → List (Place × V) → ℕ → List ℕ
indices_in made block = indices_from 0 made block
