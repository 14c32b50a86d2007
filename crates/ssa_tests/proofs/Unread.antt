-- Variables that were not read.
use Rattle.std.proofs.Common.{◌≡◌, ℕ, [], Some, None, sym, ap, ◌∙◌, arith}
use Rattle.std.specs.List.{slice_get}
use Rattle.ssa_core.specs.Known.{Known}
use Rattle.ssa_core.specs.Building.{WasRead}

none_is_not_some : {X : Type 0} (x : X) → None ≡ Some x → ⊥
none_is_not_some x e = grind arith

pub never_read : (k : Known ℕ) (var : ℕ) → k.reads ≡ [] → WasRead k var → ⊥
never_read k var none read = none_is_not_some read.read (sym (ap (λ rs. slice_get rs read.index) none) ∙ read.is)
