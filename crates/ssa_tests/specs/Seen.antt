-- The only value other than a Phi among its operands.
use Rattle.std.specs.Prelude.{◌≡◌, ℕ, ◌⊎◌, List, Some}
use Rattle.std.specs.List.{slice_get}
use Rattle.ssa_tests.specs.declared.only.Seen.{Seen}
use Rattle.ssa_tests.specs.declared.only.Seen.TheVariants as seen

pub record IsOnly (operands : List ℕ) (phi only : ℕ) : Type 0 where
  pub index : ℕ
  pub is : slice_get operands index ≡ Some only
  pub differs : only ≡ phi → ⊥
  pub each : (i x : ℕ) → slice_get operands i ≡ Some x → (x ≡ phi) ⊎ (x ≡ only)

pub record AreTwo (operands : List ℕ) (phi : ℕ) : Type 0 where
  pub i : ℕ
  pub a : ℕ
  pub a_is : slice_get operands i ≡ Some a
  pub a_differs : a ≡ phi → ⊥
  pub j : ℕ
  pub b : ℕ
  pub b_is : slice_get operands j ≡ Some b
  pub b_differs : b ≡ phi → ⊥
  pub apart : a ≡ b → ⊥

abbrev pub Sees : Seen → ℕ → List ℕ → Type 0
Sees seen.Nothing phi operands = (i x : ℕ) → slice_get operands i ≡ Some x → x ≡ phi
Sees (seen.One only) phi operands = IsOnly operands phi only
Sees seen.More phi operands = AreTwo operands phi
