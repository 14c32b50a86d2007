-- A layout holds a program where its three regions are placed and apart.
use Rattle.std.proofs.Common.{◌≡◌, ℕ, ◌≤◌, sym, subst}
use Rattle.std.specs.Prelude.{◌↔◌}
use Rattle.cp_base.specs.declared.layout.Layout.{Layout}
use Rattle.cp_base.specs.declared.layout.Region.{Region}
use Rattle.cp_base.specs.Regions.{Holds, IsPlaced, AreApart, IsAligned, code_region, data_region, stack_region}

apart_along : (a a' b b' s s' : Region) → a ≡ a' → b ≡ b' → s ≡ s' → AreApart a b s → AreApart a' b' s'
apart_along a a' b b' s s' ea eb es h =
    subst (λ z. AreApart a' b' z) es (subst (λ y. AreApart a' y s) eb (subst (λ x. AreApart x b s) ea h))

pub Holds-apart : (layout : Layout) (code size : ℕ) (a b s : Region) → a ≡ code_region layout code → b ≡ data_region layout size → s ≡ stack_region layout → IsAligned layout → layout.stack ≤ layout.top → IsPlaced a → IsPlaced b → IsPlaced s → AreApart a b s ↔ Holds layout code size
Holds-apart layout code size a b s ea eb es aligned below pa pb ps = (
  λ h. record {
    aligned = aligned;
    stack_below_top = below;
    code_placed = subst IsPlaced ea pa;
    data_placed = subst IsPlaced eb pb;
    stack_placed = subst IsPlaced es ps;
    apart = apart_along _ _ _ _ _ _ ea eb es h;
  },
  λ h. apart_along _ _ _ _ _ _ (sym ea) (sym eb) (sym es) h.apart,
)
