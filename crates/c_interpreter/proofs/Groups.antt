-- Groups that a jump passes.
use Rattle.std.proofs.Common.{◌≡◌, ℕ, suc, ◌+◌, ◌<◌, Bool, true, false, List, ◌∷◌, length, drop, get_or, refl, sym, ap, ◌∙◌, arith}
use Rattle.std.proofs.Math.Seq.{drop-cons}
use Rattle.c_types.specs.declared.tree.Group.{Group}
use Rattle.c_meaning.specs.Meaning.{groups_before}

at_head : (p : Group → Bool) (gs : List Group) (i : ℕ) (g : Group) (holds : Bool) → i < length gs → g ≡ get_or gs i g → p g ≡ holds
    → groups_before p (drop i gs) ≡ groups_before p (g ∷ drop (i + 1) gs)
at_head p gs i g holds within is test =
    ap (groups_before p) (drop-cons gs i g within ∙ ap (λ n. get_or gs i g ∷ drop n gs) {x = suc i} {y = i + 1} (omega arith) ∙ ap (λ x. x ∷ drop (i + 1) gs) (sym is))

pub pass_group : (p : Group → Bool) (gs : List Group) (i : ℕ) (g : Group) (all : ℕ) → i < length gs → g ≡ get_or gs i g → p g ≡ false
    → all ≡ i + groups_before p (drop i gs) → all ≡ (i + 1) + groups_before p (drop (i + 1) gs)
pass_group p gs i g all within is test before =
    let here : groups_before p (drop i gs) ≡ groups_before p (g ∷ drop (i + 1) gs) = at_head p gs i g false within is test in
    let next : groups_before p (g ∷ drop (i + 1) gs) ≡ 1 + groups_before p (drop (i + 1) gs) = rw test (omega arith) in
    omega (arith, before, here, next)

pub find_group : (p : Group → Bool) (gs : List Group) (i : ℕ) (g : Group) (all : ℕ) → i < length gs → g ≡ get_or gs i g → p g ≡ true
    → all ≡ i + groups_before p (drop i gs) → i ≡ all
find_group p gs i g all within is test before =
    let here : groups_before p (drop i gs) ≡ groups_before p (g ∷ drop (i + 1) gs) = at_head p gs i g true within is test in
    let none : groups_before p (g ∷ drop (i + 1) gs) ≡ 0 = rw test refl in
    omega (arith, before, here, none)
