-- What holds of each function of a unit, from what its node means.
use Rattle.std.proofs.Common.{◌≡◌, ℕ, suc, ◌<◌, arith, List, [], ◌∷◌, refl}
use Rattle.std.specs.Prelude.{filter_map}
use Rattle.std.specs.List.{AllByRecursion}
use Rattle.c_types.specs.declared.tree.Func.{Func}
use Rattle.c_typing.specs.Judgements.{defines, Judgement, means, judgement_at}
use Rattle.c_typing.specs.Typing.{defined_in}

-- it holds of each and each later one
abbrev pub Pairs : (Func → Func → Type 0) → List Func → Type 0
Pairs R [] = Unit {0}
Pairs R (f ∷ fs) = AllByRecursion (R f) fs × Pairs R fs

pub functions_good : (P : Func → Type 0) (js : List Judgement) → ((n : ℕ) (f : Func) → judgement_at js n ≡ means (defines f) → P f) → AllByRecursion P (filter_map defined_in js)
functions_good P [] each = tt
functions_good P (means (defines f) ∷ js) each = (each 0 f refl, functions_good P js (λ n g e. each (suc n) g e))
functions_good P (_ ∷ js) each = functions_good P js (λ n g e. each (suc n) g e)

pub functions_more : (P R : Func → Type 0) (fs : List Func) → ((f : Func) → P f → R f) → AllByRecursion P fs → AllByRecursion R fs
functions_more P R [] each h = tt
functions_more P R (f ∷ fs) each h = (each f h.0, functions_more P R fs each h.1)

-- two functions of which the first one stands before the other
pub functions_pairs : (R : Func → Func → Type 0) (js : List Judgement) → ((a b : ℕ) (f g : Func) → a < b → judgement_at js a ≡ means (defines f) → judgement_at js b ≡ means (defines g) → R f g)
    → Pairs R (filter_map defined_in js)
functions_pairs R [] each = tt
functions_pairs R (means (defines f) ∷ js) each =
    (functions_good (R f) js (λ n g e. each 0 (suc n) f g (omega arith) refl e), functions_pairs R js (λ a b g h lt. each (suc a) (suc b) g h (omega (arith, lt))))
functions_pairs R (_ ∷ js) each = functions_pairs R js (λ a b g h lt. each (suc a) (suc b) g h (omega (arith, lt)))
