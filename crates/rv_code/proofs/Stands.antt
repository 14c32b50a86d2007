-- Where instructions stand in the code.
use Rattle.std.proofs.Common.{◌≡◌, ℕ, suc, ◌+◌, List, [], ◌∷◌, ◌++◌, length, Some, refl, sym, ap, ◌∙◌, subst, arith, length-append, append_assoc, zero-add}
use Rattle.std.specs.Prelude.{slice_get}
use Rattle.cp_base.specs.declared.layout.Layout.{Layout}
use Rattle.rv_code.specs.declared.assembly.AsmInstr.{AsmInstr}
use Rattle.rv_code.specs.declared.assembly.AsmFunction.{AsmFunction}
use Rattle.rv_code.specs.Loading.{LoadedInstr, loaded_instr, loaded_from}

-- these instructions stand in the code from this index on
abbrev pub StandsAt : List LoadedInstr → ℕ → List LoadedInstr → Type 0
StandsAt code index [] = Unit {0}
StandsAt code index (i ∷ is) = (slice_get code index ≡ Some i) × StandsAt code (index + 1) is

pub stands_front : (code : List LoadedInstr) (index : ℕ) (a b : List LoadedInstr) → StandsAt code index (a ++ b) → StandsAt code index a
stands_front code index [] b h = tt
stands_front code index (i ∷ a) b h = (h.0, stands_front code (index + 1) a b h.1)

pub stands_back : (code : List LoadedInstr) (index : ℕ) (a b : List LoadedInstr) → StandsAt code index (a ++ b) → StandsAt code (index + length a) b
stands_back code index [] b h = let e : index ≡ index + 0 = omega arith in subst (λ n. StandsAt code n b) e h
stands_back code index (i ∷ a) b h =
    let e : index + 1 + length a ≡ index + length (i ∷ a) = omega arith in
    subst (λ n. StandsAt code n b) e (stands_back code (index + 1) a b h.1)

get_seam : (pre is : List LoadedInstr) (i : LoadedInstr) → slice_get (pre ++ i ∷ is) (length pre) ≡ Some i
get_seam [] is i = refl
get_seam (x ∷ pre) is i = get_seam pre is i

-- what follows a front stands after it
pub stands_all : (pre is : List LoadedInstr) → StandsAt (pre ++ is) (length pre) is
stands_all pre [] = tt
stands_all pre (i ∷ is) =
    let n : length (pre ++ i ∷ []) ≡ length pre + 1 = omega (arith, length-append pre (i ∷ [])) in
    let rest = subst (λ code. StandsAt code (length (pre ++ i ∷ [])) is) (append_assoc pre (i ∷ []) is) (stands_all (pre ++ i ∷ []) is) in
    (get_seam pre is i, subst (λ m. StandsAt (pre ++ i ∷ is) m is) n rest)

module _ (functions : List AsmFunction) (layout : Layout) where
  pub loaded_from-append : (index : ℕ) (a b : List AsmInstr) → loaded_from functions layout index (a ++ b) ≡ loaded_from functions layout index a ++ loaded_from functions layout (index + length a) b
  loaded_from-append index [] b = let e : index ≡ index + 0 = omega arith in ap (λ n. loaded_from functions layout n b) e
  loaded_from-append index (i ∷ a) b =
      let e : index + 1 + length a ≡ index + length (i ∷ a) = omega arith in
      ap (λ is. loaded_instr functions layout index i ∷ is)
      (loaded_from-append (index + 1) a b ∙ ap (λ n. loaded_from functions layout (index + 1) a ++ loaded_from functions layout n b) e)

  pub length-loaded_from : (index : ℕ) (a : List AsmInstr) → length (loaded_from functions layout index a) ≡ length a
  length-loaded_from index [] = refl
  length-loaded_from index (i ∷ a) = ap suc (length-loaded_from (index + 1) a)

  -- instructions between others stand after those before them
  pub part_stands : (pre part post : List AsmInstr) → StandsAt (loaded_from functions layout 0 (pre ++ (part ++ post))) (length pre) (loaded_from functions layout (length pre) part)
  part_stands pre part post =
      let front = loaded_from functions layout 0 pre in
      let here = loaded_from functions layout (length pre) (part ++ post) in
      let all = stands_all front here in
      let at = subst (λ n. StandsAt (front ++ here) n here) (length-loaded_from 0 pre) all in
      let within = subst (StandsAt (front ++ here) (length pre)) (loaded_from-append (length pre) part post) at in
      let split = loaded_from-append 0 pre (part ++ post) ∙ ap (λ n. front ++ loaded_from functions layout n (part ++ post)) (zero-add (length pre)) in
      subst (λ code. StandsAt code (length pre) (loaded_from functions layout (length pre) part)) (sym split)
      (stands_front (front ++ here) (length pre) (loaded_from functions layout (length pre) part) (loaded_from functions layout (length pre + length part) post) within)
