-- The function of the number that the start calls is `main`.
use Rattle.std.proofs.Common.{◌≡◌, ℕ, ◌<◌, ◌≤◌, Bool, cond, List, [], length, Some, None, get_or, sym, ap, ◌∙◌, arith, ⊎_elim}
use Rattle.std.specs.Prelude.{codes, slice_get, unwrap_or, Contains}
use Rattle.std.specs.List.{position_or_len}
use Rattle.std.specs.Str.{bytes_eq}
use Rattle.std.proofs.lemmas.Bool.{cases_lt, lt-ltb}
use Rattle.std.proofs.lemmas.List.{get_or-map, length-map}
use Rattle.std.proofs.lemmas.List.Sums.{fails_before_first, passes_at_first}
use Rattle.std.proofs.lemmas.Option.{slice_get-get_or}
use Rattle.std.proofs.lemmas.Slice.Eq.{bytes_eq-Decides}
use Rattle.rv_code.specs.declared.assembly.AsmFunction.{AsmFunction}
use Rattle.rv_code.specs.Places.{main_number}
use Rattle.rv_code.specs.Text.{name_of}
use Rattle.rv_code.specs.WellFormed.{names_of}

-- a function of that name, to read a list with
abbrev empty : AsmFunction
empty = record { name = codes "main"; frame = 0; lines = [] }

abbrev is_main : AsmFunction → Bool
is_main function = bytes_eq function.name (codes "main")

module _ (functions : List AsmFunction) (there : Contains (names_of functions) (codes "main")) where
  -- the first of the name
  abbrev first : ℕ
  first = position_or_len is_main functions

  found : first < length functions
  found = ⊎_elim (λ lt. lt) (λ le. absurd (missed le)) (cases_lt first (length functions))
    where
      k : ℕ
      k = there.0

      inside : k < length functions
      inside = omega (arith, there.1, length-map functions (λ (function : AsmFunction). function.name))

      named : (get_or functions k empty).name ≡ codes "main"
      named = sym (get_or-map (λ function. function.name) functions k empty (codes "main") inside) ∙ there.2

      missed : length functions ≤ first → ⊥
      missed le = absurd (cc (fails_before_first is_main functions k empty (omega (arith, inside, le)), (bytes_eq-Decides (get_or functions k empty).name (codes "main")).1 named))

  pub main_has_its_name : name_of (slice_get functions (main_number functions)) ≡ codes "main"
  main_has_its_name =
      ap (λ b. name_of (slice_get functions (unwrap_or (cond b (Some first) None) 0))) (lt-ltb first (length functions) found)
      ∙ ap name_of (slice_get-get_or functions first empty found)
      ∙ (bytes_eq-Decides (get_or functions first empty).name (codes "main")).0 (passes_at_first is_main functions empty found)
