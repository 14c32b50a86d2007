-- Units of the first form: calls of `putchar` on constants, and a return.
use Rattle.std.specs.Prelude.{◌≡◌, ℕ, ◌<◌, ◌⊎◌, List, ◌++◌, codes}
use Rattle.std.specs.List.{AllByRecursion, flat_map}
use Rattle.std.specs.Fmt.{decimal}

-- from 0 to 255
abbrev pub IsByte : ℕ → Type 0
IsByte n = n < 256

abbrev pub opening_text : List ℕ
opening_text = codes "int putchar(int);int main(void){"

-- the call that writes the byte n
abbrev pub call_text : ℕ → List ℕ
call_text n = codes "putchar(" ++ (decimal n ++ codes ");")

-- the return with the status s
abbrev pub return_text : ℕ → List ℕ
return_text s = codes "return " ++ (decimal s ++ codes ";}")

-- the text is the return, with or without a newline after it
abbrev pub IsEnd : List ℕ → ℕ → Type 0
IsEnd text s = (text ≡ return_text s) ⊎ (text ≡ return_text s ++ codes "\n")

-- the text is a unit that writes these bytes and ends with this status
pub record IsFirst (text written : List ℕ) (status : ℕ) : Type 0 where
  pub end : List ℕ
  pub spelled : text ≡ opening_text ++ (flat_map call_text written ++ end)
  pub ended : IsEnd end status
  pub each : AllByRecursion IsByte written
  pub last : IsByte status

-- the text is not of the first form
abbrev pub IsNotFirst : List ℕ → Type 0
IsNotFirst text = (bytes : List ℕ) (status : ℕ) → IsFirst text bytes status → ⊥
