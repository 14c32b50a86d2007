-- The instructions of a unit, line by line and function by function.
use Rattle.std.proofs.Common.{◌≡◌, ℕ, ◌+◌, ◌<◌, List, [], ◌∷◌, ◌++◌, length, take, get_or, refl, sym, ap, ◌∙◌, append_assoc}
use Rattle.std.proofs.lemmas.List.{take_more}
use Rattle.rv_code.specs.declared.assembly.AsmLine.{AsmLine}
use Rattle.rv_code.specs.declared.assembly.AsmLine.TheVariants.{Label, Instr}
use Rattle.rv_code.specs.declared.assembly.AsmInstr.{AsmInstr}
use Rattle.rv_code.specs.declared.assembly.AsmFunction.{AsmFunction}
use Rattle.rv_code.specs.Places.{instrs_of, code_of}

instrs_of-append : (a b : List AsmLine) → instrs_of (a ++ b) ≡ instrs_of a ++ instrs_of b
instrs_of-append [] b = refl
instrs_of-append (Label function number ∷ a) b = instrs_of-append a b
instrs_of-append (Instr i ∷ a) b = ap (λ is. i ∷ is) (instrs_of-append a b)

-- one more line
pub lines_more : (lines : List AsmLine) (i : ℕ) (d : AsmLine) (before now new : List AsmInstr) → i < length lines → now ≡ before ++ instrs_of (take i lines) → new ≡ now ++ instrs_of (get_or lines i d ∷ []) → new ≡ before ++ instrs_of (take (i + 1) lines)
lines_more lines i d before now new lt so_far e =
    let line = get_or lines i d in
    e ∙ ap (λ x. x ++ instrs_of (line ∷ [])) so_far ∙ append_assoc before (instrs_of (take i lines)) (instrs_of (line ∷ []))
    ∙ ap (λ x. before ++ x) (sym (ap instrs_of (take_more lines i d lt) ∙ instrs_of-append (take i lines) (line ∷ [])))

code_of-append : (a b : List AsmFunction) → code_of (a ++ b) ≡ code_of a ++ code_of b
code_of-append [] b = refl
code_of-append (f ∷ a) b = ap (λ is. instrs_of f.lines ++ is) (code_of-append a b) ∙ sym (append_assoc (instrs_of f.lines) (code_of a) (code_of b))
