-- Where the parts of a unit stand once it is loaded at a layout that holds it.
use Rattle.std.proofs.Common.{◌≡◌, ℕ, zero, suc, ◌+◌, ◌-◌, ◌%◌, ◌<◌, ◌≤◌, true, ◌&&◌, ◌||◌, List, [], ◌∷◌, ◌++◌, length, take, drop, Some, refl, sym, ap, ◌∙◌, subst, arith, length-append, append_assoc}
use Rattle.std.specs.Prelude.{slice_get, ◌==◌}
use Rattle.std.specs.List.{flat_map}
use Rattle.std.proofs.lemmas.List.{length-replicate}
use Rattle.std.proofs.lemmas.List.Concat.{flat_map-cons}
use Rattle.std.proofs.lemmas.Bool.Decides.{nat_tests}
use Rattle.cp_base.specs.declared.layout.Layout.{Layout}
use Rattle.cp_base.specs.Words.{sum}
use Rattle.rv_code.specs.declared.assembly.AsmInstr.{AsmInstr}
use Rattle.rv_code.specs.declared.assembly.AsmFunction.{AsmFunction}
use Rattle.rv_code.specs.declared.assembly.AsmUnit.{AsmUnit}
use Rattle.rv_code.specs.declared.assembly.DataItem.{DataItem}
use Rattle.rv_code.specs.declared.assembly.DataItem.TheVariants.{Zero, Byte, Address}
use Rattle.rv_code.specs.Sizes.{item_size, data_size, buffer_offset}
use Rattle.rv_code.specs.Routines.{entry_code, getchar_code, putchar_code, start_code}
use Rattle.rv_code.specs.Places.{instrs_of, code_of, main_number, whole_code, function_index}
use Rattle.rv_code.specs.Loading.{loaded_from, loaded_code, loaded_data, item_bytes, HoldsUnit}
use Rattle.rv_code.specs.Machine.{loaded, can_access, is_inside}
use Rattle.rv_code.proofs.Runs.{IsHeld}
use Rattle.rv_code.proofs.Stands.{StandsAt, part_stands, length-loaded_from}

-- a function's code among that of all
code_of-split : (functions : List AsmFunction) (number : ℕ) (function : AsmFunction) → slice_get functions number ≡ Some function → code_of functions ≡ code_of (take number functions) ++ (instrs_of function.lines ++ code_of (drop (suc number) functions))
code_of-split [] number function e = absurd (cc e)
code_of-split (f ∷ functions) zero function e =
    let same : f ≡ function = cc e in
    flat_map-cons (λ (g : AsmFunction). instrs_of g.lines) f functions ∙ ap (λ (g : AsmFunction). instrs_of g.lines ++ code_of functions) same
code_of-split (f ∷ functions) (suc number) function e =
    flat_map-cons (λ (g : AsmFunction). instrs_of g.lines) f functions
    ∙ ap (λ code. instrs_of f.lines ++ code) (code_of-split functions number function e)
    ∙ sym (append_assoc (instrs_of f.lines) (code_of (take number functions)) (instrs_of function.lines ++ code_of (drop (suc number) functions)))
    ∙ ap (λ code. code ++ (instrs_of function.lines ++ code_of (drop (suc number) functions))) (sym (flat_map-cons (λ (g : AsmFunction). instrs_of g.lines) f (take number functions)))

length-item_bytes : (cdata : ℕ) (item : DataItem) → length (item_bytes cdata item) ≡ item_size item
length-item_bytes cdata (Zero count) = length-replicate count 0
length-item_bytes cdata (Byte value) = refl
length-item_bytes cdata (Address offset) = refl

length-data : (cdata : ℕ) (items : List DataItem) → length (flat_map (item_bytes cdata) items) ≡ data_size items
length-data cdata [] = refl
length-data cdata (item ∷ items) = ap length (flat_map-cons (item_bytes cdata) item items) ∙ length-append (item_bytes cdata item) (flat_map (item_bytes cdata) items) ∙ omega (arith, length-item_bytes cdata item, length-data cdata items)

-- the tests of an access: a byte in the first region, and a word in the second
byte_passes : (a base len base' len' : ℕ) → base ≤ a → a + 1 ≤ base + len → ((a % 1 == 0) && (is_inside base len a 1 || is_inside base' len' a 1)) ≡ true
byte_passes a base len base' len' from to = grind (arith, nat_tests)

word_passes : (a base len base' len' : ℕ) → a % 4 ≡ 0 → base' ≤ a → a + 4 ≤ base' + len' → ((a % 4 == 0) && (is_inside base len a 4 || is_inside base' len' a 4)) ≡ true
word_passes a base len base' len' aligned from to = grind (arith, nat_tests)

module _ (asm : AsmUnit) (layout : Layout) where
  abbrev main : ℕ
  main = main_number asm.functions

  abbrev buffer : ℕ
  buffer = buffer_offset asm.items

  -- the parts of the code, as parts of a list
  stands_as : (pre part post : List AsmInstr) (index : ℕ) → whole_code asm ≡ pre ++ (part ++ post) → length pre ≡ index → StandsAt (loaded_code asm layout) index (loaded_from asm.functions layout index part)
  stands_as pre part post index e n =
      subst (λ i. StandsAt (loaded_code asm layout) i (loaded_from asm.functions layout i part)) n
      (subst (λ code. StandsAt (loaded_from asm.functions layout 0 code) (length pre) (loaded_from asm.functions layout (length pre) part)) (sym e)
      (part_stands asm.functions layout pre part post))

  pub entry_stands : StandsAt (loaded_code asm layout) 0 (loaded_from asm.functions layout 0 (entry_code main))
  entry_stands =
      stands_as [] (entry_code main) (getchar_code buffer ++ (putchar_code buffer ++ code_of asm.functions)) 0
      (append_assoc (entry_code main ++ getchar_code buffer) (putchar_code buffer) (code_of asm.functions) ∙ append_assoc (entry_code main) (getchar_code buffer) (putchar_code buffer ++ code_of asm.functions)) refl

  pub getchar_stands : StandsAt (loaded_code asm layout) 4 (loaded_from asm.functions layout 4 (getchar_code buffer))
  getchar_stands =
      stands_as (entry_code main) (getchar_code buffer) (putchar_code buffer ++ code_of asm.functions) 4
      (append_assoc (entry_code main ++ getchar_code buffer) (putchar_code buffer) (code_of asm.functions) ∙ append_assoc (entry_code main) (getchar_code buffer) (putchar_code buffer ++ code_of asm.functions)) refl

  pub putchar_stands : StandsAt (loaded_code asm layout) 15 (loaded_from asm.functions layout 15 (putchar_code buffer))
  putchar_stands =
      stands_as (entry_code main ++ getchar_code buffer) (putchar_code buffer) (code_of asm.functions) 15
      (append_assoc (entry_code main ++ getchar_code buffer) (putchar_code buffer) (code_of asm.functions)) refl

  pub function_stands : (number : ℕ) (function : AsmFunction) → slice_get asm.functions number ≡ Some function → StandsAt (loaded_code asm layout) (function_index asm.functions number) (loaded_from asm.functions layout (function_index asm.functions number) (instrs_of function.lines))
  function_stands number function e =
      let start = start_code main buffer in
      let before = code_of (take number asm.functions) in
      stands_as (start ++ before) (instrs_of function.lines) (code_of (drop (suc number) asm.functions)) (function_index asm.functions number)
      (ap (λ code. start ++ code) (code_of-split asm.functions number function e) ∙ sym (append_assoc start before _))
      (length-append start before)

  module _ (holds : HoldsUnit layout asm) where
    pub unit_is_held : IsHeld (loaded asm layout)
    unit_is_held =
        let n = length-loaded_from asm.functions layout 0 (whole_code asm) in
        let place = holds.code_placed.in_memory in
        let aligned = holds.aligned.code.aligned in
        record { aligned = omega arith; within = omega (arith, n, place) }

    -- a byte of the data may be read and written
    pub data_is_accessible : (offset : ℕ) → offset < data_size asm.items → can_access (loaded asm layout) (sum layout.cdata offset) 1 ≡ true
    data_is_accessible offset h =
        let n = length-data layout.cdata asm.items in
        let place = holds.data_placed.in_memory in
        let from : layout.cdata ≤ sum layout.cdata offset = omega (arith, place, h) in
        let to : sum layout.cdata offset + 1 ≤ layout.cdata + length (loaded_data asm layout) = omega (arith, n, place, h) in
        byte_passes (sum layout.cdata offset) layout.cdata (length (loaded_data asm layout)) (layout.top - layout.stack) layout.stack from to

    -- an aligned word of the stack may be read and written
    pub stack_is_accessible : (address : ℕ) → address % 4 ≡ 0 → layout.top ≤ address + layout.stack → address + 4 ≤ layout.top → can_access (loaded asm layout) address 4 ≡ true
    stack_is_accessible address aligned from to =
        let below = holds.stack_below_top in
        word_passes address layout.cdata (length (loaded_data asm layout)) (layout.top - layout.stack) layout.stack aligned (omega (arith, from)) (omega (arith, to, below))
