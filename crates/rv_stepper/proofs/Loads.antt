-- The code of a unit in memory, the number of its function `main`, and the size of its data.
use Rattle.std.proofs.Common.{◌≡◌, ℕ, suc, ◌+◌, ◌<◌, ◌≤◌, ◌⊎◌, inl, inr, Bool, true, false, cond, List, [], ◌∷◌, ◌++◌, length, take, get_or, Some, None, refl, sym, ap, ◌∙◌, arith, length-append}
use Rattle.std.specs.Prelude.{codes, map, replicate, unwrap_or, nat_lt}
use Rattle.std.specs.List.{flat_map, position_or_len}
use Rattle.std.specs.Str.{bytes_eq}
use Rattle.std.proofs.lemmas.Bool.Decides.{nat_tests}
use Rattle.std.proofs.lemmas.Bool.{lt-ltb, cases_lt}
use Rattle.std.proofs.lemmas.List.{take_more, length-take, length-replicate, get_or_default}
use Rattle.std.proofs.lemmas.List.Sums.{position_or_len_is}
use Rattle.std.proofs.lemmas.List.Concat.{flat_map-cons}
use Rattle.cp_base.specs.declared.layout.Layout.{Layout}
use Rattle.rv_code.specs.declared.assembly.AsmInstr.{AsmInstr}
use Rattle.rv_code.specs.declared.assembly.AsmFunction.{AsmFunction}
use Rattle.rv_code.specs.declared.assembly.DataItem.{DataItem}
use Rattle.rv_code.specs.declared.assembly.DataItem.TheVariants.{Zero, Byte, Address}
use Rattle.rv_code.specs.Sizes.{data_size, item_size}
use Rattle.rv_code.specs.Places.{main_number}
use Rattle.rv_code.specs.Loading.{item_bytes, loaded_from, loaded_instr}
use Rattle.rv_stepper.specs.declared.program.Instr.{Instr}
use Rattle.rv_stepper.specs.States.{instr_of}

abbrev pub is_main : AsmFunction → Bool
is_main function = bytes_eq function.name (codes "main")

-- the first function of the name
pub main_is : (functions : List AsmFunction) (i : ℕ) (d : AsmFunction) → i < length functions → ((k : ℕ) (d : AsmFunction) → k < i → is_main (get_or functions k d) ≡ false) → is_main (get_or functions i d) ≡ true → i ≡ main_number functions
main_is functions i d lt before here =
    let first : position_or_len is_main functions ≡ i = position_or_len_is is_main functions i d (omega (arith, lt)) (λ k h. before k d h) (λ _. here) in
    sym (ap (λ n. unwrap_or (cond (nat_lt n (length functions)) (Some n) None) 0) first ∙ ap (λ b. unwrap_or (cond b (Some i) None) 0) (lt-ltb i (length functions) lt))

loaded_from-append : (functions : List AsmFunction) (layout : Layout) (i : ℕ) (xs ys : List AsmInstr) → loaded_from functions layout i (xs ++ ys) ≡ loaded_from functions layout i xs ++ loaded_from functions layout (i + length xs) ys
loaded_from-append functions layout i [] ys = let e : i ≡ i + 0 = omega arith in ap (λ j. loaded_from functions layout j ys) e
loaded_from-append functions layout i (x ∷ xs) ys =
    let e : i + 1 + length xs ≡ i + suc (length xs) = omega arith in
    ap (λ is. loaded_instr functions layout i x ∷ is) (loaded_from-append functions layout (i + 1) xs ys ∙ ap (λ j. loaded_from functions layout (i + 1) xs ++ loaded_from functions layout j ys) e)

map_push : (xs : List Instr) (x : Instr) → map instr_of (xs ++ x ∷ []) ≡ map instr_of xs ++ instr_of x ∷ []
map_push [] x = refl
map_push (y ∷ xs) x = ap (λ is. instr_of y ∷ is) (map_push xs x)

-- one more instruction
pub load_more : (functions : List AsmFunction) (layout : Layout) (code : List AsmInstr) (i : ℕ) (d : AsmInstr) (loaded new : List Instr) (one : Instr) → i < length code → map instr_of loaded ≡ loaded_from functions layout 0 (take i code) → instr_of one ≡ loaded_instr functions layout i (get_or code i d) → new ≡ loaded ++ one ∷ [] → map instr_of new ≡ loaded_from functions layout 0 (take (i + 1) code)
load_more functions layout code i d loaded new one lt so_far e more =
    let at : 0 + length (take i code) ≡ i = omega (arith, lt, length-take i code) in
    ap (map instr_of) more ∙ map_push loaded one ∙ ap (λ is. is ++ instr_of one ∷ []) so_far ∙ ap (λ x. loaded_from functions layout 0 (take i code) ++ x ∷ []) e
    ∙ ap (λ j. loaded_from functions layout 0 (take i code) ++ loaded_instr functions layout j (get_or code i d) ∷ []) (sym at)
    ∙ sym (ap (loaded_from functions layout 0) (take_more code i d lt) ∙ loaded_from-append functions layout 0 (take i code) (get_or code i d ∷ []))

item_length : (cdata : ℕ) (item : DataItem) → length (item_bytes cdata item) ≡ item_size item
item_length cdata (Zero count) = length-replicate count 0
item_length cdata (Byte value) = refl
item_length cdata (Address offset) = refl

pub data_length : (cdata : ℕ) (items : List DataItem) → length (flat_map (item_bytes cdata) items) ≡ data_size items
data_length cdata [] = refl
data_length cdata (item ∷ items) = ap length (flat_map-cons (item_bytes cdata) item items) ∙ length-append (item_bytes cdata item) (flat_map (item_bytes cdata) items) ∙ omega (arith, item_length cdata item, data_length cdata items)

-- the length of the memory
pub memory_length : (cdata : ℕ) (items : List DataItem) (size stack : ℕ) (bytes : List ℕ) → size ≡ data_size items → bytes ≡ flat_map (item_bytes cdata) items ++ replicate stack 0 → length bytes ≡ size + stack
memory_length cdata items size stack bytes e f =
    ap length f ∙ length-append (flat_map (item_bytes cdata) items) (replicate stack 0) ∙ omega (arith, e, data_length cdata items, length-replicate {A = ℕ} stack 0)

-- none of the first functions is of the name
pub all_below_more : (functions : List AsmFunction) (i : ℕ) (f : AsmFunction) → i < length functions → f ≡ get_or functions i f → ((k : ℕ) (d : AsmFunction) → k < i → is_main (get_or functions k d) ≡ false) → is_main f ≡ false → (k : ℕ) (d : AsmFunction) → k < i + 1 → is_main (get_or functions k d) ≡ false
all_below_more functions i f lt e before here k d below = by (cases_lt k i)
  where
    by : (k < i) ⊎ (i ≤ k) → is_main (get_or functions k d) ≡ false
    by (inl h) = before k d h
    by (inr h) =
        let same : k ≡ i = omega (arith, below, h) in
        ap (λ j. is_main (get_or functions j d)) same ∙ ap is_main (get_or_default functions i d f lt ∙ sym e) ∙ here

-- none is of the name
pub main_none : (functions : List AsmFunction) (i : ℕ) → length functions ≤ i → ((k : ℕ) (d : AsmFunction) → k < i → is_main (get_or functions k d) ≡ false) → 0 ≡ main_number functions
main_none functions i le before =
    let d : AsmFunction = record { name = []; frame = 0; lines = [] } in
    let first : position_or_len is_main functions ≡ length functions = position_or_len_is is_main functions (length functions) d (omega arith) (λ k h. before k d (omega (arith, h, le))) (λ h. absurd (omega (arith, h))) in
    sym (ap (λ n. unwrap_or (cond (nat_lt n (length functions)) (Some n) None) 0) first ∙ ap (λ b. unwrap_or (cond b (Some (length functions)) None) 0) (not_below (length functions)))
  where
    not_below : (n : ℕ) → nat_lt n n ≡ false
    not_below n = grind (arith, nat_tests)
