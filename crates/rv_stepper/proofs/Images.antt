-- A unit in the memory of the stepper is the unit in the memory of the machine.
use Rattle.std.proofs.Common.{◌≡◌, ◌≢◌, ℕ, zero, suc, ◌+◌, ◌-◌, ◌*◌, ◌<◌, ◌≤◌, ◌⊎◌, inl, inr, Bool, true, false, cond, List, [], ◌++◌, length, get_or, refl, sym, ap, ◌∙◌, subst, arith, get_or-set_other}
use Rattle.std.specs.Prelude.{map, replicate, slice_index, slice_set, nat_le, ◌==◌, ◌&&◌, IsTrue}
use Rattle.std.specs.List.{flat_map}
use Rattle.std.proofs.Math.Path.{fun_ext}
use Rattle.std.proofs.lemmas.Bool.{cases_lt}
use Rattle.std.proofs.lemmas.Bool.Decides.{nat_tests}
use Rattle.std.proofs.lemmas.List.{get_or_append_left, get_or-append-add}
use Rattle.cp_base.specs.declared.layout.Layout.{Layout}
use Rattle.cp_base.specs.Regions.{Holds, holds, are_apart, is_placed, is_aligned_word, code_region, data_region, stack_region}
use Rattle.cp_base.proofs.HoldsTest.{Holds-test, test-Holds}
use Rattle.rv_code.specs.declared.assembly.AsmInstr.{AsmInstr}
use Rattle.rv_code.specs.declared.assembly.AsmUnit.{AsmUnit}
use Rattle.rv_code.specs.declared.assembly.AsmFunction.{AsmFunction}
use Rattle.rv_code.specs.declared.assembly.DataItem.{DataItem}
use Rattle.rv_code.specs.Routines.{start_code}
use Rattle.rv_code.specs.Sizes.{data_size}
use Rattle.rv_code.specs.Places.{whole_code, code_of, main_number}
use Rattle.rv_code.specs.Loading.{item_bytes, loaded_from, loaded_data, code_size}
use Rattle.rv_code.specs.Machine.{is_inside, put_at, loaded, first_state, first_memory, LoadedProgram}
use Rattle.rv_stepper.specs.declared.state.State.{State}
use Rattle.rv_stepper.specs.declared.load.Image.{Image}
use Rattle.rv_stepper.specs.Space.{Space, IsSpace, memory_of}
use Rattle.rv_stepper.specs.States.{machine_of, instr_of}
use Rattle.rv_stepper.specs.Images.{IsImage}
use Rattle.rv_stepper.proofs.Loads.{data_length}

last : (a b : Bool) → (a && b) ≡ true → b ≡ true
last true b e = e
last false b e = absurd (cc e)

-- where the layout holds the unit, its data and its stack are apart
pub space_of : (layout : Layout) (code size : ℕ) → holds layout code size ≡ true → IsSpace layout size
space_of layout code size e = record { apart = by (cases_lt 0 size); below = h.stack_below_top; within = h.data_placed.in_memory }
  where
    h : Holds layout code size
    h = Holds-test layout code size e

    test : are_apart (data_region layout size) (stack_region layout) ≡ true
    test =
        let l = layout in
        last
        (is_aligned_word l.code && is_aligned_word l.cdata && is_aligned_word l.top && is_aligned_word l.stack && nat_le l.stack l.top && is_placed (code_region l code) && is_placed (data_region l size) && is_placed (stack_region l) && are_apart (code_region l code) (data_region l size) && are_apart (code_region l code) (stack_region l))
        (are_apart (data_region l size) (stack_region l)) e

    Apart : Type 0
    Apart = (size ≡ 0) ⊎ ((layout.stack ≡ 0) ⊎ ((layout.cdata + size ≤ layout.top - layout.stack) ⊎ (layout.top ≤ layout.cdata)))

    third : 0 < size → 0 < layout.stack → (layout.top - layout.stack < layout.cdata + size) ⊎ (layout.cdata + size ≤ layout.top - layout.stack) → Apart
    third a b (inr le) = inr (inr (inl le))
    third a b (inl lt) = let t = test in let le = h.stack_below_top in inr (inr (inr (grind (arith, nat_tests))))

    second : 0 < size → (0 < layout.stack) ⊎ (layout.stack ≤ 0) → Apart
    second a (inl b) = third a b (cases_lt (layout.top - layout.stack) (layout.cdata + size))
    second a (inr b) = inr (inl (omega (arith, b)))

    by : (0 < size) ⊎ (size ≤ 0) → Apart
    by (inl a) = second a (cases_lt 0 layout.stack)
    by (inr a) = inl (omega (arith, a))

zero_at : (n k : ℕ) → get_or {A = ℕ} (replicate n 0) k 0 ≡ 0
zero_at zero k = refl
zero_at (suc n) zero = refl
zero_at (suc n) (suc k) = zero_at n k

pick : (front : List ℕ) (n : ℕ) (b c : Bool) (i j : ℕ) → (b ≡ true → i < length front) → get_or (front ++ replicate n 0) (cond b i (cond c (length front + j) (length front + n))) 0 ≡ cond b (get_or front i 0) 0
pick front n true c i j h = get_or_append_left front (replicate n 0) 0 i (h refl)
pick front n false true i j h = get_or-append-add front (replicate n 0) j 0 ∙ zero_at n j
pick front n false false i j h = get_or-append-add front (replicate n 0) n 0 ∙ zero_at n n

-- the memory at the start
memory_is : (p : LoadedProgram) → memory_of (record { layout = p.layout; size = length p.bytes; bytes = p.bytes ++ replicate p.layout.stack 0 }) ≡ first_memory p (λ _. 0)
memory_is p = fun_ext (λ a. pick p.bytes p.layout.stack (is_inside p.layout.cdata (length p.bytes) a 1) (is_inside (p.layout.top - p.layout.stack) p.layout.stack a 1) (a - p.layout.cdata) (a - (p.layout.top - p.layout.stack)) (λ e. within a e))
  where
    within : (a : ℕ) → is_inside p.layout.cdata (length p.bytes) a 1 ≡ true → a - p.layout.cdata < length p.bytes
    within a e = grind (arith, nat_tests)

registers_is : (top : ℕ) → slice_index (slice_set (replicate 256 0) 2 top) ≡ put_at (λ _. 0) 2 top
registers_is top = fun_ext (λ r. by r (cases_lt r 2))
  where
    other : (r : ℕ) → r ≢ 2 → slice_index (slice_set (replicate 256 0) 2 top) r ≡ put_at (λ _. 0) 2 top r
    other r ne = let test : (r == 2) ≡ false = grind (arith, nat_tests) in rw test (get_or-set_other (replicate 256 0) 2 r top 0 ne ∙ zero_at 256 r)

    by : (r : ℕ) → (r < 2) ⊎ (2 ≤ r) → slice_index (slice_set (replicate 256 0) 2 top) r ≡ put_at (λ _. 0) 2 top r
    by r (inl lt) = other r (omega arith)
    by r (inr le) = more (cases_lt 2 r)
      where
        more : (2 < r) ⊎ (r ≤ 2) → slice_index (slice_set (replicate 256 0) 2 top) r ≡ put_at (λ _. 0) 2 top r
        more (inl lt) = other r (omega arith)
        more (inr ge) =
            let same : r ≡ 2 = omega arith in
            subst (λ k. slice_index (slice_set (replicate 256 0) 2 top) k ≡ put_at (λ _. 0) 2 top k) (sym same) refl

-- the state at the start, of a space
abbrev pub state_at : Layout → Space → State
state_at layout space = record { pc = layout.code; registers = slice_set (replicate 256 0) 2 layout.top; memory = space; taken = 0 }

abbrev pub space_at : AsmUnit → Layout → ℕ → Space
space_at asm layout size = record { layout = layout; size = size; bytes = flat_map (item_bytes layout.cdata) asm.items ++ replicate layout.stack 0 }

first_is : (asm : AsmUnit) (layout : Layout) (size : ℕ) → size ≡ length (loaded_data asm layout) → machine_of (state_at layout (space_at asm layout size)) [] ≡ first_state (loaded asm layout) (λ _. 0)
first_is asm layout size e =
    ap (λ n. machine_of (state_at layout (space_at asm layout n)) []) e
    ∙ ap (λ f. record (machine_of (state_at layout (space_at asm layout (length (loaded_data asm layout)))) []) { registers = f }) (registers_is layout.top)
    ∙ ap (λ f. record (first_state (loaded asm layout) (λ _. 0)) { memory = f }) (memory_is (loaded asm layout))

pub image_is : (asm : AsmUnit) (layout : Layout) (size : ℕ) (instrs : List AsmInstr) (image : Image) → holds layout (code_size asm) (data_size asm.items) ≡ true → size ≡ data_size asm.items → instrs ≡ whole_code asm → map instr_of image.code.items ≡ loaded_from asm.functions layout 0 instrs → image.state ≡ state_at layout (space_at asm layout size) → IsImage asm layout image
image_is asm layout size instrs image held sized e code state =
    let all = code ∙ ap (loaded_from asm.functions layout 0) e in
    let len : size ≡ length (loaded_data asm layout) = sized ∙ sym (data_length layout.cdata asm.items) in
    record {
      held = held;
      program = record {
        reaches = record { layout = ap (λ (s : State). s.memory.layout) (sym state); size = sym len ∙ ap (λ (s : State). s.memory.size) (sym state) };
        instrs = sym all;
      };
      first = ap (λ s. machine_of s []) state ∙ first_is asm layout size len;
    }

-- the answer of the test of a layout
pub holds_is : (b : Bool) (layout : Layout) (code size : ℕ) → (IsTrue b → Holds layout code size) × (Holds layout code size → IsTrue b) → b ≡ holds layout code size
holds_is true layout code size h = sym (test-Holds layout code size (h.0 refl))
holds_is false layout code size h = by (holds layout code size) refl
  where
    by : (t : Bool) → holds layout code size ≡ t → false ≡ holds layout code size
    by true e = absurd (cc (h.1 (Holds-test layout code size e)))
    by false e = sym e

abbrev unit : List AsmFunction → List DataItem → AsmUnit
unit functions items = record { functions = functions; items = items }

image_of : (asm : AsmUnit) (layout : Layout) (size main buffer len : ℕ) (instrs : List AsmInstr) (image : Image) → size ≡ data_size asm.items → main ≡ main_number asm.functions → buffer ≡ size - 1 → instrs ≡ start_code main buffer ++ code_of asm.functions → len ≡ length instrs → holds layout (4 * len) size ≡ true → map instr_of image.code.items ≡ loaded_from asm.functions layout 0 instrs → image.state ≡ state_at layout (space_at asm layout size) → IsImage asm layout image
image_of asm layout size main buffer len instrs image sized m b i l held code state =
    let whole : instrs ≡ whole_code asm = i ∙ ap (λ n. start_code n buffer ++ code_of asm.functions) m ∙ ap (λ n. start_code (main_number asm.functions) n ++ code_of asm.functions) (b ∙ ap (λ n. n - 1) sized) in
    let held_unit : holds layout (code_size asm) (data_size asm.items) ≡ true = sym (ap (λ n. holds layout (4 * n) size) (l ∙ ap length whole) ∙ ap (λ n. holds layout (code_size asm) n) sized) ∙ held in
    image_is asm layout size instrs image held_unit sized whole code state

-- the unit in memory, from what the parts of the loading say
pub image_made : (asm : AsmUnit) (functions : List AsmFunction) (items : List DataItem) (layout : Layout) (size main buffer len : ℕ) (instrs : List AsmInstr) (memory : Space) (image : Image) → functions ≡ asm.functions → items ≡ asm.items → size ≡ data_size items → main ≡ main_number functions → buffer ≡ size - 1 → instrs ≡ start_code main buffer ++ code_of functions → len ≡ length instrs → holds layout (4 * len) size ≡ true → map instr_of image.code.items ≡ loaded_from functions layout 0 instrs → image.state ≡ state_at layout memory → memory ≡ record { layout = layout; size = size; bytes = flat_map (item_bytes layout.cdata) items ++ replicate layout.stack 0 } → IsImage asm layout image
image_made asm functions items layout size main buffer len instrs memory image f t sized m b i l held code state mem =
    let same : unit functions items ≡ asm = ap (λ fs. unit fs items) f ∙ ap (λ is. unit asm.functions is) t in
    subst (λ a. IsImage a layout image) same (image_of (unit functions items) layout size main buffer len instrs image sized m b i l held code (state ∙ ap (state_at layout) mem))

-- where the layout does not hold it
pub not_held : (asm : AsmUnit) (functions : List AsmFunction) (items : List DataItem) (layout : Layout) (size main buffer len : ℕ) (instrs : List AsmInstr) → functions ≡ asm.functions → items ≡ asm.items → size ≡ data_size items → main ≡ main_number functions → buffer ≡ size - 1 → instrs ≡ start_code main buffer ++ code_of functions → len ≡ length instrs → holds layout (4 * len) size ≡ false → holds layout (code_size asm) (data_size asm.items) ≡ false
not_held asm functions items layout size main buffer len instrs f t sized m b i l held =
    let whole : instrs ≡ whole_code (unit functions items) = i ∙ ap (λ n. start_code n buffer ++ code_of functions) m ∙ ap (λ n. start_code (main_number functions) n ++ code_of functions) (b ∙ ap (λ n. n - 1) sized) in
    let same : unit functions items ≡ asm = ap (λ fs. unit fs items) f ∙ ap (λ is. unit asm.functions is) t in
    sym (ap (λ n. holds layout (4 * n) size) (l ∙ ap length whole) ∙ ap (λ n. holds layout (code_size (unit functions items)) n) sized ∙ ap (λ a. holds layout (code_size a) (data_size a.items)) same) ∙ held
