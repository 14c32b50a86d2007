-- The text of a unit: it is of one unit only, sizes of frames aside.
use Rattle.std.proofs.Common.{◌≡◌, ℕ, suc, ◌+◌, ◌^◌, ◌<◌, ◌≤◌, ◌⊎◌, inl, inr, Bool, true, false, cond, List, [], ◌∷◌, ◌++◌, length, Some, None, Option, get_or, refl, sym, ap, ◌∙◌, subst, arith, lit≤, append_assoc}
use Rattle.std.specs.Prelude.{codes, ◌==◌, slice_get, IsSome}
use Rattle.std.specs.List.{AllByRecursion, flat_map}
use Rattle.std.specs.Option.{option_map, option_and_then}
use Rattle.std.specs.Fmt.{decimal}
use Rattle.std.proofs.lemmas.Bool.Decides.{nat_tests}
use Rattle.std.proofs.lemmas.Fmt.{decimal_injective}
use Rattle.std.proofs.lemmas.List.{append_cancel_left}
use Rattle.std.proofs.lemmas.Option.{slice_get_within}
use Rattle.rv_code.specs.declared.assembly.RvName.{RvName}
use Rattle.rv_code.specs.declared.assembly.RvName.TheVariants.{Lui, Jal, Jalr, Beq, Bne, Blt, Bge, Bltu, Bgeu, Lb, Lh, Lw, Lbu, Lhu, Sb, Sh, Sw, Addi, Slti, Sltiu, Xori, Ori, Andi, Slli, Srli, Srai, Add, Sub, Sll, Slt, Sltu, Xor, Srl, Sra, Or, And, Ecall, Mul, Div, Divu, Rem, Remu}
use Rattle.rv_code.specs.declared.assembly.Symbol.{Symbol}
use Rattle.rv_code.specs.declared.assembly.Symbol.TheVariants.{Block, Func, GetChar, PutChar, Cdata}
use Rattle.rv_code.specs.declared.assembly.AsmInstr.{AsmInstr}
use Rattle.rv_code.specs.declared.assembly.AsmLine.{AsmLine}
use Rattle.rv_code.specs.declared.assembly.AsmLine.TheVariants.{Label, Instr}
use Rattle.rv_code.specs.declared.assembly.AsmFunction.{AsmFunction}
use Rattle.rv_code.specs.declared.assembly.AsmUnit.{AsmUnit}
use Rattle.rv_code.specs.declared.assembly.DataItem.{DataItem}
use Rattle.rv_code.specs.declared.assembly.DataItem.TheVariants.{Zero, Byte, Address}
use Rattle.rv_code.specs.Sizes.{buffer_offset}
use Rattle.rv_code.specs.Places.{main_number, label_index, function_index}
use Rattle.rv_code.specs.Forms.{name_text, form_of}
use Rattle.rv_code.specs.Routines.{buffer_code}
use Rattle.rv_code.specs.Text.{name_of, cdata_text, label_text, operand_text, fields_text, instr_text, line_text, code_text, function_text, item_text, entry_text, getchar_text, putchar_text, start_text, data_text, text_of}
use Rattle.rv_code.specs.WellFormed.{IsIdentifier, names_of, IsThere, IsLine, IsFunction, IsItem, IsWellFormed}
use Rattle.rv_code.specs.OneText.{printed, OneUnitPerText}
use Rattle.rv_code.proofs.MainNumber.{main_has_its_name}
use Rattle.rv_code.proofs.StartLines.{entry_bytes, getchar_front, getchar_back, putchar_front, putchar_back, entry_lines, buffer_lines, getchar_lines, putchar_lines}
use Rattle.rv_code.proofs.Splits.{Free, split, ends_word, word_in_line, decimal_is_word}
use Rattle.rv_code.proofs.Symbols.{IsKnown, identifier_is_word, cdata_is_word, label_is_word, one_label, one_cdata}
use Rattle.rv_code.proofs.InstrTexts.{AreKnown, Alike, line_shape, line_first, one_instr, alike_is_same}

-- what begins a line behind those of a function: the name of the next one, or `.data`
abbrev IsNext : List ℕ → Type 0
IsNext r = (get_or r 0 0 ≡ 99) ⊎ ((get_or r 0 0 ≡ 9) × (get_or r 1 0 ≡ 46))

-- a mnemonic begins with a letter
name_begins : (name : RvName) (x : List ℕ) → 97 ≤ get_or (name_text name ++ x) 0 0
name_begins Lui x = lit≤ tt
name_begins Jal x = lit≤ tt
name_begins Jalr x = lit≤ tt
name_begins Beq x = lit≤ tt
name_begins Bne x = lit≤ tt
name_begins Blt x = lit≤ tt
name_begins Bge x = lit≤ tt
name_begins Bltu x = lit≤ tt
name_begins Bgeu x = lit≤ tt
name_begins Lb x = lit≤ tt
name_begins Lh x = lit≤ tt
name_begins Lw x = lit≤ tt
name_begins Lbu x = lit≤ tt
name_begins Lhu x = lit≤ tt
name_begins Sb x = lit≤ tt
name_begins Sh x = lit≤ tt
name_begins Sw x = lit≤ tt
name_begins Addi x = lit≤ tt
name_begins Slti x = lit≤ tt
name_begins Sltiu x = lit≤ tt
name_begins Xori x = lit≤ tt
name_begins Ori x = lit≤ tt
name_begins Andi x = lit≤ tt
name_begins Slli x = lit≤ tt
name_begins Srli x = lit≤ tt
name_begins Srai x = lit≤ tt
name_begins Add x = lit≤ tt
name_begins Sub x = lit≤ tt
name_begins Sll x = lit≤ tt
name_begins Slt x = lit≤ tt
name_begins Sltu x = lit≤ tt
name_begins Xor x = lit≤ tt
name_begins Srl x = lit≤ tt
name_begins Sra x = lit≤ tt
name_begins Or x = lit≤ tt
name_begins And x = lit≤ tt
name_begins Ecall x = lit≤ tt
name_begins Mul x = lit≤ tt
name_begins Div x = lit≤ tt
name_begins Divu x = lit≤ tt
name_begins Rem x = lit≤ tt
name_begins Remu x = lit≤ tt

abbrev AlikeLine : List AsmFunction → List AsmFunction → AsmLine → AsmLine → Type 0
AlikeLine fa fb (Label f n) (Label g m) = (f ≡ g) × (n ≡ m)
AlikeLine fa fb (Instr i) (Instr j) = Alike fa fb i j
AlikeLine fa fb (Label f n) (Instr j) = ⊥
AlikeLine fa fb (Instr i) (Label g m) = ⊥

abbrev AlikeLines : List AsmFunction → List AsmFunction → List AsmLine → List AsmLine → Type 0
AlikeLines fa fb [] [] = Unit {0}
AlikeLines fa fb (l ∷ ls) (m ∷ ms) = AlikeLine fa fb l m × AlikeLines fa fb ls ms
AlikeLines fa fb [] (m ∷ ms) = ⊥
AlikeLines fa fb (l ∷ ls) [] = ⊥

abbrev AlikeFunctions : List AsmFunction → List AsmFunction → List AsmFunction → List AsmFunction → Type 0
AlikeFunctions fa fb [] [] = Unit {0}
AlikeFunctions fa fb (g ∷ gs) (h ∷ hs) = (g.name ≡ h.name) × (AlikeLines fa fb g.lines h.lines × AlikeFunctions fa fb gs hs)
AlikeFunctions fa fb [] (h ∷ hs) = ⊥
AlikeFunctions fa fb (g ∷ gs) [] = ⊥

-- functions of a list, from a number on
abbrev Good : List AsmFunction → ℕ → List AsmFunction → Type 0
Good fs here [] = Unit {0}
Good fs here (g ∷ gs) = AllByRecursion (IsLine fs here) g.lines × ((here < 2 ^ 64) × (IsIdentifier g.name × Good fs (suc here) gs))

good : (fs gs : List AsmFunction) (here : ℕ) → here + length gs ≤ 2 ^ 64 → ((n : ℕ) (f : AsmFunction) → slice_get gs n ≡ Some f → IsFunction fs (here + n) f) → AllByRecursion IsIdentifier (names_of gs) → Good fs here gs
good fs [] here l h names = tt
good fs (g ∷ gs) here l h names =
    let this : here + 0 ≡ here = omega arith in (
      subst (λ n. AllByRecursion (IsLine fs n) g.lines) this (h 0 g refl).lines,
      (
        omega (arith, l),
        (
          names.0,
          good fs gs (suc here) (omega (arith, l)) (λ n f e. let next : here + suc n ≡ suc here + n = omega arith in subst (λ k. IsFunction fs k f) next (h (suc n) f e)) names.1,
        ),
      ),
    )

-- where a line of a function is, its next line is not
line_begins : (fs : List AsmFunction) (l : AsmLine) (x r : List ℕ) → IsNext r → r ≡ line_text fs l ++ x → ⊥
line_begins fs (Label f n) x r (inl c) e = let first : get_or r 0 0 ≡ 46 = ap (λ t. get_or t 0 0) e in omega (arith, first, c)
line_begins fs (Label f n) x r (inr d) e = let first : get_or r 0 0 ≡ 46 = ap (λ t. get_or t 0 0) e in omega (arith, first, d.0)
line_begins fs (Instr i) x r which e = by which
  where
    name : List ℕ
    name = name_text i.name

    fields : List ℕ
    fields = fields_text (operand_text fs i.operand) (form_of i.name) i

    all : r ≡ 9 ∷ (name ++ (fields ++ (10 ∷ x)))
    all = e ∙ line_shape name fields x

    by : (get_or r 0 0 ≡ 99) ⊎ ((get_or r 0 0 ≡ 9) × (get_or r 1 0 ≡ 46)) → ⊥
    by (inl c) = let first : get_or r 0 0 ≡ 9 = ap (λ t. get_or t 0 0) all in omega (arith, first, c)
    by (inr d) =
        let second : get_or r 1 0 ≡ get_or (name ++ (fields ++ (10 ∷ x))) 0 0 = ap (λ t. get_or t 1 0) all in
        let letter = name_begins i.name (fields ++ (10 ∷ x)) in
        omega (arith, second, letter, d.1)

label_and_instr : (f n : ℕ) (fs : List AsmFunction) (j : AsmInstr) (x y : List ℕ) → (label_text f n ++ codes ":\n") ++ x ≡ instr_text fs j ++ y → ⊥
label_and_instr f n fs j x y e = let differ : 46 ≡ 9 = ap (λ t. get_or t 0 0) e in omega (arith, differ)

-- a label and the end of its line
label_first : (f n g m : ℕ) (x y : List ℕ) → f < 2 ^ 64 → n < 2 ^ 64 → g < 2 ^ 64 → m < 2 ^ 64 → (label_text f n ++ codes ":\n") ++ x ≡ (label_text g m ++ codes ":\n") ++ y → ((f ≡ g) × (n ≡ m)) × (x ≡ y)
label_first f n g m x y hf hn hg hm e =
    let all = sym (append_assoc (label_text f n) (codes ":\n") x) ∙ e ∙ append_assoc (label_text g m) (codes ":\n") y in
    let parts = split ends_word (label_text f n) (label_text g m) (10 ∷ x) (10 ∷ y) 58 58 (label_is_word f n) (label_is_word g m) refl refl all in
    (one_label f n g m hf hn hg hm parts.0, append_cancel_left (58 ∷ (10 ∷ [])) x y parts.1)

module _ (fa fb : List AsmFunction) (a : AreKnown fa) (b : AreKnown fb) where
  lines_alike : (here there : ℕ) → here < 2 ^ 64 → there < 2 ^ 64 → (ls ms : List AsmLine) (r t : List ℕ) → IsNext r → IsNext t
      → AllByRecursion (IsLine fa here) ls → AllByRecursion (IsLine fb there) ms
      → flat_map (line_text fa) ls ++ r ≡ flat_map (line_text fb) ms ++ t → AlikeLines fa fb ls ms × (r ≡ t)
  lines_alike x y hx hy [] [] r t p q h k e = (tt, e)
  lines_alike x y hx hy [] (m ∷ ms) r t p q h k e = absurd (line_begins fb m (flat_map (line_text fb) ms ++ t) r p (e ∙ append_assoc (line_text fb m) (flat_map (line_text fb) ms) t))
  lines_alike x y hx hy (l ∷ ls) [] r t p q h k e = absurd (line_begins fa l (flat_map (line_text fa) ls ++ r) t q (sym e ∙ append_assoc (line_text fa l) (flat_map (line_text fa) ls) r))
  lines_alike x y hx hy (Label f n ∷ ls) (Label g m ∷ ms) r t p q h k e =
      let all = sym (append_assoc (line_text fa (Label f n)) (flat_map (line_text fa) ls) r) ∙ e ∙ append_assoc (line_text fb (Label g m)) (flat_map (line_text fb) ms) t in
      let one = label_first f n g m _ _ (omega (arith, hx, h.0.0)) h.0.1 (omega (arith, hy, k.0.0)) k.0.1 all in
      let rest = lines_alike x y hx hy ls ms r t p q h.1 k.1 one.1 in
      ((one.0, rest.0), rest.1)
  lines_alike x y hx hy (Instr i ∷ ls) (Instr j ∷ ms) r t p q h k e =
      let all = sym (append_assoc (line_text fa (Instr i)) (flat_map (line_text fa) ls) r) ∙ e ∙ append_assoc (line_text fb (Instr j)) (flat_map (line_text fb) ms) t in
      let one = one_instr fa fb a b i j (flat_map (line_text fa) ls ++ r) (flat_map (line_text fb) ms ++ t) h.0 k.0 all in
      let rest = lines_alike x y hx hy ls ms r t p q h.1 k.1 one.1 in
      ((one.0, rest.0), rest.1)
  lines_alike x y hx hy (Label f n ∷ ls) (Instr j ∷ ms) r t p q h k e =
      absurd (label_and_instr f n fb j (flat_map (line_text fa) ls ++ r) (flat_map (line_text fb) ms ++ t)
      (sym (append_assoc (line_text fa (Label f n)) (flat_map (line_text fa) ls) r) ∙ e ∙ append_assoc (line_text fb (Instr j)) (flat_map (line_text fb) ms) t))
  lines_alike x y hx hy (Instr i ∷ ls) (Label g m ∷ ms) r t p q h k e =
      absurd (label_and_instr g m fa i (flat_map (line_text fb) ms ++ t) (flat_map (line_text fa) ls ++ r)
      (sym (append_assoc (line_text fb (Label g m)) (flat_map (line_text fb) ms) t) ∙ sym e ∙ append_assoc (line_text fa (Instr i)) (flat_map (line_text fa) ls) r))

  function_shape : (fs : List AsmFunction) (g : AsmFunction) (rest : List ℕ) → function_text fs g ++ rest ≡ codes "c_" ++ (g.name ++ (58 ∷ (10 ∷ (flat_map (line_text fs) g.lines ++ rest))))
  function_shape fs g rest = grouped (codes "c_") g.name (codes ":\n") (flat_map (line_text fs) g.lines) rest
    where
      grouped : (u v w z r : List ℕ) → (u ++ v ++ w ++ z) ++ r ≡ u ++ (v ++ (w ++ (z ++ r)))
      grouped u v w z r = simp append_assoc

  next_begins : (fs gs : List AsmFunction) (r : List ℕ) → IsNext (flat_map (function_text fs) gs ++ (data_text ++ r))
  next_begins fs [] r = inr (refl, refl)
  next_begins fs (g ∷ gs) r = inl refl

  functions_alike : (here there : ℕ) (gs hs : List AsmFunction) (r t : List ℕ) → Good fa here gs → Good fb there hs
      → flat_map (function_text fa) gs ++ (data_text ++ r) ≡ flat_map (function_text fb) hs ++ (data_text ++ t) → AlikeFunctions fa fb gs hs × (r ≡ t)
  functions_alike x y [] [] r t p q e = (tt, append_cancel_left data_text r t e)
  functions_alike x y [] (h ∷ hs) r t p q e = let differ : 9 ≡ 99 = ap (λ s. get_or s 0 0) e in absurd (omega (arith, differ))
  functions_alike x y (g ∷ gs) [] r t p q e = let differ : 99 ≡ 9 = ap (λ s. get_or s 0 0) e in absurd (omega (arith, differ))
  functions_alike x y (g ∷ gs) (h ∷ hs) r t p q e =
      let ga = flat_map (function_text fa) gs ++ (data_text ++ r) in
      let gb = flat_map (function_text fb) hs ++ (data_text ++ t) in
      let all =
      sym (function_shape fa g ga) ∙ sym (append_assoc (function_text fa g) (flat_map (function_text fa) gs) (data_text ++ r)) ∙ e
      ∙ append_assoc (function_text fb h) (flat_map (function_text fb) hs) (data_text ++ t) ∙ function_shape fb h gb in
      let parts = split ends_word g.name h.name _ _ 58 58 (identifier_is_word g.name p.1.1.0) (identifier_is_word h.name q.1.1.0) refl refl (append_cancel_left (codes "c_") _ _ all) in
      let lines = lines_alike x y p.1.0 q.1.0 g.lines h.lines ga gb (next_begins fa gs r) (next_begins fb hs t) p.0 q.0 (append_cancel_left (58 ∷ (10 ∷ [])) _ _ parts.1) in
      let rest = functions_alike (suc x) (suc y) gs hs r t p.1.1.1 q.1.1.1 lines.1 in
      ((parts.0, (lines.0, rest.0)), rest.1)

  names_same : (gs hs : List AsmFunction) → AlikeFunctions fa fb gs hs → names_of gs ≡ names_of hs
  names_same [] [] h = refl
  names_same [] (k ∷ hs) h = absurd h
  names_same (g ∷ gs) [] h = absurd h
  names_same (g ∷ gs) (k ∷ hs) h = let rest = names_same gs hs h.1.1 in let name = h.0 in cc (name, rest)

  module _ (same : names_of fa ≡ names_of fb) where
    lines_same : (x y : ℕ) (ls ms : List AsmLine) → AllByRecursion (IsLine fa x) ls → AllByRecursion (IsLine fb y) ms → AlikeLines fa fb ls ms → ls ≡ ms
    lines_same x y [] [] h k e = refl
    lines_same x y [] (m ∷ ms) h k e = absurd e
    lines_same x y (l ∷ ls) [] h k e = absurd e
    lines_same x y (Label f n ∷ ls) (Label g m ∷ ms) h k e =
        let rest = lines_same x y ls ms h.1 k.1 e.1 in
        let number = e.0.0 in
        let label = e.0.1 in
        cc (rest, number, label)
    lines_same x y (Instr i ∷ ls) (Instr j ∷ ms) h k e =
        let rest = lines_same x y ls ms h.1 k.1 e.1 in
        let instr = alike_is_same fa fb a b same i j h.0 k.0 e.0 in
        cc (rest, instr)
    lines_same x y (Label f n ∷ ls) (Instr j ∷ ms) h k e = absurd e.0
    lines_same x y (Instr i ∷ ls) (Label g m ∷ ms) h k e = absurd e.0

    functions_same : (x y : ℕ) (gs hs : List AsmFunction) → Good fa x gs → Good fb y hs → AlikeFunctions fa fb gs hs → printed gs ≡ printed hs
    functions_same x y [] [] p q e = refl
    functions_same x y [] (h ∷ hs) p q e = absurd e
    functions_same x y (g ∷ gs) [] p q e = absurd e
    functions_same x y (g ∷ gs) (h ∷ hs) p q e =
        let rest = functions_same (suc x) (suc y) gs hs p.1.1.1 q.1.1.1 e.1.1 in
        let lines = lines_same x y g.lines h.lines p.0 q.0 e.1.0 in
        ap (λ n. (n, g.lines) ∷ printed gs) e.0 ∙ ap (λ l. (h.name, l) ∷ printed gs) lines ∙ ap (λ fs. (h.name, h.lines) ∷ fs) rest

-- the head of a unit, whatever number is in it
past_buffer : (m n : ℕ) (x y : List ℕ) → code_text [] (buffer_code m) ++ x ≡ code_text [] (buffer_code n) ++ y → x ≡ y
past_buffer m n x y e = append_cancel_left (41 ∷ (10 ∷ [])) x y second.1
  where
    grouped : (h c i d l z : List ℕ) → (h ++ (c ++ (i ++ (d ++ l)))) ++ z ≡ h ++ (c ++ (i ++ (d ++ (l ++ z))))
    grouped h c i d l z = simp append_assoc

    shape : (k : ℕ) (z : List ℕ) → code_text [] (buffer_code k) ++ z ≡ codes "\tlui a1, %hi(" ++ (cdata_text k ++ (codes ")\n\taddi a1, a1, %lo(" ++ (cdata_text k ++ (codes ")\n" ++ z))))
    shape k z = ap (λ t. t ++ z) (sym (buffer_lines k)) ∙ grouped (codes "\tlui a1, %hi(") (cdata_text k) (codes ")\n\taddi a1, a1, %lo(") (cdata_text k) (codes ")\n") z

    first : (cdata_text m ≡ cdata_text n) × (codes ")\n\taddi a1, a1, %lo(" ++ (cdata_text m ++ (codes ")\n" ++ x)) ≡ codes ")\n\taddi a1, a1, %lo(" ++ (cdata_text n ++ (codes ")\n" ++ y)))
    first = split ends_word (cdata_text m) (cdata_text n) _ _ 41 41 (cdata_is_word m) (cdata_is_word n) refl refl (append_cancel_left (codes "\tlui a1, %hi(") _ _ (sym (shape m x) ∙ e ∙ shape n y))

    second : (cdata_text m ≡ cdata_text n) × (codes ")\n" ++ x ≡ codes ")\n" ++ y)
    second = split ends_word (cdata_text m) (cdata_text n) _ _ 41 41 (cdata_is_word m) (cdata_is_word n) refl refl (append_cancel_left (codes ")\n\taddi a1, a1, %lo(") _ _ first.1)

heads : (e g1 g2 p1 p2 b c E F G H P Q x y : List ℕ) → e ≡ E → e ≡ F → g1 ++ (b ++ g2) ≡ G → g1 ++ (c ++ g2) ≡ H → p1 ++ (b ++ p2) ≡ P → p1 ++ (c ++ p2) ≡ Q
    → ((u v : List ℕ) → b ++ u ≡ c ++ v → u ≡ v) → (E ++ G ++ P) ++ x ≡ (F ++ H ++ Q) ++ y → x ≡ y
heads e g1 g2 p1 p2 b c E F G H P Q x y hE hF hG hH hP hQ past all =
    append_cancel_left p2 x y (past (p2 ++ x) (p2 ++ y) (append_cancel_left p1 _ _ (append_cancel_left g2 _ _ (past _ _ (append_cancel_left g1 _ _ (append_cancel_left e _ _ (sym (grouped b x) ∙ fixed ∙ grouped c y)))))))
  where
    grouped : (d z : List ℕ) → (e ++ (g1 ++ (d ++ g2)) ++ (p1 ++ (d ++ p2))) ++ z ≡ e ++ (g1 ++ (d ++ (g2 ++ (p1 ++ (d ++ (p2 ++ z))))))
    grouped d z = simp append_assoc

    fixed : (e ++ (g1 ++ (b ++ g2)) ++ (p1 ++ (b ++ p2))) ++ x ≡ (e ++ (g1 ++ (c ++ g2)) ++ (p1 ++ (c ++ p2))) ++ y
    fixed =
        ap (λ t. (t ++ (g1 ++ (b ++ g2)) ++ (p1 ++ (b ++ p2))) ++ x) hE ∙ ap (λ t. (E ++ t ++ (p1 ++ (b ++ p2))) ++ x) hG ∙ ap (λ t. (E ++ G ++ t) ++ x) hP ∙ all
        ∙ sym (ap (λ t. (t ++ (g1 ++ (c ++ g2)) ++ (p1 ++ (c ++ p2))) ++ y) hF ∙ ap (λ t. (F ++ t ++ (p1 ++ (c ++ p2))) ++ y) hH ∙ ap (λ t. (F ++ H ++ t) ++ y) hQ)

start_same : (fa fb : List AsmFunction) (ma mb ba bb : ℕ) (x y : List ℕ) → name_of (slice_get fa ma) ≡ codes "main" → name_of (slice_get fb mb) ≡ codes "main"
    → start_text fa ma ba ++ x ≡ start_text fb mb bb ++ y → x ≡ y
start_same fa fb ma mb ba bb x y ha hb e =
    heads entry_bytes getchar_front getchar_back putchar_front putchar_back (code_text [] (buffer_code ba)) (code_text [] (buffer_code bb)) (entry_text fa ma) (entry_text fb mb) (getchar_text ba) (getchar_text bb) (putchar_text ba) (putchar_text bb) x y
    (entry_lines fa ma ha) (entry_lines fb mb hb) (getchar_lines ba) (getchar_lines bb) (putchar_lines ba) (putchar_lines bb) (past_buffer ba bb) e

-- items of the data
item_first : (front u v x y : List ℕ) → Free ends_word u → Free ends_word v → (front ++ u ++ codes "\n") ++ x ≡ (front ++ v ++ codes "\n") ++ y → (u ≡ v) × (x ≡ y)
item_first front u v x y h k e = line_first u v x y (word_in_line u h) (word_in_line v k) (append_cancel_left front _ _ (sym (grouped u x) ∙ e ∙ grouped v y))
  where
    grouped : (w z : List ℕ) → (front ++ w ++ codes "\n") ++ z ≡ front ++ (w ++ (10 ∷ z))
    grouped w z = append_assoc (front ++ w) (codes "\n") z ∙ append_assoc front w (10 ∷ z)

kinds : (x y : List ℕ) (m n : ℕ) → (m == n) ≡ false → x ≡ y → get_or x 2 0 ≡ m → get_or y 2 0 ≡ n → ⊥
kinds x y m n f e h k = let same : get_or x 2 0 ≡ get_or y 2 0 = ap (λ t. get_or t 2 0) e in absurd (grind (arith, nat_tests))

one_item : (i j : DataItem) (x y : List ℕ) → IsItem i → IsItem j → item_text i ++ x ≡ item_text j ++ y → (i ≡ j) × (x ≡ y)
one_item (Zero m) (Zero n) x y h k e =
    let f = item_first (codes "\t.zero ") (decimal m) (decimal n) x y (decimal_is_word m) (decimal_is_word n) e in
    (ap Zero (decimal_injective m n (omega (arith, h.1)) (omega (arith, k.1)) f.0), f.1)
one_item (Byte m) (Byte n) x y h k e =
    let f = item_first (codes "\t.byte ") (decimal m) (decimal n) x y (decimal_is_word m) (decimal_is_word n) e in
    (ap Byte (decimal_injective m n (omega (arith, h.1)) (omega (arith, k.1)) f.0), f.1)
one_item (Address m) (Address n) x y h k e =
    let f = item_first (codes "\t.word ") (cdata_text m) (cdata_text n) x y (cdata_is_word m) (cdata_is_word n) e in
    (ap Address (one_cdata m n (omega (arith, h)) (omega (arith, k)) f.0), f.1)
one_item (Zero m) (Byte n) x y h k e = absurd (kinds _ _ 122 98 refl e refl refl)
one_item (Zero m) (Address n) x y h k e = absurd (kinds _ _ 122 119 refl e refl refl)
one_item (Byte m) (Zero n) x y h k e = absurd (kinds _ _ 98 122 refl e refl refl)
one_item (Byte m) (Address n) x y h k e = absurd (kinds _ _ 98 119 refl e refl refl)
one_item (Address m) (Zero n) x y h k e = absurd (kinds _ _ 119 122 refl e refl refl)
one_item (Address m) (Byte n) x y h k e = absurd (kinds _ _ 119 98 refl e refl refl)

not_empty : (i : DataItem) (x : List ℕ) → [] ≡ item_text i ++ x → ⊥
not_empty (Zero n) x e = absurd (cc e)
not_empty (Byte n) x e = absurd (cc e)
not_empty (Address n) x e = absurd (cc e)

items_same : (is js : List DataItem) → AllByRecursion IsItem is → AllByRecursion IsItem js → flat_map item_text is ≡ flat_map item_text js → is ≡ js
items_same [] [] h k e = refl
items_same [] (j ∷ js) h k e = absurd (not_empty j (flat_map item_text js) e)
items_same (i ∷ is) [] h k e = absurd (not_empty i (flat_map item_text is) (sym e))
items_same (i ∷ is) (j ∷ js) h k e =
    let one = one_item i j (flat_map item_text is) (flat_map item_text js) h.0 k.0 e in
    let rest = items_same is js h.1 k.1 one.1 in
    let item = one.0 in
    cc (item, rest)

-- symbols that are there are known
some_inside : {X Y : Type 0} (f : X → Y) (o : Option X) → IsSome (option_map f o) → IsSome o
some_inside f None h = h
some_inside f (Some x) h = refl

label_small : (fs : List AsmFunction) (here label : ℕ) (lines : List AsmLine) → AllByRecursion (IsLine fs here) lines → IsSome (label_index lines label) → label < 2 ^ 64
label_small fs here label [] h s = absurd (cc s)
label_small fs here label (Instr i ∷ lines) h s = label_small fs here label lines h.1 (some_inside suc (label_index lines label) s)
label_small fs here label (Label f n ∷ lines) h s = by (label_small fs here label lines h.1) (n == label) refl s
  where
    by : (IsSome (label_index lines label) → label < 2 ^ 64) → (b : Bool) → (n == label) ≡ b → IsSome (cond b (Some 0) (label_index lines label)) → label < 2 ^ 64
    by later true e k = let same : n ≡ label = grind (arith, nat_tests) in let small = h.0.1 in omega (arith, same, small)
    by later false e k = later k

module _ (asm : AsmUnit) (is : IsWellFormed asm) where
  block_known : (number label : ℕ) → IsThere asm.functions (Block number label) → IsKnown asm.functions (Block number label)
  block_known number label h = by (slice_get asm.functions number) refl h
    where
      by : (o : Option AsmFunction) → slice_get asm.functions number ≡ o → IsSome (option_and_then (λ function. option_map (λ n. function_index asm.functions number + n) (label_index function.lines label)) o) → (number < 2 ^ 64) × (label < 2 ^ 64)
      by None e k = absurd (cc k)
      by (Some function) e k =
          let within = slice_get_within asm.functions number function e in
          let count = is.count in
          (omega (arith, within, count), label_small asm.functions number label function.lines (is.functions number function e).lines (some_inside (λ n. function_index asm.functions number + n) (label_index function.lines label) k))

  symbol_known : (s : Symbol) → IsThere asm.functions s → IsKnown asm.functions s
  symbol_known (Block number label) h = block_known number label h
  symbol_known (Func number) h = h
  symbol_known GetChar h = tt
  symbol_known PutChar h = tt
  symbol_known (Cdata offset) h = h

  are_known : AreKnown asm.functions
  are_known = record { names = is.names; known = symbol_known }

  all_good : Good asm.functions 0 asm.functions
  all_good =
      let count = is.count in
      good asm.functions asm.functions 0 (omega (arith, count))
      (λ n f e. let from : n ≡ 0 + n = omega arith in subst (λ k. IsFunction asm.functions k f) from (is.functions n f e)) is.names.identifiers

pub one_unit : OneUnitPerText
unfolding text_of
one_unit a b wa wb e = (functions_same fa fb ka kb names 0 0 fa fb ga gb alike.0, items_same a.items b.items wa.items.each wb.items.each alike.1)
  where
    fa : List AsmFunction
    fa = a.functions

    fb : List AsmFunction
    fb = b.functions

    ka : AreKnown fa
    ka = are_known a wa

    kb : AreKnown fb
    kb = are_known b wb

    ga : Good fa 0 fa
    ga = all_good a wa

    gb : Good fb 0 fb
    gb = all_good b wb

    ma : ℕ
    ma = main_number fa

    mb : ℕ
    mb = main_number fb

    ba : ℕ
    ba = buffer_offset a.items

    bb : ℕ
    bb = buffer_offset b.items

    grouped : (s f d i : List ℕ) → s ++ f ++ d ++ i ≡ s ++ (f ++ (d ++ i))
    grouped s f d i = append_assoc (s ++ f) d i ∙ append_assoc s f (d ++ i)

    behind : flat_map (function_text fa) fa ++ (data_text ++ flat_map item_text a.items) ≡ flat_map (function_text fb) fb ++ (data_text ++ flat_map item_text b.items)
    behind =
        start_same fa fb ma mb ba bb (flat_map (function_text fa) fa ++ (data_text ++ flat_map item_text a.items)) (flat_map (function_text fb) fb ++ (data_text ++ flat_map item_text b.items))
        (main_has_its_name fa wa.names.main) (main_has_its_name fb wb.names.main)
        (sym (grouped (start_text fa ma ba) (flat_map (function_text fa) fa) data_text (flat_map item_text a.items)) ∙ e ∙ grouped (start_text fb mb bb) (flat_map (function_text fb) fb) data_text (flat_map item_text b.items))

    alike : AlikeFunctions fa fb fa fb × (flat_map item_text a.items ≡ flat_map item_text b.items)
    alike = functions_alike fa fb ka kb 0 0 fa fb (flat_map item_text a.items) (flat_map item_text b.items) ga gb behind

    names : names_of fa ≡ names_of fb
    names = names_same fa fb ka kb fa fb alike.0
