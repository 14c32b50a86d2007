-- The text of an instruction: it is of one only, where functions have the same names.
use Rattle.std.proofs.Common.{◌≡◌, ℕ, ◌^◌, ◌<◌, ◌⊎◌, inl, inr, true, List, [], ◌∷◌, ◌++◌, get_or, refl, sym, ap, ◌∙◌, subst, arith, lit<, pos, negsuc, ◌≤ℤ◌, append_assoc, ⊎_elim}
use Rattle.std.specs.Prelude.{ℤ, codes}
use Rattle.std.specs.Int.Signed.{mag}
use Rattle.std.specs.Fmt.{signed_decimal}
use Rattle.std.proofs.lemmas.Bool.Decides.{nat_tests}
use Rattle.std.proofs.lemmas.Fmt.{signed_decimal_injective}
use Rattle.std.proofs.lemmas.Int.{ints}
use Rattle.std.proofs.lemmas.List.{append_cancel_left, append_cancel_right}
use Rattle.rv_code.specs.declared.assembly.Symbol.{Symbol}
use Rattle.rv_code.specs.declared.assembly.Symbol.TheVariants.{Block, Func, GetChar, PutChar, Cdata}
use Rattle.rv_code.specs.declared.assembly.Operand.{Operand}
use Rattle.rv_code.specs.declared.assembly.Operand.TheVariants.{Number, High, Low, To}
use Rattle.rv_code.specs.declared.assembly.AsmInstr.{AsmInstr}
use Rattle.rv_code.specs.declared.assembly.AsmFunction.{AsmFunction}
use Rattle.rv_code.specs.declared.form.Form.{Form}
use Rattle.rv_code.specs.declared.form.Form.TheVariants.{Upper, Jump, Indirect, Store, Branch, Immediate, Shift, Registers, Environment}
use Rattle.rv_code.specs.Forms.{name_text, form_of}
use Rattle.rv_code.specs.Registers.{register_text}
use Rattle.rv_code.specs.Text.{cdata_text, symbol_text, operand_text, comma, fields_text, instr_text}
use Rattle.rv_code.specs.WellFormed.{names_of, AreNames, IsThere, IsTarget, IsUpperImmediate, IsImmediate, IsAmount, HasForm, IsInstr}
use Rattle.rv_code.proofs.Splits.{Free, free_both, split, ends_line, ends_word, word_in_line, signed_is_word, signed_begins, one_name, name_is_word, one_register, register_is_word}
use Rattle.rv_code.proofs.Symbols.{IsKnown, symbol_is_word, one_symbol}

-- an operand that its text tells
abbrev pub IsPlain : List AsmFunction → Operand → Type 0
IsPlain functions (Number value) = mag value < 2 ^ 63
IsPlain functions (High symbol) = IsKnown functions symbol
IsPlain functions (Low symbol) = IsKnown functions symbol
IsPlain functions (To symbol) = IsKnown functions symbol

-- functions with names, in which each symbol that is there is known
pub record AreKnown (functions : List AsmFunction) : Type 0 where
  pub names : AreNames (names_of functions)
  pub known : (symbol : Symbol) → IsThere functions symbol → IsKnown functions symbol

bounded : (value low : ℤ) (top : ℕ) → top < 2 ^ 63 → negsuc 2047 ≤ℤ low → low ≤ℤ value → value ≤ℤ pos top → mag value < 2 ^ 63
bounded (pos n) low top t a h k = omega (arith, ints)
bounded (negsuc n) low top t a h k = omega (arith, ints)

module _ (fs : List AsmFunction) (are : AreKnown fs) where
  target_is_plain : (o : Operand) → IsTarget fs o → IsPlain fs o
  target_is_plain (Number v) h = absurd h
  target_is_plain (High s) h = absurd h
  target_is_plain (Low s) h = absurd h
  target_is_plain (To (Block f n)) h = are.known (Block f n) h
  target_is_plain (To (Func i)) h = are.known (Func i) h
  target_is_plain (To GetChar) h = tt
  target_is_plain (To PutChar) h = tt
  target_is_plain (To (Cdata n)) h = absurd h

  upper_is_plain : (o : Operand) → IsUpperImmediate fs o → IsPlain fs o
  upper_is_plain (Number v) h = bounded v (pos 0) 1048575 (lit< tt) (omega (arith, ints)) h.0 h.1
  upper_is_plain (High s) h = are.known s h
  upper_is_plain (Low s) h = absurd h
  upper_is_plain (To s) h = absurd h

  immediate_is_plain : (o : Operand) → IsImmediate fs o → IsPlain fs o
  immediate_is_plain (Number v) h = bounded v (negsuc 2047) 2047 (lit< tt) (omega (arith, ints)) h.0 h.1
  immediate_is_plain (Low s) h = are.known s h
  immediate_is_plain (High s) h = absurd h
  immediate_is_plain (To s) h = absurd h

  amount_is_plain : (o : Operand) → IsAmount o → IsPlain fs o
  amount_is_plain (Number v) h = bounded v (pos 0) 31 (lit< tt) (omega (arith, ints)) h.0 h.1
  amount_is_plain (Low s) h = absurd h
  amount_is_plain (High s) h = absurd h
  amount_is_plain (To s) h = absurd h

  none_is_plain : (o : Operand) → o ≡ Number (pos 0) → IsPlain fs o
  none_is_plain o e = subst (IsPlain fs) (sym e) (lit< tt)

  pub operand_is_plain : (form : Form) (i : AsmInstr) → HasForm fs form i → IsPlain fs i.operand
  operand_is_plain Upper i h = upper_is_plain i.operand h.2
  operand_is_plain Jump i h = target_is_plain i.operand h.2
  operand_is_plain Indirect i h = immediate_is_plain i.operand h.1
  operand_is_plain Store i h = immediate_is_plain i.operand h.1
  operand_is_plain Branch i h = target_is_plain i.operand h.1
  operand_is_plain Immediate i h = immediate_is_plain i.operand h.1
  operand_is_plain Shift i h = amount_is_plain i.operand h.1
  operand_is_plain Registers i h = none_is_plain i.operand h
  operand_is_plain Environment i h = none_is_plain i.operand h.3

  is_word : (s : Symbol) → IsKnown fs s → Free ends_word (symbol_text fs s)
  is_word = symbol_is_word fs are.names.identifiers

  part_in_line : (front : List ℕ) (s : Symbol) → Free ends_line front → IsKnown fs s → Free ends_line ((front ++ symbol_text fs s) ++ codes ")")
  part_in_line front s h k = free_both ends_line (front ++ symbol_text fs s) (codes ")") (free_both ends_line front (symbol_text fs s) h (word_in_line (symbol_text fs s) (is_word s k))) (refl, tt)

  -- an operand is within its line
  operand_in_line : (o : Operand) → IsPlain fs o → Free ends_line (operand_text fs o)
  operand_in_line (Number v) h = word_in_line (signed_decimal v) (signed_is_word v)
  operand_in_line (High s) h = part_in_line (codes "%hi(") s (refl, (refl, (refl, (refl, tt)))) h
  operand_in_line (Low s) h = part_in_line (codes "%lo(") s (refl, (refl, (refl, (refl, tt)))) h
  operand_in_line (To s) h = word_in_line (symbol_text fs s) (is_word s h)

  -- the first byte of a symbol: `.` or `c`
  symbol_begins : (s : Symbol) → (get_or (symbol_text fs s) 0 0 ≡ 46) ⊎ (get_or (symbol_text fs s) 0 0 ≡ 99)
  unfolding cdata_text
  symbol_begins (Block f n) = inl refl
  symbol_begins (Func i) = inr refl
  symbol_begins GetChar = inr refl
  symbol_begins PutChar = inr refl
  symbol_begins (Cdata n) = inr refl

-- two instructions with one text, but for their operands
pub record Alike (fa fb : List AsmFunction) (i j : AsmInstr) : Type 0 where
  pub name : i.name ≡ j.name
  pub rd : i.rd ≡ j.rd
  pub rs1 : i.rs1 ≡ j.rs1
  pub rs2 : i.rs2 ≡ j.rs2
  pub operand : operand_text fa i.operand ≡ operand_text fb j.operand

-- the shapes of lines
shape2 : (a o r : List ℕ) → (codes " " ++ a ++ comma ++ o) ++ (10 ∷ r) ≡ 32 ∷ (a ++ (44 ∷ (32 ∷ (o ++ (10 ∷ r)))))
shape2 a o r = simp append_assoc

shape3 : (a b o r : List ℕ) → (codes " " ++ a ++ comma ++ b ++ comma ++ o) ++ (10 ∷ r) ≡ 32 ∷ (a ++ (44 ∷ (32 ∷ (b ++ (44 ∷ (32 ∷ (o ++ (10 ∷ r))))))))
shape3 a b o r = simp append_assoc

shape_based : (a o b r : List ℕ) → (codes " " ++ a ++ comma ++ o ++ codes "(" ++ b ++ codes ")") ++ (10 ∷ r) ≡ 32 ∷ (a ++ (44 ∷ (32 ∷ ((o ++ (40 ∷ (b ++ (41 ∷ [])))) ++ (10 ∷ r)))))
shape_based a o b r = simp append_assoc

pub line_shape : (n o r : List ℕ) → (codes "\t" ++ n ++ o ++ codes "\n") ++ r ≡ 9 ∷ (n ++ (o ++ (10 ∷ r)))
line_shape n o r = simp append_assoc

-- a word and a comma, and what follows
word_first : (u v x y : List ℕ) → Free ends_word u → Free ends_word v → u ++ (44 ∷ (32 ∷ x)) ≡ v ++ (44 ∷ (32 ∷ y)) → (u ≡ v) × (x ≡ y)
word_first u v x y h k e = let parts = split ends_word u v (32 ∷ x) (32 ∷ y) 44 44 h k refl refl e in (parts.0, append_cancel_left (44 ∷ (32 ∷ [])) x y parts.1)

-- the rest of a line, and what follows
pub line_first : (u v x y : List ℕ) → Free ends_line u → Free ends_line v → u ++ (10 ∷ x) ≡ v ++ (10 ∷ y) → (u ≡ v) × (x ≡ y)
line_first u v x y h k e = let parts = split ends_line u v x y 10 10 h k refl refl e in (parts.0, append_cancel_left (10 ∷ []) x y parts.1)

blank : (x y : List ℕ) → 32 ∷ x ≡ 32 ∷ y → x ≡ y
blank x y e = append_cancel_left (32 ∷ []) x y e

not_percent : (z : ℤ) (x : List ℕ) → mag z < 2 ^ 63 → get_or (signed_decimal z ++ x) 0 0 ≡ 37 → ⊥
not_percent z x h e =
    let b = signed_begins z h in
    let first : b.0 ≡ 37 = ap (λ t. get_or (t ++ x) 0 0) (sym b.2) ∙ e in
    omega (arith, first, b.3)

not_symbol : (z : ℤ) (text : List ℕ) → mag z < 2 ^ 63 → (get_or text 0 0 ≡ 46) ⊎ (get_or text 0 0 ≡ 99) → signed_decimal z ≡ text → ⊥
not_symbol z text h which e =
    let b = signed_begins z h in
    let first : b.0 ≡ get_or text 0 0 = ap (λ t. get_or t 0 0) (sym b.2 ∙ e) in
    ⊎_elim (λ dot. let same : b.0 ≡ 46 = first ∙ dot in let no = b.5 in absurd (grind (arith, nat_tests))) (λ c. omega (arith, first, c, b.4)) which

module _ (fa fb : List AsmFunction) (a : AreKnown fa) (b : AreKnown fb) where
  -- an operand in front of a register in parentheses
  based : (o p : Operand) (u v : List ℕ) → IsImmediate fa o → IsImmediate fb p → operand_text fa o ++ (40 ∷ (u ++ (41 ∷ []))) ≡ operand_text fb p ++ (40 ∷ (v ++ (41 ∷ []))) → (operand_text fa o ≡ operand_text fb p) × (u ≡ v)
  based (Number y) (Number z) u v h k e =
      let parts = split ends_word (signed_decimal y) (signed_decimal z) (u ++ (41 ∷ [])) (v ++ (41 ∷ [])) 40 40 (signed_is_word y) (signed_is_word z) refl refl e in
      (parts.0, append_cancel_right u v (41 ∷ []) (append_cancel_left (40 ∷ []) (u ++ (41 ∷ [])) (v ++ (41 ∷ [])) parts.1))
  based (Number y) (Low s) u v h k e = absurd (not_percent y (40 ∷ (u ++ (41 ∷ []))) (immediate_is_plain fa a (Number y) h) (ap (λ t. get_or t 0 0) e))
  based (Low s) (Number z) u v h k e = absurd (not_percent z (40 ∷ (v ++ (41 ∷ []))) (immediate_is_plain fb b (Number z) k) (ap (λ t. get_or t 0 0) (sym e)))
  based (Low s) (Low t) u v h k e = (ap (λ x. (codes "%lo(" ++ x) ++ codes ")") parts.0, append_cancel_right u v (41 ∷ []) (append_cancel_left (41 ∷ (40 ∷ [])) (u ++ (41 ∷ [])) (v ++ (41 ∷ [])) parts.1))
    where
      grouped : (x w : List ℕ) → ((codes "%lo(" ++ x) ++ codes ")") ++ (40 ∷ w) ≡ codes "%lo(" ++ (x ++ (41 ∷ (40 ∷ w)))
      grouped x w = append_assoc (codes "%lo(" ++ x) (codes ")") (40 ∷ w) ∙ append_assoc (codes "%lo(") x (41 ∷ (40 ∷ w))

      rest : symbol_text fa s ++ (41 ∷ (40 ∷ (u ++ (41 ∷ [])))) ≡ symbol_text fb t ++ (41 ∷ (40 ∷ (v ++ (41 ∷ []))))
      rest = append_cancel_left (codes "%lo(") _ _ (sym (grouped (symbol_text fa s) (u ++ (41 ∷ []))) ∙ e ∙ grouped (symbol_text fb t) (v ++ (41 ∷ [])))

      parts : (symbol_text fa s ≡ symbol_text fb t) × (41 ∷ (40 ∷ (u ++ (41 ∷ []))) ≡ 41 ∷ (40 ∷ (v ++ (41 ∷ []))))
      parts = split ends_word (symbol_text fa s) (symbol_text fb t) _ _ 41 41 (is_word fa a s (a.known s h)) (is_word fb b t (b.known t k)) refl refl rest
  based (High s) p u v h k e = absurd h
  based (To s) p u v h k e = absurd h
  based (Number y) (High s) u v h k e = absurd k
  based (Number y) (To s) u v h k e = absurd k
  based (Low s) (High t) u v h k e = absurd k
  based (Low s) (To t) u v h k e = absurd k

  based_in_line : (fs : List AsmFunction) → AreKnown fs → (o : Operand) (r : ℕ) → IsImmediate fs o → r < 32 → Free ends_line (operand_text fs o ++ (40 ∷ (register_text r ++ (41 ∷ []))))
  based_in_line fs are o r h k =
      free_both ends_line (operand_text fs o) (40 ∷ (register_text r ++ (41 ∷ []))) (operand_in_line fs are o (immediate_is_plain fs are o h))
      (refl, free_both ends_line (register_text r) (41 ∷ []) (word_in_line (register_text r) (register_is_word r k)) (refl, tt))

  -- the fields of two lines, by their form
  two_fields : (m n : ℕ) (o p : Operand) (r t : List ℕ) → m < 32 → n < 32 → IsPlain fa o → IsPlain fb p
      → (codes " " ++ register_text m ++ comma ++ operand_text fa o) ++ (10 ∷ r) ≡ (codes " " ++ register_text n ++ comma ++ operand_text fb p) ++ (10 ∷ t)
      → (m ≡ n) × ((operand_text fa o ≡ operand_text fb p) × (r ≡ t))
  two_fields m n o p r t hm hn h k e =
      let all = blank _ _ (sym (shape2 (register_text m) (operand_text fa o) r) ∙ e ∙ shape2 (register_text n) (operand_text fb p) t) in
      let parts = word_first (register_text m) (register_text n) _ _ (register_is_word m hm) (register_is_word n hn) all in
      (one_register m n hm hn parts.0, line_first (operand_text fa o) (operand_text fb p) r t (operand_in_line fa a o h) (operand_in_line fb b p k) parts.1)

  based_fields : (m n x y : ℕ) (o p : Operand) (r t : List ℕ) → m < 32 → n < 32 → x < 32 → y < 32 → IsImmediate fa o → IsImmediate fb p
      → (codes " " ++ register_text m ++ comma ++ operand_text fa o ++ codes "(" ++ register_text x ++ codes ")") ++ (10 ∷ r) ≡ (codes " " ++ register_text n ++ comma ++ operand_text fb p ++ codes "(" ++ register_text y ++ codes ")") ++ (10 ∷ t)
      → (m ≡ n) × ((x ≡ y) × ((operand_text fa o ≡ operand_text fb p) × (r ≡ t)))
  based_fields m n x y o p r t hm hn hx hy h k e =
      let all = blank _ _ (sym (shape_based (register_text m) (operand_text fa o) (register_text x) r) ∙ e ∙ shape_based (register_text n) (operand_text fb p) (register_text y) t) in
      let parts = word_first (register_text m) (register_text n) _ _ (register_is_word m hm) (register_is_word n hn) all in
      let line = line_first _ _ r t (based_in_line fa a o x h hx) (based_in_line fb b p y k hy) parts.1 in
      let both = based o p (register_text x) (register_text y) h k line.0 in
      (one_register m n hm hn parts.0, (one_register x y hx hy both.1, (both.0, line.1)))

  three_words : (m n x y : ℕ) (u v r t : List ℕ) → m < 32 → n < 32 → x < 32 → y < 32 → Free ends_line u → Free ends_line v
      → (codes " " ++ register_text m ++ comma ++ register_text x ++ comma ++ u) ++ (10 ∷ r) ≡ (codes " " ++ register_text n ++ comma ++ register_text y ++ comma ++ v) ++ (10 ∷ t)
      → (m ≡ n) × ((x ≡ y) × ((u ≡ v) × (r ≡ t)))
  three_words m n x y u v r t hm hn hx hy h k e =
      let all = blank _ _ (sym (shape3 (register_text m) (register_text x) u r) ∙ e ∙ shape3 (register_text n) (register_text y) v t) in
      let first = word_first (register_text m) (register_text n) _ _ (register_is_word m hm) (register_is_word n hn) all in
      let second = word_first (register_text x) (register_text y) _ _ (register_is_word x hx) (register_is_word y hy) first.1 in
      (one_register m n hm hn first.0, (one_register x y hx hy second.0, line_first u v r t h k second.1))

  -- the fields of two instructions of one form
  one_fields : (form : Form) (i j : AsmInstr) (r t : List ℕ) → i.name ≡ j.name → IsInstr fa i → IsInstr fb j → HasForm fa form i → HasForm fb form j
      → fields_text (operand_text fa i.operand) form i ++ (10 ∷ r) ≡ fields_text (operand_text fb j.operand) form j ++ (10 ∷ t)
      → Alike fa fb i j × (r ≡ t)
  one_fields Upper i j r t n p q h k e =
      let f = two_fields i.rd j.rd i.operand j.operand r t p.rd q.rd (upper_is_plain fa a i.operand h.2) (upper_is_plain fb b j.operand k.2) e in
      (record { name = n; rd = f.0; rs1 = h.0 ∙ sym k.0; rs2 = h.1 ∙ sym k.1; operand = f.1.0 }, f.1.1)
  one_fields Jump i j r t n p q h k e =
      let f = two_fields i.rd j.rd i.operand j.operand r t p.rd q.rd (target_is_plain fa a i.operand h.2) (target_is_plain fb b j.operand k.2) e in
      (record { name = n; rd = f.0; rs1 = h.0 ∙ sym k.0; rs2 = h.1 ∙ sym k.1; operand = f.1.0 }, f.1.1)
  one_fields Indirect i j r t n p q h k e =
      let f = based_fields i.rd j.rd i.rs1 j.rs1 i.operand j.operand r t p.rd q.rd p.rs1 q.rs1 h.1 k.1 e in
      (record { name = n; rd = f.0; rs1 = f.1.0; rs2 = h.0 ∙ sym k.0; operand = f.1.1.0 }, f.1.1.1)
  one_fields Store i j r t n p q h k e =
      let f = based_fields i.rs2 j.rs2 i.rs1 j.rs1 i.operand j.operand r t p.rs2 q.rs2 p.rs1 q.rs1 h.1 k.1 e in
      (record { name = n; rd = h.0 ∙ sym k.0; rs1 = f.1.0; rs2 = f.0; operand = f.1.1.0 }, f.1.1.1)
  one_fields Branch i j r t n p q h k e =
      let f = three_words i.rs1 j.rs1 i.rs2 j.rs2 (operand_text fa i.operand) (operand_text fb j.operand) r t p.rs1 q.rs1 p.rs2 q.rs2 (operand_in_line fa a i.operand (target_is_plain fa a i.operand h.1)) (operand_in_line fb b j.operand (target_is_plain fb b j.operand k.1)) e in
      (record { name = n; rd = h.0 ∙ sym k.0; rs1 = f.0; rs2 = f.1.0; operand = f.1.1.0 }, f.1.1.1)
  one_fields Immediate i j r t n p q h k e =
      let f = three_words i.rd j.rd i.rs1 j.rs1 (operand_text fa i.operand) (operand_text fb j.operand) r t p.rd q.rd p.rs1 q.rs1 (operand_in_line fa a i.operand (immediate_is_plain fa a i.operand h.1)) (operand_in_line fb b j.operand (immediate_is_plain fb b j.operand k.1)) e in
      (record { name = n; rd = f.0; rs1 = f.1.0; rs2 = h.0 ∙ sym k.0; operand = f.1.1.0 }, f.1.1.1)
  one_fields Shift i j r t n p q h k e =
      let f = three_words i.rd j.rd i.rs1 j.rs1 (operand_text fa i.operand) (operand_text fb j.operand) r t p.rd q.rd p.rs1 q.rs1 (operand_in_line fa a i.operand (amount_is_plain fa a i.operand h.1)) (operand_in_line fb b j.operand (amount_is_plain fb b j.operand k.1)) e in
      (record { name = n; rd = f.0; rs1 = f.1.0; rs2 = h.0 ∙ sym k.0; operand = f.1.1.0 }, f.1.1.1)
  one_fields Registers i j r t n p q h k e =
      let f = three_words i.rd j.rd i.rs1 j.rs1 (register_text i.rs2) (register_text j.rs2) r t p.rd q.rd p.rs1 q.rs1 (word_in_line (register_text i.rs2) (register_is_word i.rs2 p.rs2)) (word_in_line (register_text j.rs2) (register_is_word j.rs2 q.rs2)) e in
      (record { name = n; rd = f.0; rs1 = f.1.0; rs2 = one_register i.rs2 j.rs2 p.rs2 q.rs2 f.1.1.0; operand = ap (operand_text fa) h ∙ sym (ap (operand_text fb) k) }, f.1.1.1)
  one_fields Environment i j r t n p q h k e =
      (record { name = n; rd = h.0 ∙ sym k.0; rs1 = h.1 ∙ sym k.1; rs2 = h.2 ∙ sym k.2; operand = ap (operand_text fa) h.3 ∙ sym (ap (operand_text fb) k.3) }, append_cancel_left (10 ∷ []) r t e)

  -- what stands behind a mnemonic stops a word
  fields_begin : (form : Form) (i : AsmInstr) (o r : List ℕ) → (c : ℕ) × (rest : List ℕ) × (fields_text o form i ++ (10 ∷ r) ≡ c ∷ rest) × (ends_word c ≡ true)
  fields_begin Upper i o r = (32, _, shape2 (register_text i.rd) o r, refl)
  fields_begin Jump i o r = (32, _, shape2 (register_text i.rd) o r, refl)
  fields_begin Indirect i o r = (32, _, shape_based (register_text i.rd) o (register_text i.rs1) r, refl)
  fields_begin Store i o r = (32, _, shape_based (register_text i.rs2) o (register_text i.rs1) r, refl)
  fields_begin Branch i o r = (32, _, shape3 (register_text i.rs1) (register_text i.rs2) o r, refl)
  fields_begin Immediate i o r = (32, _, shape3 (register_text i.rd) (register_text i.rs1) o r, refl)
  fields_begin Shift i o r = (32, _, shape3 (register_text i.rd) (register_text i.rs1) o r, refl)
  fields_begin Registers i o r = (32, _, shape3 (register_text i.rd) (register_text i.rs1) (register_text i.rs2) r, refl)
  fields_begin Environment i o r = (10, r, refl, refl)

  -- two lines of instructions
  pub one_instr : (i j : AsmInstr) (r t : List ℕ) → IsInstr fa i → IsInstr fb j → instr_text fa i ++ r ≡ instr_text fb j ++ t → Alike fa fb i j × (r ≡ t)
  one_instr i j r t p q e = one_fields (form_of i.name) i j r t same p q p.form form (rest ∙ ap (λ form. fields_text (operand_text fb j.operand) form j ++ (10 ∷ t)) (sym (ap form_of same)))
    where
      oi : List ℕ
      oi = operand_text fa i.operand

      oj : List ℕ
      oj = operand_text fb j.operand

      all : name_text i.name ++ (fields_text oi (form_of i.name) i ++ (10 ∷ r)) ≡ name_text j.name ++ (fields_text oj (form_of j.name) j ++ (10 ∷ t))
      all = append_cancel_left (9 ∷ []) _ _ (sym (line_shape (name_text i.name) (fields_text oi (form_of i.name) i) r) ∙ e ∙ line_shape (name_text j.name) (fields_text oj (form_of j.name) j) t)

      bi : (c : ℕ) × (rest : List ℕ) × (fields_text oi (form_of i.name) i ++ (10 ∷ r) ≡ c ∷ rest) × (ends_word c ≡ true)
      bi = fields_begin (form_of i.name) i oi r

      bj : (c : ℕ) × (rest : List ℕ) × (fields_text oj (form_of j.name) j ++ (10 ∷ t) ≡ c ∷ rest) × (ends_word c ≡ true)
      bj = fields_begin (form_of j.name) j oj t

      parts : (name_text i.name ≡ name_text j.name) × (bi.0 ∷ bi.1 ≡ bj.0 ∷ bj.1)
      parts = split ends_word (name_text i.name) (name_text j.name) bi.1 bj.1 bi.0 bj.0 (name_is_word i.name) (name_is_word j.name) bi.3 bj.3 (ap (λ x. name_text i.name ++ x) (sym bi.2) ∙ all ∙ ap (λ x. name_text j.name ++ x) bj.2)

      same : i.name ≡ j.name
      same = one_name i.name j.name parts.0

      rest : fields_text oi (form_of i.name) i ++ (10 ∷ r) ≡ fields_text oj (form_of j.name) j ++ (10 ∷ t)
      rest = bi.2 ∙ parts.1 ∙ sym bj.2

      form : HasForm fb (form_of i.name) j
      form = subst (λ form. HasForm fb form j) (sym (ap form_of same)) q.form

  -- and their operands, where names are the same
  module _ (same : names_of fa ≡ names_of fb) where
    symbols : (s u : Symbol) → IsKnown fa s → IsKnown fb u → symbol_text fa s ≡ symbol_text fb u → s ≡ u
    symbols = one_symbol fa fb a.names b.names same

    inside : (front : List ℕ) (s u : Symbol) → IsKnown fa s → IsKnown fb u → (front ++ symbol_text fa s) ++ codes ")" ≡ (front ++ symbol_text fb u) ++ codes ")" → s ≡ u
    inside front s u h k e = symbols s u h k (append_cancel_left front (symbol_text fa s) (symbol_text fb u) (append_cancel_right (front ++ symbol_text fa s) (front ++ symbol_text fb u) (codes ")") e))

    first : (x y : List ℕ) (c d : ℕ) → get_or x 0 0 ≡ c → (get_or y 0 0 ≡ 46) ⊎ (get_or y 0 0 ≡ 99) → c ≡ 37 → x ≡ y → ⊥
    first x y c d h which e f = let all : get_or x 0 0 ≡ get_or y 0 0 = ap (λ t. get_or t 0 0) f in ⊎_elim (λ dot. omega (arith, all, dot, h, e)) (λ ch. omega (arith, all, ch, h, e)) which

    pub one_operand : (o p : Operand) → IsPlain fa o → IsPlain fb p → operand_text fa o ≡ operand_text fb p → o ≡ p
    one_operand (Number y) (Number z) h k e = ap Number (signed_decimal_injective y z h k e)
    one_operand (Number y) (High u) h k e = absurd (not_percent y [] h (ap (λ t. get_or (t ++ []) 0 0) e))
    one_operand (Number y) (Low u) h k e = absurd (not_percent y [] h (ap (λ t. get_or (t ++ []) 0 0) e))
    one_operand (Number y) (To u) h k e = absurd (not_symbol y (symbol_text fb u) h (symbol_begins fb b u) e)
    one_operand (High s) (Number z) h k e = absurd (not_percent z [] k (ap (λ t. get_or (t ++ []) 0 0) (sym e)))
    one_operand (High s) (High u) h k e = ap High (inside (codes "%hi(") s u h k e)
    one_operand (High s) (Low u) h k e = let differ : 104 ≡ 108 = ap (λ t. get_or t 1 0) e in absurd (omega (arith, differ))
    one_operand (High s) (To u) h k e = absurd (first (operand_text fa (High s)) (symbol_text fb u) 37 0 refl (symbol_begins fb b u) refl e)
    one_operand (Low s) (Number z) h k e = absurd (not_percent z [] k (ap (λ t. get_or (t ++ []) 0 0) (sym e)))
    one_operand (Low s) (High u) h k e = let differ : 108 ≡ 104 = ap (λ t. get_or t 1 0) e in absurd (omega (arith, differ))
    one_operand (Low s) (Low u) h k e = ap Low (inside (codes "%lo(") s u h k e)
    one_operand (Low s) (To u) h k e = absurd (first (operand_text fa (Low s)) (symbol_text fb u) 37 0 refl (symbol_begins fb b u) refl e)
    one_operand (To s) (Number z) h k e = absurd (not_symbol z (symbol_text fa s) k (symbol_begins fa a s) (sym e))
    one_operand (To s) (High u) h k e = absurd (first (operand_text fb (High u)) (symbol_text fa s) 37 0 refl (symbol_begins fa a s) refl (sym e))
    one_operand (To s) (Low u) h k e = absurd (first (operand_text fb (Low u)) (symbol_text fa s) 37 0 refl (symbol_begins fa a s) refl (sym e))
    one_operand (To s) (To u) h k e = ap To (symbols s u h k e)

    pub alike_is_same : (i j : AsmInstr) → IsInstr fa i → IsInstr fb j → Alike fa fb i j → i ≡ j
    alike_is_same i j p q alike =
        let operand = one_operand i.operand j.operand (operand_is_plain fa a (form_of i.name) i p.form) (operand_is_plain fb b (form_of j.name) j q.form) alike.operand in
        ap (λ n. record i { name = n }) alike.name
        ∙ ap (λ x. record i { name = j.name; rd = x }) alike.rd
        ∙ ap (λ x. record j { rs1 = x; rs2 = i.rs2; operand = i.operand }) alike.rs1
        ∙ ap (λ x. record j { rs2 = x; operand = i.operand }) alike.rs2
        ∙ ap (λ x. record j { operand = x }) operand
