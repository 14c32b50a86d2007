-- Where a piece of a line ends: at the first byte that stops it.
use Rattle.std.proofs.Common.{◌≡◌, ℕ, zero, suc, ◌+◌, ◌/◌, ◌%◌, ◌^◌, ◌<◌, ◌≤◌, Bool, true, false, ◌||◌, not, ◌&&◌, cond, List, [], ◌∷◌, ◌++◌, refl, sym, ap, ◌∙◌, arith, lit≤, pos, negsuc}
use Rattle.std.specs.Prelude.{ℤ, ◌==◌}
use Rattle.std.specs.List.{AllByRecursion}
use Rattle.std.specs.Fmt.{digit_glyph, digits_onto, digits, decimal, signed_decimal}
use Rattle.std.proofs.lemmas.Bool.{lt-ltb}
use Rattle.std.specs.Str.{bytes_eq}
use Rattle.std.proofs.lemmas.Bool.Decides.{nat_tests}
use Rattle.std.proofs.lemmas.Fmt.{decimal_by_steps}
use Rattle.std.specs.Int.Signed.{mag}
use Rattle.rv_code.specs.declared.assembly.RvName.{RvName}
use Rattle.rv_code.specs.declared.assembly.RvName.TheVariants.{Lui, Jal, Jalr, Beq, Bne, Blt, Bge, Bltu, Bgeu, Lb, Lh, Lw, Lbu, Lhu, Sb, Sh, Sw, Addi, Slti, Sltiu, Xori, Ori, Andi, Slli, Srli, Srai, Add, Sub, Sll, Slt, Sltu, Xor, Srl, Sra, Or, And, Ecall, Mul, Div, Divu, Rem, Remu}
use Rattle.rv_code.specs.Forms.{name_text}
use Rattle.rv_code.specs.Registers.{register_text, register_names}

-- no byte of a piece stops it
abbrev pub Free : (ℕ → Bool) → List ℕ → Type 0
Free stop xs = AllByRecursion (λ c. stop c ≡ false) xs

pub free_both : (stop : ℕ → Bool) (xs ys : List ℕ) → Free stop xs → Free stop ys → Free stop (xs ++ ys)
free_both stop [] ys h k = k
free_both stop (x ∷ xs) ys h k = (h.0, free_both stop xs ys h.1 k)

-- two pieces, each in front of what stops it
pub split : (stop : ℕ → Bool) (u v r t : List ℕ) (c d : ℕ) → Free stop u → Free stop v → stop c ≡ true → stop d ≡ true → u ++ (c ∷ r) ≡ v ++ (d ∷ t) → (u ≡ v) × (c ∷ r ≡ d ∷ t)
split stop [] [] r t c d h k p q e = (refl, e)
split stop [] (y ∷ v) r t c d h k p q e = let no = k.0 in absurd (cc (e, p, no))
split stop (x ∷ u) [] r t c d h k p q e = let no = h.0 in absurd (cc (e, q, no))
split stop (x ∷ u) (y ∷ v) r t c d h k p q e =
    let head : x ≡ y = cc e in
    let tail : u ++ (c ∷ r) ≡ v ++ (d ∷ t) = cc e in
    let rest = split stop u v r t c d h.1 k.1 p q tail in
    (cc (head, rest.0), rest.1)

-- the end of a line; and what ends a word: that, a blank, a parenthesis, a comma or a colon
abbrev pub ends_line : ℕ → Bool
ends_line c = c == 10

abbrev pub ends_word : ℕ → Bool
ends_word c = (c == 10) || (c == 32) || (c == 40) || (c == 41) || (c == 44) || (c == 58)

-- a word has no end of a line
pub word_in_line : (xs : List ℕ) → Free ends_word xs → Free ends_line xs
word_in_line [] h = tt
word_in_line (x ∷ xs) h = (one x h.0, word_in_line xs h.1)
  where
    one : (c : ℕ) → ends_word c ≡ false → ends_line c ≡ false
    one c e = grind (arith, nat_tests)

-- a test that all bytes of a fixed text pass
abbrev pub all_free : (ℕ → Bool) → List ℕ → Bool
all_free stop [] = true
all_free stop (x ∷ xs) = not (stop x) && all_free stop xs

pub free_by : (stop : ℕ → Bool) (xs : List ℕ) → all_free stop xs ≡ true → Free stop xs
free_by stop [] e = tt
free_by stop (x ∷ xs) e = by (free_by stop xs) (stop x) refl e
  where
    by : (all_free stop xs ≡ true → Free stop xs) → (b : Bool) → stop x ≡ b → (not b && all_free stop xs) ≡ true → Free stop (x ∷ xs)
    by rest true f g = absurd (cc g)
    by rest false f g = (f, rest g)

-- digits
abbrev pub IsDigits : List ℕ → Type 0
IsDigits ds = AllByRecursion (λ c. (48 ≤ c) × (c ≤ 57)) ds

onto_digits : (k n : ℕ) (ds : List ℕ) → IsDigits ds → IsDigits (digits_onto k 10 false n ds)
onto_digits zero n ds h = h
onto_digits (suc k) n ds h = by (onto_digits k (n / 10) (digit_glyph false (n % 10) ∷ ds)) (n / 10 == 0)
  where
    glyph : (d : ℕ) → d < 10 → (48 ≤ digit_glyph false d) × (digit_glyph false d ≤ 57)
    glyph d l = let is : digit_glyph false d ≡ 48 + d = ap (λ b. cond b (48 + d) (87 + d)) (lt-ltb d 10 l) in (omega (arith, is), omega (arith, is, l))

    more : IsDigits (digit_glyph false (n % 10) ∷ ds)
    more = (glyph (n % 10) (omega arith), h)

    by : (IsDigits (digit_glyph false (n % 10) ∷ ds) → IsDigits (digits_onto k 10 false (n / 10) (digit_glyph false (n % 10) ∷ ds))) → (b : Bool) → IsDigits (cond b (digit_glyph false (n % 10) ∷ ds) (digits_onto k 10 false (n / 10) (digit_glyph false (n % 10) ∷ ds)))
    by rest true = more
    by rest false = rest more

pub decimal_digits : (n : ℕ) → IsDigits (decimal n)
unfolding digits
decimal_digits n = onto_digits 64 n [] tt

-- the first is there
pub decimal_begins : (n : ℕ) → n < 2 ^ 64 → (c : ℕ) × (ds : List ℕ) × (decimal n ≡ c ∷ ds) × (48 ≤ c) × (c ≤ 57)
decimal_begins n h = decimal_by_steps (λ m ds. (c : ℕ) × (cs : List ℕ) × (ds ≡ c ∷ cs) × (48 ≤ c) × (c ≤ 57)) (λ m l. (48 + m, [], refl, omega arith, omega (arith, l))) (λ m ds more have. (have.0, have.1 ++ ((48 + m % 10) ∷ []), ap (λ xs. xs ++ ((48 + m % 10) ∷ [])) have.2, have.3, have.4)) n h

pub digits_free : (stop : ℕ → Bool) → ((c : ℕ) → 48 ≤ c → c ≤ 57 → stop c ≡ false) → (ds : List ℕ) → IsDigits ds → Free stop ds
digits_free stop h [] k = tt
digits_free stop h (c ∷ ds) k = (h c k.0.0 k.0.1, digits_free stop h ds k.1)

digit_in_word : (c : ℕ) → 48 ≤ c → c ≤ 57 → ends_word c ≡ false
digit_in_word c h k = grind (arith, nat_tests)

pub decimal_is_word : (n : ℕ) → Free ends_word (decimal n)
decimal_is_word n = digits_free ends_word digit_in_word (decimal n) (decimal_digits n)

pub signed_is_word : (z : ℤ) → Free ends_word (signed_decimal z)
signed_is_word (pos n) = decimal_is_word n
signed_is_word (negsuc n) = (refl, decimal_is_word (suc n))

-- the first byte of a number with a sign
pub signed_begins : (z : ℤ) → mag z < 2 ^ 63 → (c : ℕ) × (ds : List ℕ) × (signed_decimal z ≡ c ∷ ds) × (45 ≤ c) × (c ≤ 57) × ((c == 46) ≡ false)
signed_begins (pos n) h = let d = decimal_begins n (omega (arith, h)) in (d.0, d.1, d.2, omega (arith, d.3), d.4, other d.0 d.3)
  where
    other : (c : ℕ) → 48 ≤ c → (c == 46) ≡ false
    other c l = grind (arith, nat_tests)
signed_begins (negsuc n) h = (45, decimal (suc n), refl, lit≤ tt, lit≤ tt, refl)

-- the instruction of a mnemonic
abbrev named : List ℕ → RvName
named xs =
    cond (bytes_eq xs (name_text Lui)) Lui (
    cond (bytes_eq xs (name_text Jal)) Jal (
    cond (bytes_eq xs (name_text Jalr)) Jalr (
    cond (bytes_eq xs (name_text Beq)) Beq (
    cond (bytes_eq xs (name_text Bne)) Bne (
    cond (bytes_eq xs (name_text Blt)) Blt (
    cond (bytes_eq xs (name_text Bge)) Bge (
    cond (bytes_eq xs (name_text Bltu)) Bltu (
    cond (bytes_eq xs (name_text Bgeu)) Bgeu (
    cond (bytes_eq xs (name_text Lb)) Lb (
    cond (bytes_eq xs (name_text Lh)) Lh (
    cond (bytes_eq xs (name_text Lw)) Lw (
    cond (bytes_eq xs (name_text Lbu)) Lbu (
    cond (bytes_eq xs (name_text Lhu)) Lhu (
    cond (bytes_eq xs (name_text Sb)) Sb (
    cond (bytes_eq xs (name_text Sh)) Sh (
    cond (bytes_eq xs (name_text Sw)) Sw (
    cond (bytes_eq xs (name_text Addi)) Addi (
    cond (bytes_eq xs (name_text Slti)) Slti (
    cond (bytes_eq xs (name_text Sltiu)) Sltiu (
    cond (bytes_eq xs (name_text Xori)) Xori (
    cond (bytes_eq xs (name_text Ori)) Ori (
    cond (bytes_eq xs (name_text Andi)) Andi (
    cond (bytes_eq xs (name_text Slli)) Slli (
    cond (bytes_eq xs (name_text Srli)) Srli (
    cond (bytes_eq xs (name_text Srai)) Srai (
    cond (bytes_eq xs (name_text Add)) Add (
    cond (bytes_eq xs (name_text Sub)) Sub (
    cond (bytes_eq xs (name_text Sll)) Sll (
    cond (bytes_eq xs (name_text Slt)) Slt (
    cond (bytes_eq xs (name_text Sltu)) Sltu (
    cond (bytes_eq xs (name_text Xor)) Xor (
    cond (bytes_eq xs (name_text Srl)) Srl (
    cond (bytes_eq xs (name_text Sra)) Sra (
    cond (bytes_eq xs (name_text Or)) Or (
    cond (bytes_eq xs (name_text And)) And (
    cond (bytes_eq xs (name_text Ecall)) Ecall (
    cond (bytes_eq xs (name_text Mul)) Mul (
    cond (bytes_eq xs (name_text Div)) Div (
    cond (bytes_eq xs (name_text Divu)) Divu (
    cond (bytes_eq xs (name_text Rem)) Rem (Remu)))))))))))))))))))))))))))))))))))))))))

named_back : (name : RvName) → named (name_text name) ≡ name
named_back Lui = refl
named_back Jal = refl
named_back Jalr = refl
named_back Beq = refl
named_back Bne = refl
named_back Blt = refl
named_back Bge = refl
named_back Bltu = refl
named_back Bgeu = refl
named_back Lb = refl
named_back Lh = refl
named_back Lw = refl
named_back Lbu = refl
named_back Lhu = refl
named_back Sb = refl
named_back Sh = refl
named_back Sw = refl
named_back Addi = refl
named_back Slti = refl
named_back Sltiu = refl
named_back Xori = refl
named_back Ori = refl
named_back Andi = refl
named_back Slli = refl
named_back Srli = refl
named_back Srai = refl
named_back Add = refl
named_back Sub = refl
named_back Sll = refl
named_back Slt = refl
named_back Sltu = refl
named_back Xor = refl
named_back Srl = refl
named_back Sra = refl
named_back Or = refl
named_back And = refl
named_back Ecall = refl
named_back Mul = refl
named_back Div = refl
named_back Divu = refl
named_back Rem = refl
named_back Remu = refl

pub one_name : (m n : RvName) → name_text m ≡ name_text n → m ≡ n
one_name m n e = sym (named_back m) ∙ ap named e ∙ named_back n

pub name_is_word : (name : RvName) → Free ends_word (name_text name)
name_is_word Lui = free_by ends_word (name_text Lui) refl
name_is_word Jal = free_by ends_word (name_text Jal) refl
name_is_word Jalr = free_by ends_word (name_text Jalr) refl
name_is_word Beq = free_by ends_word (name_text Beq) refl
name_is_word Bne = free_by ends_word (name_text Bne) refl
name_is_word Blt = free_by ends_word (name_text Blt) refl
name_is_word Bge = free_by ends_word (name_text Bge) refl
name_is_word Bltu = free_by ends_word (name_text Bltu) refl
name_is_word Bgeu = free_by ends_word (name_text Bgeu) refl
name_is_word Lb = free_by ends_word (name_text Lb) refl
name_is_word Lh = free_by ends_word (name_text Lh) refl
name_is_word Lw = free_by ends_word (name_text Lw) refl
name_is_word Lbu = free_by ends_word (name_text Lbu) refl
name_is_word Lhu = free_by ends_word (name_text Lhu) refl
name_is_word Sb = free_by ends_word (name_text Sb) refl
name_is_word Sh = free_by ends_word (name_text Sh) refl
name_is_word Sw = free_by ends_word (name_text Sw) refl
name_is_word Addi = free_by ends_word (name_text Addi) refl
name_is_word Slti = free_by ends_word (name_text Slti) refl
name_is_word Sltiu = free_by ends_word (name_text Sltiu) refl
name_is_word Xori = free_by ends_word (name_text Xori) refl
name_is_word Ori = free_by ends_word (name_text Ori) refl
name_is_word Andi = free_by ends_word (name_text Andi) refl
name_is_word Slli = free_by ends_word (name_text Slli) refl
name_is_word Srli = free_by ends_word (name_text Srli) refl
name_is_word Srai = free_by ends_word (name_text Srai) refl
name_is_word Add = free_by ends_word (name_text Add) refl
name_is_word Sub = free_by ends_word (name_text Sub) refl
name_is_word Sll = free_by ends_word (name_text Sll) refl
name_is_word Slt = free_by ends_word (name_text Slt) refl
name_is_word Sltu = free_by ends_word (name_text Sltu) refl
name_is_word Xor = free_by ends_word (name_text Xor) refl
name_is_word Srl = free_by ends_word (name_text Srl) refl
name_is_word Sra = free_by ends_word (name_text Sra) refl
name_is_word Or = free_by ends_word (name_text Or) refl
name_is_word And = free_by ends_word (name_text And) refl
name_is_word Ecall = free_by ends_word (name_text Ecall) refl
name_is_word Mul = free_by ends_word (name_text Mul) refl
name_is_word Div = free_by ends_word (name_text Div) refl
name_is_word Divu = free_by ends_word (name_text Divu) refl
name_is_word Rem = free_by ends_word (name_text Rem) refl
name_is_word Remu = free_by ends_word (name_text Remu) refl

-- all numbers below n pass
abbrev all_below : ℕ → (ℕ → Bool) → Bool
all_below zero p = true
all_below (suc n) p = p n && all_below n p

at_below : (n : ℕ) (p : ℕ → Bool) (r : ℕ) → all_below n p ≡ true → r < n → p r ≡ true
at_below zero p r e h = absurd (omega (arith, h))
at_below (suc n) p r e h = by (at_below n p r) (p n) refl e (r == n) refl
  where
    by : (all_below n p ≡ true → r < n → p r ≡ true) → (b : Bool) → p n ≡ b → (b && all_below n p) ≡ true → (same : Bool) → (r == n) ≡ same → p r ≡ true
    by rest false f g same k = absurd (cc g)
    by rest true f g true k = let same : r ≡ n = grind (arith, nat_tests) in ap p same ∙ f
    by rest true f g false k = let less : r < n = grind (arith, nat_tests) in rest g less

-- the register of a name
abbrev numbered : List (List ℕ) → List ℕ → ℕ
numbered [] xs = 0
numbered (name ∷ names) xs = cond (bytes_eq xs name) 0 (1 + numbered names xs)

register_back : (r : ℕ) → r < 32 → numbered register_names (register_text r) ≡ r
register_back r h = let passes = at_below 32 (λ q. numbered register_names (register_text q) == q) r refl h in grind (arith, nat_tests)

pub one_register : (r s : ℕ) → r < 32 → s < 32 → register_text r ≡ register_text s → r ≡ s
one_register r s h k e = sym (register_back r h) ∙ ap (numbered register_names) e ∙ register_back s k

pub register_is_word : (r : ℕ) → r < 32 → Free ends_word (register_text r)
register_is_word r h = free_by ends_word (register_text r) (at_below 32 (λ q. all_free ends_word (register_text q)) r refl h)
