-- The text of a symbol, and of an operand: it is of one only, where functions have the same names.
use Rattle.std.proofs.Common.{◌≡◌, ℕ, zero, suc, ◌^◌, ◌<◌, ◌≤◌, Bool, true, false, ◌||◌, List, [], ◌∷◌, ◌++◌, length, get_or, refl, sym, ap, ◌∙◌, subst, arith, append_assoc}
use Rattle.std.specs.Prelude.{codes, ◌==◌, slice_get, Contains}
use Rattle.std.specs.List.{AllByRecursion, IsDistinct}
use Rattle.std.specs.Fmt.{decimal}
use Rattle.std.specs.Str.{bytes_eq}
use Rattle.std.specs.Char.{is_ascii_alphabetic, is_ascii_alphanumeric}
use Rattle.std.proofs.lemmas.Bool.Decides.{nat_tests}
use Rattle.std.proofs.lemmas.Fmt.{decimal_injective}
use Rattle.std.proofs.lemmas.List.{append_cancel_left, length-map}
use Rattle.std.proofs.lemmas.Slice.Eq.{bytes_eq-Decides}
use Rattle.rv_code.specs.declared.assembly.Symbol.{Symbol}
use Rattle.rv_code.specs.declared.assembly.Symbol.TheVariants.{Block, Func, GetChar, PutChar, Cdata}
use Rattle.rv_code.specs.declared.assembly.AsmFunction.{AsmFunction}
use Rattle.rv_code.specs.Text.{plus_text, cdata_text, name_of, label_text, symbol_text}
use Rattle.rv_code.specs.WellFormed.{IsIdentifier, names_of, AreNames}
use Rattle.rv_code.proofs.Splits.{Free, free_both, split, ends_word, decimal_is_word, decimal_digits, digits_free}

-- what a symbol names, as far as its text tells
abbrev pub IsKnown : List AsmFunction → Symbol → Type 0
IsKnown functions (Block number label) = (number < 2 ^ 64) × (label < 2 ^ 64)
IsKnown functions (Func number) = number < length functions
IsKnown functions GetChar = Unit {0}
IsKnown functions PutChar = Unit {0}
IsKnown functions (Cdata offset) = offset < 2 ^ 32

-- a name is a word
letter_in_word : (c : ℕ) → (is_ascii_alphanumeric c || c == 95) ≡ true → ends_word c ≡ false
letter_in_word c e = grind (arith, nat_tests)

first_in_word : (c : ℕ) → (is_ascii_alphabetic c || c == 95) ≡ true → ends_word c ≡ false
first_in_word c e = grind (arith, nat_tests)

letters_in_word : (cs : List ℕ) → AllByRecursion (λ c. (is_ascii_alphanumeric c || c == 95) ≡ true) cs → Free ends_word cs
letters_in_word [] h = tt
letters_in_word (c ∷ cs) h = (letter_in_word c h.0, letters_in_word cs h.1)

pub identifier_is_word : (name : List ℕ) → IsIdentifier name → Free ends_word name
identifier_is_word [] h = absurd h
identifier_is_word (c ∷ cs) h = (first_in_word c h.0, letters_in_word cs h.1)

all_at : (P : List ℕ → Type 0) (names : List (List ℕ)) (i : ℕ) → AllByRecursion P names → i < length names → P (get_or names i [])
all_at P [] i h l = absurd (omega (arith, l))
all_at P (name ∷ names) zero h l = h.0
all_at P (name ∷ names) (suc i) h l = all_at P names i h.1 (omega (arith, l))

-- a name by its number
name_at : (functions : List AsmFunction) (i : ℕ) → i < length functions → name_of (slice_get functions i) ≡ get_or (names_of functions) i []
name_at [] i h = absurd (omega (arith, h))
name_at (function ∷ functions) zero h = refl
name_at (function ∷ functions) (suc i) h = name_at functions i (omega (arith, h))

count_of : (functions : List AsmFunction) → length (names_of functions) ≡ length functions
count_of functions = length-map functions (λ (function : AsmFunction). function.name)

plus_is_word : (n : ℕ) → Free ends_word (plus_text n)
plus_is_word zero = tt
plus_is_word (suc n) = (refl, decimal_is_word (suc n))

pub cdata_is_word : (n : ℕ) → Free ends_word (cdata_text n)
unfolding cdata_text
cdata_is_word n = (refl, (refl, (refl, (refl, (refl, plus_is_word n)))))

pub label_is_word : (f n : ℕ) → Free ends_word (label_text f n)
label_is_word f n =
    free_both ends_word (codes ".L" ++ decimal f ++ codes "_") (decimal n)
    (free_both ends_word (codes ".L" ++ decimal f) (codes "_") (refl, (refl, decimal_is_word f)) (refl, tt)) (decimal_is_word n)

pub symbol_is_word : (functions : List AsmFunction) → AllByRecursion IsIdentifier (names_of functions) → (s : Symbol) → IsKnown functions s → Free ends_word (symbol_text functions s)
symbol_is_word functions names (Block f n) h = label_is_word f n
symbol_is_word functions names (Func i) h = (
  refl,
  (
    refl,
    subst (Free ends_word) (sym (name_at functions i h))
        (identifier_is_word (get_or (names_of functions) i []) (all_at IsIdentifier (names_of functions) i names (omega (arith, h, count_of functions)))),
  ),
)
symbol_is_word functions names GetChar h = (refl, (refl, (refl, (refl, (refl, (refl, (refl, (refl, (refl, tt)))))))))
symbol_is_word functions names PutChar h = (refl, (refl, (refl, (refl, (refl, (refl, (refl, (refl, (refl, tt)))))))))
symbol_is_word functions names (Cdata n) h = cdata_is_word n

-- the byte of a text at a place
abbrev byte_at : ℕ → List ℕ → ℕ
byte_at i xs = get_or xs i 0

apart : (m n : ℕ) → (m == n) ≡ false → m ≡ n → ⊥
apart m n f e = absurd (grind (arith, nat_tests))

-- a label is of one place
pub one_label : (f n g m : ℕ) → f < 2 ^ 64 → n < 2 ^ 64 → g < 2 ^ 64 → m < 2 ^ 64 → label_text f n ≡ label_text g m → (f ≡ g) × (n ≡ m)
one_label f n g m hf hn hg hm e = (decimal_injective f g hf hg parts.0, decimal_injective n m hn hm tail)
  where
    ends : ℕ → Bool
    ends c = c == 95

    digit : (c : ℕ) → 48 ≤ c → c ≤ 57 → ends c ≡ false
    digit c h k = grind (arith, nat_tests)

    front : decimal f ++ (95 ∷ decimal n) ≡ decimal g ++ (95 ∷ decimal m)
    front =
        sym (append_assoc (decimal f) (codes "_") (decimal n))
        ∙ append_cancel_left (codes ".L") ((decimal f ++ codes "_") ++ decimal n) ((decimal g ++ codes "_") ++ decimal m) e
        ∙ append_assoc (decimal g) (codes "_") (decimal m)

    parts : (decimal f ≡ decimal g) × (95 ∷ decimal n ≡ 95 ∷ decimal m)
    parts = split ends (decimal f) (decimal g) (decimal n) (decimal m) 95 95 (digits_free ends digit (decimal f) (decimal_digits f)) (digits_free ends digit (decimal g) (decimal_digits g)) refl refl front

    tail : decimal n ≡ decimal m
    tail = append_cancel_left (95 ∷ []) (decimal n) (decimal m) parts.1

one_plus : (m n : ℕ) → m < 2 ^ 64 → n < 2 ^ 64 → plus_text m ≡ plus_text n → m ≡ n
one_plus zero zero h k e = refl
one_plus zero (suc n) h k e = absurd (cc e)
one_plus (suc m) zero h k e = absurd (cc e)
one_plus (suc m) (suc n) h k e = decimal_injective (suc m) (suc n) h k (append_cancel_left (43 ∷ []) (decimal (suc m)) (decimal (suc n)) e)

pub one_cdata : (m n : ℕ) → m < 2 ^ 64 → n < 2 ^ 64 → cdata_text m ≡ cdata_text n → m ≡ n
unfolding cdata_text
one_cdata m n h k e = one_plus m n h k (append_cancel_left (codes "cdata") (plus_text m) (plus_text n) e)

-- names are distinct
absent : (names : List (List ℕ)) (name : List ℕ) (j : ℕ) → AllByRecursion (λ other. bytes_eq name other ≡ false) names → j < length names → name ≡ get_or names j [] → ⊥
absent [] name j h l e = omega (arith, l)
absent (other ∷ names) name zero h l e = let same = (bytes_eq-Decides name other).1 e in let no = h.0 in absurd (cc (same, no))
absent (other ∷ names) name (suc j) h l e = absent names name j h.1 (omega (arith, l)) e

distinct_at : (names : List (List ℕ)) (i j : ℕ) → IsDistinct bytes_eq names → i < length names → j < length names → get_or names i [] ≡ get_or names j [] → i ≡ j
unfolding IsDistinct
distinct_at [] i j h k l e = absurd (omega (arith, k))
distinct_at (name ∷ names) zero zero h k l e = refl
distinct_at (name ∷ names) zero (suc j) h k l e = absurd (absent names name j h.0 (omega (arith, l)) e)
distinct_at (name ∷ names) (suc i) zero h k l e = absurd (absent names name i h.0 (omega (arith, k)) (sym e))
distinct_at (name ∷ names) (suc i) (suc j) h k l e = ap suc (distinct_at names i j h.1 (omega (arith, k)) (omega (arith, l)) e)

has_name : (names : List (List ℕ)) (i : ℕ) (name : List ℕ) → i < length names → get_or names i [] ≡ name → Contains names name
has_name [] i name h e = absurd (omega (arith, h))
has_name (other ∷ names) zero name h e = (zero, h, e)
has_name (other ∷ names) (suc i) name h e = let rest = has_name names i name (omega (arith, h)) e in (suc rest.0, omega (arith, rest.1), rest.2)

module _ (fa fb : List AsmFunction) (na : AreNames (names_of fa)) (nb : AreNames (names_of fb)) (same : names_of fa ≡ names_of fb) where
  func_name : (fs : List AsmFunction) (i : ℕ) (name : List ℕ) → i < length fs → codes "c_" ++ name_of (slice_get fs i) ≡ codes "c_" ++ name → get_or (names_of fs) i [] ≡ name
  func_name fs i name h e = sym (name_at fs i h) ∙ append_cancel_left (codes "c_") (name_of (slice_get fs i)) name e

  no_routine : (fs : List AsmFunction) (i : ℕ) (name : List ℕ) → (Contains (names_of fs) name → ⊥) → i < length fs → codes "c_" ++ name_of (slice_get fs i) ≡ codes "c_" ++ name → ⊥
  no_routine fs i name none h e = none (has_name (names_of fs) i name (omega (arith, h, count_of fs)) (func_name fs i name h e))

  -- a symbol's text is of one symbol
  pub one_symbol : (s u : Symbol) → IsKnown fa s → IsKnown fb u → symbol_text fa s ≡ symbol_text fb u → s ≡ u
  unfolding cdata_text
  one_symbol (Block f n) (Block g m) h k e = let both = one_label f n g m h.0 h.1 k.0 k.1 e in cc (both.0, both.1)
  one_symbol (Block f n) (Func j) h k e = absurd (apart 46 99 refl (ap (byte_at 0) e))
  one_symbol (Block f n) GetChar h k e = absurd (apart 46 99 refl (ap (byte_at 0) e))
  one_symbol (Block f n) PutChar h k e = absurd (apart 46 99 refl (ap (byte_at 0) e))
  one_symbol (Block f n) (Cdata p) h k e = absurd (apart 46 99 refl (ap (byte_at 0) e))
  one_symbol (Func i) (Block g m) h k e = absurd (apart 99 46 refl (ap (byte_at 0) e))
  one_symbol (Func i) (Func j) h k e =
      let name = func_name fa i (name_of (slice_get fb j)) h e ∙ name_at fb j k ∙ ap (λ names. get_or names j []) (sym same) in
      ap Func (distinct_at (names_of fa) i j na.distinct (omega (arith, h, count_of fa)) (omega (arith, k, count_of fb, ap length same)) name)
  one_symbol (Func i) GetChar h k e = absurd (no_routine fa i (codes "getchar") na.no_getchar h e)
  one_symbol (Func i) PutChar h k e = absurd (no_routine fa i (codes "putchar") na.no_putchar h e)
  one_symbol (Func i) (Cdata p) h k e = absurd (apart 95 100 refl (ap (byte_at 1) e))
  one_symbol GetChar (Block g m) h k e = absurd (apart 99 46 refl (ap (byte_at 0) e))
  one_symbol GetChar (Func j) h k e = absurd (no_routine fb j (codes "getchar") nb.no_getchar k (sym e))
  one_symbol GetChar GetChar h k e = refl
  one_symbol GetChar PutChar h k e = absurd (apart 103 112 refl (ap (byte_at 2) e))
  one_symbol GetChar (Cdata p) h k e = absurd (apart 95 100 refl (ap (byte_at 1) e))
  one_symbol PutChar (Block g m) h k e = absurd (apart 99 46 refl (ap (byte_at 0) e))
  one_symbol PutChar (Func j) h k e = absurd (no_routine fb j (codes "putchar") nb.no_putchar k (sym e))
  one_symbol PutChar GetChar h k e = absurd (apart 112 103 refl (ap (byte_at 2) e))
  one_symbol PutChar PutChar h k e = refl
  one_symbol PutChar (Cdata p) h k e = absurd (apart 95 100 refl (ap (byte_at 1) e))
  one_symbol (Cdata o) (Block g m) h k e = absurd (apart 99 46 refl (ap (byte_at 0) e))
  one_symbol (Cdata o) (Func j) h k e = absurd (apart 100 95 refl (ap (byte_at 1) e))
  one_symbol (Cdata o) GetChar h k e = absurd (apart 100 95 refl (ap (byte_at 1) e))
  one_symbol (Cdata o) PutChar h k e = absurd (apart 100 95 refl (ap (byte_at 1) e))
  one_symbol (Cdata o) (Cdata p) h k e = ap Cdata (one_cdata o p (omega (arith, h)) (omega (arith, k)) e)
