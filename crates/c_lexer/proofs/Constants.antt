-- Integer constants, read by their suffix from the end, are those of the definition.
use Rattle.std.proofs.Common.{◌≡◌, ℕ, suc, ◌+◌, ◌-◌, ◌<◌, Bool, true, false, cond, List, [], ◌∷◌, ◌++◌, ◌==◌, ◌&&◌, not, Option, Some, None, codes, option_map, option_and_then, find, refl, sym, ap, ◌∙◌, subst, arith, length, take, drop, reverse, slice_index, length-append, append_assoc, nat_le, nat_lt}
use Rattle.std.specs.List.{list_all, prefix_len}
use Rattle.std.specs.Str.{bytes_eq}
use Rattle.std.specs.Str.Parse.{digits_value}
use Rattle.std.proofs.lemmas.Bool.Decides.{nat_tests}
use Rattle.std.proofs.lemmas.List.{take-append-drop, reverse-append, length-reverse}
use Rattle.std.proofs.lemmas.Slice.Eq.{bytes_eq-Decides}
use Rattle.c_lexer.specs.declared.number.Suffix.{Suffix}
use Rattle.c_lexer.specs.declared.token.IntType.{IntType}
use Rattle.c_lexer.specs.declared.token.IntType.TheVariants.{Int, UInt, Long, ULong}
use Rattle.c_lexer.specs.Characters.{is_one_of, is_digit, is_octal, is_hexadecimal}
use Rattle.c_lexer.specs.Numbers.{is_nonzero_digit, IsNumeral, decimal, octal, hexadecimal, suffixes, suffix_of, types_of, greatest_of, type_of, IsConstant}
use Rattle.c_lexer.specs.Readings.{begins_hexadecimal, in_base, digits_of, is_suffix_byte, suffix_size, type_by_value, typed, constant_of}
use Rattle.c_lexer.proofs.Fronts.{both, find_passes}

-- ---- types

-- a type has the value: `low` where that is at most 2147483647, `fits` where it is at most 4294967295
abbrev has : Bool → Bool → IntType → Bool
has low fits Int = low
has low fits UInt = fits
has low fits Long = low
has low fits ULong = fits

abbrev by_list : Bool → Bool → Bool → Bool → Bool → Option IntType
by_list is_decimal u l low fits = find (has low fits) (types_of is_decimal u l)

abbrev by_tests : Bool → Bool → Bool → Bool → Bool → Option IntType
by_tests is_decimal u l low fits =
    cond (not fits) None
    (cond u (Some (cond l ULong UInt)) (cond low (Some (cond l Long Int)) (cond is_decimal None (Some (cond l ULong UInt)))))

listed : (is_decimal u l : Bool) (value : ℕ) → find (λ t. nat_le value (greatest_of t)) (types_of is_decimal u l) ≡ by_list is_decimal u l (nat_le value 2147483647) (nat_le value 4294967295)
listed true true true value = refl
listed true true false value = refl
listed true false true value = refl
listed true false false value = refl
listed false true true value = refl
listed false true false value = refl
listed false false true value = refl
listed false false false value = refl

same_tests : (is_decimal u l low fits : Bool) → (low ≡ true → fits ≡ true) → by_list is_decimal u l low fits ≡ by_tests is_decimal u l low fits
same_tests is_decimal u l true false h = absurd (cc (h refl))
same_tests true true true true true h = refl
same_tests true true false true true h = refl
same_tests true false true true true h = refl
same_tests true false false true true h = refl
same_tests false true true true true h = refl
same_tests false true false true true h = refl
same_tests false false true true true h = refl
same_tests false false false true true h = refl
same_tests true true true false true h = refl
same_tests true true false false true h = refl
same_tests true false true false true h = refl
same_tests true false false false true h = refl
same_tests false true true false true h = refl
same_tests false true false false true h = refl
same_tests false false true false true h = refl
same_tests false false false false true h = refl
same_tests true true true false false h = refl
same_tests true true false false false h = refl
same_tests true false true false false h = refl
same_tests true false false false false h = refl
same_tests false true true false false h = refl
same_tests false true false false false h = refl
same_tests false false true false false h = refl
same_tests false false false false false h = refl

pub same_type : (base : ℕ) (s : Suffix) (value : ℕ) → type_of base s value ≡ type_by_value base s value
same_type base s value =
    let low : nat_le value 2147483647 ≡ true → nat_le value 4294967295 ≡ true = λ h. grind (arith, nat_tests) in
    let big : not (nat_le value 4294967295) ≡ nat_lt 4294967295 value = grind (arith, nat_tests) in
    listed (base == 10) s.has_u s.has_l value
    ∙ same_tests (base == 10) s.has_u s.has_l (nat_le value 2147483647) (nat_le value 4294967295) low
    ∙ ap (λ b. cond b None (cond s.has_u (Some (cond s.has_l ULong UInt)) (cond (nat_le value 2147483647) (Some (cond s.has_l Long Int)) (cond (base == 10) None (Some (cond s.has_l ULong UInt)))))) big

-- ---- lists

prefix_of_append : (p : ℕ → Bool) (xs ys : List ℕ) → list_all p xs ≡ true → prefix_len p ys ≡ 0 → prefix_len p (xs ++ ys) ≡ length xs
prefix_of_append p [] ys h e = e
prefix_of_append p (x ∷ xs) ys h e =
    let parts = both (p x) (list_all p xs) h in
    let next : 1 + length xs ≡ suc (length xs) = omega arith in
    ap (λ b. cond b (1 + prefix_len p (xs ++ ys)) 0) parts.0 ∙ ap (λ n. 1 + n) (prefix_of_append p xs ys parts.1 e) ∙ next

all_of_append : (p : ℕ → Bool) (xs ys : List ℕ) → list_all p xs ≡ true → list_all p ys ≡ true → list_all p (xs ++ ys) ≡ true
all_of_append p [] ys h k = k
all_of_append p (x ∷ xs) ys h k =
    let parts = both (p x) (list_all p xs) h in
    ap (λ b. b && list_all p (xs ++ ys)) parts.0 ∙ all_of_append p xs ys parts.1 k

-- a list of such bytes ends in such a byte
ends_in : (p : ℕ → Bool) (first : ℕ) (rest : List ℕ) → p first ≡ true → list_all p rest ≡ true → (front : List ℕ) × (last : ℕ) × (first ∷ rest ≡ front ++ last ∷ []) × (p last ≡ true)
ends_in p first [] h k = ([], first, refl, h)
ends_in p first (next ∷ rest) h k =
    let parts = both (p next) (list_all p rest) k in
    let e = ends_in p next rest parts.0 parts.1 in
    (first ∷ e.0, e.1, ap (λ xs. first ∷ xs) e.2, e.3)

front_taken : (xs ys : List ℕ) → take (length xs) (xs ++ ys) ≡ xs
front_taken [] ys = refl
front_taken (x ∷ xs) ys = ap (λ zs. x ∷ zs) (front_taken xs ys)

front_dropped : (xs ys : List ℕ) → drop (length xs) (xs ++ ys) ≡ ys
front_dropped [] ys = refl
front_dropped (x ∷ xs) ys = front_dropped xs ys

-- ---- suffixes

suffix_bytes : list_all (λ (s : List ℕ × Suffix). list_all is_suffix_byte (reverse s.0)) suffixes ≡ true
suffix_bytes = refl

of_suffix : (text : List ℕ) (s : Suffix) → suffix_of text ≡ Some s → list_all is_suffix_byte (reverse text) ≡ true
of_suffix text s e = at (find (λ (m : List ℕ × Suffix). bytes_eq m.0 text) suffixes) refl e
  where
    at : (found : Option (List ℕ × Suffix)) → find (λ (m : List ℕ × Suffix). bytes_eq m.0 text) suffixes ≡ found → option_map (λ (m : List ℕ × Suffix). m.1) found ≡ Some s → list_all is_suffix_byte (reverse text) ≡ true
    at (Some m) h f =
        let t = find_passes (λ (s : List ℕ × Suffix). list_all is_suffix_byte (reverse s.0)) (λ (m : List ℕ × Suffix). bytes_eq m.0 text) suffixes m suffix_bytes h in
        subst (λ xs. list_all is_suffix_byte (reverse xs) ≡ true) ((bytes_eq-Decides m.0 text).0 t.1) t.0
    at None h f = absurd (cc f)

-- a digit of any base ends no suffix
no_suffix : (b : ℕ) → is_hexadecimal b ≡ true → is_suffix_byte b ≡ false
no_suffix b h = grind (arith, nat_tests)

digit_is_hexadecimal : (b : ℕ) → is_digit b ≡ true → is_hexadecimal b ≡ true
digit_is_hexadecimal b h = grind (arith, nat_tests)

octal_is_hexadecimal : (b : ℕ) → is_octal b ≡ true → is_hexadecimal b ≡ true
octal_is_hexadecimal b h = grind (arith, nat_tests)

nonzero_is_digit : (b : ℕ) → is_nonzero_digit b ≡ true → is_digit b ≡ true
nonzero_is_digit b h = grind (arith, nat_tests)

weaker : (p q : ℕ → Bool) → ((b : ℕ) → p b ≡ true → q b ≡ true) → (xs : List ℕ) → list_all p xs ≡ true → list_all q xs ≡ true
weaker p q f [] h = refl
weaker p q f (x ∷ xs) h =
    let parts = both (p x) (list_all p xs) h in
    ap (λ b. b && list_all q xs) (f x parts.0) ∙ weaker p q f xs parts.1

-- the front and the digits of a constant end in a digit
numeral_ends : (front digits : List ℕ) (base : ℕ) → IsNumeral front digits base → (before : List ℕ) × (last : ℕ) × (front ++ digits ≡ before ++ last ∷ []) × (is_hexadecimal last ≡ true)
numeral_ends _ _ _ (decimal first rest h k) =
    ends_in is_hexadecimal first rest (digit_is_hexadecimal first (nonzero_is_digit first h)) (weaker is_digit is_hexadecimal digit_is_hexadecimal rest k)
numeral_ends _ _ _ (octal rest k) = ends_in is_hexadecimal 48 rest refl (weaker is_octal is_hexadecimal octal_is_hexadecimal rest k)
numeral_ends _ _ _ (hexadecimal x first rest e h k) =
    let p = ends_in is_hexadecimal first rest h k in
    (48 ∷ x ∷ p.0, p.1, ap (λ xs. 48 ∷ x ∷ xs) p.2, p.3)

size_of_suffix : (body suffix before : List ℕ) (last : ℕ) (s : Suffix) → body ≡ before ++ last ∷ [] → is_hexadecimal last ≡ true → suffix_of suffix ≡ Some s → suffix_size (body ++ suffix) ≡ length suffix
size_of_suffix body suffix before last s e h k =
    let back : reverse body ≡ last ∷ reverse before = ap reverse e ∙ reverse-append before (last ∷ []) in
    let stops : prefix_len is_suffix_byte (reverse body) ≡ 0 =
    ap (prefix_len is_suffix_byte) back ∙ ap (λ b. cond b (1 + prefix_len is_suffix_byte (reverse before)) 0) (no_suffix last h) in
    ap (prefix_len is_suffix_byte) (reverse-append body suffix)
    ∙ prefix_of_append is_suffix_byte (reverse suffix) (reverse body) (of_suffix suffix s k) stops
    ∙ length-reverse suffix

-- ---- digits

-- `0x` begins hexadecimal digits alone
octal_begins : (rest : List ℕ) → list_all is_octal rest ≡ true → begins_hexadecimal (48 ∷ rest) ≡ false
octal_begins [] h = refl
octal_begins (b ∷ rest) h = let first = (both (is_octal b) _ h).0 in grind (arith, nat_tests)

in_base_of : (base : ℕ) (p : ℕ → Bool) (first : ℕ) (rest : List ℕ) → p first ≡ true → list_all p rest ≡ true → in_base base p (first ∷ rest) ≡ Some (base, first ∷ rest)
in_base_of base p first rest h k =
    let all : list_all p (first ∷ rest) ≡ true = ap (λ b. b && list_all p rest) h ∙ k in
    let some : (length (first ∷ rest) == 0) ≡ false = grind (arith, nat_tests) in
    ap (λ b. cond b None (cond (list_all p (first ∷ rest)) (Some (base, first ∷ rest)) None)) some ∙ ap (λ b. cond b (Some (base, first ∷ rest)) None) all

digits_read : (front digits : List ℕ) (base : ℕ) → IsNumeral front digits base → digits_of (front ++ digits) ≡ Some (base, digits)
digits_read _ _ _ (decimal first rest h k) =
    let none : (first == 48) ≡ false = grind (arith, nat_tests) in
    ap (λ b. cond (b && is_one_of (codes "xX") (slice_index (first ∷ rest) 1)) (in_base 16 is_hexadecimal (drop 2 (first ∷ rest))) (cond b (in_base 8 is_octal (first ∷ rest)) (in_base 10 is_digit (first ∷ rest)))) none
    ∙ in_base_of 10 is_digit first rest (nonzero_is_digit first h) k
digits_read _ _ _ (octal rest k) =
    ap (λ b. cond b (in_base 16 is_hexadecimal (drop 2 (48 ∷ rest))) (in_base 8 is_octal (48 ∷ rest))) (octal_begins rest k) ∙ in_base_of 8 is_octal 48 rest refl k
digits_read _ _ _ (hexadecimal x first rest e h k) =
    ap (λ b. cond b (in_base 16 is_hexadecimal (first ∷ rest)) (in_base 8 is_octal (48 ∷ x ∷ first ∷ rest))) e ∙ in_base_of 16 is_hexadecimal first rest h k

-- ---- a constant is read as it is

pub constant_read : (text : List ℕ) (value : ℕ) (type : IntType) → IsConstant text value type → constant_of text ≡ Some (value, type)
constant_read text value type c =
    let ends = numeral_ends c.front c.digits c.base c.numeral in
    let body = c.front ++ c.digits in
    let whole : text ≡ body ++ c.suffix = c.split ∙ sym (append_assoc c.front c.digits c.suffix) in
    let size : suffix_size text ≡ length c.suffix = ap suffix_size whole ∙ size_of_suffix body c.suffix ends.0 ends.1 c.ending ends.2 ends.3 c.suffix_is in
    let place : length text - suffix_size text ≡ length body = let n = ap length whole ∙ length-append body c.suffix in omega (arith, n, size) in
    let front : take (length text - suffix_size text) text ≡ body = ap (λ n. take n text) place ∙ ap (take (length body)) whole ∙ front_taken body c.suffix in
    let back : drop (length text - suffix_size text) text ≡ c.suffix = ap (λ n. drop n text) place ∙ ap (drop (length body)) whole ∙ front_dropped body c.suffix in
    let type_is : type_by_value c.base c.ending (digits_value c.base c.digits) ≡ Some type =
    sym (same_type c.base c.ending (digits_value c.base c.digits)) ∙ ap (type_of c.base c.ending) (sym c.value_is) ∙ c.type_is in
    ap (λ o. option_and_then (λ s. option_and_then (λ d. typed d s) (digits_of (take (length text - suffix_size text) text))) o) (ap suffix_of back ∙ c.suffix_is)
    ∙ ap (λ o. option_and_then (λ d. typed d c.ending) o) (ap digits_of front ∙ digits_read c.front c.digits c.base c.numeral)
    ∙ ap (λ o. option_map (λ t. (digits_value c.base c.digits, t)) o) type_is
    ∙ ap (λ v. Some (v, type)) (sym c.value_is)

-- ---- what is read is a constant

and_then_some : {X Y : Type 0} (f : X → Option Y) (o : Option X) (y : Y) → option_and_then f o ≡ Some y → (x : X) × (o ≡ Some x) × (f x ≡ Some y)
and_then_some f (Some x) y e = (x, refl, e)
and_then_some f None y e = absurd (cc e)

map_some : {X Y : Type 0} (f : X → Y) (o : Option X) (y : Y) → option_map f o ≡ Some y → (x : X) × (o ≡ Some x) × (f x ≡ y)
map_some f (Some x) y e = (x, refl, cc e)
map_some f None y e = absurd (cc e)

based : (base : ℕ) (p : ℕ → Bool) (text : List ℕ) (d : ℕ × List ℕ) → in_base base p text ≡ Some d → (d ≡ (base, text)) × (list_all p text ≡ true) × (0 < length text)
based base p [] d e = absurd (cc e)
based base p (b ∷ rest) d e = at (list_all p (b ∷ rest)) refl
  where
    text : List ℕ
    text = b ∷ rest

    some : (length text == 0) ≡ false
    some = grind (arith, nat_tests)

    found : cond (list_all p text) (Some (base, text)) None ≡ Some d
    found = sym (ap (λ t. cond t None (cond (list_all p text) (Some (base, text)) None)) some) ∙ e

    at : (t : Bool) → list_all p text ≡ t → (d ≡ (base, text)) × (list_all p text ≡ true) × (0 < length text)
    at true h =
        let same : ◌≡◌ {A = Option (ℕ × List ℕ)} (Some (base, text)) (Some d) = sym (ap (λ t. cond t (Some (base, text)) None) h) ∙ found in
        (sym (cc same), h, omega arith)
    at false h =
        let same : ◌≡◌ {A = Option (ℕ × List ℕ)} None (Some d) = sym (ap (λ t. cond t (Some (base, text)) None) h) ∙ found in
        absurd (cc same)

pub record HasDigits (text : List ℕ) (d : ℕ × List ℕ) : Type 0 where
  pub front : List ℕ
  pub split : text ≡ front ++ d.1
  pub numeral : IsNumeral front d.1 d.0

digits_found : (text : List ℕ) (d : ℕ × List ℕ) → digits_of text ≡ Some d → HasDigits text d
digits_found text d e = at text (begins_hexadecimal text) (slice_index text 0 == 48) refl refl e
  where
    at : (t : List ℕ) (hexadecimal_front zero_front : Bool) → begins_hexadecimal t ≡ hexadecimal_front → (slice_index t 0 == 48) ≡ zero_front → digits_of t ≡ Some d → HasDigits t d
    at t true zero_front h k f = hexadecimal_found t h (sym (ap (λ b. cond b (in_base 16 is_hexadecimal (drop 2 t)) (cond (slice_index t 0 == 48) (in_base 8 is_octal t) (in_base 10 is_digit t))) h) ∙ f)
      where
        hexadecimal_found : (u : List ℕ) → begins_hexadecimal u ≡ true → in_base 16 is_hexadecimal (drop 2 u) ≡ Some d → HasDigits u d
        hexadecimal_found [] g i = absurd (cc g)
        hexadecimal_found (a ∷ []) g i = absurd (cc i)
        hexadecimal_found (a ∷ x ∷ []) g i = absurd (cc i)
        hexadecimal_found (a ∷ x ∷ first ∷ rest) g i =
            let b = based 16 is_hexadecimal (first ∷ rest) d i in
            let parts = both (a == 48) (is_one_of (codes "xX") x) g in
            let test = parts.0 in
            let zero : a ≡ 48 = grind (arith, nat_tests) in
            let all = both (is_hexadecimal first) (list_all is_hexadecimal rest) b.1 in
            subst (HasDigits (a ∷ x ∷ first ∷ rest)) (sym b.0)
            (record { front = 48 ∷ x ∷ []; split = ap (λ c. c ∷ x ∷ first ∷ rest) zero; numeral = hexadecimal x first rest parts.1 all.0 all.1 })
    at t false true h k f =
        octal_found t k (sym (ap (λ b. cond b (in_base 16 is_hexadecimal (drop 2 t)) (cond (slice_index t 0 == 48) (in_base 8 is_octal t) (in_base 10 is_digit t))) h ∙ ap (λ b. cond b (in_base 8 is_octal t) (in_base 10 is_digit t)) k) ∙ f)
      where
        octal_found : (u : List ℕ) → (slice_index u 0 == 48) ≡ true → in_base 8 is_octal u ≡ Some d → HasDigits u d
        octal_found [] g i = absurd (cc g)
        octal_found (a ∷ rest) g i =
            let b = based 8 is_octal (a ∷ rest) d i in
            let zero : a ≡ 48 = grind (arith, nat_tests) in
            let all = both (is_octal a) (list_all is_octal rest) b.1 in
            subst (HasDigits (a ∷ rest)) (sym b.0)
            (subst (λ c. HasDigits (c ∷ rest) (8, c ∷ rest)) (sym zero) (record { front = []; split = refl; numeral = octal rest all.1 }))
    at t false false h k f =
        decimal_found t k (sym (ap (λ b. cond b (in_base 16 is_hexadecimal (drop 2 t)) (cond (slice_index t 0 == 48) (in_base 8 is_octal t) (in_base 10 is_digit t))) h ∙ ap (λ b. cond b (in_base 8 is_octal t) (in_base 10 is_digit t)) k) ∙ f)
      where
        decimal_found : (u : List ℕ) → (slice_index u 0 == 48) ≡ false → in_base 10 is_digit u ≡ Some d → HasDigits u d
        decimal_found [] g i = absurd (cc i)
        decimal_found (a ∷ rest) g i =
            let b = based 10 is_digit (a ∷ rest) d i in
            let all = both (is_digit a) (list_all is_digit rest) b.1 in
            let digit = all.0 in
            let nonzero : is_nonzero_digit a ≡ true = grind (arith, nat_tests) in
            subst (HasDigits (a ∷ rest)) (sym b.0) (record { front = []; split = refl; numeral = decimal a rest nonzero all.1 })

pub constant_found : (text : List ℕ) (value : ℕ) (type : IntType) → constant_of text ≡ Some (value, type) → IsConstant text value type
constant_found text value type e =
    let place = length text - suffix_size text in
    let s = and_then_some (λ s. option_and_then (λ d. typed d s) (digits_of (take place text))) (suffix_of (drop place text)) (value, type) e in
    let d = and_then_some (λ d. typed d s.0) (digits_of (take place text)) (value, type) s.2 in
    let t = map_some (λ t. (digits_value d.0.0 d.0.1, t)) (type_by_value d.0.0 s.0 (digits_value d.0.0 d.0.1)) (value, type) d.2 in
    let h = digits_found (take place text) d.0 d.1 in
    let value_is : value ≡ digits_value d.0.0 d.0.1 = sym (ap (λ p. p.0) t.2) in
    let type_is : t.0 ≡ type = ap (λ p. p.1) t.2 in
    record {
      front = h.front;
      digits = d.0.1;
      suffix = drop place text;
      split = sym (take-append-drop place text) ∙ ap (λ xs. xs ++ drop place text) h.split ∙ append_assoc h.front d.0.1 (drop place text);
      base = d.0.0;
      numeral = h.numeral;
      ending = s.0;
      suffix_is = s.1;
      value_is = value_is;
      type_is = ap (type_of d.0.0 s.0) value_is ∙ same_type d.0.0 s.0 (digits_value d.0.0 d.0.1) ∙ t.1 ∙ ap Some type_is;
    }
