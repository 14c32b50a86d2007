-- Words that are the same, each as often, and words that no type has together.
use Rattle.std.proofs.Common.{◌≡◌, ◌++◌, ◌+◌, ◌≤◌, ◌&&◌, ◌||◌, ◌==◌, ℕ, Bool, true, false, not, if◌then◌else◌, length, filter, List, [], ◌∷◌, None, Some, refl, sym, ap, ◌∙◌, subst, arith, length-append}
use Rattle.std.specs.Prelude.{find, option_map, nat_le}
use Rattle.std.specs.List.{list_all}
use Rattle.std.specs.Str.{bytes_eq}
use Rattle.std.proofs.lemmas.Bool.{false≢true, le-leb}
use Rattle.std.proofs.lemmas.Bool.Decides.{Decides-eqb}
use Rattle.std.proofs.lemmas.Slice.Eq.{bytes_eq-Decides}
use Rattle.std.proofs.lemmas.List.Elements.{filter-append}
use Rattle.c_typing.specs.Types.{CType}
use Rattle.c_typing.specs.Declarators.{count_of, are_same_words, type_words, said_type}
use Rattle.c_declared_types.specs.Words.{AreSame, NameNone}

abbrev pub Texts : Type 0
Texts = List (List ℕ)

-- ---- how often a word stands

abbrev pub one_if : Bool → ℕ
one_if true = 1
one_if false = 0

pub count_append : (xs ys : Texts) (t : List ℕ) → count_of (xs ++ ys) t ≡ count_of xs t + count_of ys t
count_append xs ys t = ap length (filter-append (λ w. bytes_eq w t) xs ys) ∙ length-append (filter (λ w. bytes_eq w t) xs) (filter (λ w. bytes_eq w t) ys)

pub count_cons : (x : List ℕ) (xs : Texts) (t : List ℕ) → count_of (x ∷ xs) t ≡ one_if (bytes_eq x t) + count_of xs t
count_cons x xs t = by (bytes_eq x t) (filter (λ w. bytes_eq w t) xs)
  where
    by : (b : Bool) (ys : Texts) → length (if b then x ∷ ys else ys) ≡ one_if b + length ys
    by true ys = omega arith
    by false ys = omega arith

same_self : (t : List ℕ) → bytes_eq t t ≡ true
same_self t = (bytes_eq-Decides t t).1 refl

pub count_self : (t : List ℕ) (xs : Texts) → 1 ≤ count_of (t ∷ xs) t
count_self t xs = omega (arith, count_cons t xs t, ap one_if (same_self t))

count_more : (x : List ℕ) (xs : Texts) (t : List ℕ) → count_of xs t ≤ count_of (x ∷ xs) t
count_more x xs t = omega (arith, count_cons x xs t)

pub in_middle : (xs : Texts) (t : List ℕ) (ys : Texts) → 1 ≤ count_of (xs ++ t ∷ ys) t
in_middle xs t ys = omega (arith, count_append xs (t ∷ ys) t, count_self t ys)

-- ---- what holds of all words

both : (a b : Bool) → (a && b) ≡ true → (a ≡ true) × (b ≡ true)
both true b e = (refl, e)
both false b e = absurd (false≢true e)

all_two : (a b : Bool) → a ≡ true → b ≡ true → (a && b) ≡ true
all_two true b e f = f
all_two false b e f = e

held : (P : List ℕ → Bool) (xs : Texts) (t : List ℕ) → list_all P xs ≡ true → 1 ≤ count_of xs t → P t ≡ true
held P [] t h i = absurd (omega (arith, i))
held P (x ∷ xs) t h i = by (held P xs t (both (P x) (list_all P xs) h).1) (bytes_eq x t) refl
  where
    by : (1 ≤ count_of xs t → P t ≡ true) → (b : Bool) → bytes_eq x t ≡ b → P t ≡ true
    by later true e = subst (λ y. P y ≡ true) ((bytes_eq-Decides x t).0 e) (both (P x) (list_all P xs) h).0
    by later false e = later (omega (arith, i, count_cons x xs t, ap one_if e))

held_all : (P : List ℕ → Bool) (xs : Texts) → ((t : List ℕ) → 1 ≤ count_of xs t → P t ≡ true) → list_all P xs ≡ true
held_all P [] h = refl
held_all P (x ∷ xs) h =
    all_two (P x) (list_all P xs) (h x (count_self x xs)) (held_all P xs (λ t i. h t (omega (arith, i, count_more x xs t))))

one_bool : (a b : Bool) → (a ≡ true → b ≡ true) → (b ≡ true → a ≡ true) → a ≡ b
one_bool true b f g = sym (f refl)
one_bool false true f g = g refl
one_bool false false f g = refl

-- ---- the same words name the same type

abbrev agrees : Texts → Texts → List ℕ → Bool
agrees words row t = count_of words t == count_of row t

all_agree : (xs ys row : Texts) → AreSame xs ys → list_all (agrees xs row) xs ≡ true → list_all (agrees ys row) ys ≡ true
all_agree xs ys row s h =
    held_all (agrees ys row) ys (λ t i. ap (λ n. n == count_of row t) (sym (s.often t)) ∙ held (agrees xs row) xs t h (subst (λ n. 1 ≤ n) (sym (s.often t)) i))

turned : (xs ys : Texts) → AreSame xs ys → AreSame ys xs
turned xs ys s = record { long = sym s.long; often = λ t. sym (s.often t) }

same_row : (xs ys : Texts) → AreSame xs ys → (row : Texts) → are_same_words xs row ≡ are_same_words ys row
same_row xs ys s row =
    ap (λ n. n == length row && list_all (agrees xs row) xs) s.long
    ∙ ap (λ b. length ys == length row && b) (one_bool (list_all (agrees xs row) xs) (list_all (agrees ys row) ys) (all_agree xs ys row s) (all_agree ys xs row (turned xs ys s)))

abbrev Rows : Type 0
Rows = List (Texts × CType)

found_same : (xs ys : Texts) → AreSame xs ys → (rows : Rows) → find (λ row. are_same_words xs row.0) rows ≡ find (λ row. are_same_words ys row.0) rows
found_same xs ys s [] = refl
found_same xs ys s (r ∷ rows) =
    ap (λ b. if b then Some r else find (λ row. are_same_words xs row.0) rows) (same_row xs ys s r.0)
    ∙ ap (λ o. if are_same_words ys r.0 then Some r else o) (found_same xs ys s rows)

pub said_same : (xs ys : Texts) → AreSame xs ys → said_type xs [] ≡ said_type ys []
said_same xs ys s = ap (option_map (λ row. row.1)) (found_same xs ys s type_words)

-- ---- two words that no type has together

abbrev pub clash : Texts → List ℕ → List ℕ → Bool
clash row a b = nat_le 1 (count_of row a) && (nat_le 1 (count_of row b) && (not (bytes_eq a b) || nat_le 2 (count_of row a)))

pub record Clash (words : Texts) (a b : List ℕ) : Type 0 where
  pub first : 1 ≤ count_of words a
  pub second : 1 ≤ count_of words b
  pub twice : a ≡ b → 2 ≤ count_of words a

agree_on : (words row : Texts) → are_same_words words row ≡ true → (t : List ℕ) → 1 ≤ count_of words t → count_of words t ≡ count_of row t
agree_on words row e t i = equal (count_of words t) (count_of row t) (held (agrees words row) words t (both (length words == length row) (list_all (agrees words row) words) e).1 i)
  where
    equal : (n m : ℕ) → (n == m) ≡ true → n ≡ m
    equal n m h = (Decides-eqb n m).0 h

clash_row : (words row : Texts) (a b : List ℕ) → Clash words a b → are_same_words words row ≡ true → clash row a b ≡ true
clash_row words row a b c e =
    let at_a = agree_on words row e a c.first in
    let at_b = agree_on words row e b c.second in
    all_two (nat_le 1 (count_of row a)) (nat_le 1 (count_of row b) && (not (bytes_eq a b) || nat_le 2 (count_of row a))) (le-leb 1 (count_of row a) (omega (arith, c.first, at_a)))
    (all_two (nat_le 1 (count_of row b)) (not (bytes_eq a b) || nat_le 2 (count_of row a)) (le-leb 1 (count_of row b) (omega (arith, c.second, at_b))) (by (bytes_eq a b) refl))
  where
    by : (t : Bool) → bytes_eq a b ≡ t → (not t || nat_le 2 (count_of row a)) ≡ true
    by true h = le-leb 2 (count_of row a) (omega (arith, c.twice ((bytes_eq-Decides a b).0 h), agree_on words row e a c.first))
    by false h = refl

no_row : (words : Texts) (a b : List ℕ) → Clash words a b → (rows : Rows) → list_all (λ row. not (clash row.0 a b)) rows ≡ true → find (λ row. are_same_words words row.0) rows ≡ None
no_row words a b c [] h = refl
no_row words a b c (r ∷ rows) h = by (no_row words a b c rows) (are_same_words words r.0) refl
  where
    parts : (not (clash r.0 a b) ≡ true) × (list_all (λ row. not (clash row.0 a b)) rows ≡ true)
    parts = both (not (clash r.0 a b)) (list_all (λ row. not (clash row.0 a b)) rows) h

    by : (list_all (λ row. not (clash row.0 a b)) rows ≡ true → find (λ row. are_same_words words row.0) rows ≡ None)
        → (t : Bool) → are_same_words words r.0 ≡ t → (if t then Some r else find (λ row. are_same_words words row.0) rows) ≡ None
    by later true e = absurd (false≢true (ap not (sym (clash_row words r.0 a b c e)) ∙ parts.0))
    by later false e = later parts.1

more_clash : (words more : Texts) (a b : List ℕ) → Clash words a b → Clash (words ++ more) a b
more_clash words more a b c = record {
  first = omega (arith, c.first, count_append words more a);
  second = omega (arith, c.second, count_append words more b);
  twice = λ e. omega (arith, c.twice e, count_append words more a);
}

abbrev pub NoRow : List ℕ → List ℕ → Type 0
NoRow a b = list_all (λ row. not (clash row.0 a b)) type_words ≡ true

pub names_none : (words : Texts) (a b : List ℕ) → Clash words a b → NoRow a b → NameNone words
names_none words a b c never more = ap (option_map (λ row. row.1)) (no_row (words ++ more) a b (more_clash words more a b c) type_words never)

pub entered : (words : Texts) (a b : List ℕ) → 1 ≤ count_of words a → Clash (words ++ b ∷ []) a b
entered words a b h = record {
  first = omega (arith, h, count_append words (b ∷ []) a);
  second = omega (arith, count_self b [], count_append words (b ∷ []) b);
  twice = λ e. omega (arith, h, count_append words (b ∷ []) a, subst (λ t. 1 ≤ count_of (b ∷ []) t) (sym e) (count_self b []));
}
