-- Lists with one more item, or another one, and chains with one more name.
use Rattle.std.proofs.Common.{◌≡◌, ◌⊎◌, inl, inr, ℕ, zero, suc, ◌+◌, ◌-◌, ◌<◌, ◌≤◌, true, false, Some, List, [], ◌∷◌, ◌++◌, length, take, drop, get_or, refl, sym, ap, ◌∙◌, subst, arith}
use Rattle.std.specs.Prelude.{slice_set}
use Rattle.std.specs.List.{AllByRecursion, insert}
use Rattle.std.proofs.Math.Seq.{drop-cons}
use Rattle.c_names.specs.declared.chain.Entry.{Entry}
use Rattle.c_names.specs.Chains.{end_in, is_seen, IsVisible, later, IsPut, outermost, inside, again}

pub split_at : {A : Type 0} (xs : List A) (i : ℕ) (d : A) → i < length xs → xs ≡ take i xs ++ (get_or xs i d ∷ drop (suc i) xs)
split_at [] i d h = absurd (omega (arith, h))
split_at (x ∷ xs) zero d h = refl
split_at (x ∷ xs) (suc i) d h = ap (λ ys. x ∷ ys) (split_at xs i d (omega (arith, h)))

set_at : {A : Type 0} (xs : List A) (i : ℕ) (y : A) → i < length xs → slice_set xs i y ≡ take i xs ++ (y ∷ drop (suc i) xs)
set_at [] i y h = absurd (omega (arith, h))
set_at (x ∷ xs) zero y h = refl
set_at (x ∷ xs) (suc i) y h = ap (λ ys. x ∷ ys) (set_at xs i y (omega (arith, h)))

insert_behind : {A : Type 0} (xs : List A) (i : ℕ) (d y : A) → i < length xs → insert xs (suc i) y ≡ take i xs ++ (get_or xs i d ∷ y ∷ drop (suc i) xs)
insert_behind [] i d y h = absurd (omega (arith, h))
insert_behind (x ∷ xs) zero d y h = refl
insert_behind (x ∷ xs) (suc i) d y h = ap (λ ys. x ∷ ys) (insert_behind xs i d y (omega (arith, h)))

-- one more, in front of those from a place on
pub all_more : {A : Type 0} (P : A → Type 0) (xs : List A) (i : ℕ) (d : A) → 0 < i → i ≤ length xs → P (get_or xs (i - 1) d) → AllByRecursion P (drop i xs) → AllByRecursion P (drop (i - 1) xs)
all_more P xs zero d some low here more = absurd (omega (arith, some))
all_more P xs (suc i) d some low here more =
    let at : suc i - 1 ≡ i = omega arith in
    subst (λ j. AllByRecursion P (drop j xs)) (sym at)
    (subst (AllByRecursion P) (sym (drop-cons xs i d (omega (arith, low)))) (subst (λ j. P (get_or xs j d)) at here, more))

-- ---- chains

apart : (a b : ℕ) → a ≤ b → (b ≡ a → ⊥) → a < b
apart a b h n = grind arith

pub put_new : (xs : List Entry) (p : ℕ) (e d : Entry) → p ≤ length xs → AllByRecursion (λ x. end_in x < end_in e) (drop p xs)
    → (0 < p → end_in e ≤ end_in (get_or xs (p - 1) d)) → (0 < p → end_in (get_or xs (p - 1) d) ≡ end_in e → ⊥) → IsPut e xs (insert xs p e)
put_new xs zero e d low inner outer other = outermost inner (first xs)
  where
    first : (xs : List Entry) → insert xs 0 e ≡ e ∷ xs
    first [] = refl
    first (x ∷ xs) = refl
put_new xs (suc q) e d low inner outer other =
    let at : suc q - 1 ≡ q = omega arith in
    let above = outer (omega arith) in
    inside (take q xs) (get_or xs q d) (drop (suc q) xs) (split_at xs q d (omega (arith, low)))
    (subst (λ j. end_in e < end_in (get_or xs j d)) at (apart (end_in e) (end_in (get_or xs (suc q - 1) d)) above (other (omega arith)))) inner (insert_behind xs q d e (omega (arith, low)))

pub put_again : (xs : List Entry) (p : ℕ) (e d l : Entry) → p ≤ length xs → AllByRecursion (λ x. end_in x < end_in e) (drop p xs)
    → 0 < p → end_in (get_or xs (p - 1) d) ≡ end_in e → l ≡ later (get_or xs (p - 1) d) e → IsPut e xs (slice_set xs (p - 1) l)
put_again xs zero e d l low inner some same is = absurd (omega (arith, some))
put_again xs (suc q) e d l low inner some same is =
    let at : suc q - 1 ≡ q = omega arith in
    again (take q xs) (get_or xs q d) (drop (suc q) xs) (split_at xs q d (omega (arith, low))) (sym (subst (λ j. end_in (get_or xs j d) ≡ end_in e) at same)) inner
    (ap (λ j. slice_set xs j l) at ∙ (set_at xs q l (omega (arith, low)) ∙ ap (λ y. take q xs ++ (y ∷ drop (suc q) xs)) (is ∙ ap (λ j. later (get_or xs j d) e) at)))

pub visible_at : (xs : List Entry) (i n : ℕ) (d : Entry) → i < length xs → is_seen n (get_or xs i d) ≡ true → AllByRecursion (λ e. is_seen n e ≡ false) (drop (suc i) xs)
    → IsVisible n xs (Some (get_or xs i d).node)
visible_at xs i n d low seen none = (take i xs, get_or xs i d, drop (suc i) xs, split_at xs i d low, refl, seen, none)

-- the entry that stands for one that is not there
abbrev pub nothing : Entry
nothing = record { node = 0; scope = record { node = 0; from = 0; to = 0; more_from = 0; more_to = 0 } }

-- an item that is there is read with any default
pub get_or_any : {A : Type 0} (xs : List A) (i : ℕ) (d e : A) → i < length xs → get_or xs i d ≡ get_or xs i e
get_or_any [] i d e h = absurd (omega (arith, h))
get_or_any (x ∷ xs) zero d e h = refl
get_or_any (x ∷ xs) (suc i) d e h = get_or_any xs i d e (omega (arith, h))

-- one item more
pub all_pushed : {A : Type 0} (P : ℕ → A → Type 0) (xs : List A) (n : ℕ) (y d : A) → length xs ≡ n → ((i : ℕ) → i < n → P i (get_or xs i d)) → P n y
    → (i : ℕ) → i < n + 1 → P i (get_or (xs ++ y ∷ []) i d)
all_pushed {A} P xs n y d long all new i low = by (less_or i n low)
  where
    less_or : (a b : ℕ) → a < b + 1 → (a < b) ⊎ (a ≡ b)
    less_or a b h = grind arith

    front : (xs : List A) (i : ℕ) → i < length xs → get_or (xs ++ y ∷ []) i d ≡ get_or xs i d
    front [] i h = absurd (omega (arith, h))
    front (x ∷ xs) zero h = refl
    front (x ∷ xs) (suc i) h = front xs i (omega (arith, h))

    last : (xs : List A) → get_or (xs ++ y ∷ []) (length xs) d ≡ y
    last [] = refl
    last (x ∷ xs) = last xs

    by : (i < n) ⊎ (i ≡ n) → P i (get_or (xs ++ y ∷ []) i d)
    by (inl less) = subst (P i) (sym (front xs i (omega (arith, less, long)))) (all i less)
    by (inr same) = subst (λ j. P j (get_or (xs ++ y ∷ []) j d)) (sym same) (subst (P n) (sym (ap (λ j. get_or (xs ++ y ∷ []) j d) (sym long) ∙ last xs)) new)
