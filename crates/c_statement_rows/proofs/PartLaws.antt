-- Parts of which each has to be there.
use Rattle.std.proofs.Common.{◌≡◌, ◌<◌, ◌≤◌, ◌⊎◌, inl, inr, ℕ, zero, suc, ◌+◌, Bool, true, false, List, [], ◌∷◌, ◌++◌, Option, Some, None, length, refl, sym, ap, ◌∙◌, subst, arith}
use Rattle.std.specs.Prelude.{flat_map, get_or, is_some, map, slice_get, take, unwrap_or}
use Rattle.std.proofs.lemmas.Bool.{cases_lt, false≢true}
use Rattle.std.proofs.lemmas.Grind.{flat_map-append}
use Rattle.std.proofs.lemmas.List.{take_more}
use Rattle.std.proofs.lemmas.Option.{slice_get-get_or}
use Rattle.c_typing.specs.Judgements.{all_of, before}

-- the part of this index
abbrev pub nth : List ℕ → ℕ → ℕ
nth xs i = unwrap_or (slice_get xs i) 0

before_some : {A : Type 0} (a : A) (o : Option (List A)) → is_some (before a o) ≡ is_some o
before_some {A = A} a None = refl
before_some {A = A} a (Some rest) = refl

pub all_there : {A : Type 0} (f : ℕ → Option A) (xs : List ℕ) → is_some (all_of (map f xs)) ≡ true → (i : ℕ) → i < length xs → is_some (f (nth xs i)) ≡ true
all_there {A = A} f [] e i less = absurd (omega (arith, less))
all_there {A = A} f (x ∷ xs) e i less = by (f x) refl e i less (λ e i less. all_there f xs e i less)
  where
    by : (o : Option A) → f x ≡ o → is_some (all_of (o ∷ map f xs)) ≡ true → (i : ℕ) → i < length (x ∷ xs) → (is_some (all_of (map f xs)) ≡ true → (i : ℕ) → i < length xs → is_some (f (nth xs i)) ≡ true) → is_some (f (nth (x ∷ xs) i)) ≡ true
    by None same e i less later = absurd (false≢true e)
    by (Some a) same e zero less later = ap is_some same
    by (Some a) same e (suc i) less later = later (sym (before_some a (all_of (map f xs))) ∙ e) i (omega (arith, less))

pub one_missing : {A : Type 0} (f : ℕ → Option A) (xs : List ℕ) (i : ℕ) → i < length xs → is_some (f (nth xs i)) ≡ false → is_some (all_of (map f xs)) ≡ false
one_missing f xs i less none = by (is_some (all_of (map f xs))) refl
  where
    by : (b : Bool) → is_some (all_of (map f xs)) ≡ b → is_some (all_of (map f xs)) ≡ false
    by true e = absurd (false≢true (sym none ∙ all_there f xs e i less))
    by false e = e

pub all_found : {A : Type 0} (f : ℕ → Option A) (xs : List ℕ) → ((i : ℕ) → i < length xs → is_some (f (nth xs i)) ≡ true) → is_some (all_of (map f xs)) ≡ true
all_found {A = A} f [] h = refl
all_found {A = A} f (x ∷ xs) h = by (f x) (h 0 (omega arith)) (all_found f xs (λ i less. h (suc i) (omega (arith, less))))
  where
    by : (o : Option A) → is_some o ≡ true → is_some (all_of (map f xs)) ≡ true → is_some (all_of (o ∷ map f xs)) ≡ true
    by None e later = absurd (false≢true e)
    by (Some a) e later = before_some a (all_of (map f xs)) ∙ later

-- one more
pub found_more : (P : ℕ → Type 0) (n i : ℕ) → ((j : ℕ) → j < n → P j) → P n → i < n + 1 → P i
found_more P n i h last less = by (cases_lt i n)
  where
    by : (i < n) ⊎ (n ≤ i) → P i
    by (inl l) = h i l
    by (inr q) = let e : n ≡ i = omega (arith, less, q) in subst P e last

-- all of them, one after the other
abbrev pub run_of : {A : Type 0} → (ℕ → Option (List A)) → List ℕ → List A
run_of f xs = flat_map (λ x. unwrap_or (f x) []) xs

pub run_whole : {A : Type 0} (f : ℕ → Option (List A)) (xs : List ℕ) (parts : List (List A)) → all_of (map f xs) ≡ Some parts → run_of f xs ≡ flat_map (λ ps. ps) parts
run_whole {A = A} f [] parts e = ap (flat_map (λ ps. ps)) (same e)
  where
    same : {x y : List (List A)} → Some x ≡ Some y → x ≡ y
    same h = cc h
run_whole {A = A} f (x ∷ xs) parts e = by (f x) (λ rest same. run_whole f xs rest same) e
  where
    same : {x y : List (List A)} → Some x ≡ Some y → x ≡ y
    same h = cc h

    more : (ps : List A) (o : Option (List (List A))) → ((rest : List (List A)) → o ≡ Some rest → run_of f xs ≡ flat_map (λ ps. ps) rest) → before ps o ≡ Some parts → ps ++ run_of f xs ≡ flat_map (λ ps. ps) parts
    more ps None h e = absurd (cc e)
    more ps (Some rest) h e = ap (λ qs. ps ++ qs) (h rest refl) ∙ ap (flat_map (λ ps. ps)) (same e)

    by : (o : Option (List A)) → ((rest : List (List A)) → all_of (map f xs) ≡ Some rest → run_of f xs ≡ flat_map (λ ps. ps) rest) → all_of (o ∷ map f xs) ≡ Some parts → unwrap_or o [] ++ run_of f xs ≡ flat_map (λ ps. ps) parts
    by None h e = absurd (cc e)
    by (Some ps) h e = more ps (all_of (map f xs)) h e

pub run_more : {A : Type 0} (f : ℕ → Option (List A)) (xs : List ℕ) (i : ℕ) (part : List A) → i < length xs → f (nth xs i) ≡ Some part → run_of f (take (i + 1) xs) ≡ run_of f (take i xs) ++ part
run_more {A = A} f xs i part less there =
    ap (run_of f) (take_more xs i 0 less) ∙ flat_map-append (λ x. unwrap_or (f x) []) (take i xs) (get_or xs i 0 ∷ []) ∙ ap (λ ps. run_of f (take i xs) ++ ps) (single (unwrap_or (f (get_or xs i 0)) []) ∙ ap (λ o. unwrap_or o []) (ap f (sym (ap (λ o. unwrap_or o 0) (slice_get-get_or xs i 0 less))) ∙ there))
  where
    single : (ps : List A) → ps ++ [] ≡ ps
    single [] = refl
    single (p ∷ ps) = ap (λ qs. p ∷ qs) (single ps)

pub take_all : {A : Type 0} (xs : List A) (n : ℕ) → length xs ≤ n → take n xs ≡ xs
take_all [] zero e = refl
take_all [] (suc n) e = refl
take_all (x ∷ xs) zero e = absurd (omega (arith, e))
take_all (x ∷ xs) (suc n) e = ap (λ rest. x ∷ rest) (take_all xs n (omega (arith, e)))
