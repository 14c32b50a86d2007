-- A number's text, up to a byte that is no digit.
use Rattle.std.proofs.Common.{◌≡◌, ◌≢◌, ℕ, zero, suc, ◌+◌, ◌%◌, ◌<◌, ◌≤◌, ◌^◌, ◌⊎◌, List, [], ◌∷◌, ◌++◌, length, take, get_or, refl, ap, ◌∙◌, arith}
use Rattle.std.specs.List.{AllByRecursion}
use Rattle.std.specs.Fmt.{decimal}
use Rattle.std.proofs.lemmas.Fmt.{decimal_by_steps}

-- the byte is not among these
abbrev pub Avoids : ℕ → List ℕ → Type 0
Avoids end bytes = AllByRecursion (λ byte. byte ≢ end) bytes

pub Avoids-append : (end : ℕ) (xs ys : List ℕ) → Avoids end xs → Avoids end ys → Avoids end (xs ++ ys)
Avoids-append end [] ys h k = k
Avoids-append end (x ∷ xs) ys h k = (h.0, Avoids-append end xs ys h.1 k)

-- the bytes up to an index, none of which is the byte
pub Avoids-take : (end : ℕ) (xs : List ℕ) (n : ℕ) → ((k : ℕ) → k < n → get_or xs k 0 ≢ end) → n ≤ length xs → Avoids end (take n xs)
Avoids-take end xs zero h le = tt
Avoids-take end [] (suc n) h le = absurd (omega arith)
Avoids-take end (x ∷ xs) (suc n) h le = (h 0 (omega arith), Avoids-take end xs n (λ k lt. h (suc k) (omega arith)) (omega arith))

-- what stands before the first such byte is determined, and so is what stands after it
pub one_split : (end : ℕ) (xs ys cs bs : List ℕ) → Avoids end xs → Avoids end ys → xs ++ end ∷ cs ≡ ys ++ end ∷ bs → (xs ≡ ys) × (cs ≡ bs)
one_split end [] [] cs bs h k e = (refl, cc)
one_split end [] (y ∷ ys) cs bs h k e = absurd (k.0 (cc))
one_split end (x ∷ xs) [] cs bs h k e = absurd (h.0 (cc))
one_split end (x ∷ xs) (y ∷ ys) cs bs h k e =
    let head : x ≡ y = cc in
    let tail : xs ++ end ∷ cs ≡ ys ++ end ∷ bs = cc in
    let rest = one_split end xs ys cs bs h.1 k.1 tail in
    (ap (λ zs. x ∷ zs) rest.0 ∙ ap (λ z. z ∷ ys) head, rest.1)

-- no split
pub no_split : (end : ℕ) (xs cs bs : List ℕ) → Avoids end xs → xs ≡ cs ++ end ∷ bs → ⊥
no_split end [] [] bs h e = absurd (cc)
no_split end [] (c ∷ cs) bs h e = absurd (cc)
no_split end (x ∷ xs) [] bs h e = h.0 (cc)
no_split end (x ∷ xs) (c ∷ cs) bs h e = no_split end xs cs bs h.1 (cc)

-- no digit is another byte
pub Avoids-decimal : (end n : ℕ) → n < 2 ^ 64 → (end < 48) ⊎ (57 < end) → Avoids end (decimal n)
Avoids-decimal end n h other = decimal_by_steps (λ _ ds. Avoids end ds) one more n h
  where
    one : (m : ℕ) → m < 10 → Avoids end ((48 + m) ∷ [])
    one m lt = (λ e. omega arith, tt)

    more : (m : ℕ) (ds : List ℕ) → 10 ≤ m → Avoids end ds → Avoids end (ds ++ ((48 + m % 10) ∷ []))
    more m ds le all = Avoids-append end ds _ all (one (m % 10) (omega arith))
