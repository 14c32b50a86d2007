-- A text of the first form is read in one way.
use Rattle.std.proofs.Common.{◌≡◌, ℕ, ◌<◌, ◌^◌, ◌⊎◌, inl, inr, List, [], ◌∷◌, ◌++◌, drop, get_or, lit<, refl, sym, ap, subst, ◌∙◌, arith, append_assoc}
use Rattle.std.specs.Prelude.{codes}
use Rattle.std.specs.List.{AllByRecursion, flat_map}
use Rattle.std.specs.Fmt.{decimal}
use Rattle.std.proofs.lemmas.Fmt.{decimal_injective}
use Rattle.std.proofs.lemmas.List.{append_cancel_left}
use Rattle.std.proofs.lemmas.List.Concat.{flat_map-cons}
use Rattle.cp_first.specs.FirstForm.{IsByte, IsEnd, IsFirst, opening_text, call_text}
use Rattle.cp_first.proofs.Numbers.{one_split, Avoids-decimal}

-- a number up to a byte that is no digit
pub one_number : (end m n : ℕ) (xs ys : List ℕ) → (end < 48) ⊎ (57 < end) → IsByte m → IsByte n → decimal m ++ end ∷ xs ≡ decimal n ++ end ∷ ys → (m ≡ n) × (xs ≡ ys)
one_number end m n xs ys other hm hn e =
    let fm : m < 2 ^ 64 = omega arith in
    let fn : n < 2 ^ 64 = omega arith in
    let split = one_split end (decimal m) (decimal n) xs ys (Avoids-decimal end m fm other) (Avoids-decimal end n fn other) e in
    (decimal_injective m n fm fn split.0, split.1)

-- a call, and what follows it
pub one_call : (m n : ℕ) (xs ys : List ℕ) → IsByte m → IsByte n → call_text m ++ xs ≡ call_text n ++ ys → (m ≡ n) × (xs ≡ ys)
one_call m n xs ys hm hn e =
    let number = sym (append_assoc (decimal m) (codes ");") xs) ∙ ap (drop 8) e ∙ append_assoc (decimal n) (codes ");") ys in
    let split = one_number 41 m n (59 ∷ xs) (59 ∷ ys) (inl (lit< tt)) hm hn number in
    (split.0, ap (drop 1) split.1)

-- what ends a unit begins with no call
pub no_call : (end rest : List ℕ) (s n : ℕ) → IsEnd end s → end ≡ call_text n ++ rest → ⊥
no_call end rest s n (inl h) e = let first : ◌≡◌ {A = ℕ} 114 112 = ap (λ text. get_or text 0 0) (sym h ∙ e) in omega arith
no_call end rest s n (inr h) e = let first : ◌≡◌ {A = ℕ} 114 112 = ap (λ text. get_or text 0 0) (sym h ∙ e) in omega arith

-- the calls of a list that is not empty
calls : (x : ℕ) (xs rest : List ℕ) → flat_map call_text (x ∷ xs) ++ rest ≡ call_text x ++ (flat_map call_text xs ++ rest)
calls x xs rest = ap (λ text. text ++ rest) (flat_map-cons call_text x xs) ∙ append_assoc (call_text x) (flat_map call_text xs) rest

-- calls up to an end
pub one_reading : (xs ys rest end : List ℕ) (s : ℕ) → AllByRecursion IsByte xs → AllByRecursion IsByte ys → IsEnd end s → ((n : ℕ) (r : List ℕ) → IsByte n → rest ≡ call_text n ++ r → ⊥) → flat_map call_text xs ++ rest ≡ flat_map call_text ys ++ end → (xs ≡ ys) × (rest ≡ end)
one_reading [] [] rest end s hx hy he none e = (refl, e)
one_reading [] (y ∷ ys) rest end s hx hy he none e = absurd (none y (flat_map call_text ys ++ end) hy.0 (e ∙ calls y ys end))
one_reading (x ∷ xs) [] rest end s hx hy he none e = absurd (no_call end (flat_map call_text xs ++ rest) s x he (sym e ∙ calls x xs rest))
one_reading (x ∷ xs) (y ∷ ys) rest end s hx hy he none e =
    let first = one_call x y (flat_map call_text xs ++ rest) (flat_map call_text ys ++ end) hx.0 hy.0 (sym (calls x xs rest) ∙ e ∙ calls y ys end) in
    let others = one_reading xs ys rest end s hx.1 hy.1 he none first.1 in
    (ap (λ z. z ∷ xs) first.0 ∙ ap (λ zs. y ∷ zs) others.0, others.1)

-- the calls and the end of a text of the first form are those that were read
pub one_form : (text xs ys rest : List ℕ) (s : ℕ) → text ≡ opening_text ++ (flat_map call_text xs ++ rest) → AllByRecursion IsByte xs → ((n : ℕ) (r : List ℕ) → IsByte n → rest ≡ call_text n ++ r → ⊥) → IsFirst text ys s → (xs ≡ ys) × IsEnd rest s
one_form text xs ys rest s e hx none f =
    let tails = append_cancel_left opening_text (flat_map call_text xs ++ rest) (flat_map call_text ys ++ f.end) (sym e ∙ f.spelled) in
    let read = one_reading xs ys rest f.end s hx f.each f.ended none tails in
    (read.0, subst (λ end. IsEnd end s) (sym read.1) f.ended)

-- what stands in an end after `return `
status_digits : (end : List ℕ) (s : ℕ) → IsEnd end s → (rest : List ℕ) × (drop 7 end ≡ decimal s ++ 59 ∷ rest)
status_digits end s (inl e) = (codes "}", ap (drop 7) e)
status_digits end s (inr e) = (codes "}\n", ap (drop 7) e ∙ append_assoc (decimal s) (codes ";}") (codes "\n"))

-- a text is one unit of the first form at most
pub one_first : (text xs ys : List ℕ) (s t : ℕ) → IsFirst text xs s → IsFirst text ys t → (xs ≡ ys) × (s ≡ t)
one_first text xs ys s t f g =
    let form = one_form text xs ys f.end t f.spelled f.each (λ n r h e. no_call f.end r s n f.ended e) g in
    let a = status_digits f.end s f.ended in
    let b = status_digits f.end t form.1 in
    (form.0, (one_number 59 s t a.0 b.0 (inr (lit< tt)) f.last g.last (sym a.1 ∙ b.1)).0)
