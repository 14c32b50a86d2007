-- Writes of bytes one behind the other.
use Rattle.std.proofs.Common.{◌≡◌, ℕ, suc, ◌+◌, ◌<◌, ◌≤◌, List, [], ◌∷◌, ◌++◌, length, take, drop, sym, ap, ap₂, ◌∙◌, arith, append_assoc}
use Rattle.std.specs.Prelude.{slice_set}
use Rattle.std.proofs.lemmas.List.{take-append-drop, drop-set-lt, length-set}
use Rattle.std.proofs.Math.Seq.{take-suc-set}
use Rattle.run_model.specs.Accesses.{with_part}

pub with_none : (bytes : List ℕ) (at : ℕ) → bytes ≡ with_part bytes at []
with_none bytes at = sym (take-append-drop at bytes) ∙ ap (λ n. take at bytes ++ drop n bytes) {x = at} (omega arith)

pub with_cons : (bytes : List ℕ) (at x : ℕ) (xs : List ℕ) → at < length bytes → with_part (slice_set bytes at x) (at + 1) xs ≡ with_part bytes at (x ∷ xs)
with_cons bytes at x xs within =
    ap₂ (λ front back. front ++ (xs ++ back))
    (ap (λ n. take n (slice_set bytes at x)) {x = at + 1} {y = suc at} (omega arith) ∙ take-suc-set bytes at x within)
    (drop-set-lt (at + 1 + length xs) bytes at x (omega arith) ∙ ap (λ n. drop n bytes) {x = at + 1 + length xs} {y = at + suc (length xs)} (omega arith))
    ∙ append_assoc (take at bytes) (x ∷ []) (xs ++ drop (at + suc (length xs)) bytes)

pub put_four : (bytes : List ℕ) (at x y z w : ℕ) → at + 4 ≤ length bytes
    → slice_set (slice_set (slice_set (slice_set bytes at x) (at + 1) y) (at + 2) z) (at + 3) w ≡ with_part bytes at (x ∷ y ∷ z ∷ w ∷ [])
put_four bytes at x y z w within =
    let one = slice_set bytes at x in
    let two = slice_set one (at + 1) y in
    let three = slice_set two (at + 2) z in
    let long1 : length one ≡ length bytes = length-set bytes at x in
    let long2 : length two ≡ length bytes = length-set one (at + 1) y ∙ long1 in
    let long3 : length three ≡ length bytes = length-set two (at + 2) z ∙ long2 in
    let e1 : at + 1 + 1 ≡ at + 2 = omega arith in
    let e2 : at + 2 + 1 ≡ at + 3 = omega arith in
    with_none (slice_set three (at + 3) w) (at + 3 + 1)
    ∙ with_cons three (at + 3) w [] (omega (arith, within, long3))
    ∙ ap (λ n. with_part three n (w ∷ [])) (sym e2)
    ∙ with_cons two (at + 2) z (w ∷ []) (omega (arith, within, long2))
    ∙ ap (λ n. with_part two n (z ∷ w ∷ [])) (sym e1)
    ∙ with_cons one (at + 1) y (z ∷ w ∷ []) (omega (arith, within, long1))
    ∙ with_cons bytes at x (y ∷ z ∷ w ∷ []) (omega (arith, within))
