-- Cells of strings, and cells that are moved.
use Rattle.std.proofs.Common.{◌≡◌, ◌++◌, ◌+◌, ◌<◌, ◌≤◌, ◌%◌, ◌^◌, ℕ, zero, suc, List, [], ◌∷◌, length, map, take, drop, get_or, refl, sym, ap, ap₂, ◌∙◌, arith}
use Rattle.std.specs.Prelude.{slice_set}
use Rattle.std.proofs.lemmas.List.{length-append, map-append, take_all, drop_all}
use Rattle.std.proofs.Math.Seq.{take-suc}
use Rattle.std.proofs.Math.Nat.{add-mod-mod, mod-add-mod}
use Rattle.c_types.specs.declared.tree.Cell.{Cell}
use Rattle.c_types.specs.declared.tree.CellValue.TheVariants.{Number}
use Rattle.c_typing.specs.Initializers.{cell, text_cells, moved}
use Rattle.c_judgements.specs.Judged.{wrapped}

-- ---- strings

one_more : (at : ℕ) (bytes : List ℕ) (b : ℕ) → text_cells at (bytes ++ b ∷ []) ≡ text_cells at bytes ++ cell (at + length bytes) 1 (Number b)
one_more at [] b = ap (λ n. cell n 1 (Number b)) (omega arith)
one_more at (x ∷ bytes) b =
    ap (λ cs. cell at 1 (Number x) ++ cs) (one_more (at + 1) bytes b ∙ ap (λ n. text_cells (at + 1) bytes ++ cell n 1 (Number b)) (omega arith))

-- the cells of the first bytes
abbrev pub AreFirst : List ℕ → ℕ → List Cell → Type 0
AreFirst bytes k cells = (cells ≡ map wrapped (text_cells 0 (take k bytes))) × (length (take k bytes) ≡ k)

pub next_first : (bytes : List ℕ) (k d : ℕ) (cells new : List Cell) → k < length bytes → AreFirst bytes k cells
    → new ≡ cells ++ record { offset = k % 2 ^ 32; width = 1; value = Number (get_or bytes k d) } ∷ [] → AreFirst bytes (k + 1) new
next_first bytes k d cells new less (are, long) more =
    let turn : k + 1 ≡ suc k = omega arith in
    let next : take (k + 1) bytes ≡ take k bytes ++ get_or bytes k d ∷ [] = ap (λ n. take n bytes) turn ∙ take-suc bytes k d less in
    let here : 0 + length (take k bytes) ≡ k = omega (arith, long) in
    let all = one_more 0 (take k bytes) (get_or bytes k d) ∙ ap (λ n. text_cells 0 (take k bytes) ++ cell n 1 (Number (get_or bytes k d))) here in (
      more ∙ ap (λ cs. cs ++ record { offset = k % 2 ^ 32; width = 1; value = Number (get_or bytes k d) } ∷ []) are
          ∙ sym (map-append wrapped (text_cells 0 (take k bytes)) (cell k 1 (Number (get_or bytes k d)))) ∙ ap (map wrapped) (sym all) ∙ ap (λ bs. map wrapped (text_cells 0 bs)) (sym next),
      ap length next ∙ length-append (take k bytes) (get_or bytes k d ∷ []) ∙ ap (λ n. n + 1) long,
    )

pub all_first : (bytes : List ℕ) (k : ℕ) (cells : List Cell) → length bytes ≤ k → AreFirst bytes k cells → cells ≡ map wrapped (text_cells 0 bytes)
all_first bytes k cells past (are, long) = are ∙ ap (λ bs. map wrapped (text_cells 0 bs)) (take_all k bytes past)

-- ---- cells that are moved

abbrev pub shifted : ℕ → Cell → Cell
shifted by c = record c { offset = (c.offset + by) % 2 ^ 32 }

-- the first cells are moved
abbrev pub first_shifted : ℕ → List Cell → ℕ → List Cell
first_shifted by cells k = map (shifted by) (take k cells) ++ drop k cells

set_next : (by : ℕ) (cells : List Cell) (k : ℕ) (d e : Cell) → k < length cells → slice_set (first_shifted by cells k) k (shifted by (get_or (first_shifted by cells k) k d)) ≡ first_shifted by cells (suc k)
set_next by [] k d e less = absurd (omega (arith, less))
set_next by (c ∷ cells) zero d e less = refl
set_next by (c ∷ cells) (suc k) d e less = ap (λ cs. shifted by c ∷ cs) (set_next by cells k d e (omega (arith, less)))

pub next_shifted : (by : ℕ) (cells now : List Cell) (k : ℕ) (d : Cell) → k < length cells → now ≡ first_shifted by cells k → slice_set now k (shifted by (get_or now k d)) ≡ first_shifted by cells (k + 1)
next_shifted by cells now k d less e =
    let next : suc k ≡ k + 1 = omega arith in
    ap (λ cs. slice_set cs k (shifted by (get_or cs k d))) e ∙ set_next by cells k d d less ∙ ap (first_shifted by cells) next

shifted_wrapped : (by offset : ℕ) → by ≡ offset % 2 ^ 32 → (cs : List Cell) → map (shifted by) (map wrapped cs) ≡ map wrapped (map (moved offset) cs)
shifted_wrapped by offset e [] = refl
shifted_wrapped by offset e (c ∷ cs) = ap₂ (λ n (rest : List Cell). record c { offset = n } ∷ rest) one (shifted_wrapped by offset e cs)
  where
    one : (c.offset % 2 ^ 32 + by) % 2 ^ 32 ≡ (offset + c.offset) % 2 ^ 32
    one = mod-add-mod c.offset (2 ^ 32) by ∙ ap (λ b. (c.offset + b) % 2 ^ 32) e ∙ add-mod-mod c.offset offset (2 ^ 32) ∙ ap (λ n. n % 2 ^ 32) (omega arith)

pub all_shifted : (by : ℕ) (cells now : List Cell) (k : ℕ) → length cells ≤ k → now ≡ first_shifted by cells k
    → (cs : List Cell) (offset : ℕ) → cells ≡ map wrapped cs → by ≡ offset % 2 ^ 32 → now ≡ map wrapped (map (moved offset) cs)
all_shifted by cells now k past e cs offset are is =
    e ∙ ap₂ (λ (xs ys : List Cell). map (shifted by) xs ++ ys) (take_all k cells past) (drop_all k cells past)
    ∙ append_none (map (shifted by) cells) ∙ ap (map (shifted by)) are ∙ shifted_wrapped by offset is cs
  where
    append_none : (xs : List Cell) → xs ++ [] ≡ xs
    append_none [] = refl
    append_none (x ∷ xs) = ap (λ ys. x ∷ ys) (append_none xs)

pub as_long : (by : ℕ) (cells : List Cell) (k : ℕ) → length (first_shifted by cells k) ≡ length cells
as_long by [] zero = refl
as_long by [] (suc k) = refl
as_long by (c ∷ cells) zero = refl
as_long by (c ∷ cells) (suc k) = ap suc (as_long by cells k)
