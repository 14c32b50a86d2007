-- Rows in the middle of a change.
use Rattle.std.proofs.Common.{◌≡◌, ◌≢◌, ℕ, zero, suc, ◌+◌, ◌<◌, ◌≤◌, List, [], ◌∷◌, ◌++◌, length, take, drop, map, get_or, set, refl, sym, ap, ap₂, ◌∙◌, arith, append_assoc, Result, Ok, Err, IsOk, OnOk, cond}
use Rattle.std.proofs.Math.Numerals.{suc-eq-add-one}
use Rattle.std.proofs.lemmas.Bool.{eq-eqb, ne_eqb}
use Rattle.std.proofs.lemmas.List.{take_more, take_all, set-set, set-get_or, get_or-set_same, get_or-set_other, append-nil, drop_all, take_at}
use Rattle.std.specs.List.{remove}
use Rattle.cp_obstack.specs.Lists.{list_of}
use Rattle.firm_uses.specs.Tables.{with_list}
use Rattle.firm_uses.specs.Counts.{renamed}

-- ---- one row

pub row_now : (rows : List (List ℕ)) (k : ℕ) (list : List ℕ) → k < length rows → list_of (with_list rows k list) k ≡ list
row_now rows k list h = get_or-set_same rows k list [] h

pub other_row : (rows : List (List ℕ)) (k j : ℕ) (list : List ℕ) → j ≢ k → list_of (with_list rows k list) j ≡ list_of rows j
other_row rows k j list ne = get_or-set_other rows k j list [] ne

-- a further change of the same row
pub twice : (rows : List (List ℕ)) (k : ℕ) (list more : List ℕ) → with_list (with_list rows k list) k more ≡ with_list rows k more
twice rows k list more = set-set rows k list more

pub unchanged : (rows : List (List ℕ)) (k : ℕ) → with_list rows k (list_of rows k) ≡ rows
unchanged rows k = set-get_or rows k []

-- ---- a number that is taken out

length_remove : (l : List ℕ) (i : ℕ) → i < length l → suc (length (remove l i)) ≡ length l
length_remove [] i h = absurd (omega arith)
length_remove (x ∷ l) zero h = refl
length_remove (x ∷ l) (suc i) h = ap suc (length_remove l i (omega arith))

-- the numbers from `index` on, as far as `at`, have moved up
abbrev pub moved_up : List ℕ → ℕ → ℕ → List ℕ
moved_up l index at = take at (remove l index) ++ drop at l

pub moved_start : (l : List ℕ) (index : ℕ) → index < length l → moved_up l index index ≡ l
moved_start [] index h = absurd (omega arith)
moved_start (x ∷ l) zero h = refl
moved_start (x ∷ l) (suc index) h = ap (λ m. x ∷ m) (moved_start l index (omega arith))

pub moved_step : (l : List ℕ) (index at d : ℕ) → index ≤ at → suc at < length l → set (moved_up l index at) at (get_or l (suc at) d) ≡ moved_up l index (suc at)
moved_step [] index at d h lt = absurd (omega arith)
moved_step (x ∷ []) index at d h lt = absurd (omega arith)
moved_step (x ∷ y ∷ l) zero zero d h lt = refl
moved_step (x ∷ y ∷ l) zero (suc at) d h lt = ap (λ m. y ∷ m) (moved_step (y ∷ l) zero at d (omega arith) (omega arith))
moved_step (x ∷ y ∷ l) (suc index) zero d h lt = absurd (omega arith)
moved_step (x ∷ y ∷ l) (suc index) (suc at) d h lt = ap (λ m. x ∷ m) (moved_step (y ∷ l) index at d (omega arith) (omega arith))

pub moved_next : (l : List ℕ) (index at d : ℕ) → index ≤ at → suc at < length l → get_or (moved_up l index at) (suc at) d ≡ get_or l (suc at) d
moved_next [] index at d h lt = absurd (omega arith)
moved_next (x ∷ []) index at d h lt = absurd (omega arith)
moved_next (x ∷ y ∷ l) zero zero d h lt = refl
moved_next (x ∷ y ∷ l) zero (suc at) d h lt = moved_next (y ∷ l) zero at d (omega arith) (omega arith)
moved_next (x ∷ y ∷ l) (suc index) zero d h lt = absurd (omega arith)
moved_next (x ∷ y ∷ l) (suc index) (suc at) d h lt = moved_next (y ∷ l) index at d (omega arith) (omega arith)

pub moved_length : (l : List ℕ) (index at : ℕ) → index ≤ at → at < length l → index < length l → length (moved_up l index at) ≡ length l
moved_length [] index at h lt i = absurd (omega arith)
moved_length (x ∷ l) zero zero h lt i = refl
moved_length (x ∷ []) zero (suc at) h lt i = absurd (omega arith)
moved_length (x ∷ y ∷ l) zero (suc at) h lt i = ap suc (moved_length (y ∷ l) zero at (omega arith) (omega arith) (omega arith))
moved_length (x ∷ l) (suc index) zero h lt i = absurd (omega arith)
moved_length (x ∷ l) (suc index) (suc at) h lt i = ap suc (moved_length l index at (omega arith) (omega arith) (omega arith))

pub moved_end : (l : List ℕ) (index last : ℕ) → index < length l → suc last ≡ length l → take last (moved_up l index last) ≡ remove l index
moved_end l index last h e =
    let many : length (remove l index) ≡ last = omega (arith, length_remove l index h, e) in
    ap (λ m. take last (m ++ drop last l)) (take_all last (remove l index) (omega (arith, many))) ∙ take_at (remove l index) (drop last l) last many

-- ---- numbers that are renamed

abbrev pub renamed_to : ℕ → ℕ → List ℕ → ℕ → List ℕ
renamed_to old to l at = map (renamed old to) (take at l) ++ drop at l

pub renamed_length : (old to : ℕ) (l : List ℕ) (at : ℕ) → length (renamed_to old to l at) ≡ length l
renamed_length old to l zero = refl
renamed_length old to [] (suc at) = refl
renamed_length old to (x ∷ l) (suc at) = ap suc (renamed_length old to l at)

pub renamed_here : (old to : ℕ) (l : List ℕ) (at d : ℕ) → get_or (renamed_to old to l at) at d ≡ get_or l at d
renamed_here old to l zero d = refl
renamed_here old to [] (suc at) d = refl
renamed_here old to (x ∷ l) (suc at) d = renamed_here old to l at d

-- one step, where the number is the old one, and where it is not
pub renamed_step : (old to : ℕ) (l : List ℕ) (at : ℕ) → at < length l → get_or l at 0 ≡ old → set (renamed_to old to l at) at to ≡ renamed_to old to l (suc at)
renamed_step old to [] at h e = absurd (omega arith)
renamed_step old to (x ∷ l) zero h e = ap (λ b. cond b to x ∷ l) (sym (eq-eqb x old e))
renamed_step old to (x ∷ l) (suc at) h e = ap (λ m. renamed old to x ∷ m) (renamed_step old to l at (omega arith) e)

pub renamed_skip : (old to : ℕ) (l : List ℕ) (at : ℕ) → at < length l → get_or l at 0 ≢ old → renamed_to old to l at ≡ renamed_to old to l (suc at)
renamed_skip old to [] at h e = absurd (omega arith)
renamed_skip old to (x ∷ l) zero h e = ap (λ b. cond b to x ∷ l) (sym (ne_eqb x old e))
renamed_skip old to (x ∷ l) (suc at) h e = ap (λ m. renamed old to x ∷ m) (renamed_skip old to l at (omega arith) e)

pub renamed_end : (old to : ℕ) (l : List ℕ) (n : ℕ) → length l ≤ n → renamed_to old to l n ≡ map (renamed old to) l
renamed_end old to l n h = ap₂ (λ a b. map (renamed old to) a ++ b) (take_all n l h) (drop_all n l h) ∙ append-nil (map (renamed old to) l)

-- what a call that succeeds ensures
pub on_ok : {T E : Type 0} {P : Type 0} (r : Result T E) → IsOk r → OnOk r P → P
on_ok (Ok x) h p = p
on_ok (Err e) h p = absurd (cc)

-- ---- one turn of a loop over a row

-- the row holds a list now, and another in its place
pub further : (rows now : List (List ℕ)) (k : ℕ) (list more : List ℕ) → now ≡ with_list rows k list → with_list now k more ≡ with_list rows k more
further rows now k list more e = ap (λ rs. with_list rs k more) e ∙ twice rows k list more

pub holds : (rows now : List (List ℕ)) (k : ℕ) (list : List ℕ) → k < length rows → now ≡ with_list rows k list → list_of now k ≡ list
holds rows now k list there e = ap (λ rs. list_of rs k) e ∙ row_now rows k list there

pub rename_then : (rows now : List (List ℕ)) (k old to at : ℕ) → k < length rows → at < length (list_of rows k)
    → now ≡ with_list rows k (renamed_to old to (list_of rows k) at) → get_or (list_of now k) at 0 ≡ old
    → with_list now k (set (list_of now k) at to) ≡ with_list rows k (renamed_to old to (list_of rows k) (at + 1))
rename_then rows now k old to at there within e found =
    let held = holds rows now k (renamed_to old to (list_of rows k) at) there e in
    let was : get_or (list_of rows k) at 0 ≡ old = sym (ap (λ l. get_or l at 0) held ∙ renamed_here old to (list_of rows k) at 0) ∙ found in
    further rows now k (renamed_to old to (list_of rows k) at) (set (list_of now k) at to) e
    ∙ ap (with_list rows k) (ap (λ l. set l at to) held ∙ renamed_step old to (list_of rows k) at within was ∙ ap (renamed_to old to (list_of rows k)) (suc-eq-add-one at))

pub rename_else : (rows now : List (List ℕ)) (k old to at : ℕ) → k < length rows → at < length (list_of rows k)
    → now ≡ with_list rows k (renamed_to old to (list_of rows k) at) → get_or (list_of now k) at 0 ≢ old
    → now ≡ with_list rows k (renamed_to old to (list_of rows k) (at + 1))
rename_else rows now k old to at there within e other =
    let held = holds rows now k (renamed_to old to (list_of rows k) at) there e in
    let was : get_or (list_of rows k) at 0 ≢ old = λ same. other (ap (λ l. get_or l at 0) held ∙ renamed_here old to (list_of rows k) at 0 ∙ same) in
    e ∙ ap (with_list rows k) (renamed_skip old to (list_of rows k) at within was ∙ ap (renamed_to old to (list_of rows k)) (suc-eq-add-one at))

pub remove_turn : (rows now : List (List ℕ)) (k index at value : ℕ) → k < length rows → index ≤ at → suc at < length (list_of rows k)
    → now ≡ with_list rows k (moved_up (list_of rows k) index at) → value ≡ get_or (list_of now k) (at + 1) 0
    → with_list now k (set (list_of now k) at value) ≡ with_list rows k (moved_up (list_of rows k) index (at + 1))
remove_turn rows now k index at value there below within e v =
    let list = list_of rows k in
    let held = holds rows now k (moved_up list index at) there e in
    let value_is : value ≡ get_or list (suc at) 0 = v ∙ ap₂ (λ l n. get_or l n 0) held (sym (suc-eq-add-one at)) ∙ moved_next list index at 0 below within in
    further rows now k (moved_up list index at) (set (list_of now k) at value) e
    ∙ ap (with_list rows k) (ap₂ (λ l x. set l at x) held value_is ∙ moved_step list index at 0 below within ∙ ap (moved_up list index) (suc-eq-add-one at))

pub remove_done : (rows now : List (List ℕ)) (k index last : ℕ) → k < length rows → index < length (list_of rows k) → suc last ≡ length (list_of rows k)
    → now ≡ with_list rows k (moved_up (list_of rows k) index last)
    → with_list now k (take last (list_of now k)) ≡ with_list rows k (remove (list_of rows k) index)
remove_done rows now k index last there within many e =
    let list = list_of rows k in
    further rows now k (moved_up list index last) (take last (list_of now k)) e
    ∙ ap (with_list rows k) (ap (take last) (holds rows now k (moved_up list index last) there e) ∙ moved_end list index last within many)

pub extend_turn : (rows now : List (List ℕ)) (k from index value : ℕ) → k < length rows → k ≢ from → index < length (list_of rows from)
    → now ≡ with_list rows k (list_of rows k ++ take index (list_of rows from)) → value ≡ get_or (list_of now from) index 0
    → with_list now k (list_of now k ++ value ∷ []) ≡ with_list rows k (list_of rows k ++ take (index + 1) (list_of rows from))
extend_turn rows now k from index value there differs within e v =
    let list = list_of rows k ++ take index (list_of rows from) in
    let same : list_of now from ≡ list_of rows from = ap (λ rs. list_of rs from) e ∙ other_row rows k from list (λ s. differs (sym s)) in
    further rows now k list (list_of now k ++ value ∷ []) e
    ∙ ap (with_list rows k)
    (ap₂ (λ l x. l ++ x ∷ []) (holds rows now k list there e) (v ∙ ap (λ l. get_or l index 0) same)
    ∙ append_assoc (list_of rows k) (take index (list_of rows from)) (get_or (list_of rows from) index 0 ∷ [])
    ∙ ap (λ l. list_of rows k ++ l) (sym (take_more (list_of rows from) index 0 within)))
