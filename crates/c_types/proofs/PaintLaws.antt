-- Bytes with cells.
use Rattle.std.proofs.Common.{◌≡◌, ◌≢◌, ℕ, zero, suc, ◌+◌, ◌-◌, ◌/◌, ◌^◌, ◌<◌, ◌≤◌, true, false, List, [], ◌∷◌, ◌++◌, length, take, drop, map, replicate, get_or, refl, sym, ap, ap₂, subst, ◌∙◌, arith}
use Rattle.std.specs.Prelude.{slice_set}
use Rattle.std.specs.List.{AllByRecursion, AllZip, range_with_len}
use Rattle.std.proofs.Math.Nat.{div-div-eq-div-mul}
use Rattle.std.proofs.lemmas.Nat.{pow-add}
use Rattle.std.proofs.Math.Seq.{drop-cons}
use Rattle.std.proofs.lemmas.List.FromFn.{length-map-range_with_len}
use Rattle.std.proofs.lemmas.List.{append-nil, length-replicate, take_at}
use Rattle.std.proofs.lemmas.Grind.{common_steps}
use Rattle.c_types.specs.declared.tree.Cell.{Cell}
use Rattle.c_types.specs.declared.tree.Object.{Object}
use Rattle.c_types.specs.declared.tree.CellValue.{CellValue}
use Rattle.c_types.specs.declared.tree.CellValue.TheVariants.{Number, Address}
use Rattle.c_types.specs.declared.tree.Unit.{Unit as Whole}
use Rattle.c_types.specs.InOrder.{end_from, least_multiple, offsets_from}
use Rattle.c_types.specs.Placing.{Placed, byte_at, byte_of, cells_of, covers, measures_of, painted, placed}
use Rattle.c_types.specs.Writing.{AddressesFit, CellsFit, IsKnown, ObjectsFit}
use Rattle.c_types.specs.WellMade.{AddressFits, IsAlignment, end_of_cell}
use Rattle.c_types.proofs.OrderLaws.{end_from_behind, objects_aligned}

-- ---- lists by their places

-- two functions that agree from a place on
map_agrees : (f g : ℕ → ℕ) (a n : ℕ) → ((i : ℕ) → a ≤ i → f i ≡ g i) → map f (range_with_len a n) ≡ map g (range_with_len a n)
map_agrees f g a zero same = refl
map_agrees f g a (suc n) same = ap₂ (λ x xs. x ∷ xs) (same a (omega arith)) (map_agrees f g (a + 1) n (λ i past. same i (omega (arith, past))))

-- a write makes the list of another function, where the two agree elsewhere
set_mapped : (f g : ℕ → ℕ) (a n j : ℕ) → j < n → ((i : ℕ) → a ≤ i → i ≢ a + j → f i ≡ g i)
    → slice_set (map f (range_with_len a n)) j (g (a + j)) ≡ map g (range_with_len a n)
set_mapped f g a zero j within same = absurd (omega (arith, within))
set_mapped f g a (suc n) zero within same =
    ap₂ (λ x xs. x ∷ xs) (ap g {x = a + 0} (omega arith)) (map_agrees f g (a + 1) n (λ i past. same i (omega (arith, past)) (λ e. omega (arith, past, e))))
set_mapped f g a (suc n) (suc j) within same =
    ap₂ (λ x xs. x ∷ xs) (same a (omega arith) (λ e. omega (arith, e)))
    (ap (λ v. slice_set (map f (range_with_len (a + 1) n)) j (g v)) {x = a + suc j} (omega arith)
    ∙ set_mapped f g (a + 1) n j (omega (arith, within)) (λ i past other. same i (omega (arith, past)) (λ e. other (omega (arith, e)))))

-- nothing is written yet
pub painted_none : (n : ℕ) → replicate n 0 ≡ painted [] n
painted_none n = zeros_from 0 n
  where
    zeros_from : (a n : ℕ) → replicate n 0 ≡ map (byte_at []) (range_with_len a n)
    zeros_from a zero = refl
    zeros_from a (suc n) = ap (λ xs. 0 ∷ xs) (zeros_from (a + 1) n)

-- ---- the bytes of one cell

module _ (at number : ℕ) (done : List Placed) where
  -- the cell, as far as so many bytes are written
  abbrev front : ℕ → Placed
  front k = record { at = at; width = k; number = number }

  covers_none : (i : ℕ) → covers i (front 0) ≡ false
  covers_none i = grind (arith, common_steps)

  covers_new : (k : ℕ) → covers (at + k) (front (k + 1)) ≡ true
  covers_new k = grind (arith, common_steps)

  covers_old : (i k : ℕ) → i ≢ at + k → covers i (front k) ≡ covers i (front (k + 1))
  covers_old i k other = grind (arith, common_steps)

  pub no_byte : (n : ℕ) → painted done n ≡ painted (front 0 ∷ done) n
  no_byte n = map_agrees (byte_at done) (byte_at (front 0 ∷ done)) 0 n (λ i past. rw (covers_none i) refl)

  pub one_byte : (k n : ℕ) → at + k < n
      → slice_set (painted (front k ∷ done) n) (at + k) (byte_of number k) ≡ painted (front (k + 1) ∷ done) n
  one_byte k n within =
      ap (λ v. slice_set (painted (front k ∷ done) n) (at + k) v) (sym new_byte)
      ∙ set_mapped (byte_at (front k ∷ done)) (byte_at (front (k + 1) ∷ done)) 0 n (at + k) within (λ i past other. rw (covers_old i k (λ e. other (omega (arith, e)))) refl)
    where
      new_byte : byte_at (front (k + 1) ∷ done) (0 + (at + k)) ≡ byte_of number k
      new_byte = subst (λ i. byte_at (front (k + 1) ∷ done) i ≡ byte_of number k) {x = at + k} (omega arith)
          (rw (covers_new k) (ap (byte_of number) {x = at + k - at} (omega arith)))

-- the number that is left behind one more byte
pub next_rest : (number k : ℕ) → number / 256 ^ k / 256 ≡ number / 256 ^ (k + 1)
next_rest number k = div-div-eq-div-mul number (256 ^ k) 256 ∙ ap (λ n. number / n) (sym (pow-add 256 k 1))

-- ---- the cells of objects

-- two lists of one length, item by item
module _ {A B : Type 0} (R : A → B → Type 0) where
  pub zip_long : (xs : List A) (ys : List B) → AllZip R xs ys → length xs ≡ length ys
  zip_long [] [] all = refl
  zip_long [] (y ∷ ys) all = absurd all
  zip_long (x ∷ xs) [] all = absurd all
  zip_long (x ∷ xs) (y ∷ ys) all = ap suc (zip_long xs ys all.1)

  pub zip_at : (xs : List A) (ys : List B) (i : ℕ) (d : A) (e : B) → i < length xs → AllZip R xs ys → R (get_or xs i d) (get_or ys i e)
  zip_at [] ys i d e within all = absurd (omega (arith, within))
  zip_at (x ∷ xs) [] i d e within all = absurd all
  zip_at (x ∷ xs) (y ∷ ys) zero d e within all = all.0
  zip_at (x ∷ xs) (y ∷ ys) (suc i) d e within all = zip_at xs ys i d e (omega (arith, within)) all.1

pub all_at : {A : Type 0} (P : A → Type 0) (xs : List A) (i : ℕ) (d : A) → i < length xs → AllByRecursion P xs → P (get_or xs i d)
all_at P [] i d within all = absurd (omega (arith, within))
all_at P (x ∷ xs) zero d within all = all.0
all_at P (x ∷ xs) (suc i) d within all = all_at P xs i d (omega (arith, within)) all.1

module _ (base : ℕ) (offsets : List ℕ) where
  -- the cells of one more object stand before those of the objects behind it
  pub one_object : (os : List Object) (ats : List ℕ) (left : ℕ) (d : Object) → 0 < left → left ≤ length os → length os ≡ length ats
      → cells_of base offsets (drop (left - 1) os) (drop (left - 1) ats)
      ≡ map (placed base offsets (get_or ats (left - 1) 0)) (get_or os (left - 1) d).cells ++ cells_of base offsets (drop left os) (drop left ats)
  one_object os ats left d some within long =
      let next : suc (left - 1) ≡ left = omega (arith, some) in
      ap₂ (cells_of base offsets) (drop-cons os (left - 1) d (omega (arith, some, within))) (drop-cons ats (left - 1) 0 (omega (arith, some, within, long)))
      ∙ ap (λ n. map (placed base offsets (get_or ats (left - 1) 0)) (get_or os (left - 1) d).cells ++ cells_of base offsets (drop n os) (drop n ats)) next

-- ---- the objects of a well-made unit

cells_fit : (cells : List Cell) (at size limit : ℕ) → AllByRecursion (λ c. end_of_cell c ≤ size) cells → at + size ≤ limit → CellsFit cells at limit
cells_fit [] at size limit inside low = tt
cells_fit (c ∷ cs) at size limit inside low = let here = inside.0 in (omega (arith, here, low), cells_fit cs at size limit inside.1 low)

pub objects_fit : (end : ℕ) (objects : List Object) → AllByRecursion (λ o. IsAlignment o.align) objects
    → AllByRecursion (λ o. AllByRecursion (λ c. end_of_cell c ≤ o.size) o.cells) objects
    → ObjectsFit objects (offsets_from end (measures_of objects)) (end_from end (measures_of objects))
objects_fit end [] aligned inside = tt
objects_fit end (o ∷ os) aligned inside =
    let at = least_multiple o.align end in
    (cells_fit o.cells at o.size _ inside.0 (end_from_behind (at + o.size) (measures_of os) (objects_aligned os aligned.1)), objects_fit (at + o.size) os aligned.1 inside.1)

one_known : (u : Whole) (count width : ℕ) (value : CellValue) → count ≡ length u.objects → AddressFits u width value → IsKnown count value
one_known u count width (Number n) same fits = tt
one_known u count width (Address object addend) same fits = let h = fits.1 in omega (arith, h, same)

cells_known : (u : Whole) (count : ℕ) (cells : List Cell) → count ≡ length u.objects → AllByRecursion (λ c. AddressFits u c.width c.value) cells → AddressesFit count cells
cells_known u count [] same all = tt
cells_known u count (c ∷ cs) same all = (one_known u count c.width c.value same all.0, cells_known u count cs same all.1)

pub objects_known : (u : Whole) (count : ℕ) (objects : List Object) → count ≡ length u.objects
    → AllByRecursion (λ o. AllByRecursion (λ c. AddressFits u c.width c.value) o.cells) objects → AllByRecursion (λ o. AddressesFit count o.cells) objects
objects_known u count [] same all = tt
objects_known u count (o ∷ os) same all = (cells_known u count o.cells same all.0, objects_known u count os same all.1)

pub length-offsets : (end : ℕ) (objects : List Object) → length (offsets_from end (measures_of objects)) ≡ length objects
length-offsets end [] = refl
length-offsets end (o ∷ os) = ap suc (length-offsets (least_multiple o.align end + o.size) os)

-- zeros, over which the cells were written
pub written_is : (items given new : List ℕ) (len size : ℕ) (cells : List Placed) → items ≡ replicate size 0 → given ≡ items → len ≡ length items
    → ((done : List Placed) → given ≡ painted done (length given) → new ≡ painted (cells ++ done) (length given))
    → take len (new ++ drop (length new) items) ≡ painted cells size
written_is items given new len size cells zeros same all write =
    let long : length given ≡ size = ap length (same ∙ zeros) ∙ length-replicate size 0 in
    let start : given ≡ painted [] (length given) = same ∙ zeros ∙ painted_none size ∙ ap (painted []) (sym long) in
    let now : new ≡ painted cells size = write [] start ∙ ap₂ painted (append-nil cells) long in
    let as_long : length new ≡ len = ap length now ∙ length-map-range_with_len (byte_at cells) 0 size ∙ sym long ∙ ap length same ∙ sym all in
    take_at new (drop (length new) items) len as_long ∙ now
