-- Cells that stand apart within bounds: those of a text, of a constant, moved ones, and those of parts in order.
use Rattle.std.proofs.Common.{◌≡◌, inl, inr, ℕ, ◌+◌, ◌≤◌, Bool, true, false, ◌||◌, List, [], ◌∷◌, ◌++◌, length, map, Option, Some, None, sym, subst, arith}
use Rattle.std.specs.Prelude.{if◌then◌else◌, flat_map}
use Rattle.std.specs.List.{AllByRecursion}
use Rattle.c_types.specs.declared.tree.Cell.{Cell}
use Rattle.c_types.specs.declared.tree.CellValue.{CellValue}
use Rattle.c_types.specs.WellMade.{end_of_cell, AreApart, AllApart}
use Rattle.c_typing.specs.Types.{CType, Layout, size_of, is_array, is_struct}
use Rattle.c_typing.specs.Judgements.{Constant, number, address_of, Typing}
use Rattle.c_typing.specs.Conversions.{value_of}
use Rattle.c_typing.specs.Rules.{bad_initializer}
use Rattle.c_typing.specs.Initializers.{constant_cell, text_cells, moved, Part, part, scalar_part, value_part}

-- a cell lies between two places
abbrev pub Between : ℕ → ℕ → Cell → Type 0
Between low high c = (low ≤ c.offset) × (end_of_cell c ≤ high)

-- cells lie between two places, no two of them meet, and the places are in order
pub record Stand (low high : ℕ) (cs : List Cell) : Type 0 where
  pub within : AllByRecursion (Between low high) cs
  pub apart : AllApart cs
  pub ordered : low ≤ high

-- ---- all of a list

pub all_mapped : {A : Type 0} (P Q : A → Type 0) (xs : List A) → ((x : A) → P x → Q x) → AllByRecursion P xs → AllByRecursion Q xs
all_mapped P Q [] f h = tt
all_mapped P Q (x ∷ xs) f h = (f x h.0, all_mapped P Q xs f h.1)

pub all_joint : {A : Type 0} (P : A → Type 0) (xs ys : List A) → AllByRecursion P xs → AllByRecursion P ys → AllByRecursion P (xs ++ ys)
all_joint P [] ys h g = g
all_joint P (x ∷ xs) ys h g = (h.0, all_joint P xs ys h.1 g)

-- ---- none, fewer bounds, two rows of cells

pub no_cells : (low high : ℕ) → low ≤ high → Stand low high []
no_cells low high le = record { within = tt; apart = tt; ordered = le }

wider : (low high a b : ℕ) (cs : List Cell) → a ≤ low → high ≤ b → AllByRecursion (Between low high) cs → AllByRecursion (Between a b) cs
wider low high a b cs le more h = all_mapped (Between low high) (Between a b) cs
    (λ c k. let from = k.0 in let to = k.1 in (omega (arith, from, le), omega (arith, to, more))) h

pub stand_wider : (low high a b : ℕ) (cs : List Cell) → a ≤ low → high ≤ b → Stand low high cs → Stand a b cs
stand_wider low high a b cs le more h = let o = h.ordered in record { within = wider low high a b cs le more h.within; apart = h.apart; ordered = omega (arith, le, more, o) }

apart_from : (mid high : ℕ) (c : Cell) (ys : List Cell) → end_of_cell c ≤ mid → AllByRecursion (Between mid high) ys → AllByRecursion (AreApart c) ys
apart_from mid high c ys e h = all_mapped (Between mid high) (AreApart c) ys (λ d k. let from = k.0 in inl (omega (arith, e, from))) h

both_apart : (low mid high : ℕ) (xs ys : List Cell) → AllByRecursion (Between low mid) xs → AllByRecursion (Between mid high) ys → AllApart xs → AllApart ys → AllApart (xs ++ ys)
both_apart low mid high [] ys h g a b = b
both_apart low mid high (x ∷ xs) ys h g a b =
    (all_joint (AreApart x) xs ys a.0 (apart_from mid high x ys h.0.1 g), both_apart low mid high xs ys h.1 g a.1 b)

pub stand_joint : (low mid high : ℕ) (xs ys : List Cell) → Stand low mid xs → Stand mid high ys → Stand low high (xs ++ ys)
stand_joint low mid high xs ys h g =
    let first = h.ordered in
    let second = g.ordered in
    record {
      within = all_joint (Between low high) xs ys (wider low mid low high xs (omega arith) second h.within) (wider mid high low high ys first (omega arith) g.within);
      apart = both_apart low mid high xs ys h.within g.within h.apart g.apart;
      ordered = omega (arith, first, second);
    }

-- ---- moved cells

moved_within : (by low high : ℕ) (cs : List Cell) → AllByRecursion (Between low high) cs → AllByRecursion (Between (by + low) (by + high)) (map (moved by) cs)
moved_within by low high [] h = tt
moved_within by low high (c ∷ cs) h = let from = h.0.0 in let to = h.0.1 in ((omega (arith, from), omega (arith, to)), moved_within by low high cs h.1)

moved_two : (by : ℕ) (c d : Cell) → AreApart c d → AreApart (moved by c) (moved by d)
moved_two by c d (inl h) = inl (omega (arith, h))
moved_two by c d (inr h) = inr (omega (arith, h))

moved_from : (by : ℕ) (c : Cell) (cs : List Cell) → AllByRecursion (AreApart c) cs → AllByRecursion (AreApart (moved by c)) (map (moved by) cs)
moved_from by c [] h = tt
moved_from by c (d ∷ cs) h = (moved_two by c d h.0, moved_from by c cs h.1)

moved_apart : (by : ℕ) (cs : List Cell) → AllApart cs → AllApart (map (moved by) cs)
moved_apart by [] h = tt
moved_apart by (c ∷ cs) h = (moved_from by c cs h.0, moved_apart by cs h.1)

pub stand_moved : (by low high : ℕ) (cs : List Cell) → Stand low high cs → Stand (by + low) (by + high) (map (moved by) cs)
stand_moved by low high cs h = let o = h.ordered in record { within = moved_within by low high cs h.within; apart = moved_apart by cs h.apart; ordered = omega (arith, o) }

-- ---- cells of a text and of a constant

one_cell : (at width : ℕ) (value : CellValue) → Stand at (at + width) (record { offset = at; width = width; value = value } ∷ [])
one_cell at width value = record { within = ((omega arith, omega arith), tt); apart = (tt, tt); ordered = omega arith }

pub stand_text : (at : ℕ) (bytes : List ℕ) → Stand at (at + length bytes) (text_cells at bytes)
stand_text at [] = no_cells at (at + 0) (omega arith)
stand_text at (b ∷ bs) =
    subst (λ n. Stand at n (text_cells at (b ∷ bs))) {x = at + 1 + length bs} (omega arith)
    (stand_joint at (at + 1) (at + 1 + length bs) (text_cells at (b ∷ [])) (text_cells (at + 1) bs) (one_cell at 1 _) (stand_text (at + 1) bs))

pub stand_constant : (t : CType) (size : ℕ) (c : Constant) → Stand 0 size (constant_cell t 0 size c)
stand_constant t size (address_of o a) = subst (λ n. Stand 0 n (constant_cell t 0 size (address_of o a))) {x = 0 + size} (omega arith) (one_cell 0 size _)
stand_constant t size (number w) = subst (λ n. Stand 0 n (constant_cell t 0 size (number w))) {x = 0 + size} (omega arith) (one_cell 0 size _)
stand_constant t size c = subst (λ n. Stand 0 n (constant_cell t 0 size c)) {x = 0 + size} (omega arith) (one_cell 0 size _)

-- ---- the part of a value

pub stand_scalar : (ls : List Layout) (static : Bool) (t : CType) (v : Typing) (n : ℕ) → Stand 0 (size_of ls t) (scalar_part ls static t v n).cells
stand_scalar ls false t v n = no_cells 0 (size_of ls t) (omega arith)
stand_scalar ls true t v n = stand_constant t (size_of ls t) v.constant

pub stand_value : (ls : List Layout) (static : Bool) (t : CType) (n : ℕ) (o : Option Typing) (q : Part) → value_part ls static t n o ≡ Some q → Stand 0 (size_of ls t) q.cells
stand_value ls static t n None q e = absurd (cc e)
stand_value ls static t n (Some x) q e = by (is_array t || is_struct t) e
  where
    by : (b : Bool) → (if b then Some (part [] (bad_initializer true n)) else Some (scalar_part ls static t (value_of x) n)) ≡ Some q → Stand 0 (size_of ls t) q.cells
    by true e = let same : part [] (bad_initializer true n) ≡ q = cc e in subst (λ (r : Part). Stand 0 (size_of ls t) r.cells) same (no_cells 0 (size_of ls t) (omega arith))
    by false e = let same : scalar_part ls static t (value_of x) n ≡ q = cc e in subst (λ (r : Part). Stand 0 (size_of ls t) r.cells) same (stand_scalar ls static t (value_of x) n)

-- ---- parts in order

-- each part stands behind the ones before it
abbrev pub Row : ℕ → ℕ → List Part → Type 0
Row low high [] = low ≤ high
Row low high (q ∷ qs) = (mid : ℕ) × Stand low mid q.cells × Row mid high qs

pub stand_row : (low high : ℕ) (parts : List Part) → Row low high parts → Stand low high (flat_map (λ (q : Part). q.cells) parts)
stand_row low high [] h = no_cells low high h
stand_row low high (q ∷ qs) h = stand_joint low h.0 high q.cells (flat_map (λ (r : Part). r.cells) qs) h.1 (stand_row h.0 high qs h.2)

-- where no part has a cell
pub empty_row : (low high : ℕ) (parts : List Part) → low ≤ high → AllByRecursion (λ (q : Part). q.cells ≡ []) parts → Row low high parts
empty_row low high [] le h = le
empty_row low high (q ∷ qs) le h = (low, subst (λ cs. Stand low low cs) (sym h.0) (no_cells low low (omega arith)), empty_row low high qs le h.1)
