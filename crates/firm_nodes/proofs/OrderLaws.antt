-- The place of a block in the order.
use Rattle.std.proofs.Common.{◌≡◌, ◌≢◌, ◌==◌, ℕ, zero, suc, ◌+◌, ◌<◌, ◌≤◌, not, List, [], ◌∷◌, length, get_or, refl, sym, ap, ◌∙◌, arith, cond, inl, inr}
use Rattle.std.proofs.lemmas.Bool.{cases_eq, cases_lt, eq-eqb, ne_eqb}
use Rattle.std.specs.List.{remove, position_or_len}
use Rattle.firm_rules.specs.declared.node.BlockId.{BlockId}
use Rattle.firm_nodes.specs.Kept.{block_numbers}

abbrev pub place : ℕ → List ℕ → ℕ
place b order = position_or_len (λ c. c == b) order

here : (x b : ℕ) (order : List ℕ) → x ≡ b → place b (x ∷ order) ≡ 0
here x b order e = ap (λ t. cond (not t) (1 + place b order) 0) (eq-eqb x b e)

behind : (x b : ℕ) (order : List ℕ) → x ≢ b → place b (x ∷ order) ≡ suc (place b order)
behind x b order ne = ap (λ t. cond (not t) (1 + place b order) 0) (ne_eqb x b ne) ∙ omega arith

pub place_is : (b : ℕ) (order : List ℕ) → place b order < length order → get_or order (place b order) 0 ≡ b
place_is b [] h = absurd (omega arith)
place_is b (x ∷ order) h = elim (cases_eq x b) [
  | inl same ↦ ap (λ k. get_or (x ∷ order) k 0) (here x b order same) ∙ same
  | inr ne ↦ ap (λ k. get_or (x ∷ order) k 0) (behind x b order ne) ∙ place_is b order (omega (arith, h, behind x b order ne))
]

pub before : (b : ℕ) (order : List ℕ) (k : ℕ) → k < place b order → get_or order k 0 ≢ b
before b [] k h = absurd (omega arith)
before b (x ∷ order) zero h = elim (cases_eq x b) [
  | inl same ↦ absurd (omega (arith, h, here x b order same))
  | inr ne ↦ ne
]
before b (x ∷ order) (suc k) h = elim (cases_eq x b) [
  | inl same ↦ absurd (omega (arith, h, here x b order same))
  | inr ne ↦ before b order k (omega (arith, h, behind x b order ne))
]

-- a step of the search
pub search_on : (b at : ℕ) (order : List ℕ) → place b order < length order → at ≤ place b order → get_or order at 0 ≢ b → at + 1 ≤ place b order
search_on b at order h le ne = elim (cases_lt at (place b order)) [
  | inl lt ↦ omega (arith, lt)
  | inr ge ↦ absurd (ne (ap (λ k. get_or order k 0) (equal at (place b order) le ge) ∙ place_is b order h))
] where
  equal : (m n : ℕ) → m ≤ n → n ≤ m → m ≡ n
  equal m n a c = omega arith

pub search_ends : (b at : ℕ) (order : List ℕ) → at ≤ place b order → get_or order at 0 ≡ b → at ≡ place b order
search_ends b at order le e = elim (cases_lt at (place b order)) [
  | inl lt ↦ absurd (before b order at lt e)
  | inr ge ↦ omega (arith, le, ge)
]

-- what stands in a list without one place stood in the list
pub removed_from : (list : List ℕ) (i k : ℕ) → k < length (remove list i) → (j : ℕ) × ((j < length list) × (get_or (remove list i) k 0 ≡ get_or list j 0))
removed_from [] zero k h = absurd (omega arith)
removed_from [] (suc i) k h = absurd (omega arith)
removed_from (x ∷ list) zero k h = (suc k, (omega (arith, h), refl))
removed_from (x ∷ list) (suc i) zero h = (0, (omega arith, refl))
removed_from (x ∷ list) (suc i) (suc k) h =
    let found = removed_from list i k (omega (arith, h)) in
    (suc found.0, (omega (arith, found.1.0), found.1.1))

-- ---- names of blocks, by their numbers

pub blocks_long : (ids : List BlockId) → length (block_numbers ids) ≡ length ids
blocks_long [] = refl
blocks_long (x ∷ ids) = ap suc (blocks_long ids)

pub block_at : (ids : List BlockId) (i : ℕ) (d : BlockId) → i < length ids → get_or (block_numbers ids) i 0 ≡ (get_or ids i d).number
block_at [] i d h = absurd (omega arith)
block_at (x ∷ ids) zero d h = refl
block_at (x ∷ ids) (suc i) d h = block_at ids i d (omega arith)

pub blocks_removed : (ids : List BlockId) (i : ℕ) → block_numbers (remove ids i) ≡ remove (block_numbers ids) i
blocks_removed [] zero = refl
blocks_removed [] (suc i) = refl
blocks_removed (x ∷ ids) zero = refl
blocks_removed (x ∷ ids) (suc i) = ap (λ l. x.number ∷ l) (blocks_removed ids i)

-- the block that is read, within the order
pub read_block : (ids : List BlockId) (b at : ℕ) (read : BlockId) → place b (block_numbers ids) < length (block_numbers ids) → at ≤ place b (block_numbers ids)
    → read ≡ get_or ids at read → get_or (block_numbers ids) at 0 ≡ read.number
read_block ids b at read h le e =
    block_at ids at read (omega (arith, h, le, blocks_long ids)) ∙ ap (λ (id : BlockId). id.number) (sym e)

pub taken_out : (ids after : List BlockId) (b at : ℕ) → at ≡ place b (block_numbers ids) → after ≡ remove ids at → block_numbers after ≡ remove (block_numbers ids) (place b (block_numbers ids))
taken_out ids after b at e a = ap block_numbers a ∙ blocks_removed ids at ∙ ap (remove (block_numbers ids)) e
