-- The table of places.
use Rattle.std.proofs.Common.{◌≡◌, ◌==◌, ℕ, zero, suc, ◌+◌, ◌<◌, ◌≤◌, Bool, true, false, not, List, [], ◌∷◌, ◌++◌, length, drop, get_or, set, refl, sym, ap, subst, ◌∙◌, arith, cond, inl, inr, if◌then◌else◌}
use Rattle.std.proofs.lemmas.Bool.{cases_eq, eq-eqb, ne_eqb}
use Rattle.std.proofs.lemmas.List.{get_or-set_same, get_or-set_other}
use Rattle.firm_rules.specs.declared.node.BlockId.{BlockId}
use Rattle.firm_nodes.specs.Kept.{block_numbers}
use Rattle.firm_nodes.proofs.OrderLaws.{place, blocks_long, block_at}
use Rattle.firm_text.specs.Places.{ArePlaces}

-- what stands for none past the end may stand there too
pub widened : (list : List ℕ) (none b : ℕ) → get_or (list ++ none ∷ []) b none ≡ get_or list b none
widened [] none zero = refl
widened [] none (suc b) = refl
widened (x ∷ list) none zero = refl
widened (x ∷ list) none (suc b) = widened list none b

pub placed : (list before : List ℕ) (block at none : ℕ) → block < length list → ((b : ℕ) → get_or list b none ≡ get_or before b none)
    → (b : ℕ) → get_or (set list block at) b none ≡ (if block == b then at else get_or before b none)
placed list before block at none within same b = elim (cases_eq block b) [
  | inl e ↦ ap (λ k. get_or (set list block at) k none) (sym e) ∙ get_or-set_same list block at none within
      ∙ sym (ap (λ t. cond t at (get_or before b none)) (eq-eqb block b e))
  | inr ne ↦ get_or-set_other list block b at none (λ e. ne (sym e)) ∙ same b ∙ sym (ap (λ t. cond t at (get_or before b none)) (ne_eqb block b ne))
]

by_first : (t : Bool) (rest at : ℕ) → cond t at (suc at + rest) ≡ at + cond t 0 (suc rest)
by_first true rest at = omega arith
by_first false rest at = omega arith

first_place : (x b : ℕ) (order : List ℕ) → place b (x ∷ order) ≡ cond (x == b) 0 (suc (place b order))
first_place x b order = elim (cases_eq x b) [
  | inl e ↦ omega (arith, ap {B = ℕ} (λ t. cond (not t) (1 + place b order) 0) (eq-eqb x b e), ap {B = ℕ} (λ t. cond t 0 (suc (place b order))) (eq-eqb x b e))
  | inr ne ↦ omega (arith, ap {B = ℕ} (λ t. cond (not t) (1 + place b order) 0) (ne_eqb x b ne), ap {B = ℕ} (λ t. cond t 0 (suc (place b order))) (ne_eqb x b ne))
]

dropped : (order : List ℕ) (at : ℕ) → at < length order → drop at order ≡ get_or order at 0 ∷ drop (suc at) order
dropped [] at h = absurd (omega arith)
dropped (x ∷ order) zero h = refl
dropped (x ∷ order) (suc at) h = dropped order at (omega arith)

place_before : (order : List ℕ) (at b : ℕ) → at < length order
    → (if get_or order at 0 == b then at else suc at + place b (drop (suc at) order)) ≡ at + place b (drop at order)
place_before order at b h =
    by_first (get_or order at 0 == b) (place b (drop (suc at) order)) at
    ∙ sym (ap (λ k. at + k) (ap (place b) (dropped order at h) ∙ first_place (get_or order at 0) b (drop (suc at) order)))

-- one block more has its place
pub place_turn : (ids : List BlockId) (before after : List ℕ) (next at : ℕ) (read d : BlockId) → at + 1 ≡ next → at < length ids → read ≡ get_or ids at d
    → ((b : ℕ) → get_or before b (length ids) ≡ next + place b (drop next (block_numbers ids)))
    → ((b : ℕ) → get_or after b (length ids) ≡ (if read.number == b then at else get_or before b (length ids)))
    → (b : ℕ) → get_or after b (length ids) ≡ at + place b (drop at (block_numbers ids))
place_turn ids before after next at read d more within r was put b =
    let was_b : get_or before b (length ids) ≡ suc at + place b (drop (suc at) (block_numbers ids)) =
    was b ∙ ap (λ k. k + place b (drop k (block_numbers ids))) (sym more ∙ omega arith) in
    let is_read : read.number ≡ get_or (block_numbers ids) at 0 = ap (λ (id : BlockId). id.number) r ∙ sym (block_at ids at d within) in
    put b
    ∙ ap (λ k. cond (read.number == b) at k) was_b
    ∙ ap (λ k. cond (k == b) at (suc at + place b (drop (suc at) (block_numbers ids)))) is_read
    ∙ place_before (block_numbers ids) at b (omega (arith, blocks_long ids))

none_left : (order : List ℕ) (at : ℕ) → length order ≤ at → drop at order ≡ []
none_left [] zero h = refl
none_left [] (suc at) h = refl
none_left (x ∷ order) zero h = absurd (omega arith)
none_left (x ∷ order) (suc at) h = none_left order at (omega arith)

pub no_place_yet : (ids : List BlockId) (b : ℕ) → get_or [] b (length ids) ≡ length ids + place b (drop (length ids) (block_numbers ids))
no_place_yet ids b = omega (arith, ap (place b) (none_left (block_numbers ids) (length ids) (omega (arith, blocks_long ids))))

pub all_placed : (ids : List BlockId) (places : List ℕ) (at : ℕ) → at ≤ 0
    → ((b : ℕ) → get_or places b (length ids) ≡ at + place b (drop at (block_numbers ids))) → ArePlaces (block_numbers ids) places
all_placed ids places at done all b =
    let is : at ≡ 0 = omega (arith, done) in
    ap (get_or places b) (blocks_long ids) ∙ all b ∙ omega (arith, is, ap (λ k. place b (drop k (block_numbers ids))) is)

-- a block of the order has a place in it
pub place_within : (b : ℕ) (order : List ℕ) (i : ℕ) → i < length order → get_or order i 0 ≡ b → place b order < length order
place_within b [] i h e = absurd (omega arith)
place_within b (x ∷ order) zero h e = omega (arith, first_place x b order, ap (λ t. cond t 0 (suc (place b order))) (eq-eqb x b e))
place_within b (x ∷ order) (suc i) h e = elim (cases_eq x b) [
  | inl same ↦ omega (arith, first_place x b order, ap (λ t. cond t 0 (suc (place b order))) (eq-eqb x b same))
  | inr ne ↦ omega (
    arith,
    first_place x b order,
    ap {B = ℕ} (λ t. cond t 0 (suc (place b order))) (ne_eqb x b ne),
    place_within b order i (omega arith) e,
  )
]

pub block_found : (ids : List BlockId) (order : List ℕ) (i : ℕ) (d : BlockId) → i < length ids → block_numbers ids ≡ order
    → place (get_or ids i d).number order < length order
block_found ids order i d h e =
    subst (λ l. place (get_or ids i d).number l < length l) e
    (place_within (get_or ids i d).number (block_numbers ids) i (omega (arith, blocks_long ids)) (block_at ids i d h))
