-- Tables by numbers.
use Rattle.std.proofs.Common.{◌≡◌, ◌≢◌, not, cond, ℕ, zero, suc, ◌+◌, ◌-◌, ◌<◌, ◌≤◌, List, [], ◌∷◌, ◌++◌, length, drop, get_or, refl, sym, ap, ◌∙◌, subst, arith, inl, inr}
use Rattle.std.proofs.lemmas.Bool.{cases_eq, eq-eqb, ne_eqb}
use Rattle.firm_rules.specs.declared.node.BlockId.{BlockId}
use Rattle.firm_rules.specs.Graphs.{Firm}
use Rattle.firm_nodes.specs.Kept.{block_numbers}
use Rattle.firm_nodes.proofs.OrderLaws.{place, blocks_long, block_at}
use Rattle.firm_verify.specs.Tables.{AreRanks}

placed_here : (x b : ℕ) (order : List ℕ) → x ≡ b → place b (x ∷ order) ≡ 0
placed_here x b order e = ap (λ t. cond (not t) (1 + place b order) 0) (eq-eqb x b e)

placed_behind : (x b : ℕ) (order : List ℕ) → x ≢ b → place b (x ∷ order) ≡ suc (place b order)
placed_behind x b order ne = ap (λ t. cond (not t) (1 + place b order) 0) (ne_eqb x b ne) ∙ omega arith

-- one more is in the table
pub longer : {T : Type 0} (table : List T) (filler : T) (other : ℕ) → get_or (table ++ filler ∷ []) other filler ≡ get_or table other filler
longer [] filler zero = refl
longer [] filler (suc other) = refl
longer (x ∷ table) filler zero = refl
longer (x ∷ table) filler (suc other) = longer table filler other

-- the block at the place is the first of them
rank_here : (order : List ℕ) (at : ℕ) → at < length order → at + place (get_or order at 0) (drop at order) ≡ at
rank_here [] at h = absurd (omega arith)
rank_here (x ∷ order) zero h = omega (arith, placed_here x x order refl)
rank_here (x ∷ order) (suc at) h = omega (arith, rank_here order at (omega arith))

rank_other : (order : List ℕ) (at b : ℕ) → at < length order → get_or order at 0 ≢ b → at + place b (drop at order) ≡ suc at + place b (drop (suc at) order)
rank_other [] at b h ne = absurd (omega arith)
rank_other (x ∷ order) zero b h ne = omega (arith, placed_behind x b order ne)
rank_other (x ∷ order) (suc at) b h ne = omega (arith, rank_other order at b (omega arith) ne)

-- the places of the blocks from a place on
abbrev pub AreRanksFrom : List BlockId → List ℕ → ℕ → Type 0
AreRanksFrom ids ranks at = (at ≤ length ids) × ((b : ℕ) → get_or ranks b (length ids) ≡ at + place b (drop at (block_numbers ids)))

rank_none : (order : List ℕ) (count b : ℕ) → count ≡ length order → count + place b (drop count order) ≡ count
rank_none [] zero b e = refl
rank_none [] (suc count) b e = absurd (omega (arith, e))
rank_none (x ∷ order) zero b e = absurd (omega (arith, e))
rank_none (x ∷ order) (suc count) b e = omega (arith, rank_none order count b (omega (arith, e)))

pub ranks_start : (ids : List BlockId) (ranks : List ℕ) → ranks ≡ [] → AreRanksFrom ids ranks (length ids)
ranks_start ids ranks e = (
  omega arith,
  λ b. ap (λ r. get_or r b (length ids)) e ∙ sym (rank_none (block_numbers ids) (length ids) b (sym (blocks_long ids))),
)

rank_set : (ids : List BlockId) (ranks after : List ℕ) (at read : ℕ) → at < length ids → ((b : ℕ) → get_or ranks b (length ids) ≡ suc at + place b (drop (suc at) (block_numbers ids)))
    → read ≡ get_or (block_numbers ids) at 0 → get_or after read (length ids) ≡ at → ((other : ℕ) → other ≢ read → get_or after other (length ids) ≡ get_or ranks other (length ids))
    → (b : ℕ) → get_or after b (length ids) ≡ at + place b (drop at (block_numbers ids))
rank_set ids ranks after at read h r e this others b =
    let order = block_numbers ids in
    let within : at < length order = omega (arith, h, blocks_long ids) in
    elim (cases_eq (get_or order at 0) b) [
      | inl same ↦ ap (λ k. get_or after k (length ids)) (sym same ∙ sym e) ∙ this ∙ sym (ap (λ k. at + place k (drop at order)) (sym same) ∙ rank_here order at within)
      | inr ne ↦ others b (λ (same : b ≡ read). ne (sym e ∙ sym same)) ∙ r b ∙ sym (rank_other order at b within ne)
    ]

turn_to : (ids : List BlockId) (ranks after : List ℕ) (at k : ℕ) (d : BlockId) → at ≡ suc k → AreRanksFrom ids ranks at → get_or after (get_or ids k d).number (length ids) ≡ k
    → ((other : ℕ) → other ≢ (get_or ids k d).number → get_or after other (length ids) ≡ get_or ranks other (length ids)) → AreRanksFrom ids after k
turn_to ids ranks after at k d e r this others =
    let was = subst (AreRanksFrom ids ranks) e r in (
      omega (arith, was.0),
      rank_set ids ranks after k (get_or ids k d).number (omega (arith, was.0)) was.1 (sym (block_at ids k d (omega (arith, was.0)))) this others,
    )

pub ranks_turn : (ids : List BlockId) (ranks after : List ℕ) (at : ℕ) (d : BlockId) → 0 < at → AreRanksFrom ids ranks at
    → get_or after (get_or ids (at - 1) d).number (length ids) ≡ at - 1
    → ((other : ℕ) → other ≢ (get_or ids (at - 1) d).number → get_or after other (length ids) ≡ get_or ranks other (length ids)) → AreRanksFrom ids after (at - 1)
ranks_turn ids ranks after at d h r this others = turn_to ids ranks after at (at - 1) d (omega (arith, h)) r this others

pub ranks_done : (g : Firm) (ids : List BlockId) (ranks : List ℕ) (at : ℕ) → block_numbers ids ≡ g.order → at ≤ 0 → AreRanksFrom ids ranks at → AreRanks g ranks
ranks_done g ids ranks zero e h r b =
    ap (get_or ranks b) (sym (ap length e) ∙ blocks_long ids) ∙ r.1 b ∙ plain (place b (block_numbers ids)) ∙ ap (place b) e
  where
    plain : (k : ℕ) → 0 + k ≡ k
    plain k = omega arith
ranks_done g ids ranks (suc at) e h r b = absurd (omega (arith, h))
