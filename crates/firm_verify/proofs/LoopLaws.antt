-- Loops, and edges into them from aside.
use Rattle.std.proofs.Common.{◌≡◌, ℕ, zero, suc, Bool, ◌+◌, ◌<◌, ◌≤◌, List, length, get_or, refl, sym, ap, ◌∙◌, subst, arith, Some, None, inl, inr, ◌⊎◌, MatchBool}
use Rattle.std.proofs.lemmas.Bool.{cases_eq}
use Rattle.std.proofs.lemmas.Option.{slice_get-get_or}
use Rattle.firm_uses.specs.Counts.{times}
use Rattle.firm_uses.proofs.CountLaws.{times_found}
use Rattle.firm_rules.specs.declared.node.BlockId.{BlockId}
use Rattle.firm_rules.specs.Graphs.{Firm}
use Rattle.firm_rules.specs.Lookups.{IsBlock, preds_of, rank}
use Rattle.firm_rules.specs.Rules.{IsWhole, IsEdge, IsEnteredAtHead}
use Rattle.firm_tables.proofs.NodeLaws.{matches}
use Rattle.firm_nodes.specs.Kept.{block_numbers}
use Rattle.firm_nodes.proofs.OrderLaws.{place_is, blocks_long, block_at}
use Rattle.firm_nodes.proofs.LikeLaws.{times_at}
use Rattle.firm_verify.specs.Broken.{AtBlocks, Rule6, IsBroken, head}
use Rattle.firm_verify.specs.Tables.{HasOutside, HasSideEntry, IsBadLoop, NoBadLoop}
use Rattle.firm_verify.proofs.CountsLaws.{got}

-- ---- edges

pub edge_listed : (g : Firm) (from to : ℕ) → IsEdge g from to → 0 < times from (preds_of g to)
edge_listed g from to e = let at = got (preds_of g to) e.0 from e.1 in times_found from (preds_of g to) e.0 0 at.0 at.1

pub listed_edge : (g : Firm) (from to : ℕ) → 0 < times from (preds_of g to) → IsEdge g from to
listed_edge g from to h =
    let found = times_at from (preds_of g to) h in
    (found.0, slice_get-get_or (preds_of g to) found.0 0 found.1.0 ∙ ap Some found.1.1)

-- ---- the place of a block in the order

pub at_rank : (g : Firm) (b : ℕ) → IsBlock g b → get_or g.order (rank g b) 0 ≡ b
at_rank g b is = place_is b g.order is

pub rank_at : (g : Firm) (place : ℕ) → IsWhole g → place < length g.order → rank g (get_or g.order place 0) ≡ place
rank_at g place whole h = (whole.in_range place (get_or g.order place 0) (slice_get-get_or g.order place 0 h)).1

-- ---- bad loops

pub bad_breaks : (g : Firm) (first last : ℕ) → IsWhole g → IsBadLoop g first last → IsEnteredAtHead g last → ⊥
bad_breaks g first last whole bad entered =
    let place = bad.side.0 in
    let outside = bad.side.1.1.1 in
    let to = get_or g.order (place + 1) 0 in
    let from = get_or (preds_of g to) outside.0 0 in
    let at : rank g to ≡ place + 1 = rank_at g (place + 1) whole (omega (arith, bad.is_block, bad.side.1.1.0)) in
    entered first from to (listed_edge g last first bad.edge) bad.back (listed_edge g from to (times_found from (preds_of g to) outside.0 0 outside.1.0 refl)) outside.1.1
    (omega (arith, at, bad.side.1.0)) (omega (arith, at, bad.side.1.1.0))

pub none_bad : (g : Firm) → AtBlocks g (NoBadLoop g) → Rule6 g
none_bad g none last is first from to back not_later edge outside after upto =
    let order = g.order in
    none first (omega (arith, not_later, is)) last (record {
      is_block = is;
      edge = edge_listed g last first back;
      back = not_later;
      side = by (rank g to) refl after;
    })
  where
    by : (r : ℕ) → rank g to ≡ r → rank g first < r → HasSideEntry g (rank g first) (rank g last)
    by zero e less = absurd (omega (arith, less))
    by (suc k) e less =
        let same : get_or g.order (k + 1) 0 ≡ to = ap (λ i. get_or g.order i 0) (add k ∙ sym e) ∙ at_rank g to (omega (arith, upto, is)) in
        let at = got (preds_of g to) edge.0 from edge.1 in (
          k,
          (
            omega (arith, less),
            (
              omega (arith, e, upto),
              subst (λ b. HasOutside g (rank g first) (rank g last) (preds_of g b)) (sym same)
                  (edge.0, (at.0, subst (λ q. (rank g q < rank g first) ⊎ (rank g last < rank g q)) (sym at.1) outside)),
            ),
          ),
        )
      where
        add : (n : ℕ) → n + 1 ≡ suc n
        add n = omega arith

pub broken_loop : (g : Firm) (first last : ℕ) → IsWhole g → IsBadLoop g first last → IsBroken g 6 None last
broken_loop g first last whole bad = head bad.is_block (bad_breaks g first last whole bad)

-- ---- tests

pub bad_by : (g : Firm) (first last low high : ℕ) (answer : Bool) → low ≡ rank g first → high ≡ rank g last → 0 < times last (preds_of g first) → low ≤ high → high < length g.order
    → MatchBool answer (HasSideEntry g low high) (HasSideEntry g low high → ⊥) → MatchBool answer (IsBadLoop g first last) (IsBadLoop g first last → ⊥)
bad_by g first last low high answer l h edge le lt m =
    matches answer m
    (λ side. record {
      is_block = omega (arith, h, lt);
      edge = edge;
      back = omega (arith, l, h, le);
      side = subst (λ x. HasSideEntry g x (rank g last)) l (subst (HasSideEntry g low) h side);
    })
    (λ bad. subst (λ x. HasSideEntry g x high) (sym l) (subst (HasSideEntry g (rank g first)) (sym h) bad.side))

pub not_back : (g : Firm) (first last low high : ℕ) → low ≡ rank g first → high ≡ rank g last → high < low → IsBadLoop g first last → ⊥
not_back g first last low high l h lt bad = omega (arith, l, h, lt, bad.back)

pub no_block : (g : Firm) (first last high count : ℕ) → high ≡ rank g last → count ≡ length g.order → count ≤ high → IsBadLoop g first last → ⊥
no_block g first last high count h e le bad = omega (arith, h, e, le, bad.is_block)

pub no_sources : (g : Firm) (first : ℕ) (preds : List ℕ) (at : ℕ) → preds ≡ preds_of g first → length preds ≤ at → ((i : ℕ) → i < at → IsBadLoop g first (get_or preds i 0) → ⊥) → NoBadLoop g first
no_sources g first preds at e h none last bad =
    let found = times_at last preds (subst (λ l. 0 < times last l) (sym e) bad.edge) in
    none found.0 (omega (arith, found.1.0, h)) (subst (IsBadLoop g first) (sym found.1.1) bad)

pub source_listed : (g : Firm) (first : ℕ) (preds : List ℕ) (i : ℕ) → preds ≡ preds_of g first → i < length preds → 0 < times (get_or preds i 0) (preds_of g first)
source_listed g first preds i e h = subst (λ l. 0 < times (get_or preds i 0) l) e (times_found (get_or preds i 0) preds i 0 h refl)

pub no_side : (g : Firm) (ids : List BlockId) (low high at : ℕ) → block_numbers ids ≡ g.order → high ≤ at
    → ((k : ℕ) → low ≤ k → k < at → HasOutside g low high (preds_of g (get_or (block_numbers ids) (k + 1) 0)) → ⊥) → HasSideEntry g low high → ⊥
no_side g ids low high at e h none side =
    none side.0 side.1.0 (omega (arith, side.1.1.0, h)) (subst (λ o. HasOutside g low high (preds_of g (get_or o (side.0 + 1) 0))) (sym e) side.1.1.1)

pub within_order : (g : Firm) (ids : List BlockId) (place high : ℕ) → block_numbers ids ≡ g.order → place < high → high < length g.order → place + 1 < length ids
within_order g ids place high e lt h = omega (arith, ap length e, blocks_long ids, lt, h)

pub side_more : (g : Firm) (ids : List BlockId) (d : BlockId) (low high at : ℕ) (preds : List ℕ) → at + 1 < length ids → preds ≡ preds_of g (get_or ids (at + 1) d).number
    → ((k : ℕ) → low ≤ k → k < at → HasOutside g low high (preds_of g (get_or (block_numbers ids) (k + 1) 0)) → ⊥) → (HasOutside g low high preds → ⊥)
    → (k : ℕ) → low ≤ k → k < at + 1 → HasOutside g low high (preds_of g (get_or (block_numbers ids) (k + 1) 0)) → ⊥
side_more g ids d low high at preds h e before now k le lt outside = elim (cases_eq k at) [
  | inl same ↦ now (subst (HasOutside g low high)
      (ap (λ i. preds_of g (get_or (block_numbers ids) (i + 1) 0)) same ∙ ap (preds_of g) (block_at ids (at + 1) d h) ∙ sym e) outside)
  | inr ne ↦ before k le (omega (arith, lt, ne)) outside
]
