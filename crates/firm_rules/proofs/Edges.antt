-- A block is left by an edge, so the blocks that a call comes to are a walk.
use Rattle.std.proofs.Common.{◌≡◌, refl, ap, ◌∙◌, subst, ℕ, zero, suc, ◌+◌, ◌<◌, ◌==◌, arith, Bool, true, false, List, [], ◌∷◌, Option, Some, None}
use Rattle.std.specs.Prelude.{slice_get, count_by, cond, not, drop, if◌then◌else◌}
use Rattle.std.proofs.lemmas.List.Sums.{sum_by-cons}
use Rattle.run_model.specs.Stores.{World, Store}
use Rattle.ssa_core.specs.Walks.{Walk, end, IsWalk}
use Rattle.firm_rules.specs.declared.node.FirmEnd.{FirmEnd}
use Rattle.firm_rules.specs.declared.node.FirmEnd.TheVariants.{Jump, Branch, Return}
use Rattle.firm_rules.specs.Graphs.{Firm, Program}
use Rattle.firm_rules.specs.Lookups.{IsBlock, is_later, preds_of, end_of, targets, shape}
use Rattle.firm_rules.specs.Rules.{Obeys}
use Rattle.firm_rules.specs.Frames.{Frame, word_at}
use Rattle.firm_rules.specs.Runs.{Exit, ends, goes, back, jump, edge_place, next_edge_place, branch, exit_by}
use Rattle.firm_rules.specs.Visits.{History, Comes, begins, has_acted, has_called, has_gone}
use Rattle.firm_rules.proofs.Steps.{Test, alike, apart, test}
use Rattle.firm_rules.proofs.Stuck.{first_is_block}

-- ---- places among predecessors

abbrev count : ℕ → List ℕ → ℕ
count b xs = count_by (λ c. c == b) xs

count_cons : (b x : ℕ) (xs : List ℕ) → count b (x ∷ xs) ≡ cond (x == b) 1 0 + count b xs
count_cons b x xs = sum_by-cons (λ c. cond (c == b) 1 0) x xs

counted : (xs : List ℕ) (b : ℕ) → 0 < count b xs → slice_get xs (edge_place xs b) ≡ Some b
counted [] b some = absurd (omega (arith, some))
counted (x ∷ xs) b some = by (test x b) (counted xs b)
  where
    by : Test x b → (0 < count b xs → slice_get xs (edge_place xs b) ≡ Some b) → slice_get (x ∷ xs) (edge_place (x ∷ xs) b) ≡ Some b
    by (alike same t) before = ap (λ u. slice_get (x ∷ xs) (cond (not u) (1 + edge_place xs b) 0)) t ∙ ap Some same
    by (apart _ t) before =
        let fewer : count b (x ∷ xs) ≡ 0 + count b xs = count_cons b x xs ∙ ap (λ u. cond u 1 0 + count b xs) t in
        let next : 1 + edge_place xs b ≡ suc (edge_place xs b) = omega arith in
        ap (λ u. slice_get (x ∷ xs) (cond (not u) (1 + edge_place xs b) 0)) t
        ∙ ap (slice_get (x ∷ xs)) next
        ∙ before (omega (arith, some, fewer))

-- the place after the first one, by where this is
abbrev after_place : List ℕ → ℕ → ℕ → ℕ
after_place xs b first = suc first + edge_place (drop (suc first) xs) b

counted_twice : (xs : List ℕ) (b : ℕ) → 1 < count b xs → slice_get xs (after_place xs b (edge_place xs b)) ≡ Some b
counted_twice [] b some = absurd (omega (arith, some))
counted_twice (x ∷ xs) b some = by (test x b) (counted_twice xs b)
  where
    by : Test x b → (1 < count b xs → slice_get xs (after_place xs b (edge_place xs b)) ≡ Some b)
        → slice_get (x ∷ xs) (after_place (x ∷ xs) b (edge_place (x ∷ xs) b)) ≡ Some b
    by (alike same t) before =
        let fewer : count b (x ∷ xs) ≡ 1 + count b xs = count_cons b x xs ∙ ap (λ u. cond u 1 0 + count b xs) t in
        let next : suc 0 + edge_place xs b ≡ suc (edge_place xs b) = omega arith in
        ap (λ u. slice_get (x ∷ xs) (after_place (x ∷ xs) b (cond (not u) (1 + edge_place xs b) 0))) t
        ∙ ap (slice_get (x ∷ xs)) next
        ∙ counted xs b (omega (arith, some, fewer))
    by (apart _ t) before =
        let fewer : count b (x ∷ xs) ≡ 0 + count b xs = count_cons b x xs ∙ ap (λ u. cond u 1 0 + count b xs) t in
        let one_more : 1 + edge_place xs b ≡ suc (edge_place xs b) = omega arith in
        let next : suc (suc (edge_place xs b)) + edge_place (drop (suc (edge_place xs b)) xs) b ≡ suc (after_place xs b (edge_place xs b)) = omega arith in
        ap (λ u. slice_get (x ∷ xs) (after_place (x ∷ xs) b (cond (not u) (1 + edge_place xs b) 0))) t
        ∙ ap (λ k. slice_get (x ∷ xs) (after_place (x ∷ xs) b k)) one_more
        ∙ ap (slice_get (x ∷ xs)) next
        ∙ before (omega (arith, some, fewer))

-- ---- the edge by which a block is left

record IsEdgeTo (g : Firm) (b to place : ℕ) : Type 0 where
  block : IsBlock g to
  at : slice_get (preds_of g to) place ≡ Some b

abbrev ByEdge : Firm → ℕ → Exit → Type 0
ByEdge g b (ends r) = Unit {0}
ByEdge g b (goes to place t) = IsEdgeTo g b to place

jump_by_edge : (g : Firm) (b to place : ℕ) (s : Store) → IsEdgeTo g b to place → ByEdge g b (jump g b to place s)
jump_by_edge g b to place s is = by (is_later g b to)
  where
    going_back : (turns : ℕ) → ByEdge g b (back turns to place s)
    going_back zero = tt
    going_back (suc turns) = is

    by : (t : Bool) → ByEdge g b (if t then goes to place s else back s.turns to place s)
    by true = is
    by false = going_back s.turns

module _ (g : Firm) (b : ℕ) where
  abbrev Fit : Option FirmEnd → Type 0
  Fit end = ((to : ℕ) → IsBlock g to → count b (preds_of g to) ≡ count to (targets end))
      × ((index to : ℕ) → slice_get (targets end) index ≡ Some to → IsBlock g to)

  itself : (x : ℕ) → (x == x) ≡ true
  itself x = by (test x x)
    where
      by : Test x x → (x == x) ≡ true
      by (alike _ t) = t
      by (apart d _) = absurd (d refl)

  exit_by_edge : (word : ℕ → ℕ) (end : Option FirmEnd) (s : Store) → Fit end → ByEdge g b (exit_by g b word end s)
  exit_by_edge word (Some (Jump to)) s fit =
      let block = fit.1 0 to.number refl in
      let one : count to.number (to.number ∷ []) ≡ 1 + 0 = count_cons to.number to.number [] ∙ ap (λ t. cond t 1 0 + 0) (itself to.number) in
      jump_by_edge g b to.number (edge_place (preds_of g to.number) b) s
      (record { block = block; at = counted (preds_of g to.number) b (omega (arith, fit.0 to.number block, one)) })
  exit_by_edge word (Some (Branch n first second)) s fit = by (not (word n.number == 0))
    where
      block_first : IsBlock g first.number
      block_first = fit.1 0 first.number refl

      block_second : IsBlock g second.number
      block_second = fit.1 1 second.number refl

      sum_first : count first.number (first.number ∷ second.number ∷ []) ≡ 1 + count first.number (second.number ∷ [])
      sum_first = count_cons first.number first.number (second.number ∷ []) ∙ ap (λ t. cond t 1 0 + count first.number (second.number ∷ [])) (itself first.number)

      sum_second : count second.number (second.number ∷ []) ≡ 1 + 0
      sum_second = count_cons second.number second.number [] ∙ ap (λ t. cond t 1 0 + 0) (itself second.number)

      at_second : Test first.number second.number
          → slice_get (preds_of g second.number) (if first.number == second.number then next_edge_place (preds_of g second.number) b else edge_place (preds_of g second.number) b) ≡ Some b
      at_second (alike same t) =
          let two : count second.number (first.number ∷ second.number ∷ []) ≡ 1 + count second.number (second.number ∷ []) =
          count_cons second.number first.number (second.number ∷ []) ∙ ap (λ u. cond u 1 0 + count second.number (second.number ∷ [])) t in
          ap (λ u. slice_get (preds_of g second.number) (if u then next_edge_place (preds_of g second.number) b else edge_place (preds_of g second.number) b)) t
          ∙ counted_twice (preds_of g second.number) b (omega (arith, fit.0 second.number block_second, two, sum_second))
      at_second (apart _ t) =
          let one : count second.number (first.number ∷ second.number ∷ []) ≡ 0 + count second.number (second.number ∷ []) =
          count_cons second.number first.number (second.number ∷ []) ∙ ap (λ u. cond u 1 0 + count second.number (second.number ∷ [])) t in
          ap (λ u. slice_get (preds_of g second.number) (if u then next_edge_place (preds_of g second.number) b else edge_place (preds_of g second.number) b)) t
          ∙ counted (preds_of g second.number) b (omega (arith, fit.0 second.number block_second, one, sum_second))

      by : (t : Bool) → ByEdge g b (branch t g b first.number second.number s)
      by true =
          jump_by_edge g b first.number (edge_place (preds_of g first.number) b) s
          (record { block = block_first; at = counted (preds_of g first.number) b (omega (arith, fit.0 first.number block_first, sum_first)) })
      by false = jump_by_edge g b second.number _ s (record { block = block_second; at = at_second (test first.number second.number) })
  exit_by_edge word (Some (Return m (Some n))) s fit = tt
  exit_by_edge word (Some (Return m None)) s fit = tt
  exit_by_edge word None s fit = tt

module _ (p : Program) (w : World) (g : Firm) (obeys : Obeys g) (arguments : List ℕ) (start : Store) where
  -- the blocks that the call comes to are a walk
  pub is_walk : {walk : Walk} {ns : List ℕ} {f : Frame} {h : History} {s : Store} → Comes p w g arguments start walk ns f h s
      → IsWalk (shape g) walk × IsBlock g (end (shape g) walk)
  is_walk begins = (tt, first_is_block g obeys.some_block)
  is_walk (has_acted word t before e) = is_walk before
  is_walk (has_called callee with t inner word u before e run after) = is_walk before
  is_walk (has_gone {walk = walk} {f = f} {s = s} to place t before e) =
      let parts = is_walk before in
      let fits = (obeys.blocks (end (shape g) walk) parts.1).edges_fit in
      let edge = subst (ByEdge g (end (shape g) walk)) e
      (exit_by_edge g (end (shape g) walk) (word_at w.base g (end (shape g) walk) f) (end_of g (end (shape g) walk)) s (fits.alike, fits.to_blocks)) in
      ((edge.at, parts.0), edge.block)
