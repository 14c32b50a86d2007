-- What holds of each graph, after each call.
use Rattle.std.proofs.Common.{◌≡◌, ℕ, zero, suc, ◌<◌, true, List, [], ◌∷◌, ◌++◌, length, map, get_or, set, refl, sym, ap, ◌∙◌, arith, subst, option_map, unwrap_or, Option, Some, None, inl, inr}
use Rattle.std.proofs.lemmas.Bool.{cases_eq}
use Rattle.std.proofs.lemmas.List.{length-set, length-map, get_or-set_same, get_or-set_other}
use Rattle.std.proofs.lemmas.Option.{slice_get-get_or}
use Rattle.std.specs.List.{remove, slice_get}
use Rattle.firm_rules.specs.declared.node.FirmEnd.{FirmEnd}
use Rattle.firm_rules.specs.declared.node.FirmEnd.TheVariants.{Jump, Branch, Return}
use Rattle.firm_rules.specs.Graphs.{FirmBlock, Firm}
use Rattle.firm_rules.specs.Lookups.{targets, IsBlock, end_of, preds_of}
use Rattle.firm_rules.specs.Replacing.{renamed_end}
use Rattle.firm_tables.specs.Blocks.{new_block, block_of, with_preds, with_end, linked, renamed_block}
use Rattle.firm_nodes.specs.Kept.{IsKept}
use Rattle.firm_nodes.proofs.OrderLaws.{place, place_is, removed_from}

-- ---- what is there

pub block_within : (order : List ℕ) (blocks : List FirmBlock) (b : ℕ) → IsKept order blocks → place b order < length order → b < length blocks
block_within order blocks b k h = subst (λ x. x < length blocks) (place_is b order h) (k.in_order (place b order) h)

-- the block of the graph that is seen
pub block_there : (g now : Firm) (b : ℕ) → g ≡ now → IsKept g.order g.blocks → IsBlock now b → b < length g.blocks
block_there g now b v k h = block_within g.order g.blocks b k (subst (λ x. IsBlock x b) (sym v) h)

pub end_read : (blocks : List FirmBlock) (b : ℕ) → (block_of blocks b).end ≡ unwrap_or (option_map (λ block. block.end) (slice_get blocks b)) None
end_read [] b = refl
end_read (x ∷ blocks) zero = refl
end_read (x ∷ blocks) (suc b) = end_read blocks b

pub preds_read : (blocks : List FirmBlock) (b : ℕ) → (block_of blocks b).preds ≡ unwrap_or (option_map (λ block. block.preds) (slice_get blocks b)) []
preds_read [] b = refl
preds_read (x ∷ blocks) zero = refl
preds_read (x ∷ blocks) (suc b) = preds_read blocks b

pub end_seen : (g now : Firm) (b : ℕ) → g ≡ now → (block_of g.blocks b).end ≡ end_of now b
end_seen g now b v = end_read g.blocks b ∙ ap (λ h. end_of h b) v

pub preds_seen : (g now : Firm) (b : ℕ) → g ≡ now → (block_of g.blocks b).preds ≡ preds_of now b
preds_seen g now b v = preds_read g.blocks b ∙ ap (λ h. preds_of h b) v

abbrev pub Within : Option FirmEnd → ℕ → Type 0
Within end n = (index : ℕ) → index < length (targets end) → get_or (targets end) index 0 < n

pub targets_there : (g now : Firm) (end : Option FirmEnd) → g ≡ now → IsKept g.order g.blocks
    → ((index to : ℕ) → slice_get (targets end) index ≡ Some to → IsBlock now to) → Within end (length g.blocks)
targets_there g now end v k h index lt = block_there g now (get_or (targets end) index 0) v k (h index (get_or (targets end) index 0) (slice_get-get_or (targets end) index 0 lt))

-- ---- the same ends

pub kept_same : (order : List ℕ) (blocks after : List FirmBlock) → IsKept order blocks → length after ≡ length blocks
    → ((b : ℕ) → targets (block_of after b).end ≡ targets (block_of blocks b).end) → IsKept order after
kept_same order blocks after k l e = record {
  in_order = λ index lt. omega (arith, k.in_order index lt, l);
  are_targets = λ b index lt. omega (
    arith,
    k.are_targets b index (omega (arith, lt, ap length (e b))),
    ap (λ list. get_or list index 0) (e b),
    l,
  );
}

set_end_of : (blocks : List FirmBlock) (b k : ℕ) (block : FirmBlock) → block.end ≡ (block_of blocks b).end → (block_of (set blocks b block) k).end ≡ (block_of blocks k).end
set_end_of [] b k block e = refl
set_end_of (x ∷ blocks) zero zero block e = e
set_end_of (x ∷ blocks) zero (suc k) block e = refl
set_end_of (x ∷ blocks) (suc b) zero block e = refl
set_end_of (x ∷ blocks) (suc b) (suc k) block e = set_end_of blocks b k block e

pub linked_long : (from : ℕ) (blocks : List FirmBlock) (tos : List ℕ) → length (linked from blocks tos) ≡ length blocks
linked_long from blocks [] = refl
linked_long from blocks (to ∷ tos) =
    let one = (block_of blocks to).preds ++ from ∷ [] in
    linked_long from (with_preds blocks to one) tos ∙ length-set blocks to (record (block_of blocks to) { preds = one })

linked_end : (from : ℕ) (blocks : List FirmBlock) (tos : List ℕ) (k : ℕ) → (block_of (linked from blocks tos) k).end ≡ (block_of blocks k).end
linked_end from blocks [] k = refl
linked_end from blocks (to ∷ tos) k =
    let one = (block_of blocks to).preds ++ from ∷ [] in
    linked_end from (with_preds blocks to one) tos k ∙ set_end_of blocks to k (record (block_of blocks to) { preds = one }) refl

-- ---- another end

pub kept_end : (order : List ℕ) (blocks : List FirmBlock) (b : ℕ) (end : Option FirmEnd) → IsKept order blocks → b < length blocks → Within end (length blocks)
    → IsKept order (with_end blocks b end)
kept_end order blocks b end k h w =
    let block = record (block_of blocks b) { end = end } in
    let long = length-set blocks b block in record {
      in_order = λ index lt. omega (arith, k.in_order index lt, long);
      are_targets = λ c index lt. elim (cases_eq c b) [
        | inl same ↦
            let is : (block_of (with_end blocks b end) c).end ≡ end = ap (λ i. (block_of (with_end blocks b end) i).end) same ∙ ap (λ (x : FirmBlock). x.end) (get_or-set_same blocks b block new_block h) in
            omega (arith, long, w index (omega (arith, lt, ap (λ e. length (targets e)) is)), ap (λ e. get_or (targets e) index 0) is)
        | inr ne ↦
            let is : (block_of (with_end blocks b end) c).end ≡ (block_of blocks c).end = ap (λ (x : FirmBlock). x.end) (get_or-set_other blocks b c block new_block ne) in
            omega (arith, long, k.are_targets c index (omega (arith, lt, ap (λ e. length (targets e)) is)), ap (λ e. get_or (targets e) index 0) is)
      ];
    }

pub kept_ended : (order : List ℕ) (blocks between after : List FirmBlock) (b : ℕ) (end : FirmEnd) → IsKept order blocks → b < length blocks → Within (Some end) (length blocks)
    → between ≡ linked b blocks (targets (Some end)) → after ≡ with_end between b (Some end) → IsKept order after
kept_ended order blocks between after b end k h w l a =
    let long : length between ≡ length blocks = ap length l ∙ linked_long b blocks (targets (Some end)) in
    let same : IsKept order between = kept_same order blocks between k long (λ c. ap targets (ap (λ bs. (block_of bs c).end) l ∙ linked_end b blocks (targets (Some end)) c)) in
    subst (λ bs. IsKept order bs) (sym a)
    (kept_end order between b (Some end) same (omega (arith, h, long)) (λ index lt. omega (arith, w index lt, long)))

pub linked_there : (blocks between : List FirmBlock) (b : ℕ) (end : FirmEnd) → between ≡ linked b blocks (targets (Some end)) → b < length blocks → b < length between
linked_there blocks between b end l h = omega (arith, h, ap length l, linked_long b blocks (targets (Some end)))

-- ---- a node in the place of another

renamed_targets : (old to : ℕ) (end : Option FirmEnd) → targets (option_map (renamed_end old to) end) ≡ targets end
renamed_targets old to None = refl
renamed_targets old to (Some (Jump b)) = refl
renamed_targets old to (Some (Branch n first second)) = refl
renamed_targets old to (Some (Return memory value)) = refl

renamed_at : (old to : ℕ) (blocks : List FirmBlock) (b : ℕ) → (block_of (map (renamed_block old to) blocks) b).end ≡ option_map (renamed_end old to) (block_of blocks b).end
renamed_at old to [] b = refl
renamed_at old to (x ∷ blocks) zero = refl
renamed_at old to (x ∷ blocks) (suc b) = renamed_at old to blocks b

pub kept_renamed : (order : List ℕ) (blocks after : List FirmBlock) (old to : ℕ) → IsKept order blocks → after ≡ map (renamed_block old to) blocks → IsKept order after
kept_renamed order blocks after old to k a =
    kept_same order blocks after k (ap length a ∙ length-map blocks (renamed_block old to))
    (λ b. ap targets (ap (λ bs. (block_of bs b).end) a ∙ renamed_at old to blocks b) ∙ renamed_targets old to (block_of blocks b).end)

-- ---- a block that goes

pub kept_removed : (order after : List ℕ) (blocks : List FirmBlock) (i : ℕ) → IsKept order blocks → after ≡ remove order i → IsKept after blocks
kept_removed order after blocks i k a = subst (λ o. IsKept o blocks) (sym a) (record {
  in_order = λ index lt.
      let found = removed_from order i index lt in omega (arith, k.in_order found.0 found.1.0, found.1.1);
  are_targets = k.are_targets;
})

-- ---- the first graph

pub kept_first : (order : List ℕ) (blocks : List FirmBlock) → order ≡ 0 ∷ [] → blocks ≡ record new_block { sealed = true } ∷ [] → IsKept order blocks
kept_first order blocks o b = subst (λ x. IsKept x blocks) (sym o) (subst (λ x. IsKept (0 ∷ []) x) (sym b) first) where
  first : IsKept (0 ∷ []) (record new_block { sealed = true } ∷ [])
  first = record { in_order = within; are_targets = none } where
    within : (index : ℕ) → index < 1 → get_or (0 ∷ []) index 0 < 1
    within zero lt = omega arith
    within (suc index) lt = absurd (omega arith)

    none : (b index : ℕ) → index < length (targets (block_of (record new_block { sealed = true } ∷ []) b).end)
        → get_or (targets (block_of (record new_block { sealed = true } ∷ []) b).end) index 0 < 1
    none zero index lt = absurd (omega arith)
    none (suc b) index lt = absurd (omega arith)
