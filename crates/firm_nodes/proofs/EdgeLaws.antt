-- Edges that are lost.
use Rattle.std.proofs.Common.{◌≡◌, ◌≢◌, ◌==◌, ℕ, zero, suc, ◌+◌, ◌<◌, ◌≤◌, Bool, true, false, List, [], ◌∷◌, ◌++◌, length, map, take, get_or, refl, sym, ap, ap₂, ◌∙◌, arith, subst, if◌then◌else◌, inl, inr, option_map, Option, Some, None, IfSome}
use Rattle.std.proofs.lemmas.Bool.{cases_eq, eq-eqb, ne_eqb}
use Rattle.std.proofs.lemmas.List.{take_all}
use Rattle.std.proofs.Math.Numerals.{suc-eq-add-one}
use Rattle.std.specs.List.{remove}
use Rattle.firm_uses.specs.Counts.{times}
use Rattle.firm_uses.proofs.CountLaws.{one_same, times_found}
use Rattle.firm_rules.specs.declared.node.FirmEnd.{FirmEnd}
use Rattle.firm_rules.specs.Graphs.{Firm, FirmBlock, FirmNode}
use Rattle.firm_rules.specs.Lookups.{targets, preds_of, end_of}
use Rattle.firm_tables.specs.Nodes.{without_operand}
use Rattle.firm_tables.specs.Blocks.{block_of, with_preds, with_end}
use Rattle.std.proofs.lemmas.List.{length-set}
use Rattle.firm_nodes.specs.Kept.{IsKept, option_list}
use Rattle.firm_nodes.specs.Calls.{first_place, later_place, last_place, lost_place, without_pred, unlinked, without_one, without_some, without_all, never_first, ends_with, end_changed}
use Rattle.firm_nodes.proofs.KeptLaws.{Within, end_read, preds_read}
use Rattle.firm_nodes.proofs.LikeLaws.{times_at}

-- ---- the first place

pub first_found : (b : ℕ) (list : List ℕ) (i : ℕ) → i < length list → ((k : ℕ) → k < i → get_or list k 0 ≢ b) → get_or list i 0 ≡ b → first_place b list ≡ Some i
first_found b [] i h none e = absurd (omega arith)
first_found b (x ∷ list) zero h none e = ap (λ t. if t then Some 0 else option_map suc (first_place b list)) (eq-eqb x b e)
first_found b (x ∷ list) (suc i) h none e =
    ap (λ t. if t then Some 0 else option_map suc (first_place b list)) (ne_eqb x b (none 0 (omega arith)))
    ∙ ap (option_map suc) (first_found b list i (omega arith) (λ k lt. none (suc k) (omega arith)) e)

pub first_missing : (b : ℕ) (list : List ℕ) → ((k : ℕ) → k < length list → get_or list k 0 ≢ b) → first_place b list ≡ None
first_missing b [] none = refl
first_missing b (x ∷ list) none =
    ap (λ t. if t then Some 0 else option_map suc (first_place b list)) (ne_eqb x b (none 0 (omega arith)))
    ∙ ap (option_map suc) (first_missing b list (λ k lt. none (suc k) (omega arith)))

pub none_yet : (b : ℕ) (list : List ℕ) (at : ℕ) → ((k : ℕ) → k < at → get_or list k 0 ≢ b) → get_or list at 0 ≢ b → (k : ℕ) → k < at + 1 → get_or list k 0 ≢ b
none_yet b list at none ne k lt = elim (cases_eq k at) [
  | inl same ↦ λ e. ne (ap (λ i. get_or list i 0) (sym same) ∙ e)
  | inr other ↦ none k (omega (arith, lt, other))
]

-- ---- the last place

later_if : (here now : Bool) (at : ℕ) (found : Option ℕ) → later_place here (if now then Some at else found) ≡ (if now then Some (suc at) else later_place here found)
later_if here true at found = refl
later_if here false at found = refl

last_more : (b : ℕ) (list : List ℕ) (at : ℕ) → at < length list → last_place b (take (suc at) list) ≡ (if get_or list at 0 == b then Some at else last_place b (take at list))
last_more b [] at h = absurd (omega arith)
last_more b (x ∷ list) zero h = refl
last_more b (x ∷ list) (suc at) h = ap (later_place (x == b)) (last_more b list at (omega arith)) ∙ later_if (x == b) (get_or list at 0 == b) at (last_place b (take at list))

pub last_here : (b : ℕ) (list : List ℕ) (at : ℕ) → at < length list → get_or list at 0 ≡ b → Some at ≡ last_place b (take (at + 1) list)
last_here b list at h e =
    sym (ap (λ k. last_place b (take k list)) (sym (suc-eq-add-one at)) ∙ last_more b list at h
    ∙ ap (λ t. if t then Some at else last_place b (take at list)) (eq-eqb (get_or list at 0) b e))

pub last_before : (b : ℕ) (list : List ℕ) (at : ℕ) (found : Option ℕ) → at < length list → get_or list at 0 ≢ b → found ≡ last_place b (take at list)
    → found ≡ last_place b (take (at + 1) list)
last_before b list at found h e f =
    f ∙ sym (ap (λ k. last_place b (take k list)) (sym (suc-eq-add-one at)) ∙ last_more b list at h
    ∙ ap (λ t. if t then Some at else last_place b (take at list)) (ne_eqb (get_or list at 0) b e))

pub last_all : (b : ℕ) (list : List ℕ) (at : ℕ) (found : Option ℕ) → length list ≤ at → found ≡ last_place b (take at list) → found ≡ last_place b list
last_all b list at found h f = f ∙ ap (last_place b) (take_all at list h)

-- ---- the place is there

abbrev Below : Option ℕ → ℕ → Type 0
Below (Some i) n = i < n
Below None n = Unit {0}

below_first : (t : Bool) (r : Option ℕ) (n : ℕ) → Below r n → Below (if t then Some 0 else option_map suc r) (suc n)
below_first true r n h = omega arith
below_first false (Some i) n h = omega (arith, h)
below_first false None n h = tt

below_later : (t : Bool) (r : Option ℕ) (n : ℕ) → Below r n → Below (later_place t r) (suc n)
below_later t (Some i) n h = omega (arith, h)
below_later true None n h = omega arith
below_later false None n h = tt

first_below : (b : ℕ) (list : List ℕ) → Below (first_place b list) (length list)
first_below b [] = tt
first_below b (x ∷ list) = below_first (x == b) (first_place b list) (length list) (first_below b list)

last_below : (b : ℕ) (list : List ℕ) → Below (last_place b list) (length list)
last_below b [] = tt
last_below b (x ∷ list) = below_later (x == b) (last_place b list) (length list) (last_below b list)

lost_below : (earlier : Bool) (b : ℕ) (list : List ℕ) → Below (lost_place earlier b list) (length list)
lost_below true b list = first_below b list
lost_below false b list = last_below b list

pub lost_within : (earlier : Bool) (b place : ℕ) (list : List ℕ) → Some place ≡ lost_place earlier b list → place < length list
lost_within earlier b place list e = subst (λ o. Below o (length list)) (sym e) (lost_below earlier b list)

-- ---- one edge is lost

pub unlink_done : (g now : Firm) (blocks : List FirmBlock) (nodes : List FirmNode) (from to place : ℕ) (earlier : Bool) (arg : Option ℕ) (preds : List ℕ) → g ≡ now → arg ≡ Some to
    → preds ≡ (block_of g.blocks to).preds → Some place ≡ lost_place earlier from preds → blocks ≡ with_preds g.blocks to (remove (block_of g.blocks to).preds place)
    → nodes ≡ map (without_operand to place) g.nodes → record g { blocks = blocks; nodes = nodes } ≡ unlinked earlier from now (option_list arg)
unlink_done g now blocks nodes from to place earlier arg preds v a p l eb en =
    let read : (block_of g.blocks to).preds ≡ preds_of g to = preds_read g.blocks to in
    ap₂ (λ (bs : List FirmBlock) (ns : List FirmNode). record g { blocks = bs; nodes = ns }) (eb ∙ ap (λ list. with_preds g.blocks to (remove list place)) read) en
    ∙ ap (without_pred g to) (l ∙ ap (lost_place earlier from) (p ∙ read))
    ∙ ap (λ h. unlinked earlier from h (to ∷ [])) v ∙ ap (λ x. unlinked earlier from now (option_list x)) (sym a)

pred_long : (g : Firm) (to : ℕ) (place : Option ℕ) → length (without_pred g to place).blocks ≡ length g.blocks
pred_long g to None = refl
pred_long g to (Some place) = length-set g.blocks to (record (block_of g.blocks to) { preds = remove (preds_of g to) place })

pub unlinked_long : (earlier : Bool) (b : ℕ) (g : Firm) (tos : List ℕ) → length (unlinked earlier b g tos).blocks ≡ length g.blocks
unlinked_long earlier b g [] = refl
unlinked_long earlier b g (to ∷ tos) =
    let place = lost_place earlier b (preds_of g to) in
    unlinked_long earlier b (without_pred g to place) tos ∙ pred_long g to place

pub unlinked_both : (earlier : Bool) (b : ℕ) (g : Firm) (xs ys : List ℕ) → unlinked earlier b (unlinked earlier b g xs) ys ≡ unlinked earlier b g (xs ++ ys)
unlinked_both earlier b g [] ys = refl
unlinked_both earlier b g (x ∷ xs) ys = unlinked_both earlier b (without_pred g x (lost_place earlier b (preds_of g x))) xs ys

-- ---- the targets that are lost

pub without_both : (list : List ℕ) (first second : Option ℕ) → without_some (without_some list first) second ≡ without_all list (option_list first ++ option_list second)
without_both list None None = refl
without_both list None (Some y) = refl
without_both list (Some x) None = refl
without_both list (Some x) (Some y) = refl

fewer : (t : Bool) (x y : ℕ) (ys less : List ℕ) → times x less ≤ times x ys → times x (if t then ys else y ∷ less) ≤ times x (y ∷ ys)
fewer true x y ys less h = omega arith
fewer false x y ys less h = omega (arith, h)

times_without_one : (x y : ℕ) (list : List ℕ) → times x (without_one list y) ≤ times x list
times_without_one x y [] = omega arith
times_without_one x y (z ∷ list) = fewer (z == y) x z list (without_one list y) (times_without_one x y list)

times_without : (x : ℕ) (list all : List ℕ) → times x (without_all list all) ≤ times x list
times_without x list [] = omega arith
times_without x list (y ∷ all) = omega (arith, times_without x (without_one list y) all, times_without_one x y list)

pub first_lost : (n : ℕ) (first second : Option ℕ) (list all : List ℕ) → option_list first ++ option_list second ≡ without_all list all
    → ((x : ℕ) → 0 < times x list → x < n) → IfSome first (λ x. x < n)
first_lost n None second list all e h = tt
first_lost n (Some x) second list all e h = h x (omega (arith, ap (times x) e, times_without x list all, one_same x))

pub second_lost : (n : ℕ) (first second : Option ℕ) (list all : List ℕ) → option_list first ++ option_list second ≡ without_all list all
    → ((x : ℕ) → 0 < times x list → x < n) → IfSome second (λ x. x < n)
second_lost n first None list all e h = tt
second_lost n None (Some y) list all e h = h y (omega (arith, ap (times y) e, times_without y list all, one_same y))
second_lost n (Some x) (Some y) list all e h = h y (omega (arith, ap (times y) e, times_without y list all, one_same y))

-- each target of an end that is kept is a block
pub target_there : (order : List ℕ) (blocks : List FirmBlock) (b x : ℕ) (end : Option FirmEnd) → IsKept order blocks → end ≡ (block_of blocks b).end → 0 < times x (targets end)
    → x < length blocks
target_there order blocks b x end k e h =
    let found = times_at x (targets (block_of blocks b).end) (subst (λ o. 0 < times x (targets o)) e h) in
    omega (arith, k.are_targets b found.0 found.1.0, found.1.1)

pub targets_stay : (g now : Firm) (b : ℕ) (end : Option FirmEnd) → IsKept g.order g.blocks → g ≡ now
    → ((to : ℕ) → times to (targets end) ≤ times to (targets (end_of now b))) → Within end (length g.blocks)
targets_stay g now b end k v h index lt =
    let x = get_or (targets end) index 0 in
    let old : (block_of g.blocks b).end ≡ end_of now b = end_read g.blocks b ∙ ap (λ i. end_of i b) v in
    target_there g.order g.blocks b x (end_of now b) k (sym old) (omega (arith, h x, times_found x (targets end) index 0 lt refl))

-- ---- another end

pub put_done : (g now : Firm) (b : ℕ) (end old : Option FirmEnd) (earlier : Bool) (blocks : List FirmBlock) (lost : List ℕ) → g ≡ now → old ≡ (block_of g.blocks b).end
    → earlier ≡ never_first g.nodes old → blocks ≡ with_end g.blocks b end → lost ≡ without_all (targets old) (targets end)
    → unlinked earlier b (record g { blocks = blocks }) lost ≡ end_changed now b end
put_done g now b end old earlier blocks lost v eo ee eb el =
    ap (λ (bs : List FirmBlock). unlinked earlier b (record g { blocks = bs }) lost) eb
    ∙ ap (λ l. unlinked earlier b (ends_with g b end) l) el
    ∙ ap (λ t. unlinked t b (ends_with g b end) (without_all (targets old) (targets end))) ee
    ∙ ap (λ o. unlinked (never_first g.nodes o) b (ends_with g b end) (without_all (targets o) (targets end))) (eo ∙ end_read g.blocks b)
    ∙ ap (λ h. end_changed h b end) v
