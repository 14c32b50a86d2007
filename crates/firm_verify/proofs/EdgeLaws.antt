-- Edges and ends.
use Rattle.std.proofs.Common.{◌≡◌, ◌≢◌, ◌==◌, ℕ, suc, ◌+◌, ◌<◌, ◌≤◌, Bool, false, true≢false, List, [], ◌∷◌, length, take, get_or, refl, sym, ap, ◌∙◌, subst, arith, cond, Option, Some, None, inl, inr, MatchBool}
use Rattle.std.specs.Prelude.{count_by, IfSome, IfNone, is_some}
use Rattle.std.proofs.lemmas.Bool.{cases_lt}
use Rattle.std.proofs.lemmas.List.Sums.{sum_by-cons}
use Rattle.std.proofs.lemmas.Option.{slice_get-get_or}
use Rattle.firm_uses.specs.Counts.{times}
use Rattle.firm_uses.proofs.CountLaws.{one, one_same, one_other, times_found, times_front}
use Rattle.firm_rules.specs.declared.node.NodeId.{NodeId}
use Rattle.firm_rules.specs.declared.node.BlockId.{BlockId}
use Rattle.firm_rules.specs.declared.node.FirmEnd.{FirmEnd}
use Rattle.firm_rules.specs.declared.node.FirmEnd.TheVariants.{Jump, Branch}
use Rattle.firm_rules.specs.Graphs.{Firm}
use Rattle.firm_rules.specs.Lookups.{IsBlock, preds_of, end_of, targets}
use Rattle.firm_rules.specs.Rules.{EdgesFit}
use Rattle.firm_tables.proofs.NodeLaws.{matches}
use Rattle.firm_nodes.proofs.LikeLaws.{times_at}
use Rattle.firm_verify.specs.Broken.{AtBlocks, Rule8, IsBroken, edges}
use Rattle.firm_verify.specs.Tables.{AreBlocks, EdgesWithin, TargetsAlike, PredsAlike, IsUnlike}
use Rattle.firm_verify.proofs.CountsLaws.{got}

count_is : (b : ℕ) (list : List ℕ) → count_by (λ c. c == b) list ≡ times b list
count_is b [] = refl
count_is b (x ∷ list) = sum_by-cons (λ c. cond (c == b) 1 0) x list ∙ ap (λ k. cond (x == b) 1 0 + k) (count_is b list)

in_blocks : (g : Firm) (list : List ℕ) (x : ℕ) → AreBlocks g list → 0 < times x list → IsBlock g x
in_blocks g list x all h = let found = times_at x list h in subst (IsBlock g) found.1.1 (all found.0 found.1.0)

pub fits_within : (g : Firm) (b : ℕ) → EdgesFit g b → EdgesWithin g b
fits_within g b fits = record {
  preds = λ i h. fits.from_blocks i (get_or (preds_of g b) i 0) (slice_get-get_or (preds_of g b) i 0 h);
  ends = λ i h. fits.to_blocks i (get_or (targets (end_of g b)) i 0) (slice_get-get_or (targets (end_of g b)) i 0 h);
}

pub fits_targets : (g : Firm) (b : ℕ) → EdgesWithin g b → EdgesFit g b → TargetsAlike g b
fits_targets g b within fits to h =
    sym (count_is b (preds_of g to)) ∙ fits.alike to (in_blocks g (targets (end_of g b)) to within.ends h) ∙ count_is to (targets (end_of g b))

pub unlike_breaks : (g : Firm) (from : ℕ) → IsUnlike g from → EdgesFit g from → ⊥
unlike_breaks g from u fits =
    let to = u.1.0 in
    let e = sym (count_is from (preds_of g to)) ∙ fits.alike to u.1.1.0 ∙ count_is to (targets (end_of g from)) in
    omega (arith, e, u.1.1.1.0, u.1.1.1.1)

pub all_fit : (g : Firm) → AtBlocks g (EdgesWithin g) → AtBlocks g (TargetsAlike g) → AtBlocks g (PredsAlike g) → Rule8 g
all_fit g within ends preds b is = record {
  alike = λ to there. count_is b (preds_of g to) ∙ same to there ∙ sym (count_is to (targets (end_of g b)));
  from_blocks = λ i from at. let e = got (preds_of g b) i from at in subst (IsBlock g) e.1 ((within b is).preds i e.0);
  to_blocks = λ i to at. let e = got (targets (end_of g b)) i to at in subst (IsBlock g) e.1 ((within b is).ends i e.0);
}
  where
    same : (to : ℕ) → IsBlock g to → times b (preds_of g to) ≡ times to (targets (end_of g b))
    same to there = elim (cases_lt 0 (times to (targets (end_of g b)))) [
      | inl lt ↦ ends b is to lt
      | inr le ↦ elim (cases_lt 0 (times b (preds_of g to))) [
        | inl some ↦ absurd (omega (arith, le, preds to there b some))
        | inr none ↦ omega (arith, le, none)
      ]
    ]

pub broken_within : (g : Firm) (b : ℕ) → IsBlock g b → (EdgesWithin g b → ⊥) → IsBroken g 8 None b
broken_within g b is bad = edges is (λ fits. bad (fits_within g b fits))

pub broken_target : (g : Firm) (b : ℕ) → IsBlock g b → AtBlocks g (EdgesWithin g) → (TargetsAlike g b → ⊥) → IsBroken g 8 None b
broken_target g b is within bad = edges is (λ fits. bad (fits_targets g b (within b is) fits))

pub broken_pred : (g : Firm) (from : ℕ) → IsUnlike g from → IsBroken g 8 None from
broken_pred g from unlike = edges unlike.0 (unlike_breaks g from unlike)

-- ---- lists

pub one_more : (from : ℕ) (preds : List ℕ) (at count : ℕ) → at < length preds → get_or preds at 0 ≡ from → (count ≤ at) × (count ≡ times from (take at preds))
    → (after : ℕ) → after ≡ count + 1 → (after ≤ at + 1) × (after ≡ times from (take (at + 1) preds))
one_more from preds at count h e inv after is =
    let front = times_front from preds at 0 h in
    let add : times from (take (at + 1) preds) ≡ times from (take (suc at) preds) = ap (λ k. times from (take k preds)) (suc_add at) in
    (omega (arith, inv.0, is), omega (arith, is, inv.1, front, add, ap (one from) e, one_same from))
  where
    suc_add : (k : ℕ) → k + 1 ≡ suc k
    suc_add k = omega arith

pub no_more : (from : ℕ) (preds : List ℕ) (at count : ℕ) → at < length preds → get_or preds at 0 ≢ from → (count ≤ at) × (count ≡ times from (take at preds))
    → (after : ℕ) → after ≡ count → (after ≤ at + 1) × (after ≡ times from (take (at + 1) preds))
no_more from preds at count h ne inv after is =
    let front = times_front from preds at 0 h in
    let add : times from (take (at + 1) preds) ≡ times from (take (suc at) preds) = ap (λ k. times from (take k preds)) (suc_add at) in
    (omega (arith, inv.0, is), omega (arith, is, inv.1, front, add, one_other from (get_or preds at 0) ne))
  where
    suc_add : (k : ℕ) → k + 1 ≡ suc k
    suc_add k = omega arith

pub list_within : (g : Firm) (list targets : List ℕ) (answer : Bool) → list ≡ targets → MatchBool answer (AreBlocks g list) (AreBlocks g list → ⊥) → MatchBool answer (AreBlocks g targets) (AreBlocks g targets → ⊥)
list_within g list targets answer e h = subst (λ l. MatchBool answer (AreBlocks g l) (AreBlocks g l → ⊥)) e h

pub within_preds : (g : Firm) (b : ℕ) (preds : List ℕ) → preds ≡ preds_of g b → (AreBlocks g preds → ⊥) → EdgesWithin g b → ⊥
within_preds g b preds e bad within = bad (subst (AreBlocks g) (sym e) within.preds)

pub within_both : (g : Firm) (b : ℕ) (preds : List ℕ) (answer : Bool) → preds ≡ preds_of g b → AreBlocks g preds
    → MatchBool answer (AreBlocks g (targets (end_of g b))) (AreBlocks g (targets (end_of g b)) → ⊥) → MatchBool answer (EdgesWithin g b) (EdgesWithin g b → ⊥)
within_both g b preds answer e all h =
    matches answer h (λ ends. record { preds = subst (AreBlocks g) e all; ends = ends }) (λ within. within.ends)

pub pred_is : (g : Firm) (to : ℕ) (preds : List ℕ) (i : ℕ) → EdgesWithin g to → preds ≡ preds_of g to → i < length preds → IsBlock g (get_or preds i 0)
pred_is g to preds i within e h = subst (AreBlocks g) (sym e) within.preds i h

pub pred_unlike : (g : Firm) (to : ℕ) (preds : List ℕ) (i count : ℕ) → EdgesWithin g to → IsBlock g to → preds ≡ preds_of g to → i < length preds
    → count ≡ times to (targets (end_of g (get_or preds i 0))) → count ≡ 0 → IsUnlike g (get_or preds i 0)
pred_unlike g to preds i count within is e h c none =
    (pred_is g to preds i within e h, (to, (is, (subst (λ l. 0 < times (get_or preds i 0) l) e (times_found (get_or preds i 0) preds i 0 h refl), sym c ∙ none))))

pub some_led : (end : Option FirmEnd) (to count : ℕ) → count ≡ times to (targets end) → count ≢ 0 → 0 < times to (targets end)
some_led end to count e ne = omega (arith, e, ne)

pub all_led : (g : Firm) (to : ℕ) (preds : List ℕ) (at : ℕ) → preds ≡ preds_of g to → length preds ≤ at
    → ((i : ℕ) → i < at → 0 < times to (targets (end_of g (get_or preds i 0)))) → PredsAlike g to
all_led g to preds at e h each from some =
    let found = times_at from preds (subst (λ l. 0 < times from l) (sym e) some) in
    subst (λ b. 0 < times to (targets (end_of g b))) found.1.1 (each found.0 (omega (arith, found.1.0, h)))

-- a target of the end
pub target_jump : (g : Firm) (b : ℕ) (end : Option FirmEnd) (to : BlockId) → EdgesWithin g b → end ≡ end_of g b → end ≡ Some (Jump to) → IsBlock g to.number
target_jump g b end to within is e = subst (λ t. AreBlocks g (targets t)) (sym is ∙ e) within.ends 0 (omega arith)

pub target_first : (g : Firm) (b : ℕ) (end : Option FirmEnd) (n : NodeId) (first second : BlockId) → EdgesWithin g b → end ≡ end_of g b → end ≡ Some (Branch n first second) → IsBlock g first.number
target_first g b end n first second within is e = subst (λ t. AreBlocks g (targets t)) (sym is ∙ e) within.ends 0 (omega arith)

pub target_second : (g : Firm) (b : ℕ) (end : Option FirmEnd) (n : NodeId) (first second : BlockId) → EdgesWithin g b → end ≡ end_of g b → end ≡ Some (Branch n first second) → IsBlock g second.number
target_second g b end n first second within is e = subst (λ t. AreBlocks g (targets t)) (sym is ∙ e) within.ends 1 (omega arith)

-- ---- answers

pub some_so : {T : Type 0} (r : Option T) (P Q : T → Type 0) → IfSome r P → ((x : T) → P x → Q x) → IfSome r Q
some_so (Some x) P Q h to = to x h
some_so None P Q h to = h

pub none_fits : {T : Type 0} (r : Option T) (P : T → Type 0) (Q : Type 0) → is_some r ≡ false → IfNone r Q → Q
none_fits (Some x) P Q e h = absurd (true≢false e)
none_fits None P Q e h = h

pub some_at : {T : Type 0} (r : Option T) (P : T → Type 0) (x : T) → r ≡ Some x → IfSome r P → P x
some_at r P x e h = subst (λ o. IfSome o P) e h

pub none_at : {T : Type 0} (r : Option T) (Q : Type 0) → r ≡ None → IfNone r Q → Q
none_at r Q e h = subst (λ o. IfNone o Q) e h
