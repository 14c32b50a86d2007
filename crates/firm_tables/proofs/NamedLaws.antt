-- Which nodes an end may name.
use Rattle.std.proofs.Common.{◌≡◌, ◌≢◌, ◌==◌, ℕ, zero, suc, ◌+◌, ◌<◌, ◌≤◌, Bool, true, false, true≢false, List, [], ◌∷◌, ◌++◌, length, map, get_or, set, refl, sym, ap, ap₂, subst, ◌∙◌, arith, cond, inl, inr, if◌then◌else◌, Option, Some, None, option_map}
use Rattle.std.proofs.lemmas.Bool.{cases_eq, cases_lt, eq-eqb, ne_eqb}
use Rattle.std.proofs.lemmas.List.{get_or-set_same, get_or-set_other, get_or_past}
use Rattle.firm_uses.specs.Counts.{times}
use Rattle.firm_uses.proofs.CountLaws.{one, one_same, one_other}
use Rattle.firm_rules.specs.declared.node.NodeId.{NodeId}
use Rattle.firm_rules.specs.declared.node.FirmEnd.{FirmEnd}
use Rattle.firm_rules.specs.declared.node.FirmEnd.TheVariants.{Jump, Branch, Return}
use Rattle.firm_rules.specs.Rules.{uses}
use Rattle.firm_rules.specs.Replacing.{renamed, renamed_id, renamed_end}
use Rattle.firm_tables.specs.declared.blocks.StoredBlock.{StoredBlock}
use Rattle.firm_tables.specs.Held.{blocks_from, renamed_row}
use Rattle.firm_tables.specs.Named.{AreNamed, no_block}

pub widened_flag : (flags : List Bool) (m : ℕ) → get_or (flags ++ false ∷ []) m false ≡ get_or flags m false
widened_flag [] zero = refl
widened_flag [] (suc m) = refl
widened_flag (x ∷ flags) zero = refl
widened_flag (x ∷ flags) (suc m) = widened_flag flags m

pub named_none : (named : ℕ → Bool) → AreNamed [] named
named_none named b n h = absurd (omega arith)

pub named_more : (rows all : List StoredBlock) (named : ℕ → Bool) → all ≡ rows ++ no_block ∷ [] → AreNamed rows named → AreNamed all named
named_more rows all named e a = subst (λ r. AreNamed r named) (sym e) (λ b n h. a b n (subst (λ (r : StoredBlock). 0 < times n (uses r.end)) (read rows b) h))
  where
    read : (rows : List StoredBlock) (b : ℕ) → get_or (rows ++ no_block ∷ []) b no_block ≡ get_or rows b no_block
    read [] zero = refl
    read [] (suc b) = refl
    read (x ∷ rows) zero = refl
    read (x ∷ rows) (suc b) = read rows b

pub named_set : (rows : List StoredBlock) (b : ℕ) (row : StoredBlock) (before after : ℕ → Bool) → b < length rows → AreNamed rows before → ((n : ℕ) → before n ≡ true → after n ≡ true)
    → ((n : ℕ) → 0 < times n (uses row.end) → after n ≡ true) → AreNamed (set rows b row) after
named_set rows b row before after within a kept now c n h = elim (cases_eq c b) [
  | inl this ↦ now n (subst (λ (r : StoredBlock). 0 < times n (uses r.end)) (ap (λ k. get_or (set rows b row) k no_block) this ∙ get_or-set_same rows b row no_block within) h)
  | inr other ↦ kept n (a c n (subst (λ (r : StoredBlock). 0 < times n (uses r.end)) (get_or-set_other rows b c row no_block other) h))
]

-- ---- a node in the place of another

unused_id : (old to : ℕ) (id : NodeId) → one old id.number ≡ 0 → renamed_id old to id ≡ id
unused_id old to id h = elim (cases_eq id.number old) [
  | inl e ↦ absurd (omega (arith, h, ap (one old) e, one_same old))
  | inr ne ↦ ap (λ k. record { number = k }) (ap (λ t. cond t to id.number) (ne_eqb id.number old ne))
]

unused_end : (old to : ℕ) (end : Option FirmEnd) → times old (uses end) ≡ 0 → option_map (renamed_end old to) end ≡ end
unused_end old to None h = refl
unused_end old to (Some (Jump b)) h = refl
unused_end old to (Some (Branch n first second)) h = ap (λ k. Some (Branch k first second)) (unused_id old to n (omega (arith, h)))
unused_end old to (Some (Return m None)) h = ap (λ k. Some (Return k None)) (unused_id old to m (omega (arith, h)))
unused_end old to (Some (Return m (Some v))) h = ap₂ (λ k l. Some (Return k (Some l))) (unused_id old to m (omega (arith, h))) (unused_id old to v (omega (arith, h)))

pub unused_rows : (old to : ℕ) (rows : List StoredBlock) → ((b : ℕ) → times old (uses (get_or rows b no_block).end) ≡ 0) → map (renamed_row old to) rows ≡ rows
unused_rows old to [] none = refl
unused_rows old to (x ∷ rows) none =
    ap₂ (λ y ys. y ∷ ys) (ap (λ e. record x { end = e }) (unused_end old to x.end (none 0))) (unused_rows old to rows (λ b. none (suc b)))

pub named_unused : (rows : List StoredBlock) (named : ℕ → Bool) (old to : ℕ) → AreNamed rows named → named old ≡ false → map (renamed_row old to) rows ≡ rows
named_unused rows named old to a not = unused_rows old to rows (λ b. zero_or (times old (uses (get_or rows b no_block).end)) (λ h. true≢false (sym (a b old h) ∙ not)))
  where
    zero_or : (k : ℕ) → (0 < k → ⊥) → k ≡ 0
    zero_or zero f = refl
    zero_or (suc k) f = absurd (f (omega arith))

one_renamed : (old to n x : ℕ) → 0 < one n (renamed old to x) → n ≢ to → 0 < one n x
one_renamed old to n x h ne = elim (cases_eq x old) [
  | inl e ↦ absurd (omega (arith, h, ap (one n) (ap (λ t. cond t to x) (eq-eqb x old e)), one_other n to (λ s. ne (sym s))))
  | inr d ↦ omega (arith, h, ap (one n) (ap (λ t. cond t to x) (ne_eqb x old d)))
]

still_used : (old to n : ℕ) (end : Option FirmEnd) → n ≢ to → 0 < times n (uses (option_map (renamed_end old to) end)) → 0 < times n (uses end)
still_used old to n None ne h = h
still_used old to n (Some (Jump b)) ne h = h
still_used old to n (Some (Branch k first second)) ne h = omega (arith, one_renamed old to n k.number (omega (arith, h)) ne)
still_used old to n (Some (Return m None)) ne h = omega (arith, one_renamed old to n m.number (omega (arith, h)) ne)
still_used old to n (Some (Return m (Some v))) ne h = elim (cases_lt 0 (one n (renamed old to m.number))) [
  | inl first ↦ omega (arith, one_renamed old to n m.number first ne)
  | inr none ↦ omega (arith, one_renamed old to n v.number (omega (arith, h, none)) ne)
]

read_renamed : (old to : ℕ) (rows : List StoredBlock) (b : ℕ) → get_or (map (renamed_row old to) rows) b no_block ≡ renamed_row old to (get_or rows b no_block)
read_renamed old to [] b = refl
read_renamed old to (x ∷ rows) zero = refl
read_renamed old to (x ∷ rows) (suc b) = read_renamed old to rows b

pub named_renamed : (rows all : List StoredBlock) (before after : ℕ → Bool) (old to : ℕ) → all ≡ map (renamed_row old to) rows → AreNamed rows before → ((n : ℕ) → before n ≡ true → after n ≡ true)
    → after to ≡ true → AreNamed all after
named_renamed rows all before after old to e a kept here = subst (λ r. AreNamed r after) (sym e) each
  where
    each : AreNamed (map (renamed_row old to) rows) after
    each b n h = elim (cases_eq n to) [
      | inl this ↦ ap after this ∙ here
      | inr other ↦ kept n (a b n (still_used old to n (get_or rows b no_block).end other (subst (λ (r : StoredBlock). 0 < times n (uses r.end)) (read_renamed old to rows b) h)))
    ]
