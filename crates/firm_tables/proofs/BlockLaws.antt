-- What a change of the tables does to the blocks that are seen in them.
use Rattle.std.proofs.Common.{◌≡◌, ◌≢◌, ℕ, zero, suc, ◌+◌, ◌<◌, ◌≤◌, true, false, List, [], ◌∷◌, ◌++◌, length, take, drop, map, get_or, set, refl, sym, ap, ap₂, ◌∙◌, arith, subst, Option, Some, None, option_map, Result, Ok, Err, IsOk, is_ok, OnOk, OnErr, if◌then◌else◌}
use Rattle.std.proofs.lemmas.List.{length-set, set-set, set-get_or, get_or-set_same, get_or-set_other, get_or_default, take_at, take_all, drop_all, append-nil}
use Rattle.std.proofs.Math.Numerals.{suc-eq-add-one}
use Rattle.cp_obstack.specs.Lists.{list_of}
use Rattle.firm_uses.specs.Tables.{with_list}
use Rattle.firm_rules.specs.declared.node.NodeId.{NodeId}
use Rattle.firm_rules.specs.declared.node.BlockId.{BlockId}
use Rattle.firm_rules.specs.declared.node.FirmEnd.{FirmEnd}
use Rattle.firm_rules.specs.declared.node.FirmEnd.TheVariants.{Jump, Branch}
use Rattle.firm_rules.specs.Lookups.{targets}
use Rattle.firm_rules.specs.Replacing.{renamed_end}
use Rattle.firm_rules.specs.Graphs.{FirmBlock}
use Rattle.firm_tables.specs.declared.blocks.StoredBlock.{StoredBlock}
use Rattle.firm_tables.specs.Blocks.{new_block, block_of, with_preds, with_end, sealed_at, linked, renamed_block}
use Rattle.firm_tables.specs.Held.{block_seen, blocks_from, AreListed, pushed, renamed_row}

abbrev pub no_block : StoredBlock
no_block = record { end = None; sealed = false }

-- ---- what is seen

pub blocks_long : (b : ℕ) (preds : List (List ℕ)) (rows : List StoredBlock) → length (blocks_from b preds rows) ≡ length rows
blocks_long b preds [] = refl
blocks_long b preds (r ∷ rows) = ap suc (blocks_long (suc b) preds rows)

at_more : (b : ℕ) (preds : List (List ℕ)) (rows : List StoredBlock) (k m : ℕ) → b + k ≡ m → k < length rows
    → block_of (blocks_from b preds rows) k ≡ block_seen preds m (get_or rows k no_block)
at_more b preds [] k m e h = absurd (omega arith)
at_more b preds (r ∷ rows) zero m e h = ap (λ i. block_seen preds i r) (omega (arith, e))
at_more b preds (r ∷ rows) (suc k) m e h = at_more (suc b) preds rows k m (omega (arith, e)) (omega arith)

pub blocks_at : (preds : List (List ℕ)) (rows : List StoredBlock) (k : ℕ) → k < length rows
    → block_of (blocks_from 0 preds rows) k ≡ block_seen preds k (get_or rows k no_block)
blocks_at preds rows k h = at_more 0 preds rows k k (omega arith) h

pub same_block : (preds more : List (List ℕ)) (b : ℕ) (row : StoredBlock) → list_of more b ≡ list_of preds b → block_seen more b row ≡ block_seen preds b row
same_block preds more b row o = ap (λ (l : List ℕ). record { preds = l; end = row.end; sealed = row.sealed }) o

pub blocks_same : (b : ℕ) (preds more : List (List ℕ)) (rows : List StoredBlock)
    → ((k : ℕ) → b ≤ k → k < b + length rows → list_of more k ≡ list_of preds k)
    → blocks_from b more rows ≡ blocks_from b preds rows
blocks_same b preds more [] o = refl
blocks_same b preds more (r ∷ rows) o =
    ap₂ (λ x y. x ∷ y) (same_block preds more b r (o b (omega arith) (omega arith)))
    (blocks_same (suc b) preds more rows (λ k lo hi. o k (omega arith) (omega arith)))

-- ---- a new block

pushed_from : (b m : ℕ) (preds more : List (List ℕ)) (rows : List StoredBlock) (row : StoredBlock) → b + length rows ≡ m
    → ((k : ℕ) → k < m → list_of more k ≡ list_of preds k)
    → blocks_from b more (rows ++ row ∷ []) ≡ blocks_from b preds rows ++ block_seen more m row ∷ []
pushed_from b m preds more [] row e o = ap (λ i. block_seen more i row ∷ []) (omega (arith, e))
pushed_from b m preds more (r ∷ rows) row e o =
    ap₂ (λ x y. x ∷ y) (same_block preds more b r (o b (omega (arith, e))))
    (pushed_from (suc b) m preds more rows row (omega (arith, e)) o)

pub block_made : (preds more : List (List ℕ)) (rows : List StoredBlock) → list_of preds (length rows) ≡ []
    → ((k : ℕ) → list_of more k ≡ list_of preds k)
    → blocks_from 0 more (rows ++ no_block ∷ []) ≡ blocks_from 0 preds rows ++ new_block ∷ []
block_made preds more rows none o =
    pushed_from 0 (length rows) preds more rows no_block (omega arith) (λ k lt. o k)
    ∙ ap (λ (l : List ℕ). blocks_from 0 preds rows ++ record { preds = l; end = None; sealed = false } ∷ []) (o (length rows) ∙ none)

-- ---- one block changes

set_from : (b m : ℕ) (preds : List (List ℕ)) (rows : List StoredBlock) (k : ℕ) (row : StoredBlock) → b + k ≡ m
    → blocks_from b preds (set rows k row) ≡ set (blocks_from b preds rows) k (block_seen preds m row)
set_from b m preds [] k row e = refl
set_from b m preds (r ∷ rows) zero row e = ap (λ i. block_seen preds i row ∷ blocks_from (suc b) preds rows) (omega (arith, e))
set_from b m preds (r ∷ rows) (suc k) row e = ap (λ bs. block_seen preds b r ∷ bs) (set_from (suc b) m preds rows k row (omega (arith, e)))

pub block_set : (preds : List (List ℕ)) (rows : List StoredBlock) (k : ℕ) (row : StoredBlock)
    → blocks_from 0 preds (set rows k row) ≡ set (blocks_from 0 preds rows) k (block_seen preds k row)
block_set preds rows k row = set_from 0 k preds rows k row (omega arith)

pub end_set : (preds : List (List ℕ)) (rows : List StoredBlock) (k : ℕ) (end : Option FirmEnd) (was : StoredBlock) → k < length rows → was ≡ get_or rows k no_block
    → blocks_from 0 preds (set rows k (record { end = end; sealed = was.sealed })) ≡ with_end (blocks_from 0 preds rows) k end
end_set preds rows k end was h w =
    block_set preds rows k (record { end = end; sealed = was.sealed })
    ∙ ap (λ (block : FirmBlock). set (blocks_from 0 preds rows) k block)
    (ap (λ (s : StoredBlock). record { preds = list_of preds k; end = end; sealed = s.sealed }) w
    ∙ ap (λ (block : FirmBlock). record block { end = end }) (sym (blocks_at preds rows k h)))

pub seal_set : (preds : List (List ℕ)) (rows : List StoredBlock) (k : ℕ) (was : StoredBlock) → k < length rows → was ≡ get_or rows k no_block
    → blocks_from 0 preds (set rows k (record { end = was.end; sealed = true })) ≡ sealed_at (blocks_from 0 preds rows) k
seal_set preds rows k was h w =
    block_set preds rows k (record { end = was.end; sealed = true })
    ∙ ap (λ (block : FirmBlock). set (blocks_from 0 preds rows) k block)
    (ap (λ (s : StoredBlock). record { preds = list_of preds k; end = s.end; sealed = true }) w
    ∙ ap (λ (block : FirmBlock). record block { sealed = true }) (sym (blocks_at preds rows k h)))

preds_from : (b m : ℕ) (preds more : List (List ℕ)) (rows : List StoredBlock) (k : ℕ) (list : List ℕ) → b + k ≡ m
    → ((j : ℕ) → j ≢ m → list_of more j ≡ list_of preds j) → list_of more m ≡ list
    → blocks_from b more rows ≡ with_preds (blocks_from b preds rows) k list
preds_from b m preds more [] k list e o own = refl
preds_from b m preds more (r ∷ rows) zero list e o own =
    ap₂ (λ (x : FirmBlock) (y : List FirmBlock). x ∷ y)
    (ap (λ (l : List ℕ). record { preds = l; end = r.end; sealed = r.sealed }) (ap (list_of more) (omega (arith, e)) ∙ own))
    (blocks_same (suc b) preds more rows (λ k lo hi. o k (omega (arith, e, lo))))
preds_from b m preds more (r ∷ rows) (suc k) list e o own =
    ap₂ (λ x y. x ∷ y) (same_block preds more b r (o b (omega (arith, e)))) (preds_from (suc b) m preds more rows k list (omega (arith, e)) o own)

pub preds_are : (preds more : List (List ℕ)) (rows : List StoredBlock) (k : ℕ) (list : List ℕ) → k < length preds
    → more ≡ with_list preds k list → blocks_from 0 more rows ≡ with_preds (blocks_from 0 preds rows) k list
preds_are preds more rows k list there e =
    preds_from 0 k preds more rows k list (omega arith) (λ j ne. ap (λ ls. list_of ls j) e ∙ get_or-set_other preds k j list [] ne)
    (ap (λ ls. list_of ls k) e ∙ get_or-set_same preds k list [] there)

pub preds_seen : (preds : List (List ℕ)) (rows : List StoredBlock) (k : ℕ) → k < length rows → list_of preds k ≡ (block_of (blocks_from 0 preds rows) k).preds
preds_seen preds rows k h = sym (ap (λ (block : FirmBlock). block.preds) (blocks_at preds rows k h))

-- one predecessor more
pub pred_pushed : (preds more : List (List ℕ)) (rows : List StoredBlock) (k from : ℕ) → k < length rows → k < length preds → more ≡ pushed preds k from
    → blocks_from 0 more rows ≡ with_preds (blocks_from 0 preds rows) k ((block_of (blocks_from 0 preds rows) k).preds ++ from ∷ [])
pred_pushed preds more rows k from h there e =
    preds_are preds more rows k (list_of preds k ++ from ∷ []) there e
    ∙ ap (λ l. with_preds (blocks_from 0 preds rows) k (l ++ from ∷ [])) (preds_seen preds rows k h)

-- ---- what always holds

pub listed_set : (count k : ℕ) (list : List ℕ) (preds after : List (List ℕ)) → AreListed count preds → k < count → after ≡ with_list preds k list → AreListed count after
listed_set count k list preds after a h e = record {
  cover = omega (arith, a.cover, ap length e, length-set preds k list);
  empty = λ b le. ap (λ ls. list_of ls b) e ∙ get_or-set_other preds k b list [] (omega (arith, h, le)) ∙ a.empty b le;
}

pub listed_more : (count : ℕ) (preds after : List (List ℕ)) → AreListed count preds → count < length after → ((b : ℕ) → list_of after b ≡ list_of preds b)
    → AreListed (count + 1) after
listed_more count preds after a h o = record { cover = omega (arith, h); empty = λ b le. o b ∙ a.empty b (omega (arith, le)) }

pub listed_same : (count : ℕ) (preds after : List (List ℕ)) → AreListed count preds → count ≤ length after → ((b : ℕ) → list_of after b ≡ list_of preds b)
    → AreListed count after
listed_same count preds after a h o = record { cover = h; empty = λ b le. o b ∙ a.empty b le }

-- ---- ends

pub ends_renamed : (b old to : ℕ) (preds : List (List ℕ)) (rows : List StoredBlock)
    → blocks_from b preds (map (renamed_row old to) rows) ≡ map (renamed_block old to) (blocks_from b preds rows)
ends_renamed b old to preds [] = refl
ends_renamed b old to preds (r ∷ rows) = ap (λ bs. block_seen preds b (renamed_row old to r) ∷ bs) (ends_renamed (suc b) old to preds rows)

-- one turn of the loop over the rows
abbrev pub renamed_first : ℕ → ℕ → List StoredBlock → ℕ → List StoredBlock
renamed_first old to rows at = map (renamed_row old to) (take at rows) ++ drop at rows

pub first_read : (old to : ℕ) (rows : List StoredBlock) (at : ℕ) (d : StoredBlock) → get_or (renamed_first old to rows at) at d ≡ get_or rows at d
first_read old to rows zero d = refl
first_read old to [] (suc at) d = refl
first_read old to (r ∷ rows) (suc at) d = first_read old to rows at d

pub first_long : (old to : ℕ) (rows : List StoredBlock) (at : ℕ) → length (renamed_first old to rows at) ≡ length rows
first_long old to rows zero = refl
first_long old to [] (suc at) = refl
first_long old to (r ∷ rows) (suc at) = ap suc (first_long old to rows at)

first_turn : (old to : ℕ) (rows : List StoredBlock) (at : ℕ) (d : StoredBlock) → at < length rows
    → set (renamed_first old to rows at) at (renamed_row old to (get_or rows at d)) ≡ renamed_first old to rows (suc at)
first_turn old to [] at d h = absurd (omega arith)
first_turn old to (r ∷ rows) zero d h = refl
first_turn old to (r ∷ rows) (suc at) d h = ap (λ m. renamed_row old to r ∷ m) (first_turn old to rows at d (omega arith))

pub row_turn : (old to : ℕ) (rows now : List StoredBlock) (at : ℕ) (end : Option FirmEnd) → at < length rows → now ≡ renamed_first old to rows at
    → end ≡ option_map (renamed_end old to) (get_or now at no_block).end
    → set now at (record { end = end; sealed = (get_or now at no_block).sealed }) ≡ renamed_first old to rows (at + 1)
row_turn old to rows now at end h n e =
    let is : get_or now at no_block ≡ get_or rows at no_block = ap (λ l. get_or l at no_block) n ∙ first_read old to rows at no_block in
    ap (λ x. set now at (record { end = x; sealed = (get_or now at no_block).sealed })) e
    ∙ ap₂ (λ (l : List StoredBlock) (x : StoredBlock). set l at (renamed_row old to x)) n is ∙ first_turn old to rows at no_block h
    ∙ ap (renamed_first old to rows) (suc-eq-add-one at)

pub row_end : (old to : ℕ) (rows now : List StoredBlock) (at : ℕ) → now ≡ renamed_first old to rows at → length rows ≤ at → now ≡ map (renamed_row old to) rows
row_end old to rows now at n h =
    n ∙ ap₂ (λ (a b : List StoredBlock). map (renamed_row old to) a ++ b) (take_all at rows h) (drop_all at rows h) ∙ append-nil (map (renamed_row old to) rows)

-- ---- what is read

pub block_there : (preds : List (List ℕ)) (rows : List StoredBlock) (blocks : List FirmBlock) (k : ℕ) → blocks_from 0 preds rows ≡ blocks → k < length blocks → k < length rows
block_there preds rows blocks k v h = omega (arith, h, ap length v, blocks_long 0 preds rows)

pub list_there : (preds : List (List ℕ)) (rows : List StoredBlock) (blocks : List FirmBlock) (k : ℕ) → blocks_from 0 preds rows ≡ blocks → AreListed (length rows) preds
    → k < length blocks → k < length preds
list_there preds rows blocks k v a h = omega (arith, block_there preds rows blocks k v h, a.cover)

pub row_is : (rows : List StoredBlock) (k : ℕ) (row : StoredBlock) → k < length rows → row ≡ get_or rows k row → row ≡ get_or rows k no_block
row_is rows k row h e = e ∙ get_or_default rows k row no_block h

pub seen_block : (preds : List (List ℕ)) (rows : List StoredBlock) (blocks : List FirmBlock) (k : ℕ) (row : StoredBlock) → blocks_from 0 preds rows ≡ blocks → k < length blocks
    → row ≡ get_or rows k row → block_seen preds k row ≡ block_of blocks k
seen_block preds rows blocks k row v h e =
    let there = block_there preds rows blocks k v h in
    ap (λ (r : StoredBlock). block_seen preds k r) (row_is rows k row there e) ∙ sym (blocks_at preds rows k there) ∙ ap (λ bs. block_of bs k) v

pub seen_preds : (preds : List (List ℕ)) (rows : List StoredBlock) (blocks : List FirmBlock) (k : ℕ) → blocks_from 0 preds rows ≡ blocks → k < length blocks
    → list_of preds k ≡ (block_of blocks k).preds
seen_preds preds rows blocks k v h = preds_seen preds rows k (block_there preds rows blocks k v h) ∙ ap (λ bs. (block_of bs k).preds) v

-- ---- results

pub any_err : {T E P : Type 0} (r : Result T E) → P → OnErr r P
any_err (Ok x) p = tt
any_err (Err e) p = p

pub then_ok : {T E P Q : Type 0} (r : Result T E) → OnOk r P → (P → Q) → OnOk r Q
then_ok (Ok x) p f = f p
then_ok (Err e) p f = tt

pub then_err : {T E P Q : Type 0} (r : Result T E) → OnErr r P → (P → Q) → OnErr r Q
then_err (Ok x) p f = tt
then_err (Err e) p f = f p

pub in_time : {X T E : Type 0} (r : Result T E) (now all before : List X) (x : X) → IsOk r → now ≡ (if is_ok r then all ++ x ∷ [] else all) → all ≡ before
    → now ≡ before ++ x ∷ []
in_time r now all before x h e b = e ∙ ap (λ t. if t then all ++ x ∷ [] else all) h ∙ ap (λ l. l ++ x ∷ []) b

-- ---- predecessors that come

pub undone : (rows now after : List (List ℕ)) (first from len : ℕ) → first < length rows → now ≡ pushed rows first from → len ≡ length (list_of rows first)
    → after ≡ with_list now first (take len (list_of now first)) → after ≡ rows
undone rows now after first from len h n l a =
    let list = list_of rows first in
    let held : list_of now first ≡ list ++ from ∷ [] = ap (λ rs. list_of rs first) n ∙ get_or-set_same rows first (list ++ from ∷ []) [] h in
    a ∙ ap₂ (λ (rs : List (List ℕ)) (m : List ℕ). with_list rs first m) n (ap (take len) held ∙ take_at list (from ∷ []) len (sym l))
    ∙ set-set rows first (list ++ from ∷ []) list ∙ set-get_or rows first []

abbrev pub Within : Option FirmEnd → ℕ → Type 0
Within end n = (index : ℕ) → index < length (targets end) → get_or (targets end) index 0 < n

pub jump_there : (end : FirmEnd) (to : BlockId) (n : ℕ) → end ≡ Jump to → Within (Some end) n → to.number < n
jump_there end to n e h = (subst (λ x. Within (Some x) n) e h) 0 (omega arith)

pub first_there : (end : FirmEnd) (node : NodeId) (first second : BlockId) (n : ℕ) → end ≡ Branch node first second → Within (Some end) n → first.number < n
first_there end node first second n e h = (subst (λ x. Within (Some x) n) e h) 0 (omega arith)

pub second_there : (end : FirmEnd) (node : NodeId) (first second : BlockId) (n : ℕ) → end ≡ Branch node first second → Within (Some end) n → second.number < n
second_there end node first second n e h = (subst (λ x. Within (Some x) n) e h) 1 (omega arith)

pub link_jump : (preds more : List (List ℕ)) (rows : List StoredBlock) (blocks : List FirmBlock) (from : ℕ) (end : FirmEnd) (to : BlockId)
    → blocks_from 0 preds rows ≡ blocks → AreListed (length rows) preds → to.number < length blocks → end ≡ Jump to → more ≡ pushed preds to.number from
    → blocks_from 0 more rows ≡ linked from blocks (targets (Some end))
link_jump preds more rows blocks from end to v a h e m =
    pred_pushed preds more rows to.number from (block_there preds rows blocks to.number v h) (list_there preds rows blocks to.number v a h) m
    ∙ ap (λ bs. linked from bs (to.number ∷ [])) v ∙ ap (λ x. linked from blocks (targets (Some x))) (sym e)

pub link_both : (preds more : List (List ℕ)) (rows : List StoredBlock) (blocks : List FirmBlock) (from : ℕ) (end : FirmEnd) (node : NodeId) (first second : BlockId)
    → blocks_from 0 preds rows ≡ blocks → AreListed (length rows) preds → first.number < length blocks → second.number < length blocks
    → end ≡ Branch node first second → more ≡ pushed (pushed preds first.number from) second.number from
    → blocks_from 0 more rows ≡ linked from blocks (targets (Some end))
link_both preds more rows blocks from end node first second v a h k e m =
    let between = pushed preds first.number from in
    let one : blocks_from 0 between rows ≡ with_preds (blocks_from 0 preds rows) first.number ((block_of (blocks_from 0 preds rows) first.number).preds ++ from ∷ []) =
    pred_pushed preds between rows first.number from (block_there preds rows blocks first.number v h) (list_there preds rows blocks first.number v a h) refl in
    let long : second.number < length between = omega (arith, list_there preds rows blocks second.number v a k, length-set preds first.number (list_of preds first.number ++ from ∷ [])) in
    pred_pushed between more rows second.number from (block_there preds rows blocks second.number v k) long m
    ∙ ap (λ bs. linked from bs (second.number ∷ [])) one
    ∙ ap (λ bs. linked from bs (first.number ∷ second.number ∷ [])) v ∙ ap (λ x. linked from blocks (targets (Some x))) (sym e)

pub listed_both : (count from first second : ℕ) (preds more : List (List ℕ)) → AreListed count preds → first < count → second < count
    → more ≡ pushed (pushed preds first from) second from → AreListed count more
listed_both count from first second preds more a h k m =
    listed_set count second (list_of (pushed preds first from) second ++ from ∷ []) (pushed preds first from) more
    (listed_set count first (list_of preds first ++ from ∷ []) preds (pushed preds first from) a h refl) k m

pub listed_ok : {T E : Type 0} (r : Result T E) (count : ℕ) (preds more : List (List ℕ)) → AreListed count preds → OnOk r (AreListed count more) → OnErr r (more ≡ preds)
    → AreListed count more
listed_ok (Ok x) count preds more a o e = o
listed_ok (Err x) count preds more a o e = subst (λ ls. AreListed count ls) (sym e) a
