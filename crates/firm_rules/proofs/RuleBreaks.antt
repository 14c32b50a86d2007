-- For each rule three graphs that break it.
use Rattle.std.proofs.Common.{◌≡◌, refl, sym, ap, ◌∙◌, subst, ℕ, ◌==◌, arith, Bool, true, false, true≢false, inl, inr, List, [], ◌∷◌, length, Option, Some}
use Rattle.std.specs.Prelude.{slice_get, not, nat_lt, ◌||◌}
use Rattle.std.specs.List.{list_all, list_any}
use Rattle.std.proofs.lemmas.Bool.{lt-ltb}
use Rattle.ssa_core.specs.Walks.{Edge, Walk, Visits}
use Rattle.firm_rules.specs.declared.node.Mode.{Mode}
use Rattle.firm_rules.specs.declared.node.Mode.TheVariants.{Memory}
use Rattle.firm_rules.specs.Graphs.{FirmNode, Firm}
use Rattle.firm_rules.specs.Lookups.{node_at, rank, shape}
use Rattle.firm_rules.specs.Rules.{at_once, onward, memory_into, ComesTo, IsDefined}
use Rattle.firm_rules.proofs.Nodes.{same_some}
use Rattle.firm_rules.proofs.Testing.{equal_is, all_at}
use Rattle.firm_rules.proofs.Deciding.{Rule1, Rule2, Rule3}
use Rattle.firm_rules.proofs.DecidingOrder.{Rule5, Rule6, Rule8}
use Rattle.firm_rules.proofs.DecidingWalks.{Rule4, Rule7}
use Rattle.firm_rules.proofs.RuleGraphs.{add_of, load_of, no_end, phi_of, phi_in, two_adds, two_loads, two_stores, store_without_phi, writing_without_phi, in_order, two_blocks, loop_by_both, loop_by_last, nested_by_both, number_in, add_of_block, branch_twice, start_in}

-- ---- 1

has_memory_first : List (Option Mode) → Bool
has_memory_first (Some Memory ∷ rest) = true
has_memory_first modes = false

add_of_one : Rule1 (add_of (1 ∷ [])) → ⊥
add_of_one rule = omega (arith, ap length (rule.0 2 _ refl))

load_from_word : Rule1 (load_of 1 1) → ⊥
unfolding has_memory_first
load_from_word rule = true≢false (sym (ap has_memory_first (rule.0 2 _ refl)))

block_without_end : Rule1 no_end → ⊥
block_without_end rule = rule.1 0 (omega arith)

-- ---- 2

one_operand_for_two : Rule2 (phi_of (2 ∷ [])) → ⊥
one_operand_for_two rule = omega (arith, rule 4 _ refl refl)

three_operands_for_two : Rule2 (phi_of (2 ∷ 3 ∷ 3 ∷ [])) → ⊥
three_operands_for_two rule = omega (arith, rule 4 _ refl refl)

no_operand_for_one : Rule2 (phi_in 1 []) → ⊥
no_operand_for_one rule = omega (arith, rule 2 _ refl refl)

-- ---- 3

add_of_itself : Rule3 (add_of (2 ∷ 1 ∷ [])) → ⊥
add_of_itself rule = rule 2 (at_once (record { node = _; is = refl; no_phi = refl; index = 0; at = refl }))

adds_of_each_other : Rule3 (two_adds 3 2) → ⊥
adds_of_each_other rule =
    rule 2 (onward 3 (record { node = _; is = refl; no_phi = refl; index = 0; at = refl })
    (at_once (record { node = _; is = refl; no_phi = refl; index = 0; at = refl })))

load_at_its_own_word : Rule3 (two_loads 7) → ⊥
load_at_its_own_word rule =
    rule 5 (onward 7 (record { node = _; is = refl; no_phi = refl; index = 1; at = refl })
    (at_once (record { node = _; is = refl; no_phi = refl; index = 0; at = refl })))

-- ---- 4

-- an element passes each test that all pass
not_in : (xs : List ℕ) (n index : ℕ) → list_all (λ m. not (m == n)) xs ≡ true → slice_get xs index ≡ Some n → ⊥
not_in xs n index none at = true≢false (sym (all_at (λ m. not (m == n)) xs none index n at) ∙ ap not (equal_is n n refl))

edge : ℕ → ℕ → Edge
edge to place = record { into = to; place = place }

two_stores_of_one : Rule4 (two_stores 0 0 3) (record { into = []; over = [] }) → ⊥
two_stores_of_one rule = let found = (rule 0 (omega arith)).one_chain 3 refl in not_in (2 ∷ []) 3 found.0 refl found.1

old_memory_returned : Rule4 (two_stores 0 2 0) (record { into = []; over = [] }) → ⊥
unfolding memory_into
old_memory_returned rule = omega (arith, (rule 0 (omega arith)).return_takes _ _ [] refl (tt, refl))

-- the memory at the join is not that of the first block, by the walk through the store
join_without_phi : Rule4 store_without_phi (record { into = []; over = [] }) → ⊥
unfolding memory_into edge
join_without_phi rule = omega (arith, (rule 3 (omega arith)).return_takes _ _ (edge 3 0 ∷ edge 1 0 ∷ []) refl ((refl, (refl, tt)), refl))

-- nor is it in a loop, where the block is entered again
loop_without_phi : Rule4 writing_without_phi (record { into = []; over = [] }) → ⊥
unfolding memory_into edge
loop_without_phi rule = omega (arith, (rule 1 (omega arith)).first_takes 2 _ _ 0 _ (edge 1 1 ∷ edge 1 0 ∷ []) refl refl refl ((refl, (refl, tt)), refl))

-- ---- 5

only_later_predecessor : Rule5 (in_order (0 ∷ 1 ∷ 2 ∷ [])) → ⊥
only_later_predecessor rule =
    let entered = (rule.1 1 (omega arith) (λ same. omega (arith, same))).entered_earlier in
    true≢false (sym (all_at (λ q. not (nat_lt (rank (in_order (0 ∷ 1 ∷ 2 ∷ [])) q) 1)) (2 ∷ []) refl entered.1.0 entered.0 entered.1.1)
    ∙ ap not (lt-ltb (rank (in_order (0 ∷ 1 ∷ 2 ∷ [])) entered.0) 1 entered.2))

phi_in_first_block : Rule5 (phi_in 0 []) → ⊥
phi_in_first_block rule = true≢false ((rule.0 0 (omega arith) refl).no_phi 2 _ refl refl)

start_in_second_block : Rule5 (start_in 1) → ⊥
start_in_second_block rule = (rule.1 1 (omega arith) (λ same. omega (arith, same))).no_start 2 (_, refl, refl, refl)

-- a second one in the first block is one too many
second_start : Rule5 (start_in 0) → ⊥
second_start rule =
    let only = (rule.0 0 (omega arith) refl).start.2 in
    let one = only 0 (_, refl, refl, refl) in
    let other = only 2 (_, refl, refl, refl) in
    omega (arith, one, other)

-- ---- 6

two_entries : Rule6 loop_by_both → ⊥
two_entries rule = rule 2 (omega arith) 1 0 2 (1, refl) (omega arith) (0, refl) (inl (omega arith)) (omega arith) (omega arith)

entered_at_last : Rule6 loop_by_last → ⊥
entered_at_last rule = rule 3 (omega arith) 1 0 3 (1, refl) (omega arith) (0, refl) (inl (omega arith)) (omega arith) (omega arith)

inner_loop_entered : Rule6 nested_by_both → ⊥
inner_loop_entered rule = rule 3 (omega arith) 2 1 3 (1, refl) (omega arith) (0, refl) (inl (omega arith)) (omega arith) (omega arith)

-- ---- 7

blocks_of : Walk → List ℕ
blocks_of [] = 0 ∷ []
blocks_of (e ∷ w) = e.into ∷ blocks_of w

-- a walk that begins in block 0 visits no other block than those that it names
visits_named : (g : Firm) → (shape g).first ≡ 0 → (w : Walk) (b : ℕ) → Visits (shape g) w b → list_any (λ c. c == b) (blocks_of w) ≡ true
unfolding blocks_of
visits_named g first [] b at = ap (λ t. t || false) (equal_is 0 b (sym first ∙ at))
visits_named g first (e ∷ w) b (inl at) = ap (λ t. t || list_any (λ c. c == b) (blocks_of w)) (equal_is e.into b at)
visits_named g first (e ∷ w) b (inr before) = either (e.into == b) (list_any (λ c. c == b) (blocks_of w)) (visits_named g first w b before)
  where
    either : (s t : Bool) → t ≡ true → s || t ≡ true
    either true t e = refl
    either false t e = e

-- a node is not defined where a walk passes its block by
not_defined : (g : Firm) (n b : ℕ) (node : FirmNode) (w : Walk) → (shape g).first ≡ 0 → node_at g n ≡ Some node → ComesTo g w b
    → list_any (λ c. c == node.block) (blocks_of w) ≡ false → IsDefined g n b → ⊥
not_defined g n b node w first is comes misses defined =
    let same = same_some defined.0 node (sym defined.1 ∙ is) in
    true≢false (sym (visits_named g first w node.block (subst (λ (x : FirmNode). Visits (shape g) w x.block) same (defined.2 w comes))) ∙ misses)

number_of_one_branch : Rule7 (number_in 1) (record { into = []; over = [] }) → ⊥
unfolding blocks_of edge
number_of_one_branch rule =
    not_defined (number_in 1) 2 3 _ (edge 3 1 ∷ edge 2 0 ∷ []) refl refl ((refl, (refl, tt)), refl) refl (rule.1 3 (omega arith) 1 2 refl)

phi_operands_exchanged : Rule7 (phi_of (3 ∷ 2 ∷ [])) (record { into = []; over = [] }) → ⊥
unfolding blocks_of edge
phi_operands_exchanged rule =
    not_defined (phi_of (3 ∷ 2 ∷ [])) 3 1 _ (edge 1 0 ∷ []) refl refl ((refl, tt), refl) refl (rule.0 4 _ refl 0 3 1 refl refl)

add_of_later_block : Rule7 (add_of_block 1 0) (record { into = []; over = [] }) → ⊥
unfolding blocks_of
add_of_later_block rule = not_defined (add_of_block 1 0) 2 0 _ [] refl refl (tt, refl) refl (rule.0 3 _ refl 1 2 0 refl refl)

-- ---- 8

edge_without_predecessor : Rule8 (two_blocks [] 1 []) → ⊥
edge_without_predecessor rule = omega (arith, (rule 0 (omega arith)).alike 1 (omega arith))

predecessor_without_edge : Rule8 (two_blocks (0 ∷ 0 ∷ []) 1 []) → ⊥
predecessor_without_edge rule = omega (arith, (rule 0 (omega arith)).alike 1 (omega arith))

one_predecessor_for_two_edges : Rule8 (branch_twice (0 ∷ [])) → ⊥
one_predecessor_for_two_edges rule = omega (arith, (rule 0 (omega arith)).alike 1 (omega arith))
