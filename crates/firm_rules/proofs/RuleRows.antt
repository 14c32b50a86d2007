-- Graphs that obey the rules: those of the worked rows, and for each rule three that are near to one that breaks it.
use Rattle.std.proofs.Common.{◌≡◌, refl, ℕ, ◌<◌, Bool, true, List, [], ◌∷◌, length, arith}
use Rattle.std.specs.Prelude.{◌&&◌}
use Rattle.firm_rules.specs.Graphs.{Firm}
use Rattle.firm_rules.specs.Rules.{Obeys}
use Rattle.firm_rules.proofs.Chains.{both_true}
use Rattle.firm_rules.proofs.Deciding.{test_1, test_2, test_3, sound_1, sound_2, sound_3}
use Rattle.firm_rules.proofs.DecidingOrder.{test_5, test_6, test_8, sound_5, sound_6, sound_8}
use Rattle.firm_rules.proofs.DecidingWalks.{Facts, test_4, test_7, sound_4, sound_7}
use Rattle.firm_rules.proofs.Made.{return_seven, swap_in_loop, unset_operand, factorial, main_of_factorial, store_and_load, both_ways, endless}
use Rattle.firm_rules.proofs.RuleGraphs.{add_of, load_of, one_block, phi_of, phi_in, counting, two_adds, two_loads, two_stores, store_in_branch, writing, in_order, two_blocks, loop_by_head, own_loop, nested_by_head, number_in, add_of_block, branch_twice, diamond}

abbrev first_tests : Firm → Facts → Bool
first_tests g facts = test_1 g && (test_2 g && (test_3 g && test_4 g facts))

abbrev other_tests : Firm → Facts → Bool
other_tests g facts = test_5 g && (test_6 g && (test_7 g facts && test_8 g))

abbrev all_tests : Firm → Facts → Bool
all_tests g facts = first_tests g facts && other_tests g facts

-- a graph that passes the tests obeys the rules
by_tests : (g : Firm) (facts : Facts) → 0 < length g.order → all_tests g facts ≡ true → Obeys g
by_tests g facts some e = record {
  some_block = some;
  nodes = λ n node is. record {
    operands_fit = (sound_1 g a1.0).0 n node is;
    phi_is_full = sound_2 g a2.0 n node is;
    no_cycle = sound_3 g a3.0 n;
    operands_defined = (sound_7 g facts b3.0).0 n node is;
  };
  blocks = λ b is. record {
    end_fits = (sound_1 g a1.0).1 b is;
    memory_fits = sound_4 g facts a3.1 b is;
    first_fits = (sound_5 g b1.0).0 b is;
    other_fits = (sound_5 g b1.0).1 b is;
    entered_at_head = sound_6 g b2.0 b is;
    end_defined = (sound_7 g facts b3.0).1 b is;
    edges_fit = sound_8 g b3.1 b is;
  };
}
  where
    parts : (first_tests g facts ≡ true) × (other_tests g facts ≡ true)
    parts = both_true (first_tests g facts) (other_tests g facts) e

    a1 : (test_1 g ≡ true) × ((test_2 g && (test_3 g && test_4 g facts)) ≡ true)
    a1 = both_true (test_1 g) (test_2 g && (test_3 g && test_4 g facts)) parts.0

    a2 : (test_2 g ≡ true) × ((test_3 g && test_4 g facts) ≡ true)
    a2 = both_true (test_2 g) (test_3 g && test_4 g facts) a1.1

    a3 : (test_3 g ≡ true) × (test_4 g facts ≡ true)
    a3 = both_true (test_3 g) (test_4 g facts) a2.1

    b1 : (test_5 g ≡ true) × ((test_6 g && (test_7 g facts && test_8 g)) ≡ true)
    b1 = both_true (test_5 g) (test_6 g && (test_7 g facts && test_8 g)) parts.1

    b2 : (test_6 g ≡ true) × ((test_7 g facts && test_8 g) ≡ true)
    b2 = both_true (test_6 g) (test_7 g facts && test_8 g) b1.1

    b3 : (test_7 g facts ≡ true) × (test_8 g ≡ true)
    b3 = both_true (test_7 g facts) (test_8 g) b2.1

-- the givers of the memory that the blocks see, and the blocks on each walk to them
abbrev by : List ℕ → List (List ℕ) → Facts
by into over = record { into = into; over = over }

-- ---- the worked rows

obeys_seven : Obeys return_seven
obeys_seven = by_tests return_seven (by (0 ∷ []) ((0 ∷ []) ∷ [])) (omega arith) refl

obeys_swap : Obeys swap_in_loop
obeys_swap = by_tests swap_in_loop (by (0 ∷ 0 ∷ 0 ∷ 0 ∷ 0 ∷ []) ((0 ∷ []) ∷ (0 ∷ 1 ∷ []) ∷ (0 ∷ 1 ∷ 2 ∷ []) ∷ (0 ∷ 1 ∷ 3 ∷ []) ∷ (0 ∷ 1 ∷ 2 ∷ 4 ∷ []) ∷ [])) (omega arith) refl

obeys_unset : Obeys unset_operand
obeys_unset = by_tests unset_operand (by (0 ∷ 2 ∷ 2 ∷ 2 ∷ 2 ∷ 2 ∷ 2 ∷ 2 ∷ []) ((0 ∷ []) ∷ (0 ∷ 1 ∷ []) ∷ (0 ∷ 1 ∷ 2 ∷ []) ∷ (0 ∷ 1 ∷ 3 ∷ []) ∷ (0 ∷ 1 ∷ 3 ∷ 4 ∷ []) ∷ (0 ∷ 1 ∷ 3 ∷ 5 ∷ []) ∷ (0 ∷ 1 ∷ 3 ∷ 6 ∷ []) ∷ (0 ∷ 1 ∷ 2 ∷ 7 ∷ []) ∷ [])) (omega arith) refl

obeys_factorial : Obeys factorial
obeys_factorial = by_tests factorial (by (0 ∷ 0 ∷ 0 ∷ 12 ∷ []) ((0 ∷ []) ∷ (0 ∷ 1 ∷ []) ∷ (0 ∷ 2 ∷ []) ∷ (0 ∷ 3 ∷ []) ∷ [])) (omega arith) refl

obeys_main_of_factorial : Obeys main_of_factorial
obeys_main_of_factorial = by_tests main_of_factorial (by (0 ∷ []) ((0 ∷ []) ∷ [])) (omega arith) refl

obeys_store_and_load : Obeys store_and_load
obeys_store_and_load = by_tests store_and_load (by (0 ∷ []) ((0 ∷ []) ∷ [])) (omega arith) refl

obeys_both_ways : Obeys (both_ways 9)
obeys_both_ways = by_tests (both_ways 9) (by (0 ∷ 0 ∷ []) ((0 ∷ []) ∷ (0 ∷ 1 ∷ []) ∷ [])) (omega arith) refl

obeys_endless : Obeys endless
obeys_endless = by_tests endless (by (0 ∷ 2 ∷ []) ((0 ∷ []) ∷ (0 ∷ 1 ∷ []) ∷ [])) (omega arith) refl

-- ---- near to graphs that break rule 1

obeys_add : Obeys (add_of (1 ∷ 1 ∷ []))
obeys_add = by_tests (add_of (1 ∷ 1 ∷ [])) (by (0 ∷ []) ((0 ∷ []) ∷ [])) (omega arith) refl

obeys_load : Obeys (load_of 0 1)
obeys_load = by_tests (load_of 0 1) (by (0 ∷ []) ((0 ∷ []) ∷ [])) (omega arith) refl

obeys_end : Obeys (one_block 0 1 [])
obeys_end = by_tests (one_block 0 1 []) (by (0 ∷ []) ((0 ∷ []) ∷ [])) (omega arith) refl

-- ---- near to graphs that break rule 2

obeys_phi_of_two : Obeys (phi_of (2 ∷ 3 ∷ []))
obeys_phi_of_two = by_tests (phi_of (2 ∷ 3 ∷ [])) (by (0 ∷ 0 ∷ 0 ∷ 0 ∷ []) ((0 ∷ []) ∷ (0 ∷ 1 ∷ []) ∷ (0 ∷ 2 ∷ []) ∷ (0 ∷ 3 ∷ []) ∷ [])) (omega arith) refl

obeys_phi_of_one : Obeys (phi_in 1 (1 ∷ []))
obeys_phi_of_one = by_tests (phi_in 1 (1 ∷ [])) (by (0 ∷ 0 ∷ []) ((0 ∷ []) ∷ (0 ∷ 1 ∷ []) ∷ [])) (omega arith) refl

obeys_counting : Obeys counting
obeys_counting = by_tests counting (by (0 ∷ 0 ∷ 0 ∷ []) ((0 ∷ []) ∷ (0 ∷ 1 ∷ []) ∷ (0 ∷ 1 ∷ 2 ∷ []) ∷ [])) (omega arith) refl

-- ---- near to graphs that break rule 3, where the loop above is near too

obeys_adds : Obeys (two_adds 1 2)
obeys_adds = by_tests (two_adds 1 2) (by (0 ∷ []) ((0 ∷ []) ∷ [])) (omega arith) refl

obeys_loads : Obeys (two_loads 4)
obeys_loads = by_tests (two_loads 4) (by (0 ∷ []) ((0 ∷ []) ∷ [])) (omega arith) refl

-- ---- near to graphs that break rule 4

obeys_stores : Obeys (two_stores 0 2 3)
obeys_stores = by_tests (two_stores 0 2 3) (by (0 ∷ []) ((0 ∷ []) ∷ [])) (omega arith) refl

obeys_store_in_branch : Obeys (store_in_branch 3)
obeys_store_in_branch = by_tests (store_in_branch 3) (by (0 ∷ 0 ∷ 0 ∷ 3 ∷ []) ((0 ∷ []) ∷ (0 ∷ 1 ∷ []) ∷ (0 ∷ 2 ∷ []) ∷ (0 ∷ 3 ∷ []) ∷ [])) (omega arith) refl

obeys_writing : Obeys writing
obeys_writing = by_tests writing (by (0 ∷ 2 ∷ 3 ∷ []) ((0 ∷ []) ∷ (0 ∷ 1 ∷ []) ∷ (0 ∷ 1 ∷ 2 ∷ []) ∷ [])) (omega arith) refl

-- ---- near to graphs that break rule 5, where a Phi of the second block stands above

obeys_order : Obeys (in_order (0 ∷ 2 ∷ 1 ∷ []))
obeys_order = by_tests (in_order (0 ∷ 2 ∷ 1 ∷ [])) (by (0 ∷ 0 ∷ 0 ∷ []) ((0 ∷ []) ∷ (0 ∷ 2 ∷ 1 ∷ []) ∷ (0 ∷ 2 ∷ []) ∷ [])) (omega arith) refl

obeys_one_start : Obeys (two_blocks (0 ∷ []) 1 [])
obeys_one_start = by_tests (two_blocks (0 ∷ []) 1 []) (by (0 ∷ 0 ∷ []) ((0 ∷ []) ∷ (0 ∷ 1 ∷ []) ∷ [])) (omega arith) refl

-- ---- near to graphs that break rule 6

obeys_loop : Obeys loop_by_head
obeys_loop = by_tests loop_by_head (by (0 ∷ 0 ∷ 0 ∷ 0 ∷ []) ((0 ∷ []) ∷ (0 ∷ 1 ∷ []) ∷ (0 ∷ 1 ∷ 2 ∷ []) ∷ (0 ∷ 1 ∷ 2 ∷ 3 ∷ []) ∷ [])) (omega arith) refl

obeys_own_loop : Obeys own_loop
obeys_own_loop = by_tests own_loop (by (0 ∷ 0 ∷ 0 ∷ []) ((0 ∷ []) ∷ (0 ∷ 1 ∷ []) ∷ (0 ∷ 2 ∷ []) ∷ [])) (omega arith) refl

obeys_nested : Obeys nested_by_head
obeys_nested = by_tests nested_by_head (by (0 ∷ 0 ∷ 0 ∷ 0 ∷ 0 ∷ 0 ∷ []) ((0 ∷ []) ∷ (0 ∷ 1 ∷ []) ∷ (0 ∷ 1 ∷ 2 ∷ []) ∷ (0 ∷ 1 ∷ 2 ∷ 3 ∷ []) ∷ (0 ∷ 1 ∷ 2 ∷ 3 ∷ 4 ∷ []) ∷ (0 ∷ 1 ∷ 2 ∷ 3 ∷ 4 ∷ 5 ∷ []) ∷ [])) (omega arith) refl

-- ---- near to graphs that break rule 7, where a Phi where two blocks join stands above

obeys_number : Obeys (number_in 0)
obeys_number = by_tests (number_in 0) (by (0 ∷ 0 ∷ 0 ∷ 0 ∷ []) ((0 ∷ []) ∷ (0 ∷ 1 ∷ []) ∷ (0 ∷ 2 ∷ []) ∷ (0 ∷ 3 ∷ []) ∷ [])) (omega arith) refl

obeys_add_of_earlier : Obeys (add_of_block 0 1)
obeys_add_of_earlier = by_tests (add_of_block 0 1) (by (0 ∷ 0 ∷ []) ((0 ∷ []) ∷ (0 ∷ 1 ∷ []) ∷ [])) (omega arith) refl

-- ---- near to graphs that break rule 8, where two blocks with one edge stand above

obeys_branch_twice : Obeys (branch_twice (0 ∷ 0 ∷ []))
obeys_branch_twice = by_tests (branch_twice (0 ∷ 0 ∷ [])) (by (0 ∷ 0 ∷ []) ((0 ∷ []) ∷ (0 ∷ 1 ∷ []) ∷ [])) (omega arith) refl

obeys_branch : Obeys (diamond 0 1 [])
obeys_branch = by_tests (diamond 0 1 []) (by (0 ∷ 0 ∷ 0 ∷ 0 ∷ []) ((0 ∷ []) ∷ (0 ∷ 1 ∷ []) ∷ (0 ∷ 2 ∷ []) ∷ (0 ∷ 3 ∷ []) ∷ [])) (omega arith) refl
