-- The test of a layout is its rule.
use Rattle.std.proofs.Common.{◌≡◌, ℕ, ◌+◌, ◌<◌, ◌≤◌, Bool, true, false, ◌&&◌, refl, arith}
use Rattle.std.specs.Prelude.{nat_le}
use Rattle.std.proofs.lemmas.Bool.Decides.{nat_tests}
use Rattle.cp_base.specs.declared.layout.Layout.{Layout}
use Rattle.cp_base.specs.declared.layout.Region.{Region}
use Rattle.cp_base.specs.Regions.{IsPlaced, Apart, IsAlignedWord, Holds, code_region, data_region, stack_region, is_aligned_word, is_placed, are_apart, holds}

-- eleven tests that all pass
abbrev All : Bool → Bool → Bool → Bool → Bool → Bool → Bool → Bool → Bool → Bool → Bool → Type 0
All a b c d e f g h i j k =
    (a ≡ true) × (b ≡ true) × (c ≡ true) × (d ≡ true) × (e ≡ true) × (f ≡ true) × (g ≡ true) × (h ≡ true) × (i ≡ true) × (j ≡ true) × (k ≡ true)

both : (a b : Bool) → (a && b) ≡ true → (a ≡ true) × (b ≡ true)
both true b e = (refl, e)
both false b e = absurd (cc e)

all_pass : (a b c d e f g h i j k : Bool) → (a && b && c && d && e && f && g && h && i && j && k) ≡ true → All a b c d e f g h i j k
all_pass a b c d e f g h i j k p =
    let q10 = both (a && b && c && d && e && f && g && h && i && j) k p in
    let q9 = both (a && b && c && d && e && f && g && h && i) j q10.0 in
    let q8 = both (a && b && c && d && e && f && g && h) i q9.0 in
    let q7 = both (a && b && c && d && e && f && g) h q8.0 in
    let q6 = both (a && b && c && d && e && f) g q7.0 in
    let q5 = both (a && b && c && d && e) f q6.0 in
    let q4 = both (a && b && c && d) e q5.0 in
    let q3 = both (a && b && c) d q4.0 in
    let q2 = both (a && b) c q3.0 in
    let q1 = both (a) b q2.0 in
    (q1.0, q1.1, q2.1, q3.1, q4.1, q5.1, q6.1, q7.1, q8.1, q9.1, q10.1)

all_true : (a b c d e f g h i j k : Bool) → All a b c d e f g h i j k → (a && b && c && d && e && f && g && h && i && j && k) ≡ true
all_true a b c d e f g h i j k p = rw (p.0, p.1, p.2, p.3, p.4, p.5, p.6, p.7, p.8, p.9, p.10) refl

aligned_test : (n : ℕ) → is_aligned_word n ≡ true → IsAlignedWord n
aligned_test n e = record { word = grind (arith, nat_tests); aligned = grind (arith, nat_tests) }

test_aligned : (n : ℕ) → IsAlignedWord n → is_aligned_word n ≡ true
test_aligned n w = grind (arith, nat_tests)

placed_test : (r : Region) → is_placed r ≡ true → IsPlaced r
placed_test r e = record { not_null = λ a w z. grind (arith, nat_tests); in_memory = grind (arith, nat_tests) }

test_placed : (r : Region) → IsPlaced r → is_placed r ≡ true
test_placed r p =
    let first : r.base ≤ r.base → r.base < r.base + r.len → r.base ≡ 0 → ⊥ = λ f b z. p.not_null r.base (record { from = f; below = b }) z in
    let last = p.in_memory in
    grind (arith, nat_tests)

apart_test : (r s : Region) → are_apart r s ≡ true → Apart r s
apart_test r s e = λ a v w. grind (arith, nat_tests)

test_apart : (r s : Region) → Apart r s → are_apart r s ≡ true
test_apart r s h =
    let meets : (a : ℕ) → r.base ≤ a → a < r.base + r.len → s.base ≤ a → a < s.base + s.len → ⊥ = λ a f b g c. h a (record { from = f; below = b }) (record { from = g; below = c }) in
    let first = meets r.base in
    let second = meets s.base in
    grind (arith, nat_tests)

-- what the test says
pub Holds-test : (layout : Layout) (code size : ℕ) → holds layout code size ≡ true → Holds layout code size
Holds-test layout code size e =
    let t = all_pass
    (is_aligned_word layout.code) (is_aligned_word layout.cdata) (is_aligned_word layout.top) (is_aligned_word layout.stack) (nat_le layout.stack layout.top)
    (is_placed (code_region layout code)) (is_placed (data_region layout size)) (is_placed (stack_region layout))
    (are_apart (code_region layout code) (data_region layout size)) (are_apart (code_region layout code) (stack_region layout)) (are_apart (data_region layout size) (stack_region layout)) e in
    record {
      aligned = record { code = aligned_test _ t.0; cdata = aligned_test _ t.1; top = aligned_test _ t.2; stack = aligned_test _ t.3 };
      stack_below_top = let test = t.4 in grind (arith, nat_tests);
      code_placed = placed_test (code_region layout code) t.5;
      data_placed = placed_test (data_region layout size) t.6;
      stack_placed = placed_test (stack_region layout) t.7;
      apart = record {
        first_second = apart_test (code_region layout code) (data_region layout size) t.8;
        first_third = apart_test (code_region layout code) (stack_region layout) t.9;
        second_third = apart_test (data_region layout size) (stack_region layout) t.10;
      };
    }

-- and it passes where the rule holds
pub test-Holds : (layout : Layout) (code size : ℕ) → Holds layout code size → holds layout code size ≡ true
test-Holds layout code size h = all_true
    (is_aligned_word layout.code) (is_aligned_word layout.cdata) (is_aligned_word layout.top) (is_aligned_word layout.stack) (nat_le layout.stack layout.top)
    (is_placed (code_region layout code)) (is_placed (data_region layout size)) (is_placed (stack_region layout))
    (are_apart (code_region layout code) (data_region layout size)) (are_apart (code_region layout code) (stack_region layout)) (are_apart (data_region layout size) (stack_region layout)) (
      test_aligned _ h.aligned.code,
      test_aligned _ h.aligned.cdata,
      test_aligned _ h.aligned.top,
      test_aligned _ h.aligned.stack,
      (let below = h.stack_below_top in grind (arith, nat_tests)),
      test_placed (code_region layout code) h.code_placed,
      test_placed (data_region layout size) h.data_placed,
      test_placed (stack_region layout) h.stack_placed,
      test_apart (code_region layout code) (data_region layout size) h.apart.first_second,
      test_apart (code_region layout code) (stack_region layout) h.apart.first_third,
      test_apart (data_region layout size) (stack_region layout) h.apart.second_third,
    )
