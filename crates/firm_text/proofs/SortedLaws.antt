-- A list in order is determined by how often each number stands in it.
use Rattle.std.proofs.Common.{◌≡◌, ◌≢◌, ℕ, zero, suc, ◌+◌, ◌<◌, ◌≤◌, Bool, true, false, ◌&&◌, ◌⊎◌, subst, List, [], ◌∷◌, length, get_or, refl, sym, ap, ap₂, ◌∙◌, arith, cond, inl, inr, if◌then◌else◌}
use Rattle.std.proofs.lemmas.Bool.{cases_eq, cases_lt}
use Rattle.std.proofs.lemmas.List.Elements.{filter_passes}
use Rattle.std.proofs.lemmas.List.Sums.{sum_by-cons}
use Rattle.std.proofs.lemmas.List.Sorted.{sum_by-IsPermutation}
use Rattle.std.specs.Prelude.{Result, Ok, Err, IfOk}
use Rattle.std.specs.List.{filter, range_with_len, sum_by}
use Rattle.std.specs.List.Sorted.{IsNonDecreasing, IsPermutation}
use Rattle.firm_uses.specs.Counts.{times}
use Rattle.firm_uses.proofs.CountLaws.{one, one_same, one_other}
use Rattle.firm_rules.specs.Graphs.{FirmNode, Firm}
use Rattle.firm_tables.specs.Nodes.{node_of, stands_in, no_node}
use Rattle.firm_nodes.specs.Calls.{IsNode}
use Rattle.firm_nodes.proofs.LikeLaws.{times_at}
use Rattle.firm_text.specs.Text.{nodes_in}

-- ---- lists in order

-- the first one is the least
least : (x m : ℕ) (list : List ℕ) → IsNonDecreasing (x ∷ list) → 0 < times m list → x ≤ m
least x m list rises some =
    let found = times_at m list some in
    omega (arith, rises 0 (suc found.0) 0 (omega arith) (omega (arith, found.1.0)), found.1.1)

rest_rises : (x : ℕ) (list : List ℕ) → IsNonDecreasing (x ∷ list) → IsNonDecreasing list
rest_rises x list rises i j d le h = rises (suc i) (suc j) d (omega arith) (omega arith)

-- so often does each number stand in the list: those that pass once from the one bound up to the other, and no other number
record Counts (test : ℕ → Bool) (low high : ℕ) (list : List ℕ) : Type 0 where
  inside : (m : ℕ) → low ≤ m → m < high → times m list ≡ (if test m then 1 else 0)
  below : (m : ℕ) → m < low → times m list ≡ 0
  above : (m : ℕ) → high ≤ m → times m list ≡ 0

at_head : (x : ℕ) (list : List ℕ) → 0 < times x (x ∷ list)
at_head x list = omega (arith, one_same x)

counts_none : (test : ℕ → Bool) (low high : ℕ) (list : List ℕ) → high ≤ low → Counts test low high list → list ≡ []
counts_none test low high [] le c = refl
counts_none test low high (x ∷ list) le c = elim (cases_lt x low) [
  | inl lt ↦ absurd (omega (arith, at_head x list, c.below x lt))
  | inr ge ↦ absurd (omega (arith, at_head x list, c.above x (omega (arith, ge))))
]

-- where the lowest passes it comes first
first_is_low : (test : ℕ → Bool) (low high x : ℕ) (list : List ℕ) → low < high → test low ≡ true → IsNonDecreasing (x ∷ list) → Counts test low high (x ∷ list) → x ≡ low
first_is_low test low high x list lt passes rises c = elim (cases_eq x low) [
  | inl e ↦ e
  | inr ne ↦ elim (cases_lt x low) [
    | inl less ↦ absurd (omega (arith, at_head x list, c.below x less))
    | inr ge ↦
        let once : times low (x ∷ list) ≡ 1 = c.inside low (omega arith) lt ∙ ap (λ t. cond t 1 0) passes in
        let some : 0 < times low list = omega (arith, once, one_other low x ne) in
        absurd (ne (both x low ge (least x low list rises some)))
  ]
] where
  both : (m n : ℕ) → n ≤ m → m ≤ n → m ≡ n
  both m n a b = omega arith

counts_rest : (test : ℕ → Bool) (low high : ℕ) (list : List ℕ) → low < high → test low ≡ true → Counts test low high (low ∷ list) → Counts test (low + 1) high list
counts_rest test low high list lt passes c = record {
  inside = λ m ge less. omega (arith, c.inside m (omega arith) less, one_other m low (λ e. absurd (apart low m ge e)));
  below = λ m less. elim (cases_eq low m) [
    | inl e ↦ omega (arith, ap (λ k. times k (low ∷ list)) (sym e), ap (λ k. times k list) (sym e), c.inside low (omega arith) lt, ap {B = ℕ} (λ t. cond t 1 0) passes, one_same low)
    | inr ne ↦ omega (arith, c.below m (under low m less ne), one_other m low ne)
  ];
  above = λ m ge. omega (arith, c.above m ge);
} where
  apart : (low m : ℕ) → low + 1 ≤ m → low ≡ m → ⊥
  apart low m ge e = omega arith

  under : (low m : ℕ) → m < low + 1 → low ≢ m → m < low
  under low m less ne = omega arith

counts_skip : (test : ℕ → Bool) (low high : ℕ) (list : List ℕ) → low < high → test low ≡ false → Counts test low high list → Counts test (low + 1) high list
counts_skip test low high list lt fails c = record {
  inside = λ m ge less. c.inside m (omega arith) less;
  below = λ m less. elim (cases_eq low m) [
    | inl e ↦ ap (λ k. times k list) (sym e) ∙ c.inside low (omega arith) lt ∙ ap (λ t. cond t 1 0) fails
    | inr ne ↦ c.below m (under low m less ne)
  ];
  above = c.above;
} where
  under : (low m : ℕ) → m < low + 1 → low ≢ m → m < low
  under low m less ne = omega arith

abbrev Is : (ℕ → Bool) → ℕ → ℕ → List ℕ → Type 0
Is test low count list = list ≡ filter test (range_with_len low count)

from_low : (test : ℕ → Bool) (low count x : ℕ) (list : List ℕ) → test low ≡ true → x ≡ low → Is test (low + 1) count list → Is test low (suc count) (x ∷ list)
from_low test low count x list passes e is =
    ap₂ (λ y ys. y ∷ ys) e is ∙ sym (ap (λ t. cond t (low ∷ filter test (range_with_len (low + 1) count)) (filter test (range_with_len (low + 1) count))) passes)

past_low : (test : ℕ → Bool) (low count : ℕ) (list : List ℕ) → test low ≡ false → Is test (low + 1) count list → Is test low (suc count) list
past_low test low count list fails is =
    is ∙ sym (ap (λ t. cond t (low ∷ filter test (range_with_len (low + 1) count)) (filter test (range_with_len (low + 1) count))) fails)

split : (t : Bool) → (t ≡ true) ⊎ (t ≡ false)
split true = inl refl
split false = inr refl

counted : (test : ℕ → Bool) (count low high : ℕ) (list : List ℕ) → high ≡ low + count → IsNonDecreasing list → Counts test low high list → Is test low count list
counted test zero low high list h rises c = counts_none test low high list (omega (arith, h)) c
counted test (suc count) low high [] h rises c = elim (split (test low)) [
  | inl passes ↦ absurd (omega (arith, c.inside low (omega arith) (omega (arith, h)), ap {B = ℕ} (λ t. cond t 1 0) passes))
  | inr fails ↦ past_low test low count [] fails (counted test count (low + 1) high [] (omega (arith, h)) rises (counts_skip test low high [] (omega (arith, h)) fails c))
]
counted test (suc count) low high (x ∷ list) h rises c = elim (split (test low)) [
  | inl passes ↦
      let e : x ≡ low = first_is_low test low high x list (omega (arith, h)) passes rises c in
      let here : Counts test low high (low ∷ list) = subst (λ y. Counts test low high (y ∷ list)) e c in
      from_low test low count x list passes e
      (counted test count (low + 1) high list (omega (arith, h)) (rest_rises x list rises) (counts_rest test low high list (omega (arith, h)) passes here))
  | inr fails ↦ past_low test low count (x ∷ list) fails
      (counted test count (low + 1) high (x ∷ list) (omega (arith, h)) rises (counts_skip test low high (x ∷ list) (omega (arith, h)) fails c))
]

-- ---- the nodes of a block

none_past : (nodes : List FirmNode) (n : ℕ) → length nodes ≤ n → node_of nodes n ≡ no_node
none_past [] n h = refl
none_past (x ∷ nodes) zero h = absurd (omega arith)
none_past (x ∷ nodes) (suc n) h = none_past nodes n (omega arith)

pub nodes_are : (g : Firm) (b : ℕ) (listed list : List ℕ) → ((n : ℕ) → times n listed ≡ (if stands_in (node_of g.nodes n) b then 1 else 0))
    → ((n : ℕ) → times n list ≡ times n listed) → IsNonDecreasing list → list ≡ nodes_in g b
nodes_are g b listed list counts same rises =
    counted (λ n. stands_in (node_of g.nodes n) b) (length g.nodes) 0 (length g.nodes) list (omega arith) rises record {
      inside = λ m ge less. same m ∙ counts m;
      below = λ m less. absurd (omega arith);
      above = λ m ge. same m ∙ counts m ∙ ap (λ node. if stands_in node b then 1 else 0) (none_past g.nodes m ge);
    }

stands_there : (x y : Bool) → (x && y) ≡ true → x ≡ true
stands_there true y e = refl
stands_there false y e = e

-- and each is a node
pub nodes_there : (g : Firm) (b : ℕ) (list : List ℕ) (index : ℕ) → list ≡ nodes_in g b → index < length list → IsNode g (get_or list index 0)
nodes_there g b list index e h =
    let passes = filter_passes (λ n. stands_in (node_of g.nodes n) b) (range_with_len 0 (length g.nodes)) in
    let here : index < length (nodes_in g b) = omega (arith, h, ap length e) in
    ap (λ l. (node_of g.nodes (get_or l index 0)).there) e
    ∙ stands_there (node_of g.nodes (get_or (nodes_in g b) index 0)).there _ (passes index 0 here)

-- ---- a list whose numbers moved

times_sum : (x : ℕ) (list : List ℕ) → times x list ≡ sum_by (one x) list
times_sum x [] = refl
times_sum x (y ∷ list) = ap (λ k. one x y + k) (times_sum x list) ∙ sym (sum_by-cons (one x) y list)

pub times_moved : (x : ℕ) (list after : List ℕ) → IsPermutation list after → times x after ≡ times x list
times_moved x list after moved = times_sum x after ∙ sum_by-IsPermutation (one x) list after moved ∙ sym (times_sum x list)

-- ---- of a result

pub sorted_nodes : {T E : Type 0} (items : T → List ℕ) (g : Firm) (b : ℕ) (listed : List ℕ) (r : Result T E)
    → ((n : ℕ) → times n listed ≡ (if stands_in (node_of g.nodes n) b then 1 else 0)) → IfOk r (λ list. (n : ℕ) → times n (items list) ≡ times n listed)
    → IfOk r (λ list. IsNonDecreasing (items list)) → IfOk r (λ list. items list ≡ nodes_in g b)
sorted_nodes items g b listed (Ok list) counts same rises = nodes_are g b listed (items list) counts same rises
sorted_nodes items g b listed (Err e) counts same rises = tt
