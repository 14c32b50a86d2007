-- Tests of the rules, some with a certificate, and that a graph which passes them obeys the rules.
use Rattle.std.proofs.Common.{◌≡◌, ◌≢◌, refl, sym, ap, ◌∙◌, ℕ, ◌<◌, ◌==◌, arith, Bool, true, false, true≢false, List, [], ◌∷◌, length, Option, Some, None}
use Rattle.std.specs.Prelude.{not, nat_lt, ◌&&◌, ◌||◌, map}
use Rattle.std.specs.List.{list_all}
use Rattle.std.proofs.lemmas.Bool.{ltb-true}
use Rattle.firm_rules.specs.declared.node.Mode.{Mode}
use Rattle.firm_rules.specs.declared.node.Mode.TheVariants.{Word, Memory, Tuple}
use Rattle.firm_rules.specs.declared.node.FirmEnd.{FirmEnd}
use Rattle.firm_rules.specs.declared.node.FirmEnd.TheVariants.{Jump, Branch, Return}
use Rattle.firm_rules.specs.Graphs.{FirmNode, Firm, Operands, exactly, memory_and_words, all_of, operands_of}
use Rattle.firm_rules.specs.Lookups.{node_at, mode_at, IsBlock, preds_of, end_of}
use Rattle.firm_rules.specs.Rules.{is_phi, HaveMode, OperandsFit, EndFits, PhiIsFull, IsOperand, Leads, at_once, onward}
use Rattle.firm_rules.proofs.Chains.{both_true}
use Rattle.firm_rules.proofs.Testing.{or_else, or_then, equal, all_at, pass, nodes_at, blocks_at}

-- ---- 1

abbrev pub Rule1 : Firm → Type 0
Rule1 g = ((n : ℕ) (node : FirmNode) → node_at g n ≡ Some node → OperandsFit g (operands_of node.op) node.operands)
    × ((b : ℕ) → IsBlock g b → EndFits g (end_of g b))

abbrev pub mode_test : Mode → Option Mode → Bool
mode_test Word (Some Word) = true
mode_test Memory (Some Memory) = true
mode_test Tuple (Some Tuple) = true
mode_test mode found = false

mode_is : (mode : Mode) (found : Option Mode) → mode_test mode found ≡ true → found ≡ Some mode
mode_is Word (Some Word) e = refl
mode_is Memory (Some Memory) e = refl
mode_is Tuple (Some Tuple) e = refl
mode_is mode found e = absurd (true≢false (sym e))

abbrev pub is_tuple : Mode → Bool
is_tuple Tuple = true
is_tuple mode = false

module _ (g : Firm) where
  abbrev pub modes_test : List Mode → List ℕ → Bool
  modes_test [] [] = true
  modes_test (m ∷ ms) (n ∷ ns) = mode_test m (mode_at g n) && modes_test ms ns
  modes_test modes operands = false

  modes_are : (modes : List Mode) (operands : List ℕ) → modes_test modes operands ≡ true → map (mode_at g) operands ≡ map Some modes
  modes_are [] [] e = refl
  modes_are (m ∷ ms) (n ∷ ns) e =
      let parts = both_true (mode_test m (mode_at g n)) (modes_test ms ns) e in
      ap (λ x. x ∷ map (mode_at g) ns) (mode_is m (mode_at g n) parts.0) ∙ ap (λ xs. Some m ∷ xs) (modes_are ms ns parts.1)
  modes_are modes operands e = absurd (true≢false (sym e))

  have_mode : (mode : Mode) (operands : List ℕ) → list_all (λ n. mode_test mode (mode_at g n)) operands ≡ true → HaveMode g mode operands
  have_mode mode operands e index n at = mode_is mode (mode_at g n) (all_at (λ n. mode_test mode (mode_at g n)) operands e index n at)

  abbrev pub fit_test : Operands → List ℕ → Bool
  fit_test (exactly modes) operands = modes_test modes operands
  fit_test memory_and_words [] = false
  fit_test memory_and_words (m ∷ arguments) = mode_test Memory (mode_at g m) && list_all (λ n. mode_test Word (mode_at g n)) arguments
  fit_test (all_of mode) operands = not (is_tuple mode) && list_all (λ n. mode_test mode (mode_at g n)) operands

  fit_is : (modes : Operands) (operands : List ℕ) → fit_test modes operands ≡ true → OperandsFit g modes operands
  fit_is (exactly modes) operands e = modes_are modes operands e
  fit_is memory_and_words [] e = absurd (true≢false (sym e))
  fit_is memory_and_words (m ∷ arguments) e =
      let parts = both_true (mode_test Memory (mode_at g m)) (list_all (λ n. mode_test Word (mode_at g n)) arguments) e in
      (mode_is Memory (mode_at g m) parts.0, have_mode Word arguments parts.1)
  fit_is (all_of mode) operands e =
      let parts = both_true (not (is_tuple mode)) (list_all (λ n. mode_test mode (mode_at g n)) operands) e in
      (no_tuple parts.0, have_mode mode operands parts.1)
    where
      no_tuple : not (is_tuple mode) ≡ true → mode ≢ Tuple
      no_tuple yes_not same = true≢false (sym (ap (λ m. not (is_tuple m)) (sym same) ∙ yes_not))

  abbrev pub end_test : Option FirmEnd → Bool
  end_test (Some (Jump b)) = true
  end_test (Some (Branch n first second)) = mode_test Word (mode_at g n.number)
  end_test (Some (Return m (Some value))) = mode_test Memory (mode_at g m.number) && mode_test Word (mode_at g value.number)
  end_test (Some (Return m None)) = mode_test Memory (mode_at g m.number)
  end_test None = false

  end_is : (found : Option FirmEnd) → end_test found ≡ true → EndFits g found
  end_is (Some (Jump b)) e = tt
  end_is (Some (Branch n first second)) e = mode_is Word (mode_at g n.number) e
  end_is (Some (Return m (Some value))) e =
      let parts = both_true (mode_test Memory (mode_at g m.number)) (mode_test Word (mode_at g value.number)) e in
      (mode_is Memory (mode_at g m.number) parts.0, mode_is Word (mode_at g value.number) parts.1)
  end_is (Some (Return m None)) e = mode_is Memory (mode_at g m.number) e
  end_is None e = absurd (true≢false (sym e))

  abbrev pub test_1 : Bool
  test_1 = pass (λ n node. fit_test (operands_of node.op) node.operands) g.nodes && list_all (λ b. end_test (end_of g b)) g.order

  pub sound_1 : test_1 ≡ true → Rule1 g
  sound_1 e =
      let parts = both_true (pass (λ n node. fit_test (operands_of node.op) node.operands) g.nodes) (list_all (λ b. end_test (end_of g b)) g.order) e in (
        λ n node is. fit_is (operands_of node.op) node.operands (nodes_at g (λ n node. fit_test (operands_of node.op) node.operands) parts.0 n node is),
        λ b is. end_is (end_of g b) (blocks_at g (λ b. end_test (end_of g b)) parts.1 b is),
      )

-- ---- 2

abbrev pub Rule2 : Firm → Type 0
Rule2 g = (n : ℕ) (node : FirmNode) → node_at g n ≡ Some node → PhiIsFull g node

abbrev full_test : Firm → ℕ → FirmNode → Bool
full_test g n node = not (is_phi node.op) || (length node.operands == length (preds_of g node.block))

abbrev pub test_2 : Firm → Bool
test_2 g = pass (full_test g) g.nodes

pub sound_2 : (g : Firm) → test_2 g ≡ true → Rule2 g
sound_2 g e n node is phi =
    equal (length node.operands) (length (preds_of g node.block))
    (or_else (is_phi node.op) (length node.operands == length (preds_of g node.block)) phi (nodes_at g (full_test g) e n node is))

-- ---- 3: each operand but a Phi's has a smaller number, as in the graphs by hand

abbrev pub Rule3 : Firm → Type 0
Rule3 g = (n : ℕ) → Leads g n n → ⊥

abbrev rising_test : ℕ → FirmNode → Bool
rising_test n node = is_phi node.op || list_all (λ m. nat_lt m n) node.operands

abbrev pub test_3 : Firm → Bool
test_3 g = pass rising_test g.nodes

falls : (g : Firm) → test_3 g ≡ true → (n m : ℕ) → IsOperand g n m → m < n
falls g e n m is =
    ltb-true m n
    (all_at (λ m. nat_lt m n) is.node.operands
    (or_then (is_phi is.node.op) (list_all (λ m. nat_lt m n) is.node.operands) is.no_phi (nodes_at g rising_test e n is.node is.is)) is.index m is.at)

leads_falls : (g : Firm) → test_3 g ≡ true → (n m : ℕ) → Leads g n m → m < n
leads_falls g e n m (at_once is) = falls g e n m is
leads_falls g e n m (onward next is rest) = let one = falls g e n next is in omega (arith, one, leads_falls g e next m rest)

pub sound_3 : (g : Firm) → test_3 g ≡ true → Rule3 g
sound_3 g e n leads = let less = leads_falls g e n n leads in omega (arith, less)
