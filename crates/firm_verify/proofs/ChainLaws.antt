-- The chain of the nodes of a block that take memory.
use Rattle.std.proofs.Common.{◌≡◌, ◌==◌, ℕ, zero, suc, ◌+◌, ◌<◌, ◌≤◌, Bool, true, false, true≢false, ◌&&◌, not, List, [], ◌∷◌, length, get_or, refl, sym, ap, ◌∙◌, subst, arith, cond, if◌then◌else◌, Option, Some, None, inl, inr, ◌⊎◌}
use Rattle.std.specs.Prelude.{slice_get, unwrap_or}
use Rattle.std.specs.List.{position_or_len}
use Rattle.std.proofs.lemmas.Bool.{cases_eq, cases_lt, eq-eqb, eqb-true, ne_eqb, and_parts, and_from, lt-ltb}
use Rattle.std.proofs.lemmas.List.Quantifiers.{position-Some}
use Rattle.std.proofs.lemmas.Option.{slice_get-get_or}
use Rattle.firm_uses.specs.Counts.{times}
use Rattle.firm_uses.proofs.CountLaws.{one, one_same, one_other}
use Rattle.firm_rules.specs.declared.node.NodeOp.{NodeOp}
use Rattle.firm_rules.specs.declared.node.NodeOp.TheVariants.{ProjM, Phi}
use Rattle.firm_rules.specs.Graphs.{FirmNode, Firm, Operands, exactly, memory_and_words, all_of, acts, acts_by, operands_of}
use Rattle.firm_rules.specs.Lookups.{if_there, node_at}
use Rattle.firm_rules.specs.Rules.{is_phi, IsOperand, Leads, at_once, onward, giver, giver_in, giver_by, first_node, acts_in, takes_from, chain_from, chain, OperandsFit}
use Rattle.firm_verify.specs.Broken.{Rule1, Rule3}
use Rattle.firm_tables.specs.Nodes.{node_of, no_node}
use Rattle.firm_tables.proofs.NodeLaws.{node_within}
use Rattle.firm_nodes.specs.Calls.{IsNode}
use Rattle.firm_verify.proofs.GraphLaws.{node_read, as_number}

-- ---- the first node that passes a test

placed_before : (p : FirmNode → Bool) (xs : List FirmNode) (n : ℕ) (x : FirmNode) → slice_get xs n ≡ Some x → p x ≡ true → (position_or_len p xs ≤ n) × (n < length xs)
placed_before p [] n x e h = absurd (cc)
placed_before p (y ∷ xs) zero x e h =
    let same : p y ≡ true = ap p (ap (λ o. elim o [ Some z ↦ z | None ↦ y ]) e) ∙ h in
    (omega (arith, ap (λ t. cond (not t) (1 + position_or_len p xs) 0) same), omega arith)
placed_before p (y ∷ xs) (suc n) x e h = by (p y) refl (placed_before p xs n x e h)
  where
    by : (t : Bool) → p y ≡ t → (position_or_len p xs ≤ n) × (n < length xs) → (position_or_len p (y ∷ xs) ≤ suc n) × (suc n < length (y ∷ xs))
    by true is rest = (omega (arith, ap (λ t. cond (not t) (1 + position_or_len p xs) 0) is), omega (arith, rest.1))
    by false is rest = (omega (arith, ap (λ t. cond (not t) (1 + position_or_len p xs) 0) is, rest.0), omega (arith, rest.1))

there_at : (nodes : List FirmNode) (n : ℕ) (node : FirmNode) → if_there (slice_get nodes n) ≡ Some node → (slice_get nodes n ≡ Some node) × (node.there ≡ true)
there_at [] n node e = absurd (cc)
there_at (x ∷ nodes) zero node e = by x.there refl e
  where
    by : (b : Bool) → x.there ≡ b → (if b then Some x else None) ≡ Some node → (Some x ≡ Some node) × (node.there ≡ true)
    by true t e = (e, ap (λ (o : Option FirmNode). (unwrap_or o x).there) (sym e) ∙ t)
    by false t e = absurd (cc)
there_at (x ∷ nodes) (suc n) node e = there_at nodes n node e

there_from : (g : Firm) (n : ℕ) (node : FirmNode) → slice_get g.nodes n ≡ Some node → node.there ≡ true → node_at g n ≡ Some node
there_from g n node at t = ap if_there at ∙ ap (λ b. if b then Some node else None) t

pub record Passes (g : Firm) (test : FirmNode → Bool) (n : ℕ) : Type 0 where
  pub node : FirmNode
  pub is : node_at g n ≡ Some node
  pub passed : test node ≡ true

pub first_passes : (g : Firm) (test : FirmNode → Bool) (n : ℕ) → first_node g test ≡ Some n → Passes g test n
first_passes g test n e =
    let parts = position-Some (λ node. node.there && test node) g.nodes n no_node e in
    let node = get_or g.nodes n no_node in
    let both = and_parts node.there (test node) parts.1 in
    record { node = node; is = there_from g n node (slice_get-get_or g.nodes n no_node parts.0) both.0; passed = both.1 }

pub first_there : (g : Firm) (test : FirmNode → Bool) (n : ℕ) → Passes g test n → (k : ℕ) × (first_node g test ≡ Some k)
first_there g test n p =
    let at = there_at g.nodes n p.node p.is in
    let q : FirmNode → Bool = λ node. node.there && test node in
    let before = placed_before q g.nodes n p.node at.0 (and_from p.node.there (test p.node) at.1 p.passed) in
    let place = position_or_len q g.nodes in
    (place, ap (λ t. cond t (Some place) None) (lt-ltb place (length g.nodes) (omega (arith, before.0, before.1))))

-- the only one that passes
pub first_only : (g : Firm) (test : FirmNode → Bool) (n : ℕ) → Passes g test n → ((m : ℕ) → Passes g test m → m ≡ n) → first_node g test ≡ Some n
first_only g test n p alone =
    let found = first_there g test n p in
    found.1 ∙ ap Some (alone found.0 (first_passes g test found.0 found.1))

-- the lowest one that passes
pub first_lowest : (g : Firm) (test : FirmNode → Bool) (n : ℕ) → Passes g test n → ((m : ℕ) → Passes g test m → n ≤ m) → first_node g test ≡ Some n
first_lowest g test n p lowest =
    let at = there_at g.nodes n p.node p.is in
    let q : FirmNode → Bool = λ node. node.there && test node in
    let before = placed_before q g.nodes n p.node at.0 (and_from p.node.there (test p.node) at.1 p.passed) in
    let place = position_or_len q g.nodes in
    let found : first_node g test ≡ Some place = ap (λ t. cond t (Some place) None) (lt-ltb place (length g.nodes) (omega (arith, before.0, before.1))) in
    found ∙ ap Some (equal place n before.0 (lowest place (first_passes g test place found)))
  where
    equal : (m n : ℕ) → m ≤ n → n ≤ m → m ≡ n
    equal m n a c = omega (arith, a, c)

pub first_none : (g : Firm) (test : FirmNode → Bool) → ((m : ℕ) → Passes g test m → ⊥) → first_node g test ≡ None
first_none g test none = by (first_node g test) refl
  where
    by : (o : Option ℕ) → first_node g test ≡ o → o ≡ None
    by None e = refl
    by (Some n) e = absurd (none n (first_passes g test n e))

-- ---- few numbers below a bound

without : ℕ → List ℕ → List ℕ
without x [] = []
without x (y ∷ l) = if y == x then without x l else y ∷ without x l

without_long : (x : ℕ) (l : List ℕ) → length l ≡ length (without x l) + times x l
unfolding without
without_long x [] = refl
without_long x (y ∷ l) = by (y == x) refl (without_long x l)
  where
    by : (t : Bool) → (y == x) ≡ t → length l ≡ length (without x l) + times x l → suc (length l) ≡ length (without x (y ∷ l)) + times x (y ∷ l)
    by true e rest = omega (arith, rest, ap (λ t. length (if t then without x l else y ∷ without x l)) e, ap as_number e)
    by false e rest = omega (arith, rest, ap (λ t. length (if t then without x l else y ∷ without x l)) e, ap as_number e)

without_times : (x z : ℕ) (l : List ℕ) → times z (without x l) ≤ times z l
unfolding without
without_times x z [] = omega arith
without_times x z (y ∷ l) = by (y == x) refl (without_times x z l)
  where
    by : (t : Bool) → (y == x) ≡ t → times z (without x l) ≤ times z l → times z (without x (y ∷ l)) ≤ times z (y ∷ l)
    by true e rest = omega (arith, rest, ap (λ t. times z (if t then without x l else y ∷ without x l)) e)
    by false e rest = omega (arith, rest, ap (λ t. times z (if t then without x l else y ∷ without x l)) e)

without_none : (x : ℕ) (l : List ℕ) → times x (without x l) ≡ 0
unfolding without
without_none x [] = refl
without_none x (y ∷ l) = by (cases_eq y x) (without_none x l)
  where
    by : (y ≡ x) ⊎ (y ≡ x → ⊥) → times x (without x l) ≡ 0 → times x (without x (y ∷ l)) ≡ 0
    by (inl same) rest = ap (λ t. times x (if t then without x l else y ∷ without x l)) (eq-eqb y x same) ∙ rest
    by (inr ne) rest = ap (λ t. times x (if t then without x l else y ∷ without x l)) (ne_eqb y x ne) ∙ omega (arith, rest, one_other x y ne)

pub few : (n : ℕ) (l : List ℕ) → ((x : ℕ) → 0 < times x l → x < n) → ((x : ℕ) → times x l ≤ 1) → length l ≤ n
few zero [] below once = omega arith
few zero (y ∷ l) below once = absurd (omega (arith, below y (omega (arith, one_same y))))
few (suc n) l below once =
    let rest = few n (without n l)
    (λ x h. elim (cases_eq x n) [
      | inl same ↦ absurd (omega (arith, h, ap (λ k. times k (without n l)) same, without_none n l))
      | inr ne ↦ omega (arith, below x (omega (arith, h, without_times n x l)), ne)
    ])
    (λ x. omega (arith, without_times n x l, once x)) in
    omega (arith, without_long n l, once n, rest)

-- ---- steps of a chain

module _ (g : Firm) (b : ℕ) where
  abbrev pub Acts : ℕ → Type 0
  Acts n = acts_in b (node_at g n) ≡ true

  -- what the node takes its memory from
  abbrev pub taken : ℕ → ℕ
  taken n = giver g (get_or (node_of g.nodes n).operands 0 0)

  abbrev pub begins : FirmNode → Bool
  begins node = acts_in b (Some node) && takes_from g (λ m. not (acts_in b (node_at g m))) node.operands

  abbrev pub follows : ℕ → FirmNode → Bool
  follows n node = acts_in b (Some node) && takes_from g (λ m. m == n) node.operands

  pub chain_first : (limit : ℕ) (next : Option ℕ) → slice_get (chain_from g b (suc limit) next) 0 ≡ next
  chain_first limit None = refl
  chain_first limit (Some n) = refl

  pub chain_next : (limit : ℕ) (next : Option ℕ) (i p : ℕ) → slice_get (chain_from g b limit next) i ≡ Some p → suc i < limit → slice_get (chain_from g b limit next) (suc i) ≡ first_node g (follows p)
  chain_next zero next i p at h = absurd (omega (arith, h))
  chain_next (suc limit) None i p at h = absurd (cc)
  chain_next (suc zero) (Some n) i p at h = absurd (omega (arith, h))
  chain_next (suc (suc limit)) (Some n) zero p at h = chain_first limit (first_node g (follows n)) ∙ ap (λ k. first_node g (follows k)) (ap (λ o. elim o [ Some z ↦ z | None ↦ n ]) at)
  chain_next (suc (suc limit)) (Some n) (suc i) p at h = chain_next (suc limit) (first_node g (follows n)) i p at (omega (arith, h))

  -- a later node of a chain follows the one before
  pub chain_step : (limit : ℕ) (next : Option ℕ) (i n : ℕ) → slice_get (chain_from g b limit next) (suc i) ≡ Some n
      → (q : ℕ) × ((slice_get (chain_from g b limit next) i ≡ Some q) × (first_node g (follows q) ≡ Some n))
  chain_step zero next i n at = absurd (cc)
  chain_step (suc limit) None i n at = absurd (cc)
  chain_step (suc zero) (Some m) i n at = absurd (cc)
  chain_step (suc (suc limit)) (Some m) zero n at = (m, (refl, sym (chain_first limit (first_node g (follows m))) ∙ at))
  chain_step (suc (suc limit)) (Some m) (suc i) n at = chain_step (suc limit) (first_node g (follows m)) i n at

  -- after a node that none follows the chain ends
  pub chain_stop : (limit : ℕ) (next : Option ℕ) (i p : ℕ) → slice_get (chain_from g b limit next) i ≡ Some p → first_node g (follows p) ≡ None → slice_get (chain_from g b limit next) (suc i) ≡ None
  chain_stop zero next i p at none = absurd (cc)
  chain_stop (suc limit) None i p at none = absurd (cc)
  chain_stop (suc zero) (Some n) i p at none = refl
  chain_stop (suc (suc limit)) (Some n) zero p at none =
      chain_first limit (first_node g (follows n)) ∙ ap (λ k. first_node g (follows k)) (ap (λ o. elim o [ Some z ↦ z | None ↦ n ]) at) ∙ none
  chain_stop (suc (suc limit)) (Some n) (suc i) p at none = chain_stop (suc limit) (first_node g (follows n)) i p at none

  pub chain_head : (limit : ℕ) (next : Option ℕ) (n : ℕ) → slice_get (chain_from g b limit next) 0 ≡ Some n → next ≡ Some n
  chain_head zero next n at = absurd (cc)
  chain_head (suc limit) next n at = sym (chain_first limit next) ∙ at

-- ---- what a node takes its memory from

pub leads_trans : (g : Firm) (n m x : ℕ) → Leads g n m → Leads g m x → Leads g n x
leads_trans g n m x (at_once is) rest = onward m is rest
leads_trans g n m x (onward next is more) rest = onward next is (leads_trans g next m x more rest)

giver_leads : (g : Firm) (n m : ℕ) → IsOperand g n m → Leads g n (giver g m)
giver_leads g n m is = by (node_at g m) refl
  where
    by_op : (node : FirmNode) → node_at g m ≡ Some node → (o : NodeOp) (l : List ℕ) → node.op ≡ o → node.operands ≡ l → Leads g n (giver_by o l m)
    by_op node at ProjM (t ∷ rest) eo el =
        onward m is (at_once (record { node = node; is = at; no_phi = ap is_phi eo; index = 0; at = ap (λ l. slice_get l 0) el }))
    by_op node at o l eo el = at_once is

    by : (found : Option FirmNode) → node_at g m ≡ found → Leads g n (giver_in found m)
    by None at = at_once is
    by (Some node) at = by_op node at node.op node.operands refl refl

acts_no_phi : (o : NodeOp) → acts o ≡ true → is_phi o ≡ false
acts_no_phi (Phi mode) e = absurd (true≢false (sym e))
acts_no_phi o e = refl

pub some_operand : (g : Firm) (k : Operands) (l : List ℕ) → acts_by k ≡ true → OperandsFit g k l → 0 < length l
some_operand g k (x ∷ l) e fits = omega arith
some_operand g (exactly []) [] e fits = absurd (true≢false (sym e))
some_operand g (exactly (m ∷ ms)) [] e fits = absurd (cc)
some_operand g memory_and_words [] e fits = absurd fits
some_operand g (all_of mode) [] e fits = absurd (true≢false (sym e))

takes_is : (g : Firm) (test : ℕ → Bool) (l : List ℕ) → 0 < length l → takes_from g test l ≡ test (giver g (get_or l 0 0))
takes_is g test [] h = absurd (omega (arith, h))
takes_is g test (x ∷ l) h = refl

pub acts_some : (b : ℕ) (found : Option FirmNode) → acts_in b found ≡ true → (node : FirmNode) × ((found ≡ Some node) × ((node.block ≡ b) × (acts node.op ≡ true)))
acts_some b (Some node) e = let parts = and_parts (node.block == b) (acts node.op) e in (node, (refl, (eqb-true node.block b parts.0, parts.1)))
acts_some b None e = absurd (true≢false (sym e))

-- ---- the nodes of a block that act, with at most one that begins, and one after each

pub record NoRivals (g : Firm) (b : ℕ) : Type 0 where
  pub one_begins : (n m : ℕ) → Acts g b n → Acts g b m → (Acts g b (taken g b n) → ⊥) → (Acts g b (taken g b m) → ⊥) → n ≡ m
  pub one_follows : (n m : ℕ) → Acts g b n → Acts g b m → Acts g b (taken g b n) → taken g b n ≡ taken g b m → n ≡ m

module _ (g : Firm) (b : ℕ) (rule1 : Rule1 g) where
  pub record Acting (n : ℕ) : Type 0 where
    pub node : FirmNode
    pub is : node_at g n ≡ Some node
    pub is_node : IsNode g n
    pub some : 0 < length node.operands
    pub head : get_or (node_of g.nodes n).operands 0 0 ≡ get_or node.operands 0 0
    pub leads : Leads g n (taken g b n)
    pub below : n < length g.nodes

  pub acting : (n : ℕ) → Acts g b n → Acting n
  acting n a =
      let found = acts_some b (node_at g n) a in
      let node = found.0 in
      let read = node_read g n node found.1.0 in
      let some = some_operand g (operands_of node.op) node.operands found.1.1.1 (rule1.0 n node found.1.0) in
      let same : get_or (node_of g.nodes n).operands 0 0 ≡ get_or node.operands 0 0 = ap (λ (x : FirmNode). get_or x.operands 0 0) read.1 in
      record {
        node = node;
        is = found.1.0;
        is_node = read.0;
        some = some;
        head = same;
        leads = subst (λ k. Leads g n (giver g k)) (sym same) (giver_leads g n (get_or node.operands 0 0) (record {
          node = node;
          is = found.1.0;
          no_phi = acts_no_phi node.op found.1.1.1;
          index = 0;
          at = slice_get-get_or node.operands 0 0 some;
        }));
        below = node_within g.nodes n read.0;
      }

  takes_taken : (n : ℕ) (a : Acts g b n) (test : ℕ → Bool) → takes_from g test (acting n a).node.operands ≡ test (taken g b n)
  takes_taken n a test =
      let at = acting n a in
      takes_is g test at.node.operands at.some ∙ ap (λ k. test (giver g k)) (sym at.head)

  pub passes_by : (n : ℕ) (a : Acts g b n) (test : ℕ → Bool) → test (taken g b n) ≡ true → Passes g (λ node. acts_in b (Some node) && takes_from g test node.operands) n
  passes_by n a test e =
      let at = acting n a in
      record {
        node = at.node;
        is = at.is;
        passed = and_from (acts_in b (Some at.node)) (takes_from g test at.node.operands) (ap (acts_in b) (sym at.is) ∙ a) (takes_taken n a test ∙ e);
      }

  pub by_passes : (n : ℕ) (test : ℕ → Bool) → Passes g (λ node. acts_in b (Some node) && takes_from g test node.operands) n → Acts g b n × (test (taken g b n) ≡ true)
  by_passes n test p =
      let parts = and_parts (acts_in b (Some p.node)) (takes_from g test p.node.operands) p.passed in
      let a : Acts g b n = ap (acts_in b) p.is ∙ parts.0 in
      let at = acting n a in
      (a, sym (takes_taken n a test) ∙ ap (λ o. elim o [ Some x ↦ takes_from g test x.operands | None ↦ false ]) (sym at.is ∙ p.is) ∙ parts.1)

  is_not : (t : Bool) → (t ≡ true → ⊥) → not t ≡ true
  is_not true d = absurd (d refl)
  is_not false d = refl

  not_is : (t : Bool) → not t ≡ true → t ≡ true → ⊥
  not_is true n e = true≢false (sym n)
  not_is false n e = true≢false (sym e)

  pub begins_first : NoRivals g b → (n : ℕ) → Acts g b n → (Acts g b (taken g b n) → ⊥) → first_node g (begins g b) ≡ Some n
  begins_first none n a head =
      first_only g (begins g b) n (passes_by n a (λ m. not (acts_in b (node_at g m))) (is_not (acts_in b (node_at g (taken g b n))) head))
      (λ m p.
      let other = by_passes m (λ k. not (acts_in b (node_at g k))) p in
      none.one_begins m n other.0 a (not_is (acts_in b (node_at g (taken g b m))) other.1) head)

  follows_first : NoRivals g b → (n : ℕ) → Acts g b n → Acts g b (taken g b n) → first_node g (follows g b (taken g b n)) ≡ Some n
  follows_first none n a acts_too =
      first_only g (follows g b (taken g b n)) n (passes_by n a (λ m. m == taken g b n) (eq-eqb (taken g b n) (taken g b n) refl))
      (λ m p.
      let other = by_passes m (λ k. k == taken g b n) p in
      let same : taken g b m ≡ taken g b n = eqb-true (taken g b m) (taken g b n) other.1 in
      sym (none.one_follows n m a other.0 acts_too (sym same)))

  record Reaches (bound n : ℕ) : Type 0 where
    pub index : ℕ
    pub early : index + bound < length g.nodes
    pub at : slice_get (chain g b) index ≡ Some n

  pub chain_begins : 0 < length g.nodes → slice_get (chain g b) 0 ≡ first_node g (begins g b)
  chain_begins h = by (length g.nodes) h
    where
      by : (limit : ℕ) → 0 < limit → slice_get (chain_from g b limit (first_node g (begins g b))) 0 ≡ first_node g (begins g b)
      by zero h = absurd (omega (arith, h))
      by (suc limit) h = chain_first g b limit (first_node g (begins g b))

  decide_acts : (n : ℕ) → Acts g b n ⊎ (Acts g b n → ⊥)
  decide_acts n = by (acts_in b (node_at g n))
    where
      by : (t : Bool) → (t ≡ true) ⊎ (t ≡ true → ⊥)
      by true = inl refl
      by false = inr (λ e. true≢false (sym e))

  reach_by : Rule3 g → NoRivals g b → (fuel n : ℕ) (later : List ℕ) → length later + fuel ≡ suc (length g.nodes) → ((x : ℕ) → 0 < times x later → (x < length g.nodes) × Leads g x n)
      → ((x : ℕ) → times x later ≤ 1) → Acts g b n → Reaches (length later) n
  reach_by acyclic none zero n later e led once a = absurd (omega (arith, e, few (length g.nodes) later (λ x h. (led x h).0) once))
  reach_by acyclic none (suc fuel) n later e led once a = by (decide_acts (taken g b n)) (reach_by acyclic none fuel (taken g b n) (n ∷ later))
    where
      at : Acting n
      at = acting n a

      fresh : times n later ≡ 0
      fresh = elim (cases_lt 0 (times n later)) [
        | inl lt ↦ absurd (acyclic n at.node at.is (led n lt).1)
        | inr le ↦ omega (arith, le)
      ]

      once_more : (x : ℕ) → times x (n ∷ later) ≤ 1
      once_more x = elim (cases_eq n x) [
        | inl same ↦ omega (arith, one_same x, fresh, ap (λ k. times k later) (sym same), ap (λ k. one x k) same)
        | inr ne ↦ omega (arith, one_other x n ne, once x)
      ]

      below : (x : ℕ) → 0 < times x (n ∷ later) → x < length g.nodes
      below x h = elim (cases_eq n x) [
        | inl same ↦ subst (λ k. k < length g.nodes) same at.below
        | inr ne ↦ (led x (omega (arith, h, one_other x n ne))).0
      ]

      led_more : (x : ℕ) → 0 < times x (n ∷ later) → (x < length g.nodes) × Leads g x (taken g b n)
      led_more x h = (
        below x h,
        elim (cases_eq n x) [
          | inl same ↦ subst (λ k. Leads g k (taken g b n)) same at.leads
          | inr ne ↦ leads_trans g x n (taken g b n) (led x (omega (arith, h, one_other x n ne))).1 at.leads
        ],
      )

      short : suc (length later) ≤ length g.nodes
      short = few (length g.nodes) (n ∷ later) below once_more

      by : Acts g b (taken g b n) ⊎ (Acts g b (taken g b n) → ⊥)
          → (suc (length later) + fuel ≡ suc (length g.nodes) → ((x : ℕ) → 0 < times x (n ∷ later) → (x < length g.nodes) × Leads g x (taken g b n)) → ((x : ℕ) → times x (n ∷ later) ≤ 1)
          → Acts g b (taken g b n) → Reaches (suc (length later)) (taken g b n)) → Reaches (length later) n
      by (inr head) back = record {
        index = 0;
        early = omega (arith, short);
        at = chain_begins (omega (arith, short)) ∙ begins_first none n a head;
      }
      by (inl acts_too) back =
          let before = back (omega (arith, e)) led_more once_more acts_too in
          record {
            index = suc before.index;
            early = omega (arith, before.early);
            at = chain_next g b (length g.nodes) (first_node g (begins g b)) before.index (taken g b n) before.at (omega (arith, before.early)) ∙ follows_first none n a acts_too;
          }

  -- where there are no rivals, the chain has each of them
  pub all_in_chain : Rule3 g → NoRivals g b → (n : ℕ) → Acts g b n → (index : ℕ) × (slice_get (chain g b) index ≡ Some n)
  all_in_chain acyclic none n a =
      let found = reach_by acyclic none (suc (length g.nodes)) n [] (omega arith) (λ x h. absurd (omega (arith, h))) (λ x. omega arith) a in
      (found.index, found.at)

  in_chain : (limit : ℕ) (next : Option ℕ) (i q : ℕ) → ((k : ℕ) → next ≡ Some k → Acts g b k) → slice_get (chain_from g b limit next) i ≡ Some q → Acts g b q
  in_chain limit next zero q head at = head q (chain_head g b limit next q at)
  in_chain limit next (suc i) q head at =
      let step = chain_step g b limit next i q at in
      (by_passes q (λ m. m == step.0) (first_passes g (follows g b step.0) q step.1.1)).0

  begins_act : (k : ℕ) → first_node g (begins g b) ≡ Some k → Acts g b k
  begins_act k e = (by_passes k (λ m. not (acts_in b (node_at g m))) (first_passes g (begins g b) k e)).0

  -- each node of the chain acts
  pub chain_acts : (i n : ℕ) → slice_get (chain g b) i ≡ Some n → Acts g b n
  chain_acts i n at = in_chain (length g.nodes) (first_node g (begins g b)) i n begins_act at

  -- and where the chain has each of them, there are no rivals
  pub no_rivals : ((n : ℕ) → Acts g b n → (index : ℕ) × (slice_get (chain g b) index ≡ Some n)) → NoRivals g b
  no_rivals all = record {
    one_begins = λ n m an am hn hm. same_some n m (sym (head_at n (all n an).0 (all n an).1 hn) ∙ head_at m (all m am).0 (all m am).1 hm);
    one_follows = λ n m an am acts_too same.
        same_some n m (sym (follow_at n an acts_too (all n an).0 (all n an).1) ∙ ap (λ k. first_node g (follows g b k)) same
        ∙ follow_at m am (subst (Acts g b) same acts_too) (all m am).0 (all m am).1);
  }
    where
      same_some : (n m : ℕ) → Some n ≡ Some m → n ≡ m
      same_some n m e = ap (λ o. elim o [ Some x ↦ x | None ↦ n ]) e

      head_at : (n i : ℕ) → slice_get (chain g b) i ≡ Some n → (Acts g b (taken g b n) → ⊥) → first_node g (begins g b) ≡ Some n
      head_at n zero at head = chain_head g b (length g.nodes) (first_node g (begins g b)) n at
      head_at n (suc i) at head =
          let step = chain_step g b (length g.nodes) (first_node g (begins g b)) i n at in
          let takes = (by_passes n (λ m. m == step.0) (first_passes g (follows g b step.0) n step.1.1)).1 in
          absurd (head (subst (Acts g b) (sym (eqb-true (taken g b n) step.0 takes)) (in_chain (length g.nodes) (first_node g (begins g b)) i step.0 begins_act step.1.0)))

      follow_at : (n : ℕ) → Acts g b n → Acts g b (taken g b n) → (i : ℕ) → slice_get (chain g b) i ≡ Some n → first_node g (follows g b (taken g b n)) ≡ Some n
      follow_at n a acts_too zero at =
          let head = chain_head g b (length g.nodes) (first_node g (begins g b)) n at in
          absurd (not_is (acts_in b (node_at g (taken g b n))) (by_passes n (λ m. not (acts_in b (node_at g m))) (first_passes g (begins g b) n head)).1 acts_too)
      follow_at n a acts_too (suc i) at =
          let step = chain_step g b (length g.nodes) (first_node g (begins g b)) i n at in
          let takes = (by_passes n (λ m. m == step.0) (first_passes g (follows g b step.0) n step.1.1)).1 in
          ap (λ k. first_node g (follows g b k)) (eqb-true (taken g b n) step.0 takes) ∙ step.1.1

  -- going on from node to node, one comes to a node that none follows
  last_by : Rule3 g → (fuel n : ℕ) (before : List ℕ) → length before + fuel ≡ suc (length g.nodes) → ((x : ℕ) → 0 < times x before → (x < length g.nodes) × Leads g n x)
      → ((x : ℕ) → times x before ≤ 1) → Acts g b n → (m : ℕ) × (Acts g b m × (first_node g (follows g b m) ≡ None))
  last_by acyclic zero n before e led once a = absurd (omega (arith, e, few (length g.nodes) before (λ x h. (led x h).0) once))
  last_by acyclic (suc fuel) n before e led once a = by (first_node g (follows g b n)) refl (last_by acyclic fuel)
    where
      at : Acting n
      at = acting n a

      fresh : times n before ≡ 0
      fresh = elim (cases_lt 0 (times n before)) [
        | inl lt ↦ absurd (acyclic n at.node at.is (led n lt).1)
        | inr le ↦ omega (arith, le)
      ]

      once_more : (x : ℕ) → times x (n ∷ before) ≤ 1
      once_more x = elim (cases_eq n x) [
        | inl same ↦ omega (arith, one_same x, fresh, ap (λ k. times k before) (sym same), ap (λ k. one x k) same)
        | inr ne ↦ omega (arith, one_other x n ne, once x)
      ]

      led_more : (k : ℕ) → Leads g k n → (x : ℕ) → 0 < times x (n ∷ before) → (x < length g.nodes) × Leads g k x
      led_more k leads x h = elim (cases_eq n x) [
        | inl same ↦ (subst (λ i. i < length g.nodes) same at.below, subst (Leads g k) same leads)
        | inr ne ↦
            let more = led x (omega (arith, h, one_other x n ne)) in
            (more.0, leads_trans g k n x leads more.1)
      ]

      by : (next : Option ℕ) → first_node g (follows g b n) ≡ next
          → ((k : ℕ) (passed : List ℕ) → length passed + fuel ≡ suc (length g.nodes) → ((x : ℕ) → 0 < times x passed → (x < length g.nodes) × Leads g k x)
          → ((x : ℕ) → times x passed ≤ 1) → Acts g b k → (m : ℕ) × (Acts g b m × (first_node g (follows g b m) ≡ None)))
          → (m : ℕ) × (Acts g b m × (first_node g (follows g b m) ≡ None))
      by None is on = (n, (a, is))
      by (Some k) is on =
          let step = by_passes k (λ m. m == n) (first_passes g (follows g b n) k is) in
          on k (n ∷ before) (omega (arith, e)) (led_more k (subst (Leads g k) (eqb-true (taken g b k) n step.1) (acting k step.0).leads)) once_more step.0

  pub some_last : Rule3 g → (n : ℕ) → Acts g b n → (m : ℕ) × (Acts g b m × (first_node g (follows g b m) ≡ None))
  some_last acyclic n a = last_by acyclic (suc (length g.nodes)) n [] (omega arith) (λ x h. absurd (omega (arith, h))) (λ x. omega arith) a
