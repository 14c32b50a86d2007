-- The search for cycles.
use Rattle.std.proofs.Common.{◌≡◌, ◌≢◌, ◌==◌, ℕ, zero, suc, ◌+◌, ◌-◌, ◌<◌, ◌≤◌, true, false, true≢false, List, [], ◌∷◌, ◌++◌, length, take, get_or, set, refl, sym, ap, ◌∙◌, subst, arith, Some, inl, inr, ◌⊎◌}
use Rattle.std.proofs.lemmas.Bool.{cases_eq, cases_lt, ne_eqb}
use Rattle.std.proofs.lemmas.List.{get_or-set_same, get_or-set_other, take_all}
use Rattle.std.proofs.lemmas.Option.{slice_get-get_or}
use Rattle.firm_uses.specs.Counts.{times}
use Rattle.firm_uses.proofs.CountLaws.{one, one_same, one_other, times_found, times_front, times_push, times-last}
use Rattle.firm_rules.specs.declared.node.NodeId.{NodeId}
use Rattle.firm_rules.specs.declared.node.NodeOp.{NodeOp}
use Rattle.firm_rules.specs.Graphs.{FirmNode, Firm}
use Rattle.firm_rules.specs.Rules.{is_phi, IsOperand, Leads, at_once, onward}
use Rattle.firm_tables.specs.Nodes.{numbers, node_of}
use Rattle.firm_tables.proofs.MemberLaws.{number_at, numbers_long}
use Rattle.firm_nodes.specs.Calls.{IsNode}
use Rattle.firm_nodes.proofs.LikeLaws.{times_at}
use Rattle.firm_verify.specs.Broken.{Rule1, Rule3}
use Rattle.firm_verify.specs.Tables.{AreNodes}
use Rattle.firm_verify.specs.Marks.{Ends, ends, AreMarks, weight, NoneMore}
use Rattle.firm_verify.proofs.GraphLaws.{node_read, node_seen, as_number, each_more}
use Rattle.firm_verify.proofs.CountsLaws.{got}
use Rattle.firm_verify.proofs.DefinedLaws.{operands_there}

-- ---- ways that end are on no cycle

leads_on : (g : Firm) (n m x : ℕ) → Leads g n m → IsOperand g m x → Leads g n x
leads_on g n m x (at_once is) step = onward m is (at_once step)
leads_on g n m x (onward next is rest) step = onward next is (leads_on g next m x rest step)

pub no_cycle : (g : Firm) (n : ℕ) → Ends g n → Leads g n n → ⊥
no_cycle g n (ends below) (at_once is) = no_cycle g n (below n is) (at_once is)
no_cycle g n (ends below) (onward next is rest) = no_cycle g next (below next is) (leads_on g next n next rest is)

-- ---- weights

weight_set : (left : List ℕ) (i v : ℕ) → i < length left → weight (set left i v) + get_or left i 0 ≡ weight left + v
weight_set [] i v h = absurd (omega arith)
weight_set (x ∷ left) zero v h = omega arith
weight_set (x ∷ left) (suc i) v h = omega (arith, weight_set left i v (omega arith))

pub marked_within : (left : List ℕ) (i : ℕ) → get_or left i 0 ≢ 0 → i < length left
marked_within [] i ne = absurd (ne refl)
marked_within (x ∷ left) zero ne = omega arith
marked_within (x ∷ left) (suc i) ne = omega (arith, marked_within left i ne)

-- ---- operands

pub operand_is : (g : Firm) (n m : ℕ) → IsNode g n → is_phi (node_of g.nodes n).op ≡ false → 0 < times m (node_of g.nodes n).operands → IsOperand g n m
operand_is g n m node no_phi listed =
    let found = times_at m (node_of g.nodes n).operands listed in
    record {
      node = node_of g.nodes n;
      is = node_seen g n node;
      no_phi = no_phi;
      index = found.0;
      at = slice_get-get_or (node_of g.nodes n).operands found.0 0 found.1.0 ∙ ap Some found.1.1;
    }

pub is_operand : (g : Firm) (n m : ℕ) → IsOperand g n m → 0 < times m (node_of g.nodes n).operands
is_operand g n m is =
    let read = node_read g n is.node is.is in
    let at = got is.node.operands is.index m is.at in
    subst (λ (x : FirmNode). 0 < times m x.operands) (sym read.1) (times_found m is.node.operands is.index 0 at.0 at.1)

phi_ends : (g : Firm) (n : ℕ) → is_phi (node_of g.nodes n).op ≡ true → Ends g n
phi_ends g n phi = ends (λ m is.
    let read = node_read g n is.node is.is in
    absurd (true≢false (sym phi ∙ ap (λ (x : FirmNode). is_phi x.op) read.1 ∙ is.no_phi)))

-- ---- steps

get_take : (l : List ℕ) (n i d : ℕ) → i < n → get_or (take n l) i d ≡ get_or l i d
get_take l zero i d h = absurd (omega (arith, h))
get_take [] (suc n) i d h = refl
get_take (x ∷ l) (suc n) zero d h = refl
get_take (x ∷ l) (suc n) (suc i) d h = get_take l n i d (omega (arith, h))

at_front : (l : List ℕ) (x p : ℕ) → p < length l → get_or (l ++ x ∷ []) p 0 ≡ get_or l p 0
at_front [] x p h = absurd (omega arith)
at_front (y ∷ l) x zero h = refl
at_front (y ∷ l) x (suc p) h = at_front l x p (omega arith)

at_last : (l : List ℕ) (x p : ℕ) → p ≡ length l → get_or (l ++ x ∷ []) p 0 ≡ x
at_last [] x zero e = refl
at_last [] x (suc p) e = absurd (omega (arith, e))
at_last (y ∷ l) x zero e = absurd (omega (arith, e))
at_last (y ∷ l) x (suc p) e = at_last l x p (omega (arith, e))

longer : (l : List ℕ) (x : ℕ) → length (l ++ x ∷ []) ≡ suc (length l)
longer [] x = refl
longer (y ∷ l) x = ap suc (longer l x)

take_long : (l : List ℕ) (n : ℕ) → length (take n l) ≤ n
take_long l zero = omega arith
take_long [] (suc n) = omega arith
take_long (x ∷ l) (suc n) = omega (arith, take_long l n)

is_one : (left : List ℕ) (x : ℕ) → 0 < as_number (get_or left x 0 == 1) → get_or left x 0 ≡ 1
is_one left x h = elim (cases_eq (get_or left x 0) 1) [
  | inl same ↦ same
  | inr ne ↦ absurd (omega (arith, h, ap as_number (ne_eqb (get_or left x 0) 1 ne)))
]

abbrev Less : List ℕ → List ℕ → Type 0
Less after left = weight after < weight left

-- the last node of the path
pub last_open : (g : Firm) (left path : List ℕ) (last : ℕ) → AreMarks g left path → 0 < length path → last ≡ get_or path (length path - 1) 0
    → (get_or left last 0 ≡ 1) × IsNode g last
last_open g left path last m h e =
    let listed = times_found last path (length path - 1) 0 (omega (arith, h)) (sym e) in
    (is_one left last (omega (arith, listed, m.on_path last)), m.are_there last listed)

set_marks : (left : List ℕ) (i v x : ℕ) → i < length left → (x ≡ i → ⊥) → get_or (set left i v) x 0 ≡ get_or left x 0
set_marks left i v x h ne = get_or-set_other left i x v 0 ne

-- its ways end
pub last_ends : (g : Firm) (left path after shorter : List ℕ) (last : ℕ) → AreMarks g left path → 0 < length path → last ≡ get_or path (length path - 1) 0
    → ((m : ℕ) → 0 < times m (node_of g.nodes last).operands → get_or left m 0 ≡ 0) → after ≡ set left last 0 → shorter ≡ take (length path - 1) path
    → AreMarks g after shorter × (NoneMore left after × (weight after < weight left))
last_ends g left path after shorter last m h e all set_is take_is =
    subst (λ a. AreMarks g a shorter × (NoneMore left a × (weight a < weight left))) (sym set_is)
    (subst (λ p. AreMarks g (set left last 0) p × (NoneMore left (set left last 0) × (weight (set left last 0) < weight left))) (sym take_is) (marks, (stays, less)))
  where
    n : ℕ
    n = length path - 1

    opened : (get_or left last 0 ≡ 1) × IsNode g last
    opened = last_open g left path last m h e

    within : last < length left
    within = marked_within left last (λ (z : get_or left last 0 ≡ 0). absurd (omega (arith, z, opened.0)))

    ended_now : get_or (set left last 0) last 0 ≡ 0
    ended_now = get_or-set_same left last 0 0 within

    count : (x : ℕ) → times x (take n path) + one x last ≡ times x path
    count x = ap (λ k. times x (take n path) + one x k) e ∙ times-last x path n 0 (omega (arith, h))

    stays : NoneMore left (set left last 0)
    stays x = elim (cases_eq x last) [
      | inl same ↦ omega (arith, ap (λ k. get_or (set left last 0) k 0) same ∙ ended_now)
      | inr ne ↦ omega (arith, set_marks left last 0 x within ne)
    ]

    less : weight (set left last 0) < weight left
    less = omega (arith, weight_set left last 0 within, opened.0)

    marks : AreMarks g (set left last 0) (take n path)
    marks = record {
      on_path = λ x. elim (cases_eq x last) [
        | inl same ↦
            let at : times last path ≡ 1 = m.on_path last ∙ ap (λ k. as_number (k == 1)) opened.0 in
            let none : times last (take n path) ≡ 0 = omega (arith, count last, one_same last, at) in
            ap (λ k. times k (take n path)) same ∙ none ∙ sym (ap (λ k. as_number (get_or (set left last 0) k 0 == 1)) same ∙ ap (λ k. as_number (k == 1)) ended_now)
        | inr ne ↦
            let same_times : times x (take n path) ≡ times x path = omega (arith, count x, one_other x last (λ (s : last ≡ x). ne (sym s))) in
            same_times ∙ m.on_path x ∙ sym (ap (λ k. as_number (k == 1)) (set_marks left last 0 x within ne))
      ];
      are_there = λ x listed. m.are_there x (omega (arith, listed, count x));
      links = λ i lt.
          let short = take_long path n in
          subst (λ a. IsOperand g a (get_or (take n path) (suc i) 0)) (sym (get_take path n i 0 (omega (arith, lt, short))))
          (subst (λ a. IsOperand g (get_or path i 0) a) (sym (get_take path n (suc i) 0 (omega (arith, lt, short)))) (m.links i (omega (arith, lt, short, h))));
      no_phi = λ x marked. elim (cases_eq x last) [
        | inl same ↦ absurd (marked (ap (λ k. get_or (set left last 0) k 0) same ∙ ended_now))
        | inr ne ↦ m.no_phi x (λ z. marked (set_marks left last 0 x within ne ∙ z))
      ];
      ended = λ x z. elim (cases_eq x last) [
        | inl same ↦ subst (Ends g) (sym same) (ends (λ k is. m.ended k (all k (is_operand g last k is))))
        | inr ne ↦ m.ended x (sym (set_marks left last 0 x within ne) ∙ z)
      ];
    }

-- the path goes on
pub goes_on : (g : Firm) (left path after more : List ℕ) (next : ℕ) → AreMarks g left path → IsNode g next → get_or left next 0 ≢ 0 → get_or left next 0 ≢ 1
    → (0 < length path → IsOperand g (get_or path (length path - 1) 0) next) → after ≡ set left next 1 → more ≡ path ++ next ∷ []
    → AreMarks g after more × (NoneMore left after × (weight after < weight left))
goes_on g left path after more next m node marked new link set_is more_is =
    subst (λ a. AreMarks g a more × (NoneMore left a × (weight a < weight left))) (sym set_is)
    (subst (λ p. AreMarks g (set left next 1) p × (NoneMore left (set left next 1) × (weight (set left next 1) < weight left))) (sym more_is) (marks, (stays, less)))
  where
    within : next < length left
    within = marked_within left next marked

    now : get_or (set left next 1) next 0 ≡ 1
    now = get_or-set_same left next 1 0 within

    stays : NoneMore left (set left next 1)
    stays x = elim (cases_eq x next) [
      | inl same ↦ omega (arith, ap (λ k. get_or (set left next 1) k 0) same ∙ now, ap (λ k. get_or left k 0) same, marked)
      | inr ne ↦ omega (arith, set_marks left next 1 x within ne)
    ]

    less : weight (set left next 1) < weight left
    less = omega (arith, weight_set left next 1 within, marked, new)

    marks : AreMarks g (set left next 1) (path ++ next ∷ [])
    marks = record {
      on_path = λ x. elim (cases_eq x next) [
        | inl same ↦
            let none : times next path ≡ 0 = m.on_path next ∙ ap as_number (ne_eqb (get_or left next 0) 1 new) in
            let here : times next (path ++ next ∷ []) ≡ 1 = omega (arith, times_push next path next, none, one_same next) in
            ap (λ k. times k (path ++ next ∷ [])) same ∙ here ∙ sym (ap (λ k. as_number (get_or (set left next 1) k 0 == 1)) same ∙ ap (λ k. as_number (k == 1)) now)
        | inr ne ↦
            let same_times : times x (path ++ next ∷ []) ≡ times x path = omega (arith, times_push x path next, one_other x next (λ (s : next ≡ x). ne (sym s))) in
            same_times ∙ m.on_path x ∙ sym (ap (λ k. as_number (k == 1)) (set_marks left next 1 x within ne))
      ];
      are_there = λ x listed. elim (cases_eq x next) [
        | inl same ↦ subst (IsNode g) (sym same) node
        | inr ne ↦ m.are_there x (omega (arith, listed, times_push x path next, one_other x next (λ (s : next ≡ x). ne (sym s))))
      ];
      links = λ i lt. elim (cases_lt (suc i) (length path)) [
        | inl less_than ↦
            subst (λ a. IsOperand g a (get_or (path ++ next ∷ []) (suc i) 0)) (sym (at_front path next i (omega (arith, less_than))))
            (subst (λ a. IsOperand g (get_or path i 0) a) (sym (at_front path next (suc i) less_than)) (m.links i less_than))
        | inr ge ↦
            let len = longer path next in
            let is_last : i ≡ length path - 1 = omega (arith, ge, lt, len) in
            subst (λ a. IsOperand g a (get_or (path ++ next ∷ []) (suc i) 0)) (sym (at_front path next i (omega (arith, ge, lt, len))))
            (subst (λ a. IsOperand g (get_or path i 0) a) (sym (at_last path next (suc i) (omega (arith, ge, lt, len))))
            (subst (λ k. IsOperand g (get_or path k 0) next) (sym is_last) (link (omega (arith, ge, lt, len)))))
      ];
      no_phi = λ x still. elim (cases_eq x next) [
        | inl same ↦ subst (λ k. is_phi (node_of g.nodes k).op ≡ false) (sym same) (m.no_phi next marked)
        | inr ne ↦ m.no_phi x (λ z. still (set_marks left next 1 x within ne ∙ z))
      ];
      ended = λ x z. elim (cases_eq x next) [
        | inl same ↦ absurd (omega (arith, now, sym (ap (λ k. get_or (set left next 1) k 0) same) ∙ z))
        | inr ne ↦ m.ended x (sym (set_marks left next 1 x within ne) ∙ z)
      ];
    }

-- a node of the path leads to what its last node has as an operand
path_leads : (g : Firm) (left path : List ℕ) (next j i : ℕ) → AreMarks g left path → i + j ≡ length path - 1 → 0 < length path → IsOperand g (get_or path (length path - 1) 0) next
    → Leads g (get_or path i 0) next
path_leads g left path next zero i m e h is = at_once (subst (λ k. IsOperand g (get_or path k 0) next) (end i e) is)
  where
    end : (k : ℕ) → k + 0 ≡ length path - 1 → length path - 1 ≡ k
    end k s = omega (arith, s)
path_leads g left path next (suc j) i m e h is =
    onward (get_or path (suc i) 0) (m.links i (omega (arith, e))) (path_leads g left path next j (suc i) m (omega (arith, e)) h is)

pub cycle_found : (g : Firm) (left path : List ℕ) (next : ℕ) → AreMarks g left path → 0 < length path → IsOperand g (get_or path (length path - 1) 0) next → get_or left next 0 ≡ 1
    → Leads g next next
cycle_found g left path next m h is e =
    let listed : times next path ≡ 1 = m.on_path next ∙ ap (λ k. as_number (k == 1)) e in
    let found = times_at next path (omega (arith, listed)) in
    let rest = length path - 1 - found.0 in
    subst (λ k. Leads g k next) found.1.1 (path_leads g left path next (length path - 1 - found.0) found.0 m (omega (arith, found.1.0)) h is)

-- an operand of the last node
pub link_is : (g : Firm) (left path : List ℕ) (last next : ℕ) → AreMarks g left path → 0 < length path → last ≡ get_or path (length path - 1) 0 → 0 < times next (node_of g.nodes last).operands
    → IsOperand g (get_or path (length path - 1) 0) next
link_is g left path last next m h e listed =
    let opened = last_open g left path last m h e in
    subst (λ k. IsOperand g k next) e (operand_is g last next opened.1 (m.no_phi last (λ (z : get_or left last 0 ≡ 0). absurd (omega (arith, z, opened.0)))) listed)

pub next_there : (g : Firm) (n m : ℕ) → Rule1 g → IsNode g n → 0 < times m (node_of g.nodes n).operands → IsNode g m
next_there g n m rule node listed =
    let found = times_at m (node_of g.nodes n).operands listed in
    subst (IsNode g) found.1.1 (operands_there g n (node_of g.nodes n).operands rule node refl found.0 found.1.0)

pub not_one : (g : Firm) (left : List ℕ) (x : ℕ) → AreMarks g left [] → get_or left x 0 ≢ 1
not_one g left x m e = omega (arith, m.on_path x, ap (λ k. as_number (k == 1)) e)

-- ---- the first marks

abbrev pub FirstMarks : Firm → List ℕ → List ℕ → Type 0
FirstMarks g left nodes = (x : ℕ) → ((get_or left x 0 ≡ 2) × (is_phi (node_of g.nodes x).op ≡ false)) ⊎ ((get_or left x 0 ≡ 0) × (0 < times x nodes → is_phi (node_of g.nodes x).op ≡ true))

pub no_marks : (g : Firm) (left : List ℕ) → left ≡ [] → FirstMarks g left []
no_marks g left e x = inr (ap (λ l. get_or l x 0) e, λ h. absurd (omega (arith, h)))

one_more : (x : ℕ) (nodes : List NodeId) (at : ℕ) → at < length nodes → times x (take (at + 1) (numbers nodes)) ≡ times x (take at (numbers nodes)) + one x (get_or (numbers nodes) at 0)
one_more x nodes at h = ap (λ k. times x (take k (numbers nodes))) (suc_add at) ∙ times_front x (numbers nodes) at 0 (omega (arith, h, numbers_long nodes))
  where
    suc_add : (k : ℕ) → k + 1 ≡ suc k
    suc_add k = omega arith

pub marks_phi : (g : Firm) (nodes : List NodeId) (at : ℕ) (d : NodeId) (left : List ℕ) (op : NodeOp) → at < length nodes → op ≡ (node_of g.nodes (get_or nodes at d).number).op → is_phi op ≡ true
    → FirstMarks g left (take at (numbers nodes)) → FirstMarks g left (take (at + 1) (numbers nodes))
marks_phi g nodes at d left op h is phi m x = elim (m x) [
  | inl set_now ↦ inl set_now
  | inr none ↦ inr (
    none.0,
    λ listed. elim (cases_eq (get_or (numbers nodes) at 0) x) [
      | inl same ↦ subst (λ k. is_phi (node_of g.nodes k).op ≡ true) (sym (number_at nodes at d h) ∙ same) (ap is_phi (sym is) ∙ phi)
      | inr ne ↦ none.1 (omega (arith, listed, one_more x nodes at h, one_other x (get_or (numbers nodes) at 0) ne))
    ],
  )
]

pub marks_more : (g : Firm) (nodes : List NodeId) (at : ℕ) (d : NodeId) (left after : List ℕ) (op : NodeOp) → at < length nodes → op ≡ (node_of g.nodes (get_or nodes at d).number).op → is_phi op ≡ false
    → FirstMarks g left (take at (numbers nodes)) → get_or after (get_or nodes at d).number 0 ≡ 2
    → ((other : ℕ) → other ≢ (get_or nodes at d).number → get_or after other 0 ≡ get_or left other 0) → FirstMarks g after (take (at + 1) (numbers nodes))
marks_more g nodes at d left after op h is phi m this others x = elim (cases_eq x (get_or nodes at d).number) [
  | inl same ↦ inl (ap (λ k. get_or after k 0) same ∙ this, subst (λ k. is_phi (node_of g.nodes k).op ≡ false) (sym same) (ap is_phi (sym is) ∙ phi))
  | inr ne ↦ elim (m x) [
    | inl set_now ↦ inl (others x ne ∙ set_now.0, set_now.1)
    | inr none ↦ inr (
      others x ne ∙ none.0,
      λ listed. none.1 (omega (
        arith,
        listed,
        one_more x nodes at h,
        one_other x (get_or (numbers nodes) at 0) (λ (s : get_or (numbers nodes) at 0 ≡ x). ne (sym s ∙ number_at nodes at d h)),
      )),
    )
  ]
]

pub marks_done : (g : Firm) (nodes : List NodeId) (at : ℕ) (left : List ℕ) → AreNodes g (numbers nodes) → length nodes ≤ at → FirstMarks g left (take at (numbers nodes)) → AreMarks g left []
marks_done g nodes at left a h m = record {
  on_path = λ x. elim (m x) [
    | inl set_now ↦ sym (ap (λ k. as_number (k == 1)) set_now.0)
    | inr none ↦ sym (ap (λ k. as_number (k == 1)) none.0)
  ];
  are_there = λ x listed. absurd (omega (arith, listed));
  links = λ i lt. absurd (omega (arith, lt));
  no_phi = λ x marked. elim (m x) [
    | inl set_now ↦ set_now.1
    | inr none ↦ absurd (marked none.0)
  ];
  ended = λ x z. elim (m x) [
    | inl set_now ↦ absurd (omega (arith, z, set_now.0))
    | inr none ↦ ends (λ k is.
        let read = node_read g x is.node is.is in
        let listed = a.all x read.0 in
        let phi = none.1 (subst (λ l. 0 < times x l) (sym (take_all at (numbers nodes) (omega (arith, h, numbers_long nodes)))) listed) in
        absurd (true≢false (sym phi ∙ ap (λ (y : FirmNode). is_phi y.op) read.1 ∙ is.no_phi)))
  ];
}

-- ---- all nodes

pub all_ended : (g : Firm) (nodes : List NodeId) (at : ℕ) (left : List ℕ) → AreNodes g (numbers nodes) → AreMarks g left [] → length nodes ≤ at
    → ((i : ℕ) → i < at → get_or left (get_or (numbers nodes) i 0) 0 ≡ 0) → Rule3 g
all_ended g nodes at left a m h each n node is leads =
    let read = node_read g n node is in
    let found = times_at n (numbers nodes) (a.all n read.0) in
    no_cycle g n (m.ended n (subst (λ k. get_or left k 0 ≡ 0) found.1.1 (each found.0 (omega (arith, found.1.0, numbers_long nodes, h))))) leads

pub ended_more : (nodes : List NodeId) (at : ℕ) (d : NodeId) (left after : List ℕ) → at < length nodes → ((i : ℕ) → i < at → get_or left (get_or (numbers nodes) i 0) 0 ≡ 0) → NoneMore left after
    → get_or after (get_or nodes at d).number 0 ≡ 0 → (i : ℕ) → i < at + 1 → get_or after (get_or (numbers nodes) i 0) 0 ≡ 0
ended_more nodes at d left after h each stay now =
    each_more (λ i. get_or after (get_or (numbers nodes) i 0) 0 ≡ 0) at (λ i lt. omega (arith, stay (get_or (numbers nodes) i 0), each i lt))
    (ap (λ k. get_or after k 0) (number_at nodes at d h) ∙ now)

pub all_zero : (left list operands : List ℕ) (at : ℕ) → list ≡ operands → length list ≤ at → ((i : ℕ) → i < at → get_or left (get_or list i 0) 0 ≡ 0)
    → (m : ℕ) → 0 < times m operands → get_or left m 0 ≡ 0
all_zero left list operands at e h each m listed =
    let found = times_at m list (subst (λ l. 0 < times m l) (sym e) listed) in
    subst (λ k. get_or left k 0 ≡ 0) found.1.1 (each found.0 (omega (arith, found.1.0, h)))

pub now_ended : (g : Firm) (left path : List ℕ) (x : ℕ) → AreMarks g left path → path ≡ [] → get_or left x 0 ≤ 1 → get_or left x 0 ≡ 0
now_ended g left path x m e le =
    elim (cases_eq (get_or left x 0) 1) [
      | inl same ↦ absurd (omega (arith, ap (times x) e, m.on_path x, ap (λ k. as_number (k == 1)) same))
      | inr ne ↦ omega (arith, le, ne)
    ]

pub no_path : (path : List ℕ) → length path ≤ 0 → path ≡ []
no_path [] h = refl
no_path (x ∷ path) h = absurd (omega (arith, h))

pub begins_path : (g : Firm) (left after path : List ℕ) (start : ℕ) → AreMarks g left [] → IsNode g start → get_or left start 0 ≢ 0 → after ≡ set left start 1 → path ≡ start ∷ []
    → AreMarks g after path × (NoneMore left after × (get_or after start 0 ≤ 1))
begins_path g left after path start m node marked set_is path_is =
    let step = goes_on g left [] after path start m node marked (not_one g left start m) (λ pos. absurd (omega (arith, pos))) set_is path_is in
    (step.0, (step.1.0, omega (arith, ap (λ l. get_or l start 0) set_is, get_or-set_same left start 1 0 (marked_within left start marked))))

-- ---- what is read

read_is : (l : List ℕ) (i read : ℕ) → i < length l → read ≡ get_or l i read → read ≡ get_or l i 0
read_is [] i read h e = absurd (omega (arith, h))
read_is (x ∷ l) zero read h e = e
read_is (x ∷ l) (suc i) read h e = read_is l i read (omega (arith, h)) e

pub last_is : (path : List ℕ) (read : ℕ) → 0 < length path → read ≡ get_or path (length path - 1) read → read ≡ get_or path (length path - 1) 0
last_is path read h e = read_is path (length path - 1) read (omega (arith, h)) e

pub mark_read : (left : List ℕ) (i read : ℕ) → get_or left i 0 ≢ 0 → read ≡ get_or left i read → read ≡ get_or left i 0
mark_read left i read ne e = read_is left i read (marked_within left i ne) e

-- ---- one step

abbrev pub AllEnded : Firm → List ℕ → ℕ → Type 0
AllEnded g left n = (m : ℕ) → 0 < times m (node_of g.nodes n).operands → get_or left m 0 ≡ 0

pub back : (g : Firm) (left path seen shorter : List ℕ) (last : ℕ) → AreMarks g left path → 0 < length path → last ≡ get_or path (length path - 1) last
    → seen ≡ left → AllEnded g seen last → shorter ≡ take (length path - 1) path → AreMarks g (set left last 0) shorter × (NoneMore left (set left last 0) × (weight (set left last 0) < weight left))
back g left path seen shorter last m h e same all is =
    last_ends g left path (set left last 0) shorter last m h (last_is path last h e) (subst (λ l. AllEnded g l last) same all) refl is

pub forth : (g : Firm) (left path seen more : List ℕ) (last next read : ℕ) → Rule1 g → AreMarks g left path → 0 < length path → last ≡ get_or path (length path - 1) last
    → seen ≡ left → 0 < times next (node_of g.nodes last).operands → get_or seen next 0 ≢ 0 → read ≡ get_or left next read → read ≢ 1 → more ≡ path ++ next ∷ []
    → AreMarks g (set left next 1) more × (NoneMore left (set left next 1) × (weight (set left next 1) < weight left))
forth g left path seen more last next read rule m h e same listed marked r new is =
    let at = last_is path last h e in
    let here : get_or left next 0 ≢ 0 = subst (λ l. get_or l next 0 ≢ 0) same marked in
    goes_on g left path (set left next 1) more next m (next_there g last next rule (last_open g left path last m h at).1 listed) here
    (λ (o : get_or left next 0 ≡ 1). new (mark_read left next read here r ∙ o)) (λ pos. link_is g left path last next m h at listed) refl is

pub cycle_closed : (g : Firm) (left path seen : List ℕ) (last next read : ℕ) → AreMarks g left path → 0 < length path → last ≡ get_or path (length path - 1) last
    → seen ≡ left → 0 < times next (node_of g.nodes last).operands → get_or seen next 0 ≢ 0 → read ≡ get_or left next read → read ≡ 1 → Leads g next next
cycle_closed g left path seen last next read m h e same listed marked r one_left =
    let here : get_or left next 0 ≢ 0 = subst (λ l. get_or l next 0 ≢ 0) same marked in
    cycle_found g left path next m h (link_is g left path last next m h (last_is path last h e) listed) (sym (mark_read left next read here r) ∙ one_left)

pub last_there : (g : Firm) (left path : List ℕ) (last : ℕ) → AreMarks g left path → 0 < length path → last ≡ get_or path (length path - 1) last → IsNode g last
last_there g left path last m h e = (last_open g left path last m h (last_is path last h e)).1

pub last_within : (g : Firm) (left path : List ℕ) (last : ℕ) → AreMarks g left path → 0 < length path → last ≡ get_or path (length path - 1) last → last < length left
last_within g left path last m h e =
    let is_opened = last_open g left path last m h (last_is path last h e) in
    marked_within left last (λ (z : get_or left last 0 ≡ 0). absurd (omega (arith, z, is_opened.0)))

pub read_last : (path : List ℕ) (k read : ℕ) → read ≡ get_or path (k - 1) read → k ≡ length path → read ≡ get_or path (length path - 1) read
read_last path k read e same = e ∙ ap (λ i. get_or path (i - 1) read) same

pub popped : (path shorter : List ℕ) (k : ℕ) → shorter ≡ take (k - 1) path → k ≡ length path → shorter ≡ take (length path - 1) path
popped path shorter k e same = e ∙ ap (λ i. take (i - 1) path) same
