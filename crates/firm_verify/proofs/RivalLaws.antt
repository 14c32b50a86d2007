-- Nodes of a sort, each the owner of its key.
use Rattle.std.proofs.Common.{◌≡◌, ◌≢◌, ℕ, suc, ◌+◌, ◌<◌, ◌≤◌, ◌==◌, ◌&&◌, Bool, true, false, true≢false, List, [], ◌∷◌, length, take, get_or, refl, sym, ap, ◌∙◌, subst, arith, Option, Some, None, inl, inr, ◌⊎◌, MatchBool}
use Rattle.std.proofs.lemmas.Bool.{cases_eq, eq-eqb, ne_eqb}
use Rattle.std.proofs.lemmas.List.{take_all}
use Rattle.firm_uses.specs.Counts.{times}
use Rattle.firm_uses.proofs.CountLaws.{one, one_other, times_front}
use Rattle.firm_rules.specs.declared.node.NodeId.{NodeId}
use Rattle.firm_rules.specs.declared.node.NodeOp.{NodeOp}
use Rattle.firm_rules.specs.declared.node.NodeOp.TheVariants.{ProjM}
use Rattle.firm_rules.specs.Graphs.{Firm, acts, operands_of}
use Rattle.firm_rules.specs.Lookups.{node_at}
use Rattle.firm_rules.specs.Rules.{OperandsFit, giver, giver_in, giver_by, acts_in}
use Rattle.firm_verify.specs.Broken.{Rule1}
use Rattle.firm_verify.proofs.GraphLaws.{node_seen}
use Rattle.firm_verify.proofs.DefinedLaws.{operands_there}
use Rattle.firm_verify.proofs.ChainLaws.{some_operand}
use Rattle.firm_tables.specs.Nodes.{numbers, node_of}
use Rattle.firm_tables.proofs.MemberLaws.{number_at, numbers_long}
use Rattle.firm_nodes.specs.Calls.{IsNode}
use Rattle.firm_verify.specs.declared.memory.Sort.{Sort}
use Rattle.firm_verify.specs.Tables.{AreNodes}
use Rattle.firm_verify.specs.Memory.{is_memory_of, key, HasKey, AreOwners, IsRival}

-- of some nodes, each is the owner of its key, and each owner has the key
pub record OwnersOf (g : Firm) (sort : Sort) (nodes : List ℕ) (owners : List (Option ℕ)) : Type 0 where
  pub own : (n k : ℕ) → 0 < times n nodes → HasKey g sort n k → get_or owners k None ≡ Some n
  pub have : (n k : ℕ) → get_or owners k None ≡ Some n → HasKey g sort n k

pub no_owners : (g : Firm) (sort : Sort) (owners : List (Option ℕ)) → owners ≡ [] → OwnersOf g sort [] owners
no_owners g sort owners e = record {
  own = λ n k h. absurd (omega (arith, h));
  have = λ n k h. absurd (none_some n (sym (ap (λ l. get_or l k None) e) ∙ h));
}
  where
    none_some : (n : ℕ) → None ≡ Some n → ⊥
    none_some n e = cc

pub front : (x : ℕ) (nodes : List NodeId) (at : ℕ) (d : NodeId) → at < length nodes → 0 < times x (take (at + 1) (numbers nodes)) → (x ≡ (get_or nodes at d).number) ⊎ (0 < times x (take at (numbers nodes)))
front x nodes at d h some = elim (cases_eq (get_or (numbers nodes) at 0) x) [
  | inl same ↦ inl (sym same ∙ number_at nodes at d h)
  | inr ne ↦ inr (omega (arith, some, more, one_other x (get_or (numbers nodes) at 0) ne))
] where
  suc_add : (k : ℕ) → k + 1 ≡ suc k
  suc_add k = omega arith

  more : times x (take (at + 1) (numbers nodes)) ≡ times x (take at (numbers nodes)) + one x (get_or (numbers nodes) at 0)
  more = ap (λ k. times x (take k (numbers nodes))) (suc_add at) ∙ times_front x (numbers nodes) at 0 (omega (arith, h, numbers_long nodes))

pub owners_pass : (g : Firm) (sort : Sort) (nodes : List NodeId) (at : ℕ) (d : NodeId) (owners : List (Option ℕ)) → at < length nodes → key g sort (node_of g.nodes (get_or nodes at d).number) ≡ None
    → OwnersOf g sort (take at (numbers nodes)) owners → OwnersOf g sort (take (at + 1) (numbers nodes)) owners
owners_pass g sort nodes at d owners h none o = record {
  own = λ n k listed has. elim (front n nodes at d h listed) [
    | inl same ↦ absurd (none_some k (sym none ∙ ap (λ x. key g sort (node_of g.nodes x)) (sym same) ∙ has.1))
    | inr before ↦ o.own n k before has
  ];
  have = o.have;
}
  where
    none_some : (n : ℕ) → None ≡ Some n → ⊥
    none_some n e = cc

pub owners_more : (g : Firm) (sort : Sort) (nodes : List NodeId) (at : ℕ) (d : NodeId) (owners after : List (Option ℕ)) (k : ℕ) → at < length nodes → HasKey g sort (get_or nodes at d).number k
    → ((other : ℕ) → get_or owners k None ≡ Some other → other ≡ (get_or nodes at d).number) → get_or after k None ≡ Some (get_or nodes at d).number
    → ((other : ℕ) → other ≢ k → get_or after other None ≡ get_or owners other None) → OwnersOf g sort (take at (numbers nodes)) owners → OwnersOf g sort (take (at + 1) (numbers nodes)) after
owners_more g sort nodes at d owners after k h has same this others o = record {
  own = λ n j listed has_n. elim (cases_eq j k) [
    | inl key_same ↦ ap (λ i. get_or after i None) key_same ∙ this ∙ ap Some (elim (front n nodes at d h listed) [
      | inl now ↦ sym now
      | inr before ↦ sym (same n (ap (λ i. get_or owners i None) (sym key_same) ∙ o.own n j before has_n))
    ])
    | inr ne ↦ others j ne ∙ elim (front n nodes at d h listed) [
      | inl now ↦ absurd (ne (some_same j k (sym has_n.1 ∙ ap (λ x. key g sort (node_of g.nodes x)) now ∙ has.1)))
      | inr before ↦ o.own n j before has_n
    ]
  ];
  have = λ n j e. elim (cases_eq j k) [
    | inl key_same ↦
        let is : n ≡ (get_or nodes at d).number = some_same n (get_or nodes at d).number (sym e ∙ ap (λ i. get_or after i None) key_same ∙ this) in
        subst (λ x. HasKey g sort x j) (sym is) (subst (HasKey g sort (get_or nodes at d).number) (sym key_same) has)
    | inr ne ↦ o.have n j (sym (others j ne) ∙ e)
  ];
}
  where
    some_same : (n m : ℕ) → Some n ≡ Some m → n ≡ m
    some_same n m e = cc

pub owners_all : (g : Firm) (sort : Sort) (nodes : List NodeId) (at : ℕ) (owners : List (Option ℕ)) → AreNodes g (numbers nodes) → length nodes ≤ at
    → OwnersOf g sort (take at (numbers nodes)) owners → AreOwners g sort owners
owners_all g sort nodes at owners a h o = record {
  own = λ x k has. o.own x k (subst (λ l. 0 < times x l) (sym (take_all at (numbers nodes) (omega (arith, h, numbers_long nodes)))) (a.all x has.0)) has;
  have = o.have;
}

pub rival_found : (g : Firm) (sort : Sort) (nodes : List ℕ) (owners : List (Option ℕ)) (n k other : ℕ) → OwnersOf g sort nodes owners → HasKey g sort n k → get_or owners k None ≡ Some other → other ≢ n
    → IsRival g sort n
rival_found g sort nodes owners n k other o has e ne = record { other = other; differs = ne; key_is = k; own = has; others = o.have other k e }

-- ---- what is taken

pub acts_seen : (g : Firm) (n b own : ℕ) (op : NodeOp) (t : Bool) → IsNode g n → op ≡ (node_of g.nodes n).op → own ≡ (node_of g.nodes n).block → t ≡ acts op → own ≡ b → t ≡ acts_in b (node_at g n)
acts_seen g n b own op t node eo eb et same =
    et ∙ ap acts eo ∙ sym (ap (λ x. x && acts (node_of g.nodes n).op) (eq-eqb (node_of g.nodes n).block b (sym eb ∙ same))) ∙ ap (acts_in b) (sym (node_seen g n node))

pub acts_elsewhere : (g : Firm) (n b own : ℕ) → IsNode g n → own ≡ (node_of g.nodes n).block → own ≢ b → (own == b) ≡ acts_in b (node_at g n)
acts_elsewhere g n b own node eb ne =
    ne_eqb own b ne ∙ sym (ap (λ x. x && acts (node_of g.nodes n).op) (ne_eqb (node_of g.nodes n).block b (λ (e : (node_of g.nodes n).block ≡ b). ne (eb ∙ e)))) ∙ ap (acts_in b) (sym (node_seen g n node))

pub memory_there : (g : Firm) (n : ℕ) (operands : List ℕ) → Rule1 g → IsNode g n → acts (node_of g.nodes n).op ≡ true → operands ≡ (node_of g.nodes n).operands
    → (0 < length operands) × IsNode g (get_or operands 0 0)
memory_there g n operands rule node a e =
    let long : 0 < length operands = subst (λ l. 0 < length l) (sym e)
    (some_operand g (operands_of (node_of g.nodes n).op) (node_of g.nodes n).operands a (rule.0 n (node_of g.nodes n) (node_seen g n node))) in
    (long, operands_there g n operands rule node e 0 long)

is_part : (o : NodeOp) → is_memory_of o ≡ true → o ≡ ProjM
is_part ProjM e = refl
is_part o e = absurd (true≢false (sym e))

one_operand : (g : Firm) (l : List ℕ) → OperandsFit g (operands_of ProjM) l → 0 < length l
one_operand g [] fits = absurd (cc)
one_operand g (x ∷ l) fits = omega arith

pub tuple_there : (g : Firm) (m : ℕ) (op : NodeOp) (operands : List ℕ) → Rule1 g → IsNode g m → op ≡ (node_of g.nodes m).op → is_memory_of op ≡ true → operands ≡ (node_of g.nodes m).operands
    → (0 < length operands) × IsNode g (get_or operands 0 0)
tuple_there g m op operands rule node eo part e =
    let is : (node_of g.nodes m).op ≡ ProjM = sym eo ∙ is_part op part in
    let long : 0 < length operands = subst (λ l. 0 < length l) (sym e)
    (one_operand g (node_of g.nodes m).operands (subst (λ o. OperandsFit g (operands_of o) (node_of g.nodes m).operands) is (rule.0 m (node_of g.nodes m) (node_seen g m node)))) in
    (long, operands_there g m operands rule node e 0 long)

own_giver : (o : NodeOp) (l : List ℕ) (m : ℕ) → is_memory_of o ≡ false → giver_by o l m ≡ m
own_giver ProjM l m e = absurd (true≢false e)
own_giver o l m e = refl

pub giver_self : (g : Firm) (m : ℕ) (op : NodeOp) → IsNode g m → op ≡ (node_of g.nodes m).op → is_memory_of op ≡ false → m ≡ giver g m
giver_self g m op node eo part =
    sym (own_giver (node_of g.nodes m).op (node_of g.nodes m).operands m (ap is_memory_of (sym eo) ∙ part)) ∙ sym (ap (λ o. giver_in o m) (node_seen g m node))

tuple_giver : (l : List ℕ) (m : ℕ) → 0 < length l → giver_by ProjM l m ≡ get_or l 0 0
tuple_giver [] m h = absurd (omega (arith, h))
tuple_giver (x ∷ l) m h = refl

pub giver_tuple : (g : Firm) (m : ℕ) (op : NodeOp) (list : List ℕ) → IsNode g m → op ≡ (node_of g.nodes m).op → is_memory_of op ≡ true → list ≡ (node_of g.nodes m).operands → 0 < length list
    → get_or list 0 0 ≡ giver g m
giver_tuple g m op list node eo part el long =
    sym (tuple_giver list m long) ∙ ap (λ l. giver_by ProjM l m) el ∙ ap (λ o. giver_by o (node_of g.nodes m).operands m) (sym (sym eo ∙ is_part op part))
    ∙ sym (ap (λ o. giver_in o m) (node_seen g m node))

-- ---- by the answer of a test

abbrev pub Other : List (Option ℕ) → ℕ → ℕ → Type 0
Other owners k own = (other : ℕ) × ((get_or owners k None ≡ Some other) × (other ≢ own))

abbrev pub NoOther : List (Option ℕ) → ℕ → ℕ → Type 0
NoOther owners k own = (other : ℕ) → get_or owners k None ≡ Some other → other ≡ own

pub rival_by : (g : Firm) (sort : Sort) (nodes : List NodeId) (at n k : ℕ) (owners seen : List (Option ℕ)) (answer : Bool) → OwnersOf g sort (take at (numbers nodes)) owners → IsNode g n
    → key g sort (node_of g.nodes n) ≡ Some k → seen ≡ owners → answer ≡ true → MatchBool answer (Other seen k n) (NoOther seen k n) → IsRival g sort n
rival_by g sort nodes at n k owners seen true o node has same e m =
    rival_found g sort (take at (numbers nodes)) owners n k m.0 o (node, has) (ap (λ l. get_or l k None) (sym same) ∙ m.1.0) m.1.1
rival_by g sort nodes at n k owners seen false o node has same e m = absurd (true≢false (sym e))

pub same_by : (n k : ℕ) (owners seen : List (Option ℕ)) (answer : Bool) → seen ≡ owners → answer ≡ false → MatchBool answer (Other seen k n) (NoOther seen k n) → NoOther owners k n
same_by n k owners seen true same e m = absurd (true≢false e)
same_by n k owners seen false same e m = λ other is. m other (ap (λ l. get_or l k None) same ∙ is)
