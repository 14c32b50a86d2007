-- The counts of automatic objects in a table, and their numbers.
use Rattle.std.proofs.Common.{◌≡◌, ◌⊎◌, inl, inr, ℕ, ◌+◌, ◌-◌, ◌<◌, ◌≤◌, Bool, true, false, ◌&&◌, cond, List, [], ◌∷◌, ◌++◌, length, Option, Some, None, refl, sym, ap, ap₂, ◌∙◌, subst, unwrap_or, arith, true≢false, get_or}
use Rattle.std.specs.Prelude.{filter, find, nat_le, nat_lt, option_map, position, ◌==◌}
use Rattle.std.proofs.lemmas.List.{get_or_append_left, get_or_push, length_push}
use Rattle.c_grammar.specs.Derivation.{IsTreeOf}
use Rattle.c_syntax.specs.declared.syntax.SynNode.{SynNode}
use Rattle.c_typing.specs.Places.{Node, holds, node_at, nowhere}
use Rattle.c_typing.specs.Names.{Entity, automatic, Name, Places, automatics_in, function_around, is_automatic, local_number, name_of, parameters_of}
use Rattle.c_typing.proofs.MadeNodes.{at_in}
use Rattle.c_typing.proofs.MadeAround.{and_true, both_true, equal_so, find_is}
use Rattle.c_typing.proofs.ProgressLocals.{local_there}
use Rattle.c_nodes.specs.Parents.{AreNumbered, nodes_in, tree_in}
use Rattle.c_nodes.specs.Declarators.{Points}
use Rattle.c_nodes.proofs.ReadLaws.{tree_is}
use Rattle.c_names.specs.declared.names.DeclaredName.{DeclaredName}
use Rattle.c_names.specs.Names.{AreNames, rule_name}
use Rattle.c_names.specs.Denoted.{Among, IsDerived, IsOfTokens, places_in}
use Rattle.c_names.proofs.DeclaredLaws.{from_in, to_in}
use Rattle.c_names.proofs.UseLaws.{ascend}
use Rattle.c_locals.specs.Locals.{AreCounts, AreOwners, automatics_before, declares_automatic}
use Rattle.c_locals.proofs.CountLaws.{none_before, one_more, parts, place_of, split, tells}

pub derived_in : (table : List SynNode) → IsOfTokens table → IsDerived table
derived_in table (tokens, t, derived, is) = record { tokens = tokens; derived = subst (IsTreeOf tokens) (sym (ap tree_in is ∙ tree_is t)) derived }

abbrev is_auto : Name → Bool
is_auto e = is_automatic e.entity

-- ---- the counts so far

pub record AreSoFar (table : List SynNode) (n : ℕ) (counts : List ℕ) (count : ℕ) : Type 0 where
  pub long : length counts ≡ n + 1
  pub are : (k : ℕ) → k ≤ n → get_or counts k 0 ≡ length (automatics_before (places_in table) k)
  pub few : (k : ℕ) → k ≤ n → get_or counts k 0 ≤ k
  pub last : count ≡ length (automatics_before (places_in table) n)
  pub low : count ≤ n

pub one_so_far : (table : List SynNode) (counts : List ℕ) → counts ≡ 0 ∷ [] → AreSoFar table 0 counts 0
one_so_far table counts is =
    let none = none_before is_auto (places_in table).names in
    record {
      long = ap length is;
      are = λ k low. let same : k ≡ 0 = omega (arith, low) in ap₂ (λ xs j. get_or xs j 0) is same ∙ (sym none ∙ ap (λ j. length (automatics_before (places_in table) j)) (sym same));
      few = λ k low. let same : k ≡ 0 = omega (arith, low) in let first : get_or counts k 0 ≡ 0 = ap₂ (λ xs j. get_or xs j 0) is same in omega (arith, first);
      last = sym none;
      low = omega arith;
    }

module _ (table : List SynNode) (d : IsDerived table) (n : ℕ) (within : n < length table) where
  told : (o : Option Name) (p : Option DeclaredName) → name_of (places_in table) n ≡ o → o ≡ option_map (rule_name (nodes_in table) n) p
      → length (automatics_before (places_in table) (n + 1)) ≡ length (automatics_before (places_in table) n) + cond (declares_automatic p) 1 0
  told None None e f = one_more is_auto n (places_in table).names (ascend table d) ∙ ap (λ o. length (automatics_before (places_in table) n) + cond (tells is_auto o) 1 0) e
  told (Some x) None e f = absurd (cc f)
  told None (Some y) e f = absurd (cc f)
  told (Some x) (Some y) e f =
      one_more is_auto n (places_in table).names (ascend table d)
      ∙ (ap (λ o. length (automatics_before (places_in table) n) + cond (tells is_auto o) 1 0) e
      ∙ ap (λ (a : Name). length (automatics_before (places_in table) n) + cond (is_auto a) 1 0) (some_same f))
    where
      some_same : {a b : Name} → Some a ≡ Some b → a ≡ b
      some_same h = cc h

  pub more_so_far : (names : List (Option DeclaredName)) → AreNames table names → (counts : List ℕ) (count next : ℕ)
      → next ≡ count + cond (declares_automatic (get_or names n None)) 1 0 → AreSoFar table n counts count → AreSoFar table (n + 1) (counts ++ next ∷ []) next
  more_so_far names a counts count next is s =
      let push = length_push counts next in
      let l = s.long in
      let few = s.low in
      let one = at_most (declares_automatic (get_or names n None)) in
      record {
        long = omega (arith, push, l);
        are = λ k low. which k low (less_or k n);
        few = λ k low. which_few k low (less_or k n) (omega (arith, is, one, few));
        last = now;
        low = omega (arith, is, one, few);
      }
    where
      at_most : (b : Bool) → cond b 1 0 ≤ 1
      at_most true = omega arith
      at_most false = omega arith

      now : next ≡ length (automatics_before (places_in table) (n + 1))
      now = is ∙ (ap (λ c. c + cond (declares_automatic (get_or names n None)) 1 0) s.last ∙ sym (told (name_of (places_in table) n) (get_or names n None) refl (a.are n within)))

      less_or : (k m : ℕ) → (k ≤ m) ⊎ (m < k)
      less_or k m = by (nat_le k m) refl
        where
          by : (b : Bool) → nat_le k m ≡ b → (k ≤ m) ⊎ (m < k)
          by true e = inl (grind arith)
          by false e = inr (grind arith)

      which : (k : ℕ) → k ≤ n + 1 → (k ≤ n) ⊎ (n < k) → get_or (counts ++ next ∷ []) k 0 ≡ length (automatics_before (places_in table) k)
      which k low (inl old) = let l = s.long in get_or_append_left counts (next ∷ []) 0 k (omega (arith, old, l)) ∙ s.are k old
      which k low (inr new) =
          let same : k ≡ n + 1 = omega (arith, low, new) in
          get_or_push counts next 0 k (s.long ∙ sym same) ∙ (now ∙ ap (λ j. length (automatics_before (places_in table) j)) (sym same))

      which_few : (k : ℕ) → k ≤ n + 1 → (k ≤ n) ⊎ (n < k) → next ≤ n + 1 → get_or (counts ++ next ∷ []) k 0 ≤ k
      which_few k low (inl old) most = let l = s.long in let same = get_or_append_left counts (next ∷ []) 0 k (omega (arith, old, l)) in let few = s.few k old in omega (arith, same, few)
      which_few k low (inr new) most =
          let same : k ≡ n + 1 = omega (arith, low, new) in
          let is_last = get_or_push counts next 0 k (s.long ∙ sym same) in
          omega (arith, same, is_last, most)

pub all_so_far : (table : List SynNode) (n : ℕ) (counts : List ℕ) (count : ℕ) → n ≡ length table → AreNumbered (nodes_in table) → length (nodes_in table) ≡ length table → AreSoFar table n counts count → AreCounts table counts
all_so_far table n counts count same numbered nodes s = record { long = s.long ∙ ap (λ k. k + 1) same; numbered = numbered; nodes = nodes; are = λ k low. s.are k (omega (arith, low, same)); few = λ k low. s.few k (omega (arith, low, same)) }

-- ---- what one function has

module _ (table : List SynNode) (counts : List ℕ) (c : AreCounts table counts) where
  -- of a node, those in its subtree
  pub inside : (n : ℕ) → n < length table → (node_at (nodes_in table) n).first ≤ n
      → get_or counts (n + 1) 0 ≡ get_or counts (node_at (nodes_in table) n).first 0 + length (automatics_in (places_in table) (node_at (nodes_in table) n))
  inside n within low =
      let nodes = c.nodes in
      let id = c.numbered n (omega (arith, within, nodes)) in
      let first = (node_at (nodes_in table) n).first in
      c.are (n + 1) (omega (arith, within))
      ∙ (parts is_auto first n (places_in table).names (omega (arith, low))
      ∙ ap₂ (λ a b. a + b) (sym (c.are first (omega (arith, low, within)))) (ap (λ i. length (filter (λ (e : Name). is_automatic e.entity && (nat_le first e.node && nat_le e.node i)) (places_in table).names)) (sym id)))

-- ---- the number of an automatic object

-- the function that it stands in, with those before it there
pub record IsPlaced (table : List SynNode) (owner : ℕ) (e : Name) : Type 0 where
  pub there : owner < length table
  pub low : (node_at (nodes_in table) owner).first ≤ e.node
  pub high : e.node ≤ (node_at (nodes_in table) owner).id
  pub number : local_number (places_in table) e ≡ length (parameters_of (places_in table) (node_at (nodes_in table) owner)) + length (filter (λ (a : Name). (is_automatic a.entity && holds (node_at (nodes_in table) owner) a.node) && nat_lt a.node e.node) (places_in table).names)

is_the : (x : Entity) → is_automatic x ≡ true → x ≡ automatic
is_the automatic e = refl
is_the _ e = absurd (true≢false (sym e))

low_so : (a b : ℕ) → nat_le a b ≡ true → a ≤ b
low_so a b e = grind arith

module _ (table : List SynNode) (d : IsDerived table) (owners : List ℕ) (o : AreOwners table owners) where
  number_is : (p : Places) (e : Name) → e.entity ≡ automatic → local_number p e ≡ length (parameters_of p (function_around p e.node)) + unwrap_or (position (λ (a : Name). a.node == e.node) (automatics_in p (function_around p e.node))) 0
  number_is p e h = rw h refl

  owner_of : (e : Name) → Among e (places_in table).names → is_automatic e.entity ≡ true → (f : Node) × (find (λ f. holds f e.node) (places_in table).functions ≡ Some f)
  unfolding places_in
  owner_of e i auto =
      let at = at_in e (places_in table).names (to_in e (places_in table).names i) in
      let l = local_there d.tokens (tree_in table) at.0 e d.derived at.1 auto in
      (l.owner, l.around)

  pub placed : (e : Name) (n : ℕ) → e.node ≡ n → n < length table → Among e (places_in table).names → is_automatic e.entity ≡ true → IsPlaced table (get_or owners n 0) e
  placed e n at within i auto =
      let w = owner_of e i auto in
      let f : Node = w.0 in
      let p : Points (nodes_in table) (get_or owners n 0) (Some f) = subst (Points (nodes_in table) (get_or owners n 0)) w.1 (subst (λ k. Points (nodes_in table) (get_or owners n 0) (find (λ f. holds f k) (places_in table).functions)) (sym at) (o.points n within)) in
      let h = (find_is (λ f. holds f e.node) (places_in table).functions f w.1).1 in
      let here : holds (node_at (nodes_in table) (get_or owners n 0)) e.node ≡ true = ap (λ g. holds g e.node) p.1 ∙ h in
      let b = both_true (nat_le (node_at (nodes_in table) (get_or owners n 0)).first e.node) (nat_le e.node (node_at (nodes_in table) (get_or owners n 0)).id) here in
      let around : function_around (places_in table) e.node ≡ node_at (nodes_in table) (get_or owners n 0) = ap (λ q. unwrap_or q nowhere) w.1 ∙ sym p.1 in
      let there = p.0 in
      let long = o.nodes in
      record {
        there = omega (arith, there, long);
        low = low_so (node_at (nodes_in table) (get_or owners n 0)).first e.node b.0;
        high = low_so e.node (node_at (nodes_in table) (get_or owners n 0)).id b.1;
        number = number_is (places_in table) e (is_the e.entity auto)
            ∙ (ap (λ g. length (parameters_of (places_in table) g) + unwrap_or (position (λ (a : Name). a.node == e.node) (automatics_in (places_in table) g)) 0) around
            ∙ ap (λ q. length (parameters_of (places_in table) (node_at (nodes_in table) (get_or owners n 0))) + unwrap_or q 0)
            (place_of (λ (a : Name). is_automatic a.entity && holds (node_at (nodes_in table) (get_or owners n 0)) a.node) e (places_in table).names (ascend table d) i (and_true (is_automatic e.entity) (holds (node_at (nodes_in table) (get_or owners n 0)) e.node) auto here)));
      }

  -- by counts
  pub numbered_by : (counts : List ℕ) → AreCounts table counts → (e : Name) (n : ℕ) → e.node ≡ n → n < length table → Among e (places_in table).names → is_automatic e.entity ≡ true
      → (get_or counts (node_at (nodes_in table) (get_or owners n 0)).first 0 ≤ get_or counts n 0)
      × (local_number (places_in table) e ≡ length (parameters_of (places_in table) (node_at (nodes_in table) (get_or owners n 0))) + (get_or counts n 0 - get_or counts (node_at (nodes_in table) (get_or owners n 0)).first 0))
  numbered_by counts c e n at within i auto =
      let p = placed e n at within i auto in
      let f : Node = node_at (nodes_in table) (get_or owners n 0) in
      let low = p.low in
      let whole = split is_auto f.first f.id e.node (places_in table).names low p.high in
      let here = c.are n (omega (arith, within)) ∙ ap (λ k. length (automatics_before (places_in table) k)) (sym at) in
      let first = c.are f.first (omega (arith, low, at, within)) in
      let number = p.number in
      (omega (arith, whole, here, first), omega (arith, whole, here, first, number))

-- of a name by its node
pub named_by : (table : List SynNode) (d : IsDerived table) (n : ℕ) (e : Name) → name_of (places_in table) n ≡ Some e → Among e (places_in table).names × (e.node ≡ n)
named_by table d n e is =
    let f = find_is (λ (a : Name). a.node == n) (places_in table).names e is in
    (from_in e (places_in table).names f.0, equal_so e.node n f.1)

pub some_name : {a b : Name} → Some a ≡ Some b → a ≡ b
some_name h = cc h
