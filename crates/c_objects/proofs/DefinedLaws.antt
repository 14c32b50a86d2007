-- Which objects are defined, from node to node.
use Rattle.std.proofs.Common.{◌≡◌, ◌≢◌, ◌⊎◌, inl, inr, ℕ, zero, suc, ◌+◌, ◌<◌, ◌≤◌, Bool, true, false, ◌&&◌, ◌||◌, cond, List, [], ◌∷◌, length, replicate, Option, Some, None, refl, sym, ap, ◌∙◌, subst, arith, true≢false, get_or}
use Rattle.std.specs.Prelude.{slice_set, find, nat_lt, nat_eq, not, option_map, codes, ◌==◌}
use Rattle.std.specs.Option.{is_some}
use Rattle.std.proofs.lemmas.List.{get_or-set_same, get_or-set_other, length-replicate, length-set}
use Rattle.std.proofs.lemmas.Bool.Decides.{eqb_tells}
use Rattle.c_syntax.specs.declared.syntax.SynNode.{SynNode}
use Rattle.c_typing.specs.Places.{has_kid, node_at, says, specs_of}
use Rattle.c_typing.specs.Names.{Name, Places, defines_object, earlier, entity_by, is_again, is_defined_object, is_static, name_of}
use Rattle.c_typing.proofs.MadeNames.{Named, Declares, by_declarator, by_enumerator}
use Rattle.c_typing.proofs.MadeFunctionNames.{names_here}
use Rattle.c_typing.proofs.MadeAround.{find_is}
use Rattle.c_typing.proofs.MadeObjects.{again_back, again_through}
use Rattle.c_nodes.specs.Parents.{nodes_in, tree_in}
use Rattle.c_nodes.proofs.ScopeLaws.{there_by_kind}
use Rattle.c_names.specs.declared.names.DeclaredName.{DeclaredName}
use Rattle.c_names.specs.Denoted.{Among, IsDerived, places_in}
use Rattle.c_names.specs.Names.{AreNames, entity_of, rule_name}
use Rattle.c_names.proofs.DeclaredLaws.{from_in, to_in}
use Rattle.c_names.proofs.UseLaws.{ascend}
use Rattle.c_locals.proofs.AnyLaws.{found_all, found_more, none_found, tells}
use Rattle.c_objects.specs.Firsts.{AreFirsts, HasFirst, IsFirst}
use Rattle.c_objects.specs.Objects.{AreDefining, AreDefiningBefore, defined_at, defines_at}
use Rattle.c_objects.proofs.FirstLaws.{Names, node_below, one_first, one_node}

-- ---- lists

pub find_same : {A : Type 0} (t u : A → Bool) (xs : List A) → ((x : A) → t x ≡ u x) → find t xs ≡ find u xs
find_same t u [] same = refl
find_same {A} t u (x ∷ xs) same = ap (λ b. cond b (Some x) (find t xs)) (same x) ∙ ap (λ o. cond (u x) (Some x) o) (find_same t u xs same)

-- ---- names of one group

-- what declares one again declares the other again
pub again_same : (r e a : Name) → is_again r e ≡ true → is_again a e ≡ is_again a r
again_same r e a again = by (is_again a e) refl (is_again a r) refl
  where
    by : (p : Bool) → is_again a e ≡ p → (q : Bool) → is_again a r ≡ q → p ≡ q
    by true f true g = refl
    by false f false g = refl
    by true f false g = absurd (true≢false (sym (again_through a e r f (again_back r e again)) ∙ g))
    by false f true g = absurd (true≢false (sym (again_through a r e g again) ∙ f))

pub defined_same : (p : Places) (r e : Name) → is_again r e ≡ true → is_defined_object p e ≡ is_defined_object p r
defined_same p r e again = ap is_some (find_same (λ a. is_again a e && defines_object p a) (λ a. is_again a r && defines_object p a) p.names (λ a. ap (λ b. b && defines_object p a) (again_same r e a again)))

-- ---- one name more

module _ (table : List SynNode) (d : IsDerived table) (n : ℕ) (within : n < length table) where
  pub none_defined : (found : List Bool) → name_of (places_in table) n ≡ None → AreDefiningBefore table n found → AreDefiningBefore table (n + 1) found
  none_defined found none f = record {
    long = f.long;
    are = λ r i first. f.are r i first ∙ sym (found_more (group r) n (Names table d) (ascend table d) ∙ (ap (λ o. is_some (find (λ a. group r a && nat_lt a.node n) (Names table d)) || tells (group r) o) none ∙ or_no (is_some (find (λ a. group r a && nat_lt a.node n) (Names table d)))));
  }
    where
      group : Name → Name → Bool
      group r a = is_again a r && defines_object (places_in table) a

      or_no : (b : Bool) → (b || false) ≡ b
      or_no true = refl
      or_no false = refl

  module _ (e : Name) (f : ℕ) (is : name_of (places_in table) n ≡ Some e) (first : IsFirst (places_in table) e f) (nodes : length (nodes_in table) ≡ length table) where
    abbrev group : Name → Name → Bool
    group r a = is_again a r && defines_object (places_in table) a

    pub one_defined : (found : List Bool) (new : Bool) → new ≡ (get_or found f false || defines_at (places_in table) (name_of (places_in table) n)) → AreDefiningBefore table n found → AreDefiningBefore table (n + 1) (slice_set found f new)
    one_defined found new told g = record { long = length-set found f new ∙ g.long; are = λ r i none. which r i none (eqb_tells r.node f) }
      where
        here : new ≡ (get_or found f false || defines_object (places_in table) e)
        here = told ∙ ap (λ o. get_or found f false || defines_at (places_in table) o) is

        low : f < length found
        low = let b = node_below table d first.first first.among in let at = first.at in let l = g.long in omega (arith, b, at, l, nodes)

        more : (r : Name) → is_some (find (λ a. group r a && nat_lt a.node (n + 1)) (Names table d)) ≡ (is_some (find (λ a. group r a && nat_lt a.node n) (Names table d)) || group r e)
        more r = found_more (group r) n (Names table d) (ascend table d) ∙ ap (λ o. is_some (find (λ a. group r a && nat_lt a.node n) (Names table d)) || tells (group r) o) is

        which : (r : Name) → Among r (Names table d) → earlier (places_in table) r ≡ [] → ((nat_eq r.node f ≡ true) × (r.node ≡ f)) ⊎ ((nat_eq r.node f ≡ false) × (r.node ≢ f))
            → get_or (slice_set found f new) r.node false ≡ is_some (find (λ a. group r a && nat_lt a.node (n + 1)) (Names table d))
        which r i none (inl (q, same)) =
            let it : r ≡ first.first = one_node table d r first.first i first.among (same ∙ sym first.at) in
            let again : is_again e r ≡ true = again_back r e (ap (λ x. is_again x e) it ∙ first.again) in
            ap (λ k. get_or (slice_set found f new) k false) same
            ∙ (get_or-set_same found f new false low
            ∙ (here ∙ (ap (λ k. get_or found k false || defines_object (places_in table) e) (sym same)
            ∙ (ap (λ b. b || defines_object (places_in table) e) (g.are r i none)
            ∙ (ap (λ b. is_some (find (λ a. group r a && nat_lt a.node n) (Names table d)) || (b && defines_object (places_in table) e)) (sym again) ∙ sym (more r))))))
        which r i none (inr (q, other)) =
            get_or-set_other found f r.node new false other
            ∙ (g.are r i none ∙ sym (more r ∙ (ap (λ b. is_some (find (λ a. group r a && nat_lt a.node n) (Names table d)) || (b && defines_object (places_in table) e)) (apart (is_again e r) refl) ∙ or_no (is_some (find (λ a. group r a && nat_lt a.node n) (Names table d))))))
          where
            or_no : (b : Bool) → (b || false) ≡ b
            or_no true = refl
            or_no false = refl

            apart : (b : Bool) → is_again e r ≡ b → is_again e r ≡ false
            apart false h = h
            apart true h = absurd (other (ap (λ (x : Name). x.node) (sym (one_first table d first.first r first.among i (again_through first.first e r first.again h) first.before none)) ∙ first.at))

pub first_defining : (table : List SynNode) → AreDefiningBefore table 0 (replicate (length table) false)
first_defining table = record {
  long = length-replicate (length table) false;
  are = λ r i none. each (length table) r.node ∙ sym (none_found (λ a. is_again a r && defines_object (places_in table) a) (places_in table).names);
}
  where
    each : (n k : ℕ) → get_or (replicate n false) k false ≡ false
    each zero k = refl
    each (suc n) zero = refl
    each (suc n) (suc k) = each n k

pub all_defining : (table : List SynNode) (d : IsDerived table) (n : ℕ) (found : List Bool) → length (nodes_in table) ≡ length table → length table ≤ n → AreDefiningBefore table n found → AreDefining table found
all_defining table d n found nodes most g = record {
  long = g.long;
  are = λ r i none. g.are r i none ∙ ap is_some (found_all (λ a. is_again a r && defines_object (places_in table) a) n (Names table d) (λ x j. let low = node_below table d x j in omega (arith, low, nodes, most)));
}

-- ---- of one name

pub first_here : (table : List SynNode) (i f : ℕ) (firsts : List (Option ℕ)) → AreFirsts table firsts → i < length table → get_or firsts i None ≡ Some f
    → (e : Name) × (name_of (places_in table) i ≡ Some e) × IsFirst (places_in table) e f
first_here table i f firsts a within at = by (name_of (places_in table) i) refl (a.are i within)
  where
    number : {x y : ℕ} → Some x ≡ Some y → x ≡ y
    number h = cc h

    by : (o : Option Name) → name_of (places_in table) i ≡ o → HasFirst table o (get_or firsts i None) → (e : Name) × (name_of (places_in table) i ≡ Some e) × IsFirst (places_in table) e f
    by None g h = absurd (cc (sym h ∙ at))
    by (Some e) g (k, is, first) = (e, g, subst (IsFirst (places_in table) e) (number (sym is ∙ at)) first)

pub none_here : (table : List SynNode) (i : ℕ) (firsts : List (Option ℕ)) → AreFirsts table firsts → i < length table → get_or firsts i None ≡ None → name_of (places_in table) i ≡ None
none_here table i firsts a within at = by (name_of (places_in table) i) refl (a.are i within)
  where
    by : (o : Option Name) → name_of (places_in table) i ≡ o → HasFirst table o (get_or firsts i None) → name_of (places_in table) i ≡ None
    by None g h = g
    by (Some e) g (k, is, first) = absurd (cc (sym is ∙ at))

pub first_below : (table : List SynNode) (i f : ℕ) (firsts : List (Option ℕ)) → AreFirsts table firsts → i < length table → get_or firsts i None ≡ Some f → f < length table
first_below table i f firsts a within at =
    let w = first_here table i f firsts a within at in
    let first = w.2 in
    let b = node_below table a.derived first.first first.among in
    let is = first.at in
    let nodes = a.nodes in
    omega (arith, b, is, nodes)

pub defined_first : (table : List SynNode) (i f : ℕ) (firsts : List (Option ℕ)) (defining : List Bool) → AreFirsts table firsts → AreDefining table defining → i < length table → get_or firsts i None ≡ Some f
    → get_or defining f false ≡ defined_at (places_in table) (name_of (places_in table) i)
defined_first table i f firsts defining a g within at =
    let w = first_here table i f firsts a within at in
    let first = w.2 in
    ap (λ k. get_or defining k false) (sym first.at) ∙ (g.are first.first first.among first.before ∙ (sym (defined_same (places_in table) first.first w.0 first.again) ∙ sym (ap (defined_at (places_in table)) w.1)))

-- ---- what one name defines

module _ (table : List SynNode) (d : IsDerived table) (nodes : length (nodes_in table) ≡ length table) where
  static_owner : (e : Name) → Among e (places_in table).names → is_static e.entity ≡ true → e.owner < length table
  unfolding places_in nodes_in
  static_owner e i static = let q = (names_here d.tokens (tree_in table) d.derived).each e (to_in e (places_in table).names i) in by q q.how
    where
      by : (q : Named (nodes_in table) e) → Declares (nodes_in table) q.before q.node e → e.owner < length table
      by q (by_declarator k b o f y) =
          subst (λ l. e.owner < l) nodes (there_by_kind (nodes_in table) e.owner
          (λ empty. absurd (cc (sym (ap (entity_by (nodes_in table) (node_at (nodes_in table) e.owner) (specs_of (nodes_in table) (node_at (nodes_in table) e.owner)) e.scope e.is_function) empty) ∙ y))))
      by q (by_enumerator k b o f y) = absurd (true≢false (sym static ∙ ap is_static y))

  -- the name of a node that declares this one
  pub record Here (names : List (Option DeclaredName)) (i : ℕ) (x : DeclaredName) : Type 0 where
    pub name : Name
    pub among : Among name (places_in table).names
    pub is : name_of (places_in table) i ≡ Some name
    pub at : name.node ≡ i
    pub owner : x.owner ≡ name.owner
    pub entity : entity_of x.entity ≡ name.entity

  pub name_here : (names : List (Option DeclaredName)) → AreNames table names → (i : ℕ) (x : DeclaredName) → i < length table → get_or names i None ≡ Some x → Here names i x
  name_here names a i x within at =
      let is = a.are i within ∙ ap (option_map (rule_name (nodes_in table) i)) at in
      let f = find_is (λ (e : Name). e.node == i) (places_in table).names (rule_name (nodes_in table) i x) is in
      record { name = rule_name (nodes_in table) i x; among = from_in (rule_name (nodes_in table) i x) (places_in table).names f.0; is = is; at = refl; owner = refl; entity = refl }

  pub nothing_here : (names : List (Option DeclaredName)) → AreNames table names → (i : ℕ) → i < length table → get_or names i None ≡ None → name_of (places_in table) i ≡ None
  nothing_here names a i within at = a.are i within ∙ ap (option_map (rule_name (nodes_in table) i)) at

  pub owner_below : (names : List (Option DeclaredName)) → AreNames table names → (i : ℕ) (x : DeclaredName) → i < length table → get_or names i None ≡ Some x → is_static (entity_of x.entity) ≡ true → x.owner < length table
  owner_below names a i x within at static =
      let h = name_here names a i x within at in
      subst (λ k. k < length table) (sym h.owner) (static_owner h.name h.among (ap is_static (sym h.entity) ∙ static))

  pub defines_here : (names : List (Option DeclaredName)) → AreNames table names → (i : ℕ) (x : DeclaredName) → i < length table → get_or names i None ≡ Some x → (b : Bool)
      → b ≡ (has_kid (node_at (nodes_in table) x.owner) 1 || not (says (nodes_in table) (codes "extern") (specs_of (nodes_in table) (node_at (nodes_in table) x.owner))))
      → (is_static (entity_of x.entity) && b) ≡ defines_at (places_in table) (name_of (places_in table) i)
  unfolding places_in nodes_in name_here
  defines_here names a i x within at b is = ap (λ c. is_static (entity_of x.entity) && c) is ∙ sym (ap (defines_at (places_in table)) (name_here names a i x within at).is)
