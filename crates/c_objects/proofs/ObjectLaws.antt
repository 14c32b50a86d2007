-- The objects of a unit and their numbers, from node to node.
use Rattle.std.proofs.Common.{◌≡◌, ◌≢◌, ◌⊎◌, inl, inr, ℕ, ◌+◌, ◌<◌, ◌≤◌, Bool, true, false, ◌&&◌, cond, List, [], ◌∷◌, ◌++◌, length, map, Option, Some, None, refl, sym, ap, ap₂, ◌∙◌, subst, arith, true≢false, get_or}
use Rattle.std.specs.Prelude.{filter, nat_lt, nat_eq, not, position, ◌==◌, if◌then◌else◌}
use Rattle.std.specs.List.{prefix_len}
use Rattle.std.proofs.lemmas.List.{length_push}
use Rattle.std.proofs.lemmas.Bool.Decides.{eqb_tells}
use Rattle.c_syntax.specs.declared.syntax.SynNode.{SynNode}
use Rattle.c_typing.specs.Names.{Name, earlier, is_again, is_defined_object, is_static, name_of, object_number, objects_of}
use Rattle.c_typing.proofs.MadeAround.{equal_so, find_is}
use Rattle.c_typing.proofs.MadeObjects.{again_back, again_through}
use Rattle.c_nodes.specs.Parents.{nodes_in}
use Rattle.c_names.specs.declared.names.DeclaredName.{DeclaredName}
use Rattle.c_names.specs.Denoted.{Among, IsDerived, places_in}
use Rattle.c_names.specs.Names.{AreNames, entity_of}
use Rattle.c_names.proofs.ChainLaws.{passed}
use Rattle.c_names.proofs.PutLaws.{all_pushed}
use Rattle.c_names.proofs.UseLaws.{ascend}
use Rattle.c_locals.proofs.CountLaws.{filter_more, filter_none, listed, place_of}
use Rattle.c_objects.specs.Firsts.{AreFirsts, HasFirst, IsFirst}
use Rattle.c_objects.specs.Objects.{AreDefined, AreNumbersOfFirsts, defined_at, is_number, is_object, number_at, number_of_first, object_at, objects_before}
use Rattle.c_objects.proofs.FirstLaws.{Names, name_at, node_below, one_first, one_node}
use Rattle.c_objects.proofs.DefinedLaws.{Here, first_here, name_here}

-- ---- places

prefix_same : (t u : Name → Bool) (xs : List Name) → ((x : Name) → Among x xs → t x ≡ u x) → prefix_len (λ x. not (t x)) xs ≡ prefix_len (λ x. not (u x)) xs
prefix_same t u [] same = refl
prefix_same t u (x ∷ xs) same = ap (λ b. cond (not b) (1 + prefix_len (λ y. not (t y)) xs) 0) (same x (inl refl)) ∙ ap (λ n. cond (not (u x)) (1 + n) 0) (prefix_same t u xs (λ y i. same y (inr i)))

position_same : (t u : Name → Bool) (xs : List Name) → ((x : Name) → Among x xs → t x ≡ u x) → position t xs ≡ position u xs
position_same t u xs same = ap (λ l. cond (nat_lt l (length xs)) (Some l) None) (prefix_same t u xs same)

prefix_none : (t : Name → Bool) (xs : List Name) → ((x : Name) → Among x xs → t x ≡ false) → prefix_len (λ x. not (t x)) xs ≡ length xs
prefix_none t [] none = refl
prefix_none t (x ∷ xs) none =
    let more = prefix_none t xs (λ y i. none y (inr i)) in
    ap (λ b. cond (not b) (1 + prefix_len (λ y. not (t y)) xs) 0) (none x (inl refl)) ∙ omega (arith, more)

position_none : (t : Name → Bool) (xs : List Name) → ((x : Name) → Among x xs → t x ≡ false) → position t xs ≡ None
position_none t xs none = ap (λ l. cond (nat_lt l (length xs)) (Some l) None) (prefix_none t xs none) ∙ ap (λ b. cond b (Some (length xs)) None) (not_own (length xs))
  where
    not_own : (n : ℕ) → nat_lt n n ≡ false
    not_own n = grind arith

no_items : {A : Type 0} (xs : List A) → length xs ≡ 0 → xs ≡ []
no_items [] e = refl
no_items (x ∷ xs) e = absurd (omega (arith, e))

-- ---- one node

module _ (table : List SynNode) (d : IsDerived table) (nodes : length (nodes_in table) ≡ length table) where
  -- a first declaration declares none again
  first_alone : (e : Name) → Among e (Names table d) → (k i : ℕ) → IsFirst (places_in table) e k → e.node ≡ i → (k == i) ≡ (length (earlier (places_in table) e) == 0)
  first_alone e among k i first at = by (eqb_tells k i) (eqb_tells (length (earlier (places_in table) e)) 0)
    where
      by : ((nat_eq k i ≡ true) × (k ≡ i)) ⊎ ((nat_eq k i ≡ false) × (k ≢ i)) → ((nat_eq (length (earlier (places_in table) e)) 0 ≡ true) × (length (earlier (places_in table) e) ≡ 0)) ⊎ ((nat_eq (length (earlier (places_in table) e)) 0 ≡ false) × (length (earlier (places_in table) e) ≢ 0))
          → nat_eq k i ≡ nat_eq (length (earlier (places_in table) e)) 0
      by (inl p) (inl q) = p.0 ∙ sym q.0
      by (inr p) (inr q) = p.0 ∙ sym q.0
      by (inl p) (inr q) =
          let it : first.first ≡ e = one_node table d first.first e first.among among (first.at ∙ (p.1 ∙ sym at)) in
          absurd (q.1 (ap (λ x. length (earlier (places_in table) x)) (sym it) ∙ ap length first.before))
      by (inr p) (inl q) =
          let it : first.first ≡ e = one_first table d first.first e first.among among first.again first.before (no_items (earlier (places_in table) e) q.1) in
          absurd (p.1 (sym first.at ∙ (ap (λ (x : Name). x.node) it ∙ at)))

  pub object_told : (names : List (Option DeclaredName)) (firsts : List (Option ℕ)) (defined : List Bool) → AreNames table names → AreFirsts table firsts → AreDefined table defined
      → (i : ℕ) (x : DeclaredName) → i < length table → get_or names i None ≡ Some x
      → (is_static (entity_of x.entity) && is_number (get_or firsts i None) i && get_or defined i false) ≡ object_at (places_in table) (name_of (places_in table) i)
  object_told names firsts defined a f g i x within at =
      let h = name_here table d nodes names a i x within at in
      ap (λ b. is_static b && is_number (get_or firsts i None) i && get_or defined i false) h.entity
      ∙ (ap (λ b. is_static h.name.entity && b && get_or defined i false) (number h (subst (λ o. HasFirst table o (get_or firsts i None)) h.is (f.are i within)))
      ∙ (ap (λ b. is_static h.name.entity && length (earlier (places_in table) h.name) == 0 && b) (g.are i within ∙ ap (defined_at (places_in table)) h.is)
      ∙ sym (ap (object_at (places_in table)) h.is)))
    where
      number : (h : Here table d nodes names i x) → HasFirst table (Some h.name) (get_or firsts i None) → is_number (get_or firsts i None) i ≡ (length (earlier (places_in table) h.name) == 0)
      number h (k, is, first) = ap (λ o. is_number o i) is ∙ first_alone h.name h.among k i first h.at

  -- by its tests in turn
  pub object_so : (a b c v : Bool) → v ≡ (a && b) → v ≡ true → c ≡ (a && b && c)
  object_so true true c v e f = refl
  object_so true false c v e f = absurd (true≢false (sym f ∙ e))
  object_so false b c v e f = absurd (true≢false (sym f ∙ e))

  pub no_object_so : (a b c v : Bool) → v ≡ (a && b) → v ≡ false → v ≡ (a && b && c)
  no_object_so true true c v e f = absurd (true≢false (sym e ∙ f))
  no_object_so true false c v e f = f
  no_object_so false b c v e f = f

  -- ---- one node more

  module _ (n : ℕ) where
    abbrev node_of_name : Name → ℕ
    node_of_name a = a.node

    more : objects_before (places_in table) (n + 1) ≡ objects_before (places_in table) n ++ listed (is_object (places_in table)) (name_of (places_in table) n)
    more = filter_more (is_object (places_in table)) n (Names table d) (ascend table d)

    pub record One : Type 0 where
      pub name : Name
      pub is : name_of (places_in table) n ≡ Some name
      pub at : name.node ≡ n
      pub object : is_object (places_in table) name ≡ true

    pub one_object : object_at (places_in table) (name_of (places_in table) n) ≡ true → One
    one_object e = by (name_of (places_in table) n) refl e
      where
        by : (o : Option Name) → name_of (places_in table) n ≡ o → object_at (places_in table) o ≡ true → One
        by None g h = absurd (true≢false (sym h))
        by (Some x) g h = record { name = x; is = g; at = equal_so x.node n (find_is (λ (e : Name). e.node == n) (places_in table).names x g).1; object = h }

    pub objects_more : (o : One) → objects_before (places_in table) (n + 1) ≡ objects_before (places_in table) n ++ o.name ∷ []
    objects_more o = more ∙ (ap (λ x. objects_before (places_in table) n ++ listed (is_object (places_in table)) x) o.is ∙ ap (λ b. objects_before (places_in table) n ++ cond b (o.name ∷ []) []) o.object)

    pub nodes_more : (o : One) → map node_of_name (objects_before (places_in table) (n + 1)) ≡ map node_of_name (objects_before (places_in table) n) ++ n ∷ []
    nodes_more o = ap (map node_of_name) (objects_more o) ∙ (map_push (objects_before (places_in table) n) o.name ∙ ap (λ k. map node_of_name (objects_before (places_in table) n) ++ k ∷ []) o.at)
      where
        map_push : (xs : List Name) (x : Name) → map node_of_name (xs ++ x ∷ []) ≡ map node_of_name xs ++ x.node ∷ []
        map_push [] x = refl
        map_push (y ∷ ys) x = ap (λ zs. y.node ∷ zs) (map_push ys x)

    pub count_more : (o : One) → length (objects_before (places_in table) (n + 1)) ≡ length (objects_before (places_in table) n) + 1
    count_more o = ap length (objects_more o) ∙ length_push (objects_before (places_in table) n) o.name

    pub objects_same : object_at (places_in table) (name_of (places_in table) n) ≡ false → objects_before (places_in table) (n + 1) ≡ objects_before (places_in table) n
    objects_same e = more ∙ (ap (λ xs. objects_before (places_in table) n ++ xs) (by (name_of (places_in table) n) e) ∙ nil_end (objects_before (places_in table) n))
      where
        by : (o : Option Name) → object_at (places_in table) o ≡ false → listed (is_object (places_in table)) o ≡ []
        by None h = refl
        by (Some x) h = ap (λ b. cond b (x ∷ []) []) h

        nil_end : (xs : List Name) → xs ++ [] ≡ xs
        nil_end [] = refl
        nil_end (x ∷ xs) = ap (λ ys. x ∷ ys) (nil_end xs)

    -- the number of its own
    pub own_number : (o : One) → number_of_first (places_in table) (name_of (places_in table) n) ≡ Some (length (objects_before (places_in table) n))
    own_number o =
        ap (number_of_first (places_in table)) o.is
        ∙ (ap (λ b. if b then Some (length (objects_before (places_in table) o.name.node)) else None) o.object ∙ ap (λ k. Some (length (objects_before (places_in table) k))) o.at)

    pub no_number : object_at (places_in table) (name_of (places_in table) n) ≡ false → number_of_first (places_in table) (name_of (places_in table) n) ≡ None
    no_number e = by (name_of (places_in table) n) e
      where
        by : (o : Option Name) → object_at (places_in table) o ≡ false → number_of_first (places_in table) o ≡ None
        by None h = refl
        by (Some x) h = ap (λ b. if b then Some (length (objects_before (places_in table) x.node)) else None) h

  -- the numbers so far
  pub record AreNumbered (n : ℕ) (found : List (Option ℕ)) (count : ℕ) : Type 0 where
    pub long : length found ≡ n
    pub are : (i : ℕ) → i < n → get_or found i None ≡ number_of_first (places_in table) (name_of (places_in table) i)
    pub told : count ≡ length (objects_before (places_in table) n)
    pub few : count ≤ n

  pub one_numbered : (n : ℕ) (found : List (Option ℕ)) (count : ℕ) → One n → AreNumbered n found count → AreNumbered (n + 1) (found ++ Some count ∷ []) (count + 1)
  one_numbered n found count o a =
      let push = length_push found (Some count) in
      let long = a.long in
      let told = a.told in
      let more = count_more n o in
      let few = a.few in
      record {
        long = omega (arith, push, long);
        are = all_pushed (λ i (x : Option ℕ). x ≡ number_of_first (places_in table) (name_of (places_in table) i)) found n (Some count) None a.long a.are (ap Some a.told ∙ sym (own_number n o));
        told = omega (arith, told, more);
        few = omega (arith, few);
      }

  pub none_numbered : (n : ℕ) (found : List (Option ℕ)) (count : ℕ) → object_at (places_in table) (name_of (places_in table) n) ≡ false → AreNumbered n found count → AreNumbered (n + 1) (found ++ None ∷ []) count
  none_numbered n found count e a =
      let push = length_push found None in
      let long = a.long in
      let few = a.few in
      record {
        long = omega (arith, push, long);
        are = all_pushed (λ i (x : Option ℕ). x ≡ number_of_first (places_in table) (name_of (places_in table) i)) found n None None a.long a.are (sym (no_number n e));
        told = a.told ∙ ap length (sym (objects_same n e));
        few = omega (arith, few);
      }

  pub no_objects : objects_before (places_in table) 0 ≡ []
  no_objects = filter_none (λ e. is_object (places_in table) e && nat_lt e.node 0) (Names table d) (λ x i. off (is_object (places_in table) x) (nat_lt x.node 0) (none x.node))
    where
      none : (k : ℕ) → nat_lt k 0 ≡ false
      none k = grind arith

      off : (a b : Bool) → b ≡ false → (a && b) ≡ false
      off true b e = e
      off false b e = refl

  pub all_objects : (n : ℕ) → length table ≤ n → objects_before (places_in table) n ≡ objects_of (places_in table)
  all_objects n most = filter_same (Names table d) (λ x i. let b = node_below table d x i in on (is_object (places_in table) x) (nat_lt x.node n) (low x.node (omega (arith, b, nodes, most))))
    where
      low : (k : ℕ) → k < n → nat_lt k n ≡ true
      low k less = grind (arith, less)

      on : (a b : Bool) → b ≡ true → (a && b) ≡ a
      on true b e = e
      on false b e = refl

      filter_same : (xs : List Name) → ((x : Name) → Among x xs → (is_object (places_in table) x && nat_lt x.node n) ≡ is_object (places_in table) x)
          → filter (λ e. is_object (places_in table) e && nat_lt e.node n) xs ≡ filter (is_object (places_in table)) xs
      filter_same [] h = refl
      filter_same (x ∷ xs) h =
          ap₂ (λ b ys. cond b (x ∷ ys) ys) (h x (inl refl)) (filter_same xs (λ y i. h y (inr i)))

  -- ---- the number of each name

  pub first_of_object : (a : Name) → is_object (places_in table) a ≡ true → earlier (places_in table) a ≡ []
  first_of_object a e = no_items (earlier (places_in table) a) (by (is_static a.entity) (length (earlier (places_in table) a)) (is_defined_object (places_in table) a) e)
    where
      by : (p : Bool) (k : ℕ) (q : Bool) → (p && k == 0 && q) ≡ true → k ≡ 0
      by p k q e = grind arith

  pub number_is : (e : Name) (k : ℕ) (first : IsFirst (places_in table) e k) → object_number (places_in table) e ≡ number_of_first (places_in table) (Some first.first)
  number_is e k first = by (is_object (places_in table) first.first) refl
    where
      r : Name
      r = first.first

      -- an object that e declares again is the first of its group
      it : (a : Name) → Among a (objects_of (places_in table)) → is_again a e ≡ true → a ≡ first.first
      it a i again =
          let p = passed (is_object (places_in table)) (Names table d) a i in
          one_first table d a first.first p.0 first.among (again_through a e first.first again (again_back first.first e first.again)) (first_of_object a p.1) first.before

      same : (a : Name) → Among a (objects_of (places_in table)) → is_again a e ≡ (a.node == first.first.node)
      same a i = cases (is_again a e) refl (eqb_tells a.node first.first.node)
        where
          cases : (b : Bool) → is_again a e ≡ b → ((nat_eq a.node first.first.node ≡ true) × (a.node ≡ first.first.node)) ⊎ ((nat_eq a.node first.first.node ≡ false) × (a.node ≢ first.first.node)) → is_again a e ≡ nat_eq a.node first.first.node
          cases true g (inl q) = g ∙ sym q.0
          cases false g (inr q) = g ∙ sym q.0
          cases true g (inr q) = absurd (q.1 (ap (λ (x : Name). x.node) (it a i g)))
          cases false g (inl q) =
              let p = passed (is_object (places_in table)) (Names table d) a i in
              absurd (true≢false (sym (ap (λ x. is_again x e) (one_node table d a first.first p.0 first.among q.1) ∙ first.again) ∙ g))

      by : (b : Bool) → is_object (places_in table) first.first ≡ b → object_number (places_in table) e ≡ number_of_first (places_in table) (Some first.first)
      by true g =
          position_same (λ a. is_again a e) (λ a. a.node == first.first.node) (objects_of (places_in table)) same
          ∙ (place_of (is_object (places_in table)) first.first (Names table d) (ascend table d) first.among g
          ∙ sym (ap (λ b. if b then Some (length (objects_before (places_in table) first.first.node)) else None) g))
      by false g =
          position_none (λ a. is_again a e) (objects_of (places_in table)) none
          ∙ sym (ap (λ b. if b then Some (length (objects_before (places_in table) first.first.node)) else None) g)
        where
          none : (a : Name) → Among a (objects_of (places_in table)) → is_again a e ≡ false
          none a i = at (is_again a e) refl
            where
              at : (b : Bool) → is_again a e ≡ b → is_again a e ≡ false
              at false h = h
              at true h = absurd (true≢false (sym (ap (is_object (places_in table)) (sym (it a i h)) ∙ (passed (is_object (places_in table)) (Names table d) a i).1) ∙ g))

pub number_first : (table : List SynNode) (i f : ℕ) (firsts by_first : List (Option ℕ)) → AreFirsts table firsts → AreNumbersOfFirsts table by_first → i < length table → get_or firsts i None ≡ Some f
    → get_or by_first f None ≡ number_at (places_in table) (name_of (places_in table) i)
number_first table i f firsts by_first a g within at =
    let w = first_here table i f firsts a within at in
    let first = w.2 in
    let b = node_below table a.derived first.first first.among in
    let is = first.at in
    let nodes = a.nodes in
    g.are f (omega (arith, b, is, nodes)) ∙ (ap (number_of_first (places_in table)) (name_at table a.derived first.first f first.among first.at)
    ∙ (sym (number_is table a.derived a.nodes w.0 f first) ∙ sym (ap (number_at (places_in table)) w.1)))

pub first_numbered : (table : List SynNode) (d : IsDerived table) (nodes : length (nodes_in table) ≡ length table) (found : List (Option ℕ)) → found ≡ [] → AreNumbered table d nodes 0 found 0
first_numbered table d nodes found none = record { long = ap length none; are = λ i low. absurd (omega (arith, low)); told = sym (ap length (no_objects table d nodes)); few = omega arith }
