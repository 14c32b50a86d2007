-- Which specs stand before a name of a function, from node to node.
use Rattle.std.proofs.Common.{◌≡◌, ◌≢◌, ◌⊎◌, inl, inr, ℕ, zero, suc, ◌+◌, ◌<◌, ◌≤◌, Bool, true, false, ◌&&◌, ◌||◌, cond, List, [], ◌∷◌, length, replicate, Option, Some, None, refl, sym, ap, ◌∙◌, subst, arith, true≢false, get_or}
use Rattle.std.specs.Prelude.{slice_set, find, nat_lt, nat_eq, option_map, ◌==◌}
use Rattle.std.specs.Option.{is_some}
use Rattle.std.specs.List.{list_any}
use Rattle.std.proofs.lemmas.List.{get_or-set_same, get_or-set_other, length-replicate, length-set}
use Rattle.std.proofs.lemmas.Bool.Decides.{eqb_tells}
use Rattle.c_syntax.specs.declared.syntax.SynNode.{SynNode}
use Rattle.c_typing.specs.Places.{kind_at, node_at, specs_by, specs_of}
use Rattle.c_typing.specs.Names.{Name, entity_by}
use Rattle.c_typing.proofs.MadeAround.{find_is}
use Rattle.c_typing.proofs.MadeNames.{Named, Declares, by_declarator, by_enumerator}
use Rattle.c_typing.proofs.MadeFunctionNames.{names_here}
use Rattle.c_typing.proofs.MadePlaced.{numbered}
use Rattle.c_nodes.specs.Parents.{AreNumbered, nodes_in, tree_in}
use Rattle.c_nodes.proofs.ScopeLaws.{there_by_kind}
use Rattle.c_names.specs.declared.names.DeclaredName.{DeclaredName}
use Rattle.c_names.specs.Denoted.{Among, IsDerived, places_in}
use Rattle.c_names.specs.Names.{AreNames, rule_name}
use Rattle.c_names.proofs.DeclaredLaws as declared
use Rattle.c_names.proofs.DeclaredLaws.{from_in, to_in}
use Rattle.c_names.proofs.UseLaws.{ascend}
use Rattle.c_locals.proofs.AnyLaws.{found_all, found_more, none_found, tells}
use Rattle.c_contexts.specs.Contexts.{AreFunctionSpecs, AreFunctionSpecsBefore}

any_is : {A : Type 0} (f : A → Bool) (xs : List A) → list_any f xs ≡ is_some (find f xs)
any_is f [] = refl
any_is {A} f (x ∷ xs) = by (f x) (any_is f xs)
  where
    by : (b : Bool) → list_any f xs ≡ is_some (find f xs) → (b || list_any f xs) ≡ is_some (cond b (Some x) (find f xs))
    by true more = refl
    by false more = more

or_no : (b : Bool) → (b || false) ≡ b
or_no true = refl
or_no false = refl

or_yes : (b : Bool) → (b || true) ≡ true
or_yes true = refl
or_yes false = refl

module _ (table : List SynNode) (d : IsDerived table) (nodes : length (nodes_in table) ≡ length table) where
  are_numbered : AreNumbered (nodes_in table)
  unfolding nodes_in
  are_numbered n within = numbered d.tokens (tree_in table) d.derived n (node_at (nodes_in table) n) (declared.there d.tokens (tree_in table) d.derived n within)

  node_below : (e : Name) → Among e (places_in table).names → e.node < length (nodes_in table)
  unfolding places_in nodes_in
  node_below e i = declared.name_below d.tokens (tree_in table) d.derived e i

  function_owner : (e : Name) → Among e (places_in table).names → e.is_function ≡ true → e.owner < length table
  unfolding places_in nodes_in
  function_owner e i function = let q = (names_here d.tokens (tree_in table) d.derived).each e (to_in e (places_in table).names i) in by q q.how
    where
      by : (q : Named (nodes_in table) e) → Declares (nodes_in table) q.before q.node e → e.owner < length table
      by q (by_declarator k b o f y) =
          subst (λ l. e.owner < l) nodes (there_by_kind (nodes_in table) e.owner
          (λ empty. absurd (cc (sym (ap (entity_by (nodes_in table) (node_at (nodes_in table) e.owner) (specs_of (nodes_in table) (node_at (nodes_in table) e.owner)) e.scope e.is_function) empty) ∙ y))))
      by q (by_enumerator k b o f y) = absurd (true≢false (sym function ∙ f))

  -- the specs before a name
  abbrev specs_at : ℕ → ℕ
  specs_at owner = specs_by (nodes_in table) (node_at (nodes_in table) owner) (kind_at (nodes_in table) owner)

  abbrev test : ℕ → Name → Bool
  test i e = e.is_function && (specs_of (nodes_in table) (node_at (nodes_in table) e.owner)).id == i

  module _ (names : List (Option DeclaredName)) (a : AreNames table names) (n : ℕ) (within : n < length table) where
    more : (i : ℕ) (x : Option DeclaredName) → get_or names n None ≡ x
        → is_some (find (λ e. test i e && nat_lt e.node (n + 1)) (places_in table).names) ≡ (is_some (find (λ e. test i e && nat_lt e.node n) (places_in table).names) || tells (test i) (option_map (rule_name (nodes_in table) n) x))
    more i x at =
        found_more (test i) n (places_in table).names (ascend table d)
        ∙ ap (λ o. is_some (find (λ e. test i e && nat_lt e.node n) (places_in table).names) || tells (test i) o) (a.are n within ∙ ap (option_map (rule_name (nodes_in table) n)) at)

    pub owner_there : (x : DeclaredName) → get_or names n None ≡ Some x → x.is_function ≡ true → x.owner < length table
    owner_there x at function =
        let is = a.are n within ∙ ap (option_map (rule_name (nodes_in table) n)) at in
        let e : Name = rule_name (nodes_in table) n x in
        function_owner e (from_in e (places_in table).names (find_is (λ (e : Name). e.node == n) (places_in table).names e is).0) function

    pub none_put : (found : List Bool) → get_or names n None ≡ None → AreFunctionSpecsBefore table n found → AreFunctionSpecsBefore table (n + 1) found
    none_put found at f = record {
      derived = d;
      nodes = nodes;
      long = f.long;
      are = λ i low. f.are i low ∙ sym (more i None at ∙ or_no (is_some (find (λ e. test i e && nat_lt e.node n) (places_in table).names)));
    }

    pub other_put : (found : List Bool) (x : DeclaredName) → get_or names n None ≡ Some x → x.is_function ≡ false → AreFunctionSpecsBefore table n found → AreFunctionSpecsBefore table (n + 1) found
    other_put found x at other f = record {
      derived = d;
      nodes = nodes;
      long = f.long;
      are = λ i low. f.are i low ∙ sym (more i (Some x) at
          ∙ (ap (λ b. is_some (find (λ e. test i e && nat_lt e.node n) (places_in table).names) || (b && (specs_of (nodes_in table) (node_at (nodes_in table) x.owner)).id == i)) other
          ∙ or_no (is_some (find (λ e. test i e && nat_lt e.node n) (places_in table).names))));
    }

    pub one_put : (found : List Bool) (x : DeclaredName) (k : ℕ) → get_or names n None ≡ Some x → x.is_function ≡ true → k ≡ specs_at x.owner → k < length table → AreFunctionSpecsBefore table n found
        → AreFunctionSpecsBefore table (n + 1) (slice_set found k true)
    one_put found x k at function is low f = record { derived = d; nodes = nodes; long = length-set found k true ∙ f.long; are = λ i in_it. which i in_it (eqb_tells k i) }
      where
        id : (specs_of (nodes_in table) (node_at (nodes_in table) x.owner)).id ≡ k
        id = ap (λ j. (node_at (nodes_in table) j).id) (sym is) ∙ are_numbered k (omega (arith, low, nodes))

        told : (i : ℕ) → is_some (find (λ e. test i e && nat_lt e.node (n + 1)) (places_in table).names) ≡ (is_some (find (λ e. test i e && nat_lt e.node n) (places_in table).names) || k == i)
        told i =
            more i (Some x) at
            ∙ (ap (λ b. is_some (find (λ e. test i e && nat_lt e.node n) (places_in table).names) || (b && (specs_of (nodes_in table) (node_at (nodes_in table) x.owner)).id == i)) function
            ∙ ap (λ j. is_some (find (λ e. test i e && nat_lt e.node n) (places_in table).names) || j == i) id)

        which : (i : ℕ) → i < length table → ((nat_eq k i ≡ true) × (k ≡ i)) ⊎ ((nat_eq k i ≡ false) × (k ≢ i)) → get_or (slice_set found k true) i false ≡ is_some (find (λ e. test i e && nat_lt e.node (n + 1)) (places_in table).names)
        which i in_it (inl (e, same)) =
            ap (λ j. get_or (slice_set found k true) j false) (sym same)
            ∙ (get_or-set_same found k true false (subst (λ j. k < j) (sym f.long) low)
            ∙ sym (told i ∙ (ap (λ b. is_some (find (λ e. test i e && nat_lt e.node n) (places_in table).names) || b) e ∙ or_yes (is_some (find (λ e. test i e && nat_lt e.node n) (places_in table).names)))))
        which i in_it (inr (e, other)) =
            get_or-set_other found k i true false (λ same. other (sym same))
            ∙ (f.are i in_it ∙ sym (told i ∙ (ap (λ b. is_some (find (λ e. test i e && nat_lt e.node n) (places_in table).names) || b) e ∙ or_no (is_some (find (λ e. test i e && nat_lt e.node n) (places_in table).names)))))

  pub first_put : AreFunctionSpecsBefore table 0 (replicate (length table) false)
  first_put = record {
    derived = d;
    nodes = nodes;
    long = length-replicate (length table) false;
    are = λ i low. each (length table) i ∙ sym (none_found (test i) (places_in table).names);
  }
    where
      each : (n k : ℕ) → get_or (replicate n false) k false ≡ false
      each zero k = refl
      each (suc n) zero = refl
      each (suc n) (suc k) = each n k

  pub all_put : (n : ℕ) (found : List Bool) → length table ≤ n → AreFunctionSpecsBefore table n found → AreFunctionSpecs table found
  unfolding places_in nodes_in
  all_put n found most f = record {
    long = f.long;
    are = λ i low.
        f.are i low
        ∙ (ap is_some (found_all (test i) n (places_in table).names (λ x j. let b = node_below x j in omega (arith, b, nodes, most)))
        ∙ sym (any_is (λ (e : Name). e.is_function && (specs_of (nodes_in table) (node_at (nodes_in table) e.owner)).id == (node_at (nodes_in table) i).id) (places_in table).names
        ∙ ap (λ k. is_some (find (test k) (places_in table).names)) (are_numbered i (omega (arith, low, nodes)))));
  }
