-- Names of one text in one scope, and the first of them.
use Rattle.std.proofs.Common.{◌≡◌, ◌≢◌, ◌⊎◌, inl, inr, ℕ, ◌+◌, ◌<◌, ◌≤◌, Bool, true, false, ◌&&◌, List, [], length, replicate, Option, Some, None, refl, sym, ap, ◌∙◌, subst, arith, true≢false, get_or}
use Rattle.std.specs.Prelude.{slice_set, nat_lt, nat_eq, if◌then◌else◌}
use Rattle.std.specs.List.{last_or}
use Rattle.std.proofs.lemmas.List.{get_or-set_same, get_or-set_other, get_or-replicate, length-replicate, length-set}
use Rattle.std.proofs.lemmas.Bool.Decides.{eqb_tells}
use Rattle.c_syntax.specs.declared.kind.SynKind.{SynKind}
use Rattle.c_syntax.specs.declared.kind.SynKind.TheVariants as kind
use Rattle.c_syntax.specs.declared.syntax.SynNode.{SynNode}
use Rattle.c_typing.specs.Places.{is_declarator}
use Rattle.c_typing.specs.Names.{Name, earlier, is_again, name_of}
use Rattle.c_typing.proofs.MadeNodes.{In, in_at}
use Rattle.c_typing.proofs.MadeAround.{and_true, both_true}
use Rattle.c_typing.proofs.MadeObjects.{again_back, again_through, so_again}
use Rattle.c_typing.proofs.MadeOnce.{filter_in}
use Rattle.c_typing.proofs.ProgressNumbers.{InList, from_filter, last_in}
use Rattle.c_nodes.specs.Parents.{nodes_in, tree_in}
use Rattle.c_names.specs.declared.declarations.Earlier.{Earlier}
use Rattle.c_names.specs.Denoted.{Among, Begins, IsBegun, IsDerived, node_of, places_in}
use Rattle.c_names.specs.Earlier.{AreEarlier, IsEarlier, Sums, none_before}
use Rattle.c_names.specs.Names.{begun_at}
use Rattle.c_names.proofs.DeclaredLaws as declared
use Rattle.c_names.proofs.DeclaredLaws.{Enumerates, Whole, from_in, to_in}
use Rattle.c_names.proofs.FoundLaws as founds
use Rattle.c_objects.specs.Firsts.{AreFirsts, AreFirstsBefore, HasFirst}

so_less : (a b : ℕ) → a < b → nat_lt a b ≡ true
so_less a b h = grind arith

less_so : (a b : ℕ) → nat_lt a b ≡ true → a < b
less_so a b e = grind arith

pub three_ways : (a b : ℕ) → (a < b) ⊎ ((a ≡ b) ⊎ (b < a))
three_ways a b = by (nat_lt a b) refl (nat_lt b a) refl
  where
    by : (p : Bool) → nat_lt a b ≡ p → (q : Bool) → nat_lt b a ≡ q → (a < b) ⊎ ((a ≡ b) ⊎ (b < a))
    by true e q f = inl (less_so a b e)
    by false e true f = inr (inr (less_so b a f))
    by false e false f = inr (inl (same a b e f))
      where
        same : (a b : ℕ) → nat_lt a b ≡ false → nat_lt b a ≡ false → a ≡ b
        same a b e f = grind arith

module _ (table : List SynNode) (d : IsDerived table) where
  abbrev pub Names : List Name
  Names = (places_in table).names

  -- one name begins behind a node
  pub one_behind : (a b : Name) → Among a Names → Among b Names → a.behind ≡ b.behind → a ≡ b
  unfolding places_in
  one_behind a b i j same =
      declared.one_node d.tokens (tree_in table) d.derived a b i j
      (by (declared.begins_so d.tokens (tree_in table) d.derived a i b.behind same) (declared.begins_so d.tokens (tree_in table) d.derived b j b.behind refl))
    where
      no_enumerator : (k : SynKind) → is_declarator k ≡ true → k ≡ kind.Enumer → ⊥
      no_enumerator k e f = true≢false (sym e ∙ ap is_declarator f)

      by : Enumerates d.tokens (tree_in table) d.derived b.behind a ⊎ Whole d.tokens (tree_in table) d.derived b.behind a
          → Enumerates d.tokens (tree_in table) d.derived b.behind b ⊎ Whole d.tokens (tree_in table) d.derived b.behind b → a.node ≡ b.node
      by (inl p) (inl q) = p.1 ∙ sym q.1
      by (inl p) (inr q) = absurd (no_enumerator _ q.is p.0)
      by (inr p) (inl q) = absurd (no_enumerator _ p.is q.0)
      by (inr p) (inr q) = p.first ∙ sym q.first

  pub one_node : (a b : Name) → Among a Names → Among b Names → a.node ≡ b.node → a ≡ b
  unfolding places_in
  one_node a b i j same = declared.one_node d.tokens (tree_in table) d.derived a b i j same

  pub name_at : (e : Name) (n : ℕ) → Among e Names → e.node ≡ n → name_of (places_in table) n ≡ Some e
  unfolding places_in
  name_at e n i at = ap (name_of (places_in table)) (sym at) ∙ declared.name_at d.tokens (tree_in table) d.derived e i

  pub node_below : (e : Name) → Among e Names → e.node < length (nodes_in table)
  unfolding places_in nodes_in
  node_below e i = declared.name_below d.tokens (tree_in table) d.derived e i

  -- what comes before is declared earlier
  before_is : (a b : Name) → Among a Names → is_again a b ≡ true → a.behind < b.behind → earlier (places_in table) b ≡ [] → ⊥
  before_is a b i again less none =
      subst (In a) none (filter_in (λ (x : Name). is_again x b && nat_lt x.behind b.behind) Names a (to_in a Names i) (and_true (is_again a b) (nat_lt a.behind b.behind) again (so_less a.behind b.behind less)))

  -- a group has one first name
  pub one_first : (a b : Name) → Among a Names → Among b Names → is_again a b ≡ true → earlier (places_in table) a ≡ [] → earlier (places_in table) b ≡ [] → a ≡ b
  one_first a b i j again none none_too = by (three_ways a.behind b.behind)
    where
      by : (a.behind < b.behind) ⊎ ((a.behind ≡ b.behind) ⊎ (b.behind < a.behind)) → a ≡ b
      by (inl less) = absurd (before_is a b i again less none_too)
      by (inr (inl same)) = one_behind a b i j same
      by (inr (inr more)) = absurd (before_is b a j (again_back a b again) more none)

  -- ---- one name more

  earlier_at : (earlier_of : List Earlier) → AreEarlier table earlier_of → (n node : ℕ) (b : Begins table n node) → Sums table (earlier (places_in table) b.name) (get_or earlier_of node none_before)
  earlier_at earlier_of a n node b = subst (λ o. IsEarlier table o (get_or earlier_of node none_before)) (name_at b.name node b.among b.at) (a.are node b.within)

  -- nothing was declared before it
  pub first_none : (earlier_of : List Earlier) → AreEarlier table earlier_of → (n node : ℕ) (b : Begins table n node) → (get_or earlier_of node none_before).last ≡ None → HasFirst table (Some b.name) (Some node)
  first_none earlier_of a n node b none =
      let s = earlier_at earlier_of a n node b in
      (node, refl, record { first = b.name; among = b.among; at = b.at; again = so_again b.name b.name refl refl; before = by (last_in (earlier (places_in table) b.name)) (sym s.last ∙ none) })
    where
      by : (earlier (places_in table) b.name ≡ []) ⊎ ((x : Name) × (last_or None (earlier (places_in table) b.name) ≡ Some x) × InList (earlier (places_in table) b.name) x)
          → node_of (last_or None (earlier (places_in table) b.name)) ≡ None → earlier (places_in table) b.name ≡ []
      by (inl e) h = e
      by (inr q) h = absurd (cc (sym (ap node_of q.1) ∙ h))

  -- the last one that was
  record Last (n : ℕ) (b : Name) (last : ℕ) : Type 0 where
    name : Name
    among : Among name Names
    at : name.node ≡ last
    again : is_again name b ≡ true
    behind : name.behind < n

  last_at : (earlier_of : List Earlier) → AreEarlier table earlier_of → (n node : ℕ) (b : Begins table n node) (last : ℕ) → (get_or earlier_of node none_before).last ≡ Some last → Last n b.name last
  last_at earlier_of a n node b last some = let s = earlier_at earlier_of a n node b in by (last_in (earlier (places_in table) b.name)) (sym s.last ∙ some)
    where
      number_same : {x y : ℕ} → Some x ≡ Some y → x ≡ y
      number_same e = cc e

      by : (earlier (places_in table) b.name ≡ []) ⊎ ((x : Name) × (last_or None (earlier (places_in table) b.name) ≡ Some x) × InList (earlier (places_in table) b.name) x)
          → node_of (last_or None (earlier (places_in table) b.name)) ≡ Some last → Last n b.name last
      by (inl e) h = absurd (cc (sym (ap (λ xs. node_of (last_or None xs)) e) ∙ h))
      by (inr q) h =
          let f = from_filter (λ (x : Name). is_again x b.name && nat_lt x.behind b.name.behind) Names q.0 q.2 in
          let t = both_true (is_again q.0 b.name) (nat_lt (q.0).behind b.name.behind) f.1 in
          record {
            name = q.0;
            among = from_in q.0 Names (in_at q.0 Names f.0.index f.0.at);
            at = number_same (sym (ap node_of q.1) ∙ h);
            again = t.0;
            behind = subst (λ k. (q.0).behind < k) b.behind (less_so (q.0).behind b.name.behind t.1);
          }

  pub last_within : (earlier_of : List Earlier) → AreEarlier table earlier_of → (n node : ℕ) (b : Begins table n node) (last : ℕ) → (get_or earlier_of node none_before).last ≡ Some last → last < length table
  last_within earlier_of a n node b last some =
      let l = last_at earlier_of a n node b last some in
      let low = node_below l.name l.among in
      let at = l.at in
      let long = b.nodes in
      omega (arith, low, at, long)

  pub first_some : (earlier_of : List Earlier) → AreEarlier table earlier_of → (n node : ℕ) (b : Begins table n node) (last : ℕ) → (get_or earlier_of node none_before).last ≡ Some last
      → (found : List (Option ℕ)) → AreFirstsBefore table n found → HasFirst table (Some b.name) (get_or found last None)
  first_some earlier_of a n node b last some found f =
      let l = last_at earlier_of a n node b last some in
      let here = subst (λ o. HasFirst table (begun_at n o) (get_or found last None)) (name_at l.name last l.among l.at) (f.are last (last_within earlier_of a n node b last some)) in
      let h : HasFirst table (Some l.name) (get_or found last None) = subst (λ t. HasFirst table (if t then Some l.name else None) (get_or found last None)) (so_less l.name.behind n l.behind) here in
      let (k, is, first) = h in
      (k, is, record { first = first.first; among = first.among; at = first.at; again = again_through first.first l.name b.name first.again l.again; before = first.before })

  -- ---- from node to node

  pub none_put : (n : ℕ) (found : List (Option ℕ)) → IsBegun table n None → AreFirstsBefore table n found → AreFirstsBefore table (n + 1) found
  none_put n found none f = record {
    derived = d;
    nodes = f.nodes;
    long = f.long;
    are = λ i within. subst (λ o. HasFirst table o (get_or found i None)) (sym (founds.begun_none table d n none i)) (f.are i within);
  }

  pub one_put : (n node : ℕ) (b : Begins table n node) (found : List (Option ℕ)) (new : Option ℕ) → HasFirst table (Some b.name) new → AreFirstsBefore table n found → AreFirstsBefore table (n + 1) (slice_set found node new)
  one_put n node b found new is f = record { derived = d; nodes = f.nodes; long = length-set found node new ∙ f.long; are = λ i within. which i within (eqb_tells i node) }
    where
      which : (i : ℕ) → i < length table → ((nat_eq i node ≡ true) × (i ≡ node)) ⊎ ((nat_eq i node ≡ false) × (i ≢ node)) → HasFirst table (begun_at (n + 1) (name_of (places_in table) i)) (get_or (slice_set found node new) i None)
      which i within (inl (e, same)) =
          subst (λ k. HasFirst table (begun_at (n + 1) (name_of (places_in table) k)) (get_or (slice_set found node new) k None)) (sym same)
          (subst (λ o. HasFirst table o (get_or (slice_set found node new) node None)) (sym (founds.begun_own table d n node b))
          (subst (HasFirst table (Some b.name)) (sym (get_or-set_same found node new None (subst (λ k. node < k) (sym f.long) b.within))) is))
      which i within (inr (e, other)) =
          subst (λ o. HasFirst table o (get_or (slice_set found node new) i None)) (sym (founds.begun_other table d n node b i other))
          (subst (HasFirst table (begun_at n (name_of (places_in table) i))) (sym (get_or-set_other found node i new None other)) (f.are i within))

  pub none_first : length (nodes_in table) ≡ length table → AreFirstsBefore table 0 (replicate (length table) None)
  none_first nodes = record {
    derived = d;
    nodes = nodes;
    long = length-replicate (length table) None;
    are = λ i within. subst (λ o. HasFirst table o (get_or (replicate (length table) None) i None)) (sym (founds.begun_first table d (name_of (places_in table) i))) (get_or-replicate (length table) i None None within);
  }

  pub all_put : (n : ℕ) (found : List (Option ℕ)) → length table ≤ n → AreFirstsBefore table n found → AreFirsts table found
  all_put n found most f = record {
    derived = d;
    nodes = f.nodes;
    long = f.long;
    are = λ i within. subst (λ o. HasFirst table o (get_or found i None)) (founds.begun_all table d n f.nodes most i) (f.are i within);
  }
