-- The last of the names of one text in one scope, from node to node.
use Rattle.std.proofs.Common.{◌≡◌, ◌≢◌, ◌⊎◌, inl, inr, ℕ, ◌+◌, ◌<◌, ◌≤◌, Bool, true, false, ◌&&◌, ◌||◌, cond, List, [], ◌∷◌, length, replicate, Option, Some, None, refl, sym, ap, ◌∙◌, subst, arith, true≢false, get_or}
use Rattle.std.specs.Prelude.{slice_set, unwrap_or, nat_lt, nat_eq, filter, ◌==◌, if◌then◌else◌}
use Rattle.std.specs.List.{AllByRecursion, last_or, list_any}
use Rattle.std.specs.Map.{lookup}
use Rattle.std.specs.Str.{bytes_eq}
use Rattle.std.proofs.lemmas.List.{get_or-set_same, get_or-set_other, get_or-replicate, length-replicate, length-set}
use Rattle.std.proofs.lemmas.Bool.Decides.{eqb_tells}
use Rattle.std.proofs.lemmas.Slice.Eq.{bytes_eq-Decides}
use Rattle.indexmap.specs.IndexMap.{IndexMap}
use Rattle.c_syntax.specs.declared.syntax.SynNode.{SynNode}
use Rattle.c_typing.specs.Places.{has_kid, node_at}
use Rattle.c_typing.specs.Names.{Name, earlier, is_initialized, name_of}
use Rattle.c_typing.proofs.MadeAround.{equal_so, both_true, and_true}
use Rattle.c_nodes.specs.Parents.{nodes_in}
use Rattle.c_names.specs.declared.declarations.Earlier.{Earlier}
use Rattle.c_names.specs.declared.declarations.Key.{Key}
use Rattle.c_names.specs.Texts.{first_of}
use Rattle.c_names.specs.Denoted.{IsDerived, places_in, Among, Begins, IsBegun, node_of}
use Rattle.c_names.specs.Names.{begun_at}
use Rattle.c_names.specs.Earlier.{Sums, IsEarlier, AreEarlier, none_before, members, is_key, recorded, later_of, with_name, IsStep, nothing, noted}
use Rattle.c_names.proofs.ChainLaws.{all_among, passed, Ascend}
use Rattle.c_names.proofs.TableLaws.{one_text_in}
use Rattle.c_names.proofs.UseLaws as uses
use Rattle.c_names.proofs.FoundLaws as founds

-- ---- a list with one more name that passes

same_filter : (t u : Name → Bool) (xs : List Name) → ((x : Name) → Among x xs → t x ≡ u x) → filter t xs ≡ filter u xs
same_filter t u [] h = refl
same_filter t u (x ∷ xs) h = ap (λ b. cond b (x ∷ filter t xs) (filter t xs)) (h x (inl refl)) ∙ ap (λ ys. cond (u x) (x ∷ ys) ys) (same_filter t u xs (λ y i. h y (inr i)))

last_in : (o : Option Name) (xs : List Name) (e : Name) → last_or o xs ≡ Some e → Among e xs ⊎ (o ≡ Some e)
last_in o [] e h = inr h
last_in o (x ∷ xs) e h = by (last_in (Some x) xs e h)
  where
    by : Among e xs ⊎ (Some x ≡ Some e) → Among e (x ∷ xs) ⊎ (o ≡ Some e)
    by (inl i) = inl (inr i)
    by (inr g) = inl (inl (cc g))

last_some : (o : Option Name) (xs : List Name) (x : Name) → last_or o (x ∷ xs) ≡ last_or None (x ∷ xs)
last_some o xs x = refl

-- the last, where e passes besides, whose node is after those before and before those behind
module _ (t u : Name → Bool) (e : Name) (off : t e ≡ false) (on : u e ≡ true) where
  record Last (o : Option Name) (xs : List Name) : Type 0 where
    is : node_of (last_or o (filter u xs)) ≡ Some (later_of (node_of (last_or o (filter t xs))) e.node)
    any : (f : Name → Bool) → list_any f (filter u xs) ≡ (list_any f (filter t xs) || f e)

  not_less : (a b : ℕ) → a < b → nat_lt b a ≡ false
  not_less a b h = grind arith

  less : (a b : ℕ) → a < b → nat_lt a b ≡ true
  less a b h = grind arith

  or_end : (a b : Bool) → (a || b) ≡ (b || a)
  or_end true true = refl
  or_end true false = refl
  or_end false true = refl
  or_end false false = refl

  or_in : (a b c : Bool) → (a || (b || c)) ≡ ((a || b) || c)
  or_in true b c = refl
  or_in false b c = refl

  module _ where
    -- where e is behind o and before the rest
    last_is : (o : Option Name) (xs : List Name) → ((x : Name) → Among x xs → x.node ≢ e.node → u x ≡ t x) → ((d : Name) → o ≡ Some d → d.node < e.node) → Ascend xs → Among e xs → Last o xs
    last_is o (x ∷ xs) same before s (inl is) = record {
      is = ap (λ ys. node_of (last_or o ys)) u_is ∙ (at (filter t xs) refl ∙ sym (ap (λ ys. Some (later_of (node_of (last_or o ys)) e.node)) t_is));
      any = λ f. ap (list_any f) u_is ∙ (or_end (f e) (list_any f (filter t xs)) ∙ ap (λ ys. list_any f ys || f e) (sym t_is));
    }
      where
        above : AllByRecursion (λ (b : Name). e.node < b.node) xs
        above = subst (λ (y : Name). AllByRecursion (λ (b : Name). y.node < b.node) xs) is s.0

        rest : filter u xs ≡ filter t xs
        rest = same_filter u t xs (λ y i. same y (inr i) (λ equal. let l = all_among (λ (b : Name). e.node < b.node) xs above y i in absurd (omega (arith, l, equal))))

        u_is : filter u (x ∷ xs) ≡ e ∷ filter t xs
        u_is = ap (λ y. cond (u y) (y ∷ filter u xs) (filter u xs)) is ∙ (ap (λ b. cond b (e ∷ filter u xs) (filter u xs)) on ∙ ap (λ ys. e ∷ ys) rest)

        t_is : filter t (x ∷ xs) ≡ filter t xs
        t_is = ap (λ y. cond (t y) (y ∷ filter t xs) (filter t xs)) is ∙ ap (λ b. cond b (e ∷ filter t xs) (filter t xs)) off

        at : (ys : List Name) → filter t xs ≡ ys → node_of (last_or o (e ∷ ys)) ≡ Some (later_of (node_of (last_or o ys)) e.node)
        at [] g = first o before
          where
            first : (o : Option Name) → ((d : Name) → o ≡ Some d → d.node < e.node) → Some e.node ≡ Some (later_of (node_of o) e.node)
            first None h = refl
            first (Some d) h = ap (λ b. Some (if b then d.node else e.node)) (sym (not_less d.node e.node (h d refl)))
        at (y ∷ ys) g = by (last_or None (y ∷ ys)) refl
          where
            by : (p : Option Name) → last_or None (y ∷ ys) ≡ p → node_of (last_or None (y ∷ ys)) ≡ Some (later_of (node_of (last_or None (y ∷ ys))) e.node)
            by None h = absurd (none_last ys y h)
              where
                none_last : (ys : List Name) (y : Name) → last_or (Some y) ys ≡ None → ⊥
                none_last [] y h = absurd (cc h)
                none_last (z ∷ ys) y h = none_last ys z h
            by (Some d) h = ap node_of h ∙ (ap (λ b. Some (if b then d.node else e.node)) (sym (less e.node d.node (after (last_in None (y ∷ ys) d h)))) ∙ ap (λ q. Some (later_of (node_of q) e.node)) (sym h))
              where
                after : Among d (y ∷ ys) ⊎ (None ≡ Some d) → e.node < d.node
                after (inr q) = absurd (cc q)
                after (inl i) = all_among (λ (b : Name). e.node < b.node) xs above d (passed t xs d (subst (Among d) (sym g) i)).0
    last_is o (x ∷ xs) same before s (inr i) =
        by (t x) refl (last_is (Some x) xs (λ y j. same y (inr j)) (λ d h. subst (λ (y : Name). y.node < e.node) (some_same h) x_less) s.1 i) (last_is o xs (λ y j. same y (inr j)) before s.1 i)
      where
        some_same : {a b : Name} → Some a ≡ Some b → a ≡ b
        some_same h = cc h

        x_less : x.node < e.node
        x_less = all_among (λ (b : Name). x.node < b.node) xs s.0 e i

        ux : u x ≡ t x
        ux = same x (inl refl) (λ equal. let l = x_less in absurd (omega (arith, l, equal)))

        by : (b : Bool) → t x ≡ b → Last (Some x) xs → Last o xs → Last o (x ∷ xs)
        by true h more other = record {
          is = ap (λ c. node_of (last_or o (cond c (x ∷ filter u xs) (filter u xs)))) (ux ∙ h) ∙ (more.is ∙ sym (ap (λ c. Some (later_of (node_of (last_or o (cond c (x ∷ filter t xs) (filter t xs)))) e.node)) h));
          any = λ f. ap (λ c. list_any f (cond c (x ∷ filter u xs) (filter u xs))) (ux ∙ h)
              ∙ (ap (λ c. f x || c) (more.any f) ∙ (or_in (f x) (list_any f (filter t xs)) (f e) ∙ sym (ap (λ c. list_any f (cond c (x ∷ filter t xs) (filter t xs)) || f e) h)));
        }
        by false h more other = record {
          is = ap (λ c. node_of (last_or o (cond c (x ∷ filter u xs) (filter u xs)))) (ux ∙ h) ∙ (other.is ∙ sym (ap (λ c. Some (later_of (node_of (last_or o (cond c (x ∷ filter t xs) (filter t xs)))) e.node)) h));
          any = λ f. ap (λ c. list_any f (cond c (x ∷ filter u xs) (filter u xs))) (ux ∙ h) ∙ (other.any f ∙ sym (ap (λ c. list_any f (cond c (x ∷ filter t xs) (filter t xs)) || f e) h));
        }
    last_is o [] same before s i = absurd i

-- ---- what a map has for each text and scope

abbrev pub Names : List SynNode → List Name
Names table = (places_in table).names

-- for the names that begin before the node n
abbrev pub AreLatest : {S : Type 0} → List SynNode → ℕ → IndexMap Key Earlier S → Type 0
AreLatest table n map = (text : List ℕ) (t o : ℕ) → first_of (nodes_in table) text ≡ Some t → Sums table (members (Names table) n text o) (recorded map t o)

-- the names that begin before it have what was declared before
pub record AreNoted (table : List SynNode) (n : ℕ) (found : List Earlier) : Type 0 where
  pub long : length found ≡ length table
  pub are : (i : ℕ) → i < length table → IsEarlier table (begun_at n (name_of (places_in table) i)) (get_or found i none_before)

less_so : (a b : ℕ) → nat_lt a b ≡ true → a < b
less_so a b e = grind arith

so_less : (a b : ℕ) → a < b → nat_lt a b ≡ true
so_less a b h = grind arith

not_own : (n : ℕ) → nat_lt n n ≡ false
not_own n = grind arith

own_next : (n : ℕ) → nat_lt n (n + 1) ≡ true
own_next n = grind arith

next_less : (a n : ℕ) → (a ≡ n → ⊥) → nat_lt a (n + 1) ≡ nat_lt a n
next_less a n h = grind arith

same_number : (a b : ℕ) → a ≡ b → (a == b) ≡ true
same_number a b e = grind arith

none_less : (a : ℕ) → nat_lt a 0 ≡ false
none_less a = grind arith

and_no : (b : Bool) → (b && false) ≡ false
and_no true = refl
and_no false = refl

no_members : (names : List Name) (text : List ℕ) (o : ℕ) → members names 0 text o ≡ []
no_members [] text o = refl
no_members (x ∷ xs) text o =
    ap (λ b. cond b (x ∷ members xs 0 text o) (members xs 0 text o)) (ap (λ c. (bytes_eq x.text text && x.scope.owner == o) && c) (none_less x.behind) ∙ and_no (bytes_eq x.text text && x.scope.owner == o))
    ∙ no_members xs text o

module _ (table : List SynNode) (d : IsDerived table) where
  abbrev Is : ℕ → List ℕ → ℕ → Name → Bool
  Is n text o a = (bytes_eq a.text text && a.scope.owner == o) && nat_lt a.behind n

  ascend : Ascend (Names table)
  ascend = uses.ascend table d

  -- ---- nothing begins behind the node n

  same_members : (n : ℕ) (text : List ℕ) (o : ℕ) → ((e : Name) → Among e (Names table) → e.behind ≡ n → (bytes_eq e.text text && e.scope.owner == o) ≡ false) → members (Names table) (n + 1) text o ≡ members (Names table) n text o
  same_members n text o none = same_filter (Is (n + 1) text o) (Is n text o) (Names table) (λ a i. by a i (eqb_tells a.behind n))
    where
      off : (b c : Bool) → b ≡ false → (b && c) ≡ false
      off false c e = refl
      off true c e = absurd (true≢false e)

      by : (a : Name) → Among a (Names table) → ((nat_eq a.behind n ≡ true) × (a.behind ≡ n)) ⊎ ((nat_eq a.behind n ≡ false) × (a.behind ≢ n)) → Is (n + 1) text o a ≡ Is n text o a
      by a i (inr (e, other)) = ap (λ c. (bytes_eq a.text text && a.scope.owner == o) && c) (next_less a.behind n other)
      by a i (inl (e, same)) =
          let no = none a i same in
          off (bytes_eq a.text text && a.scope.owner == o) (nat_lt a.behind (n + 1)) no ∙ sym (off (bytes_eq a.text text && a.scope.owner == o) (nat_lt a.behind n) no)

  pub latest_same : {S : Type 0} (n : ℕ) (map : IndexMap Key Earlier S) → IsBegun table n None → AreLatest table n map → AreLatest table (n + 1) map
  latest_same n map none a = λ text t o is. subst (λ xs. Sums table xs (recorded map t o)) (sym (same_members n text o (λ e i at. absurd (none e i at)))) (a text t o is)

  -- ---- a name begins behind it

  module _ (n node text : ℕ) (b : Begins table n node) (is : first_of (nodes_in table) b.name.text ≡ Some text) where
    one_more : Last (Is n b.name.text b.name.scope.owner) (Is (n + 1) b.name.text b.name.scope.owner) b.name
        (ap (λ c. (bytes_eq b.name.text b.name.text && b.name.scope.owner == b.name.scope.owner) && c) (ap (λ k. nat_lt k n) b.behind ∙ not_own n) ∙ and_no (bytes_eq b.name.text b.name.text && b.name.scope.owner == b.name.scope.owner))
        (and_true (bytes_eq b.name.text b.name.text && b.name.scope.owner == b.name.scope.owner) (nat_lt b.name.behind (n + 1))
        (and_true (bytes_eq b.name.text b.name.text) (b.name.scope.owner == b.name.scope.owner) ((bytes_eq-Decides b.name.text b.name.text).1 refl) (same_number b.name.scope.owner b.name.scope.owner refl))
        (ap (λ k. nat_lt k (n + 1)) b.behind ∙ own_next n))
        None (Names table)
    one_more = last_is (Is n b.name.text b.name.scope.owner) (Is (n + 1) b.name.text b.name.scope.owner) b.name _ _ None (Names table)
        (λ x i other. ap (λ c. (bytes_eq x.text b.name.text && x.scope.owner == b.name.scope.owner) && c) (next_less x.behind n (λ at. other (ap (λ (y : Name). y.node) (b.alone x i at)))))
        (λ q h. absurd (cc h)) ascend b.among

    kid_of : is_initialized (places_in table) b.name ≡ has_kid (node_at (nodes_in table) b.name.owner) 1
    unfolding places_in nodes_in
    kid_of = refl

    sums_more : (x : Earlier) → Sums table (members (Names table) n b.name.text b.name.scope.owner) x
        → Sums table (members (Names table) (n + 1) b.name.text b.name.scope.owner) (with_name x node (has_kid (node_at (nodes_in table) b.name.owner) 1))
    sums_more x s = record {
      last = ap (λ k. Some (later_of x.last k)) (sym b.at) ∙ (ap (λ l. Some (later_of l b.name.node)) s.last ∙ sym one_more.is);
      initialized = ap (λ c. c || has_kid (node_at (nodes_in table) b.name.owner) 1) s.initialized
          ∙ (ap (λ c. list_any (is_initialized (places_in table)) (members (Names table) n b.name.text b.name.scope.owner) || c) (sym kid_of) ∙ sym (one_more.any (is_initialized (places_in table))));
    }

    pub latest_noted : {S : Type 0} (old new : IndexMap Key Earlier S)
        → recorded new text b.name.scope.owner ≡ with_name (recorded old text b.name.scope.owner) node (has_kid (node_at (nodes_in table) b.name.owner) 1)
        → ((t o : ℕ) → (t ≡ text → o ≡ b.name.scope.owner → ⊥) → recorded new t o ≡ recorded old t o) → AreLatest table n old → AreLatest table (n + 1) new
    latest_noted {S} old new here others a = λ q t o first. by q t o first (eqb_tells t text) (eqb_tells o b.name.scope.owner)
      where
        other : (q : List ℕ) (t o : ℕ) → first_of (nodes_in table) q ≡ Some t → (t ≡ text → o ≡ b.name.scope.owner → ⊥) → Sums table (members (Names table) (n + 1) q o) (recorded new t o)
        other q t o first apart =
            subst (Sums table (members (Names table) (n + 1) q o)) (sym (others t o apart))
            (subst (λ xs. Sums table xs (recorded old t o)) (sym (same_members n q o (λ e i at. not_both e (b.alone e i at) (bytes_eq e.text q && e.scope.owner == o) refl))) (a q t o first))
          where
            not_both : (e : Name) → e ≡ b.name → (c : Bool) → (bytes_eq e.text q && e.scope.owner == o) ≡ c → (bytes_eq e.text q && e.scope.owner == o) ≡ false
            not_both e same false g = g
            not_both e same true g =
                let p = both_true (bytes_eq e.text q) (e.scope.owner == o) g in
                let words : b.name.text ≡ q = ap (λ (y : Name). y.text) (sym same) ∙ (bytes_eq-Decides e.text q).0 p.0 in
                let owner : b.name.scope.owner ≡ o = ap (λ (y : Name). y.scope.owner) (sym same) ∙ equal_so e.scope.owner o p.1 in
                absurd (apart (founds.some_same (sym first ∙ (ap (first_of (nodes_in table)) (sym words) ∙ is))) (sym owner))

        by : (q : List ℕ) (t o : ℕ) → first_of (nodes_in table) q ≡ Some t → ((nat_eq t text ≡ true) × (t ≡ text)) ⊎ ((nat_eq t text ≡ false) × (t ≢ text))
            → ((nat_eq o b.name.scope.owner ≡ true) × (o ≡ b.name.scope.owner)) ⊎ ((nat_eq o b.name.scope.owner ≡ false) × (o ≢ b.name.scope.owner)) → Sums table (members (Names table) (n + 1) q o) (recorded new t o)
        by q t o first (inr (e, differs)) p = other q t o first (λ f g. differs f)
        by q t o first p (inr (e, differs)) = other q t o first (λ f g. differs g)
        by q t o first (inl (e, f)) (inl (g, h)) =
            let words : q ≡ b.name.text = one_text_in table d q b.name.text t first (is ∙ ap Some (sym f)) in
            subst (λ w. Sums table (members (Names table) (n + 1) w o) (recorded new t o)) (sym words)
            (subst (λ k. Sums table (members (Names table) (n + 1) b.name.text k) (recorded new t k)) (sym h)
            (subst (λ k. Sums table (members (Names table) (n + 1) b.name.text b.name.scope.owner) (recorded new k b.name.scope.owner)) (sym f)
            (subst (Sums table (members (Names table) (n + 1) b.name.text b.name.scope.owner)) (sym here) (sums_more (recorded old text b.name.scope.owner) (a b.name.text text b.name.scope.owner is)))))

    pub found_noted : {S : Type 0} (old : IndexMap Key Earlier S) (found : List Earlier) → AreLatest table n old → AreNoted table n found → AreNoted table (n + 1) (slice_set found node (recorded old text b.name.scope.owner))
    found_noted {S} old found a f = record { long = length-set found node (recorded old text b.name.scope.owner) ∙ f.long; are = λ i within. which i within (eqb_tells i node) }
      where
        which : (i : ℕ) → i < length table → ((nat_eq i node ≡ true) × (i ≡ node)) ⊎ ((nat_eq i node ≡ false) × (i ≢ node))
            → IsEarlier table (begun_at (n + 1) (name_of (places_in table) i)) (get_or (slice_set found node (recorded old text b.name.scope.owner)) i none_before)
        which i within (inl (e, same)) =
            subst (λ k. IsEarlier table (begun_at (n + 1) (name_of (places_in table) k)) (get_or (slice_set found node (recorded old text b.name.scope.owner)) k none_before)) (sym same)
            (subst (λ x. IsEarlier table x (get_or (slice_set found node (recorded old text b.name.scope.owner)) node none_before)) (sym (founds.begun_own table d n node b))
            (subst (Sums table (earlier (places_in table) b.name)) (sym (get_or-set_same found node (recorded old text b.name.scope.owner) none_before (subst (λ k. node < k) (sym f.long) b.within)))
            (subst (λ k. Sums table (members (Names table) k b.name.text b.name.scope.owner) (recorded old text b.name.scope.owner)) (sym b.behind) (a b.name.text text b.name.scope.owner is))))
        which i within (inr (e, other)) =
            subst (λ x. IsEarlier table x (get_or (slice_set found node (recorded old text b.name.scope.owner)) i none_before)) (sym (founds.begun_other table d n node b i other))
            (subst (IsEarlier table (begun_at n (name_of (places_in table) i))) (sym (get_or-set_other found node i (recorded old text b.name.scope.owner) none_before other)) (f.are i within))

  -- ---- all of it

  pub step : {S : Type 0} (n : ℕ) (old new : IndexMap Key Earlier S) (found after : List Earlier) → IsStep table n old new found after
      → AreLatest table n old → AreNoted table n found → AreLatest table (n + 1) new × AreNoted table (n + 1) after
  step n old new found after (nothing none same kept) a f = (
    subst (AreLatest table (n + 1)) (sym same) (latest_same n old none a),
    subst (AreNoted table (n + 1)) (sym kept) (record { long = f.long; are = λ i within. subst (λ x. IsEarlier table x (get_or found i none_before)) (sym (founds.begun_none table d n none i)) (f.are i within) }),
  )
  step n old new found after (noted node text b is set here others) a f =
      (latest_noted n node text b is old new here others a, subst (AreNoted table (n + 1)) (sym set) (found_noted n node text b is old found a f))

  pub noted_first : AreNoted table 0 (replicate (length table) none_before)
  noted_first = record {
    long = length-replicate (length table) none_before;
    are = λ i within. subst (λ x. IsEarlier table x (get_or (replicate (length table) none_before) i none_before)) (sym (founds.begun_first table d (name_of (places_in table) i))) (get_or-replicate (length table) i none_before none_before within);
  }

  pub latest_first : {S : Type 0} (map : IndexMap Key Earlier S) → ((t o : ℕ) → recorded map t o ≡ none_before) → AreLatest table 0 map
  latest_first map empty = λ text t o is.
      subst (Sums table (members (Names table) 0 text o)) (sym (empty t o))
      (subst (λ xs. Sums table xs none_before) (sym (no_members (Names table) text o)) (record { last = refl; initialized = refl }))

  pub noted_all : (n : ℕ) (found : List Earlier) → length (nodes_in table) ≡ length table → length table ≤ n → AreNoted table n found → AreEarlier table found
  noted_all n found long most f = record { long = f.long; are = λ i within. subst (λ x. IsEarlier table x (get_or found i none_before)) (founds.begun_all table d n long most i) (f.are i within) }

-- ---- a map with another record

module _ {S : Type 0} (old new : IndexMap Key Earlier S) (text owner : ℕ) (x : Earlier) where
  not_key : (t o : ℕ) → (t ≡ text → o ≡ owner → ⊥) → is_key text owner (record { text = t; owner = o }) ≡ false
  not_key t o differs = by (text == t) refl (owner == o) refl
    where
      by : (a : Bool) → (text == t) ≡ a → (b : Bool) → (owner == o) ≡ b → is_key text owner (record { text = t; owner = o }) ≡ false
      by false e b f = ap (λ c. c && (owner == o)) e
      by true e false f = ap (λ c. c && (owner == o)) e ∙ f
      by true e true f = absurd (differs (sym (equal_so text t e)) (sym (equal_so owner o f)))

  pub recorded_here : lookup (is_key text owner) new.entries ≡ Some x → recorded new text owner ≡ x
  recorded_here e = ap (λ o. unwrap_or o none_before) e

  pub recorded_other : ((q : Key) → is_key text owner q ≡ false → lookup (is_key q.text q.owner) new.entries ≡ lookup (is_key q.text q.owner) old.entries)
      → (t o : ℕ) → (t ≡ text → o ≡ owner → ⊥) → recorded new t o ≡ recorded old t o
  recorded_other same t o differs = ap (λ o. unwrap_or o none_before) (same (record { text = t; owner = o }) (not_key t o differs))
