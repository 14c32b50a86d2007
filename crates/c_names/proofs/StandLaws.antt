-- A chain stands for the names of one text that have been entered: what it says from a node on is what the names say.
use Rattle.std.proofs.Common.{◌≡◌, ◌⊎◌, inl, inr, ℕ, ◌+◌, ◌<◌, ◌≤◌, true, false, List, [], ◌∷◌, ◌++◌, Option, Some, None, refl, sym, ap, ◌∙◌, subst, arith, true≢false}
use Rattle.std.specs.List.{AllByRecursion}
use Rattle.c_typing.specs.Places.{Scope, in_scope, end_of, no_scope}
use Rattle.c_typing.specs.Names.{Name}
use Rattle.c_nodes.specs.Scopes.{scope_of}
use Rattle.c_names.specs.declared.chain.Entry.{Entry}
use Rattle.c_names.specs.Chains.{end_in, is_seen, IsEnded, IsVisible, later, IsPut, outermost, inside, again, IsEntered}
use Rattle.c_names.specs.Denoted.{Among}
use Rattle.c_names.proofs.ChainLaws.{in_front, in_back, in_either, all_among, among_all, Before, Descend, descend_front, descend_back, descend_with, ends_later, later_is, seen_not_ended}

-- scopes that end at one node are one
abbrev pub EndApart : List Scope → Type 0
EndApart scopes = (c d : Scope) → Among c scopes → Among d scopes → end_of c ≡ end_of d → c ≡ d

module _ (names : List Name) (scopes : List Scope) (Is : Name → Type 0) where
  -- the entry of a name whose scope begins before the node n
  pub record Entered (n : ℕ) (d : Entry) : Type 0 where
    pub name : Name
    pub among : Among name names
    pub is : Is name
    pub node : name.node ≡ d.node
    pub scope : name.scope ≡ scope_of d.scope
    pub known : Among (scope_of d.scope) scopes
    pub behind : name.behind < n

  -- the chain has a name that is seen from the node m, and comes before this one
  pub record Covers (chain : List Entry) (m : ℕ) (a : Name) : Type 0 where
    pub entry : Entry
    pub among : Among entry chain
    pub seen : is_seen m entry ≡ true
    pub before : (end_in entry < end_of a.scope) ⊎ ((end_in entry ≡ end_of a.scope) × (a.node ≤ entry.node))

  pub record Stands (n : ℕ) (chain : List Entry) : Type 0 where
    pub entered : (d : Entry) → Among d chain → Entered n d
    pub descend : Descend chain
    pub covers : (a : Name) → Among a names → Is a → a.behind < n → (m : ℕ) → n ≤ m → in_scope a.scope m ≡ true → Covers chain m a

  pub stands_first : Stands 0 []
  stands_first = record { entered = λ d i. absurd i; descend = tt; covers = λ a i is low. absurd (omega (arith, low)) }

  entered_more : (n : ℕ) (d : Entry) → Entered n d → Entered (n + 1) d
  entered_more n d e = let low = e.behind in record { name = e.name; among = e.among; is = e.is; node = e.node; scope = e.scope; known = e.known; behind = omega (arith, low) }

  less_or : (a n : ℕ) → a < n + 1 → (a < n) ⊎ (a ≡ n)
  less_or a n h = grind arith

  -- no name of this text that can be seen begins behind the node n
  pub stands_same : (n : ℕ) (chain : List Entry) → ((e : Name) → Among e names → Is e → e.behind ≡ n → e.scope ≡ no_scope) → Stands n chain → Stands (n + 1) chain
  stands_same n chain none s = record {
    entered = λ d i. entered_more n d (s.entered d i);
    descend = s.descend;
    covers = λ a i is low m after seen. by a i is (less_or a.behind n low) m after seen;
  }
    where
      nowhere_in : (m : ℕ) → in_scope no_scope m ≡ true → ⊥
      nowhere_in m e = grind arith

      by : (a : Name) → Among a names → Is a → (a.behind < n) ⊎ (a.behind ≡ n) → (m : ℕ) → n + 1 ≤ m → in_scope a.scope m ≡ true → Covers chain m a
      by a i is (inl low) m after seen = s.covers a i is low m (omega (arith, after)) seen
      by a i is (inr at) m after seen = absurd (nowhere_in m (subst (λ (c : Scope). in_scope c m ≡ true) (none a i is at) seen))

  -- ---- without names whose scopes have ended

  stands_kept : (n : ℕ) (kept dropped : List Entry) → AllByRecursion (IsEnded n) dropped → Stands n (kept ++ dropped) → Stands n kept
  stands_kept n kept dropped ended s = record {
    entered = λ d i. s.entered d (in_front d kept dropped i);
    descend = descend_front kept dropped s.descend;
    covers = λ a i is low m after seen. by m after (s.covers a i is low m after seen);
  }
    where
      by : {a : Name} (m : ℕ) → n ≤ m → Covers (kept ++ dropped) m a → Covers kept m a
      by {a} m after c = at (in_either c.entry kept dropped c.among)
        where
          at : Among c.entry kept ⊎ Among c.entry dropped → Covers kept m a
          at (inl i) = record { entry = c.entry; among = i; seen = c.seen; before = c.before }
          at (inr i) = absurd (seen_not_ended n m c.entry (all_among (IsEnded n) dropped ended c.entry i) after c.seen)

  -- ---- with one more name

  module _ (apart : EndApart scopes) (n : ℕ) (e : Entry) (name : Name) (among : Among name names) (is : Is name) (node : name.node ≡ e.node) (scope : name.scope ≡ scope_of e.scope)
      (known : Among (scope_of e.scope) scopes) (behind : name.behind ≡ n) (alone : (a : Name) → Among a names → a.behind ≡ n → a ≡ name) where
    own : Entered (n + 1) e
    own = record { name = name; among = among; is = is; node = node; scope = scope; known = known; behind = omega (arith, behind) }

    -- where each old name stands in the new chain, or is one of the same scope
    abbrev Kept : List Entry → List Entry → Type 0
    Kept old new = (d : Entry) → Among d old → (x : Entry) × Among x new × (scope_of x.scope ≡ scope_of d.scope) × (d.node ≤ x.node)

    abbrev Has : List Entry → Type 0
    Has new = (x : Entry) × Among x new × (scope_of x.scope ≡ scope_of e.scope) × (e.node ≤ x.node)

    covered : (old new : List Entry) → Kept old new → Has new → Stands n old → (a : Name) → Among a names → Is a → (a.behind < n) ⊎ (a.behind ≡ n) → (m : ℕ) → n + 1 ≤ m → in_scope a.scope m ≡ true → Covers new m a
    covered old new kept has s a i p (inl low) m after seen = by (s.covers a i p low m (omega (arith, after)) seen)
      where
        by : Covers old m a → Covers new m a
        by c = let x = kept c.entry c.among in record { entry = x.0; among = x.1; seen = ap (λ q. in_scope q m) x.2 ∙ c.seen; before = at x c.before }
          where
            at : (x : (x : Entry) × Among x new × (scope_of x.scope ≡ scope_of c.entry.scope) × (c.entry.node ≤ x.node)) → (end_in c.entry < end_of a.scope) ⊎ ((end_in c.entry ≡ end_of a.scope) × (a.node ≤ c.entry.node))
                → (end_in (x.0) < end_of a.scope) ⊎ ((end_in (x.0) ≡ end_of a.scope) × (a.node ≤ (x.0).node))
            at x (inl less) = let same : end_in (x.0) ≡ end_in c.entry = ap end_of x.2 in inl (omega (arith, less, same))
            at x (inr q) = let same : end_in (x.0) ≡ end_in c.entry = ap end_of x.2 in let up = x.3 in let low = q.1 in inr (same ∙ q.0, omega (arith, up, low))
    covered old new kept has s a i p (inr at) m after seen =
        let it = alone a i at in
        let same : (has.0).scope ≡ (has.0).scope = refl in
        let here : scope_of (has.0).scope ≡ a.scope = has.2 ∙ (sym scope ∙ ap (λ (b : Name). b.scope) (sym it)) in
        let number : a.node ≡ e.node = ap (λ (b : Name). b.node) it ∙ node in
        let low = has.3 in
        record { entry = has.0; among = has.1; seen = ap (λ q. in_scope q m) here ∙ seen; before = inr (ap end_of here, omega (arith, number, low)) }

    put : (old new : List Entry) → IsPut e old new → Stands n old → Stands (n + 1) new
    put old new (outermost less is_new) s = subst (Stands (n + 1)) (sym is_new) (record {
      entered = entered;
      descend = (less, s.descend);
      covers = λ a i p low m after seen. covered old (e ∷ old) (λ d j. (d, inr j, refl, omega arith)) (e, inl refl, refl, omega arith) s a i p (less_or a.behind n low) m after seen;
    })
      where
        entered : (d : Entry) → Among d (e ∷ old) → Entered (n + 1) d
        entered d (inl same) = subst (Entered (n + 1)) same own
        entered d (inr i) = entered_more n d (s.entered d i)
    put old new (inside outer o inner is_old above less is_new) s = subst (Stands (n + 1)) (sym is_new) (record {
      entered = λ d i. entered d (in_either d outer (o ∷ e ∷ inner) i);
      descend = descend_with outer o inner (o ∷ e ∷ inner) sorted ((above, among_all (λ d. end_in d < end_in o) inner lower), (less, tail)) below;
      covers = λ a i p low m after seen. covered old (outer ++ o ∷ e ∷ inner) kept (e, in_back e outer (o ∷ e ∷ inner) (inr (inl refl)), refl, omega arith) s a i p (less_or a.behind n low) m after seen;
    })
      where
        sorted : Descend (outer ++ o ∷ inner)
        sorted = subst Descend is_old s.descend

        tail : Descend inner
        tail = (descend_back outer (o ∷ inner) sorted).1

        lower : (d : Entry) → Among d inner → end_in d < end_in o
        lower d i = all_among (λ x. end_in x < end_in o) inner (descend_back outer (o ∷ inner) sorted).0 d i

        below : (z : Entry) → Among z (o ∷ e ∷ inner) → end_in z ≤ end_in o
        below z (inl same) = let q : end_in o ≡ end_in z = ap end_in same in omega (arith, q)
        below z (inr (inl same)) = let q : end_in e ≡ end_in z = ap end_in same in omega (arith, q, above)
        below z (inr (inr i)) = let q = lower z i in omega (arith, q)

        from_old : (d : Entry) → Among d (outer ++ o ∷ inner) → Entered n d
        from_old d i = s.entered d (subst (Among d) (sym is_old) i)

        entered : (d : Entry) → Among d outer ⊎ Among d (o ∷ e ∷ inner) → Entered (n + 1) d
        entered d (inl i) = entered_more n d (from_old d (in_front d outer (o ∷ inner) i))
        entered d (inr (inl same)) = entered_more n d (from_old d (in_back d outer (o ∷ inner) (inl same)))
        entered d (inr (inr (inl same))) = subst (Entered (n + 1)) same own
        entered d (inr (inr (inr i))) = entered_more n d (from_old d (in_back d outer (o ∷ inner) (inr i)))

        kept : Kept old (outer ++ o ∷ e ∷ inner)
        kept d i = by (in_either d outer (o ∷ inner) (subst (Among d) is_old i))
          where
            by : Among d outer ⊎ Among d (o ∷ inner) → (x : Entry) × Among x (outer ++ o ∷ e ∷ inner) × (scope_of x.scope ≡ scope_of d.scope) × (d.node ≤ x.node)
            by (inl j) = (d, in_front d outer (o ∷ e ∷ inner) j, refl, omega arith)
            by (inr (inl same)) = (d, in_back d outer (o ∷ e ∷ inner) (inl same), refl, omega arith)
            by (inr (inr j)) = (d, in_back d outer (o ∷ e ∷ inner) (inr (inr j)), refl, omega arith)
    put old new (again outer o inner is_old equal less is_new) s = subst (Stands (n + 1)) (sym is_new) (record {
      entered = λ d i. entered d (in_either d outer (l ∷ inner) i);
      descend = descend_with outer o inner (l ∷ inner) sorted (among_all (λ d. end_in d < end_in l) inner lower, tail) below;
      covers = λ a i p low m after seen. covered old (outer ++ l ∷ inner) kept (l, in_back l outer (l ∷ inner) (inl refl), l_scope, l_most) s a i p (less_or a.behind n low) m after seen;
    })
      where
        l : Entry
        l = later o e

        sorted : Descend (outer ++ o ∷ inner)
        sorted = subst Descend is_old s.descend

        tail : Descend inner
        tail = (descend_back outer (o ∷ inner) sorted).1

        from_old : (d : Entry) → Among d (outer ++ o ∷ inner) → Entered n d
        from_old d i = s.entered d (subst (Among d) (sym is_old) i)

        one : scope_of o.scope ≡ scope_of e.scope
        one = apart (scope_of o.scope) (scope_of e.scope) (from_old o (in_back o outer (o ∷ inner) (inl refl))).known known (sym equal)

        l_scope : scope_of l.scope ≡ scope_of e.scope
        l_scope = by (later_is o e)
          where
            by : (later o e ≡ e) × (o.node < e.node) ⊎ (later o e ≡ o) × (e.node ≤ o.node) → scope_of (later o e).scope ≡ scope_of e.scope
            by (inl q) = ap (λ (x : Entry). scope_of x.scope) q.0
            by (inr q) = ap (λ (x : Entry). scope_of x.scope) q.0 ∙ one

        l_end : end_in l ≡ end_in o
        l_end = ap end_of l_scope ∙ equal

        l_most : e.node ≤ l.node
        l_most = by (later_is o e)
          where
            by : (later o e ≡ e) × (o.node < e.node) ⊎ (later o e ≡ o) × (e.node ≤ o.node) → e.node ≤ (later o e).node
            by (inl q) = let same : (later o e).node ≡ e.node = ap (λ (x : Entry). x.node) q.0 in omega (arith, same)
            by (inr q) = let same : (later o e).node ≡ o.node = ap (λ (x : Entry). x.node) q.0 in let low = q.1 in omega (arith, same, low)

        o_most : o.node ≤ l.node
        o_most = by (later_is o e)
          where
            by : (later o e ≡ e) × (o.node < e.node) ⊎ (later o e ≡ o) × (e.node ≤ o.node) → o.node ≤ (later o e).node
            by (inl q) = let same : (later o e).node ≡ e.node = ap (λ (x : Entry). x.node) q.0 in let low = q.1 in omega (arith, same, low)
            by (inr q) = let same : (later o e).node ≡ o.node = ap (λ (x : Entry). x.node) q.0 in omega (arith, same)

        lower : (d : Entry) → Among d inner → end_in d < end_in l
        lower d i = let q = all_among (λ x. end_in x < end_in e) inner less d i in let r = l_end in omega (arith, q, r, equal)

        below : (z : Entry) → Among z (l ∷ inner) → end_in z ≤ end_in o
        below z (inl same) = let q : end_in l ≡ end_in z = ap end_in same in let r = l_end in omega (arith, q, r)
        below z (inr i) = let q = lower z i in let r = l_end in omega (arith, q, r)

        entered_later : Entered (n + 1) l
        entered_later = by (later_is o e)
          where
            by : (later o e ≡ e) × (o.node < e.node) ⊎ (later o e ≡ o) × (e.node ≤ o.node) → Entered (n + 1) (later o e)
            by (inl q) = subst (Entered (n + 1)) (sym q.0) own
            by (inr q) = subst (Entered (n + 1)) (sym q.0) (entered_more n o (from_old o (in_back o outer (o ∷ inner) (inl refl))))

        entered : (d : Entry) → Among d outer ⊎ Among d (l ∷ inner) → Entered (n + 1) d
        entered d (inl i) = entered_more n d (from_old d (in_front d outer (o ∷ inner) i))
        entered d (inr (inl same)) = subst (Entered (n + 1)) same entered_later
        entered d (inr (inr i)) = entered_more n d (from_old d (in_back d outer (o ∷ inner) (inr i)))

        kept : Kept old (outer ++ l ∷ inner)
        kept d i = by (in_either d outer (o ∷ inner) (subst (Among d) is_old i))
          where
            by : Among d outer ⊎ Among d (o ∷ inner) → (x : Entry) × Among x (outer ++ l ∷ inner) × (scope_of x.scope ≡ scope_of d.scope) × (d.node ≤ x.node)
            by (inl j) = (d, in_front d outer (l ∷ inner) j, refl, omega arith)
            by (inr (inl same)) =
                let up = o_most in
                let number : o.node ≡ d.node = ap (λ (x : Entry). x.node) same in
                (l, in_back l outer (l ∷ inner) (inl refl), l_scope ∙ (sym one ∙ ap (λ (x : Entry). scope_of x.scope) same), omega (arith, up, number))
            by (inr (inr j)) = (d, in_back d outer (l ∷ inner) (inr j), refl, omega arith)

    pub stands_more : (old new : List Entry) → IsEntered n e old new → Stands n old → Stands (n + 1) new
    stands_more old new (kept, dropped, split, ended, is_put) s = put kept new is_put (stands_kept n kept dropped ended (subst (Stands n) split s))

  -- ---- what is seen

  pub data Seen (n : ℕ) (found : Option ℕ) : Type 0 where
    nothing : found ≡ None → ((a : Name) → Among a names → Is a → a.behind < n → in_scope a.scope n ≡ true → ⊥) → Seen n found
    best : (a : Name) → found ≡ Some a.node → Among a names → Is a → a.behind < n → in_scope a.scope n ≡ true
        → ((b : Name) → Among b names → Is b → b.behind < n → in_scope b.scope n ≡ true → Before a b) → Seen n found

  pub seen_from : (n : ℕ) (chain : List Entry) (found : Option ℕ) → Stands n chain → IsVisible n chain found → Seen n found
  seen_from n chain None s none = nothing refl (λ a i is low seen. by (s.covers a i is low n (omega arith) seen))
    where
      by : {a : Name} → Covers chain n a → ⊥
      by c = true≢false (sym c.seen ∙ all_among (λ e. is_seen n e ≡ false) chain none c.entry c.among)
  seen_from n chain (Some node) s (outer, e, inner, split, is, seen, none) =
      let own = s.entered e (subst (Among e) (sym split) (in_back e outer (e ∷ inner) (inl refl))) in
      let number : node ≡ own.name.node = sym is ∙ sym own.node in
      best own.name (ap Some number) own.among own.is own.behind (ap (λ c. in_scope c n) own.scope ∙ seen) (λ b i p low h. by own b (s.covers b i p low n (omega arith) h))
    where
      sorted : Descend (outer ++ e ∷ inner)
      sorted = subst Descend split s.descend

      by : (own : Entered n e) (b : Name) → Covers chain n b → Before own.name b
      by own b c = at (in_either c.entry outer (e ∷ inner) (subst (Among c.entry) split c.among))
        where
          ends : end_of own.name.scope ≡ end_in e
          ends = ap end_of own.scope

          at : Among c.entry outer ⊎ Among c.entry (e ∷ inner) → Before own.name b
          at (inl i) = let less = ends_later outer e inner sorted c.entry i in let q = ends in further less q c.before
            where
              further : end_in e < end_in c.entry → end_of own.name.scope ≡ end_in e → (end_in c.entry < end_of b.scope) ⊎ ((end_in c.entry ≡ end_of b.scope) × (b.node ≤ c.entry.node)) → Before own.name b
              further less q (inl r) = inl (omega (arith, less, q, r))
              further less q (inr r) = let t = r.0 in inl (omega (arith, less, q, t))
          at (inr (inl same)) = this c.before
            where
              end_same : end_in e ≡ end_in c.entry
              end_same = ap end_in same

              node_same : own.name.node ≡ c.entry.node
              node_same = own.node ∙ ap (λ (x : Entry). x.node) same

              this : (end_in c.entry < end_of b.scope) ⊎ ((end_in c.entry ≡ end_of b.scope) × (b.node ≤ c.entry.node)) → Before own.name b
              this (inl r) = let q = ends in let t = end_same in inl (omega (arith, q, r, t))
              this (inr r) = let q = ends in let t = end_same in let u = r.1 in let v = node_same in inr (q ∙ (t ∙ r.0), omega (arith, u, v))
          at (inr (inr i)) = absurd (true≢false (sym c.seen ∙ all_among (λ d. is_seen n d ≡ false) inner none c.entry i))
