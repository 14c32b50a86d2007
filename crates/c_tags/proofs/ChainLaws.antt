-- What a chain sees, with one tag more.
use Rattle.std.proofs.Common.{◌≡◌, ℕ, zero, suc, ◌<◌, ◌≤◌, Bool, true, false, ◌&&◌, ◌||◌, cond, List, [], ◌∷◌, ◌++◌, length, get_or, Option, Some, None, refl, sym, ap, ◌∙◌, arith, true≢false}
use Rattle.std.specs.Prelude.{Vec, filter, if◌then◌else◌, nat_le, nat_lt, not, option_map, slice_set, ◌==◌}
use Rattle.std.specs.List.{AllByRecursion}
use Rattle.std.specs.declared.alloc.Global.{Global}
use Rattle.std.proofs.lemmas.List.{get_or-map, length-map}
use Rattle.c_syntax.specs.declared.syntax.SynNode.{SynNode}
use Rattle.c_typing.specs.Places.{Node, Scope, end_of}
use Rattle.c_typing.specs.Names.{Tag, inner_tag, innermost_tag, fresh_tag, tag_after}
use Rattle.c_nodes.specs.declared.spans.Span.{Span}
use Rattle.c_nodes.specs.Scopes.{scope_of}
use Rattle.c_names.specs.Chains.{has_ended}
use Rattle.c_tags.specs.declared.chain.Entry.{Entry}
use Rattle.c_tags.specs.declared.chain.MetTag.{MetTag}
use Rattle.c_tags.specs.Chains.{chains_of, entry_of, met_of, end_in, is_seen, inner_entry, innermost_entry, seen_at, is_same_span, stays}

-- ---- a tag as it is met

pub new_one : (m : Node) (k : Bool) (c : Scope) (declares : Bool) (e : Tag) → declares ≡ true → (e.home ≡ c.owner → ⊥) → tag_after m k c declares (Some e) ≡ fresh_tag m k c
new_one m k c true e d other = rw (not_same e.home c.owner other) refl
  where
    not_same : (a b : ℕ) → (a ≡ b → ⊥) → (a == b) ≡ false
    not_same a b h = grind arith
new_one m k c false e d other = absurd (true≢false (sym d))

pub met_none : (m : Node) (k : Bool) (c : Scope) (declares : Bool) (r : MetTag) → r ≡ met_of (fresh_tag m k c) → (e : Option Tag) → None ≡ option_map entry_of e → r ≡ met_of (tag_after m k c declares e)
met_none m k c declares r is None same = is
met_none m k c declares r is (Some e) same = absurd (cc same)

pub met_some : (m : Node) (k : Bool) (c : Scope) (declares : Bool) (x : Entry) (r : MetTag) → ((e : Tag) → x ≡ entry_of e → r ≡ met_of (tag_after m k c declares (Some e))) → (e : Option Tag) → Some x ≡ option_map entry_of e → r ≡ met_of (tag_after m k c declares e)
met_some m k c declares x r is None same = absurd (cc same)
met_some m k c declares x r is (Some e) same = let one : x ≡ entry_of e = cc same in is e one

-- ---- one more behind

abbrev OneMore : (Entry → Bool) → List Entry → Entry → Option Entry → Type 0
OneMore test xs e o = innermost_entry o (filter test (xs ++ e ∷ [])) ≡ (if test e then inner_entry (innermost_entry o (filter test xs)) e else innermost_entry o (filter test xs))

push : (test : Entry → Bool) (best : Option Entry) (xs : List Entry) (e : Entry) → innermost_entry best (filter test (xs ++ e ∷ [])) ≡ (if test e then inner_entry (innermost_entry best (filter test xs)) e else innermost_entry best (filter test xs))
push test best [] e = by (test e)
  where
    by : (b : Bool) → innermost_entry best (cond b (e ∷ []) []) ≡ (if b then inner_entry best e else best)
    by true = refl
    by false = refl
push test best (x ∷ xs) e = by (test x) (push test (inner_entry best x) xs e) (push test best xs e)
  where
    by : (b : Bool) → OneMore test xs e (inner_entry best x) → OneMore test xs e best
        → innermost_entry best (cond b (x ∷ filter test (xs ++ e ∷ [])) (filter test (xs ++ e ∷ []))) ≡ (if test e then inner_entry (innermost_entry best (cond b (x ∷ filter test xs) (filter test xs))) e else innermost_entry best (cond b (x ∷ filter test xs) (filter test xs)))
    by true h k = h
    by false h k = k

abbrev OneTagMore : (Tag → Bool) → List Tag → Tag → Option Tag → Type 0
OneTagMore test xs e o = innermost_tag o (filter test (xs ++ e ∷ [])) ≡ (if test e then inner_tag (innermost_tag o (filter test xs)) e else innermost_tag o (filter test xs))

pub push_tag : (test : Tag → Bool) (best : Option Tag) (xs : List Tag) (e : Tag) → innermost_tag best (filter test (xs ++ e ∷ [])) ≡ (if test e then inner_tag (innermost_tag best (filter test xs)) e else innermost_tag best (filter test xs))
push_tag test best [] e = by (test e)
  where
    by : (b : Bool) → innermost_tag best (cond b (e ∷ []) []) ≡ (if b then inner_tag best e else best)
    by true = refl
    by false = refl
push_tag test best (x ∷ xs) e = by (test x) (push_tag test (inner_tag best x) xs e) (push_tag test best xs e)
  where
    by : (b : Bool) → OneTagMore test xs e (inner_tag best x) → OneTagMore test xs e best
        → innermost_tag best (cond b (x ∷ filter test (xs ++ e ∷ [])) (filter test (xs ++ e ∷ []))) ≡ (if test e then inner_tag (innermost_tag best (cond b (x ∷ filter test xs) (filter test xs))) e else innermost_tag best (cond b (x ∷ filter test xs) (filter test xs)))
    by true h k = h
    by false h k = k

pub inner_same : (o : Option Tag) (e : Tag) → inner_entry (option_map entry_of o) (entry_of e) ≡ option_map entry_of (inner_tag o e)
inner_same None e = refl
inner_same (Some a) e = by (nat_le (end_of e.scope) (end_of a.scope))
  where
    by : (b : Bool) → (if b then Some (entry_of e) else Some (entry_of a)) ≡ option_map entry_of (if b then Some e else Some a)
    by true = refl
    by false = refl

-- ---- an entry before one of the same scope says nothing more

abbrev IsLate : Option Entry → Entry → Type 0
IsLate None d = Unit {0}
IsLate (Some a) d = end_in d ≤ end_in a

le_true : (a b : ℕ) → a ≤ b → nat_le a b ≡ true
le_true a b h = grind arith

le_false : (a b : ℕ) → nat_le a b ≡ false → b < a
le_false a b h = grind arith

le_so : (a b : ℕ) → nat_le a b ≡ true → a ≤ b
le_so a b h = grind arith

takes : (best : Option Entry) (d e : Entry) → end_in e ≤ end_in d → IsLate best d → inner_entry best e ≡ Some e
takes None d e low late = refl
takes (Some a) d e low late = ap (λ b. if b then Some e else Some a) (le_true (end_in e) (end_in a) (omega (arith, low, late)))

still_late : (best : Option Entry) (d z : Entry) → end_in d < end_in z → IsLate best d → IsLate (inner_entry best z) d
still_late None d z less late = omega (arith, less)
still_late (Some a) d z less late = by (nat_le (end_in z) (end_in a))
  where
    by : (b : Bool) → IsLate (if b then Some z else Some a) d
    by true = omega (arith, less)
    by false = late

absorbed : (zs : List Entry) (best : Option Entry) (d e : Entry) → end_in d ≡ end_in e → IsLate best d → inner_entry (innermost_entry best zs) e ≡ inner_entry (innermost_entry (Some d) zs) e
absorbed [] best d e same late = takes best d e (omega (arith, same)) late ∙ sym (takes (Some d) d e (omega (arith, same)) (omega arith))
absorbed (z ∷ zs) best d e same late = by (nat_le (end_in z) (end_in d)) refl (λ less. absorbed zs (inner_entry best z) d e same (still_late best d z less late))
  where
    by : (b : Bool) → nat_le (end_in z) (end_in d) ≡ b → (end_in d < end_in z → inner_entry (innermost_entry (inner_entry best z) zs) e ≡ inner_entry (innermost_entry (Some d) zs) e)
        → inner_entry (innermost_entry (inner_entry best z) zs) e ≡ inner_entry (innermost_entry (if b then Some z else Some d) zs) e
    by true g more = ap (λ o. inner_entry (innermost_entry o zs) e) (takes best d z (le_so (end_in z) (end_in d) g) late)
    by false g more = more (le_false (end_in z) (end_in d) g)

absorb : (zs : List Entry) (best : Option Entry) (x e : Entry) → end_in x ≡ end_in e → inner_entry (innermost_entry best zs) e ≡ inner_entry (innermost_entry (inner_entry best x) zs) e
absorb zs None x e same = absorbed zs None x e same tt
absorb zs (Some a) x e same = by (nat_le (end_in x) (end_in a)) refl
  where
    by : (b : Bool) → nat_le (end_in x) (end_in a) ≡ b → inner_entry (innermost_entry (Some a) zs) e ≡ inner_entry (innermost_entry (if b then Some x else Some a) zs) e
    by true g = absorbed zs (Some a) x e same (le_so (end_in x) (end_in a) g)
    by false g = refl

-- ---- what is forgotten

both : (a b : Bool) → a && b ≡ true → (a ≡ true) × (b ≡ true)
both true true e = (refl, refl)
both true false e = absurd (true≢false (sym e))
both false b e = absurd (true≢false (sym e))

equal_so : (a b : ℕ) → (a == b) ≡ true → a ≡ b
equal_so a b e = grind arith

same_span : (a b : Span) → is_same_span a b ≡ true → scope_of a ≡ scope_of b
same_span a b e =
    let p = both (a.node == b.node) ((a.from == b.from) && ((a.to == b.to) && ((a.more_from == b.more_from) && (a.more_to == b.more_to)))) e in
    let q = both (a.from == b.from) ((a.to == b.to) && ((a.more_from == b.more_from) && (a.more_to == b.more_to))) p.1 in
    let r = both (a.to == b.to) ((a.more_from == b.more_from) && (a.more_to == b.more_to)) q.1 in
    let s = both (a.more_from == b.more_from) (a.more_to == b.more_to) r.1 in
    made a b (equal_so a.node b.node p.0) (equal_so a.from b.from q.0) (equal_so a.to b.to r.0) (equal_so a.more_from b.more_from s.0) (equal_so a.more_to b.more_to s.1)
  where
    made : (a b : Span) → a.node ≡ b.node → a.from ≡ b.from → a.to ≡ b.to → a.more_from ≡ b.more_from → a.more_to ≡ b.more_to → scope_of a ≡ scope_of b
    made a b p0 p1 p2 p3 p4 = λ i. record { owner = p0 i; from = p1 i; to = p2 i; block_from = p3 i; block_to = p4 i }

-- an entry that does not stay is not seen, or is of the same scope
data Gone (m : ℕ) (e x : Entry) : Type 0 where
  unseen : is_seen m x ≡ false → Gone m e x
  replaced : scope_of x.scope ≡ scope_of e.scope → Gone m e x

gone : (low m : ℕ) (e x : Entry) → low ≤ m → stays low e.scope x ≡ false → Gone m e x
gone low m e x after h = by (has_ended x.scope low) (is_same_span x.scope e.scope) refl refl h
  where
    past : (a b c d : ℕ) → nat_lt b low && nat_lt d low ≡ true → (nat_le a m && nat_le m b) || (nat_le c m && nat_le m d) ≡ false
    past a b c d g = grind arith

    by : (a b : Bool) → has_ended x.scope low ≡ a → is_same_span x.scope e.scope ≡ b → not a && not b ≡ false → Gone m e x
    by true b p q h = unseen (past x.scope.from x.scope.to x.scope.more_from x.scope.more_to p)
    by false true p q h = replaced (same_span x.scope e.scope q)
    by false false p q h = absurd (true≢false h)

module _ (low m : ℕ) (e : Entry) (after : low ≤ m) where
  abbrev left : List Entry → List Entry
  left xs = filter (stays low e.scope) xs

  abbrev saw : Option Entry → List Entry → Option Entry
  saw best xs = innermost_entry best (filter (is_seen m) xs)

  saw_cons : (best : Option Entry) (x : Entry) (xs : List Entry) (b : Bool) → is_seen m x ≡ b → saw best (x ∷ xs) ≡ saw (if b then inner_entry best x else best) xs
  saw_cons best x xs true g = ap (λ t. innermost_entry best (cond t (x ∷ filter (is_seen m) xs) (filter (is_seen m) xs))) g
  saw_cons best x xs false g = ap (λ t. innermost_entry best (cond t (x ∷ filter (is_seen m) xs) (filter (is_seen m) xs))) g

  -- where the tag is not seen, nothing changes
  same_unseen : is_seen m e ≡ false → (best : Option Entry) (xs : List Entry) → saw best (left xs) ≡ saw best xs
  same_unseen none best [] = refl
  same_unseen none best (x ∷ xs) = by (stays low e.scope x) refl (same_unseen none (if is_seen m x then inner_entry best x else best) xs) (same_unseen none best xs)
    where
      by : (b : Bool) → stays low e.scope x ≡ b → (saw (if is_seen m x then inner_entry best x else best) (left xs) ≡ saw (if is_seen m x then inner_entry best x else best) xs) → (saw best (left xs) ≡ saw best xs)
          → saw best (cond b (x ∷ left xs) (left xs)) ≡ saw best (x ∷ xs)
      by true g more same = saw_cons best x (left xs) (is_seen m x) refl ∙ (more ∙ sym (saw_cons best x xs (is_seen m x) refl))
      by false g more same = same ∙ sym (saw_cons best x xs false (at (gone low m e x after g)))
        where
          at : Gone m e x → is_seen m x ≡ false
          at (unseen h) = h
          at (replaced h) = ap (λ (y : Scope). is_seen_in y) h ∙ none
            where
              is_seen_in : Scope → Bool
              is_seen_in y = (nat_le y.from m && nat_le m y.to) || (nat_le y.block_from m && nat_le m y.block_to)

  -- where it is, what it takes the place of makes no difference
  same_seen : (best : Option Entry) (xs : List Entry) → inner_entry (saw best (left xs)) e ≡ inner_entry (saw best xs) e
  same_seen best [] = refl
  same_seen best (x ∷ xs) = by (stays low e.scope x) refl (same_seen (if is_seen m x then inner_entry best x else best) xs) (same_seen best xs)
    where
      by : (b : Bool) → stays low e.scope x ≡ b → (inner_entry (saw (if is_seen m x then inner_entry best x else best) (left xs)) e ≡ inner_entry (saw (if is_seen m x then inner_entry best x else best) xs) e)
          → (inner_entry (saw best (left xs)) e ≡ inner_entry (saw best xs) e) → inner_entry (saw best (cond b (x ∷ left xs) (left xs))) e ≡ inner_entry (saw best (x ∷ xs)) e
      by true g more same = ap (λ o. inner_entry o e) (saw_cons best x (left xs) (is_seen m x) refl) ∙ (more ∙ sym (ap (λ o. inner_entry o e) (saw_cons best x xs (is_seen m x) refl)))
      by false g more same = same ∙ (at (is_seen m x) refl (gone low m e x after g) ∙ sym (ap (λ o. inner_entry o e) (saw_cons best x xs (is_seen m x) refl)))
        where
          at : (b : Bool) → is_seen m x ≡ b → Gone m e x → inner_entry (saw best xs) e ≡ inner_entry (saw (if b then inner_entry best x else best) xs) e
          at false h k = refl
          at true h (unseen k) = absurd (true≢false (sym h ∙ k))
          at true h (replaced k) = absorb (filter (is_seen m) xs) best x e (ap end_of k)

  pub entered : (chain : List Entry) → seen_at (left chain ++ e ∷ []) m ≡ (if is_seen m e then inner_entry (seen_at chain m) e else seen_at chain m)
  entered chain = push (is_seen m) None (left chain) e ∙ by (is_seen m e) refl
    where
      by : (b : Bool) → is_seen m e ≡ b → (if b then inner_entry (saw None (left chain)) e else saw None (left chain)) ≡ (if b then inner_entry (saw None chain) e else saw None chain)
      by true g = same_seen None chain
      by false g = same_unseen g None chain

-- ---- chains in vectors

pub chain_at : (chains : List (Vec Entry Global)) (text : ℕ) (d : Vec Entry Global) → text < length chains → get_or (chains_of chains) text [] ≡ (get_or chains text d).items
chain_at chains text d within = get_or-map (λ (chain : Vec Entry Global). chain.items) chains text d [] within

pub with_chain : (chains : List (Vec Entry Global)) (i : ℕ) (chain : Vec Entry Global) → chains_of (slice_set chains i chain) ≡ slice_set (chains_of chains) i chain.items
with_chain [] i chain = refl
with_chain (x ∷ chains) zero chain = refl
with_chain (x ∷ chains) (suc i) chain = ap (λ rest. x.items ∷ rest) (with_chain chains i chain)

pub length-chains : (chains : List (Vec Entry Global)) → length (chains_of chains) ≡ length chains
length-chains chains = length-map chains (λ chain. chain.items)

pub chain_within : (table : List SynNode) (chains : List (Vec Entry Global)) (i : ℕ) → length (chains_of chains) ≡ length table → i < length table → i < length chains
chain_within table chains i long within = let same = length-chains chains in omega (arith, same, long, within)

abbrev pub AreEmpty : List (Vec Entry Global) → Type 0
AreEmpty chains = AllByRecursion (λ (chain : Vec Entry Global). chain.items ≡ []) chains

pub empty_at : (chains : List (Vec Entry Global)) → AreEmpty chains → (i : ℕ) → get_or (chains_of chains) i [] ≡ []
empty_at [] h i = refl
empty_at (x ∷ chains) h zero = h.0
empty_at (x ∷ chains) h (suc i) = empty_at chains h.1 i
