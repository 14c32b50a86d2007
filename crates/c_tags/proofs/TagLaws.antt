-- The tags so far, with the tag of one node more.
use Rattle.std.proofs.Common.{◌≡◌, ◌⊎◌, inl, inr, ℕ, zero, suc, ◌+◌, ◌<◌, ◌≤◌, Bool, true, false, ◌&&◌, ◌||◌, cond, List, [], ◌∷◌, ◌++◌, length, take, replicate, get_or, unwrap_or, Option, Some, None, refl, sym, ap, ap₂, ◌∙◌, subst, arith, true≢false}
use Rattle.std.specs.Prelude.{filter, find, if◌then◌else◌, nat_eq, nat_le, not, option_map, position, slice_set, ◌==◌}
use Rattle.std.specs.List.{list_any}
use Rattle.std.specs.Str.{bytes_eq}
use Rattle.std.proofs.lemmas.List.{get_or-set_same, get_or-set_other, get_or-replicate, length-set, length-replicate}
use Rattle.std.proofs.lemmas.List.Quantifiers.{position-Some}
use Rattle.std.proofs.lemmas.Bool.Decides.{eqb_tells}
use Rattle.std.proofs.lemmas.Slice.Eq.{bytes_eq-Decides}
use Rattle.c_syntax.specs.declared.kind.SynKind.{SynKind}
use Rattle.c_syntax.specs.declared.kind.SynKind.TheVariants as kind
use Rattle.c_syntax.specs.declared.syntax.SynNode.{SynNode}
use Rattle.c_typing.specs.Places.{Node, node_at, kind_at, text_at, has_kid, Scope, end_of, in_scope, scopes_of, scope_at}
use Rattle.c_typing.specs.Names.{Tag, inner_tag, innermost_tag, is_lone, fresh_tag, tag_after, add_tag, tags_by, tags_from}
use Rattle.c_typing.proofs.MadeAround.{find_is}
use Rattle.c_nodes.specs.Parents.{AreNumbered, nodes_in}
use Rattle.c_names.specs.Texts.{first_of, has_name}
use Rattle.c_names.specs.Denoted.{Among, places_in}
use Rattle.c_names.proofs.ChainLaws.{in_either, passed}
use Rattle.c_names.proofs.DeclaredLaws.{from_in}
use Rattle.c_names.proofs.FunctionLaws.{position_yes, position_no}
use Rattle.c_tags.specs.declared.chain.Entry.{Entry}
use Rattle.c_tags.specs.declared.chain.MetTag.{MetTag}
use Rattle.c_tags.specs.declared.tag.Tag.{Tag as Told}
use Rattle.c_tags.specs.Order.{order_in}
use Rattle.c_tags.specs.Chains.{entry_of, met_of, is_seen, inner_entry, seen_at, stays}
use Rattle.c_tags.specs.Tags.{AreTags, tag_kind, tags_before_place, has_body_among, told_among, found_among, tag_in_scope, tag_here, noted, Stand}
use Rattle.c_tags.proofs.OrderLaws.{order_long, order_within, order_once, order_later}
use Rattle.c_tags.proofs.ChainLaws.{push_tag, inner_same, entered}
use Rattle.c_tags.proofs.TaggedLaws.{one_text, first_within}

-- ---- lists with one item more

take_one_more : (xs : List ℕ) (n : ℕ) → n < length xs → take (suc n) xs ≡ take n xs ++ get_or xs n 0 ∷ []
take_one_more [] n h = absurd (omega (arith, h))
take_one_more (x ∷ xs) zero h = refl
take_one_more (x ∷ xs) (suc n) h = ap (λ rest. x ∷ rest) (take_one_more xs n (omega (arith, h)))

take_front : {A : Type 0} (xs : List A) (y : A) (n : ℕ) → n ≤ length xs → take n (xs ++ y ∷ []) ≡ take n xs
take_front xs y zero h = refl
take_front [] y (suc n) h = absurd (omega (arith, h))
take_front (x ∷ xs) y (suc n) h = ap (λ rest. x ∷ rest) (take_front xs y n (omega (arith, h)))

take_whole : {A : Type 0} (xs : List A) (n : ℕ) → length xs ≤ n → take n xs ≡ xs
take_whole [] zero h = refl
take_whole [] (suc n) h = refl
take_whole (x ∷ xs) zero h = absurd (omega (arith, h))
take_whole (x ∷ xs) (suc n) h = ap (λ rest. x ∷ rest) (take_whole xs n (omega (arith, h)))

any_push : {A : Type 0} (p : A → Bool) (xs : List A) (y : A) → list_any p (xs ++ y ∷ []) ≡ list_any p xs || p y
any_push p [] y = by (p y)
  where
    by : (b : Bool) → b || false ≡ false || b
    by true = refl
    by false = refl
any_push p (x ∷ xs) y = by (p x) (any_push p xs y)
  where
    by : (b : Bool) → list_any p (xs ++ y ∷ []) ≡ list_any p xs || p y → b || list_any p (xs ++ y ∷ []) ≡ (b || list_any p xs) || p y
    by true h = refl
    by false h = h

find_front : {A : Type 0} (p : A → Bool) (xs : List A) (y : A) → p y ≡ false → find p (xs ++ y ∷ []) ≡ find p xs
find_front p [] y e = ap (λ b. cond b (Some y) None) e
find_front p (x ∷ xs) y e = ap (λ o. cond (p x) (Some x) o) (find_front p xs y e)

find_new : {A : Type 0} (p : A → Bool) (xs : List A) (y : A) → ((x : A) → Among x xs → p x ≡ false) → p y ≡ true → find p (xs ++ y ∷ []) ≡ Some y
find_new p [] y none e = ap (λ b. cond b (Some y) None) e
find_new p (x ∷ xs) y none e = ap (λ b. cond b (Some x) (find p (xs ++ y ∷ []))) (none x (inl refl)) ∙ find_new p xs y (λ z i. none z (inr i)) e

read_among : {A : Type 0} (xs : List A) (i : ℕ) (d : A) → i < length xs → Among (get_or xs i d) xs
read_among [] i d h = absurd (omega (arith, h))
read_among (x ∷ xs) zero d h = inl refl
read_among (x ∷ xs) (suc i) d h = inr (read_among xs i d (omega (arith, h)))

nowhere_in : {A : Type 0} (p : A → Bool) (xs : List A) (d : A) → ((x : A) → Among x xs → p x ≡ false) → position p xs ≡ None
nowhere_in p xs d none = by (position p xs) refl
  where
    by : (o : Option ℕ) → position p xs ≡ o → position p xs ≡ None
    by None e = e
    by (Some i) e = let at = position-Some p xs i d e in absurd (true≢false (sym at.1 ∙ none (get_or xs i d) (read_among xs i d at.0)))

place_low : {A : Type 0} (p : A → Bool) (xs : List A) (d : A) → unwrap_or (position p xs) 0 ≤ length xs
place_low p xs d = by (position p xs) refl
  where
    by : (o : Option ℕ) → position p xs ≡ o → unwrap_or o 0 ≤ length xs
    by None e = omega arith
    by (Some i) e = let low = (position-Some p xs i d e).0 in omega (arith, low)

same_number : (a b : ℕ) → a ≡ b → (a == b) ≡ true
same_number a b e = grind arith

other_number : (a b : ℕ) → (a ≡ b → ⊥) → (a == b) ≡ false
other_number a b e = grind arith

some_same : {A : Type 0} (a b : A) → Some a ≡ Some b → a ≡ b
some_same a b e = cc e

-- ---- the tag of a node

abbrev again : Node → Bool → Scope → Tag → Bool → Tag
again m k c e clashes = record (fresh_tag m k c) { names = e.names; home = e.home; is_new = false; clashes = clashes }

after_some : (m : Node) (k : Bool) (c : Scope) (d : Bool) (e : Tag) → (tag_after m k c d (Some e) ≡ fresh_tag m k c) ⊎ ((q : Bool) × (tag_after m k c d (Some e) ≡ again m k c e q))
after_some m k c false e = inr ((tag_after m k c false (Some e)).clashes, refl)
after_some m k c true e = by (e.home == c.owner) refl
  where
    by : (b : Bool) → (e.home == c.owner) ≡ b → (tag_after m k c true (Some e) ≡ fresh_tag m k c) ⊎ ((q : Bool) × (tag_after m k c true (Some e) ≡ again m k c e q))
    by true h = inr ((tag_after m k c true (Some e)).clashes, rw h refl)
    by false h = inl (rw h refl)

record Made (m : Node) (c : Scope) (o : Option Tag) (e : Tag) : Type 0 where
  text : e.text ≡ m.label.text
  node : e.node ≡ m.id
  has_body : e.has_body ≡ has_kid m 0
  scope : e.scope ≡ c
  names : (e.names ≡ m.id) ⊎ ((x : Tag) × (o ≡ Some x) × (e.names ≡ x.names))

made : (m : Node) (k : Bool) (c : Scope) (d : Bool) (o : Option Tag) → Made m c o (tag_after m k c d o)
made m k c d None = record { text = refl; node = refl; has_body = refl; scope = refl; names = inl refl }
made m k c d (Some e) = by (after_some m k c d e)
  where
    by : (tag_after m k c d (Some e) ≡ fresh_tag m k c) ⊎ ((q : Bool) × (tag_after m k c d (Some e) ≡ again m k c e q)) → Made m c (Some e) (tag_after m k c d (Some e))
    by (inl h) = subst (Made m c (Some e)) (sym h) (record { text = refl; node = refl; has_body = refl; scope = refl; names = inl refl })
    by (inr h) = subst (Made m c (Some e)) (sym h.1) (record { text = refl; node = refl; has_body = refl; scope = refl; names = inr (e, refl, refl) })

-- the innermost tag is one of them
inner_of : (best : Option Tag) (e x : Tag) → inner_tag best e ≡ Some x → (best ≡ Some x) ⊎ (e ≡ x)
inner_of None e x h = inr (some_same e x h)
inner_of (Some a) e x h = by (nat_le (end_of e.scope) (end_of a.scope)) h
  where
    by : (c : Bool) → (if c then Some e else Some a) ≡ Some x → (Some a ≡ Some x) ⊎ (e ≡ x)
    by true g = inr (some_same e x g)
    by false g = inl g

innermost_among : (best : Option Tag) (xs : List Tag) (x : Tag) → innermost_tag best xs ≡ Some x → (best ≡ Some x) ⊎ Among x xs
innermost_among best [] x h = inl h
innermost_among best (e ∷ xs) x h = by (innermost_among (inner_tag best e) xs x h)
  where
    by : (inner_tag best e ≡ Some x) ⊎ Among x xs → (best ≡ Some x) ⊎ Among x (e ∷ xs)
    by (inr i) = inr (inr i)
    by (inl g) = at (inner_of best e x g)
      where
        at : (best ≡ Some x) ⊎ (e ≡ x) → (best ≡ Some x) ⊎ Among x (e ∷ xs)
        at (inl k) = inl k
        at (inr k) = inr (inl k)

in_scope_among : (tags : List Tag) (text : List ℕ) (m : ℕ) (x : Tag) → tag_in_scope tags text m ≡ Some x → Among x tags
in_scope_among tags text m x h = by (innermost_among None (filter (λ (e : Tag). bytes_eq e.text text && in_scope e.scope m) tags) x h)
  where
    by : (None ≡ Some x) ⊎ Among x (filter (λ (e : Tag). bytes_eq e.text text && in_scope e.scope m) tags) → Among x tags
    by (inl g) = absurd (cc g)
    by (inr i) = (passed (λ (e : Tag). bytes_eq e.text text && in_scope e.scope m) tags x i).0

-- ---- one node more

tags_push : (s : List Node) (scopes : List Scope) (tags : List Tag) (xs : List ℕ) (n : ℕ) → tags_from s scopes tags (xs ++ n ∷ []) ≡ tags_by s scopes (tags_from s scopes tags xs) (node_at s n) (kind_at s n)
tags_push s scopes tags [] n = refl
tags_push s scopes tags (x ∷ xs) n = tags_push s scopes (tags_by s scopes tags (node_at s x) (kind_at s x)) xs n

other_kind : (s : List Node) (scopes : List Scope) (tags : List Tag) (m : Node) (k : SynKind) → tag_kind k ≡ None → tags_by s scopes tags m k ≡ tags
other_kind s scopes tags m kind.StructSpec e = absurd (cc e)
other_kind s scopes tags m kind.EnumSpec e = absurd (cc e)
other_kind s scopes tags m _ e = refl

this_kind : (s : List Node) (scopes : List Scope) (tags : List Tag) (m : Node) (k : SynKind) (b : Bool) → tag_kind k ≡ Some b → tags_by s scopes tags m k ≡ add_tag s scopes tags m b
this_kind s scopes tags m kind.StructSpec b e = ap (add_tag s scopes tags m) (some_same false b e)
this_kind s scopes tags m kind.EnumSpec b e = ap (add_tag s scopes tags m) (some_same true b e)
this_kind s scopes tags m _ b e = absurd (cc e)

pub kind_named : (k : SynKind) (b : Bool) → tag_kind k ≡ Some b → has_name k ≡ true
kind_named kind.StructSpec b e = refl
kind_named kind.EnumSpec b e = refl
kind_named _ b e = absurd (cc e)

module _ (table : List SynNode) (long : length (nodes_in table) ≡ length table) (numbered : AreNumbered (nodes_in table)) where
  abbrev s : List Node
  s = nodes_in table

  abbrev at : ℕ → ℕ
  at k = get_or (order_in table) k 0

  abbrev so_far : ℕ → List Tag
  so_far k = tags_before_place table k

  tags_step : (k : ℕ) → k < length table → so_far (k + 1) ≡ tags_by s (scopes_of s) (so_far k) (node_at s (at k)) (kind_at s (at k))
  unfolding tags_before_place
  tags_step k within =
      ap (λ xs. tags_from s (scopes_of s) [] xs) (ap (λ n. take n (order_in table)) {x = k + 1} {y = suc k} (omega arith) ∙ take_one_more (order_in table) k (subst (λ n. k < n) (sym (order_long table long numbered)) within))
      ∙ tags_push s (scopes_of s) [] (take k (order_in table)) (at k)

  stand_same : (k : ℕ) (chains : List (List Entry)) (bodies : List Bool) (found : List (Option Told)) → so_far (k + 1) ≡ so_far k → Stand table k chains bodies found → Stand table (k + 1) chains bodies found
  stand_same k chains bodies found e stand = record {
    nodes = stand.nodes;
    numbered = stand.numbered;
    chains_long = stand.chains_long;
    bodies_long = stand.bodies_long;
    found_long = stand.found_long;
    sees = λ text t is j low within. stand.sees text t is j (omega (arith, low)) within ∙ ap (λ tags. option_map entry_of (tag_in_scope tags text (at j))) (sym e);
    has_bodies = λ i within. stand.has_bodies i within ∙ ap (λ tags. has_body_among tags i) (sym e);
    tells = λ i within. stand.tells i within ∙ ap (λ tags. found_among tags i) (sym e);
    places = λ x i. let p = stand.places x (subst (Among x) e i) in let low = p.1 in (p.0, omega (arith, low), p.2);
    low = λ x i. stand.low x (subst (Among x) e i);
  }

  pub stand_other : (k : ℕ) (chains : List (List Entry)) (bodies : List Bool) (found : List (Option Told)) → k < length table → tag_kind (kind_at s (at k)) ≡ None → Stand table k chains bodies found → Stand table (k + 1) chains bodies found
  stand_other k chains bodies found within e stand = stand_same k chains bodies found (tags_step k within ∙ other_kind s (scopes_of s) (so_far k) (node_at s (at k)) (kind_at s (at k)) e) stand

  pub stand_nameless : (k : ℕ) (b : Bool) (chains : List (List Entry)) (bodies : List Bool) (found : List (Option Told)) → k < length table → tag_kind (kind_at s (at k)) ≡ Some b → (length (text_at s (at k)) == 0) ≡ true
      → Stand table k chains bodies found → Stand table (k + 1) chains bodies found
  stand_nameless k b chains bodies found within e none stand =
      stand_same k chains bodies found (tags_step k within ∙ (this_kind s (scopes_of s) (so_far k) (node_at s (at k)) (kind_at s (at k)) b e ∙ rw none refl)) stand

  pub own_number : (k : ℕ) → k < length table → (node_at s (at k)).id ≡ at k
  own_number k within = numbered (at k) (subst (λ n. at k < n) (sym long) (order_within table long numbered k within))

  -- the tag that is met there
  abbrev pub new_tag : ℕ → Bool → Tag
  new_tag k b = tag_here table (at k) b (tag_in_scope (so_far k) (text_at s (at k)) (at k))

  one_more : (k : ℕ) (b : Bool) → k < length table → tag_kind (kind_at s (at k)) ≡ Some b → (length (text_at s (at k)) == 0) ≡ false → so_far (k + 1) ≡ so_far k ++ new_tag k b ∷ []
  one_more k b within e some =
      tags_step k within
      ∙ (this_kind s (scopes_of s) (so_far k) (node_at s (at k)) (kind_at s (at k)) b e
      ∙ (rw some refl
      ∙ ap (λ n. so_far k ++ tag_after (node_at s (at k)) b (scope_at (scopes_of s) n) (has_kid (node_at s (at k)) 0 || (not b && is_lone s (node_at s (at k)))) (tag_in_scope (so_far k) (text_at s (at k)) n) ∷ []) (own_number k within)))

  facts : (k : ℕ) (b : Bool) → Made (node_at s (at k)) (scope_at (scopes_of s) (at k)) (tag_in_scope (so_far k) (text_at s (at k)) (at k)) (new_tag k b)
  facts k b = made (node_at s (at k)) b (scope_at (scopes_of s) (at k)) (has_kid (node_at s (at k)) 0 || (not b && is_lone s (node_at s (at k)))) (tag_in_scope (so_far k) (text_at s (at k)) (at k))

  module _ (k : ℕ) (b : Bool) (chains : List (List Entry)) (bodies : List Bool) (found : List (Option Told)) (within : k < length table) (stand : Stand table k chains bodies found) where
    -- what the chain says of the tag
    pub seen_here : (t : ℕ) → first_of s (text_at s (at k)) ≡ Some t → seen_at (get_or chains t []) (at k) ≡ option_map entry_of (tag_in_scope (so_far k) (text_at s (at k)) (at k))
    seen_here t is = stand.sees (text_at s (at k)) t is k (omega arith) within

    own_node : (new_tag k b).node ≡ at k
    own_node = (facts k b).node ∙ own_number k within

    pub names_low : (new_tag k b).names < length table
    names_low = by (facts k b).names
      where
        by : ((new_tag k b).names ≡ (node_at s (at k)).id) ⊎ ((x : Tag) × (tag_in_scope (so_far k) (text_at s (at k)) (at k) ≡ Some x) × ((new_tag k b).names ≡ x.names)) → (new_tag k b).names < length table
        by (inl e) = subst (λ n. n < length table) (sym (e ∙ own_number k within)) (order_within table long numbered k within)
        by (inr e) = subst (λ n. n < length table) (sym e.2) (stand.low e.0 (in_scope_among (so_far k) (text_at s (at k)) (at k) e.0 e.1))

    -- no tag so far is of this node
    fresh_node : (x : Tag) → Among x (so_far k) → x.node ≡ at k → ⊥
    fresh_node x i e = let p = stand.places x i in order_once table long numbered p.0 k p.1 within (p.2 ∙ e)

    module _ (e : tag_kind (kind_at s (at k)) ≡ Some b) (some : (length (text_at s (at k)) == 0) ≡ false) (t : ℕ) (is : first_of s (text_at s (at k)) ≡ Some t) where
      abbrev new : Tag
      new = new_tag k b

      more : so_far (k + 1) ≡ so_far k ++ new ∷ []
      more = one_more k b within e some

      abbrev chains_after : List (List Entry)
      chains_after = slice_set chains t (filter (stays (node_at s (at k)).first (entry_of new).scope) (get_or chains t []) ++ entry_of new ∷ [])

      abbrev Sees : List ℕ → ℕ → ℕ → Type 0
      Sees text u j = seen_at (get_or chains_after u []) (at j) ≡ option_map entry_of (tag_in_scope (so_far k ++ new ∷ []) text (at j))

      t_low : t < length chains
      t_low = let low = first_within s numbered (text_at s (at k)) t is in let same = long in let also = stand.chains_long in omega (arith, low, same, also)

      tagged : (text : List ℕ) (m : ℕ) (c : Bool) → bytes_eq new.text text && in_scope new.scope m ≡ c
          → tag_in_scope (so_far k ++ new ∷ []) text m ≡ (if c then inner_tag (tag_in_scope (so_far k) text m) new else tag_in_scope (so_far k) text m)
      tagged text m c h =
          push_tag (λ (x : Tag). bytes_eq x.text text && in_scope x.scope m) None (so_far k) new
          ∙ ap (λ q. if q then inner_tag (tag_in_scope (so_far k) text m) new else tag_in_scope (so_far k) text m) h

      sees_own : (j : ℕ) → k + 1 ≤ j → j < length table → Sees (text_at s (at k)) t j
      sees_own j low inside =
          ap (λ xs. seen_at xs (at j)) (get_or-set_same chains t (filter (stays (node_at s (at k)).first (entry_of new).scope) (get_or chains t []) ++ entry_of new ∷ []) [] t_low)
          ∙ (entered (node_at s (at k)).first (at j) (entry_of new) (order_later table long numbered k j (omega (arith, low)) inside) (get_or chains t [])
          ∙ (ap (λ o. if is_seen (at j) (entry_of new) then inner_entry o (entry_of new) else o) (stand.sees (text_at s (at k)) t is j (omega (arith, low)) inside)
          ∙ (by (in_scope new.scope (at j)) (tag_in_scope (so_far k) (text_at s (at k)) (at j))
          ∙ ap (option_map entry_of) (sym (tagged (text_at s (at k)) (at j) (in_scope new.scope (at j)) (ap (λ q. q && in_scope new.scope (at j)) ((bytes_eq-Decides new.text (text_at s (at k))).1 (facts k b).text)))))))
        where
          by : (c : Bool) (o : Option Tag) → (if c then inner_entry (option_map entry_of o) (entry_of new) else option_map entry_of o) ≡ option_map entry_of (if c then inner_tag o new else o)
          by true o = inner_same o new
          by false o = refl

      sees_other : (text : List ℕ) (u : ℕ) → first_of s text ≡ Some u → (u ≡ t → ⊥) → (j : ℕ) → k + 1 ≤ j → j < length table → Sees text u j
      sees_other text u has other j low inside =
          ap (λ xs. seen_at xs (at j)) (get_or-set_other chains t u (filter (stays (node_at s (at k)).first (entry_of new).scope) (get_or chains t []) ++ entry_of new ∷ []) [] other)
          ∙ (stand.sees text u has j (omega (arith, low)) inside
          ∙ ap (option_map entry_of) (sym (tagged text (at j) false (ap (λ q. q && in_scope new.scope (at j)) (differs (bytes_eq new.text text) refl)))))
        where
          differs : (q : Bool) → bytes_eq new.text text ≡ q → bytes_eq new.text text ≡ false
          differs false g = g
          differs true g =
              let same : text_at s (at k) ≡ text = sym (facts k b).text ∙ (bytes_eq-Decides new.text text).0 g in
              absurd (other (some_same u t (sym has ∙ (ap (first_of s) (sym same) ∙ is))))

      sees_all : (text : List ℕ) (u : ℕ) → first_of s text ≡ Some u → (j : ℕ) → k + 1 ≤ j → j < length table → Sees text u j
      sees_all text u has j low inside = by (eqb_tells u t)
        where
          by : ((nat_eq u t ≡ true) × (u ≡ t)) ⊎ ((nat_eq u t ≡ false) × (u ≡ t → ⊥)) → Sees text u j
          by (inr (g, other)) = sees_other text u has other j low inside
          by (inl (g, same)) =
              let words : text ≡ text_at s (at k) = one_text s numbered text (text_at s (at k)) t (has ∙ ap Some same) is in
              subst (λ w. Sees w u j) (sym words) (subst (λ v. Sees (text_at s (at k)) v j) (sym same) (sees_own j low inside))

      -- ---- bodies

      abbrev bodies_after : List Bool
      bodies_after = if has_kid (node_at s (at k)) 0 then slice_set bodies new.names true else bodies

      names_room : new.names < length bodies
      names_room = let low = names_low in let long_bodies = stand.bodies_long in omega (arith, low, long_bodies)

      bodies_all : (i : ℕ) → i < length table → get_or bodies_after i false ≡ has_body_among (so_far k ++ new ∷ []) i
      bodies_all i inside =
          by (has_kid (node_at s (at k)) 0) (eqb_tells i new.names)
          ∙ (ap (λ q. has_body_among (so_far k) i || ((new.names == i) && q)) (sym (facts k b).has_body)
          ∙ sym (any_push (λ (a : Tag). a.names == i && a.has_body) (so_far k) new))
        where
          or_true : (a : Bool) → true ≡ a || true
          or_true true = refl
          or_true false = refl

          or_false : (a : Bool) → a ≡ a || false
          or_false true = refl
          or_false false = refl

          and_false : (a : Bool) → false ≡ a && false
          and_false true = refl
          and_false false = refl

          by : (h : Bool) → ((nat_eq i new.names ≡ true) × (i ≡ new.names)) ⊎ ((nat_eq i new.names ≡ false) × (i ≡ new.names → ⊥))
              → get_or (if h then slice_set bodies new.names true else bodies) i false ≡ has_body_among (so_far k) i || ((new.names == i) && h)
          by false q = stand.has_bodies i inside ∙ (or_false (has_body_among (so_far k) i) ∙ ap (λ c. has_body_among (so_far k) i || c) (and_false (new.names == i)))
          by true (inl (g, same)) =
              ap (λ n. get_or (slice_set bodies new.names true) n false) same
              ∙ (get_or-set_same bodies new.names true false names_room
              ∙ (or_true (has_body_among (so_far k) i) ∙ ap (λ c. has_body_among (so_far k) i || (c && true)) (sym (same_number new.names i (sym same)))))
          by true (inr (g, other)) =
              get_or-set_other bodies new.names i true false other
              ∙ (stand.has_bodies i inside
              ∙ (or_false (has_body_among (so_far k) i) ∙ ap (λ c. has_body_among (so_far k) i || (c && true)) (sym (other_number new.names i (λ z. other (sym z))))))

      -- ---- what is told

      abbrev told_new : Told
      told_new = noted (met_of new) (has_kid (node_at s (at k)) 0) bodies

      abbrev of_node : ℕ → Tag → Bool
      of_node i x = x.node == i

      none_so_far : (x : Tag) → Among x (so_far k) → of_node new.node x ≡ false
      none_so_far x i = other_number x.node new.node (λ g. fresh_node x i (g ∙ own_node))

      told_own : told_among (so_far k ++ new ∷ []) new ≡ told_new
      told_own = λ i. record { names = new.names; is_new = new.is_new; clashes = new.clashes; has_second_body = second i }
        where
          place : position (of_node new.node) (so_far k ++ new ∷ []) ≡ Some (length (so_far k))
          place = position_yes (of_node new.node) (so_far k) new (same_number new.node new.node refl) ∙ ap (λ o. first_or o (length (so_far k))) (nowhere_in (of_node new.node) (so_far k) new none_so_far)
            where
              first_or : Option ℕ → ℕ → Option ℕ
              first_or None n = Some n
              first_or (Some m) n = Some m

          second : new.has_body && has_body_among (take (unwrap_or (position (of_node new.node) (so_far k ++ new ∷ [])) 0) (so_far k ++ new ∷ [])) new.names ≡ has_kid (node_at s (at k)) 0 && get_or bodies new.names false
          second =
              ap (λ o. new.has_body && has_body_among (take (unwrap_or o 0) (so_far k ++ new ∷ [])) new.names) place
              ∙ (ap (λ xs. new.has_body && has_body_among xs new.names) (take_front (so_far k) new (length (so_far k)) (omega arith) ∙ take_whole (so_far k) (length (so_far k)) (omega arith))
              ∙ ap₂ (λ p q. p && q) (facts k b).has_body (sym (stand.has_bodies new.names names_low)))

      told_other : (x : Tag) → Among x (so_far k) → told_among (so_far k ++ new ∷ []) x ≡ told_among (so_far k) x
      told_other x among = λ i. record { names = x.names; is_new = x.is_new; clashes = x.clashes; has_second_body = second i }
        where
          place : position (of_node x.node) (so_far k ++ new ∷ []) ≡ position (of_node x.node) (so_far k)
          place = position_no (of_node x.node) (so_far k) new (other_number new.node x.node (λ g. fresh_node x among (sym g ∙ own_node)))

          second : x.has_body && has_body_among (take (unwrap_or (position (of_node x.node) (so_far k ++ new ∷ [])) 0) (so_far k ++ new ∷ [])) x.names
              ≡ x.has_body && has_body_among (take (unwrap_or (position (of_node x.node) (so_far k)) 0) (so_far k)) x.names
          second =
              ap (λ o. x.has_body && has_body_among (take (unwrap_or o 0) (so_far k ++ new ∷ [])) x.names) place
              ∙ ap (λ xs. x.has_body && has_body_among xs x.names) (take_front (so_far k) new (unwrap_or (position (of_node x.node) (so_far k)) 0) (place_low (of_node x.node) (so_far k) new))

      abbrev found_after : List (Option Told)
      found_after = slice_set found (at k) (Some told_new)

      found_all : (i : ℕ) → i < length table → get_or found_after i None ≡ found_among (so_far k ++ new ∷ []) i
      found_all i inside = by (eqb_tells i (at k))
        where
          by : ((nat_eq i (at k) ≡ true) × (i ≡ at k)) ⊎ ((nat_eq i (at k) ≡ false) × (i ≡ at k → ⊥)) → get_or found_after i None ≡ found_among (so_far k ++ new ∷ []) i
          by (inl (g, same)) =
              let one : i ≡ new.node = same ∙ sym own_node in
              ap (λ n. get_or found_after n None) same
              ∙ (get_or-set_same found (at k) (Some told_new) None (let low = order_within table long numbered k within in let l = stand.found_long in omega (arith, low, l))
              ∙ (ap Some (sym told_own)
              ∙ (ap (option_map (told_among (so_far k ++ new ∷ []))) (sym (find_new (of_node new.node) (so_far k) new none_so_far (same_number new.node new.node refl)))
              ∙ ap (found_among (so_far k ++ new ∷ [])) (sym one))))
          by (inr (g, other)) =
              get_or-set_other found (at k) i (Some told_new) None other
              ∙ (stand.tells i inside
              ∙ (which (find (of_node i) (so_far k)) refl
              ∙ ap (option_map (told_among (so_far k ++ new ∷ []))) (sym (find_front (of_node i) (so_far k) new (other_number new.node i (λ z. other (sym z ∙ own_node)))))))
            where
              which : (o : Option Tag) → find (of_node i) (so_far k) ≡ o → option_map (told_among (so_far k)) (find (of_node i) (so_far k)) ≡ option_map (told_among (so_far k ++ new ∷ [])) (find (of_node i) (so_far k))
              which None h = ap (option_map (told_among (so_far k))) h ∙ sym (ap (option_map (told_among (so_far k ++ new ∷ []))) h)
              which (Some x) h =
                  ap (option_map (told_among (so_far k))) h
                  ∙ (ap Some (sym (told_other x (from_in x (so_far k) (find_is (of_node i) (so_far k) x h).0)))
                  ∙ sym (ap (option_map (told_among (so_far k ++ new ∷ []))) h))

      pub stand_more : Stand table (k + 1) chains_after bodies_after found_after
      stand_more = record {
        nodes = stand.nodes;
        numbered = stand.numbered;
        chains_long = length-set chains t (filter (stays (node_at s (at k)).first (entry_of new).scope) (get_or chains t []) ++ entry_of new ∷ []) ∙ stand.chains_long;
        bodies_long = bodies_same (has_kid (node_at s (at k)) 0) ∙ stand.bodies_long;
        found_long = length-set found (at k) (Some told_new) ∙ stand.found_long;
        sees = λ text u has j low inside. sees_all text u has j low inside ∙ ap (λ tags. option_map entry_of (tag_in_scope tags text (at j))) (sym more);
        has_bodies = λ i inside. bodies_all i inside ∙ ap (λ tags. has_body_among tags i) (sym more);
        tells = λ i inside. found_all i inside ∙ ap (λ tags. found_among tags i) (sym more);
        places = λ x i. place x (in_either x (so_far k) (new ∷ []) (subst (Among x) more i));
        low = λ x i. low_of x (in_either x (so_far k) (new ∷ []) (subst (Among x) more i));
      }
        where
          bodies_same : (h : Bool) → length (if h then slice_set bodies new.names true else bodies) ≡ length bodies
          bodies_same true = length-set bodies new.names true
          bodies_same false = refl

          place : (x : Tag) → Among x (so_far k) ⊎ Among x (new ∷ []) → (i : ℕ) × (i < k + 1) × (at i ≡ x.node)
          place x (inl i) = let p = stand.places x i in let less = p.1 in (p.0, omega (arith, less), p.2)
          place x (inr (inl g)) = (k, omega arith, sym own_node ∙ ap (λ (y : Tag). y.node) g)
          place x (inr (inr g)) = absurd g

          low_of : (x : Tag) → Among x (so_far k) ⊎ Among x (new ∷ []) → x.names < length table
          low_of x (inl i) = stand.low x i
          low_of x (inr (inl g)) = subst (λ (y : Tag). y.names < length table) g names_low
          low_of x (inr (inr g)) = absurd g

-- ---- the start and the end

pub none_stand : (table : List SynNode) (long : length (nodes_in table) ≡ length table) (numbered : AreNumbered (nodes_in table)) (chains : List (List Entry)) (n : ℕ) → n ≡ length table → length chains ≡ length table → ((i : ℕ) → get_or chains i [] ≡ []) → Stand table 0 chains (replicate n false) (replicate (length table) None)
unfolding tags_before_place
none_stand table long numbered chains n same many empty = record {
  nodes = long;
  numbered = numbered;
  chains_long = many;
  bodies_long = length-replicate n false ∙ same;
  found_long = length-replicate (length table) None;
  sees = λ text t is j low within. ap (λ xs. seen_at xs (get_or (order_in table) j 0)) (empty t);
  has_bodies = λ i within. get_or-replicate n i false false (subst (λ k. i < k) (sym same) within);
  tells = λ i within. get_or-replicate (length table) i None None within;
  places = λ e i. absurd i;
  low = λ e i. absurd i;
}

pub all_stand : (table : List SynNode) (k : ℕ) (chains : List (List Entry)) (bodies : List Bool) (found : List (Option Told))
    → length table ≤ k → Stand table k chains bodies found → AreTags table found
unfolding tags_before_place places_in nodes_in order_in
all_stand table k chains bodies found most stand = record {
  long = stand.found_long;
  are = λ i within. stand.tells i within ∙ ap (λ xs. found_among (tags_from (nodes_in table) (scopes_of (nodes_in table)) [] xs) i) (take_whole (order_in table) k (let l = order_long table stand.nodes stand.numbered in omega (arith, l, most)));
}

-- ---- at a place of an order that is given

module _ (table : List SynNode) (order : List ℕ) (k : ℕ) (chains : List (List Entry)) (bodies : List Bool) (found : List (Option Told)) (e : order ≡ order_in table) (within : k < length table) (stand : Stand table k chains bodies found) where
  pub place_within : k < length order
  place_within = subst (λ n. k < n) (sym (ap length e ∙ order_long table stand.nodes stand.numbered)) within

  pub number_within : get_or order k 0 < length table
  number_within = subst (λ xs. get_or xs k 0 < length table) (sym e) (order_within table stand.nodes stand.numbered k within)

  pub numbered_there : (node_at (nodes_in table) (get_or order k 0)).id ≡ get_or order k 0
  numbered_there = stand.numbered (get_or order k 0) (subst (λ n. get_or order k 0 < n) (sym stand.nodes) number_within)

  here : get_or order k 0 ≡ get_or (order_in table) k 0
  here = ap (λ xs. get_or xs k 0) e

  pub put_other : tag_kind (kind_at (nodes_in table) (get_or order k 0)) ≡ None → Stand table (k + 1) chains bodies found
  put_other none = stand_other table stand.nodes stand.numbered k chains bodies found within (subst (λ n. tag_kind (kind_at (nodes_in table) n) ≡ None) here none) stand

  pub put_nameless : (b : Bool) → tag_kind (kind_at (nodes_in table) (get_or order k 0)) ≡ Some b → (length (text_at (nodes_in table) (get_or order k 0)) == 0) ≡ true → Stand table (k + 1) chains bodies found
  put_nameless b is none =
      stand_nameless table stand.nodes stand.numbered k b chains bodies found within (subst (λ n. tag_kind (kind_at (nodes_in table) n) ≡ Some b) here is)
      (subst (λ n. (length (text_at (nodes_in table) n) == 0) ≡ true) here none) stand

  -- the tag that a node there is met with
  abbrev pub met_there : ℕ → Bool → MetTag
  met_there n b = met_of (tag_here table n b (tag_in_scope (tags_before_place table k) (text_at (nodes_in table) n) n))

  pub seen_there : (t : ℕ) → first_of (nodes_in table) (text_at (nodes_in table) (get_or order k 0)) ≡ Some t
      → seen_at (get_or chains t []) (get_or order k 0) ≡ option_map entry_of (tag_in_scope (tags_before_place table k) (text_at (nodes_in table) (get_or order k 0)) (get_or order k 0))
  seen_there t is =
      subst (λ n. seen_at (get_or chains t []) n ≡ option_map entry_of (tag_in_scope (tags_before_place table k) (text_at (nodes_in table) n) n)) (sym here)
      (seen_here table stand.nodes stand.numbered k true chains bodies found within stand t (subst (λ n. first_of (nodes_in table) (text_at (nodes_in table) n) ≡ Some t) here is))

  pub names_there : (b : Bool) (met : MetTag) → met ≡ met_there (get_or order k 0) b → met.entry.names < length bodies
  names_there b met is =
      let low = names_low table stand.nodes stand.numbered k b chains bodies found within stand in
      let same : met.entry.names ≡ (new_tag table stand.nodes stand.numbered k b).names = ap (λ (m : MetTag). m.entry.names) (is ∙ ap (λ n. met_there n b) here) in
      let long = stand.bodies_long in
      omega (arith, low, same, long)

  pub put_more : (b : Bool) (t : ℕ) (met : MetTag) (first : ℕ) (has : Bool) (chain : List Entry) (new_chains : List (List Entry)) (new_bodies : List Bool) (new_found : List (Option Told))
      → tag_kind (kind_at (nodes_in table) (get_or order k 0)) ≡ Some b → (length (text_at (nodes_in table) (get_or order k 0)) == 0) ≡ false → first_of (nodes_in table) (text_at (nodes_in table) (get_or order k 0)) ≡ Some t
      → met ≡ met_there (get_or order k 0) b → first ≡ (node_at (nodes_in table) (get_or order k 0)).first → has ≡ has_kid (node_at (nodes_in table) (get_or order k 0)) 0
      → chain ≡ filter (stays first met.entry.scope) (get_or chains t []) ++ met.entry ∷ [] → new_chains ≡ slice_set chains t chain
      → new_bodies ≡ (if has then slice_set bodies met.entry.names true else bodies) → new_found ≡ slice_set found (get_or order k 0) (Some (noted met has bodies))
      → Stand table (k + 1) new_chains new_bodies new_found
  put_more b t met first has chain new_chains new_bodies new_found kind some text is_met is_first is_has is_chain is_chains is_bodies is_found =
      let is = is_met ∙ ap (λ n. met_there n b) here in
      let low = is_first ∙ ap (λ n. (node_at (nodes_in table) n).first) here in
      let body = is_has ∙ ap (λ n. has_kid (node_at (nodes_in table) n) 0) here in
      subst (λ xs. Stand table (k + 1) xs new_bodies new_found)
      (sym (is_chains ∙ ap (slice_set chains t) (is_chain ∙ ap₂ (λ f (m : MetTag). filter (stays f m.entry.scope) (get_or chains t []) ++ m.entry ∷ []) low is)))
      (subst (λ xs. Stand table (k + 1) (slice_set chains t (filter (stays (node_at (nodes_in table) (get_or (order_in table) k 0)).first (met_there (get_or (order_in table) k 0) b).entry.scope) (get_or chains t []) ++ (met_there (get_or (order_in table) k 0) b).entry ∷ [])) xs new_found)
      (sym (is_bodies ∙ ap₂ (λ h (m : MetTag). if h then slice_set bodies m.entry.names true else bodies) body is))
      (subst (λ xs. Stand table (k + 1) (slice_set chains t (filter (stays (node_at (nodes_in table) (get_or (order_in table) k 0)).first (met_there (get_or (order_in table) k 0) b).entry.scope) (get_or chains t []) ++ (met_there (get_or (order_in table) k 0) b).entry ∷ []))
      (if has_kid (node_at (nodes_in table) (get_or (order_in table) k 0)) 0 then slice_set bodies (met_there (get_or (order_in table) k 0) b).entry.names true else bodies) xs)
      (sym (is_found ∙ ap₂ (λ n o. slice_set found n o) here (ap₂ (λ h (m : MetTag). Some (noted m h bodies)) body is)))
      (stand_more table stand.nodes stand.numbered k b chains bodies found within stand (subst (λ n. tag_kind (kind_at (nodes_in table) n) ≡ Some b) here kind) (subst (λ n. (length (text_at (nodes_in table) n) == 0) ≡ false) here some) t
      (subst (λ n. first_of (nodes_in table) (text_at (nodes_in table) n) ≡ Some t) here text))))
