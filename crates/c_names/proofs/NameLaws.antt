-- What a name is does not depend on the names behind it.
use Rattle.std.proofs.Common.{◌≡◌, ◌⊎◌, inl, inr, ℕ, zero, suc, ◌<◌, ◌≤◌, Bool, true, false, ◌&&◌, not, cond, List, [], ◌∷◌, ◌++◌, length, append_assoc, Option, Some, None, refl, sym, ap, ◌∙◌, subst, arith, true≢false, unwrap_or}
use Rattle.std.specs.Prelude.{slice_get, filter, find, nat_le, nat_lt, if◌then◌else◌}
use Rattle.std.specs.Option.{is_some}
use Rattle.std.specs.Str.{bytes_eq}
use Rattle.std.specs.List.{AllByRecursion}
use Rattle.std.proofs.lemmas.Option.{slice_get_within}
use Rattle.c_lexer.specs.declared.token.Token.{Token}
use Rattle.c_syntax.specs.declared.kind.SynKind.{SynKind}
use Rattle.c_syntax.specs.declared.kind.SynKind.TheVariants as kind
use Rattle.c_syntax.specs.Trees.{Tree}
use Rattle.c_grammar.specs.Derivation.{IsTreeOf}
use Rattle.c_typing.specs.Places.{Node, nodes, node_at, nowhere, kind_at, text_at, parent_of, kid, is_word, is_declarator, in_scope, end_of, next_to_name, specs_by, specs_of, whole_declarator, scopes_of, scope_at}
use Rattle.c_typing.specs.Names.{Name, Entity, places, names_by, names_from, names_at, denoted, inner_of, innermost, names_function_type, says_function, declares_function, entity_by, name_list}
use Rattle.c_typing.specs.Shapes as category
use Rattle.c_typing.specs.ShapesOfNodes.{category_at}
use Rattle.c_typing.proofs.MadeNodes.{In, in_at, kid_within}
use Rattle.c_typing.proofs.MadePlaced.{numbered, node_there}
use Rattle.c_typing.proofs.MadeAround.{both_true}
use Rattle.c_typing.proofs.MadeNames.{Named, Declares, by_declarator, by_enumerator}
use Rattle.c_typing.proofs.MadeFunctionNames.{names_here}
use Rattle.c_typing.proofs.MadeKept.{low_by}
use Rattle.c_typing.proofs.ProgressKinds as of
use Rattle.c_typing.proofs.ProgressForms.{is_part}
use Rattle.c_typing.proofs.ProgressKids.{KidsFrom}
use Rattle.c_typing.proofs.ProgressPlaces.{Linked, AreLinked, are_linked, kids_apart, first_low, parent_above}
use Rattle.c_typing.proofs.ProgressOwners.{is_specs, Before, specs_before, init_specs, init_or, parent_is}
use Rattle.c_typing.proofs.ProgressWhole.{NameIs, whole_of as whole_named}
use Rattle.c_nodes.specs.Declarators.{Points, whole_of}
use Rattle.c_names.specs.Denoted.{Among, is_identifier, declares}
use Rattle.c_names.proofs.ChainLaws.{in_front, in_back, all_among, among_all, passed, Ascend}
use Rattle.c_names.proofs.DeclaredLaws as declared
use Rattle.c_names.proofs.DeclaredLaws.{to_in}

-- ---- a list of names, cut before the names of one node

pub record Cut (s : List Node) (names : List Name) (place : ℕ) (node : Node) : Type 0 where
  pub before : List Name
  pub later : List Name
  pub whole : names ≡ before ++ (names_by s (scopes_of s) before node node.label.kind ++ later)

more_of : (s : List Node) (names : List Name) (ns : List Node) → (more : List Name) × (names_from s (scopes_of s) names ns ≡ names ++ more)
more_of s names [] = ([], sym (append-nil names))
  where
    append-nil : (xs : List Name) → xs ++ [] ≡ xs
    append-nil [] = refl
    append-nil (x ∷ xs) = ap (λ ys. x ∷ ys) (append-nil xs)
more_of s names (x ∷ ns) =
    let new = names_by s (scopes_of s) names x x.label.kind in
    let r = more_of s (names ++ new) ns in
    (new ++ r.0, r.1 ∙ append_assoc names new r.0)

pub cut_at : (s : List Node) (names : List Name) (ns : List Node) (i : ℕ) (m : Node) → slice_get ns i ≡ Some m → Cut s (names_from s (scopes_of s) names ns) i m
cut_at s names [] i m e = absurd (cc e)
cut_at s names (x ∷ ns) zero m e =
    let new = names_by s (scopes_of s) names x x.label.kind in
    let same : x ≡ m = cc e in
    let r = more_of s (names ++ new) ns in
    subst (λ (y : Node). Cut s (names_from s (scopes_of s) names (x ∷ ns)) 0 y) same
    (record { before = names; later = r.0; whole = r.1 ∙ append_assoc names new r.0 })
cut_at s names (x ∷ ns) (suc i) m e =
    let r = cut_at s (names ++ names_by s (scopes_of s) names x x.label.kind) ns i m e in
    record { before = r.before; later = r.later; whole = r.whole }

-- ---- what names behind a node do not change

filter_none : {A : Type 0} (test : A → Bool) (xs : List A) → ((x : A) → Among x xs → test x ≡ true → ⊥) → filter test xs ≡ []
filter_none test [] h = refl
filter_none {A} test (x ∷ xs) h = by (test x) refl (filter_none test xs (λ y i. h y (inr i)))
  where
    by : (b : Bool) → test x ≡ b → filter test xs ≡ [] → cond b (x ∷ filter test xs) (filter test xs) ≡ []
    by true e more = absurd (h x (inl refl) e)
    by false e more = more

pub filter_append : {A : Type 0} (test : A → Bool) (xs ys : List A) → filter test (xs ++ ys) ≡ filter test xs ++ filter test ys
filter_append test [] ys = refl
filter_append {A} test (x ∷ xs) ys = by (test x) (filter_append test xs ys)
  where
    by : (b : Bool) → filter test (xs ++ ys) ≡ filter test xs ++ filter test ys → cond b (x ∷ filter test (xs ++ ys)) (filter test (xs ++ ys)) ≡ cond b (x ∷ filter test xs) (filter test xs) ++ filter test ys
    by true more = ap (λ zs. x ∷ zs) more
    by false more = more

nil_end : {A : Type 0} (xs : List A) → xs ++ [] ≡ xs
nil_end [] = refl
nil_end (x ∷ xs) = ap (λ ys. x ∷ ys) (nil_end xs)

denoted_front : (before later : List Name) (k : ℕ) (text : List ℕ) → ((a : Name) → Among a later → k ≤ a.behind) → denoted (before ++ later) k text ≡ denoted before k text
denoted_front before later k text late =
    ap (innermost None) (filter_append (names_at k text) before later ∙ (ap (λ xs. filter (names_at k text) before ++ xs) (filter_none (names_at k text) later none) ∙ nil_end (filter (names_at k text) before)))
  where
    less_so : (a b : ℕ) → nat_lt a b ≡ true → a < b
    less_so a b e = grind arith

    none : (a : Name) → Among a later → names_at k text a ≡ true → ⊥
    none a i e =
        let p = both_true (bytes_eq a.text text && nat_lt a.behind k) (in_scope a.scope k) e in
        let q = both_true (bytes_eq a.text text) (nat_lt a.behind k) p.0 in
        let less = less_so a.behind k q.1 in
        let most = late a i in
        absurd (omega (arith, less, most))

-- what is denoted is one of the names
innermost_in : (best : Option Name) (xs : List Name) (e : Name) → innermost best xs ≡ Some e → Among e xs ⊎ (best ≡ Some e)
innermost_in best [] e h = inr h
innermost_in best (b ∷ xs) e h = by (innermost_in (inner_of best b) xs e h)
  where
    one : (o : Option Name) → inner_of o b ≡ Some e → Among e (b ∷ xs) ⊎ (o ≡ Some e)
    one None g = inl (inl (cc g))
    one (Some a) g = test (nat_le (end_of b.scope) (end_of a.scope)) g
      where
        test : (c : Bool) → (if c then Some b else Some a) ≡ Some e → Among e (b ∷ xs) ⊎ (Some a ≡ Some e)
        test true h = inl (inl (cc h))
        test false h = inr h

    by : Among e xs ⊎ (inner_of best b ≡ Some e) → Among e (b ∷ xs) ⊎ (best ≡ Some e)
    by (inl i) = inl (inr i)
    by (inr g) = one best g

pub record Denoted (names : List Name) (n : ℕ) (text : List ℕ) (e : Name) : Type 0 where
  pub among : Among e names
  pub behind : e.behind < n

pub denoted_in : (names : List Name) (n : ℕ) (text : List ℕ) (e : Name) → denoted names n text ≡ Some e → Denoted names n text e
denoted_in names n text e h = by (innermost_in None (filter (names_at n text) names) e h)
  where
    less_so : (a b : ℕ) → nat_lt a b ≡ true → a < b
    less_so a b e = grind arith

    by : Among e (filter (names_at n text) names) ⊎ (None ≡ Some e) → Denoted names n text e
    by (inr g) = absurd (cc g)
    by (inl i) =
        let p = passed (names_at n text) names e i in
        let q = both_true (bytes_eq e.text text && nat_lt e.behind n) (in_scope e.scope n) p.1 in
        record { among = p.0; behind = less_so e.behind n (both_true (bytes_eq e.text text) (nat_lt e.behind n) q.0).1 }

-- ---- specs say a function type

says_same : (s : List Node) (names others : List Name) (ks : List ℕ) → AllByRecursion (λ k. denoted names k (text_at s k) ≡ denoted others k (text_at s k)) ks
    → find (λ k. is_word (kind_at s k) && names_function_type (denoted names k (text_at s k))) ks ≡ find (λ k. is_word (kind_at s k) && names_function_type (denoted others k (text_at s k))) ks
says_same s names others [] h = refl
says_same s names others (k ∷ ks) h =
    ap (λ o. cond (is_word (kind_at s k) && names_function_type o) (Some k) (find (λ k. is_word (kind_at s k) && names_function_type (denoted names k (text_at s k))) ks)) h.0
    ∙ ap (λ r. cond (is_word (kind_at s k) && names_function_type (denoted others k (text_at s k))) (Some k) r) (says_same s names others ks h.1)

declares_same : (s : List Node) (names others : List Name) (i : ℕ) (specs : Node) → says_function s names specs ≡ says_function s others specs → declares_function s names i specs ≡ declares_function s others i specs
declares_same s names others i specs h = by (next_to_name s i) refl
  where
    by : (o : Option Node) → next_to_name s i ≡ o → declares_function s names i specs ≡ declares_function s others i specs
    by None e = rw e h
    by (Some m) e = rw e refl

ascend_back : (xs ys : List Name) → Ascend (xs ++ ys) → Ascend ys
ascend_back [] ys s = s
ascend_back (x ∷ xs) ys s = ascend_back xs ys s.1

head_least : (x : Name) (ys : List Name) → Ascend (x ∷ ys) → (a : Name) → Among a (x ∷ ys) → x.node ≤ a.node
head_least x ys s a (inl e) = let same : x.node ≡ a.node = ap (λ (b : Name). b.node) e in omega (arith, same)
head_least x ys s a (inr i) = let less = all_among (λ (b : Name). x.node < b.node) ys s.0 a i in omega (arith, less)

no_declarator : (k : SynKind) → declares k ≡ true → not (is_declarator k) ≡ true
no_declarator kind.InitDecl e = refl
no_declarator kind.Function e = refl
no_declarator kind.Param e = refl
no_declarator _ e = absurd (true≢false (sym e))

module _ (tokens : List Token) (t : Tree) (derived : IsTreeOf tokens t) where
  links : AreLinked (category_at t) (nodes t)
  links = are_linked tokens t derived

  pub record Low (e : Name) : Type 0 where
    pub low : e.node ≤ e.behind
    pub within : e.behind < length (nodes t)

  pub behind_low : (e : Name) → Among e (places t).names → Low e
  behind_low e h = let q = (names_here tokens t derived).each e (to_in e (places t).names h) in by q q.how
    where
      by : (q : Named (nodes t) e) → Declares (nodes t) q.before q.node e → Low e
      by q (by_declarator i b o f y) =
          let l = low_by tokens t derived e q.node q.place q.there q.numbered i b o in
          let first = first_low (category_at t) (nodes t) links l.low.id l.low l.there in
          let begins = l.begins in
          let behind = l.behind in
          let in_it = slice_get_within (nodes t) l.low.id l.low l.there in
          record { low = omega (arith, first, begins, behind); within = omega (arith, in_it, behind) }
      by q (by_enumerator i b o f y) =
          let node = q.numbered in
          let at = numbered tokens t derived q.place q.node q.there in
          let in_it = slice_get_within (nodes t) q.place q.node q.there in
          record { low = omega (arith, node, b); within = omega (arith, b, at, in_it) }

  -- ---- specs stand before the name of a declarator

  own_id : (n j : ℕ) (b : Before (category_at t) (nodes t) n j is_specs) → (node_at (nodes t) j).id ≡ j
  own_id n j b = ap (λ (x : Node). x.id) (node_there tokens t derived j b.node b.at) ∙ numbered tokens t derived j b.node b.at

  -- of the whole declarator m, at the place n
  abbrev SpecsBelow : Node → ℕ → Type 0
  SpecsBelow owner n = ((specs_of (nodes t) owner).id < n) × (specs_by (nodes t) owner owner.label.kind < n)

  specs_low : (n : ℕ) (m : Node) → slice_get (nodes t) n ≡ Some m → category_at t n ≡ category.declarator → not (is_declarator (kind_at (nodes t) m.parent)) ≡ true
      → SpecsBelow (parent_of (nodes t) m.id) m.first
  specs_low n m e part whole = by (links.linked n m e)
    where
      before : Before (category_at t) (nodes t) n (specs_of (nodes t) (parent_of (nodes t) m.id)).id is_specs
      before = specs_before (category_at t) (nodes t) links n m e (ap is_part part) whole

      from : (q : Linked (nodes t) n m) (j : ℕ) → specs_by (nodes t) q.parent q.parent.label.kind ≡ j → (node_at (nodes t) j).id ≡ j
          → ((specs_of (nodes t) (parent_of (nodes t) m.id)).id ≡ j) × (specs_by (nodes t) (parent_of (nodes t) m.id) (parent_of (nodes t) m.id).label.kind ≡ j)
      from q j same id =
          let up = parent_is (category_at t) (nodes t) links n m e q in
          (ap (λ (o : Node). (specs_of (nodes t) o).id) up ∙ (ap (λ k. (node_at (nodes t) k).id) same ∙ id), ap (λ (o : Node). specs_by (nodes t) o o.label.kind) up ∙ same)

      other_by : (ns : List Node) (owner : Node) (k : SynKind) → (k ≡ kind.InitDecl → ⊥) → specs_by ns owner k ≡ kid owner 0
      other_by ns owner kind.InitDecl other = absurd (other refl)
      other_by ns owner _ other = refl

      by : (suc n ≡ length (nodes t)) ⊎ Linked (nodes t) n m → SpecsBelow (parent_of (nodes t) m.id) m.first
      by (inl last) = absurd (true≢false (sym (ap of.is_unit_only (links.root n m e last)) ∙ ap of.is_unit_only part))
      by (inr q) = cases (init_or q.parent.label.kind)
        where
          cases : (q.parent.label.kind ≡ kind.InitDecl) ⊎ (q.parent.label.kind ≡ kind.InitDecl → ⊥) → SpecsBelow (parent_of (nodes t) m.id) m.first
          cases (inl init) =
              let b = init_specs (category_at t) (nodes t) links m.parent q.parent q.at init in
              let is = from q (kid (node_at (nodes t) q.parent.parent) 0) (ap (λ k. specs_by (nodes t) q.parent k) init) (own_id m.parent (kid (node_at (nodes t) q.parent.parent) 0) b.1) in
              let under = (parent_above (category_at t) (nodes t) links n m e q).1 in
              let less = b.0 in
              let id = is.0 in
              let by_kind = is.1 in
              (omega (arith, id, under, less), omega (arith, by_kind, under, less))
          cases (inr other) = index q.index q.among
            where
              by_kid : specs_by (nodes t) q.parent q.parent.label.kind ≡ kid q.parent 0
              by_kid = other_by (nodes t) q.parent q.parent.label.kind other

              index : (i : ℕ) → slice_get q.parent.kids i ≡ Some n → SpecsBelow (parent_of (nodes t) m.id) m.first
              index zero among =
                  let at : kid q.parent 0 ≡ n = ap (λ o. unwrap_or o 0) among in
                  let is = from q n (by_kid ∙ at) (ap (λ (x : Node). x.id) (node_there tokens t derived n m e) ∙ numbered tokens t derived n m e) in
                  let less = before.less in
                  let id = is.0 in
                  absurd (omega (arith, id, less))
              index (suc i) among = first q.parent.kids refl among (links.shapes.tiled m.parent q.parent q.at).kids
                where
                  first : (ks : List ℕ) → q.parent.kids ≡ ks → slice_get ks (suc i) ≡ Some n → KidsFrom (nodes t) q.parent.first m.parent m.parent ks → SpecsBelow (parent_of (nodes t) m.id) m.first
                  first [] same g tile = absurd (cc g)
                  first (k ∷ ks) same g tile =
                      let apart = kids_apart (nodes t) q.parent.first m.parent m.parent (k ∷ ks) 0 (suc i) k n m tile (omega arith) refl g e in
                      let at : kid q.parent 0 ≡ k = ap (λ xs. unwrap_or (slice_get xs 0) 0) same in
                      let own = tile.0 in
                      let id : (node_at (nodes t) k).id ≡ k = ap (λ (x : Node). x.id) (node_there tokens t derived k own.node own.at) ∙ numbered tokens t derived k own.node own.at in
                      let is = from q k (by_kid ∙ at) id in
                      let one = is.0 in
                      let two = is.1 in
                      (omega (arith, one, apart), omega (arith, two, apart))

  kids_below : (j k : ℕ) → In k (node_at (nodes t) j).kids → k < (node_at (nodes t) j).id
  kids_below j k h = by (slice_get (nodes t) j) refl h
    where
      by : (o : Option Node) → slice_get (nodes t) j ≡ o → In k (unwrap_or o nowhere).kids → k < (unwrap_or o nowhere).id
      by None e i = absurd i
      by (Some x) e i = (kid_within t x k (in_at x (nodes t) j e) i).1

  -- ---- the name of a declarator

  pub record Declared (n first : ℕ) : Type 0 where
    pub name : Name
    pub among : Among name (places t).names
    pub at : name.node ≡ first
    pub owner : name.owner ≡ (node_at (nodes t) n).parent
    pub function : name.is_function ≡ declares_function (nodes t) (places t).names first (specs_of (nodes t) (node_at (nodes t) name.owner))
    pub specs : specs_by (nodes t) (node_at (nodes t) name.owner) (node_at (nodes t) name.owner).label.kind < first
    pub entity : entity_by (nodes t) (node_at (nodes t) name.owner) (specs_of (nodes t) (node_at (nodes t) name.owner)) (scope_at (scopes_of (nodes t)) first) name.is_function (node_at (nodes t) name.owner).label.kind ≡ Some name.entity

  pub declared_at : (n : ℕ) → n < length (nodes t) → (first : ℕ) → first ≡ (node_at (nodes t) n).first → first < length (nodes t)
      → Points (nodes t) n (whole_of (nodes t) first) → is_identifier (kind_at (nodes t) first) ≡ true → declares (kind_at (nodes t) (node_at (nodes t) n).parent) ≡ true → Declared n first
  declared_at n within first is low points ident owns = by (whole_of (nodes t) first) refl points
    where
      m : Node
      m = node_at (nodes t) first

      at : slice_get (nodes t) first ≡ Some m
      at = declared.there tokens t derived first low

      id : m.id ≡ first
      id = numbered tokens t derived first m at

      k : m.label.kind ≡ kind.Ident
      k = declared.identifier_kind m.label.kind ident

      by : (o : Option Node) → whole_of (nodes t) first ≡ o → Points (nodes t) n o → Declared n first
      by None g p = absurd (let q = within in omega (arith, p, q))
      by (Some w) g p = record {
        name = x;
        among = subst (Among x) (sym c.whole) (in_back x c.before (names_by (nodes t) (scopes_of (nodes t)) c.before m m.label.kind ++ c.later) (in_front x (names_by (nodes t) (scopes_of (nodes t)) c.before m m.label.kind) c.later (subst (Among x) (sym new_is) (inl refl))));
        at = id;
        owner = ap (λ (y : Node). y.parent) (whole ∙ sym p.1);
        function = declares_same (nodes t) c.before (places t).names m.id (specs_of (nodes t) owner) (ap is_some (says_same (nodes t) c.before (places t).names (specs_of (nodes t) owner).kids (among_all (λ j. denoted c.before j (text_at (nodes t) j) ≡ denoted (places t).names j (text_at (nodes t) j)) (specs_of (nodes t) owner).kids same)))
            ∙ ap (λ i. declares_function (nodes t) (places t).names i (specs_of (nodes t) owner)) id;
        specs = specs_first.1;
        entity = ap (λ i. entity_by (nodes t) owner (specs_of (nodes t) owner) (scope_at (scopes_of (nodes t)) i) f owner.label.kind) (sym id) ∙ entity.1;
      }
        where
          whole : whole_declarator (nodes t) m.id ≡ w
          whole = ap (whole_declarator (nodes t)) id ∙ ap (λ o. unwrap_or o nowhere) g

          c : Cut (nodes t) (places t).names first m
          c = cut_at (nodes t) [] (nodes t) first m at

          owner : Node
          owner = node_at (nodes t) (whole_declarator (nodes t) m.id).parent

          f : Bool
          f = declares_function (nodes t) c.before m.id (specs_of (nodes t) owner)

          entity : (y : Entity) × (entity_by (nodes t) owner (specs_of (nodes t) owner) (scope_at (scopes_of (nodes t)) m.id) f owner.label.kind ≡ Some y)
          entity = declared.so_declares (nodes t) owner (specs_of (nodes t) owner) (scope_at (scopes_of (nodes t)) m.id) f owner.label.kind (ap (λ (y : Node). declares (kind_at (nodes t) y.parent)) (whole ∙ sym p.1) ∙ owns)

          x : Name
          x = record { text = m.label.text; node = m.id; behind = (whole_declarator (nodes t) m.id).id; owner = (whole_declarator (nodes t) m.id).parent; scope = scope_at (scopes_of (nodes t)) m.id; entity = entity.0; is_function = f }

          new_is : names_by (nodes t) (scopes_of (nodes t)) c.before m m.label.kind ≡ x ∷ []
          new_is = ap (λ q. names_by (nodes t) (scopes_of (nodes t)) c.before m q) k ∙ ap (λ o. name_list m (whole_declarator (nodes t) m.id) (scope_at (scopes_of (nodes t)) m.id) f o) entity.1

          cut : (places t).names ≡ c.before ++ (x ∷ c.later)
          cut = c.whole ∙ ap (λ xs. c.before ++ (xs ++ c.later)) new_is

          n_is : NameIs (category_at t) (nodes t) links first
          n_is = whole_named (category_at t) (nodes t) links first m at k

          specs_first : SpecsBelow owner first
          specs_first =
              let q = n_is.whole in
              let low = specs_low n_is.place q.node q.at q.is q.whole in
              let same : w ≡ q.node = ap (λ o. unwrap_or o nowhere) (sym g) ∙ n_is.is in
              let parent : parent_of (nodes t) q.node.id ≡ owner = ap (λ (y : Node). node_at (nodes t) y.parent) (node_there tokens t derived q.node.id q.node (subst (λ i. slice_get (nodes t) i ≡ Some q.node) (sym (numbered tokens t derived n_is.place q.node q.at)) q.at)) ∙ ap (λ (y : Node). node_at (nodes t) y.parent) (sym (whole ∙ same)) in
              let begins = n_is.first in
              subst (λ (o : Node). SpecsBelow o first) parent (subst (SpecsBelow (parent_of (nodes t) q.node.id)) begins low)

          late : (j : ℕ) → Among j (specs_of (nodes t) owner).kids → (a : Name) → Among a (x ∷ c.later) → j ≤ a.behind
          late j i a h =
              let less = kids_below (specs_by (nodes t) owner owner.label.kind) j (to_in j (specs_of (nodes t) owner).kids i) in
              let specs = specs_first.0 in
              let least = head_least x c.later (ascend_back c.before (x ∷ c.later) (subst Ascend cut (declared.ascend tokens t derived))) a h in
              let behind = (behind_low a (subst (Among a) (sym cut) (in_back a c.before (x ∷ c.later) h))).low in
              let own = id in
              omega (arith, less, specs, least, behind, own)

          same : (j : ℕ) → Among j (specs_of (nodes t) owner).kids → denoted c.before j (text_at (nodes t) j) ≡ denoted (places t).names j (text_at (nodes t) j)
          same j i = sym (ap (λ xs. denoted xs j (text_at (nodes t) j)) cut ∙ denoted_front c.before (x ∷ c.later) j (text_at (nodes t) j) (late j i))
