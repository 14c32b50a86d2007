-- Each object that is named is there.
use Rattle.std.proofs.Common.{◌≡◌, ◌⊎◌, inl, inr, ℕ, zero, suc, ◌+◌, ◌<◌, ◌≤◌, Bool, true, false, ◌||◌, ◌&&◌, not, cond, List, [], ◌∷◌, ◌++◌, length, map, Option, Some, None, refl, sym, ap, ◌∙◌, subst, arith, true≢false, unwrap_or, length-append}
use Rattle.std.specs.Prelude.{slice_get, if◌then◌else◌, find, filter, flat_map, position, zip, nat_lt, nat_le, ◌==◌}
use Rattle.std.specs.List.{last_or, list_any, position_or_len}
use Rattle.std.specs.Option.{is_some}
use Rattle.std.specs.Str.{bytes_eq}
use Rattle.std.proofs.lemmas.Slice.Eq.{bytes_eq-Decides}
use Rattle.c_lexer.specs.declared.token.Token.{Token}
use Rattle.c_syntax.specs.declared.kind.SynKind.TheVariants as kind
use Rattle.c_syntax.specs.Trees.{Tree}
use Rattle.c_grammar.specs.Derivation.{IsTreeOf}
use Rattle.c_typing.specs.Types.{CType}
use Rattle.c_typing.specs.Places.{Node, nodes, is_whole, is_file_scope, is_string, end_of}
use Rattle.c_typing.specs.Names.{Entity, static_object, Places, places, Name, is_static, is_again, earlier, is_initialized, defines_object, is_defined_object, objects_of, object_number, innermost, inner_of, names_at, denoted}
use Rattle.c_typing.specs.Judgements.{Typing, Meaning, expresses, Judgement, means, declares, judgement_at, layouts}
use Rattle.c_typing.specs.Rules.{are_functions, may_be_again, agree_with, is_refused, declared_twice, broken_if, no_definition}
use Rattle.c_typing.specs.Declarators.{object_size, name_faults, declared_faults, type_before}
use Rattle.c_typing.specs.Expressions.{is_literal, literals_before}
use Rattle.c_typing.specs.Shapes as category
use Rattle.c_typing.specs.ShapesOfNodes.{category_at}
use Rattle.c_typing.specs.Typing.{judgements_at, data_of, object_of, literals_of, literal_object, is_there, use_faults, place_faults_by}
use Rattle.c_typing.proofs.MadeJudged.{IsFront}
use Rattle.c_typing.proofs.MadeNodes.{In, in_at}
use Rattle.c_typing.proofs.MadeAround.{both_true, and_true, equal_so, find_is}
use Rattle.c_typing.proofs.MadeDefined.{Clean}
use Rattle.c_typing.proofs.MadeFunctionNames.{find_one, Anything, no_chains}
use Rattle.c_typing.proofs.MadeTexts.{front_none, back_none}
use Rattle.c_typing.proofs.MadeOnce.{filter_in, last_there}
use Rattle.c_typing.proofs.MadeMain.{filter_so}
use Rattle.c_typing.proofs.MadeKept.{is_object_entity, kept_name, object_named, last_in}

-- ---- names of one scope with one text

pub again_so : (a b : Name) → is_again a b ≡ true → (a.text ≡ b.text) × (a.scope.owner ≡ b.scope.owner)
again_so a b e = let h = both_true (bytes_eq a.text b.text) (a.scope.owner == b.scope.owner) e in ((bytes_eq-Decides a.text b.text).0 h.0, equal_so a.scope.owner b.scope.owner h.1)

pub so_again : (a b : Name) → a.text ≡ b.text → a.scope.owner ≡ b.scope.owner → is_again a b ≡ true
so_again a b e f = and_true (bytes_eq a.text b.text) (a.scope.owner == b.scope.owner) ((bytes_eq-Decides a.text b.text).1 e) (alike a.scope.owner b.scope.owner f)
  where
    alike : (i j : ℕ) → i ≡ j → (i == j) ≡ true
    alike i j h = grind arith

pub again_through : (a b c : Name) → is_again a b ≡ true → is_again b c ≡ true → is_again a c ≡ true
again_through a b c e f = let h = again_so a b e in let g = again_so b c f in so_again a c (h.0 ∙ g.0) (h.1 ∙ g.1)

pub again_back : (a b : Name) → is_again a b ≡ true → is_again b a ≡ true
again_back a b e = let h = again_so a b e in so_again b a (sym h.0) (sym h.1)

-- ---- positions

position_below : {A : Type 0} (f : A → Bool) (xs : List A) (x : A) → In x xs → f x ≡ true → position_or_len f xs < length xs
position_below f [] x h e = absurd h
position_below {A} f (y ∷ ys) x h e = by (f y) refl h (position_below f ys x)
  where
    by : (b : Bool) → f y ≡ b → In x (y ∷ ys) → (In x ys → f x ≡ true → position_or_len f ys < length ys) → cond (not b) (1 + position_or_len f ys) 0 < suc (length ys)
    by true g i more = omega arith
    by false g (inl same) more = absurd (true≢false (sym e ∙ (ap f (sym same) ∙ g)))
    by false g (inr i) more = let m = more i e in omega (arith, m)

pub position_there : {A : Type 0} (f : A → Bool) (xs : List A) (x : A) → In x xs → f x ≡ true → (i : ℕ) × (position f xs ≡ Some i) × (i < length xs)
position_there {A} f xs x h e = (position_or_len f xs, ap (λ b. cond b (Some (position_or_len f xs)) None) (low (position_or_len f xs) (length xs) (position_below f xs x h e)), position_below f xs x h e)
  where
    low : (a b : ℕ) → a < b → nat_lt a b ≡ true
    low a b lt = grind arith

-- what an identifier denotes is one of the names
innermost_in : (best : Option Name) (names : List Name) (e : Name) → innermost best names ≡ Some e → (best ≡ Some e) ⊎ In e names
innermost_in best [] e h = inl h
innermost_in best (a ∷ names) e h = by (innermost_in (inner_of best a) names e h)
  where
    inner : (best : Option Name) → inner_of best a ≡ Some e → (best ≡ Some e) ⊎ In e (a ∷ names)
    inner None g = inr (inl (cc g))
    inner (Some b) g = at (nat_le (end_of a.scope) (end_of b.scope)) g
      where
        at : (c : Bool) → (if c then Some a else Some b) ≡ Some e → (Some b ≡ Some e) ⊎ In e (a ∷ names)
        at true k = inr (inl (cc k))
        at false k = inl k

    by : (inner_of best a ≡ Some e) ⊎ In e names → (best ≡ Some e) ⊎ In e (a ∷ names)
    by (inl g) = inner best g
    by (inr g) = inr (inr g)

pub denoted_in : (names : List Name) (n : ℕ) (text : List ℕ) (e : Name) → denoted names n text ≡ Some e → In e names × (names_at n text e ≡ true)
denoted_in names n text e h = by (innermost_in None (filter (names_at n text) names) e h)
  where
    by : (None ≡ Some e) ⊎ In e (filter (names_at n text) names) → In e names × (names_at n text e ≡ true)
    by (inl g) = absurd (cc g)
    by (inr g) = filter_so (names_at n text) names e g

-- ---- how long the data are

long-map : {A B : Type 0} (f : A → B) (xs : List A) → length (map f xs) ≡ length xs
long-map f [] = refl
long-map f (x ∷ xs) = ap suc (long-map f xs)

pub data_length : (p : Places) (js : List Judgement) → length (data_of p js) ≡ length (objects_of p) + length (literals_of p js)
data_length p js =
    let a = length-append (map (object_of p js) (objects_of p)) (map (λ (n : Node). literal_object n.label.bytes) (literals_of p js)) in
    let b = long-map (object_of p js) (objects_of p) in
    let c = long-map (λ (n : Node). literal_object n.label.bytes) (literals_of p js) in
    omega (arith, a, b, c)

-- a literal is counted behind those before it
counted_more : (ns : List Node) (js more : List Judgement) → length (filter is_literal (zip ns js)) ≤ length (filter is_literal (zip ns (js ++ more)))
counted_more [] js more = omega arith
counted_more (n ∷ ns) [] more = omega arith
counted_more (n ∷ ns) (j ∷ js) more = by (is_literal (n, j)) (counted_more ns js more)
  where
    by : (b : Bool) → length (filter is_literal (zip ns js)) ≤ length (filter is_literal (zip ns (js ++ more)))
        → length (cond b ((n, j) ∷ filter is_literal (zip ns js)) (filter is_literal (zip ns js))) ≤ length (cond b ((n, j) ∷ filter is_literal (zip ns (js ++ more))) (filter is_literal (zip ns (js ++ more))))
    by true h = omega (arith, h)
    by false h = h

counted_own : (ns : List Node) (js more : List Judgement) (node : Node) (j : Judgement) → slice_get ns (length js) ≡ Some node → is_literal (node, j) ≡ true → length (filter is_literal (zip ns js)) < length (filter is_literal (zip ns (js ++ (j ∷ more))))
counted_own [] js more node j e h = absurd (cc e)
counted_own (n ∷ ns) [] more node j e h = let same : n ≡ node = cc e in first (is_literal (n, j)) (ap (λ x. is_literal (x, j)) same ∙ h)
  where
    first : (b : Bool) → b ≡ true → 0 < length (cond b ((n, j) ∷ filter is_literal (zip ns more)) (filter is_literal (zip ns more)))
    first true g = omega arith
    first false g = absurd (true≢false (sym g))
counted_own (n ∷ ns) (i ∷ js) more node j e h = by (is_literal (n, i)) (counted_own ns js more node j e h)
  where
    by : (b : Bool) → length (filter is_literal (zip ns js)) < length (filter is_literal (zip ns (js ++ (j ∷ more))))
        → length (cond b ((n, i) ∷ filter is_literal (zip ns js)) (filter is_literal (zip ns js))) < length (cond b ((n, i) ∷ filter is_literal (zip ns (js ++ (j ∷ more)))) (filter is_literal (zip ns (js ++ (j ∷ more)))))
    by true g = omega (arith, g)
    by false g = g

-- the judgements behind a front begin with that of the next node
pub next_of : (js more : List Judgement) (m : Meaning) → judgement_at (js ++ more) (length js) ≡ means m → (rest : List Judgement) × (more ≡ means m ∷ rest)
next_of [] [] m e = absurd (cc e)
next_of [] (j ∷ more) m e = (more, ap (λ q. q ∷ more) e)
next_of (i ∷ js) more m e = next_of js more m e

pub literal_below : (p : Places) (js : List Judgement) (node : Node) (x : Typing) (h : ℕ) → slice_get p.nodes (length js) ≡ Some node → is_string node.label.kind ≡ true → IsFront p js → judgement_at (judgements_at p) (length js) ≡ means (expresses x h)
    → literals_before p js < length (literals_of p (judgements_at p))
literal_below p js node x h there is front e =
    let more = next_of js front.0 (expresses x h) (ap (λ q. judgement_at q (length js)) (sym front.1) ∙ e) in
    let all : judgements_at p ≡ js ++ (means (expresses x h) ∷ more.0) = front.1 ∙ ap (λ q. js ++ q) more.1 in
    let own = counted_own p.nodes js more.0 node (means (expresses x h)) there (ap (λ b. b && true) is) in
    let long = long-map (λ (q : Node × Judgement). q.0) (filter is_literal (zip p.nodes (judgements_at p))) in
    subst (λ n. literals_before p js < n) (sym long) (subst (λ q. literals_before p js < length (filter is_literal (zip p.nodes q))) (sym all) own)

-- ---- objects with names

module _ (tokens : List Token) (t : Tree) (derived : IsTreeOf tokens t) (ok : Clean t)
    (meant : (n : ℕ) (node : Node) → slice_get (nodes t) n ≡ Some node → category_at t n ≡ category.declarator → is_whole (nodes t) node ≡ true → (u : CType) × (judgement_at (judgements_at (places t)) n ≡ means (declares u))) where
  p : Places
  p = places t

  -- the last declaration before one of an object is one of an object
  before_static : (x y : Name) → In x (places t).names → x.entity ≡ static_object → last_or None (earlier (places t) x) ≡ Some y → y.entity ≡ static_object
  before_static x y h e last =
      let named = object_named tokens t derived x h (ap is_object e) in
      let k = kept_name tokens t derived meant (Anything tokens t derived) (no_chains tokens t derived) x h named.0 named.1 in
      let faults : declared_faults (places t) k.whole.js x k.type k.names.low.id false static_object ≡ [] = subst (λ q. declared_faults (places t) k.whole.js x k.type k.names.low.id false q ≡ []) e k.kept in
      let names = back_none (object_size (layouts k.whole.js) k.type k.names.low.id) (name_faults (places t) k.whole.js x k.type k.names.low.id false) faults in
      let once : declared_twice (places t) x k.type (type_before (places t) k.whole.js x) x.node ≡ [] = front_none (declared_twice (places t) x k.type (type_before (places t) k.whole.js x) x.node) _ names in
      static_so (may x y k.type (type_before (places t) k.whole.js x) x.node last once)
    where
      is_object : Entity → Bool
      is_object y = is_object_entity y

      may : (x y : Name) (u : CType) (o : Option CType) (n : ℕ) → last_or None (earlier (places t) x) ≡ Some y → declared_twice (places t) x u o n ≡ [] → may_be_again (places t) x y ≡ true
      may x y u o n l g = by (may_be_again (places t) x y) refl
        where
          at : broken_if (not (may_be_again (places t) x y && agree_with u o)) 3 n ≡ []
          at = subst (λ q. broken_if (is_refused (places t) x u o q) 3 n ≡ []) l g

          by : (b : Bool) → may_be_again (places t) x y ≡ b → may_be_again (places t) x y ≡ true
          by true q = q
          by false q = let bad : broken_if true 3 n ≡ [] = subst (λ b. broken_if (not (b && agree_with u o)) 3 n ≡ []) q at in absurd (cc bad)

      entity_so : (a : Entity) → is_static a ≡ true → a ≡ static_object
      entity_so static_object q = refl
      entity_so _ q = absurd (true≢false (sym q))

      static_at : (a : Entity) → (are_functions a static_object || is_static a && is_static static_object && is_file_scope (places t).nodes x.scope) && not (is_initialized (places t) x && list_any (is_initialized (places t)) (earlier (places t) x)) ≡ true → is_static a ≡ true
      static_at static_object q = refl
      static_at _ q = absurd (true≢false (sym q))

      static_so : may_be_again (places t) x y ≡ true → y.entity ≡ static_object
      static_so q = entity_so y.entity (static_at y.entity (subst (λ z. (are_functions y.entity z || is_static y.entity && is_static z && is_file_scope (places t).nodes x.scope) && not (is_initialized (places t) x && list_any (is_initialized (places t)) (earlier (places t) x)) ≡ true) e q))

  -- the first declaration of an object
  pub record First (x : Name) : Type 0 where
    pub name : Name
    pub among : In name (places t).names
    pub static : name.entity ≡ static_object
    pub again : is_again name x ≡ true
    pub alone : earlier (places t) name ≡ []

  first_by : (k : ℕ) (x : Name) → x.behind < k → In x (places t).names → x.entity ≡ static_object → First x
  first_by zero x lt h e = absurd (omega (arith, lt))
  first_by (suc k) x lt h e = by (earlier (places t) x) refl (λ y l b i s. first_by k y (omega (arith, lt, b)) i s)
    where
      by : (ys : List Name) → earlier (places t) x ≡ ys → ((y : Name) → is_again y x ≡ true → y.behind < x.behind → In y (places t).names → y.entity ≡ static_object → First y) → First x
      by [] g more = record { name = x; among = h; static = e; again = so_again x x refl refl; alone = g }
      by (z ∷ zs) g more =
          let l = last_there (earlier (places t) x) z None (subst (λ q. In z q) (sym g) (inl refl)) in
          at l.0 l.1 (last_in (earlier (places t) x) None l.0 l.1)
        where
          less : (a b : ℕ) → nat_lt a b ≡ true → a < b
          less a b q = grind arith

          at : (y : Name) → last_or None (earlier (places t) x) ≡ Some y → In y (earlier (places t) x) ⊎ (None ≡ Some y) → First x
          at y l (inr q) = absurd (cc q)
          at y l (inl q) =
              let f = filter_so (λ (a : Name). is_again a x && nat_lt a.behind x.behind) (places t).names y q in
              let b = both_true (is_again y x) (nat_lt y.behind x.behind) f.1 in
              let m = more y b.0 (less y.behind x.behind b.1) f.0 (before_static x y h e l) in
              record { name = m.name; among = m.among; static = m.static; again = again_through m.name y x m.again b.0; alone = m.alone }

  defined_so : (x b : Name) → is_again b x ≡ true → is_defined_object (places t) x ≡ true → is_defined_object (places t) b ≡ true
  defined_so x b g e =
      let o = some_one (find (λ a. is_again a x && defines_object (places t) a) (places t).names) e in
      let f = find_is (λ a. is_again a x && defines_object (places t) a) (places t).names o.0 o.1 in
      let h = both_true (is_again o.0 x) (defines_object (places t) o.0) f.1 in
      let n = find_one (λ a. is_again a b && defines_object (places t) a) (places t).names o.0 f.0 (and_true (is_again o.0 b) (defines_object (places t) o.0) (again_through o.0 x b h.0 (again_back b x g)) h.1) in
      ap is_some n.1
    where
      some_one : (o : Option Name) → is_some o ≡ true → (a : Name) × (o ≡ Some a)
      some_one None q = absurd (true≢false (sym q))
      some_one (Some a) q = (a, refl)

  numbered_below : (x : Name) → First x → is_defined_object (places t) x ≡ true → unwrap_or (object_number (places t) x) 0 < length (objects_of (places t))
  numbered_below x f e =
      let static : is_static f.name.entity ≡ true = ap is_static f.static in
      let listed = filter_in (λ (a : Name). is_static a.entity && length (earlier (places t) a) == 0 && is_defined_object (places t) a) (places t).names f.name f.among (passes (is_static f.name.entity) (length (earlier (places t) f.name) == 0) (is_defined_object (places t) f.name) static (zero_is (length (earlier (places t) f.name)) (ap length f.alone)) (defined_so x f.name f.again e)) in
      let i = position_there (λ a. is_again a x) (objects_of (places t)) f.name listed f.again in
      subst (λ o. unwrap_or o 0 < length (objects_of (places t))) (sym i.1) i.2
    where
      zero_is : (n : ℕ) → n ≡ 0 → (n == 0) ≡ true
      zero_is n q = grind arith

      passes : (a b c : Bool) → a ≡ true → b ≡ true → c ≡ true → a && b && c ≡ true
      passes true true true q r s = refl
      passes false b c q r s = absurd (true≢false (sym q))
      passes true false c q r s = absurd (true≢false (sym r))
      passes true true false q r s = absurd (true≢false (sym s))

  -- a name that is used has a definition (rule 17)
  used_by : (node : Node) (o : Option Name) (e : Name) → o ≡ Some e → use_faults (places t) node o ≡ [] → is_there (places t) e e.entity ≡ true
  used_by node o e same h = by (is_there (places t) e e.entity) refl
    where
      at : no_definition (is_there (places t) e e.entity) node.id ≡ []
      at = subst (λ q. use_faults (places t) node q ≡ []) same h

      by : (b : Bool) → is_there (places t) e e.entity ≡ b → is_there (places t) e e.entity ≡ true
      by true g = g
      by false g = let bad : broken_if true 17 node.id ≡ [] = subst (λ b. no_definition b node.id ≡ []) g at in absurd (cc bad)

  flat_none : (ns : List Node) (node : Node) → In node ns → flat_map (λ (m : Node). place_faults_by (places t) m m.label.kind) ns ≡ [] → place_faults_by (places t) node node.label.kind ≡ []
  flat_none [] node h e = absurd h
  flat_none (n ∷ ns) node (inl same) e = subst (λ (m : Node). place_faults_by (places t) m m.label.kind ≡ []) same (front_none (place_faults_by (places t) n n.label.kind) (flat_map (λ (m : Node). place_faults_by (places t) m m.label.kind) ns) e)
  flat_none (n ∷ ns) node (inr h) e = flat_none ns node h (back_none (place_faults_by (places t) n n.label.kind) (flat_map (λ (m : Node). place_faults_by (places t) m m.label.kind) ns) e)

  pub place_clean : (node : Node) → In node (nodes t) → place_faults_by (places t) node node.label.kind ≡ []
  place_clean node h = flat_none (nodes t) node h ok.places_clean

  pub used : (n : ℕ) (node : Node) (e : Name) → slice_get (nodes t) n ≡ Some node → node.label.kind ≡ kind.Var → denoted (places t).names node.id node.label.text ≡ Some e → is_there (places t) e e.entity ≡ true
  used n node e there is d =
      let f = flat_none (nodes t) node (in_at node (nodes t) n there) ok.places_clean in
      used_by node (denoted (places t).names node.id node.label.text) e d (subst (λ k. place_faults_by (places t) node k ≡ []) is f)

  pub object_below : (n : ℕ) (node : Node) (e : Name) → slice_get (nodes t) n ≡ Some node → node.label.kind ≡ kind.Var → denoted (places t).names node.id node.label.text ≡ Some e → e.entity ≡ static_object
      → unwrap_or (object_number (places t) e) 0 < length (objects_of (places t))
  object_below n node e there is d s =
      let among = (denoted_in (places t).names node.id node.label.text e d).0 in
      numbered_below e (first_by (suc e.behind) e (omega arith) among s) (subst (λ y. is_there (places t) e y ≡ true) s (used n node e there is d))
