-- No two functions have one name.
use Rattle.std.proofs.Common.{◌≡◌, ◌⊎◌, inl, inr, ℕ, ◌<◌, ◌≤◌, Bool, true, false, ◌&&◌, not, cond, List, [], ◌∷◌, map, Option, Some, None, refl, sym, ap, ap₂, ◌∙◌, subst, arith, true≢false}
use Rattle.std.specs.Prelude.{slice_get, filter, filter_map, nat_lt, ◌==◌}
use Rattle.std.specs.List.{AllByRecursion, IsDistinct, list_any, last_or}
use Rattle.std.specs.Str.{bytes_eq}
use Rattle.c_lexer.specs.declared.token.Token.{Token}
use Rattle.c_syntax.specs.declared.kind.SynKind.{SynKind}
use Rattle.c_syntax.specs.declared.kind.SynKind.TheVariants as kind
use Rattle.c_syntax.specs.Trees.{Tree}
use Rattle.c_grammar.specs.Derivation.{IsTreeOf}
use Rattle.c_types.specs.declared.tree.Func.{Func}
use Rattle.c_typing.specs.Types.{CType}
use Rattle.c_typing.specs.Places.{Node, nodes, node_at, kid, has_kid}
use Rattle.c_typing.specs.Names.{Places, places, Name, is_again, earlier, is_initialized}
use Rattle.c_typing.specs.Judgements.{defines, means, judgement_at}
use Rattle.c_typing.specs.Rules.{may_be_again, is_refused, agree_with, declared_twice, broken_if}
use Rattle.c_typing.specs.Typing.{judgements_at, defined_in}
use Rattle.c_typing.proofs.MadeNodes.{In, in_at, node_bounds}
use Rattle.c_typing.proofs.MadeParts.{least_kids}
use Rattle.c_typing.proofs.MadePlaced.{numbered, node_there, kid_found, kid_in, kid_has}
use Rattle.c_typing.proofs.MadeAround.{and_true, one_any}
use Rattle.c_typing.proofs.MadeTop.{around_function}
use Rattle.c_typing.proofs.MadeFunctions.{Pairs, functions_pairs}
use Rattle.c_typing.proofs.MadeDefined.{Defined, defined_at}
use Rattle.c_typing.proofs.MadeFunctionNames.{FunctionName, kept_of, Anything, no_chains}
use Rattle.c_typing.proofs.MadeTexts.{faultless, text_is}
use Rattle.c_typing.proofs.MadeDistinct.{in_file_scope}

pub filter_in : {A : Type 0} (f : A → Bool) (xs : List A) (x : A) → In x xs → f x ≡ true → In x (filter f xs)
filter_in f [] x h e = absurd h
filter_in {A} f (y ∷ xs) x h e = by (f y) refl h (filter_in f xs x)
  where
    by : (b : Bool) → f y ≡ b → In x (y ∷ xs) → (In x xs → f x ≡ true → In x (filter f xs)) → In x (cond b (y ∷ filter f xs) (filter f xs))
    by true g (inl same) more = inl same
    by true g (inr i) more = inr (more i e)
    by false g (inl same) more = absurd (true≢false (sym e ∙ (ap f (sym same) ∙ g)))
    by false g (inr i) more = more i e

pub last_there : {A : Type 0} (xs : List A) (x : A) (o : Option A) → In x xs → (y : A) × (last_or o xs ≡ Some y)
last_there [] x o h = absurd h
last_there (y ∷ []) x o h = (y, refl)
last_there (y ∷ z ∷ xs) x o h = last_there (z ∷ xs) z (Some y) (inl refl)

-- a name that is initialized is not declared again with an initializer
again_refused : (p : Places) (e a z : Name) → is_initialized p e ≡ true → list_any (is_initialized p) (earlier p e) ≡ true → may_be_again p e z ≡ false
again_refused p e a z f g = last_false _ (is_initialized p e) (list_any (is_initialized p) (earlier p e)) f g
  where
    last_false : (x b c : Bool) → b ≡ true → c ≡ true → (x && not (b && c)) ≡ false
    last_false true true true h i = refl
    last_false false true true h i = refl
    last_false x false c h i = absurd (true≢false (sym h))
    last_false x b false h i = absurd (true≢false (sym i))

pub twice : (p : Places) (e a : Name) (u : CType) (o : Option CType) (n : ℕ) → In a (earlier p e) → is_initialized p e ≡ true → is_initialized p a ≡ true → declared_twice p e u o n ≡ [] → ⊥
twice p e a u o n h f g k = by (last_there (earlier p e) a None h)
  where
    by : (z : Name) × (last_or None (earlier p e) ≡ Some z) → ⊥
    by (z, q) =
        let refused : is_refused p e u o (Some z) ≡ true = ap (λ b. not (b && agree_with u o)) (again_refused p e a z f (one_any (is_initialized p) (earlier p e) a h g)) in
        let at : broken_if (is_refused p e u o (Some z)) 3 n ≡ [] = subst (λ m. broken_if (is_refused p e u o m) 3 n ≡ []) q k in
        let is : broken_if true 3 n ≡ [] = subst (λ b. broken_if b 3 n ≡ []) refused at in
        absurd (cc is)

module _ (tokens : List Token) (t : Tree) (derived : IsTreeOf tokens t) where
  initialized_so : (n : ℕ) (node : Node) → slice_get (nodes t) n ≡ Some node → node.label.kind ≡ kind.Function → (f : FunctionName tokens t derived node) → is_initialized (places t) f.name ≡ true
  initialized_so n node at is f =
      let owner : node_at (nodes t) f.name.owner ≡ node = ap (λ i. node_at (nodes t) i) (f.owner ∙ numbered tokens t derived n node at) ∙ node_there tokens t derived n node at in
      ap (λ (m : Node). has_kid m 1) owner ∙ kid_has tokens t derived n node 1 at (subst (λ l. 1 < least_kids l) (sym is) (omega arith))

  -- the later one begins behind the earlier one
  later_begins : (a b : ℕ) (x y : Node) → a < b → slice_get (nodes t) a ≡ Some x → slice_get (nodes t) b ≡ Some y → x.label.kind ≡ kind.Function → y.label.kind ≡ kind.Function → a < y.first
  later_begins a b x y lt at bt is js = by (or_not a y.first)
    where
      or_not : (i j : ℕ) → (i < j) ⊎ (j ≤ i)
      or_not i j = grind arith

      is_function_kind : SynKind → Bool
      is_function_kind kind.Function = true
      is_function_kind k = false

      by : (a < y.first) ⊎ (y.first ≤ a) → a < y.first
      by (inl less) = less
      by (inr low) =
          let id = numbered tokens t derived b y bt in
          let unit = around_function tokens t derived a x y at is (in_at y (nodes t) b bt) low (omega (arith, lt, id)) in
          absurd (true≢false (ap is_function_kind (sym js ∙ unit)))

  differ : (a b : ℕ) (f g : Func) → a < b → judgement_at (judgements_at (places t)) a ≡ means (defines f) → judgement_at (judgements_at (places t)) b ≡ means (defines g) → bytes_eq f.name g.name ≡ false
  differ a b f g lt e h = by (bytes_eq f.name g.name) refl
    where
      d : (x : Defined t f) × (x.place ≡ a)
      d = defined_at t a f e

      q : (x : Defined t g) × (x.place ≡ b)
      q = defined_at t b g h

      by : (c : Bool) → bytes_eq f.name g.name ≡ c → bytes_eq f.name g.name ≡ false
      by false same = same
      by true same =
          let k = kept_of tokens t derived (Anything tokens t derived) (no_chains tokens t derived) f d.0 in
          let m = kept_of tokens t derived (Anything tokens t derived) (no_chains tokens t derived) g q.0 in
          let w = faultless (places t) m.whole.js m.names.name (q.0).type m.names.low.id m.kept in
          let texts : bytes_eq k.names.name.text m.names.name.text ≡ true = ap₂ bytes_eq (sym (text_is tokens t derived f d.0 k.names)) (sym (text_is tokens t derived g q.0 m.names)) ∙ same in
          let scope_f = in_file_scope tokens t derived (d.0).place (d.0).node (d.0).there (d.0).is_function k.names in
          let scope_g = in_file_scope tokens t derived (q.0).place (q.0).node (q.0).there (q.0).is_function m.names in
          let begins = later_begins (d.0).place (q.0).place (d.0).node (q.0).node (subst (λ i. i < (q.0).place) (sym d.1) (subst (λ i. a < i) (sym q.1) lt)) (d.0).there (q.0).there (d.0).is_function (q.0).is_function in
          let low_f = kid_before d.0 k.names in
          let low_g = node_bounds t m.names.low (in_at m.names.low (nodes t) (kid (q.0).node 1) m.names.there) in
          let from = m.names.starts in
          let behind_f = k.names.behind in
          let behind_g = m.names.behind in
          let early : k.names.name.behind < m.names.name.behind = omega (arith, begins, low_f, low_g, from, behind_f, behind_g) in
          let again : is_again k.names.name m.names.name ≡ true = and_true (bytes_eq k.names.name.text m.names.name.text) (k.names.name.scope.owner == m.names.name.scope.owner) texts (alike k.names.name.scope.owner m.names.name.scope.owner (scope_f ∙ sym scope_g)) in
          let there = filter_in (λ (x : Name). is_again x m.names.name && nat_lt x.behind m.names.name.behind) (places t).names k.names.name k.names.among
          (and_true (is_again k.names.name m.names.name) (nat_lt k.names.name.behind m.names.name.behind) again (low_is k.names.name.behind m.names.name.behind early)) in
          absurd (twice (places t) m.names.name k.names.name (q.0).type _ m.names.name.node there
          (initialized_so (q.0).place (q.0).node (q.0).there (q.0).is_function m.names) (initialized_so (d.0).place (d.0).node (d.0).there (d.0).is_function k.names) w.once)
        where
          low_is : (i j : ℕ) → i < j → nat_lt i j ≡ true
          low_is i j l = grind arith

          alike : (i j : ℕ) → i ≡ j → (i == j) ≡ true
          alike i j l = grind arith

          kid_before : (x : Defined t f) (n : FunctionName tokens t derived x.node) → n.low.id < x.place
          kid_before x n =
              let l = kid_found tokens t derived x.place x.node (kid x.node 1) x.there (kid_in tokens t derived x.place x.node 1 x.there (subst (λ y. 1 < least_kids y) (sym x.is_function) (omega arith))) in
              let before = l.before in
              let id = numbered tokens t derived x.place x.node x.there in
              let low = numbered tokens t derived (kid x.node 1) n.low n.there in
              omega (arith, before, id, low)

  names_apart : (fs : List Func) → Pairs (λ f g. bytes_eq f.name g.name ≡ false) fs → IsDistinct bytes_eq (map (λ (f : Func). f.name) fs)
  unfolding IsDistinct
  names_apart [] h = tt
  names_apart (f ∷ fs) h = (each fs h.0, names_apart fs h.1)
    where
      each : (gs : List Func) → AllByRecursion (λ (g : Func). bytes_eq f.name g.name ≡ false) gs → AllByRecursion (λ y. bytes_eq f.name y ≡ false) (map (λ (g : Func). g.name) gs)
      each [] k = tt
      each (g ∷ gs) k = (k.0, each gs k.1)

  pub distinct : IsDistinct bytes_eq (map (λ (f : Func). f.name) (filter_map defined_in (judgements_at (places t))))
  distinct = names_apart (filter_map defined_in (judgements_at (places t))) (functions_pairs (λ f g. bytes_eq f.name g.name ≡ false) (judgements_at (places t)) (λ a b f g lt e h. differ a b f g lt e h))
