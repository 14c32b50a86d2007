-- Scopes, names and texts of a table, as they are found.
use Rattle.std.proofs.Common.{◌≡◌, inl, inr, ℕ, suc, ◌+◌, ◌<◌, ◌≤◌, Bool, true, false, cond, List, [], ◌∷◌, length, map, Option, Some, None, refl, sym, ap, ◌∙◌, subst, arith, true≢false, unwrap_or, get_or}
use Rattle.std.specs.Prelude.{slice_get, find, option_map, if◌then◌else◌}
use Rattle.std.specs.Str.{bytes_eq}
use Rattle.std.proofs.lemmas.Option.{slice_get_within}
use Rattle.std.proofs.lemmas.List.FromFn.{get_or-map-range_with_len, length-map-range_with_len}
use Rattle.std.proofs.lemmas.Slice.Eq.{bytes_eq-Decides}
use Rattle.c_syntax.specs.declared.kind.SynKind.{SynKind}
use Rattle.c_syntax.specs.declared.kind.SynKind.TheVariants as kind
use Rattle.c_syntax.specs.declared.syntax.SynNode.{SynNode}
use Rattle.c_typing.specs.Places.{Node, node_at, kind_at, is_declarator, in_scope, scopes_of, scope_at, no_scope}
use Rattle.c_typing.proofs.MadeNodes.{In}
use Rattle.c_typing.proofs.MadePlaced.{found}
use Rattle.c_typing.proofs.MadeAround.{find_is, both_true}
use Rattle.c_typing.proofs.ProgressPlaces.{some_same}
use Rattle.c_nodes.specs.declared.spans.Span.{Span}
use Rattle.c_nodes.specs.Parents.{tree_in, nodes_in}
use Rattle.c_nodes.specs.Declarators.{Points, whole_of}
use Rattle.c_nodes.specs.Scopes.{scope_of}
use Rattle.c_nodes.specs.Spans.{found_in}
use Rattle.c_names.specs.Texts.{has_name, is_named, first_of}
use Rattle.c_names.specs.Denoted.{IsDerived, places_in, Among, is_enumerator, is_identifier, declares, IsScoped, IsScopeAt, Begins, IsBegun}
use Rattle.c_names.proofs.DeclaredLaws.{Start, start_enumerator, start_declarator, only, none_begins, labelled}

-- ---- the first of some spans

module _ (i : ℕ) where
  found_scope : (spans : List Span) (d : Span) → found_in spans i < length spans
      → (find (λ c. in_scope c i) (map scope_of spans) ≡ Some (scope_of (get_or spans (found_in spans i) d))) × Among (scope_of (get_or spans (found_in spans i) d)) (map scope_of spans)
  found_scope [] d h = absurd (omega (arith, h))
  found_scope (x ∷ spans) d h = by (in_scope (scope_of x) i) refl h (found_scope spans d)
    where
      further : (j : ℕ) → get_or (x ∷ spans) (1 + j) d ≡ get_or spans j d
      further j = ap (λ k. get_or (x ∷ spans) k d) {x = 1 + j} {y = suc j} (omega arith)

      by : (b : Bool) → in_scope (scope_of x) i ≡ b → (if b then 0 else 1 + found_in spans i) < suc (length spans)
          → (found_in spans i < length spans → (find (λ c. in_scope c i) (map scope_of spans) ≡ Some (scope_of (get_or spans (found_in spans i) d))) × Among (scope_of (get_or spans (found_in spans i) d)) (map scope_of spans))
          → (find (λ c. in_scope c i) (map scope_of (x ∷ spans)) ≡ Some (scope_of (get_or (x ∷ spans) (found_in (x ∷ spans) i) d))) × Among (scope_of (get_or (x ∷ spans) (found_in (x ∷ spans) i) d)) (map scope_of (x ∷ spans))
      by true e low more =
          let at : found_in (x ∷ spans) i ≡ 0 = ap (λ b. if b then 0 else 1 + found_in spans i) e in
          let is : get_or (x ∷ spans) (found_in (x ∷ spans) i) d ≡ x = ap (λ k. get_or (x ∷ spans) k d) at in
          (ap (λ b. cond b (Some (scope_of x)) (find (λ c. in_scope c i) (map scope_of spans))) e ∙ ap (λ q. Some (scope_of q)) (sym is), inl (ap scope_of (sym is)))
      by false e low more =
          let m = more (omega (arith, low)) in
          let at : found_in (x ∷ spans) i ≡ 1 + found_in spans i = ap (λ b. if b then 0 else 1 + found_in spans i) e in
          let is : get_or (x ∷ spans) (found_in (x ∷ spans) i) d ≡ get_or spans (found_in spans i) d = ap (λ k. get_or (x ∷ spans) k d) at ∙ further (found_in spans i) in (
            ap (λ b. cond b (Some (scope_of x)) (find (λ c. in_scope c i) (map scope_of spans))) e ∙ (m.0 ∙ ap (λ q. Some (scope_of q)) (sym is)),
            inr (subst (λ q. Among (scope_of q) (map scope_of spans)) (sym is) m.1),
          )

  no_scope_found : (spans : List Span) → length spans ≤ found_in spans i → find (λ c. in_scope c i) (map scope_of spans) ≡ None
  no_scope_found [] h = refl
  no_scope_found (x ∷ spans) h = by (in_scope (scope_of x) i) refl h (no_scope_found spans)
    where
      by : (b : Bool) → in_scope (scope_of x) i ≡ b → suc (length spans) ≤ (if b then 0 else 1 + found_in spans i)
          → (length spans ≤ found_in spans i → find (λ c. in_scope c i) (map scope_of spans) ≡ None) → find (λ c. in_scope c i) (map scope_of (x ∷ spans)) ≡ None
      by true e low more = absurd (omega (arith, low))
      by false e low more = ap (λ b. cond b (Some (scope_of x)) (find (λ c. in_scope c i) (map scope_of spans))) e ∙ more (omega (arith, low))

-- ---- the first node with a name

pub same_bytes : (a b : List ℕ) → bytes_eq a b ≡ true → a ≡ b
same_bytes a b e = (bytes_eq-Decides a b).0 e

-- texts with one first node are one
pub first_text : (s : List Node) (text : List ℕ) (k : ℕ) → first_of s text ≡ Some k → (m : Node) × In m s × (m.id ≡ k) × (m.label.text ≡ text)
first_text s text k e = by (find (is_named text) s) refl e
  where
    by : (o : Option Node) → find (is_named text) s ≡ o → option_map (λ (node : Node). node.id) o ≡ Some k → (m : Node) × In m s × (m.id ≡ k) × (m.label.text ≡ text)
    by None g h = absurd (cc h)
    by (Some m) g h =
        let f = find_is (is_named text) s m g in
        (m, f.0, cc h, same_bytes m.label.text text (both_true (has_name m.label.kind) (bytes_eq m.label.text text) f.1).1)

pub one_text_in : (table : List SynNode) (d : IsDerived table) (a b : List ℕ) (n : ℕ) → first_of (nodes_in table) a ≡ Some n → first_of (nodes_in table) b ≡ Some n → a ≡ b
unfolding nodes_in
one_text_in table d a b n e f =
    let p = first_text (nodes_in table) a n e in
    let q = first_text (nodes_in table) b n f in
    let at = found d.tokens (tree_in table) d.derived p.0 p.1 in
    let other = found d.tokens (tree_in table) d.derived q.0 q.1 in
    let id : (p.0).id ≡ (q.0).id = p.2 ∙ sym q.2 in
    let same : p.0 ≡ q.0 = some_same (sym at ∙ (ap (slice_get (nodes_in table)) id ∙ other)) in
    sym p.3 ∙ (ap (λ (m : Node). m.label.text) same ∙ q.3)

pub first_within_in : (table : List SynNode) (d : IsDerived table) → length (nodes_in table) ≡ length table → (text : List ℕ) (n : ℕ) → first_of (nodes_in table) text ≡ Some n → n < length table
unfolding nodes_in
first_within_in table d long text n e =
    let f = first_text (nodes_in table) text n e in
    let at = slice_get_within (nodes_in table) (f.0).id f.0 (found d.tokens (tree_in table) d.derived f.0 f.1) in
    let same = f.2 in
    omega (arith, at, long, same)

-- ---- of a table

module _ (table : List SynNode) (whole next first : List ℕ) (spans : List Span) (scope : List ℕ) (k : IsScoped table whole next first spans scope) where
  pub long : length (nodes_in table) ≡ length table
  long = k.wholes.nodes

  pub inner_long : length scope ≡ length table
  inner_long = ap length k.inner ∙ length-map-range_with_len (found_in spans) 0 (length table)

  found_at : (n : ℕ) → n < length table → get_or scope n 0 ≡ found_in spans n
  found_at n within = ap (λ xs. get_or xs n 0) k.inner ∙ get_or-map-range_with_len (found_in spans) 0 (length table) n n 0 within (omega arith)

  pub scope_found : (n : ℕ) (d : Span) → n < length table → get_or scope n 0 < length spans → IsScopeAt table n (Some (get_or spans (get_or scope n 0) d))
  scope_found n d within low =
      let at = found_at n within in
      let f = found_scope n spans d (omega (arith, low, at)) in
      let is : get_or spans (get_or scope n 0) d ≡ get_or spans (found_in spans n) d = ap (λ i. get_or spans i d) at in (
        ap (λ cs. scope_at cs n) (sym k.scopes) ∙ (ap (λ o. unwrap_or o no_scope) f.0 ∙ ap scope_of (sym is)),
        subst (λ cs. Among (scope_of (get_or spans (get_or scope n 0) d)) cs) k.scopes (subst (λ q. Among (scope_of q) (map scope_of spans)) (sym is) f.1),
      )

  pub scope_missing : (n : ℕ) → n < length table → length spans ≤ get_or scope n 0 → IsScopeAt table n None
  scope_missing n within past =
      let at = found_at n within in
      ap (λ cs. scope_at cs n) (sym k.scopes) ∙ ap (λ o. unwrap_or o no_scope) (no_scope_found n spans (omega (arith, past, at)))

  pub first_within : (text : List ℕ) (n : ℕ) → first_of (nodes_in table) text ≡ Some n → n < length table
  first_within text n e = first_within_in table k.derived long text n e

  begins : (n node : ℕ) → node < length table → Start k.derived.tokens (tree_in table) k.derived.derived n node
      → (is_enumerator (kind_at (nodes_in table) n) ≡ true → node ≡ n) → (is_declarator (kind_at (nodes_in table) n) ≡ true → node ≡ (node_at (nodes_in table) n).first)
      → Begins table n node
  unfolding nodes_in places_in
  begins n node within s enum decl = record {
    derived = k.derived;
    nodes = long;
    name = s.name;
    among = s.among;
    at = s.at;
    within = within;
    behind = s.behind;
    alone = only k.derived.tokens (tree_in table) k.derived.derived n node enum decl s;
    scope = (labelled k.derived.tokens (tree_in table) k.derived.derived s.name s.among).scope ∙ ap (scope_at (scopes_of (nodes_in table))) s.at;
    named = ap (λ i. has_name (kind_at (nodes_in table) i)) (sym s.at) ∙ (labelled k.derived.tokens (tree_in table) k.derived.derived s.name s.among).has;
  }

  no_declarator : (n : ℕ) → is_enumerator (kind_at (nodes_in table) n) ≡ true → is_declarator (kind_at (nodes_in table) n) ≡ true → ⊥
  no_declarator n e f = by (kind_at (nodes_in table) n) e f
    where
      by : (q : SynKind) → is_enumerator q ≡ true → is_declarator q ≡ true → ⊥
      by kind.Enumer e f = true≢false (sym f)
      by _ e f = true≢false (sym e)

  pub begins_enumerator : (n : ℕ) → n < length table → is_enumerator (kind_at (nodes_in table) n) ≡ true → Begins table n n
  unfolding nodes_in
  begins_enumerator n within e =
      begins n n within (start_enumerator k.derived.tokens (tree_in table) k.derived.derived n (subst (λ l. n < l) (sym long) within) e)
      (λ f. refl) (λ f. absurd (no_declarator n e f))

  pub begins_declarator : (n i : ℕ) → n < length table → i ≡ (node_at (nodes_in table) n).first → i ≤ n → Points (nodes_in table) n (whole_of (nodes_in table) i)
      → is_enumerator (kind_at (nodes_in table) n) ≡ false → is_identifier (kind_at (nodes_in table) i) ≡ true → declares (kind_at (nodes_in table) (node_at (nodes_in table) n).parent) ≡ true → Begins table n i
  unfolding nodes_in
  begins_declarator n i within is low points enum ident owns =
      begins n i (omega (arith, low, within))
      (start_declarator k.derived.tokens (tree_in table) k.derived.derived n (subst (λ l. n < l) (sym long) within) i is (subst (λ l. i < l) (sym long) (omega (arith, low, within))) points ident owns)
      (λ f. absurd (true≢false (sym f ∙ enum))) (λ f. is)

  pub nothing_begins : (n w : ℕ) → Points (nodes_in table) w (whole_of (nodes_in table) (node_at (nodes_in table) n).first)
      → is_enumerator (kind_at (nodes_in table) n) ≡ false
      → (w ≡ n → is_identifier (kind_at (nodes_in table) (node_at (nodes_in table) n).first) ≡ true → declares (kind_at (nodes_in table) (node_at (nodes_in table) n).parent) ≡ true → ⊥)
      → IsBegun table n None
  unfolding nodes_in places_in
  nothing_begins n w points enum tests = none_begins k.derived.tokens (tree_in table) k.derived.derived n w points enum (λ d. tests)
