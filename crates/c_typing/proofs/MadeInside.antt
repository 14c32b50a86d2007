-- What stands in the body of a function, and which of its locals that names.
use Rattle.std.proofs.Common.{◌≡◌, ◌⊎◌, inl, inr, ℕ, ◌+◌, ◌<◌, ◌≤◌, Bool, true, ◌&&◌, List, length, Option, Some, refl, sym, ap, ◌∙◌, subst, arith, true≢false, unwrap_or}
use Rattle.std.specs.Prelude.{slice_get, position, nat_le, ◌==◌}
use Rattle.c_lexer.specs.declared.token.Token.{Token}
use Rattle.c_syntax.specs.declared.kind.SynKind.{SynKind}
use Rattle.c_syntax.specs.declared.kind.SynKind.TheVariants as kind
use Rattle.c_syntax.specs.Trees.{Tree}
use Rattle.c_grammar.specs.Derivation.{IsTreeOf}
use Rattle.c_typing.specs.Places.{Node, nodes, kid, holds, is_function, is_takes, nowhere}
use Rattle.c_typing.specs.Names.{automatic, places, Name, is_automatic, automatics_in, named_locals, parameters_of, local_number, function_around}
use Rattle.c_typing.proofs.MadeNodes.{In, in_at, nested, crossed, kid_within}
use Rattle.c_typing.proofs.MadeParts.{least_kids}
use Rattle.c_typing.proofs.MadePlaced.{numbered, found, kid_in}
use Rattle.c_typing.proofs.MadeAround.{both_true, and_true, low_so, so_low, find_is}
use Rattle.c_typing.proofs.MadeTop.{around_function}
use Rattle.c_typing.proofs.MadeScopes.{is_body}
use Rattle.c_typing.proofs.MadeDistinct.{same_id, three_ways}
use Rattle.c_typing.proofs.MadeFunctionNames.{find_one}
use Rattle.c_typing.proofs.MadeOnce.{filter_in}
use Rattle.c_typing.proofs.MadeMain.{filter_so, function_kind}
use Rattle.c_typing.proofs.MadeObjects.{position_there}
use Rattle.c_typing.proofs.MadeStatements.{is_code_kind}

is_function_kind : SynKind → Bool
is_function_kind k = is_function k

body_no_function : (k : SynKind) → is_body k ≡ true → k ≡ kind.Function → ⊥
body_no_function k b e = true≢false (sym b ∙ ap is_body e)

body_no_unit : (k : SynKind) → is_body k ≡ true → k ≡ kind.Unit → ⊥
body_no_unit k b e = true≢false (sym b ∙ ap is_body e)

takes_no_code : (k : SynKind) → k ≡ kind.Takes → is_code_kind k ≡ true → ⊥
takes_no_code k e h = true≢false (sym h ∙ ap is_code_kind e)

module _ (tokens : List Token) (t : Tree) (derived : IsTreeOf tokens t) (m : ℕ) (fn : Node) (there : slice_get (nodes t) m ≡ Some fn) (is : fn.label.kind ≡ kind.Function) where
  fn_in : In fn (nodes t)
  fn_in = in_at fn (nodes t) m there

  fn_id : fn.id ≡ m
  fn_id = numbered tokens t derived m fn there

  -- n stands in the function, and in no list of parameters
  pub record InBody (n : ℕ) : Type 0 where
    pub from : fn.first ≤ n
    pub to : n < fn.id
    pub plain : (x : Node) → In x (nodes t) → x.label.kind ≡ kind.Takes → kid x 0 < n → n < x.id → ⊥

  -- a node that n stands in, and that is no function and no unit, stands in the function
  pub small : (x : Node) (n : ℕ) → In x (nodes t) → (x.label.kind ≡ kind.Function → ⊥) → (x.label.kind ≡ kind.Unit → ⊥) → x.first ≤ n → n ≤ x.id → fn.first ≤ n → n < fn.id → (fn.first ≤ x.first) × (x.id < fn.id)
  small x n h no_fn no_unit low high from to = by (three_ways x.id fn.id)
    where
      by : (x.id < fn.id) ⊎ ((x.id ≡ fn.id) ⊎ (fn.id < x.id)) → (fn.first ≤ x.first) × (x.id < fn.id)
      by (inl less) = (crossed t fn x fn_in h (omega (arith, from, high)) less, less)
      by (inr (inl same)) = absurd (no_fn (ap (λ (y : Node). y.label.kind) (same_id tokens t derived x fn h fn_in same) ∙ is))
      by (inr (inr more)) = let id = fn_id in absurd (no_unit (around_function tokens t derived m fn x there is h (omega (arith, low, to, id)) (omega (arith, more, id))))

  pub body_up : (n k : ℕ) (node : Node) → slice_get (nodes t) n ≡ Some node → is_code_kind node.label.kind ≡ true → In k node.kids → InBody n → InBody k
  body_up n k node at code i c =
      let inside = in_at node (nodes t) n at in
      let w = kid_within t node k inside i in
      let low = w.0 in
      let up = w.1 in
      let id = numbered tokens t derived n node at in
      let from = c.from in
      let to = c.to in
      let start = crossed t fn node fn_in inside (omega (arith, from, id)) (omega (arith, to, id)) in
      record { from = omega (arith, start, low); to = omega (arith, up, to, id); plain = λ x h e lo hi. by x h e lo hi w (three_ways x.id n) }
    where
      by : (x : Node) → In x (nodes t) → x.label.kind ≡ kind.Takes → kid x 0 < k → k < x.id → (node.first ≤ k) × (k < node.id) → (x.id < n) ⊎ ((x.id ≡ n) ⊎ (n < x.id)) → ⊥
      by x h e lo hi w ways =
          let inside = in_at node (nodes t) n at in
          let first = (kid_within t x (kid x 0) h (kid_in tokens t derived x.id x 0 (found tokens t derived x h) (subst (λ l. 0 < least_kids l) (sym e) (omega arith)))).0 in
          let wide = nested t x node k h inside i (omega (arith, first, lo)) hi in
          let id = numbered tokens t derived n node at in
          let below = w.1 in
          which ways wide id below
        where
          which : (x.id < n) ⊎ ((x.id ≡ n) ⊎ (n < x.id)) → node.id ≤ x.id → node.id ≡ n → k < node.id → ⊥
          which (inl less) wide id below = absurd (omega (arith, less, wide, id))
          which (inr (inl same)) wide id below = takes_no_code node.label.kind (ap (λ (y : Node). y.label.kind) (same_id tokens t derived node x (in_at node (nodes t) n at) h (id ∙ sym same)) ∙ e) code
          which (inr (inr more)) wide id below = c.plain x h e (omega (arith, lo, below, id)) more

  pub body_in : InBody (kid fn 2)
  body_in =
      let i = kid_in tokens t derived m fn 2 there (subst (λ l. 2 < least_kids l) (sym is) (omega arith)) in
      let w = kid_within t fn (kid fn 2) fn_in i in
      record { from = w.0; to = w.1; plain = λ x h e lo hi. by x h e lo hi i w }
    where
      by : (x : Node) → In x (nodes t) → x.label.kind ≡ kind.Takes → kid x 0 < kid fn 2 → kid fn 2 < x.id → In (kid fn 2) fn.kids → (fn.first ≤ kid fn 2) × (kid fn 2 < fn.id) → ⊥
      by x h e lo hi i w =
          let first = (kid_within t x (kid x 0) h (kid_in tokens t derived x.id x 0 (found tokens t derived x h) (subst (λ l. 0 < least_kids l) (sym e) (omega arith)))).0 in
          let s = small x (kid fn 2) h (λ q. true≢false (ap is_takes (sym e ∙ q))) (λ q. true≢false (ap is_takes (sym e ∙ q))) (omega (arith, first, lo)) (omega (arith, hi)) w.0 w.1 in
          let wide = nested t x fn (kid fn 2) h fn_in i (omega (arith, first, lo)) hi in
          let less = s.1 in
          absurd (omega (arith, wide, less))

  -- ---- the function around what stands in it

  pub holds_so : (g : Node) (n : ℕ) → In g (nodes t) → g.label.kind ≡ kind.Function → holds g n ≡ true → fn.first ≤ n → n < fn.id → g ≡ fn
  holds_so g n h e at from to = by (three_ways g.id fn.id)
    where
      b : (nat_le g.first n ≡ true) × (nat_le n g.id ≡ true)
      b = both_true (nat_le g.first n) (nat_le n g.id) at

      low : g.first ≤ n
      low = low_so g.first n b.0

      high : n ≤ g.id
      high = low_so n g.id b.1

      no_unit : (x : Node) → x.label.kind ≡ kind.Function → x.label.kind ≡ kind.Unit → ⊥
      no_unit x p q = true≢false (ap is_function (sym p ∙ q))

      by : (g.id < fn.id) ⊎ ((g.id ≡ fn.id) ⊎ (fn.id < g.id)) → g ≡ fn
      by (inl less) =
          let l = low in
          let hi = high in
          absurd (no_unit fn is (around_function tokens t derived g.id g fn (found tokens t derived g h) e fn_in (omega (arith, from, hi)) less))
      by (inr (inl same)) = same_id tokens t derived g fn h fn_in same
      by (inr (inr more)) =
          let l = low in
          let id = fn_id in
          absurd (no_unit g e (around_function tokens t derived m fn g there is h (omega (arith, l, to, id)) (omega (arith, more, id))))

  pub around_is : (n : ℕ) → fn.first ≤ n → n < fn.id → function_around (places t) n ≡ fn
  around_is n from to =
      let listed = filter_in (λ (x : Node). is_function x.label.kind) (nodes t) fn fn_in (ap is_function is) in
      let o = find_one (λ (x : Node). holds x n) (places t).functions fn listed (and_true (nat_le fn.first n) (nat_le n fn.id) (so_low fn.first n from) (so_low n fn.id (omega (arith, to)))) in
      let f = find_is (λ (x : Node). holds x n) (places t).functions o.0 o.1 in
      let g = filter_so (λ (x : Node). is_function x.label.kind) (nodes t) o.0 f.0 in
      ap (λ p. unwrap_or p nowhere) o.1 ∙ holds_so o.0 n g.0 (function_kind (o.0).label.kind g.1) f.1 from to

  -- an automatic object that is declared in the function has its place among its locals
  automatic_number : (e : Name) → e.entity ≡ automatic → local_number (places t) e ≡ length (parameters_of (places t) (function_around (places t) e.node)) + unwrap_or (position (λ (a : Name). a.node == e.node) (automatics_in (places t) (function_around (places t) e.node))) 0
  automatic_number e h = rw h refl

  pub automatic_below : (e : Name) → In e (places t).names → e.entity ≡ automatic → fn.first ≤ e.node → e.node < fn.id → local_number (places t) e < named_locals (places t) fn
  automatic_below e among h from to =
      let listed = filter_in (λ (a : Name). is_automatic a.entity && holds fn a.node) (places t).names e among (and_true (is_automatic e.entity) (holds fn e.node) (ap is_automatic h) (and_true (nat_le fn.first e.node) (nat_le e.node fn.id) (so_low fn.first e.node from) (so_low e.node fn.id (omega (arith, to))))) in
      let p = position_there (λ (a : Name). a.node == e.node) (automatics_in (places t) fn) e listed (alike e.node) in
      subst (λ n. n < named_locals (places t) fn) (sym (automatic_number e h ∙ ap (λ (g : Node). length (parameters_of (places t) g) + unwrap_or (position (λ (a : Name). a.node == e.node) (automatics_in (places t) g)) 0) (around_is e.node from to)))
      (counted (position (λ (a : Name). a.node == e.node) (automatics_in (places t) fn)) p.0 p.1 p.2)
    where
      alike : (i : ℕ) → (i == i) ≡ true
      alike i = grind arith

      counted : (o : Option ℕ) (i : ℕ) → o ≡ Some i → i < length (automatics_in (places t) fn) → length (parameters_of (places t) fn) + unwrap_or o 0 < named_locals (places t) fn
      counted o i q lt = subst (λ z. length (parameters_of (places t) fn) + unwrap_or z 0 < named_locals (places t) fn) (sym q) (omega (arith, lt))
