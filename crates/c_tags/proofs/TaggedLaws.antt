-- Scopes and texts of nodes, as they are found.
use Rattle.std.proofs.Common.{◌≡◌, ℕ, suc, ◌+◌, ◌<◌, ◌≤◌, Bool, true, false, cond, List, [], ◌∷◌, length, map, get_or, unwrap_or, Some, refl, sym, ap, ◌∙◌, subst, arith}
use Rattle.std.specs.Prelude.{find, if◌then◌else◌}
use Rattle.std.proofs.lemmas.List.FromFn.{get_or-map-range_with_len, length-map-range_with_len}
use Rattle.c_syntax.specs.declared.syntax.SynNode.{SynNode}
use Rattle.c_typing.specs.Places.{Node, node_at, in_scope, scopes_of, scope_at, no_scope}
use Rattle.c_nodes.specs.declared.spans.Span.{Span}
use Rattle.c_nodes.specs.Parents.{AreNumbered, nodes_in}
use Rattle.c_nodes.specs.Scopes.{scope_of}
use Rattle.c_nodes.specs.Spans.{found_in, stands_in}
use Rattle.c_names.specs.Texts.{first_of}
use Rattle.c_names.proofs.TableLaws.{first_text}
use Rattle.c_tags.specs.Tagged.{IsTagged}
use Rattle.c_tags.proofs.OrderLaws.{there}

-- ---- the first of some spans

-- what stands for a span that is not there
abbrev pub no_span : Span
no_span = record { node = 0; from = 1; to = 0; more_from = 1; more_to = 0 }

scope_found : (i : ℕ) (spans : List Span) (d : Span) → found_in spans i < length spans → unwrap_or (find (λ c. in_scope c i) (map scope_of spans)) no_scope ≡ scope_of (get_or spans (found_in spans i) d)
scope_found i [] d h = absurd (omega (arith, h))
scope_found i (x ∷ spans) d h = by (stands_in x i) h (scope_found i spans d)
  where
    further : (j : ℕ) → get_or (x ∷ spans) (1 + j) d ≡ get_or spans j d
    further j = ap (λ k. get_or (x ∷ spans) k d) {x = 1 + j} {y = suc j} (omega arith)

    by : (b : Bool) → (if b then 0 else 1 + found_in spans i) < suc (length spans)
        → (found_in spans i < length spans → unwrap_or (find (λ c. in_scope c i) (map scope_of spans)) no_scope ≡ scope_of (get_or spans (found_in spans i) d))
        → unwrap_or (cond b (Some (scope_of x)) (find (λ c. in_scope c i) (map scope_of spans))) no_scope ≡ scope_of (get_or (x ∷ spans) (if b then 0 else 1 + found_in spans i) d)
    by true low more = refl
    by false low more = more (omega (arith, low)) ∙ ap scope_of (sym (further (found_in spans i)))

scope_missing : (i : ℕ) (spans : List Span) → length spans ≤ found_in spans i → unwrap_or (find (λ c. in_scope c i) (map scope_of spans)) no_scope ≡ no_scope
scope_missing i [] h = refl
scope_missing i (x ∷ spans) h = by (stands_in x i) h (scope_missing i spans)
  where
    by : (b : Bool) → suc (length spans) ≤ (if b then 0 else 1 + found_in spans i)
        → (length spans ≤ found_in spans i → unwrap_or (find (λ c. in_scope c i) (map scope_of spans)) no_scope ≡ no_scope)
        → unwrap_or (cond b (Some (scope_of x)) (find (λ c. in_scope c i) (map scope_of spans))) no_scope ≡ no_scope
    by true low more = absurd (omega (arith, low))
    by false low more = more (omega (arith, low))

module _ (table : List SynNode) (spans : List Span) (inner texts : List ℕ) (k : IsTagged table spans inner texts) where
  pub inner_long : length inner ≡ length table
  inner_long = ap length k.innermost ∙ length-map-range_with_len (found_in spans) 0 (length table)

  found_at : (n : ℕ) → n < length table → get_or inner n 0 ≡ found_in spans n
  found_at n within = ap (λ xs. get_or xs n 0) k.innermost ∙ get_or-map-range_with_len (found_in spans) 0 (length table) n n 0 within (omega arith)

  pub scope_there : (n : ℕ) (d : Span) → n < length table → get_or inner n 0 < length spans → scope_of (get_or spans (get_or inner n 0) d) ≡ scope_at (scopes_of (nodes_in table)) n
  scope_there n d within low =
      let at = found_at n within in
      ap (λ i. scope_of (get_or spans i d)) at ∙ (sym (scope_found n spans d (omega (arith, low, at))) ∙ ap (λ cs. scope_at cs n) k.scopes)

  pub scope_absent : (n : ℕ) → n < length table → length spans ≤ get_or inner n 0 → scope_of no_span ≡ scope_at (scopes_of (nodes_in table)) n
  scope_absent n within past =
      let at = found_at n within in
      sym (scope_missing n spans (omega (arith, past, at))) ∙ ap (λ cs. scope_at cs n) k.scopes

-- ---- texts with one first node are one

pub one_text : (s : List Node) → AreNumbered s → (a b : List ℕ) (n : ℕ) → first_of s a ≡ Some n → first_of s b ≡ Some n → a ≡ b
one_text s numbered a b n e f =
    let p = first_text s a n e in
    let q = first_text s b n f in
    let same : p.0 ≡ q.0 = sym (there s numbered p.0 p.1).0 ∙ (ap (node_at s) (p.2 ∙ sym q.2) ∙ (there s numbered q.0 q.1).0) in
    sym p.3 ∙ (ap (λ (m : Node). m.label.text) same ∙ q.3)

pub first_within : (s : List Node) → AreNumbered s → (text : List ℕ) (n : ℕ) → first_of s text ≡ Some n → n < length s
first_within s numbered text n e =
    let p = first_text s text n e in
    subst (λ i. i < length s) p.2 (there s numbered p.0 p.1).1
