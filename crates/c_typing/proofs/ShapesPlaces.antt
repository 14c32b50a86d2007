-- The node at each place of a table is the root of a tree whose nodes have their shapes.
use Rattle.std.proofs.Common.{◌≡◌, ℕ, ◌+◌, ◌<◌, ◌≤◌, ◌⊎◌, inl, inr, true, false, ◌&&◌, Bool, List, [], ◌∷◌, ◌++◌, length, refl, sym, ap, ◌∙◌, subst, arith, append_assoc, append-nil, length-append, true≢false}
use Rattle.std.proofs.lemmas.Bool.{cases_lt}
use Rattle.std.proofs.Math.Nat.{eq-or-lt_of_le}
use Rattle.c_lexer.specs.declared.token.Token.{Token}
use Rattle.c_syntax.specs.declared.label.Label.{Label}
use Rattle.c_syntax.specs.declared.syntax.SynId.{SynId}
use Rattle.c_syntax.specs.declared.syntax.SynNode.{SynNode}
use Rattle.c_syntax.specs.Trees.{Tree, Forest, none, tree, one}
use Rattle.c_syntax.specs.Tables.{size, roots, nodes, node_of, table_of, StandsFor}
use Rattle.c_syntax.proofs.TreeLaws.{length-nodes}
use Rattle.c_syntax.proofs.TextLaws.{stand_within}
use Rattle.c_grammar.specs.Derivation.{IsTreeOf}
use Rattle.c_typing.specs.Shapes.{has_shape, are_shaped, IsShapedAt}
use Rattle.c_typing.proofs.ShapesLaw.{all_shaped}

abbrev as_id : ℕ → SynId
as_id n = record { number = n }

both_of : (p q r : Bool) → p && (q && r) ≡ true → (q ≡ true) × (r ≡ true) × (p && (q && true) ≡ true)
both_of true true r e = (refl, e, refl)
both_of true false r e = absurd (true≢false (sym e))
both_of false q r e = absurd (true≢false (sym e))

-- a tree before others
apart : (label : Label) (kids rest : Forest) → are_shaped (tree label kids rest) ≡ true
    → (are_shaped kids ≡ true) × (are_shaped rest ≡ true) × (are_shaped (tree label kids none) ≡ true)
unfolding are_shaped
apart label kids rest e = both_of (has_shape (record { label = label; kids = kids })) (are_shaped kids) (are_shaped rest) e

pub alone : (label : Label) (kids rest : Forest) → are_shaped (tree label kids rest) ≡ true → are_shaped (one (record { label = label; kids = kids })) ≡ true
alone label kids rest e = (apart label kids rest e).2

place : (table before : List SynNode) (first : ℕ) (f : Forest) (after : List SynNode) → table ≡ before ++ (nodes first f ++ after) → first ≡ length before
    → are_shaped f ≡ true → (i : ℕ) → first ≤ i → i < first + size f → IsShapedAt table (as_id i)
place table before first none after e at ok i low high = absurd (omega (arith, low, high))
place table before first (tree label kids rest) after e at ok i low high =
    by (λ lt. place table before first kids (own ∷ (behind ++ after)) opened at oks.0 i low lt)
    (λ lt. place table (front ++ own ∷ []) (first + size kids + 1) rest after (here ∙ sym (append_assoc front (own ∷ []) (behind ++ after))) longer oks.1 i (omega (arith, lt)) (omega (arith, high)))
    (cases_lt i (first + size kids))
  where
    own : SynNode
    own = node_of label (roots first kids)

    behind : List SynNode
    behind = nodes (first + size kids + 1) rest

    front : List SynNode
    front = before ++ nodes first kids

    oks : (are_shaped kids ≡ true) × (are_shaped rest ≡ true) × (are_shaped (tree label kids none) ≡ true)
    oks = apart label kids rest ok

    opened : table ≡ before ++ (nodes first kids ++ (own ∷ (behind ++ after)))
    opened = e ∙ ap (λ ns. before ++ ns) (append_assoc (nodes first kids) (own ∷ behind) after)

    here : table ≡ front ++ (own ∷ (behind ++ after))
    here = opened ∙ sym (append_assoc before (nodes first kids) (own ∷ (behind ++ after)))

    longer : first + size kids + 1 ≡ length (front ++ own ∷ [])
    longer =
        let whole = length-append front (own ∷ []) in
        let parts = length-append before (nodes first kids) in
        let many = length-nodes first kids in
        omega (arith, at, whole, parts, many)

    alone : StandsFor table (as_id (first + size kids)) (record { label = label; kids = kids })
    alone =
        stand_within table before first (tree label kids none) (behind ++ after)
        (opened ∙ ap (λ ns. before ++ ns) (sym (append_assoc (nodes first kids) (own ∷ []) (behind ++ after)))) at

    by : (i < first + size kids → IsShapedAt table (as_id i)) → (first + size kids < i → IsShapedAt table (as_id i)) → (i < first + size kids) ⊎ (first + size kids ≤ i)
        → IsShapedAt table (as_id i)
    by below later (inl lt) = below lt
    by below later (inr ge) = at_or_later (eq-or-lt_of_le ge)
      where
        at_or_later : (first + size kids ≡ i) ⊎ (first + size kids < i) → IsShapedAt table (as_id i)
        at_or_later (inl e) = subst (λ n. IsShapedAt table (as_id n)) e (record { label = label; kids = kids }, alone, oks.2)
        at_or_later (inr lt) = later lt

pub shaped_at : (tokens : List Token) (t : Tree) (id : SynId) → IsTreeOf tokens t → id.number < length (table_of t) → IsShapedAt (table_of t) id
shaped_at tokens t id derived within =
    let long = length-nodes 0 (one t) in
    place (table_of t) [] 0 (one t) [] (sym (append-nil (table_of t))) refl (all_shaped tokens t derived) id.number (omega arith) (omega (arith, within, long))
