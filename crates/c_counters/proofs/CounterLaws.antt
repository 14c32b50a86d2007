-- Counters, from node to node.
use Rattle.std.proofs.Common.{◌≡◌, ℕ, ◌+◌, ◌≤◌, Bool, true, false, cond, List, [], ◌∷◌, ◌++◌, length, Some, refl, sym, ap, ◌∙◌, ◌-◌, arith, subst, get_or}
use Rattle.std.specs.Prelude.{filter, slice_get, zip}
use Rattle.std.proofs.lemmas.List.{length_push}
use Rattle.c_typing.specs.Places.{Node}
use Rattle.c_typing.specs.Names.{Places}
use Rattle.c_typing.specs.Judgements.{Judgement, hidden_in}
use Rattle.c_typing.specs.Expressions.{is_literal}
use Rattle.c_counters.specs.declared.counters.Counters.{Counters}
use Rattle.c_counters.specs.Counters.{AreCounted, AreSums}
use Rattle.c_counters.proofs.SumLaws.{one_more}

abbrev pub literals_in : List Node → List Judgement → ℕ
literals_in ns js = length (filter is_literal (zip ns js))

pub no_literals : (ns : List Node) → literals_in ns [] ≡ 0
no_literals [] = refl
no_literals (n ∷ ns) = refl

pub literals_push : (ns : List Node) (js : List Judgement) (node : Node) (j : Judgement) → slice_get ns (length js) ≡ Some node → literals_in ns (js ++ j ∷ []) ≡ literals_in ns js + cond (is_literal (node, j)) 1 0
literals_push [] js node j at = absurd (cc at)
literals_push (n ∷ ns) [] node j at = ap (λ m. literals_in (m ∷ ns) (j ∷ [])) (some_same at) ∙ by (is_literal (node, j)) (no_literals ns)
  where
    some_same : Some n ≡ Some node → n ≡ node
    some_same e = cc e

    by : (b : Bool) → literals_in ns [] ≡ 0 → length (cond b ((node, j) ∷ filter is_literal (zip ns [])) (filter is_literal (zip ns []))) ≡ 0 + cond b 1 0
    by true none = omega (arith, none)
    by false none = omega (arith, none)
literals_push (n ∷ ns) (x ∷ js) node j at = by (is_literal (n, x)) (literals_push ns js node j at)
  where
    by : (b : Bool) → literals_in ns (js ++ j ∷ []) ≡ literals_in ns js + cond (is_literal (node, j)) 1 0
        → length (cond b ((n, x) ∷ filter is_literal (zip ns (js ++ j ∷ []))) (filter is_literal (zip ns (js ++ j ∷ [])))) ≡ length (cond b ((n, x) ∷ filter is_literal (zip ns js)) (filter is_literal (zip ns js))) + cond (is_literal (node, j)) 1 0
    by true more = omega (arith, more)
    by false more = more

pub counted_push : (p : Places) (js : List Judgement) (node : Node) (j : Judgement) (c new : Counters) (next : ℕ) (b : Bool) → AreCounted p js c → slice_get p.nodes (length js) ≡ Some node → hidden_in j ≤ 2
    → is_literal (node, j) ≡ b → new.sums.items ≡ c.sums.items ++ next ∷ [] → next ≡ get_or c.sums.items (length c.sums.items - 1) 0 + hidden_in j → new.literals ≡ c.literals + cond b 1 0 → AreCounted p (js ++ j ∷ []) new
counted_push p js node j c new next b a at few literal items sum literals = record {
  sums = subst (AreSums (js ++ j ∷ [])) (sym items) (one_more js j c.sums.items next a.sums few sum);
  literals = (let more = literals_push p.nodes js node j at in let old = a.literals in let bit = ap {B = ℕ} (λ d. cond d 1 0) literal in omega (arith, more, old, literals, bit));
  few = (let one = length_push js j in let low = a.few in let bit = most b in omega (arith, one, low, literals, bit));
}
  where
    most : (b : Bool) → cond b 1 0 ≤ 1
    most true = omega arith
    most false = omega arith
