-- What a reading of a unit says of its tokens.
use Rattle.std.proofs.Common.{◌≡◌, ℕ, suc, ◌+◌, ◌-◌, ◌<◌, ◌≤◌, List, [], ◌∷◌, ◌++◌, length, length-append, take, refl, sym, ap, ◌∙◌, subst, arith}
use Rattle.c_lexer.specs.declared.token.Token.{Token}
use Rattle.c_syntax.specs.declared.syntax.SynNode.{SynNode}
use Rattle.c_syntax.specs.Tables.{table_of, stack_of, IsWhole}
use Rattle.c_syntax.specs.Trees.{Tree, height}
use Rattle.c_grammar.specs.Derivation.{IsTreeOf}
use Rattle.c_grammar.specs.Answers.{Answer, found, wrong, deep}
use Rattle.c_grammar.specs.Reading.{read_unit}
use Rattle.c_grammar.proofs.TooDeep.Whole.{unit_completes}
use Rattle.c_grammar.proofs.CutLaw.{cut_deep, cut_wrong}
use Rattle.c_grammar.proofs.Kept.{unit_kept}
use Rattle.c_grammar.proofs.KeptSteps.{Keeps, keeps_found, keeps_wrong, keeps_deep}
use Rattle.c_grammar.proofs.OneTree.{wrong_has_none, one_tree_of}
use Rattle.c_grammar.proofs.Sound.{found_unit}
use Rattle.c_parts.specs.declared.budget.Stop.{Stop}
use Rattle.c_parts.specs.declared.part.Part.{Part}
use Rattle.c_parser.specs.declared.parser.Parser.{Parser}
use Rattle.c_parser.specs.Gives.{ReadsUnit, Stops}
use Rattle.c_parser.specs.Parsing.{HasTable, IsWrong, IsTooDeep}

-- ---- the place

rest_of : Answer Tree → List Token
rest_of (found t rest) = rest
rest_of (wrong rest) = rest
rest_of (deep rest) = rest

-- what is left is the end of the tokens
left_behind : (d : ℕ) (ts rest : List Token) (x : Answer Tree) → read_unit d ts ≡ x → rest_of x ≡ rest → (pre : List Token) × (ts ≡ pre ++ rest)
unfolding rest_of
left_behind d ts rest x e r = by (unit_kept d ts)
  where
    by : Keeps 1 (read_unit d) ts → (pre : List Token) × (ts ≡ pre ++ rest)
    by (keeps_found p b t s m) = (p, s ∙ ap (λ c. p ++ c) (ap rest_of (sym (m b refl) ∙ ap (read_unit d) (sym s) ∙ e) ∙ r))
    by (keeps_wrong p b s m) = (p, s ∙ ap (λ c. p ++ c) (ap rest_of (sym (m b refl) ∙ ap (read_unit d) (sym s) ∙ e) ∙ r))
    by (keeps_deep p b s l m) = (p, s ∙ ap (λ c. p ++ c) (ap rest_of (sym (m b) ∙ ap (read_unit d) (sym s) ∙ e) ∙ r))

wrong_left : (d : ℕ) (ts rest : List Token) → read_unit d ts ≡ wrong rest → (pre : List Token) × (ts ≡ pre ++ rest)
unfolding rest_of
wrong_left d ts rest e = left_behind d ts rest (wrong rest) e refl

deep_left : (d : ℕ) (ts rest : List Token) → read_unit d ts ≡ deep rest → (pre : List Token) × (ts ≡ pre ++ rest)
unfolding rest_of
deep_left d ts rest e = left_behind d ts rest (deep rest) e refl

-- ---- lists that begin so

take_front : (pre rest : List Token) → take (length pre) (pre ++ rest) ≡ pre
take_front [] rest = refl
take_front (u ∷ pre) rest = ap (λ x. u ∷ x) (take_front pre rest)

take_next : (pre rest other : List Token) (next : Token) → take (suc (length pre)) (pre ++ next ∷ rest) ++ other ≡ pre ++ next ∷ other
take_next [] rest other next = refl
take_next (u ∷ pre) rest other next = ap (λ x. u ∷ x) (take_next pre rest other next)

take_one_more : (pre rest other : List Token) (next : Token) → take (length pre + 1) (pre ++ next ∷ rest) ++ other ≡ pre ++ next ∷ other
take_one_more pre rest other next = ap (λ (n : ℕ). take n (pre ++ next ∷ rest) ++ other) more ∙ take_next pre rest other next
  where
    more : length pre + 1 ≡ suc (length pre)
    more = omega arith

-- ---- faults

wrong_behind : (pre rest : List Token) → read_unit 500 (pre ++ rest) ≡ wrong rest → IsWrong (pre ++ rest) (length pre)
wrong_behind pre [] e = record {
  within = omega (arith, length-append pre []);
  no_tree = λ t tree. wrong_has_none 500 (pre ++ []) [] t e tree;
  no_list = λ less other t tree. absurd (omega (arith, less, length-append pre []));
}
wrong_behind pre (next ∷ rest) e = record {
  within = omega (arith, length-append pre (next ∷ rest));
  no_tree = λ t tree. wrong_has_none 500 (pre ++ next ∷ rest) (next ∷ rest) t e tree;
  no_list = λ less other t tree. cut_wrong 500 pre rest other next t e (subst (λ us. IsTreeOf us t) (take_one_more pre rest other next) tree);
}

pub unit_wrong : (ts rest : List Token) → read_unit 500 ts ≡ wrong rest → IsWrong ts (length ts - length rest)
unit_wrong ts rest e = by (wrong_left 500 ts rest e)
  where
    by : (pre : List Token) × (ts ≡ pre ++ rest) → IsWrong ts (length ts - length rest)
    by (pre, s) =
        let place : length pre ≡ length ts - length rest = omega (arith, ap length s, length-append pre rest) in
        subst (IsWrong ts) place (subst (λ us. IsWrong us (length pre)) (sym s) (wrong_behind pre rest (ap (read_unit 500) (sym s) ∙ e)))

same_front : (p q b : List Token) → p ++ b ≡ q ++ b → p ≡ q
same_front [] [] b e = refl
same_front [] (u ∷ q) b e = absurd (omega (arith, ap length e, length-append q b))
same_front (t ∷ p) [] b e = absurd (omega (arith, ap length e, length-append p b))
same_front (t ∷ p) (u ∷ q) b e =
    let head : t ≡ u = cc e in
    let tail : p ++ b ≡ q ++ b = cc e in
    let fronts : p ≡ q = same_front p q b tail in
    cc (head, fronts)

deep_behind : (pre rest : List Token) → read_unit 500 (pre ++ rest) ≡ deep rest → IsTooDeep (pre ++ rest) (length pre)
deep_behind pre rest e = record {
  within = omega (arith, length-append pre rest);
  higher = λ other t tree. cut_deep 500 pre rest other t e (subst (λ us. IsTreeOf (us ++ other) t) (take_front pre rest) tree);
  some_tree = by (unit_completes 500 (pre ++ rest) rest e);
}
  where
    by : (p : List Token) × (other : List Token) × (t : Tree) × (pre ++ rest ≡ p ++ rest) × IsTreeOf (p ++ other) t
        → (other : List Token) × (t : Tree) × IsTreeOf (take (length pre) (pre ++ rest) ++ other) t
    by (p, other, t, s, tree) = (other, t, subst (λ us. IsTreeOf (us ++ other) t) (sym (take_front pre rest ∙ same_front pre p rest s)) tree)

pub unit_too_deep : (ts rest : List Token) → read_unit 500 ts ≡ deep rest → IsTooDeep ts (length ts - length rest)
unit_too_deep ts rest e = by (deep_left 500 ts rest e)
  where
    by : (pre : List Token) × (ts ≡ pre ++ rest) → IsTooDeep ts (length ts - length rest)
    by (pre, s) =
        let place : length pre ≡ length ts - length rest = omega (arith, ap length s, length-append pre rest) in
        subst (IsTooDeep ts) place (subst (λ us. IsTooDeep us (length pre)) (sym s) (deep_behind pre rest (ap (read_unit 500) (sym s) ∙ e)))

-- ---- what the call gave

pub unit_stop : (ts rest0 rest : List Token) (s s2 : Stop) → rest0 ≡ ts → s ≡ s2 → Stops (read_unit 500 rest0) rest s → Stops (read_unit 500 ts) rest s2
unit_stop ts rest0 rest s s2 e same h = subst (λ (us : List Token). Stops (read_unit 500 us) rest s2) e (subst (Stops (read_unit 500 rest0) rest) same h)

module _ (ts rest0 : List Token) (p : Parser) (part : Part) (e : rest0 ≡ ts) (h : ReadsUnit (read_unit 500 rest0) p part) where
  pub unit_found : read_unit 500 ts ≡ found h.tree []
  unit_found = ap (read_unit 500) (sym e) ∙ h.found_is ∙ ap (found h.tree) h.ended

  pub unit_whole : IsWhole (stack_of p.trees) part.height
  unit_whole = record {
    of = h.tree;
    alone = h.pushed.stack_is;
    highest = h.pushed.height_is;
    low = let l = (found_unit 500 ts h.tree unit_found).1 in let g = h.pushed.height_is in omega (arith, l, g);
  }

-- ---- trees

pub unit_table : (ts : List Token) (t : Tree) (table : List SynNode) → read_unit 500 ts ≡ found t [] → table ≡ table_of t → HasTable ts table
unit_table ts t table e is = let f = found_unit 500 ts t e in record { tree = t; whole = is; derived = f.0; low = f.1 }

pub unit_only : (ts : List Token) (t u : Tree) (table : List SynNode) → read_unit 500 ts ≡ found t [] → table ≡ table_of t → IsTreeOf ts u → table ≡ table_of u
unit_only ts t u table e is tree = is ∙ ap table_of (one_tree_of ts t u (found_unit 500 ts t e).0 tree)

-- a tree within the limit is found
pub tree_no_wrong : (ts rest : List Token) (t : Tree) → read_unit 500 ts ≡ wrong rest → IsTreeOf ts t → ⊥
tree_no_wrong ts rest t e tree = wrong_has_none 500 ts rest t e tree

is_too_high : (ts rest : List Token) (t : Tree) → read_unit 500 ts ≡ deep rest → IsTreeOf ts t → 500 < height t
is_too_high ts rest t e tree = by (deep_left 500 ts rest e)
  where
    by : (pre : List Token) × (ts ≡ pre ++ rest) → 500 < height t
    by (pre, s) = cut_deep 500 pre rest rest t (ap (read_unit 500) (sym s) ∙ e) (subst (λ us. IsTreeOf us t) s tree)

pub tree_no_deep : (ts rest : List Token) (t : Tree) → read_unit 500 ts ≡ deep rest → IsTreeOf ts t → height t ≤ 500 → ⊥
tree_no_deep ts rest t e tree low = let high = is_too_high ts rest t e tree in omega (arith, high, low)
