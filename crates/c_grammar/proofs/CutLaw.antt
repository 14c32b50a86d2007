-- What a reading says of the lists that begin as it has read.
use Rattle.std.proofs.Common.{◌≡◌, ℕ, ◌<◌, ◌≤◌, ◌⊎◌, inl, inr, Bool, true, false, List, ◌∷◌, ◌++◌, sym, ap, ◌∙◌, true≢false}
use Rattle.c_lexer.specs.declared.token.Token.{Token}
use Rattle.c_syntax.specs.Trees.{Tree, height}
use Rattle.c_grammar.specs.Derivation.{IsTreeOf}
use Rattle.c_grammar.specs.Answers.{Answer, found, wrong, deep}
use Rattle.c_grammar.specs.Reading.{read_unit}
use Rattle.c_grammar.proofs.Budgets.{order}
use Rattle.c_grammar.proofs.Kept.{kept_deep, kept_wrong}
use Rattle.c_grammar.proofs.OneTree.{unit_reads, wrong_has_none}

is_found : Answer Tree → Bool
is_found (found t rest) = true
is_found next = false

pub cut_deep : (d : ℕ) (pre rest other : List Token) (t : Tree) → read_unit d (pre ++ rest) ≡ deep rest → IsTreeOf (pre ++ other) t → d < height t
unfolding is_found
cut_deep d pre rest other t e tree = at (order (height t) d)
  where
    at : (height t ≤ d) ⊎ (d < height t) → d < height t
    at (inr lt) = lt
    at (inl le) = absurd (true≢false (ap is_found (sym ((unit_reads (pre ++ other) t tree d).low le) ∙ kept_deep d pre rest other e)))

pub cut_wrong : (d : ℕ) (pre rest other : List Token) (next : Token) (t : Tree) → read_unit d (pre ++ next ∷ rest) ≡ wrong (next ∷ rest) → IsTreeOf (pre ++ next ∷ other) t → ⊥
cut_wrong d pre rest other next t e tree = wrong_has_none d (pre ++ next ∷ other) (next ∷ other) t (kept_wrong d pre next rest other e) tree
