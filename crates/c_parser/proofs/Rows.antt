-- Rows that a loop reads: what is still to be read goes behind the trees so far.
use Rattle.std.proofs.Common.{◌≡◌, false, List, [], ◌∷◌, ◌++◌, if◌then◌else◌, refl, sym, ap, ◌∙◌}
use Rattle.c_lexer.specs.declared.token.Token.{Token}
use Rattle.c_syntax.specs.Trees.{Tree, Forest, none, ◌then◌, forest_of}
use Rattle.c_grammar.specs.Scopes.{Names, add, after, entries, entries_behind}
use Rattle.c_grammar.specs.Answers.{Answer, found, wrong, deep, and_then}
use Rattle.c_parts.specs.declared.budget.Stop.{Stop}
use Rattle.c_parser.specs.Gives.{Stops}
use Rattle.c_parts.proofs.NameLaws.{add_joined, entries_more}
use Rattle.c_parser.proofs.Stopping.{stops_then, stops_same}

-- these trees before others
abbrev pub before : List Tree → Forest → Forest
before [] more = more
before (t ∷ ts) more = t then before ts more

pub before_none : (xs : List Tree) → before xs none ≡ forest_of xs
before_none [] = refl
before_none (t ∷ ts) = ap (λ (f : Forest). t then f) (before_none ts)

pub before_more : (xs : List Tree) (t : Tree) (more : Forest) → before (xs ++ (t ∷ [])) more ≡ before xs (t then more)
before_more [] t more = refl
before_more (x ∷ xs) t more = ap (λ (f : Forest). x then f) (before_more xs t more)

-- ---- the whole is the trees so far, and what else is read

abbrev pub Left : Answer Forest → List Tree → Answer Forest → Type 0
Left whole xs more = whole ≡ and_then more (λ ts end. found (before xs ts) end)

pub left_start : (x : Answer Forest) → Left x [] x
unfolding and_then
left_start (found t b) = refl
left_start (wrong b) = refl
left_start (deep b) = refl

pub left_tree : (t : Tree) (xs : List Tree) (more : Answer Forest) →
    and_then (and_then more (λ ts end. found (t then ts) end)) (λ ts end. found (before xs ts) end)
    ≡ and_then more (λ ts end. found (before (xs ++ (t ∷ [])) ts) end)
unfolding and_then
left_tree t xs (found ts end) = ap (λ (f : Forest). found f end) (sym (before_more xs t ts))
left_tree t xs (wrong b) = refl
left_tree t xs (deep b) = refl

pub left_more : (whole : Answer Forest) (xs : List Tree) (x more : Answer Forest) (t : Tree)
    → Left whole xs x → x ≡ and_then more (λ ts end. found (t then ts) end) → Left whole (xs ++ (t ∷ [])) more
left_more whole xs x more t l e = l ∙ ap (λ (y : Answer Forest). and_then y (λ ts end. found (before xs ts) end)) e ∙ left_tree t xs more

pub left_end : (whole : Answer Forest) (xs : List Tree) (x : Answer Forest) (ts : List Token) → Left whole xs x → x ≡ found none ts → whole ≡ found (forest_of xs) ts
unfolding and_then
left_end whole xs x ts l e = l ∙ ap (λ (y : Answer Forest). and_then y (λ ts end. found (before xs ts) end)) e ∙ ap (λ (f : Forest). found f ts) (before_none xs)

pub left_stop : (whole : Answer Forest) (xs : List Tree) (x : Answer Forest) (rest : List Token) (s : Stop) → Left whole xs x → Stops x rest s → Stops whole rest s
left_stop whole xs x rest s l h = stops_same _ whole rest s l (stops_then x (λ ts end. found (before xs ts) end) rest s h)

-- ---- the names behind a row, by one tree more

pub names_more : (names names0 before_it : Names) (xs : List Tree) (t : Tree)
    → before_it ≡ add names0 (entries_behind false (forest_of xs))
    → names ≡ after before_it t
    → names ≡ add names0 (entries_behind false (forest_of (xs ++ (t ∷ []))))
names_more names names0 before_it xs t e f =
    f ∙ ap (λ (n : Names). after n t) e ∙ add_joined names0 (entries_behind false (forest_of xs)) (entries t)
    ∙ ap (add names0) (sym (entries_more false xs t))

pub names_first : (names names0 : Names) (xs : List Tree) (t : Tree)
    → names ≡ after names0 t → xs ≡ t ∷ [] → names ≡ add names0 (entries_behind false (forest_of xs))
names_first names names0 xs t e x = e ∙ ap (λ (ys : List Tree). add names0 (entries_behind false (forest_of ys))) (sym x)
