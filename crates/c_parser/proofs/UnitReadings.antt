-- Readings of a unit, by the readings of its parts.
use Rattle.std.proofs.Common.{◌==◌, true, false, true≢false, ◌≡◌, ℕ, zero, suc, ◌≤◌, Bool, List, [], ◌∷◌, length, Result, Ok, Err, IsErr, IsErrAnd, refl, sym, ap, ◌∙◌, subst, arith}
use Rattle.std.proofs.lemmas.Bool.Decides.{nat_tests}
use Rattle.c_lexer.specs.declared.token.Token.{Token}
use Rattle.c_syntax.specs.declared.kind.SynKind.TheVariants as kind
use Rattle.c_syntax.specs.Trees.{Tree, plain_node}
use Rattle.c_syntax.specs.Tables.{stack_of}
use Rattle.c_grammar.specs.Scopes.{Names, opened}
use Rattle.c_grammar.specs.Derivation.{first_start}
use Rattle.c_grammar.specs.Answers.{Answer, found, and_then}
use Rattle.c_grammar.specs.Reading.{Reader, Rows, below, level, read, read_unit, rows_in, external_in, externals_in}
use Rattle.c_parts.specs.declared.budget.Stop.{Stop}
use Rattle.c_parts.specs.declared.part.Part.{Part}
use Rattle.c_parts.specs.Pushed.{Pushes}
use Rattle.c_parser.specs.declared.parser.Parser.{Parser}
use Rattle.c_parser.specs.Gives.{GivesUnit, Stops}
use Rattle.c_parser.proofs.ItemRows.{externals_first_stops}
use Rattle.c_parser.proofs.Stopping.{stops_before}

read_level : (d : ℕ) → read d ≡ level d (below d)
unfolding read
read_level zero = refl
read_level (suc d) = refl

pub unit_row : (d : ℕ) (names : Names) (ts : List Token) → names ≡ opened []
    → read_unit (suc d) ts ≡ and_then (rows_in d (below d) Rows.externals names ts) (λ more end. found (plain_node kind.Unit (first_start more) more) end)
unfolding read_unit level
unit_row d names ts n =
    ap (λ (r : Reader). and_then (r.trees_of Rows.externals (opened []) ts) (λ more end. found (plain_node kind.Unit (first_start more) more) end)) (read_level d)
    ∙ ap (λ (m : Names). and_then (rows_in d (below d) Rows.externals m ts) (λ more end. found (plain_node kind.Unit (first_start more) more) end)) (sym n)

pub unit_stops : (d : ℕ) (names : Names) (ts rest : List Token) (s : Stop) → names ≡ opened [] → Stops (rows_in d (below d) Rows.externals names ts) rest s → Stops
    (read_unit (suc d) ts) rest s
unit_stops d names ts rest s n h = stops_before _ (rows_in d (below d) Rows.externals names ts) _ rest s (unit_row d names ts n) h

pub unit_stops_first : (d : ℕ) (names : Names) (ts rest : List Token) (s : Stop) → names ≡ opened [] → Stops (external_in d (below d) names ts) rest s → Stops
    (read_unit (suc d) ts) rest s
unfolding rows_in
unit_stops_first d names ts rest s n h = unit_stops d names ts rest s n (externals_first_stops d (below d) (length ts) names ts rest s h)

pub externals_listed : (d : ℕ) (names : Names) (ts : List Token) → rows_in d (below d) Rows.externals names ts ≡ externals_in d (below d) (suc (length ts)) names ts
unfolding rows_in
externals_listed d names ts = refl

-- ---- what a call gives

pub gives_unit_stop : (whole : Answer Tree) (p : Parser) (r : Result Part Stop) (s : Stop) → IsErr r × IsErrAnd r (λ e. e ≡ s) → Stops whole p.rest.now s → GivesUnit whole p r
gives_unit_stop whole p (Ok x) s h stops = absurd (true≢false (sym h.0))
gives_unit_stop whole p (Err e) s h stops = subst (Stops whole p.rest.now) (sym h.1) stops

pub unit_made : (whole : Answer Tree) (t : Tree) (p : Parser) (r : Result Part Stop) → Pushes t [] (stack_of p.trees) r → whole ≡ found t p.rest.now → p.rest.now ≡ [] → GivesUnit whole p r
unit_made whole t p (Ok part) h f e = record { tree = t; found_is = f; pushed = h; ended = e }
unit_made whole t p (Err stop) h f e = subst (Stops whole p.rest.now) (sym h) tt

-- ---- whether a token is left

pub some_left : (b : Bool) (ts : List Token) → b ≡ (length ts == 0) → b ≡ false → 1 ≤ length ts
some_left b [] e f = absurd (true≢false (sym e ∙ f))
some_left b (t ∷ ts) e f = omega arith

not_zero : (n : ℕ) → (suc n == 0) ≡ false
not_zero n = grind (arith, nat_tests)

pub none_left : (b : Bool) (ts : List Token) → b ≡ (length ts == 0) → b ≡ true → ts ≡ []
none_left b [] e f = refl
none_left b (t ∷ ts) e f = absurd (true≢false (sym f ∙ e ∙ not_zero (length ts)))
