-- Specs in front of another part, within the next lower budget.
use Rattle.std.proofs.Common.{◌≡◌, ◌≢◌, ◌≤◌, ◌<◌, ℕ, false, List, [], ◌∷◌, length, Result, refl, sym, ap, ◌∙◌, arith}
use Rattle.std.specs.Prelude.{⊤}
use Rattle.c_lexer.specs.declared.token.Token.{Token}
use Rattle.c_lexer.specs.declared.token.Punct.TheVariants.{Semicolon}
use Rattle.c_syntax.specs.declared.kind.SynKind.{SynKind}
use Rattle.c_syntax.specs.declared.kind.SynKind.TheVariants as kind
use Rattle.c_syntax.specs.Trees.{Tree, Forest, two, ◌then◌, forest_of, plain_node, forest_height}
use Rattle.c_syntax.specs.Tables.{stack_of}
use Rattle.c_grammar.specs.Scopes.{Names, after}
use Rattle.c_grammar.specs.Derivation.{start, first_start}
use Rattle.c_grammar.specs.Answers.{Answer, found, and_then, expect}
use Rattle.c_grammar.specs.Reading as reading
use Rattle.c_grammar.specs.Reading.{Goal, Rows, below, level, lower, goal_in, rows_in, specs_first, begins_with_mark, specifiers_in, specifier_list_in, type_name_in, parameter_in, member_in}
use Rattle.c_parts.specs.declared.budget.Stop.{Stop}
use Rattle.c_parts.specs.declared.part.Part.{Part}
use Rattle.c_parts.specs.Pushed.{IsPushed, ArePushed, Pushes}
use Rattle.c_parts.proofs.Levels.{next_row, specs_first_read, lower_tree, lower_row}
use Rattle.c_parts.proofs.NameLaws.{after_row}
use Rattle.c_parser.specs.declared.parser.Parser.{Parser}
use Rattle.c_parser.specs.Gives.{Gives, Stops, Reads, ReadsAll, Passes, itself, nothing_more, behind_all}
use Rattle.c_parser.specs.Steps.{specifiers_of}
use Rattle.c_parser.proofs.Stopping.{stops_before, found_before, passed}
use Rattle.c_parser.proofs.Made.{made, trees_on}

abbrev pub IsNext : ℕ → ℕ → Type 0
IsNext d next = (d ≡ 0 → next ≡ 0) × (d ≢ 0 → below d ≡ level next (below next)) × (d ≢ 0 → next < d)

-- behind a part that was read within the next lower budget, there is one
pub some_lower : (d next n : ℕ) → IsNext d next → 1 ≤ n → n ≤ next → d ≢ 0
some_lower d next n is some low = λ e. absurd (let z = is.0 e in omega (arith, z, some, low))

pub next_less : (d next n : ℕ) → IsNext d next → 1 ≤ n → n ≤ next → next < d
next_less d next n is some low = is.2 (some_lower d next n is some low)

-- one tree at least has some height
pub some_height : (ts : List Tree) (high : ℕ) → 1 ≤ length ts → high ≡ forest_height (forest_of ts) → 1 ≤ high
some_height [] high some e = absurd (omega (arith, some))
some_height (t ∷ ts) high some e = omega (arith, e)

-- ---- specs

module _ (d next : ℕ) (is : IsNext d next) (names : Names) (ts : List Token) where
  specifiers_shape : specifiers_in d (below d) names ts ≡ and_then (specifiers_of next (below next) names ts) (λ more end. found (plain_node kind.Specs (first_start more) more) end)
  unfolding specifiers_in rows_in
  specifiers_shape = ap (λ a. and_then a (λ more end. found (plain_node kind.Specs (first_start more) more) end)) (next_row d next is.0 is.1 (Rows.specifier_list false) names ts)

  pub specifiers_stop : (rest : List Token) (s : Stop) → Stops (specifiers_of next (below next) names ts) rest s → Stops (specifiers_in d (below d) names ts) rest s
  specifiers_stop rest s h = stops_before _ _ _ rest s specifiers_shape h

  pub specifiers_found : (begin : ℕ) (f : Forest) (rest : List Token) → specifiers_of next (below next) names ts ≡ found f rest → begin ≡ first_start f
      → specifiers_in d (below d) names ts ≡ found (plain_node kind.Specs begin f) rest
  specifiers_found begin f rest e b = found_before _ _ _ f rest specifiers_shape e ∙ ap (λ at. found (plain_node kind.Specs at f) rest) (sym b)

-- ---- specs, and what stands behind them

module _ (d next : ℕ) (is : IsNext d next) (whole : Answer Tree) (names : Names) (ts : List Token) (go : Tree → List Token → Answer Tree) (shape : whole ≡ and_then (specs_first d (below d) names ts) go) where
  front_shape : whole ≡ and_then (specifiers_in next (below next) names ts) go
  front_shape = shape ∙ ap (λ a. and_then a go) (specs_first_read d next is.0 is.1 names ts)

  pub front_stops : (rest : List Token) (s : Stop) → Stops (specifiers_in next (below next) names ts) rest s → Stops whole rest s
  front_stops rest s h = stops_before whole _ go rest s front_shape h

  pub front_found : (t : Tree) (rest : List Token) → specifiers_in next (below next) names ts ≡ found t rest → whole ≡ go t rest
  front_found t rest e = found_before whole _ go t rest front_shape e

-- a part behind another of this height
module _ (d next later n : ℕ) (is : IsNext d next) (is2 : IsNext d later) (some : 1 ≤ n) (low : n ≤ next) (names names2 : Names) (ts : List Token) (same : names2 ≡ names) where
  pub later_tree : (g : Goal) → (below d).tree_of g names ts ≡ goal_in later (below later) g names2 ts
  later_tree g = lower_tree d next later n is.0 some low is2.1 g names ts ∙ ap (λ n. goal_in later (below later) g n ts) (sym same)

  pub later_row : (row : Rows) → (below d).trees_of row names ts ≡ rows_in later (below later) row names2 ts
  later_row row = lower_row d next later n is.0 some low is2.1 row names ts ∙ ap (λ n. rows_in later (below later) row n ts) (sym same)

-- ---- specs and a declarator

module _ (kind : SynKind) (g : Goal) (d next later : ℕ) (is : IsNext d next) (is2 : IsNext d later) (whole : Answer Tree) (names : Names) (ts : List Token)
    (shape : whole ≡ and_then (specs_first d (below d) names ts) (λ s rest. and_then ((below d).tree_of g (after names s) rest) (λ x end. found (plain_node kind (start s) (two s x)) end)))
    (next_names : Tree → Names) (says : Tree → Type 0) (most : ℕ) (under : List Tree) (p : Parser) (part : Part)
    (first : Reads (specifiers_in next (below next) names ts) (after names) says under next most p part) where
  first_some : 1 ≤ part.height
  first_some = let h = first.read.pushed.height_is in omega (arith, h)

  behind_shape : whole ≡ and_then (goal_in later (below later) g p.names p.rest.now) (λ x end. found (plain_node kind (start first.tree) (two first.tree x)) end)
  behind_shape =
      front_found d next is whole names ts _ shape first.tree p.rest.now first.found_is
      ∙ ap (λ a. and_then a (λ x end. found (plain_node kind (start first.tree) (two first.tree x)) end))
      (later_tree d next later part.height is is2 first_some first.low (after names first.tree) p.names p.rest.now first.read.names_are g)

  pub behind_stops : (rest : List Token) (s : Stop) → Stops (goal_in later (below later) g p.names p.rest.now) rest s → Stops whole rest s
  behind_stops rest s h = stops_before whole _ _ rest s behind_shape h

  pub both_made : (x : Tree) (q z : Parser) (part2 : Part) (r : Result Part Stop) → goal_in later (below later) g p.names p.rest.now ≡ found x q.rest.now
      → IsPushed x (stack_of p.trees) (stack_of q.trees) part2 → part2.height ≤ later → length q.rest.now < most
      → z.rest.now ≡ q.rest.now → z.names ≡ next_names (plain_node kind part.start (two first.tree x))
      → ((t u : Tree) (under behind : List Tree) → IsPushed t under behind part → IsPushed u behind (stack_of q.trees) part2 → Pushes (plain_node kind part.start (two t u)) under (stack_of z.trees) r)
      → (says2 : Tree → Type 0) → says2 (plain_node kind part.start (two first.tree x)) → Gives itself (λ t part. says2 t) whole next_names under d most z r
  both_made x q z part2 r e pushed low shorter rest_is n push says2 said =
      let node = plain_node kind part.start (two first.tree x) in
      let is_found : whole ≡ found node z.rest.now
      = found_before whole _ _ x q.rest.now behind_shape e ∙ ap (λ at. found (plain_node kind at (two first.tree x)) q.rest.now) (sym first.read.pushed.start_is) ∙ ap (found node) (sym rest_is) in
      made says2 whole next_names node under d most z r (push first.tree x under (stack_of p.trees) first.read.pushed pushed) is_found n said
      (let a = first.read.pushed.height_is in let b = pushed.height_is in let f = first.low in
      let l = next_less d next part.height is first_some first.low in let m = is2.2 (some_lower d next part.height is first_some first.low) in omega (arith, a, b, f, l, m, low))
      (let h = ap length rest_is in omega (arith, h, shorter))

pub type_name_shape : (d : ℕ) (names : Names) (ts : List Token) → type_name_in d (below d) names ts
    ≡ and_then (specs_first d (below d) names ts) (λ s rest. and_then ((below d).tree_of (Goal.declared reading.unnamed) (after names s) rest) (λ x end. found (plain_node kind.TypeName (start s) (two s x)) end))
unfolding type_name_in
type_name_shape d names ts = refl

pub parameter_shape : (d : ℕ) (names : Names) (ts : List Token) → parameter_in d (below d) names ts
    ≡ and_then (specs_first d (below d) names ts) (λ s rest. and_then ((below d).tree_of (Goal.declared reading.either) (after names s) rest) (λ x end. found (plain_node kind.Param (start s) (two s x)) end))
unfolding parameter_in
parameter_shape d names ts = refl

-- ---- a member

module _ (d next later : ℕ) (is : IsNext d next) (is2 : IsNext d later) (names : Names) (ts : List Token) (says : Tree → Type 0) (most : ℕ) (under : List Tree) (p : Parser) (part : Part)
    (first : Reads (specifiers_in next (below next) names ts) (after names) says under next most p part) where
  pub member_some : 1 ≤ part.height
  member_some = let h = first.read.pushed.height_is in omega (arith, h)

  member_behind : member_in d (below d) names ts
      ≡ and_then (rows_in later (below later) Rows.declarators p.names p.rest.now) (λ xs behind. expect Semicolon behind (λ end. found (plain_node kind.Member (start first.tree) (first.tree then xs)) end))
  unfolding member_in
  member_behind =
      front_found d next is _ names ts _ refl first.tree p.rest.now first.found_is
      ∙ ap (λ a. and_then a (λ xs behind. expect Semicolon behind (λ end. found (plain_node kind.Member (start first.tree) (first.tree then xs)) end)))
      (later_row d next later part.height is is2 member_some first.low (after names first.tree) p.names p.rest.now first.read.names_are Rows.declarators)

  pub member_stops : (rest : List Token) (s : Stop) → Stops (rows_in later (below later) Rows.declarators p.names p.rest.now) rest s → Stops (member_in d (below d) names ts) rest s
  member_stops rest s h = stops_before _ _ _ rest s member_behind h

  pub member_then : (xs : Forest) (rest : List Token) → rows_in later (below later) Rows.declarators p.names p.rest.now ≡ found xs rest
      → member_in d (below d) names ts ≡ expect Semicolon rest (λ end. found (plain_node kind.Member (start first.tree) (first.tree then xs)) end)
  member_then xs rest e = found_before _ _ _ xs rest member_behind e

  pub member_made : (e : Answer Forest) (says2 : List Tree → Type 0) (q z y : Parser) (high : ℕ) (r : Result Part Stop)
      → e ≡ rows_in later (below later) Rows.declarators p.names p.rest.now
      → (row : ReadsAll e (behind_all p.names) says2 (stack_of p.trees) later (length p.rest.now) q high) → Passes (begins_with_mark Semicolon q.rest.now) q z
      → y.rest.now ≡ z.rest.now → y.names ≡ z.names → length p.rest.now < most
      → ((t : Tree) (ts under : List Tree) → IsPushed t under (stack_of p.trees) part → ArePushed ts (stack_of p.trees) (stack_of z.trees) high
      → Pushes (plain_node kind.Member part.start (t then forest_of ts)) under (stack_of y.trees) r)
      → Gives itself nothing_more (member_in d (below d) names ts) (after names) under d most y r
  member_made e says2 q z y high r same row closed rest_is n shorter push =
      let node = plain_node kind.Member part.start (first.tree then forest_of row.trees) in
      let is_found : member_in d (below d) names ts ≡ found node y.rest.now
      = member_then (forest_of row.trees) q.rest.now (sym same ∙ row.found_is) ∙ passed Semicolon q z _ closed
      ∙ ap (λ at. found (plain_node kind.Member at (first.tree then forest_of row.trees)) z.rest.now) (sym first.read.pushed.start_is) ∙ ap (found node) (sym rest_is) in
      made (λ t. ⊤) _ (after names) node under d most y r
      (push first.tree row.trees under first.read.pushed (trees_on row.trees (stack_of p.trees) high q z closed.kept row.read.pushed)) is_found
      (n ∙ closed.kept.names_are ∙ row.read.names_are ∙ ap (λ (m : Names). behind_all m (forest_of row.trees)) first.read.names_are
      ∙ sym (after_row names kind.Member [] part.start first.tree (forest_of row.trees) refl)) tt
      (let a = first.read.pushed.height_is in let b = row.read.pushed.height_is in let f = first.low in let g = row.low in
      let l = next_less d next part.height is member_some first.low in let m = is2.2 (some_lower d next part.height is member_some first.low) in omega (arith, a, b, f, g, l, m))
      (let h = ap length rest_is in let a = closed.shorter in let b = row.shorter in omega (arith, h, a, b, shorter))

pub member_first : (d next : ℕ) → IsNext d next → (names : Names) (ts rest : List Token) (s : Stop) → Stops (specifiers_in next (below next) names ts) rest s → Stops (member_in d (below d) names ts) rest s
unfolding member_in
member_first d next is names ts rest s h = front_stops d next is _ names ts _ refl rest s h
