-- What a `for` reads, as far as each call has come, and the names behind it.
use Rattle.std.proofs.Common.{◌≡◌, ℕ, Bool, true, false, List, [], ◌++◌, if◌then◌else◌, refl, sym, ap, ◌∙◌}
use Rattle.c_lexer.specs.declared.token.Token.{Token}
use Rattle.c_lexer.specs.declared.token.Punct.TheVariants.{LeftParenthesis, RightParenthesis, Semicolon}
use Rattle.c_syntax.specs.declared.kind.SynKind.{SynKind}
use Rattle.c_syntax.specs.declared.kind.SynKind.TheVariants as kind
use Rattle.c_syntax.specs.Trees.{Tree, Forest, ◌then◌, one, two, three, plain_node}
use Rattle.c_grammar.specs.Scopes.{Names, add, after, entries, entries_by, entries_behind, first_entries, later_entries, declares_types, opened}
use Rattle.c_grammar.specs.Answers.{Answer, found, and_then, expect}
use Rattle.c_grammar.specs.Reading.{Reader, Goal, below, level, goal_in, statement_in, declaration_in, for_in, for_behind, begins_with_mark, begins_specifier, behind_one}
use Rattle.c_parts.proofs.NameLaws.{add_joined, entries_then}
use Rattle.c_parts.specs.Pushed.{IsBelow}
use Rattle.c_parser.specs.declared.parser.Parser.{Parser}
use Rattle.c_parser.specs.Gives.{Keeps, Passes}
use Rattle.c_parser.specs.Steps.{place, optional_before, for_of, for_first_of, for_parts_of}
use Rattle.c_parser.proofs.CompoundLaws.{closed_then, expect_same}
use Rattle.c_parser.proofs.Links.{then_same}
use Rattle.c_parser.proofs.Spans.{reader_inside}
use Rattle.c_parser.proofs.Stopping.{chosen, found_then, passed}

-- ---- the first part

pub first_declaration : (d : ℕ) (names : Names) (ts : List Token) → begins_specifier false names ts ≡ true → for_first_of (level d (below d)) names ts ≡ declaration_in d (below d) names ts
unfolding level goal_in
first_declaration d names ts e = chosen _ _ _ e

-- ---- in its scope

-- from behind its parenthesis
abbrev pub for_open : ℕ → Reader → Names → ℕ → List Token → Answer Tree
for_open d r names start rest = if begins_specifier false (opened names) rest then and_then (r.tree_of Goal.declaration (opened names) rest) (for_behind d r (opened names) (place start))
    else and_then (r.tree_of Goal.optional_expression (opened names) rest) (λ f behind. expect Semicolon behind (for_behind d r (opened names) (place start) f))

for_entered : (d : ℕ) (r : Reader) (names : Names) (start : ℕ) (ts : List Token) → for_in d r names (place start) ts ≡ expect LeftParenthesis ts (for_open d r names start)
unfolding for_in
for_entered d r names start ts = refl

for_choice : (b : Bool) (x y : Answer Tree) (go : Tree → List Token → Answer Tree)
    → (if b then and_then x go else and_then y (λ f behind. expect Semicolon behind (go f)))
    ≡ and_then (if b then x else and_then y (λ f behind. expect Semicolon behind (λ end. found f end))) go
for_choice true x y go = refl
for_choice false x y go = sym (closed_then Semicolon y go)

for_scope : (d : ℕ) (r : Reader) (names names2 : Names) (start : ℕ) (ts : List Token) → names2 ≡ opened names → for_open d r names start ts ≡ for_parts_of r start names2 ts
unfolding for_behind
for_scope d r names names2 start ts n =
    for_choice (begins_specifier false (opened names) ts) (r.tree_of Goal.declaration (opened names) ts) (r.tree_of Goal.optional_expression (opened names) ts) (for_behind 0 r (opened names) (place start))
    ∙ ap (λ (k : Names). for_parts_of r start k ts) (sym n)

pub for_inside : (d l : ℕ) → IsBelow 1 d l → (start : ℕ) (p a : Parser) → Keeps p a → a.rest.now ≡ behind_one p.rest.now
    → for_of d (below d) start p.names p.rest.now ≡ expect LeftParenthesis a.rest.now (for_open d (level l (below l)) a.names start)
for_inside d l below_is start p a kept rest =
    reader_inside 1 d l below_is (λ r names ts. for_in d r names (place start) ts) _ p a refl kept rest ∙ for_entered d (level l (below l)) a.names start a.rest.now

pub for_inner : (d l : ℕ) → IsBelow 1 d l → (start : ℕ) (p a b : Parser) (names : Names) → Keeps p a → a.rest.now ≡ behind_one p.rest.now → Passes (begins_with_mark LeftParenthesis a.rest.now) a b
    → names ≡ opened b.names → for_of d (below d) start p.names p.rest.now ≡ for_parts_of (level l (below l)) start names b.rest.now
for_inner d l below_is start p a b names kept rest passes n =
    for_inside d l below_is start p a kept rest ∙ passed LeftParenthesis a b _ passes
    ∙ for_scope d (level l (below l)) a.names names start b.rest.now (n ∙ ap opened passes.kept.names_are)

-- ---- its parts

module _ (r : Reader) (start : ℕ) where
  abbrev pub body_go : Names → Tree → Tree → Tree → List Token → Answer Tree
  body_go names f x y ts = and_then (r.tree_of Goal.statement (after names y) ts) (λ s end. found (plain_node kind.For start (f then three x y s)) end)

  abbrev pub step_go : Names → Tree → Tree → List Token → Answer Tree
  step_go names f x ts = and_then (optional_before r RightParenthesis (after names x) ts) (body_go (after names x) f x)

  for_second : (names names2 : Names) (f : Tree) (ts : List Token) → names2 ≡ after names f
      → for_behind 0 r names (place start) f ts ≡ and_then (optional_before r Semicolon names2 ts) (step_go names2 f)
  unfolding for_behind
  for_second names names2 f ts n =
      sym (closed_then Semicolon (r.tree_of Goal.optional_expression (after names f) ts) (step_go (after names f) f)
      ∙ then_same (r.tree_of Goal.optional_expression (after names f) ts) (λ x behind. expect Semicolon behind (step_go (after names f) f x)) _
      (λ x behind. expect_same Semicolon behind (step_go (after names f) f x) _
      (λ us. closed_then RightParenthesis (r.tree_of Goal.optional_expression (after (after names f) x) us) (body_go (after (after names f) x) f x))))
      ∙ ap (λ (k : Names). and_then (optional_before r Semicolon k ts) (step_go k f)) (sym n)

  for_third : (names names2 : Names) (f x : Tree) (ts : List Token) → names2 ≡ after names x → step_go names f x ts ≡ and_then (optional_before r RightParenthesis names2 ts) (body_go names2 f x)
  for_third names names2 f x ts n = ap (λ (k : Names). and_then (optional_before r RightParenthesis k ts) (body_go k f x)) (sym n)

for_body : (l start : ℕ) (names names2 : Names) (f x y : Tree) (ts : List Token) → names2 ≡ after names y
    → body_go (level l (below l)) start names f x y ts ≡ and_then (statement_in l (below l) names2 ts) (λ s end. found (plain_node kind.For start (f then three x y s)) end)
unfolding level goal_in
for_body l start names names2 f x y ts n = ap (λ (k : Names). and_then (statement_in l (below l) k ts) (λ s end. found (plain_node kind.For start (f then three x y s)) end)) (sym n)

-- as far as each call has come
module _ (l start : ℕ) (p a : Parser) (f : Tree) (found_first : for_first_of (level l (below l)) p.names p.rest.now ≡ found f a.rest.now) (names_first : a.names ≡ after p.names f) where
  pub parts_second : for_parts_of (level l (below l)) start p.names p.rest.now ≡ and_then (optional_before (level l (below l)) Semicolon a.names a.rest.now) (step_go (level l (below l)) start a.names f)
  parts_second = found_then _ _ f a.rest.now found_first ∙ for_second (level l (below l)) start p.names a.names f a.rest.now names_first

  module _ (b : Parser) (x : Tree) (found_second : optional_before (level l (below l)) Semicolon a.names a.rest.now ≡ found x b.rest.now) (names_second : b.names ≡ after a.names x) where
    pub parts_third : for_parts_of (level l (below l)) start p.names p.rest.now
        ≡ and_then (optional_before (level l (below l)) RightParenthesis b.names b.rest.now) (body_go (level l (below l)) start b.names f x)
    parts_third = parts_second ∙ found_then _ _ x b.rest.now found_second ∙ for_third (level l (below l)) start a.names b.names f x b.rest.now names_second

    pub parts_body : (e : Parser) (y : Tree) → optional_before (level l (below l)) RightParenthesis b.names b.rest.now ≡ found y e.rest.now → e.names ≡ after b.names y
        → for_parts_of (level l (below l)) start p.names p.rest.now ≡ and_then (statement_in l (below l) e.names e.rest.now) (λ s end. found (plain_node kind.For start (f then three x y s)) end)
    parts_body e y found_third names_third = parts_third ∙ found_then _ _ y e.rest.now found_third ∙ for_body l start b.names e.names f x y e.rest.now names_third

-- ---- names

add_first : (names : Names) (t : Tree) (ts : Forest) → add (after names t) (entries_behind false ts) ≡ add names (entries_behind false (t then ts))
add_first names t ts = add_joined names (entries t) (entries_behind false ts) ∙ ap (add names) (sym (entries_then false t ts))

-- what its parts declare in its scope
pub names_parts : (names names2 names3 names4 names5 : Names) (f x y s : Tree) → names2 ≡ after names f → names3 ≡ after names2 x → names4 ≡ after names3 y → names5 ≡ after names4 s
    → names5 ≡ add names (entries_behind false (f then three x y s))
names_parts names names2 names3 names4 names5 f x y s first second third fourth =
    fourth ∙ ap (λ (n : Names). after n s) third ∙ add_first names3 y (one s) ∙ ap (λ (n : Names). add n (entries_behind false (two y s))) second ∙ add_first names2 x (two y s)
    ∙ ap (λ (n : Names). add n (entries_behind false (three x y s))) first ∙ add_first names f (three x y s)

-- nothing of it is declared outside
pub for_entries : (t : Tree) → t.label.kind ≡ kind.For → entries t ≡ []
for_entries t k = ap (λ (k : SynKind). entries_by k t.label.text false t.kids (first_entries (declares_types k t.kids) t.kids) (later_entries (declares_types k t.kids) t.kids) ++ []) k
