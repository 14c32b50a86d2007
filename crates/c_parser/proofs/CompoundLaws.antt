-- What statements with statements in them read, as far as each call has come.
use Rattle.std.proofs.Common.{◌≡◌, ℕ, Bool, true, false, List, if◌then◌else◌, codes, refl, sym, ap, ◌∙◌}
use Rattle.std.specs.Str.{bytes_eq}
use Rattle.c_lexer.specs.declared.token.Token.{Token}
use Rattle.c_lexer.specs.declared.token.Punct.{Punct}
use Rattle.c_lexer.specs.declared.token.Punct.TheVariants.{LeftParenthesis, RightParenthesis, Semicolon}
use Rattle.c_syntax.specs.declared.kind.SynKind.TheVariants as kind
use Rattle.c_syntax.specs.Trees.{Tree, two, three, plain_node}
use Rattle.c_grammar.specs.Scopes.{Names, after}
use Rattle.c_grammar.specs.Derivation.{ends_open}
use Rattle.c_grammar.specs.Answers.{Answer, Ahead, nothing_ahead, mark_ahead, word_ahead, integer_ahead, character_ahead, string_ahead, found, wrong, and_then, fit, same_mark, expect, expect_by, expect_word, expect_word_by, ahead}
use Rattle.c_grammar.specs.Reading.{Reader, Goal, below, level, goal_in, statement_in, in_parentheses_then, if_in, while_in, do_in, behind_one}
use Rattle.c_parts.specs.Pushed.{IsBelow}
use Rattle.c_parser.specs.declared.parser.Parser.{Parser}
use Rattle.c_parser.specs.Gives.{Keeps}
use Rattle.c_parser.specs.Steps.{condition_of, do_condition_of, if_of, then_of, while_of, do_of, takes_else}
use Rattle.c_parser.proofs.Links.{then_then, then_same, expect_then}
use Rattle.c_parser.proofs.Spans.{reader_inside}
use Rattle.c_parser.proofs.Stopping.{chosen, not_chosen, found_then}

-- ---- the same goes on behind a mark and behind a word

choice_same : {U : Type 0} (b : Bool) (x y z : Answer U) → x ≡ y → (if b then x else z) ≡ (if b then y else z)
choice_same b x y z e = ap (λ w. if b then w else z) e

expect_same_by : (p : Punct) (ts : List Token) (f g : List Token → Answer Tree) → ((us : List Token) → f us ≡ g us) → (h : Ahead) → expect_by p ts f h ≡ expect_by p ts g h
unfolding expect_by
expect_same_by p ts f g same (mark_ahead q at rest) = choice_same (same_mark p q) (f rest) (g rest) (wrong ts) (same rest)
expect_same_by p ts f g same nothing_ahead = refl
expect_same_by p ts f g same (word_ahead text at rest) = refl
expect_same_by p ts f g same (integer_ahead value type at rest) = refl
expect_same_by p ts f g same (character_ahead value at rest) = refl
expect_same_by p ts f g same (string_ahead bytes at rest) = refl

pub expect_same : (p : Punct) (ts : List Token) (f g : List Token → Answer Tree) → ((us : List Token) → f us ≡ g us) → expect p ts f ≡ expect p ts g
unfolding expect
expect_same p ts f g same = expect_same_by p ts f g same (ahead ts)

word_then_by : (text : List ℕ) (ts : List Token) (f : List Token → Answer Tree) (go : Tree → List Token → Answer Tree) (g : List Token → Answer Tree)
    → ((us : List Token) → and_then (f us) go ≡ g us) → (h : Ahead) → and_then (expect_word_by text ts f h) go ≡ expect_word_by text ts g h
unfolding and_then expect_word_by
word_then_by text ts f go g same (word_ahead other at rest) = by (bytes_eq text other)
  where
    by : (b : Bool) → and_then (if b then f rest else wrong ts) go ≡ (if b then g rest else wrong ts)
    by true = same rest
    by false = refl
word_then_by text ts f go g same nothing_ahead = refl
word_then_by text ts f go g same (mark_ahead q at rest) = refl
word_then_by text ts f go g same (integer_ahead value type at rest) = refl
word_then_by text ts f go g same (character_ahead value at rest) = refl
word_then_by text ts f go g same (string_ahead bytes at rest) = refl

word_then : (text : List ℕ) (ts : List Token) (f : List Token → Answer Tree) (go : Tree → List Token → Answer Tree) (g : List Token → Answer Tree)
    → ((us : List Token) → and_then (f us) go ≡ g us) → and_then (expect_word text ts f) go ≡ expect_word text ts g
unfolding expect_word
word_then text ts f go g same = word_then_by text ts f go g same (ahead ts)

-- a part and a mark behind it
pub closed_then : (p : Punct) (x : Answer Tree) (go : Tree → List Token → Answer Tree)
    → and_then (and_then x (λ t behind. expect p behind (λ end. found t end))) go ≡ and_then x (λ t behind. expect p behind (go t))
unfolding and_then
closed_then p x go =
    then_then x (λ t behind. expect p behind (λ end. found t end)) go
    ∙ then_same x _ (λ t behind. expect p behind (go t)) (λ t behind. expect_then p behind (λ end. found t end) go)

-- ---- conditions

pub condition_then : (d : ℕ) (r : Reader) (names : Names) (ts : List Token) (go : Tree → List Token → Answer Tree)
    → in_parentheses_then d r names ts go ≡ and_then (condition_of r names ts) go
unfolding in_parentheses_then
condition_then d r names ts go = sym (
    expect_then LeftParenthesis ts (λ rest. and_then (r.tree_of Goal.expression names rest) (λ x behind. expect RightParenthesis behind (λ end. found x end))) go
    ∙ expect_same LeftParenthesis ts _ (λ rest. and_then (r.tree_of Goal.expression names rest) (λ x behind. expect RightParenthesis behind (go x)))
    (λ rest. closed_then RightParenthesis (r.tree_of Goal.expression names rest) go))

-- ---- `if`

abbrev pub if_inside : ℕ → Reader → Names → List Token → Answer Tree
if_inside start r names ts = and_then (condition_of r names ts) (then_of r start names)

pub if_shape : (d : ℕ) (r : Reader) (start : ℕ) (names : Names) (ts : List Token) → if_of d r start names ts ≡ fit 2 d (behind_one ts) (if_inside start r names (behind_one ts))
unfolding if_in
if_shape d r start names ts = ap (fit 2 d (behind_one ts)) (condition_then d r names (behind_one ts) (then_of r start names))

pub if_entered : (d l : ℕ) → IsBelow 1 d l → (start : ℕ) (p a : Parser) → Keeps p a → a.rest.now ≡ behind_one p.rest.now
    → if_of d (below d) start p.names p.rest.now ≡ if_inside start (level l (below l)) a.names a.rest.now
if_entered d l below_is start p a kept rest =
    reader_inside 1 d l below_is (if_inside start) _ p a (if_shape d (below d) start p.names p.rest.now) kept rest

-- behind the first branch s
abbrev pub then_go : ℕ → ℕ → Names → Tree → Tree → List Token → Answer Tree
then_go l start names x s end = if takes_else (ends_open s) end
    then and_then (statement_in l (below l) (after names s) (behind_one end)) (λ t last. found (plain_node kind.If start (three x s t)) last)
    else found (plain_node kind.If start (two x s)) end

pub then_inside : (l start : ℕ) (names names2 : Names) (x : Tree) (ts : List Token) → names2 ≡ after names x
    → then_of (level l (below l)) start names x ts ≡ and_then (statement_in l (below l) names2 ts) (then_go l start names2 x)
unfolding level goal_in
then_inside l start names names2 x ts n = ap (λ (k : Names). and_then (statement_in l (below l) k ts) (then_go l start k x)) (sym n)

then_alone : (l start : ℕ) (names : Names) (x s : Tree) (end : List Token) → takes_else (ends_open s) end ≡ false → then_go l start names x s end ≡ found (plain_node kind.If start (two x s)) end
then_alone l start names x s end e = not_chosen _ _ _ e

then_else : (l start : ℕ) (names names2 : Names) (x s : Tree) (end mid : List Token) → takes_else (ends_open s) end ≡ true → names2 ≡ after names s → mid ≡ behind_one end
    → then_go l start names x s end ≡ and_then (statement_in l (below l) names2 mid) (λ t last. found (plain_node kind.If start (three x s t)) last)
then_else l start names names2 x s end mid e n m =
    chosen _ _ _ e ∙ ap (λ (k : Names). and_then (statement_in l (below l) k (behind_one end)) (λ t last. found (plain_node kind.If start (three x s t)) last)) (sym n)
    ∙ ap (λ (us : List Token). and_then (statement_in l (below l) names2 us) (λ t last. found (plain_node kind.If start (three x s t)) last)) (sym m)

-- as far as each call has come
module _ (l start : ℕ) (names : Names) (x : Tree) (p b : Parser) (s : Tree) (behind : p.names ≡ after names x) (found_s : statement_in l (below l) p.names p.rest.now ≡ found s b.rest.now) (ends took : Bool)
    (said : ends ≡ ends_open s) (told : took ≡ takes_else ends b.rest.now) where
  branch_inside : then_of (level l (below l)) start names x p.rest.now ≡ then_go l start p.names x s b.rest.now
  branch_inside = then_inside l start names p.names x p.rest.now behind ∙ found_then _ _ s b.rest.now found_s

  takes_it : takes_else (ends_open s) b.rest.now ≡ took
  takes_it = ap (λ e. takes_else e b.rest.now) (sym said) ∙ sym told

  pub alone_inside : took ≡ false → then_of (level l (below l)) start names x p.rest.now ≡ found (plain_node kind.If start (two x s)) b.rest.now
  alone_inside e = branch_inside ∙ then_alone l start p.names x s b.rest.now (takes_it ∙ e)

  pub else_inside : took ≡ true → (a : Parser) → a.names ≡ after p.names s → a.rest.now ≡ behind_one b.rest.now
      → then_of (level l (below l)) start names x p.rest.now ≡ and_then (statement_in l (below l) a.names a.rest.now) (λ t last. found (plain_node kind.If start (three x s t)) last)
  else_inside e a n m = branch_inside ∙ then_else l start p.names a.names x s b.rest.now a.rest.now (takes_it ∙ e) n m

-- ---- `while`

abbrev pub while_go : ℕ → Reader → Names → Tree → List Token → Answer Tree
while_go start r names x behind = and_then (r.tree_of Goal.statement (after names x) behind) (λ s end. found (plain_node kind.While start (two x s)) end)

abbrev pub while_inside : ℕ → Reader → Names → List Token → Answer Tree
while_inside start r names ts = and_then (condition_of r names ts) (while_go start r names)

pub while_shape : (d : ℕ) (r : Reader) (start : ℕ) (names : Names) (ts : List Token) → while_of d r start names ts ≡ fit 2 d (behind_one ts) (while_inside start r names (behind_one ts))
unfolding while_in
while_shape d r start names ts = ap (fit 2 d (behind_one ts)) (condition_then d r names (behind_one ts) (while_go start r names))

pub while_entered : (d l : ℕ) → IsBelow 1 d l → (start : ℕ) (p a : Parser) → Keeps p a → a.rest.now ≡ behind_one p.rest.now
    → while_of d (below d) start p.names p.rest.now ≡ while_inside start (level l (below l)) a.names a.rest.now
while_entered d l below_is start p a kept rest =
    reader_inside 1 d l below_is (while_inside start) _ p a (while_shape d (below d) start p.names p.rest.now) kept rest

pub while_body : (l start : ℕ) (names names2 : Names) (x : Tree) (ts : List Token) → names2 ≡ after names x
    → while_go start (level l (below l)) names x ts ≡ and_then (statement_in l (below l) names2 ts) (λ s end. found (plain_node kind.While start (two x s)) end)
unfolding level goal_in
while_body l start names names2 x ts n = ap (λ (k : Names). and_then (statement_in l (below l) k ts) (λ s end. found (plain_node kind.While start (two x s)) end)) (sym n)

-- ---- `do`

abbrev pub do_go : ℕ → Reader → Names → Tree → List Token → Answer Tree
do_go start r names s behind = and_then (do_condition_of r (after names s) behind) (λ x end. found (plain_node kind.Do start (two s x)) end)

abbrev pub do_inside : ℕ → Reader → Names → List Token → Answer Tree
do_inside start r names ts = and_then (r.tree_of Goal.statement names ts) (do_go start r names)

pub do_shape : (d : ℕ) (r : Reader) (start : ℕ) (names : Names) (ts : List Token) → do_of d r start names ts ≡ fit 2 d (behind_one ts) (do_inside start r names (behind_one ts))
unfolding do_in
do_shape d r start names ts = ap (fit 2 d (behind_one ts)) (then_same (r.tree_of Goal.statement names (behind_one ts)) _ (do_go start r names) (λ s behind. sym (by s behind)))
  where
    made : Tree → Tree → List Token → Answer Tree
    made s x end = found (plain_node kind.Do start (two s x)) end

    by : (s : Tree) (behind : List Token) → do_go start r names s behind
        ≡ expect_word (codes "while") behind (λ behind2. in_parentheses_then d r (after names s) behind2 (λ x behind3. expect Semicolon behind3 (λ end. found (plain_node kind.Do start (two s x)) end)))
    by s behind = word_then (codes "while") behind (λ behind2. and_then (condition_of r (after names s) behind2) (λ x behind3. expect Semicolon behind3 (λ end. found x end))) (made s)
        (λ behind2. in_parentheses_then d r (after names s) behind2 (λ x behind3. expect Semicolon behind3 (λ end. found (plain_node kind.Do start (two s x)) end)))
        (λ behind2. closed_then Semicolon (condition_of r (after names s) behind2) (made s)
        ∙ sym (condition_then d r (after names s) behind2 (λ x behind3. expect Semicolon behind3 (λ end. found (plain_node kind.Do start (two s x)) end))))

do_body : (l start : ℕ) (names : Names) (ts : List Token) → do_inside start (level l (below l)) names ts ≡ and_then (statement_in l (below l) names ts) (do_go start (level l (below l)) names)
unfolding level goal_in
do_body l start names ts = refl

pub do_entered : (d l : ℕ) → IsBelow 1 d l → (start : ℕ) (p a : Parser) → Keeps p a → a.rest.now ≡ behind_one p.rest.now
    → do_of d (below d) start p.names p.rest.now ≡ and_then (statement_in l (below l) a.names a.rest.now) (do_go start (level l (below l)) a.names)
do_entered d l below_is start p a kept rest =
    reader_inside 1 d l below_is (do_inside start) _ p a (do_shape d (below d) start p.names p.rest.now) kept rest ∙ do_body l start a.names a.rest.now

pub do_end : (r : Reader) (start : ℕ) (names names2 : Names) (s : Tree) (ts : List Token) → names2 ≡ after names s
    → do_go start r names s ts ≡ and_then (do_condition_of r names2 ts) (λ x end. found (plain_node kind.Do start (two s x)) end)
do_end r start names names2 s ts n = ap (λ (k : Names). and_then (do_condition_of r k ts) (λ x end. found (plain_node kind.Do start (two s x)) end)) (sym n)
