-- One suffix of a declarator, and then the others.
use Rattle.std.proofs.Common.{◌≡◌, ℕ, zero, suc, ◌+◌, ◌<◌, ◌≤◌, Bool, true, false, ◌&&◌, ◌||◌, List, codes, length, nat_lt, if◌then◌else◌, refl, sym, ap, ◌∙◌, arith, true≢false}
use Rattle.c_lexer.specs.declared.token.Punct.{Punct}
use Rattle.c_lexer.specs.declared.token.Punct.TheVariants.{LeftBracket, RightBracket, LeftParenthesis, RightParenthesis}
use Rattle.c_lexer.specs.declared.token.Token.{Token}
use Rattle.c_syntax.specs.declared.kind.SynKind.TheVariants as kind
use Rattle.c_syntax.specs.Trees.{Tree, Forest, ◌then◌, one, plain_node, height}
use Rattle.c_grammar.specs.Scopes.{Names, opened, after}
use Rattle.c_grammar.specs.Derivation.{start}
use Rattle.c_grammar.specs.Answers.{Answer, found, wrong, deep, and_then, fit, Ahead, ahead, same_mark, expect, expect_by}
use Rattle.c_grammar.specs.Reading.{Reader, Rows, begins_with_mark, begins_with_mark_by, begins_with_word, behind_one, goes_on_behind_void, is_named, parameters_in, void_in, takes_in, declared_suffix_by, declared_suffixes}
use Rattle.c_grammar.proofs.SoundSteps.{IsAhead, is_nothing, is_mark, is_word, is_integer, is_character, is_string, ahead_is, both_true}
use Rattle.c_parts.specs.declared.budget.Stop.{Stop}
use Rattle.c_parts.specs.declared.declarator.Declarator.{Declarator}
use Rattle.c_parser.specs.declared.parser.Parser.{Parser}
use Rattle.c_parser.specs.Gives.{Stops, Reads, IsDeclared, SaysDeclarator, SaysSuffixed}
use Rattle.c_parser.specs.Steps.{begins_declared_suffix}
use Rattle.c_parser.proofs.Stopping.{stops_then, stops_same}

-- ---- one reading, another, and then a third

pub then_on : {T U V : Type 0} (x : Answer T) (f : T → List Token → Answer U) (g : U → List Token → Answer V) (h : T → List Token → Answer V)
    → ((t : T) (b : List Token) → and_then (f t b) g ≡ h t b)
    → and_then (and_then x f) g ≡ and_then x h
unfolding and_then
then_on (found t b) f g h e = e t b
then_on (wrong b) f g h e = refl
then_on (deep b) f g h e = refl

if_on : {T U : Type 0} (b : Bool) (x y : Answer T) (g : T → List Token → Answer U) (v w : Answer U)
    → and_then x g ≡ v
    → and_then y g ≡ w
    → and_then (if b then x else y) g ≡ (if b then v else w)
if_on true x y g v w e f = e
if_on false x y g v w e f = f

fit_on : {T U : Type 0} (needed d : ℕ) (rest : List Token) (x : Answer T) (g : T → List Token → Answer U) (v : Answer U)
    → and_then x g ≡ v
    → and_then (fit needed d rest x) g ≡ fit needed d rest v
unfolding fit and_then
fit_on needed d rest x g v e = if_on (nat_lt d needed) (deep rest) x g (deep rest) v refl e

pub expect_on : {T U : Type 0} (p : Punct) (ts : List Token) (f : List Token → Answer T) (g : T → List Token → Answer U) (h : List Token → Answer U)
    → ((b : List Token) → and_then (f b) g ≡ h b)
    → and_then (expect p ts f) g ≡ expect p ts h
unfolding expect expect_by and_then
expect_on p ts f g h e = by (ahead_is ts)
  where
    by : {us : List Token} {a : Ahead} → IsAhead us a → and_then (expect_by p ts f a) g ≡ expect_by p ts h a
    by is_nothing = refl
    by (is_mark {p = q} {rest = rest}) = if_on (same_mark p q) (f rest) (wrong ts) g (h rest) (wrong ts) (e rest) refl
    by is_word = refl
    by is_integer = refl
    by is_character = refl
    by is_string = refl

-- ---- behind a suffix

module _ (d : ℕ) (r : Reader) (names : Names) (x : Tree) (go : Tree → List Token → Answer Tree) where
  parameters_on : (rest : List Token) → and_then (parameters_in d r names x rest found) go ≡ parameters_in d r names x rest go
  unfolding parameters_in and_then
  parameters_on rest = then_on (r.trees_of Rows.parameters (opened (after names x)) rest) _ go _ (λ ts behind.
      expect_on RightParenthesis behind (λ end. found (plain_node kind.Takes (start x) (x then ts)) end) go _ (λ end. refl))

  void_on : (rest ts : List Token) → and_then (void_in d r names x rest ts found) go ≡ void_in d r names x rest ts go
  unfolding void_in and_then
  void_on rest ts = if_on (begins_with_mark RightParenthesis ts) _ _ go _ _ refl
      (if_on (goes_on_behind_void ts) _ _ go _ _ (fit_on 4 d (behind_one ts) _ go _ (parameters_on rest)) refl)

  takes_on : (rest : List Token) → and_then (takes_in d r names x rest found) go ≡ takes_in d r names x rest go
  unfolding takes_in and_then
  takes_on rest = if_on (begins_with_mark RightParenthesis rest) _ _ go _ _ refl
      (if_on (begins_with_word (codes "void") rest) _ _ go _ _ (void_on rest (behind_one rest)) (parameters_on rest))

  array_on : (rest : List Token) (row : Answer Forest)
      → and_then (and_then row (λ n behind. expect RightBracket behind (λ end. found (plain_node kind.ArrayOf (start x) (x then n)) end))) go
      ≡ and_then row (λ n behind. expect RightBracket behind (λ end. go (plain_node kind.ArrayOf (start x) (x then n)) end))
  unfolding and_then
  array_on rest row = then_on row _ go _ (λ n behind.
      expect_on RightBracket behind (λ end. found (plain_node kind.ArrayOf (start x) (x then n)) end) go _ (λ end. refl))

  and_false : (b : Bool) → b && false ≡ true → ⊥
  and_false true e = true≢false (sym e)
  and_false false e = true≢false (sym e)

  if_true : {T : Type 0} (b : Bool) (v w : T) → b ≡ true → (if b then v else w) ≡ v
  if_true b v w e = ap (λ b. if b then v else w) e

  if_false : {T : Type 0} (b : Bool) (v w : T) → b ≡ false → (if b then v else w) ≡ w
  if_false b v w e = ap (λ b. if b then v else w) e

  -- a suffix is ahead
  suffix_on : (ts us : List Token) (h : Ahead) → IsAhead us h → (begins_with_mark_by LeftBracket h || (is_named (one x) && begins_with_mark_by LeftParenthesis h)) ≡ true
      → and_then (declared_suffix_by d r names x ts found h) go ≡ declared_suffix_by d r names x ts go h
  unfolding declared_suffix_by
  suffix_on ts us h (is_mark {p = LeftBracket} {rest = rest}) e = fit_on (suc (height x)) d rest _ go _ (array_on rest _)
  suffix_on ts us h (is_mark {p = LeftParenthesis} {rest = rest}) e =
      let named = (both_true e).0 in
      ap (λ y. and_then y go) (if_true (is_named (one x)) _ _ named)
      ∙ fit_on (suc (height x)) d rest _ go _ (takes_on rest)
      ∙ sym (if_true (is_named (one x)) _ _ named)
  suffix_on ts us h _ e = absurd (and_false (is_named (one x)) e)

  -- none is
  no_suffix : (ts us : List Token) (h : Ahead) → IsAhead us h → (begins_with_mark_by LeftBracket h || (is_named (one x) && begins_with_mark_by LeftParenthesis h)) ≡ false
      → declared_suffix_by d r names x ts go h ≡ found x ts
  unfolding declared_suffix_by
  no_suffix ts us h (is_mark {p = LeftBracket}) e = absurd (true≢false e)
  no_suffix ts us h (is_mark {p = LeftParenthesis}) e = if_false (is_named (one x)) _ _ (and_true (is_named (one x)) e)
    where
      and_true : (b : Bool) → b && true ≡ false → b ≡ false
      and_true true e = e
      and_true false e = e
  no_suffix ts us h _ e = refl

-- ---- the suffixes that a loop reads

-- the whole is what is read from x on; k is at least what is left of the budget
abbrev pub IsChained : ℕ → Reader → Answer Tree → Names → Tree → List Token → Type 0
IsChained d r whole names x ts = (k : ℕ) × (d ≤ k + height x) × (whole ≡ declared_suffixes d r k names x ts)

module _ (d : ℕ) (r : Reader) (names : Names) where
  module _ (whole : Answer Tree) (x : Tree) (ts : List Token) (named : Bool) (same : named ≡ is_named (one x)) (chained : IsChained d r whole names x ts) where
    begins_same : (b : Bool) → begins_declared_suffix named ts ≡ b → begins_declared_suffix (is_named (one x)) ts ≡ b
    begins_same b e = sym (ap (λ n. begins_declared_suffix n ts) same) ∙ e

    -- one more suffix, behind which `go` reads
    suffix_then : (go : Tree → List Token → Answer Tree) → begins_declared_suffix named ts ≡ true
        → declared_suffix_by d r names x ts go (ahead ts) ≡ and_then (declared_suffix_by d r names x ts found (ahead ts)) go
    suffix_then go e = sym (suffix_on d r names x go ts ts (ahead ts) (ahead_is ts) (begins_same true e))

    pub chained_next : (y : Tree) (rest : List Token) → begins_declared_suffix named ts ≡ true
        → declared_suffix_by d r names x ts found (ahead ts) ≡ found y rest
        → height x < height y → height y ≤ d
        → IsChained d r whole names y rest
    unfolding declared_suffixes and_then
    chained_next y rest e read higher fits = by chained.0 chained.1 chained.2
      where
        by : (k : ℕ) → d ≤ k + height x → whole ≡ declared_suffixes d r k names x ts → IsChained d r whole names y rest
        by zero enough w = absurd (omega (arith, enough, higher, fits))
        by (suc k) enough w = (
          k,
          omega (arith, enough, higher),
          w ∙ suffix_then (declared_suffixes d r k names) e ∙ ap (λ a. and_then a (declared_suffixes d r k names)) read,
        )

    pub chained_stops : (rest : List Token) (s : Stop) → begins_declared_suffix named ts ≡ true
        → Stops (declared_suffix_by d r names x ts found (ahead ts)) rest s
        → Stops whole rest s
    unfolding declared_suffixes
    chained_stops rest s e stops = by chained.0 chained.2
      where
        by : (k : ℕ) → whole ≡ declared_suffixes d r k names x ts → Stops whole rest s
        by zero w = stops_same _ _ rest s (w ∙ suffix_then (λ y rest. deep rest) e) (stops_then _ (λ y rest. deep rest) rest s stops)
        by (suc k) w = stops_same _ _ rest s (w ∙ suffix_then (declared_suffixes d r k names) e) (stops_then _ (declared_suffixes d r k names) rest s stops)

    pub chained_end : begins_declared_suffix named ts ≡ false → whole ≡ found x ts
    unfolding declared_suffixes
    chained_end e = by chained.0 chained.2
      where
        by : (k : ℕ) → whole ≡ declared_suffixes d r k names x ts → whole ≡ found x ts
        by zero w = w ∙ no_suffix d r names x (λ y rest. deep rest) ts ts (ahead ts) (ahead_is ts) (begins_same false e)
        by (suc k) w = w ∙ no_suffix d r names x (declared_suffixes d r k names) ts ts (ahead ts) (ahead_is ts) (begins_same false e)

-- what a loop has read of a declarator and its suffixes
pub record IsReadingSuffixes (d : ℕ) (r : Reader) (whole : Answer Tree) (names : Names) (under : List Tree) (most : ℕ) (p : Parser) (declarator : Declarator) : Type 0 where
  pub tree : Tree
  pub chained : IsChained d r whole names tree p.rest.now
  pub is_declared : IsDeclared (after names) tree under p declarator
  pub low : declarator.part.height ≤ d
  pub shorter : length p.rest.now < most

module _ (d : ℕ) (r : Reader) (whole : Answer Tree) (names : Names) (under : List Tree) (most : ℕ) where
  module _ (p : Parser) (inner : Declarator) (so_far : IsReadingSuffixes d r whole names under most p inner) where
    pub reading_suffixes_end : begins_declared_suffix inner.is_named p.rest.now ≡ false → Reads whole (after names) (λ t. SaysDeclarator p t inner) under d most p inner.part
    reading_suffixes_end no_more = record {
      tree = so_far.tree;
      found_is = chained_end d r names whole so_far.tree p.rest.now inner.is_named so_far.is_declared.said.itself_is.named_is so_far.chained no_more;
      read = so_far.is_declared.read;
      said = so_far.is_declared.said;
      low = so_far.low;
      shorter = so_far.shorter;
    }

    module _ (more_is : begins_declared_suffix inner.is_named p.rest.now ≡ true) where
      pub reading_suffixes_stops : (rest : List Token) (s : Stop) → Stops (declared_suffix_by d r names so_far.tree p.rest.now found (ahead p.rest.now)) rest s → Stops whole rest s
      reading_suffixes_stops rest s h = chained_stops d r names whole so_far.tree p.rest.now inner.is_named so_far.is_declared.said.itself_is.named_is so_far.chained rest s more_is h

      pub reading_suffixes_next : (q : Parser) (longer : Declarator)
          → Reads (declared_suffix_by d r names so_far.tree p.rest.now found (ahead p.rest.now)) (after names) (λ t. SaysSuffixed q so_far.tree t longer) under d (length p.rest.now) q longer.part
          → IsReadingSuffixes d r whole names under most q longer
      reading_suffixes_next q longer more = record {
        tree = more.tree;
        chained = chained_next d r names whole so_far.tree p.rest.now inner.is_named so_far.is_declared.said.itself_is.named_is so_far.chained more.tree q.rest.now more_is more.found_is more.said.higher
            (let h = more.read.pushed.height_is in let l = more.low in omega (arith, h, l));
        is_declared = record { read = more.read; said = more.said.itself_is };
        low = more.low;
        shorter = let a = so_far.shorter in let b = more.shorter in omega (arith, a, b);
      }
