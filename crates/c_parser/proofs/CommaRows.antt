-- Rows with a comma between two trees.
use Rattle.std.proofs.Common.{◌≡◌, ℕ, zero, suc, ◌<◌, ◌≤◌, Bool, true, false, List, [], ◌∷◌, ◌++◌, max, length, if◌then◌else◌, refl, sym, ap, ◌∙◌, subst, arith, true≢false}
use Rattle.c_lexer.specs.declared.token.Punct.TheVariants.{Comma, RightBrace}
use Rattle.c_lexer.specs.declared.token.Token.{Token}
use Rattle.c_syntax.specs.Trees.{Tree, Forest, none, ◌then◌, one, forest_of}
use Rattle.c_grammar.specs.Scopes.{Names, after}
use Rattle.c_grammar.specs.Answers.{Answer, Ahead, found, and_then}
use Rattle.c_grammar.specs.Reading.{Reader, begins_with_mark, begins_with_mark_by, behind_one, listed, listed_in_braces}
use Rattle.c_grammar.proofs.SoundSteps.{IsAhead, is_nothing, is_mark, is_word, is_integer, is_character, is_string, ahead_is}
use Rattle.c_parts.specs.declared.budget.Stop.{Stop}
use Rattle.c_syntax.specs.Tables.{stack_of}
use Rattle.c_parts.specs.declared.part.Part.{Part}
use Rattle.c_parts.proofs.NameLaws.{add_nothing}
use Rattle.c_parts.proofs.PushLaws.{alone, more_trees, same_height}
use Rattle.c_parser.specs.declared.parser.Parser.{Parser}
use Rattle.c_parser.specs.Gives.{Stops, Reads, ReadsAll, AreRead, Keeps, behind_all}
use Rattle.c_parser.proofs.Made.{trees_on}
use Rattle.c_parser.proofs.Stopping.{chosen, not_chosen, stops_then, stops_same}
use Rattle.c_parser.proofs.Rows.{before, Left, left_start, left_more, left_end, left_stop, names_more}

-- ---- a comma is a token

pub comma_shorter : (ts : List Token) → begins_with_mark Comma ts ≡ true → length (behind_one ts) < length ts
comma_shorter ts e = by (ahead_is ts) e
  where
    by : {ts : List Token} {h : Ahead} → IsAhead ts h → begins_with_mark_by Comma h ≡ true → length (behind_one ts) < length ts
    by is_nothing e = absurd (true≢false (sym e))
    by is_mark e = omega arith
    by is_word e = omega arith
    by is_integer e = omega arith
    by is_character e = omega arith
    by is_string e = omega arith

-- ---- one tree after another, with a comma between

-- behind a tree
abbrev pub listed_behind : ℕ → Reader → (Names → List Token → Answer Tree) → (Names → Tree → Names) → ℕ → Names → List Token → Answer Forest
listed_behind d r item next k names ts = if begins_with_mark Comma ts then listed d r item next k names (behind_one ts) else found none ts

-- behind the trees xs; k is at least the tokens that are left
abbrev pub IsListed : ℕ → Reader → (Names → List Token → Answer Tree) → (Names → Tree → Names) → Answer Forest → Names → List Token → List Tree → Type 0
IsListed d r item next whole names ts xs = (k : ℕ) × (length ts ≤ k) × Left whole xs (listed_behind d r item next k names ts)

module _ (d : ℕ) (r : Reader) (item : Names → List Token → Answer Tree) (next : Names → Tree → Names) where
  listed_cases : (b : Bool) (t : Tree) (more : Answer Forest) (rest : List Token)
      → (if b then and_then more (λ ts end. found (t then ts) end) else found (one t) rest)
      ≡ and_then (if b then more else found none rest) (λ ts end. found (t then ts) end)
  unfolding and_then
  listed_cases true t more rest = refl
  listed_cases false t more rest = refl

  -- one tree, and what is behind it
  listed_found : (k : ℕ) (names : Names) (ts rest : List Token) (t : Tree) → item names ts ≡ found t rest
      → listed d r item next (suc k) names ts ≡ and_then (listed_behind d r item next k (next names t) rest) (λ more end. found (t then more) end)
  unfolding listed and_then
  listed_found k names ts rest t e =
      ap (λ (x : Answer Tree). and_then x (λ t rest.
      if begins_with_mark Comma rest then and_then (listed d r item next k (next names t) (behind_one rest)) (λ more end. found (t then more) end)
      else found (one t) rest)) e
      ∙ listed_cases (begins_with_mark Comma rest) t (listed d r item next k (next names t) (behind_one rest)) rest

  -- the first tree has been read
  pub listed_first : (names0 names : Names) (ts rest : List Token) (t : Tree) (xs : List Tree)
      → item names0 ts ≡ found t rest → names ≡ next names0 t → length rest ≤ length ts → xs ≡ t ∷ []
      → IsListed d r item next (listed d r item next (suc (length ts)) names0 ts) names rest xs
  listed_first names0 names ts rest t xs e n shorter x =
      let read : Left (listed d r item next (suc (length ts)) names0 ts) (t ∷ []) (listed_behind d r item next (length ts) (next names0 t) rest)
      = left_more _ [] _ (listed_behind d r item next (length ts) (next names0 t) rest) t (left_start _) (listed_found (length ts) names0 ts rest t e) in
      (length ts, shorter, rw (x, n) read)

  pub listed_first_stops : (k : ℕ) (names : Names) (ts rest : List Token) (s : Stop) → Stops (item names ts) rest s → Stops (listed d r item next (suc k) names ts) rest s
  unfolding listed
  listed_first_stops k names ts rest s h = stops_then (item names ts) _ rest s h

  listed_on : (k : ℕ) (whole : Answer Forest) (names : Names) (ts : List Token) (xs : List Tree) → Left whole xs (listed_behind d r item next k names ts)
      → begins_with_mark Comma ts ≡ true → Left whole xs (listed d r item next k names (behind_one ts))
  listed_on k whole names ts xs l c = l ∙ ap (λ (y : Answer Forest). and_then y (λ ts end. found (before xs ts) end)) (chosen _ _ _ c)

  -- one more tree has been read, behind a comma
  pub listed_next : (whole : Answer Forest) (names names2 : Names) (ts mid rest : List Token) (t : Tree) (xs ys : List Tree)
      → IsListed d r item next whole names ts xs → begins_with_mark Comma ts ≡ true → mid ≡ behind_one ts
      → item names mid ≡ found t rest → names2 ≡ next names t → length rest ≤ length mid → ys ≡ xs ++ (t ∷ [])
      → IsListed d r item next whole names2 rest ys
  listed_next whole names names2 ts mid rest t xs ys (k, enough, l) c m e n shorter y = by k enough l
    where
      by : (k : ℕ) → length ts ≤ k → Left whole xs (listed_behind d r item next k names ts) → IsListed d r item next whole names2 rest ys
      by zero enough l = absurd (let h = comma_shorter ts c in omega (arith, enough, h))
      by (suc k) enough l =
          let read : Left whole (xs ++ (t ∷ [])) (listed_behind d r item next k (next names t) rest)
          = left_more whole xs _ (listed_behind d r item next k (next names t) rest) t (listed_on (suc k) whole names ts xs l c)
          (listed_found k names (behind_one ts) rest t (ap (item names) (sym m) ∙ e)) in
          let h = comma_shorter ts c in
          let g = ap length m in
          (k, omega (arith, enough, shorter, h, g), rw (y, n) read)

  pub listed_stops : (whole : Answer Forest) (names : Names) (ts mid rest : List Token) (xs : List Tree) (s : Stop)
      → IsListed d r item next whole names ts xs → begins_with_mark Comma ts ≡ true → mid ≡ behind_one ts
      → Stops (item names mid) rest s → Stops whole rest s
  listed_stops whole names ts mid rest xs s (k, enough, l) c m h = by k enough l
    where
      by : (k : ℕ) → length ts ≤ k → Left whole xs (listed_behind d r item next k names ts) → Stops whole rest s
      by zero enough l = absurd (let h = comma_shorter ts c in omega (arith, enough, h))
      by (suc k) enough l = left_stop whole xs _ rest s (listed_on (suc k) whole names ts xs l c)
          (listed_first_stops k names (behind_one ts) rest s (stops_same _ _ rest s (ap (item names) (sym m)) h))

  pub listed_end : (whole : Answer Forest) (names : Names) (ts : List Token) (xs : List Tree)
      → IsListed d r item next whole names ts xs → begins_with_mark Comma ts ≡ false → whole ≡ found (forest_of xs) ts
  listed_end whole names ts xs (k, enough, l) c = left_end whole xs _ ts l (not_chosen _ _ _ c)

-- what a loop has read of them
pub record IsListing (d : ℕ) (r : Reader) (item : Names → List Token → Answer Tree) (next : Names → Tree → Names) (whole : Answer Forest) (behind : Forest → Names) (under : List Tree) (budget most : ℕ)
    (p : Parser) (high : ℕ) : Type 0 where
  pub trees : List Tree
  pub listed_is : IsListed d r item next whole p.names p.rest.now trees
  pub is_read : AreRead behind trees under p high
  pub low : high ≤ budget
  pub shorter : length p.rest.now < most

-- the names behind a row are those behind its last tree
abbrev pub Follows : Names → (Forest → Names) → (Names → Tree → Names) → Type 0
Follows names0 behind next = (behind none ≡ names0) × ((xs : List Tree) (t : Tree) → behind (forest_of (xs ++ (t ∷ []))) ≡ next (behind (forest_of xs)) t)

module _ (d : ℕ) (r : Reader) (item : Names → List Token → Answer Tree) (next : Names → Tree → Names) (whole : Answer Forest) (names0 : Names) (behind : Forest → Names) (under : List Tree) (budget most : ℕ)
    (follows : Follows names0 behind next) where
  pub listing_first : (ts : List Token) → whole ≡ listed d r item next (suc (length ts)) names0 ts → (says : Tree → Type 0) (p : Parser) (part : Part)
      → Reads (item names0 ts) (next names0) says under budget (length ts) p part → length ts ≤ most → IsListing d r item next whole behind under budget most p part.height
  listing_first ts shape says p part first enough =
      let t = first.tree in
      let short = first.shorter in
      let all = listed_first d r item next names0 p.names ts p.rest.now t (t ∷ []) first.found_is first.read.names_are (omega (arith, short)) refl in
      record {
        trees = t ∷ [];
        listed_is = subst (λ (w : Answer Forest). IsListed d r item next w p.names p.rest.now (t ∷ [])) (sym shape) all;
        is_read = record {
          names_are = first.read.names_are ∙ sym (follows.1 [] t ∙ ap (λ (n : Names). next n t) follows.0);
          pushed = alone t under (stack_of p.trees) part first.read.pushed;
        };
        low = first.low;
        shorter = omega (arith, short, enough);
      }

  module _ (p : Parser) (high : ℕ) (so_far : IsListing d r item next whole behind under budget most p high) (comma : begins_with_mark Comma p.rest.now ≡ true)
      (a : Parser) (kept : Keeps p a) (mid : a.rest.now ≡ behind_one p.rest.now) where
    pub listing_stops : (rest : List Token) (s : Stop) → Stops (item a.names a.rest.now) rest s → Stops whole rest s
    listing_stops rest s h = listed_stops d r item next whole p.names p.rest.now a.rest.now rest so_far.trees s so_far.listed_is comma mid
        (stops_same _ _ rest s (ap (λ (n : Names). item n a.rest.now) (sym kept.names_are)) h)

    module _ (says : Tree → Type 0) (q : Parser) (part : Part) (more : Reads (item a.names a.rest.now) (next a.names) says (stack_of a.trees) budget (length a.rest.now) q part) where
      pub listing_smaller : length q.rest.now < length p.rest.now
      listing_smaller = let s = more.shorter in let b = comma_shorter p.rest.now comma in let e = ap length mid in omega (arith, s, b, e)

      pub listing_next : (high2 : ℕ) → high2 ≡ max high part.height → IsListing d r item next whole behind under budget most q high2
      listing_next high2 e =
          let t = more.tree in
          let xs = so_far.trees in
          let short = more.shorter in
          let names = more.read.names_are ∙ ap (λ (n : Names). next n t) kept.names_are in
          record {
            trees = xs ++ (t ∷ []);
            listed_is = listed_next d r item next whole p.names q.names p.rest.now a.rest.now q.rest.now t xs (xs ++ (t ∷ [])) so_far.listed_is comma mid
                (ap (λ (n : Names). item n a.rest.now) (sym kept.names_are) ∙ more.found_is) names (omega (arith, short)) refl;
            is_read = record {
              names_are = names ∙ ap (λ (n : Names). next n t) so_far.is_read.names_are ∙ sym (follows.1 xs t);
              pushed = same_height _ _ _ _ high2 e (more_trees xs t under (stack_of a.trees) (stack_of q.trees) high part (trees_on xs under high p a kept so_far.is_read.pushed) more.read.pushed);
            };
            low = let a = so_far.low in let b = more.low in omega (arith, a, b, e);
            shorter = let a = so_far.shorter in let b = listing_smaller in omega (arith, a, b);
          }

  pub listing_end : (says : List Tree → Type 0) (p : Parser) (high : ℕ) → (so_far : IsListing d r item next whole behind under budget most p high) → begins_with_mark Comma p.rest.now ≡ false
      → says so_far.trees → ReadsAll whole behind says under budget most p high
  listing_end says p high so_far no_comma s = record {
    trees = so_far.trees;
    found_is = listed_end d r item next whole p.names p.rest.now so_far.trees so_far.listed_is no_comma;
    read = so_far.is_read;
    said = s;
    low = so_far.low;
    shorter = so_far.shorter;
  }

-- as after a row of trees that declare what stands in them
pub follows_all : (names : Names) → Follows names (behind_all names) after
follows_all names = (add_nothing names, λ xs t. sym (names_more (after (behind_all names (forest_of xs)) t) names (behind_all names (forest_of xs)) xs t refl refl))

-- ---- the same, where a comma may stand before the brace at the end

-- behind a tree
abbrev pub braces_behind : ℕ → Reader → (Names → List Token → Answer Tree) → ℕ → Names → List Token → Answer Forest
braces_behind d r item k names ts =
    if begins_with_mark Comma ts then (if begins_with_mark RightBrace (behind_one ts) then found none (behind_one ts) else listed_in_braces d r item k names (behind_one ts))
    else found none ts

abbrev pub IsListedInBraces : ℕ → Reader → (Names → List Token → Answer Tree) → Answer Forest → Names → List Token → List Tree → Type 0
IsListedInBraces d r item whole names ts xs = (k : ℕ) × (length ts ≤ k) × Left whole xs (braces_behind d r item k names ts)

module _ (d : ℕ) (r : Reader) (item : Names → List Token → Answer Tree) where
  braces_cases : (b c : Bool) (t : Tree) (more : Answer Forest) (rest last : List Token)
      → (if b then (if c then found (one t) last else and_then more (λ ts end. found (t then ts) end)) else found (one t) rest)
      ≡ and_then (if b then (if c then found none last else more) else found none rest) (λ ts end. found (t then ts) end)
  unfolding and_then
  braces_cases true true t more rest last = refl
  braces_cases true false t more rest last = refl
  braces_cases false true t more rest last = refl
  braces_cases false false t more rest last = refl

  braces_found : (k : ℕ) (names : Names) (ts rest : List Token) (t : Tree) → item names ts ≡ found t rest
      → listed_in_braces d r item (suc k) names ts ≡ and_then (braces_behind d r item k (after names t) rest) (λ more end. found (t then more) end)
  unfolding listed_in_braces and_then
  braces_found k names ts rest t e =
      ap (λ (x : Answer Tree). and_then x (λ t rest.
      if begins_with_mark Comma rest then
      (if begins_with_mark RightBrace (behind_one rest) then found (one t) (behind_one rest)
      else and_then (listed_in_braces d r item k (after names t) (behind_one rest)) (λ more end. found (t then more) end))
      else found (one t) rest)) e
      ∙ braces_cases (begins_with_mark Comma rest) (begins_with_mark RightBrace (behind_one rest)) t (listed_in_braces d r item k (after names t) (behind_one rest)) rest (behind_one rest)

  pub braces_first : (names0 names : Names) (ts rest : List Token) (t : Tree) (xs : List Tree)
      → item names0 ts ≡ found t rest → names ≡ after names0 t → length rest ≤ length ts → xs ≡ t ∷ []
      → IsListedInBraces d r item (listed_in_braces d r item (suc (length ts)) names0 ts) names rest xs
  braces_first names0 names ts rest t xs e n shorter x =
      let read : Left (listed_in_braces d r item (suc (length ts)) names0 ts) (t ∷ []) (braces_behind d r item (length ts) (after names0 t) rest)
      = left_more _ [] _ (braces_behind d r item (length ts) (after names0 t) rest) t (left_start _) (braces_found (length ts) names0 ts rest t e) in
      (length ts, shorter, rw (x, n) read)

  pub braces_first_stops : (k : ℕ) (names : Names) (ts rest : List Token) (s : Stop) → Stops (item names ts) rest s → Stops (listed_in_braces d r item (suc k) names ts) rest s
  unfolding listed_in_braces
  braces_first_stops k names ts rest s h = stops_then (item names ts) _ rest s h

  braces_on : (k : ℕ) (whole : Answer Forest) (names : Names) (ts : List Token) (xs : List Tree) → Left whole xs (braces_behind d r item k names ts)
      → begins_with_mark Comma ts ≡ true → begins_with_mark RightBrace (behind_one ts) ≡ false → Left whole xs (listed_in_braces d r item k names (behind_one ts))
  braces_on k whole names ts xs l c b = l ∙ ap (λ (y : Answer Forest). and_then y (λ ts end. found (before xs ts) end)) (chosen _ _ _ c ∙ not_chosen _ _ _ b)

  -- one more tree has been read, behind a comma
  pub braces_next : (whole : Answer Forest) (names names2 : Names) (ts mid rest : List Token) (t : Tree) (xs ys : List Tree)
      → IsListedInBraces d r item whole names ts xs → begins_with_mark Comma ts ≡ true → mid ≡ behind_one ts → begins_with_mark RightBrace mid ≡ false
      → item names mid ≡ found t rest → names2 ≡ after names t → length rest ≤ length mid → ys ≡ xs ++ (t ∷ [])
      → IsListedInBraces d r item whole names2 rest ys
  braces_next whole names names2 ts mid rest t xs ys (k, enough, l) c m b e n shorter y = by k enough l
    where
      by : (k : ℕ) → length ts ≤ k → Left whole xs (braces_behind d r item k names ts) → IsListedInBraces d r item whole names2 rest ys
      by zero enough l = absurd (let h = comma_shorter ts c in omega (arith, enough, h))
      by (suc k) enough l =
          let read : Left whole (xs ++ (t ∷ [])) (braces_behind d r item k (after names t) rest)
          = left_more whole xs _ (braces_behind d r item k (after names t) rest) t (braces_on (suc k) whole names ts xs l c (ap (begins_with_mark RightBrace) (sym m) ∙ b))
          (braces_found k names (behind_one ts) rest t (ap (item names) (sym m) ∙ e)) in
          let h = comma_shorter ts c in
          let g = ap length m in
          (k, omega (arith, enough, shorter, h, g), rw (y, n) read)

  pub braces_stops : (whole : Answer Forest) (names : Names) (ts mid rest : List Token) (xs : List Tree) (s : Stop)
      → IsListedInBraces d r item whole names ts xs → begins_with_mark Comma ts ≡ true → mid ≡ behind_one ts → begins_with_mark RightBrace mid ≡ false
      → Stops (item names mid) rest s → Stops whole rest s
  braces_stops whole names ts mid rest xs s (k, enough, l) c m b h = by k enough l
    where
      by : (k : ℕ) → length ts ≤ k → Left whole xs (braces_behind d r item k names ts) → Stops whole rest s
      by zero enough l = absurd (let h = comma_shorter ts c in omega (arith, enough, h))
      by (suc k) enough l = left_stop whole xs _ rest s (braces_on (suc k) whole names ts xs l c (ap (begins_with_mark RightBrace) (sym m) ∙ b))
          (braces_first_stops k names (behind_one ts) rest s (stops_same _ _ rest s (ap (item names) (sym m)) h))

  pub braces_end : (whole : Answer Forest) (names : Names) (ts : List Token) (xs : List Tree)
      → IsListedInBraces d r item whole names ts xs → begins_with_mark Comma ts ≡ false → whole ≡ found (forest_of xs) ts
  braces_end whole names ts xs (k, enough, l) c = left_end whole xs _ ts l (not_chosen _ _ _ c)

  -- a comma, and the brace
  pub braces_end_comma : (whole : Answer Forest) (names : Names) (ts mid : List Token) (xs : List Tree)
      → IsListedInBraces d r item whole names ts xs → begins_with_mark Comma ts ≡ true → mid ≡ behind_one ts → begins_with_mark RightBrace mid ≡ true
      → whole ≡ found (forest_of xs) mid
  braces_end_comma whole names ts mid xs (k, enough, l) c m b =
      left_end whole xs _ ts2 l (chosen _ _ _ c ∙ chosen _ _ _ (ap (begins_with_mark RightBrace) (sym m) ∙ b)) ∙ ap (found (forest_of xs)) (sym m)
    where
      ts2 : List Token
      ts2 = behind_one ts
