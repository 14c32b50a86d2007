-- Rows that go on while specs begin: members and specs.
use Rattle.std.proofs.Common.{◌≡◌, ℕ, zero, suc, ◌<◌, ◌≤◌, Bool, true, false, ◌||◌, List, [], ◌∷◌, ◌++◌, length, length-append, max, codes, bytes_eq, if◌then◌else◌, refl, sym, ap, ◌∙◌, subst, arith, true≢false}
use Rattle.std.specs.Prelude.{⊤}
use Rattle.c_lexer.specs.declared.token.Token.{Token}
use Rattle.c_syntax.specs.Trees.{Tree, Forest, none, ◌then◌, one, forest_of}
use Rattle.c_syntax.specs.Tables.{stack_of}
use Rattle.c_grammar.specs.Scopes.{Names, after, says_type, has_word, is_word_by}
use Rattle.c_grammar.specs.Derivation.{first_start}
use Rattle.c_grammar.specs.Answers.{Answer, Ahead, found, and_then}
use Rattle.c_grammar.specs.Reading.{Reader, begins_specifier, begins_specifier_by, rows_in, members_in, member_in, specifier_in, specifier_list_in}
use Rattle.c_grammar.proofs.SoundSteps.{IsAhead, is_nothing, is_mark, is_word, is_integer, is_character, is_string, ahead_is}
use Rattle.c_parts.specs.declared.budget.Stop.{Stop}
use Rattle.c_parts.specs.declared.part.Part.{Part}
use Rattle.c_parts.specs.declared.specifier.Specifier.{Specifier}
use Rattle.c_parts.specs.declared.specifier.SpecifierRow.{SpecifierRow}
use Rattle.c_parts.specs.declared.specifier.Tagged.{Tagged}
use Rattle.c_parts.specs.declared.specifier.Tagged.TheVariants.{Struct}
use Rattle.c_parts.specs.Kinds.{row_of}
use Rattle.c_parts.specs.Says.{IsSpecifier}
use Rattle.c_parts.proofs.PushLaws.{alone, more_trees, same_height}
use Rattle.c_parser.specs.declared.parser.Parser.{Parser}
use Rattle.c_parser.specs.Gives.{Stops, Reads, ReadsAll, AreRead, SaysSpecifiers, behind_all}
use Rattle.c_parser.proofs.Stopping.{chosen, not_chosen, stops_then}
use Rattle.c_parser.proofs.Rows.{before, Left, left_start, left_more, left_end, left_stop, names_more, names_first}

-- ---- members and specs, which go on while specs begin

abbrev pub members_behind : ℕ → Reader → ℕ → Names → List Token → Answer Forest
members_behind d r k names ts = if begins_specifier false names ts then members_in d r k names ts else found none ts

abbrev pub IsMembers : ℕ → Reader → Answer Forest → Names → List Token → List Tree → Type 0
IsMembers d r whole names ts xs = (k : ℕ) × (length ts ≤ k) × Left whole xs (members_behind d r k names ts)

abbrev pub specs_behind : ℕ → Reader → ℕ → Bool → Names → List Token → Answer Forest
specs_behind d r k typed names ts = if begins_specifier typed names ts then specifier_list_in d r k typed names ts else found none ts

abbrev pub IsSpecs : ℕ → Reader → Answer Forest → Bool → Names → List Token → List Tree → Type 0
IsSpecs d r whole typed names ts xs = (k : ℕ) × (length ts ≤ k) × Left whole xs (specs_behind d r k typed names ts)

-- some token is there where specs begin
pub specifier_token : (typed : Bool) (names : Names) (ts : List Token) → begins_specifier typed names ts ≡ true → 1 ≤ length ts
unfolding begins_specifier_by
specifier_token typed names ts e = by (ahead_is ts) e
  where
    by : {ts : List Token} {h : Ahead} → IsAhead ts h → begins_specifier_by typed names h ≡ true → 1 ≤ length ts
    by is_nothing e = absurd (true≢false (sym e))
    by is_mark e = omega arith
    by is_word e = omega arith
    by is_integer e = omega arith
    by is_character e = omega arith
    by is_string e = omega arith

pub behind_cases : (b : Bool) (t : Tree) (more : Answer Forest) (rest : List Token)
    → (if b then and_then more (λ ts end. found (t then ts) end) else found (one t) rest)
    ≡ and_then (if b then more else found none rest) (λ ts end. found (t then ts) end)
unfolding and_then
behind_cases true t more rest = refl
behind_cases false t more rest = refl

module _ (d : ℕ) (r : Reader) where
  members_found : (k : ℕ) (names : Names) (ts rest : List Token) (t : Tree) → member_in d r names ts ≡ found t rest
      → members_in d r (suc k) names ts ≡ and_then (members_behind d r k (after names t) rest) (λ more end. found (t then more) end)
  unfolding members_in and_then
  members_found k names ts rest t e =
      ap (λ (x : Answer Tree). and_then x (λ t rest.
      if begins_specifier false (after names t) rest then and_then (members_in d r k (after names t) rest) (λ more end. found (t then more) end)
      else found (one t) rest)) e
      ∙ behind_cases (begins_specifier false (after names t) rest) t (members_in d r k (after names t) rest) rest

  pub members_first : (names0 names : Names) (ts rest : List Token) (t : Tree) (xs : List Tree)
      → member_in d r names0 ts ≡ found t rest → names ≡ after names0 t → length rest ≤ length ts → xs ≡ t ∷ []
      → IsMembers d r (members_in d r (suc (length ts)) names0 ts) names rest xs
  members_first names0 names ts rest t xs e n shorter x =
      let read : Left (members_in d r (suc (length ts)) names0 ts) (t ∷ []) (members_behind d r (length ts) (after names0 t) rest)
      = left_more _ [] _ (members_behind d r (length ts) (after names0 t) rest) t (left_start _) (members_found (length ts) names0 ts rest t e) in
      (length ts, shorter, rw (x, n) read)

  pub members_first_stops : (k : ℕ) (names : Names) (ts rest : List Token) (s : Stop) → Stops (member_in d r names ts) rest s → Stops (members_in d r (suc k) names ts) rest s
  unfolding members_in
  members_first_stops k names ts rest s h = stops_then (member_in d r names ts) _ rest s h

  members_on : (k : ℕ) (whole : Answer Forest) (names : Names) (ts : List Token) (xs : List Tree) → Left whole xs (members_behind d r k names ts)
      → begins_specifier false names ts ≡ true → Left whole xs (members_in d r k names ts)
  members_on k whole names ts xs l c = l ∙ ap (λ (y : Answer Forest). and_then y (λ ts end. found (before xs ts) end)) (chosen _ _ _ c)

  pub members_next : (whole : Answer Forest) (names names2 : Names) (ts rest : List Token) (t : Tree) (xs ys : List Tree)
      → IsMembers d r whole names ts xs → begins_specifier false names ts ≡ true
      → member_in d r names ts ≡ found t rest → names2 ≡ after names t → length rest < length ts → ys ≡ xs ++ (t ∷ [])
      → IsMembers d r whole names2 rest ys
  members_next whole names names2 ts rest t xs ys (k, enough, l) c e n shorter y = by k enough l
    where
      by : (k : ℕ) → length ts ≤ k → Left whole xs (members_behind d r k names ts) → IsMembers d r whole names2 rest ys
      by zero enough l = absurd (omega (arith, enough, shorter))
      by (suc k) enough l =
          let read : Left whole (xs ++ (t ∷ [])) (members_behind d r k (after names t) rest)
          = left_more whole xs _ (members_behind d r k (after names t) rest) t (members_on (suc k) whole names ts xs l c) (members_found k names ts rest t e) in
          (k, omega (arith, enough, shorter), rw (y, n) read)

  pub members_stops : (whole : Answer Forest) (names : Names) (ts rest : List Token) (xs : List Tree) (s : Stop)
      → IsMembers d r whole names ts xs → begins_specifier false names ts ≡ true → Stops (member_in d r names ts) rest s → Stops whole rest s
  members_stops whole names ts rest xs s (k, enough, l) c h = by k enough l
    where
      by : (k : ℕ) → length ts ≤ k → Left whole xs (members_behind d r k names ts) → Stops whole rest s
      by zero enough l = absurd (let some = specifier_token false names ts c in omega (arith, enough, some))
      by (suc k) enough l = left_stop whole xs _ rest s (members_on (suc k) whole names ts xs l c) (members_first_stops k names ts rest s h)

  pub members_end : (whole : Answer Forest) (names : Names) (ts : List Token) (xs : List Tree)
      → IsMembers d r whole names ts xs → begins_specifier false names ts ≡ false → whole ≡ found (forest_of xs) ts
  members_end whole names ts xs (k, enough, l) c = left_end whole xs _ ts l (not_chosen _ _ _ c)

  specs_found : (k : ℕ) (typed : Bool) (names : Names) (ts rest : List Token) (t : Tree) → specifier_in d r typed names ts ≡ found t rest
      → specifier_list_in d r (suc k) typed names ts ≡ and_then (specs_behind d r k (typed || says_type t) (after names t) rest) (λ more end. found (t then more) end)
  unfolding specifier_list_in and_then
  specs_found k typed names ts rest t e =
      ap (λ (x : Answer Tree). and_then x (λ t rest.
      if begins_specifier (typed || says_type t) (after names t) rest then
      and_then (specifier_list_in d r k (typed || says_type t) (after names t) rest) (λ more end. found (t then more) end)
      else found (one t) rest)) e
      ∙ behind_cases (begins_specifier (typed || says_type t) (after names t) rest) t (specifier_list_in d r k (typed || says_type t) (after names t) rest) rest

  pub specs_row_first : (names0 names : Names) (typed : Bool) (ts rest : List Token) (t : Tree) (xs : List Tree)
      → specifier_in d r false names0 ts ≡ found t rest → typed ≡ says_type t → names ≡ after names0 t → length rest ≤ length ts → xs ≡ t ∷ []
      → IsSpecs d r (specifier_list_in d r (suc (length ts)) false names0 ts) typed names rest xs
  specs_row_first names0 names typed ts rest t xs e s n shorter x =
      let read : Left (specifier_list_in d r (suc (length ts)) false names0 ts) (t ∷ []) (specs_behind d r (length ts) (says_type t) (after names0 t) rest)
      = left_more _ [] _ (specs_behind d r (length ts) (says_type t) (after names0 t) rest) t (left_start _) (specs_found (length ts) false names0 ts rest t e) in
      (length ts, shorter, rw (x, n, s) read)

  pub specs_row_first_stops : (k : ℕ) (typed : Bool) (names : Names) (ts rest : List Token) (s : Stop)
      → Stops (specifier_in d r typed names ts) rest s → Stops (specifier_list_in d r (suc k) typed names ts) rest s
  unfolding specifier_list_in
  specs_row_first_stops k typed names ts rest s h = stops_then (specifier_in d r typed names ts) _ rest s h

  specs_on : (k : ℕ) (whole : Answer Forest) (typed : Bool) (names : Names) (ts : List Token) (xs : List Tree) → Left whole xs (specs_behind d r k typed names ts)
      → begins_specifier typed names ts ≡ true → Left whole xs (specifier_list_in d r k typed names ts)
  specs_on k whole typed names ts xs l c = l ∙ ap (λ (y : Answer Forest). and_then y (λ ts end. found (before xs ts) end)) (chosen _ _ _ c)

  pub specs_row_next : (whole : Answer Forest) (typed typed2 : Bool) (names names2 : Names) (ts rest : List Token) (t : Tree) (xs ys : List Tree)
      → IsSpecs d r whole typed names ts xs → begins_specifier typed names ts ≡ true
      → specifier_in d r typed names ts ≡ found t rest → typed2 ≡ typed || says_type t → names2 ≡ after names t → length rest < length ts → ys ≡ xs ++ (t ∷ [])
      → IsSpecs d r whole typed2 names2 rest ys
  specs_row_next whole typed typed2 names names2 ts rest t xs ys (k, enough, l) c e s n shorter y = by k enough l
    where
      by : (k : ℕ) → length ts ≤ k → Left whole xs (specs_behind d r k typed names ts) → IsSpecs d r whole typed2 names2 rest ys
      by zero enough l = absurd (omega (arith, enough, shorter))
      by (suc k) enough l =
          let read : Left whole (xs ++ (t ∷ [])) (specs_behind d r k (typed || says_type t) (after names t) rest)
          = left_more whole xs _ (specs_behind d r k (typed || says_type t) (after names t) rest) t
          (specs_on (suc k) whole typed names ts xs l c) (specs_found k typed names ts rest t e) in
          (k, omega (arith, enough, shorter), rw (y, n, s) read)

  pub specs_row_stops : (whole : Answer Forest) (typed : Bool) (names : Names) (ts rest : List Token) (xs : List Tree) (s : Stop)
      → IsSpecs d r whole typed names ts xs → begins_specifier typed names ts ≡ true → Stops (specifier_in d r typed names ts) rest s → Stops whole rest s
  specs_row_stops whole typed names ts rest xs s (k, enough, l) c h = by k enough l
    where
      by : (k : ℕ) → length ts ≤ k → Left whole xs (specs_behind d r k typed names ts) → Stops whole rest s
      by zero enough l = absurd (let some = specifier_token typed names ts c in omega (arith, enough, some))
      by (suc k) enough l = left_stop whole xs _ rest s (specs_on (suc k) whole typed names ts xs l c) (specs_row_first_stops k typed names ts rest s h)

  pub specs_row_end : (whole : Answer Forest) (typed : Bool) (names : Names) (ts : List Token) (xs : List Tree)
      → IsSpecs d r whole typed names ts xs → begins_specifier typed names ts ≡ false → whole ≡ found (forest_of xs) ts
  specs_row_end whole typed names ts xs (k, enough, l) c = left_end whole xs _ ts l (not_chosen _ _ _ c)

-- ---- what loops have read of them

pub record IsReadingMembers (d : ℕ) (r : Reader) (whole : Answer Forest) (names0 : Names) (under : List Tree) (budget most : ℕ) (p : Parser) (high : ℕ) : Type 0 where
  pub trees : List Tree
  pub row_is : IsMembers d r whole p.names p.rest.now trees
  pub is_read : AreRead (behind_all names0) trees under p high
  pub low : high ≤ budget
  pub shorter : length p.rest.now < most

-- the specs so far say a type, or they do not
pub record IsReadingSpecs (d : ℕ) (r : Reader) (whole : Answer Forest) (names0 : Names) (under : List Tree) (budget most : ℕ) (p : Parser) (typed : Bool) (row : SpecifierRow) : Type 0 where
  pub trees : List Tree
  pub row_is : IsSpecs d r whole typed p.names p.rest.now trees
  pub is_read : AreRead (behind_all names0) trees under p row.height
  pub said : SaysSpecifiers trees row
  pub low : row.height ≤ budget
  pub shorter : length p.rest.now < most

-- one tree more behind the others
next_read : (names0 : Names) (xs under : List Tree) (high : ℕ) (e : Answer Tree) (says : Tree → Type 0) (budget most : ℕ) (p q : Parser) (part : Part) (high2 : ℕ)
    → AreRead (behind_all names0) xs under p high → (more : Reads e (after p.names) says (stack_of p.trees) budget most q part) → high2 ≡ max high part.height
    → AreRead (behind_all names0) (xs ++ (more.tree ∷ [])) under q high2
next_read names0 xs under high e says budget most p q part high2 so_far more h = record {
  names_are = names_more q.names names0 p.names xs more.tree so_far.names_are more.read.names_are;
  pushed = same_height _ _ _ _ high2 h (more_trees xs more.tree under (stack_of p.trees) (stack_of q.trees) high part so_far.pushed more.read.pushed);
}

first_start_more : (xs : List Tree) (t : Tree) → 1 ≤ length xs → first_start (forest_of xs) ≡ first_start (forest_of (xs ++ (t ∷ [])))
first_start_more [] t some = absurd (omega (arith, some))
first_start_more (x ∷ xs) t some = refl

or_more : (a b c : Bool) → a || (b || c) ≡ (a || b) || c
or_more true b c = refl
or_more false b c = refl

has_word_more : (text : List ℕ) (xs : List Tree) (t : Tree) → has_word text (forest_of xs) || has_word text (one t) ≡ has_word text (forest_of (xs ++ (t ∷ [])))
has_word_more text [] t = refl
has_word_more text (x ∷ xs) t =
    sym (or_more (is_word_by x.label.kind (bytes_eq x.label.text text)) (has_word text (forest_of xs)) (has_word text (one t)))
    ∙ ap (λ b. is_word_by x.label.kind (bytes_eq x.label.text text) || b) (has_word_more text xs t)

module _ (d : ℕ) (r : Reader) (whole : Answer Forest) (names0 : Names) (under : List Tree) (budget most : ℕ) where
  pub reading_members_first : (ts : List Token) → whole ≡ members_in d r (suc (length ts)) names0 ts → (says : Tree → Type 0) (p : Parser) (part : Part)
      → Reads (member_in d r names0 ts) (after names0) says under budget (length ts) p part → length ts ≤ most → IsReadingMembers d r whole names0 under budget most p part.height
  reading_members_first ts shape says p part first enough =
      let t = first.tree in
      let short = first.shorter in
      let all = members_first d r names0 p.names ts p.rest.now t (t ∷ []) first.found_is first.read.names_are (omega (arith, short)) refl in
      record {
        trees = t ∷ [];
        row_is = subst (λ (w : Answer Forest). IsMembers d r w p.names p.rest.now (t ∷ [])) (sym shape) all;
        is_read = record { names_are = names_first p.names names0 (t ∷ []) t first.read.names_are refl; pushed = alone t under (stack_of p.trees) part first.read.pushed };
        low = first.low;
        shorter = omega (arith, short, enough);
      }

  module _ (p : Parser) (high : ℕ) (so_far : IsReadingMembers d r whole names0 under budget most p high) where
    pub reading_members_end : begins_specifier false p.names p.rest.now ≡ false → ReadsAll whole (behind_all names0) (λ ts. ⊤) under budget most p high
    reading_members_end no_more = record {
      trees = so_far.trees;
      found_is = members_end d r whole p.names p.rest.now so_far.trees so_far.row_is no_more;
      read = so_far.is_read;
      said = tt;
      low = so_far.low;
      shorter = so_far.shorter;
    }

    module _ (more_is : begins_specifier false p.names p.rest.now ≡ true) where
      pub reading_members_stops : (rest : List Token) (s : Stop) → Stops (member_in d r p.names p.rest.now) rest s → Stops whole rest s
      reading_members_stops rest s h = members_stops d r whole p.names p.rest.now rest so_far.trees s so_far.row_is more_is h

      pub reading_members_next : (says : Tree → Type 0) (q : Parser) (part : Part) → Reads (member_in d r p.names p.rest.now) (after p.names) says (stack_of p.trees) budget (length p.rest.now) q part
          → (high2 : ℕ) → high2 ≡ max high part.height → IsReadingMembers d r whole names0 under budget most q high2
      reading_members_next says q part more high2 e = record {
        trees = so_far.trees ++ (more.tree ∷ []);
        row_is = members_next d r whole p.names q.names p.rest.now q.rest.now more.tree so_far.trees (so_far.trees ++ (more.tree ∷ [])) so_far.row_is more_is more.found_is more.read.names_are more.shorter refl;
        is_read = next_read names0 so_far.trees under high _ says budget _ p q part high2 so_far.is_read more e;
        low = let a = so_far.low in let b = more.low in omega (arith, a, b, e);
        shorter = let a = so_far.shorter in let b = more.shorter in omega (arith, a, b);
      }

  pub reading_specs_first : (ts : List Token) → whole ≡ specifier_list_in d r (suc (length ts)) false names0 ts → (p : Parser) (first : Specifier)
      → Reads (specifier_in d r false names0 ts) (after names0) (λ t. IsSpecifier t first) under budget (length ts) p first.part → length ts ≤ most → (row : SpecifierRow)
      → row.height ≡ first.part.height → row.start ≡ first.part.start → row.is_typedef ≡ first.is_typedef → IsReadingSpecs d r whole names0 under budget most p first.says_type row
  reading_specs_first ts shape p first read enough row h s f =
      let t = read.tree in
      let short = read.shorter in
      let all = specs_row_first d r names0 p.names first.says_type ts p.rest.now t (t ∷ []) read.found_is read.said.type_is read.read.names_are (omega (arith, short)) refl in
      record {
        trees = t ∷ [];
        row_is = subst (λ (w : Answer Forest). IsSpecs d r w first.says_type p.names p.rest.now (t ∷ [])) (sym shape) all;
        is_read = record {
          names_are = names_first p.names names0 (t ∷ []) t read.read.names_are refl;
          pushed = same_height _ _ _ _ row.height h (alone t under (stack_of p.trees) first.part read.read.pushed);
        };
        said = record { row_is = record { start_is = s ∙ read.read.pushed.start_is; typedef_is = f ∙ read.said.typedef_is }; some = omega arith };
        low = let l = read.low in omega (arith, h, l);
        shorter = omega (arith, short, enough);
      }

  module _ (p : Parser) (typed : Bool) (row : SpecifierRow) (so_far : IsReadingSpecs d r whole names0 under budget most p typed row) where
    pub reading_specs_end : begins_specifier typed p.names p.rest.now ≡ false → ReadsAll whole (behind_all names0) (λ ts. SaysSpecifiers ts row) under budget most p row.height
    reading_specs_end no_more = record {
      trees = so_far.trees;
      found_is = specs_row_end d r whole typed p.names p.rest.now so_far.trees so_far.row_is no_more;
      read = so_far.is_read;
      said = so_far.said;
      low = so_far.low;
      shorter = so_far.shorter;
    }

    module _ (more_is : begins_specifier typed p.names p.rest.now ≡ true) where
      pub reading_specs_stops : (rest : List Token) (s : Stop) → Stops (specifier_in d r typed p.names p.rest.now) rest s → Stops whole rest s
      reading_specs_stops rest s h = specs_row_stops d r whole typed p.names p.rest.now rest so_far.trees s so_far.row_is more_is h

      pub reading_specs_next : (q : Parser) (next : Specifier)
          → Reads (specifier_in d r typed p.names p.rest.now) (after p.names) (λ t. IsSpecifier t next) (stack_of p.trees) budget (length p.rest.now) q next.part
          → (typed2 : Bool) (row2 : SpecifierRow) → typed2 ≡ typed || next.says_type → row2.height ≡ max row.height next.part.height → row2.start ≡ row.start
          → row2.is_typedef ≡ row.is_typedef || next.is_typedef → IsReadingSpecs d r whole names0 under budget most q typed2 row2
      reading_specs_next q next more typed2 row2 y h s f =
          let t = more.tree in
          let xs = so_far.trees in
          let some = so_far.said.some in
          record {
            trees = xs ++ (t ∷ []);
            row_is = specs_row_next d r whole typed typed2 p.names q.names p.rest.now q.rest.now t xs (xs ++ (t ∷ [])) so_far.row_is more_is more.found_is (y ∙ ap (λ b. typed || b) more.said.type_is)
                more.read.names_are more.shorter refl;
            is_read = next_read names0 xs under row.height _ _ budget _ p q next.part row2.height so_far.is_read more h;
            said = record {
              row_is = record {
                start_is = s ∙ so_far.said.row_is.start_is ∙ first_start_more xs t some;
                typedef_is = f ∙ ap (λ b. b || next.is_typedef) so_far.said.row_is.typedef_is ∙ ap (λ b. has_word (codes "typedef") (forest_of xs) || b) more.said.typedef_is
                    ∙ has_word_more (codes "typedef") xs t;
              };
              some = let l = length-append xs (t ∷ []) in omega (arith, some, l);
            };
            low = let a = so_far.low in let b = more.low in omega (arith, a, b, h);
            shorter = let a = so_far.shorter in let b = more.shorter in omega (arith, a, b);
          }

pub struct_row : (d : ℕ) (r : Reader) (tagged : Tagged) (names : Names) (ts : List Token) → tagged ≡ Struct → rows_in d r (row_of tagged) names ts ≡ members_in d r (suc (length ts)) names ts
unfolding rows_in
struct_row d r tagged names ts e = ap (λ k. rows_in d r (row_of k) names ts) e
