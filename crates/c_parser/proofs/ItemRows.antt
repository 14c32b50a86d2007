-- Items of a block up to its brace, and a unit up to its end.
use Rattle.std.proofs.Common.{◌≡◌, ℕ, zero, suc, ◌<◌, ◌≤◌, true, false, List, [], ◌∷◌, ◌++◌, max, length, length-append, if◌then◌else◌, refl, sym, ap, ◌∙◌, subst, arith}
use Rattle.c_lexer.specs.declared.token.Punct.TheVariants.{RightBrace}
use Rattle.c_lexer.specs.declared.token.Token.{Token}
use Rattle.c_syntax.specs.Trees.{Tree, Forest, none, ◌then◌, forest_of}
use Rattle.c_grammar.specs.Scopes.{Names, after}
use Rattle.c_grammar.specs.Answers.{Answer, found, and_then}
use Rattle.c_grammar.specs.Reading.{Reader, begins_with_mark, begins_specifier, items_in, declaration_in, statement_in, externals_in, externals_by, external_in}
use Rattle.c_grammar.specs.Derivation.{first_start}
use Rattle.c_syntax.specs.Tables.{stack_of}
use Rattle.c_parts.specs.declared.budget.Stop.{Stop}
use Rattle.c_parts.specs.declared.part.Part.{Part}
use Rattle.c_parts.specs.Pushed.{ArePushed}
use Rattle.c_parts.proofs.NameLaws.{add_nothing}
use Rattle.c_parts.proofs.PushLaws.{alone, more_trees, same_height}
use Rattle.c_parser.specs.declared.parser.Parser.{Parser}
use Rattle.c_parser.specs.Gives.{Stops, Reads, ReadsAll, AreRead, behind_all}
use Rattle.c_parser.proofs.Stopping.{chosen, not_chosen, stops_then, stops_same}
use Rattle.c_parser.proofs.Rows.{Left, left_start, left_more, left_end, left_stop, names_more}

-- ---- items of a block up to its brace; a unit up to its end

-- behind any items
abbrev pub IsItems : ℕ → Reader → Answer Forest → Names → List Token → List Tree → Type 0
IsItems d r whole names ts xs = (k : ℕ) × (length ts < k) × Left whole xs (items_in d r k names ts)

abbrev pub one_item : ℕ → Reader → Names → List Token → Answer Tree
one_item d r names ts = if begins_specifier false names ts then declaration_in d r names ts else statement_in d r names ts

-- behind some
abbrev pub externals_behind : ℕ → Reader → ℕ → Names → List Token → Answer Forest
externals_behind d r k names [] = found none []
externals_behind d r k names (t ∷ rest) = externals_in d r k names (t ∷ rest)

abbrev pub IsExternals : ℕ → Reader → Answer Forest → Names → List Token → List Tree → Type 0
IsExternals d r whole names ts xs = (k : ℕ) × (length ts ≤ k) × Left whole xs (externals_behind d r k names ts)

-- what a loop has read of a block
pub record IsItemRow (d : ℕ) (r : Reader) (whole : Answer Forest) (names0 : Names) (under : List Tree) (budget most : ℕ) (p : Parser) (high : ℕ) : Type 0 where
  pub trees : List Tree
  pub items_are : IsItems d r whole p.names p.rest.now trees
  pub is_read : AreRead (behind_all names0) trees under p high
  pub low : high ≤ budget
  pub shorter : length p.rest.now < most

-- what a loop has read of a unit: one part at least, and where the first begins
pub record IsExternalRow (d : ℕ) (r : Reader) (whole : Answer Forest) (under : List Tree) (budget start : ℕ) (p : Parser) (high : ℕ) : Type 0 where
  pub trees : List Tree
  pub externals_are : IsExternals d r whole p.names p.rest.now trees
  pub pushed : ArePushed trees under (stack_of p.trees) high
  pub some : 1 ≤ length trees
  pub start_is : start ≡ first_start (forest_of trees)
  pub low : high ≤ budget

module _ (d : ℕ) (r : Reader) where
  -- before the first item
  pub items_start : (names : Names) (ts : List Token) → IsItems d r (items_in d r (suc (length ts)) names ts) names ts []
  items_start names ts = (suc (length ts), omega arith, left_start _)

  items_found : (k : ℕ) (names : Names) (ts rest : List Token) (t : Tree) → begins_with_mark RightBrace ts ≡ false → one_item d r names ts ≡ found t rest
      → items_in d r (suc k) names ts ≡ and_then (items_in d r k (after names t) rest) (λ more end. found (t then more) end)
  unfolding items_in and_then
  items_found k names ts rest t b e = not_chosen _ _ _ b ∙ ap (λ (x : Answer Tree). and_then x (λ t rest. and_then (items_in d r k (after names t) rest) (λ more end. found (t then more) end))) e

  pub items_next : (whole : Answer Forest) (names names2 : Names) (ts rest : List Token) (t : Tree) (xs ys : List Tree)
      → IsItems d r whole names ts xs → begins_with_mark RightBrace ts ≡ false
      → one_item d r names ts ≡ found t rest → names2 ≡ after names t → length rest < length ts → ys ≡ xs ++ (t ∷ [])
      → IsItems d r whole names2 rest ys
  items_next whole names names2 ts rest t xs ys (k, enough, l) b e n shorter y = by k enough l
    where
      by : (k : ℕ) → length ts < k → Left whole xs (items_in d r k names ts) → IsItems d r whole names2 rest ys
      by zero enough l = absurd (omega (arith, enough))
      by (suc k) enough l =
          let read : Left whole (xs ++ (t ∷ [])) (items_in d r k (after names t) rest)
          = left_more whole xs _ (items_in d r k (after names t) rest) t l (items_found k names ts rest t b e) in
          (k, omega (arith, enough, shorter), rw (y, n) read)

  items_first_stops : (k : ℕ) (names : Names) (ts rest : List Token) (s : Stop)
      → begins_with_mark RightBrace ts ≡ false → Stops (one_item d r names ts) rest s → Stops (items_in d r (suc k) names ts) rest s
  unfolding items_in
  items_first_stops k names ts rest s b h = stops_same _ _ rest s (not_chosen _ _ _ b) (stops_then (one_item d r names ts) _ rest s h)

  pub items_stops : (whole : Answer Forest) (names : Names) (ts rest : List Token) (xs : List Tree) (s : Stop)
      → IsItems d r whole names ts xs → begins_with_mark RightBrace ts ≡ false → Stops (one_item d r names ts) rest s → Stops whole rest s
  items_stops whole names ts rest xs s (k, enough, l) b h = by k enough l
    where
      by : (k : ℕ) → length ts < k → Left whole xs (items_in d r k names ts) → Stops whole rest s
      by zero enough l = absurd (omega (arith, enough))
      by (suc k) enough l = left_stop whole xs _ rest s l (items_first_stops k names ts rest s b h)

  pub items_end : (whole : Answer Forest) (names : Names) (ts : List Token) (xs : List Tree)
      → IsItems d r whole names ts xs → begins_with_mark RightBrace ts ≡ true → whole ≡ found (forest_of xs) ts
  unfolding items_in
  items_end whole names ts xs (k, enough, l) b = by k enough l
    where
      by : (k : ℕ) → length ts < k → Left whole xs (items_in d r k names ts) → whole ≡ found (forest_of xs) ts
      by zero enough l = absurd (omega (arith, enough))
      by (suc k) enough l = left_end whole xs _ ts l (chosen _ _ _ b)

  externals_cases : (ts : List Token) (t : Tree) (k : ℕ) (names : Names)
      → externals_by d r t ts (externals_in d r k names ts) ≡ and_then (externals_behind d r k names ts) (λ more end. found (t then more) end)
  unfolding externals_by and_then
  externals_cases [] t k names = refl
  externals_cases (u ∷ ts) t k names = refl

  externals_found : (k : ℕ) (names : Names) (ts rest : List Token) (t : Tree) → external_in d r names ts ≡ found t rest
      → externals_in d r (suc k) names ts ≡ and_then (externals_behind d r k (after names t) rest) (λ more end. found (t then more) end)
  unfolding externals_in and_then
  externals_found k names ts rest t e =
      ap (λ (x : Answer Tree). and_then x (λ t rest. externals_by d r t rest (externals_in d r k (after names t) rest))) e
      ∙ externals_cases rest t k (after names t)

  pub externals_first : (names0 names : Names) (ts rest : List Token) (t : Tree) (xs : List Tree)
      → external_in d r names0 ts ≡ found t rest → names ≡ after names0 t → length rest ≤ length ts → xs ≡ t ∷ []
      → IsExternals d r (externals_in d r (suc (length ts)) names0 ts) names rest xs
  externals_first names0 names ts rest t xs e n shorter x =
      let read : Left (externals_in d r (suc (length ts)) names0 ts) (t ∷ []) (externals_behind d r (length ts) (after names0 t) rest)
      = left_more _ [] _ (externals_behind d r (length ts) (after names0 t) rest) t (left_start _) (externals_found (length ts) names0 ts rest t e) in
      (length ts, shorter, rw (x, n) read)

  pub externals_first_stops : (k : ℕ) (names : Names) (ts rest : List Token) (s : Stop) → Stops (external_in d r names ts) rest s → Stops (externals_in d r (suc k) names ts) rest s
  unfolding externals_in
  externals_first_stops k names ts rest s h = stops_then (external_in d r names ts) _ rest s h

  externals_on : (k : ℕ) (whole : Answer Forest) (names : Names) (ts : List Token) (xs : List Tree) → Left whole xs (externals_behind d r k names ts)
      → 1 ≤ length ts → Left whole xs (externals_in d r k names ts)
  externals_on k whole names [] xs l c = absurd (omega (arith, c))
  externals_on k whole names (t ∷ ts) xs l c = l

  pub externals_next : (whole : Answer Forest) (names names2 : Names) (ts rest : List Token) (t : Tree) (xs ys : List Tree)
      → IsExternals d r whole names ts xs → 1 ≤ length ts
      → external_in d r names ts ≡ found t rest → names2 ≡ after names t → length rest < length ts → ys ≡ xs ++ (t ∷ [])
      → IsExternals d r whole names2 rest ys
  externals_next whole names names2 ts rest t xs ys (k, enough, l) c e n shorter y = by k enough l
    where
      by : (k : ℕ) → length ts ≤ k → Left whole xs (externals_behind d r k names ts) → IsExternals d r whole names2 rest ys
      by zero enough l = absurd (omega (arith, enough, shorter))
      by (suc k) enough l =
          let read : Left whole (xs ++ (t ∷ [])) (externals_behind d r k (after names t) rest)
          = left_more whole xs _ (externals_behind d r k (after names t) rest) t (externals_on (suc k) whole names ts xs l c) (externals_found k names ts rest t e) in
          (k, omega (arith, enough, shorter), rw (y, n) read)

  pub externals_stops : (whole : Answer Forest) (names : Names) (ts rest : List Token) (xs : List Tree) (s : Stop)
      → IsExternals d r whole names ts xs → 1 ≤ length ts → Stops (external_in d r names ts) rest s → Stops whole rest s
  externals_stops whole names ts rest xs s (k, enough, l) c h = by k enough l
    where
      by : (k : ℕ) → length ts ≤ k → Left whole xs (externals_behind d r k names ts) → Stops whole rest s
      by zero enough l = absurd (omega (arith, enough, c))
      by (suc k) enough l = left_stop whole xs _ rest s (externals_on (suc k) whole names ts xs l c) (externals_first_stops k names ts rest s h)

  pub externals_end : (whole : Answer Forest) (names : Names) (ts : List Token) (xs : List Tree)
      → IsExternals d r whole names ts xs → ts ≡ [] → whole ≡ found (forest_of xs) ts
  externals_end whole names ts xs (k, enough, l) e = left_end whole xs (externals_behind d r k names ts) ts l (rw e refl)

-- ---- what loops have read

module _ (d : ℕ) (r : Reader) (names0 : Names) (whole : Answer Forest) (under : List Tree) (budget most : ℕ) where
  pub item_row_start : (p : Parser) → whole ≡ items_in d r (suc (length p.rest.now)) p.names p.rest.now → p.names ≡ names0 → stack_of p.trees ≡ under → length p.rest.now < most
      → IsItemRow d r whole names0 under budget most p 0
  item_row_start p shape n stack shorter = record {
    trees = [];
    items_are = subst (λ (w : Answer Forest). IsItems d r w p.names p.rest.now []) (sym shape) (items_start d r p.names p.rest.now);
    is_read = record { names_are = n ∙ sym (add_nothing names0); pushed = record { stack_is = stack; height_is = refl } };
    low = omega arith;
    shorter = shorter;
  }

  module _ (p : Parser) (high : ℕ) (so_far : IsItemRow d r whole names0 under budget most p high) where
    module _ (more : begins_with_mark RightBrace p.rest.now ≡ false) where
      pub item_row_stops : (rest : List Token) (s : Stop) → Stops (one_item d r p.names p.rest.now) rest s → Stops whole rest s
      item_row_stops rest s h = items_stops d r whole p.names p.rest.now rest so_far.trees s so_far.items_are more h

      pub item_row_next : (says : Tree → Type 0) (q : Parser) (part : Part) → Reads (one_item d r p.names p.rest.now) (after p.names) says (stack_of p.trees) budget (length p.rest.now) q part
          → (high2 : ℕ) → high2 ≡ max part.height high → IsItemRow d r whole names0 under budget most q high2
      item_row_next says q part next high2 e =
          let t = next.tree in
          let xs = so_far.trees in
          let e2 : high2 ≡ max high part.height = omega (arith, e) in
          record {
            trees = xs ++ (t ∷ []);
            items_are = items_next d r whole p.names q.names p.rest.now q.rest.now t xs (xs ++ (t ∷ [])) so_far.items_are more next.found_is next.read.names_are next.shorter refl;
            is_read = record {
              names_are = names_more q.names names0 p.names xs t so_far.is_read.names_are next.read.names_are;
              pushed = same_height _ _ _ _ high2 e2 (more_trees xs t under (stack_of p.trees) (stack_of q.trees) high part so_far.is_read.pushed next.read.pushed);
            };
            low = let a = so_far.low in let b = next.low in omega (arith, a, b, e);
            shorter = let a = so_far.shorter in let b = next.shorter in omega (arith, a, b);
          }

    pub item_row_end : (says : List Tree → Type 0) → begins_with_mark RightBrace p.rest.now ≡ true → says so_far.trees → ReadsAll whole (behind_all names0) says under budget most p high
    item_row_end says brace s = record {
      trees = so_far.trees;
      found_is = items_end d r whole p.names p.rest.now so_far.trees so_far.items_are brace;
      read = so_far.is_read;
      said = s;
      low = so_far.low;
      shorter = so_far.shorter;
    }

first_start_more : (xs : List Tree) (t : Tree) → 1 ≤ length xs → first_start (forest_of (xs ++ (t ∷ []))) ≡ first_start (forest_of xs)
first_start_more [] t some = absurd (omega (arith, some))
first_start_more (x ∷ xs) t some = refl

module _ (d : ℕ) (r : Reader) (whole : Answer Forest) (under : List Tree) (budget start : ℕ) where
  pub external_row_first : (p : Parser) → whole ≡ externals_in d r (suc (length p.rest.now)) p.names p.rest.now → stack_of p.trees ≡ under → (says : Tree → Type 0) (q : Parser) (part : Part)
      → Reads (external_in d r p.names p.rest.now) (after p.names) says (stack_of p.trees) budget (length p.rest.now) q part → start ≡ part.start
      → IsExternalRow d r whole under budget start q part.height
  external_row_first p shape stack says q part first e =
      let t = first.tree in
      let short = first.shorter in
      record {
        trees = t ∷ [];
        externals_are = subst (λ (w : Answer Forest). IsExternals d r w q.names q.rest.now (t ∷ [])) (sym shape)
            (externals_first d r p.names q.names p.rest.now q.rest.now t (t ∷ []) first.found_is first.read.names_are (omega (arith, short)) refl);
        pushed = subst (λ us. ArePushed (t ∷ []) us (stack_of q.trees) part.height) stack (alone t (stack_of p.trees) (stack_of q.trees) part first.read.pushed);
        some = omega arith;
        start_is = e ∙ first.read.pushed.start_is;
        low = first.low;
      }

  module _ (p : Parser) (high : ℕ) (so_far : IsExternalRow d r whole under budget start p high) where
    pub external_row_stops : 1 ≤ length p.rest.now → (rest : List Token) (s : Stop) → Stops (external_in d r p.names p.rest.now) rest s → Stops whole rest s
    external_row_stops more rest s h = externals_stops d r whole p.names p.rest.now rest so_far.trees s so_far.externals_are more h

    pub external_row_next : 1 ≤ length p.rest.now → (says : Tree → Type 0) (q : Parser) (part : Part)
        → Reads (external_in d r p.names p.rest.now) (after p.names) says (stack_of p.trees) budget (length p.rest.now) q part → (high2 : ℕ) → high2 ≡ max high part.height
        → IsExternalRow d r whole under budget start q high2
    external_row_next more says q part next high2 e =
        let t = next.tree in
        let xs = so_far.trees in
        record {
          trees = xs ++ (t ∷ []);
          externals_are = externals_next d r whole p.names q.names p.rest.now q.rest.now t xs (xs ++ (t ∷ [])) so_far.externals_are more next.found_is next.read.names_are next.shorter refl;
          pushed = same_height _ _ _ _ high2 e (more_trees xs t under (stack_of p.trees) (stack_of q.trees) high part so_far.pushed next.read.pushed);
          some = let a = length-append xs (t ∷ []) in omega (arith, a);
          start_is = so_far.start_is ∙ sym (first_start_more xs t so_far.some);
          low = let a = so_far.low in let b = next.low in omega (arith, a, b, e);
        }

    pub external_row_end : p.rest.now ≡ [] → whole ≡ found (forest_of so_far.trees) p.rest.now
    external_row_end e = externals_end d r whole p.names p.rest.now so_far.trees so_far.externals_are e
