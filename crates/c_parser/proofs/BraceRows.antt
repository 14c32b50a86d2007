-- What a loop has read of a row with commas, of which one may stand before the brace at the end.
use Rattle.std.proofs.Common.{◌≡◌, ℕ, ◌<◌, ◌≤◌, suc, true, false, List, [], ◌∷◌, ◌++◌, length, max, refl, sym, ap, ◌∙◌, subst, arith}
use Rattle.std.specs.Prelude.{⊤}
use Rattle.c_lexer.specs.declared.token.Punct.TheVariants.{Comma, RightBrace}
use Rattle.c_lexer.specs.declared.token.Token.{Token}
use Rattle.c_syntax.specs.Trees.{Tree, Forest}
use Rattle.c_syntax.specs.Tables.{stack_of}
use Rattle.c_grammar.specs.Scopes.{Names, after}
use Rattle.c_grammar.specs.Answers.{Answer}
use Rattle.c_grammar.specs.Reading.{Reader, begins_with_mark, behind_one, listed_in_braces}
use Rattle.c_parts.specs.declared.budget.Stop.{Stop}
use Rattle.c_parts.specs.declared.part.Part.{Part}
use Rattle.c_parts.proofs.PushLaws.{alone, more_trees, same_height}
use Rattle.c_parser.specs.declared.parser.Parser.{Parser}
use Rattle.c_parser.specs.Gives.{Stops, Reads, ReadsAll, AreRead, Keeps, behind_all}
use Rattle.c_parser.proofs.Made.{trees_on}
use Rattle.c_parser.proofs.Stopping.{stops_same}
use Rattle.c_parser.proofs.Rows.{names_more, names_first}
use Rattle.c_parser.proofs.CommaRows.{IsListedInBraces, comma_shorter, braces_first, braces_first_stops, braces_next, braces_stops, braces_end, braces_end_comma}

pub record IsListingInBraces (d : ℕ) (r : Reader) (item : Names → List Token → Answer Tree) (whole : Answer Forest) (names0 : Names) (under : List Tree) (budget most : ℕ) (p : Parser) (high : ℕ) : Type 0 where
  pub trees : List Tree
  pub listed_is : IsListedInBraces d r item whole p.names p.rest.now trees
  pub is_read : AreRead (behind_all names0) trees under p high
  pub low : high ≤ budget
  pub shorter : length p.rest.now < most

module _ (d : ℕ) (r : Reader) (item : Names → List Token → Answer Tree) (whole : Answer Forest) (names0 : Names) (under : List Tree) (budget most : ℕ) where
  pub in_braces_first : (ts : List Token) → whole ≡ listed_in_braces d r item (suc (length ts)) names0 ts → (says : Tree → Type 0) (p : Parser) (part : Part)
      → Reads (item names0 ts) (after names0) says under budget (length ts) p part → length ts ≤ most → IsListingInBraces d r item whole names0 under budget most p part.height
  in_braces_first ts shape says p part first enough =
      let t = first.tree in
      let short = first.shorter in
      let all = braces_first d r item names0 p.names ts p.rest.now t (t ∷ []) first.found_is first.read.names_are (omega (arith, short)) refl in
      record {
        trees = t ∷ [];
        listed_is = subst (λ (w : Answer Forest). IsListedInBraces d r item w p.names p.rest.now (t ∷ [])) (sym shape) all;
        is_read = record { names_are = names_first p.names names0 (t ∷ []) t first.read.names_are refl; pushed = alone t under (stack_of p.trees) part first.read.pushed };
        low = first.low;
        shorter = omega (arith, short, enough);
      }

  pub in_braces_first_stops : (ts rest : List Token) (s : Stop) → whole ≡ listed_in_braces d r item (suc (length ts)) names0 ts → Stops (item names0 ts) rest s → Stops whole rest s
  in_braces_first_stops ts rest s shape h = stops_same _ whole rest s shape (braces_first_stops d r item (length ts) names0 ts rest s h)

  module _ (p : Parser) (high : ℕ) (so_far : IsListingInBraces d r item whole names0 under budget most p high) where
    pub in_braces_end : begins_with_mark Comma p.rest.now ≡ false → ReadsAll whole (behind_all names0) (λ ts. ⊤) under budget most p high
    in_braces_end no_comma = record {
      trees = so_far.trees;
      found_is = braces_end d r item whole p.names p.rest.now so_far.trees so_far.listed_is no_comma;
      read = so_far.is_read;
      said = tt;
      low = so_far.low;
      shorter = so_far.shorter;
    }

    module _ (comma : begins_with_mark Comma p.rest.now ≡ true) (a : Parser) (kept : Keeps p a) (mid : a.rest.now ≡ behind_one p.rest.now) where
      -- a comma, and the brace
      pub in_braces_end_comma : begins_with_mark RightBrace a.rest.now ≡ true → ReadsAll whole (behind_all names0) (λ ts. ⊤) under budget most a high
      in_braces_end_comma brace = record {
        trees = so_far.trees;
        found_is = braces_end_comma d r item whole p.names p.rest.now a.rest.now so_far.trees so_far.listed_is comma mid brace;
        read = record { names_are = kept.names_are ∙ so_far.is_read.names_are; pushed = trees_on so_far.trees under high p a kept so_far.is_read.pushed };
        said = tt;
        low = so_far.low;
        shorter = let s = so_far.shorter in let b = comma_shorter p.rest.now comma in let e = ap length mid in omega (arith, s, b, e);
      }

      module _ (no_brace : begins_with_mark RightBrace a.rest.now ≡ false) where
        pub in_braces_stops : (rest : List Token) (s : Stop) → Stops (item a.names a.rest.now) rest s → Stops whole rest s
        in_braces_stops rest s h = braces_stops d r item whole p.names p.rest.now a.rest.now rest so_far.trees s so_far.listed_is comma mid no_brace
            (stops_same _ _ rest s (ap (λ (n : Names). item n a.rest.now) (sym kept.names_are)) h)

        module _ (says : Tree → Type 0) (q : Parser) (part : Part) (more : Reads (item a.names a.rest.now) (after a.names) says (stack_of a.trees) budget (length a.rest.now) q part) where
          pub in_braces_smaller : length q.rest.now < length p.rest.now
          in_braces_smaller = let s = more.shorter in let b = comma_shorter p.rest.now comma in let e = ap length mid in omega (arith, s, b, e)

          pub in_braces_next : (high2 : ℕ) → high2 ≡ max high part.height → IsListingInBraces d r item whole names0 under budget most q high2
          in_braces_next high2 e =
              let t = more.tree in
              let xs = so_far.trees in
              let short = more.shorter in
              let names = more.read.names_are ∙ ap (λ (n : Names). after n t) kept.names_are in
              record {
                trees = xs ++ (t ∷ []);
                listed_is = braces_next d r item whole p.names q.names p.rest.now a.rest.now q.rest.now t xs (xs ++ (t ∷ [])) so_far.listed_is comma mid no_brace
                    (ap (λ (n : Names). item n a.rest.now) (sym kept.names_are) ∙ more.found_is) names (omega (arith, short)) refl;
                is_read = record {
                  names_are = names_more q.names names0 p.names xs t so_far.is_read.names_are names;
                  pushed = same_height _ _ _ _ high2 e (more_trees xs t under (stack_of a.trees) (stack_of q.trees) high part (trees_on xs under high p a kept so_far.is_read.pushed) more.read.pushed);
                };
                low = let a = so_far.low in let b = more.low in omega (arith, a, b, e);
                shorter = let a = so_far.shorter in let b = in_braces_smaller in omega (arith, a, b);
              }
