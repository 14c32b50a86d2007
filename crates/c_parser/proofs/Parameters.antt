-- Parameters, and what they declare in their own scope.
use Rattle.std.proofs.Common.{◌≡◌, ℕ, suc, ◌<◌, ◌≤◌, true, false, List, [], ◌∷◌, ◌++◌, length, max, refl, sym, ap, ◌∙◌, subst, append_assoc, arith}
use Rattle.std.proofs.lemmas.List.{append-nil}
use Rattle.c_lexer.specs.declared.token.Token.{Token}
use Rattle.c_lexer.specs.declared.token.Punct.TheVariants.{Comma}
use Rattle.c_syntax.specs.declared.kind.SynKind.TheVariants as kind
use Rattle.c_syntax.specs.Trees.{Tree, Forest, ◌then◌, one, two, forest_of, plain_node}
use Rattle.c_syntax.specs.Tables.{stack_of}
use Rattle.c_grammar.specs.Scopes.{Names, Entry, add, after, after_parameter, entries_by, entries_behind, first_entries, later_entries, declares_types, parameter_entries, entry, name_of}
use Rattle.c_grammar.specs.Answers.{Answer}
use Rattle.c_grammar.specs.Reading.{Reader, begins_with_mark, behind_one, listed, parameter_in}
use Rattle.c_parts.specs.declared.budget.Stop.{Stop}
use Rattle.c_parts.specs.declared.part.Part.{Part}
use Rattle.c_parts.proofs.NameLaws.{add_joined, entries_more, entries_then}
use Rattle.c_parts.proofs.PushLaws.{alone, more_trees, same_height}
use Rattle.c_parser.specs.declared.parser.Parser.{Parser}
use Rattle.c_parser.specs.Gives.{Stops, Reads, ReadsAll, AreRead, Keeps}
use Rattle.c_parser.proofs.CommaRows.{IsListed, comma_shorter, listed_first, listed_next, listed_stops, listed_end}
use Rattle.c_parser.proofs.Made.{trees_on}
use Rattle.c_parser.proofs.Stopping.{stops_same}

entries_first : (t : Tree) (ts : Forest) → parameter_entries (t then ts) ≡ parameter_entries (one t) ++ parameter_entries ts
entries_first t ts = ap (λ (x : List Entry). x ++ parameter_entries ts) (sym (append-nil _))

parameter_entries_more : (xs : List Tree) (t : Tree)
    → parameter_entries (forest_of (xs ++ (t ∷ []))) ≡ parameter_entries (forest_of xs) ++ parameter_entries (one t)
parameter_entries_more [] t = refl
parameter_entries_more (s ∷ xs) t =
    entries_first s (forest_of (xs ++ (t ∷ [])))
    ∙ ap (λ (x : List Entry). parameter_entries (one s) ++ x) (parameter_entries_more xs t)
    ∙ sym (append_assoc (parameter_entries (one s)) _ _)
    ∙ ap (λ (x : List Entry). x ++ parameter_entries (one t)) (sym (entries_first s (forest_of xs)))

-- the names behind a row of parameters, by one more
parameters_more : (names names0 before_it : Names) (xs : List Tree) (t : Tree)
    → before_it ≡ add names0 (parameter_entries (forest_of xs))
    → names ≡ after_parameter before_it t
    → names ≡ add names0 (parameter_entries (forest_of (xs ++ (t ∷ []))))
parameters_more names names0 before_it xs t e f =
    f ∙ ap (λ (n : Names). after_parameter n t) e ∙ add_joined names0 (parameter_entries (forest_of xs)) (parameter_entries (one t))
    ∙ ap (add names0) (sym (parameter_entries_more xs t))

parameter_silent : (t : Tree) → t.label.kind ≡ kind.Param → entries_behind false (one t) ≡ []
parameter_silent t e = ap (λ k. entries_by k t.label.text false t.kids (first_entries (declares_types k t.kids) t.kids) (later_entries (declares_types k t.kids) t.kids) ++ []) e

-- parameters declare nothing around their own scope
parameters_silent : (xs : List Tree) (t : Tree) → entries_behind false (forest_of xs) ≡ [] → t.label.kind ≡ kind.Param
    → entries_behind false (forest_of (xs ++ (t ∷ []))) ≡ []
parameters_silent xs t e k = entries_more false xs t ∙ ap (λ (a : List Entry). a ++ entries_behind false (one t)) e ∙ parameter_silent t k

-- the names behind a parameter, whose declarator has this name
pub parameter_names : (names : Names) (s x : Tree) (name : List ℕ) (start : ℕ) → name ≡ name_of (one x)
    → add (after (after names s) x) (entry name false) ≡ after_parameter names (plain_node kind.Param start (two s x))
parameter_names names s x name start e =
    ap (λ n. add (after (after names s) x) (entry n false)) e
    ∙ ap (λ (n : Names). add n (entry (name_of (one x)) false)) (add_joined names (entries_behind false (one s)) (entries_behind false (one x)))
    ∙ add_joined names (entries_behind false (one s) ++ entries_behind false (one x)) (entry (name_of (one x)) false)
    ∙ ap (λ (a : List Entry). add names (a ++ entry (name_of (one x)) false)) (sym (entries_then false s (one x)))
    ∙ ap (add names) (sym (append-nil _))

-- ---- what a loop has read of them

pub record IsReadingParameters (d : ℕ) (r : Reader) (whole : Answer Forest) (names0 : Names) (under : List Tree) (budget most : ℕ) (p : Parser) (high : ℕ) : Type 0 where
  pub trees : List Tree
  pub listed_is : IsListed d r (parameter_in d r) after_parameter whole p.names p.rest.now trees
  pub is_read : AreRead (λ ts. add names0 (parameter_entries ts)) trees under p high
  pub silent : entries_behind false (forest_of trees) ≡ []
  pub low : high ≤ budget
  pub shorter : length p.rest.now < most

module _ (d : ℕ) (r : Reader) (whole : Answer Forest) (names0 : Names) (under : List Tree) (budget most : ℕ) where
  pub reading_parameters_first : (ts : List Token) → whole ≡ listed d r (parameter_in d r) after_parameter (suc (length ts)) names0 ts → (p : Parser) (part : Part)
      → Reads (parameter_in d r names0 ts) (after_parameter names0) (λ t. t.label.kind ≡ kind.Param) under budget (length ts) p part → length ts ≤ most
      → IsReadingParameters d r whole names0 under budget most p part.height
  reading_parameters_first ts shape p part first enough =
      let t = first.tree in
      let short = first.shorter in
      let all = listed_first d r (parameter_in d r) after_parameter names0 p.names ts p.rest.now t (t ∷ []) first.found_is first.read.names_are (omega (arith, short)) refl in
      record {
        trees = t ∷ [];
        listed_is = subst (λ (w : Answer Forest). IsListed d r (parameter_in d r) after_parameter w p.names p.rest.now (t ∷ [])) (sym shape) all;
        is_read = record { names_are = first.read.names_are; pushed = alone t under (stack_of p.trees) part first.read.pushed };
        silent = parameter_silent t first.said;
        low = first.low;
        shorter = omega (arith, short, enough);
      }

  module _ (p : Parser) (high : ℕ) (so_far : IsReadingParameters d r whole names0 under budget most p high) where
    pub reading_parameters_end : begins_with_mark Comma p.rest.now ≡ false
        → ReadsAll whole (λ ts. add names0 (parameter_entries ts)) (λ ts. entries_behind false (forest_of ts) ≡ []) under budget most p high
    reading_parameters_end no_comma = record {
      trees = so_far.trees;
      found_is = listed_end d r (parameter_in d r) after_parameter whole p.names p.rest.now so_far.trees so_far.listed_is no_comma;
      read = so_far.is_read;
      said = so_far.silent;
      low = so_far.low;
      shorter = so_far.shorter;
    }

    module _ (comma : begins_with_mark Comma p.rest.now ≡ true) (a : Parser) (kept : Keeps p a) (mid : a.rest.now ≡ behind_one p.rest.now) where
      pub reading_parameters_stops : (rest : List Token) (s : Stop) → Stops (parameter_in d r a.names a.rest.now) rest s → Stops whole rest s
      reading_parameters_stops rest s h = listed_stops d r (parameter_in d r) after_parameter whole p.names p.rest.now a.rest.now rest so_far.trees s so_far.listed_is comma mid
          (stops_same _ _ rest s (ap (λ (n : Names). parameter_in d r n a.rest.now) (sym kept.names_are)) h)

      module _ (q : Parser) (part : Part) (more : Reads (parameter_in d r a.names a.rest.now) (after_parameter a.names) (λ t. t.label.kind ≡ kind.Param) (stack_of a.trees) budget (length a.rest.now) q part) where
        pub reading_parameters_smaller : length q.rest.now < length p.rest.now
        reading_parameters_smaller = let s = more.shorter in let b = comma_shorter p.rest.now comma in let e = ap length mid in omega (arith, s, b, e)

        pub reading_parameters_next : (high2 : ℕ) → high2 ≡ max high part.height → IsReadingParameters d r whole names0 under budget most q high2
        reading_parameters_next high2 e =
            let t = more.tree in
            let xs = so_far.trees in
            let short = more.shorter in
            let names = more.read.names_are ∙ ap (λ (n : Names). after_parameter n t) kept.names_are in
            record {
              trees = xs ++ (t ∷ []);
              listed_is = listed_next d r (parameter_in d r) after_parameter whole p.names q.names p.rest.now a.rest.now q.rest.now t xs (xs ++ (t ∷ [])) so_far.listed_is comma mid
                  (ap (λ (n : Names). parameter_in d r n a.rest.now) (sym kept.names_are) ∙ more.found_is) names (omega (arith, short)) refl;
              is_read = record {
                names_are = parameters_more q.names names0 p.names xs t so_far.is_read.names_are names;
                pushed = same_height _ _ _ _ high2 e (more_trees xs t under (stack_of a.trees) (stack_of q.trees) high part (trees_on xs under high p a kept so_far.is_read.pushed) more.read.pushed);
              };
              silent = parameters_silent xs t so_far.silent more.said;
              low = let a = so_far.low in let b = more.low in omega (arith, a, b, e);
              shorter = let a = so_far.shorter in let b = reading_parameters_smaller in omega (arith, a, b);
            }
