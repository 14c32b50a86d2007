-- What a call gave, handed on as the answer of its caller.
use Rattle.std.proofs.Common.{◌≡◌, ℕ, ◌≤◌, List, length, Result, Ok, Err, sym, ap, ◌∙◌, subst, arith}
use Rattle.c_syntax.specs.Trees.{Tree, Forest}
use Rattle.c_syntax.specs.Tables.{stack_of}
use Rattle.c_grammar.specs.Answers.{Answer}
use Rattle.c_grammar.specs.Reading.{behind_one}
use Rattle.c_grammar.specs.Scopes.{Names, after}
use Rattle.c_parts.specs.declared.budget.Stop.{Stop}
use Rattle.c_parts.specs.declared.part.Part.{Part}
use Rattle.c_parser.specs.declared.parser.Parser.{Parser}
use Rattle.c_parser.specs.Gives.{Gives, GivesRow, AreRead, Keeps, behind_all}
use Rattle.c_parser.proofs.Made.{read_from, trees_on}
use Rattle.c_parser.proofs.Stopping.{stops_same}
use Rattle.c_parser.proofs.Tokens.{behind_one_shorter}

-- the same reading by another name, within a greater budget, with more tokens before it
pub gives_more : {T : Type 0} (part : T → Part) (says : Tree → T → Type 0) (e f : Answer Tree) (next : Tree → Names) (under : List Tree) (budget budget2 most most2 : ℕ) (new : Parser) (r : Result T Stop)
    → f ≡ e → budget ≤ budget2 → most ≤ most2 → Gives part says e next under budget most new r → Gives part says f next under budget2 most2 new r
gives_more part says e f next under budget budget2 most most2 new (Ok x) same b m g = record {
  tree = g.tree;
  found_is = same ∙ g.found_is;
  read = g.read;
  said = g.said;
  low = let l = g.low in omega (arith, l, b);
  shorter = let s = g.shorter in omega (arith, s, m);
}
gives_more part says e f next under budget budget2 most most2 new (Err s) same b m g = stops_same e f new.rest.now s same g

-- from behind tokens
pub gives_kept : {T : Type 0} (part : T → Part) (says : Tree → T → Type 0) (e f : Answer Tree) (budget : ℕ) (p q new : Parser) (r : Result T Stop)
    → Keeps p q → length q.rest.now ≤ length p.rest.now → f ≡ e → Gives part says e (after q.names) (stack_of q.trees) budget (length q.rest.now) new r
    → Gives part says f (after p.names) (stack_of p.trees) budget (length p.rest.now) new r
gives_kept part says e f budget p q new (Ok x) kept fewer same g =
    let moved = read_from e (λ t. says t x) budget (length q.rest.now) p q new (part x) kept g in
    record {
      tree = moved.tree;
      found_is = same ∙ moved.found_is;
      read = moved.read;
      said = moved.said;
      low = moved.low;
      shorter = let s = moved.shorter in omega (arith, s, fewer);
    }
gives_kept part says e f budget p q new (Err s) kept fewer same g = stops_same e f new.rest.now s same g

-- from behind a first token
pub gives_behind : {T : Type 0} (part : T → Part) (says : Tree → T → Type 0) (e f : Answer Tree) (budget : ℕ) (p q new : Parser) (r : Result T Stop)
    → Keeps p q → q.rest.now ≡ behind_one p.rest.now → f ≡ e → Gives part says e (after q.names) (stack_of q.trees) budget (length q.rest.now) new r
    → Gives part says f (after p.names) (stack_of p.trees) budget (length p.rest.now) new r
gives_behind part says e f budget p q new r kept mid same g =
    gives_kept part says e f budget p q new r kept (let a = behind_one_shorter p.rest.now in let b = ap length mid in omega (arith, a, b)) same g

-- a row behind which only the place changed
pub row_on : (names : Names) (ts under : List Tree) (p q : Parser) (high : ℕ) → Keeps p q → AreRead (behind_all names) ts under p high → AreRead (behind_all names) ts under q high
row_on names ts under p q high kept row = record { names_are = kept.names_are ∙ row.names_are; pushed = trees_on ts under high p q kept row.pushed }

-- the same row by another name
pub row_same : {T : Type 0} (high : T → ℕ) (says : List Tree → T → Type 0) (e f : Answer Forest) (next : Forest → Names) (under : List Tree) (budget most : ℕ) (p : Parser) (r : Result T Stop)
    → f ≡ e → GivesRow high says e next under budget most p r → GivesRow high says f next under budget most p r
row_same high says e f next under budget most p r same h = subst (λ x. GivesRow high says x next under budget most p r) (sym same) h
