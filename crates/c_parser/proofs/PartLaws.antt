-- Parts within the next lower budget, the marks behind them, and what a call gives seen from before it.
use Rattle.std.proofs.Common.{◌≡◌, ℕ, ◌≤◌, List, Result, Ok, Err, ap, ap₂, sym, ◌∙◌, arith}
use Rattle.c_lexer.specs.declared.token.Token.{Token}
use Rattle.c_lexer.specs.declared.token.Punct.{Punct}
use Rattle.c_syntax.specs.Trees.{Tree, Forest}
use Rattle.c_syntax.specs.Tables.{stack_of}
use Rattle.c_grammar.specs.Answers.{Answer, found, and_then, expect}
use Rattle.c_grammar.specs.Scopes.{Names, after}
use Rattle.c_grammar.specs.Reading.{Reader, Goal, Rows, below, level, goal_in, rows_in, begins_with_mark}
use Rattle.c_parts.specs.declared.budget.Stop.{Stop}
use Rattle.c_parts.specs.declared.part.Part.{Part}
use Rattle.c_parser.specs.declared.parser.Parser.{Parser}
use Rattle.c_parser.specs.Gives.{Gives, Stops, Keeps, Passes, Balks}
use Rattle.c_parser.proofs.Stopping.{stops_same, stops_before, found_before, passed, balked}
use Rattle.c_parser.proofs.Made.{read_from}

-- ---- a part at the place of a parser

module _ (r : Reader) (lower : ℕ) (level_is : r ≡ level lower (below lower)) (names : Names) (ts : List Token) (here : Parser) (n : here.names ≡ names) (m : here.rest.now ≡ ts) where
  module _ (g : Goal) where
    part_here : r.tree_of g names ts ≡ goal_in lower (below lower) g here.names here.rest.now
    unfolding level
    part_here = ap (λ (q : Reader). q.tree_of g names ts) level_is ∙ ap₂ (goal_in lower (below lower) g) (sym n) (sym m)

    -- what goes on behind it
    module _ (whole : Answer Tree) (go : Tree → List Token → Answer Tree) (shape : whole ≡ and_then (r.tree_of g names ts) go) where
      pub operand_stops : (rest : List Token) (s : Stop) → Stops (goal_in lower (below lower) g here.names here.rest.now) rest s → Stops whole rest s
      operand_stops rest s h = stops_before whole _ go rest s shape (stops_same _ _ rest s part_here h)

      pub operand_found : (t : Tree) (rest : List Token) → goal_in lower (below lower) g here.names here.rest.now ≡ found t rest → whole ≡ go t rest
      operand_found t rest e = found_before whole _ go t rest shape (part_here ∙ e)

    -- a mark behind it, and what goes on behind both
    module _ (whole : Answer Tree) (mark : Punct) (go : Tree → List Token → Answer Tree) (shape : whole ≡ and_then (r.tree_of g names ts) (λ t behind. expect mark behind (go t)))
        (t : Tree) (behind new : Parser) (e : goal_in lower (below lower) g here.names here.rest.now ≡ found t behind.rest.now) where
      pub closed_open : (s : Stop) → Balks (begins_with_mark mark behind.rest.now) behind new s → Stops whole new.rest.now s
      closed_open s h = stops_same _ _ new.rest.now s (operand_found whole (λ t behind. expect mark behind (go t)) shape t behind.rest.now e) (balked mark behind new (go t) s h)

      pub closed_found : Passes (begins_with_mark mark behind.rest.now) behind new → whole ≡ go t new.rest.now
      closed_found h = operand_found whole (λ t behind. expect mark behind (go t)) shape t behind.rest.now e ∙ passed mark behind new (go t) h

  -- the same of parts in order
  module _ (row : Rows) where
    row_here : r.trees_of row names ts ≡ rows_in lower (below lower) row here.names here.rest.now
    unfolding level
    row_here = ap (λ (q : Reader). q.trees_of row names ts) level_is ∙ ap₂ (rows_in lower (below lower) row) (sym n) (sym m)

    module _ (whole : Answer Tree) (mark : Punct) (go : Forest → List Token → Answer Tree) (shape : whole ≡ and_then (r.trees_of row names ts) (λ t behind. expect mark behind (go t))) where
      pub closed_row_stops : (rest : List Token) (s : Stop) → Stops (rows_in lower (below lower) row here.names here.rest.now) rest s → Stops whole rest s
      closed_row_stops rest s h = stops_before whole _ (λ t behind. expect mark behind (go t)) rest s shape (stops_same _ _ rest s row_here h)

      module _ (f : Forest) (behind new : Parser) (e : rows_in lower (below lower) row here.names here.rest.now ≡ found f behind.rest.now) where
        row_before : whole ≡ expect mark behind.rest.now (go f)
        row_before = found_before whole _ (λ t behind. expect mark behind (go t)) f behind.rest.now shape (row_here ∙ e)

        pub closed_row_open : (s : Stop) → Balks (begins_with_mark mark behind.rest.now) behind new s → Stops whole new.rest.now s
        closed_row_open s h = stops_same _ _ new.rest.now s row_before (balked mark behind new (go f) s h)

        pub closed_row_found : Passes (begins_with_mark mark behind.rest.now) behind new → whole ≡ go f new.rest.now
        closed_row_found h = row_before ∙ passed mark behind new (go f) h

-- ---- what a call gives

-- the same reading by another name, where more tokens may be left
pub gives_wider : {T : Type 0} (part : T → Part) (says says2 : Tree → T → Type 0) (e f : Answer Tree) (next : Tree → Names) (under : List Tree) (budget budget2 most most2 : ℕ) (p : Parser)
    (r : Result T Stop) → f ≡ e → budget ≤ budget2 → most ≤ most2 → ((t : Tree) (x : T) → says t x → says2 t x)
    → Gives part says e next under budget most p r → Gives part says2 f next under budget2 most2 p r
gives_wider part says says2 e f next under budget budget2 most most2 p (Ok x) same b m say h = record {
  tree = h.tree;
  found_is = same ∙ h.found_is;
  read = h.read;
  said = say h.tree x h.said;
  low = let l = h.low in omega (arith, l, b);
  shorter = let l = h.shorter in omega (arith, l, m);
}
gives_wider part says says2 e f next under budget budget2 most most2 p (Err stop) same b m say h = stops_same e f p.rest.now stop same h

-- what is given from a kept state on is given from the state before
pub gives_from : {T : Type 0} (part : T → Part) (says : Tree → T → Type 0) (e f : Answer Tree) (budget budget2 most most2 : ℕ) (p q now : Parser) (r : Result T Stop)
    → Keeps p q → f ≡ e → budget ≤ budget2 → most ≤ most2
    → Gives part says e (after q.names) (stack_of q.trees) budget most now r → Gives part says f (after p.names) (stack_of p.trees) budget2 most2 now r
gives_from part says e f budget budget2 most most2 p q now r kept same b m h =
    gives_wider part says says e f (after p.names) (stack_of p.trees) budget budget2 most most2 now r same b m (λ t x s. s) (before r h)
  where
    before : (r : Result _ Stop) → Gives part says e (after q.names) (stack_of q.trees) budget most now r → Gives part says e (after p.names) (stack_of p.trees) budget most now r
    before (Ok x) h = read_from e (λ t. says t x) budget most p q now (part x) kept h
    before (Err stop) h = h
