-- Parts that stand between tokens, and statements by their parts.
use Rattle.std.proofs.Common.{◌≡◌, ◌≢◌, ℕ, zero, suc, ◌<◌, ◌≤◌, Bool, true, false, List, [], map, drop, length, Result, Ok, Err, IsErr, IsErrAnd, refl, sym, ap, ◌∙◌, subst, arith}
use Rattle.c_lexer.specs.declared.token.Token.{Token}
use Rattle.c_lexer.specs.declared.token.Punct.{Punct}
use Rattle.c_syntax.specs.declared.kind.SynKind.{SynKind}
use Rattle.c_syntax.specs.Trees.{Tree, Forest, none, one, plain_node}
use Rattle.c_syntax.specs.Tables.{stack_of}
use Rattle.c_grammar.specs.Scopes.{Names, Entry, add, after, entries, opened, parameter_entries, parameters_of}
use Rattle.c_grammar.specs.Derivation.{ends_open}
use Rattle.c_grammar.specs.Answers.{Answer, found, and_then, fit, expect}
use Rattle.c_grammar.specs.Reading.{Reader, Rows, below, level, behind_one, begins_with_mark, rows_in}
use Rattle.c_parts.specs.declared.budget.Stop.{Stop}
use Rattle.c_parts.specs.declared.budget.Stop.TheVariants.{Deep, OutOfMemory}
use Rattle.c_parts.specs.declared.part.Part.{Part}
use Rattle.c_parts.specs.declared.declarator.Declarator.{Declarator}
use Rattle.c_scopes.specs.ScopeLog.{entry_of}
use Rattle.c_parts.specs.declared.part.Statement.{Statement}
use Rattle.c_parts.specs.Pushed.{IsPushed, IsBelow}
use Rattle.c_parts.specs.Nodes.{declares_nothing}
use Rattle.c_parts.proofs.NameLaws.{after_none, add_nothing}
use Rattle.c_parts.specs.Says.{IsStatement}
use Rattle.c_parser.specs.declared.parser.Parser.{Parser}
use Rattle.c_parser.specs.Gives.{Gives, Reads, IsRead, AreRead, IsDeclared, Keeps, behind_all, Stops, Balks, itself}
use Rattle.c_parser.proofs.Stopping.{entered, balked, stops_same, gives_stop, whole_barred}
use Rattle.c_parser.proofs.NamesBehind.{drop_add}
use Rattle.c_parser.proofs.Made.{made, pushed_on, pushed_leaf, trees_on, read_on}

-- ---- stops

pub memory_stop : {T : Type 0} (x : Answer T) (rest : List Token) (s : Stop) → s ≡ OutOfMemory → Stops x rest s
memory_stop x rest s e = subst (Stops x rest) (sym e) tt

pub mark_stops : {U : Type 0} (whole : Answer U) (mark : Punct) (old new : Parser) (go : List Token → Answer U) (s : Stop) → whole ≡ expect mark old.rest.now go
    → Balks (begins_with_mark mark old.rest.now) old new s → Stops whole new.rest.now s
mark_stops whole mark old new go s shape b = stops_same _ whole new.rest.now s shape (balked mark old new go s b)

-- ---- budgets

-- behind a first token, within the budget
pub entered_at : {U : Type 0} (high d lower : ℕ) → IsBelow high d lower → (inside : List Token → Answer U) (ts mid : List Token) → mid ≡ behind_one ts
    → fit (suc high) d (behind_one ts) (inside (behind_one ts)) ≡ inside mid
entered_at high d lower below_is inside ts mid e = entered high d lower _ _ below_is ∙ ap inside (sym e)

-- a node above a part of this height is within the budget
abbrev pub IsWithin : ℕ → ℕ → Type 0
IsWithin high d = (l : ℕ) × ((d ≡ suc l) × (high ≤ l))

pub within_next : (d next high : ℕ) → (d ≡ 0 → next ≡ 0) → (d ≢ 0 → next < d) → 1 ≤ high → high ≤ next → IsWithin high d
within_next zero next high at_none less some low = absurd (let z = at_none refl in omega (arith, z, some, low))
within_next (suc d) next high at_none less some low = (d, (refl, (let l = less (λ e. absurd (omega (arith, e))) in omega (arith, l, low))))

pub within_some : (high d : ℕ) → IsWithin high d → d ≢ 0
within_some high d (l, (e, h)) = λ z. absurd (omega (arith, e, z))

pub some_height : (next : Tree → Names) (t : Tree) (under : List Tree) (p : Parser) (part : Part) → IsRead next t under p part → 1 ≤ part.height
some_height next t under p part read = let h = read.pushed.height_is in omega (arith, h)

-- ---- parts

-- a part with tokens on both sides
pub inner_read : (e whole : Answer Tree) (says : Tree → Type 0) (budget most2 most : ℕ) (p a b q : Parser) (part : Part) → Keeps p a
    → (h : Reads e (after a.names) says (stack_of a.trees) budget most2 b part) → Keeps b q → whole ≡ found h.tree q.rest.now → length q.rest.now < most
    → Reads whole (after p.names) says (stack_of p.trees) budget most q part
inner_read e whole says budget most2 most p a b q part kept h kept2 f shorter = record {
  tree = h.tree;
  found_is = f;
  read = record {
    names_are = kept2.names_are ∙ h.read.names_are ∙ ap (λ (n : Names). after n h.tree) kept.names_are;
    pushed = subst (λ under. IsPushed h.tree under (stack_of q.trees) part) (ap stack_of kept.trees_are) (pushed_on h.tree (stack_of a.trees) part b q kept2 h.read.pushed);
  };
  said = h.said;
  low = h.low;
  shorter = shorter;
}

-- a declarator
pub declared_on : (names : Names) (x : Tree) (under : List Tree) (p q : Parser) (declarator : Declarator) → Keeps p q → IsDeclared (after names) x under p declarator
    → IsDeclared (after names) x under q declarator
declared_on names x under p q declarator kept h = record {
  read = read_on names x under declarator.part p q kept h.read;
  said = record {
    itself_is = h.said.itself_is;
    parameters_are = subst (λ ps. map entry_of ps.items ≡ parameter_entries (parameters_of (one x))) (sym kept.parameters_are) h.said.parameters_are;
  };
}

-- what was read from the kept state on was read from the state before
pub gives_kept : {T : Type 0} (part : T → Part) (says : Tree → T → Type 0) (e : Answer Tree) (budget most : ℕ) (p a q : Parser) (r : Result T Stop) → Keeps p a
    → Gives part says e (after a.names) (stack_of a.trees) budget most q r → Gives part says e (after p.names) (stack_of p.trees) budget most q r
gives_kept part says e budget most p a q r kept h =
    subst (λ (n : Names). Gives part says e (after n) (stack_of p.trees) budget most q r) kept.names_are
    (subst (λ trees. Gives part says e (after a.names) (stack_of trees) budget most q r) kept.trees_are h)

-- a part in a scope of its own, which declares nothing outside
pub scope_read : (e whole : Answer Tree) (says says2 : Tree → Type 0) (inside : Tree → List Entry) (budget budget2 most most2 : ℕ) (p a b z : Parser) (part : Part)
    → whole ≡ e → a.names ≡ opened p.names → a.trees ≡ p.trees → (h : Reads e (λ t. add a.names (inside t)) says (stack_of a.trees) budget most b part)
    → ((t : Tree) → says t → says2 t) → ((t : Tree) → says t → entries t ≡ []) → z.names ≡ drop 1 b.names → z.trees ≡ b.trees → z.rest.now ≡ b.rest.now
    → budget ≤ budget2 → length b.rest.now < most2 → Reads whole (after p.names) says2 (stack_of p.trees) budget2 most2 z part
scope_read e whole says says2 inside budget budget2 most most2 p a b z part same opens trees h said silent closed trees2 rest fits shorter = record {
  tree = h.tree;
  found_is = same ∙ h.found_is ∙ ap (found h.tree) (sym rest);
  read = record {
    names_are = closed ∙ ap (drop 1) (h.read.names_are ∙ ap (λ (n : Names). add n (inside h.tree)) opens) ∙ drop_add (opened p.names) (inside h.tree)
        ∙ sym (ap (add p.names) (silent h.tree h.said) ∙ add_nothing p.names);
    pushed = subst (λ under. IsPushed h.tree under (stack_of z.trees) part) (ap stack_of trees) (subst (λ t. IsPushed h.tree (stack_of a.trees) (stack_of t) part) (sym trees2) h.read.pushed);
  };
  said = said h.tree h.said;
  low = let l = h.low in omega (arith, l, fits);
  shorter = let l = ap length rest in omega (arith, l, shorter);
}

-- less is within more
pub gives_within : {T : Type 0} (part : T → Part) (says : Tree → T → Type 0) (e : Answer Tree) (next : Tree → Names) (under : List Tree) (budget budget2 most most2 : ℕ) (p : Parser)
    (r : Result T Stop) → budget ≤ budget2 → most ≤ most2 → Gives part says e next under budget most p r → Gives part says e next under budget2 most2 p r
gives_within part says e next under budget budget2 most most2 p (Ok x) b m h = record {
  tree = h.tree;
  found_is = h.found_is;
  read = h.read;
  said = h.said;
  low = let l = h.low in omega (arith, b, l);
  shorter = let l = h.shorter in omega (arith, m, l);
}
gives_within part says e next under budget budget2 most most2 p (Err stop) b m h = h

-- ---- what a first token opens

-- a reading within the next lower budget
pub reader_inside : {U : Type 0} (high d lower : ℕ) → IsBelow high d lower → (inside : Reader → Names → List Token → Answer U) (whole : Answer U) (p a : Parser)
    → whole ≡ fit (suc high) d (behind_one p.rest.now) (inside (below d) p.names (behind_one p.rest.now)) → Keeps p a → a.rest.now ≡ behind_one p.rest.now
    → whole ≡ inside (level lower (below lower)) a.names a.rest.now
reader_inside high d lower below_is inside whole p a shape kept mid =
    shape ∙ entered_at high d lower below_is (inside (below d) p.names) p.rest.now a.rest.now mid ∙ ap (λ (r : Reader). inside r p.names a.rest.now) below_is.level_is
    ∙ ap (λ (n : Names). inside (level lower (below lower)) n a.rest.now) (sym kept.names_are)

-- a row
pub row_inside : {U : Type 0} (high d lower : ℕ) → IsBelow high d lower → (row : Rows) (go : Forest → List Token → Answer U) (whole : Answer U) (p a : Parser)
    → whole ≡ fit (suc high) d (behind_one p.rest.now) (and_then ((below d).trees_of row p.names (behind_one p.rest.now)) go) → Keeps p a → a.rest.now ≡ behind_one p.rest.now
    → whole ≡ and_then (rows_in lower (below lower) row a.names a.rest.now) go
unfolding level
row_inside high d lower below_is row go whole p a shape kept mid = reader_inside high d lower below_is (λ r names ts. and_then (r.trees_of row names ts) go) whole p a shape kept mid

pub row_on : (names : Names) (ts under : List Tree) (high : ℕ) (p q : Parser) → Keeps p q → AreRead (behind_all names) ts under p high → AreRead (behind_all names) ts under q high
row_on names ts under high p q kept h = record { names_are = kept.names_are ∙ h.names_are; pushed = trees_on ts under high p q kept h.pushed }

-- ---- statements

pub statement_read : (whole : Answer Tree) (next : Tree → Names) (under : List Tree) (budget most : ℕ) (p : Parser) (part : Part) (ends : Bool) (s : Statement)
    → s ≡ record { part = part; ends_open = ends } → Gives itself (λ t part. ends ≡ ends_open t) whole next under budget most p (Ok part)
    → Reads whole next (λ t. IsStatement t s) under budget most p s.part
statement_read whole next under budget most p part ends s e h = subst (λ (s : Statement). Reads whole next (λ t. IsStatement t s) under budget most p s.part) (sym e) h

-- a statement is beyond the budget
pub statement_barred : (whole : Answer Tree) (high d : ℕ) (mid : List Token) (inside : Answer Tree) → whole ≡ fit (suc high) d mid inside → (next : Tree → Names) (under : List Tree)
    (budget most : ℕ) (p : Parser) (r : Result Statement Stop) (s : Stop) → IsErr r × IsErrAnd r (λ e. e ≡ s) → (s ≡ Deep) × (d < suc high) → p.rest.now ≡ mid
    → Gives (λ s. s.part) IsStatement whole next under budget most p r
statement_barred whole high d mid inside shape next under budget most p r s h barred rest =
    gives_stop (λ s. s.part) IsStatement whole next under budget most p r s h (whole_barred whole high d 0 mid inside shape p.rest.now s barred rest)

-- a leaf that is a statement, from the kept state q on
pub leaf_statement : (kind : SynKind) (start : ℕ) → declares_nothing kind ≡ true → false ≡ ends_open (plain_node kind start none) → (whole : Answer Tree) (budget most : ℕ) (p q r : Parser)
    (part : Part) (s : Statement) → s ≡ record { part = part; ends_open = false } → Keeps p q → IsPushed (plain_node kind start none) (stack_of q.trees) (stack_of r.trees) part
    → r.names ≡ q.names → whole ≡ found (plain_node kind start none) r.rest.now → 1 ≤ budget → length r.rest.now < most
    → Reads whole (after p.names) (λ t. IsStatement t s) (stack_of p.trees) budget most r s.part
leaf_statement kind start quiet closed whole budget most p q r part s e kept push n f fits shorter =
    let node = plain_node kind start none in
    statement_read whole (after p.names) (stack_of p.trees) budget most r part false s e (
    made (λ t. false ≡ ends_open t) whole (after p.names) node (stack_of p.trees) budget most r (Ok part) (pushed_leaf node p q (stack_of r.trees) (Ok part) kept push) f
    (n ∙ kept.names_are ∙ sym (after_none p.names kind [] start quiet)) closed fits shorter)
