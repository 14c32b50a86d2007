-- A stop that a call hands on.
use Rattle.std.proofs.Common.{◌≡◌, ℕ, ◌<◌, Bool, true, false, suc, List, if◌then◌else◌, Result, Ok, Err, IsErr, IsErrAnd, sym, ap, ap₂, ◌∙◌, subst, arith, nat_lt, true≢false}
use Rattle.std.proofs.lemmas.Bool.Decides.{nat_tests}
use Rattle.c_lexer.specs.declared.token.Token.{Token}
use Rattle.c_syntax.specs.Trees.{Tree, Forest}
use Rattle.c_lexer.specs.declared.token.Punct.{Punct}
use Rattle.c_grammar.specs.Answers.{Answer, found, wrong, deep, and_then, fit, expect, expect_word, expect_identifier}
use Rattle.c_grammar.specs.Reading.{Reader, Goal, Rows, below, level, goal_in, rows_in, begins_with_mark, begins_with_word}
use Rattle.c_parts.specs.Pushed.{IsBelow}
use Rattle.c_parser.proofs.Tokens.{mark_there, mark_absent, word_there, word_absent}
use Rattle.c_parts.specs.declared.budget.Stop.{Stop}
use Rattle.c_parts.specs.declared.budget.Stop.TheVariants as stop
use Rattle.c_parts.specs.declared.part.Part.{Part}
use Rattle.c_grammar.specs.Scopes.{Names}
use Rattle.c_parser.specs.declared.parser.Parser.{Parser}
use Rattle.c_parser.specs.Gives.{Gives, GivesRow, Stops, Passes, Balks, BalksName}

-- a stop of the first reading stops both
pub stops_then : {T U : Type 0} (x : Answer T) (go : T → List Token → Answer U) (rest : List Token) (s : Stop) → Stops x rest s → Stops (and_then x go) rest s
unfolding and_then
stops_then x go rest stop.Wrong e = ap (λ y. and_then y go) e
stops_then x go rest stop.Deep e = ap (λ y. and_then y go) e
stops_then x go rest stop.OutOfMemory e = e

pub stops_same : {T : Type 0} (x y : Answer T) (rest : List Token) (s : Stop) → y ≡ x → Stops x rest s → Stops y rest s
stops_same x y rest s e h = subst (λ z. Stops z rest s) (sym e) h

-- a stop that is handed on
pub gives_stop : {T : Type 0} (part : T → Part) (says : Tree → T → Type 0) (expected : Answer Tree) (next : Tree → Names) (under : List Tree) (budget most : ℕ) (p : Parser)
    (r : Result T Stop) (s : Stop) → IsErr r × IsErrAnd r (λ e. e ≡ s) → Stops expected p.rest.now s → Gives part says expected next under budget most p r
gives_stop part says expected next under budget most p (Ok x) s h stops = absurd (true≢false (sym h.0))
gives_stop part says expected next under budget most p (Err e) s h stops = subst (Stops expected p.rest.now) (sym h.1) stops

pub gives_row_stop : {T : Type 0} (high : T → ℕ) (says : List Tree → T → Type 0) (expected : Answer Forest) (next : Forest → Names) (under : List Tree) (budget most : ℕ)
    (p : Parser) (r : Result T Stop) (s : Stop) → IsErr r × IsErrAnd r (λ e. e ≡ s) → Stops expected p.rest.now s → GivesRow high says expected next under budget most p r
gives_row_stop high says expected next under budget most p (Ok x) s h stops = absurd (true≢false (sym h.0))
gives_row_stop high says expected next under budget most p (Err e) s h stops = subst (Stops expected p.rest.now) (sym h.1) stops

-- a stop of a reading that another goes on from
pub stops_before : {T U : Type 0} (whole : Answer U) (x : Answer T) (go : T → List Token → Answer U) (rest : List Token) (s : Stop) → whole ≡ and_then x go → Stops x
    rest s → Stops whole rest s
stops_before whole x go rest s e h = stops_same (and_then x go) whole rest s e (stops_then x go rest s h)

-- what was found, and what goes on from it
pub found_before : {T U : Type 0} (whole : Answer U) (x : Answer T) (go : T → List Token → Answer U) (t : T) (rest : List Token) → whole ≡ and_then x go → x ≡ found t
    rest → whole ≡ go t rest
unfolding and_then
found_before whole x go t rest e h = e ∙ ap (λ y. and_then y go) h

pub fit_beyond : {T : Type 0} (needed d : ℕ) (rest : List Token) (x : Answer T) → d < needed → fit needed d rest x ≡ deep rest
unfolding fit
fit_beyond needed d rest x h = by (nat_lt d needed) (grind (arith, nat_tests))
  where
    by : (b : Bool) → b ≡ true → (if b then deep rest else x) ≡ deep rest
    by b e = ap (λ b. if b then deep rest else x) e

pub chosen : {T : Type 0} (b : Bool) (x y : T) → b ≡ true → (if b then x else y) ≡ x
chosen b x y e = ap (λ b. if b then x else y) e

pub not_chosen : {T : Type 0} (b : Bool) (x y : T) → b ≡ false → (if b then x else y) ≡ y
not_chosen b x y e = ap (λ b. if b then x else y) e

-- ---- budgets and expected tokens

-- within the budget
pub entered : {T : Type 0} (high d lower : ℕ) (rest : List Token) (x : Answer T) → IsBelow high d lower → fit (suc high) d rest x ≡ x
unfolding fit
entered high d lower rest x below_is = by (nat_lt d (suc high)) (let h = below_is.fits in grind (arith, nat_tests))
  where
    by : (b : Bool) → b ≡ false → (if b then deep rest else x) ≡ x
    by b e = ap (λ b. if b then deep rest else x) e

-- the same height by another name
pub below_as : (high high2 d lower : ℕ) → high ≡ high2 → IsBelow high d lower → IsBelow high2 d lower
below_as high high2 d lower e below_is = subst (λ h. IsBelow h d lower) e below_is

-- beyond it
pub barred : {T : Type 0} (high d : ℕ) (rest left : List Token) (x : Answer T) (s : Stop) → (s ≡ stop.Deep) × (d < suc high) → left ≡ rest → Stops (fit (suc high) d rest x) left s
barred high d rest left x s (is_deep, beyond) e = subst (Stops (fit (suc high) d rest x) left) (sym is_deep) (fit_beyond (suc high) d rest x beyond ∙ ap deep (sym e))

-- a part within the next lower budget, where names and tokens are known by other names
pub below_tree : (high d lower : ℕ) → IsBelow high d lower → (g : Goal) (names names2 : Names) (ts ts2 : List Token) → names2 ≡ names → ts2 ≡ ts
    → (below d).tree_of g names ts ≡ goal_in lower (below lower) g names2 ts2
unfolding level
below_tree high d lower below_is g names names2 ts ts2 n t = ap (λ (r : Reader). r.tree_of g names ts) below_is.level_is ∙ ap₂ (goal_in lower (below lower) g) (sym n) (sym t)

pub below_trees : (high d lower : ℕ) → IsBelow high d lower → (row : Rows) (names names2 : Names) (ts ts2 : List Token) → names2 ≡ names → ts2 ≡ ts
    → (below d).trees_of row names ts ≡ rows_in lower (below lower) row names2 ts2
unfolding level
below_trees high d lower below_is row names names2 ts ts2 n t = ap (λ (r : Reader). r.trees_of row names ts) below_is.level_is ∙ ap₂ (rows_in lower (below lower) row) (sym n) (sym t)

-- the mark is there
pub passed : {U : Type 0} (mark : Punct) (old new : Parser) (go : List Token → Answer U) → Passes (begins_with_mark mark old.rest.now) old new → expect mark old.rest.now go ≡ go new.rest.now
passed mark old new go p = mark_there mark old.rest.now go p.there ∙ ap go (sym p.rest_is)

-- or not
pub balked : {U : Type 0} (mark : Punct) (old new : Parser) (go : List Token → Answer U) (s : Stop) → Balks (begins_with_mark mark old.rest.now) old new s
    → Stops (expect mark old.rest.now go) new.rest.now s
balked mark old new go s b = subst (Stops (expect mark old.rest.now go) new.rest.now) (sym b.is_wrong) (mark_absent mark old.rest.now go b.absent ∙ ap wrong (sym b.rest_is))

pub balked_name : (old new : Parser) (go : List ℕ → List Token → Answer Tree) (s : Stop) → BalksName old new s → Stops (expect_identifier old.rest.now go) new.rest.now s
balked_name old new go s b = subst (Stops (expect_identifier old.rest.now go) new.rest.now) (sym b.is_wrong) (b.none go)

pub passed_word : {U : Type 0} (text : List ℕ) (old new : Parser) (go : List Token → Answer U) → Passes (begins_with_word text old.rest.now) old new → expect_word text old.rest.now go ≡ go new.rest.now
passed_word text old new go p = word_there text old.rest.now go p.there ∙ ap go (sym p.rest_is)

pub balked_word : {U : Type 0} (text : List ℕ) (old new : Parser) (go : List Token → Answer U) (s : Stop) → Balks (begins_with_word text old.rest.now) old new s
    → Stops (expect_word text old.rest.now go) new.rest.now s
balked_word text old new go s b = subst (Stops (expect_word text old.rest.now go) new.rest.now) (sym b.is_wrong) (word_absent text old.rest.now go b.absent ∙ ap wrong (sym b.rest_is))

-- what goes on behind a reading that found, and behind one that stopped
pub found_then : {T U : Type 0} (x : Answer T) (go : T → List Token → Answer U) (t : T) (rest : List Token) → x ≡ found t rest → and_then x go ≡ go t rest
unfolding and_then
found_then x go t rest e = ap (λ y. and_then y go) e

-- ---- the first part behind a token

module _ {T : Type 0} (whole : Answer T) (high d lower : ℕ) (mid : List Token) (inside : Answer T) (shape : whole ≡ fit (suc high) d mid inside) where
  -- beyond the budget
  pub whole_barred : (left : List Token) (s : Stop) → (s ≡ stop.Deep) × (d < suc high) → left ≡ mid → Stops whole left s
  whole_barred left s h e = stops_same _ whole left s shape (barred high d mid left inside s h e)

  pub whole_entered : IsBelow high d lower → whole ≡ inside
  whole_entered below_is = shape ∙ entered high d lower mid inside below_is

-- a part within the next lower budget, and what goes on from it
module _ {U : Type 0} (whole : Answer U) (high d lower : ℕ) (below_is : IsBelow high d lower) (g : Goal) (names names2 : Names) (ts ts2 : List Token) (go : Tree → List Token → Answer U)
    (shape : whole ≡ and_then ((below d).tree_of g names ts) go) (same_names : names2 ≡ names) (same_tokens : ts2 ≡ ts) where
  part_shape : whole ≡ and_then (goal_in lower (below lower) g names2 ts2) go
  part_shape = shape ∙ ap (λ w. and_then w go) (below_tree high d lower below_is g names names2 ts ts2 same_names same_tokens)

  pub part_found : (t : Tree) (rest : List Token) → goal_in lower (below lower) g names2 ts2 ≡ found t rest → whole ≡ go t rest
  part_found t rest e = part_shape ∙ found_then _ go t rest e

  pub part_stops : (rest : List Token) (s : Stop) → Stops (goal_in lower (below lower) g names2 ts2) rest s → Stops whole rest s
  part_stops rest s h = stops_before whole _ go rest s part_shape h

-- the same of parts in order
module _ {U : Type 0} (whole : Answer U) (high d lower : ℕ) (below_is : IsBelow high d lower) (row : Rows) (names names2 : Names) (ts ts2 : List Token) (go : Forest → List Token → Answer U)
    (shape : whole ≡ and_then ((below d).trees_of row names ts) go) (same_names : names2 ≡ names) (same_tokens : ts2 ≡ ts) where
  row_shape : whole ≡ and_then (rows_in lower (below lower) row names2 ts2) go
  row_shape = shape ∙ ap (λ w. and_then w go) (below_trees high d lower below_is row names names2 ts ts2 same_names same_tokens)

  pub row_found : (f : Forest) (rest : List Token) → rows_in lower (below lower) row names2 ts2 ≡ found f rest → whole ≡ go f rest
  row_found f rest e = row_shape ∙ found_then _ go f rest e

  pub row_stops : (rest : List Token) (s : Stop) → Stops (rows_in lower (below lower) row names2 ts2) rest s → Stops whole rest s
  row_stops rest s h = stops_before whole _ go rest s row_shape h
