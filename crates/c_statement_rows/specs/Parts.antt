-- The parts of `for`.
use Rattle.std.specs.Prelude.{◌≡◌, ◌∷◌, ℕ, Bool, true, false, List, [], Option, Some, None}
use Rattle.c_syntax.specs.declared.kind.SynKind.{SynKind}
use Rattle.c_syntax.specs.declared.kind.SynKind.TheVariants as kind
use Rattle.c_syntax.specs.declared.syntax.SynNode.{SynNode}
use Rattle.c_types.specs.declared.tree.Stmt.{Stmt}
use Rattle.c_types.specs.Forms.{loop}
use Rattle.c_typing.specs.Places.{kind_at}
use Rattle.c_typing.specs.Judgements.{Typing, code_at, rule}
use Rattle.c_typing.specs.Statements.{as_one, block_of, code_in, first_by, part_by, test_faults}
use Rattle.c_nodes.specs.Parents.{nodes_in}
use Rattle.c_meanings.specs.Meanings.{judged_to, kid_in}
use Rattle.c_statement_rows.specs.declared.loops.Condition.{Condition}
use Rattle.c_statement_rows.specs.declared.loops.Condition.TheVariants as condition

-- nothing stands there
abbrev pub is_empty : SynKind → Bool
is_empty kind.Empty = true
is_empty k = false

-- the test or the step of a `for`, by the index of the kid
abbrev pub part_at : List SynNode → ℕ → ℕ → Option (Option Typing)
part_at table n index = part_by (judged_to table n) (kid_in table n index) (kind_at (nodes_in table) (kid_in table n index))

-- what the first part of a `for` does
abbrev pub first_at : List SynNode → ℕ → Option Stmt
first_at table n = first_by (judged_to table n) (kid_in table n 0) (kind_at (nodes_in table) (kid_in table n 0))

-- this is found of the test of a `for`
abbrev pub IsTest : Condition → Option (Option Typing) → Type 0
IsTest condition.Absent test = test ≡ None
IsTest condition.NotScalar test = (v : Option Typing) × (test ≡ Some v) × ((i : ℕ) → test_faults v i ≡ rule 13 i ∷ [])
IsTest condition.Scalar test = (v : Option Typing) × (test ≡ Some v) × ((i : ℕ) → test_faults v i ≡ [])

-- a `for` does this, where its parts have meanings
abbrev pub IsFor : List SynNode → ℕ → List Stmt → Type 0
IsFor table n ss =
    (test step : Option Typing) (first : Stmt) (body : List Stmt) → part_at table n 1 ≡ Some test → first_at table n ≡ Some first → part_at table n 2 ≡ Some step → code_at (judged_to table n) (kid_in table n 3) ≡ Some body
    → ss ≡ block_of (first ∷ loop (code_in test) (code_in step) (as_one body) ∷ []) ∷ []
