-- What statements and declarations do. C99 6.7, 6.8.
use Rattle.std.specs.Prelude.{ℕ, Bool, true, false, List, [], ◌∷◌, ◌++◌, ◌&&◌, ◌||◌, ◌==◌, nat_lt, if◌then◌else◌, Option, Some, None, map, codes, option_map, flat_map}
use Rattle.std.specs.List.{list_any}
use Rattle.std.specs.Option.{is_some}
use Rattle.c_syntax.specs.declared.kind.SynKind.{SynKind}
use Rattle.c_syntax.specs.declared.kind.SynKind.TheVariants as kind
use Rattle.c_types.specs.declared.tree.Expr.{Expr}
use Rattle.c_types.specs.declared.tree.Stmt.{Stmt}
use Rattle.c_types.specs.declared.tree.Group.{Group}
use Rattle.c_types.specs.Forms.{block, drop_expr, return_with, if_else, loop, do_loop, break, continue, switch, stmt_row, group_row, length_of}
use Rattle.c_typing.specs.Types.{CType, void, function, is_scalar, is_integer}
use Rattle.c_typing.specs.Places.{Node, node_at, kind_at, parent_of, kid, has_kid, other_kids, around, is_loop, is_switch, says}
use Rattle.c_typing.specs.Names.{Places, function_around}
use Rattle.c_typing.specs.Judgements.{Constant, number, Typing, Fault, Meaning, performs, labels, initialized, Judgement, means, verdict, given, all_of, judgement_at, typing_at, type_at, code_at, besides}
use Rattle.c_typing.specs.Conversions.{value_of, converted_to}
use Rattle.c_typing.specs.Rules.{bad_operand, bad_conversion, bad_return, outside_a_loop, not_constant, out_of_range, case_twice}
use Rattle.c_typing.specs.Declarators.{word_in}

abbrev pub block_of : List Stmt → Stmt
block_of ss = block (length_of ss) (stmt_row ss)

abbrev pub does : Stmt → Meaning
does s = performs (s ∷ [])

-- the one statement that they are, or a block of them
abbrev pub as_one : List Stmt → Stmt
as_one (s ∷ []) = s
as_one ss = block_of ss

abbrev pub statement_at : List Judgement → ℕ → Option Stmt
statement_at js n = option_map as_one (code_at js n)

-- ---- declarations, blocks (6.8.2)

abbrev pub declarator_code : Judgement → Option (List Stmt)
declarator_code (means (initialized t ss cells)) = Some ss
declarator_code j = None

-- a block of what its declarators do; a static, `extern` or typedef declaration does nothing at its place
unfoldable pub declaration : Places → List Judgement → Node → Judgement
declaration p js node =
    let specs = node_at p.nodes (kid node 0) in
    given (type_at js specs.id) λ t.
    given (all_of (map (λ n. declarator_code (judgement_at js n)) (other_kids node))) λ parts.
    means (if says p.nodes (codes "static") specs || says p.nodes (codes "extern") specs || says p.nodes (codes "typedef") specs
    then performs [] else does (block_of (flat_map (λ ss. ss) parts)))

unfoldable pub block_node : List Judgement → Node → Judgement
block_node js node = given (all_of (map (code_at js) node.kids)) λ parts. means (does (block_of (flat_map (λ ss. ss) parts)))

-- ---- expression statements, conditions (6.8.3 to 6.8.5)

unfoldable pub expression_statement : List Judgement → Node → Judgement
expression_statement js node = given (typing_at js (kid node 0)) λ x. means (does (drop_expr (value_of x).code))

abbrev pub empty_statement : Stmt
empty_statement = block_of []

-- a condition is scalar
abbrev pub condition_faults : Typing → ℕ → List Fault
condition_faults v n = bad_operand (is_scalar v.type) n

unfoldable pub if_statement : List Judgement → Node → Judgement
if_statement js node =
    given (typing_at js (kid node 0)) λ x. besides (condition_faults (value_of x) node.id) (
    given (statement_at js (kid node 1)) λ a.
    given (if has_kid node 2 then statement_at js (kid node 2) else Some empty_statement) λ b.
    means (does (if_else (value_of x).code a b)))

unfoldable pub while_statement : List Judgement → Node → Judgement
while_statement js node =
    given (typing_at js (kid node 0)) λ x. besides (condition_faults (value_of x) node.id) (
    given (statement_at js (kid node 1)) λ body. means (does (loop (Some (value_of x).code) None body)))

unfoldable pub do_statement : List Judgement → Node → Judgement
do_statement js node =
    given (typing_at js (kid node 1)) λ x. besides (condition_faults (value_of x) node.id) (
    given (statement_at js (kid node 0)) λ body. means (does (do_loop body (value_of x).code)))

-- a part of `for`: an expression, or nothing
abbrev pub part_by : List Judgement → ℕ → SynKind → Option (Option Typing)
part_by js n kind.Empty = Some None
part_by js n k = option_map (λ x. Some (value_of x)) (typing_at js n)

abbrev pub for_part : Places → List Judgement → ℕ → Option (Option Typing)
for_part p js n = part_by js n (kind_at p.nodes n)

abbrev pub code_in : Option Typing → Option Expr
code_in v = option_map (λ (x : Typing). x.code) v

-- the first part of `for` is a declaration, an expression or nothing
abbrev pub first_by : List Judgement → ℕ → SynKind → Option Stmt
first_by js n kind.Declaration = statement_at js n
first_by js n kind.Empty = Some empty_statement
first_by js n k = option_map (λ x. drop_expr (value_of x).code) (typing_at js n)

abbrev pub test_faults : Option Typing → ℕ → List Fault
test_faults None n = []
test_faults (Some v) n = condition_faults v n

unfoldable pub for_statement : Places → List Judgement → Node → Judgement
for_statement p js node =
    given (for_part p js (kid node 1)) λ test. besides (test_faults test node.id) (
    given (first_by js (kid node 0) (kind_at p.nodes (kid node 0))) λ first.
    given (for_part p js (kid node 2)) λ step.
    given (statement_at js (kid node 3)) λ body.
    means (does (block_of (first ∷ loop (code_in test) (code_in step) body ∷ []))))

-- ---- jumps (6.8.6)

abbrev pub is_inside : (SynKind → Bool) → Places → Node → Bool
is_inside test p node = is_some (around (λ n. test n.label.kind) p.nodes node.id)

unfoldable pub break_statement : Places → Node → Judgement
break_statement p node = verdict (outside_a_loop (is_inside (λ k. is_loop k || is_switch k) p node) node.id) (does break)

unfoldable pub continue_statement : Places → Node → Judgement
continue_statement p node = verdict (outside_a_loop (is_inside is_loop p node) node.id) (does continue)

abbrev pub result_type_of : CType → CType
result_type_of (function r ps) = r
result_type_of t = t

-- a value in a void function breaks rule 18, also a void value; in another function one of another type breaks rule 14
abbrev pub return_faults : CType → Typing → Node → List Fault
return_faults void v node = bad_return true void node.id
return_faults t v node = bad_conversion t v (kid node 0)

unfoldable pub return_by : List Judgement → Node → CType → Judgement
return_by js node r =
    if has_kid node 0 then
    (given (typing_at js (kid node 0)) λ x.
    verdict (return_faults r (value_of x) node) (does (return_with (Some (converted_to r (value_of x))))))
    else verdict (bad_return false r node.id) (does (return_with None))

unfoldable pub return_statement : Places → List Judgement → Node → Judgement
return_statement p js node =
    given (type_at js (kid (function_around p node.id) 1)) λ t. return_by js node (result_type_of t)

-- ---- `switch` (6.8.1, 6.8.4.2)

abbrev pub label_at : List Judgement → ℕ → Option (Option ℕ)
label_at js n = by (judgement_at js n)
  where
    by : Judgement → Option (Option ℕ)
    by (means (labels w)) = Some w
    by j = None

abbrev pub same_label : Option ℕ → Option ℕ → Bool
same_label None None = true
same_label (Some a) (Some b) = a == b
same_label a b = false

-- an earlier label of the same `switch` is the same
abbrev pub has_before : Places → List Judgement → Node → Option ℕ → Bool
has_before p js node w =
    let outer = parent_of p.nodes node.id in
    list_any (λ n. nat_lt n node.id && option_is (label_at js n)) (other_kids outer)
  where
    option_is : Option (Option ℕ) → Bool
    option_is None = false
    option_is (Some v) = same_label v w

-- a word is the same after its conversion to the promoted type of the `switch`
abbrev pub repeated_case : Places → List Judgement → Node → Constant → List Fault
repeated_case p js node (number w) = case_twice (has_before p js node (Some w)) node.id
repeated_case p js node c = []

unfoldable pub case_label : Places → List Judgement → Node → Judgement
case_label p js node =
    given (typing_at js (kid node 0)) λ x.
    verdict (not_constant x.constant (kid node 0) ++ out_of_range x.constant ++ repeated_case p js node x.constant) (labels (Some (word_in x.constant)))

unfoldable pub default_label : Places → List Judgement → Node → Judgement
default_label p js node = verdict (case_twice (has_before p js node None) node.id) (labels None)

-- labels and statements in a row
pub data Item : Type 0 where
  a_label : Option ℕ → Item
  a_statement : Stmt → Item

abbrev pub item_at : List Judgement → ℕ → Option Item
item_at js n = by (judgement_at js n)
  where
    by : Judgement → Option Item
    by (means (labels w)) = Some (a_label w)
    by (means (performs ss)) = Some (a_statement (as_one ss))
    by j = None

-- the statements up to the next label, and the groups from there on
pub record Grouped : Type 0 where
  pub front : List Stmt
  pub groups : List Group

abbrev pub grouped : List Stmt → List Group → Grouped
grouped front groups = record { front = front; groups = groups }

abbrev pub label_group : Option ℕ → List Stmt → Group
label_group None body = record { labels = []; other = true; body = body }
label_group (Some w) body = record { labels = w ∷ []; other = false; body = body }

-- a label in front of others
abbrev pub with_label : Option ℕ → Group → Group
with_label None g = record g { other = true }
with_label (Some w) g = record g { labels = w ∷ g.labels }

abbrev pub labelled : Option ℕ → List Stmt → List Group → List Group
labelled w [] (g ∷ gs) = with_label w g ∷ gs
labelled w front gs = label_group w front ∷ gs

abbrev pub with_item : Item → Grouped → Grouped
with_item (a_label w) g = grouped [] (labelled w g.front g.groups)
with_item (a_statement s) g = grouped (s ∷ g.front) g.groups

abbrev pub groups_of : List Item → Grouped
groups_of [] = grouped [] []
groups_of (i ∷ rest) = with_item i (groups_of rest)

unfoldable pub switch_statement : List Judgement → Node → Judgement
switch_statement js node =
    given (typing_at js (kid node 0)) λ x. besides (bad_operand (is_integer (value_of x).type) node.id) (
    given (all_of (map (item_at js) (other_kids node))) λ items.
    let groups = (groups_of items).groups in
    means (does (switch (value_of x).code (length_of groups) (group_row groups))))
