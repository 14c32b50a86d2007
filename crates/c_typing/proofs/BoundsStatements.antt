-- The faults of statements and declarations name rules and nodes that are there.
use Rattle.std.proofs.Common.{ℕ, ◌<◌, Bool, true, false, not, ◌||◌, List, map, Option, Some, None, refl}
use Rattle.std.specs.Prelude.{if◌then◌else◌, codes}
use Rattle.c_types.specs.declared.tree.Stmt.{Stmt}
use Rattle.c_typing.specs.Types.{CType, void, is_integer, is_scalar}
use Rattle.c_typing.specs.Places.{Node, kid, has_kid, other_kids, node_at, kind_at, says}
use Rattle.c_typing.specs.Names.{Places, function_around}
use Rattle.c_typing.specs.Judgements.{Constant, number, Typing, Judgement, means, performs, all_of, typing_at, code_at, type_at, judgement_at}
use Rattle.c_typing.specs.Conversions.{value_of, is_assignable}
use Rattle.c_typing.specs.Rules.{bad_operand, bad_return}
use Rattle.c_typing.specs.Statements.{statement_at, empty_statement, declarator_code, declaration, block_node, expression_statement, condition_faults, if_statement, while_statement, do_statement, for_part, first_by, test_faults, for_statement, break_statement, continue_statement, return_faults, return_by, return_statement, result_type_of, repeated_case, has_before, case_label, default_label, item_at, switch_statement}
use Rattle.c_typing.proofs.BoundsBase.{AllProper, JudgedIn, both_in, rule_in, range_in, means_in, verdict_in, besides_in, given_in, AllIn, typing_in}

module _ (N : ℕ) (p : Places) (js : List Judgement) (node : Node) (own : node.id < N) (kids : (i : ℕ) → kid node i < N) (all : AllIn N js) where
  pub declaration_in : JudgedIn N (declaration p js node)
  unfolding declaration
  declaration_in = given_in N (type_at js specs.id) _ (λ t same. given_in N (all_of (map (λ n. declarator_code (judgement_at js n)) (other_kids node))) _ (λ parts also. by (says p.nodes (codes "static") specs || says p.nodes (codes "extern") specs || says p.nodes (codes "typedef") specs) _ _))
    where
      specs : Node
      specs = node_at p.nodes (kid node 0)

      by : (b : Bool) (ss ts : List Stmt) → JudgedIn N (means (if b then performs ss else performs ts))
      by true ss ts = means_in N (performs ss) tt
      by false ss ts = means_in N (performs ts) tt

  pub block_in : JudgedIn N (block_node js node)
  unfolding block_node
  block_in = given_in N (all_of (map (code_at js) node.kids)) _ (λ parts same. means_in N _ tt)

  pub expression_in : JudgedIn N (expression_statement js node)
  unfolding expression_statement
  expression_in = given_in N (typing_at js (kid node 0)) _ (λ x same. means_in N _ tt)

  pub if_in : JudgedIn N (if_statement js node)
  unfolding if_statement
  if_in = given_in N (typing_at js (kid node 0)) _ (λ x same. besides_in N (condition_faults (value_of x) node.id) _ (rule_in N _ 13 node.id refl own) (given_in N (statement_at js (kid node 1)) _ (λ a h. given_in N (if has_kid node 2 then statement_at js (kid node 2) else Some empty_statement) _ (λ b k. means_in N _ tt))))

  pub while_in : JudgedIn N (while_statement js node)
  unfolding while_statement
  while_in = given_in N (typing_at js (kid node 0)) _ (λ x same. besides_in N (condition_faults (value_of x) node.id) _ (rule_in N _ 13 node.id refl own) (given_in N (statement_at js (kid node 1)) _ (λ a h. means_in N _ tt)))

  pub do_in : JudgedIn N (do_statement js node)
  unfolding do_statement
  do_in = given_in N (typing_at js (kid node 1)) _ (λ x same. besides_in N (condition_faults (value_of x) node.id) _ (rule_in N _ 13 node.id refl own) (given_in N (statement_at js (kid node 0)) _ (λ a h. means_in N _ tt)))

  pub for_in : JudgedIn N (for_statement p js node)
  unfolding for_statement
  for_in =
      given_in N (for_part p js (kid node 1)) _ (λ test same. besides_in N (test_faults test node.id) _ (by test)
      (given_in N (first_by js (kid node 0) (kind_at p.nodes (kid node 0))) _ (λ first h. given_in N (for_part p js (kid node 2)) _ (λ step i. given_in N (statement_at js (kid node 3)) _ (λ body k. means_in N _ tt)))))
    where
      by : (o : Option Typing) → AllProper N (test_faults o node.id)
      by None = tt
      by (Some v) = rule_in N (not (is_scalar v.type)) 13 node.id refl own

  pub break_in : JudgedIn N (break_statement p node)
  unfolding break_statement
  break_in = verdict_in N _ _ (rule_in N _ 19 node.id refl own) tt

  pub continue_in : JudgedIn N (continue_statement p node)
  unfolding continue_statement
  continue_in = verdict_in N _ _ (rule_in N _ 19 node.id refl own) tt

  return_by_in : (r : CType) → JudgedIn N (return_by js node r)
  unfolding return_by
  return_by_in r = by (has_kid node 0) _ _ (given_in N (typing_at js (kid node 0)) _ (λ x same. verdict_in N (return_faults r (value_of x) node) _ (value r (value_of x)) tt)) (verdict_in N (bad_return false r node.id) _ (none r) tt)
    where
      by : (b : Bool) (x y : Judgement) → JudgedIn N x → JudgedIn N y → JudgedIn N (if b then x else y)
      by true x y h k = h
      by false x y h k = k

      value : (r : CType) (v : Typing) → AllProper N (return_faults r v node)
      value void v = rule_in N true 18 node.id refl own
      value t v = rule_in N (not (is_assignable t v)) 14 (kid node 0) refl (kids 0)

      none : (r : CType) → AllProper N (bad_return false r node.id)
      none void = tt
      none _ = rule_in N true 18 node.id refl own

  pub return_in : JudgedIn N (return_statement p js node)
  unfolding return_statement
  return_in = given_in N (type_at js (kid (function_around p node.id) 1)) _ (λ t same. return_by_in (result_type_of t))

  pub case_in : JudgedIn N (case_label p js node)
  unfolding case_label
  case_in =
      given_in N (typing_at js (kid node 0)) _ (λ x same. verdict_in N _ _ (both_in N _ _ (both_in N _ _ (rule_in N _ 8 (kid node 0) refl (kids 0)) (range_in N x.constant (typing_in N js (kid node 0) x all same))) (by x.constant)) tt)
    where
      by : (c : Constant) → AllProper N (repeated_case p js node c)
      by (number w) = rule_in N (has_before p js node (Some w)) 26 node.id refl own
      by _ = tt

  pub default_in : JudgedIn N (default_label p js node)
  unfolding default_label
  default_in = verdict_in N _ _ (rule_in N _ 26 node.id refl own) tt

  pub switch_in : JudgedIn N (switch_statement js node)
  unfolding switch_statement
  switch_in = given_in N (typing_at js (kid node 0)) _ (λ x same. besides_in N (bad_operand (is_integer (value_of x).type) node.id) _ (rule_in N _ 13 node.id refl own) (given_in N (all_of (map (item_at js) (other_kids node))) _ (λ items h. means_in N _ tt)))
