-- Each kind of statement: where its parts have meanings, and it breaks no rule, it has one.
use Rattle.std.proofs.Common.{◌≡◌, ℕ, Bool, true, false, ◌||◌, List, [], map, Some, refl, sym, ap, true≢false}
use Rattle.std.specs.Prelude.{if◌then◌else◌, option_map, codes}
use Rattle.c_typing.specs.Rules.{bad_operand}
use Rattle.c_syntax.specs.declared.kind.SynKind.{SynKind}
use Rattle.c_types.specs.declared.tree.Stmt.{Stmt}
use Rattle.c_typing.specs.Types.{CType, is_integer}
use Rattle.c_typing.specs.Places.{Node, kid, has_kid, other_kids, says, node_at, kind_at}
use Rattle.c_typing.specs.Names.{Places, function_around}
use Rattle.c_typing.specs.Judgements.{performs, Fault, Judgement, means, verdict, typing_at, code_at, type_at, judgement_at}
use Rattle.c_typing.specs.Conversions.{value_of}
use Rattle.c_typing.specs.Statements.{condition_faults, test_faults, as_one, does, statement_at, declarator_code, declaration, block_node, expression_statement, empty_statement, if_statement, while_statement, do_statement, for_part, first_by, for_statement, break_statement, continue_statement, return_by, return_statement, result_type_of, case_label, default_label, item_at, switch_statement}
use Rattle.c_typing.specs.Shapes as category
use Rattle.c_typing.specs.Shapes.{Category}
use Rattle.c_typing.proofs.ProgressBase.{Settles, settled, verdict_settles, besides_settles, given_settles, AllThere, all_there}
use Rattle.c_typing.proofs.ProgressForms.{fits, Has, is_code}

no : {A : Type 0} → false ≡ true → A
no e = absurd (true≢false (sym e))

performed : (outer own : SynKind) (c : Category) (ss : List Stmt) → is_code c ≡ true → fits outer own c (means (performs ss)) ≡ true
performed outer own category.declaration ss e = refl
performed outer own category.block ss e = refl
performed outer own category.empty ss e = refl
performed outer own category.statement ss e = refl
performed outer own _ ss e = no e

-- a statement or a declaration of this category, below a node of the kind `outer`
module _ (outer own : SynKind) (c : Category) (code : is_code c ≡ true) where
  abbrev Test : Judgement → Bool
  Test j = fits outer own c j

  does_so : (fs : List Fault) (ss : List Stmt) → Settles Test (verdict fs (performs ss))
  does_so fs ss = verdict_settles Test fs (performs ss) (performed outer own c ss code)

  cases : (b : Bool) (x y : Judgement) → (b ≡ true → Settles Test x) → Settles Test y → Settles Test (if b then x else y)
  cases true x y s u = s refl
  cases false x y s u = u

  pub empty_settles : Settles Test (means (does empty_statement))
  empty_settles = does_so [] _

  pub expression_settles : (js : List Judgement) (node : Node) → Has (typing_at js (kid node 0)) → Settles Test (expression_statement js node)
  unfolding expression_statement
  expression_settles js node x = given_settles Test _ x.value _ x.is (does_so [] _)

  stated : (js : List Judgement) (n : ℕ) (s : Has (code_at js n)) → statement_at js n ≡ Some (as_one s.value)
  stated js n s = ap (λ o. option_map as_one o) s.is

  pub if_settles : (js : List Judgement) (node : Node) → Has (typing_at js (kid node 0)) → Has (code_at js (kid node 1)) → (has_kid node 2 ≡ true → Has (code_at js (kid node 2))) → Settles Test (if_statement js node)
  unfolding if_statement
  if_settles js node x s h =
      let last = later (has_kid node 2) h in
      given_settles Test _ x.value _ x.is (besides_settles Test (condition_faults (value_of x.value) node.id) _ (λ none.
      given_settles Test _ _ _ (stated js (kid node 1) s) (given_settles Test _ last.value _ last.is (does_so [] _))))
    where
      later : (b : Bool) → (b ≡ true → Has (code_at js (kid node 2))) → Has (if b then statement_at js (kid node 2) else Some empty_statement)
      later true f = record { value = _; is = stated js (kid node 2) (f refl) }
      later false f = record { value = _; is = refl }

  pub while_settles : (js : List Judgement) (node : Node) → Has (typing_at js (kid node 0)) → Has (code_at js (kid node 1)) → Settles Test (while_statement js node)
  unfolding while_statement
  while_settles js node x s =
      given_settles Test _ x.value _ x.is (besides_settles Test (condition_faults (value_of x.value) node.id) _ (λ none. given_settles Test _ _ _ (stated js (kid node 1) s) (does_so [] _)))

  pub do_settles : (js : List Judgement) (node : Node) → Has (typing_at js (kid node 1)) → Has (code_at js (kid node 0)) → Settles Test (do_statement js node)
  unfolding do_statement
  do_settles js node x s =
      given_settles Test _ x.value _ x.is (besides_settles Test (condition_faults (value_of x.value) node.id) _ (λ none. given_settles Test _ _ _ (stated js (kid node 0) s) (does_so [] _)))

  pub for_settles : (p : Places) (js : List Judgement) (node : Node) → Has (for_part p js (kid node 1)) → Has (first_by js (kid node 0) (kind_at p.nodes (kid node 0))) → Has (for_part p js (kid node 2)) → Has (code_at js (kid node 3)) → Settles Test (for_statement p js node)
  unfolding for_statement
  for_settles p js node test first step s =
      given_settles Test _ test.value _ test.is (besides_settles Test (test_faults test.value node.id) _ (λ none.
      given_settles Test _ first.value _ first.is (
      given_settles Test _ step.value _ step.is (given_settles Test _ _ _ (stated js (kid node 3) s) (does_so [] _)))))

  pub break_settles : (p : Places) (node : Node) → Settles Test (break_statement p node)
  unfolding break_statement
  break_settles p node = does_so _ _

  pub continue_settles : (p : Places) (node : Node) → Settles Test (continue_statement p node)
  unfolding continue_statement
  continue_settles p node = does_so _ _

  given_back : (js : List Judgement) (node : Node) (r : CType) → (has_kid node 0 ≡ true → Has (typing_at js (kid node 0))) → Settles Test (return_by js node r)
  unfolding return_by
  given_back js node r h = cases (has_kid node 0) _ _ (λ e. let x = h e in given_settles Test _ x.value _ x.is (does_so _ _)) (does_so _ _)

  pub return_settles : (p : Places) (js : List Judgement) (node : Node) → Has (type_at js (kid (function_around p node.id) 1)) → (has_kid node 0 ≡ true → Has (typing_at js (kid node 0))) → Settles Test (return_statement p js node)
  unfolding return_statement return_by
  return_settles p js node t h = given_settles Test _ t.value _ t.is (given_back js node (result_type_of t.value) h)

  pub switch_settles : (js : List Judgement) (node : Node) → Has (typing_at js (kid node 0)) → AllThere (map (item_at js) (other_kids node)) → Settles Test (switch_statement js node)
  unfolding switch_statement
  switch_settles js node x there =
      let items = all_there _ there in
      given_settles Test _ x.value _ x.is (besides_settles Test (bad_operand (is_integer (value_of x.value).type) node.id) _ (λ none. given_settles Test _ items.0 _ items.1 (does_so [] _)))

  pub block_settles : (js : List Judgement) (node : Node) → AllThere (map (code_at js) node.kids) → Settles Test (block_node js node)
  unfolding block_node
  block_settles js node there = let parts = all_there _ there in given_settles Test _ parts.0 _ parts.1 (does_so [] _)

  meant : (b : Bool) (ss ts : List Stmt) → Test (means (if b then performs ss else performs ts)) ≡ true
  meant true ss ts = performed outer own c ss code
  meant false ss ts = performed outer own c ts code

  pub declaration_settles : (p : Places) (js : List Judgement) (node : Node) → Has (type_at js (node_at p.nodes (kid node 0)).id) → AllThere (map (λ n. declarator_code (judgement_at js n)) (other_kids node)) → Settles Test (declaration p js node)
  unfolding declaration
  declaration_settles p js node t there =
      let specs = node_at p.nodes (kid node 0) in
      let parts = all_there _ there in
      given_settles Test _ t.value _ t.is (given_settles Test _ parts.0 _ parts.1 (
      settled Test _ (meant (says p.nodes (codes "static") specs || says p.nodes (codes "extern") specs || says p.nodes (codes "typedef") specs) _ _)))

-- a label
module _ (outer own : SynKind) where
  abbrev TestLabel : Judgement → Bool
  TestLabel j = fits outer own category.switch_label j

  pub case_settles : (p : Places) (js : List Judgement) (node : Node) → Has (typing_at js (kid node 0)) → Settles TestLabel (case_label p js node)
  unfolding case_label
  case_settles p js node x = given_settles TestLabel _ x.value _ x.is (verdict_settles TestLabel _ _ refl)

  pub default_settles : (p : Places) (js : List Judgement) (node : Node) → Settles TestLabel (default_label p js node)
  unfolding default_label
  default_settles p js node = verdict_settles TestLabel _ _ refl
