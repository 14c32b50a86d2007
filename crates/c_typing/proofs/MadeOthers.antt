-- What holds of all that statements, labels and functions mean holds of the meanings of their nodes.
use Rattle.std.proofs.Common.{◌≡◌, ℕ, Bool, true, false, cond, List, Option, sym, true≢false}
use Rattle.c_syntax.specs.declared.kind.SynKind.{SynKind}
use Rattle.c_syntax.specs.declared.kind.SynKind.TheVariants as kind
use Rattle.c_types.specs.declared.tree.Stmt.{Stmt}
use Rattle.c_types.specs.declared.tree.Cell.{Cell}
use Rattle.c_types.specs.declared.tree.Func.{Func}
use Rattle.c_typing.specs.Types.{CType}
use Rattle.c_typing.specs.Places.{Node}
use Rattle.c_typing.specs.Names.{Places, Name}
use Rattle.c_typing.specs.Judgements.{Meaning, performs, initialized, labels, defines, Judgement, means}
use Rattle.c_typing.specs.Initializers.{Part, initialized_object, init_by, init_declarator}
use Rattle.c_typing.specs.Statements.{declaration, block_node, expression_statement, if_statement, while_statement, do_statement, for_statement, break_statement, continue_statement, return_by, return_statement, switch_statement}
use Rattle.c_typing.specs.Typing.{function_node, judged_by}
use Rattle.c_typing.proofs.MadeJudged.{Yields, yields_verdict, yields_besides, yields_given}
use Rattle.c_typing.proofs.MadeForms.{yields_if, case_row, default_row}

abbrev pub is_statement_kind : SynKind → Bool
is_statement_kind kind.Function = true
is_statement_kind kind.Declaration = true
is_statement_kind kind.InitDecl = true
is_statement_kind kind.Block = true
is_statement_kind kind.ExprStmt = true
is_statement_kind kind.Empty = true
is_statement_kind kind.If = true
is_statement_kind kind.While = true
is_statement_kind kind.Do = true
is_statement_kind kind.For = true
is_statement_kind kind.Break = true
is_statement_kind kind.Continue = true
is_statement_kind kind.Return = true
is_statement_kind kind.Switch = true
is_statement_kind kind.Case = true
is_statement_kind kind.Default = true
is_statement_kind k = false

pub function_row : (P : Meaning → Type 0) → ((f : Func) → P (defines f)) → (p : Places) (js : List Judgement) (node : Node) → Yields P (function_node p js node)
unfolding function_node
function_row P each p js node = search (yields_given, each)

module _ (P : Meaning → Type 0) (one : (t : CType) (ss : List Stmt) (cs : List Cell) → P (initialized t ss cs)) (p : Places) (js : List Judgement) (node : Node) where
  object_row : (n : ℕ) (e : Name) (t : CType) (q : Part) → Yields P (initialized_object p js n e t q)
  unfolding initialized_object
  object_row n e t q = search (yields_verdict, one)

  init_by_row : (t : CType) (e : Name) → Yields P (init_by p js node t e)
  unfolding init_by
  init_by_row t e = search (yields_if, yields_given, yields_verdict, object_row, one)

  pub init_row : Yields P (init_declarator p js node)
  unfolding init_declarator
  init_row = search (yields_given, init_by_row)

module _ (P : Meaning → Type 0) (all : (ss : List Stmt) → P (performs ss)) (label : (w : Option ℕ) → P (labels w))
    (p : Places) (js : List Judgement) (node : Node) (init : node.label.kind ≡ kind.InitDecl → Yields P (init_declarator p js node)) (function : node.label.kind ≡ kind.Function → Yields P (function_node p js node)) where
  declared : (b : Bool) (ss rs : List Stmt) → Yields P (means (cond b (performs ss) (performs rs)))
  declared true ss rs = all ss
  declared false ss rs = all rs

  declaration_row : Yields P (declaration p js node)
  unfolding declaration
  declaration_row = search (yields_given, declared)

  block_row : Yields P (block_node js node)
  unfolding block_node
  block_row = search (yields_given, all)

  expression_row : Yields P (expression_statement js node)
  unfolding expression_statement
  expression_row = search (yields_given, all)

  if_row : Yields P (if_statement js node)
  unfolding if_statement
  if_row = search (yields_given, yields_besides, all)

  while_row : Yields P (while_statement js node)
  unfolding while_statement
  while_row = search (yields_given, yields_besides, all)

  do_row : Yields P (do_statement js node)
  unfolding do_statement
  do_row = search (yields_given, yields_besides, all)

  for_row : Yields P (for_statement p js node)
  unfolding for_statement
  for_row = search (yields_given, yields_besides, all) depth 8

  break_row : Yields P (break_statement p node)
  unfolding break_statement
  break_row = search (yields_verdict, all)

  continue_row : Yields P (continue_statement p node)
  unfolding continue_statement
  continue_row = search (yields_verdict, all)

  return_by_row : (r : CType) → Yields P (return_by js node r)
  unfolding return_by
  return_by_row r = search (yields_if, yields_given, yields_verdict, all)

  return_row : Yields P (return_statement p js node)
  unfolding return_statement
  return_row = search (yields_given, return_by_row)

  switch_row : Yields P (switch_statement js node)
  unfolding switch_statement
  switch_row = search (yields_given, yields_besides, all)

  pub statement_kind_row : (k : SynKind) → node.label.kind ≡ k → is_statement_kind k ≡ true → Yields P (judged_by p js node k)
  unfolding judged_by
  statement_kind_row kind.Function is e = function is
  statement_kind_row kind.Declaration is e = declaration_row
  statement_kind_row kind.InitDecl is e = init is
  statement_kind_row kind.Block is e = block_row
  statement_kind_row kind.ExprStmt is e = expression_row
  statement_kind_row kind.Empty is e = all _
  statement_kind_row kind.If is e = if_row
  statement_kind_row kind.While is e = while_row
  statement_kind_row kind.Do is e = do_row
  statement_kind_row kind.For is e = for_row
  statement_kind_row kind.Break is e = break_row
  statement_kind_row kind.Continue is e = continue_row
  statement_kind_row kind.Return is e = return_row
  statement_kind_row kind.Switch is e = switch_row
  statement_kind_row kind.Case is e = case_row P label p js node
  statement_kind_row kind.Default is e = default_row P label p js node
  statement_kind_row k is e = absurd (true≢false (sym e))

pub statement_row : (P : Meaning → Type 0) → ((ss : List Stmt) → P (performs ss)) → ((t : CType) (ss : List Stmt) (cs : List Cell) → P (initialized t ss cs)) → ((w : Option ℕ) → P (labels w)) → (p : Places) (js : List Judgement) (node : Node)
    → (node.label.kind ≡ kind.Function → Yields P (function_node p js node)) → (k : SynKind) → node.label.kind ≡ k → is_statement_kind k ≡ true → Yields P (judged_by p js node k)
statement_row P all one label p js node function k is e = statement_kind_row P all label p js node (λ q. init_row P one p js node) function k is e
