-- What holds of all expressions holds of the meanings of their nodes.
use Rattle.std.proofs.Common.{◌≡◌, ℕ, true, false, List, Option, Some, None, sym, true≢false}
use Rattle.c_syntax.specs.declared.kind.SynKind.{SynKind}
use Rattle.c_syntax.specs.declared.kind.SynKind.TheVariants as kind
use Rattle.c_typing.specs.Types.{CType, pointer, function}
use Rattle.c_typing.specs.Places.{Node, kid}
use Rattle.c_typing.specs.Names.{Places, Name, Entity, typedef_name, function_name, static_object, enumerator, denoted}
use Rattle.c_typing.specs.Judgements.{PlacedStep, steps, Meaning, expresses, Judgement, Typing, Form, callee, Callee, typing_at}
use Rattle.c_typing.specs.Conversions.{Operator}
use Rattle.c_typing.specs.Initializers.{string}
use Rattle.c_typing.specs.Expressions.{variable_by, variable, prefix_step, postfix_step, subscript, called, call_by, dot, arrow, address_operator, dereference, sign_operator, not_operator, unary, measured_type, cast, binary_by, binary_operator, conditional, comma, assignment, compound_by, assign}
use Rattle.c_typing.specs.Typing.{judged_by, in_parentheses}
use Rattle.c_typing.proofs.MadeJudged.{Yields, yields_verdict, yields_besides, yields_given}
use Rattle.c_typing.proofs.MadeForms.{is_active, yields_if, paren_row}
use Rattle.c_typing.proofs.MadeStatements.{is_expression_kind}

module _ (P : Meaning → Type 0) (free : (m : Meaning) → is_active m ≡ false → P m) (all : (x : Typing) (h : ℕ) → P (expresses x h)) (p : Places) (js : List Judgement) (node : Node) (paren : node.label.kind ≡ kind.Paren → Yields P (in_parentheses p js node (typing_at js (kid node 0)))) where
  string_row : Yields P (string p js node)
  unfolding string
  string_row = search (yields_if, yields_verdict, free, all)

  entity_row : (e : Name) (y : Entity) → Yields P (variable_by p js node e y)
  unfolding variable_by
  entity_row e typedef_name = tt
  entity_row e enumerator = search (yields_given, all)
  entity_row e function_name = search (yields_given, yields_verdict, all)
  entity_row e static_object = search (yields_given, all)
  entity_row e _ = search (yields_given, all)

  variable_row : (o : Option Name) → Yields P (variable p js node o)
  unfolding variable
  variable_row None = search (yields_verdict, all)
  variable_row (Some e) = entity_row e e.entity

  dereference_row : (t : CType) (v : Typing) → Yields P (dereference js node t v)
  unfolding dereference
  dereference_row (pointer t) v = search (yields_verdict, all)
  dereference_row _ v = search (yields_verdict, all)

  address_row : (x : Typing) → Yields P (address_operator node x)
  unfolding address_operator
  address_row x = search (yields_verdict, all)

  not_row : (x : Typing) → Yields P (not_operator node x)
  unfolding not_operator
  not_row x = search (yields_verdict, all)

  prefix_row : (x : Typing) → Yields P (prefix_step p js node x)
  unfolding prefix_step
  prefix_row x = search (yields_verdict, all)

  postfix_row : (x : Typing) → Yields P (postfix_step p js node x)
  unfolding postfix_step
  postfix_row x = search (yields_verdict, all)

  sign_row : (x : Typing) → Yields P (sign_operator node x)
  unfolding sign_operator
  sign_row x = search (yields_verdict, all)

  unary_row : (x : Typing) → Yields P (unary p js node x)
  unfolding unary
  unary_row x = search (yields_if, address_row, dereference_row, not_row, prefix_row, sign_row) depth 8

  subscript_row : (x y : Typing) → Yields P (subscript js node x y)
  unfolding subscript
  subscript_row x y = search (yields_verdict, all)

  called_row : (c : Callee) (t : CType) → Yields P (called js node c t)
  unfolding called
  called_row c (function r ps) = search (yields_besides, yields_given, yields_verdict, all)
  called_row c _ = tt

  call_by_row : (f : Typing) (x : Form) → Yields P (call_by js node f x)
  unfolding call_by
  call_by_row f (callee c) = called_row c f.type
  call_by_row f _ = search (yields_verdict, all)

  dot_row : (x : Typing) → Yields P (dot js node x)
  unfolding dot
  dot_row x = search (yields_verdict, all)

  arrow_row : (x : Typing) → Yields P (arrow js node x)
  unfolding arrow
  arrow_row x = search (yields_verdict, all)

  measured_row : (t : CType) (k : ℕ) → Yields P (measured_type js t k)
  unfolding measured_type
  measured_row t k = search (yields_verdict, all)

  cast_row : (t : CType) (x : Typing) → Yields P (cast node t x)
  unfolding cast
  cast_row t x = search (yields_verdict, all)

  binary_by_row : (x y : Typing) (o : Operator) → Yields P (binary_by js node x y o)
  unfolding binary_by
  binary_by_row x y o = search (yields_verdict, all)

  binary_row : (x y : Typing) → Yields P (binary_operator js node x y)
  unfolding binary_operator
  binary_row x y = search (yields_given, binary_by_row)

  conditional_row : (c x y : Typing) → Yields P (conditional js node c x y)
  unfolding conditional
  conditional_row c x y = search (yields_verdict, all)

  assignment_row : (x y : Typing) → Yields P (assignment js node x y)
  unfolding assignment
  assignment_row x y = search (yields_verdict, all)

  compound_row : (x y : Typing) (o : Operator) → Yields P (compound_by p js node x y o)
  unfolding compound_by
  compound_row x y o = search (yields_verdict, all)

  assign_row : (x y : Typing) → Yields P (assign p js node x y)
  unfolding assign
  assign_row x y = search (yields_if, yields_given, assignment_row, compound_row)

  comma_row : (x y : Typing) → Yields P (comma x y)
  unfolding comma
  comma_row x y = search (all)

  pub expression_kind_row : (k : SynKind) → node.label.kind ≡ k → is_expression_kind k ≡ true → Yields P (judged_by p js node k)
  unfolding judged_by
  expression_kind_row kind.Paren is e = paren is
  expression_kind_row (kind.Int type) is e = search (all)
  expression_kind_row kind.Char is e = search (all)
  expression_kind_row kind.Str is e = string_row
  expression_kind_row kind.Var is e = variable_row (denoted p.names node.id node.label.text)
  expression_kind_row kind.Unary is e = search (yields_given, unary_row)
  expression_kind_row kind.Post is e = search (yields_given, postfix_row)
  expression_kind_row kind.Binary is e = search (yields_given, binary_row)
  expression_kind_row kind.Assign is e = search (yields_given, assign_row)
  expression_kind_row kind.Cond is e = search (yields_given, yields_besides, conditional_row)
  expression_kind_row kind.Comma is e = search (yields_given, comma_row)
  expression_kind_row kind.Index is e = search (yields_given, subscript_row)
  expression_kind_row kind.Call is e = search (yields_given, call_by_row)
  expression_kind_row kind.Dot is e = search (yields_given, dot_row)
  expression_kind_row kind.Arrow is e = search (yields_given, arrow_row)
  expression_kind_row kind.Cast is e = search (yields_given, cast_row)
  expression_kind_row kind.SizeExpr is e = search (yields_given, measured_row)
  expression_kind_row kind.SizeType is e = search (yields_given, measured_row)
  expression_kind_row k is e = absurd (true≢false (sym e))

pub any_row : (P : Meaning → Type 0) → ((m : Meaning) → is_active m ≡ false → P m) → ((ss : List PlacedStep) → P (steps ss)) → ((x : Typing) (h : ℕ) → P (expresses x h)) → (p : Places) (js : List Judgement) (node : Node)
    → (k : SynKind) → node.label.kind ≡ k → is_expression_kind k ≡ true → Yields P (judged_by p js node k)
any_row P free part all p js node k is e = expression_kind_row P free all p js node (λ q. paren_row P free part p js node (typing_at js (kid node 0)) (λ x h. all x 0)) k is e
