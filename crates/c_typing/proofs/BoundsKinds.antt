-- The faults of a tree name rules from 1 to 27, sizes above the limit, and nodes of the tree.
use Rattle.std.proofs.Common.{◌≡◌, ℕ, zero, suc, ◌<◌, not, List, [], ◌∷◌, ◌++◌, Option, Some, None, refl}
use Rattle.std.specs.Prelude.{slice_get, unwrap_or}
use Rattle.c_syntax.specs.declared.kind.SynKind.{SynKind}
use Rattle.c_syntax.specs.declared.kind.SynKind.TheVariants as kind
use Rattle.c_typing.specs.Types.{int, is_scalar}
use Rattle.c_typing.specs.Places.{Node, nowhere, kid, node_at, next_to_name}
use Rattle.c_typing.specs.Names.{Places, Name, name_of, denoted}
use Rattle.c_typing.specs.Judgements.{Typing, Judgement, means, breaks_rules, waits, given, typing_at, type_at, steps_at, faults_in, faults_of}
use Rattle.c_typing.specs.Conversions.{value_of}
use Rattle.c_typing.specs.Rules.{bad_operand}
use Rattle.c_typing.specs.Expressions.{expression, number_of_type, integer_type, unary, postfix_step, binary_operator, assign, comma, subscript, call_by, dot, arrow, measured_type}
use Rattle.c_typing.specs.Statements.{does, empty_statement}
use Rattle.c_typing.specs.Typing.{judged_by, judged_from, in_parentheses, choice_node}
use Rattle.c_typing.proofs.BoundsBase.{AllProper, ConstantIn, JudgedIn, both_in, rule_in, means_in, waits_in, besides_in, given_in, AllIn, typing_in, steps_in, value_in}
use Rattle.c_typing.proofs.BoundsExpressions as expr
use Rattle.c_typing.proofs.BoundsStatements as stmt
use Rattle.c_typing.proofs.BoundsDeclarators as decl
use Rattle.c_typing.proofs.BoundsInitializers as init
use Rattle.c_typing.proofs.ProgressStep.{rest_at}

-- a node whose number, and those of whose kids, are below N
pub record NodeIn (N : ℕ) (node : Node) : Type 0 where
  pub own : node.id < N
  pub kids : (i : ℕ) → kid node i < N
  pub listed : (i k : ℕ) → slice_get node.kids i ≡ Some k → k < N

-- what is found among the nodes and names has such a number
pub record PlacesIn (N : ℕ) (p : Places) : Type 0 where
  pub nodes : (k : ℕ) → (node_at p.nodes k).id < N
  pub names : (n : ℕ) (e : Name) → name_of p n ≡ Some e → e.node < N
  pub next : (i : ℕ) → (unwrap_or (next_to_name p.nodes i) nowhere).id < N

module _ (N : ℕ) (p : Places) (js : List Judgement) (all : AllIn N js) (node : Node) (own : node.id < N) (kids : (i : ℕ) → kid node i < N) (listed : (i k : ℕ) → slice_get node.kids i ≡ Some k → k < N)
    (nodes : (k : ℕ) → (node_at p.nodes k).id < N) (names : (n : ℕ) (e : Name) → name_of p n ≡ Some e → e.node < N) (next : (i : ℕ) → (unwrap_or (next_to_name p.nodes i) nowhere).id < N) where
  one_operand : (f : Typing → Judgement) → ((x : Typing) → ConstantIn N x.constant → JudgedIn N (f x)) → JudgedIn N (given (typing_at js (kid node 0)) f)
  one_operand f h = given_in N (typing_at js (kid node 0)) f (λ x same. h x (typing_in N js (kid node 0) x all same))

  two_operands : (f : Typing → Typing → Judgement) → ((x y : Typing) → ConstantIn N x.constant → ConstantIn N y.constant → JudgedIn N (f x y))
      → JudgedIn N (given (typing_at js (kid node 0)) (λ x. given (typing_at js (kid node 1)) (λ y. f x y)))
  two_operands f h =
      given_in N (typing_at js (kid node 0)) _ (λ x same. given_in N (typing_at js (kid node 1)) (λ y. f x y)
      (λ y also. h x y (typing_in N js (kid node 0) x all same) (typing_in N js (kid node 1) y all also)))

  joined : (x y : Typing) → JudgedIn N (comma x y)
  unfolding comma
  joined x y = means_in N _ tt

  chosen : JudgedIn N (choice_node js node)
  chosen =
      given_in N (typing_at js (kid node 0)) _ (λ c same. besides_in N (bad_operand (is_scalar (value_of c).type) node.id) _ (rule_in N (not (is_scalar (value_of c).type)) 13 node.id refl own)
      (given_in N (typing_at js (kid node 1)) _ (λ x also. given_in N (typing_at js (kid node 2)) _ (λ y more. expr.conditional_in N p js node own kids (value_of c) (value_of x) (value_of y)
      (value_in N c (typing_in N js (kid node 0) c all same)) (value_in N x (typing_in N js (kid node 1) x all also)) (value_in N y (typing_in N js (kid node 2) y all more))))))

  parentheses : (o : Option Typing) → ((x : Typing) → o ≡ Some x → ConstantIn N x.constant) → JudgedIn N (in_parentheses p js node o)
  parentheses (Some x) h = means_in N (expression x) (h x refl)
  parentheses None h = given_in N (steps_at js (kid node 0)) _ (λ ss same. decl.declarator_in N p js node own kids listed names all ss (steps_in N js (kid node 0) ss all same))

  each : (k : SynKind) → JudgedIn N (judged_by p js node k)
  unfolding judged_by
  each kind.Unit = init.unit_in_bounds N p js nodes all node own kids names
  each kind.Function = init.function_node_in N p js nodes all node own kids names
  each kind.Declaration = stmt.declaration_in N p js node own kids all
  each kind.InitDecl = init.initializer_in N p js nodes all node own kids names next
  each kind.Braces = init.braces_in N p js nodes all node own kids names
  each kind.Specs = decl.specs_in N p js node own kids listed names all
  each kind.Word = decl.word_in_bounds N p js node own kids listed names all
  each kind.StructSpec = decl.struct_in N p js node own kids listed names all
  each kind.Member = decl.member_in N p js node own kids listed names all
  each kind.EnumSpec = decl.enum_in N p js node own kids listed names all
  each kind.Enumer = decl.enumerator_in N p js node own kids listed names all
  each kind.Ident = decl.declarator_in N p js node own kids listed names all [] tt
  each kind.NoName = decl.declarator_in N p js node own kids listed names all [] tt
  each kind.Pointer = decl.pointer_in N p js node own kids listed names all
  each kind.ArrayOf = decl.array_declarator_in N p js node own kids listed names all
  each kind.Takes = decl.function_in N p js node own kids listed names all
  each kind.Param = decl.parameter_in N p js node own kids listed names all
  each kind.TypeName = decl.type_name_in N p js node own kids listed names all
  each kind.Block = stmt.block_in N p js node own kids all
  each kind.ExprStmt = stmt.expression_in N p js node own kids all
  each kind.Empty = means_in N (does empty_statement) tt
  each kind.If = stmt.if_in N p js node own kids all
  each kind.While = stmt.while_in N p js node own kids all
  each kind.Do = stmt.do_in N p js node own kids all
  each kind.For = stmt.for_in N p js node own kids all
  each kind.Break = stmt.break_in N p js node own kids all
  each kind.Continue = stmt.continue_in N p js node own kids all
  each kind.Return = stmt.return_in N p js node own kids all
  each kind.Switch = stmt.switch_in N p js node own kids all
  each kind.Case = stmt.case_in N p js node own kids all
  each kind.Default = stmt.default_in N p js node own kids all
  each kind.Paren = parentheses (typing_at js (kid node 0)) (λ x same. typing_in N js (kid node 0) x all same)
  each kind.Char = means_in N (expression (number_of_type int node.label.value)) tt
  each kind.Str = init.string_in N p js nodes all node own kids names
  each kind.Var = expr.named_in N p js node own kids (denoted p.names node.id node.label.text)
  each kind.Unary = one_operand (unary p js node) (λ x h. expr.unary_in N p js node own kids x h)
  each kind.Post = one_operand (postfix_step p js node) (λ x h. expr.postfix_in N p js node own kids x)
  each kind.Binary = two_operands (λ x y. binary_operator js node (value_of x) (value_of y)) (λ x y h k. expr.binary_judged N p js node own kids (value_of x) (value_of y) (value_in N x h) (value_in N y k))
  each kind.Assign = two_operands (λ x y. assign p js node x (value_of y)) (λ x y h k. expr.assign_in N p js node own kids x (value_of y))
  each kind.Cond = chosen
  each kind.Comma = two_operands (λ x y. comma (value_of x) (value_of y)) (λ x y h k. joined (value_of x) (value_of y))
  each kind.Index = two_operands (subscript js node) (λ x y h k. expr.subscript_in N p js node own kids x y h k)
  each kind.Call = one_operand (λ f. call_by js node f f.form) (λ f h. expr.call_in N p js node own kids (λ i k e. listed (suc i) k (rest_at node.kids i k e)) f)
  each kind.Dot = one_operand (dot js node) (λ x h. expr.dot_in N p js node own kids x h)
  each kind.Arrow = one_operand (arrow js node) (λ x h. expr.arrow_in N p js node own kids x)
  each kind.Cast = given_in N (type_at js (kid node 0)) _ (λ t same. given_in N (typing_at js (kid node 1)) _ (λ x also. expr.cast_judged N p js node own kids t (value_of x) (value_in N x (typing_in N js (kid node 1) x all also))))
  each kind.SizeExpr = one_operand (λ x. measured_type js x.type (kid node 0)) (λ x h. expr.measured_in N p js node own kids x.type (kid node 0) (kids 0))
  each kind.SizeType = given_in N (type_at js (kid node 0)) _ (λ t same. expr.measured_in N p js node own kids t (kid node 0) (kids 0))
  each (kind.Int type) = means_in N (expression (number_of_type (integer_type type) node.label.value)) tt

-- ---- all nodes

pushed_in : (N : ℕ) (js : List Judgement) (j : Judgement) → AllIn N js → JudgedIn N j → AllIn N (js ++ j ∷ [])
pushed_in N [] j h k zero = k
pushed_in N [] j h k (suc n) = waits_in N
pushed_in N (x ∷ js) j h k zero = h zero
pushed_in N (x ∷ js) j h k (suc n) = pushed_in N js j (λ i. h (suc i)) k n

abbrev pub AllNodes : (Node → Type 0) → List Node → Type 0
AllNodes P [] = Unit {0}
AllNodes P (m ∷ ms) = P m × AllNodes P ms

pub judged_in : (N : ℕ) (p : Places) → PlacesIn N p → (js : List Judgement) (rest : List Node) → AllIn N js → AllNodes (NodeIn N) rest → AllIn N (judged_from p js rest)
unfolding judged_from
judged_in N p q js [] h ns = h
judged_in N p q js (node ∷ rest) h ns =
    let j = each N p js h node ns.0.own ns.0.kids ns.0.listed q.nodes q.names q.next node.label.kind in
    judged_in N p q (js ++ judged_by p js node node.label.kind ∷ []) rest (pushed_in N js (judged_by p js node node.label.kind) h j) ns.1

own_faults_in : (N : ℕ) (j : Judgement) → JudgedIn N j → AllProper N (faults_in j)
own_faults_in N (means m) h = tt
own_faults_in N (breaks_rules f fs) h = h.holds
own_faults_in N waits h = tt

pub faults_in_bounds : (N : ℕ) (js : List Judgement) → AllIn N js → AllProper N (faults_of js)
faults_in_bounds N [] h = tt
faults_in_bounds N (j ∷ js) h = both_in N (faults_in j) (faults_of js) (own_faults_in N j (h 0)) (faults_in_bounds N js (λ k. h (suc k)))
