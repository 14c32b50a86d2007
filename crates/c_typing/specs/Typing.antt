-- Typing: what each node of a tree means, the faults of all nodes, and the typed unit.
use Rattle.std.specs.Prelude.{true, ◌≡◌, ℕ, ◌+◌, ◌≤◌, List, [], ◌∷◌, ◌++◌, not, Option, Some, None, length, map, filter, filter_map, flat_map, drop, sum, zip, codes, unwrap_or, Contains, Bool, ◌||◌, ◌&&◌, ◌==◌}
use Rattle.std.specs.Option.{is_some}
use Rattle.std.specs.List.{list_any}
use Rattle.c_lexer.specs.declared.token.Token.{Token}
use Rattle.c_lexer.specs.Tokens.{HasTokens}
use Rattle.c_syntax.specs.declared.kind.SynKind.{SynKind}
use Rattle.c_syntax.specs.declared.kind.SynKind.TheVariants as kind
use Rattle.c_syntax.specs.Trees.{Tree, height}
use Rattle.c_grammar.specs.Derivation.{IsTreeOf}
use Rattle.c_types.specs.declared.kind.Measure.{Measure}
use Rattle.c_types.specs.declared.tree.Func.{Func}
use Rattle.c_types.specs.declared.tree.Object.{Object}
use Rattle.c_types.specs.declared.tree.Cell.{Cell}
use Rattle.c_types.specs.declared.tree.Unit.{Unit as Whole}
use Rattle.c_types.specs.InOrder.{offsets}
use Rattle.c_types.specs.Placing.{measures_of}
use Rattle.c_typing.specs.Types.{int, void, is_void, size_of, align_of, is_scalar}
use Rattle.c_typing.specs.Places.{Node, kid, specs_of, node_at}
use Rattle.c_typing.specs.Names.{Places, places, Name, denoted, is_again, objects_of, function_number, function_text, parameters_of, automatics_in, Entity, is_defined_object, function_name, static_object}
use Rattle.c_typing.specs.Judgements.{Typing, Fault, rule, too_big, itself, initialized, defines, Judgement, means, verdict, given, judgement_at, typing_at, type_at, steps_at, code_at, layouts, hidden_in, faults_of, besides}
use Rattle.c_typing.specs.Conversions.{value_of}
use Rattle.c_typing.specs.Rules.{no_main, size_fault, no_definition, function_in_block, bad_operand, is_getchar, is_putchar}
use Rattle.c_typing.specs.Expressions.{expression, number_of_type, integer_type, is_literal, type_of_name, variable, postfix_step, subscript, call_by, dot, arrow, unary, measured_type, cast, binary_operator, conditional, comma, assign}
use Rattle.c_typing.specs.Declarators.{spec_word, specs, struct_specifier, enum_specifier, enumerator_node, declarator, pointer_declarator, array_declarator, function_declarator, member, parameter_node, type_name, place_of_specs}
use Rattle.c_typing.specs.Initializers.{text_cells, string, braces, init_declarator}
use Rattle.c_typing.specs.Statements.{does, as_one, declaration, block_node, expression_statement, empty_statement, if_statement, while_statement, do_statement, for_statement, break_statement, continue_statement, return_statement, case_label, default_label, switch_statement, result_type_of}

-- ---- functions and the unit (6.9)

abbrev pub locals_of : Places → List Judgement → Node → ℕ
locals_of p js node =
    length (parameters_of p node) + length (automatics_in p node) + sum (map hidden_in (drop node.first js))

unfoldable pub function_node : Places → List Judgement → Node → Judgement
function_node p js node =
    given (type_at js (kid node 0)) λ base.
    given (type_at js (kid node 1)) λ t.
    given (code_at js (kid node 2)) λ body.
    means (defines (record { name = function_text p node; params = length (parameters_of p node); locals = locals_of p js node; gives = not (is_void (result_type_of t)); body = as_one body }))

unfoldable pub unit_node : Places → Node → Judgement
unit_node p node = verdict (no_main (is_some (function_number p (codes "main"))) node.id) itself

-- ---- parentheses: of an expression or of a declarator

abbrev pub in_parentheses : Places → List Judgement → Node → Option Typing → Judgement
in_parentheses p js node (Some x) = means (expression x)
in_parentheses p js node None = given (steps_at js (kid node 0)) (declarator p js node)

-- ---- one judgement a node: one line a kind

-- the operands of a node
abbrev pub with_operand : List Judgement → Node → (Typing → Judgement) → Judgement
with_operand js node f = given (typing_at js (kid node 0)) f

abbrev pub with_operands : List Judgement → Node → (Typing → Typing → Judgement) → Judgement
with_operands js node f = given (typing_at js (kid node 0)) λ x. given (typing_at js (kid node 1)) λ y. f x y

abbrev pub choice_node : List Judgement → Node → Judgement
choice_node js node =
    with_operand js node λ c. besides (bad_operand (is_scalar (value_of c).type) node.id) (
    given (typing_at js (kid node 1)) λ x. given (typing_at js (kid node 2)) λ y. conditional js node (value_of c) (value_of x) (value_of y))

abbrev pub call_node : List Judgement → Node → Judgement
call_node js node = with_operand js node λ f. call_by js node f f.form

abbrev pub cast_node : List Judgement → Node → Judgement
cast_node js node = given (type_at js (kid node 0)) λ t. given (typing_at js (kid node 1)) λ x. cast node t (value_of x)

unfoldable pub judged_by : Places → List Judgement → Node → SynKind → Judgement
judged_by p js node kind.Unit = unit_node p node
judged_by p js node kind.Function = function_node p js node
judged_by p js node kind.Declaration = declaration p js node
judged_by p js node kind.InitDecl = init_declarator p js node
judged_by p js node kind.Braces = braces p js node
judged_by p js node kind.Specs = specs p js node
judged_by p js node kind.Word = spec_word p js node
judged_by p js node kind.StructSpec = struct_specifier p js node
judged_by p js node kind.Member = member p js node
judged_by p js node kind.EnumSpec = enum_specifier p js node
judged_by p js node kind.Enumer = enumerator_node p js node
judged_by p js node kind.Ident = declarator p js node []
judged_by p js node kind.NoName = declarator p js node []
judged_by p js node kind.Pointer = pointer_declarator p js node
judged_by p js node kind.ArrayOf = array_declarator p js node
judged_by p js node kind.Takes = function_declarator p js node
judged_by p js node kind.Param = parameter_node js node
judged_by p js node kind.TypeName = type_name js node
judged_by p js node kind.Block = block_node js node
judged_by p js node kind.ExprStmt = expression_statement js node
judged_by p js node kind.Empty = means (does empty_statement)
judged_by p js node kind.If = if_statement js node
judged_by p js node kind.While = while_statement js node
judged_by p js node kind.Do = do_statement js node
judged_by p js node kind.For = for_statement p js node
judged_by p js node kind.Break = break_statement p node
judged_by p js node kind.Continue = continue_statement p node
judged_by p js node kind.Return = return_statement p js node
judged_by p js node kind.Switch = switch_statement js node
judged_by p js node kind.Case = case_label p js node
judged_by p js node kind.Default = default_label p js node
judged_by p js node kind.Paren = in_parentheses p js node (typing_at js (kid node 0))
judged_by p js node (kind.Int type) = means (expression (number_of_type (integer_type type) node.label.value))
judged_by p js node kind.Char = means (expression (number_of_type int node.label.value))
judged_by p js node kind.Str = string p js node
judged_by p js node kind.Var = variable p js node (denoted p.names node.id node.label.text)
judged_by p js node kind.Unary = with_operand js node (unary p js node)
judged_by p js node kind.Post = with_operand js node (postfix_step p js node)
judged_by p js node kind.Binary = with_operands js node λ x y. binary_operator js node (value_of x) (value_of y)
judged_by p js node kind.Assign = with_operands js node λ x y. assign p js node x (value_of y)
judged_by p js node kind.Cond = choice_node js node
judged_by p js node kind.Comma = with_operands js node λ x y. comma (value_of x) (value_of y)
judged_by p js node kind.Index = with_operands js node (subscript js node)
judged_by p js node kind.Call = call_node js node
judged_by p js node kind.Dot = with_operand js node (dot js node)
judged_by p js node kind.Arrow = with_operand js node (arrow js node)
judged_by p js node kind.Cast = cast_node js node
judged_by p js node kind.SizeExpr = with_operand js node λ x. measured_type js x.type (kid node 0)
judged_by p js node kind.SizeType = given (type_at js (kid node 0)) λ t. measured_type js t (kid node 0)

-- the nodes in order, each with what the ones before it mean
unfoldable pub judged_from : Places → List Judgement → List Node → List Judgement
judged_from p js [] = js
judged_from p js (node ∷ rest) = judged_from p (js ++ judged_by p js node node.label.kind ∷ []) rest

abbrev pub judgements_at : Places → List Judgement
judgements_at p = judged_from p [] p.nodes

-- ---- the data (6.9.2): objects in the order of their first declarations, then the string literals

-- the cells of the declaration that has them
abbrev pub cells_in : Judgement → List Cell
cells_in (means (initialized t ss cells)) = cells
cells_in j = []

abbrev pub declarations_of : Places → Name → List Name
declarations_of p e = filter (λ a. is_again a e) p.names

abbrev pub object_of : Places → List Judgement → Name → Object
object_of p js e =
    let t = unwrap_or (type_of_name js e) void in
    record { name = e.text; size = size_of (layouts js) t; align = align_of (layouts js) t; cells = flat_map (λ (a : Name). cells_in (judgement_at js a.owner)) (declarations_of p e) }

abbrev pub literal_object : List ℕ → Object
literal_object bytes = record { name = []; size = length bytes + 1; align = 1; cells = text_cells 0 bytes }

abbrev pub literals_of : Places → List Judgement → List Node
literals_of p js = map (λ q. q.0) (filter is_literal (zip p.nodes js))

abbrev pub data_of : Places → List Judgement → List Object
data_of p js = map (object_of p js) (objects_of p) ++ map (λ (n : Node). literal_object n.label.bytes) (literals_of p js)

-- the node of each of them: the declarator of the first declaration, the literal
abbrev pub data_nodes : Places → List Judgement → List ℕ
data_nodes p js = map (λ (e : Name). e.behind) (objects_of p) ++ map (λ (n : Node). n.id) (literals_of p js)

-- where an object ends above the limit
abbrev pub end_faults : List ℕ → List Measure → List ℕ → List Fault
end_faults (at ∷ ats) (m ∷ ms) (n ∷ ns) = size_fault (at + m.size) n ++ end_faults ats ms ns
end_faults ats ms ns = []

abbrev pub data_faults : Places → List Judgement → List Fault
data_faults p js = let ms = measures_of (data_of p js) in end_faults (offsets ms) ms (data_nodes p js)

-- ---- the whole

abbrev pub defined_in : Judgement → Option Func
defined_in (means (defines f)) = Some f
defined_in j = None

abbrev pub unit_in : Places → List Judgement → Whole
unit_in p js = record { objects = data_of p js; functions = filter_map defined_in js }

-- ---- rules that are seen by places alone: a name that is used, and a function declared in a block

abbrev pub is_there : Places → Name → Entity → Bool
is_there p e function_name = is_getchar e.text || is_putchar e.text || is_some (function_number p e.text)
is_there p e static_object = is_defined_object p e
is_there p e entity = true

abbrev pub use_faults : Places → Node → Option Name → List Fault
use_faults p node None = []
use_faults p node (Some e) = no_definition (is_there p e e.entity) node.id

-- the specs stand before a name of function type
abbrev pub stand_before_function : Places → Node → Bool
stand_before_function p specs = list_any (λ (e : Name). e.is_function && (specs_of p.nodes (node_at p.nodes e.owner)).id == specs.id) p.names

abbrev pub place_faults_by : Places → Node → SynKind → List Fault
place_faults_by p node kind.Var = use_faults p node (denoted p.names node.id node.label.text)
place_faults_by p node kind.Specs = function_in_block (place_of_specs p node) (stand_before_function p node) node.id
place_faults_by p node k = []

abbrev pub place_faults : Places → List Fault
place_faults p = flat_map (λ (node : Node). place_faults_by p node node.label.kind) p.nodes

-- where no node has one, the ends of the data are looked at
abbrev pub all_faults : Places → List Judgement → List Fault
all_faults p js = by (place_faults p ++ faults_of js)
  where
    by : List Fault → List Fault
    by [] = data_faults p js
    by (f ∷ fs) = f ∷ fs

unfoldable pub faults : Tree → List Fault
faults t = let p = places t in all_faults p (judgements_at p)

unfoldable pub unit_of : Tree → Whole
unit_of t = let p = places t in unit_in p (judgements_at p)

-- the rule of this number is broken at this node
abbrev pub Breaks : ℕ → ℕ → Tree → Type 0
Breaks r node t = Contains (faults t) (rule r node)

-- a type, or the end of an object or literal, at this node has this size, which is above the limit
abbrev pub TooBig : ℕ → ℕ → Tree → Type 0
TooBig node size t = Contains (faults t) (too_big node size)

-- no rule is broken, no size is above the limit, and this is the unit
pub record IsTyped (t : Tree) (u : Whole) : Type 0 where
  pub keeps : faults t ≡ []
  pub unit : unit_of t ≡ u

abbrev pub max_bytes : ℕ
max_bytes = 4194304

-- a unit that is compiled: so many bytes at most, with tokens, which have a tree of at most so many levels, which is typed
pub record IsAccepted (bytes : List ℕ) (u : Whole) : Type 0 where
  pub short : length bytes ≤ max_bytes
  pub tokens : List Token
  pub lexed : HasTokens bytes tokens
  pub tree : Tree
  pub parsed : IsTreeOf tokens tree
  pub low : height tree ≤ 500
  pub typed : IsTyped tree u
