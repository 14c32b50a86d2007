-- Initializers: each value and each pair of braces has the type that it initializes by its place. C99 6.7.8; brace elision is left out.
use Rattle.std.specs.Prelude.{ℕ, zero, suc, ◌+◌, ◌-◌, ◌*◌, Bool, true, false, List, [], ◌∷◌, ◌++◌, ◌&&◌, ◌||◌, ◌==◌, not, nat_lt, if◌then◌else◌, Option, Some, None, length, map, slice_get, unwrap_or, option_map, option_and_then, flat_map}
use Rattle.std.specs.Option.{is_some}
use Rattle.std.specs.List.{range_with_len}
use Rattle.c_syntax.specs.declared.kind.SynKind.{SynKind}
use Rattle.c_syntax.specs.declared.kind.SynKind.TheVariants as kind
use Rattle.c_types.specs.declared.tree.Cell.{Cell}
use Rattle.c_types.specs.declared.tree.CellValue.{CellValue}
use Rattle.c_types.specs.declared.tree.CellValue.TheVariants.{Number, Address}
use Rattle.c_types.specs.declared.tree.Stmt.{Stmt}
use Rattle.c_types.specs.Forms.{set_local, drop_expr, unset}
use Rattle.c_typing.specs.Types.{CType, array, unsized, struct, Field, Layout, layout_of, size_of, is_text_array, is_array, is_struct, is_scalar, is_unsized}
use Rattle.c_typing.specs.Places.{Node, node_at, kind_at, parent_of, kid, has_kid, index_in, is_braces, is_string, is_init, next_to_name, nowhere, around}
use Rattle.c_typing.specs.Names.{Places, Name, Entity, static_object, automatic, is_static, name_of, local_number}
use Rattle.c_typing.specs.Judgements.{Constant, number, address_of, Typing, Fault, fills_array, initial, initialized, Judgement, means, verdict, given, all_of, judgement_at, typing_at, type_at, layouts, besides}
use Rattle.c_typing.specs.Conversions.{value_of, converted_to, converted_word}
use Rattle.c_typing.specs.Rules.{bad_conversion, not_constant_for, out_of_range, bad_initializer, declared_twice, size_fault, absent_length}
use Rattle.c_typing.specs.Expressions.{literal, expression}
use Rattle.c_typing.specs.Declarators.{type_before}

-- ---- what a value or a pair of braces initializes

-- a string alone in one pair of braces initializes a char array (6.7.8, 14)
abbrev pub is_text_alone : Places → CType → Node → Bool
is_text_alone p t braces = is_text_array t && length braces.kids == 1 && is_string (kind_at p.nodes (kid braces 0))

-- the part of this index of an object of this type; of a scalar, the scalar
abbrev pub part_type : List Layout → CType → ℕ → Option CType
part_type ls (array t n) i = if nat_lt i n then Some t else None
part_type ls (unsized t) i = Some t
part_type ls (struct k) i = option_and_then (λ (l : Layout). option_map (λ (f : Field). f.type) (slice_get l.fields i)) (layout_of ls k)
part_type ls t i = Some t

abbrev pub part_offset : List Layout → CType → ℕ → ℕ
part_offset ls (array t n) i = i * size_of ls t
part_offset ls (unsized t) i = i * size_of ls t
part_offset ls (struct k) i = unwrap_or (option_and_then (λ (l : Layout). option_map (λ (f : Field). f.offset) (slice_get l.fields i)) (layout_of ls k)) 0
part_offset ls t i = 0

abbrev pub part_of : Places → List Layout → Node → ℕ → CType → Option CType
part_of p ls braces i t = if is_text_alone p t braces then Some t else part_type ls t i

-- an object: typedefs and functions have no initializer
abbrev pub is_object : Entity → Bool
is_object static_object = true
is_object automatic = true
is_object e = false

abbrev pub declared_object : Places → Node → Option Name
declared_object p init = by (name_of p (node_at p.nodes (kid init 0)).first)
  where
    by : Option Name → Option Name
    by None = None
    by (Some e) = if is_object e.entity then Some e else None

abbrev pub target_by : Places → List Judgement → Node → ℕ → Option CType → SynKind → Option CType
target_by p js outer n above kind.InitDecl =
    if kid outer 0 == n then None else option_and_then (λ (e : Name). type_at js (kid outer 0)) (declared_object p outer)
target_by p js outer n above kind.Braces = option_and_then (part_of p (layouts js) outer (index_in outer.kids n)) above
target_by p js outer n above k = None

-- the type of what the node n initializes, at most so many braces deep
abbrev pub target_within : Places → List Judgement → ℕ → ℕ → Option CType
target_within p js zero n = None
target_within p js (suc deep) n =
    let outer = parent_of p.nodes n in
    let above = target_within p js deep outer.id in
    target_by p js outer n above outer.label.kind

abbrev pub target : Places → List Judgement → ℕ → Option CType
target p js n = target_within p js (length p.nodes) n

-- ---- string literals (6.4.5; 6.7.8, 14)

abbrev pub fills : Option CType → Bool
fills None = false
fills (Some t) = is_text_array t

-- the array that a literal is may be above the limit
abbrev pub literal_faults : Node → List Fault
literal_faults node = size_fault (length node.label.bytes + 1) node.id

unfoldable pub string : Places → List Judgement → Node → Judgement
string p js node = if fills (target p js node.id) then means fills_array else verdict (literal_faults node) (expression (literal p js node.label.bytes))

-- ---- the cells of a static object

abbrev pub cell : ℕ → ℕ → CellValue → List Cell
cell at width value = record { offset = at; width = width; value = value } ∷ []

abbrev pub constant_cell : CType → ℕ → ℕ → Constant → List Cell
constant_cell t at size (address_of o a) = cell at size (Address o a)
constant_cell t at size (number w) = cell at size (Number (converted_word t w))
constant_cell t at size c = cell at size (Number 0)

-- one for each byte of a string, which leaves its zero
abbrev pub text_cells : ℕ → List ℕ → List Cell
text_cells at [] = []
text_cells at (b ∷ bs) = cell at 1 (Number b) ++ text_cells (at + 1) bs

abbrev pub moved : ℕ → Cell → Cell
moved by c = record c { offset = by + c.offset }

pub record Part : Type 0 where
  pub cells : List Cell
  pub faults : List Fault

abbrev pub part : List Cell → List Fault → Part
part cells faults = record { cells = cells; faults = faults }

abbrev pub is_too_long : CType → ℕ → Bool
is_too_long (array t n) bytes = nat_lt n bytes
is_too_long t bytes = false

-- a scalar (6.7.8, 11)
abbrev pub scalar_part : List Layout → Bool → CType → Typing → ℕ → Part
scalar_part ls static t v n =
    part (if static then constant_cell t 0 (size_of ls t) v.constant else [])
    (bad_conversion t v n ++ (if static then not_constant_for t v.constant n ++ out_of_range v.constant else []))

-- the value n for an object of this type
abbrev pub value_part : List Layout → Bool → CType → ℕ → Option Typing → Option Part
value_part ls static t n None = None
value_part ls static t n (Some x) =
    if is_array t || is_struct t then Some (part [] (bad_initializer true n)) else Some (scalar_part ls static t (value_of x) n)

abbrev pub braced_part : ℕ → Bool → Judgement → Option Part
braced_part n again (means (initial count cells)) = Some (part cells (bad_initializer again n))
braced_part n again j = None

abbrev pub part_by : Places → List Judgement → Bool → Bool → CType → Node → SynKind → Option Part
part_by p js static again t node kind.Braces = braced_part node.id again (judgement_at js node.id)
part_by p js static again t node kind.Str =
    if is_text_array t then Some (part (text_cells 0 node.label.bytes) (bad_initializer (is_too_long t (length node.label.bytes)) node.id))
    else value_part (layouts js) static t node.id (typing_at js node.id)
part_by p js static again t node k = value_part (layouts js) static t node.id (typing_at js node.id)

-- the initializer n for an object of this type; `again`: it stands in braces that initialize the same scalar
abbrev pub part_for : Places → List Judgement → Bool → Bool → CType → ℕ → Option Part
part_for p js static again t n = part_by p js static again t (node_at p.nodes n) (kind_at p.nodes n)

-- ---- braces

-- the kid of this index, for an object of type t; what stands behind the last part is counted as too many
abbrev pub kid_part : Places → List Judgement → Bool → CType → Node → ℕ → Option Part
kid_part p js static t braces i = by (part_of p (layouts js) braces i t)
  where
    by : Option CType → Option Part
    by None = Some (part [] [])
    by (Some u) = option_map (λ (q : Part). record q { cells = map (moved (part_offset (layouts js) t i)) q.cells })
        (part_for p js static (is_scalar t) u (kid braces i))

-- how many parts an object has
abbrev pub has_part : Places → List Layout → CType → Node → ℕ → Bool
has_part p ls (array t n) braces i = is_some (part_of p ls braces i (array t n))
has_part p ls (struct k) braces i = is_some (part_of p ls braces i (struct k))
has_part p ls (unsized t) braces i = true
has_part p ls t braces i = i == 0

abbrev pub too_many : Places → List Layout → CType → Node → List Fault
too_many p ls t braces = bad_initializer (not (has_part p ls t braces (length braces.kids - 1))) braces.id

-- how many elements they give an array without a length
abbrev pub count_in : Places → CType → Node → ℕ
count_in p t braces = if is_text_alone p t braces then length (node_at p.nodes (kid braces 0)).label.bytes + 1 else length braces.kids

abbrev pub init_around : Places → Node → Option Name
init_around p node = by (around (λ n. is_init n.label.kind) p.nodes node.id)
  where
    by : Option Node → Option Name
    by None = None
    by (Some init) = declared_object p init

abbrev pub is_static_name : Option Name → Bool
is_static_name None = false
is_static_name (Some e) = is_static e.entity

unfoldable pub braces_for : Places → List Judgement → Node → CType → Judgement
braces_for p js node t =
    besides (too_many p (layouts js) t node) (
    given (all_of (map (kid_part p js (is_static_name (init_around p node)) t node) (range_with_len 0 (length node.kids)))) λ parts.
    verdict (flat_map (λ (q : Part). q.faults) parts) (initial (count_in p t node) (flat_map (λ (q : Part). q.cells) parts)))

-- those of a typedef or a function, and those behind the last part, initialize nothing
abbrev pub braces_by : Places → List Judgement → Node → Option CType → Judgement
braces_by p js node None = means (initial 0 [])
braces_by p js node (Some t) = braces_for p js node t

unfoldable pub braces : Places → List Judgement → Node → Judgement
braces p js node = braces_by p js node (target p js node.id)

-- ---- declarators with their initializers

-- the value of a scalar, in one pair of braces or none
abbrev pub sole_value : Places → ℕ → ℕ
sole_value p n = if is_braces (kind_at p.nodes n) then kid (node_at p.nodes n) 0 else n

abbrev pub initial_code : ℕ → CType → Option Typing → List Stmt
initial_code k t None = []
initial_code k t (Some x) = drop_expr (set_local k (converted_to t (value_of x))) ∷ []

abbrev pub object_code : Places → List Judgement → Name → CType → ℕ → Entity → List Stmt
object_code p js e t n automatic = initial_code (local_number p e) t (typing_at js (sole_value p n))
object_code p js e t n entity = []

-- how many elements an initializer gives
abbrev pub given_by_braces : Judgement → Option ℕ
given_by_braces (means (initial count cells)) = Some count
given_by_braces j = None

abbrev pub given_count : Places → List Judgement → Node → SynKind → Option ℕ
given_count p js node kind.Braces = given_by_braces (judgement_at js node.id)
given_count p js node kind.Str = Some (length node.label.bytes + 1)
given_count p js node k = None

abbrev pub completed : CType → Option ℕ → CType
completed (unsized t) (Some n) = array t n
completed t n = t

-- what is asked of an array that has its length only now; at the part of the declarator that is the array
abbrev pub completed_faults : Places → List Judgement → Name → CType → CType → ℕ → List Fault
completed_faults p js e (unsized u) t array_of =
    (if is_unsized t then absent_length array_of else size_fault (size_of (layouts js) t) array_of) ++ declared_twice p e t (type_before p js e) e.node
completed_faults p js e before t array_of = []

unfoldable pub initialized_object : Places → List Judgement → ℕ → Name → CType → Part → Judgement
initialized_object p js n e before q =
    let t = completed before (given_count p js (node_at p.nodes n) (kind_at p.nodes n)) in
    verdict (q.faults ++ completed_faults p js e before t (unwrap_or (next_to_name p.nodes e.node) nowhere).id)
    (initialized t (object_code p js e t n e.entity) q.cells)

abbrev pub bare_code : Places → Name → Entity → List Stmt
bare_code p e automatic = unset (local_number p e) ∷ []
bare_code p e entity = []

unfoldable pub init_by : Places → List Judgement → Node → CType → Name → Judgement
init_by p js node t e =
    if has_kid node 1 then
    (if is_object e.entity then given (part_for p js (is_static e.entity) false t (kid node 1)) (initialized_object p js (kid node 1) e t)
    else verdict (bad_initializer true (kid node 1)) (initialized t [] []))
    else means (initialized t (bare_code p e e.entity) [])

unfoldable pub init_declarator : Places → List Judgement → Node → Judgement
init_declarator p js node =
    given (type_at js (kid node 0)) λ t. given (name_of p (node_at p.nodes (kid node 0)).first) (init_by p js node t)
