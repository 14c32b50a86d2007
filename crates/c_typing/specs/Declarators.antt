-- Types of specs and declarators: built from the specs inwards, while the nodes of a declarator mean how it makes a type, from the
-- name outwards. C99 6.7.1 to 6.7.7.
use Rattle.std.specs.Prelude.{ℕ, zero, slice_get, ◌+◌, ◌-◌, ◌*◌, ◌%◌, ◌^◌, Bool, true, false, List, [], ◌∷◌, ◌++◌, ◌&&◌, ◌||◌, ◌==◌, not, if◌then◌else◌, Option, Some, None, length, filter, map, find, codes, unwrap_or, option_map, flat_map, option_and_then, take, position, filter_map}
use Rattle.std.specs.List.{list_any, list_all, last_or}
use Rattle.std.specs.Option.{is_some}
use Rattle.std.specs.Str.{bytes_eq}
use Rattle.c_syntax.specs.declared.kind.SynKind.{SynKind}
use Rattle.c_syntax.specs.declared.kind.SynKind.TheVariants as kind
use Rattle.c_grammar.specs.Vocabulary.{is_type_word, is_storage_word}
use Rattle.c_types.specs.InOrder.{offsets}
use Rattle.c_types.specs.Sizes.{struct_measure}
use Rattle.c_typing.specs.Types.{bool, char, schar, uchar, short, ushort, int, uint, long, ulong, CType, void, integer, pointer, array, unsized, struct, function, types_of, Field, Layout, measure, no_measure, size_of, is_unsized}
use Rattle.c_typing.specs.Places.{Node, node_at, kind_at, text_at, parent_of, kid, has_kid, other_kids, index_in, is_word, is_whole, is_next_to_name, whole_declarator, own_takes, specs_of, says, is_init, is_param}
use Rattle.c_typing.specs.Names.{Places, Name, Entity, typedef_name, function_name, static_object, automatic, parameter, enumerator, is_typedef, denoted, name_of, Tag, tag_of, earlier}
use Rattle.c_typing.specs.Judgements.{Constant, number, Typing, Step, to_pointer, of_array, of_unsized, of_parameter, of_function, PlacedStep, Fault, itself, a_type, a_struct, members, enumerates, steps, declares, Judgement, means, verdict, given, all_of, judgement_at, typing_at, type_at, steps_at, layouts, besides}
use Rattle.c_typing.specs.Expressions.{type_of_name, word_of_enumerator}
use Rattle.c_typing.specs.Rules.{bad_type_words, SpecsPlace, in_unit, of_definition, in_block, in_for, of_parameter, of_member_or_type_name, bad_storage_class, declared_twice, stands_twice, unknown_name, incomplete_type, absent_length, bad_array_length, not_constant, out_of_range, no_int, broken_if, local_array_or_struct, not_a_function, many_parameters, bad_parameter, bad_result, bad_main, bad_library_name, size_fault}

-- ---- specs (6.7.1, 6.7.2)

-- the types that words name, in any order (6.7.2, 2)
abbrev pub type_words : List (List (List ℕ) × CType)
type_words =
    (codes "void" ∷ [], void) ∷
    (codes "_Bool" ∷ [], integer bool) ∷
    (codes "char" ∷ [], integer char) ∷
    (codes "signed" ∷ codes "char" ∷ [], integer schar) ∷
    (codes "unsigned" ∷ codes "char" ∷ [], integer uchar) ∷
    (codes "short" ∷ [], integer short) ∷
    (codes "signed" ∷ codes "short" ∷ [], integer short) ∷
    (codes "short" ∷ codes "int" ∷ [], integer short) ∷
    (codes "signed" ∷ codes "short" ∷ codes "int" ∷ [], integer short) ∷
    (codes "unsigned" ∷ codes "short" ∷ [], integer ushort) ∷
    (codes "unsigned" ∷ codes "short" ∷ codes "int" ∷ [], integer ushort) ∷
    (codes "int" ∷ [], integer int) ∷
    (codes "signed" ∷ [], integer int) ∷
    (codes "signed" ∷ codes "int" ∷ [], integer int) ∷
    (codes "unsigned" ∷ [], integer uint) ∷
    (codes "unsigned" ∷ codes "int" ∷ [], integer uint) ∷
    (codes "long" ∷ [], integer long) ∷
    (codes "signed" ∷ codes "long" ∷ [], integer long) ∷
    (codes "long" ∷ codes "int" ∷ [], integer long) ∷
    (codes "signed" ∷ codes "long" ∷ codes "int" ∷ [], integer long) ∷
    (codes "unsigned" ∷ codes "long" ∷ [], integer ulong) ∷
    (codes "unsigned" ∷ codes "long" ∷ codes "int" ∷ [], integer ulong) ∷ []

abbrev pub count_of : List (List ℕ) → List ℕ → ℕ
count_of words text = length (filter (λ w. bytes_eq w text) words)

-- the same words, each as often
abbrev pub are_same_words : List (List ℕ) → List (List ℕ) → Bool
are_same_words words row = length words == length row && list_all (λ w. count_of words w == count_of row w) words

-- the type that specs say by words for types and by a struct, an enum or a typedef name
abbrev pub said_type : List (List ℕ) → List CType → Option CType
said_type words [] = option_map (λ row. row.1) (find (λ row. are_same_words words row.0) type_words)
said_type [] (t ∷ []) = Some t
said_type words types = None

-- a word among specs; one that is no keyword is a typedef name (6.7.7)
unfoldable pub typedef_type : List Judgement → Node → Option Name → Judgement
typedef_type js node None = verdict (bad_type_words None node.id) itself
typedef_type js node (Some e) =
    if is_typedef e.entity then given (type_of_name js e) (λ t. means (a_type t)) else verdict (bad_type_words None node.id) itself

unfoldable pub spec_word : Places → List Judgement → Node → Judgement
spec_word p js node =
    if is_storage_word node.label.text || is_type_word node.label.text then means itself
    else typedef_type js node (denoted p.names node.id node.label.text)

abbrev pub spec_meaning : Judgement → Option (List CType)
spec_meaning (means itself) = Some []
spec_meaning (means (a_type t)) = Some (t ∷ [])
spec_meaning (means (a_struct l)) = Some (struct l.number ∷ [])
spec_meaning j = None

abbrev pub is_storage : List ℕ → Bool
is_storage text = is_storage_word text && not (bytes_eq text (codes "const"))

-- where specs stand, by their parent, and by its parent
abbrev pub specs_place : SynKind → SynKind → SpecsPlace
specs_place kind.Function outer = of_definition
specs_place kind.Param outer = of_parameter
specs_place kind.Declaration kind.Unit = in_unit
specs_place kind.Declaration kind.For = in_for
specs_place kind.Declaration outer = in_block
specs_place owner outer = of_member_or_type_name

abbrev pub place_of_specs : Places → Node → SpecsPlace
place_of_specs p node =
    let owner = parent_of p.nodes node.id in specs_place owner.label.kind (parent_of p.nodes owner.id).label.kind

unfoldable pub specs : Places → List Judgement → Node → Judgement
specs p js node =
    let words = map (text_at p.nodes) (filter (λ n. is_word (kind_at p.nodes n)) node.kids) in
    besides (bad_storage_class (place_of_specs p node) (filter is_storage words) node.id) (
    given (all_of (map (λ n. spec_meaning (judgement_at js n)) node.kids)) λ types.
    let type = said_type (filter is_type_word words) (flat_map (λ ts. ts) types) in
    verdict (bad_type_words type node.id) (a_type (unwrap_or type void)))

-- ---- structs and enums (6.7.2.1 to 6.7.2.3)

abbrev pub tag_names : Node → Option Tag → ℕ
tag_names node tag = unwrap_or (option_map (λ (e : Tag). e.names) tag) node.id

-- the tags before this one, by their first tokens
abbrev pub tags_before : Places → Tag → List Tag
tags_before p e = take (unwrap_or (position (λ (a : Tag). a.node == e.node) p.tags) 0) p.tags

-- the tag names what was declared as the other kind, or what has a body already
abbrev pub tag_faults : Places → Node → Option Tag → List Fault
tag_faults p node None = []
tag_faults p node (Some e) =
    stands_twice (e.clashes || (e.has_body && list_any (λ (a : Tag). a.names == e.names && a.has_body) (tags_before p e))) node.id

abbrev pub members_of : Judgement → Option (List Field)
members_of (means (members fs)) = Some fs
members_of j = None

abbrev pub field_named : List ℕ → List Field → Bool
field_named text fields = list_any (λ (f : Field). bytes_eq f.name text) fields

abbrev pub has_repeated : List Field → Bool
has_repeated [] = false
has_repeated (f ∷ rest) = field_named f.name rest || has_repeated rest

-- a name of this member stands in it twice, or in one before (6.7.2.1)
abbrev pub member_faults : List Field → List (List Field) → List ℕ → List Fault
member_faults before (fs ∷ rest) (n ∷ ns) =
    stands_twice (has_repeated fs || list_any (λ (f : Field). field_named f.name before) fs) n ++ member_faults (before ++ fs) rest ns
member_faults before fs ns = []

-- each member at its offset (6.7.2.1, 12 and 13)
abbrev pub laid : List Field → List ℕ → List Field
laid (f ∷ fs) (at ∷ ats) = record f { offset = at } ∷ laid fs ats
laid fs ats = []

abbrev pub layout : List Layout → ℕ → List Field → Layout
layout ls k fields =
    let ms = map (λ (f : Field). unwrap_or (measure ls f.type) no_measure) fields in
    record { number = k; fields = laid fields (offsets ms); measure = struct_measure ms }

unfoldable pub struct_body : Places → List Judgement → Node → Judgement
struct_body p js node =
    let parts = map (λ n. members_of (judgement_at js n)) node.kids in
    besides (tag_faults p node (tag_of p node.id) ++ member_faults [] (map (λ part. unwrap_or part []) parts) node.kids) (
    given (all_of parts) λ fields.
    let l = layout (layouts js) (tag_names node (tag_of p node.id)) (flat_map (λ fs. fs) fields) in
    verdict (size_fault l.measure.size node.id) (a_struct l))

unfoldable pub struct_specifier : Places → List Judgement → Node → Judgement
struct_specifier p js node =
    if has_kid node 0 then struct_body p js node
    else verdict (tag_faults p node (tag_of p node.id)) (a_type (struct (tag_names node (tag_of p node.id))))

-- an enum without a body names one that is in scope
abbrev pub is_known_enum : Node → Option Tag → Bool
is_known_enum node None = true
is_known_enum node (Some e) = has_kid node 0 || not e.is_new

unfoldable pub enum_specifier : Places → List Judgement → Node → Judgement
enum_specifier p js node =
    besides (unknown_name (is_known_enum node (tag_of p node.id)) node.id ++ tag_faults p node (tag_of p node.id)) (
    given (all_of (map (λ n. word_of_enumerator (judgement_at js n)) node.kids)) λ values. means (a_type (integer int)))

-- the type that the name had when it was declared last
abbrev pub type_before : Places → List Judgement → Name → Option CType
type_before p js e = option_and_then (type_of_name js) (last_or None (earlier p e))

abbrev pub enumerator_faults : Places → List Judgement → Node → Option Name → List Fault
enumerator_faults p js node None = []
enumerator_faults p js node (Some e) =
    declared_twice p e (integer int) None node.id ++ bad_library_name e.text false (integer int) node.id

abbrev pub word_in : Constant → ℕ
word_in (number w) = w
word_in c = 0

-- with a value of its own, or one more than the enumerator before (6.7.2.2, 3)
unfoldable pub enumerator_after : Places → List Judgement → Node → List ℕ → ℕ → Judgement
enumerator_after p js node siblings zero = verdict (enumerator_faults p js node (name_of p node.id)) (enumerates 0)
enumerator_after p js node siblings i =
    given (word_of_enumerator (judgement_at js (unwrap_or (slice_get siblings (i - 1)) 0))) λ w.
    verdict (enumerator_faults p js node (name_of p node.id) ++ broken_if (w == 2 ^ 31 - 1) 9 node.id) (enumerates ((w + 1) % 2 ^ 32))

unfoldable pub enumerator_value : Places → List Judgement → Node → Judgement
enumerator_value p js node =
    given (typing_at js (kid node 0)) λ x.
    verdict (enumerator_faults p js node (name_of p node.id) ++ not_constant x.constant (kid node 0) ++ out_of_range x.constant ++ no_int x.type x.constant (kid node 0))
    (enumerates (word_in x.constant))

unfoldable pub enumerator_node : Places → List Judgement → Node → Judgement
enumerator_node p js node =
    let siblings = (parent_of p.nodes node.id).kids in
    if has_kid node 0 then enumerator_value p js node else enumerator_after p js node siblings (index_in siblings node.id)

-- ---- types of declarators (6.7.5)

pub record Built : Type 0 where
  pub type : CType
  pub faults : List Fault

abbrev pub built : CType → List Fault → Built
built type faults = record { type = type; faults = faults }

-- an element has a size, and the array is within the limit
abbrev pub array_faults : List Layout → CType → ℕ → ℕ → List Fault
array_faults ls t count n = incomplete_type ls t n ++ size_fault (count * size_of ls t) n

-- a type made of another one, at this node
abbrev pub stepped_type : List Layout → Step → ℕ → CType → Built
stepped_type ls to_pointer n t = built (pointer t) []
stepped_type ls (of_array count) n t = built (array t count) (array_faults ls t count n)
stepped_type ls of_unsized n t = built (unsized t) (incomplete_type ls t n)
stepped_type ls Step.of_parameter n t = built (pointer t) (incomplete_type ls t n)
stepped_type ls (of_function ps) n t = built (function t ps) (bad_result t n)

abbrev pub stepped_from : List Layout → PlacedStep → Built → Built
stepped_from ls s b = by b.faults
  where
    by : List Fault → Built
    by [] = stepped_type ls s.step s.node b.type
    by faults = b

-- the type of a name with these steps, from the name on: the last one takes the type of the specs
abbrev pub build : List Layout → CType → List PlacedStep → Built
build ls base [] = built base []
build ls base (s ∷ rest) = stepped_from ls s (build ls base rest)

-- an array that a parameter has by a typedef name is a pointer too (6.7.5.3, 7)
abbrev pub adjusted : SynKind → CType → CType
adjusted kind.Param (array t n) = pointer t
adjusted k t = t

-- ---- what is asked of what a declarator declares

abbrev pub object_size : List Layout → CType → ℕ → List Fault
object_size ls t n = if is_unsized t then [] else incomplete_type ls t n

-- of a parameter: a struct or a function breaks another rule
abbrev pub parameter_size : CType → ℕ → List Fault
parameter_size void n = incomplete_type [] void n
parameter_size t n = []

abbrev pub name_faults : Places → List Judgement → Name → CType → ℕ → Bool → List Fault
name_faults p js e t n as_function =
    declared_twice p e t (type_before p js e) e.node ++ bad_library_name e.text as_function t n

abbrev pub declared_faults : Places → List Judgement → Name → CType → ℕ → Bool → Entity → List Fault
declared_faults p js e t n defines typedef_name = name_faults p js e t n false
declared_faults p js e t n defines function_name = name_faults p js e t n (not defines) ++ bad_main e.text t n
declared_faults p js e t n defines static_object = object_size (layouts js) t n ++ name_faults p js e t n false
declared_faults p js e t n defines automatic = object_size (layouts js) t n ++ local_array_or_struct t n ++ name_faults p js e t n false
declared_faults p js e t n defines (parameter i) = parameter_size t n ++ name_faults p js e t n false
declared_faults p js e t n defines enumerator = []

abbrev pub whole_by : Places → List Judgement → Node → CType → Option Name → SynKind → List Fault
whole_by p js node t name kind.TypeName = []
whole_by p js node t name kind.Member = incomplete_type (layouts js) t node.id
whole_by p js node t None k = parameter_size t node.id
whole_by p js node t (Some e) kind.Function =
    if is_some (own_takes p.nodes (parent_of p.nodes node.id)) then declared_faults p js e t node.id true e.entity else not_a_function false node.id
whole_by p js node t (Some e) k = declared_faults p js e t node.id false e.entity

unfoldable pub whole_type : Places → List Judgement → Node → Node → Built → Judgement
whole_type p js node owner b = by b.faults
  where
    by : List Fault → Judgement
    by [] = let t = adjusted owner.label.kind b.type in
        verdict (whole_by p js node t (name_of p node.first) owner.label.kind) (declares t)
    by faults = verdict faults (declares b.type)

-- a declarator that is no part of another one has a type
unfoldable pub declarator : Places → List Judgement → Node → List PlacedStep → Judgement
declarator p js node ss =
    let owner = parent_of p.nodes node.id in
    if is_whole p.nodes node then given (type_at js (specs_of p.nodes owner).id) (λ base. whole_type p js node owner (build (layouts js) base ss))
    else means (steps ss)

abbrev pub with_step : List PlacedStep → Node → Step → List PlacedStep
with_step ss node step = ss ++ record { node = node.id; step = step } ∷ []

unfoldable pub pointer_declarator : Places → List Judgement → Node → Judgement
pointer_declarator p js node = given (steps_at js (kid node 0)) λ ss. declarator p js node (with_step ss node to_pointer)

-- the outermost length of a parameter is not looked at
abbrev pub is_parameter_length : Places → Node → Bool
is_parameter_length p node =
    is_next_to_name p.nodes node && is_param (node_at p.nodes (whole_declarator p.nodes node.first).parent).label.kind

-- a typedef name has no initializer that gives a length
abbrev pub is_given_by_initializer : Places → Node → Bool
is_given_by_initializer p node =
    let owner = node_at p.nodes (whole_declarator p.nodes node.first).parent in
    is_next_to_name p.nodes node && is_init owner.label.kind && has_kid owner 1 && not (says p.nodes (codes "typedef") (specs_of p.nodes owner))

unfoldable pub absent_length_step : Places → List Judgement → Node → List PlacedStep → Judgement
absent_length_step p js node ss =
    if is_parameter_length p node then declarator p js node (with_step ss node Step.of_parameter) else
    if is_given_by_initializer p node then declarator p js node (with_step ss node of_unsized)
    else verdict (absent_length node.id) (steps ss)

abbrev pub length_faults : Typing → ℕ → ℕ → List Fault
length_faults x n at = not_constant x.constant n ++ out_of_range x.constant ++ bad_array_length x at

unfoldable pub length_step : Places → List Judgement → Node → List PlacedStep → Typing → Judgement
length_step p js node ss x =
    if is_parameter_length p node then declarator p js node (with_step ss node Step.of_parameter) else by (length_faults x (kid node 1) node.id)
  where
    by : List Fault → Judgement
    by [] = declarator p js node (with_step ss node (of_array (word_in x.constant)))
    by faults = verdict faults (steps ss)

unfoldable pub array_declarator : Places → List Judgement → Node → Judgement
array_declarator p js node =
    given (steps_at js (kid node 0)) λ ss.
    if has_kid node 1 then given (typing_at js (kid node 1)) (length_step p js node ss) else absent_length_step p js node ss

unfoldable pub function_declarator : Places → List Judgement → Node → Judgement
function_declarator p js node =
    let parts = map (type_at js) (other_kids node) in
    besides (many_parameters (length parts) node.id ++ bad_parameter (filter_map (λ part. part) parts) node.id) (
    given (steps_at js (kid node 0)) λ ss.
    given (all_of parts) λ types. declarator p js node (with_step ss node (of_function (types_of types))))

-- ---- members, parameters, names of types

abbrev pub member_at : Places → List Judgement → ℕ → Option Field
member_at p js d = option_map (λ t. record { name = text_at p.nodes (node_at p.nodes d).first; type = t; offset = 0 }) (type_at js d)

unfoldable pub member : Places → List Judgement → Node → Judgement
member p js node = given (all_of (map (member_at p js) (other_kids node))) λ fields. means (members fields)

unfoldable pub parameter_node : List Judgement → Node → Judgement
parameter_node js node = given (type_at js (kid node 1)) λ t. means (declares t)

unfoldable pub type_name : List Judgement → Node → Judgement
type_name js node = given (type_at js (kid node 1)) λ t. means (a_type t)
