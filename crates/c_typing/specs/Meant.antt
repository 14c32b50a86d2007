-- What the nodes of a tree mean where no rule is broken and no size is above the limit: each has a meaning, with a form by its
-- category. C99 6.7 to 6.9.
use Rattle.std.specs.Prelude.{◌≡◌, ℕ, ◌<◌, ◌≤◌, Bool, true, false, List, Some, find, position, ◌==◌}
use Rattle.std.specs.Option.{is_some}
use Rattle.c_syntax.specs.declared.kind.SynKind.{SynKind}
use Rattle.c_syntax.specs.declared.kind.SynKind.TheVariants as kind
use Rattle.c_syntax.specs.Trees.{Tree, one}
use Rattle.c_syntax.specs.Tables.{size}
use Rattle.c_types.specs.declared.kind.TheConstants.{MAX_SIZE}
use Rattle.c_types.specs.declared.tree.Unit.{Unit as Whole}
use Rattle.c_typing.specs.Types.{CType, is_function, has_size}
use Rattle.c_typing.specs.Places.{Node, nodes, is_whole, holds}
use Rattle.c_typing.specs.Names.{Name, places, denoted, is_typedef, is_static, object_number, automatics_in}
use Rattle.c_typing.specs.Judgements.{Meaning, itself, a_type, a_struct, members, enumerates, steps, declares, expresses, fills_array, initial, initialized, performs, labels, defines, Judgement, means, Form, callee, judgement_at, layouts}
use Rattle.c_typing.specs.Expressions.{type_of_name}
use Rattle.c_typing.specs.Shapes as category
use Rattle.c_typing.specs.Shapes.{Category}
use Rattle.c_typing.specs.ShapesOfNodes.{category_at}
use Rattle.c_typing.specs.Typing.{judgements_at, is_there, Breaks, TooBig, IsTyped}

-- ---- forms of meanings

-- what is no value, but the name of a function, has the type of one
abbrev pub is_callable : Form → CType → Bool
is_callable (callee c) t = is_function t
is_callable form t = true

abbrev pub says_itself : Meaning → Bool
says_itself itself = true
says_itself m = false

abbrev pub says_type : Meaning → Bool
says_type (a_type t) = true
says_type m = false

-- a keyword, a struct with its body, or a type
abbrev pub says_specifier : Meaning → Bool
says_specifier itself = true
says_specifier (a_struct l) = true
says_specifier (a_type t) = true
says_specifier m = false

abbrev pub says_members : Meaning → Bool
says_members (members fs) = true
says_members m = false

abbrev pub says_enumerator : Meaning → Bool
says_enumerator (enumerates w) = true
says_enumerator m = false

-- of a whole declarator, its type; of a part of another one, its steps
abbrev pub says_declarator : Bool → Meaning → Bool
says_declarator true (declares t) = true
says_declarator false (steps ss) = true
says_declarator whole m = false

abbrev pub says_parameter : Meaning → Bool
says_parameter (declares t) = true
says_parameter m = false

abbrev pub says_statement : Meaning → Bool
says_statement (performs ss) = true
says_statement m = false

abbrev pub says_label : Meaning → Bool
says_label (labels w) = true
says_label m = false

abbrev pub says_initialized : Meaning → Bool
says_initialized (initialized t ss cs) = true
says_initialized m = false

abbrev pub says_initial : Meaning → Bool
says_initial (initial count cs) = true
says_initial m = false

abbrev pub says_function : Meaning → Bool
says_function (defines f) = true
says_function m = false

-- a string may initialize an array, where it is the initializer of a declarator or stands in braces
abbrev pub says_expression : Meaning → SynKind → Bool
says_expression (expresses x h) k = is_callable x.form x.type
says_expression fills_array kind.Str = true
says_expression m k = false

-- the form of what a node means: by its category and its kind, and, of a declarator, by whether it is a whole one
abbrev pub has_form : Category → SynKind → Bool → Meaning → Bool
has_form category.unit k whole m = says_itself m
has_form category.function k whole m = says_function m
has_form category.declaration k whole m = says_statement m
has_form category.init_declarator k whole m = says_initialized m
has_form category.braces k whole m = says_initial m
has_form category.specifiers k whole m = says_type m
has_form category.storage_word k whole m = says_itself m
has_form category.typedef_name k whole m = says_type m
has_form category.type_specifier k whole m = says_specifier m
has_form category.member k whole m = says_members m
has_form category.enumerator k whole m = says_enumerator m
has_form category.declarator k whole m = says_declarator whole m
has_form category.abstract_declarator k whole m = says_declarator whole m
has_form category.no_name k whole m = says_declarator whole m
has_form category.parameter k whole m = says_parameter m
has_form category.type_name k whole m = says_type m
has_form category.block k whole m = says_statement m
has_form category.empty k whole m = says_statement m
has_form category.statement k whole m = says_statement m
has_form category.switch_label k whole m = says_label m
has_form (category.expression level) k whole m = says_expression m k
has_form category.no_category k whole m = false

-- ---- what is meant

-- the judgements of all nodes of a tree
abbrev pub judgements : Tree → List Judgement
judgements t = judgements_at (places t)

-- the node m, at the place n, has a meaning of its form
pub record IsMeant (t : Tree) (n : ℕ) (m : Node) : Type 0 where
  pub meaning : Meaning
  pub judged : judgement_at (judgements t) n ≡ means meaning
  pub form : has_form (category_at t n) m.label.kind (is_whole (nodes t) m) meaning ≡ true

-- ---- what the unit is put together from

-- an object has a type, and the type has a size
pub record IsSized (t : Tree) (e : Name) : Type 0 where
  pub type : CType
  pub typed : type_of_name (judgements t) e ≡ Some type
  pub has : has_size (layouts (judgements t)) type ≡ true

-- a name in an expression names an object, a function or an enumerator; where it is a function or a static object, that one is
-- defined, or is a function of the library, and the object has its number among the objects
pub record IsUsed (t : Tree) (m : Node) : Type 0 where
  pub name : Name
  pub denotes : denoted (places t).names m.id m.label.text ≡ Some name
  pub is_value : is_typedef name.entity ≡ false
  pub is_defined : is_there (places t) name name.entity ≡ true
  pub is_numbered : is_static name.entity ≡ true → is_some (object_number (places t) name) ≡ true

-- an automatic object stands in a function that is defined, and has its place among the automatic objects there
pub record IsLocal (t : Tree) (e : Name) : Type 0 where
  pub owner : Node
  pub around : find (λ f. holds f e.node) (places t).functions ≡ Some owner
  pub is_placed : is_some (position (λ (a : Name). a.node == e.node) (automatics_in (places t) owner)) ≡ true

-- ---- one typing

-- a rule, from 1 to 27, is broken at a node of the tree
pub record IsBroken (t : Tree) : Type 0 where
  pub rule : ℕ
  pub node : ℕ
  pub breaks : Breaks rule node t
  pub least : 1 ≤ rule
  pub most : rule ≤ 27
  pub within : node < size (one t)

-- a type, or the end of an object, at a node of the tree has a size above the limit
pub record IsTooBig (t : Tree) : Type 0 where
  pub node : ℕ
  pub measure : ℕ
  pub big : TooBig node measure t
  pub above : MAX_SIZE < measure
  pub within : node < size (one t)

-- it is typed as one unit, and as no other
pub record HasOneUnit (t : Tree) : Type 0 where
  pub unit : Whole
  pub typed : IsTyped t unit
  pub only : (other : Whole) → IsTyped t other → other ≡ unit

-- no rule is broken, and no size is too big
pub record IsSound (t : Tree) : Type 0 where
  pub no_rule : (rule node : ℕ) → Breaks rule node t → ⊥
  pub no_size : (node measure : ℕ) → TooBig node measure t → ⊥
