-- What a node of a finished tree means, or which rules it breaks.
use Rattle.std.specs.Prelude.{ℕ, Bool, List, [], ◌∷◌, ◌++◌, Option, Some, None, filter_map, slice_get, unwrap_or, flat_map}
use Rattle.c_types.specs.declared.tree.Expr.{Expr}
use Rattle.c_types.specs.declared.tree.Stmt.{Stmt}
use Rattle.c_types.specs.declared.tree.Cell.{Cell}
use Rattle.c_types.specs.declared.tree.Func.{Func}
use Rattle.c_typing.specs.Types.{CType, CTypes, Field, Layout}

-- ---- expressions

-- what a name of a function calls
pub data Callee : Type 0 where
  reads_input : Callee
  writes_output : Callee
  -- the function of this number; one that is not defined has none, and breaks rule 17
  calls : ℕ → Callee

-- 6.3.2.1: a value; an lvalue, in a local or in memory; a struct that is no lvalue, or a part of one; the name of a function
pub data Form : Type 0 where
  value : Form
  in_local : ℕ → Form
  in_memory : Form
  temporary : Form
  callee : Callee → Form

-- 6.6: what an expression is as a constant
pub data Constant : Type 0 where
  no_constant : Constant
  -- it is formed as an integer constant, but the part at this node has no defined value
  undefined : ℕ → Constant
  -- a word
  number : ℕ → Constant
  -- a null pointer constant of type `void *`; another null pointer
  null_pointer : Constant
  zero_pointer : Constant
  -- the address of an object, plus an addend
  address_of : ℕ → ℕ → Constant
  -- it is formed as such an address, but the part at this node has no defined value
  undefined_address : ℕ → Constant
  -- an lvalue at that address; whether it is the name of an object, or a string literal
  place_at : ℕ → ℕ → Bool → Constant

-- the code of an lvalue in memory, and of a struct, is its address; that of all else is its value
pub record Typing : Type 0 where
  pub type : CType
  pub form : Form
  pub code : Expr
  pub constant : Constant

-- ---- declarators

pub data Step : Type 0 where
  to_pointer : Step
  of_array : ℕ → Step
  -- of a length that the initializer gives
  of_unsized : Step
  -- an array that is a parameter is a pointer (6.7.5.3, 7)
  of_parameter : Step
  of_function : CTypes → Step

pub record PlacedStep : Type 0 where
  pub node : ℕ
  pub step : Step

-- ---- faults

pub data Fault : Type 0 where
  -- this rule is broken at this node
  rule : ℕ → ℕ → Fault
  -- a type, or the end of an object, at this node has this size, which is above the limit
  too_big : ℕ → ℕ → Fault

-- ---- meanings

pub data Meaning : Type 0 where
  -- all that it means stands in its text
  itself : Meaning
  -- specs, their words, a name of a type
  a_type : CType → Meaning
  -- a struct with its body
  a_struct : Layout → Meaning
  members : List Field → Meaning
  -- the value of an enumerator
  enumerates : ℕ → Meaning
  -- a part of a declarator: how it makes a type, from the name on outwards
  steps : List PlacedStep → Meaning
  -- a whole declarator or a parameter: the type
  declares : CType → Meaning
  -- an expression, with the number of hidden locals that it takes itself
  expresses : Typing → ℕ → Meaning
  -- a string that initializes an array
  fills_array : Meaning
  -- a braced initializer: how many elements it gives an array, and the cells
  initial : ℕ → List Cell → Meaning
  -- a declarator with its initializer: the type, what it does where it is reached, the cells of a static object
  initialized : CType → List Stmt → List Cell → Meaning
  -- a statement, or a declaration in a block
  performs : List Stmt → Meaning
  -- a label of a `switch`; the default has no word
  labels : Option ℕ → Meaning
  defines : Func → Meaning

pub data Judgement : Type 0 where
  means : Meaning → Judgement
  breaks_rules : Fault → List Fault → Judgement
  -- a part that it needs has no meaning
  waits : Judgement

-- it means this where no rule is broken
abbrev pub verdict : List Fault → Meaning → Judgement
verdict [] m = means m
verdict (f ∷ fs) m = breaks_rules f fs

-- what a part means or breaks, where these rules are broken too
abbrev pub besides : List Fault → Judgement → Judgement
besides [] j = j
besides (f ∷ fs) (breaks_rules g gs) = breaks_rules f (fs ++ g ∷ gs)
besides (f ∷ fs) j = breaks_rules f fs

abbrev pub given : {A : Type 0} → Option A → (A → Judgement) → Judgement
given None f = waits
given (Some a) f = f a

abbrev pub before : {A : Type 0} → A → Option (List A) → Option (List A)
before a None = None
before a (Some others) = Some (a ∷ others)

-- of several parts, each has to be there
abbrev pub all_of : {A : Type 0} → List (Option A) → Option (List A)
all_of [] = Some []
all_of (None ∷ rest) = None
all_of (Some a ∷ rest) = before a (all_of rest)

-- ---- what earlier nodes mean

abbrev pub meaning_of : Judgement → Option Meaning
meaning_of (means m) = Some m
meaning_of j = None

abbrev pub judgement_at : List Judgement → ℕ → Judgement
judgement_at js n = unwrap_or (slice_get js n) waits

abbrev pub typing_of : Judgement → Option Typing
typing_of (means (expresses x h)) = Some x
typing_of j = None

abbrev pub typing_at : List Judgement → ℕ → Option Typing
typing_at js n = typing_of (judgement_at js n)

-- the type that specs, a declarator, a parameter or a name of a type has
abbrev pub type_of : Judgement → Option CType
type_of (means (a_type t)) = Some t
type_of (means (declares t)) = Some t
type_of (means (initialized t ss cs)) = Some t
type_of j = None

abbrev pub type_at : List Judgement → ℕ → Option CType
type_at js n = type_of (judgement_at js n)

abbrev pub steps_of : Judgement → Option (List PlacedStep)
steps_of (means (steps ss)) = Some ss
steps_of j = None

abbrev pub steps_at : List Judgement → ℕ → Option (List PlacedStep)
steps_at js n = steps_of (judgement_at js n)

abbrev pub code_of : Judgement → Option (List Stmt)
code_of (means (performs ss)) = Some ss
code_of j = None

abbrev pub code_at : List Judgement → ℕ → Option (List Stmt)
code_at js n = code_of (judgement_at js n)

abbrev pub layout_in : Judgement → Option Layout
layout_in (means (a_struct l)) = Some l
layout_in j = None

-- the structs that are complete (6.7.2.1, 7)
abbrev pub layouts : List Judgement → List Layout
layouts js = filter_map layout_in js

abbrev pub hidden_in : Judgement → ℕ
hidden_in (means (expresses x h)) = h
hidden_in j = 0

abbrev pub faults_in : Judgement → List Fault
faults_in (breaks_rules f fs) = f ∷ fs
faults_in j = []

abbrev pub faults_of : List Judgement → List Fault
faults_of js = flat_map faults_in js
