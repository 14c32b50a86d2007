-- What is answered for an expression, and what an operand of `[]` is.
use Rattle.std.specs.Prelude.{◌≡◌, List, Option, Some, None, Result, if◌then◌else◌}
use Rattle.c_types.specs.declared.kind.TypeId.{TypeId}
use Rattle.c_types.specs.declared.tree.Expr.{Expr}
use Rattle.c_typing.specs.Types.{CType, Layout, pointer, is_array, size_of}
use Rattle.c_typing.specs.Judgements as rules
use Rattle.c_typing.specs.Judgements.{Judgement, Meaning}
use Rattle.c_typing.specs.Constants.{address_constant}
use Rattle.c_typing.specs.Conversions.{value_of, valued}
use Rattle.c_typing.specs.Expressions.{expression}
use Rattle.c_type_ids.specs.Ids.{Known, Names}
use Rattle.c_constants.specs.Constants.{constant_of}
use Rattle.c_values.specs.declared.typings.Typing.{Typing}
use Rattle.c_values.specs.declared.typings.«Type».{«Type» as TypeForm}
use Rattle.c_values.specs.Typings.{Is, IsType}
use Rattle.c_answers.specs.declared.refusal.Refusal.{Refusal}
use Rattle.c_answers.specs.Answers.{Answers, Expresses}
use Rattle.c_places.specs.declared.elements.Element.{Element}
use Rattle.c_places.specs.declared.elements.Indexed.{Indexed}

-- the answer is that of this judgement: an expression that takes no hidden local
abbrev pub IsAnswer : Known → Result Typing Refusal → Judgement → Type 0
IsAnswer k found j = Answers (Expresses k 0) found j

-- the type of elements, with its size
abbrev pub IsElement : Known → List Layout → Option Element → Option CType → Type 0
IsElement k ls None None = Unit {0}
IsElement k ls (Some element) (Some t) = Names k element.id t × (element.size ≡ size_of ls t)
IsElement k ls found t = ⊥

-- of an operand of `[]` what its constant is taken from: an array stays at its place, an index is a value
abbrev pub placed : rules.Typing → rules.Typing
placed x = if is_array x.type then x else value_of x

-- it is the value of this operand, with that constant
pub record IsIndexed (k : Known) (operand : Indexed) (x : rules.Typing) : Type 0 where
  pub value : Is k operand.value (value_of x)
  pub constant : constant_of operand.constant ≡ (placed x).constant

-- the type of an address, where this is what is meant of the lvalue
abbrev pub IsAddressType : Known → rules.Typing → TypeForm → Meaning → Type 0
IsAddressType k x made m = IsType k made (pointer x.type) × (m ≡ expression (valued (pointer x.type) x.code (address_constant x.constant)))

-- the type of what stands at an address, where this is what is meant
abbrev pub IsPlaceType : Known → Expr → TypeId → Meaning → Type 0
IsPlaceType k address id m = (t : CType) × Names k id t × (m ≡ expression (record { type = t; form = rules.in_memory; code = address; constant = rules.no_constant }))
