-- Expressions as the code has them, and as the rules do.
use Rattle.std.specs.Prelude.{◌≡◌}
use Rattle.c_typing.specs.Types.{CType, pointer, unsized}
use Rattle.c_typing.specs.Judgements as rules
use Rattle.c_type_ids.specs.Ids.{Known, Names, Shows}
use Rattle.c_values.specs.declared.conversions.Shown.{Shown}
use Rattle.c_values.specs.declared.conversions.Shown.TheVariants as shown
use Rattle.c_constants.specs.Constants.{constant_of}
use Rattle.c_values.specs.declared.typings.«Type».{«Type» as TypeForm}
use Rattle.c_values.specs.declared.typings.«Type».TheVariants as type
use Rattle.c_values.specs.declared.typings.Callee.{Callee}
use Rattle.c_values.specs.declared.typings.Callee.TheVariants as callee
use Rattle.c_values.specs.declared.typings.Form.{Form}
use Rattle.c_values.specs.declared.typings.Form.TheVariants as form
use Rattle.c_values.specs.declared.typings.Typing.{Typing}

abbrev pub IsType : Known → TypeForm → CType → Type 0
IsType k (type.Known id) t = Names k id t
IsType k (type.Unsized id) (unsized t) = Names k id t
IsType k (type.Unsized id) t = ⊥
IsType k (type.ToUnsized id) (pointer (unsized t)) = Names k id t
IsType k (type.ToUnsized id) t = ⊥

abbrev pub callee_of : Callee → rules.Callee
callee_of callee.ReadsInput = rules.reads_input
callee_of callee.WritesOutput = rules.writes_output
callee_of (callee.Calls f) = rules.calls f

abbrev pub form_of : Form → rules.Form
form_of form.Value = rules.value
form_of (form.InLocal k) = rules.in_local k
form_of form.InMemory = rules.in_memory
form_of form.Temporary = rules.temporary
form_of (form.Callee c) = rules.callee (callee_of c)

-- a pointer to an array without a length is a value alone: no object has that type
abbrev pub HasForm : TypeForm → Form → Type 0
HasForm t form.Value = Unit {0}
HasForm (type.ToUnsized id) f = ⊥
HasForm t f = Unit {0}

-- it is this expression of the rules
pub record Is (k : Known) (x : Typing) (y : rules.Typing) : Type 0 where
  pub has : HasForm x.kind x.form
  pub type : IsType k x.kind y.type
  pub form : form_of x.form ≡ y.form
  pub constant : constant_of x.constant ≡ y.constant
  pub code : x.code ≡ y.code

abbrev pub ShownAs : Known → Shown → CType → Type 0
ShownAs k (shown.Kind kind) t = Shows k kind t
ShownAs k (shown.Unsized id) (unsized t) = Names k id t
ShownAs k (shown.Unsized id) t = ⊥
ShownAs k (shown.ToUnsized id) (pointer (unsized t)) = Names k id t
ShownAs k (shown.ToUnsized id) t = ⊥
