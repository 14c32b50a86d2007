-- A type and an expression stay what they are where the table of types grows.
use Rattle.std.proofs.Common.{◌≡◌}
use Rattle.c_typing.specs.Types.{CType, pointer, unsized}
use Rattle.c_typing.specs.Judgements as rules
use Rattle.c_type_ids.specs.Ids.{Known, Keeps}
use Rattle.c_type_ids.proofs.IdLaws.{names_grow}
use Rattle.c_values.specs.declared.typings.«Type».{«Type» as TypeForm}
use Rattle.c_values.specs.declared.typings.«Type».TheVariants as type
use Rattle.c_values.specs.declared.typings.Typing.{Typing}
use Rattle.c_values.specs.Typings.{Is, IsType}

pub type_grows : (old new : Known) → Keeps old new → (a : TypeForm) (t : CType) → IsType old a t → IsType new a t
type_grows old new g (type.Known id) t h = names_grow old new g.types g.structs id t h
type_grows old new g (type.Unsized id) (unsized t) h = names_grow old new g.types g.structs id t h
type_grows old new g (type.Unsized id) t h = absurd h
type_grows old new g (type.ToUnsized id) (pointer (unsized t)) h = names_grow old new g.types g.structs id t h
type_grows old new g (type.ToUnsized id) t h = absurd h

pub is_grows : (old new : Known) → Keeps old new → (x : Typing) (y : rules.Typing) → Is old x y → Is new x y
is_grows old new g x y h = record { has = h.has; type = type_grows old new g x.kind y.type h.type; form = h.form; constant = h.constant; code = h.code }
