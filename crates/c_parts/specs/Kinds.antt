-- What the parser's own words mean for the grammar.
use Rattle.std.specs.Prelude.{Bool, true, false}
use Rattle.c_syntax.specs.declared.kind.SynKind.{SynKind}
use Rattle.c_syntax.specs.declared.kind.SynKind.TheVariants as kind
use Rattle.c_grammar.specs.Reading as reading
use Rattle.c_grammar.specs.Reading.{Rows}
use Rattle.c_parts.specs.declared.specifier.Tagged.{Tagged}
use Rattle.c_parts.specs.declared.specifier.Tagged.TheVariants.{Struct, Enum}
use Rattle.c_parts.specs.declared.declarator.Suffix.{Suffix}
use Rattle.c_parts.specs.declared.declarator.Suffix.TheVariants.{Array, Takes}
use Rattle.c_parts.specs.declared.declarator.Mode.{Mode}
use Rattle.c_parts.specs.declared.declarator.Mode.TheVariants.{Named, Unnamed, Either}

abbrev pub kind_of : Tagged → SynKind
kind_of Struct = kind.StructSpec
kind_of Enum = kind.EnumSpec

abbrev pub row_of : Tagged → Rows
row_of Struct = Rows.members
row_of Enum = Rows.enumerators

abbrev pub mode_of : Mode → reading.Mode
mode_of Named = reading.named
mode_of Unnamed = reading.unnamed
mode_of Either = reading.either

abbrev pub suffix_kind : Suffix → SynKind
suffix_kind Array = kind.ArrayOf
suffix_kind Takes = kind.Takes

abbrev pub needs_name : Mode → Bool
needs_name Named = true
needs_name other = false
