-- What specs, declarators and statements say, by their trees.
use Rattle.std.specs.Prelude.{◌≡◌, List, codes}
use Rattle.c_syntax.specs.Trees.{Tree, one, forest_of}
use Rattle.c_grammar.specs.Scopes.{Names, after, name_of, is_bare_name, says_typedef, says_type, has_word}
use Rattle.c_grammar.specs.Derivation.{first_start, ends_open}
use Rattle.c_grammar.specs.Reading.{is_named, after_any}
use Rattle.c_parts.specs.declared.declarator.Declarator.{Declarator}
use Rattle.c_parts.specs.declared.part.Statement.{Statement}
use Rattle.c_parts.specs.declared.specifier.Specs.{Specs}
use Rattle.c_parts.specs.declared.specifier.Specifier.{Specifier}
use Rattle.c_parts.specs.declared.specifier.SpecifierRow.{SpecifierRow}

-- the name and the form of the declarator are those of the tree; an absent one declares nothing
pub record IsDeclarator (t : Tree) (declarator : Declarator) : Type 0 where
  pub name_is : declarator.name.now ≡ name_of (one t)
  pub named_is : declarator.is_named ≡ is_named (one t)
  pub bare_is : declarator.is_bare ≡ is_bare_name (one t)
  pub silent_is : (names : Names) → after_any names t ≡ after names t

abbrev pub IsSpecs : Tree → Specs → Type 0
IsSpecs t specs = specs.is_typedef ≡ says_typedef (one t)

pub record IsSpecifier (t : Tree) (specifier : Specifier) : Type 0 where
  pub type_is : specifier.says_type ≡ says_type t
  pub typedef_is : specifier.is_typedef ≡ has_word (codes "typedef") (one t)

pub record IsSpecifierRow (ts : List Tree) (row : SpecifierRow) : Type 0 where
  pub start_is : row.start ≡ first_start (forest_of ts)
  pub typedef_is : row.is_typedef ≡ has_word (codes "typedef") (forest_of ts)

abbrev pub IsStatement : Tree → Statement → Type 0
IsStatement t statement = statement.ends_open ≡ ends_open t
