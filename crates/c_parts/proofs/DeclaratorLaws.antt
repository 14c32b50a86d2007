-- What declarators say, by their trees.
use Rattle.std.proofs.Common.{◌≡◌, ℕ, true, false, List, [], refl, sym, ◌∙◌}
use Rattle.c_syntax.specs.declared.kind.SynKind.TheVariants as kind
use Rattle.c_syntax.specs.Trees.{Tree, Forest, none, ◌then◌, one, text_node, plain_node}
use Rattle.c_grammar.specs.Reading.{is_named_by, is_absent_by, after_any}
use Rattle.c_parts.specs.declared.declarator.Declarator.{Declarator}
use Rattle.c_parts.specs.declared.declarator.Suffix.{Suffix}
use Rattle.c_parts.specs.declared.declarator.Suffix.TheVariants as suffix
use Rattle.c_parts.specs.Kinds.{suffix_kind}
use Rattle.c_parts.specs.Says.{IsDeclarator}
use Rattle.c_parts.proofs.NameLaws.{after_none}

pub named_is : (name : List ℕ) (start : ℕ) (x : Declarator) → x.name.now ≡ name → x.is_named ≡ true → x.is_bare ≡ true → IsDeclarator (text_node kind.Ident name start none) x
unfolding is_named_by after_any is_absent_by
named_is name start x text named bare = record { name_is = text; named_is = named; bare_is = bare; silent_is = λ names. refl }

pub absent_is : (start : ℕ) (x : Declarator) → x.name.now ≡ [] → x.is_named ≡ false → x.is_bare ≡ false → IsDeclarator (plain_node kind.NoName start none) x
unfolding is_named_by after_any is_absent_by
absent_is start x text named bare = record { name_is = text; named_is = named; bare_is = bare; silent_is = λ names. sym (after_none names kind.NoName [] start refl) }

module _ (t : Tree) (start : ℕ) (x y : Declarator) (says : IsDeclarator t x) (same_name : y.name.now ≡ x.name.now) (same_named : y.is_named ≡ x.is_named) where
  pub pointer_is : y.is_bare ≡ false → IsDeclarator (plain_node kind.Pointer start (one t)) y
  unfolding is_named_by after_any is_absent_by
  pointer_is bare = record { name_is = same_name ∙ says.name_is; named_is = same_named ∙ says.named_is; bare_is = bare; silent_is = λ names. refl }

  pub enclosed_is : y.is_bare ≡ x.is_bare → IsDeclarator (plain_node kind.Paren start (one t)) y
  unfolding is_named_by after_any is_absent_by
  enclosed_is bare = record { name_is = same_name ∙ says.name_is; named_is = same_named ∙ says.named_is; bare_is = bare ∙ says.bare_is; silent_is = λ names. refl }

  pub suffixed_is : (s : Suffix) (ts : Forest) → y.is_bare ≡ false → IsDeclarator (plain_node (suffix_kind s) start (t then ts)) y
  unfolding is_named_by after_any is_absent_by
  suffixed_is suffix.Array ts bare = record { name_is = same_name ∙ says.name_is; named_is = same_named ∙ says.named_is; bare_is = bare; silent_is = λ names. refl }
  suffixed_is suffix.Takes ts bare = record { name_is = same_name ∙ says.name_is; named_is = same_named ∙ says.named_is; bare_is = bare; silent_is = λ names. refl }
