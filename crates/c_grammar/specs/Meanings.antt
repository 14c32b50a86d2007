-- What it means that a reader has found a tree, or trees, for a goal. These serve the law `found_is_derived` alone.
use Rattle.std.specs.Prelude.{◌≡◌, true, false, List, ◌∷◌}
use Rattle.c_lexer.specs.declared.token.Punct.TheVariants.{LeftBrace, RightBrace}
use Rattle.c_lexer.specs.declared.token.Token.{Token}
use Rattle.c_syntax.specs.declared.kind.SynKind.TheVariants as kind
use Rattle.c_syntax.specs.Trees.{Tree, Forest, plain_node}
use Rattle.c_grammar.specs.Vocabulary.{Place, mark}
use Rattle.c_grammar.specs.Scopes.{Names}
use Rattle.c_grammar.specs.Derivation.{Part, Row, Derives, Lists, no_name, declarator, abstract_declarator}
use Rattle.c_grammar.specs.Derivation as rule
use Rattle.c_grammar.specs.Reading.{Mode, Goal, Rows, has_name, needs_name}

-- statements in braces, in the scope that there is
pub data IsBody : Names → List Token → List Token → Tree → Type 0 where
  body_of : {names : Names} {a b : List Token} {at2 at : Place} {ts : Forest}
      → Lists names rule.block_items a (mark RightBrace at2 ∷ b) ts
      → IsBody names (mark LeftBrace at ∷ a) b (plain_node kind.Block at.start ts)

-- a declarator, where the mode lets it have a name; one without a name, or nothing, where it needs none
pub data IsDeclared : Mode → Names → List Token → List Token → Tree → Type 0 where
  with_name : {mode : Mode} {names : Names} {a b : List Token} {t : Tree}
      → has_name mode ≡ true
      → Derives names declarator a b t
      → IsDeclared mode names a b t
  without_name : {mode : Mode} {names : Names} {a b : List Token} {t : Tree}
      → needs_name mode ≡ false
      → Derives names abstract_declarator a b t
      → IsDeclared mode names a b t
  absent : {mode : Mode} {names : Names} {b : List Token}
      → needs_name mode ≡ false
      → IsDeclared mode names b b (no_name b)

abbrev pub IsTree : Goal → Names → List Token → List Token → Tree → Type 0
IsTree Goal.external names = Derives names Part.external
IsTree Goal.declaration names = Derives names Part.declaration
IsTree (Goal.init_declarator is_typedef) names = Derives names (Part.init_declarator is_typedef)
-- from behind a declarator with the tree x, whichever its tokens are
IsTree (Goal.init_behind is_typedef x) names = λ b c t. (a : List Token) → Derives names declarator a b x → Derives names (Part.init_declarator is_typedef) a c t
IsTree Goal.initializer names = Derives names Part.initializer
IsTree Goal.specifiers names = Derives names Part.specifiers
IsTree (Goal.specifier typed) names = Derives names (Part.specifier typed)
IsTree Goal.member names = Derives names Part.member
IsTree Goal.enumerator names = Derives names Part.enumerator
IsTree (Goal.declared mode) names = IsDeclared mode names
IsTree Goal.parameter names = Derives names Part.parameter
IsTree Goal.type_name names = Derives names Part.type_name
IsTree Goal.body names = IsBody names
IsTree Goal.statement names = Derives names Part.statement
IsTree Goal.optional_expression names = Derives names Part.optional_expression
IsTree Goal.expression names = Derives names Part.expression
IsTree Goal.assignment names = Derives names Part.assignment
IsTree Goal.conditional names = Derives names Part.conditional
IsTree (Goal.binary n) names = Derives names (Part.binary n)
IsTree Goal.cast names = Derives names Part.cast
IsTree Goal.unary names = Derives names Part.unary

abbrev pub AreTrees : Rows → Names → List Token → List Token → Forest → Type 0
AreTrees Rows.externals names = Lists names Row.externals
AreTrees (Rows.init_declarators is_typedef) names = Lists names (Row.init_declarators is_typedef)
AreTrees (Rows.init_declarators_behind is_typedef x) names = λ b c ts. (a : List Token) → Derives names declarator a b x → Lists names (Row.init_declarators is_typedef) a c ts
AreTrees Rows.initializers names = Lists names Row.initializers
AreTrees (Rows.specifier_list typed) names = Lists names (Row.specifier_list typed)
AreTrees Rows.members names = Lists names Row.members
AreTrees Rows.declarators names = Lists names Row.declarators
AreTrees Rows.enumerators names = Lists names Row.enumerators
AreTrees Rows.parameters names = Lists names Row.parameters
AreTrees Rows.block_items names = Lists names Row.block_items
AreTrees Rows.groups names = Lists names (Row.groups rule.at_first)
AreTrees Rows.arguments names = Lists names Row.arguments
AreTrees Rows.optional_length names = Lists names Row.optional_length
