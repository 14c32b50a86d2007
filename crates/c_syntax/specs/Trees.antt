-- Syntax trees.
use Rattle.std.specs.Prelude.{ℕ, ◌+◌, max, List, [], ◌∷◌}
use Rattle.c_lexer.specs.declared.token.IntType.{IntType}
use Rattle.c_syntax.specs.declared.kind.SynKind.{SynKind}
use Rattle.c_syntax.specs.declared.kind.SynKind.TheVariants as kind
use Rattle.c_syntax.specs.declared.label.Label.{Label}
use Rattle.c_syntax.specs.declared.syntax.TheConstants.{MAX_HEIGHT}

-- trees in order: none, or one, given by its label and its kids, and then the rest
pub data Forest : Type 0 where
  none : Forest
  tree : (label : Label) (kids rest : Forest) → Forest

-- a label and its kids
pub record Tree : Type 0 where
  pub label : Label
  pub kids : Forest

-- ---- forests

infixr 20 ◌then◌
-- a tree before others
abbrev pub ◌then◌ : Tree → Forest → Forest
t then rest = tree t.label t.kids rest

abbrev pub one : Tree → Forest
one t = t then none

abbrev pub two : Tree → Tree → Forest
two a b = a then one b

abbrev pub three : Tree → Tree → Tree → Forest
three a b c = a then two b c

abbrev pub forest_of : List Tree → Forest
forest_of [] = none
forest_of (t ∷ ts) = t then forest_of ts

-- how many trees they are
abbrev pub count : Forest → ℕ
count none = 0
count (tree label kids rest) = 1 + count rest

-- ---- heights

-- the greatest height of a tree among them
abbrev pub forest_height : Forest → ℕ
forest_height none = 0
forest_height (tree label kids rest) = max (1 + forest_height kids) (forest_height rest)

-- the greatest number of nodes on a walk from the root down, both ends counted
abbrev pub height : Tree → ℕ
height t = 1 + forest_height t.kids

-- the greatest height of a tree that has a table
abbrev pub max_height : ℕ
max_height = MAX_HEIGHT

-- ---- nodes, each with its start: where its first token begins

-- a node with a text
abbrev pub text_node : SynKind → List ℕ → ℕ → Forest → Tree
text_node kind text start kids = record { label = record { kind = kind; text = text; bytes = []; value = 0; start = start }; kids = kids }

-- a node without
abbrev pub plain_node : SynKind → ℕ → Forest → Tree
plain_node kind start kids = text_node kind [] start kids

-- a number or a character
abbrev pub constant_node : SynKind → ℕ → ℕ → Tree
constant_node kind value start = record { label = record { kind = kind; text = []; bytes = []; value = value; start = start }; kids = none }

abbrev pub int_node : IntType → ℕ → ℕ → Tree
int_node type value start = constant_node (kind.Int type) value start

abbrev pub char_node : ℕ → ℕ → Tree
char_node value start = constant_node kind.Char value start

abbrev pub string_node : List ℕ → ℕ → Tree
string_node bytes start = record { label = record { kind = kind.Str; text = []; bytes = bytes; value = 0; start = start }; kids = none }
