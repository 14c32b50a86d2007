-- The text of a syntax tree: a line for each node, the root first.
use Rattle.std.specs.Prelude.{ℕ, ◌+◌, ◌*◌, List, [], ◌∷◌, ◌++◌, length, replicate, codes}
use Rattle.std.specs.Fmt.{decimal}
use Rattle.c_syntax.specs.declared.kind.SynKind.{SynKind}
use Rattle.c_syntax.specs.declared.kind.SynKind.TheVariants.{Unit, Function, Declaration, InitDecl, Braces, Specs, Word, StructSpec, Member, EnumSpec, Enumer, Ident, Pointer, ArrayOf, Takes, Param, NoName, TypeName, Block, ExprStmt, Empty, If, While, Do, For, Break, Continue, Return, Switch, Case, Default, Paren, Int, Char, Str, Var, Unary, Post, Binary, Assign, Cond, Comma, Index, Call, Dot, Arrow, Cast, SizeExpr, SizeType}
use Rattle.c_syntax.specs.declared.label.Label.{Label}
use Rattle.c_syntax.specs.Trees.{Tree, Forest, none, tree}

-- the word of a kind
abbrev pub kind_word : SynKind → List ℕ
kind_word Unit = codes "unit"
kind_word Function = codes "function"
kind_word Declaration = codes "declaration"
kind_word InitDecl = codes "initdecl"
kind_word Braces = codes "braces"
kind_word Specs = codes "specs"
kind_word Word = codes "word"
kind_word StructSpec = codes "struct"
kind_word Member = codes "member"
kind_word EnumSpec = codes "enum"
kind_word Enumer = codes "enumer"
kind_word Ident = codes "name"
kind_word Pointer = codes "pointer"
kind_word ArrayOf = codes "array"
kind_word Takes = codes "takes"
kind_word Param = codes "param"
kind_word NoName = codes "noname"
kind_word TypeName = codes "typename"
kind_word Block = codes "block"
kind_word ExprStmt = codes "expr"
kind_word Empty = codes "empty"
kind_word If = codes "if"
kind_word While = codes "while"
kind_word Do = codes "do"
kind_word For = codes "for"
kind_word Break = codes "break"
kind_word Continue = codes "continue"
kind_word Return = codes "return"
kind_word Switch = codes "switch"
kind_word Case = codes "case"
kind_word Default = codes "default"
kind_word Paren = codes "paren"
kind_word (Int type) = codes "int"
kind_word Char = codes "char"
kind_word Str = codes "string"
kind_word Var = codes "var"
kind_word Unary = codes "unary"
kind_word Post = codes "post"
kind_word Binary = codes "binary"
kind_word Assign = codes "assign"
kind_word Cond = codes "cond"
kind_word Comma = codes "comma"
kind_word Index = codes "index"
kind_word Call = codes "call"
kind_word Dot = codes "dot"
kind_word Arrow = codes "arrow"
kind_word Cast = codes "cast"
kind_word SizeExpr = codes "sizeexpr"
kind_word SizeType = codes "sizetype"

-- what stands behind the word: a text where there is one, the value of a number, the length of a string
abbrev pub text_behind : List ℕ → List ℕ
text_behind [] = []
text_behind (byte ∷ rest) = codes " " ++ (byte ∷ rest)

abbrev pub behind : SynKind → Label → List ℕ
behind (Int type) label = codes " " ++ decimal label.value
behind Char label = codes " " ++ decimal label.value
behind Str label = codes " " ++ decimal (length label.bytes)
behind kind label = text_behind label.text

-- the line of a node at this level, with two blanks of indent for each level
abbrev pub line : ℕ → Label → List ℕ
line level label = replicate (2 * level) 32 ++ (kind_word label.kind ++ (behind label.kind label ++ codes "\n"))

-- the lines of trees, each root before what is below it
abbrev pub lines : ℕ → Forest → List ℕ
lines level none = []
lines level (tree label kids rest) = (line level label ++ lines (level + 1) kids) ++ lines level rest

abbrev pub tree_lines : ℕ → Tree → List ℕ
tree_lines level t = line level t.label ++ lines (level + 1) t.kids

unfoldable pub tree_text : Tree → List ℕ
tree_text t = tree_lines 0 t
