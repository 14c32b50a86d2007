-- The kids that a node has by its kind, and where they stand.
use Rattle.std.proofs.Common.{◌≡◌, ℕ, zero, suc, ◌+◌, ◌<◌, ◌≤◌, true, List, [], ◌∷◌, Some, length, map, refl, sym, ap, subst, ◌∙◌, arith}
use Rattle.std.specs.Prelude.{slice_get, unwrap_or}
use Rattle.std.proofs.lemmas.List.{length-map}
use Rattle.std.proofs.lemmas.Option.{slice_get-get_or}
use Rattle.std.proofs.lemmas.Bool.{false≢true}
use Rattle.c_syntax.specs.declared.kind.SynKind.{SynKind}
use Rattle.c_syntax.specs.declared.kind.SynKind.TheVariants as kind
use Rattle.c_syntax.specs.declared.syntax.SynNode.{SynNode}
use Rattle.c_typing.specs.Places.{Node, kid, nowhere}
use Rattle.c_typing.specs.Shapes.{Category, kids_fit, unit, function, declaration, init_declarator, braces, specifiers, storage_word, typedef_name, type_specifier, member, enumerator, declarator, abstract_declarator, no_name, parameter, type_name, block, empty, statement, switch_label, expression, no_category}
use Rattle.c_typing.specs.ShapesOfNodes.{in_table}
use Rattle.c_typing.proofs.ShapesNodes.{node_fits}
use Rattle.c_typing.proofs.ProgressKids.{KidsFrom, kid_of, tiled}
use Rattle.c_nodes.specs.Parents.{nodes_in, tree_in}
use Rattle.c_names.specs.Denoted.{IsDerived}
use Rattle.c_meanings.specs.Meanings.{HasKids, node_in}

-- a node of this kind has so many kids, or more
abbrev pub least_kids : SynKind → ℕ
least_kids kind.Unit = 1
least_kids kind.Function = 3
least_kids kind.Declaration = 1
least_kids kind.InitDecl = 1
least_kids kind.Braces = 1
least_kids kind.Specs = 1
least_kids kind.Member = 2
least_kids kind.Pointer = 1
least_kids kind.ArrayOf = 1
least_kids kind.Takes = 1
least_kids kind.Param = 2
least_kids kind.TypeName = 2
least_kids kind.ExprStmt = 1
least_kids kind.If = 2
least_kids kind.While = 2
least_kids kind.Do = 2
least_kids kind.For = 4
least_kids kind.Switch = 1
least_kids kind.Case = 1
least_kids kind.Paren = 1
least_kids kind.Unary = 1
least_kids kind.Post = 1
least_kids kind.Binary = 2
least_kids kind.Assign = 2
least_kids kind.Cond = 3
least_kids kind.Comma = 2
least_kids kind.Index = 2
least_kids kind.Call = 1
least_kids kind.Dot = 1
least_kids kind.Arrow = 1
least_kids kind.Cast = 2
least_kids kind.SizeExpr = 1
least_kids kind.SizeType = 1
least_kids k = 0

pub kids_least : (k : SynKind) (text : List ℕ) (cs : List Category) → kids_fit k text cs ≡ true → least_kids k ≤ length cs
unfolding kids_fit
kids_least kind.Unit text [] e = absurd (false≢true e)
kids_least kind.Unit text (a ∷ more) e = omega arith
kids_least kind.Function text [] e = absurd (false≢true e)
kids_least kind.Function text (unit ∷ []) e = absurd (false≢true e)
kids_least kind.Function text (function ∷ []) e = absurd (false≢true e)
kids_least kind.Function text (declaration ∷ []) e = absurd (false≢true e)
kids_least kind.Function text (init_declarator ∷ []) e = absurd (false≢true e)
kids_least kind.Function text (braces ∷ []) e = absurd (false≢true e)
kids_least kind.Function text (specifiers ∷ []) e = absurd (false≢true e)
kids_least kind.Function text (storage_word ∷ []) e = absurd (false≢true e)
kids_least kind.Function text (typedef_name ∷ []) e = absurd (false≢true e)
kids_least kind.Function text (type_specifier ∷ []) e = absurd (false≢true e)
kids_least kind.Function text (member ∷ []) e = absurd (false≢true e)
kids_least kind.Function text (enumerator ∷ []) e = absurd (false≢true e)
kids_least kind.Function text (declarator ∷ []) e = absurd (false≢true e)
kids_least kind.Function text (abstract_declarator ∷ []) e = absurd (false≢true e)
kids_least kind.Function text (no_name ∷ []) e = absurd (false≢true e)
kids_least kind.Function text (parameter ∷ []) e = absurd (false≢true e)
kids_least kind.Function text (type_name ∷ []) e = absurd (false≢true e)
kids_least kind.Function text (block ∷ []) e = absurd (false≢true e)
kids_least kind.Function text (empty ∷ []) e = absurd (false≢true e)
kids_least kind.Function text (statement ∷ []) e = absurd (false≢true e)
kids_least kind.Function text (switch_label ∷ []) e = absurd (false≢true e)
kids_least kind.Function text ((expression l) ∷ []) e = absurd (false≢true e)
kids_least kind.Function text (no_category ∷ []) e = absurd (false≢true e)
kids_least kind.Function text (unit ∷ b ∷ []) e = absurd (false≢true e)
kids_least kind.Function text (function ∷ b ∷ []) e = absurd (false≢true e)
kids_least kind.Function text (declaration ∷ b ∷ []) e = absurd (false≢true e)
kids_least kind.Function text (init_declarator ∷ b ∷ []) e = absurd (false≢true e)
kids_least kind.Function text (braces ∷ b ∷ []) e = absurd (false≢true e)
kids_least kind.Function text (specifiers ∷ unit ∷ []) e = absurd (false≢true e)
kids_least kind.Function text (specifiers ∷ function ∷ []) e = absurd (false≢true e)
kids_least kind.Function text (specifiers ∷ declaration ∷ []) e = absurd (false≢true e)
kids_least kind.Function text (specifiers ∷ init_declarator ∷ []) e = absurd (false≢true e)
kids_least kind.Function text (specifiers ∷ braces ∷ []) e = absurd (false≢true e)
kids_least kind.Function text (specifiers ∷ specifiers ∷ []) e = absurd (false≢true e)
kids_least kind.Function text (specifiers ∷ storage_word ∷ []) e = absurd (false≢true e)
kids_least kind.Function text (specifiers ∷ typedef_name ∷ []) e = absurd (false≢true e)
kids_least kind.Function text (specifiers ∷ type_specifier ∷ []) e = absurd (false≢true e)
kids_least kind.Function text (specifiers ∷ member ∷ []) e = absurd (false≢true e)
kids_least kind.Function text (specifiers ∷ enumerator ∷ []) e = absurd (false≢true e)
kids_least kind.Function text (specifiers ∷ declarator ∷ []) e = absurd (false≢true e)
kids_least kind.Function text (specifiers ∷ abstract_declarator ∷ []) e = absurd (false≢true e)
kids_least kind.Function text (specifiers ∷ no_name ∷ []) e = absurd (false≢true e)
kids_least kind.Function text (specifiers ∷ parameter ∷ []) e = absurd (false≢true e)
kids_least kind.Function text (specifiers ∷ type_name ∷ []) e = absurd (false≢true e)
kids_least kind.Function text (specifiers ∷ block ∷ []) e = absurd (false≢true e)
kids_least kind.Function text (specifiers ∷ empty ∷ []) e = absurd (false≢true e)
kids_least kind.Function text (specifiers ∷ statement ∷ []) e = absurd (false≢true e)
kids_least kind.Function text (specifiers ∷ switch_label ∷ []) e = absurd (false≢true e)
kids_least kind.Function text (specifiers ∷ (expression l) ∷ []) e = absurd (false≢true e)
kids_least kind.Function text (specifiers ∷ no_category ∷ []) e = absurd (false≢true e)
kids_least kind.Function text (storage_word ∷ b ∷ []) e = absurd (false≢true e)
kids_least kind.Function text (typedef_name ∷ b ∷ []) e = absurd (false≢true e)
kids_least kind.Function text (type_specifier ∷ b ∷ []) e = absurd (false≢true e)
kids_least kind.Function text (member ∷ b ∷ []) e = absurd (false≢true e)
kids_least kind.Function text (enumerator ∷ b ∷ []) e = absurd (false≢true e)
kids_least kind.Function text (declarator ∷ b ∷ []) e = absurd (false≢true e)
kids_least kind.Function text (abstract_declarator ∷ b ∷ []) e = absurd (false≢true e)
kids_least kind.Function text (no_name ∷ b ∷ []) e = absurd (false≢true e)
kids_least kind.Function text (parameter ∷ b ∷ []) e = absurd (false≢true e)
kids_least kind.Function text (type_name ∷ b ∷ []) e = absurd (false≢true e)
kids_least kind.Function text (block ∷ b ∷ []) e = absurd (false≢true e)
kids_least kind.Function text (empty ∷ b ∷ []) e = absurd (false≢true e)
kids_least kind.Function text (statement ∷ b ∷ []) e = absurd (false≢true e)
kids_least kind.Function text (switch_label ∷ b ∷ []) e = absurd (false≢true e)
kids_least kind.Function text ((expression l) ∷ b ∷ []) e = absurd (false≢true e)
kids_least kind.Function text (no_category ∷ b ∷ []) e = absurd (false≢true e)
kids_least kind.Function text (a ∷ b ∷ c ∷ more) e = omega arith
kids_least kind.Declaration text [] e = absurd (false≢true e)
kids_least kind.Declaration text (a ∷ more) e = omega arith
kids_least kind.InitDecl text [] e = absurd (false≢true e)
kids_least kind.InitDecl text (a ∷ more) e = omega arith
kids_least kind.Braces text [] e = absurd (false≢true e)
kids_least kind.Braces text (a ∷ more) e = omega arith
kids_least kind.Specs text [] e = absurd (false≢true e)
kids_least kind.Specs text (a ∷ more) e = omega arith
kids_least kind.Member text [] e = absurd (false≢true e)
kids_least kind.Member text (unit ∷ []) e = absurd (false≢true e)
kids_least kind.Member text (function ∷ []) e = absurd (false≢true e)
kids_least kind.Member text (declaration ∷ []) e = absurd (false≢true e)
kids_least kind.Member text (init_declarator ∷ []) e = absurd (false≢true e)
kids_least kind.Member text (braces ∷ []) e = absurd (false≢true e)
kids_least kind.Member text (specifiers ∷ []) e = absurd (false≢true e)
kids_least kind.Member text (storage_word ∷ []) e = absurd (false≢true e)
kids_least kind.Member text (typedef_name ∷ []) e = absurd (false≢true e)
kids_least kind.Member text (type_specifier ∷ []) e = absurd (false≢true e)
kids_least kind.Member text (member ∷ []) e = absurd (false≢true e)
kids_least kind.Member text (enumerator ∷ []) e = absurd (false≢true e)
kids_least kind.Member text (declarator ∷ []) e = absurd (false≢true e)
kids_least kind.Member text (abstract_declarator ∷ []) e = absurd (false≢true e)
kids_least kind.Member text (no_name ∷ []) e = absurd (false≢true e)
kids_least kind.Member text (parameter ∷ []) e = absurd (false≢true e)
kids_least kind.Member text (type_name ∷ []) e = absurd (false≢true e)
kids_least kind.Member text (block ∷ []) e = absurd (false≢true e)
kids_least kind.Member text (empty ∷ []) e = absurd (false≢true e)
kids_least kind.Member text (statement ∷ []) e = absurd (false≢true e)
kids_least kind.Member text (switch_label ∷ []) e = absurd (false≢true e)
kids_least kind.Member text ((expression l) ∷ []) e = absurd (false≢true e)
kids_least kind.Member text (no_category ∷ []) e = absurd (false≢true e)
kids_least kind.Member text (a ∷ b ∷ more) e = omega arith
kids_least kind.Pointer text [] e = absurd (false≢true e)
kids_least kind.Pointer text (a ∷ more) e = omega arith
kids_least kind.ArrayOf text [] e = absurd (false≢true e)
kids_least kind.ArrayOf text (a ∷ more) e = omega arith
kids_least kind.Takes text [] e = absurd (false≢true e)
kids_least kind.Takes text (a ∷ more) e = omega arith
kids_least kind.Param text [] e = absurd (false≢true e)
kids_least kind.Param text (unit ∷ []) e = absurd (false≢true e)
kids_least kind.Param text (function ∷ []) e = absurd (false≢true e)
kids_least kind.Param text (declaration ∷ []) e = absurd (false≢true e)
kids_least kind.Param text (init_declarator ∷ []) e = absurd (false≢true e)
kids_least kind.Param text (braces ∷ []) e = absurd (false≢true e)
kids_least kind.Param text (specifiers ∷ []) e = absurd (false≢true e)
kids_least kind.Param text (storage_word ∷ []) e = absurd (false≢true e)
kids_least kind.Param text (typedef_name ∷ []) e = absurd (false≢true e)
kids_least kind.Param text (type_specifier ∷ []) e = absurd (false≢true e)
kids_least kind.Param text (member ∷ []) e = absurd (false≢true e)
kids_least kind.Param text (enumerator ∷ []) e = absurd (false≢true e)
kids_least kind.Param text (declarator ∷ []) e = absurd (false≢true e)
kids_least kind.Param text (abstract_declarator ∷ []) e = absurd (false≢true e)
kids_least kind.Param text (no_name ∷ []) e = absurd (false≢true e)
kids_least kind.Param text (parameter ∷ []) e = absurd (false≢true e)
kids_least kind.Param text (type_name ∷ []) e = absurd (false≢true e)
kids_least kind.Param text (block ∷ []) e = absurd (false≢true e)
kids_least kind.Param text (empty ∷ []) e = absurd (false≢true e)
kids_least kind.Param text (statement ∷ []) e = absurd (false≢true e)
kids_least kind.Param text (switch_label ∷ []) e = absurd (false≢true e)
kids_least kind.Param text ((expression l) ∷ []) e = absurd (false≢true e)
kids_least kind.Param text (no_category ∷ []) e = absurd (false≢true e)
kids_least kind.Param text (a ∷ b ∷ more) e = omega arith
kids_least kind.TypeName text [] e = absurd (false≢true e)
kids_least kind.TypeName text (unit ∷ []) e = absurd (false≢true e)
kids_least kind.TypeName text (function ∷ []) e = absurd (false≢true e)
kids_least kind.TypeName text (declaration ∷ []) e = absurd (false≢true e)
kids_least kind.TypeName text (init_declarator ∷ []) e = absurd (false≢true e)
kids_least kind.TypeName text (braces ∷ []) e = absurd (false≢true e)
kids_least kind.TypeName text (specifiers ∷ []) e = absurd (false≢true e)
kids_least kind.TypeName text (storage_word ∷ []) e = absurd (false≢true e)
kids_least kind.TypeName text (typedef_name ∷ []) e = absurd (false≢true e)
kids_least kind.TypeName text (type_specifier ∷ []) e = absurd (false≢true e)
kids_least kind.TypeName text (member ∷ []) e = absurd (false≢true e)
kids_least kind.TypeName text (enumerator ∷ []) e = absurd (false≢true e)
kids_least kind.TypeName text (declarator ∷ []) e = absurd (false≢true e)
kids_least kind.TypeName text (abstract_declarator ∷ []) e = absurd (false≢true e)
kids_least kind.TypeName text (no_name ∷ []) e = absurd (false≢true e)
kids_least kind.TypeName text (parameter ∷ []) e = absurd (false≢true e)
kids_least kind.TypeName text (type_name ∷ []) e = absurd (false≢true e)
kids_least kind.TypeName text (block ∷ []) e = absurd (false≢true e)
kids_least kind.TypeName text (empty ∷ []) e = absurd (false≢true e)
kids_least kind.TypeName text (statement ∷ []) e = absurd (false≢true e)
kids_least kind.TypeName text (switch_label ∷ []) e = absurd (false≢true e)
kids_least kind.TypeName text ((expression l) ∷ []) e = absurd (false≢true e)
kids_least kind.TypeName text (no_category ∷ []) e = absurd (false≢true e)
kids_least kind.TypeName text (a ∷ b ∷ more) e = omega arith
kids_least kind.ExprStmt text [] e = absurd (false≢true e)
kids_least kind.ExprStmt text (a ∷ more) e = omega arith
kids_least kind.If text [] e = absurd (false≢true e)
kids_least kind.If text (a ∷ []) e = absurd (false≢true e)
kids_least kind.If text (a ∷ b ∷ more) e = omega arith
kids_least kind.While text [] e = absurd (false≢true e)
kids_least kind.While text (a ∷ []) e = absurd (false≢true e)
kids_least kind.While text (a ∷ b ∷ more) e = omega arith
kids_least kind.Do text [] e = absurd (false≢true e)
kids_least kind.Do text (a ∷ []) e = absurd (false≢true e)
kids_least kind.Do text (a ∷ b ∷ more) e = omega arith
kids_least kind.For text [] e = absurd (false≢true e)
kids_least kind.For text (a ∷ []) e = absurd (false≢true e)
kids_least kind.For text (a ∷ b ∷ []) e = absurd (false≢true e)
kids_least kind.For text (a ∷ b ∷ c ∷ []) e = absurd (false≢true e)
kids_least kind.For text (a ∷ b ∷ c ∷ d ∷ more) e = omega arith
kids_least kind.Switch text [] e = absurd (false≢true e)
kids_least kind.Switch text (a ∷ more) e = omega arith
kids_least kind.Case text [] e = absurd (false≢true e)
kids_least kind.Case text (a ∷ more) e = omega arith
kids_least kind.Paren text [] e = absurd (false≢true e)
kids_least kind.Paren text (a ∷ more) e = omega arith
kids_least kind.Unary text [] e = absurd (false≢true e)
kids_least kind.Unary text (a ∷ more) e = omega arith
kids_least kind.Post text [] e = absurd (false≢true e)
kids_least kind.Post text (a ∷ more) e = omega arith
kids_least kind.Binary text [] e = absurd (false≢true e)
kids_least kind.Binary text (a ∷ []) e = absurd (false≢true e)
kids_least kind.Binary text (a ∷ b ∷ more) e = omega arith
kids_least kind.Assign text [] e = absurd (false≢true e)
kids_least kind.Assign text (a ∷ []) e = absurd (false≢true e)
kids_least kind.Assign text (a ∷ b ∷ more) e = omega arith
kids_least kind.Cond text [] e = absurd (false≢true e)
kids_least kind.Cond text (a ∷ []) e = absurd (false≢true e)
kids_least kind.Cond text (a ∷ b ∷ []) e = absurd (false≢true e)
kids_least kind.Cond text (a ∷ b ∷ c ∷ more) e = omega arith
kids_least kind.Comma text [] e = absurd (false≢true e)
kids_least kind.Comma text (a ∷ []) e = absurd (false≢true e)
kids_least kind.Comma text (a ∷ b ∷ more) e = omega arith
kids_least kind.Index text [] e = absurd (false≢true e)
kids_least kind.Index text (a ∷ []) e = absurd (false≢true e)
kids_least kind.Index text (a ∷ b ∷ more) e = omega arith
kids_least kind.Call text [] e = absurd (false≢true e)
kids_least kind.Call text (a ∷ more) e = omega arith
kids_least kind.Dot text [] e = absurd (false≢true e)
kids_least kind.Dot text (a ∷ more) e = omega arith
kids_least kind.Arrow text [] e = absurd (false≢true e)
kids_least kind.Arrow text (a ∷ more) e = omega arith
kids_least kind.Cast text [] e = absurd (false≢true e)
kids_least kind.Cast text (unit ∷ []) e = absurd (false≢true e)
kids_least kind.Cast text (function ∷ []) e = absurd (false≢true e)
kids_least kind.Cast text (declaration ∷ []) e = absurd (false≢true e)
kids_least kind.Cast text (init_declarator ∷ []) e = absurd (false≢true e)
kids_least kind.Cast text (braces ∷ []) e = absurd (false≢true e)
kids_least kind.Cast text (specifiers ∷ []) e = absurd (false≢true e)
kids_least kind.Cast text (storage_word ∷ []) e = absurd (false≢true e)
kids_least kind.Cast text (typedef_name ∷ []) e = absurd (false≢true e)
kids_least kind.Cast text (type_specifier ∷ []) e = absurd (false≢true e)
kids_least kind.Cast text (member ∷ []) e = absurd (false≢true e)
kids_least kind.Cast text (enumerator ∷ []) e = absurd (false≢true e)
kids_least kind.Cast text (declarator ∷ []) e = absurd (false≢true e)
kids_least kind.Cast text (abstract_declarator ∷ []) e = absurd (false≢true e)
kids_least kind.Cast text (no_name ∷ []) e = absurd (false≢true e)
kids_least kind.Cast text (parameter ∷ []) e = absurd (false≢true e)
kids_least kind.Cast text (type_name ∷ []) e = absurd (false≢true e)
kids_least kind.Cast text (block ∷ []) e = absurd (false≢true e)
kids_least kind.Cast text (empty ∷ []) e = absurd (false≢true e)
kids_least kind.Cast text (statement ∷ []) e = absurd (false≢true e)
kids_least kind.Cast text (switch_label ∷ []) e = absurd (false≢true e)
kids_least kind.Cast text ((expression l) ∷ []) e = absurd (false≢true e)
kids_least kind.Cast text (no_category ∷ []) e = absurd (false≢true e)
kids_least kind.Cast text (a ∷ b ∷ more) e = omega arith
kids_least kind.SizeExpr text [] e = absurd (false≢true e)
kids_least kind.SizeExpr text (a ∷ more) e = omega arith
kids_least kind.SizeType text [] e = absurd (false≢true e)
kids_least kind.SizeType text (a ∷ more) e = omega arith
kids_least k text cs e = omega arith

-- ---- the kids of a node of a derived tree

there : (ns : List ℕ) (i : ℕ) → i < length ns → slice_get ns i ≡ Some (unwrap_or (slice_get ns i) 0)
there [] i less = absurd (omega (arith, less))
there (n ∷ ns) zero less = refl
there (n ∷ ns) (suc i) less = there ns i (omega (arith, less))

-- the kid of this index is the node k
pub record KidIs (table : List SynNode) (n k : ℕ) : Type 0 where
  pub parent : (node_in table k).parent ≡ n
  pub less : k < n

from_start : (all : List Node) (start stop parent i k : ℕ) (ns : List ℕ) → KidsFrom all start stop parent ns → slice_get ns i ≡ Some k → start ≤ k
from_start all start stop parent i k [] e at = absurd (cc at)
from_start all start stop parent zero k (n ∷ ns) e at = let same : n ≡ k = cc at in subst (λ m. start ≤ m) same e.0.behind
from_start all start stop parent (suc i) k (n ∷ ns) e at =
    let later = from_start all (n + 1) stop parent i k ns e.1 at in
    let own = e.0.behind in
    omega (arith, later, own)

rises : (all : List Node) (start stop parent i j k l : ℕ) (ns : List ℕ) → KidsFrom all start stop parent ns → i < j → slice_get ns i ≡ Some k → slice_get ns j ≡ Some l → k < l
rises all start stop parent i j k l [] e less at other = absurd (cc at)
rises all start stop parent i zero k l (n ∷ ns) e less at other = absurd (omega (arith, less))
rises all start stop parent zero (suc j) k l (n ∷ ns) e less at other =
    let same : n ≡ k = cc at in
    let later = from_start all (n + 1) stop parent j l ns e.1 other in
    subst (λ m. m < l) same (omega (arith, later))
rises all start stop parent (suc i) (suc j) k l (n ∷ ns) e less at other = rises all (n + 1) stop parent i j k l ns e.1 (omega (arith, less)) at other

module _ (table : List SynNode) (n : ℕ) (d : IsDerived table) (within : n < length (nodes_in table)) where
  pub node_there : slice_get (nodes_in table) n ≡ Some (node_in table n)
  node_there = let at = slice_get-get_or (nodes_in table) n nowhere within in at ∙ ap Some (sym (ap (λ o. unwrap_or o nowhere) at))

  pub has_kids : HasKids table n (least_kids (node_in table n).label.kind)
  unfolding nodes_in
  has_kids =
      let m = node_in table n in
      let fits = node_fits d.tokens (tree_in table) n m d.derived node_there in
      subst (λ c. least_kids m.label.kind ≤ c) (length-map (in_table m).kids _ ∙ length-map m.kids _) (kids_least m.label.kind m.label.text (map _ (in_table m).kids) fits.kids)

  module _ (i : ℕ) (has : HasKids table n (suc i)) where
    kid_there : slice_get (node_in table n).kids i ≡ Some (kid (node_in table n) i)
    kid_there = there (node_in table n).kids i has

    pub kid_is : KidIs table n (kid (node_in table n) i)
    unfolding nodes_in
    kid_is =
        let m = node_in table n in
        let k = kid_of (nodes_in table) m.first n m.kids i (kid m i) (tiled d.tokens (tree_in table) d.derived n m node_there).kids kid_there in
        record { parent = ap (λ o. (unwrap_or o nowhere).parent) k.at ∙ k.below; less = k.less }

    pub kid_after : (j : ℕ) → j < i → kid (node_in table n) j + 1 ≤ kid (node_in table n) i
    unfolding nodes_in
    kid_after j less =
        let m = node_in table n in
        let before : slice_get m.kids j ≡ Some (kid m j) = there m.kids j (omega (arith, less, has)) in
        let risen = rises (nodes_in table) m.first n n j i (kid m j) (kid m i) m.kids (tiled d.tokens (tree_in table) d.derived n m node_there).kids less before kid_there in
        omega (arith, risen)
