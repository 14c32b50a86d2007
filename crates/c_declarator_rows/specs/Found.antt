-- Names and types that are found, as the code has them and as the rules do.
use Rattle.std.specs.Prelude.{◌≡◌, ℕ, List, Option, Some, None, MatchOption, get_or}
use Rattle.c_syntax.specs.declared.syntax.SynNode.{SynNode}
use Rattle.c_typing.specs.Types.{CType}
use Rattle.c_typing.specs.Names.{Name}
use Rattle.c_nodes.specs.Parents.{nodes_in}
use Rattle.c_names.specs.declared.names.DeclaredName.{DeclaredName}
use Rattle.c_names.specs.Names.{rule_name}
use Rattle.c_type_ids.specs.Ids.{Known}
use Rattle.c_values.specs.declared.typings.«Type».{«Type» as TypeForm}
use Rattle.c_values.specs.Typings.{IsType}
use Rattle.c_judgements.specs.declared.judged.Judged.{Judged}
use Rattle.c_judgements.specs.declared.judged.Judged.TheVariants as judged

-- the type that the rules have there is found; or there is none
abbrev pub Finds : Known → Option TypeForm → Option CType → Type 0
Finds k found o = MatchOption found (o ≡ None) (λ kind. (t : CType) × (o ≡ Some t) × IsType k kind t)

-- as the type of specs, or as that of a declarator; where there is none, the node waits
abbrev pub as_type : Option TypeForm → Judged
as_type None = judged.Waits
as_type (Some kind) = judged.«Type» kind

abbrev pub as_declared : Option TypeForm → Judged
as_declared None = judged.Waits
as_declared (Some kind) = judged.Declares kind

-- the name that the node declares which a use denotes
abbrev pub named_by : Option ℕ → List (Option DeclaredName) → Option DeclaredName
named_by None names = None
named_by (Some node) names = get_or names node None

-- it is this name of the rules
abbrev pub IsName : List SynNode → Option Name → Option DeclaredName → Type 0
IsName table None None = Unit {0}
IsName table (Some e) (Some x) = rule_name (nodes_in table) e.node x ≡ e
IsName table e x = ⊥
