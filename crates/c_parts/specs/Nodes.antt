-- What nodes declare, by their kinds.
use Rattle.std.specs.Prelude.{Bool, true, false}
use Rattle.c_syntax.specs.declared.kind.SynKind.{SynKind}
use Rattle.c_syntax.specs.declared.kind.SynKind.TheVariants as kind

-- a leaf of this kind declares nothing
abbrev pub leaves_names : SynKind → Bool
leaves_names kind.Enumer = false
leaves_names kind.InitDecl = false
leaves_names kind.Function = false
leaves_names other = true

-- a node of this kind declares what its kids declare
abbrev pub declares_nothing : SynKind → Bool
declares_nothing kind.Block = false
declares_nothing kind.For = false
declares_nothing kind.Switch = false
declares_nothing kind.Param = false
declares_nothing kind.Enumer = false
declares_nothing kind.InitDecl = false
declares_nothing kind.Function = false
declares_nothing kind.Declaration = false
declares_nothing other = true
