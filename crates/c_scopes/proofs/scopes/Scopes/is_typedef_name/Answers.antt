-- The map says of the name what the scopes say.
use Rattle.std.proofs.Common.{ap, ◌∙◌, reverse}
use Rattle.c_grammar.specs.Scopes.{is_typedef_name}
use Rattle.c_scopes.specs.ScopeLog.{names_of}
use Rattle.c_scopes.proofs.LatestLaws.{is_typedef-latest_in}
use Rattle.c_scopes.proofs.scopes.Scopes.is_typedef_name.Goals as goal

pub returns : goal.returns
returns c =
    ap (λ l. l.is_typedef) (c.latest_of.ensures ∙ c.self.invariant.says c.args.name.now)
    ∙ is_typedef-latest_in (names_of (reverse c.self.inside.log.items)) c.args.name.now
    ∙ ap (λ names. is_typedef_name names c.args.name.now) c.self.view_is
