use Rattle.std.proofs.Common.{◌∙◌, ◌<◌, sym, ap, length, arith}
use Rattle.std.proofs.lemmas.List.{length-map}
use Rattle.cp_obstack.specs.Lists.{list_of}
use Rattle.firm_uses.specs.Counts.{times, Used}
use Rattle.firm_uses.proofs.TieLaws.{tied_replace}
use Rattle.firm_uses.proofs.uses.Uses.replace.Goals as goal

pub invariant_of-self-2 : goal.invariant_of-self-2
invariant_of-self-2 c =
    let uses = c.self.inside.uses.rows in
    let users = c.self.inside.users.rows in
    let old : c.args.old < length users = omega (arith, c.requires.old, ap (λ (u : Used). length u.loads) c.self.view_is, length-map users (λ l. length l)) in
    let to : c.args.to < length users = omega (arith, c.requires.to, ap (λ (u : Used). length u.loads) c.self.view_is, length-map users (λ l. length l)) in
    λ user used. tied_replace uses users _ c.truncate.new.self.rows c.args.old c.args.to c.self.invariant c.requires.differs old to c.in_ok-extend.ensures.ok c.truncate.ensures user used
    ∙ ap (λ rs. times used (list_of rs user)) (sym c.rename_all.ensures)
