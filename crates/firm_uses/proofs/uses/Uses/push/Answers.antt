use Rattle.std.proofs.Common.{◌∙◌, ◌<◌, ◌++◌, ◌∷◌, [], sym, ap, subst, length, arith}
use Rattle.std.proofs.lemmas.List.{length-map}
use Rattle.cp_obstack.specs.Lists.{list_of}
use Rattle.firm_uses.specs.Tables.{with_list}
use Rattle.firm_uses.specs.Counts.{times, Used}
use Rattle.firm_uses.proofs.EditLaws.{on_ok}
use Rattle.firm_uses.proofs.TieLaws.{tied_push}
use Rattle.firm_uses.proofs.uses.Uses.push.Goals as goal

pub invariant_of-self-2 : goal.invariant_of-self-2
invariant_of-self-2 c =
    let uses = c.self.inside.uses.rows in
    let users = c.self.inside.users.rows in
    let pushed = on_ok c.push-2.result (c.push-2.ensures.within (omega (arith, c.in_ok-reserve.ensures.room))) c.push-2.ensures.ok
    ∙ ap (λ rs. with_list rs c.args.used (list_of rs c.args.used ++ c.args.user ∷ [])) c.reserve.ensures.rows in
    let there : c.args.user < length uses = subst (λ (u : Used). c.args.user < length u.uses) (sym c.self.view_is) c.requires.user in
    let among : c.args.used < length users = omega (arith, c.requires.used, ap (λ (u : Used). length u.loads) c.self.view_is, length-map users (λ l. length l)) in
    λ user used. ap (λ rs. times user (list_of rs used)) pushed ∙ tied_push uses users c.args.user c.args.used c.self.invariant there among user used
    ∙ ap (λ rs. times used (list_of rs user)) (sym c.in_ok-push.ensures.ok)
