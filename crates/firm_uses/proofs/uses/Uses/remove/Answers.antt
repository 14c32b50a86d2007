use Rattle.std.proofs.Common.{◌≡◌, ◌≢◌, ◌∙◌, ◌<◌, ◌+◌, ℕ, sym, ap, subst, length, get_or}
use Rattle.cp_obstack.specs.Lists.{list_of}
use Rattle.firm_uses.specs.Counts.{times, Used}
use Rattle.firm_uses.proofs.CountLaws.{one, row_is_there}
use Rattle.firm_uses.proofs.TieLaws.{used_is_there, tied_remove}
use Rattle.firm_uses.proofs.uses.Uses.remove.Goals as goal

pub forget_one-requires-clause-there : goal.forget_one-requires-clause-there
forget_one-requires-clause-there c =
    let uses = c.self.inside.uses.rows in
    let users = c.self.inside.users.rows in
    let within : c.args.index < length (list_of uses c.args.user) = subst (λ (u : Used). c.args.index < length (list_of u.uses c.args.user)) (sym c.self.view_is) c.requires.within in
    subst (λ l. get_or l c.args.index 0 < length users) (sym c.list.ensures)
    (row_is_there users (get_or (list_of uses c.args.user) c.args.index 0) c.args.user (used_is_there uses users c.args.user c.args.index c.self.invariant within))

pub forget_one-requires-clause-among : goal.forget_one-requires-clause-among
forget_one-requires-clause-among c =
    let uses = c.self.inside.uses.rows in
    let users = c.self.inside.users.rows in
    let within : c.args.index < length (list_of uses c.args.user) = subst (λ (u : Used). c.args.index < length (list_of u.uses c.args.user)) (sym c.self.view_is) c.requires.within in
    subst (λ l. 0 < times c.args.user (list_of users (get_or l c.args.index 0))) (sym c.list.ensures)
    (used_is_there uses users c.args.user c.args.index c.self.invariant within)

pub invariant_of-self : goal.invariant_of-self
invariant_of-self c =
    let uses = c.self.inside.uses.rows in
    let users = c.self.inside.users.rows in
    let after = c.forget_one.new.users.rows in
    let there : c.args.user < length uses = subst (λ (u : Used). c.args.user < length u.uses) (sym c.self.view_is) c.requires.user in
    let within : c.args.index < length (list_of uses c.args.user) = subst (λ (u : Used). c.args.index < length (list_of u.uses c.args.user)) (sym c.self.view_is) c.requires.within in
    let this = subst (λ l. (y : ℕ) → times y (list_of after (get_or l c.args.index 0)) + (one y c.args.user + 0) ≡ times y (list_of users (get_or l c.args.index 0))) c.list.ensures c.forget_one.ensures.this in
    let others = subst (λ l. (other : ℕ) → other ≢ get_or l c.args.index 0 → list_of after other ≡ list_of users other) c.list.ensures c.forget_one.ensures.others in
    λ user used. tied_remove uses users after c.args.user c.args.index c.self.invariant there within this others user used
    ∙ ap (λ rs. times used (list_of rs user)) (sym c.remove.ensures)
