use Rattle.std.proofs.Common.{◌+◌, ◌-◌, ◌∙◌, sym, ap, length, set, get_or, arith}
use Rattle.cp_obstack.specs.Lists.{list_of}
use Rattle.firm_uses.specs.Counts.{times}
use Rattle.firm_uses.proofs.CountLaws.{one, times_some}
use Rattle.firm_uses.proofs.TieLaws.{cut_list, forgotten}
use Rattle.firm_uses.proofs.places.forget_one.Goals as goal

pub returns-clause-this : goal.returns-clause-this
returns-clause-this c x =
    let rows = c.args.users.now.rows in
    let list = list_of rows c.args.used in
    let place = c.place_of-place.result in
    let last = length c.list-2.result.now - 1 in
    let moved = get_or c.list-3.result.now last 0 in
    let cut = cut_list rows c.set.new.self.rows c.truncate.new.self.rows c.args.used last (set list place moved) c.requires.there c.set.ensures.rows c.truncate.ensures in
    let some = times_some c.args.user list c.requires.among in
    ap (λ l. times x l + (one x c.args.user + 0)) cut
    ∙ forgotten list place last moved c.args.user x (omega (arith, c.place_of-place.ensures.within, ap length c.list.ensures))
    (omega (arith, some, ap length c.list-2.ensures)) (ap (λ l. get_or l last 0) c.list-3.ensures)
    (ap (λ l. get_or l place 0) (sym c.list.ensures) ∙ c.place_of-place.ensures.is)
