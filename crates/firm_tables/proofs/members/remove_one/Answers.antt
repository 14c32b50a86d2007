use Rattle.std.proofs.Common.{◌≡◌, ◌<◌, subst, length, get_or}
use Rattle.firm_tables.specs.Nodes.{numbers}
use Rattle.firm_tables.proofs.MemberLaws.{swapped_one}
use Rattle.firm_tables.proofs.members.remove_one.Goals as goal

pub returns : goal.returns
returns c = λ x.
    swapped_one c.args.list.now.items c.swap_remove.new.self.items c.place_of-place.result c.args.node x c.swap_remove.result
    (subst (λ l. c.place_of-place.result < length l) c.deref.ensures.value c.place_of-place.ensures.within)
    (subst (λ l. get_or (numbers l) c.place_of-place.result 0 ≡ c.args.node) c.deref.ensures.value c.place_of-place.ensures.is) c.swap_remove.ensures.value
    c.swap_remove.ensures.items
