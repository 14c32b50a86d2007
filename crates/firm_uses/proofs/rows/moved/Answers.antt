use Rattle.std.proofs.Common.{◌≡◌, ◌++◌, ◌∙◌, sym, ap, ap₂, take, []}
use Rattle.std.proofs.lemmas.Option.{get_or_from_slice_get}
use Rattle.std.proofs.lemmas.Result.{on_ok_weaker}
use Rattle.cp_obstack.specs.Lists.{list_of}
use Rattle.firm_uses.proofs.HeldLaws.{front_copied}
use Rattle.firm_uses.proofs.rows.moved.Goals as goal

pub returns-clause-front : goal.returns-clause-front
returns-clause-front c =
    let list = list_of c.args.numbers.now.lists c.args.span.number in
    let read : list ≡ c.list.result.now = get_or_from_slice_get c.args.numbers.now.lists c.args.span.number c.list.result.now [] c.list.ensures in
    let copied = c.in_ok-extend_from_slice.ensures.items ∙ ap₂ (λ a b. a ++ b) c.clear.ensures.items (c.front_of.ensures ∙ ap (take c.args.len) (sym read)) in
    on_ok_weaker c.push_list.result
    (λ _. front_copied c.args.len c.args.size _ list _ c.resize.new.self.items copied c.in_ok-resize.ensures.items c.requires.larger c.requires.within)
    c.push_list.ensures.pushed
