use Rattle.std.proofs.Common.{◌∙◌, ap, take}
use Rattle.cp_obstack.specs.Lists.{Lists}
use Rattle.cp_obstack.specs.Cuts.{cut}
use Rattle.cp_obstack.proofs.CutLaws.{start_by, released_numbers, released_starts, cut_is, is_cut}
use Rattle.cp_obstack.proofs.obstack.Obstack.release.Goals as goal

pub invariant_of-self : goal.invariant_of-self
invariant_of-self c =
    let starts = c.self.inside.starts.items in
    let numbers = c.self.inside.numbers.items in
    let end = start_by starts numbers c.args.mark.number c.start_of-end.result c.len.result c.deref.result.now c.self.invariant c.deref.ensures.value (c.len.ensures ∙ c.self.inside.numbers.ok.0) c.start_of-end.ensures in
    is_cut (take c.args.mark.number (cut starts numbers)) _ _ (c.truncate-2.ensures.items ∙ released_starts starts numbers c.args.mark.number c.self.invariant)
    (c.truncate.ensures.items ∙ released_numbers starts numbers c.args.mark.number c.start_of-end.result c.self.invariant end)

pub returns-clause-lists : goal.returns-clause-lists
returns-clause-lists c =
    let starts = c.self.inside.starts.items in
    let numbers = c.self.inside.numbers.items in
    let end = start_by starts numbers c.args.mark.number c.start_of-end.result c.len.result c.deref.result.now c.self.invariant c.deref.ensures.value (c.len.ensures ∙ c.self.inside.numbers.ok.0) c.start_of-end.ensures in
    cut_is (take c.args.mark.number (cut starts numbers)) _ _ (c.truncate-2.ensures.items ∙ released_starts starts numbers c.args.mark.number c.self.invariant)
    (c.truncate.ensures.items ∙ released_numbers starts numbers c.args.mark.number c.start_of-end.result c.self.invariant end)
    ∙ ap (λ (v : Lists). take c.args.mark.number v.lists) c.self.view_is
