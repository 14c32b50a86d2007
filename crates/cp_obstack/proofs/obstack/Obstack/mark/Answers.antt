use Rattle.std.proofs.Common.{◌∙◌, ap, length}
use Rattle.cp_obstack.specs.Lists.{Lists}
use Rattle.cp_obstack.proofs.CutLaws.{many}
use Rattle.cp_obstack.proofs.obstack.Obstack.mark.Goals as goal

pub returns : goal.returns
returns c =
    c.len.ensures ∙ c.self.inside.starts.ok.0 ∙ many c.self.inside.starts.items c.self.inside.numbers.items c.self.invariant
    ∙ ap (λ (v : Lists). length v.lists) c.self.view_is
