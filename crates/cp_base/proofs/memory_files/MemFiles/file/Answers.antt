use Rattle.std.proofs.Common.{sym, ap, ◌∙◌}
use Rattle.std.specs.FinMap.{get}
use Rattle.cp_base.proofs.StoredFiles.{get-contents_of}
use Rattle.cp_base.proofs.memory_files.MemFiles.file.Goals as goal

pub returns : goal.returns
returns c =
    c.get.ensures.value
    ∙ sym (get-contents_of c.self.inside.files c.args.name.now)
    ∙ ap (λ s. get s.contents c.args.name.now) c.self.view_is
