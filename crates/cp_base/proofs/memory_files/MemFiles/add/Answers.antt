use Rattle.std.proofs.Common.{ap, ◌∙◌, ◌++◌}
use Rattle.cp_base.proofs.StoredFiles.{contents_of-insert, stored}
use Rattle.cp_base.proofs.memory_files.MemFiles.add.Goals as goal

pub returns-clause-ok : goal.returns-clause-ok
returns-clause-ok c =
    let inserted = contents_of-insert c.self.inside.files c.insert.new.self _ _ c.in_ok-insert.ensures.updates in
    let inside = c.self.inside in
    stored _ _ _ _ _ _ _ (ap (λ files. record { contents = files; failing = inside.failing.items; calls = inside.calls; faults = inside.faults }) inserted) c.self.view_is c.in_ok-name.ensures.ok (c.in_ok-push_all.ensures.ok ∙ ap (λ b. b ++ c.args.bytes.now) c.new-file.ensures)
