use Rattle.std.proofs.Common.{◌≡◌, length, ap, sym, ◌∙◌, rules}
use Rattle.std.proofs.lemmas.List.{take_at}
use Rattle.c_interpreter.specs.Machine.{seen}
use Rattle.c_interpreter.proofs.Memory.{copy_failed}
use Rattle.c_interpreter.proofs.machine.Machine.copy.Goals as goal

pub returns-else-copy : goal.returns-else-copy
returns-else-copy c =
    let same : c.copy.new.bytes ≡ c.args.self.now.bytes.items = c.copy.ensures.same c.if-copy.false ∙ c.deref_mut.ensures.value in
    let long : length c.copy.new.bytes ≡ c.args.self.now.bytes.len = ap length same ∙ sym c.args.self.now.bytes.ok.0 in
    copy_failed c.args.place.now (seen c.args.self.now) _ c.args.size c.args.align c.args.to c.args.from (search rules) (take_at c.copy.new.bytes _ c.args.self.now.bytes.len long ∙ same) c.requires
