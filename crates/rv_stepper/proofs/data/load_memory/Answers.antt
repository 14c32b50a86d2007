use Rattle.std.proofs.Common.{◌∙◌, ap, ◌++◌}
use Rattle.std.specs.Prelude.{replicate}
use Rattle.std.specs.List.{flat_map}
use Rattle.rv_code.specs.Loading.{item_bytes}
use Rattle.rv_stepper.proofs.Loads.{memory_length}
use Rattle.rv_stepper.proofs.data.load_memory.Goals as goal

pub new-requires-clause-len : goal.new-requires-clause-len
new-requires-clause-len c =
    memory_length c.args.layout.cdata c.args.items.now c.from.result c.args.layout.stack c.put_zeros.new.bytes.items (c.from.ensures ∙ c.requires.size)
    (c.in_ok-put_zeros.ensures ∙ ap (λ b. b ++ replicate c.args.layout.stack 0) (c.in_ok-put_items.ensures ∙ ap (λ b. b ++ flat_map (item_bytes c.args.layout.cdata) c.args.items.now) c.new-bytes.ensures.items))
