use Rattle.std.proofs.Common.{None, ap, length, ◌∙◌}
use Rattle.std.proofs.lemmas.List.{length-replicate}
use Rattle.c_meanings.proofs.MeaningLaws.{first_ready, no_structs}
use Rattle.c_meanings.proofs.meanings.Meanings.new.Goals as goal

pub returns : goal.returns
returns c =
    first_ready c.args.nodes.now (record { types = c.in_ok-types.types; judged = c.new-2.result }) c.requires c.len.ensures.nodes (c.new-2.ensures c.in_ok-types.types)
    (no_structs c.in_ok-types.types c.len.result c.in_ok-types.ensures.1)
    (ap length c.in_ok-types.ensures.1 ∙ (length-replicate c.len.result None ∙ c.len.ensures.is))
