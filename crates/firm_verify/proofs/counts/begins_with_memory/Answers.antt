use Rattle.std.proofs.Common.{get_or, None}
use Rattle.firm_tables.proofs.NodeLaws.{agrees}
use Rattle.firm_verify.proofs.CountsLaws.{begins, some_length}
use Rattle.firm_verify.proofs.counts.begins_with_memory.Goals as goal

pub returns-then-has_mode : goal.returns-then-has_mode
returns-then-has_mode c = begins (λ n. get_or c.args.modes.now n None) c.args.operands.now c.have.result (some_length c.args.operands.now (c.if-is_empty.ensures {u = tt})) (agrees c.has_mode.result c.if-has_mode.true c.has_mode.ensures) c.have.ensures
