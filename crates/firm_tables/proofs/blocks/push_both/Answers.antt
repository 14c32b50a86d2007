use Rattle.std.proofs.Common.{◌∙◌, ap, length}
use Rattle.firm_uses.specs.Tables.{Table}
use Rattle.firm_tables.proofs.BlockLaws.{then_err, undone}
use Rattle.firm_tables.proofs.blocks.push_both.Goals as goal

pub returns-then-is_err-clause-err : goal.returns-then-is_err-clause-err
returns-then-is_err-clause-err c =
    then_err c.push-both.result c.push-both.ensures.err
    (λ e. undone c.args.preds.now.rows c.push-both.new.self.rows c.truncate.new.self.rows c.args.first c.args.from (length c.list-len.result.now) c.requires.first
    (ap (λ (t : Table). t.rows) e ∙ c.in_ok-push.ensures.ok) (ap length c.list-len.ensures) c.truncate.ensures)
