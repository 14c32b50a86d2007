use Rattle.rv_code.proofs.Pieces.{three}
use Rattle.rv_code.proofs.StartLines.{putchar_lines}
use Rattle.rv_code.proofs.start.put_putchar.Goals as goal

pub returns : goal.returns
returns c =
    three c.push_all-2.result c.push_all-2.new.self _ _ _ _ _ _ _ (putchar_lines c.args.buffer) c.in_ok-push_all.ensures.ok c.in_ok-put_buffer_address.ensures c.push_all-2.ensures.ok
