use Rattle.rv_code.proofs.Pieces.{five}
use Rattle.rv_code.proofs.StartLines.{buffer_lines}
use Rattle.rv_code.proofs.start.put_buffer_address.Goals as goal

pub returns : goal.returns
returns c =
    five c.push_all-3.result c.push_all-3.new.self _ _ _ _ _ _ _ _ _ _ _ (buffer_lines c.args.buffer) c.in_ok-push_all.ensures.ok c.in_ok-put_cdata.ensures c.in_ok-push_all-2.ensures.ok c.in_ok-put_cdata-2.ensures c.push_all-3.ensures.ok
