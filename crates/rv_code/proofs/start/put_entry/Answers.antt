use Rattle.rv_code.proofs.Pieces.{one}
use Rattle.rv_code.proofs.StartLines.{entry_lines}
use Rattle.rv_code.proofs.start.put_entry.Goals as goal

pub returns : goal.returns
returns c functions main e = one c.push_all.result c.push_all.new.self _ _ _ (entry_lines functions main e) c.push_all.ensures.ok
