use Rattle.std.proofs.Common.{sym, List, [], ℕ}
use Rattle.std.specs.Borrow.{Bor}
use Rattle.std.proofs.Math.ListN.{get_or-map}
use Rattle.c_parts.proofs.words.word_at.Goals as goal

pub returns : goal.returns
returns c = sym (get_or-map (λ (word : Bor (List ℕ)). word.now) c.args.table.now c.args.slot (record { ref_ptr = (0, 0); now = [] }))
