use Rattle.std.proofs.Common.{◌%◌, lit<}
use Rattle.std.proofs.Math.Nat.{mod-lt}
use Rattle.cp_base.proofs.Shifts.{shifted_word}
use Rattle.cp_base.proofs.op.shift_signed.Goals as goal

-- src/op.rt:105:1
pub returns : goal.returns
returns c = shifted_word c.args.a (c.args.b % 32) c.cast_unsigned.result c.cast_signed.result c.ranges.a.fits (mod-lt c.args.b (lit< tt)) c.cast_signed.ensures c.cast_unsigned.ensures
