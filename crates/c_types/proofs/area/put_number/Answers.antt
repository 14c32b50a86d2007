use Rattle.std.proofs.Common.{◌+◌, ◌%◌, ◌/◌, ap, ap₂, ◌∙◌, length, arith}
use Rattle.std.specs.Prelude.{slice_set}
use Rattle.c_types.proofs.PaintLaws.{next_rest, one_byte}
use Rattle.c_types.proofs.area.put_number.Goals as goal

pub loop-k-preserved : goal.loop-k-preserved
loop-k-preserved c = record {
  written = λ done start.
      ap₂ (λ bytes v. slice_set bytes (c.args.at + c.loop-k.k) v) (c.loop-k.invariant.written done start) (ap (λ n. n % 256) c.loop-k.invariant.left)
      ∙ one_byte c.args.at c.args.number done c.loop-k.k (length c.args.area.now) (let h = c.requires in omega (arith, h, c.loop-k-test.true));
  left = ap (λ n. n / 256) c.loop-k.invariant.left ∙ next_rest c.args.number c.loop-k.k;
}
