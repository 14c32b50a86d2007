use Rattle.std.proofs.Common.{subst}
use Rattle.c_type_ids.specs.Ids.{Shows}
use Rattle.c_values.specs.Typings.{ShownAs}
use Rattle.c_values.proofs.ReadLaws.{decay, read_unsized, read_array}
use Rattle.c_values.proofs.conversions.read.Goals as goal

pub returns-in-Unsized-clause-is : goal.returns-in-Unsized-clause-is
returns-in-Unsized-clause-is c =
    decay c.args.table.now c.pointed.new.table c.args.typing c.in-Unsized.element c.pointed.result
    (λ u h. read_unsized c.args.table.now c.in-Unsized.element u (subst (λ s. ShownAs c.args.table.now s u) c.in-Unsized.is (c.kind_of.ensures u h))) c.pointed.ensures.is

pub returns-in-Kind-Array-clause-is : goal.returns-in-Kind-Array-clause-is
returns-in-Kind-Array-clause-is c =
    decay c.args.table.now c.pointed-in-Kind-Array.new.table c.args.typing c.in-Kind-Array.element c.pointed-in-Kind-Array.result
    (λ u h. read_array c.args.table.now c.in-Kind-Array.element c.in-Kind-Array.field-0-1 u
    (subst (λ K. Shows c.args.table.now K u) c.in-Kind-Array.field-0-is (subst (λ s. ShownAs c.args.table.now s u) c.in-Kind-Array.is (c.kind_of.ensures u h)))) c.pointed-in-Kind-Array.ensures.is
