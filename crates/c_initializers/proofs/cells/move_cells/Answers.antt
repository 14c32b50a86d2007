use Rattle.std.proofs.Common.{◌∙◌, length, refl, ap, arith, List, get_or}
use Rattle.std.specs.Prelude.{slice_set}
use Rattle.c_types.specs.declared.tree.Cell.{Cell}
use Rattle.c_types.specs.declared.tree.CellValue.TheVariants.{Number}
use Rattle.c_initializers.proofs.CellLaws.{shifted, next_shifted, all_shifted, as_long}
use Rattle.c_initializers.proofs.cells.move_cells.Goals as goal

pub loop-k-init : goal.loop-k-init
loop-k-init c = refl

pub offset_bounds-as_slice-k : goal.offset_bounds-as_slice-k
offset_bounds-as_slice-k c =
    let long = ap length c.loop-k.invariant ∙ as_long c.args.by c.args.cells.now c.loop-k.k in
    let same = ap length c.as_slice.ensures in
    omega (arith, long, same, c.loop-k-test.true, c.len-k-end.ensures, c.as_slice.type_inv.1)

pub bounds-as_slice-k : goal.bounds-as_slice-k
bounds-as_slice-k c =
    let long = ap length c.loop-k.invariant ∙ as_long c.args.by c.args.cells.now c.loop-k.k in
    let same = ap length c.as_slice.ensures in
    omega (arith, long, same, c.loop-k-test.true, c.len-k-end.ensures)

pub set-requires : goal.set-requires
set-requires c =
    let long = ap length c.loop-k.invariant ∙ as_long c.args.by c.args.cells.now c.loop-k.k in
    omega (arith, long, c.loop-k-test.true, c.len-k-end.ensures)

pub loop-k-preserved : goal.loop-k-preserved
loop-k-preserved c =
    let long = ap length c.loop-k.invariant ∙ as_long c.args.by c.args.cells.now c.loop-k.k in
    c.set.ensures ∙ ap (λ (cs : List Cell). slice_set c.loop-k.cells c.loop-k.k (shifted c.args.by (get_or cs c.loop-k.k (record { offset = 0; width = 0; value = Number 0 })))) c.as_slice.ensures
    ∙ next_shifted c.args.by c.args.cells.now c.loop-k.cells c.loop-k.k _ (omega (arith, c.loop-k-test.true, c.len-k-end.ensures)) c.loop-k.invariant

pub returns : goal.returns
returns c = all_shifted c.args.by c.args.cells.now c.loop-k.cells c.loop-k.k (omega (arith, c.loop-k-test.false, c.len-k-end.ensures)) c.loop-k.invariant
