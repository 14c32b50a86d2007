use Rattle.std.proofs.Common.{◌-◌, ◌++◌, ap, ap₂, sym, ◌∙◌, append_assoc, length, get_or, map, arith, rules}
use Rattle.std.specs.Prelude.{drop}
use Rattle.c_types.specs.declared.tree.Object.{Object}
use Rattle.c_types.specs.Placing.{cells_of, painted, placed}
use Rattle.c_types.specs.Writing.{CellsFit}
use Rattle.c_types.proofs.PaintLaws.{one_object, zip_at, zip_long}
use Rattle.c_types.proofs.area.put_objects.Goals as goal

pub bounds-offsets-left : goal.bounds-offsets-left
bounds-offsets-left c = let long = zip_long _ _ _ c.requires.fit in let within = c.loop-left.invariant.within in let some = c.loop-left-test.true in omega (arith, long, within, some)

pub put_cells-requires-clause-fit : goal.put_cells-requires-clause-fit
put_cells-requires-clause-fit c =
    let within = c.loop-left.invariant.within in
    let some = c.loop-left-test.true in
    let fit = zip_at (λ (o : Object) at. CellsFit o.cells at (length c.args.area.now)) c.args.objects.now c.args.offsets.now (c.loop-left.left - 1) c.index-objects-left.result 0 (omega (arith, within, some)) c.requires.fit in
    rw (c.as_slice-cells.ensures, c.loop-left.invariant.long) fit

pub loop-left-preserved : goal.loop-left-preserved
loop-left-preserved c =
    let within = c.loop-left.invariant.within in
    let some = c.loop-left-test.true in
    record {
      within = omega (arith, within, some);
      long = search rules;
      written = λ done start.
          let rest = cells_of c.args.base c.args.offsets.now (drop c.loop-left.left c.args.objects.now) (drop c.loop-left.left c.args.offsets.now) in
          let before = c.loop-left.invariant.written done start ∙ ap (painted (rest ++ done)) (sym c.loop-left.invariant.long) in
          let own = map (placed c.args.base c.args.offsets.now (get_or c.args.offsets.now (c.loop-left.left - 1) 0)) in
          c.put_cells.ensures (rest ++ done) before
          ∙ ap₂ (λ cells n. painted (own cells ++ (rest ++ done)) n) c.as_slice-cells.ensures c.loop-left.invariant.long
          ∙ ap (λ cells. painted cells (length c.args.area.now))
          (sym (append_assoc _ rest done)
          ∙ ap (λ cells. cells ++ done) (sym (one_object c.args.base c.args.offsets.now c.args.objects.now c.args.offsets.now c.loop-left.left c.index-objects-left.result some within (zip_long _ _ _ c.requires.fit))));
    }
