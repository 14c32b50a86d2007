use Rattle.std.proofs.Common.{◌≡◌, ◌∙◌, ap, sym, true, false}
use Rattle.std.specs.Prelude.{codes}
use Rattle.std.specs.Str.{bytes_eq}
use Rattle.rv_stepper.proofs.Loads.{is_main, main_is, main_none, all_below_more}
use Rattle.rv_stepper.proofs.load.main_number.Goals as goal

pub returns-then-eq : goal.returns-then-eq
returns-then-eq c =
    let f = c.index-functions-number in
    let named : is_main f.result ≡ true = ap (λ n. bytes_eq n (codes "main")) (sym c.as_slice.ensures) ∙ sym c.eq.ensures ∙ c.if-eq.true in
    main_is c.args.functions.now c.loop-number.number f.result c.loop-number-test.true c.loop-number.invariant (ap is_main (sym f.is) ∙ named)

pub loop-number-preserved : goal.loop-number-preserved
loop-number-preserved c =
    let f = c.index-functions-number in
    let named : is_main f.result ≡ false = ap (λ n. bytes_eq n (codes "main")) (sym c.as_slice.ensures) ∙ sym c.eq.ensures ∙ c.if-eq.false in
    all_below_more c.args.functions.now c.loop-number.number f.result c.loop-number-test.true f.is c.loop-number.invariant named

pub returns : goal.returns
returns c = main_none c.args.functions.now c.loop-number.number c.loop-number-test.false c.loop-number.invariant
