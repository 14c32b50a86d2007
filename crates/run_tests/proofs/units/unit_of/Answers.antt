use Rattle.run_tests.specs.Units.{endless_x, signed_overflow, echo, empty_main, null_load, unset_local, factorial, switch_falls_through, struct_copy}
use Rattle.run_tests.proofs.FitsLaws.{fits, endless_x_fits, signed_overflow_fits, echo_fits, empty_main_fits, null_load_fits, unset_local_fits, factorial_fits, switch_falls_through_fits, struct_copy_fits}
use Rattle.run_tests.proofs.units.unit_of.Goals as goal

pub returns-in-EndlessX : goal.returns-in-EndlessX
returns-in-EndlessX c = fits c.endless_x.result endless_x endless_x_fits c.endless_x.ensures

pub returns-in-SignedOverflow : goal.returns-in-SignedOverflow
returns-in-SignedOverflow c = fits c.signed_overflow.result signed_overflow signed_overflow_fits c.signed_overflow.ensures

pub returns-in-Echo : goal.returns-in-Echo
returns-in-Echo c = fits c.echo.result echo echo_fits c.echo.ensures

pub returns-in-EmptyMain : goal.returns-in-EmptyMain
returns-in-EmptyMain c = fits c.empty_main.result empty_main empty_main_fits c.empty_main.ensures

pub returns-in-NullLoad : goal.returns-in-NullLoad
returns-in-NullLoad c = fits c.null_load.result null_load null_load_fits c.null_load.ensures

pub returns-in-UnsetLocal : goal.returns-in-UnsetLocal
returns-in-UnsetLocal c = fits c.unset_local.result unset_local unset_local_fits c.unset_local.ensures

pub returns-in-Factorial : goal.returns-in-Factorial
returns-in-Factorial c = fits c.factorial.result factorial factorial_fits c.factorial.ensures

pub returns-in-SwitchFallsThrough : goal.returns-in-SwitchFallsThrough
returns-in-SwitchFallsThrough c = fits c.switch_falls_through.result switch_falls_through switch_falls_through_fits c.switch_falls_through.ensures

pub returns-in-StructCopy : goal.returns-in-StructCopy
returns-in-StructCopy c = fits c.struct_copy.result struct_copy struct_copy_fits c.struct_copy.ensures
