use Rattle.std.proofs.Common.{◌≤◌, [], arith, sym, ap}
use Rattle.std.specs.Prelude.{unwrap_or}
use Rattle.std.proofs.lemmas.Option.{slice_get_past}
use Rattle.rv_code.specs.Registers.{register_names}
use Rattle.rv_code.proofs.instr.register_name.Goals as goal

-- there are 32 registers
pub returns-in_default : goal.returns-in_default
returns-in_default c =
    let past : 32 ≤ c.args.register = omega arith in
    sym (ap (λ o. unwrap_or o []) (slice_get_past register_names c.args.register past))
