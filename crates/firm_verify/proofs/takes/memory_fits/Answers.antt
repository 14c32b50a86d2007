use Rattle.firm_tables.proofs.NodeLaws.{agrees, refuses, matches}
use Rattle.firm_verify.proofs.TakesLaws.{fits_of, fits_first, fits_phi, fits_return}
use Rattle.firm_verify.proofs.takes.memory_fits.Goals as goal

pub returns-then-not-first_takes : goal.returns-then-not-first_takes
returns-then-not-first_takes c fit = refuses c.first_takes.result c.if-not-first_takes.true c.first_takes.ensures (fits_first c.args.graph.now c.args.block.number c.requires.rule1 fit)

pub returns-then-not-phi_takes : goal.returns-then-not-phi_takes
returns-then-not-phi_takes c fit = refuses c.phi_takes.result c.if-not-phi_takes.true c.phi_takes.ensures (fits_phi c.args.graph.now c.args.block.number fit)

pub returns : goal.returns
returns c =
    matches c.return_takes.result c.return_takes.ensures
    (λ taken. fits_of c.args.graph.now c.args.chains.now c.args.block.number c.requires.chains (agrees c.first_takes.result c.if-not-first_takes.false c.first_takes.ensures)
    (agrees c.phi_takes.result c.if-not-phi_takes.false c.phi_takes.ensures) taken)
    (fits_return c.args.graph.now c.args.block.number)
