use Rattle.std.proofs.Common.{rules}
use Rattle.rv_code.specs.Places.{main_number}
use Rattle.rv_code.specs.Text.{text_of}
use Rattle.rv_code.proofs.MainNumber.{main_has_its_name}
use Rattle.rv_code.proofs.text.text_of.Goals as goal

pub returns : goal.returns
unfolding text_of
returns c =
    let functions = c.args.asm.now.functions in
    let started = c.in_ok-put_start.ensures functions (main_number functions) (main_has_its_name functions c.requires.names.main) in
    search (rules, started)
