use Rattle.std.proofs.Common.{ap, ap₂, ◌∙◌, codes, Bool, ℕ, List, Option}
use Rattle.std.specs.Prelude.{option_map}
use Rattle.clap.specs.Matches.{found_of}
use Rattle.clap.proofs.WalkLemmas.{first_value-rows}
use Rattle.cp_driver.specs.Jobs.{Options}
use Rattle.cp_driver.proofs.words.options_of.Goals as goal

pub returns : goal.returns
returns c =
    let dump = c.get_str.ensures ∙ first_value-rows (found_of c.args.matches.now) (codes "dump") in
    let file = c.get_str-2.ensures ∙ first_value-rows (found_of c.args.matches.now) (codes "file") in
    let options : Bool → Option (List ℕ) → Option (List ℕ) → Options = λ assembly dump file. record { assembly = assembly; dump = dump; file = file } in
    ap₂ (λ assembly dump. options assembly dump (option_map (λ s. s.now) c.get_str-2.result)) c.has_flag.ensures dump ∙ ap (options _ _) file
