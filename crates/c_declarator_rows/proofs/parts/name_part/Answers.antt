use Rattle.std.proofs.Common.{[], refl}
use Rattle.std.specs.Prelude.{Ok}
use Rattle.c_typing.specs.Judgements.{means, steps}
use Rattle.c_judgements.specs.declared.judged.Judged.TheVariants as judged
use Rattle.c_declarator_rows.proofs.PartLaws.{name_is}
use Rattle.c_declarator_rows.proofs.RowLaws.{still_row}
use Rattle.c_declarator_rows.proofs.parts.name_part.Goals as goal

pub returns : goal.returns
returns c =
    let table = c.args.nodes.now in
    let n = c.args.node in
    let m = c.args.meanings.now in
    still_row table n 0 m (Ok (judged.Steps c.new.result)) (means (steps [])) c.requires.ready c.requires.within (name_is table n c.requires.kind c.requires.part) refl (refl, c.new.ensures m.types, refl)
