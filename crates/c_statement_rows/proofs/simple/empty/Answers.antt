use Rattle.std.specs.Prelude.{[], ◌∷◌, refl}
use Rattle.c_typing.specs.Statements.{empty_statement}
use Rattle.c_type_ids.proofs.TableLaws.{grows_same}
use Rattle.c_meanings.proofs.MeaningLaws.{coded_row, nothing_taken}
use Rattle.c_statement_rows.proofs.StatementLaws.{empty_is}
use Rattle.c_statement_rows.proofs.simple.empty.Goals as goal

pub returns : goal.returns
returns c =
    let table = c.args.nodes.now in
    let n = c.args.node in
    let m = c.args.meanings.now in
    coded_row table n 0 m m m c.performed.result c.requires.ready c.requires.within (nothing_taken table n m) refl (grows_same m.types m.types refl) c.nothing.result (empty_statement ∷ []) c.performed.ensures c.nothing.ensures (empty_is table n c.requires.kind)
