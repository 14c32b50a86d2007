use Rattle.std.proofs.Common.{false, refl}
use Rattle.c_typing.specs.Types.{int}
use Rattle.c_typing.specs.Judgements.{verdict}
use Rattle.c_typing.specs.Rules as faults
use Rattle.c_typing.specs.Expressions.{expression, number_of_type}
use Rattle.c_type_ids.proofs.TableLaws.{grows_same}
use Rattle.c_meanings.proofs.MeaningLaws.{expressed_row, its_number, nothing_taken}
use Rattle.c_expression_rows.proofs.NameRowLaws.{unknown_is}
use Rattle.c_expression_rows.proofs.names.unknown_name.Goals as goal

pub returns : goal.returns
returns c =
    let table = c.args.nodes.now in
    let n = c.args.node in
    let m = c.args.meanings.now in
    expressed_row table n 0 m m m c.expressed.result c.requires.ready c.requires.within (nothing_taken table n m) refl (grows_same m.types m.types refl) 0 c.unknown_name.result (verdict (faults.unknown_name false n) (expression (number_of_type int 0)))
    c.expressed.ensures (unknown_is table n c.requires.kind (its_number table n 0 m c.requires.ready c.requires.within) c.requires.unknown)
    (c.unknown_name.ensures m.types (expression (number_of_type int 0)))
