use Rattle.std.proofs.Common.{◌+◌, Some, length, sym, subst}
use Rattle.c_typing.specs.Types.{array, integer, char}
use Rattle.c_typing.specs.Names.{objects_of}
use Rattle.c_typing.specs.Expressions.{literals_before}
use Rattle.c_type_ids.specs.Ids.{Names}
use Rattle.c_places.proofs.LiteralLaws.{literal_fits}
use Rattle.c_places.proofs.literals.literal.Goals as goal

pub returns-clause-is : goal.returns-clause-is
returns-clause-is c = λ p js text same place.
    literal_fits c.char_array.new.table c.object.result c.args.bytes c.args.node p js text same c.if-bytes.false
    (c.object.ensures c.char_array.new.table (array (integer char) (length text + 1)) (Some (length (objects_of p) + literals_before p js))
    (subst (λ n. Names c.char_array.new.table c.in_ok-id.id (array (integer char) (n + 1))) (sym same) c.in_ok-id.ensures.is) place)
