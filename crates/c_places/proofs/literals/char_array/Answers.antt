use Rattle.c_typing.specs.Types.{integer, char}
use Rattle.c_type_ids.proofs.TableLaws.{grows_on}
use Rattle.c_places.proofs.LiteralLaws.{char_sized}
use Rattle.c_places.proofs.literals.char_array.Goals as goal

pub array-requires : goal.array-requires
array-requires c = char_sized c.integer.new.self c.in_ok-element.element c.in_ok-element.ensures.ok

pub returns-in-Ok-clause-is : goal.returns-in-Ok-clause-is
returns-in-Ok-clause-is c = c.in-Ok.ensures.ok (integer char) c.in_ok-element.ensures.ok

pub returns-in-Ok-clause-grows : goal.returns-in-Ok-clause-grows
returns-in-Ok-clause-grows c = grows_on c.args.table.now c.integer.new.self c.array.new.self c.in_ok-element.ensures.grows c.in-Ok.ensures.grows

pub returns-in-Err-clause-grows : goal.returns-in-Err-clause-grows
returns-in-Err-clause-grows c = grows_on c.args.table.now c.integer.new.self c.array.new.self c.in_ok-element.ensures.grows c.in-Err.ensures.grows
