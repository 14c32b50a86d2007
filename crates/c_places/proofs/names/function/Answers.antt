use Rattle.c_typing.specs.Types as types
use Rattle.c_typing.specs.Judgements as rules
use Rattle.c_typing.specs.Rules.{not_a_function}
use Rattle.c_typing.specs.Expressions.{expression}
use Rattle.c_types.specs.Forms as forms
use Rattle.c_places.proofs.GrowLaws.{made}
use Rattle.c_places.proofs.NameLaws.{not_called}
use Rattle.c_places.proofs.names.function.Goals as goal

pub returns-then-not-is_called : goal.returns-then-not-is_called
returns-then-not-is_called c = λ t d is same.
    not_called c.args.table.now c.args.is_called c.args.node (not_a_function (types.is_function t) c.args.node) (expression (made t (rules.callee d) (forms.const 0) rules.no_constant)) c.if-not-is_called.true
