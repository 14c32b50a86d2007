use Rattle.std.proofs.Common.{subst}
use Rattle.c_typing.specs.Types.{function}
use Rattle.c_type_ids.specs.Ids.{Shows}
use Rattle.c_calls.proofs.ParameterLaws.{shows_function}
use Rattle.c_calls.proofs.calls.gives_of.Goals as goal

pub unreachable-requires : goal.unreachable-requires
unreachable-requires c =
    let (r, ts, named) = c.requires in
    shows_function c.args.table.now c.kind.result r ts (c.kind.ensures (function r ts) named) c.in_default.not-Function

pub returns : goal.returns
returns c = λ r ts named. subst (λ K. Shows c.args.table.now K (function r ts)) c.in-Function.is (c.kind.ensures (function r ts) named)
