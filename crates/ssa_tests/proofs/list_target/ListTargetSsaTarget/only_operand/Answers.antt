use Rattle.std.proofs.Common.{sym, ap, ◌∙◌}
use Rattle.ssa_core.specs.Shapes.{phi as phi_kind}
use Rattle.ssa_tests.specs.ListShape.{shape_of}
use Rattle.ssa_tests.proofs.Growing.{if_none_map, only_from, value_kind}
use Rattle.ssa_tests.proofs.list_target.ListTargetSsaTarget.only_operand.Goals as goal

pub returns-clause-none : goal.returns-clause-none
returns-clause-none c =
    if_none_map c.only_of.result (λ no only h. no only (only_from (shape_of c.args.self.now) c.args.phi only c.deref-2.result.now
    (value_kind c.args.self.now.values.items c.args.phi c.index-value.result.now _ c.index-value.ensures c.requires.is ∙ ap phi_kind (sym c.deref-2.ensures.value)) h)) c.only_of.ensures.none
