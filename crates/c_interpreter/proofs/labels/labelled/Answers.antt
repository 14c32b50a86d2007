use Rattle.std.proofs.Common.{◌==◌, ◌+◌, sym, ap, ◌∙◌}
use Rattle.std.specs.List.{list_any}
use Rattle.c_types.specs.declared.tree.Group.{Group}
use Rattle.c_interpreter.proofs.Groups.{pass_group, find_group}
use Rattle.c_interpreter.proofs.labels.labelled.Goals as goal

pub returns-then-has_label : goal.returns-then-has_label
returns-then-has_label c =
    c.loop-group.invariant.before
    ∙ find_group (λ (g : Group). list_any (λ label. label == c.args.word) g.labels) c.args.groups.now c.loop-group.group-index c.group-item.result _
    c.loop-group-test.true c.group-item.is (sym c.has_label.ensures ∙ c.if-has_label.true) c.loop-group.invariant.passed

pub loop-group-preserved : goal.loop-group-preserved
loop-group-preserved c = record {
  before = ap (λ n. n + 1) c.loop-group.invariant.before;
  passed = pass_group (λ (g : Group). list_any (λ label. label == c.args.word) g.labels) c.args.groups.now c.loop-group.group-index c.group-item.result _
      c.loop-group-test.true c.group-item.is (sym c.has_label.ensures ∙ c.if-has_label.false) c.loop-group.invariant.passed;
}
