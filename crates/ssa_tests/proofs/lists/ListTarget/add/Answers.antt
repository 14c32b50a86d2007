use Rattle.std.proofs.Common.{refl, rules}
use Rattle.ssa_tests.proofs.lists.ListTarget.add.Goals as goal

pub returns-clause-value : goal.returns-clause-value
returns-clause-value c = record {
  value = _;
  values = c.in_ok-push.ensures.items;
  blocks = refl;
  is_tag = refl;
  no_operands = search rules;
  in_block = refl;
  itself = search rules;
}
