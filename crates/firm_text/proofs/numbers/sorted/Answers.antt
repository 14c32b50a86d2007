use Rattle.std.proofs.Common.{◌∙◌, ap}
use Rattle.std.proofs.lemmas.List.Sorted.{IsNonDecreasingBy-from_sort}
use Rattle.firm_uses.specs.Counts.{times}
use Rattle.firm_text.proofs.SortedLaws.{times_moved}
use Rattle.firm_text.proofs.numbers.sorted.Goals as goal

pub returns-clause-times : goal.returns-clause-times
returns-clause-times c n = times_moved n c.in_ok-list.list.items c.sort.new.self.items c.sort.ensures.permutation ∙ ap (times n) c.in_ok-list.ensures

pub returns-clause-sorted : goal.returns-clause-sorted
returns-clause-sorted c = IsNonDecreasingBy-from_sort (λ x. x) c.sort.new.self.items c.in_ok-sort.ensures.sorted
