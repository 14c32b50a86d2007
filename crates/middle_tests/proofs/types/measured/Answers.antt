use Rattle.middle_tests.proofs.types.measured.Goals as goal

pub add-requires : goal.add-requires
add-requires c = c.kind_of.ensures c.new-types.result
