use Rattle.c_statements.proofs.returns.return_value.Goals as goal

pub converted-requires : goal.converted-requires
converted-requires c = (c.requires.gives.0, c.requires.gives.1)
