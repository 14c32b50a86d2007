use Rattle.c_names.proofs.names.name_at.Goals as goal

pub returns-then-is_enumerator : goal.returns-then-is_enumerator
returns-then-is_enumerator c = λ b. c.enumerator.ensures c.args.node b
