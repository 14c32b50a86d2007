use Rattle.c_types.proofs.EqualLaws.{equal, own_kind, same_kind}
use Rattle.c_types.proofs.KeptLaws.{added_kept, is_added}
use Rattle.c_types.proofs.types.insert.Goals as goal

pub returns-clause-added : goal.returns-clause-added
returns-clause-added c = λ structs.
    let kinds = c.args.kinds.now.entries in
    rw c.in-Ok.ensures.entries
    (is_added equal same_kind c.args.kind c.args.known kinds structs (record { number = c.in-Ok.number }) (own_kind c.args.kind) c.in-Ok.ensures.index
    (rw c.in-Ok.ensures.entries at c.in-Ok.ensures.unique))

pub returns-clause-kept : goal.returns-clause-kept
returns-clause-kept c = λ structs kept parts known.
    rw c.in-Ok.ensures.entries (added_kept equal same_kind c.args.kind c.args.known c.args.kinds.now.entries structs kept parts known)
