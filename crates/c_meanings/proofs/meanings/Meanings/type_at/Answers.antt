use Rattle.c_meanings.proofs.MeaningLaws.{kid_within}
use Rattle.c_meanings.proofs.meanings.Meanings.type_at.Goals as goal

pub type_at-requires : goal.type_at-requires
type_at-requires c = record { within = kid_within c.args.nodes.now c.args.node c.requires.ready.0 c.args.index c.kid.result c.args.self.now c.requires.within c.requires.kids c.requires.ready.1 c.kid.ensures.is }
