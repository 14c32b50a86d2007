use Rattle.std.proofs.Common.{subst}
use Rattle.c_judgements.specs.Judged.{IsJudged, taken}
use Rattle.c_judgements.proofs.JudgedLaws.{expressed}
use Rattle.c_typing.specs.Judgements.{judgement_at}
use Rattle.c_meanings.specs.Meanings.{judged_to, kid_in}
use Rattle.c_meanings.proofs.MeaningLaws.{judged_there, no_operand_seen, take_within, untaken_there}
use Rattle.c_meanings.proofs.meanings.Meanings.operand_at.Goals as goal

pub slot-requires : goal.slot-requires
slot-requires c = take_within c.args.nodes.now c.args.node c.args.index c.args.self.now c.requires.within c.requires.kids c.requires.ready c.kid.result c.kid.ensures.is

pub returns-in-Expresses : goal.returns-in-Expresses
returns-in-Expresses c =
    let j = judgement_at (judged_to c.args.nodes.now c.args.node) (kid_in c.args.nodes.now c.args.node c.args.index) in
    expressed c.args.self.now.types c.in-Expresses.typing j (subst (λ s. IsJudged c.args.self.now.types s j) c.in-Expresses.is (judged_there c.args.nodes.now c.args.node c.args.index c.args.self.now c.requires.within c.requires.kids c.requires.ready c.kid.result c.kid.ensures.is taken c.slot.result.now c.slot.ensures))

pub returns-in_default : goal.returns-in_default
returns-in_default c =
    let j = judgement_at (judged_to c.args.nodes.now c.args.node) (kid_in c.args.nodes.now c.args.node c.args.index) in
    no_operand_seen c.args.self.now.types c.slot.result.now j c.in_default.not-Expresses (untaken_there c.args.nodes.now c.args.node c.args.index c.args.self.now c.requires.within c.requires.kids c.requires.ready c.kid.result c.kid.ensures.is taken c.slot.result.now c.slot.ensures)
    (judged_there c.args.nodes.now c.args.node c.args.index c.args.self.now c.requires.within c.requires.kids c.requires.ready c.kid.result c.kid.ensures.is taken c.slot.result.now c.slot.ensures)
