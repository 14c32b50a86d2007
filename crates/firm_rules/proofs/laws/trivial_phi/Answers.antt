use Rattle.std.proofs.Common.{sym, ap, ◌∙◌}
use Rattle.ssa_core.specs.Walks.{end}
use Rattle.firm_rules.specs.Lookups.{node_id, shape}
use Rattle.firm_rules.specs.Frames.{word_at}
use Rattle.firm_rules.specs.Visits.{with_visit, word_on}
use Rattle.firm_rules.proofs.Edges.{is_walk}
use Rattle.firm_rules.proofs.Points.{words_agree}
use Rattle.firm_rules.proofs.Trivial.{same_meaning}
use Rattle.firm_rules.proofs.Replacing.{kept}
use Rattle.firm_rules.proofs.laws.trivial_phi.Goals as goal

pub returns-clause-means : goal.returns-clause-means
returns-clause-means c = λ g n other node walk obeys is phi each is_walk_here passed. same_meaning g obeys n node is phi other each walk is_walk_here passed

pub returns-clause-words : goal.returns-clause-words
returns-clause-words c = λ p w g arguments start walk nodes f h s n other node obeys is phi each comes passed.
    words_agree p w g arguments start comes (node_id n)
    ∙ ap (word_on (with_visit h walk (word_at w.base g (end (shape g) walk) f)))
    (same_meaning g obeys n node is phi other each walk (is_walk p w g obeys arguments start comes).0 passed)
    ∙ sym (words_agree p w g arguments start comes (node_id other))

pub returns-clause-replaced : goal.returns-clause-replaced
returns-clause-replaced c = λ g n other node t walk x y obeys is phi each differs replaced is_walk_here becomes over.
    kept g obeys n node is phi other each differs t replaced walk is_walk_here x y becomes over
