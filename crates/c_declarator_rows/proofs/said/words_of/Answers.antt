use Rattle.std.proofs.Common.{◌+◌, ◌<◌, length, take, ap, arith, subst, sym, ◌∙◌}
use Rattle.c_syntax.specs.declared.syntax.SynNode.{SynNode}
use Rattle.c_typing.specs.Places.{is_word, numbers}
use Rattle.c_nodes.specs.Parents.{nodes_in}
use Rattle.c_declared_types.specs.Words.{AreWords}
use Rattle.c_declarator_rows.specs.Said.{words_in}
use Rattle.c_declarator_rows.proofs.SpecLaws.{other_next, word_next}
use Rattle.c_declarator_rows.proofs.said.words_of.Goals.{else-is_word, then-is_word}
use Rattle.c_declarator_rows.proofs.said.words_of.Goals as goal

pub loop-kid-preserved : goal.loop-kid-preserved
loop-kid-preserved c =
    let s = nodes_in c.args.nodes.now in
    let kids = c.kids-kids.result.now in
    let i = c.loop-kid.kid-index in
    let within : i < length kids = omega (arith, c.loop-kid-test.true, c.loop-kid.auto.kid-index-end) in
    elim c.if-is_word.branch [
      | then-is_word w ↦
          subst (λ v. AreWords v (words_in s (take (i + 1) (numbers kids)))) (sym w.words-is)
          (word_next s kids i (record { number = 0 }) within c.loop-kid.words c.loop-kid.invariant w.with-words.result w.as_slice.result.now (ap is_word (sym c.kind_at.ensures) ∙ (sym c.is_word.ensures ∙ w.if-is_word.true))
          (w.as_slice.ensures ∙ ap (λ (x : SynNode). x.text) w.node.ensures.is) w.with-words.ensures)
      | else-is_word w ↦
          subst (λ v. AreWords v (words_in s (take (i + 1) (numbers kids)))) (sym w.words-is)
          (other_next s kids i (record { number = 0 }) within c.loop-kid.words c.loop-kid.invariant (ap is_word (sym c.kind_at.ensures) ∙ (sym c.is_word.ensures ∙ w.if-is_word.false)))
    ]
