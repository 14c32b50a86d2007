use Rattle.std.proofs.Common.{◌∙◌, ◌==◌, ◌&&◌, ap, sym, ◌≡◌, not, subst, List}
use Rattle.std.specs.Prelude.{IfOk}
use Rattle.c_statements.specs.contracts.labels.LabelPartialEq.TheImpl.{eq-value}
use Rattle.c_statements.specs.declared.labels.Label.{Label}
use Rattle.c_statements.specs.Labels.{is_label, has_label}
use Rattle.c_statements.proofs.LabelLaws.{found_by, same_words}
use Rattle.c_statements.proofs.labels.Labels.add.Goals as goal
use Rattle.c_statements.proofs.labels.Labels.add.Goals.{in-Ok, in-Err}

same : (a b : Label) → eq-value.it a b ≡ is_label a.switch a.word b
same a b = ap (λ t. (a.switch == b.switch) && t) (same_words a.word b.word)

pub returns-clause-found : goal.returns-clause-found
returns-clause-found c = elim c.match-insert.branch [
  | in-Ok w ↦ subst (λ r. IfOk r (λ found. found ≡ has_label c.args.self.now c.args.label.switch c.args.label.word)) (sym w.result-is)
      (ap not ((w.in-Ok.ensures {u = tt}).added) ∙ found_by eq-value.it c.args.label c.self.inside.seen.keys same ∙ ap (λ (ks : List Label). has_label ks c.args.label.switch c.args.label.word) c.self.view_is)
  | in-Err w ↦ subst (λ r. IfOk r (λ found. found ≡ has_label c.args.self.now c.args.label.switch c.args.label.word)) (sym w.result-is) tt
]
