use Rattle.std.proofs.Common.{◌≡◌, ℕ, List, ◌∷◌, ◌++◌, inl, inr, sym, ap, ◌∙◌, append_assoc}
use Rattle.std.specs.Prelude.{codes}
use Rattle.std.specs.Fmt.{decimal}
use Rattle.std.proofs.lemmas.Bool.Decides.{Decides-eqb}
use Rattle.std.proofs.lemmas.Slice.Eq.{slice_eq-Decides}
use Rattle.cp_first.proofs.first_form.return_status.Goals as goal
use Rattle.cp_first.proofs.first_form.return_status.Goals.{then-eq, else-eq}

pub returns-then-eq-2-clause-found : goal.returns-then-eq-2-clause-found
returns-then-eq-2-clause-found c =
    let spelled : (rest : List ℕ) → c.in_ok-status.rest.now ≡ rest → c.args.text.now ≡ codes "return " ++ (decimal c.in_ok-status.status ++ 59 ∷ rest) =
    λ rest e. c.in_ok-number.ensures.found ∙ ap (λ text. codes "return " ++ text) (c.in_ok-status.ensures.found ∙ ap (λ r. decimal c.in_ok-status.status ++ 59 ∷ r) e) in
    elim c.if-eq.branch [
      | then-eq w ↦ inl (spelled _ ((slice_eq-Decides Decides-eqb _ _ _ c.eq.ensures).0 w.if-eq.true ∙ c.as_slice.ensures))
      | else-eq w ↦
          let equal = (slice_eq-Decides Decides-eqb _ _ _ w.eq-else-eq.ensures).0 (sym w.value-is ∙ c.if-eq-2.true) ∙ w.as_slice-else-eq.ensures in
          inr (spelled _ equal ∙ ap (λ text. codes "return " ++ text) (sym (append_assoc (decimal c.in_ok-status.status) (codes ";}") (codes "\n"))))
    ]
