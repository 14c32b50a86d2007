-- What was appended for an answer, told of equal values.
use Rattle.std.proofs.Common.{◌≡◌, ℕ, List, [], Err, sym, subst, ◌∙◌, rules}
use Rattle.std.proofs.lemmas.List.{append-nil}
use Rattle.cp_base.specs.declared.files.TakeFault.TheVariants.{Failed}
use Rattle.cp_base.specs.Taking.{Answer, AppendsFor}

pub AppendsFor-along : (answer same : Answer) (limit : ℕ) (old new text : List ℕ) → AppendsFor answer limit old new → same ≡ answer → text ≡ new → AppendsFor same limit old text
AppendsFor-along answer same limit old new text h e f = subst (λ a. AppendsFor a limit old text) (sym e) (subst (AppendsFor answer limit old) (sym f) h)

-- nothing was appended for a file that could not be opened
pub AppendsFor-none : (answer : Answer) (limit : ℕ) (old text : List ℕ) → answer ≡ Err Failed → text ≡ old → AppendsFor answer limit old text
AppendsFor-none answer limit old text e f = subst (λ a. AppendsFor a limit old text) (sym e) ([], f ∙ sym (append-nil old), search rules)
