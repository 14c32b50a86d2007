-- The labels of a `switch`.
use Rattle.std.proofs.Common.{◌≡◌, ◌++◌, ◌||◌, ◌==◌, ℕ, Bool, true, false, not, List, [], ◌∷◌, Option, Some, None, refl, ap, ap₂, ◌∙◌}
use Rattle.std.specs.List.{list_any}
use Rattle.std.specs.Option.{option_eq}
use Rattle.c_typing.specs.Places.{Node}
use Rattle.c_typing.specs.Names.{Places}
use Rattle.c_typing.specs.Judgements.{Constant, number, Judgement}
use Rattle.c_typing.specs.Rules.{not_constant, out_of_range, case_twice}
use Rattle.c_typing.specs.Statements.{same_label, repeated_case}
use Rattle.c_statements.specs.declared.labels.Label.{Label}
use Rattle.c_statements.specs.Labels.{AreBefore, is_label, has_label}

-- a constant with its word: what is asked of it is that no label is the same
pub only_repeated : (labels : List Label) (switch node at : ℕ) (p : Places) (js : List Judgement) (n : Node) (c : Constant) (w : ℕ) → n.id ≡ node → AreBefore labels switch p js n
    → c ≡ number w → not_constant c at ++ out_of_range c ++ repeated_case p js n c ≡ case_twice (has_label labels switch (Some w)) node
only_repeated labels switch node at p js n c w own are is =
    ap (λ x. not_constant x at ++ out_of_range x ++ repeated_case p js n x) is ∙ ap (λ b. case_twice b n.id) (are (Some w)) ∙ ap (λ i. case_twice (has_label labels switch (Some w)) i) own

pub same_words : (v w : Option ℕ) → option_eq ◌==◌ v w ≡ same_label v w
same_words None None = refl
same_words None (Some w) = refl
same_words (Some v) None = refl
same_words (Some v) (Some w) = refl

twice_not : (b : Bool) → not (not b) ≡ b
twice_not true = refl
twice_not false = refl

-- a label among others, by a test that is the same
pub found_by : (test : Label → Label → Bool) (label : Label) (labels : List Label) → ((a b : Label) → test a b ≡ is_label a.switch a.word b)
    → not (not (list_any (test label) labels)) ≡ has_label labels label.switch label.word
found_by test label labels same = twice_not (list_any (test label) labels) ∙ any labels
  where
    any : (ls : List Label) → list_any (test label) ls ≡ list_any (is_label label.switch label.word) ls
    any [] = refl
    any (l ∷ ls) = ap₂ ◌||◌ (same label l) (any ls)
